-- Why a script ended, and the orders that it gave, whatever is told.
use Rattle.std.proofs.Common.{◌≡◌, ◌⊎◌, ℕ, ◌+◌, ◌<◌, ◌≤◌, min, true, List, length, get_or, take, refl, sym, ap, subst, ◌∙◌, inl, inr, arith}
use Rattle.delf_disk.specs.declared.area.Area.{Area}
use Rattle.delf_disk.specs.declared.area.Order.{Order}
use Rattle.delf_disk.specs.Causes.{Rose}
use Rattle.delf_model.specs.declared.script.Command.{Command}
use Rattle.delf_book.specs.Books.{Booked}
use Rattle.delf_recovery.specs.declared.fault.OpenFault.{OpenFault}
use Rattle.delf_recovery.specs.declared.fault.OpenFault.TheVariants as fault
use Rattle.script_runner.specs.declared.status.Status.{Status}
use Rattle.script_runner.specs.declared.status.Status.TheVariants.{Done, Usage, BadDocument, ReadFault, WriteFault, OutOfMemory, Down, BadStore}
use Rattle.script_runner.specs.Endings.{UnopenedCause, EndCause}
use Rattle.script_runner.specs.Openings.{MayGive, StopCounts}
use Rattle.script_runner.specs.Orders.{Gives, GivesAll}
use Rattle.script_runner.specs.Outcomes.{ScriptCause, OrdersMade, IsMade}
use Rattle.script_runner.specs.Standing.{Falls}
use Rattle.script_runner.proofs.Ends.{orders_more}

least_from : (start before now m : ℕ) → start ≤ before → min (before + 1) m ≤ now → min (start + 1) m ≤ now
least_from start before now m less rose = omega arith

pub rose_from : (start before now : ℕ) → start ≤ before → Rose before now → Rose start now
rose_from start before now less rose = least_from start before now _ less rose

rose_to_least : (start before now m : ℕ) → min (start + 1) m ≤ before → before ≤ now → min (start + 1) m ≤ now
rose_to_least start before now m rose less = omega arith

pub rose_to : (start before now : ℕ) → Rose start before → before ≤ now → Rose start now
rose_to start before now rose less = rose_to_least start before now _ rose less

pub stopped_cause : (it : OpenFault) (n start before now : ℕ) (write_rose : Type 0) (never : Area → ℕ → Type 0) (status : Status) → start ≤ before → StopCounts before now it →
    ((area : Area) (at : ℕ) → it ≡ fault.BadStore area at → never area at) → UnopenedCause it n write_rose status → ScriptCause write_rose (Rose start now) never status
stopped_cause it n start before now write_rose never Done less counts bad cause = tt
stopped_cause it n start before now write_rose never Usage less counts bad cause = cause
stopped_cause it n start before now write_rose never (BadDocument line) less counts bad cause = cause
stopped_cause it n start before now write_rose never ReadFault less counts bad cause = cause
stopped_cause it n start before now write_rose never (WriteFault m) less counts bad cause = cause.1
stopped_cause it n start before now write_rose never (OutOfMemory m) less counts bad cause = tt
stopped_cause it n start before now write_rose never (Down len) less counts bad cause = rose_from start before now less (counts.failed cause.0)
stopped_cause it n start before now write_rose never (BadStore area at) less counts bad cause = bad area at cause

pub end_cause : (n start before now : ℕ) (down write_rose : Type 0) (never : Area → ℕ → Type 0) (status : Status) → start ≤ before → before ≤ now → (down → Rose start before) →
    EndCause n write_rose (down ⊎ Rose before now) status → ScriptCause write_rose (Rose start now) never status
end_cause n start before now down write_rose never Done less more fell cause = tt
end_cause n start before now down write_rose never Usage less more fell cause = cause
end_cause n start before now down write_rose never (BadDocument line) less more fell cause = absurd cause
end_cause n start before now down write_rose never ReadFault less more fell cause = cause
end_cause n start before now down write_rose never (WriteFault m) less more fell cause = cause.1
end_cause n start before now down write_rose never (OutOfMemory m) less more fell cause = tt
end_cause n start before now down write_rose never (Down len) less more fell cause = elim cause [
  | inl is ↦ rose_to start before now (fell is) more
  | inr rose ↦ rose_from start before now less rose
]
end_cause n start before now down write_rose never (BadStore area at) less more fell cause = absurd cause

-- orders

stopped_made : (it : OpenFault) (i n k all : ℕ) (write_rose : Type 0) (status : Status) → n ≡ i → (k ≡ i) ⊎ (k ≡ i + 1) → UnopenedCause it n write_rose status → IsMade status k all
stopped_made it i n k all write_rose Done n_is k_is cause = absurd cause
stopped_made it i n k all write_rose Usage n_is k_is cause = tt
stopped_made it i n k all write_rose (BadDocument line) n_is k_is cause = tt
stopped_made it i n k all write_rose ReadFault n_is k_is cause = tt
stopped_made it i n k all write_rose (WriteFault m) n_is k_is cause = subst (λ (x : ℕ). (k ≡ x) ⊎ (k ≡ x + 1)) (sym (cause.0 ∙ n_is)) k_is
stopped_made it i n k all write_rose (OutOfMemory m) n_is k_is cause = subst (λ (x : ℕ). (k ≡ x) ⊎ (k ≡ x + 1)) (sym (cause ∙ n_is)) k_is
stopped_made it i n k all write_rose (Down len) n_is k_is cause = tt
stopped_made it i n k all write_rose (BadStore area at) n_is k_is cause = tt

pub stopped_orders : (commands : List Command) (i n : ℕ) (command : Command) (a b c : Order) (l m o : ℕ) (it : OpenFault) (write_rose : Type 0) (status : Status) → n ≡ i →
    i < length commands → command ≡ get_or commands i command → GivesAll (take i commands) a l b m → MayGive command b m c o → UnopenedCause it n write_rose status →
    OrdersMade commands a l c o status
stopped_orders commands i n command a b c l m o it write_rose status n_is below is given (inl same) cause = record {
  n = i;
  gives = subst (λ (x : Order). GivesAll (take i commands) a l x o) (sym same.0) (subst (λ (k : ℕ). GivesAll (take i commands) a l b k) (sym same.1) given);
  made = stopped_made it i n i (length commands) write_rose status n_is (inl refl) cause;
}
stopped_orders commands i n command a b c l m o it write_rose status n_is below is given (inr gives) cause = record {
  n = i + 1;
  gives = orders_more commands i command a b c l m o below is given gives;
  made = stopped_made it i n (i + 1) (length commands) write_rose status n_is (inr refl) cause;
}

pub cut_orders : (commands : List Command) (i n : ℕ) (command : Command) (a b c : Order) (l m o : ℕ) → n ≡ i → i < length commands → command ≡ get_or commands i command →
    GivesAll (take i commands) a l b m → Gives command b m c o → OrdersMade commands a l c o (WriteFault n)
cut_orders commands i n command a b c l m o n_is below is given gives = record {
  n = i + 1;
  gives = orders_more commands i command a b c l m o below is given gives;
  made = inr (ap (λ (k : ℕ). k + 1) (sym n_is));
}

end_made : (n all : ℕ) (write_rose fell : Type 0) (status : Status) → n ≡ all → EndCause n write_rose fell status → IsMade status all all
end_made n all write_rose fell Done is cause = refl
end_made n all write_rose fell Usage is cause = tt
end_made n all write_rose fell (BadDocument line) is cause = tt
end_made n all write_rose fell ReadFault is cause = tt
end_made n all write_rose fell (WriteFault m) is cause = inl (sym (cause.0 ∙ is))
end_made n all write_rose fell (OutOfMemory m) is cause = inl (sym (cause ∙ is))
end_made n all write_rose fell (Down len) is cause = tt
end_made n all write_rose fell (BadStore area at) is cause = tt

pub end_orders : (commands : List Command) (i n : ℕ) (a b c : Order) (l m o : ℕ) (write_rose fell : Type 0) (status : Status) → n ≡ i → i ≡ length commands →
    GivesAll (take i commands) a l b m → c ≡ b → o ≡ m → EndCause n write_rose fell status → OrdersMade commands a l c o status
end_orders commands i n a b c l m o write_rose fell status n_is i_is given same count cause = record {
  n = length commands;
  gives = subst (λ (k : ℕ). GivesAll (take k commands) a l c o) i_is
      (subst (λ (x : Order). GivesAll (take i commands) a l x o) (sym same) (subst (λ (k : ℕ). GivesAll (take i commands) a l b k) (sym count) given));
  made = end_made n (length commands) write_rose fell status (n_is ∙ i_is) cause;
}

-- a book that is down fell since the start
pub falls_next : {G R : Type 0} → (faults : R → ℕ) (start : ℕ) (old now : Booked G R) → start ≤ faults old.rig → (old.down ≡ true → Rose start (faults old.rig)) →
    Falls faults old now → now.down ≡ true → Rose start (faults now.rig)
falls_next faults start old now less fell falls down = elim (falls.fell down) [
  | inl was ↦ rose_to start (faults old.rig) (faults now.rig) (fell was) falls.later
  | inr rose ↦ rose_from start (faults old.rig) (faults now.rig) less rose
]
