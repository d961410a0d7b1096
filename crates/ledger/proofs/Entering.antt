-- A legal entry keeps what a ledger keeps.
use Rattle.std.proofs.Common.{◌≡◌, ℕ, ◌+◌, ◌-◌, ◌≤◌, Bool, true, false, List, [], ◌∷◌, ◌++◌, length, refl, sym, ap, ◌∙◌, subst, arith}
use Rattle.std.proofs.lemmas.Bool.{and_parts}
use Rattle.std.specs.Prelude.{IsTrue, nat_lt}
use Rattle.entry_codec.specs.EntryHead.{IsEntry, AreEntries}
use Rattle.delf_model.specs.declared.rows.EdgeKey.{EdgeKey}
use Rattle.delf_model.specs.declared.entry.Entry.{Entry}
use Rattle.delf_model.specs.declared.entry.What.{What}
use Rattle.delf_model.specs.RuleSet.{RuleSet, is_refcount}
use Rattle.delf_model.specs.Graph.{Graph, Change, changed, empty_graph}
use Rattle.delf_model.specs.State.{State, start}
use Rattle.delf_model.specs.Step.{step, run, after, change_of}
use Rattle.delf_model.specs.Legal.{is_legal, Legal}
use Rattle.delf_model.specs.Room.{greatest_moment}
use Rattle.delf_model.proofs.Runs.{after_push, Legal_push}
use Rattle.delf_model.proofs.Lines.{allowed_of}
use Rattle.delf_model.proofs.Good.{good_after}
use Rattle.delf_model.specs.Order.{is_held}
use Rattle.job_table.specs.Table.{Table, IsTableOf, IsGraphOf, MayApply, given_up}
use Rattle.held_laws.specs.Held.{takes_row, HeldStepsStay}
use Rattle.ledger.specs.Edits.{CanChange}
use Rattle.ledger.specs.Held.{AreHeld, IsOnceLegal}
use Rattle.ledger.specs.Keeps.{KeepsState}
use Rattle.ledger.specs.Ledgers.{Ledgered, state_of, has_room, is_ready}
use Rattle.ledger.proofs.Changes.{what_can}
use Rattle.ledger.proofs.Holding.{may_be_held, are_held_on, are_held_more, are_held_less}

len_run : (s : State) (es : List Entry) → (run s es).len ≡ s.len + length es
len_run s [] = omega arith
len_run s (e ∷ es) = omega (arith, len_run (step s e) es)

-- the state counts the entries
pub len_after : (rules : RuleSet) (h : List Entry) → (after rules h).len ≡ length h
len_after rules h = from_zero _ _ (len_run (start rules) h)
  where
    from_zero : (a b : ℕ) → a ≡ 0 + b → a ≡ b
    from_zero a b is = omega arith

-- what a blank graph and a table of the blank history keep
pub keeps_blank : (rules : RuleSet) (h : List Entry) (table : Table) (stored : Graph) (refs : ℕ → Bool) → h ≡ [] → IsTableOf (start rules) table →
    table.held ≡ [] → stored ≡ empty_graph → ((edge : ℕ) → refs edge ≡ is_refcount rules edge) → KeepsState rules h table stored refs
keeps_blank rules h table stored refs none is unheld blank counts = subst (λ (l : List Entry). KeepsState rules l table stored refs) (sym none) (record {
  is_legal = refl;
  spelled = tt;
  is_table = is;
  is_graph = record { graph = blank; rules = refl; counts = counts };
  are_held = subst (AreHeld (start rules)) (sym unheld) tt;
})

-- a table with more room stands for the same state
pub keeps_spare : (rules : RuleSet) (h now : List Entry) (table next : Table) (stored : Graph) (refs : ℕ → Bool) → KeepsState rules h table stored refs →
    next ≡ record table { spare = next.spare } → now ≡ h → KeepsState rules now next stored refs
keeps_spare rules h now table next stored refs keeps is now_is =
    subst (λ (l : List Entry). KeepsState rules l next stored refs) (sym now_is)
    (subst (λ (t : Table). KeepsState rules h t stored refs) (sym is) (record {
      is_legal = keeps.is_legal;
      spelled = keeps.spelled;
      is_table = record {
        len = keeps.is_table.len;
        moment = keeps.is_table.moment;
        owed = keeps.is_table.owed;
        owners = keeps.is_table.owners;
        owned = keeps.is_table.owned;
        items = keeps.is_table.items;
        jobs = keeps.is_table.jobs;
        seats = keeps.is_table.seats;
        keeps = keeps.is_table.keeps;
      };
      is_graph = keeps.is_graph;
      are_held = keeps.are_held;
    }))

-- of the table, what is told of its state, of one that has other held steps
held_table : (s : State) (table : Table) (held : List What) (spare : ℕ) → IsTableOf s table → IsTableOf s (record table { held = held; spare = spare })
held_table s table held spare is = record {
  len = is.len;
  moment = is.moment;
  owed = is.owed;
  owners = is.owners;
  owned = is.owned;
  items = is.items;
  jobs = is.jobs;
  seats = is.seats;
  keeps = is.keeps;
}

-- other held steps may be kept in their place
keeps_steps : (rules : RuleSet) (h : List Entry) (table next : Table) (stored : Graph) (refs : ℕ → Bool) (held : List What) (spare : ℕ) →
    KeepsState rules h table stored refs → next ≡ record table { held = held; spare = spare } → AreHeld (after rules h) held → KeepsState rules h next stored refs
keeps_steps rules h table next stored refs held spare keeps is are =
    subst (λ (t : Table). KeepsState rules h t stored refs) (sym is) (record {
      is_legal = keeps.is_legal;
      spelled = keeps.spelled;
      is_table = held_table (after rules h) table held spare keeps.is_table;
      is_graph = keeps.is_graph;
      are_held = are;
    })

-- with a step more that is held
pub keeps_hold : (rules : RuleSet) (h : List Entry) (table next : Table) (stored : Graph) (refs : ℕ → Bool) (what : What) → KeepsState rules h table stored refs →
    HeldStepsStay rules h → takes_row what ≡ true → IsOnceLegal (after rules h) what → is_held table.held what ≡ false →
    next ≡ record table { held = table.held ++ what ∷ []; spare = table.spare - 1 } → KeepsState rules h next stored refs
keeps_hold rules h table next stored refs what keeps law takes once free is =
    keeps_steps rules h table next stored refs (table.held ++ what ∷ []) (table.spare - 1) keeps is
    (are_held_more (after rules h) table.held what (may_be_held rules h what law takes once) free keeps.are_held)

-- with one less
pub keeps_give_up : (rules : RuleSet) (h : List Entry) (table next : Table) (stored : Graph) (refs : ℕ → Bool) (what : What) → KeepsState rules h table stored refs →
    next ≡ record table { held = given_up what table.held } → KeepsState rules h next stored refs
keeps_give_up rules h table next stored refs what keeps is =
    keeps_steps rules h table next stored refs (given_up what table.held) table.spare keeps is (are_held_less (after rules h) table.held what keeps.are_held)

-- a graph with more room is the same graph
pub keeps_stored : (rules : RuleSet) (h : List Entry) (table : Table) (stored now : Graph) (refs later : ℕ → Bool) → KeepsState rules h table stored refs →
    now ≡ stored → later ≡ refs → KeepsState rules h table now later
keeps_stored rules h table stored now refs later keeps is later_is =
    subst (λ (g : Graph). KeepsState rules h table g later) (sym is)
    (subst (λ (r : ℕ → Bool). KeepsState rules h table stored r) (sym later_is) keeps)

-- the moment of a legal history is within its limit
pub moment_bound : (rules : RuleSet) (h : List Entry) (n : ℕ) → Legal rules h → n ≡ (after rules h).moment → n ≤ greatest_moment
moment_bound rules h n legal is = subst (λ (m : ℕ). m ≤ greatest_moment) (sym is) (good_after rules h legal).moment

-- the entry may be applied to the table
pub may_apply : (rules : RuleSet) (h : List Entry) (table : Table) (stored : Graph) (refs : ℕ → Bool) (e : Entry) →
    KeepsState rules h table stored refs → is_legal (after rules h) e ≡ true → MayApply table stored refs rules e
may_apply rules h table stored refs e keeps legal = (after rules h, keeps.is_table, keeps.is_graph, legal)

-- the stored graph can take what the entry does
pub can_change : (rules : RuleSet) (h : List Entry) (table : Table) (stored : Graph) (refs : ℕ → Bool) (e : Entry)
    (objects : ℕ → Bool) (edges : EdgeKey → Bool) (change : Change) → KeepsState rules h table stored refs →
    is_legal (after rules h) e ≡ true → IsTrue (has_room objects edges (after rules h) e.what) →
    change ≡ change_of (after rules h) e.moment e.what → CanChange stored objects edges change
can_change rules h table stored refs e objects edges change keeps legal ready is =
    subst (λ (g : Graph). CanChange g objects edges change) (sym keeps.is_graph.graph)
    (subst (λ (c : Change). CanChange (after rules h).graph objects edges c) (sym is)
    (what_can (after rules h) objects edges e.moment e.what keeps.is_table.keeps.within (allowed_of (after rules h) e legal) ready))

entries_push : (h : List Entry) (e : Entry) → AreEntries h → IsEntry e → AreEntries (h ++ e ∷ [])
entries_push [] e are is = (is, tt)
entries_push (x ∷ xs) e are is = (are.0, entries_push xs e are.1 is)

-- what is kept with one entry more
pub keeps_push : (rules : RuleSet) (h : List Entry) (table next : Table) (stored now : Graph) (refs later : ℕ → Bool) (e : Entry)
    (change : Change) → KeepsState rules h table stored refs → is_legal (after rules h) e ≡ true → IsEntry e →
    IsTableOf (step (after rules h) e) next → change ≡ change_of (after rules h) e.moment e.what → now ≡ changed stored change →
    later ≡ refs → HeldStepsStay rules h → is_held table.held e.what ≡ false → next.held ≡ table.held → KeepsState rules (h ++ e ∷ []) next now later
keeps_push rules h table next stored now refs later e change keeps legal entry is_next is now_is later_is law free held_is = record {
  is_legal = Legal_push rules h e keeps.is_legal legal;
  spelled = entries_push h e keeps.spelled entry;
  is_table = subst (λ (s : State). IsTableOf s next) (sym (after_push rules h e)) is_next;
  is_graph = subst (λ (s : State). IsGraphOf s now later rules) (sym (after_push rules h e)) of_step;
  are_held =
      subst (λ (s : State). AreHeld s next.held) (sym (after_push rules h e))
      (subst (AreHeld (step (after rules h) e)) (sym held_is)
      (are_held_on rules h e table.held law (good_after rules h keeps.is_legal).moment legal free keeps.are_held));
}
  where
    of_step : IsGraphOf (step (after rules h) e) now later rules
    of_step = record {
      graph =
          now_is ∙ ap (λ (c : Change). changed stored c) is ∙
          ap (λ (g : Graph). changed g (change_of (after rules h) e.moment e.what)) keeps.is_graph.graph;
      rules = keeps.is_graph.rules;
      counts = λ edge. ap (λ (r : ℕ → Bool). r edge) later_is ∙ keeps.is_graph.counts edge;
    }

-- what is ready has room in the graph
room_of : {G : Type 0} (objects : ℕ → Bool) (edges : EdgeKey → Bool) (l : Ledgered G) (what : What) →
    IsTrue (is_ready objects edges l what) → IsTrue (has_room objects edges (state_of l) what)
room_of objects edges l what ready = (and_parts (nat_lt 0 l.spare) (has_room objects edges (state_of l) what) ready).1

-- what is asked of the value holds of the fields
pub legal_in : {G : Type 0} (l v : Ledgered G) (e : Entry) → l ≡ v → is_legal (state_of v) e ≡ true → is_legal (state_of l) e ≡ true
legal_in l v e is legal = subst (λ (x : Ledgered _). is_legal (state_of x) e ≡ true) (sym is) legal

pub ready_in : {G : Type 0} (objects : G → ℕ → Bool) (edges : G → EdgeKey → Bool) (l v : Ledgered G) (what : What) → l ≡ v →
    IsTrue (is_ready (objects v.store) (edges v.store) v what) → IsTrue (has_room (objects l.store) (edges l.store) (state_of l) what)
ready_in objects edges l v what is ready =
    room_of (objects l.store) (edges l.store) l what
    (subst (λ (x : Ledgered _). IsTrue (is_ready (objects x.store) (edges x.store) x what)) (sym is) ready)

pub held_in : {G : Type 0} (l v : Ledgered G) (what : What) (b : Bool) → l ≡ v → is_held v.held what ≡ b → is_held l.held what ≡ b
held_in l v what b is held = subst (λ (x : Ledgered _). is_held x.held what ≡ b) (sym is) held

pub once_in : {G : Type 0} (l v : Ledgered G) (what : What) → l ≡ v → IsOnceLegal (state_of v) what → IsOnceLegal (state_of l) what
once_in l v what is once = subst (λ (x : Ledgered _). IsOnceLegal (state_of x) what) (sym is) once
