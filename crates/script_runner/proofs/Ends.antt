-- Commands that are made one by one, and what their end leaves.
use Rattle.std.proofs.Common.{◌≡◌, ℕ, zero, suc, ◌+◌, ◌<◌, Some, List, [], ◌∷◌, ◌++◌, length, get_or, take, refl, sym, ap, subst, ◌∙◌, arith, append_assoc, append-nil}
use Rattle.std.proofs.lemmas.List.{take_more}
use Rattle.std.specs.Prelude.{slice_get}
use Rattle.delf_disk.specs.declared.area.Order.{Order}
use Rattle.delf_disk.specs.Areas.{Areas}
use Rattle.delf_model.specs.declared.schema.Schema.{Schema}
use Rattle.delf_model.specs.declared.script.Command.{Command}
use Rattle.delf_model.specs.Payloads.{Payloads}
use Rattle.delf_book.specs.Books.{Booked}
use Rattle.script_runner.specs.Orders.{Gives, GivesAll}
use Rattle.script_runner.specs.Serial.{Serves, Script}
use Rattle.script_runner.specs.Standing.{Carried, Reached}
use Rattle.script_runner.specs.Worlds.{World, StandsOn, world_of}

-- one command behind others

script_push : (schema : Schema) (w : World) (commands : List Command) (command : Command) (a b c : ℕ) (text line : List ℕ) (here next : World) →
    Script schema w commands a b text here → Serves schema here command b c line next → Script schema w (commands ++ command ∷ []) a c (text ++ line) next
unfolding Script
script_push schema w [] command a b c text line here next made serves =
    let served : Serves schema w command a c line next =
    subst (λ (n : ℕ). Serves schema w command n c line next) made.0 (subst (λ (v : World). Serves schema v command b c line next) made.2 serves) in
    (c, (next, (line, ([], (served, (refl, refl, refl), ap (λ (t : List ℕ). t ++ line) made.1 ∙ sym (append-nil line))))))
script_push schema w (first ∷ more) command a b c text line here next made serves =
    let step = made.1.1.1.1 in (
      made.0,
      (
        made.1.0,
        (
          made.1.1.0,
          (
            made.1.1.1.0 ++ line,
            (
              step.0,
              script_push schema made.1.0 more command made.0 b c made.1.1.1.0 line here next step.1 serves,
              ap (λ (t : List ℕ). t ++ line) step.2 ∙ append_assoc made.1.1.0 made.1.1.1.0 line,
            ),
          ),
        ),
      ),
    )

pub script_none : (schema : Schema) (w : World) (n : ℕ) → Script schema w [] n n [] w
unfolding Script
script_none schema w n = (refl, refl, refl)

take_next : (commands : List Command) (i : ℕ) (command : Command) → i < length commands → command ≡ get_or commands i command →
    take (i + 1) commands ≡ take i commands ++ command ∷ []
take_next commands i command below is =
    take_more commands i command below ∙ ap (λ (c : Command). take i commands ++ c ∷ []) (sym is)

pub script_more : (schema : Schema) (w : World) (commands : List Command) (i : ℕ) (command : Command) (a b c : ℕ) (text line : List ℕ) (here next : World) →
    i < length commands → command ≡ get_or commands i command → Script schema w (take i commands) a b text here → Serves schema here command b c line next →
    Script schema w (take (i + 1) commands) a c (text ++ line) next
script_more schema w commands i command a b c text line here next below is made serves =
    subst (λ (cs : List Command). Script schema w cs a c (text ++ line) next) (sym (take_next commands i command below is))
    (script_push schema w (take i commands) command a b c text line here next made serves)

pub got : (commands : List Command) (i : ℕ) (command : Command) → i < length commands → command ≡ get_or commands i command →
    slice_get commands i ≡ Some command
got [] i command below is = absurd (omega arith)
got (first ∷ commands) zero command below is = ap (λ (c : Command). Some c) (sym is)
got (first ∷ commands) (suc i) command below is = got commands i command (omega arith) is

-- orders

orders_push : (commands : List Command) (command : Command) (a b c : Order) (l m n : ℕ) → GivesAll commands a l b m → Gives command b m c n →
    GivesAll (commands ++ command ∷ []) a l c n
unfolding GivesAll
orders_push [] command a b c l m n given gives =
    let first : Gives command a l c n = subst (λ (o : Order). Gives command o l c n) given.0 (subst (λ (k : ℕ). Gives command b k c n) given.1 gives) in
    (c, (n, (first, (refl, refl))))
orders_push (first ∷ more) command a b c l m n given gives =
    (given.0, (given.1.0, (given.1.1.0, orders_push more command given.0 b c given.1.0 m n given.1.1.1 gives)))

pub orders_none : (a : Order) (n : ℕ) → GivesAll [] a n a n
unfolding GivesAll
orders_none a n = (refl, refl)

pub orders_more : (commands : List Command) (i : ℕ) (command : Command) (a b c : Order) (l m n : ℕ) → i < length commands → command ≡ get_or commands i command →
    GivesAll (take i commands) a l b m → Gives command b m c n → GivesAll (take (i + 1) commands) a l c n
orders_more commands i command a b c l m n below is given gives =
    subst (λ (cs : List Command). GivesAll cs a l c n) (sym (take_next commands i command below is)) (orders_push (take i commands) command a b c l m n given gives)

pub none_reached : {G R : Type 0} → (may_leave : R → Areas → Type 0) (faults : R → ℕ) (schema : Schema) (book : Booked G R) (clock : ℕ) (e : Payloads) →
    StandsOn (world_of book clock e) (may_leave book.rig) → Reached may_leave faults schema (world_of book clock e) [] (faults book.rig) book clock []
none_reached may_leave faults schema book clock e stands = record {
  payloads = e;
  script = script_none schema (world_of book clock e) (faults book.rig);
  stands = stands;
}

pub more_reached : {G R : Type 0} → (may_leave : R → Areas → Type 0) (faults : R → ℕ) (schema : Schema) (first : World) (commands : List Command) (start i : ℕ)
    (command : Command) (old now : Booked G R) (clock next : ℕ) (text line : List ℕ) → i < length commands → command ≡ get_or commands i command →
    (r : Reached may_leave faults schema first (take i commands) start old clock text) →
    Carried may_leave faults schema command (world_of old clock r.payloads) (faults old.rig) now next line →
    Reached may_leave faults schema first (take (i + 1) commands) start now next (text ++ line)
more_reached may_leave faults schema first commands start i command old now clock next text line below is r carried = record {
  payloads = carried.payloads;
  script = script_more schema first commands i command start (faults old.rig) (faults now.rig) text line (world_of old clock r.payloads) (world_of now next carried.payloads)
      below is r.script carried.serves;
  stands = carried.stands;
}
