-- Worlds that stand on a disk.
use Rattle.std.proofs.Common.{◌≡◌, ℕ, ◌+◌, min, [], Bool, true, false, Option, None, List, refl, sym, ap, subst, ◌∙◌}
use Rattle.std.specs.Prelude.{Result, Ok, Err, OnErr}
use Rattle.delf_disk.specs.Areas.{Areas}
use Rattle.delf_disk.specs.Images.{After, Same}
use Rattle.delf_model.specs.declared.schema.Schema.{Schema}
use Rattle.delf_model.specs.declared.script.Command.{Command}
use Rattle.delf_model.specs.declared.script.Command.TheVariants.{Tick, Fail}
use Rattle.delf_model.specs.declared.entry.Entry.{Entry}
use Rattle.delf_model.specs.RuleSet.{RuleSet}
use Rattle.delf_model.specs.Legal.{Legal}
use Rattle.delf_model.specs.Room.{greatest_moment}
use Rattle.delf_model.specs.Payloads.{Payloads}
use Rattle.store_laws.specs.Moves.{RestIn}
use Rattle.store_laws.proofs.Appends.{rest_stand}
use Rattle.delf_book.specs.Parts.{Interrupted}
use Rattle.delf_book.specs.Books.{Booked, Fell}
use Rattle.script_runner.specs.Serial.{Halts}
use Rattle.script_runner.specs.Standing.{Carried, HaltedAt}
use Rattle.delf_book.specs.Holding.{StandsBeside}
use Rattle.script_runner.specs.Worlds.{World, StandsOn, IsHeld, world_of, fallen}

-- worlds with the same parts

abbrev pub world : RuleSet → List Entry → Payloads → ℕ → Bool → Option Interrupted → World
world rules history e clock down beside = record { rules = rules; history = history; payloads = e; clock = clock; down = down; beside = beside }

pub same_world : (r s : RuleSet) (g h : List Entry) (e : Payloads) (clock : ℕ) (a b : Bool) (x y : Option Interrupted) → r ≡ s → g ≡ h → a ≡ b → x ≡ y →
    world r g e clock a x ≡ world s h e clock b y
same_world r s g h e clock a b x y rules history down beside =
    ap (λ (t : RuleSet). world t g e clock a x) rules ∙ ap (λ (t : List Entry). world s t e clock a x) history
    ∙ ap (λ (t : Bool). world s h e clock t x) down ∙ ap (λ (t : Option Interrupted). world s h e clock b t) beside

-- what rests stands

beside_none : (rules : RuleSet) (h : List Entry) (e : Payloads) (beside : Option Interrupted) (c : Areas) → beside ≡ None → StandsBeside rules h e None c →
    StandsBeside rules h e beside c
beside_none rules h e beside c none stands = subst (λ (b : Option Interrupted). StandsBeside rules h e b c) (sym none) stands

pub rest_held : (w : World) (images : Areas → Type 0) → Legal w.rules w.history → w.beside ≡ None → RestIn w.rules w.history w.payloads images → IsHeld w images
rest_held w images legal alone rests = λ c image.
    beside_none w.rules w.history w.payloads w.beside c alone
    (rest_stand w.rules w.history w.payloads c legal (rests c image).0 (rests c image).1)

held_by : (w : World) (images : Areas → Type 0) (down : Bool) → w.down ≡ down → Legal w.rules w.history → StandsOn w images → IsHeld w images
held_by w images true is legal stands = stands.held is
held_by w images false is legal stands = rest_held w images legal (stands.alone is) (stands.rests is)

-- a world that stands on a disk is held by it
pub stands_held : (w : World) (images : Areas → Type 0) → Legal w.rules w.history → StandsOn w images → IsHeld w images
stands_held w images legal stands = held_by w images w.down refl legal stands

pub held_images : (w : World) (old now : Areas → Type 0) → ((c : Areas) → now c → old c) → IsHeld w old → IsHeld w now
held_images w old now among held = λ c image. held c (among c image)

pub stands_images : (w : World) (old now : Areas → Type 0) → ((c : Areas) → now c → old c) → StandsOn w old → StandsOn w now
stands_images w old now among stands = record {
  alone = stands.alone;
  rests = λ up c image. stands.rests up c (among c image);
  held = λ down c image. stands.held down c (among c image);
}

-- a book that is up stands where its disk rests
pub up_stands : (w : World) (images : Areas → Type 0) → w.down ≡ false → w.beside ≡ None → RestIn w.rules w.history w.payloads images → StandsOn w images
up_stands w images up alone rests = record {
  alone = λ is. alone;
  rests = λ is. rests;
  held = λ down. absurd (cc (up, down));
}

pub down_stands : (w : World) (images : Areas → Type 0) → w.down ≡ true → IsHeld w images → StandsOn w images
down_stands w images down held = record {
  alone = λ up. absurd (cc (up, down));
  rests = λ up. absurd (cc (up, down));
  held = λ is. held;
}

-- a book that fell
pub fell_world : {G R : Type 0} → (old now : Booked G R) (clock : ℕ) (e : Payloads) (beside : Option Interrupted) → Fell old now beside →
    world_of now clock e ≡ fallen (world_of old clock e) beside
fell_world old now clock e beside fell =
    same_world now.rules old.rules now.history old.history e clock now.down true now.beside beside fell.rules fell.history fell.down fell.is_beside

pub fell_stands : {G R : Type 0} → (old now : Booked G R) (clock : ℕ) (e : Payloads) (beside : Option Interrupted) (images : Areas → Type 0) → Fell old now beside →
    IsHeld (fallen (world_of old clock e) beside) images → StandsOn (world_of now clock e) images
fell_stands old now clock e beside images fell held =
    down_stands (world_of now clock e) images fell.down
    (subst (λ (w : World). IsHeld w images) (sym (fell_world old now clock e beside fell)) held)

-- a command that keeps the world

pub halted_as : (command c : Command) (w : World) (images : Areas → Type 0) → command ≡ c → Halts c w w → IsHeld w images → HaltedAt command w images
halted_as command c w images is halts held = record { next = w; halts = subst (λ (x : Command). Halts x w w) (sym is) halts; held = held }

pub err_map : {T E : Type 0} → {A B : Type 0} → (r : Result T E) → OnErr r A → (A → B) → OnErr r B
err_map (Ok x) held f = tt
err_map (Err e) held f = f held

pub tick_carries : {G R : Type 0} → (may_leave : R → Areas → Type 0) (faults : R → ℕ) (schema : Schema) (command : Command) (n : ℕ) (old now : Booked G R) (clock next : ℕ)
    (e : Payloads) (text : List ℕ) → command ≡ Tick n → now ≡ old → next ≡ min (clock + n) greatest_moment → text ≡ [] → StandsOn (world_of old clock e) (may_leave old.rig) →
    Carried may_leave faults schema command (world_of old clock e) (faults old.rig) now next text
tick_carries {G} {R} may_leave faults schema command n old now clock next e text is same ticked said stands =
    subst (λ (x : Command). Carried may_leave faults schema x (world_of old clock e) (faults old.rig) now next text) (sym is) (record {
      payloads = e;
      serves = record {
        count = ap (λ (b : Booked G R). faults b.rig) same;
        text_is = said;
        next_is = ap (λ (b : Booked G R). world_of b next e) same ∙ ap (λ (k : ℕ). world_of old k e) ticked;
      };
      stands = subst (λ (b : Booked G R). StandsOn (world_of b next e) (may_leave b.rig)) (sym same)
          (record { alone = stands.alone; rests = stands.rests; held = stands.held });
    })

pub fail_carries : {G R : Type 0} → (may_leave : R → Areas → Type 0) (faults : R → ℕ) (schema : Schema) (command : Command) (n : ℕ) (old now : Booked G R) (clock : ℕ)
    (e : Payloads) (text : List ℕ) → command ≡ Fail n → now ≡ record old { rig = now.rig } → faults now.rig ≡ faults old.rig → text ≡ [] →
    ((c : Areas) → may_leave now.rig c → After Same (may_leave old.rig) c) → StandsOn (world_of old clock e) (may_leave old.rig) →
    Carried may_leave faults schema command (world_of old clock e) (faults old.rig) now clock text
fail_carries {G} {R} may_leave faults schema command n old now clock e text is same count said among stands =
    let world_is : world_of now clock e ≡ world_of old clock e = ap (λ (b : Booked G R). world_of b clock e) same in
    subst (λ (x : Command). Carried may_leave faults schema x (world_of old clock e) (faults old.rig) now clock text) (sym is) (record {
      payloads = e;
      serves = record { count = count; text_is = said; next_is = world_is };
      stands = subst (λ (w : World). StandsOn w (may_leave now.rig)) (sym world_is)
          (stands_images (world_of old clock e) (may_leave old.rig) (may_leave now.rig)
          (λ c image. let from = among c image in subst (λ (x : Areas). may_leave old.rig x) (sym from.2) from.1) stands);
    })
