-- A crash and the opening behind it, said of the world.
use Rattle.std.proofs.Common.{◌≡◌, ◌⊎◌, ℕ, Bool, true, false, Option, Some, None, List, [], ◌∷◌, ◌++◌, length, refl, sym, ap, subst, ◌∙◌, inl, inr}
use Rattle.delf_disk.specs.Areas.{Areas}
use Rattle.delf_disk.specs.Images.{After, Same}
use Rattle.delf_model.specs.declared.entry.Entry.{Entry}
use Rattle.delf_model.specs.declared.script.Command.TheVariants.{Crash}
use Rattle.delf_model.specs.declared.schema.Schema.{Schema}
use Rattle.delf_model.specs.RuleSet.{RuleSet}
use Rattle.delf_model.specs.Legal.{Legal}
use Rattle.delf_model.specs.Payloads.{Payloads, payloads_after}
use Rattle.delf_model.specs.Step.{after}
use Rattle.store_laws.specs.Stores.{StandBut, digest}
use Rattle.store_laws.specs.Moves.{RestIn}
use Rattle.delf_book.specs.Parts.{Interrupted}
use Rattle.delf_book.specs.Books.{Booked}
use Rattle.delf_recovery.specs.declared.fault.OpenFault.{OpenFault}
use Rattle.delf_recovery.specs.declared.fault.OpenFault.TheVariants as fault
use Rattle.delf_recovery.specs.Opening.{IsNotBad}
use Rattle.job_report.specs.Texts.{opened_text}
use Rattle.script_runner.specs.Openings.{Stops}
use Rattle.script_runner.specs.Serial as serial
use Rattle.script_runner.specs.Standing.{Carried, HaltedAt}
use Rattle.delf_book.specs.Holding.{StandsBeside}
use Rattle.script_runner.specs.Worlds.{World, StandsOn, IsHeld, world_of}
use Rattle.script_runner.proofs.Standing.{world, same_world, stands_held, up_stands}

-- what an opening tells of the history that it found
abbrev pub Found : {G R : Type 0} → (R → Areas → Type 0) → RuleSet → Areas → Booked G R → Type 0
Found may_leave rules seen now =
    (history : List Entry) (e : Payloads) → StandBut rules history e seen →
    (now.history ≡ history) × RestIn rules history e (may_leave now.rig)

-- the world of an opened book, where this history stood
opened_world : {G R : Type 0} → (rules : RuleSet) (now : Booked G R) (history : List Entry) (clock : ℕ) (e : Payloads) → now.rules ≡ rules → now.history ≡ history →
    now.down ≡ false → now.beside ≡ None → world_of now clock e ≡ world rules history e clock false None
opened_world rules now history clock e rules_are history_is up alone =
    same_world now.rules rules now.history history e clock now.down false now.beside None rules_are history_is up alone

kept : {G R : Type 0} → (may_leave : R → Areas → Type 0) (faults : R → ℕ) (schema : Schema) (pick : ℕ) (old now : Booked G R) (clock : ℕ) (e : Payloads) (seen : Areas) →
    now.rules ≡ old.rules → now.down ≡ false → now.beside ≡ None → faults now.rig ≡ faults old.rig → Found may_leave old.rules seen now →
    StandBut old.rules old.history e seen →
    Carried may_leave faults schema (Crash pick) (world_of old clock e) (faults old.rig) now clock (opened_text (length now.history))
kept may_leave faults schema pick old now clock e seen rules up alone count found stands =
    let at = found old.history e stands in
    let is = opened_world old.rules now old.history clock e rules at.0 up alone in
    record {
      payloads = e;
      serves = serial.Crashes.Keeps count refl is;
      stands = subst (λ (w : World). StandsOn w (may_leave now.rig)) (sym is)
          (up_stands (world old.rules old.history e clock false None) (may_leave now.rig) refl refl at.1);
    }

came : {G R : Type 0} → (may_leave : R → Areas → Type 0) (faults : R → ℕ) (schema : Schema) (pick : ℕ) (old now : Booked G R) (clock : ℕ) (e : Payloads) (seen : Areas)
    (it : Interrupted) → old.down ≡ true → old.beside ≡ Some it → Legal now.rules now.history → now.rules ≡ old.rules → now.down ≡ false → now.beside ≡ None →
    faults now.rig ≡ faults old.rig → Found may_leave old.rules seen now →
    StandBut old.rules (old.history ++ it.entry ∷ []) (payloads_after digest (after old.rules old.history) it.entry it.payload e) seen →
    Carried may_leave faults schema (Crash pick) (world_of old clock e) (faults old.rig) now clock (opened_text (length now.history))
came may_leave faults schema pick old now clock e seen it down beside legal rules up alone count found stands =
    let history : List Entry = old.history ++ it.entry ∷ [] in
    let next : Payloads = payloads_after digest (after old.rules old.history) it.entry it.payload e in
    let at = found history next stands in
    let is = opened_world old.rules now history clock next rules at.0 up alone in
    record {
      payloads = next;
      serves = serial.Crashes.Enters it down beside (subst (λ (h : List Entry). Legal old.rules h) at.0 (subst (λ (r : RuleSet). Legal r now.history) rules legal)) count refl is;
      stands = subst (λ (w : World). StandsOn w (may_leave now.rig)) (sym is)
          (up_stands (world old.rules history next clock false None) (may_leave now.rig) refl refl at.1);
    }

-- what reads is an image of before: of the kept history, or of a book that was down of it with the entry beside it

by_beside : {G R : Type 0} → (may_leave : R → Areas → Type 0) (faults : R → ℕ) (schema : Schema) (pick : ℕ) (old now : Booked G R) (clock : ℕ) (e : Payloads) (seen : Areas)
    (beside : Option Interrupted) → old.beside ≡ beside →
    ((it : Interrupted) → beside ≡ Some it → old.down ≡ true) → Legal now.rules now.history → now.rules ≡ old.rules → now.down ≡ false → now.beside ≡ None →
    faults now.rig ≡ faults old.rig → Found may_leave old.rules seen now → StandsBeside old.rules old.history e beside seen →
    Carried may_leave faults schema (Crash pick) (world_of old clock e) (faults old.rig) now clock (opened_text (length now.history))
by_beside may_leave faults schema pick old now clock e seen None is down legal rules up alone count found stands =
    kept may_leave faults schema pick old now clock e seen rules up alone count found stands
by_beside may_leave faults schema pick old now clock e seen (Some it) is down legal rules up alone count found (inl stands) =
    kept may_leave faults schema pick old now clock e seen rules up alone count found stands
by_beside may_leave faults schema pick old now clock e seen (Some it) is down legal rules up alone count found (inr stands) =
    came may_leave faults schema pick old now clock e seen it (down it refl) is legal rules up alone count found stands

-- a world that is up has nothing beside it
down_beside : {G R : Type 0} → (images : Areas → Type 0) (old : Booked G R) (clock : ℕ) (e : Payloads) (down : Bool) → old.down ≡ down →
    StandsOn (world_of old clock e) images → (it : Interrupted) → old.beside ≡ Some it → old.down ≡ true
down_beside images old clock e true is stands it beside = is
down_beside images old clock e false is stands it beside = absurd (cc (stands.alone is, beside))

pub crash_carries : {G R : Type 0} → (may_leave : R → Areas → Type 0) (faults : R → ℕ) (schema : Schema) (pick : ℕ) (old now : Booked G R) (clock : ℕ) (e : Payloads)
    (seen : Areas) → Legal old.rules old.history → Legal now.rules now.history → now.rules ≡ old.rules → now.down ≡ false →
    now.beside ≡ None → faults now.rig ≡ faults old.rig → may_leave old.rig seen → Found may_leave old.rules seen now →
    StandsOn (world_of old clock e) (may_leave old.rig) →
    Carried may_leave faults schema (Crash pick) (world_of old clock e) (faults old.rig) now clock (opened_text (length now.history))
crash_carries may_leave faults schema pick old now clock e seen legal legal_now rules up alone count image found stands =
    by_beside may_leave faults schema pick old now clock e seen old.beside refl (down_beside (may_leave old.rig) old clock e old.down refl stands)
    legal_now rules up alone count found (stands_held (world_of old clock e) (may_leave old.rig) legal stands seen image)

-- an opening that failed

-- what stood beside or alone stood for one history
pub some_stood : {P : Type 0} → (rules : RuleSet) (history : List Entry) (e : Payloads) (beside : Option Interrupted) (seen : Areas) →
    ((h : List Entry) (d : Payloads) → StandBut rules h d seen → P) → StandsBeside rules history e beside seen → P
some_stood rules history e None seen each stands = each history e stands
some_stood rules history e (Some it) seen each (inl stands) = each history e stands
some_stood rules history e (Some it) seen each (inr stands) =
    each (history ++ it.entry ∷ []) (payloads_after digest (after rules history) it.entry it.payload e) stands

-- whatever a failed opening leaves stands for what stood before
pub failed_held : (rules : RuleSet) (history : List Entry) (e : Payloads) (beside : Option Interrupted) (seen : Areas) (first images : Areas → Type 0) →
    ((h : List Entry) (d : Payloads) → StandBut rules h d seen → (c : Areas) → images c → first c ⊎ StandBut rules h d c) →
    ((c : Areas) → first c → StandsBeside rules history e beside c) → StandsBeside rules history e beside seen → (c : Areas) → images c → StandsBeside rules history e beside c
failed_held rules history e None seen first images left held stood c here =
    elim (left history e stood c here) [
      | inl old ↦ held c old
      | inr stands ↦ stands
    ]
failed_held rules history e (Some it) seen first images left held (inl stood) c here =
    elim (left history e stood c here) [
      | inl old ↦ held c old
      | inr kept ↦ inl kept
    ]
failed_held rules history e (Some it) seen first images left held (inr stood) c here =
    elim (left (history ++ it.entry ∷ []) (payloads_after digest (after rules history) it.entry it.payload e) stood c here) [
      | inl old ↦ held c old
      | inr kept ↦ inr kept
    ]

-- want of memory before the power was cut
pub starved_crash : {G R : Type 0} → (may_leave : R → Areas → Type 0) (pick : ℕ) (old : Booked G R) (rig : R) (clock : ℕ) (e : Payloads) → Legal old.rules old.history →
    rig ≡ old.rig → StandsOn (world_of old clock e) (may_leave old.rig) → HaltedAt (Crash pick) (world_of old clock e) (may_leave rig)
starved_crash {G} {R} may_leave pick old rig clock e legal same stands = record {
  next = world_of old clock e;
  halts = refl;
  held = subst (λ (r : R). IsHeld (world_of old clock e) (may_leave r)) (sym same) (stands_held (world_of old clock e) (may_leave old.rig) legal stands);
}

pub crash_opened : {G R : Type 0} → (seen : R → Areas) (may_leave : R → Areas → Type 0) (faults : R → ℕ) (schema : Schema) (pick : ℕ) (old now : Booked G R) (rig cut : R)
    (rules : RuleSet) (clock next : ℕ) (e : Payloads) → rig ≡ old.rig → rules ≡ old.rules → next ≡ clock → Legal old.rules old.history → Legal now.rules now.history →
    now.rules ≡ rules → now.down ≡ false → now.beside ≡ None → faults now.rig ≡ faults cut → faults cut ≡ faults rig →
    may_leave rig (seen cut) → Found may_leave rules (seen cut) now → StandsOn (world_of old clock e) (may_leave old.rig) →
    Carried may_leave faults schema (Crash pick) (world_of old clock e) (faults old.rig) now next (opened_text (length now.history))
crash_opened {G} {R} seen may_leave faults schema pick old now rig cut rules clock next e rig_is rules_are clock_is legal legal_now now_rules up alone count cut_count image found stands =
    subst (λ (n : ℕ). Carried may_leave faults schema (Crash pick) (world_of old clock e) (faults old.rig) now n (opened_text (length now.history))) (sym clock_is)
    (crash_carries may_leave faults schema pick old now clock e (seen cut) legal legal_now (now_rules ∙ rules_are) up alone
    (count ∙ cut_count ∙ ap faults rig_is) (subst (λ (r : R). may_leave r (seen cut)) rig_is image)
    (subst (λ (x : RuleSet). Found may_leave x (seen cut) now) rules_are found) stands)

pub crash_stops : {G R : Type 0} → (seen : R → Areas) (may_leave : R → Areas → Type 0) (pick : ℕ) (old : Booked G R) (rig cut last : R) (it : OpenFault)
    (rules : RuleSet) (clock : ℕ) (e : Payloads) → rig ≡ old.rig → rules ≡ old.rules → Legal old.rules old.history →
    may_leave rig (seen cut) → ((c : Areas) → may_leave cut c → After Same (may_leave rig) c) →
    ((h : List Entry) (d : Payloads) → StandBut rules h d (seen cut) → IsNotBad it) →
    ((h : List Entry) (d : Payloads) → StandBut rules h d (seen cut) → (c : Areas) → may_leave last c → may_leave cut c ⊎ StandBut rules h d c) →
    Stops may_leave (Crash pick) old clock e last it
crash_stops {G} {R} seen may_leave pick old rig cut last it rules clock e rig_is rules_are legal image among never left = by_fault it never
  where
    left_old : (h : List Entry) (d : Payloads) → StandBut old.rules h d (seen cut) → (c : Areas) → may_leave last c → may_leave cut c ⊎ StandBut old.rules h d c
    left_old = subst (λ (x : RuleSet). (h : List Entry) (d : Payloads) → StandBut x h d (seen cut) → (c : Areas) → may_leave last c → may_leave cut c ⊎ StandBut x h d c) rules_are left

    of_cut : StandsOn (world_of old clock e) (may_leave old.rig) → (c : Areas) → may_leave cut c → StandsBeside old.rules old.history e old.beside c
    of_cut stands c here =
        let from = among c here in
        stands_held (world_of old clock e) (may_leave old.rig) legal stands c
        (subst (λ (r : R). may_leave r c) rig_is (subst (λ (x : Areas). may_leave rig x) (sym from.2) from.1))

    stood : StandsOn (world_of old clock e) (may_leave old.rig) → StandsBeside old.rules old.history e old.beside (seen cut)
    stood stands = stands_held (world_of old clock e) (may_leave old.rig) legal stands (seen cut) (subst (λ (r : R). may_leave r (seen cut)) rig_is image)

    kept_held : StandsOn (world_of old clock e) (may_leave old.rig) → IsHeld (world_of old clock e) (may_leave last)
    kept_held stands = failed_held old.rules old.history e old.beside (seen cut) (may_leave cut) (may_leave last) left_old (of_cut stands) (stood stands)

    by_fault : (f : OpenFault) → ((h : List Entry) (d : Payloads) → StandBut rules h d (seen cut) → IsNotBad f) → Stops may_leave (Crash pick) old clock e last f
    by_fault fault.DiskFault not_bad = λ stands. ((pick, refl), kept_held stands)
    by_fault fault.OutOfMemory not_bad = λ stands. record { next = world_of old clock e; halts = refl; held = kept_held stands }
    by_fault (fault.BadStore area at) not_bad = λ stands.
        some_stood old.rules old.history e old.beside (seen cut)
        (λ h d stands_h. not_bad h d (subst (λ (x : RuleSet). StandBut x h d (seen cut)) (sym rules_are) stands_h)) (stood stands)

-- an opening that was made stands for what stood before it

beside_kept : (rules : RuleSet) (history : List Entry) (e : Payloads) (beside : Option Interrupted) (c : Areas) → StandBut rules history e c → StandsBeside rules history e beside c
beside_kept rules history e None c stands = stands
beside_kept rules history e (Some it) c stands = inl stands

beside_came : (rules : RuleSet) (history : List Entry) (e : Payloads) (beside : Option Interrupted) (it : Interrupted) (c : Areas) → beside ≡ Some it →
    StandBut rules (history ++ it.entry ∷ []) (payloads_after digest (after rules history) it.entry it.payload e) c → StandsBeside rules history e beside c
beside_came rules history e beside it c is stands = subst (λ (b : Option Interrupted). StandsBeside rules history e b c) (sym is) (inr stands)

crash_held : (w : World) (before now : ℕ) (text : List ℕ) (next : World) (images : Areas → Type 0) → serial.Crashes w before now text next → IsHeld next images → IsHeld w images
crash_held w before now text next images (serial.Crashes.Keeps count said is) held = λ c image.
    beside_kept w.rules w.history w.payloads w.beside c (subst (λ (v : World). IsHeld v images) is held c image)
crash_held w before now text next images (serial.Crashes.Enters it down beside legal count said is) held = λ c image.
    beside_came w.rules w.history w.payloads w.beside it c beside (subst (λ (v : World). IsHeld v images) is held c image)

pub crash_halts : {G R : Type 0} → (may_leave : R → Areas → Type 0) (faults : R → ℕ) (schema : Schema) (pick before : ℕ) (w : World) (now : Booked G R) (clock : ℕ) (text : List ℕ) →
    Legal now.rules now.history → Carried may_leave faults schema (Crash pick) w before now clock text → HaltedAt (Crash pick) w (may_leave now.rig)
crash_halts may_leave faults schema pick before w now clock text legal carried = record {
  next = w;
  halts = refl;
  held = crash_held w before (faults now.rig) text (world_of now clock carried.payloads) (may_leave now.rig) carried.serves
      (stands_held (world_of now clock carried.payloads) (may_leave now.rig) legal carried.stands);
}
