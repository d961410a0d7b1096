-- Lines that are read off a disk, one behind the other.
use Rattle.std.proofs.Common.{◌≡◌, ℕ, ◌+◌, ◌≤◌, ◌<◌, Bool, true, false, List, ◌++◌, None, length, get_or, take, flat_map, refl, sym, ap, subst, ◌∙◌, arith, IsTrue, inl, inr}
use Rattle.std.specs.Prelude.{Result, Ok, Err, IfOk, IfErr}
use Rattle.delf_disk.specs.declared.area.Order.{Order}
use Rattle.delf_disk.specs.Areas.{Areas}
use Rattle.delf_disk.specs.Causes.{Rose}
use Rattle.delf_disk.specs.Plain.{Plain, SameKind}
use Rattle.delf_model.specs.Legal.{Legal}
use Rattle.delf_model.specs.Payloads.{Payloads, no_payloads}
use Rattle.store_laws.specs.Moves.{RestIn}
use Rattle.delf_book.specs.Books.{Booked, Fell, OnlyRig, state_in}
use Rattle.job_report.specs.Texts.{down_text}
use Rattle.script_runner.specs.declared.faults.LineFault.{LineFault}
use Rattle.script_runner.specs.declared.faults.LineFault.TheVariants.{OutOfMemory, Failed}
use Rattle.script_runner.specs.Lines.{Moved, Dropped, LineLeaves, Tells}
use Rattle.script_runner.specs.Serial.{refused_down}
use Rattle.script_runner.specs.Serial as serial
use Rattle.script_runner.specs.Standing.{Falls, HasSettled, ReadsOut, StaysHeld, LineSaid}
use Rattle.script_runner.specs.Worlds.{World, StandsOn, world_of, fallen}
use Rattle.script_runner.proofs.Standing.{rest_held, stands_held, up_stands, fell_world, fell_stands}
use Rattle.script_runner.proofs.Calls.{ok_is}
use Rattle.script_runner.proofs.Loops.{text_grows}

-- the kind of a disk stays over two calls

pub kind_then : {D : Type 0} → (told honest : D → Bool) (order : D → Order) (orders : D → ℕ) (a b c : D) → SameKind told honest order orders a b →
    SameKind told honest order orders b c → SameKind told honest order orders a c
kind_then told honest order orders a b c first second = record {
  tells = second.tells ∙ first.tells;
  keeps_word = second.keeps_word ∙ first.keeps_word;
  last_order = second.last_order ∙ first.last_order;
  order_count = second.order_count ∙ first.order_count;
}

pub kind_stays : {D : Type 0} → (told honest : D → Bool) (order : D → Order) (orders : D → ℕ) (a : D) → SameKind told honest order orders a a
kind_stays told honest order orders a = record { tells = refl; keeps_word = refl; last_order = refl; order_count = refl }

pub plain_then : (told honest told' honest' : Bool) → told' ≡ told → honest' ≡ honest → Plain told honest → Plain told' honest'
plain_then told honest told' honest' t h plain = (subst IsTrue (sym t) plain.0, subst IsTrue (sym h) plain.1)

pub plain_as : {D : Type 0} → (told honest : D → Bool) (a b : D) → a ≡ b → Plain (told a) (honest a) → Plain (told b) (honest b)
plain_as {D} told honest a b is plain = subst (λ (d : D). Plain (told d) (honest d)) is plain

-- nothing was read
pub unmoved : {G R : Type 0} → (told honest : R → Bool) (may_leave : R → Areas → Type 0) (order : R → Order) (orders faults : R → ℕ) (book : Booked G R) →
    Moved told honest may_leave order orders faults book book
unmoved told honest may_leave order orders faults book = record {
  only = refl;
  rest = λ plain e rests. rests;
  kind = kind_stays told honest order orders book.rig;
  count = refl;
}

-- the same book over another disk
only_then : {G R : Type 0} → (a b c : Booked G R) → OnlyRig a b → OnlyRig b c → OnlyRig a c
only_then {G} {R} a b c first second = second ∙ ap (λ (x : Booked G R). record x { rig = c.rig }) first

rest_as : {G R : Type 0} → (images : Areas → Type 0) (a b : Booked G R) (e : Payloads) → OnlyRig a b → RestIn a.rules a.history e images → RestIn b.rules b.history e images
rest_as {G} {R} images a b e only rests = subst (λ (x : Booked G R). RestIn x.rules x.history e images) (sym only) rests

rest_back : {G R : Type 0} → (images : Areas → Type 0) (a b : Booked G R) (e : Payloads) → OnlyRig a b → RestIn b.rules b.history e images → RestIn a.rules a.history e images
rest_back {G} {R} images a b e only rests = subst (λ (x : Booked G R). RestIn x.rules x.history e images) only rests

-- one reading behind the other
pub moved_then : {G R : Type 0} → (told honest : R → Bool) (may_leave : R → Areas → Type 0) (order : R → Order) (orders faults : R → ℕ) (a b c : Booked G R) →
    Moved told honest may_leave order orders faults a b → Moved told honest may_leave order orders faults b c → Moved told honest may_leave order orders faults a c
moved_then told honest may_leave order orders faults a b c first second = record {
  only = only_then a b c first.only second.only;
  rest = λ plain e rests.
      let next = plain_then (told a.rig) (honest a.rig) (told b.rig) (honest b.rig) first.kind.tells first.kind.keeps_word plain in
      rest_back (may_leave c.rig) a b e first.only (second.rest next e (rest_as (may_leave b.rig) a b e first.only (first.rest plain e rests)));
  kind = kind_then told honest order orders a.rig b.rig c.rig first.kind second.kind;
  count = second.count ∙ first.count;
}

fell_then : {G R : Type 0} → (a b c : Booked G R) → OnlyRig a b → Fell b c b.beside → Fell a c a.beside
fell_then {G} {R} a b c only fell = subst (λ (x : Booked G R). Fell x c x.beside) (ap (λ (x : Booked G R). record x { rig = a.rig }) only) (record {
  rules = fell.rules;
  history = fell.history;
  payloads = fell.payloads;
  down = fell.down;
  is_beside = fell.is_beside;
  held = fell.held;
  spare = fell.spare;
  opened = fell.opened;
})

pub dropped_then : {G R : Type 0} → (told honest : R → Bool) (may_leave : R → Areas → Type 0) (order : R → Order) (orders faults : R → ℕ) (a b c : Booked G R) (len : ℕ) →
    Moved told honest may_leave order orders faults a b → Dropped told honest may_leave order orders faults b c len → Dropped told honest may_leave order orders faults a c len
dropped_then {G} {R} told honest may_leave order orders faults a b c len first second = record {
  fell = fell_then a b c first.only second.fell;
  length_is = second.length_is ∙ ap (λ (x : Booked G R). length x.history) first.only;
  rest = λ plain e rests.
      let next = plain_then (told a.rig) (honest a.rig) (told b.rig) (honest b.rig) first.kind.tells first.kind.keeps_word plain in
      rest_back (may_leave c.rig) a b e first.only (second.rest next e (rest_as (may_leave b.rig) a b e first.only (first.rest plain e rests)));
  kind = kind_then told honest order orders a.rig b.rig c.rig first.kind second.kind;
  later = subst (λ (n : ℕ). n ≤ faults c.rig) first.count second.later;
  rose = subst (λ (n : ℕ). Rose n (faults c.rig)) first.count second.rose;
}

pub leaves_then : {G R T : Type 0} → (told honest : R → Bool) (may_leave : R → Areas → Type 0) (order : R → Order) (orders faults : R → ℕ) (a b c : Booked G R)
    (r : Result T LineFault) → Moved told honest may_leave order orders faults a b → LineLeaves told honest may_leave order orders faults b c r →
    LineLeaves told honest may_leave order orders faults a c r
leaves_then told honest may_leave order orders faults a b c (Ok x) first second = moved_then told honest may_leave order orders faults a b c first second
leaves_then told honest may_leave order orders faults a b c (Err OutOfMemory) first second = moved_then told honest may_leave order orders faults a b c first second
leaves_then told honest may_leave order orders faults a b c (Err (Failed len)) first second = dropped_then told honest may_leave order orders faults a b c len first second

-- what is told of the book after a reading is told of the book before it
pub tells_then : {G R : Type 0} → (told honest : R → Bool) (may_leave : R → Areas → Type 0) (order : R → Order) (orders faults : R → ℕ) (a b : Booked G R)
    (said : World → List ℕ) (text : List ℕ) → Moved told honest may_leave order orders faults a b → Tells told honest may_leave b said text →
    Tells told honest may_leave a said text
tells_then {G} {R} told honest may_leave order orders faults a b said text first tells = λ plain clock e rests.
    let next = plain_then (told a.rig) (honest a.rig) (told b.rig) (honest b.rig) first.kind.tells first.kind.keeps_word plain in
    tells next clock e (rest_as (may_leave b.rig) a b e first.only (first.rest plain e rests))
    ∙ ap (λ (x : Booked G R). said (world_of x clock e)) first.only

-- a row more
pub tells_more : {A G R : Type 0} → (told honest : R → Bool) (may_leave : R → Areas → Type 0) (book : Booked G R) (line_of : World → A → List ℕ) (rows : List A) (i : ℕ) (row : A)
    (before after line : List ℕ) → i < length rows → row ≡ get_or rows i row →
    Tells told honest may_leave book (λ w. flat_map (line_of w) (take i rows)) before → Tells told honest may_leave book (λ w. line_of w row) line →
    after ≡ before ++ line → Tells told honest may_leave book (λ w. flat_map (line_of w) (take (i + 1) rows)) after
tells_more told honest may_leave book line_of rows i row before after line below is so_far said grown = λ plain clock e rests.
    text_grows (line_of (world_of book clock e)) rows i row before after line below is (so_far plain clock e rests) (said plain clock e rests) grown

-- a command that reads

reads_ok : {G R : Type 0} → (told honest : R → Bool) (may_leave : R → Areas → Type 0) (order : R → Order) (orders faults : R → ℕ) (old now : Booked G R)
    (said : World → List ℕ) (text : List ℕ) → old.down ≡ false → Moved told honest may_leave order orders faults old now → Tells told honest may_leave old said text →
    Plain (told old.rig) (honest old.rig) → ReadsOut may_leave faults said old now text
reads_ok {G} {R} told honest may_leave order orders faults old now said text up moved tells plain = λ clock e stands.
    let same : world_of now clock e ≡ world_of old clock e = ap (λ (b : Booked G R). world_of b clock e) moved.only in
    record {
      reads = serial.Reads.Tells up moved.count (tells plain clock e (stands.rests up)) same;
      stands = subst (λ (w : World). StandsOn w (may_leave now.rig)) (sym same)
          (up_stands (world_of old clock e) (may_leave now.rig) up (stands.alone up) (moved.rest plain e (stands.rests up)));
    }

reads_fell : {G R : Type 0} → (told honest : R → Bool) (may_leave : R → Areas → Type 0) (order : R → Order) (orders faults : R → ℕ) (old now : Booked G R)
    (said : World → List ℕ) (text : List ℕ) (len : ℕ) → old.down ≡ false → Legal old.rules old.history → Dropped told honest may_leave order orders faults old now len →
    text ≡ down_text len → Plain (told old.rig) (honest old.rig) → ReadsOut may_leave faults said old now text
reads_fell {G} {R} told honest may_leave order orders faults old now said text len up legal d is plain = λ clock e stands.
    let alone : old.beside ≡ None = stands.alone up in
    let fell : Fell old now None = record { rules = d.fell.rules; history = d.fell.history; payloads = d.fell.payloads; down = d.fell.down; is_beside = d.fell.is_beside ∙ alone; held = d.fell.held; spare = d.fell.spare; opened = d.fell.opened } in
    record {
      reads = serial.Reads.Falls up d.rose (is ∙ ap down_text d.length_is) (fell_world old now clock e None fell);
      stands = fell_stands old now clock e None (may_leave now.rig) fell
          (rest_held (fallen (world_of old clock e) None) (may_leave now.rig) legal refl (d.rest plain e (stands.rests up)));
    }

-- a report that was told settled
pub settles_said : {G R : Type 0} → (told honest : R → Bool) (may_leave : R → Areas → Type 0) (order : R → Order) (orders faults : R → ℕ) (old now : Booked G R)
    (text : List ℕ) (r : Result (List ℕ) LineFault) → LineLeaves told honest may_leave order orders faults old now r →
    IfOk r (λ line. Plain (told old.rig) (honest old.rig) → HasSettled may_leave now) → LineSaid r text → Plain (told old.rig) (honest old.rig) → HasSettled may_leave now
settles_said told honest may_leave order orders faults old now text (Ok line) leaves settles said plain = settles plain
settles_said told honest may_leave order orders faults old now text (Err OutOfMemory) leaves settles said plain = absurd said
settles_said told honest may_leave order orders faults old now text (Err (Failed len)) leaves settles said plain = λ up. absurd (cc (up, leaves.fell.down))

pub reads_out : {G R : Type 0} → (told honest : R → Bool) (may_leave : R → Areas → Type 0) (order : R → Order) (orders faults : R → ℕ) (old now : Booked G R)
    (said : World → List ℕ) (text : List ℕ) (r : Result (List ℕ) LineFault) → old.down ≡ false → Legal old.rules old.history →
    LineLeaves told honest may_leave order orders faults old now r → ((line : List ℕ) → r ≡ Ok line → Tells told honest may_leave old said line) → LineSaid r text →
    Plain (told old.rig) (honest old.rig) → ReadsOut may_leave faults said old now text
reads_out told honest may_leave order orders faults old now said text (Ok line) up legal leaves tells is plain =
    reads_ok told honest may_leave order orders faults old now said text up leaves
    (subst (λ (t : List ℕ). Tells told honest may_leave old said t) (sym is) (tells line refl)) plain
reads_out told honest may_leave order orders faults old now said text (Err OutOfMemory) up legal leaves tells is plain = absurd is
reads_out told honest may_leave order orders faults old now said text (Err (Failed len)) up legal leaves tells is plain =
    reads_fell told honest may_leave order orders faults old now said text len up legal leaves is plain

-- a book that was down before

pub down_out : {G R : Type 0} → (may_leave : R → Areas → Type 0) (faults : R → ℕ) (book : Booked G R) (said : World → List ℕ) (text : List ℕ) → book.down ≡ true →
    text ≡ refused_down (world_of book 0 no_payloads) → ReadsOut may_leave faults said book book text
down_out may_leave faults book said text down is = λ clock e stands. record { reads = serial.Reads.WasDown down refl is refl; stands = stands }

pub down_held : {G R : Type 0} → (may_leave : R → Areas → Type 0) (book : Booked G R) → Legal book.rules book.history → StaysHeld may_leave book book
down_held may_leave book legal = λ clock e stands. stands_held (world_of book clock e) (may_leave book.rig) legal stands

pub reads_held : {G R T : Type 0} → (told honest : R → Bool) (may_leave : R → Areas → Type 0) (order : R → Order) (orders faults : R → ℕ) (old now : Booked G R)
    (r : Result T LineFault) → old.down ≡ false → Legal old.rules old.history → LineLeaves told honest may_leave order orders faults old now r →
    Plain (told old.rig) (honest old.rig) → StaysHeld may_leave old now
reads_held told honest may_leave order orders faults old now (Ok x) up legal moved plain = λ clock e stands.
    rest_held (world_of old clock e) (may_leave now.rig) legal (stands.alone up) (moved.rest plain e (stands.rests up))
reads_held told honest may_leave order orders faults old now (Err OutOfMemory) up legal moved plain = λ clock e stands.
    rest_held (world_of old clock e) (may_leave now.rig) legal (stands.alone up) (moved.rest plain e (stands.rests up))
reads_held told honest may_leave order orders faults old now (Err (Failed len)) up legal moved plain = λ clock e stands.
    rest_held (world_of old clock e) (may_leave now.rig) legal (stands.alone up) (moved.rest plain e (stands.rests up))

pub reads_kind : {G R T : Type 0} → (told honest : R → Bool) (may_leave : R → Areas → Type 0) (order : R → Order) (orders faults : R → ℕ) (old now : Booked G R)
    (r : Result T LineFault) → LineLeaves told honest may_leave order orders faults old now r → SameKind told honest order orders old.rig now.rig
reads_kind told honest may_leave order orders faults old now (Ok x) leaves = leaves.kind
reads_kind told honest may_leave order orders faults old now (Err OutOfMemory) leaves = leaves.kind
reads_kind told honest may_leave order orders faults old now (Err (Failed len)) leaves = leaves.kind

pub reads_rules : {G R T : Type 0} → (told honest : R → Bool) (may_leave : R → Areas → Type 0) (order : R → Order) (orders faults : R → ℕ) (old now : Booked G R)
    (r : Result T LineFault) → LineLeaves told honest may_leave order orders faults old now r → now.rules ≡ old.rules
reads_rules {G} {R} told honest may_leave order orders faults old now (Ok x) leaves = ap (λ (b : Booked G R). b.rules) leaves.only
reads_rules {G} {R} told honest may_leave order orders faults old now (Err OutOfMemory) leaves = ap (λ (b : Booked G R). b.rules) leaves.only
reads_rules told honest may_leave order orders faults old now (Err (Failed len)) leaves = leaves.fell.rules

moved_falls : {G R : Type 0} → (told honest : R → Bool) (may_leave : R → Areas → Type 0) (order : R → Order) (orders faults : R → ℕ) (old now : Booked G R) →
    Moved told honest may_leave order orders faults old now → Falls faults old now
moved_falls {G} {R} told honest may_leave order orders faults old now moved = record {
  later = omega (arith, moved.count);
  fell = λ down. inl (sym (ap (λ (b : Booked G R). b.down) moved.only) ∙ down);
  held = ap (λ (b : Booked G R). b.held) moved.only;
}

pub reads_falls : {G R T : Type 0} → (told honest : R → Bool) (may_leave : R → Areas → Type 0) (order : R → Order) (orders faults : R → ℕ) (old now : Booked G R)
    (r : Result T LineFault) → LineLeaves told honest may_leave order orders faults old now r → Falls faults old now
reads_falls told honest may_leave order orders faults old now (Ok x) leaves = moved_falls told honest may_leave order orders faults old now leaves
reads_falls told honest may_leave order orders faults old now (Err OutOfMemory) leaves = moved_falls told honest may_leave order orders faults old now leaves
reads_falls told honest may_leave order orders faults old now (Err (Failed len)) leaves = record { later = leaves.later; fell = λ down. inr leaves.rose; held = leaves.fell.held }

-- a line that there was memory for
pub line_text : {E : Type 0} → (P : List ℕ → Type 0) (line : Result (List ℕ) E) (r : Result (List ℕ) LineFault) → IfOk line P → IfOk r (λ t. line ≡ Ok t) → IfOk r P
line_text P line (Ok t) holds is = ok_is P line t is holds
line_text P line (Err it) holds is = tt

-- where memory was wanting the disk alone moved
pub leaves_moved : {G R T : Type 0} → (told honest : R → Bool) (may_leave : R → Areas → Type 0) (order : R → Order) (orders faults : R → ℕ) (old now : Booked G R)
    (r : Result T LineFault) → Moved told honest may_leave order orders faults old now → IfErr r (λ it. it ≡ OutOfMemory) →
    LineLeaves told honest may_leave order orders faults old now r
leaves_moved told honest may_leave order orders faults old now (Ok x) moved starved = moved
leaves_moved told honest may_leave order orders faults old now (Err OutOfMemory) moved starved = moved
leaves_moved told honest may_leave order orders faults old now (Err (Failed len)) moved starved = absurd (cc starved)

-- where the disk alone moved the graph is the same
pub same_state : {G R : Type 0} → (old now : Booked G R) → OnlyRig old now → (state_in now).graph ≡ (state_in old).graph
same_state {G} {R} old now only = ap (λ (b : Booked G R). (state_in b).graph) only

pub three_are : (text a b c x y z : List ℕ) → text ≡ a ++ b ++ c → a ≡ x → b ≡ y → c ≡ z → text ≡ x ++ y ++ z
three_are text a b c x y z said first second third =
    said ∙ ap (λ (t : List ℕ). t ++ b ++ c) first ∙ ap (λ (t : List ℕ). x ++ t ++ c) second ∙ ap (λ (t : List ℕ). x ++ y ++ t) third
