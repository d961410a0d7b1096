-- Whose each tagged entry behind the first history is.
use Rattle.std.proofs.Common.{◌≡◌, ◌⊎◌, ℕ, zero, suc, ◌+◌, ◌-◌, ◌<◌, ◌≤◌, Bool, true, false, cond, ltb, leb, Option, Some, None, Ok, Err, List, [], ◌∷◌, ◌++◌, length, refl, sym, ap, subst, ◌∙◌, inl, inr, arith, length-append, append_assoc, ⊎_elim}
use Rattle.std.proofs.lemmas.Bool.{ltb-true, ltb-false, leb-true, leb-false, cond-true}
use Rattle.std.proofs.lemmas.Bool.Decides.{nat_tests}
use Rattle.std.proofs.lemmas.List.Elements.{filter-append}
use Rattle.std.proofs.lemmas.Option.{slice_get_within}
use Rattle.std.specs.Prelude.{slice_get, filter}
use Rattle.delf_model.specs.declared.schema.Schema.{Schema}
use Rattle.delf_model.specs.declared.call.Call.{Call}
use Rattle.delf_model.specs.declared.entry.Entry.{Entry}
use Rattle.delf_model.specs.declared.entry.Tag.{Tag}
use Rattle.delf_model.specs.declared.entry.What.{What}
use Rattle.delf_model.specs.declared.script.Command.{Command}
use Rattle.delf_model.specs.declared.script.Command.TheVariants.{Submit, Work, Tick, Get, Show, Job, Jobs, Report, Fail, Crash, Par}
use Rattle.delf_model.specs.declared.script.Lane.{Lane}
use Rattle.delf_model.specs.Step.{tag_of}
use Rattle.delf_model.specs.Legal.{Legal}
use Rattle.delf_book.specs.Parts.{Interrupted}
use Rattle.delf_book.specs.Books.{given_by}
use Rattle.delf_service.specs.declared.standing.Standing.{Standing}
use Rattle.delf_service.specs.Blocks.{root_of, lane_seat}
use Rattle.delf_service.specs.Standings.{seat_of, seat_of_tag}
use Rattle.job_report.specs.declared.work.WorkEnd.{WorkEnd}
use Rattle.seat_lock.specs.Views.{is_maker, made_by}
use Rattle.script_runner.specs.Blocks.{RunsLanes}
use Rattle.script_runner.specs.Serial.{Serves, Script, MakesSteps, StepsTo, Submits, Works, StepsEnd, Reads, Crashes, Goes, Blocks}
use Rattle.script_runner.specs.Serial as serial
use Rattle.script_runner.specs.Worlds.{World, entry_now, interrupted, with_entry, fallen}
use Rattle.headline_laws.specs.Onward.{GoesOn}
use Rattle.headline_laws.specs.Places.{MadeAt, IsAcknowledged, CallEnds, Acknowledged, Refused, MetFault, WasDown, Whose, OfCall, OfLane, OfFault}
use Rattle.headline_laws.proofs.Legal.{step_untagged}
use Rattle.headline_laws.proofs.Onward.{legal_back, history_goes_on, step_goes_on}
use Rattle.headline_laws.proofs.Placing.{first_at, shift_at, call_ends}

-- elements of a list and of what is behind it

in_rest : {A : Type 0} (xs ys : List A) (p : ℕ) (x : A) → length xs ≤ p → slice_get (xs ++ ys) p ≡ Some x → (q : ℕ) × (p ≡ length xs + q) × (slice_get ys q ≡ Some x)
in_rest [] ys p x low at = (p, omega arith, at)
in_rest (y ∷ xs) ys zero x low at = absurd (omega (arith, low))
in_rest (y ∷ xs) ys (suc p) x low at =
    let more = in_rest xs ys p x (omega (arith, low)) at in (more.0, omega (arith, more.1), more.2)

in_first : {A : Type 0} (xs ys : List A) (p : ℕ) (x : A) → p < length xs → slice_get (xs ++ ys) p ≡ Some x → slice_get xs p ≡ Some x
in_first [] ys p x low at = absurd (omega (arith, low))
in_first (y ∷ xs) ys zero x low at = at
in_first (y ∷ xs) ys (suc p) x low at = in_first xs ys p x (omega (arith, low)) at

record IsBehind {A : Type 0} (xs : List A) (y : A) (p : ℕ) (x : A) : Type 0 where
  place : p ≡ length xs
  same : x ≡ y

at_one : {A : Type 0} (y x : A) (q : ℕ) → slice_get (y ∷ []) q ≡ Some x → (q ≡ 0) × (x ≡ y)
at_one y x zero at = (refl, cc at)
at_one y x (suc q) at = absurd (cc at)

one_behind : {A : Type 0} (xs : List A) (y : A) (p : ℕ) (x : A) → length xs ≤ p → slice_get (xs ++ y ∷ []) p ≡ Some x → IsBehind xs y p x
one_behind xs y p x low at =
    let rest = in_rest xs (y ∷ []) p x low at in
    let one = at_one y x rest.0 rest.2 in
    record { place = omega (arith, rest.1, one.0); same = one.1 }

none_behind : {A : Type 0} (xs ys : List A) (p : ℕ) (x : A) → ys ≡ xs → length xs ≤ p → slice_get ys p ≡ Some x → ⊥
none_behind xs ys p x same low at =
    let within : p < length ys = slice_get_within ys p x at in omega (arith, within, low, ap length same)

-- steps have no tag

no_tag : (o : Option Tag) (tag : Tag) → seat_of_tag o ≡ None → o ≡ Some tag → ⊥
no_tag None tag none some = cc some
no_tag (Some other) tag none some = cc none

-- the entry of a step behind those that are not this one
one_untagged : (here x : World) (p : ℕ) (e : Entry) (tag : Tag) → StepsTo here x → Legal here.rules here.history → (slice_get here.history p ≡ Some e → ⊥) →
    slice_get x.history p ≡ Some e → tag_of e.what ≡ Some tag → ⊥
one_untagged here x p e tag step legal earlier at tagged = by_place (ltb p (length here.history)) refl
  where
    there : slice_get (here.history ++ entry_now here step.what ∷ []) p ≡ Some e
    there = subst (λ (y : World). slice_get y.history p ≡ Some e) step.is_next at

    by_place : (below : Bool) → ltb p (length here.history) ≡ below → ⊥
    by_place true is = earlier (in_first here.history (entry_now here step.what ∷ []) p e (ltb-true p (length here.history) is) there)
    by_place false is =
        let one = one_behind here.history (entry_now here step.what) p e (ltb-false p (length here.history) is) there in
        no_tag (tag_of step.what) tag (step_untagged here step.what legal step.is_first) (ap (λ (y : Entry). tag_of y.what) (sym one.same) ∙ tagged)

steps_untagged : (n : ℕ) (w x : World) (p : ℕ) (e : Entry) (tag : Tag) → MakesSteps n w x → Legal x.rules x.history → length w.history ≤ p → slice_get x.history p ≡ Some e →
    tag_of e.what ≡ Some tag → ⊥
unfolding MakesSteps
steps_untagged zero w x p e tag is legal low at tagged = none_behind w.history x.history p e (ap (λ (y : World). y.history) is) low at
steps_untagged (suc n) w x p e tag made legal low at tagged =
    let legal_here : Legal made.0.rules made.0.history = legal_back made.0 x (step_goes_on made.0 x made.1.1) legal in
    one_untagged made.0 x p e tag made.1.1 legal_here (λ there. steps_untagged n w made.0 p e tag made.1.0 legal_here low there tagged) at tagged

-- lanes

made_some : (n : ℕ) (es : List Entry) (q : ℕ) (e : Entry) → slice_get es q ≡ Some e → is_maker n (seat_of e) ≡ true → 1 ≤ length (made_by seat_of n es)
made_some n [] q e at maker = absurd (cc at)
made_some n (x ∷ xs) zero e at maker =
    let same : x ≡ e = cc at in
    let mine : is_maker n (seat_of x) ≡ true = ap (λ (y : Entry). is_maker n (seat_of y)) same ∙ maker in
    let one = ap length (cond-true (is_maker n (seat_of x)) (x ∷ made_by seat_of n xs) (made_by seat_of n xs) mine) in
    omega (arith, one)
made_some n (x ∷ xs) (suc q) e at maker = by_hit (is_maker n (seat_of x)) (made_some n xs q e at maker)
  where
    by_hit : (b : Bool) → 1 ≤ length (made_by seat_of n xs) → 1 ≤ length (cond b (x ∷ made_by seat_of n xs) (made_by seat_of n xs))
    by_hit true more = omega arith
    by_hit false more = more

-- a number with the same entries before and after has none between
not_between : (n : ℕ) (h rest : List Entry) (q : ℕ) (e : Entry) → made_by seat_of n (h ++ rest) ≡ made_by seat_of n h → slice_get rest q ≡ Some e → is_maker n (seat_of e) ≡ true → ⊥
not_between n h rest q e same at maker =
    let some = made_some n rest q e at maker in
    let split : made_by seat_of n (h ++ rest) ≡ made_by seat_of n h ++ made_by seat_of n rest = filter-append (λ (x : Entry). is_maker n (seat_of x)) h rest in
    omega (arith, some, ap length same, ap length split, length-append (made_by seat_of n h) (made_by seat_of n rest))

is_own : (n : ℕ) → is_maker n (Some n) ≡ true
is_own n = grind (arith, nat_tests)

record OneOfLanes (first : Standing) (count : ℕ) (n : ℕ) : Type 0 where
  place : ℕ
  below : place < count
  seat : n ≡ lane_seat first place

lane_of : (schema : Schema) (w next : World) (quiet : Bool) (lanes : List Lane) (before now : ℕ) (text : List ℕ) (runs : RunsLanes schema w quiet lanes before now text next) →
    (p n : ℕ) (e : Entry) → length w.history ≤ p → slice_get next.history p ≡ Some e → seat_of e ≡ Some n → OneOfLanes runs.first (length lanes) n
lane_of schema w next quiet lanes before now text runs p n e low at maker = by_low (leb n (root_of runs.first)) refl
  where
    final_at : slice_get (runs.first.history ++ runs.has.later.history.0) p ≡ Some e
    final_at = subst (λ (h : List Entry). slice_get h p ≡ Some e) (sym runs.shows_final.history ∙ runs.has.later.history.1) at

    low_first : length runs.first.history ≤ p
    low_first = omega (arith, low, ap length runs.shows_first.history)

    mine : is_maker n (seat_of e) ≡ true
    mine = ap (is_maker n) maker ∙ is_own n

    outside : made_by seat_of n runs.final.history ≡ made_by seat_of n runs.first.history → ⊥
    outside same =
        let behind = in_rest runs.first.history runs.has.later.history.0 p e low_first final_at in
        not_between n runs.first.history runs.has.later.history.0 behind.0 e (ap (λ (h : List Entry). made_by seat_of n h) (sym runs.has.later.history.1) ∙ same) behind.2 mine

    by_high : (high : Bool) → leb (lane_seat runs.first (length lanes)) n ≡ high → root_of runs.first < n → OneOfLanes runs.first (length lanes) n
    by_high true is above = absurd (outside (runs.has.others n (inr (leb-true (lane_seat runs.first (length lanes)) n is))))
    by_high false is above =
        let below : n < lane_seat runs.first (length lanes) = leb-false (lane_seat runs.first (length lanes)) n is in
        record { place = n - (root_of runs.first + 1); below = omega (arith, below, above); seat = omega (arith, below, above) }

    by_low : (small : Bool) → leb n (root_of runs.first) ≡ small → OneOfLanes runs.first (length lanes) n
    by_low true is = absurd (outside (runs.has.others n (inl (leb-true n (root_of runs.first) is))))
    by_low false is = by_high (leb (lane_seat runs.first (length lanes)) n) refl (leb-false n (root_of runs.first) is)

-- one command

-- an entry that stands beside a world that is down
record IsBeside (w : World) (p : ℕ) (e : Entry) : Type 0 where
  it : Interrupted
  down : w.down ≡ true
  beside : w.beside ≡ Some it
  place : p ≡ length w.history
  entry_is : e ≡ it.entry

module _ (schema : Schema) (first : World) (commands : List Command) (before now : ℕ) (text : List ℕ) (last : World) (p : ℕ) (e : Entry) (tag : Tag) (tagged : tag_of e.what ≡ Some tag) where
  abbrev Found : World → Type 0
  Found w = Whose schema first commands before now text last p e ⊎ IsBeside w p e

  abbrev At : Command → Type 0
  At command = MadeAt schema first commands before now text last command

  by_same : (w next : World) → next.history ≡ w.history → length w.history ≤ p → slice_get next.history p ≡ Some e → Found w
  by_same w next same low at = absurd (none_behind w.history next.history p e same low at)

  by_call : (asked : Call) (at : At (Submit asked)) → CallEnds schema at.found asked at.found_count at.left_count at.line at.left → length at.found.history ≤ p →
      slice_get at.left.history p ≡ Some e → Found at.found
  by_call asked at (Acknowledged what is) low there =
      let one = one_behind at.found.history (entry_now at.found what) p e low (subst (λ (y : World). slice_get y.history p ≡ Some e) is.left_is there) in
      inl (OfCall asked what at is one.place one.same)
  by_call asked at (Refused why up count answer line left) low there = by_same at.found at.left (ap (λ (y : World). y.history) left) low there
  by_call asked at (MetFault what up rose answer line left) low there = by_same at.found at.left (ap (λ (y : World). y.history) left) low there
  by_call asked at (WasDown down count line left) low there = by_same at.found at.left (ap (λ (y : World). y.history) left) low there

  by_end : (n : ℕ) (w next : World) (b m made : ℕ) (end : WorkEnd) → StepsEnd n w b m made end next → Legal next.rules next.history → length w.history ≤ p → slice_get next.history p ≡ Some e → Found w
  by_end n w next b m made end (serial.StepsEnd.MakesAll all count steps is) legal low there = absurd (steps_untagged made w next p e tag steps legal low there tagged)
  by_end n w next b m made end (serial.StepsEnd.Idles below count steps idle is) legal low there = absurd (steps_untagged made w next p e tag steps legal low there tagged)
  by_end n w next b m made end (serial.StepsEnd.MeetsDamage item what below count steps one damaged is) legal low there =
      absurd (steps_untagged made w next p e tag steps legal low there tagged)
  by_end n w next b m made end (serial.StepsEnd.Falls here what below rose steps one is fallen_is) legal low there =
      absurd (steps_untagged made w here p e tag steps (subst (λ (y : World). Legal y.rules y.history) fallen_is legal) low
      (subst (λ (y : World). slice_get y.history p ≡ Some e) fallen_is there) tagged)

  by_work : (n : ℕ) (w next : World) (b m : ℕ) (line : List ℕ) → Works n w b m line next → Legal next.rules next.history → length w.history ≤ p → slice_get next.history p ≡ Some e → Found w
  by_work n w next b m line (serial.Works.Makes made end up ends is) legal low there = by_end n w next b m made end ends legal low there
  by_work n w next b m line (serial.Works.WasDown down count is left) legal low there = by_same w next (ap (λ (y : World). y.history) left) low there

  by_read : (w next : World) (said : List ℕ) (b m : ℕ) (line : List ℕ) → Reads w said b m line next → length w.history ≤ p → slice_get next.history p ≡ Some e → Found w
  by_read w next said b m line (serial.Reads.Tells up count is left) low there = by_same w next (ap (λ (y : World). y.history) left) low there
  by_read w next said b m line (serial.Reads.Falls up rose is left) low there = by_same w next (ap (λ (y : World). y.history) left) low there
  by_read w next said b m line (serial.Reads.WasDown down count is left) low there = by_same w next (ap (λ (y : World). y.history) left) low there

  by_crash : (w next : World) (b m : ℕ) (line : List ℕ) → Crashes w b m line next → length w.history ≤ p → slice_get next.history p ≡ Some e → Found w
  by_crash w next b m line (serial.Crashes.Keeps count is left) low there = by_same w next (ap (λ (y : World). y.history) left) low there
  by_crash w next b m line (serial.Crashes.Enters it down beside legal count is left) low there =
      let one = one_behind w.history it.entry p e low (subst (λ (y : World). slice_get y.history p ≡ Some e) left there) in
      inr (record { it = it; down = down; beside = beside; place = one.place; entry_is = one.same })

  by_block : (quiet : Bool) (workers turns : ℕ) (lanes : List Lane) (at : At (Par quiet workers turns lanes)) →
      Blocks schema at.found quiet lanes at.found_count at.left_count at.line at.left → length at.found.history ≤ p → slice_get at.left.history p ≡ Some e → Found at.found
  by_block quiet workers turns lanes at (serial.Blocks.Runs runs) low there =
      let seat : seat_of e ≡ Some tag.seat = ap seat_of_tag tagged in
      let lane = lane_of schema at.found at.left quiet lanes at.found_count at.left_count at.line runs p tag.seat e low there seat in
      inl (OfLane quiet workers turns lanes at runs lane.place lane.below there (seat ∙ ap Some lane.seat))
  by_block quiet workers turns lanes at (serial.Blocks.WasDown down count is left) low there = by_same at.found at.left (ap (λ (y : World). y.history) left) low there

  by_command : (command : Command) (at : At command) → Legal at.left.rules at.left.history → length at.found.history ≤ p → slice_get at.left.history p ≡ Some e → Found at.found
  by_command (Submit asked) at legal low there = by_call asked at (call_ends schema at.found asked at.found_count at.left_count at.line at.left at.serves) low there
  by_command (Work n) at legal low there = by_work n at.found at.left at.found_count at.left_count at.line at.serves legal low there
  by_command (Tick n) at legal low there = by_same at.found at.left (ap (λ (y : World). y.history) at.serves.next_is) low there
  by_command (Get id) at legal low there = by_read at.found at.left _ at.found_count at.left_count at.line at.serves low there
  by_command Show at legal low there = by_read at.found at.left _ at.found_count at.left_count at.line at.serves low there
  by_command (Job name) at legal low there = by_same at.found at.left (ap (λ (y : World). y.history) at.serves.next_is) low there
  by_command Jobs at legal low there = by_same at.found at.left (ap (λ (y : World). y.history) at.serves.next_is) low there
  by_command Report at legal low there = by_read at.found at.left _ at.found_count at.left_count at.line at.serves low there
  by_command (Fail n) at legal low there = by_same at.found at.left (ap (λ (y : World). y.history) at.serves.next_is) low there
  by_command (Crash pick) at legal low there = by_crash at.found at.left at.found_count at.left_count at.line at.serves low there
  by_command (Par quiet workers turns lanes) at legal low there = by_block quiet workers turns lanes at at.serves low there

-- a world that is down, and stays so, keeps its history and what is beside it

record StaysDown (w next : World) : Type 0 where
  history : next.history ≡ w.history
  beside : next.beside ≡ w.beside

same_down : (w next : World) → next ≡ w → StaysDown w next
same_down w next is = record { history = ap (λ (y : World). y.history) is; beside = ap (λ (y : World). y.beside) is }

module _ (schema : Schema) (w next : World) (b m : ℕ) (line : List ℕ) (down : w.down ≡ true) (still : next.down ≡ true) where
  submit_down : (asked : Call) → Submits schema w asked b m line next → StaysDown w next
  submit_down asked (serial.Submits.Answers up count is left) = absurd (cc (up, down))
  submit_down asked (serial.Submits.Falls what up rose answer is left) = absurd (cc (up, down))
  submit_down asked (serial.Submits.WasDown d count is left) = same_down w next left

  work_down : (n : ℕ) → Works n w b m line next → StaysDown w next
  work_down n (serial.Works.Makes made end up ends is) = absurd (cc (up, down))
  work_down n (serial.Works.WasDown d count is left) = same_down w next left

  read_down : (said : List ℕ) → Reads w said b m line next → StaysDown w next
  read_down said (serial.Reads.Tells up count is left) = absurd (cc (up, down))
  read_down said (serial.Reads.Falls up rose is left) = absurd (cc (up, down))
  read_down said (serial.Reads.WasDown d count is left) = same_down w next left

  crash_down : Crashes w b m line next → StaysDown w next
  crash_down (serial.Crashes.Keeps count is left) = let up : next.down ≡ false = ap (λ (y : World). y.down) left in absurd (cc (up, still))
  crash_down (serial.Crashes.Enters it d beside legal count is left) = let up : next.down ≡ false = ap (λ (y : World). y.down) left in absurd (cc (up, still))

  block_down : (quiet : Bool) (lanes : List Lane) → Blocks schema w quiet lanes b m line next → StaysDown w next
  block_down quiet lanes (serial.Blocks.Runs runs) = let up : w.down ≡ false = runs.up in absurd (cc (up, down))
  block_down quiet lanes (serial.Blocks.WasDown d count is left) = same_down w next left

  serve_down : (command : Command) → Serves schema w command b m line next → StaysDown w next
  serve_down (Submit asked) serves = submit_down asked serves
  serve_down (Work n) serves = work_down n serves
  serve_down (Tick n) serves = record { history = ap (λ (y : World). y.history) serves.next_is; beside = ap (λ (y : World). y.beside) serves.next_is }
  serve_down (Get id) serves = read_down _ serves
  serve_down Show serves = read_down _ serves
  serve_down (Job name) serves = same_down w next serves.next_is
  serve_down Jobs serves = same_down w next serves.next_is
  serve_down Report serves = read_down _ serves
  serve_down (Fail n) serves = same_down w next serves.next_is
  serve_down (Crash pick) serves = crash_down serves
  serve_down (Par quiet workers turns lanes) serves = block_down quiet lanes serves

-- the whole script

-- of the commands behind the first one
module _ (schema : Schema) (w here last : World) (c : Command) (more : List Command) (before between now : ℕ) (line rest text : List ℕ)
    (serves : Serves schema w c before between line here) (text_is : text ≡ line ++ rest) (p : ℕ) (e : Entry) where
  shifted : Whose schema here more between now rest last p e → Whose schema w (c ∷ more) before now text last p e
  shifted (OfCall asked what at is place same) = OfCall asked what (shift_at schema w here last c more before between now line rest text serves text_is (Submit asked) at) is place same
  shifted (OfLane quiet workers turns lanes at runs place below there seat) =
      OfLane quiet workers turns lanes (shift_at schema w here last c more before between now line rest text serves text_is (Par quiet workers turns lanes) at) runs place below there seat
  shifted (OfFault command at it up down beside place same) =
      OfFault command (shift_at schema w here last c more before between now line rest text serves text_is command at) it up down beside place same

  -- what stood beside the world that the first command left
  fell : (goes_on : Script schema here more between now rest last) → IsBeside here p e → Whose schema w (c ∷ more) before now text last p e ⊎ IsBeside w p e
  fell goes_on is = by_up w.down refl
    where
      by_up : (down : Bool) → w.down ≡ down → Whose schema w (c ∷ more) before now text last p e ⊎ IsBeside w p e
      by_up false up =
          inl (OfFault c (first_at schema w here last c more before between now line rest text serves goes_on text_is) is.it up is.down is.beside is.place is.entry_is)
      by_up true down =
          let same = serve_down schema w here before between line down is.down c serves in
          inr (record {
            it = is.it;
            down = down;
            beside = sym same.beside ∙ is.beside;
            place = is.place ∙ ap length same.history;
            entry_is = is.entry_is;
          })

  -- an entry of the first command, or of those behind it
  module _ (tag : Tag) (tagged : tag_of e.what ≡ Some tag) (goes_on : Script schema here more between now rest last) (legal : Legal last.rules last.history)
      (low : length w.history ≤ p) (there : slice_get last.history p ≡ Some e)
      (IH : length here.history ≤ p → Whose schema here more between now rest last p e ⊎ IsBeside here p e) where
    by_place : (below : Bool) → ltb p (length here.history) ≡ below → Whose schema w (c ∷ more) before now text last p e ⊎ IsBeside w p e
    by_place true is =
        let onward : GoesOn here last = history_goes_on schema here more between now rest last goes_on in
        by_command schema w (c ∷ more) before now text last p e tag tagged c
        (first_at schema w here last c more before between now line rest text serves goes_on text_is) (legal_back here last onward legal) low
        (in_first here.history onward.history.0 p e (ltb-true p (length here.history) is) (subst (λ (h : List Entry). slice_get h p ≡ Some e) onward.history.1 there))
    by_place false is =
        ⊎_elim (λ found. inl (shifted found)) (λ beside. fell goes_on beside) (IH (ltb-false p (length here.history) is))

whose_from : (schema : Schema) (w last : World) (commands : List Command) (before now : ℕ) (text : List ℕ) (p : ℕ) (e : Entry) (tag : Tag) → tag_of e.what ≡ Some tag →
    Script schema w commands before now text last → Legal last.rules last.history → length w.history ≤ p → slice_get last.history p ≡ Some e →
    Whose schema w commands before now text last p e ⊎ IsBeside w p e
unfolding Script
whose_from schema w last [] before now text p e tag tagged script legal low there =
    absurd (none_behind w.history last.history p e (ap (λ (y : World). y.history) script.2) low there)
whose_from schema w last (c ∷ more) before now text p e tag tagged script legal low there =
    by_place schema w script.1.0 last c more before script.0 now script.1.1.0 script.1.1.1.0 text script.1.1.1.1.0 script.1.1.1.1.2 p e tag tagged script.1.1.1.1.1 legal low there
    (λ past. whose_from schema script.1.0 last more script.0 now script.1.1.1.0 p e tag tagged script.1.1.1.1.1 legal past there)
    (ltb p (length script.1.0.history)) refl

pub whose : (schema : Schema) (first : World) (commands : List Command) (before now : ℕ) (text : List ℕ) (last : World) (p : ℕ) (e : Entry) (tag : Tag) → first.down ≡ false →
    Script schema first commands before now text last → Legal last.rules last.history → length first.history ≤ p → slice_get last.history p ≡ Some e → tag_of e.what ≡ Some tag →
    Whose schema first commands before now text last p e
whose schema first commands before now text last p e tag up script legal low there tagged =
    ⊎_elim (λ found. found) (λ beside. let down : first.down ≡ true = beside.down in absurd (cc (up, down)))
    (whose_from schema first last commands before now text p e tag tagged script legal low there)
