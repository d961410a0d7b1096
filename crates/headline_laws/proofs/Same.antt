-- Where no fault is met and there are no blocks, a script leads to one text and one world.
use Rattle.std.proofs.Common.{◌≡◌, ◌⊎◌, ℕ, zero, suc, ◌+◌, ◌-◌, ◌^◌, ◌<◌, ◌≤◌, min, Bool, true, false, eqb, Option, Some, None, Ok, Err, List, [], ◌∷◌, ◌++◌, length, refl, sym, ap, subst, ◌∙◌, inl, inr, arith, ⊎_elim}
use Rattle.std.proofs.lemmas.Bool.{eqb-true, eqb-false}
use Rattle.std.specs.Prelude.{Result}
use Rattle.std.specs.List.{AllByRecursion}
use Rattle.std.proofs.lemmas.List.Elements.{recursion_from_All}
use Rattle.delf_disk.specs.Causes.{Rose}
use Rattle.delf_model.specs.declared.schema.Schema.{Schema}
use Rattle.delf_model.specs.declared.call.Call.{Call}
use Rattle.delf_model.specs.declared.call.Refusal.{Refusal}
use Rattle.delf_model.specs.declared.entry.What.{What}
use Rattle.delf_model.specs.declared.entry.What.TheVariants.{Put}
use Rattle.delf_model.specs.declared.script.Command.{Command}
use Rattle.delf_model.specs.declared.script.Command.TheVariants.{Submit, Work, Tick, Get, Show, Job, Jobs, Report, Fail, Crash, Par}
use Rattle.documents.specs.Names.{HasNoLanes}
use Rattle.job_report.specs.declared.work.WorkEnd.{WorkEnd}
use Rattle.job_report.specs.declared.work.WorkEnd.TheVariants as work_end
use Rattle.job_report.specs.Texts.{work_text, opened_text}
use Rattle.script_runner.specs.Serial.{Serves, Script, MakesSteps, StepsTo, PutsDamaged, Submits, Works, StepsEnd, Reads, Crashes, Goes, answer, answer_text, after_answer, next_step}
use Rattle.script_runner.specs.Serial as serial
use Rattle.script_runner.specs.Worlds.{World, with_entry, mended, later}
use Rattle.headline_laws.specs.Onward.{AreSerial}

-- counts of faults

within : (m a b c : ℕ) → min (a + 1) m ≤ b → min (b + 1) m ≤ c → min (a + 1) m ≤ c
within m a b c one two = omega (arith, one, two)

rose_then : (a b c : ℕ) → Rose a b → Rose b c → Rose a c
rose_then a b c one two = within (2 ^ 64 - 1) a b c one two

abbrev Counted : ℕ → ℕ → Type 0
Counted before now = (now ≡ before) ⊎ Rose before now

-- steps

step_same : (w a b : World) → StepsTo w a → StepsTo w b → a ≡ b
step_same w a b one two =
    let same : one.what ≡ two.what = cc (one.is_first, two.is_first) in
    one.is_next ∙ (ap (λ (what : What). with_entry w what []) same ∙ sym two.is_next)

steps_same : (n : ℕ) (w a b : World) → MakesSteps n w a → MakesSteps n w b → a ≡ b
unfolding MakesSteps
steps_same zero w a b one two = one ∙ sym two
steps_same (suc n) w a b one two =
    let here : one.0 ≡ two.0 = steps_same n w one.0 two.0 one.1.0 two.1.0 in
    step_same two.0 a b (subst (λ (x : World). StepsTo x a) here one.1.1) two.1.1

-- where more steps are made there is a further one
goes_further : (m n : ℕ) (w a b : World) → m < n → MakesSteps m w a → MakesSteps n w b → (c : World) × StepsTo a c
unfolding MakesSteps
goes_further m zero w a b below one two = absurd (omega (arith, below))
goes_further m (suc n) w a b below one two = by_place (λ less. goes_further m n w a two.0 less one two.1.0) (eqb m n) refl
  where
    by_place : (m < n → (c : World) × StepsTo a c) → (same : Bool) → eqb m n ≡ same → (c : World) × StepsTo a c
    by_place earlier true same =
        let at : MakesSteps n w a = subst (λ (k : ℕ). MakesSteps k w a) (eqb-true m n same) one in
        (b, subst (λ (x : World). StepsTo x b) (steps_same n w two.0 a two.1.0 at) two.1.1)
    by_place earlier false apart =
        let other : m ≡ n → ⊥ = eqb-false m n apart in
        earlier (omega (arith, below, other))

-- how steps end where no fault is met
data Ends (n : ℕ) (w : World) (made : ℕ) (end : WorkEnd) (next : World) : Type 0 where
  All : made ≡ n → end ≡ work_end.All → Ends n w made end next
  Idle : made < n → next_step next ≡ None → end ≡ work_end.Idle → Ends n w made end next
  Damage : (item : ℕ) (what : What) → made < n → next_step next ≡ Some what → PutsDamaged next what item → end ≡ work_end.Damaged item → Ends n w made end next

record EndsWith (n : ℕ) (w : World) (before now made : ℕ) (end : WorkEnd) (next : World) : Type 0 where
  steps : MakesSteps made w next
  ends : Ends n w made end next
  count : now ≡ before

ends_with : (n : ℕ) (w : World) (before now made : ℕ) (end : WorkEnd) (next : World) → (Rose before now → ⊥) → StepsEnd n w before now made end next →
    EndsWith n w before now made end next
ends_with n w before now made end next none (serial.StepsEnd.MakesAll all count steps is) = record { steps = steps; ends = All all is; count = count }
ends_with n w before now made end next none (serial.StepsEnd.Idles below count steps idle is) = record { steps = steps; ends = Idle below idle is; count = count }
ends_with n w before now made end next none (serial.StepsEnd.MeetsDamage item what below count steps first damaged is) =
    record { steps = steps; ends = Damage item what below first damaged is; count = count }
ends_with n w before now made end next none (serial.StepsEnd.Falls here what below rose steps first is fallen_is) = absurd (none rose)

-- no further step can be made behind an end before n
no_further : (n : ℕ) (w : World) (made : ℕ) (end : WorkEnd) (next c : World) → made < n → Ends n w made end next → StepsTo next c → ⊥
no_further n w made end next c below (All all is) step = omega (arith, below, all)
no_further n w made end next c below (Idle less idle is) step = absurd (cc (idle, step.is_first))
no_further n w made end next c below (Damage item what less first damaged is) step =
    let same : what ≡ step.what = cc (first, step.is_first) in
    step.whole item (subst (λ (x : What). PutsDamaged next x item) same damaged)

most : (n : ℕ) (w : World) (made : ℕ) (end : WorkEnd) (next : World) → Ends n w made end next → made ≤ n
most n w made end next (All all is) = omega (arith, all)
most n w made end next (Idle below idle is) = omega (arith, below)
most n w made end next (Damage item what below first damaged is) = omega (arith, below)

made_same : (n : ℕ) (w : World) (b1 n1 m1 b2 n2 m2 : ℕ) (e1 e2 : WorkEnd) (x1 x2 : World) → EndsWith n w b1 n1 m1 e1 x1 → EndsWith n w b2 n2 m2 e2 x2 → m1 < m2 → ⊥
made_same n w b1 n1 m1 b2 n2 m2 e1 e2 x1 x2 one two below =
    let further = goes_further m1 m2 w x1 x2 below one.steps two.steps in
    let high = most n w m2 e2 x2 two.ends in
    no_further n w m1 e1 x1 further.0 (omega (arith, below, high)) one.ends further.1

same_end : (n : ℕ) (w : World) (made : ℕ) (e1 e2 : WorkEnd) (next : World) → Ends n w made e1 next → Ends n w made e2 next → e1 ≡ e2
same_end n w made e1 e2 next (All all is) (All all' is') = is ∙ sym is'
same_end n w made e1 e2 next (All all is) (Idle below idle is') = absurd (omega (arith, all, below))
same_end n w made e1 e2 next (All all is) (Damage item what below first damaged is') = absurd (omega (arith, all, below))
same_end n w made e1 e2 next (Idle below idle is) (All all is') = absurd (omega (arith, all, below))
same_end n w made e1 e2 next (Idle below idle is) (Idle below' idle' is') = is ∙ sym is'
same_end n w made e1 e2 next (Idle below idle is) (Damage item what below' first damaged is') = absurd (cc (idle, first))
same_end n w made e1 e2 next (Damage item what below first damaged is) (All all is') = absurd (omega (arith, all, below))
same_end n w made e1 e2 next (Damage item what below first damaged is) (Idle below' idle is') = absurd (cc (idle, first))
same_end n w made e1 e2 next (Damage item what below first damaged is) (Damage item' what' below' first' damaged' is') =
    let one : what ≡ Put damaged.puts.job item = damaged.puts.is_put in
    let two : what' ≡ Put damaged'.puts.job item' = damaged'.puts.is_put in
    let both : what ≡ what' = cc (first, first') in
    let items : item ≡ item' = cc (one, two, both) in
    is ∙ (ap work_end.Damaged items ∙ sym is')

-- one command

record SameAfter (t1 t2 : List ℕ) (x1 x2 : World) : Type 0 where
  text : t1 ≡ t2
  world : x1 ≡ x2

work_same : (n : ℕ) (w : World) (b1 n1 m1 b2 n2 m2 : ℕ) (e1 e2 : WorkEnd) (x1 x2 : World) → EndsWith n w b1 n1 m1 e1 x1 → EndsWith n w b2 n2 m2 e2 x2 →
    SameAfter (work_text m1 e1) (work_text m2 e2) x1 x2
work_same n w b1 n1 m1 b2 n2 m2 e1 e2 x1 x2 one two =
    let low = made_same n w b1 n1 m1 b2 n2 m2 e1 e2 x1 x2 one two in
    let high = made_same n w b2 n2 m2 b1 n1 m1 e2 e1 x2 x1 two one in
    let count : m2 ≡ m1 = omega (arith, low, high) in
    let world : x1 ≡ x2 = steps_same m1 w x1 x2 one.steps (subst (λ (k : ℕ). MakesSteps k w x2) count two.steps) in
    let ends : Ends n w m1 e2 x1 = subst (λ (k : ℕ). Ends n w k e2 x1) count (subst (λ (x : World). Ends n w m2 e2 x) (sym world) two.ends) in
    let end : e1 ≡ e2 = same_end n w m1 e1 e2 x1 one.ends ends in
    record { text = ap (λ (e : WorkEnd). work_text m1 e) end ∙ ap (λ (k : ℕ). work_text k e2) (sym count); world = world }

module _ (schema : Schema) (w : World) (up : w.down ≡ false) where
  two_submits : (asked : Call) (b1 n1 b2 n2 : ℕ) (t1 t2 : List ℕ) (x1 x2 : World) → (Rose b1 n1 → ⊥) → (Rose b2 n2 → ⊥) → Submits schema w asked b1 n1 t1 x1 →
      Submits schema w asked b2 n2 t2 x2 → SameAfter t1 t2 x1 x2
  two_submits asked b1 n1 b2 n2 t1 t2 x1 x2 none1 none2 (serial.Submits.Answers u c t x) (serial.Submits.Answers u' c' t' x') = record { text = t ∙ sym t'; world = x ∙ sym x' }
  two_submits asked b1 n1 b2 n2 t1 t2 x1 x2 none1 none2 (serial.Submits.Answers u c t x) (serial.Submits.Falls what u' rose is t' x') = absurd (none2 rose)
  two_submits asked b1 n1 b2 n2 t1 t2 x1 x2 none1 none2 (serial.Submits.Answers u c t x) (serial.Submits.WasDown down c' t' x') = absurd (cc (up, down))
  two_submits asked b1 n1 b2 n2 t1 t2 x1 x2 none1 none2 (serial.Submits.Falls what u rose is t x) two = absurd (none1 rose)
  two_submits asked b1 n1 b2 n2 t1 t2 x1 x2 none1 none2 (serial.Submits.WasDown down c t x) two = absurd (cc (up, down))

  two_works : (n b1 n1 b2 n2 : ℕ) (t1 t2 : List ℕ) (x1 x2 : World) → (Rose b1 n1 → ⊥) → (Rose b2 n2 → ⊥) → Works n w b1 n1 t1 x1 → Works n w b2 n2 t2 x2 → SameAfter t1 t2 x1 x2
  two_works n b1 n1 b2 n2 t1 t2 x1 x2 none1 none2 (serial.Works.Makes m1 e1 u ends t) (serial.Works.Makes m2 e2 u' ends' t') =
      let same = work_same n w b1 n1 m1 b2 n2 m2 e1 e2 x1 x2 (ends_with n w b1 n1 m1 e1 x1 none1 ends) (ends_with n w b2 n2 m2 e2 x2 none2 ends') in
      record { text = t ∙ (same.text ∙ sym t'); world = same.world }
  two_works n b1 n1 b2 n2 t1 t2 x1 x2 none1 none2 (serial.Works.Makes m1 e1 u ends t) (serial.Works.WasDown down c t' x') = absurd (cc (up, down))
  two_works n b1 n1 b2 n2 t1 t2 x1 x2 none1 none2 (serial.Works.WasDown down c t x) two = absurd (cc (up, down))

  two_reads : (said : List ℕ) (b1 n1 b2 n2 : ℕ) (t1 t2 : List ℕ) (x1 x2 : World) → (Rose b1 n1 → ⊥) → (Rose b2 n2 → ⊥) → Reads w said b1 n1 t1 x1 → Reads w said b2 n2 t2 x2 →
      SameAfter t1 t2 x1 x2
  two_reads said b1 n1 b2 n2 t1 t2 x1 x2 none1 none2 (serial.Reads.Tells u c t x) (serial.Reads.Tells u' c' t' x') = record { text = t ∙ sym t'; world = x ∙ sym x' }
  two_reads said b1 n1 b2 n2 t1 t2 x1 x2 none1 none2 (serial.Reads.Tells u c t x) (serial.Reads.Falls u' rose t' x') = absurd (none2 rose)
  two_reads said b1 n1 b2 n2 t1 t2 x1 x2 none1 none2 (serial.Reads.Tells u c t x) (serial.Reads.WasDown down c' t' x') = absurd (cc (up, down))
  two_reads said b1 n1 b2 n2 t1 t2 x1 x2 none1 none2 (serial.Reads.Falls u rose t x) two = absurd (none1 rose)
  two_reads said b1 n1 b2 n2 t1 t2 x1 x2 none1 none2 (serial.Reads.WasDown down c t x) two = absurd (cc (up, down))

  two_goes : (said : List ℕ) (to : World) (b1 n1 b2 n2 : ℕ) (t1 t2 : List ℕ) (x1 x2 : World) → Goes said to b1 n1 t1 x1 → Goes said to b2 n2 t2 x2 → SameAfter t1 t2 x1 x2
  two_goes said to b1 n1 b2 n2 t1 t2 x1 x2 one two = record { text = one.text_is ∙ sym two.text_is; world = one.next_is ∙ sym two.next_is }

  two_crashes : (b1 n1 b2 n2 : ℕ) (t1 t2 : List ℕ) (x1 x2 : World) → Crashes w b1 n1 t1 x1 → Crashes w b2 n2 t2 x2 → SameAfter t1 t2 x1 x2
  two_crashes b1 n1 b2 n2 t1 t2 x1 x2 (serial.Crashes.Keeps c t x) (serial.Crashes.Keeps c' t' x') =
      let world : x1 ≡ x2 = x ∙ sym x' in
      record { text = t ∙ (ap (λ (y : World). opened_text (length y.history)) world ∙ sym t'); world = world }
  two_crashes b1 n1 b2 n2 t1 t2 x1 x2 (serial.Crashes.Keeps c t x) (serial.Crashes.Enters it down beside legal c' t' x') = absurd (cc (up, down))
  two_crashes b1 n1 b2 n2 t1 t2 x1 x2 (serial.Crashes.Enters it down beside legal c t x) two = absurd (cc (up, down))

  two_serves : (command : Command) (b1 n1 b2 n2 : ℕ) (t1 t2 : List ℕ) (x1 x2 : World) → HasNoLanes command → (Rose b1 n1 → ⊥) → (Rose b2 n2 → ⊥) →
      Serves schema w command b1 n1 t1 x1 → Serves schema w command b2 n2 t2 x2 → SameAfter t1 t2 x1 x2
  two_serves (Submit asked) b1 n1 b2 n2 t1 t2 x1 x2 no_lanes none1 none2 one two = two_submits asked b1 n1 b2 n2 t1 t2 x1 x2 none1 none2 one two
  two_serves (Work n) b1 n1 b2 n2 t1 t2 x1 x2 no_lanes none1 none2 one two = two_works n b1 n1 b2 n2 t1 t2 x1 x2 none1 none2 one two
  two_serves (Tick n) b1 n1 b2 n2 t1 t2 x1 x2 no_lanes none1 none2 one two = two_goes _ _ b1 n1 b2 n2 t1 t2 x1 x2 one two
  two_serves (Get id) b1 n1 b2 n2 t1 t2 x1 x2 no_lanes none1 none2 one two = two_reads _ b1 n1 b2 n2 t1 t2 x1 x2 none1 none2 one two
  two_serves Show b1 n1 b2 n2 t1 t2 x1 x2 no_lanes none1 none2 one two = two_reads _ b1 n1 b2 n2 t1 t2 x1 x2 none1 none2 one two
  two_serves (Job name) b1 n1 b2 n2 t1 t2 x1 x2 no_lanes none1 none2 one two = two_goes _ _ b1 n1 b2 n2 t1 t2 x1 x2 one two
  two_serves Jobs b1 n1 b2 n2 t1 t2 x1 x2 no_lanes none1 none2 one two = two_goes _ _ b1 n1 b2 n2 t1 t2 x1 x2 one two
  two_serves Report b1 n1 b2 n2 t1 t2 x1 x2 no_lanes none1 none2 one two = two_reads _ b1 n1 b2 n2 t1 t2 x1 x2 none1 none2 one two
  two_serves (Fail n) b1 n1 b2 n2 t1 t2 x1 x2 no_lanes none1 none2 one two = two_goes _ _ b1 n1 b2 n2 t1 t2 x1 x2 one two
  two_serves (Crash pick) b1 n1 b2 n2 t1 t2 x1 x2 no_lanes none1 none2 one two = two_crashes b1 n1 b2 n2 t1 t2 x1 x2 one two
  two_serves (Par quiet workers turns lanes) b1 n1 b2 n2 t1 t2 x1 x2 no_lanes none1 none2 one two = absurd no_lanes

-- the world stays up where no fault is met

steps_up : (n : ℕ) (w next : World) → w.down ≡ false → MakesSteps n w next → next.down ≡ false
unfolding MakesSteps
steps_up zero w next up is = ap (λ (x : World). x.down) is ∙ up
steps_up (suc n) w next up made = ap (λ (x : World). x.down) made.1.1.is_next

answered_up : (w next : World) (asked : Call) (r : Result What Refusal) → w.down ≡ false → next ≡ after_answer w asked r → next.down ≡ false
answered_up w next asked (Ok what) up is = ap (λ (x : World). x.down) is
answered_up w next asked (Err why) up is = ap (λ (x : World). x.down) is ∙ up

module _ (schema : Schema) (w : World) (up : w.down ≡ false) (before now : ℕ) (text : List ℕ) (next : World) (none : Rose before now → ⊥) where
  submit_up : (asked : Call) → Submits schema w asked before now text next → next.down ≡ false
  submit_up asked (serial.Submits.Answers u c t is) = answered_up w next asked (answer w asked) up is
  submit_up asked (serial.Submits.Falls what u rose is t x) = absurd (none rose)
  submit_up asked (serial.Submits.WasDown down c t is) = ap (λ (x : World). x.down) is ∙ up

  work_up : (n : ℕ) → Works n w before now text next → next.down ≡ false
  work_up n (serial.Works.Makes made end u ends t) = steps_up made w next up (ends_with n w before now made end next none ends).steps
  work_up n (serial.Works.WasDown down c t is) = ap (λ (x : World). x.down) is ∙ up

  read_up : (said : List ℕ) → Reads w said before now text next → next.down ≡ false
  read_up said (serial.Reads.Tells u c t is) = ap (λ (x : World). x.down) is ∙ up
  read_up said (serial.Reads.Falls u rose t is) = absurd (none rose)
  read_up said (serial.Reads.WasDown down c t is) = ap (λ (x : World). x.down) is ∙ up

  crash_up : Crashes w before now text next → next.down ≡ false
  crash_up (serial.Crashes.Keeps c t is) = ap (λ (x : World). x.down) is
  crash_up (serial.Crashes.Enters it down beside legal c t is) = ap (λ (x : World). x.down) is

  serve_up : (command : Command) → HasNoLanes command → Serves schema w command before now text next → next.down ≡ false
  serve_up (Submit asked) no_lanes one = submit_up asked one
  serve_up (Work n) no_lanes one = work_up n one
  serve_up (Tick n) no_lanes one = ap (λ (x : World). x.down) one.next_is ∙ up
  serve_up (Get id) no_lanes one = read_up _ one
  serve_up Show no_lanes one = read_up _ one
  serve_up (Job name) no_lanes one = ap (λ (x : World). x.down) one.next_is ∙ up
  serve_up Jobs no_lanes one = ap (λ (x : World). x.down) one.next_is ∙ up
  serve_up Report no_lanes one = read_up _ one
  serve_up (Fail n) no_lanes one = ap (λ (x : World). x.down) one.next_is ∙ up
  serve_up (Crash pick) no_lanes one = crash_up one
  serve_up (Par quiet workers turns lanes) no_lanes one = absurd no_lanes

-- a count stays or rises

end_counted : (n : ℕ) (w : World) (before now made : ℕ) (end : WorkEnd) (next : World) → StepsEnd n w before now made end next → Counted before now
end_counted n w before now made end next (serial.StepsEnd.MakesAll all count steps is) = inl count
end_counted n w before now made end next (serial.StepsEnd.Idles below count steps idle is) = inl count
end_counted n w before now made end next (serial.StepsEnd.MeetsDamage item what below count steps first damaged is) = inl count
end_counted n w before now made end next (serial.StepsEnd.Falls here what below rose steps first is fallen_is) = inr rose

module _ (schema : Schema) (w : World) (before now : ℕ) (text : List ℕ) (next : World) where
  submit_counted : (asked : Call) → Submits schema w asked before now text next → Counted before now
  submit_counted asked (serial.Submits.Answers u count t x) = inl count
  submit_counted asked (serial.Submits.Falls what u rose is t x) = inr rose
  submit_counted asked (serial.Submits.WasDown down count t x) = inl count

  work_counted : (n : ℕ) → Works n w before now text next → Counted before now
  work_counted n (serial.Works.Makes made end u ends t) = end_counted n w before now made end next ends
  work_counted n (serial.Works.WasDown down count t is) = inl count

  read_counted : (said : List ℕ) → Reads w said before now text next → Counted before now
  read_counted said (serial.Reads.Tells u count t is) = inl count
  read_counted said (serial.Reads.Falls u rose t is) = inr rose
  read_counted said (serial.Reads.WasDown down count t is) = inl count

  crash_counted : Crashes w before now text next → Counted before now
  crash_counted (serial.Crashes.Keeps count t is) = inl count
  crash_counted (serial.Crashes.Enters it down beside legal count t is) = inl count

  serve_counted : (command : Command) → HasNoLanes command → Serves schema w command before now text next → Counted before now
  serve_counted (Submit asked) no_lanes one = submit_counted asked one
  serve_counted (Work n) no_lanes one = work_counted n one
  serve_counted (Tick n) no_lanes one = inl one.count
  serve_counted (Get id) no_lanes one = read_counted _ one
  serve_counted Show no_lanes one = read_counted _ one
  serve_counted (Job name) no_lanes one = inl one.count
  serve_counted Jobs no_lanes one = inl one.count
  serve_counted Report no_lanes one = read_counted _ one
  serve_counted (Fail n) no_lanes one = inl one.count
  serve_counted (Crash pick) no_lanes one = crash_counted one
  serve_counted (Par quiet workers turns lanes) no_lanes one = absurd no_lanes

counted_then : (a b c : ℕ) → Counted a b → Counted b c → Counted a c
counted_then a b c (inl same) more = subst (λ (n : ℕ). Counted n c) same more
counted_then a b c (inr rose) (inl same) = inr (subst (λ (n : ℕ). Rose a n) (sym same) rose)
counted_then a b c (inr rose) (inr again) = inr (rose_then a b c rose again)

script_counted : (schema : Schema) (w next : World) (commands : List Command) (before now : ℕ) (text : List ℕ) → AllByRecursion HasNoLanes commands →
    Script schema w commands before now text next → Counted before now
unfolding Script
script_counted schema w next [] before now text none script = inl script.0
script_counted schema w next (command ∷ more) before now text none script =
    counted_then before script.0 now (serve_counted schema w before script.0 script.1.1.0 script.1.0 command none.0 script.1.1.1.1.0)
    (script_counted schema script.1.0 next more script.0 now script.1.1.1.0 none.1 script.1.1.1.1.1)

-- no fault in a part, where there is none in the whole

none_first : (a b c : ℕ) → (Rose a c → ⊥) → Counted b c → Rose a b → ⊥
none_first a b c none (inl same) rose = none (subst (λ (n : ℕ). Rose a n) (sym same) rose)
none_first a b c none (inr again) rose = none (rose_then a b c rose again)

none_later : (a b c : ℕ) → (Rose a c → ⊥) → Counted a b → Counted b c → Rose b c → ⊥
none_later a b c none (inl same) more rose = none (subst (λ (n : ℕ). Rose n c) same rose)
none_later a b c none (inr first) more rose = none (rose_then a b c first rose)

-- a whole script

scripts_same : (schema : Schema) (w w' : World) (commands : List Command) (b1 n1 b2 n2 : ℕ) (t1 t2 : List ℕ) (x1 x2 : World) → w ≡ w' → w.down ≡ false →
    AllByRecursion HasNoLanes commands → (Rose b1 n1 → ⊥) → (Rose b2 n2 → ⊥) → Script schema w commands b1 n1 t1 x1 → Script schema w' commands b2 n2 t2 x2 → SameAfter t1 t2 x1 x2
unfolding Script
scripts_same schema w w' [] b1 n1 b2 n2 t1 t2 x1 x2 here up no_lanes none1 none2 one two =
    record { text = one.1 ∙ sym two.1; world = one.2 ∙ (here ∙ sym two.2) }
scripts_same schema w w' (command ∷ more) b1 n1 b2 n2 t1 t2 x1 x2 here up no_lanes none1 none2 one two =
    let serves1 = one.1.1.1.1.0 in
    let serves2 : Serves schema w command b2 two.0 two.1.1.0 two.1.0 =
    subst (λ (x : World). Serves schema x command b2 two.0 two.1.1.0 two.1.0) (sym here) two.1.1.1.1.0 in
    let first1 : Counted b1 one.0 = serve_counted schema w b1 one.0 one.1.1.0 one.1.0 command no_lanes.0 serves1 in
    let first2 : Counted b2 two.0 = serve_counted schema w b2 two.0 two.1.1.0 two.1.0 command no_lanes.0 serves2 in
    let rest1 : Counted one.0 n1 = script_counted schema one.1.0 x1 more one.0 n1 one.1.1.1.0 no_lanes.1 one.1.1.1.1.1 in
    let rest2 : Counted two.0 n2 = script_counted schema two.1.0 x2 more two.0 n2 two.1.1.1.0 no_lanes.1 two.1.1.1.1.1 in
    let quiet1 = none_first b1 one.0 n1 none1 rest1 in
    let quiet2 = none_first b2 two.0 n2 none2 rest2 in
    let same = two_serves schema w up command b1 one.0 b2 two.0 one.1.1.0 two.1.1.0 one.1.0 two.1.0 no_lanes.0 quiet1 quiet2 serves1 serves2 in
    let next_up = serve_up schema w up b1 one.0 one.1.1.0 one.1.0 quiet1 command no_lanes.0 serves1 in
    let after = scripts_same schema one.1.0 two.1.0 more one.0 n1 two.0 n2 one.1.1.1.0 two.1.1.1.0 x1 x2 same.world next_up no_lanes.1
    (none_later b1 one.0 n1 none1 first1 rest1) (none_later b2 two.0 n2 none2 first2 rest2) one.1.1.1.1.1 two.1.1.1.1.1 in
    record {
      text = one.1.1.1.1.2 ∙ (ap (λ (l : List ℕ). l ++ one.1.1.1.0) same.text ∙ (ap (λ (l : List ℕ). two.1.1.0 ++ l) after.text ∙ sym two.1.1.1.1.2));
      world = after.world;
    }

pub one_meaning : (schema : Schema) (first : World) (commands : List Command) (before now before' now' : ℕ) (text text' : List ℕ) (last last' : World) → first.down ≡ false →
    AreSerial commands → (Rose before now → ⊥) → (Rose before' now' → ⊥) → Script schema first commands before now text last →
    Script schema first commands before' now' text' last' → (text ≡ text') × (last ≡ last')
one_meaning schema first commands before now before' now' text text' last last' up no_lanes none none' one two =
    let same = scripts_same schema first first commands before now before' now' text text' last last' refl up (recursion_from_All _ commands no_lanes) none none' one two in
    (same.text, same.world)
