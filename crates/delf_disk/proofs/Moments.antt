-- How a run of disk calls goes on.
use Rattle.std.proofs.Common.{inl, inr, ⊎_elim, ℕ, sym, ◌∙◌, subst, arith}
use Rattle.delf_disk.specs.Areas.{Areas}
use Rattle.delf_disk.specs.Images.{Same, After, Moves}
use Rattle.delf_disk.specs.Moments.{Runs, Leaves}

module _ {D : Type 0} {moment : D → ℕ} {may_leave : D → Areas → Type 0} {left_since : D → ℕ → Areas → Type 0} where
  -- before the first call
  pub started : (old : D) (step : Areas → Areas → Type 0) → ((c : Areas) → left_since old (moment old) c → may_leave old c)
      → ((c : Areas) → may_leave old c → step c c) → Runs moment may_leave left_since step old old
  started old step only again = record {
    later = omega arith;
    now = λ c now. (c, now, again c now);
    each = λ c left. (c, only c left, again c (only c left));
    before = λ t c le left. inl left;
  }

  -- one disk call more, whose images are images of the start after the step
  pub called : {step call : Areas → Areas → Type 0} {old mid new : D} → Runs moment may_leave left_since step old mid
      → Moves call (moment mid) (moment new) (may_leave mid) (may_leave new) (left_since mid) (left_since new)
      → ((c : Areas) → After call (may_leave mid) c → After step (may_leave old) c)
      → Runs moment may_leave left_since step old new
  called {old = old} so_far moves here = record {
    later = omega (arith, so_far.later, moves.later);
    now = λ c now. here c (moves.follows c now);
    each = λ c left. ⊎_elim (so_far.each c) (λ now. here c (moves.follows c now)) (moves.nothing_else (moment old) c so_far.later left);
    before = λ t c le left. ⊎_elim (so_far.before t c le) (λ now. inr (here c (moves.follows c now)))
        (moves.nothing_else t c (omega (arith, le, so_far.later)) left);
  }

  -- the same, where it is enough that the two steps make one
  pub composed : {step call : Areas → Areas → Type 0} {old mid new : D} → Runs moment may_leave left_since step old mid
      → Moves call (moment mid) (moment new) (may_leave mid) (may_leave new) (left_since mid) (left_since new)
      → ((d m c : Areas) → may_leave old d → may_leave mid m → step d m → call m c → step d c)
      → Runs moment may_leave left_since step old new
  composed so_far moves joins = called so_far moves
      (λ c after. let m = after.0 in let from = so_far.now m after.1 in (from.0, from.1, joins from.0 m c from.1 after.1 from.2 after.2))

  -- one disk call more that makes no new image
  pub kept : {step : Areas → Areas → Type 0} {old mid new : D} → Runs moment may_leave left_since step old mid
      → Moves Same (moment mid) (moment new) (may_leave mid) (may_leave new) (left_since mid) (left_since new)
      → Runs moment may_leave left_since step old new
  kept {step} {old} {mid} so_far moves = called so_far moves (λ c after. so_far.now c (subst (may_leave mid) (sym after.2) after.1))

  -- a larger step
  pub widened : {step wider : Areas → Areas → Type 0} {old new : D} → Runs moment may_leave left_since step old new
      → ((d c : Areas) → may_leave old d → step d c → wider d c) → Runs moment may_leave left_since wider old new
  widened {step} {wider} {old} so_far wide =
      let widen : (c : Areas) → After step (may_leave old) c → After wider (may_leave old) c = λ c after. (after.0, after.1, wide after.0 c after.1 after.2) in record {
        later = so_far.later;
        now = λ c now. widen c (so_far.now c now);
        each = λ c left. widen c (so_far.each c left);
        before = λ t c le left. ⊎_elim (λ past. inl past) (λ after. inr (widen c after)) (so_far.before t c le left);
      }

  -- one run more
  pub ran : {first second whole : Areas → Areas → Type 0} {old mid new : D} → Runs moment may_leave left_since first old mid
      → Runs moment may_leave left_since second mid new
      → ((d c : Areas) → may_leave old d → first d c → whole d c)
      → ((d m c : Areas) → may_leave old d → may_leave mid m → first d m → second m c → whole d c)
      → Runs moment may_leave left_since whole old new
  ran {first} {second} {whole} {old} {mid} one two wide joins =
      let early : (c : Areas) → After first (may_leave old) c → After whole (may_leave old) c = λ c after. (after.0, after.1, wide after.0 c after.1 after.2) in
      let late : (c : Areas) → After second (may_leave mid) c → After whole (may_leave old) c =
      λ c after. let from = one.now after.0 after.1 in (from.0, from.1, joins from.0 after.0 c from.1 after.1 from.2 after.2) in record {
        later = omega (arith, one.later, two.later);
        now = λ c now. late c (two.now c now);
        each = λ c left. ⊎_elim (λ past. early c (one.each c past)) (late c) (two.before (moment old) c one.later left);
        before = λ t c le left. ⊎_elim (λ past. ⊎_elim (λ older. inl older) (λ after. inr (early c after)) (one.before t c le past)) (λ after. inr (late c after))
            (two.before t c (omega (arith, le, one.later)) left);
      }

  -- two runs that change nothing
  pub same_on : {old mid new : D} → Runs moment may_leave left_since Same old mid → Runs moment may_leave left_since Same mid new
      → Runs moment may_leave left_since Same old new
  same_on one two = ran one two (λ d c now same. same) (λ d m c now then same again. again ∙ same)

  -- a run that changes nothing, and then one that may
  pub same_then : {step : Areas → Areas → Type 0} {old mid new : D} → Runs moment may_leave left_since Same old mid
      → Runs moment may_leave left_since step mid new → ((c : Areas) → may_leave old c → step c c)
      → Runs moment may_leave left_since step old new
  same_then {step} one two again = ran one two (λ d c now same. subst (step d) (sym same) (again d now))
      (λ d m c now then same goes. subst (λ x. step x c) same goes)

  -- no call yet, and each image has P
  pub leaves_started : (old : D) (P : Areas → Type 0) → ((c : Areas) → left_since old (moment old) c → may_leave old c)
      → ((c : Areas) → may_leave old c → P c) → Leaves moment may_leave left_since P old old
  leaves_started old P only here = record {
    later = omega arith;
    now = here;
    each = λ c left. here c (only c left);
    before = λ t c le left. inl left;
  }

  -- from a run to what each image has
  pub leaves_first : {step : Areas → Areas → Type 0} {P : Areas → Type 0} {old new : D} → Runs moment may_leave left_since step old new
      → ((d c : Areas) → may_leave old d → step d c → P c) → Leaves moment may_leave left_since P old new
  leaves_first {step} {P} {old} run has =
      let gives : (c : Areas) → After step (may_leave old) c → P c = λ c after. has after.0 c after.1 after.2 in record {
        later = run.later;
        now = λ c now. gives c (run.now c now);
        each = λ c left. gives c (run.each c left);
        before = λ t c le left. ⊎_elim (λ past. inl past) (λ after. inr (gives c after)) (run.before t c le left);
      }

  -- one run more
  pub leaves_next : {step : Areas → Areas → Type 0} {P : Areas → Type 0} {old mid new : D} → Leaves moment may_leave left_since P old mid
      → Runs moment may_leave left_since step mid new → ((d c : Areas) → may_leave mid d → step d c → P c)
      → Leaves moment may_leave left_since P old new
  leaves_next {step} {P} {old} {mid} so_far run has =
      let gives : (c : Areas) → After step (may_leave mid) c → P c = λ c after. has after.0 c after.1 after.2 in record {
        later = omega (arith, so_far.later, run.later);
        now = λ c now. gives c (run.now c now);
        each = λ c left. ⊎_elim (so_far.each c) (gives c) (run.before (moment old) c so_far.later left);
        before = λ t c le left. ⊎_elim (so_far.before t c le) (λ after. inr (gives c after)) (run.before t c (omega (arith, le, so_far.later)) left);
      }

  -- one disk call more
  pub leaves_called : {call : Areas → Areas → Type 0} {P : Areas → Type 0} {old mid new : D} → Leaves moment may_leave left_since P old mid
      → Moves call (moment mid) (moment new) (may_leave mid) (may_leave new) (left_since mid) (left_since new)
      → ((d c : Areas) → may_leave mid d → call d c → P c)
      → Leaves moment may_leave left_since P old new
  leaves_called {call} {P} {old} {mid} {new} so_far moves has =
      let gives : (c : Areas) → may_leave new c → P c = λ c now. let after = moves.follows c now in has after.0 c after.1 after.2 in record {
        later = omega (arith, so_far.later, moves.later);
        now = gives;
        each = λ c left. ⊎_elim (so_far.each c) (gives c) (moves.nothing_else (moment old) c so_far.later left);
        before = λ t c le left. ⊎_elim (so_far.before t c le) (λ now. inr (gives c now)) (moves.nothing_else t c (omega (arith, le, so_far.later)) left);
      }

  -- one disk call more that makes no new image
  pub leaves_kept : {P : Areas → Type 0} {old mid new : D} → Leaves moment may_leave left_since P old mid
      → Moves Same (moment mid) (moment new) (may_leave mid) (may_leave new) (left_since mid) (left_since new)
      → Leaves moment may_leave left_since P old new
  leaves_kept {P} so_far moves = leaves_called so_far moves (λ d c now same. subst P (sym same) (so_far.now d now))

  -- a weaker P
  pub leaves_widened : {P Q : Areas → Type 0} {old new : D} → Leaves moment may_leave left_since P old new
      → ((c : Areas) → P c → Q c) → Leaves moment may_leave left_since Q old new
  leaves_widened so_far wide = record {
    later = so_far.later;
    now = λ c now. wide c (so_far.now c now);
    each = λ c left. wide c (so_far.each c left);
    before = λ t c le left. ⊎_elim (λ past. inl past) (λ has. inr (wide c has)) (so_far.before t c le left);
  }
