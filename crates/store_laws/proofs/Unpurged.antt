-- A job that is purged owns nothing.
use Rattle.std.proofs.Common.{◌≡◌, ℕ, ◌<◌, Bool, true, false, cond, not, ◌&&◌, eqb, List, [], ◌∷◌, Option, Some, None, refl, sym, ap, ◌∙◌, subst, arith, inl, inr}
use Rattle.std.proofs.lemmas.Bool.{and_parts, eqb-true, false≢true, false_from_ne_true}
use Rattle.std.specs.Prelude.{find, is_some}
use Rattle.delf_model.specs.declared.entry.Entry.{Entry}
use Rattle.delf_model.specs.declared.entry.What.{What}
use Rattle.delf_model.specs.RuleSet.{RuleSet}
use Rattle.delf_model.specs.State.{State, JobRow, start, owner, owned, left, job_row, starts_at}
use Rattle.delf_model.specs.Step.{step, after}
use Rattle.delf_model.specs.Legal.{Legal, is_legal, is_allowed, may_purge, window_passed}
use Rattle.delf_model.specs.Payloads.{is_purged, is_purged_row}
use Rattle.delf_model.proofs.Lines.{allowed_of}
use Rattle.delf_model.proofs.Owners.{owner_from}
use Rattle.delf_model.proofs.Jobs.{JobsBelow, owned_positive}
use Rattle.delf_model.proofs.Good.{Good, good_start, good_step}
use Rattle.delf_model.proofs.Runs.{good_run}
use Rattle.payload_laws.proofs.Items.{purged_now}

abbrev pub Unpurged : State → Type 0
Unpurged s = (job id : ℕ) → is_purged s.jobs job ≡ true → owner s id ≡ Some job → ⊥

found_passes : {A : Type 0} (q : A → Bool) (xs : List A) (x : A) → find q xs ≡ Some x → q x ≡ true
found_passes {A = A} q [] x found = absurd (cc found)
found_passes {A = A} q (y ∷ ys) x found = by_hit (q y) refl found (found_passes q ys x)
  where
    by_hit : (b : Bool) → q y ≡ b → cond b (Some y) (find q ys) ≡ Some x → (find q ys ≡ Some x → q x ≡ true) → q x ≡ true
    by_hit true is here IH = let same : y ≡ x = cc here in ap q (sym same) ∙ is
    by_hit false is here IH = IH here

purged_some : (o : Option JobRow) → is_purged_row o ≡ true → is_some o ≡ true
purged_some None purged = absurd (false≢true purged)
purged_some (Some row) purged = refl

-- a legal purge is of a job that has a row and owns nothing
purge_of : (s : State) (moment job : ℕ) (o : Option JobRow) → job_row s.jobs job ≡ o → may_purge s moment o ≡ true → (is_some o ≡ true) × (owned s job ≡ 0)
purge_of s moment job None at may = absurd (false≢true may)
purge_of s moment job (Some row) at may =
    let start : row.start ≡ job = eqb-true row.start job (found_passes (starts_at job) s.jobs row at) in
    let front = and_parts (eqb (owned s row.start) 0 && not row.purged && eqb (left s row.start) 0) (window_passed s moment row) may in
    let none = and_parts (eqb (owned s row.start) 0 && not row.purged) (eqb (left s row.start) 0) front.0 in
    (refl, subst (λ (n : ℕ). owned s n ≡ 0) start (eqb-true (owned s row.start) 0 (and_parts (eqb (owned s row.start) 0) (not row.purged) none.0).0))

unpurged_step : (s : State) (e : Entry) → is_legal s e ≡ true → JobsBelow s → Unpurged s → Unpurged (step s e)
unpurged_step s e legal below before job id purged own =
    elim (purged_now s e.moment e.what job (allowed_of s e legal)) [
      | inl same ↦
          let was : is_purged s.jobs job ≡ true = sym same ∙ purged in
          elim (owner_from s e id job own) [
            | inl old ↦ before job old.0 was old.1
            | inr new ↦ not_new (purged_some (job_row s.jobs job) was) new
          ]
      | inr now ↦
          let purge = purge_of s e.moment job (job_row s.jobs job) refl (subst (λ (w : What). is_allowed s e.moment w ≡ true) now.purges (allowed_of s e legal)) in
          elim (owner_from s e id job own) [
            | inl old ↦ (let positive : 0 < owned s job = owned_positive s old.0 job old.1 in omega (arith, positive, purge.1))
            | inr new ↦ not_new purge.0 new
          ]
    ]
  where
    not_new : is_some (job_row s.jobs job) ≡ true → job ≡ s.len → ⊥
    not_new some same = let lt : job < s.len = below job some in omega (arith, lt, same)

record Clear (s : State) : Type 0 where
  good : Good s
  unpurged : Unpurged s

clear_start : (rules : RuleSet) → Clear (start rules)
clear_start rules = record { good = good_start rules; unpurged = λ job id purged own. cc own }

clear_step : (s : State) (e : Entry) → Clear s → is_legal s e ≡ true → Clear (step s e)
clear_step s e clear legal = record { good = good_step s e clear.good legal; unpurged = unpurged_step s e legal clear.good.jobs_below clear.unpurged }

pub unpurged_after : (rules : RuleSet) (h : List Entry) → Legal rules h → Unpurged (after rules h)
unpurged_after rules h legal = (good_run Clear clear_step (start rules) h (clear_start rules) legal).unpurged

pub owner_unpurged : (s : State) → Unpurged s → (job id : ℕ) → owner s id ≡ Some job → is_purged s.jobs job ≡ false
owner_unpurged s unpurged job id own = false_from_ne_true (is_purged s.jobs job) (λ purged. unpurged job id purged own)
