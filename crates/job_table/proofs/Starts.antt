-- A job that starts is not restored.
use Rattle.std.proofs.Common.{◌≡◌, ℕ, ◌+◌, Bool, true, false, [], ◌∷◌, ◌++◌, refl, sym, ◌∙◌, ap, arith}
use Rattle.std.specs.Prelude.{nat_eq}
use Rattle.delf_model.specs.declared.ids.JobName.{JobName}
use Rattle.delf_model.specs.State.{State, owned, is_restored, is_restored_row, job_row}
use Rattle.delf_model.specs.Step.{new_job}
use Rattle.job_table.specs.Table.{Keeps}
use Rattle.job_table.proofs.Passing.{one_if}
use Rattle.job_table.proofs.Steps.{eqb_is}
use Rattle.job_table.proofs.Rows.{is_restored-new, none_starts_past}

-- a job that starts at the length is not restored, so that no restored job gains an object
pub idle_gained : (s : State) (root job : ℕ) (name : JobName) (after : ℕ → ℕ) → Keeps s → ((j : ℕ) → after j ≡ owned s j + one_if (nat_eq s.len j)) →
    is_restored (s.jobs ++ new_job s.len root name ∷ []) job ≡ true → after job ≡ 0
idle_gained s root job name after k e r = go (nat_eq s.len job) refl
  where
    was : is_restored s.jobs job ≡ true
    was = sym (is_restored-new s.len root name job s.jobs) ∙ r

    go : (b : Bool) → nat_eq s.len job ≡ b → after job ≡ 0
    go true h =
        let none : is_restored s.jobs job ≡ false = ap is_restored_row (ap (job_row s.jobs) (sym (eqb_is s.len job h)) ∙ none_starts_past 0 s.len s.len s.jobs k.starts (omega arith)) in
        absurd (cc (none, was))
    go false h = e job ∙ ap (λ (b : Bool). owned s job + one_if b) h ∙ omega (arith, k.idle job was)
