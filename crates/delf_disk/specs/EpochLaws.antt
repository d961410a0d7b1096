-- The images now are those since now, and some of those since each earlier moment.
use Rattle.std.specs.Prelude.{◌≡◌, ℕ, ◌+◌, ◌-◌, ◌≤◌, List, [], ◌∷◌, length}
use Rattle.std.proofs.Common.{inl, inr, ⊎_elim, sym, subst, arith}
use Rattle.std.proofs.lemmas.List.{take_all}
use Rattle.delf_disk.specs.declared.past.Write.{Write}
use Rattle.delf_disk.specs.declared.past.Epoch.{Epoch}
use Rattle.delf_disk.specs.Areas.{Areas}
use Rattle.delf_disk.specs.Epochs.{laid_all, Image, after_end, stable_after, moment_of, LeftIn, LeftSince}

pub reads_as_image : (pending : List Write) (stable now : Areas) → laid_all pending stable ≡ now → Image pending stable now
unfolding Image
reads_as_image pending stable now is = inl (sym is)

-- the last moment of an epoch has all of its writes
in_last : (writes : List Write) (stable : Areas) (t : ℕ) (c : Areas) → t ≤ length writes → Image writes stable c → LeftIn writes stable t c
in_last writes stable t c le image =
    (length writes, le, omega arith, subst (λ ws. Image ws stable c) (sym (take_all (length writes) writes (omega arith))) image)

from_last : (writes : List Write) (stable c : Areas) → LeftIn writes stable (length writes) c → Image writes stable c
from_last writes stable c left = subst (λ ws. Image ws stable c) (take_all left.0 writes left.1) left.3

-- none is left of an epoch that is over
past_end : (writes : List Write) (stable : Areas) (t : ℕ) (c : Areas) → length writes + 1 ≤ t → LeftIn writes stable t c → ⊥
past_end writes stable t c over left = omega (arith, over, left.1, left.2)

pub counts_now : (es : List Epoch) (pending : List Write) (first stable : Areas) (t : ℕ) (c : Areas) → stable_after es first ≡ stable
    → t ≤ moment_of es pending → Image pending stable c → LeftSince es pending first t c
unfolding stable_after moment_of LeftSince
counts_now [] pending first stable t c base le image = in_last pending first t c le (subst (λ s. Image pending s c) (sym base) image)
counts_now (e ∷ es) pending first stable t c base le image =
    inr (counts_now es pending (after_end e.end e.writes.items first) stable (t - (length e.writes.items + 1)) c base (omega arith) image)

pub only_now : (es : List Epoch) (pending : List Write) (first stable c : Areas) → stable_after es first ≡ stable
    → LeftSince es pending first (moment_of es pending) c → Image pending stable c
unfolding stable_after moment_of LeftSince
only_now [] pending first stable c base left = subst (λ s. Image pending s c) base (from_last pending first c left)
only_now (e ∷ es) pending first stable c base left =
    let n = length e.writes.items in
    let m = moment_of es pending in
    let rest : n + 1 + m - (n + 1) ≡ m = omega arith in
    let next = after_end e.end e.writes.items first in
    ⊎_elim (λ here. absurd (past_end e.writes.items first (n + 1 + m) c (omega arith) here))
    (λ later. only_now es pending next stable c base (subst (λ t. LeftSince es pending next t c) rest later)) left
