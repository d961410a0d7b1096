-- A halt that came of a payload that was read.
use Rattle.std.proofs.Common.{◌≡◌, ℕ, List, ap, ◌∙◌, subst}
use Rattle.std.specs.Prelude.{Result, Ok, Err, IsErrAnd}
use Rattle.vault.specs.declared.fault.FetchFault.{FetchFault}
use Rattle.vault.specs.declared.fault.FetchFault.TheVariants.{Failed, Damaged}
use Rattle.delf_book.specs.declared.stepping.Halt.{Halt}
use Rattle.delf_book.specs.declared.stepping.Halt.TheVariants as halt
use Rattle.delf_book.specs.Stepping.{halt_of, IfHurt, IfStarved, IfWaits}

same_damage : (fault : FetchFault) (item : ℕ) (stored found : List ℕ) → halt.Damaged item stored found ≡ halt_of fault → fault ≡ Damaged item stored found
same_damage Failed item stored found is = absurd (cc is)
same_damage (Damaged other one two) item stored found is = cc

pub if_hurt : {T : Type 0} {P : ℕ → List ℕ → List ℕ → Type 0} (fault : FetchFault) (r : Result T Halt) → IsErrAnd r (λ h. h ≡ halt_of fault) →
    ((item : ℕ) (stored found : List ℕ) → fault ≡ Damaged item stored found → P item stored found) → IfHurt r P
if_hurt fault (Ok x) is tells = tt
if_hurt fault (Err halt.OutOfMemory) is tells = tt
if_hurt fault (Err halt.Failed) is tells = tt
if_hurt fault (Err (halt.Damaged item stored found)) is tells = tells item stored found (same_damage fault item stored found is)

pub at_hurt : {T : Type 0} (P : ℕ → List ℕ → List ℕ → Type 0) (r : Result T Halt) (o : Halt) (item : ℕ) (stored found : List ℕ) → r ≡ Err o → o ≡ halt.Damaged item stored found → IfHurt r P →
    P item stored found
at_hurt {T} P r o item stored found is same hurt = subst (λ (x : Result T Halt). IfHurt x P) (is ∙ ap (λ (h : Halt). Err h) same) hurt

-- what holds where memory was wanting, or an item is damaged

pub starved_is : (P : Type 0) (h : Halt) → h ≡ halt.OutOfMemory → IfStarved {T = ℕ} (Err h) P → P
starved_is P h is fact = subst (λ (x : Halt). IfStarved {T = ℕ} (Err x) P) is fact

pub waits_starved : (P : Type 0) (h : Halt) → h ≡ halt.OutOfMemory → IfWaits {T = ℕ} (Err h) P → P
waits_starved P h is fact = subst (λ (x : Halt). IfWaits {T = ℕ} (Err x) P) is fact

pub waits_hurt : (P : Type 0) (h : Halt) (item : ℕ) (stored found : List ℕ) → h ≡ halt.Damaged item stored found → IfWaits {T = ℕ} (Err h) P → P
waits_hurt P h item stored found is fact = subst (λ (x : Halt). IfWaits {T = ℕ} (Err x) P) is fact
