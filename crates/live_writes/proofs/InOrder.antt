-- The first refusal of a list, from what each of them is.
use Rattle.std.proofs.Common.{◌≡◌, ℕ, Bool, true, false, cond, Option, Some, None, [], ◌∷◌, is_some, refl}
use Rattle.delf_model.specs.declared.call.Refusal.{Refusal}
use Rattle.delf_model.specs.State.{State}
use Rattle.std.specs.Option.{option_or}
use Rattle.delf_model.specs.Reply.{absent, condemned, first_refusal, job_taken, job_taken_if}
use Rattle.live_writes.specs.History.{ends_refusals}

pub stop : (a rest : Option Refusal) (r : Refusal) → Some r ≡ a → Some r ≡ option_or a rest
stop None rest r is = absurd (cc is)
stop (Some x) rest r is = is

pub skip : (a rest x : Option Refusal) → None ≡ a → x ≡ rest → x ≡ option_or a rest
skip None rest x none is = is
skip (Some r) rest x none is = absurd (cc none)

pub only : (a x : Option Refusal) → x ≡ a → x ≡ option_or a None
only None x is = is
only (Some r) x is = is

-- the refusals of both ends before further ones

four_stop : (a b c d rest : Option Refusal) (r : Refusal) → Some r ≡ first_refusal (a ∷ b ∷ c ∷ d ∷ []) →
    Some r ≡ option_or a (option_or b (option_or c (option_or d rest)))
four_stop (Some x) b c d rest r is = is
four_stop None (Some x) c d rest r is = is
four_stop None None (Some x) d rest r is = is
four_stop None None None (Some x) rest r is = is
four_stop None None None None rest r is = absurd (cc is)

four_skip : (a b c d rest x : Option Refusal) → None ≡ first_refusal (a ∷ b ∷ c ∷ d ∷ []) → x ≡ rest →
    x ≡ option_or a (option_or b (option_or c (option_or d rest)))
four_skip (Some r) b c d rest x none is = absurd (cc none)
four_skip None (Some r) c d rest x none is = absurd (cc none)
four_skip None None (Some r) d rest x none is = absurd (cc none)
four_skip None None None (Some r) rest x none is = absurd (cc none)
four_skip None None None None rest x none is = is

pub ends_stop : (s : State) (from to : ℕ) (rest : Option Refusal) (r : Refusal) → Some r ≡ first_refusal (ends_refusals s from to) →
    Some r ≡ option_or (absent s from) (option_or (absent s to) (option_or (condemned s from) (option_or (condemned s to) rest)))
ends_stop s from to rest r is = four_stop (absent s from) (absent s to) (condemned s from) (condemned s to) rest r is

pub ends_skip : (s : State) (from to : ℕ) (rest x : Option Refusal) → None ≡ first_refusal (ends_refusals s from to) → x ≡ rest →
    x ≡ option_or (absent s from) (option_or (absent s to) (option_or (condemned s from) (option_or (condemned s to) rest)))
ends_skip s from to rest x none is = four_skip (absent s from) (absent s to) (condemned s from) (condemned s to) rest x none is

-- a name counts only where the call starts a job

pub taken_where : (starts : Bool) (s : State) (name : ℕ) (x : Option Refusal) → true ≡ starts → x ≡ job_taken s name → x ≡ job_taken_if starts s name
taken_where true s name x is more = more
taken_where false s name x is more = absurd (cc is)

pub taken_nowhere : (starts : Bool) (s : State) (name : ℕ) → false ≡ starts → None ≡ job_taken_if starts s name
taken_nowhere true s name is = absurd (cc is)
taken_nowhere false s name is = refl

pub is_some-cond : {A : Type 0} (b : Bool) (x : A) → b ≡ is_some (cond b (Some x) None)
is_some-cond true x = refl
is_some-cond false x = refl
