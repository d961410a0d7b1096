-- The three laws of what may come after a standing.
use Rattle.std.proofs.Common.{◌≡◌, ℕ, zero, suc, ◌<◌, ◌≤◌, List, [], ◌∷◌, ◌++◌, length, take, refl, sym, ap, ◌∙◌, subst, arith, length-append, append-nil, append_assoc, ⊎_elim, inl, inr}
use Rattle.std.specs.Prelude.{slice_get}
use Rattle.std.proofs.lemmas.Option.{slice_get_past}
use Rattle.std.proofs.lemmas.List.{take-append-le}
use Rattle.std.proofs.lemmas.Bool.{cases_lt}
use Rattle.delf_disk.specs.Causes.{Rose}
use Rattle.delf_model.specs.declared.entry.Entry.{Entry}
use Rattle.delf_model.specs.Payloads.{Payloads, payloads_after}
use Rattle.delf_model.specs.RuleSet.{RuleSet}
use Rattle.delf_model.specs.State.{State, start}
use Rattle.delf_model.specs.Step.{step, run, after}
use Rattle.delf_model.proofs.Runs.{run-append}
use Rattle.store_laws.specs.Stores.{digest}
use Rattle.seat_lock.specs.Lists.{StartsWith, StartsWith-itself, StartsWith-chain}
use Rattle.delf_service.specs.declared.standing.Key.{Key}
use Rattle.delf_service.specs.declared.standing.Standing.{Standing}
use Rattle.delf_service.specs.Follows.{FitsFrom, IsDated, KeepsPayloads, LeadTo, Follows}
use Rattle.delf_service.specs.Standings.{IsPlain, payloads_of, state_at}

module _ {A : Type 0} where
  pub get_first : (xs ys : List A) (k : ℕ) → k < length xs → slice_get (xs ++ ys) k ≡ slice_get xs k
  get_first [] ys k h = absurd (omega (arith, h))
  get_first (x ∷ xs) ys zero h = refl
  get_first (x ∷ xs) ys (suc k) h = get_first xs ys k (omega (arith, h))

  pub fits_itself : (P : List A → A → Type 0) (xs : List A) → FitsFrom P (length xs) xs
  fits_itself P xs k x past at = let none = slice_get_past xs k past in absurd (cc (at, none))

  pub fits_chain : (P : List A → A → Type 0) (from : ℕ) (xs ys : List A) → StartsWith xs ys → FitsFrom P (length ys) xs → FitsFrom P from ys → FitsFrom P from xs
  fits_chain P from xs ys starts behind before k x le at =
      ⊎_elim
      (λ less.
      let same : slice_get xs k ≡ slice_get ys k = ap (λ (l : List A). slice_get l k) starts.1 ∙ get_first ys starts.0 k less in
      let first : take k xs ≡ take k ys = ap (λ (l : List A). take k l) starts.1 ∙ take-append-le k ys starts.0 (omega (arith, less)) in
      subst (λ (l : List A). P l x) (sym first) (before k x le (sym same ∙ at)))
      (λ more. behind k x more at)
      (cases_lt k (length ys))

pub keeps_itself : (history : List Entry) (e : Payloads) → KeepsPayloads history e e
keeps_itself history e = record { pairs = λ p less there. there; seals = StartsWith-itself e.seals }

-- payloads that come after those of a longer history come after those of its beginning
keeps_chain : (long short : List Entry) (a b c : Payloads) → StartsWith long short → KeepsPayloads long a b → KeepsPayloads short b c → KeepsPayloads short a c
keeps_chain long short a b c starts now before = record {
  pairs = λ p less there.
      let l = ap (λ (es : List Entry). length es) starts.1 in
      let m = length-append short starts.0 in
      before.pairs p less (now.pairs p (omega (arith, l, m, less)) there);
  seals = StartsWith-chain a.seals b.seals c.seals now.seals before.seals;
}

-- entries behind others lead on from their payloads
pub lead_chain : (s : State) (es fs : List Entry) (a b c : Payloads) → LeadTo s es a b → LeadTo (run s es) fs b c → LeadTo s (es ++ fs) a c
lead_chain s [] fs a b c first then = subst (λ (x : Payloads). LeadTo s fs x c) first then
lead_chain s (e ∷ es) fs a b c first then = (first.0, lead_chain (step s e) es fs (payloads_after digest s e first.0 a) b c first.1 then)

-- the state of a later standing is the one behind its entries
pub later_state : (t u : Standing) (key : t.key ≡ u.key) (starts : StartsWith t.history u.history) → state_at t ≡ run (state_at u) starts.0
later_state t u key starts =
    ap (λ (k : Key). after k.rules t.history) key ∙
    (ap (λ (h : List Entry). after u.key.rules h) starts.1 ∙ run-append (start u.key.rules) u.history starts.0)

pub Follows-itself : (s : Standing) → Follows s s
Follows-itself s = record {
  history = ([], sym (append-nil s.history));
  dated = λ now same. fits_itself (IsDated s.key.rules now) s.history;
  payloads = λ plain. keeps_itself s.history (payloads_of s);
  grown = λ plain. refl;
  faults = omega arith;
  cause = λ down. inl down;
  down = λ down. (down, refl);
  lanes = omega arith;
  key = refl;
}

rose_later : (a b c : ℕ) → a ≤ b → Rose b c → Rose a c
rose_later a b c le rose = omega (arith, le, rose)

rose_on : (a b c : ℕ) → b ≤ c → Rose a b → Rose a c
rose_on a b c le rose = omega (arith, le, rose)

pub Follows-chain : (s t u : Standing) → Follows s t → Follows t u → Follows s u
Follows-chain s t u p q = record {
  history = (q.history.0 ++ p.history.0, p.history.1 ∙ (ap (λ (es : List Entry). es ++ p.history.0) q.history.1 ∙ append_assoc u.history q.history.0 p.history.0));
  dated = λ now same. fits_chain (IsDated s.key.rules now) (length u.history) s.history t.history p.history (p.dated now same)
      (subst (λ (rules : RuleSet). FitsFrom (IsDated rules now) (length u.history) t.history) (sym (ap (λ (k : Key). k.rules) p.key))
      (q.dated now (sym (ap (λ (k : Key). k.moment) p.key) ∙ same)));
  payloads = λ plain. keeps_chain t.history u.history (payloads_of s) (payloads_of t) (payloads_of u) q.history (p.payloads plain)
      (q.payloads (subst (λ (k : Key). IsPlain k) p.key plain));
  grown = λ plain. lead_chain (state_at u) q.history.0 p.history.0 (payloads_of u) (payloads_of t) (payloads_of s)
      (q.grown (subst (λ (k : Key). IsPlain k) p.key plain))
      (subst (λ (x : State). LeadTo x p.history.0 (payloads_of t) (payloads_of s)) (later_state t u q.key q.history) (p.grown plain));
  faults = let a = p.faults in let b = q.faults in omega (arith, a, b);
  cause = λ down. ⊎_elim
      (λ before. ⊎_elim (λ first. inl first) (λ rose. inr (rose_on u.faults t.faults s.faults p.faults rose)) (q.cause before))
      (λ rose. inr (rose_later u.faults t.faults s.faults q.faults rose))
      (p.cause down);
  down = λ down. let first = q.down down in let then = p.down first.0 in (then.0, then.1 ∙ first.1);
  lanes = let a = p.lanes in let b = q.lanes in omega (arith, a, b);
  key = p.key ∙ q.key;
}

pub Follows-grows : (s t : Standing) → Follows s t → (rest : List Entry) × (s.history ≡ t.history ++ rest)
Follows-grows s t follows = follows.history
