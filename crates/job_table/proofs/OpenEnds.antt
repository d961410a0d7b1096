-- The counts of unhandled object items as items come and are handled, and what a count of 0 says.
use Rattle.std.proofs.Common.{◌≡◌, ℕ, ◌+◌, ◌-◌, ◌<◌, ◌≤◌, Bool, true, false, cond, not, ◌&&◌, ◌||◌, List, [], ◌∷◌, ◌++◌, map, length, get_or, Option, Some, None, is_some, refl, sym, ap, ◌∙◌, arith}
use Rattle.std.specs.Prelude.{nat_eq, count_by, is_none, unwrap_or}
use Rattle.std.proofs.lemmas.Bool.Decides.{nat_tests}
use Rattle.std.proofs.lemmas.List.Sums.{sum_by-cons, sum_by_push, count_by-le-length}
use Rattle.delf_model.specs.declared.rows.Item.{Item}
use Rattle.delf_model.specs.declared.rows.Item.TheVariants.{Object, Edge}
use Rattle.delf_model.specs.State.{Logged, Handled}
use Rattle.delf_model.specs.Step.{unhandled, handled_at}
use Rattle.delf_model.specs.Legal.{is_end_item, is_handled_end, end_handled}
use Rattle.job_table.specs.declared.items.Kept.{Kept}
use Rattle.job_table.specs.Parts.{logged_of}
use Rattle.job_table.specs.Ends.{end_key, key_of_item, is_key, is_open_end, EndsFit}
use Rattle.job_table.proofs.Places.{get_map, map_length}
use Rattle.job_table.proofs.Tallying.{sum_handled}

-- a count that is one more, or one less, at one number

unwrapped : (b : Bool) (n : ℕ) (o : Option ℕ) → unwrap_or (cond b (Some n) o) 0 ≡ cond b n (unwrap_or o 0)
unwrapped true n o = refl
unwrapped false n o = refl

pub counted_more : (key n : ℕ) (before after : ℕ → Option ℕ) (o : Option ℕ) → Some key ≡ o → n ≡ unwrap_or (before key) 0 → ((q : ℕ) → after q ≡ cond (nat_eq key q) (Some (n + 1)) (before q)) →
    (q : ℕ) → unwrap_or (after q) 0 ≡ unwrap_or (before q) 0 + cond (is_key q o) 1 0
counted_more key n before after o k e up q =
    ap (λ (p : Option ℕ). unwrap_or p 0) (up q) ∙ unwrapped (nat_eq key q) (n + 1) (before q) ∙ go (nat_eq key q) refl ∙ ap (λ (p : Option ℕ). unwrap_or (before q) 0 + cond (is_key q p) 1 0) k
  where
    go : (b : Bool) → nat_eq key q ≡ b → cond b (n + 1) (unwrap_or (before q) 0) ≡ unwrap_or (before q) 0 + cond b 1 0
    go true h = let same : key ≡ q = grind (arith, nat_tests, h) in let is : n ≡ unwrap_or (before q) 0 = e ∙ ap (λ (m : ℕ). unwrap_or (before m) 0) same in omega (arith, is)
    go false h = omega arith

pub counted_less : (key n : ℕ) (before after : ℕ → Option ℕ) (o : Option ℕ) (left : Bool) → Some key ≡ o → left ≡ true → n ≡ unwrap_or (before key) 0 → 0 < n → ((q : ℕ) → after q ≡ cond (nat_eq key q) (Some (n - 1)) (before q)) →
    (q : ℕ) → unwrap_or (after q) 0 + cond (is_key q o && left) 1 0 ≡ unwrap_or (before q) 0
counted_less key n before after o left k l e some up q =
    ap (λ (p : Option ℕ). unwrap_or p 0 + cond (is_key q o && left) 1 0) (up q) ∙ ap (λ (m : ℕ). m + cond (is_key q o && left) 1 0) (unwrapped (nat_eq key q) (n - 1) (before q))
    ∙ ap (λ (p : Option ℕ). cond (nat_eq key q) (n - 1) (unwrap_or (before q) 0) + cond (is_key q p && left) 1 0) (sym k)
    ∙ ap (λ (b : Bool). cond (nat_eq key q) (n - 1) (unwrap_or (before q) 0) + cond (nat_eq key q && b) 1 0) l ∙ go (nat_eq key q) refl
  where
    go : (b : Bool) → nat_eq key q ≡ b → cond b (n - 1) (unwrap_or (before q) 0) + cond (b && true) 1 0 ≡ unwrap_or (before q) 0
    go true h = let same : key ≡ q = grind (arith, nat_tests, h) in let is : n ≡ unwrap_or (before q) 0 = e ∙ ap (λ (m : ℕ). unwrap_or (before m) 0) same in omega (arith, is, some)
    go false h = omega arith

pub counted_same : (n : ℕ) (o : Option ℕ) (left : Bool) (q : ℕ) → left ≡ false → n + cond (is_key q o && left) 1 0 ≡ n
counted_same n o left q l = ap (λ (b : Bool). n + cond (is_key q o && b) 1 0) l ∙ go (is_key q o)
  where
    go : (b : Bool) → n + cond (b && false) 1 0 ≡ n
    go true = omega arith
    go false = omega arith

pub none_there : (n q : ℕ) (o : Option ℕ) (left : Bool) → None ≡ o → n + cond (is_key q o && left) 1 0 ≡ n
none_there n q o left e = ap (λ (p : Option ℕ). n + cond (is_key q p && left) 1 0) (sym e) ∙ omega arith

pub some_there : (key : ℕ) (o : Option ℕ) (left : Bool) → Some key ≡ o → left ≡ true → (is_key key o && left) ≡ true
some_there key o left k l = ap (λ (p : Option ℕ). is_key key p && left) (sym k) ∙ ap (λ (b : Bool). nat_eq key key && b) l ∙ grind (arith, nat_tests)

-- the part with one item more, and with one handled

and_true : (b : Bool) → ◌≡◌ {A = ℕ} (cond (b && true) 1 0) (cond b 1 0)
and_true true = refl
and_true false = refl

and_false : (b : Bool) → ◌≡◌ {A = ℕ} (cond (b && false) 1 0) 0
and_false true = refl
and_false false = refl

pub pushed_ends : (xs after : List Logged) (it : Item) (count count' : ℕ → Option ℕ) (room room' spare : ℕ) → EndsFit xs count room spare → after ≡ xs ++ unhandled it ∷ [] →
    ((key : ℕ) → unwrap_or (count' key) 0 ≡ unwrap_or (count key) 0 + cond (is_key key (key_of_item it)) 1 0) → room ≤ room' + 1 → 0 < spare → EndsFit after count' room' (spare - 1)
pushed_ends xs after it count count' room room' spare fit a up r some = record {
  counts = λ key.
      let one = and_true (is_key key (key_of_item it)) in
      let all = sum_by_push (λ x. cond (is_open_end key x) 1 0) xs (unhandled it) in
      let was = fit.counts key in
      let u = up key in
      let is : unwrap_or (count' key) 0 ≡ count_by (is_open_end key) (xs ++ unhandled it ∷ []) = omega (arith, one, all, was, u) in
      is ∙ ap (count_by (is_open_end key)) (sym a);
  ends_spare = omega (arith, fit.ends_spare, r, some);
}

pub ends_fit : (xs : List Logged) (count : ℕ → Option ℕ) (room spare : ℕ) → EndsFit xs count room spare → length xs + 1 < 4294967296 → (key : ℕ) → unwrap_or (count key) 0 + 1 < 4294967296
ends_fit xs count room spare fit l key = omega (arith, fit.counts key, count_by-le-length (is_open_end key) xs, l)

module _ (kept : List Kept) (i : ℕ) (old : Kept) (l : i < length kept) (e : old ≡ get_or kept i old) (count : ℕ → Option ℕ) (room spare : ℕ) (fit : EndsFit (map logged_of kept) count room spare) where
  there : i < length (map logged_of kept)
  there = omega (arith, l, map_length logged_of kept)

  at : logged_of old ≡ get_or (map logged_of kept) i (logged_of old)
  at = ap logged_of e ∙ sym (get_map logged_of kept i old)

  pub one_open : (key : ℕ) → is_open_end key (logged_of old) ≡ true → 0 < unwrap_or (count key) 0
  one_open key t =
      let one : ◌≡◌ {A = ℕ} (cond (is_open_end key (logged_of old)) 1 0) 1 = ap (λ (b : Bool). cond b 1 0) t in
      let all = (sum_handled (λ x. cond (is_open_end key x) 1 0) (map logged_of kept) i (logged_of old) (record { put = 0; cause = None }) there at).1 in
      let is = fit.counts key in
      omega (arith, one, all, is)

  pub handled_ends : (after : List Logged) (how : Handled) (count' : ℕ → Option ℕ) (room' : ℕ) → after ≡ handled_at (map logged_of kept) i how → ((key : ℕ) → unwrap_or (count' key) 0 + cond (is_open_end key (logged_of old)) 1 0 ≡ unwrap_or (count key) 0) →
      room ≤ room' + 1 → 0 < spare → EndsFit after count' room' (spare - 1)
  handled_ends after how count' room' a down r some = record {
    counts = λ key.
        let none = and_false (is_key key (key_of_item old.item)) in
        let all = (sum_handled (λ x. cond (is_open_end key x) 1 0) (map logged_of kept) i (logged_of old) how there at).0 in
        let was = fit.counts key in
        let d = down key in
        let is : unwrap_or (count' key) 0 ≡ count_by (is_open_end key) (handled_at (map logged_of kept) i how) = omega (arith, none, all, was, d) in
        is ∙ ap (count_by (is_open_end key)) (sym a);
    ends_spare = omega (arith, fit.ends_spare, r, some);
  }

pub reserved_ends : (xs ys : List Logged) (count count' : ℕ → Option ℕ) (room room' spare spare' : ℕ) → EndsFit xs count room spare → ys ≡ xs → ((key : ℕ) → count' key ≡ count key) → spare' ≤ room' → EndsFit ys count' room' spare'
reserved_ends xs ys count count' room room' spare spare' fit e same r = record {
  counts = λ key. ap (λ (o : Option ℕ). unwrap_or o 0) (same key) ∙ fit.counts key ∙ ap (count_by (is_open_end key)) (sym e);
  ends_spare = r;
}

-- where no object item with the number of a job and a birth is open, each of them is handled

module _ (job birth key : ℕ) (is : key ≡ end_key job birth) where
  closed : (id : ℕ) (x : Logged) → is_open_end key x ≡ false → is_handled_end job id birth x ≡ true
  closed id x h = go x.item (is_some x.handled) (is_none x.handled) (told x.handled) h
    where
      told : (o : Option Handled) → is_none o ≡ not (is_some o)
      told None = refl
      told (Some how) = refl

      or_true : (b : Bool) → (b || true) ≡ true
      or_true true = refl
      or_true false = refl

      object : (a b c : Bool) (other born : ℕ) → nat_eq other job ≡ a → nat_eq born birth ≡ c → nat_eq (end_key other born) key ≡ false → (not (a && b && c) || false) ≡ true
      object false b c other born f g n = refl
      object true false c other born f g n = refl
      object true true false other born f g n = refl
      object true true true other born f g n =
          let same : end_key other born ≡ key = let p : other ≡ job = grind (arith, nat_tests, f) in let q : born ≡ birth = grind (arith, nat_tests, g) in ap (λ (m : ℕ). end_key m born) p ∙ ap (end_key job) q ∙ sym is in
          absurd (grind (arith, nat_tests, same, n))

      and_is : (b : Bool) → (b && true) ≡ false → b ≡ false
      and_is true g = absurd (cc g)
      and_is false g = refl

      go : (it : Item) (s n : Bool) → n ≡ not s → (is_key key (key_of_item it) && n) ≡ false → (not (is_end_item job id birth it) || s) ≡ true
      go (Edge other row a b) s n t f = refl
      go (Object other row) true n t f = or_true (not (is_end_item job id birth (Object other row)))
      go (Object other row) false n t f =
          object (nat_eq other job) (nat_eq row.id id) (nat_eq row.birth birth) other row.birth refl refl (and_is (nat_eq (end_key other row.birth) key) (ap (λ (m : Bool). nat_eq (end_key other row.birth) key && m) (sym t) ∙ f))

  pub none_open : (id : ℕ) (xs : List Logged) → count_by (is_open_end key) xs ≡ 0 → end_handled xs job id birth ≡ true
  none_open id [] h = refl
  none_open id (x ∷ xs) h = go (is_open_end key x) refl (sum_by-cons (λ y. cond (is_open_end key y) 1 0) x xs) (none_open id xs)
    where
      go : (b : Bool) → is_open_end key x ≡ b → count_by (is_open_end key) (x ∷ xs) ≡ cond b 1 0 + count_by (is_open_end key) xs → (count_by (is_open_end key) xs ≡ 0 → end_handled xs job id birth ≡ true) →
          (is_handled_end job id birth x && end_handled xs job id birth) ≡ true
      go true f c more = absurd (omega (arith, c, h))
      go false f c more = let rest : count_by (is_open_end key) xs ≡ 0 = omega (arith, c, h) in ap (λ (b : Bool). b && end_handled xs job id birth) (closed id x f) ∙ more rest
