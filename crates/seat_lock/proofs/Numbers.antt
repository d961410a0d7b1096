-- What an added number does to a list of seat numbers.
use Rattle.std.proofs.Common.{◌≡◌, ◌≢◌, ℕ, Bool, true, false, cond, List, [], ◌∷◌, ◌++◌, Some, refl, sym, ap, ◌∙◌, subst, arith, eqb, eq-eqb, ne_eqb, append-nil, replicate}
use Rattle.std.proofs.lemmas.List.Elements.{filter-append}
use Rattle.std.specs.List.{Contains}
use Rattle.seat_lock.specs.declared.view.View.{View}
use Rattle.seat_lock.specs.Views.{made_by, is_maker, rooted, split_root, split_off, joined_root}
use Rattle.seat_lock.specs.Lists.{StartsWith, StartsWith-itself, with_added}

pub StartsWith-with_added : {A : Type 0} (added : Bool) (x : A) (xs : List A) → StartsWith (with_added added x xs) xs
StartsWith-with_added true x xs = (x ∷ [], refl)
StartsWith-with_added false x xs = StartsWith-itself xs

made_by-snoc : (k n : ℕ) (xs : List ℕ) → made_by Some k (xs ++ n ∷ []) ≡ made_by Some k xs ++ cond (eqb n k) (n ∷ []) []
made_by-snoc k n xs = filter-append (λ (e : ℕ). is_maker k (Some e)) xs (n ∷ [])

pub made_by-with_added_other : (added : Bool) (k n : ℕ) (xs : List ℕ) → k ≢ n → made_by Some k (with_added added n xs) ≡ made_by Some k xs
made_by-with_added_other true k n xs ne =
    made_by-snoc k n xs ∙ (ap (λ (b : Bool). made_by Some k xs ++ cond b (n ∷ []) []) (ne_eqb n k (λ e. ne (sym e))) ∙ append-nil (made_by Some k xs))
made_by-with_added_other false k n xs ne = refl

pub made_by-with_added_own : (added : Bool) (n : ℕ) (xs : List ℕ) → made_by Some n (with_added added n xs) ≡ with_added added n (made_by Some n xs)
made_by-with_added_own true n xs = made_by-snoc n n xs ∙ ap (λ (b : Bool). made_by Some n xs ++ cond b (n ∷ []) []) (eq-eqb n n refl)
made_by-with_added_own false n xs = refl

-- a list to which a number was added follows the one before, and only that number has new entries
pub added_starts : (added : Bool) (n : ℕ) (xs ys : List ℕ) → ys ≡ with_added added n xs → StartsWith ys xs
added_starts added n xs ys e = subst (λ (l : List ℕ). StartsWith l xs) (sym e) (StartsWith-with_added added n xs)

pub added_only : (added : Bool) (n m : ℕ) (xs ys : List ℕ) → ys ≡ with_added added n xs → n ≡ m → (k : ℕ) → k ≢ m → made_by Some k ys ≡ made_by Some k xs
added_only added n m xs ys e same k ne = ap (λ (l : List ℕ). made_by Some k l) e ∙ made_by-with_added_other added k n xs (λ h. ne (h ∙ same))

pub added_own : (added : Bool) (n : ℕ) (xs ys : List ℕ) → ys ≡ with_added added n xs → made_by Some n ys ≡ with_added added n (made_by Some n xs)
added_own added n xs ys e = ap (λ (l : List ℕ). made_by Some n l) e ∙ made_by-with_added_own added n xs

-- a root that two seats were joined into knows the numbers and the entries of both
pub joined_both : {S E : Type 0} (v w a b : View S E) → v.joined ≡ [] → w ≡ joined_root (joined_root v a) b → Contains w.joined (a.number, a.made) × Contains w.joined (b.number, b.made)
joined_both {S} {E} v w a b none e =
    let js : List (ℕ × List E) = ((a.number, a.made) ∷ []) ++ (b.number, b.made) ∷ [] in
    let same : w.joined ≡ js = ap (λ (x : View S E). x.joined) e ∙ ap (λ (l : List (ℕ × List E)). (l ++ (a.number, a.made) ∷ []) ++ (b.number, b.made) ∷ []) none in
    subst (λ (l : List (ℕ × List E)). Contains l (a.number, a.made) × Contains l (b.number, b.made)) (sym same) ((0, omega arith, refl), (1, omega arith, refl))

-- what stands in the list of one seat
pub listed : (list made before : List ℕ) (k n number own : ℕ) → made_by Some number list ≡ made → made ≡ before ++ replicate n own → number ≡ k → own ≡ k → before ≡ [] → made_by Some k list ≡ replicate n k
listed list made before k n number own e f same same' none =
    ap (λ (i : ℕ). made_by Some i list) (sym same) ∙ (e ∙ (f ∙ (ap (λ (l : List ℕ). l ++ replicate n own) none ∙ ap (λ (i : ℕ). replicate n i) same')))

-- two seats were split from the root r of number 0, each added its number some times, and both were joined
pub both_listed : (list start : List ℕ) (r s t u w a b one two : View (List ℕ) ℕ) (n m : ℕ) → r ≡ rooted 0 start → s ≡ split_root r → one ≡ split_off r → t ≡ split_root s → two ≡ split_off s
    → a.made ≡ one.made ++ replicate n one.number → a.number ≡ one.number → b.made ≡ two.made ++ replicate m two.number → b.number ≡ two.number → u ≡ joined_root t a → w ≡ joined_root u b
    → ((p : ℕ × List ℕ) → Contains w.joined p → made_by Some p.0 list ≡ p.1) → (made_by Some 1 list ≡ replicate n 1) × (made_by Some 2 list ≡ replicate m 2)
both_listed list start r s t u w a b one two n m root first split_one second split_two made number made' number' join_one join_two closed =
    let joined : t.joined ≡ [] = ap (λ (x : View (List ℕ) ℕ). x.joined) (second ∙ (ap split_root first ∙ ap (λ (x : View (List ℕ) ℕ). split_root (split_root x)) root)) in
    let both = joined_both t w a b joined (join_two ∙ ap (λ (x : View (List ℕ) ℕ). joined_root x b) join_one) in
    let one_is = split_one ∙ ap split_off root in
    let two_is = split_two ∙ ap split_off (first ∙ ap split_root root) in
    let one_number = ap (λ (x : View (List ℕ) ℕ). x.number) one_is in
    let two_number = ap (λ (x : View (List ℕ) ℕ). x.number) two_is in (
      listed list a.made one.made 1 n a.number one.number (closed (a.number, a.made) both.0) made (number ∙ one_number) one_number (ap (λ (x : View (List ℕ) ℕ). x.made) one_is),
      listed list b.made two.made 2 m b.number two.number (closed (b.number, b.made) both.1) made' (number' ∙ two_number) two_number (ap (λ (x : View (List ℕ) ℕ). x.made) two_is),
    )
