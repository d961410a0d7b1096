-- The first state, and a seat that is split off, joined or closed, keep the rule.
use Rattle.std.proofs.Common.{◌≡◌, ◌≢◌, ℕ, ◌+◌, ◌^◌, ◌<◌, ◌≤◌, ◌⊎◌, Bool, true, false, Option, Some, List, [], ◌∷◌, ◌++◌, length, set, sym, refl, ap, ◌∙◌, inl, inr, ⊎_elim, subst, arith, if◌then◌else◌, length-set, length-append, nat_le}
use mathlib.Core.Option.{some}
use mathlib.Core.Logic.{dite}
use native.Mathlib.Decide.{ℕ_discrete}
use lib.ListN.{get_elem?}
use Rattle.std.specs.List.{Contains}
use Rattle.std.proofs.lemmas.List.Elements.{Contains-push_cases, Contains-append_cases}
use Rattle.std.proofs.lemmas.Bool.Decides.{nat_tests}
use Rattle.atomic_table.specs.Table.{State, opening, Splits, Joins, Final, Seen}
use Rattle.atomic_table.proofs.Lists.{at_set, set_here, set_else, at_longer}
use Rattle.seat_lock.specs.declared.view.Moment.{Moment}
use Rattle.seat_lock.specs.declared.view.View.{View}
use Rattle.seat_lock.specs.declared.view.Stage.{Stage}
use Rattle.seat_lock.specs.declared.view.Stage.TheVariants.{Idle, Waiting, Turn}
use Rattle.seat_lock.specs.Views.{made_by, moment, later, ticket, rooted, split_root, split_off, joined_root, gone}
use Rattle.seat_lock.specs.Promises.{NoneFrom, Closes}
use Rattle.seat_lock.specs.Turns.{Course, ticket_count, HasTurn, FitsStage, IsCourse, Fits, Kept}
use Rattle.seat_lock.proofs.Lists.{at_below, one_at, at_snoc_index, total-set, total-snoc, total-two, carried}
use Rattle.seat_lock.proofs.Moves.{live_count}

module _ {A : Type 0} where
  -- one element is changed, and one comes behind all
  seats_grow : (P : ℕ → A → Type 0) (l : List A) (i : ℕ) (a b : A) → P i a → P (length l) b → ((j : ℕ) (u : A) → j ≢ i → get_elem? l j ≡ some u → P j u)
      → (j : ℕ) (u : A) → get_elem? (set l i a ++ b ∷ []) j ≡ some u → P j u
  seats_grow P l i a b here behind others j u e = ⊎_elim
      (λ t. ⊎_elim (λ p. carried P i j a u p.0 p.1 here) (λ p. others j u p.0 p.1) (at_set l i j a u t.1))
      (λ t. carried P (length l) j b u (t.0 ∙ length-set l i a) t.1 behind)
      (at_snoc_index (set l i a) b u j e)

  -- two elements are changed
  seats_two : (P : ℕ → A → Type 0) (l : List A) (i k : ℕ) (a b : A) → P i a → P k b → ((j : ℕ) (u : A) → j ≢ i → j ≢ k → get_elem? l j ≡ some u → P j u)
      → (j : ℕ) (u : A) → get_elem? (set (set l i a) k b) j ≡ some u → P j u
  seats_two P l i k a b here there others j u e = ⊎_elim
      (λ t. carried P k j b u t.0 t.1 there)
      (λ t. ⊎_elim (λ p. carried P i j a u p.0 p.1 here) (λ p. others j u p.0 t.0 p.1) (at_set l i j a u t.1))
      (at_set (set l i a) k j b u e)

  only_one : (a b : A) (i : ℕ) → get_elem? (a ∷ []) i ≡ some b → (i ≡ 0) × (a ≡ b)
  only_one a b i e = ⊎_elim (λ t. let h : i < 0 = t.0 in absurd (omega arith)) (λ t. t) (at_snoc_index [] a b i e)

  none_in : (a : A) → Contains [] a → ⊥
  none_in a h = let p : h.0 < 0 = h.1 in omega arith

live_or_not : (b : Bool) → (b ≡ true) ⊎ (b ≡ false)
live_or_not true = inl refl
live_or_not false = inr refl

module _ {S : Type 0} where
  -- what holds of two moments holds of the later one, which is at neither's place or past it
  later_is : (P : Moment S → Type 0) (a b : Moment S) → P a → P b → P (later a b)
  later_is P a b pa pb = elim (nat_le a.at b.at) as (λ (t : Bool). P (if t then b else a)) [ true ↦ pb | false ↦ pa ]

  later_least : (a b : Moment S) → (a.at ≤ (later a b).at) × (b.at ≤ (later a b).at)
  later_least a b = least (nat_le a.at b.at) refl
    where
      least : (t : Bool) → nat_le a.at b.at ≡ t → (a.at ≤ (let m : Moment S = if t then b else a in m.at)) × (b.at ≤ (let m : Moment S = if t then b else a in m.at))
      least true e = (grind (arith, nat_tests), omega arith)
      least false e = (omega arith, grind (arith, nat_tests))

module _ {S E : Type 0} where
  -- what is said of a stage reads only the tickets and the clock
  restand : (c c' : Course S E) (seen : Moment S) (stage : Stage) → c'.served ≡ c.served → c'.drawn ≡ c.drawn → c'.clock ≡ c.clock → FitsStage c seen stage → FitsStage c' seen stage
  restand c c' seen Idle a b d f = tt
  restand c c' seen (Waiting t) a b d f = let x : c.served ≤ t = f.0 in let y : t < c.drawn = f.1 in (omega arith, omega arith)
  restand c c' seen (Turn t) a b d f = let x : t ≡ c.served = f.0 in let y : t < c.drawn = f.1 in (omega arith, omega arith, f.2 ∙ sym d)

  -- the seat j with the view u had its ticket before
  abbrev Holder : List (View S E) → ℕ → View S E → Type 0
  Holder views j u = (t : ℕ) → ticket u.stage ≡ Some t → (x : View S E) × (get_elem? views j ≡ some x) × (ticket x.stage ≡ Some t)

module _ {T S E : Type 0} (state : T → S) (entries : S → List E) (maker : E → Option ℕ) (follows : S → S → Type 0) (first : ℕ) (start : S) where
  abbrev Rule : State (Option T) (View S E) → Type 0
  Rule s = Kept state entries maker follows first start s

  abbrev first_course : Course S E
  first_course = record { log = start ∷ []; now = start; clock = 0; served = 0; drawn = 0; limit = first + 1; joined = [] }

  abbrev first_view : View S E
  first_view = rooted first start

  first_past : ((s : S) → follows s s) → IsCourse follows first_course
  first_past itself = record {
    long = refl;
    last = refl;
    ordered = λ i j a b le e f.
        let p = (only_one start a i e).1 in let q = (only_one start b j f).1 in
        subst (λ (x : S). follows x a) q (subst (λ (x : S). follows start x) p (itself start));
  }

  first_fits : NoneFrom maker first (entries start) → Fits entries maker first first_course 0 first_view
  first_fits fresh = record {
    numbered = omega arith;
    seen = refl;
    remembers = λ m h. ⊎_elim
        (λ old. absurd (none_in m old))
        (λ e. subst (λ (x : Moment S). (get_elem? (start ∷ []) x.at ≡ some x.state) × (x.at ≤ 0)) e (refl, omega arith))
        (Contains-push_cases [] (moment 0 start) m h);
    own = fresh first (omega arith);
    root = λ z. (refl, refl);
    others = λ h. absurd (omega arith);
    unjoined = λ p h. absurd (none_in p h);
  }

  pub begins : ((s : S) → follows s s) → (x : T) (bells : List ℕ) → state x ≡ start → NoneFrom maker first (entries start) → first < 2 ^ 32
      → Rule (opening (length (entries start) ∷ 0 ∷ 0 ∷ bells) (Some x ∷ []) (rooted first start))
  begins itself x bells same fresh small = record {
    course = first_course;
    bells = bells;
    words = refl;
    deep = refl;
    queued = refl;
    given = refl;
    few = omega arith;
    rooted = (first_view, refl, refl);
    out = refl;
    past = first_past itself;
    stages = λ i v e. subst (λ (u : View S E). FitsStage first_course u.seen u.stage) (only_one first_view v i e).1 tt;
    seats = λ i v e live. carried (Fits entries maker first first_course) 0 i first_view v (only_one first_view v i e).0 (only_one first_view v i e).1 (first_fits fresh);
    idle = λ i v e off. ap (λ (u : View S E). u.stage) (sym (only_one first_view v i e).1);
    apart = λ i j t v w e f g h. (only_one first_view v i e).0 ∙ sym (only_one first_view w j f).0;
    home = λ free. (x, refl, same);
    numbers = record {
      joined = λ p h. absurd (none_in p h);
      elder = λ n below. refl;
      unborn = λ n above. fresh n (omega arith);
    };
  }

  -- a seat that knows a next number is the first
  root_index : (s : State (Option T) (View S E)) (k : Rule s) (id : ℕ) (v : View S E) → get_elem? s.views id ≡ some v → v.live ≡ true → 0 < v.next → id ≡ 0
  root_index s k id v at live above =
      dite (ℕ_discrete id 0) (λ e. e) (λ ne. let z : v.next ≡ 0 = (k.seats id v at live).others (omega arith) in absurd (omega arith))

  abbrev longer_limit : Course S E → Course S E
  longer_limit c = record c { limit = c.limit + 1 }

  split_fits : (s : State (Option T) (View S E)) (k : Rule s) (id : ℕ) (v : View S E) → get_elem? s.views id ≡ some v → v.live ≡ true → 0 < v.next
      → Fits entries maker first (longer_limit k.course) id (split_root v)
  split_fits s k id v at live above =
      let f = k.seats id v at live in
      let i = root_index s k id v at live above in
      record {
        numbered = f.numbered;
        seen = f.seen;
        remembers = f.remembers;
        own = f.own;
        root = λ z. (ap (λ (n : ℕ). n + 1) (f.root z).0, (f.root z).1);
        others = λ h. absurd (omega arith);
        unjoined = f.unjoined;
      }

  new_fits : (s : State (Option T) (View S E)) (k : Rule s) (id : ℕ) (v : View S E) → get_elem? s.views id ≡ some v → v.live ≡ true → 0 < v.next
      → Fits entries maker first (longer_limit k.course) (length s.views) (split_off v)
  new_fits s k id v at live above =
      let f = k.seats id v at live in
      let limit : v.next ≡ k.course.limit = (f.root (root_index s k id v at live above)).0 in
      record {
        numbered = limit ∙ k.given;
        seen = f.seen;
        remembers = λ m h. ⊎_elim
            (λ old. absurd (none_in m old))
            (λ e. subst (λ (x : Moment S). (get_elem? k.course.log x.at ≡ some x.state) × (x.at ≤ v.seen.at)) e (f.seen, omega arith))
            (Contains-push_cases [] v.seen m h);
        own = k.numbers.unborn v.next (omega arith);
        root = λ z. absurd (let b = at_below s.views id v at in omega arith);
        others = λ h. refl;
        unjoined = λ p h e. let b : p.0 < k.course.limit = (k.numbers.joined p h).0 in omega arith;
      }

  other_fits : (s : State (Option T) (View S E)) (k : Rule s) (j : ℕ) (u : View S E) → j ≢ 0 → get_elem? s.views j ≡ some u → u.live ≡ true → Fits entries maker first (longer_limit k.course) j u
  other_fits s k j u ne e on =
      let f = k.seats j u e on in
      record { numbered = f.numbered; seen = f.seen; remembers = f.remembers; own = f.own; root = λ z. absurd (ne z); others = f.others; unjoined = f.unjoined }

  splits_kept : (s : State (Option T) (View S E)) (k : Rule s) (id : ℕ) (v : View S E) → get_elem? s.views id ≡ some v → v.live ≡ true → 0 < v.next → v.next < 2 ^ 32
      → Rule (record { words = s.words; homes = s.homes; views = set s.views id (split_root v) ++ split_off v ∷ [] })
  splits_kept s k id v at live above small = record {
    course = longer_limit c;
    bells = k.bells;
    words = k.words;
    deep = k.deep;
    queued = (
        let h = total-set (λ (u : View S E). ticket_count u.stage) s.views id v (split_root v) at in
        let l = total-snoc (λ (u : View S E). ticket_count u.stage) (set s.views id (split_root v)) (split_off v) in
        let q = k.queued in omega arith
        );
    given = (let g = k.given in let l = length-append (set s.views id (split_root v)) (split_off v ∷ []) in let n = length-set s.views id (split_root v) in omega arith);
    few = (let l : v.next ≡ c.limit = (f.root index).0 in omega arith);
    rooted = (split_root v, subst (λ (n : ℕ). get_elem? views' n ≡ some (split_root v)) index (at_longer (set s.views id (split_root v)) (split_off v ∷ []) id (split_root v) (set_here s.views id (split_root v) (at_below s.views id v at))), live);
    out = (
        let h = total-set (λ (u : View S E). if u.live then 1 else 0) s.views id v (split_root v) at in
        let l = total-snoc (λ (u : View S E). if u.live then 1 else 0) (set s.views id (split_root v)) (split_off v) in
        let m = length-append (set s.views id (split_root v)) (split_off v ∷ []) in let n = length-set s.views id (split_root v) in
        let o = k.out in omega arith
        );
    past = record { long = k.past.long; last = k.past.last; ordered = k.past.ordered };
    stages = seats_grow (λ j u. FitsStage (longer_limit c) u.seen u.stage) s.views id (split_root v) (split_off v)
        (restand c (longer_limit c) v.seen v.stage refl refl refl (k.stages id v at))
        tt
        (λ j u ne e. restand c (longer_limit c) u.seen u.stage refl refl refl (k.stages j u e));
    seats = seats_grow (λ j u. u.live ≡ true → Fits entries maker first (longer_limit c) j u) s.views id (split_root v) (split_off v)
        (λ on. split_fits s k id v at live above)
        (λ on. new_fits s k id v at live above)
        (λ j u ne e on. other_fits s k j u (λ z. ne (z ∙ sym index)) e on);
    idle = seats_grow (λ j u. u.live ≡ false → u.stage ≡ Idle) s.views id (split_root v) (split_off v)
        (λ off. k.idle id v at off)
        (λ off. refl)
        (λ j u ne e off. k.idle j u e off);
    apart = λ i j t x y e g h l.
        let a = held i x e t h in let b = held j y g t l in
        k.apart i j t a.0 b.0 a.1 b.1 a.2 b.2;
    home = λ free. k.home (λ i u e. dite (ℕ_discrete i id)
        (λ same h. free i (split_root v)
        (at_longer (set s.views id (split_root v)) (split_off v ∷ []) i (split_root v) (subst (λ (n : ℕ). get_elem? (set s.views id (split_root v)) n ≡ some (split_root v)) (sym same) (set_here s.views id (split_root v) (at_below s.views id v at))))
        (h.0, ap (λ (x : View S E). x.stage) (one_at s.views id i v u at e (sym same)) ∙ h.1))
        (λ ne. free i u (at_longer (set s.views id (split_root v)) (split_off v ∷ []) i u (set_else s.views id i (split_root v) ne ∙ e))));
    numbers = record {
      joined = λ p h. let b : p.0 < c.limit = (k.numbers.joined p h).0 in (omega arith, (k.numbers.joined p h).1);
      elder = k.numbers.elder;
      unborn = λ n h. k.numbers.unborn n (omega arith);
    };
  }
    where
      c : Course S E
      c = k.course

      f : Fits entries maker first k.course id v
      f = k.seats id v at live

      index : id ≡ 0
      index = root_index s k id v at live above

      views' : List (View S E)
      views' = set s.views id (split_root v) ++ split_off v ∷ []

      held : (j : ℕ) (u : View S E) → get_elem? (set s.views id (split_root v) ++ split_off v ∷ []) j ≡ some u → Holder s.views j u
      held = seats_grow (Holder s.views) s.views id (split_root v) (split_off v)
          (λ t h. (v, at, h))
          (λ t h. absurd (cc))
          (λ j u ne e t h. (u, e, h))

  pub splits : (id : ℕ) (v : View S E) → v.live ≡ true → 0 < v.next → v.next < 2 ^ 32 → Splits Rule id v (split_root v) (split_off v)
  splits id v live above small s k at = splits_kept s k id v at live above small

  abbrev one_joined : Course S E → View S E → Course S E
  one_joined c w = record c { joined = c.joined ++ (w.number, w.made) ∷ [] }

  -- a seat at another place has another number
  numbers_apart : (s : State (Option T) (View S E)) (k : Rule s) (i j : ℕ) (v w : View S E) → i ≢ j → get_elem? s.views i ≡ some v → v.live ≡ true → get_elem? s.views j ≡ some w → w.live ≡ true → v.number ≢ w.number
  numbers_apart s k i j v w ne at live at' live' same =
      let a : v.number ≡ first + i = (k.seats i v at live).numbered in
      let b : w.number ≡ first + j = (k.seats j w at' live').numbered in
      ne (omega arith)

  -- a seat other than the root and the joined one
  stays_fits : (s : State (Option T) (View S E)) (k : Rule s) (j other : ℕ) (u w : View S E) → j ≢ 0 → j ≢ other → get_elem? s.views j ≡ some u → u.live ≡ true → get_elem? s.views other ≡ some w → w.live ≡ true
      → Fits entries maker first (one_joined k.course w) j u
  stays_fits s k j other u w ne apart e on at live =
      let f = k.seats j u e on in
      record {
        numbered = f.numbered;
        seen = f.seen;
        remembers = f.remembers;
        own = f.own;
        root = λ z. absurd (ne z);
        others = f.others;
        unjoined = λ p h. ⊎_elim
            (λ old. f.unjoined p old)
            (λ q z. numbers_apart s k other j w u (λ o. apart (sym o)) at live e on (ap (λ (x : ℕ × List E). x.0) q ∙ z))
            (Contains-push_cases k.course.joined (w.number, w.made) p h);
      }

  joined_fits : (s : State (Option T) (View S E)) (k : Rule s) (id other : ℕ) (v w : View S E) → other ≢ id → get_elem? s.views id ≡ some v → v.live ≡ true → 0 < v.next → get_elem? s.views other ≡ some w → w.live ≡ true
      → Fits entries maker first (one_joined k.course w) id (joined_root v w)
  joined_fits s k id other v w ne at live above at' live' =
      let f = k.seats id v at live in
      let g = k.seats other w at' live' in
      let least = later_least v.seen w.seen in
      record {
        numbered = f.numbered;
        seen = later_is (λ (m : Moment S). get_elem? k.course.log m.at ≡ some m.state) v.seen w.seen f.seen g.seen;
        remembers = λ m h. ⊎_elim
            (λ old. ⊎_elim
            (λ a. let r = f.remembers m a in let p : m.at ≤ v.seen.at = r.1 in let q = least.0 in (r.0, omega arith))
            (λ b. let r = g.remembers m b in let p : m.at ≤ w.seen.at = r.1 in let q = least.1 in (r.0, omega arith))
            (Contains-append_cases v.remembers w.remembers m old))
            (λ seen. ⊎_elim
            (λ a. ⊎_elim
            (λ none. absurd (none_in m none))
            (λ e. subst (λ (x : Moment S). (get_elem? k.course.log x.at ≡ some x.state) × (x.at ≤ (later v.seen w.seen).at)) e (f.seen, least.0))
            (Contains-push_cases [] v.seen m a))
            (λ e. subst (λ (x : Moment S). (get_elem? k.course.log x.at ≡ some x.state) × (x.at ≤ (later v.seen w.seen).at)) e (g.seen, least.1))
            (Contains-push_cases (v.seen ∷ []) w.seen m seen))
            (Contains-append_cases (v.remembers ++ w.remembers) (v.seen ∷ w.seen ∷ []) m h);
        own = f.own;
        root = λ z. ((f.root z).0, ap (λ (js : List (ℕ × List E)). js ++ (w.number, w.made) ∷ []) (f.root z).1);
        others = f.others;
        unjoined = λ p h. ⊎_elim
            (λ old. f.unjoined p old)
            (λ q z. numbers_apart s k other id w v ne at' live' at live (ap (λ (x : ℕ × List E). x.0) q ∙ z))
            (Contains-push_cases k.course.joined (w.number, w.made) p h);
      }

  joins_kept : (s : State (Option T) (View S E)) (k : Rule s) (id other : ℕ) (v w : View S E) (blank : S) → other ≢ id
      → get_elem? s.views id ≡ some v → v.live ≡ true → v.stage ≡ Idle → 0 < v.next → get_elem? s.views other ≡ some w → w.live ≡ true → w.stage ≡ Idle
      → Rule (record { words = s.words; homes = s.homes; views = set (set s.views id (joined_root v w)) other (gone blank) })
  joins_kept s k id other v w blank ne at live free above at' live' free' = record {
    course = one_joined c w;
    bells = k.bells;
    words = k.words;
    deep = k.deep;
    queued = (
        let h = total-set (λ (u : View S E). ticket_count u.stage) s.views id v both at in
        let l = total-set (λ (u : View S E). ticket_count u.stage) (set s.views id both) other w (gone blank) there in
        let t : ticket_count w.stage ≡ 0 = ap ticket_count free' in
        let q = k.queued in omega arith
        );
    given = (let g = k.given in let l = length-set (set s.views id both) other (gone blank) in let n = length-set s.views id both in omega arith);
    few = k.few;
    rooted = (
      both,
      subst (λ (n : ℕ). get_elem? (set (set s.views id both) other (gone blank)) n ≡ some both) index
          (set_else (set s.views id both) other id (gone blank) (λ o. ne (sym o)) ∙ set_here s.views id both (at_below s.views id v at)),
      live,
    );
    out = (
        let h = total-set (λ (u : View S E). if u.live then 1 else 0) s.views id v both at in
        let l = total-set (λ (u : View S E). if u.live then 1 else 0) (set s.views id both) other w (gone blank) there in
        let t = live_count w live' in
        let m = length-set (set s.views id both) other (gone blank) in let n = length-set s.views id both in
        let j = length-append c.joined ((w.number, w.made) ∷ []) in
        let o = k.out in omega arith
        );
    past = record { long = k.past.long; last = k.past.last; ordered = k.past.ordered };
    stages = seats_two (λ j u. FitsStage (one_joined c w) u.seen u.stage) s.views id other both (gone blank)
        (subst (λ (stage : Stage). FitsStage (one_joined c w) both.seen stage) (sym free) tt)
        tt
        (λ j u n m e. restand c (one_joined c w) u.seen u.stage refl refl refl (k.stages j u e));
    seats = seats_two (λ j u. u.live ≡ true → Fits entries maker first (one_joined c w) j u) s.views id other both (gone blank)
        (λ on. joined_fits s k id other v w ne at live above at' live')
        (λ on. absurd (cc))
        (λ j u n m e on. stays_fits s k j other u w (λ z. n (z ∙ sym index)) m e on at' live');
    idle = seats_two (λ j u. u.live ≡ false → u.stage ≡ Idle) s.views id other both (gone blank)
        (λ off. free)
        (λ off. refl)
        (λ j u n m e off. k.idle j u e off);
    apart = λ i j t x y e g h l.
        let a = held i x e t h in let b = held j y g t l in
        k.apart i j t a.0 b.0 a.1 b.1 a.2 b.2;
    home = λ none. k.home (λ i u e. dite (ℕ_discrete i id)
        (λ same h. let q : u.stage ≡ Turn h.0 = h.1 in let p : u.stage ≡ Idle = ap (λ (x : View S E). x.stage) (one_at s.views i id u v e at same) ∙ free in cc)
        (λ n. dite (ℕ_discrete i other)
        (λ same h. let q : u.stage ≡ Turn h.0 = h.1 in let p : u.stage ≡ Idle = ap (λ (x : View S E). x.stage) (one_at s.views i other u w e at' same) ∙ free' in cc)
        (λ m. none i u (set_else (set s.views id both) other i (gone blank) m ∙ (set_else s.views id i both n ∙ e)))));
    numbers = record {
      joined = λ p h. ⊎_elim
          (λ old. k.numbers.joined p old)
          (λ q. subst (λ (x : ℕ × List E). (x.0 < c.limit) × (made_by maker x.0 (entries c.now) ≡ x.1)) q (below, (k.seats other w at' live').own))
          (Contains-push_cases c.joined (w.number, w.made) p h);
      elder = k.numbers.elder;
      unborn = k.numbers.unborn;
    };
  }
    where
      c : Course S E
      c = k.course

      both : View S E
      both = joined_root v w

      index : id ≡ 0
      index = root_index s k id v at live above

      there : get_elem? (set s.views id (joined_root v w)) other ≡ some w
      there = set_else s.views id other (joined_root v w) ne ∙ at'

      below : w.number < k.course.limit
      below = let n : w.number ≡ first + other = (k.seats other w at' live').numbered in let g = k.given in let b = at_below s.views other w at' in omega arith

      held : (j : ℕ) (u : View S E) → get_elem? (set (set s.views id (joined_root v w)) other (gone blank)) j ≡ some u → Holder s.views j u
      held = seats_two (Holder s.views) s.views id other (joined_root v w) (gone blank)
          (λ t h. (v, at, h))
          (λ t h. absurd (cc))
          (λ j u n m e t h. (u, e, h))

  pub joins : (id other : ℕ) (v w : View S E) (blank : S) → v.live ≡ true → v.stage ≡ Idle → 0 < v.next → w.live ≡ true → w.stage ≡ Idle → Joins Rule id v other w (joined_root v w) (gone blank)
  joins id other v w blank live free above live' free' s k at ne there = joins_kept s k id other v w blank ne at live free above (sym (set_else s.views id other (joined_root v w) ne) ∙ there) live' free'

  -- where no seat is out but the root, none has the turn
  alone : (s : State (Option T) (View S E)) (k : Rule s) (id : ℕ) (v : View S E) → get_elem? s.views id ≡ some v → v.live ≡ true → v.stage ≡ Idle → 0 < v.next → v.number + 1 + length v.joined ≡ v.next
      → (i : ℕ) (u : View S E) → get_elem? s.views i ≡ some u → ¬ HasTurn u
  alone s k id v at live free above all i u e h =
      let q : u.stage ≡ Turn h.0 = h.1 in
      dite (ℕ_discrete i id)
      (λ same. let p : u.stage ≡ Idle = ap (λ (x : View S E). x.stage) (one_at s.views i id u v e at same) ∙ free in cc)
      (λ ne. ⊎_elim
      (λ on.
      let f = k.seats id v at live in
      let index = root_index s k id v at live above in
      let r = f.root index in
      let limit : v.next ≡ k.course.limit = r.0 in
      let j : length v.joined ≡ length k.course.joined = ap (λ (js : List (ℕ × List E)). length js) r.1 in
      let number : v.number ≡ first + id = f.numbered in
      let two = total-two (λ (x : View S E). if x.live then 1 else 0) s.views i id u v ne e at in
      let a = live_count u on in let b = live_count v live in
      let g = k.given in let o = k.out in
      absurd (omega arith))
      (λ off. let p : u.stage ≡ Idle = k.idle i u e off in cc)
      (live_or_not u.live))

  pub closes : (id : ℕ) (v : View S E) (ws : List ℕ) (xs : List (Option T)) → v.live ≡ true → v.stage ≡ Idle → 0 < v.next → v.number + 1 + length v.joined ≡ v.next → Final (Seen Rule id v) ws xs
      → (x : T) × (get_elem? xs 0 ≡ some (Some x)) × Closes state entries maker follows start v x
  closes id v ws xs live free above all final =
      let s = final.0 in
      let k = final.1.0 in
      let at = final.1.1 in
      let h = k.home (alone s k id v at live free above all) in
      (h.0, final.4 0 (Some h.0) h.1, closes_at s k id v h.0 at live above h.2)
    where
      closes_at : (s : State (Option T) (View S E)) (k : Rule s) (id : ℕ) (v : View S E) (x : T) → get_elem? s.views id ≡ some v → v.live ≡ true → 0 < v.next → state x ≡ k.course.now → Closes state entries maker follows start v x
      closes_at s k id v x at live above same =
          let f = k.seats id v at live in
          let index = root_index s k id v at live above in
          let r = f.root index in
          let number : v.number ≡ first + id = f.numbered in
          let limit : v.next ≡ k.course.limit = r.0 in
          let below = at_below k.course.log v.seen.at v.seen.state f.seen in
          record {
            later = subst (λ (y : S). follows y v.seen.state) (sym same) (k.past.ordered v.seen.at k.course.clock v.seen.state k.course.now (let l : length k.course.log ≡ k.course.clock + 1 = k.past.long in omega arith) f.seen k.past.last);
            own = ap (λ (y : S). made_by maker v.number (entries y)) same ∙ f.own;
            joined = λ p h. ap (λ (y : S). made_by maker p.0 (entries y)) same ∙ (k.numbers.joined p (subst (λ (js : List (ℕ × List E)). Contains js p) r.1 h)).1;
            elder = λ n b. ap (λ (y : S). made_by maker n (entries y)) same ∙ k.numbers.elder n (omega arith);
            unborn = λ n b. ap (λ (y : S). made_by maker n (entries y)) same ∙ k.numbers.unborn n (omega arith);
          }
