-- The steps and the calls in the form in which the lock's functions owe them.
use Rattle.std.proofs.Common.{◌≡◌, ℕ, ◌+◌, ◌-◌, ◌%◌, ◌^◌, ◌<◌, ◌≤◌, Bool, true, false, Option, Some, None, IsSome, List, [], ◌∷◌, ◌++◌, length, sym, refl, ap, ◌∙◌, subst, arith, max, length-append, if◌then◌else◌, nat_le}
use mathlib.Core.Option.{none, some, some-injective}
use lib.ListN.{get_elem?}
use Rattle.std.specs.List.{Contains}
use Rattle.std.proofs.lemmas.List.Elements.{Contains-append_right}
use Rattle.atomic_table.specs.Table.{State, Me, step, Allows, Joins, Final, Seen, opening, rest}
use Rattle.atomic_table.specs.declared.shared.Seat.{Seat}
use Rattle.seat_lock.specs.declared.view.Moment.{Moment}
use Rattle.seat_lock.specs.declared.view.View.{View}
use Rattle.seat_lock.specs.declared.view.Stage.{Stage}
use Rattle.seat_lock.specs.declared.view.Stage.TheVariants.{Idle, Waiting, Turn}
use Rattle.seat_lock.specs.Views.{made_by, moment, later, staged, sees, leaves, took_turn, rooted, joined_root, gone, out_of, IsOrdered}
use Rattle.seat_lock.specs.Promises.{NoneFrom, OnlyMade, IsNext, Grows, Closes}
use Rattle.std.specs.Global.{Box}
use Rattle.seat_lock.specs.Boxes.{in_box}
use Rattle.seat_lock.specs.Turns.{Kept}
use Rattle.seat_lock.specs.Plays.{passed, rang, learned, Looked, looked, raised}
use Rattle.seat_lock.proofs.Steps.{looks, raises, passes, rings, learns}
use Rattle.seat_lock.proofs.Seats.{begins, joins, closes}

longest : {S : Type 0} (f : Moment S → ℕ) (a b : Moment S) (t : Bool) → f a ≤ f (if t then b else a) → f b ≤ f (if t then b else a) → max (f a) (f b) ≡ f (if t then b else a)
longest f a b true p q = omega arith
longest f a b false p q = omega arith

module _ {S E : Type 0} where
  pub restaged_order : (follows : S → S → Type 0) (v : View S E) (stage : Stage) → IsOrdered follows v → IsOrdered follows (staged v stage)
  restaged_order follows v stage o = record { rising = o.rising; highest = o.highest }

  -- the list that a joined root has seen is the longer one
  pub joined_count : (entries : S → List E) (follows : S → S → Type 0) → ((s t : S) → follows s t → (more : List E) × (entries s ≡ entries t ++ more))
      → (v w : View S E) → IsOrdered follows (joined_root v w) → max (length (entries v.seen.state)) (length (entries w.seen.state)) ≡ length (entries (later v.seen w.seen).state)
  joined_count entries follows grows v w o =
      longest (λ (m : Moment S). length (entries m.state)) v.seen w.seen (nat_le v.seen.at w.seen.at) (below v.seen (has v.seen (0, omega arith, refl))) (below w.seen (has w.seen (1, omega arith, refl)))
    where
      has : (m : Moment S) → Contains (v.seen ∷ w.seen ∷ []) m → Contains ((v.remembers ++ w.remembers) ++ v.seen ∷ w.seen ∷ []) m
      has m h = Contains-append_right (v.remembers ++ w.remembers) (v.seen ∷ w.seen ∷ []) m h

      below : (m : Moment S) → Contains ((v.remembers ++ w.remembers) ++ v.seen ∷ w.seen ∷ []) m → length (entries m.state) ≤ length (entries (later v.seen w.seen).state)
      below m h =
          let g = grows (later v.seen w.seen).state m.state (o.highest m h) in
          let l = ap (λ (es : List E). length es) g.1 in
          let a = length-append (entries m.state) g.0 in
          omega arith

module _ {T S E : Type 0} (state : T → S) (entries : S → List E) (maker : E → Option ℕ) (follows : S → S → Type 0) where
  -- what is said of the value on the heap
  pub unboxed_next : (v : View S E) (b : Box T) → IsNext (in_box state) entries maker follows v b → IsNext state entries maker follows v b.value
  unboxed_next v b h = record { later = h.later; own = h.own }

  pub unboxed_closes : (start : S) (v : View S E) (b : Box T) → Closes (in_box state) entries maker follows start v b → Closes state entries maker follows start v b.value
  unboxed_closes start v b h = record { later = h.later; own = h.own; joined = h.joined; elder = h.elder; unborn = h.unborn }

  -- the hand after the slot was written
  pub handed : (m m' : Me (Option T) (View S E)) (y : T) → m.1 ≡ (0, None) ∷ [] → m' ≡ (m.0, (0, Some y) ∷ rest m.1) → m' ≡ (m.0, (0, Some y) ∷ [])
  handed m m' y empty e = e ∙ ap (λ (hand : List (ℕ × Option T)). (m.0, (0, Some y) ∷ rest hand)) empty

  pub begins_of : ((s : S) → follows s s) → (first : ℕ) (x : T) (start : S) (count : ℕ) (words bells : List ℕ) (slots : List (Option T)) → start ≡ state x → count ≡ length (entries (state x))
      → words ≡ count ∷ 0 ∷ 0 ∷ bells → slots ≡ Some x ∷ [] → NoneFrom maker first (entries (state x)) → first < 2 ^ 32
      → Kept state entries maker follows first start (opening words slots (rooted first start))
  begins_of itself first x start count words bells slots same counted laid held fresh small =
      subst (λ (k : S). Kept state entries maker follows first k (opening words slots (rooted first k))) (sym same)
      (subst (λ (ws : List ℕ). Kept state entries maker follows first (state x) (opening ws slots (rooted first (state x)))) (sym (laid ∙ ap (λ (n : ℕ). n ∷ 0 ∷ 0 ∷ bells) counted))
      (subst (λ (xs : List (Option T)). Kept state entries maker follows first (state x) (opening (length (entries (state x)) ∷ 0 ∷ 0 ∷ bells) xs (rooted first (state x)))) (sym held)
      (begins state entries maker follows first (state x) itself x bells refl fresh small)))

  -- a seat that has just looked for its turn and found it knows what it finds
  pub found_next : (v : View S E) (t : ℕ) (x : T) → IsNext state entries maker follows (staged v (Waiting t)) x → IsNext state entries maker follows v x
  found_next v t x h = record { later = h.later; own = h.own }

  module _ (first : ℕ) (start : S) where
    abbrev Rule : State (Option T) (View S E) → Type 0
    Rule s = Kept state entries maker follows first start s

    pub looks_at : (slots id : ℕ) (m : Me (Option T) (View S E)) (v : View S E) (t : ℕ) → m ≡ (staged v (Waiting t), []) → v.live ≡ true
        → Allows Rule slots id m 2 (λ n. n) (looked state entries maker follows (step 0 0 0 0 none) m)
    looks_at slots id m v t e live =
        looks state entries maker follows first start slots id m t (ap (λ (x : Me (Option T) (View S E)). x.0.live) e ∙ live) (ap (λ (x : Me (Option T) (View S E)). x.0.stage) e)

    pub raises_at : ((s : S) → follows s s) → ((s t u : S) → follows s t → follows t u → follows s u)
        → (slots id : ℕ) (m : Me (Option T) (View S E)) (v : View S E) (t : ℕ) (y : T) (more : ℕ) → m ≡ (v, (0, Some y) ∷ []) → v.live ≡ true → v.stage ≡ Turn t
        → follows (state y) v.seen.state → OnlyMade maker v.number (entries v.seen.state) (entries (state y))
        → length (entries v.seen.state) + more ≡ length (entries (state y)) → length (entries (state y)) < 2 ^ 64
        → Allows Rule slots id m 0 (λ n. (n + more) % 2 ^ 64) (raised state entries maker follows (step 0 0 0 0 none) m)
    raises_at itself chain slots id m v t y more e live turn next only count fits =
        subst (λ (x : Me (Option T) (View S E)). Allows Rule slots id x 0 (λ n. (n + more) % 2 ^ 64) (raised state entries maker follows (step 0 0 0 0 none) x)) (sym e)
        (raises state entries maker follows first start itself chain slots id (v, (0, Some y) ∷ []) t y more live turn refl next only count fits)

    pub passes_at : (slots id : ℕ) (m : Me (Option T) (View S E)) (v : View S E) (t : ℕ) (y : T) → m ≡ (v, (0, Some y) ∷ []) → v.live ≡ true → v.stage ≡ Turn t → state y ≡ v.seen.state
        → Allows Rule slots id m 2 (λ n. (n + 1) % 2 ^ 64) (passed (step 0 0 0 0 none) m)
    passes_at slots id m v t y e live turn same =
        subst (λ (x : Me (Option T) (View S E)). Allows Rule slots id x 2 (λ n. (n + 1) % 2 ^ 64) (passed (step 0 0 0 0 none) x)) (sym e)
        (passes state entries maker follows first start slots id (v, (0, Some y) ∷ []) t y live turn refl same)

    pub rings_at : (slots id : ℕ) (m : Me (Option T) (View S E)) (bell ticket : ℕ) → bell ≡ 3 + ticket % 32 → Allows Rule slots id m bell (λ n. (n + 1) % 2 ^ 64) (rang (step 0 0 0 0 none) m)
    rings_at slots id m bell ticket e =
        subst (λ (i : ℕ). Allows Rule slots id m i (λ n. (n + 1) % 2 ^ 64) (rang (step 0 0 0 0 none) m)) (sym e) (rings state entries maker follows first start slots id m (ticket % 32))

    pub learns_at : (slots id : ℕ) (m : Me (Option T) (View S E)) (v : View S E) (hand : List (ℕ × Option T)) → m ≡ (v, hand) → v.live ≡ true
        → Allows Rule slots id m 0 (λ n. n) (learned follows (step 0 0 0 0 none) m)
    learns_at slots id m v hand e live = learns state entries maker follows first start slots id m (ap (λ (x : Me (Option T) (View S E)). x.0.live) e ∙ live)

    pub joins_of : (id : ℕ) (v : View S E) (place other : Seat (Option T) (View S E)) (blank : S) → other ≡ place → v.live ≡ true → v.stage ≡ Idle → 0 < v.next
        → place.me.0.live ≡ true → place.me.0.stage ≡ Idle → Joins Rule id v other.id other.me.0 (joined_root v other.me.0) (gone blank)
    joins_of id v place other blank e live free above live' free' =
        joins state entries maker follows first start id other.id v other.me.0 blank live free above
        (ap (λ (p : Seat (Option T) (View S E)). p.me.0.live) e ∙ live') (ap (λ (p : Seat (Option T) (View S E)). p.me.0.stage) e ∙ free')

    pub closes_of : (place other : Seat (Option T) (View S E)) (ws : List ℕ) (xs : List (Option T)) → other ≡ place → place.me.0.live ≡ true → place.me.0.stage ≡ Idle → 0 < place.me.0.next
        → place.me.0.number + 1 + length place.me.0.joined ≤ place.me.0.next → out_of place.me.0 ≡ 0 → Final (Seen Rule other.id other.me.0) ws xs
        → (x : T) × (get_elem? xs 0 ≡ some (Some x)) × Closes state entries maker follows start place.me.0 x
    closes_of place other ws xs e live free above tally empty final =
        closes state entries maker follows first start place.id place.me.0 ws xs live free above (omega arith)
        (subst (λ (p : Seat (Option T) (View S E)). Final (Seen Rule p.id p.me.0) ws xs) e final)

  -- the value that was taken out is the one that closes
  pub closed_value : (start : S) (v : View S E) (xs : List (Option T)) (taken : Option T) (y : T) → (x : T) × (get_elem? xs 0 ≡ some (Some x)) × Closes state entries maker follows start v x
      → get_elem? xs 0 ≡ some taken → taken ≡ Some y → Closes state entries maker follows start v y
  closed_value start v xs taken y c e f =
      let p : Some c.0 ≡ Some y = some-injective (Some c.0) (Some y) (sym c.1 ∙ (e ∙ ap some f)) in
      let same : c.0 ≡ y = cc in
      subst (λ (x : T). Closes state entries maker follows start v x) same c.2

  pub closed_some : (start : S) (v : View S E) (xs : List (Option T)) (taken : Option T) → (x : T) × (get_elem? xs 0 ≡ some (Some x)) × Closes state entries maker follows start v x
      → get_elem? xs 0 ≡ some taken → IsSome taken
  closed_some start v xs taken c e = subst (λ (o : Option T). IsSome o) (some-injective (Some c.0) taken (sym c.1 ∙ e)) refl

  -- the hand after the state of its value was left
  pub left_at : (m m' : Me (Option T) (View S E)) (v : View S E) (y : T) (r : ℕ) → m ≡ (v, (0, Some y) ∷ []) → raised state entries maker follows (step 0 0 0 0 none) m r m'
      → (at : ℕ) × (m' ≡ (leaves v (moment at (state y)) (made_by maker v.number (entries (state y))), (0, Some y) ∷ [])) × IsOrdered follows m'.0
  left_at m m' v y r e told =
      let h = told y (ap (λ (x : Me (Option T) (View S E)). x.1) e) in
      (h.left.0, subst (λ (x : Me (Option T) (View S E)). m' ≡ (leaves x.0 (moment h.left.0 (state y)) (made_by maker x.0.number (entries (state y))), x.1)) e h.left.1, h.ordered)

  -- what the seat has after it passed the turn
  pub passed_at : (m m' m'' : Me (Option T) (View S E)) (v : View S E) (y : T) (r : ℕ) → m ≡ (v, (0, Some y) ∷ []) → raised state entries maker follows (step 0 0 0 0 none) m r m'
      → m'' ≡ (staged m'.0 Idle, []) → (at : ℕ) × (m'' ≡ (staged (leaves v (moment at (state y)) (made_by maker v.number (entries (state y)))) Idle, []))
  passed_at m m' m'' v y r e told p =
      let h = left_at m m' v y r e told in
      (h.0, p ∙ ap (λ (x : Me (Option T) (View S E)). (staged x.0 Idle, [])) h.1)

  pub passed_order : (m m' m'' : Me (Option T) (View S E)) (v : View S E) (y : T) (r : ℕ) → m ≡ (v, (0, Some y) ∷ []) → raised state entries maker follows (step 0 0 0 0 none) m r m'
      → m'' ≡ (staged m'.0 Idle, []) → IsOrdered follows m''.0
  passed_order m m' m'' v y r e told p =
      subst (λ (x : Me (Option T) (View S E)). IsOrdered follows x.0) (sym p) (restaged_order follows m'.0 Idle (left_at m m' v y r e told).2)

  -- a look that found the turn
  abbrev pub Hit : View S E → ℕ → Me (Option T) (View S E) → Type 0
  Hit v t m' = (x : T) × (at : ℕ) × IsNext state entries maker follows v x × (m' ≡ (sees (staged v (Turn t)) (moment at (state x)), (0, Some x) ∷ []))

  looked_at : (m m' : Me (Option T) (View S E)) (v : View S E) (t r : ℕ) → m ≡ (staged v (Waiting t), []) → looked state entries maker follows (step 0 0 0 0 none) m r m'
      → Looked state entries maker follows t (staged v (Waiting t), []) r m'
  looked_at m m' v t r e told =
      subst (λ (x : Me (Option T) (View S E)). Looked state entries maker follows t x r m') e (told t (ap (λ (x : Me (Option T) (View S E)). x.0.stage) e))

  pub hit_at : (m m' : Me (Option T) (View S E)) (v : View S E) (t r number : ℕ) → m ≡ (staged v (Waiting t), []) → number ≡ t % 2 ^ 64 → r ≡ number
      → looked state entries maker follows (step 0 0 0 0 none) m r m' → Hit v t m'
  hit_at m m' v t r number e ticket same told =
      let h = (looked_at m m' v t r e told).hit (same ∙ ticket) in
      (h.0, h.1, found_next v t h.0 h.2, h.3)

  pub miss_at : (m m' : Me (Option T) (View S E)) (v : View S E) (t r number : ℕ) → m ≡ (staged v (Waiting t), []) → number ≡ t % 2 ^ 64 → (r ≡ number → ⊥)
      → looked state entries maker follows (step 0 0 0 0 none) m r m' → m' ≡ (staged v (Waiting t), [])
  miss_at m m' v t r number e ticket other told = (looked_at m m' v t r e told).miss (λ h. other (h ∙ sym ticket))

  pub hit_holds : (v : View S E) (t : ℕ) (m : Me (Option T) (View S E)) → Hit v t m → (o : Option T) × (m.1 ≡ (0, o) ∷ rest m.1)
  hit_holds v t m h = (Some h.0, subst (λ (x : Me (Option T) (View S E)). x.1 ≡ (0, Some h.0) ∷ rest x.1) (sym h.3) refl)

  hit_is : (v : View S E) (t : ℕ) (m : Me (Option T) (View S E)) (o : Option T) (h : Hit v t m) → m.1 ≡ (0, o) ∷ rest m.1 → Some h.0 ≡ o
  hit_is v t m o h e =
      let p : (0, Some h.0) ∷ [] ≡ (0, o) ∷ rest m.1 = sym (ap (λ (x : Me (Option T) (View S E)). x.1) h.3) ∙ e in
      let pair : ◌≡◌ {A = ℕ × Option T} (0, Some h.0) (0, o) = cc in
      ap (λ (x : ℕ × Option T). x.1) pair

  pub hit_some : (v : View S E) (t : ℕ) (m : Me (Option T) (View S E)) (o : Option T) → Hit v t m → m.1 ≡ (0, o) ∷ rest m.1 → IsSome o
  hit_some v t m o h e = subst (λ (x : Option T). IsSome x) (hit_is v t m o h e) refl

  hit_value : (v : View S E) (t : ℕ) (m : Me (Option T) (View S E)) (o : Option T) (y : T) (h : Hit v t m) → m.1 ≡ (0, o) ∷ rest m.1 → o ≡ Some y → h.0 ≡ y
  hit_value v t m o y h e f = let p : Some h.0 ≡ Some y = hit_is v t m o h e ∙ f in cc

  pub hit_next : (v : View S E) (t : ℕ) (m : Me (Option T) (View S E)) (o : Option T) (y : T) → Hit v t m → m.1 ≡ (0, o) ∷ rest m.1 → o ≡ Some y → IsNext state entries maker follows v y
  hit_next v t m o y h e f = subst (λ (x : T). IsNext state entries maker follows v x) (hit_value v t m o y h e f) h.2

  pub hit_found : (v : View S E) (t : ℕ) (m m' : Me (Option T) (View S E)) (o : Option T) (y : T) → Hit v t m → m.1 ≡ (0, o) ∷ rest m.1 → o ≡ Some y → m' ≡ (m.0, (0, None) ∷ rest m.1)
      → (k : ℕ) × (at : ℕ) × (m' ≡ (sees (staged v (Turn k)) (moment at (state y)), (0, None) ∷ []))
  hit_found v t m m' o y h e f p =
      (t, h.1, p ∙ (ap (λ (x : Me (Option T) (View S E)). (x.0, (0, None) ∷ rest x.1)) h.3 ∙ ap (λ (x : T). (sees (staged v (Turn t)) (moment h.1 (state x)), (0, None) ∷ [])) (hit_value v t m o y h e f)))

  -- the list that a joined root has seen is as long as what was kept of it
  pub joined_seen : ((s t : S) → follows s t → (more : List E) × (entries s ≡ entries t ++ more)) → (v : View S E) (other place : Seat (Option T) (View S E)) (m m' : Me (Option T) (View S E)) (hand : List (ℕ × Option T)) (a b sum : ℕ)
      → other ≡ place → m ≡ (joined_root v other.me.0, hand) → m' ≡ m → IsOrdered follows m.0 → a ≡ length (entries v.seen.state) → b ≡ length (entries place.me.0.seen.state) → sum ≡ max a b
      → sum ≡ length (entries m'.0.seen.state)
  joined_seen grows v other place m m' hand a b sum same both still ordered counted counted' is =
      let o = subst (λ (x : Me (Option T) (View S E)). IsOrdered follows x.0) both ordered in
      let q = joined_count entries follows grows v other.me.0 o in
      let d : b ≡ length (entries other.me.0.seen.state) = counted' ∙ ap (λ (p : Seat (Option T) (View S E)). length (entries p.me.0.seen.state)) (sym same) in
      is ∙ (ap (λ (n : ℕ). max n b) counted ∙ (ap (λ (n : ℕ). max (length (entries v.seen.state)) n) d ∙ (q ∙ ap (λ (x : Me (Option T) (View S E)). length (entries x.0.seen.state)) (sym (still ∙ both)))))

  -- what the holder of the turn leaves is longer than what it found
  pub grown_count : ((s t : S) → follows s t → (more : List E) × (entries s ≡ entries t ++ more)) → (n before after : ℕ) (x y : T) → Grows state entries maker follows n x y
      → before ≡ length (entries (state x)) → after ≡ length (entries (state y)) → before ≤ after
  grown_count grows n before after x y h a b =
      let g = grows (state y) (state x) h.later in
      let l = ap (λ (es : List E). length es) g.1 in
      let m = length-append (entries (state x)) g.0 in
      omega arith

module _ {T U S E : Type 0} (state : T → S) (entries : S → List E) (maker : E → Option ℕ) (follows : S → S → Type 0) where
  -- what the holder of the turn leaves follows what it found, and is as much longer as was counted
  pub grown_later : (m : Me (Option U) (View S E)) (v : View S E) (t at n : ℕ) (x y : T) (hand : List (ℕ × Option U)) → m ≡ (sees (staged v (Turn t)) (moment at (state x)), hand) → Grows state entries maker follows n x y → follows (state y) m.0.seen.state
  grown_later m v t at n x y hand e h = subst (λ (z : S). follows (state y) z) (sym (ap (λ (q : Me (Option U) (View S E)). q.0.seen.state) e)) h.later

  pub grown_only : (m : Me (Option U) (View S E)) (v : View S E) (t at : ℕ) (x y : T) (hand : List (ℕ × Option U)) → m ≡ (sees (staged v (Turn t)) (moment at (state x)), hand) → Grows state entries maker follows v.number x y
      → OnlyMade maker m.0.number (entries m.0.seen.state) (entries (state y))
  grown_only m v t at x y hand e h = subst (λ (q : Me (Option U) (View S E)). OnlyMade maker q.0.number (entries q.0.seen.state) (entries (state y))) (sym e) h.only

  pub grown_sum : (m : Me (Option U) (View S E)) (v : View S E) (t at before after : ℕ) (x y : T) (hand : List (ℕ × Option U)) → m ≡ (sees (staged v (Turn t)) (moment at (state x)), hand)
      → before ≡ length (entries (state x)) → after ≡ length (entries (state y)) → before ≤ after → length (entries m.0.seen.state) + (after - before) ≡ length (entries (state y))
  grown_sum m v t at before after x y hand e a b le =
      let s = ap (λ (q : Me (Option U) (View S E)). length (entries q.0.seen.state)) e in
      omega arith

  -- what a seat knows after its turn
  pub turn_view : (m m' : Me (Option U) (View S E)) (v : View S E) (t a b : ℕ) (x y : T) (hand hand' : List (ℕ × Option U)) → v.stage ≡ Idle → m ≡ (sees (staged v (Turn t)) (moment a (state x)), hand)
      → m' ≡ (staged (leaves m.0 (moment b (state y)) (made_by maker m.0.number (entries (state y)))) Idle, hand')
      → m'.0 ≡ took_turn v (moment a (state x)) (moment b (state y)) (made_by maker v.number (entries (state y)))
  turn_view m m' v t a b x y hand hand' idle e e' =
      ap (λ (q : Me (Option U) (View S E)). q.0) e'
      ∙ (ap (λ (q : Me (Option U) (View S E)). staged (leaves q.0 (moment b (state y)) (made_by maker q.0.number (entries (state y)))) Idle) e
      ∙ ap (λ (stage : Stage). staged (took_turn v (moment a (state x)) (moment b (state y)) (made_by maker v.number (entries (state y)))) stage) (sym idle))
