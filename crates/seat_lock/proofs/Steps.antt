-- The steps of a turn keep the rule: draw, look, raise, pass, and a look that tells what the rule says.
use Rattle.std.proofs.Common.{◌≡◌, ◌≢◌, ℕ, zero, suc, ◌+◌, ◌%◌, ◌^◌, ◌<◌, ◌≤◌, true, Option, Some, List, [], ◌∷◌, ◌++◌, length, set, sym, refl, ap, ◌∙◌, subst, arith, if◌then◌else◌, length-set, slice_index, length-append}
use mathlib.Core.Option.{none, some}
use mathlib.Core.Logic.{dite}
use native.Mathlib.Decide.{ℕ_discrete}
use lib.ListN.{get_elem?}
use Rattle.atomic_table.specs.Table.{State, Me, Act, step, keeps, takes, gives, Valid, carried_after, Allows, stepped}
use Rattle.atomic_table.proofs.Lists.{set_here, set_again, at_longer, at_last, one_turn}
use Rattle.seat_lock.specs.declared.view.Moment.{Moment}
use Rattle.seat_lock.specs.declared.view.View.{View}
use Rattle.seat_lock.specs.declared.view.Stage.{Stage}
use Rattle.seat_lock.specs.declared.view.Stage.TheVariants.{Idle, Waiting, Turn}
use Rattle.seat_lock.specs.Views.{made_by, moment, ticket, staged, sees, leaves, IsOrdered}
use Rattle.seat_lock.specs.Promises.{IsNext, OnlyMade}
use Rattle.seat_lock.specs.Turns.{Course, ticket_count, HasTurn, FitsStage, IsCourse, Fits, Kept}
use Rattle.seat_lock.specs.Plays.{drew, passed, rang, learned, Looked, looked, raised}
use Rattle.seat_lock.proofs.Lists.{at_below, one_at, total-below, total-at, raised-mod}
use Rattle.seat_lock.proofs.Moves.{words_of, live_count, no_turn_before, turn_is_served, waits_between, ticket_between, longer_course, restaged, refreshed, moved}

-- the words after one of the first three was raised
word_drawn : (ws bells : List ℕ) (a b c : ℕ) → ws ≡ a ∷ (b % 2 ^ 64) ∷ c ∷ bells → (a ∷ ((b + 1) % 2 ^ 64) ∷ c ∷ bells) ≡ set ws 1 ((slice_index ws 1 + 1) % 2 ^ 64)
word_drawn ws bells a b c e = ap (λ (n : ℕ). a ∷ n ∷ c ∷ bells) (sym (raised-mod b 1)) ∙ ap (λ (l : List ℕ). set l 1 ((slice_index l 1 + 1) % 2 ^ 64)) (sym e)

word_passed : (ws bells : List ℕ) (a b c : ℕ) → ws ≡ a ∷ b ∷ (c % 2 ^ 64) ∷ bells → (a ∷ b ∷ ((c + 1) % 2 ^ 64) ∷ bells) ≡ set ws 2 ((slice_index ws 2 + 1) % 2 ^ 64)
word_passed ws bells a b c e = ap (λ (n : ℕ). a ∷ b ∷ n ∷ bells) (sym (raised-mod c 1)) ∙ ap (λ (l : List ℕ). set l 2 ((slice_index l 2 + 1) % 2 ^ 64)) (sym e)

word_raised : (ws bells : List ℕ) (a b c more sum : ℕ) → ws ≡ a ∷ b ∷ c ∷ bells → a + more ≡ sum → sum < 2 ^ 64 → (sum ∷ b ∷ c ∷ bells) ≡ set ws 0 ((slice_index ws 0 + more) % 2 ^ 64)
word_raised ws bells a b c more sum e add small =
    let p : sum ≡ (a + more) % 2 ^ 64 = omega arith in
    ap (λ (n : ℕ). n ∷ b ∷ c ∷ bells) p ∙ ap (λ (l : List ℕ). set l 0 ((slice_index l 0 + more) % 2 ^ 64)) (sym e)

word_same : (ws bells : List ℕ) (a b c i : ℕ) → ws ≡ a ∷ b ∷ c ∷ bells → i < 3 → set ws i (slice_index ws i) ≡ ws
word_same ws bells a b c zero e h = ap (λ (l : List ℕ). set l 0 (slice_index l 0)) e ∙ sym e
word_same ws bells a b c (suc zero) e h = ap (λ (l : List ℕ). set l 1 (slice_index l 1)) e ∙ sym e
word_same ws bells a b c (suc (suc zero)) e h = ap (λ (l : List ℕ). set l 2 (slice_index l 2)) e ∙ sym e
word_same ws bells a b c (suc (suc (suc i))) e h = absurd (omega arith)

-- the words after a bell was rung
word_rung : (ws bells : List ℕ) (a b c k n : ℕ) → ws ≡ a ∷ b ∷ c ∷ bells → set ws (3 + k) n ≡ a ∷ b ∷ c ∷ set bells k n
word_rung ws bells a b c k n e =
    let third : 3 + k ≡ suc (suc (suc k)) = omega arith in
    ap (λ (l : List ℕ). set l (3 + k) n) e ∙ ap (λ (i : ℕ). set (a ∷ b ∷ c ∷ bells) i n) third

module _ {S E : Type 0} where
  ticket_small : (v : View S E) → ticket_count v.stage ≤ 1
  ticket_small v = small v.stage
    where
      small : (stage : Stage) → ticket_count stage ≤ 1
      small Idle = omega arith
      small (Waiting t) = omega arith
      small (Turn t) = omega arith

  idle_count : (v : View S E) → v.stage ≡ Idle → ticket_count v.stage ≡ 0
  idle_count v e = ap ticket_count e

  waiting_count : (v : View S E) (t : ℕ) → v.stage ≡ Waiting t → ticket_count v.stage ≡ 1
  waiting_count v t e = ap ticket_count e

  turn_count : (v : View S E) (t : ℕ) → v.stage ≡ Turn t → ticket_count v.stage ≡ 1
  turn_count v t e = ap ticket_count e

  -- one more ticket is drawn
  still_stands : (c : Course S E) (seen : Moment S) (stage : Stage) → FitsStage c seen stage → FitsStage (record c { drawn = c.drawn + 1 }) seen stage
  still_stands c seen Idle f = tt
  still_stands c seen (Waiting t) f = (f.0, let h : t < c.drawn = f.1 in omega arith)
  still_stands c seen (Turn t) f = (f.0, (let h : t < c.drawn = f.1 in omega arith), f.2)

  -- the served ticket, which is not this seat's, is passed
  still_waits : (c : Course S E) (seen : Moment S) (stage : Stage) → (ticket stage ≡ Some c.served → ⊥) → FitsStage c seen stage → FitsStage (record c { served = c.served + 1 }) seen stage
  still_waits c seen Idle ne f = tt
  still_waits c seen (Waiting t) ne f = ((let h : c.served ≤ t = f.0 in let n : t ≢ c.served = (λ e. ne (ap Some e)) in omega arith), f.1)
  still_waits c seen (Turn t) ne f = absurd (ne (ap Some f.0))

  -- the value has a new state, and this seat has not the turn
  still_apart : (c : Course S E) (seen : Moment S) (stage : Stage) (log : List S) (y : S) → (ticket stage ≡ Some c.served → ⊥) → FitsStage c seen stage → FitsStage (record c { log = log; now = y; clock = c.clock + 1 }) seen stage
  still_apart c seen Idle log y ne f = tt
  still_apart c seen (Waiting t) log y ne f = f
  still_apart c seen (Turn t) log y ne f = absurd (ne (ap Some f.0))

  idle_has_no_turn : (v : View S E) → v.stage ≡ Idle → ¬ HasTurn v
  idle_has_no_turn v e h = let p : v.stage ≡ Turn h.0 = h.1 in cc

  waiting_has_no_turn : (v : View S E) (t : ℕ) → v.stage ≡ Waiting t → ¬ HasTurn v
  waiting_has_no_turn v t e h = let p : v.stage ≡ Turn h.0 = h.1 in cc

module _ {T S E : Type 0} (state : T → S) (entries : S → List E) (maker : E → Option ℕ) (follows : S → S → Type 0) (first : ℕ) (start : S) where
  abbrev Rule : State (Option T) (View S E) → Type 0
  Rule s = Kept state entries maker follows first start s

  -- fewer than 2^32 tickets are out
  few_out : (s : State (Option T) (View S E)) (k : Rule s) → k.course.drawn ≤ k.course.served + 2 ^ 32
  few_out s k = let a = k.queued in let b = k.given in let c = k.few in let d = total-below (λ (v : View S E). ticket_count v.stage) ticket_small s.views in omega arith

  drew_kept : (s : State (Option T) (View S E)) (k : Rule s) (id : ℕ) (v : View S E) → get_elem? s.views id ≡ some v → v.live ≡ true → v.stage ≡ Idle
      → Rule (record { words = words_of entries (record k.course { drawn = k.course.drawn + 1 }) k.bells; homes = s.homes; views = set s.views id (staged v (Waiting k.course.drawn)) })
  drew_kept s k id v at live free =
      let c = k.course in
      moved state entries maker follows first start s k id v (staged v (Waiting c.drawn)) (record c { drawn = c.drawn + 1 }) s.homes at live live refl refl k.deep
      (let a = idle_count v free in omega arith)
      record { long = k.past.long; last = k.past.last; ordered = k.past.ordered }
      ((let q = k.queued in omega arith), omega arith)
      (λ j u ne e. still_stands c u.seen u.stage (k.stages j u e))
      (restaged entries maker first c (c.drawn + 1) c.served id v (Waiting c.drawn) (k.seats id v at live))
      (λ i a e. e)
      (λ n ne. refl)
      (λ j t u ne e h g. let b = ticket_between c u.seen u.stage t h (k.stages j u e) in let low : t < c.drawn = b.1 in let same : c.drawn ≡ t = cc in omega arith)
      (λ free'. k.home (no_turn_before s.views id v (staged v (Waiting c.drawn)) at (idle_has_no_turn v free) free'))

  pub draws : (slots id : ℕ) (m : Me (Option T) (View S E)) → m.0.live ≡ true → m.0.stage ≡ Idle → Allows Rule slots id m 1 (λ n. (n + 1) % 2 ^ 64) (drew (step 0 0 0 0 none) m)
  draws slots id m live free s k deep at small =
      let c = k.course in (
        staged m.0 (Waiting c.drawn),
        keeps,
        tt,
        subst (λ (ws : List ℕ). Rule (record { words = ws; homes = s.homes; views = set s.views id (staged m.0 (Waiting c.drawn)) }))
            (word_drawn s.words k.bells (length (entries c.now)) c.drawn (c.served % 2 ^ 64) k.words)
            (drew_kept s k id m.0 at live free),
        (c.drawn, ap (λ (ws : List ℕ). slice_index ws 1) k.words, refl),
      )

  -- the served ticket is this seat's
  served_is : (s : State (Option T) (View S E)) (k : Rule s) (id : ℕ) (v : View S E) (t : ℕ) → get_elem? s.views id ≡ some v → v.stage ≡ Waiting t → slice_index s.words 2 ≡ t % 2 ^ 64 → k.course.served ≡ t
  served_is s k id v t at waits found =
      let b = waits_between k.course v.seen v.stage t waits (k.stages id v at) in
      let low : k.course.served ≤ t = b.0 in
      let high : t < k.course.drawn = b.1 in
      let few = few_out s k in
      one_turn k.course.served t (2 ^ 64) low (omega arith) (sym (ap (λ (ws : List ℕ). slice_index ws 2) k.words) ∙ found)

  -- and then no seat has the turn
  turn_free : (s : State (Option T) (View S E)) (k : Rule s) (id : ℕ) (v : View S E) (t : ℕ) → get_elem? s.views id ≡ some v → v.stage ≡ Waiting t → k.course.served ≡ t
      → (i : ℕ) (u : View S E) → get_elem? s.views i ≡ some u → ¬ HasTurn u
  turn_free s k id v t at waits served i u e h =
      let b = turn_is_served k.course u.seen u.stage h.0 h.1 (k.stages i u e) in
      let same : h.0 ≡ t = b.0 ∙ served in
      let here : i ≡ id = k.apart i id t u v e at (ap ticket h.1 ∙ ap Some same) (ap ticket waits) in
      let one : u ≡ v = one_at s.views i id u v e at here in
      waiting_has_no_turn u t (ap (λ (x : View S E). x.stage) one ∙ waits) h

  found_kept : (s : State (Option T) (View S E)) (k : Rule s) (id : ℕ) (v : View S E) (t : ℕ) → get_elem? s.views id ≡ some v → v.live ≡ true → v.stage ≡ Waiting t → k.course.served ≡ t
      → Rule (record { words = words_of entries k.course k.bells; homes = set s.homes 0 none; views = set s.views id (sees (staged v (Turn t)) (moment k.course.clock k.course.now)) })
  found_kept s k id v t at live waits served =
      let c = k.course in
      let w = sees (staged v (Turn t)) (moment c.clock c.now) in
      let f = k.seats id v at live in
      moved state entries maker follows first start s k id v w c (set s.homes 0 none) at live live refl refl
      (length-set s.homes 0 none ∙ k.deep)
      (let a = waiting_count v t waits in omega arith)
      k.past
      (sym served, (waits_between c v.seen v.stage t waits (k.stages id v at)).1, refl)
      (λ j u ne e. k.stages j u e)
      (refreshed entries maker first c c id v (Turn t) v.made refl refl (λ i a e. e) k.past.long k.past.last f.own f)
      (λ i a e. e)
      (λ n ne. refl)
      (λ j t' u ne e h g. ne (k.apart j id t' u v e at h (ap ticket waits ∙ g)))
      (λ none. absurd (none id w (set_here s.views id w (at_below s.views id v at)) (t, refl)))

  -- a seat finds a state that follows the one that it has seen, with its own entries
  next_is : (s : State (Option T) (View S E)) (k : Rule s) (id : ℕ) (v : View S E) (x : T) → get_elem? s.views id ≡ some v → v.live ≡ true → state x ≡ k.course.now → IsNext state entries maker follows v x
  next_is s k id v x at live same =
      let c = k.course in
      let f = k.seats id v at live in
      let below = at_below c.log v.seen.at v.seen.state f.seen in
      record {
        later = subst (λ (y : S). follows y v.seen.state) (sym same) (k.past.ordered v.seen.at c.clock v.seen.state c.now (let l : length c.log ≡ c.clock + 1 = k.past.long in omega arith) f.seen k.past.last);
        own = ap (λ (y : S). made_by maker v.number (entries y)) same ∙ f.own;
      }

  unchanged : (s : State (Option T) (View S E)) (k : Rule s) (i id : ℕ) (v : View S E) → i < 3 → get_elem? s.views id ≡ some v
      → Rule (record { words = set s.words i (slice_index s.words i); homes = s.homes; views = set s.views id v })
  unchanged s k i id v below at =
      subst (λ (ws : List ℕ). Rule (record { words = ws; homes = s.homes; views = set s.views id v }))
      (sym (word_same s.words k.bells (length (entries k.course.now)) (k.course.drawn % 2 ^ 64) (k.course.served % 2 ^ 64) i k.words below))
      (subst (λ (vs : List (View S E)). Rule (record { words = s.words; homes = s.homes; views = vs })) (sym (set_again s.views id v at)) k)

  -- what a look that finds the seat's ticket does
  hits : (slots id : ℕ) (m : Me (Option T) (View S E)) (t : ℕ) → m.0.live ≡ true → m.0.stage ≡ Waiting t
      → (s : State (Option T) (View S E)) (k : Rule s) → get_elem? s.views id ≡ some m.0 → slice_index s.words 2 ≡ t % 2 ^ 64
      → (w : View S E) × (a : Act (Option T)) × Valid s.homes m.1 a × Rule (stepped s 2 (slice_index s.words 2) id m.1 w a)
      × Looked state entries maker follows t m (slice_index s.words 2) (w, carried_after m.1 a)
  hits slots id m t live waits s k at found =
      let c = k.course in
      let served = served_is s k id m.0 t at waits found in
      let h = k.home (turn_free s k id m.0 t at waits served) in (
        sees (staged m.0 (Turn t)) (moment c.clock c.now),
        takes 0 (Some h.0),
        h.1,
        subst (λ (ws : List ℕ). Rule (record { words = ws; homes = set s.homes 0 none; views = set s.views id (sees (staged m.0 (Turn t)) (moment c.clock c.now)) }))
            (sym k.words ∙ sym (word_same s.words k.bells (length (entries c.now)) (c.drawn % 2 ^ 64) (c.served % 2 ^ 64) 2 k.words (omega arith)))
            (found_kept s k id m.0 t at live waits served),
        record {
          hit = λ e. (h.0, c.clock, next_is s k id m.0 h.0 at live h.2, ap (λ (y : S). (sees (staged m.0 (Turn t)) (moment c.clock y), (0, Some h.0) ∷ m.1)) (sym h.2));
          miss = λ ne. absurd (ne found);
        },
      )

  looks_at : (slots id : ℕ) (m : Me (Option T) (View S E)) (t : ℕ) → m.0.live ≡ true → m.0.stage ≡ Waiting t → Allows Rule slots id m 2 (λ n. n) (Looked state entries maker follows t m)
  looks_at slots id m t live waits s k deep at small =
      dite (ℕ_discrete (slice_index s.words 2) (t % 2 ^ 64))
      (λ e. hits slots id m t live waits s k at e)
      (λ ne. (m.0, keeps, tt, unchanged s k 2 id m.0 (omega arith) at, record { hit = λ e. absurd (ne e); miss = λ other. refl }))

  pub looks : (slots id : ℕ) (m : Me (Option T) (View S E)) (t : ℕ) → m.0.live ≡ true → m.0.stage ≡ Waiting t → Allows Rule slots id m 2 (λ n. n) (looked state entries maker follows (step 0 0 0 0 none) m)
  looks slots id m t live waits s k deep at small =
      let r = looks_at slots id m t live waits s k deep at small in
      (r.0, r.1, r.2, r.3, λ t' e. let same : t ≡ t' = cc in subst (λ (n : ℕ). Looked state entries maker follows n m (slice_index s.words 2) (r.0, carried_after m.1 r.1)) same r.4)

  -- the seat that has the turn has seen the value as it is
  sees_now : (s : State (Option T) (View S E)) (k : Rule s) (id : ℕ) (v : View S E) (t : ℕ) → get_elem? s.views id ≡ some v → v.live ≡ true → v.stage ≡ Turn t → v.seen.state ≡ k.course.now
  sees_now s k id v t at live turn =
      let c = k.course in
      one_at c.log v.seen.at c.clock v.seen.state c.now (k.seats id v at live).seen k.past.last (turn_is_served c v.seen v.stage t turn (k.stages id v at)).2

  -- no other seat has the ticket that is served
  others_wait : (s : State (Option T) (View S E)) (k : Rule s) (id : ℕ) (v : View S E) (t : ℕ) → get_elem? s.views id ≡ some v → v.stage ≡ Turn t
      → (j : ℕ) (u : View S E) → j ≢ id → get_elem? s.views j ≡ some u → ticket u.stage ≡ Some k.course.served → ⊥
  others_wait s k id v t at turn j u ne e h =
      let served = turn_is_served k.course v.seen v.stage t turn (k.stages id v at) in
      ne (k.apart j id t u v e at (h ∙ ap Some (sym served.0)) (ap ticket turn))

  -- what a view remembers is in order
  ordered_in : (c : Course S E) (j : ℕ) (v : View S E) → IsCourse follows c → Fits entries maker first c j v → IsOrdered follows v
  ordered_in c j v past f = record {
    rising = λ a b ha hb le. past.ordered a.at b.at a.state b.state le (f.remembers a ha).0 (f.remembers b hb).0;
    highest = λ a ha. past.ordered a.at v.seen.at a.state v.seen.state (f.remembers a ha).1 (f.remembers a ha).0 f.seen;
  }

  abbrev next_course : Course S E → S → Course S E
  next_course c y = record c { log = c.log ++ y ∷ []; now = y; clock = c.clock + 1 }

  -- the view of a seat that left this state
  abbrev left_view : Course S E → View S E → S → View S E
  left_view c v y = leaves v (moment (c.clock + 1) y) (made_by maker v.number (entries y))

  left_fits : (s : State (Option T) (View S E)) (k : Rule s) (id : ℕ) (v : View S E) (y : S) → get_elem? s.views id ≡ some v → v.live ≡ true
      → Fits entries maker first (next_course k.course y) id (left_view k.course v y)
  left_fits s k id v y at live =
      let c = k.course in
      refreshed entries maker first c (next_course c y) id v v.stage (made_by maker v.number (entries y)) refl refl
      (λ i a e. at_longer c.log (y ∷ []) i a e)
      (let h : length c.log ≡ c.clock + 1 = k.past.long in omega (arith, length-append c.log (y ∷ [])))
      (at_last c.log y (c.clock + 1) k.past.long)
      refl
      (k.seats id v at live)

  left_kept : (s : State (Option T) (View S E)) (k : Rule s) (id : ℕ) (v : View S E) (t : ℕ) (y : S) → get_elem? s.views id ≡ some v → v.live ≡ true → v.stage ≡ Turn t
      → IsCourse follows (next_course k.course y) → OnlyMade maker v.number (entries k.course.now) (entries y)
      → Rule (record { words = words_of entries (next_course k.course y) k.bells; homes = s.homes; views = set s.views id (left_view k.course v y) })
  left_kept s k id v t y at live turn past only =
      let c = k.course in
      let w = left_view c v y in
      let served = turn_is_served c v.seen v.stage t turn (k.stages id v at) in
      moved state entries maker follows first start s k id v w (next_course c y) s.homes at live live refl refl k.deep
      (omega arith)
      past
      (subst (λ (stage : Stage). FitsStage (next_course c y) w.seen stage) (sym turn) (served.0, served.1, refl))
      (λ j u ne e. still_apart c u.seen u.stage (c.log ++ y ∷ []) y (others_wait s k id v t at turn j u ne e) (k.stages j u e))
      (left_fits s k id v y at live)
      (λ i a e. at_longer c.log (y ∷ []) i a e)
      only
      (λ j t' u ne e h g. ne (k.apart j id t' u v e at h g))
      (λ none. absurd (none id w (set_here s.views id w (at_below s.views id v at)) (t, turn)))

  same_value : (l : List (ℕ × Option T)) (x y : T) → l ≡ (0, Some x) ∷ [] → l ≡ (0, Some y) ∷ [] → y ≡ x
  same_value l x y e f =
      let pair : ◌≡◌ {A = ℕ × Option T} (0, Some y) (0, Some x) = cc in
      let value : Some y ≡ Some x = ap (λ (p : ℕ × Option T). p.1) pair in
      cc

  pub raises : ((s : S) → follows s s) → ((s t u : S) → follows s t → follows t u → follows s u)
      → (slots id : ℕ) (m : Me (Option T) (View S E)) (t : ℕ) (y : T) (more : ℕ) → m.0.live ≡ true → m.0.stage ≡ Turn t → m.1 ≡ (0, Some y) ∷ []
      → follows (state y) m.0.seen.state → OnlyMade maker m.0.number (entries m.0.seen.state) (entries (state y))
      → length (entries m.0.seen.state) + more ≡ length (entries (state y)) → length (entries (state y)) < 2 ^ 64
      → Allows Rule slots id m 0 (λ n. (n + more) % 2 ^ 64) (raised state entries maker follows (step 0 0 0 0 none) m)
  raises itself chain slots id m t y more live turn held next only count fits s k deep at small =
      let c = k.course in
      let same = sees_now s k id m.0 t at live turn in
      let past = longer_course follows itself chain c (state y) k.past (subst (λ (x : S). follows (state y) x) same next) in (
        left_view c m.0 (state y),
        keeps,
        tt,
        subst (λ (ws : List ℕ). Rule (record { words = ws; homes = s.homes; views = set s.views id (left_view c m.0 (state y)) }))
            (word_raised s.words k.bells (length (entries c.now)) (c.drawn % 2 ^ 64) (c.served % 2 ^ 64) more (length (entries (state y))) k.words (ap (λ (x : S). length (entries x) + more) (sym same) ∙ count) fits)
            (left_kept s k id m.0 t (state y) at live turn past (subst (λ (x : S). OnlyMade maker m.0.number (entries x) (entries (state y))) same only)),
        λ x e. record {
          left = (c.clock + 1, ap (λ (z : T). (left_view c m.0 (state z), m.1)) (same_value m.1 x y e held));
          ordered = ordered_in (next_course c (state y)) id (left_view c m.0 (state y)) past (left_fits s k id m.0 (state y) at live);
        },
      )

  passed_kept : (s : State (Option T) (View S E)) (k : Rule s) (id : ℕ) (v : View S E) (t : ℕ) (y : T) → get_elem? s.views id ≡ some v → v.live ≡ true → v.stage ≡ Turn t → state y ≡ v.seen.state
      → Rule (record { words = words_of entries (record k.course { served = k.course.served + 1 }) k.bells; homes = set s.homes 0 (some (Some y)); views = set s.views id (staged v Idle) })
  passed_kept s k id v t y at live turn same =
      let c = k.course in
      let served = turn_is_served c v.seen v.stage t turn (k.stages id v at) in
      moved state entries maker follows first start s k id v (staged v Idle) (record c { served = c.served + 1 }) (set s.homes 0 (some (Some y))) at live live refl refl
      (length-set s.homes 0 (some (Some y)) ∙ k.deep)
      (let a = turn_count v t turn in omega arith)
      record { long = k.past.long; last = k.past.last; ordered = k.past.ordered }
      tt
      (λ j u ne e. still_waits c u.seen u.stage (others_wait s k id v t at turn j u ne e) (k.stages j u e))
      (restaged entries maker first c c.drawn (c.served + 1) id v Idle (k.seats id v at live))
      (λ i a e. e)
      (λ n ne. refl)
      (λ j t' u ne e h g. cc)
      (λ none. (y, set_here s.homes 0 (some (Some y)) (let d = k.deep in omega arith), same ∙ sees_now s k id v t at live turn))

  pub passes : (slots id : ℕ) (m : Me (Option T) (View S E)) (t : ℕ) (y : T) → m.0.live ≡ true → m.0.stage ≡ Turn t → m.1 ≡ (0, Some y) ∷ [] → state y ≡ m.0.seen.state
      → Allows Rule slots id m 2 (λ n. (n + 1) % 2 ^ 64) (passed (step 0 0 0 0 none) m)
  passes slots id m t y live turn held same s k deep at small =
      let c = k.course in (
        staged m.0 Idle,
        gives,
        tt,
        subst (λ (hand : List (ℕ × Option T)). Rule (stepped s 2 ((slice_index s.words 2 + 1) % 2 ^ 64) id hand (staged m.0 Idle) gives)) (sym held)
            (subst (λ (ws : List ℕ). Rule (record { words = ws; homes = set s.homes 0 (some (Some y)); views = set s.views id (staged m.0 Idle) }))
            (word_passed s.words k.bells (length (entries c.now)) (c.drawn % 2 ^ 64) c.served k.words)
            (passed_kept s k id m.0 t y at live turn same)),
        ap (λ (hand : List (ℕ × Option T)). (staged m.0 Idle, carried_after hand gives)) held,
      )

  -- other bells
  rung_kept : (s : State (Option T) (View S E)) (k : Rule s) (bells : List ℕ) → Rule (record { words = words_of entries k.course bells; homes = s.homes; views = s.views })
  rung_kept s k bells = record {
    course = k.course;
    bells = bells;
    words = refl;
    deep = k.deep;
    queued = k.queued;
    given = k.given;
    few = k.few;
    rooted = k.rooted;
    out = k.out;
    past = k.past;
    stages = k.stages;
    seats = k.seats;
    idle = k.idle;
    apart = k.apart;
    home = k.home;
    numbers = k.numbers;
  }

  pub rings : (slots id : ℕ) (m : Me (Option T) (View S E)) (bell : ℕ) → Allows Rule slots id m (3 + bell) (λ n. (n + 1) % 2 ^ 64) (rang (step 0 0 0 0 none) m)
  rings slots id m bell s k deep at small =
      let n = (slice_index s.words (3 + bell) + 1) % 2 ^ 64 in (
        m.0,
        keeps,
        tt,
        subst (λ (vs : List (View S E)). Rule (record { words = set s.words (3 + bell) n; homes = s.homes; views = vs })) (sym (set_again s.views id m.0 at))
            (subst (λ (ws : List ℕ). Rule (record { words = ws; homes = s.homes; views = s.views }))
            (sym (word_rung s.words k.bells (length (entries k.course.now)) (k.course.drawn % 2 ^ 64) (k.course.served % 2 ^ 64) bell n k.words))
            (rung_kept s k (set k.bells bell n))),
        refl,
      )

  root_tally : (s : State (Option T) (View S E)) (k : Rule s) (id : ℕ) (v : View S E) → get_elem? s.views id ≡ some v → v.live ≡ true → 0 < v.next → v.number + 1 + length v.joined ≤ v.next
  root_tally s k id v at live above =
      let c = k.course in
      let f = k.seats id v at live in
      let n : v.number ≡ first + id = f.numbered in
      let first_of : id ≡ 0 = dite (ℕ_discrete id 0) (λ e. e) (λ ne. let z : v.next ≡ 0 = f.others (omega arith) in absurd (omega arith)) in
      let r = f.root first_of in
      let a : v.next ≡ c.limit = r.0 in
      let j : length v.joined ≡ length c.joined = ap (λ (js : List (ℕ × List E)). length js) r.1 in
      let g = k.given in
      let o = k.out in
      let one : ◌≡◌ {A = ℕ} (if v.live then 1 else 0) 1 = live_count v live in
      let p = total-at (λ (u : View S E). if u.live then 1 else 0) s.views id v at in
      omega arith

  pub learns : (slots id : ℕ) (m : Me (Option T) (View S E)) → m.0.live ≡ true → Allows Rule slots id m 0 (λ n. n) (learned follows (step 0 0 0 0 none) m)
  learns slots id m live s k deep at small = (
    m.0,
    keeps,
    tt,
    unchanged s k 0 id m.0 (omega arith) at,
    (refl, ordered_in k.course id m.0 k.past (k.seats id m.0 at live), λ above. root_tally s k id m.0 at live above),
  )
