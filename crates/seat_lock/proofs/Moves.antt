-- A step that changes one live seat's view keeps the rule.
use Rattle.std.proofs.Common.{◌≡◌, ◌≢◌, ℕ, zero, suc, ◌+◌, ◌%◌, ◌^◌, ◌<◌, ◌≤◌, ◌⊎◌, Bool, true, false, Option, Some, None, List, [], ◌∷◌, ◌++◌, length, set, get_or, sym, refl, ap, ◌∙◌, inl, inr, ⊎_elim, subst, arith, if◌then◌else◌, length-set}
use mathlib.Core.Option.{Option as Home, some}
use mathlib.Core.Logic.{dite}
use native.Mathlib.Decide.{ℕ_discrete}
use lib.ListN.{get_elem?}
use Rattle.std.specs.List.{Contains}
use Rattle.std.proofs.lemmas.List.Elements.{Contains-push_cases}
use Rattle.atomic_table.specs.Table.{State}
use Rattle.atomic_table.proofs.Lists.{at_set, set_here, set_else, at_last}
use Rattle.seat_lock.specs.declared.view.Moment.{Moment}
use Rattle.seat_lock.specs.declared.view.View.{View}
use Rattle.seat_lock.specs.declared.view.Stage.{Stage}
use Rattle.seat_lock.specs.declared.view.Stage.TheVariants.{Idle, Waiting, Turn}
use Rattle.seat_lock.specs.Views.{made_by, moment, ticket, staged, leaves}
use Rattle.seat_lock.specs.Promises.{OnlyMade}
use Rattle.seat_lock.specs.Turns.{Course, ticket_count, HasTurn, FitsStage, IsCourse, Fits, FitsNumbers, Kept}
use Rattle.seat_lock.proofs.Lists.{at_below, one_at, at_snoc_index, total-set, carried}

module _ {S E : Type 0} where
  -- the words of a table on this course, with these bells
  abbrev pub words_of : (S → List E) → Course S E → List ℕ → List ℕ
  words_of entries c bells = length (entries c.now) ∷ (c.drawn % 2 ^ 64) ∷ (c.served % 2 ^ 64) ∷ bells

  pub live_count : (v : View S E) → v.live ≡ true → ◌≡◌ {A = ℕ} (if v.live then 1 else 0) 1
  live_count v live = ap (λ (b : Bool). let n : ℕ = if b then 1 else 0 in n) live

  -- where no view has the turn after one view was changed, and it had none before, none had it
  pub no_turn_before : (views : List (View S E)) (id : ℕ) (v w : View S E) → get_elem? views id ≡ some v → ¬ HasTurn v
      → ((i : ℕ) (u : View S E) → get_elem? (set views id w) i ≡ some u → ¬ HasTurn u) → (i : ℕ) (u : View S E) → get_elem? views i ≡ some u → ¬ HasTurn u
  no_turn_before views id v w at free none i u e =
      dite (ℕ_discrete i id)
      (λ same. subst (λ (x : View S E). ¬ HasTurn x) (one_at views id i v u at e (sym same)) free)
      (λ ne. none i u (set_else views id i w ne ∙ e))

  -- a seat that has the turn is the only one
  pub turn_is_served : (c : Course S E) (seen : Moment S) (stage : Stage) (t : ℕ) → stage ≡ Turn t → FitsStage c seen stage → (t ≡ c.served) × (t < c.drawn) × (seen.at ≡ c.clock)
  turn_is_served c seen stage t e fits = subst (λ (x : Stage). FitsStage c seen x) e fits

  pub waits_between : (c : Course S E) (seen : Moment S) (stage : Stage) (t : ℕ) → stage ≡ Waiting t → FitsStage c seen stage → (c.served ≤ t) × (t < c.drawn)
  waits_between c seen stage t e fits = subst (λ (x : Stage). FitsStage c seen x) e fits

  -- a ticket is one of those drawn and not passed
  pub ticket_between : (c : Course S E) (seen : Moment S) (stage : Stage) (t : ℕ) → ticket stage ≡ Some t → FitsStage c seen stage → (c.served ≤ t) × (t < c.drawn)
  ticket_between c seen Idle t e fits = cc
  ticket_between c seen (Waiting k) t e fits = let same : k ≡ t = cc in let a : c.served ≤ k = fits.0 in let b : k < c.drawn = fits.1 in (omega arith, omega arith)
  ticket_between c seen (Turn k) t e fits = let same : k ≡ t = cc in let a : k ≡ c.served = fits.0 in let b : k < c.drawn = fits.1 in (omega arith, omega arith)

  -- one state more, which follows the last
  pub longer_course : (follows : S → S → Type 0) → ((s : S) → follows s s) → ((s t u : S) → follows s t → follows t u → follows s u)
      → (c : Course S E) (y : S) → IsCourse follows c → follows y c.now → IsCourse follows (record c { log = c.log ++ y ∷ []; now = y; clock = c.clock + 1 })
  longer_course follows itself chain c y past next = record {
    long = (let h : length c.log ≡ c.clock + 1 = past.long in omega (arith, Rattle.std.proofs.Common.length-append c.log (y ∷ [])));
    last = at_last c.log y (c.clock + 1) past.long;
    ordered = λ i j a b le e f. ⊎_elim
        (λ q. ⊎_elim
        (λ p. past.ordered i j a b le p.1 q.1)
        (λ p. let h : j < length c.log = q.0 in let g : i ≡ length c.log = p.0 in absurd (omega arith))
        (at_snoc_index c.log y a i e))
        (λ q. ⊎_elim
        (λ p. subst (λ (x : S). follows x a) q.1 (chain y c.now a next (past.ordered i c.clock a c.now (let g : i < length c.log = p.0 in let h : length c.log ≡ c.clock + 1 = past.long in omega arith) p.1 past.last)))
        (λ p. subst (λ (x : S). follows x a) q.1 (subst (λ (x : S). follows y x) p.1 (itself y)))
        (at_snoc_index c.log y a i e))
        (at_snoc_index c.log y b j f);
  }

module _ {S E : Type 0} (entries : S → List E) (maker : E → Option ℕ) (first : ℕ) where
  -- a seat of another number knows what it knew
  pub refits : (c c' : Course S E) (n j : ℕ) (u : View S E) → c'.limit ≡ c.limit → c'.joined ≡ c.joined
      → ((i : ℕ) (a : S) → get_elem? c.log i ≡ some a → get_elem? c'.log i ≡ some a) → OnlyMade maker n (entries c.now) (entries c'.now)
      → u.number ≢ n → Fits entries maker first c j u → Fits entries maker first c' j u
  refits c c' n j u limit joined longer only ne f = record {
    numbered = f.numbered;
    seen = longer u.seen.at u.seen.state f.seen;
    remembers = λ m h. let r = f.remembers m h in (longer m.at m.state r.0, r.1);
    own = only u.number ne ∙ f.own;
    root = λ z. let r = f.root z in (r.0 ∙ sym limit, r.1 ∙ sym joined);
    others = f.others;
    unjoined = λ p h. f.unjoined p (subst (λ (js : List (ℕ × List E)). Contains js p) joined h);
  }

  -- where tickets are drawn and served and the seat's stage changes, it knows what it knew
  pub restaged : (c : Course S E) (drawn served j : ℕ) (v : View S E) (stage : Stage) → Fits entries maker first c j v → Fits entries maker first (record c { drawn = drawn; served = served }) j (staged v stage)
  restaged c drawn served j v stage f = record {
    numbered = f.numbered;
    seen = f.seen;
    remembers = f.remembers;
    own = f.own;
    root = f.root;
    others = f.others;
    unjoined = f.unjoined;
  }

  -- a seat that sees the last state, in which it has these entries
  pub refreshed : (c c' : Course S E) (j : ℕ) (v : View S E) (stage : Stage) (made : List E) → c'.limit ≡ c.limit → c'.joined ≡ c.joined
      → ((i : ℕ) (a : S) → get_elem? c.log i ≡ some a → get_elem? c'.log i ≡ some a)
      → length c'.log ≡ c'.clock + 1 → get_elem? c'.log c'.clock ≡ some c'.now
      → made_by maker v.number (entries c'.now) ≡ made
      → Fits entries maker first c j v → Fits entries maker first c' j (leaves (staged v stage) (moment c'.clock c'.now) made)
  refreshed c c' j v stage made limit joined longer long last own f = record {
    numbered = f.numbered;
    seen = last;
    remembers = λ m h. ⊎_elim
        (λ old. let r = f.remembers m old in let below : m.at < length c'.log = at_below c'.log m.at m.state (longer m.at m.state r.0) in (longer m.at m.state r.0, omega arith))
        (λ e. subst (λ (x : Moment S). (get_elem? c'.log x.at ≡ some x.state) × (x.at ≤ c'.clock)) e (last, omega arith))
        (Contains-push_cases v.remembers (moment c'.clock c'.now) m h);
    own = own;
    root = λ z. let r = f.root z in (r.0 ∙ sym limit, r.1 ∙ sym joined);
    others = f.others;
    unjoined = λ p h. f.unjoined p (subst (λ (js : List (ℕ × List E)). Contains js p) joined h);
  }

  -- what stands of the numbers that are not a live seat's
  pub renumbered : (start : S) (c c' : Course S E) (n : ℕ) → c'.limit ≡ c.limit → c'.joined ≡ c.joined → OnlyMade maker n (entries c.now) (entries c'.now) → first ≤ n → n < c.limit
      → ((p : ℕ × List E) → Contains c.joined p → p.0 ≢ n) → FitsNumbers entries maker first start c → FitsNumbers entries maker first start c'
  renumbered start c c' n limit joined only low high apart f = record {
    joined = λ p h. let old = subst (λ (js : List (ℕ × List E)). Contains js p) joined h in let r = f.joined p old in (subst (λ (k : ℕ). p.0 < k) (sym limit) r.0, only p.0 (apart p old) ∙ r.1);
    elder = λ k below. only k (λ e. omega arith) ∙ f.elder k below;
    unborn = λ k above. only k (λ e. omega arith) ∙ f.unborn k (omega arith);
  }

module _ {T S E : Type 0} (state : T → S) (entries : S → List E) (maker : E → Option ℕ) (follows : S → S → Type 0) (first : ℕ) (start : S) where
  -- the view v of the seat id becomes w, on the course c'
  pub moved : (s : State (Option T) (View S E)) (k : Kept state entries maker follows first start s) (id : ℕ) (v w : View S E) (c' : Course S E) (homes : List (Home (Option T)))
      → get_elem? s.views id ≡ some v → v.live ≡ true → w.live ≡ true
      → c'.limit ≡ k.course.limit → c'.joined ≡ k.course.joined → length homes ≡ 1
      → c'.drawn + ticket_count v.stage + k.course.served ≡ c'.served + ticket_count w.stage + k.course.drawn
      → IsCourse follows c'
      → FitsStage c' w.seen w.stage
      → ((j : ℕ) (u : View S E) → j ≢ id → get_elem? s.views j ≡ some u → FitsStage c' u.seen u.stage)
      → Fits entries maker first c' id w
      → ((i : ℕ) (a : S) → get_elem? k.course.log i ≡ some a → get_elem? c'.log i ≡ some a)
      → OnlyMade maker v.number (entries k.course.now) (entries c'.now)
      → ((j t : ℕ) (u : View S E) → j ≢ id → get_elem? s.views j ≡ some u → ticket u.stage ≡ Some t → ticket w.stage ≡ Some t → ⊥)
      → (((i : ℕ) (u : View S E) → get_elem? (set s.views id w) i ≡ some u → ¬ HasTurn u) → (x : T) × (get_elem? homes 0 ≡ some (some (Some x))) × (state x ≡ c'.now))
      → Kept state entries maker follows first start (record { words = words_of entries c' k.bells; homes = homes; views = set s.views id w })
  moved s k id v w c' homes at live live' limit joined deep queued past stage stages fits longer only apart home = record {
    course = c';
    bells = k.bells;
    words = refl;
    deep = deep;
    queued = (let h = total-set (λ (u : View S E). ticket_count u.stage) s.views id v w at in let q = k.queued in omega arith);
    given = limit ∙ (k.given ∙ ap (λ (n : ℕ). first + n) (sym (length-set s.views id w)));
    few = subst (λ (n : ℕ). n ≤ 2 ^ 32) (sym limit) k.few;
    rooted = dite (ℕ_discrete 0 id)
        (λ same. (w, subst (λ (n : ℕ). get_elem? (set s.views id w) n ≡ some w) (sym same) (set_here s.views id w (at_below s.views id v at)), live'))
        (λ ne. (k.rooted.0, set_else s.views id 0 w ne ∙ k.rooted.1, k.rooted.2));
    out = (
        let h = total-set (λ (u : View S E). if u.live then 1 else 0) s.views id v w at in
        let a = live_count v live in let b = live_count w live' in let o = k.out in let l = length-set s.views id w in let j = ap (λ (js : List (ℕ × List E)). length js) joined in
        omega arith
        );
    past = past;
    stages = λ j u e. ⊎_elim (λ p. subst (λ (x : View S E). FitsStage c' x.seen x.stage) p.1 stage) (λ p. stages j u p.0 p.1) (at_set s.views id j w u e);
    seats = λ j u e on. ⊎_elim
        (λ p. carried (Fits entries maker first c') id j w u p.0 p.1 fits)
        (λ p. refits entries maker first k.course c' v.number j u limit joined longer only (other_number j u p.0 p.1 on) (k.seats j u p.1 on))
        (at_set s.views id j w u e);
    idle = λ j u e off. ⊎_elim (λ p. absurd (let a = live' in let b = ap (λ (x : View S E). x.live) p.1 in cc)) (λ p. k.idle j u p.1 off) (at_set s.views id j w u e);
    apart = λ i j t x y e f g h. ⊎_elim
        (λ p. ⊎_elim
        (λ q. p.0 ∙ sym q.0)
        (λ q. absurd (apart j t y q.0 q.1 h (ap (λ (u : View S E). ticket u.stage) p.1 ∙ g)))
        (at_set s.views id j w y f))
        (λ p. ⊎_elim
        (λ q. absurd (apart i t x p.0 p.1 g (ap (λ (u : View S E). ticket u.stage) q.1 ∙ h)))
        (λ q. k.apart i j t x y p.1 q.1 g h)
        (at_set s.views id j w y f))
        (at_set s.views id i w x e);
    home = home;
    numbers = renumbered entries maker first start k.course c' v.number limit joined only low high (k.seats id v at live).unjoined k.numbers;
  }
    where
      mine : v.number ≡ first + id
      mine = (k.seats id v at live).numbered

      other_number : (j : ℕ) (u : View S E) → j ≢ id → get_elem? s.views j ≡ some u → u.live ≡ true → u.number ≢ v.number
      other_number j u ne e on same = let theirs : u.number ≡ first + j = (k.seats j u e on).numbered in let m = mine in ne (omega arith)

      low : first ≤ v.number
      low = let m = mine in omega arith

      high : v.number < k.course.limit
      high = let m = mine in let g = k.given in let b : id < length s.views = at_below s.views id v at in omega arith
