-- Seats that are joined into the root, and the end.
use Rattle.std.proofs.Common.{◌≡◌, ℕ, zero, suc, ◌<◌, ◌≤◌, List, [], ◌∷◌, ◌++◌, length, map, Some, refl, sym, ap, ◌∙◌, subst, arith, ⊎_elim, append_assoc, append-nil, length-append}
use Rattle.std.specs.Prelude.{slice_get}
use Rattle.std.specs.List.{Contains}
use Rattle.std.proofs.lemmas.List.Elements.{Contains-append_left, Contains-append_right}
use Rattle.delf_model.specs.declared.entry.Entry.{Entry}
use Rattle.delf_model.specs.Legal.{Legal}
use Rattle.seat_lock.specs.declared.view.Moment.{Moment}
use Rattle.seat_lock.specs.declared.view.View.{View}
use Rattle.seat_lock.specs.Promises.{Closes}
use Rattle.seat_lock.specs.Views.{made_by, joined_root, IsOrdered, out_of, IsRoot}
use Rattle.delf_service.specs.declared.standing.Standing.{Standing}
use Rattle.delf_service.specs.Follows.{Follows}
use Rattle.delf_service.specs.FollowLaws.{Follows-itself, Follows-chain}
use Rattle.delf_service.specs.Seats.{pair_of, JoinedTo, Closed}
use Rattle.delf_service.specs.Standings.{IsCaused, seat_of, laneless}
use Rattle.delf_service.specs.Turns.{Keeps}
use Rattle.delf_service.proofs.Seeing.{keeps_itself, keeps_chain}
use Rattle.delf_service.proofs.Entries.{laneless_follows}
use Rattle.delf_service.proofs.Places.{push_cases}

abbrev SeatView : Type 0
SeatView = View Standing Entry

pub map-push : {A B : Type 0} (f : A → B) (xs : List A) (x : A) → map f (xs ++ x ∷ []) ≡ map f xs ++ f x ∷ []
map-push f [] x = refl
map-push f (y ∷ xs) x = ap (λ (l : List _). f y ∷ l) (map-push f xs x)

pub join_none : (v : SeatView) → JoinedTo v v []
join_none v = record {
  number = refl;
  next = refl;
  made = refl;
  joined_is = sym (append-nil v.joined);
  first = Follows-itself v.seen.state;
  later = λ k w at. absurd (cc at);
  keeps = keeps_itself v;
  takes = λ k w at. absurd (cc at);
  ordered = λ some. absurd (omega (arith, some));
}

-- a joined root remembers what both remember
joined_keeps : (v w : SeatView) → Keeps v (joined_root v w)
joined_keeps v w m there = Contains-append_left (v.remembers ++ w.remembers) (v.seen ∷ w.seen ∷ []) m (Contains-append_left v.remembers w.remembers m there)

joined_takes : (v w : SeatView) → Keeps w (joined_root v w)
joined_takes v w m there = Contains-append_left (v.remembers ++ w.remembers) (v.seen ∷ w.seen ∷ []) m (Contains-append_right v.remembers w.remembers m there)

-- what a joined root has seen follows what either has seen
join_sees : (v w : SeatView) → IsOrdered Follows (joined_root v w) → Follows (joined_root v w).seen.state v.seen.state × Follows (joined_root v w).seen.state w.seen.state
join_sees v w o = (o.highest v.seen (has v.seen (0, omega arith, refl)), o.highest w.seen (has w.seen (1, omega arith, refl))) where
  has : (m : Moment Standing) → Contains (v.seen ∷ w.seen ∷ []) m → Contains ((v.remembers ++ w.remembers) ++ v.seen ∷ w.seen ∷ []) m
  has m h = Contains-append_right (v.remembers ++ w.remembers) (v.seen ∷ w.seen ∷ []) m h

joined_more : (v0 v w : SeatView) (ws : List SeatView) → JoinedTo v0 v ws → IsOrdered Follows (joined_root v w) → JoinedTo v0 (joined_root v w) (ws ++ w ∷ [])
joined_more v0 v w ws h o =
    let sees = join_sees v w o in
    record {
      number = h.number;
      next = h.next;
      made = h.made;
      joined_is = ap (λ (l : List (ℕ × List Entry)). l ++ pair_of w ∷ []) h.joined_is ∙ (append_assoc v0.joined (map pair_of ws) (pair_of w ∷ [])
          ∙ ap (λ (l : List (ℕ × List Entry)). v0.joined ++ l) (sym (map-push pair_of ws w)));
      first = Follows-chain (joined_root v w).seen.state v.seen.state v0.seen.state sees.0 h.first;
      later = λ k u at. ⊎_elim
          (λ before. Follows-chain (joined_root v w).seen.state v.seen.state u.seen.state sees.0 (h.later k u before.1))
          (λ here. subst (λ (z : SeatView). Follows (joined_root v w).seen.state z.seen.state) here.1 sees.1)
          (push_cases ws w u k at);
      keeps = keeps_chain v0 v (joined_root v w) h.keeps (joined_keeps v w);
      takes = λ k u at. ⊎_elim
          (λ before. keeps_chain u v (joined_root v w) (h.takes k u before.1) (joined_keeps v w))
          (λ here. subst (λ (z : SeatView). Keeps z (joined_root v w)) here.1 (joined_takes v w))
          (push_cases ws w u k at);
      ordered = λ some. o;
    }

-- one seat more
pub join_more : {S : Type 0} (f : S → SeatView) (v0 v v' : SeatView) (xs : List S) (x : S) → JoinedTo v0 v (map f xs) → v' ≡ joined_root v (f x) → IsOrdered Follows v' → JoinedTo v0 v' (map f (xs ++ x ∷ []))
join_more f v0 v v' xs x h same o =
    subst (λ (l : List SeatView). JoinedTo v0 v' l) (sym (map-push f xs x))
    (subst (λ (z : SeatView). JoinedTo v0 z (map f xs ++ f x ∷ [])) (sym same)
    (joined_more v0 v (f x) (map f xs) h (subst (λ (z : SeatView). IsOrdered Follows z) same o)))

pub nothing_left : {A : Type 0} (l : List A) → length l ≡ 0 → l ≡ []
nothing_left [] h = refl
nothing_left (x ∷ xs) h = absurd (omega arith)

-- the next one of a list that is gone through
pub next_there : {A : Type 0} (xs ys zs : List A) (x : A) → xs ++ x ∷ ys ≡ zs → slice_get zs (length xs) ≡ Some x
next_there xs ys zs x same = sym (ap (λ (l : List _). slice_get l (length xs)) same) ∙ there xs where
  there : (l : List _) → slice_get (l ++ x ∷ ys) (length l) ≡ Some x
  there [] = refl
  there (y ∷ l) = there l

length_map : {A B : Type 0} (f : A → B) (xs : List A) → length (map f xs) ≡ length xs
length_map f [] = refl
length_map f (x ∷ xs) = let h = length_map f xs in omega (arith, h)

pub none_out : {S : Type 0} (f : S → SeatView) (v0 v : SeatView) (xs : List S) → JoinedTo v0 v (map f xs) → out_of v0 ≡ length xs → out_of v ≡ 0
none_out f v0 v xs h all =
    let l = ap (λ (l : List (ℕ × List Entry)). length l) h.joined_is in
    let a = length-append v0.joined (map pair_of (map f xs)) in
    let m = length_map pair_of (map f xs) in
    let n = length_map f xs in
    let p = h.number in
    let q = h.next in
    omega (arith, l, a, m, n, p, q, all)

pub still_root : (v0 v : SeatView) (ws : List SeatView) → JoinedTo v0 v ws → IsRoot v0 → IsRoot v
still_root v0 v ws h root = let q = h.next in omega (arith, q, root)

paired : (ws : List SeatView) (k : ℕ) (w : SeatView) → slice_get ws k ≡ Some w → Contains (map pair_of ws) (pair_of w)
paired [] k w at = absurd (cc at)
paired (x ∷ ws) zero w at = let same : x ≡ w = cc in (0, omega arith, ap pair_of same)
paired (x ∷ ws) (suc k) w at = let h = paired ws k w at in Contains-append_right (pair_of x ∷ []) (map pair_of ws) (pair_of w) h

module _ {T : Type 0} (st : T → Standing) (start : Standing) where
  pub closed_all : (v0 v : SeatView) (ws : List SeatView) (x : T) → JoinedTo v0 v ws → Closes st (λ s. s.history) seat_of Follows start v x
      → Legal (st x).key.rules (st x).history → IsCaused (st x) → Closed start v0 ws (st x)
  closed_all v0 v ws x h c legal cause = record {
    legal = legal;
    cause = cause;
    moments = v.remembers;
    root_kept = h.keeps;
    kept = h.takes;
    ordered = λ some. let o = h.ordered some in record { rising = o.rising; last = λ a there. Follows-chain (st x) v.seen.state a.state c.later (o.highest a there) };
    first = Follows-chain (st x) v.seen.state v0.seen.state c.later h.first;
    later = λ k w at. Follows-chain (st x) v.seen.state w.seen.state c.later (h.later k w at);
    own = subst (λ (n : ℕ). made_by seat_of n (st x).history ≡ v.made) h.number c.own ∙ h.made;
    made = λ k w at. c.joined (pair_of w) (kept (pair_of w) (Contains-append_right v0.joined (map pair_of ws) (pair_of w) (paired ws k w at)));
    joined = λ p there. c.joined p (kept p (Contains-append_left v0.joined (map pair_of ws) p there));
    elder = λ n less. c.elder n (subst (λ (k : ℕ). n < k) (sym h.number) less);
    unborn = λ n le. c.unborn n (subst (λ (k : ℕ). k ≤ n) (sym h.next) le);
  } where
    kept : (p : ℕ × List Entry) → Contains (v0.joined ++ map pair_of ws) p → Contains v.joined p
    kept p there = subst (λ (l : List (ℕ × List Entry)). Contains l p) (sym h.joined_is) there

-- an end at which no lane is left any more
pub closed_laneless : (start : Standing) (v : SeatView) (ws : List SeatView) (end : Standing) → Closed start v ws end → Closed start v ws (laneless end)
closed_laneless start v ws end h = record {
  legal = h.legal;
  cause = h.cause;
  moments = h.moments;
  root_kept = h.root_kept;
  kept = h.kept;
  ordered = λ some. let o = h.ordered some in record { rising = o.rising; last = λ a there. Follows-chain (laneless end) end a.state (laneless_follows end) (o.last a there) };
  first = Follows-chain (laneless end) end v.seen.state (laneless_follows end) h.first;
  later = λ k w at. Follows-chain (laneless end) end w.seen.state (laneless_follows end) (h.later k w at);
  own = h.own;
  made = h.made;
  joined = h.joined;
  elder = h.elder;
  unborn = h.unborn;
}
