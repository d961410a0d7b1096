-- Rows that are opened, run and joined, and the steps behind them.
use Rattle.std.proofs.Common.{◌≡◌, ℕ, zero, suc, ◌+◌, ◌-◌, ◌*◌, ◌<◌, ◌≤◌, ◌⊎◌, Bool, true, false, List, [], ◌∷◌, ◌++◌, length, map, take, drop, Option, Some, None, refl, sym, ap, ◌∙◌, subst, arith, ⊎_elim}
use Rattle.std.specs.Prelude.{slice_get, option_map, slice_index_or}
use Rattle.std.specs.List.{Contains}
use Rattle.std.proofs.lemmas.Bool.{cases_lt}
use Rattle.std.proofs.Math.Seq.{take-append_seam}
use Rattle.std.proofs.lemmas.List.{length-map, length-take-le}
use Rattle.std.proofs.lemmas.Option.{slice_get-map, slice_get_past, slice_get_within, slice_get-get_or, get_or_from_slice_get}
use Rattle.delf_model.specs.declared.entry.Entry.{Entry}
use Rattle.delf_model.specs.declared.script.Lane.{Lane}
use Rattle.delf_model.specs.declared.script.LaneCommand.{LaneCommand}
use Rattle.delf_model.specs.Legal.{Legal}
use Rattle.seat_lock.specs.declared.view.View.{View}
use Rattle.seat_lock.specs.Views.{made_by, moment, newcomer, rooted, split_root, split_off}
use Rattle.delf_service.specs.declared.replies.LaneOut.{LaneOut}
use Rattle.delf_service.specs.declared.replies.LaneReply.{LaneReply}
use Rattle.delf_service.specs.declared.standing.Key.{Key}
use Rattle.delf_service.specs.declared.standing.Standing.{Standing}
use Rattle.delf_service.specs.Blocks.{root_of, lane_seat, Rests, IsBehind, HasLanes, LaneToldAt, LanesTold, AreToldLanes, IsBlock}
use Rattle.delf_service.specs.Follows.{Follows, IsMoment}
use Rattle.delf_service.specs.FollowLaws.{Follows-itself, Follows-chain}
use Rattle.delf_service.specs.Lanes.{HasCommand, LaneTold, Ended}
use Rattle.delf_service.specs.Openings.{HasRoom, HasRooms, has_next, OpenedAt, RanLanes}
use Rattle.delf_service.specs.Rows.{commands_in, commands_at, IsReady, IsRun, IsRowRun}
use Rattle.delf_service.specs.Seats.{AreMoments, Starts, Closed}
use Rattle.delf_service.specs.Standings.{IsCaused, seat_of, laneless, with_lanes}
use Rattle.delf_service.proofs.Payloads.{nowhere}
use Rattle.delf_service.proofs.Joining.{map-push}
use Rattle.delf_service.proofs.Lanes.{told_later, told_none, told_nothing}
use Rattle.delf_service.proofs.Numbers.{fresh_from}
use Rattle.delf_service.proofs.Places.{push_cases}

abbrev SeatView : Type 0
SeatView = View Standing Entry

-- one element more on both sides
pub pushed_map : {A B : Type 0} (f : A → B) (ys ys' : List B) (xs : List A) (x : A) → ys ≡ map f xs → ys' ≡ ys ++ f x ∷ [] → ys' ≡ map f (xs ++ x ∷ [])
pushed_map f ys ys' xs x same more = more ∙ (ap (λ (l : List _). l ++ f x ∷ []) same ∙ sym (map-push f xs x))

pub pushed_maps : {A B C : Type 0} (f : A → C) (g : B → C) (xs xs' : List A) (ys : List B) (x : A) (y : B) → map f xs ≡ map g ys → xs' ≡ xs ++ x ∷ [] → f x ≡ g y → map f xs' ≡ map g (ys ++ y ∷ [])
pushed_maps f g xs xs' ys x y same more one =
    ap (λ (l : List _). map f l) more ∙ (map-push f xs x ∙ (ap (λ (l : List _). l ++ f x ∷ []) same ∙ (ap (λ (z : _). map g ys ++ z ∷ []) one ∙ sym (map-push g ys y))))

pub mapped_push : {A C : Type 0} (f : A → C) (xs xs' : List A) (ys : List C) (x : A) → map f xs ≡ ys → xs' ≡ xs ++ x ∷ [] → map f xs' ≡ ys ++ f x ∷ []
mapped_push f xs xs' ys x same more = ap (λ (l : List _). map f l) more ∙ (map-push f xs x ∙ ap (λ (l : List _). l ++ f x ∷ []) same)

pub is_moment : (key : Key) (now : ℕ) → key.moment ≡ Some now → IsMoment key now
is_moment key now is m same = cc (is, same)

some_of : {A B : Type 0} (f : A → B) (o : Option A) (y : B) → option_map f o ≡ Some y → (x : A) × (o ≡ Some x) × (f x ≡ y)
some_of f None y h = absurd (cc h)
some_of f (Some x) y h = (x, refl, cc h)

-- an element of one of two lists that are the same by f and g
pub other_at : {A B C : Type 0} (f : A → C) (g : B → C) (xs : List A) (ys : List B) (k : ℕ) (x : A) → map f xs ≡ map g ys → slice_get xs k ≡ Some x → (y : B) × (slice_get ys k ≡ Some y) × (g y ≡ f x)
other_at f g xs ys k x same at =
    let here : slice_get (map f xs) k ≡ Some (f x) = slice_get-map f xs k ∙ ap (λ (o : Option _). option_map f o) at in
    some_of g (slice_get ys k) (f x) (sym (slice_get-map g ys k) ∙ (ap (λ (l : List _). slice_get l k) (sym same) ∙ here))

pub map_at : {A C : Type 0} (f : A → C) (xs : List A) (ys : List C) (k : ℕ) (x : A) → map f xs ≡ ys → slice_get xs k ≡ Some x → slice_get ys k ≡ Some (f x)
map_at f xs ys k x same at = ap (λ (l : List _). slice_get l k) (sym same) ∙ (slice_get-map f xs k ∙ ap (λ (o : Option _). option_map f o) at)

-- an element of a list that is another one by g
pub from_map : {B C : Type 0} (g : B → C) (cs : List C) (ys : List B) (k : ℕ) (c : C) → cs ≡ map g ys → slice_get cs k ≡ Some c → (y : B) × (slice_get ys k ≡ Some y) × (g y ≡ c)
from_map g cs ys k c same at = some_of g (slice_get ys k) c (sym (slice_get-map g ys k) ∙ (ap (λ (l : List _). slice_get l k) (sym same) ∙ at))

-- a clause of each row is one of what was taken out of it
pub part_each : {B C : Type 0} (g : B → C) (P : C → Type 0) (cs : List C) (ys : List B) → cs ≡ map g ys → ((k : ℕ) (y : B) → slice_get ys k ≡ Some y → P (g y)) → (k : ℕ) (c : C) → slice_get cs k ≡ Some c → P c
part_each g P cs ys same each k c at = let y = from_map g cs ys k c same at in subst (λ (z : _). P z) y.2 (each k y.0 y.1)

map_map : {A B C : Type 0} (f : A → B) (g : B → C) (xs : List A) → map g (map f xs) ≡ map (λ x. g (f x)) xs
map_map f g [] = refl
map_map f g (x ∷ xs) = ap (λ (l : List _). g (f x) ∷ l) (map_map f g xs)

pub views_of : {A B C : Type 0} (f : A → B) (g : B → C) (ys : List B) (xs : List A) → ys ≡ map f xs → map g ys ≡ map (λ x. g (f x)) xs
views_of f g ys xs same = ap (λ (l : List _). map g l) same ∙ map_map f g xs

-- what is known of each element of a slice is known of the vector that it was lent from
pub run_written : {R : Type 0} (P : R → R → ℕ → Type 0) (len : ℕ) (old seen new : List R) → seen ≡ old → length new ≡ length old → len ≡ length old
    → ((k : ℕ) (d : R) → k < length seen → P (slice_index_or seen k d) (slice_index_or new k d) k) → (k : ℕ) (d : R) → k < length old
    → P (slice_index_or old k d) (slice_index_or (take len (new ++ drop (length new) old)) k d) k
run_written {R} P len old seen new same long is each k d less =
    let front : take len (new ++ drop (length new) old) ≡ new = ap (λ (n : ℕ). take n (new ++ drop (length new) old)) (is ∙ sym long) ∙ take-append_seam new (drop (length new) old) in
    let first : (l : List R) → seen ≡ l → k < length l → P (slice_index_or l k d) (slice_index_or new k d) k = λ l to under. subst (λ (l : List R). k < length l → P (slice_index_or l k d) (slice_index_or new k d) k) to (each k d) under in
    subst (λ (l : List R). P (slice_index_or old k d) (slice_index_or l k d) k) (sym front) (first old same less)

-- one split more
pub next_root : (v w w' : SeatView) (n m : ℕ) → w ≡ has_next v n → w' ≡ split_root w → m ≡ n + 1 → w' ≡ has_next v m
next_root v w w' n m was is one =
    let count : v.next + n + 1 ≡ v.next + m = omega (arith, one) in
    is ∙ (ap (λ (z : SeatView). split_root z) was ∙ ap (λ (k : ℕ). record v { next = k }) count)

module _ {R : Type 0} (seat : R → SeatView) (mine : R → Type 0) where
  -- one row more is opened
  pub opened_more : (v w : SeatView) (rows rows' : List R) (row : R) (n : ℕ) → length rows ≡ n → w ≡ has_next v n → ((k : ℕ) (r : R) → slice_get rows k ≡ Some r → mine r × OpenedAt v k (seat r))
      → rows' ≡ rows ++ row ∷ [] → mine row → seat row ≡ split_off w → (k : ℕ) (r : R) → slice_get rows' k ≡ Some r → mine r × OpenedAt v k (seat r)
  opened_more v w rows rows' row n count was each more own off k r at = ⊎_elim
      (λ before. each k r before.1)
      (λ here.
      let place : n ≡ k = sym (here.0 ∙ count) in
      let new : OpenedAt v n (seat row) = off ∙ ap (λ (z : SeatView). split_off z) was in
      subst (λ (z : R). mine z × OpenedAt v k (seat z)) here.1 (own, subst (λ (i : ℕ). OpenedAt v i (seat row)) place new))
      (push_cases rows row r k (ap (λ (l : List R). slice_get l k) (sym more) ∙ at))

-- an element of a front of a list
get_taken : {A : Type 0} (n : ℕ) (xs : List A) (k : ℕ) (x : A) → slice_get (take n xs) k ≡ Some x → slice_get xs k ≡ Some x
get_taken zero xs k x at = absurd (cc at)
get_taken (suc n) [] k x at = absurd (cc at)
get_taken (suc n) (y ∷ xs) zero x at = at
get_taken (suc n) (y ∷ xs) (suc k) x at = get_taken n xs k x at

some_at : {A : Type 0} (xs : List A) (k : ℕ) → k < length xs → (x : A) × (slice_get xs k ≡ Some x)
some_at [] k less = absurd (omega (arith, less))
some_at (x ∷ xs) zero less = (x, refl)
some_at (x ∷ xs) (suc k) less = some_at xs k (omega (arith, less))

-- past the lanes there are no commands
commands_past : (lanes : List Lane) (k : ℕ) → length lanes ≤ k → commands_at lanes k ≡ []
commands_past lanes k le = ap commands_in (slice_get_past lanes k le)

-- no moment at all
no_moments : (last : Standing) → AreMoments [] last
no_moments last = record { rising = λ a b there. nowhere a there; last = λ a there. nowhere a there }

-- the seat of a lane, as it is opened
module _ (first : Standing) where
  abbrev new_seat : ℕ → SeatView
  new_seat k = newcomer (lane_seat first k) (moment 0 first)

  ready_new : (now : ℕ) (lanes : List Lane) (k : ℕ) (replies : List LaneReply) (room : ℕ) → first.key.moment ≡ Some now → root_of first ≤ 64 * length first.history + 1 → k < 32
      → ((i : ℕ) (c : LaneCommand) → slice_get (commands_at lanes k) i ≡ Some c → HasCommand first.key.rules c) → HasRoom (commands_at lanes k) replies room
      → IsReady now (commands_at lanes k) (new_seat k) replies room
  ready_new now lanes k replies room is low few numbers has = record {
    numbers = numbers;
    number = omega (arith, low, few);
    moment = is_moment first.key now is;
    made = refl;
    none = has.0;
    fits = has.1;
  }

  opened_at : (v w : SeatView) (k : ℕ) → v ≡ rooted (root_of first) first → OpenedAt v k w → w ≡ new_seat k
  opened_at v w k is opened = opened ∙ ap (λ (z : SeatView). newcomer (z.next + k) z.seen) is

  -- each row is ready
  module _ {R L : Type 0} (seat : R → SeatView) (mine : R → Type 0) (own : R → L) (items : L → List LaneReply) (room : L → ℕ) where
    pub ready_each : (now : ℕ) (lanes : List Lane) (v : SeatView) (rows : List R) (lists : List L) → Starts first v → first.key.moment ≡ Some now → length lists ≤ 32
        → ((k i : ℕ) (c : LaneCommand) → slice_get (commands_at lanes k) i ≡ Some c → HasCommand first.key.rules c) → HasRooms lanes items room lists → map own rows ≡ lists
        → ((k : ℕ) (r : R) → slice_get rows k ≡ Some r → mine r × OpenedAt v k (seat r)) → (k : ℕ) (d : R) → k < length rows
        → mine (slice_index_or rows k d) × IsReady now (commands_at lanes k) (seat (slice_index_or rows k d)) (items (own (slice_index_or rows k d))) (room (own (slice_index_or rows k d)))
    ready_each now lanes v rows lists starts is few numbers fits same each k d less =
        let r = slice_index_or rows k d in
        let at : slice_get rows k ≡ Some r = slice_get-get_or rows k d less in
        let opened = each k r at in
        let long = length-map rows own in
        let count : length (map own rows) ≡ length lists = ap (λ (l : List L). length l) same in
        let low = starts.low in
        let has = fits k (own r) (map_at own rows lists k r same at) in (
          opened.0,
          subst (λ (z : SeatView). IsReady now (commands_at lanes k) z (items (own r)) (room (own r))) (sym (opened_at v (seat r) k starts.root_is opened.1))
              (ready_new now lanes k (items (own r)) (room (own r)) is (omega (arith, low)) (omega (arith, less, long, count, few)) (λ i c there. numbers k i c there) has),
        )

  -- what each row was answered
  abbrev pub RanAt : ℕ → List Lane → ℕ → SeatView → List LaneReply → Bool → Type 0
  RanAt now lanes k w replies starved = IsRun now (commands_at lanes k) (new_seat k) w replies starved

  module _ {R : Type 0} (seat : R → SeatView) (mine : R → Type 0) (replies : R → List LaneReply) (starved : R → Bool) where
    pub ran_each : (now turns : ℕ) (lanes : List Lane) (v : SeatView) (old new : List R) → v ≡ rooted (root_of first) first → length new ≡ length old
        → ((k : ℕ) (r : R) → slice_get old k ≡ Some r → mine r × OpenedAt v k (seat r))
        → ((k : ℕ) (d : R) → k < length old → mine (slice_index_or new k d)
        × IsRowRun now turns lanes k (seat (slice_index_or old k d)) (seat (slice_index_or new k d)) (replies (slice_index_or new k d)) (starved (slice_index_or new k d)))
        → (k : ℕ) (r : R) → slice_get new k ≡ Some r → mine r × RanAt now lanes k (seat r) (replies r) (starved r)
    ran_each now turns lanes v old new is long each run k r at =
        let within = slice_get_within new k r at in
        let less : k < length old = omega (arith, within, long) in
        let o = slice_index_or old k r in
        let did = run k r less in
        let here : slice_index_or new k r ≡ r = get_or_from_slice_get new k r r at in
        let was : seat o ≡ new_seat k = opened_at v (seat o) k is (each k o (slice_get-get_or old k r less)).1 in
        subst (λ (z : R). mine z × RanAt now lanes k (seat z) (replies z) (starved z)) here
        (did.0, subst (λ (z : SeatView). IsRun now (commands_at lanes k) z (seat (slice_index_or new k r)) (replies (slice_index_or new k r)) (starved (slice_index_or new k r))) was did.1.run)

    module _ (now : ℕ) (lanes : List Lane) (last : Standing) (v w : SeatView) (rows : List R) (seats : List SeatView) (outs fronts : List LaneOut)
        (starts : Starts first v) (many : ℕ) (count : length rows ≡ many) (few : length lanes ≤ many) (root : w ≡ has_next v many) (seats_are : seats ≡ map seat rows)
        (outs_are : map (λ out. out.replies) outs ≡ map replies rows) (front : fronts ≡ take (length lanes) outs) (ran : (k : ℕ) (r : R) → slice_get rows k ≡ Some r → mine r × RanAt now lanes k (seat r) (replies r) (starved r))
        (closed : Closed first w seats last) where
      root_is : w ≡ has_next (rooted (root_of first) first) many
      root_is = root ∙ ap (λ (z : SeatView). has_next z many) starts.root_is

      told_at : (k : ℕ) (r : R) → slice_get rows k ≡ Some r → LaneTold closed.moments last now (lane_seat first k) (made_by seat_of (lane_seat first k) last.history) (commands_at lanes k) (replies r)
      told_at k r at =
          let run = (ran k r at).1 in
          let s = seat r in
          let there : slice_get seats k ≡ Some s = ap (λ (l : List SeatView). slice_get l k) seats_are ∙ (slice_get-map seat rows k ∙ ap (λ (o : Option R). option_map seat o) at) in
          let same : s.number ≡ lane_seat first k = run.same.0 in
          let made : s.made ≡ made_by seat_of (lane_seat first k) last.history = sym (subst (λ (n : ℕ). made_by seat_of n last.history ≡ s.made) same (closed.made k s there)) in
          subst (λ (es : List Entry). LaneTold closed.moments last now (lane_seat first k) es (commands_at lanes k) (replies r)) made
          (told_later now (lane_seat first k) (commands_at lanes k) s.remembers closed.moments (closed.kept k s there) s.seen.state last s.made (replies r) (closed.later k s there) run.told)

      -- a worker's seat made no entry
      made_none : (n : ℕ) → lane_seat first (length lanes) ≤ n → n < lane_seat first many → made_by seat_of n last.history ≡ []
      made_none n above below =
          let k = n - (root_of first + 1) in
          let at : lane_seat first k ≡ n = omega (arith, above) in
          let row = some_at rows k (omega (arith, above, below, count)) in
          let none = commands_past lanes k (omega (arith, above)) in
          subst (λ (m : ℕ). made_by seat_of m last.history ≡ []) at
          (told_nothing closed.moments last now (lane_seat first k) (made_by seat_of (lane_seat first k) last.history) (commands_at lanes k) (replies row.0) none (told_at k row.0 row.1))

      others : (n : ℕ) → (n ≤ root_of first) ⊎ (lane_seat first (length lanes) ≤ n) → made_by seat_of n last.history ≡ made_by seat_of n first.history
      others n where_is = ⊎_elim
          (λ below. ⊎_elim
          (λ less. closed.elder n (subst (λ (z : SeatView). n < z.number) (sym root_is) less))
          (λ more.
          let here : root_of first ≡ n = omega (arith, below, more) in
          subst (λ (m : ℕ). made_by seat_of m last.history ≡ made_by seat_of m first.history) here
          (subst (λ (z : SeatView). made_by seat_of z.number last.history ≡ z.made) root_is closed.own ∙ sym (starts.fresh (root_of first) (omega arith))))
          (cases_lt n (root_of first)))
          (λ above. ⊎_elim
          (λ worker. made_none n above worker ∙ sym (starts.fresh n (omega (arith, above))))
          (λ past. closed.unborn n (subst (λ (z : SeatView). z.next ≤ n) (sym root_is) (omega (arith, past))) ∙ sym (starts.fresh n (omega (arith, above))))
          (cases_lt n (lane_seat first many)))
          where_is

      in_front : (k : ℕ) (out : LaneOut) → slice_get fronts k ≡ Some out → slice_get outs k ≡ Some out
      in_front k out at = get_taken (length lanes) outs k out (ap (λ (l : List LaneOut). slice_get l k) (sym front) ∙ at)

      fronts_count : length fronts ≡ length lanes
      fronts_count =
          let a = length-map outs (λ out. out.replies) in
          let b = length-map rows replies in
          let c = ap (λ (l : List (List LaneReply)). length l) outs_are in
          ap (λ (l : List LaneOut). length l) front ∙ length-take-le (length lanes) outs (omega (arith, a, b, c, count, few))

      -- where a seat was joined, the turns are those that the root remembers then
      turns_all : first.lanes ≡ length lanes → 0 < many → LanesTold first last now lanes fronts
      turns_all counted some =
          let long = length-map rows seat in
          let size : length seats ≡ many = ap (λ (l : List SeatView). length l) seats_are ∙ (long ∙ count) in
          let ordered = closed.ordered (omega (arith, size, some)) in
          record {
            turns = closed.moments;
            moments = ordered;
            behind = λ a there. subst (λ (n : ℕ). Follows a.state (with_lanes first n)) counted (ordered.rising (moment 0 first) a begun there (omega arith));
            count = fronts_count;
            told = λ k out at.
                let row = other_at (λ (o : LaneOut). o.replies) replies outs rows k out outs_are (in_front k out at) in
                subst (λ (rs : List LaneReply). LaneToldAt first closed.moments last now lanes k rs) row.2 (told_at k row.0 row.1);
          } where
            begun : Contains closed.moments (moment 0 first)
            begun = closed.root_kept (moment 0 first) (subst (λ (z : SeatView). Contains z.remembers (moment 0 first)) (sym root_is) (0, omega arith, refl))

      turns_none : many ≤ 0 → LanesTold first last now lanes fronts
      turns_none none = record {
        turns = [];
        moments = no_moments last;
        behind = λ a there. nowhere a there;
        count = fronts_count;
        told = λ k out at. let within = slice_get_within fronts k out at in let size = fronts_count in absurd (omega (arith, within, size, few, none));
      }

      pub ran_all : first.lanes ≡ length lanes → (fed : Bool) → (fed ≡ true → (k : ℕ) (r : R) → slice_get rows k ≡ Some r → starved r ≡ false) → RanLanes first last now lanes fronts fed
      ran_all counted fed each = record {
        has = record {
          later = subst (λ (z : SeatView). Follows last z.seen.state) root_is closed.first;
          legal = closed.legal;
          cause = closed.cause;
          fresh = starts.fresh;
          others = others;
        };
        told = ⊎_elim (λ some. turns_all counted some) (λ none. turns_none none) (cases_lt 0 many);
        end = λ is k out at.
            let row = other_at (λ (o : LaneOut). o.replies) replies outs rows k out outs_are (in_front k out at) in
            subst (λ (rs : List LaneReply). Ended (commands_at lanes k) rs) row.2 ((ran k row.0 row.1).1.end (each is k row.0 row.1));
      }

-- the book that came out has the moment of the block
pub at_moment : (first : Standing) (st : Option ℕ → Standing) → ((m : Option ℕ) → (st m).key.moment ≡ m) → (v w : SeatView) (seats : List SeatView) (n now : ℕ) → Starts first v → w ≡ has_next v n
    → first.key.moment ≡ Some now → (m : Option ℕ) × Closed first w seats (st m) → Closed first w seats (st (Some now))
at_moment first st key v w seats n now starts root is closed =
    let seen : w.seen.state ≡ first = ap (λ (z : SeatView). z.seen.state) root ∙ ap (λ (z : SeatView). z.seen.state) starts.root_is in
    let same : closed.0 ≡ Some now = sym (key closed.0) ∙ (ap (λ (k : Key). k.moment) closed.1.first.key ∙ (ap (λ (s : Standing). s.key.moment) seen ∙ is)) in
    subst (λ (m : Option ℕ). Closed first w seats (st m)) same closed.1

-- where no lane was left, none is left behind the last steps
pub still_none : (last s : Standing) → last.lanes ≡ 0 → IsBehind last s → s.lanes ≡ 0
still_none last s none h = let le = h.later.lanes in omega (arith, le, none)

module _ (st : Option ℕ → ℕ → Standing) (m n : Option ℕ) (k : ℕ) (same : m ≡ n) (none : k ≡ 0) where
  pub moved_behind : (last : Standing) → IsBehind last (st m k) → IsBehind last (st n 0)
  moved_behind last h = subst (λ (z : Option ℕ). IsBehind last (st z 0)) same (subst (λ (i : ℕ). IsBehind last (st m i)) none h)

  pub moved_rests : (now : ℕ) → Rests (st m k) now → Rests (st n 0) now
  moved_rests now h = subst (λ (z : Option ℕ). Rests (st z 0) now) same (subst (λ (i : ℕ). Rests (st m i) now) none h)

-- the lanes of a block, in words of the book that began it
pub ran_laneless : (first last : Standing) (now : ℕ) (lanes : List Lane) (outs : List LaneOut) (fed : Bool) → last.lanes ≡ 0 → RanLanes first last now lanes outs fed → RanLanes (laneless first) last now lanes outs fed
ran_laneless first last now lanes outs fed none h =
    let later = h.has.later in
    record {
      has = record {
        later = record { history = later.history; dated = later.dated; payloads = later.payloads; grown = later.grown; faults = later.faults; cause = later.cause; down = later.down; lanes = omega (arith, none); key = later.key };
        legal = h.has.legal;
        cause = h.has.cause;
        fresh = h.has.fresh;
        others = h.has.others;
      };
      told = record { turns = h.told.turns; moments = h.told.moments; behind = h.told.behind; count = h.told.count; told = h.told.told };
      end = h.end;
    }

-- the steps behind the lanes
module _ (first last final : Standing) (behind : IsBehind last final) where
  pub has_behind : (count : ℕ) → HasLanes first last count → HasLanes first final count
  has_behind count h = record {
    later = Follows-chain final last first behind.later h.later;
    legal = behind.legal;
    cause = behind.cause;
    fresh = h.fresh;
    others = λ n where_is. behind.only n ∙ h.others n where_is;
  }

  pub told_behind : (now : ℕ) (lanes : List Lane) (outs : List LaneOut) → LanesTold first last now lanes outs → LanesTold first final now lanes outs
  told_behind now lanes outs h = record {
    turns = h.turns;
    moments = record { rising = h.moments.rising; last = λ a there. Follows-chain final last a.state behind.later (h.moments.last a there) };
    behind = h.behind;
    count = h.count;
    told = λ k out at.
        let told = told_later now (lane_seat first k) (commands_at lanes k) h.turns h.turns (λ m there. there) last final (made_by seat_of (lane_seat first k) last.history) out.replies behind.later
        (h.told k out at) in
        subst (λ (es : List Entry). LaneTold h.turns final now (lane_seat first k) es (commands_at lanes k) out.replies) (sym (behind.only (lane_seat first k))) told;
  }

  pub block_behind : (now : ℕ) (lanes : List Lane) (outs : List LaneOut) (fed : Bool) → RanLanes first last now lanes outs fed → fed ≡ true → Rests final now → IsBlock first final now lanes outs
  block_behind now lanes outs fed h is rests = record { told = told_behind now lanes outs h.told; end = λ k out at. h.end is k out at; rests = rests }

-- nothing was done
pub has_none : (first : Standing) (count : ℕ) → Legal first.key.rules first.history → IsCaused first → HasLanes first first count
has_none first count legal cause = record {
  later = Follows-itself first;
  legal = legal;
  cause = cause;
  fresh = fresh_from first.key.rules first.history;
  others = λ n where_is. refl;
}

-- no lane was answered anything
abbrev silent : Lane → LaneOut
silent lane = record { replies = [] }

pub told_silent : (first : Standing) (now : ℕ) (lanes : List Lane) → AreToldLanes first first now lanes
told_silent first now lanes = (
  map silent lanes,
  record {
    turns = [];
    moments = no_moments first;
    behind = λ a there. nowhere a there;
    count = length-map lanes silent;
    told = λ k out at.
        let lane = from_map silent (map silent lanes) lanes k out refl at in
        subst (λ (o : LaneOut). LaneToldAt first [] first now lanes k o.replies) lane.2
        (told_none now (lane_seat first k) (commands_at lanes k) [] first (made_by seat_of (lane_seat first k) first.history)
        (fresh_from first.key.rules first.history (lane_seat first k) (omega arith)));
  },
)
