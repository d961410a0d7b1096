-- What a seat remembers behind a turn.
use Rattle.std.proofs.Common.{◌≡◌, ℕ, List, [], ◌∷◌, ◌++◌, sym, subst}
use Rattle.std.specs.List.{Contains}
use Rattle.std.proofs.lemmas.List.Elements.{Contains-append_left, Contains-push}
use Rattle.delf_model.specs.declared.entry.Entry.{Entry}
use Rattle.seat_lock.specs.declared.view.Moment.{Moment}
use Rattle.seat_lock.specs.declared.view.View.{View}
use Rattle.seat_lock.specs.Views.{moment, took_turn}
use Rattle.delf_service.specs.declared.standing.Standing.{Standing}
use Rattle.delf_service.specs.Follows.{Follows}
use Rattle.delf_service.specs.Standings.{Sees}
use Rattle.delf_service.specs.Turns.{Keeps, HadTurn}

abbrev SeatView : Type 0
SeatView = View Standing Entry

pub keeps_itself : (v : SeatView) → Keeps v v
keeps_itself v m there = there

pub keeps_chain : (u v w : SeatView) → Keeps u v → Keeps v w → Keeps u w
keeps_chain u v w first then m there = then m (first m there)

-- what a seat sees, another sees that remembers no less
pub sees_more : (ms ns : List (Moment Standing)) (s : Standing) → ((m : Moment Standing) → Contains ms m → Contains ns m) → Sees ms s → Sees ns s
sees_more ms ns s more sees = (sees.0, more (moment sees.0 s) sees.1)

module _ (v : SeatView) (x y : Standing) (i j : ℕ) (made : List Entry) where
  abbrev took : SeatView
  took = took_turn v (moment i x) (moment j y) made

  took_keeps : Keeps v took
  took_keeps m there = Contains-append_left (v.remembers ++ moment i x ∷ []) (moment j y ∷ []) m (Contains-append_left v.remembers (moment i x ∷ []) m there)

  took_found : Sees took.remembers x
  took_found = (i, Contains-append_left (v.remembers ++ moment i x ∷ []) (moment j y ∷ []) (moment i x) (Contains-push v.remembers (moment i x)))

  took_left : Sees took.remembers y
  took_left = (j, Contains-push (v.remembers ++ moment i x ∷ []) (moment j y))

  took_all : Follows x v.seen.state → HadTurn v took x
  took_all later = record { later = later; keeps = took_keeps; was_found = took_found; was_left = took_left }

pub had_turn : (v w : SeatView) (x y : Standing) (i j : ℕ) (made : List Entry) → Follows x v.seen.state → w ≡ took_turn v (moment i x) (moment j y) made → HadTurn v w x
had_turn v w x y i j made later took = subst (λ (z : SeatView). HadTurn v z x) (sym took) (took_all v x y i j made later)
