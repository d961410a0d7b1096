use Rattle.std.proofs.Common.{List, Some, length, map, refl, sym, ap, ◌∙◌}
use Rattle.std.proofs.lemmas.List.{length-map}
use Rattle.std.specs.Prelude.{slice_get, vec_capacity}
use Rattle.seat_lock.specs.Locks.{view, IsOf, start_of}
use Rattle.delf_service.specs.Standings.{standing_in, standing_of}
use Rattle.delf_service.proofs.Blocks.{ready_each, ran_each, part_each, views_of, at_moment, ran_all, ran_laneless}
use Rattle.delf_service.proofs.service.Service.run_and_close.Goals as goal

pub run_opened-requires-clause-ready : goal.run_opened-requires-clause-ready
run_opened-requires-clause-ready g c κs within =
    let first = standing_in g.R.Disk (start_of c.args.self.lock).book (start_of c.args.self.lock).moment (start_of c.args.self.lock).lanes in
    ready_each first (λ row. view row.seat) (λ row. IsOf c.args.self.lock row.seat) (λ row. row.replies) (λ l. l.items) (λ l. vec_capacity l)
    c.args.now c.args.lanes.now (view c.args.root) c.open_rows.new.rows.items c.args.room.lists.items c.requires.starts c.requires.moment c.requires.few.1 c.requires.numbers c.requires.room
    c.open_rows.ensures.lists c.open_rows.ensures.each

pub close-book-requires-clause-each : goal.close-book-requires-clause-each
close-book-requires-clause-each g c =
    let first = standing_in g.R.Disk (start_of c.args.self.lock).book (start_of c.args.self.lock).moment (start_of c.args.self.lock).lanes in
    let ran = ran_each first (λ row. view row.seat) (λ row. IsOf c.args.self.lock row.seat) (λ row. row.replies.items) (λ row. row.starved)
    c.args.now c.args.turns c.args.lanes.now (view c.args.root) c.open_rows.new.rows.items c.run_opened.new.rows.items c.requires.starts.root_is c.run_opened.ensures.count c.open_rows.ensures.each c.run_opened.ensures.run in
    part_each (λ row. row.seat) (λ s. IsOf c.args.self.lock s) c.part_rows.new.seats.items c.run_opened.new.rows.items c.part_rows.ensures.seats (λ k row at. (ran k row at).0)

pub returns : goal.returns
returns g c =
    let first = standing_in g.R.Disk (start_of c.args.self.lock).book (start_of c.args.self.lock).moment (start_of c.args.self.lock).lanes in
    let last = standing_of g.R.Disk c.close-book.result (Some c.args.now) in
    let many = length c.args.room.lists.items in
    let rows = c.run_opened.new.rows.items in
    let opened = sym (length-map c.open_rows.new.rows.items (λ row. row.replies)) ∙ ap (λ (l : List _). length l) c.open_rows.ensures.lists in
    let ran = ran_each first (λ row. view row.seat) (λ row. IsOf c.args.self.lock row.seat) (λ row. row.replies.items) (λ row. row.starved)
    c.args.now c.args.turns c.args.lanes.now (view c.args.root) c.open_rows.new.rows.items rows c.requires.starts.root_is c.run_opened.ensures.count c.open_rows.ensures.each c.run_opened.ensures.run in
    let seats = map (λ s. view s) c.part_rows.new.seats.items in
    let closed = at_moment first (λ m. standing_of g.R.Disk c.close-book.result m) (λ m. refl) (view c.args.root) (view c.open_rows.new.root) seats many c.args.now
    c.requires.starts c.open_rows.ensures.root c.requires.moment c.close-book.ensures.closed in
    ran_laneless first last c.args.now c.args.lanes.now c.truncate.new.self.items c.are_fed-fed.result refl
    (ran_all first (λ row. view row.seat) (λ row. IsOf c.args.self.lock row.seat) (λ row. row.replies.items) (λ row. row.starved)
    c.args.now c.args.lanes.now last (view c.args.root) (view c.open_rows.new.root) rows seats c.part_rows.new.outs.items c.truncate.new.self.items
    c.requires.starts many (c.run_opened.ensures.count ∙ opened) c.requires.few.0 c.open_rows.ensures.root
    (views_of (λ row. row.seat) (λ s. view s) c.part_rows.new.seats.items rows c.part_rows.ensures.seats) c.part_rows.ensures.outs c.truncate.ensures.items ran closed
    c.requires.counted c.are_fed-fed.result (λ fed k row at. c.are_fed-fed.ensures fed k row (ap (λ (l : List _). slice_get l k) c.deref.ensures.value ∙ at)))
