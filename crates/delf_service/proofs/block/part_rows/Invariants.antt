use Rattle.std.proofs.Common.{◌≡◌, ◌++◌, length, map}
use Rattle.std.specs.Prelude.{vec_capacity}
use Rattle.std.specs.Vec.Iter.{into_iter_items, into_iter_len}
use Rattle.delf_service.proofs.block.part_rows.Given as goal

abbrev pub invariant-loop-row : goal.invariant-loop-row
invariant-loop-row g l = record {
  seats : l.seats.items ≡ map (λ row. row.seat) l.yielded;
  outs : map (λ out. out.replies) l.outs.items ≡ map (λ row. row.replies.items) l.yielded;
  seat_room : vec_capacity l.seats ≡ vec_capacity l.fn.seats;
  out_room : vec_capacity l.outs ≡ vec_capacity l.fn.outs;
  rest : l.yielded ++ into_iter_items l.row-iterator ≡ into_iter_items l.initial.row-iterator;
  len : into_iter_len l.row-iterator ≡ length (into_iter_items l.row-iterator);
}
