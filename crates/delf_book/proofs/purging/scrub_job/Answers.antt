use Rattle.std.proofs.Common.{length, sym, ap, ◌∙◌, arith}
use Rattle.std.proofs.lemmas.List.{length-map}
use Rattle.delf_disk.proofs.Flags.{stays_plain, same_kinds}
use Rattle.delf_model.specs.Step.{after}
use Rattle.payload_laws.specs.Holders.{unput_of}
use Rattle.delf_book.specs.Keeping.{item_sizes}
use Rattle.ledger.specs.Ledgers.{state_of}
use Rattle.delf_book.proofs.Remaining.{items_within}
use Rattle.delf_book.proofs.Scrubbing.{next_of, next_among, next_dead, next_left, none_left}
use Rattle.delf_book.proofs.Writes.{leaves_joined}
use Rattle.delf_book.proofs.purging.scrub_job.Goals as goal

pub scrub_item-requires-clause-inside : goal.scrub_item-requires-clause-inside
scrub_item-requires-clause-inside g c =
    let items = (state_of c.args.ledger.now).items in
    let next = next_of c.args.job c.items.from items c.in-Some.i (sym c.next_unput.ensures ∙ c.in-Some.is) in
    omega (arith, next.below, ap length (c.items.invariant.sizes ∙ c.requires.sizes), length-map items item_sizes)

pub returns-in_err-scrub_item-clause-crash : goal.returns-in_err-scrub_item-clause-crash
returns-in_err-scrub_item-clause-crash g c = λ plain rules h e rests dead.
    let items = (state_of c.args.ledger.now).items in
    let next = next_of c.args.job c.items.from items c.in-Some.i (sym c.next_unput.ensures ∙ c.in-Some.is) in
    let inv = c.items.invariant in
    let so_far = inv.leaves plain rules h e rests dead in
    leaves_joined so_far
    (c.scrub_item.ensures.crash (stays_plain inv.kind plain) rules h e so_far.now (next_dead c.args.job c.items.from items c.in-Some.i (unput_of c.args.job 0 items) next inv.among (after rules h) dead))

pub overflow_add-from : goal.overflow_add-from
overflow_add-from g c =
    let l = c.args.ledger.now in
    let items = (state_of l).items in
    let next = next_of c.args.job c.items.from items c.in-Some.i (sym c.next_unput.ensures ∙ c.in-Some.is) in
    omega (arith, next.below, items_within l.rules l.history, c.len-len.ensures.value, c.len-len.ensures.below)

pub items-smaller : goal.items-smaller
items-smaller g c =
    let items = (state_of c.args.ledger.now).items in
    let next = next_of c.args.job c.items.from items c.in-Some.i (sym c.next_unput.ensures ∙ c.in-Some.is) in
    omega (arith, next.low, next.below)

pub items-preserved : goal.items-preserved
items-preserved g c =
    let items = (state_of c.args.ledger.now).items in
    let all = unput_of c.args.job 0 items in
    let i = c.in-Some.i in
    let next = next_of c.args.job c.items.from items i (sym c.next_unput.ensures ∙ c.in-Some.is) in
    let inv = c.items.invariant in
    record {
      area = c.scrub_item.ensures.area ∙ inv.area;
      sizes = c.scrub_item.ensures.sizes ∙ inv.sizes;
      spare = omega (arith, inv.spare, c.scrub_item.ensures.spare);
      kind = same_kinds inv.kind c.scrub_item.ensures.kind;
      faults = c.in_ok-scrub_item.ensures.cause.stays ∙ inv.faults;
      stands = λ plain. c.scrub_item.ensures.stands (stays_plain inv.kind plain);
      among = next_among c.args.job c.items.from items i all next inv.among;
      leaves = λ plain rules h e rests dead.
          let so_far = inv.leaves plain rules h e rests dead in
          leaves_joined so_far
          (c.scrub_item.ensures.crash (stays_plain inv.kind plain) rules h e so_far.now (next_dead c.args.job c.items.from items i all next inv.among (after rules h) dead));
      remain = λ plain rules h e rests dead but.
          let so_far = inv.leaves plain rules h e rests dead in
          next_left c.args.job c.items.from items i all next inv.among (after rules h) (g.D.Disk.seen c.items.disk) (g.D.Disk.seen c.scrub_item.new.disk)
          (inv.remain plain rules h e rests dead but)
          (c.in_ok-scrub_item.ensures.scrubbed (stays_plain inv.kind plain) rules h e so_far.now (next_dead c.args.job c.items.from items i all next inv.among (after rules h) dead));
    }

pub returns-clause-clean : goal.returns-clause-clean
returns-clause-clean g c = λ plain rules h e rests dead but.
    let items = (state_of c.args.ledger.now).items in
    none_left c.args.job c.items.from items (after rules h) (g.D.Disk.seen c.items.disk) (sym c.next_unput.ensures ∙ c.in_default.is) (c.items.invariant.remain plain rules h e rests dead but)
