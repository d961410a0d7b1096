use Rattle.std.proofs.Common.{◌≡◌, ℕ, length, take, ap, ◌∙◌, arith, length-take}
use Rattle.gate_log.specs.Places.{size_in}
use Rattle.delf_recovery.proofs.JournalRecords.{long_read, some_read, none_read}
use Rattle.delf_recovery.proofs.entries.entry_at.Goals as goal

pub returns-then-head-gt-HEAD_LIMIT-clause-none : goal.returns-then-head-gt-HEAD_LIMIT-clause-none
returns-then-head-gt-HEAD_LIMIT-clause-none g c =
    long_read _ c.args.log.now.area c.args.log.now.sizes c.args.i (g.D.Disk.seen c.args.disk.now) c.requires.inside
    (omega (arith, ap (λ (p : ℕ × ℕ). p.0) c.sizes-head.ensures, c.if-head-gt-HEAD_LIMIT.true))

pub returns-clause-some : goal.returns-clause-some
returns-clause-some g c =
    let sizes = c.args.log.now.sizes in
    let long : length (take c.in_ok-len.len c.read_front_head.new.buf) ≡ (size_in sizes c.args.i).0 =
    omega (arith, length-take c.in_ok-len.len c.read_front_head.new.buf, c.read_front_head.array_long, c.in_ok-len.ensures.length, ap (λ (p : ℕ × ℕ). p.0) c.sizes-head.ensures, c.if-head-gt-HEAD_LIMIT.false) in
    some_read _ c.args.log.now.area sizes c.args.i (g.D.Disk.seen c.args.disk.now) c.requires.inside _ c.from.result long
    (c.from.ensures ∙ ap (λ (p : ℕ × ℕ). p.1) c.sizes-head.ensures) c.in_ok-len.ensures.head c.read_entry.result c.read_entry.ensures.found

pub returns-clause-none : goal.returns-clause-none
returns-clause-none g c =
    let sizes = c.args.log.now.sizes in
    let long : length (take c.in_ok-len.len c.read_front_head.new.buf) ≡ (size_in sizes c.args.i).0 =
    omega (arith, length-take c.in_ok-len.len c.read_front_head.new.buf, c.read_front_head.array_long, c.in_ok-len.ensures.length, ap (λ (p : ℕ × ℕ). p.0) c.sizes-head.ensures, c.if-head-gt-HEAD_LIMIT.false) in
    none_read _ c.args.log.now.area sizes c.args.i (g.D.Disk.seen c.args.disk.now) c.requires.inside _ c.from.result long
    (c.from.ensures ∙ ap (λ (p : ℕ × ℕ). p.1) c.sizes-head.ensures) c.in_ok-len.ensures.head c.read_entry.result c.read_entry.ensures.none
