use Rattle.std.proofs.Common.{◌≡◌, ℕ, length, take, ap, sym, ◌∙◌, arith, inl, inr, length-take}
use Rattle.gate_log.specs.Places.{size_in}
use Rattle.delf_recovery.proofs.ItemRecords.{other_sizes, seal_of_read, judges_item}
use Rattle.delf_recovery.proofs.items.is_item_at.Goals as goal
use Rattle.delf_recovery.proofs.items.is_item_at.Goals.{then-head-gt-HEAD_LIMIT-via-then-head-gt-HEAD_LIMIT, then-head-gt-HEAD_LIMIT-via-else-head-gt-HEAD_LIMIT+then-head-lt32, then-head-gt-HEAD_LIMIT-via-else-head-gt-HEAD_LIMIT+else-head-lt32+then-payload-size_of}

pub returns-then-head-gt-HEAD_LIMIT-clause-judged : goal.returns-then-head-gt-HEAD_LIMIT-clause-judged
returns-then-head-gt-HEAD_LIMIT-clause-judged g c =
    other_sizes _ c.args.log.now.area c.args.log.now.sizes c.args.i (g.D.Disk.seen c.args.disk.now) c.requires.inside c.args.item.now
    (elim c.then-head-gt-HEAD_LIMIT.branch [
      | then-head-gt-HEAD_LIMIT-via-then-head-gt-HEAD_LIMIT w ↦ inl (omega (arith, w.if-head-gt-HEAD_LIMIT.true, ap (λ (p : ℕ × ℕ). p.0) c.sizes-head.ensures))
      | then-head-gt-HEAD_LIMIT-via-else-head-gt-HEAD_LIMIT+then-head-lt32 w ↦ inr (inl (omega (arith, w.if-head-lt32.true, ap (λ (p : ℕ × ℕ). p.0) c.sizes-head.ensures)))
      | then-head-gt-HEAD_LIMIT-via-else-head-gt-HEAD_LIMIT+else-head-lt32+then-payload-size_of w ↦ inr (inr (λ same. w.if-payload-size_of.true (ap (λ (p : ℕ × ℕ). p.1) c.sizes-head.ensures ∙ (same ∙ sym w.size_of.ensures))))
    ])

pub returns-clause-judged : goal.returns-clause-judged
returns-clause-judged g c =
    let sizes = c.args.log.now.sizes in
    let long : length (take c.in_ok-len.field-0 c.read_front_head.new.buf) ≡ (size_in sizes c.args.i).0 =
    omega (arith, length-take c.in_ok-len.field-0 c.read_front_head.new.buf, c.read_front_head.array_long, c.in_ok-len.ensures.length, ap (λ (p : ℕ × ℕ). p.0) c.sizes-head.ensures, c.if-head-gt-HEAD_LIMIT.false) in
    judges_item _ c.args.log.now.area sizes c.args.i (g.D.Disk.seen c.args.disk.now) c.requires.inside c.args.item.now
    (take c.in_ok-len.field-0 c.read_front_head.new.buf) c.copy_from_slice.new.self (take c.write_item-wanted_len.result c.write_item-wanted_len.new.out)
    long c.in_ok-len.ensures.head (sym (ap (λ (p : ℕ × ℕ). p.1) c.sizes-head.ensures) ∙ (c.if-payload-size_of.false ∙ c.size_of.ensures))
    (seal_of_read c.read_front_head.new.buf c.copy_from_slice.new.self c.in_ok-len.field-0
    (omega (arith, c.in_ok-len.ensures.length, ap (λ (p : ℕ × ℕ). p.0) c.sizes-head.ensures, c.if-head-lt32.false)) (long ∙ sym c.in_ok-len.ensures.length) c.copy_from_slice.ensures.after)
    c.write_item-wanted_len.ensures.digest c.write_item-wanted_len.ensures.head c.write_item-wanted_len.ensures.item c.same_bytes.result c.same_bytes.ensures
