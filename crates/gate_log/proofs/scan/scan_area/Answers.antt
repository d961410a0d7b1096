-- One record more, and each exit behind a look.
use Rattle.std.proofs.Common.{◌≡◌, ◌+◌, length, take, refl, ◌∙◌, subst, arith, length-take}
use Rattle.delf_disk.specs.Areas.{Areas, area_of}
use Rattle.delf_disk.proofs.Flags.{stays_plain, same_kinds}
use Rattle.delf_disk.proofs.Moments.{same_on}
use Rattle.gate_log.specs.Looking.{OpenAt}
use Rattle.gate_log.proofs.Kept.{tied_pushed}
use Rattle.gate_log.proofs.Reading.{more_read}
use Rattle.gate_log.proofs.Unsynced.{none_on}
use Rattle.gate_log.proofs.scan.scan_area.Goals as goal

pub gates-preserved : goal.gates-preserved
gates-preserved g c =
    let a = c.args in
    let s = c.gates.invariant in
    let lengths = c.in-Some.lengths in
    let within = rw c.in-Some.is at c.in-Ok.ensures.within in
    let sum : c.gates.at + (7 + c.from.result + c.from-in-gates.result) ≡ c.gates.at + (7 + lengths.head + lengths.payload) = omega (arith, c.from.ensures, c.from-in-gates.ensures) in
    let tied = tied_pushed _ _ _ c.gates.at _ c.in_ok-push.ensures.items refl sum s.tied in
    record {
      within = omega (arith, within, c.from.ensures, c.from-in-gates.ensures);
      tied = tied;
      count = omega (arith, c.in_ok-push.ensures.len, c.len.ensures, c.if-len-ge-MOST_RECORDS.false);
      kind = same_kinds s.kind c.look.ensures.kind;
      faults = c.in-Ok.ensures.cause ∙ s.faults;
      seen = λ plain. c.look.ensures.seen (stays_plain s.kind plain) ∙ s.seen plain;
      moments = λ plain. same_on (s.moments plain) (c.look.ensures.any_moment (stays_plain s.kind plain));
      images = λ plain. none_on (s.images plain) (c.look.ensures.none_lost (stays_plain s.kind plain));
      read = λ plain.
          let bytes = area_of a.area (g.D.Disk.seen a.disk.now) in
          let eight : length (take 8 (area_of a.area (g.D.Disk.seen a.disk.now))) ≡ 8 = omega (arith, length-take 8 (area_of a.area (g.D.Disk.seen a.disk.now)), c.requires.len plain, c.requires.longer) in
          let looked = rw c.in-Some.is at c.in-Ok.ensures.looked (stays_plain s.kind plain) in
          let opened = subst (λ (x : Areas). OpenAt c.gates.at lengths (area_of a.area x)) (s.seen plain) looked in
          more_read (take 8 bytes) bytes eight _ _ _ c.gates.at _ lengths c.in_ok-push.ensures.items refl tied (s.read plain) opened;
    }

pub returns-in-Err-Broken-clause-none_lost : goal.returns-in-Err-Broken-clause-none_lost
returns-in-Err-Broken-clause-none_lost g c = λ plain.
    let s = c.gates.invariant in
    none_on (s.images plain) (c.look.ensures.none_lost (stays_plain s.kind plain))

pub returns-in-Err-clause-none_lost : goal.returns-in-Err-clause-none_lost
returns-in-Err-clause-none_lost g c = λ plain.
    let s = c.gates.invariant in
    none_on (s.images plain) (c.look.ensures.none_lost (stays_plain s.kind plain))

pub returns-in_default-clause-none_lost : goal.returns-in_default-clause-none_lost
returns-in_default-clause-none_lost g c = λ plain.
    let s = c.gates.invariant in
    none_on (s.images plain) (c.look.ensures.none_lost (stays_plain s.kind plain))

pub returns-then-len-ge-MOST_RECORDS-clause-none_lost : goal.returns-then-len-ge-MOST_RECORDS-clause-none_lost
returns-then-len-ge-MOST_RECORDS-clause-none_lost g c = λ plain.
    let s = c.gates.invariant in
    none_on (s.images plain) (c.look.ensures.none_lost (stays_plain s.kind plain))

pub returns-in_err-push-clause-none_lost : goal.returns-in_err-push-clause-none_lost
returns-in_err-push-clause-none_lost g c = λ plain.
    let s = c.gates.invariant in
    none_on (s.images plain) (c.look.ensures.none_lost (stays_plain s.kind plain))
