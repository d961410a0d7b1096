-- One piece more.
use Rattle.std.proofs.Common.{◌+◌, ◌≤◌, ℕ, List, replicate, sym, ◌∙◌, subst, arith}
use Rattle.std.proofs.lemmas.List.{length-replicate, replicate-append-replicate}
use Rattle.delf_disk.specs.Images.{Written}
use Rattle.delf_disk.proofs.Flags.{stays_plain, same_kinds}
use Rattle.delf_disk.proofs.Moments.{ran}
use Rattle.delf_disk.proofs.Writes.{torn_then, written_then}
use Rattle.gate_log.proofs.wipe.wipe.Goals as goal

pub returns-in_err-put_zeros-clause-any_moment : goal.returns-in_err-put_zeros-clause-any_moment
returns-in_err-put_zeros-clause-any_moment g c = λ plain.
    let a = c.args in
    let s = c.pieces.invariant in
    ran (s.moments plain) (c.put_zeros.ensures.any_moment (stays_plain s.kind plain)) (λ d x image torn. torn)
    (λ d m x image then torn piece. torn_then a.area a.at a.n (a.at + c.pieces.done) c.min-piece.result d m x (omega arith) (omega (arith, s.within, c.min-piece.ensures, c.pieces-test.true)) torn piece)

pub pieces-preserved : goal.pieces-preserved
pieces-preserved g c =
    let a = c.args in
    let s = c.pieces.invariant in
    let done = c.pieces.done in
    let more = c.min-piece.result in
    let inside : c.pieces.done + c.min-piece.result ≤ c.args.n = omega (arith, s.within, c.min-piece.ensures, c.pieces-test.true) in
    record {
      within = inside;
      kind = same_kinds s.kind c.put_zeros.ensures.kind;
      faults = c.in_ok-put_zeros.ensures.cause.stays ∙ s.faults;
      written = λ plain.
          let two = c.in_ok-put_zeros.ensures.written (stays_plain s.kind plain) in
          let behind = subst (λ (k : ℕ). Written a.area (a.at + k) (replicate more 0) (g.D.Disk.seen c.pieces.disk) (g.D.Disk.seen c.put_zeros.new.disk)) (sym (length-replicate done 0)) two in
          let both = written_then a.area a.at (replicate done 0) (replicate more 0) _ _ _ (omega (arith, c.requires.within plain)) (s.written plain) behind in
          subst (λ (l : List ℕ). Written a.area a.at l (g.D.Disk.seen a.disk.now) (g.D.Disk.seen c.put_zeros.new.disk)) (replicate-append-replicate done more 0) both;
      moments = λ plain.
          ran (s.moments plain) (c.put_zeros.ensures.any_moment (stays_plain s.kind plain)) (λ d x image torn. torn)
          (λ d m x image then torn piece. torn_then a.area a.at a.n (a.at + done) more d m x (omega arith) (omega (arith, inside)) torn piece);
    }
