-- The first nine bytes are torn, and no others.
use Rattle.std.proofs.Common.{◌≡◌, ℕ, List, [], ◌∷◌, ◌++◌, length, subst, arith, length-append}
use Rattle.delf_disk.specs.declared.area.Area.{Area}
use Rattle.delf_disk.specs.Areas.{Areas}
use Rattle.delf_disk.specs.Images.{Torn}
use Rattle.delf_disk.proofs.Flags.{stays_plain}
use Rattle.delf_disk.proofs.Moments.{started, called, kept}
use Rattle.delf_disk.proofs.Writes.{torn_same}
use Rattle.gate_log.proofs.begin.begin.Goals as goal

torn_nine : (area : Area) (bytes : List ℕ) (old new : Areas) → length bytes ≡ 8 → Torn area 0 (length (bytes ++ 0 ∷ [])) old new → Torn area 0 9 old new
torn_nine area bytes old new long torn = let nine : length (bytes ++ 0 ∷ []) ≡ 9 = omega (arith, length-append bytes (0 ∷ []), long) in subst (λ (n : ℕ). Torn area 0 n old new) nine torn

pub returns-in_err-write-clause-any_moment : goal.returns-in_err-write-clause-any_moment
returns-in_err-write-clause-any_moment g c = λ plain.
    let a = c.args in
    let at_start = started a.disk.now (Torn a.area 0 9) (λ x left. g.met.D.Disk.only_now a.disk.now x plain left) (λ x image. torn_same a.area 0 9 x) in
    called at_start (c.write.ensures.images plain) (λ x after. (after.0, after.1, torn_nine a.area c.copy_from_slice.new.self after.0 x c.copy_from_slice.ensures.len after.2))

pub returns-clause-any_moment : goal.returns-clause-any_moment
returns-clause-any_moment g c = λ plain.
    let a = c.args in
    let at_start = started a.disk.now (Torn a.area 0 9) (λ x left. g.met.D.Disk.only_now a.disk.now x plain left) (λ x image. torn_same a.area 0 9 x) in
    let written = called at_start (c.write.ensures.images plain) (λ x after. (after.0, after.1, torn_nine a.area c.copy_from_slice.new.self after.0 x c.copy_from_slice.ensures.len after.2)) in
    kept written (c.sync.ensures.images (stays_plain c.write.ensures.kind plain))
