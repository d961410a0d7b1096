use Rattle.std.proofs.Common.{◌≡◌, ◌+◌, ◌-◌, ℕ, length, refl, ◌∙◌, ap, subst}
use Rattle.delf_disk.specs.Areas.{area_of}
use Rattle.delf_disk.specs.Images.{Same, Torn}
use Rattle.delf_disk.specs.Moments.{Runs}
use Rattle.delf_disk.proofs.Flags.{stays_plain}
use Rattle.delf_disk.proofs.Moments.{started, kept, same_then}
use Rattle.delf_disk.proofs.Writes.{torn_same}
use Rattle.gate_log.proofs.wipe.wipe_tail.Goals as goal

pub returns-clause-any_moment : goal.returns-clause-any_moment
returns-clause-any_moment g c = λ plain.
    let a = c.args in
    let n : c.saturating_sub.result ≡ length (area_of a.area (g.D.Disk.seen a.disk.now)) - (a.gate + 1) =
    c.saturating_sub.ensures ∙ ap (λ (k : ℕ). k - (a.gate + 1)) (c.in_ok-len.ensures.value plain) in
    let at_start = started a.disk.now Same (λ x left. g.met.D.Disk.only_now a.disk.now x plain left) (λ x image. refl) in
    subst (λ (k : ℕ). Runs g.D.Disk.moment g.D.Disk.may_leave g.D.Disk.left_since (Torn a.area (a.gate + 1) k) a.disk.now c.wipe.new.disk) n
    (same_then (kept at_start (c.len.ensures.images plain)) (c.wipe.ensures.any_moment (stays_plain c.len.ensures.kind plain)) (λ x image. torn_same a.area (a.gate + 1) c.saturating_sub.result x))
