use Rattle.std.proofs.Common.{◌≡◌, ℕ, ◌≤◌, List, length, take, replicate, ◌∙◌, ap, subst, OnOk}
use Rattle.std.proofs.lemmas.List.{take-replicate}
use Rattle.delf_disk.specs.Images.{Torn, Written}
use Rattle.delf_disk.specs.Plain.{Plain}
use Rattle.delf_disk.proofs.Moments.{started, called}
use Rattle.delf_disk.proofs.Writes.{torn_same}
use Rattle.std.proofs.lemmas.List.{length-replicate}
use Rattle.gate_log.proofs.wipe.put_zeros.Goals as goal

some_zeros : (n k : ℕ) → n ≤ k → take {A = ℕ} n (replicate k 0) ≡ replicate n 0
some_zeros n k le = take-replicate n k 0 le

pub returns-clause-written : goal.returns-clause-written
returns-clause-written g c =
    let a = c.args in
    subst (λ (l : List ℕ). OnOk c.write.result (Plain (g.D.Disk.told a.disk.now) (g.D.Disk.honest a.disk.now) → Written a.area a.at l (g.D.Disk.seen a.disk.now) (g.D.Disk.seen c.write.new.self)))
    (some_zeros a.n 65536 c.requires.piece) c.write.ensures.written

pub returns-clause-any_moment : goal.returns-clause-any_moment
returns-clause-any_moment g c = λ plain.
    let a = c.args in
    let size : length (take {A = ℕ} a.n (replicate 65536 0)) ≡ a.n = ap length (some_zeros a.n 65536 c.requires.piece) ∙ length-replicate a.n 0 in
    let at_start = started a.disk.now (Torn a.area a.at a.n) (λ x left. g.met.D.Disk.only_now a.disk.now x plain left) (λ x image. torn_same a.area a.at a.n x) in
    called at_start (c.write.ensures.images plain) (λ x after. (after.0, after.1, subst (λ (k : ℕ). Torn a.area a.at k after.0 x) size after.2))
