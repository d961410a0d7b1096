use Rattle.std.proofs.Common.{◌∙◌, refl}
use Rattle.delf_disk.specs.Content.{areas_of}
use Rattle.delf_disk.proofs.MemSteps.{same_content, begins, ended_reads, ended_room, ended_spare, ended_only}
use Rattle.delf_disk.proofs.mem_disk.MemDisk.of.Goals as goal

pub invariant_of-result : goal.invariant_of-result
invariant_of-result c =
    let stable = c.in_ok-stable.stable in
    let live = c.in_ok-live.live in
    let journal = c.journal.inside.bytes in
    let vault = c.vault.inside.bytes in
    let stable_journal = c.in_ok-stable.ensures.journal ∙ c.deref.ensures.value in
    let stable_vault = c.in_ok-stable.ensures.vault ∙ c.deref-2.ensures.value in
    let same = same_content stable live journal.items vault.items stable_journal stable_vault (c.in_ok-live.ensures.journal ∙ c.deref-3.ensures.value)
    (c.in_ok-live.ensures.vault ∙ c.deref-4.ensures.value) in
    record {
      begun = begins c.new.result.items _ _ c.new.ensures.items
          (same_content (record { journal = journal; vault = vault }) stable journal.items vault.items refl refl stable_journal stable_vault);
      reads = ended_reads c.new-2.result.items _ _ c.new-2.ensures.items same;
      room = ended_room c.new-2.result.items live stable c.new-2.ensures.items same;
      spare = ended_spare c.new-2.result.items c.new-2.ensures.items;
    }

pub returns-clause-only : goal.returns-clause-only
returns-clause-only c = λ x image.
    ended_only c.new-2.result.items (areas_of c.in_ok-stable.stable) (areas_of c.in_ok-live.live) x c.new-2.ensures.items
    (same_content c.in_ok-stable.stable c.in_ok-live.live c.journal.inside.bytes.items c.vault.inside.bytes.items
    (c.in_ok-stable.ensures.journal ∙ c.deref.ensures.value) (c.in_ok-stable.ensures.vault ∙ c.deref-2.ensures.value)
    (c.in_ok-live.ensures.journal ∙ c.deref-3.ensures.value) (c.in_ok-live.ensures.vault ∙ c.deref-4.ensures.value)) image
