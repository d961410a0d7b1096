use Rattle.std.proofs.Common.{List, sym, ◌∙◌, ap}
use Rattle.delf_disk.specs.declared.past.Write.{Write}
use Rattle.delf_disk.specs.declared.past.End.TheVariants.{Cut}
use Rattle.delf_disk.specs.Areas.{Areas}
use Rattle.delf_disk.specs.Content.{areas_of}
use Rattle.delf_disk.specs.Epochs.{picked}
use Rattle.delf_disk.specs.EpochLaws.{reads_as_image}
use Rattle.delf_disk.proofs.MemSteps.{ended_begun, ended_reads, ended_room, ended_spare, ended_moves, picked_image}
use Rattle.delf_disk.proofs.mem_disk.MemDiskRig.cut_power.Goals as goal

pub returns-then-is_empty-clause-one : goal.returns-then-is_empty-clause-one
returns-then-is_empty-clause-one c = let old = c.args.self.now in reads_as_image old.pending.items (areas_of old.stable) (areas_of old.live) old.reads

pub invariant_of-self-2 : goal.invariant_of-self-2
invariant_of-self-2 c =
    let old = c.args.self.now in
    let pick = c.args.pick in
    let over = c.end_epoch.ensures.past in
    let none = c.end_epoch.ensures.pending in
    let live_is = c.leave_all.ensures.areas ∙ ap (λ (v : List Write). picked pick v (areas_of c.copy.new.self)) c.deref.ensures.value
    ∙ ap (λ (s : Areas). picked pick old.pending.items s) c.copy.ensures.areas in
    let stable_is = c.leave_all-2.ensures.areas ∙ ap (λ (v : List Write). picked pick v (areas_of old.stable)) c.deref-2.ensures.value in
    let same = stable_is ∙ sym live_is in
    record {
      begun = ended_begun old.past.items c.end_epoch.new.past.items over.0 (Cut pick) old.pending.items (areas_of old.first) (areas_of old.stable) (areas_of c.leave_all-2.new.self)
          over.3 over.1 over.2 old.begun stable_is;
      reads = ended_reads c.end_epoch.new.pending.items (areas_of c.leave_all-2.new.self) (areas_of c.leave_all.new.self) none same;
      room = ended_room c.end_epoch.new.pending.items c.leave_all.new.self c.leave_all-2.new.self none same;
      spare = ended_spare c.end_epoch.new.pending.items none;
    }

pub returns-clause-one : goal.returns-clause-one
returns-clause-one c =
    let old = c.args.self.now in
    let pick = c.args.pick in
    picked_image (Cut pick) old.pending.items (areas_of old.stable) (areas_of c.leave_all.new.self)
    (c.leave_all.ensures.areas ∙ ap (λ (v : List Write). picked pick v (areas_of c.copy.new.self)) c.deref.ensures.value
    ∙ ap (λ (s : Areas). picked pick old.pending.items s) c.copy.ensures.areas)

pub returns-clause-images : goal.returns-clause-images
returns-clause-images c =
    let old = c.args.self.now in
    let pick = c.args.pick in
    let over = c.end_epoch.ensures.past in
    ended_moves old.past.items c.end_epoch.new.past.items over.0 (Cut pick) old.pending.items c.end_epoch.new.pending.items (areas_of old.first) (areas_of old.stable)
    (areas_of c.leave_all-2.new.self) over.3 over.1 over.2 c.end_epoch.ensures.pending old.begun
    (c.leave_all-2.ensures.areas ∙ ap (λ (v : List Write). picked pick v (areas_of old.stable)) c.deref-2.ensures.value)
