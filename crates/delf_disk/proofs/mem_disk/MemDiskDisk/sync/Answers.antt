use Rattle.std.proofs.Common.{List, sym, ◌∙◌, ap}
use Rattle.delf_disk.specs.declared.past.Write.{Write}
use Rattle.delf_disk.specs.declared.past.End.TheVariants.{Synced}
use Rattle.delf_disk.specs.Content.{areas_of}
use Rattle.delf_disk.specs.Epochs.{laid_all}
use Rattle.delf_disk.proofs.MemSteps.{ended_begun, ended_reads, ended_room, ended_spare, ended_moves, ended_only, none_pending}
use Rattle.delf_disk.proofs.mem_disk.MemDiskDisk.sync.Goals as goal

pub returns-then-is_empty-clause-only : goal.returns-then-is_empty-clause-only
returns-then-is_empty-clause-only c =
    let old = c.args.self.now in
    let none = none_pending old.pending c.if-is_empty.ensures in
    let same = ap (λ (v : List Write). laid_all v (areas_of old.stable)) (sym none) ∙ old.reads in
    λ x image. ended_only old.pending.items (areas_of old.stable) (areas_of old.live) x none same image

pub invariant_of-self-2 : goal.invariant_of-self-2
invariant_of-self-2 c =
    let old = c.args.self.now in
    let over = c.end_epoch.ensures.past in
    let none = c.end_epoch.ensures.pending in
    let landed = c.land_all.ensures.areas ∙ ap (λ (v : List Write). laid_all v (areas_of old.stable)) c.deref.ensures.value in
    let same = landed ∙ old.reads in
    record {
      begun = ended_begun old.past.items c.end_epoch.new.past.items over.0 Synced old.pending.items (areas_of old.first) (areas_of old.stable) (areas_of c.land_all.new.self)
          over.3 over.1 over.2 old.begun landed;
      reads = ended_reads c.end_epoch.new.pending.items (areas_of c.land_all.new.self) (areas_of old.live) none same;
      room = ended_room c.end_epoch.new.pending.items old.live c.land_all.new.self none same;
      spare = ended_spare c.end_epoch.new.pending.items none;
    }

pub returns-clause-only : goal.returns-clause-only
returns-clause-only c =
    let old = c.args.self.now in
    let landed = c.land_all.ensures.areas ∙ ap (λ (v : List Write). laid_all v (areas_of old.stable)) c.deref.ensures.value in
    λ x image. ended_only c.end_epoch.new.pending.items (areas_of c.land_all.new.self) (areas_of old.live) x c.end_epoch.ensures.pending (landed ∙ old.reads) image

pub returns-clause-images : goal.returns-clause-images
returns-clause-images c =
    let old = c.args.self.now in
    let over = c.end_epoch.ensures.past in
    let landed = c.land_all.ensures.areas ∙ ap (λ (v : List Write). laid_all v (areas_of old.stable)) c.deref.ensures.value in
    ended_moves old.past.items c.end_epoch.new.past.items over.0 Synced old.pending.items c.end_epoch.new.pending.items (areas_of old.first) (areas_of old.stable) (areas_of c.land_all.new.self)
    over.3 over.1 over.2 c.end_epoch.ensures.pending old.begun landed
