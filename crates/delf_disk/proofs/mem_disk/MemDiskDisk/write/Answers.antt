use Rattle.std.proofs.Common.{◌≡◌, true, false, List, [], ◌∷◌, ◌++◌, not, refl, sym, ◌∙◌, ap, inl, inr}
use Rattle.delf_disk.specs.declared.counts.Counts.{Counts}
use Rattle.delf_disk.specs.declared.past.Write.{Write}
use Rattle.delf_disk.specs.Content.{areas_of}
use Rattle.delf_disk.specs.Counts.{next}
use Rattle.delf_disk.proofs.MemSteps.{fits, wrote_reads, wrote_room, wrote_moves}
use Rattle.delf_disk.proofs.mem_disk.MemDiskDisk.write.Goals as goal

false_is_not_true : false ≡ true → ⊥
false_is_not_true same = cc

pub invariant_of-self-then-fails : goal.invariant_of-self-then-fails
invariant_of-self-then-fails c =
    let told = c.in-Ok.ensures in
    let mid = c.prepare.new.self in
    let w = c.in-Ok.write in
    let in_live = fits w c.args.area c.args.at c.args.bytes.now mid.live told.area told.at told.bytes told.live_room in
    let in_stable = fits w c.args.area c.args.at c.args.bytes.now mid.stable told.area told.at told.bytes told.stable_room in
    record {
      begun = mid.begun;
      reads = wrote_reads mid.pending.items c.push_reserved.new.self.items w (areas_of mid.stable) (areas_of mid.live) (areas_of c.land.new.self)
          c.push_reserved.ensures.items mid.reads c.land.ensures.areas;
      room = wrote_room mid.pending.items c.push_reserved.new.self.items w mid.live c.land.new.self mid.stable c.push_reserved.ensures.items mid.room c.land.ensures.room in_live in_stable;
      spare = λ _. told.past_room;
    }

pub invariant_of-self-else-fails : goal.invariant_of-self-else-fails
invariant_of-self-else-fails c =
    let told = c.in-Ok.ensures in
    let mid = c.prepare.new.self in
    let w = c.in-Ok.write in
    let in_live = fits w c.args.area c.args.at c.args.bytes.now mid.live told.area told.at told.bytes told.live_room in
    let in_stable = fits w c.args.area c.args.at c.args.bytes.now mid.stable told.area told.at told.bytes told.stable_room in
    record {
      begun = mid.begun;
      reads = wrote_reads mid.pending.items c.push_reserved.new.self.items w (areas_of mid.stable) (areas_of mid.live) (areas_of c.land.new.self)
          c.push_reserved.ensures.items mid.reads c.land.ensures.areas;
      room = wrote_room mid.pending.items c.push_reserved.new.self.items w mid.live c.land.new.self mid.stable c.push_reserved.ensures.items mid.room c.land.ensures.room in_live in_stable;
      spare = λ _. told.past_room;
    }

pub returns-then-fails-clause-ends : goal.returns-then-fails-clause-ends
returns-then-fails-clause-ends c =
    let told = c.in-Ok.ensures in
    let w = c.in-Ok.write in
    inr (inl (record {
      is_err = refl;
      is_set = c.next_call-fails.ensures.is_set.0 c.if-fails.true;
      appends = record {
        write = w;
        area_is = told.area;
        at_is = told.at;
        bytes_are = told.bytes;
        landed_is = told.landed ∙ ap not c.if-fails.true;
        stable = told.stable;
        pending = c.push_reserved.ensures.items ∙ ap (λ (v : List Write). v ++ w ∷ []) told.pending;
      };
      faults = ap (λ (k : Counts). k.faults) c.fault.ensures.new ∙ ap (λ (k : Counts). next k.faults) told.counts ∙ ap next c.next_call-fails.ensures.faults;
      starved = ap (λ (k : Counts). k.starved) c.fault.ensures.new ∙ ap (λ (k : Counts). k.starved) told.counts ∙ c.next_call-fails.ensures.starved;
    }))

pub returns-then-fails-clause-images : goal.returns-then-fails-clause-images
returns-then-fails-clause-images c =
    let told = c.in-Ok.ensures in
    let old = c.args.self.now in
    let mid = c.prepare.new.self in
    let w = c.in-Ok.write in
    wrote_moves old.past.items mid.past.items old.pending.items c.push_reserved.new.self.items w (areas_of old.first) (areas_of mid.first) (areas_of old.stable) (areas_of mid.stable)
    c.args.area c.args.at c.args.bytes.now told.past (c.push_reserved.ensures.items ∙ ap (λ (v : List Write). v ++ w ∷ []) told.pending) told.first told.stable old.begun
    told.area told.at told.bytes

pub returns-clause-ends : goal.returns-clause-ends
returns-clause-ends c =
    let told = c.in-Ok.ensures in
    let w = c.in-Ok.write in
    inl (record {
      is_ok = refl;
      not_set = λ set. false_is_not_true (sym c.if-fails.false ∙ c.next_call-fails.ensures.is_set.1 set);
      appends = record {
        write = w;
        area_is = told.area;
        at_is = told.at;
        bytes_are = told.bytes;
        landed_is = told.landed ∙ ap not c.if-fails.false;
        stable = told.stable;
        pending = c.push_reserved.ensures.items ∙ ap (λ (v : List Write). v ++ w ∷ []) told.pending;
      };
      faults = ap (λ (k : Counts). k.faults) told.counts ∙ c.next_call-fails.ensures.faults;
      starved = ap (λ (k : Counts). k.starved) told.counts ∙ c.next_call-fails.ensures.starved;
    })

pub returns-clause-images : goal.returns-clause-images
returns-clause-images c =
    let told = c.in-Ok.ensures in
    let old = c.args.self.now in
    let mid = c.prepare.new.self in
    let w = c.in-Ok.write in
    wrote_moves old.past.items mid.past.items old.pending.items c.push_reserved.new.self.items w (areas_of old.first) (areas_of mid.first) (areas_of old.stable) (areas_of mid.stable)
    c.args.area c.args.at c.args.bytes.now told.past (c.push_reserved.ensures.items ∙ ap (λ (v : List Write). v ++ w ∷ []) told.pending) told.first told.stable old.begun
    told.area told.at told.bytes
