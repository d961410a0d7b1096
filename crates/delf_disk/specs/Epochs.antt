-- What a disk in memory went through, and what a crash at each moment of it may have left.
use Rattle.std.specs.Prelude.{◌≡◌, ◌⊎◌, ℕ, ◌+◌, ◌-◌, ◌/◌, ◌%◌, ◌≤◌, ◌==◌, max, if◌then◌else◌, List, [], ◌∷◌, length, take, replicate}
use Rattle.delf_disk.specs.declared.area.Area.{Area}
use Rattle.delf_disk.specs.declared.area.Area.TheVariants.{Journal, Vault}
use Rattle.delf_disk.specs.declared.past.Write.{Write}
use Rattle.delf_disk.specs.declared.past.Epoch.{Epoch}
use Rattle.delf_disk.specs.declared.past.End.{End}
use Rattle.delf_disk.specs.declared.past.End.TheVariants.{Synced, Cut}
use Rattle.delf_disk.specs.Areas.{Areas}
use Rattle.delf_disk.specs.Images.{Torn}
use Rattle.delf_disk.specs.Laying.{overlaid_in}

-- a write once it is done: one that failed changes nothing that reads
abbrev pub laid : Write → Areas → Areas
laid w areas = if w.landed then overlaid_in w.area w.at w.bytes.items areas else areas

-- all of them, the oldest first
abbrev pub laid_all : List Write → Areas → Areas
laid_all [] areas = areas
laid_all (w ∷ ws) areas = laid_all ws (laid w areas)

-- What a cut leaves of a pending write, failed or not: at 0 the old bytes, at 1 the new ones, at 2 the byte 0xEE over the
-- whole range, at 3 the first half of the new ones, rounded down.
abbrev pub left_of : ℕ → Write → Areas → Areas
left_of choice w areas =
    if choice == 0 then areas
    else if choice == 1 then overlaid_in w.area w.at w.bytes.items areas
    else if choice == 2 then overlaid_in w.area w.at (replicate (length w.bytes.items) 238) areas
    else overlaid_in w.area w.at (take (length w.bytes.items / 2) w.bytes.items) areas

-- what a cut leaves of all of them: the two lowest bits of the pick choose for the oldest, the next two for the next
abbrev pub picked : ℕ → List Write → Areas → Areas
picked pick [] areas = areas
picked pick (w ∷ ws) areas = picked (pick / 4) ws (left_of (pick % 4) w areas)

-- each of these writes was torn, the oldest first
abbrev pub Reached : List Write → Areas → Areas → Type 0
Reached [] stable c = c ≡ stable
Reached (w ∷ ws) stable c = (d : Areas) × Torn w.area w.at (length w.bytes.items) stable d × Reached ws d c

-- what a crash may leave, with these writes pending over stable bytes
unfoldable pub Image : List Write → Areas → Areas → Type 0
Image writes stable c = (c ≡ laid_all writes stable) ⊎ Reached writes stable c

-- what is stable at the end of an epoch that began with this
abbrev pub after_end : End → List Write → Areas → Areas
after_end Synced writes stable = laid_all writes stable
after_end (Cut pick) writes stable = picked pick writes stable

unfoldable pub stable_after : List Epoch → Areas → Areas
stable_after [] stable = stable
stable_after (e ∷ es) stable = stable_after es (after_end e.end e.writes.items stable)

-- how many writes, syncs and cuts there were, failed writes included
unfoldable pub moment_of : List Epoch → List Write → ℕ
moment_of [] pending = length pending
moment_of (e ∷ es) pending = length e.writes.items + 1 + moment_of es pending

-- at a moment of one epoch, from its t-th write on
abbrev pub LeftIn : List Write → Areas → ℕ → Areas → Type 0
LeftIn writes stable t c = (j : ℕ) × (t ≤ j) × (j ≤ length writes) × Image (take j writes) stable c

-- at some moment from t on
unfoldable pub LeftSince : List Epoch → List Write → Areas → ℕ → Areas → Type 0
LeftSince [] pending stable t c = LeftIn pending stable t c
LeftSince (e ∷ es) pending stable t c = LeftIn e.writes.items stable t c
    ⊎ LeftSince es pending (after_end e.end e.writes.items stable) (t - (length e.writes.items + 1)) c

-- where a write ends
abbrev pub end_of : Write → ℕ
end_of w = w.at + length w.bytes.items

-- this number for a write to the same area, and 0 for one to the other
abbrev pub if_same : Area → Area → ℕ → ℕ
if_same Journal Journal n = n
if_same Journal Vault n = 0
if_same Vault Journal n = 0
if_same Vault Vault n = n

-- how far the writes to an area reach
abbrev pub reach : Area → List Write → ℕ
reach area [] = 0
reach area (w ∷ ws) = max (if_same area w.area (end_of w)) (reach area ws)
