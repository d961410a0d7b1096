-- Each of some writes has its place where there is room for all of them.
use Rattle.std.proofs.Common.{◌≡◌, ℕ, zero, suc, ◌≤◌, ◌<◌, max, List, [], ◌∷◌, ◌++◌, length, get_or, refl, sym, subst, arith}
use Rattle.delf_disk.specs.declared.area.Area.{Area}
use Rattle.delf_disk.specs.declared.area.Area.TheVariants.{Journal, Vault}
use Rattle.delf_disk.specs.declared.content.Content.{Content}
use Rattle.delf_disk.specs.declared.past.Write.{Write}
use Rattle.delf_disk.specs.Content.{room_of, KeepsRoom, HasRoom}
use Rattle.delf_disk.specs.Epochs.{end_of, if_same, reach}

if_same-same : (area : Area) (n : ℕ) → if_same area area n ≡ n
if_same-same Journal n = refl
if_same-same Vault n = refl

reach_at : (area : Area) (ws : List Write) (i : ℕ) (w : Write) → i < length ws → w ≡ get_or ws i w → if_same area w.area (end_of w) ≤ reach area ws
reach_at area [] i w within is = absurd (omega arith)
reach_at area (v ∷ ws) zero w within is = subst (λ u. if_same area u.area (end_of u) ≤ max (if_same area v.area (end_of v)) (reach area ws)) (sym is) (omega arith)
reach_at area (v ∷ ws) (suc i) w within is = let rest = reach_at area ws i w (omega arith) is in omega (arith, rest)

reach_in : (area : Area) (ws : List Write) (content : Content) → HasRoom ws content → reach area ws ≤ room_of area content
reach_in Journal ws content room = room.journal
reach_in Vault ws content room = room.vault

keeps_room : (area : Area) (old new : Content) → KeepsRoom old new → room_of area old ≤ room_of area new
keeps_room Journal old new keeps = keeps.journal
keeps_room Vault old new keeps = keeps.vault

pub room_at : (ws : List Write) (i : ℕ) (w : Write) (old new : Content) → i < length ws → w ≡ get_or ws i w → HasRoom ws old → KeepsRoom old new → end_of w ≤ room_of w.area new
room_at ws i w old new within is room keeps =
    let at : if_same w.area w.area (end_of w) ≤ reach w.area ws = reach_at w.area ws i w within is in
    omega (arith, at, if_same-same w.area (end_of w), reach_in w.area ws old room, keeps_room w.area old new keeps)

pub has_room-kept : (ws : List Write) (old new : Content) → HasRoom ws old → KeepsRoom old new → HasRoom ws new
has_room-kept ws old new room keeps = record { journal = omega (arith, room.journal, keeps.journal); vault = omega (arith, room.vault, keeps.vault) }

reach-push : (area : Area) (ws : List Write) (w : Write) → reach area (ws ++ w ∷ []) ≡ max (reach area ws) (if_same area w.area (end_of w))
reach-push area [] w = omega arith
reach-push area (v ∷ ws) w = let rest = reach-push area ws w in omega (arith, rest)

same_fits : (area other : Area) (n : ℕ) (content : Content) → n ≤ room_of other content → if_same area other n ≤ room_of area content
same_fits Journal Journal n content le = le
same_fits Journal Vault n content le = omega arith
same_fits Vault Journal n content le = omega arith
same_fits Vault Vault n content le = le

pub has_room-push : (ws : List Write) (w : Write) (content : Content) → HasRoom ws content → end_of w ≤ room_of w.area content → HasRoom (ws ++ w ∷ []) content
has_room-push ws w content room fits = record {
  journal = omega (arith, reach-push Journal ws w, same_fits Journal w.area (end_of w) content fits, room.journal);
  vault = omega (arith, reach-push Vault ws w, same_fits Vault w.area (end_of w) content fits, room.vault);
}
