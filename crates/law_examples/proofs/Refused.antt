-- Why each wrong example is refused.
use Rattle.std.proofs.Common.{◌≡◌, ℕ, zero, suc, Bool, true, false, ◌||◌, List, [], ◌∷◌, Option, Some, None, refl, sym, ap, ◌∙◌, subst}
use Rattle.std.proofs.lemmas.Bool.{false≢true}
use Rattle.std.specs.Prelude.{take}
use Rattle.delf_model.specs.declared.rows.ObjectRow.{ObjectRow}
use Rattle.delf_model.specs.declared.rows.EdgeKey.{EdgeKey}
use Rattle.delf_model.specs.declared.entry.Entry.{Entry}
use Rattle.delf_model.specs.declared.entry.Tag.{Tag}
use Rattle.delf_model.specs.declared.entry.What.{What}
use Rattle.delf_model.specs.declared.entry.What.TheVariants.{Create, Unlink, Erase, Cut, Put}
use Rattle.delf_model.specs.declared.schema.EdgeShape.{EdgeShape}
use Rattle.delf_model.specs.Graph.{IsGraph, stands}
use Rattle.delf_model.specs.Step.{after}
use Rattle.delf_model.specs.Owners.{key_of}
use Rattle.delf_model.specs.State.{is_owned_by}
use Rattle.delf_model.specs.Order.{is_legal_step}
use Rattle.delf_model.specs.Sound.{TakesEdgeAway, ByUnlink, ByCut, EdgesLeave, DoneErasesReached, FirstIsLegal}
use Rattle.delf_model.specs.Worked.{example_rules, user, photo, owning, object}
use Rattle.birth_laws.specs.Made.{ObjectMade}
use Rattle.history_laws.specs.Parts.{tag, at_zero, deleted}
use Rattle.law_examples.specs.Cases.{wrong_target, keys_fall, key_twice, edge_lost, rootless, end_first}

pub fall : IsGraph example_rules keys_fall → ⊥
fall g = false≢true g.edges_in_order

pub twice : IsGraph example_rules key_twice → ⊥
twice g = false≢true g.edges_in_order

some_shape : {a b : EdgeShape} → Some a ≡ Some b → a ≡ b
some_shape is = cc

some_row : {a b : ObjectRow} → Some a ≡ Some b → a ≡ b
some_row is = cc

pub target : IsGraph example_rules wrong_target → ⊥
target g =
    let ends = g.ends (key_of owning 1 9) refl in
    let kind : user ≡ ends.0.to = ap (λ (r : ObjectRow). r.kind) (some_row ends.3.1) ∙ ends.3.2 in
    let named : photo ≡ ends.0.to = ap (λ (s : EdgeShape). s.to) (some_shape ends.1) in
    apart (kind ∙ sym named)
  where
    apart : user ≡ photo → ⊥
    apart is = cc is

by_erase : TakesEdgeAway (after example_rules deleted) (key_of owning 1 2) (Erase 4 1) → ⊥
by_erase (ByUnlink t name is) = cc is
by_erase (ByCut job is own) = cc is

pub no_step : EdgesLeave (after example_rules deleted) (Erase 4 1) edge_lost → ⊥
no_step leave = by_erase (leave (key_of owning 1 2) 2 refl refl)

by_cut : TakesEdgeAway (after example_rules deleted) (key_of owning 1 2) (Cut 7 owning 1 2) → ⊥
by_cut (ByUnlink t name is) = cc is
by_cut (ByCut job is own) =
    let seven : 7 ≡ job = cc in
    false≢true (subst (λ (n : ℕ). (is_owned_by (after example_rules deleted) n 1 || is_owned_by (after example_rules deleted) n 2) ≡ true) (sym seven) own)

pub no_owner : EdgesLeave (after example_rules deleted) (Cut 7 owning 1 2) edge_lost → ⊥
no_owner leave = by_cut (leave (key_of owning 1 2) 2 refl refl)

never_there : (at birth : ℕ) → stands (after example_rules (take at rootless)).graph 1 birth ≡ true → ⊥
never_there zero birth stood = false≢true stood
never_there (suc zero) birth stood = false≢true stood
never_there (suc (suc n)) birth stood = false≢true stood

pub root : DoneErasesReached example_rules rootless → ⊥
root done = let reached = (done.reached 0 refl refl).root 1 refl in never_there reached.1.at reached.0 reached.1.stood

created : (e : Entry) (t : Tag) (kind id size : ℕ) → Some (at_zero (Create (tag 0) user 1 0)) ≡ Some e → e.what ≡ Create t kind id size → user ≡ kind
created e t kind id size there is =
    let same : at_zero (Create (tag 0) user 1 0) ≡ e = cc in
    let both : Create (tag 0) user 1 0 ≡ Create t kind id size = ap (λ (x : Entry). x.what) same ∙ is in cc

pub kind : ObjectMade (at_zero (Create (tag 0) user 1 0) ∷ []) (object 1 photo 0 0) → ⊥
kind made = apart (created made.born.entry made.born.tag photo 1 made.born.size made.born.there made.born.creates)
  where
    apart : user ≡ photo → ⊥
    apart is = cc is

pub birth : ObjectMade (at_zero (Create (tag 0) user 1 0) ∷ []) (object 1 user 1 0) → ⊥
birth made = nowhere made.born.entry made.born.there
  where
    nowhere : (e : Entry) → None ≡ Some e → ⊥
    nowhere e is = cc is

pub first : FirstIsLegal (after example_rules end_first) 0 → ⊥
first legal = false≢true (legal.legal (Put 4 1) refl)
