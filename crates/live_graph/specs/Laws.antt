-- Both ends of each edge stand, from the test over all edges.
use Rattle.std.proofs.Common.{◌≡◌, Bool, true, false, cond, Option, Some, List, [], ◌∷◌, refl, ap, sym, ◌∙◌}
use Rattle.std.proofs.lemmas.Bool.{and_parts}
use Rattle.std.specs.Prelude.{find, is_some, IsTrue}
use Rattle.delf_model.specs.declared.rows.ObjectRow.{ObjectRow}
use Rattle.delf_model.specs.declared.rows.EdgeRow.{EdgeRow}
use Rattle.delf_model.specs.declared.rows.EdgeKey.{EdgeKey}
use Rattle.delf_model.specs.Graph.{same_key, has_key}
use Rattle.delf_model.specs.Store.{EndsStand}
use Rattle.delf_model.proofs.Graphs.{same_key_is}
use Rattle.live_graph.specs.Ends.{has_row, has_ends, all_have_ends}

found_among : (objects : List ObjectRow) (key : EdgeKey) (row : EdgeRow) (same : Bool) (rest : Option EdgeRow) →
    same_key row.key key ≡ same → has_ends objects row ≡ true →
    (is_some rest ≡ true → (has_row objects key.from ≡ true) × (has_row objects key.to ≡ true)) →
    is_some (cond same (Some row) rest) ≡ true → (has_row objects key.from ≡ true) × (has_row objects key.to ≡ true)
found_among objects key row true rest is ends more found =
    let key_is = same_key_is row.key key is in
    let parts = and_parts (has_row objects row.key.from) (has_row objects row.key.to) ends in
    (sym (ap (λ (k : EdgeKey). has_row objects k.from) key_is) ∙ parts.0, sym (ap (λ (k : EdgeKey). has_row objects k.to) key_is) ∙ parts.1)
found_among objects key row false rest is ends more found = more found

-- a key among rows that all have their ends
found_has_ends : (objects : List ObjectRow) (key : EdgeKey) (edges : List EdgeRow) → all_have_ends objects edges ≡ true →
    is_some (find (has_key key) edges) ≡ true → (has_row objects key.from ≡ true) × (has_row objects key.to ≡ true)
found_has_ends objects key [] all found = absurd (cc)
found_has_ends objects key (row ∷ rows) all found =
    let parts = and_parts (has_ends objects row) (all_have_ends objects rows) all in
    found_among objects key row (same_key row.key key) (find (has_key key) rows) refl parts.0 (found_has_ends objects key rows parts.1) found

pub each_end_stands : (objects : List ObjectRow) (edges : List EdgeRow) → IsTrue (all_have_ends objects edges) →
    EndsStand (record { objects = objects; edges = edges })
each_end_stands objects edges all = record {
  source = λ key stands. (found_has_ends objects key edges all stands).0;
  target = λ key stands. (found_has_ends objects key edges all stands).1;
}
