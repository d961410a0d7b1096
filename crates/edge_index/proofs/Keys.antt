-- Keys compared: by a map, by the order of the edges, and at one end.
use Rattle.std.proofs.Common.{Less, ◌≡◌, ℕ, true, false, refl, sym, ap, ◌∙◌, arith}
use Rattle.std.proofs.lemmas.Bool.Decides.{nat_tests}
use Rattle.std.proofs.lemmas.Grind.{common_steps}
use Rattle.std.specs.Ordering.{is_eq}
use Rattle.delf_model.specs.declared.rows.EdgeKey.{EdgeKey}
use Rattle.delf_model.specs.Graph.{same_key, key_before}
use Rattle.edge_index.specs.declared.ends.EndKey.{EndKey}
use Rattle.edge_index.specs.Keys.{edge_cmp, edge_eq}
use Rattle.delf_model.proofs.Graphs.{same_key_is}
use Rattle.edge_index.specs.Ends.{end_cmp, at_source, at_target, TellsApart}

pub edge_equal : (a b : EdgeKey) → is_eq (edge_cmp a b) ≡ same_key a b
edge_equal a b = grind (arith, nat_tests, common_steps)

pub edge_same : (a b : EdgeKey) → is_eq (edge_cmp a b) ≡ edge_eq a b
edge_same a b = grind (arith, nat_tests, common_steps)

pub edge_less : (a b : EdgeKey) → edge_cmp a b ≡ Less → key_before a b ≡ true
edge_less a b h = grind (arith, nat_tests, common_steps)

pub before_less : (a b : EdgeKey) → key_before a b ≡ true → edge_cmp a b ≡ Less
before_less a b h = grind (arith, nat_tests, common_steps)

pub before_along : (a b c : EdgeKey) → key_before a b ≡ true → key_before b c ≡ true → key_before a c ≡ true
before_along a b c h k = grind (arith, nat_tests, common_steps)

pub before_apart : (a b : EdgeKey) → key_before a b ≡ true → same_key a b ≡ false
before_apart a b h = grind (arith, nat_tests, common_steps)

pub before_not_after : (a b : EdgeKey) → key_before a b ≡ true → key_before b a ≡ false
before_not_after a b h = grind (arith, nat_tests, common_steps)

pub before_or_after : (a b : EdgeKey) → key_before a b ≡ false → same_key a b ≡ false → key_before b a ≡ true
before_or_after a b h k = grind (arith, nat_tests, common_steps)

-- what an order by one end does: it goes by that end, then as the edges go, and tells apart what they tell apart
pub record IsEnd (end : EdgeKey → EndKey) (near : EdgeKey → ℕ) : Type 0 where
  pub near_is : (key : EdgeKey) → (end key).near ≡ near key
  pub less : (a b : EdgeKey) → end_cmp (end a) (end b) ≡ Less → near a ≡ near b → key_before a b ≡ true
  pub one : (a b : EdgeKey) → is_eq (end_cmp (end a) (end b)) ≡ same_key a b

source_less : (a b : EdgeKey) → end_cmp (at_source a) (at_source b) ≡ Less → a.from ≡ b.from → key_before a b ≡ true
source_less a b h k = grind (arith, nat_tests, common_steps)

source_one : (a b : EdgeKey) → is_eq (end_cmp (at_source a) (at_source b)) ≡ same_key a b
source_one a b = grind (arith, nat_tests, common_steps)

pub source_is : IsEnd at_source (λ key. key.from)
source_is = record { near_is = λ key. refl; less = source_less; one = source_one }

target_less : (a b : EdgeKey) → end_cmp (at_target a) (at_target b) ≡ Less → a.to ≡ b.to → key_before a b ≡ true
target_less a b h k = grind (arith, nat_tests, common_steps)

target_one : (a b : EdgeKey) → is_eq (end_cmp (at_target a) (at_target b)) ≡ same_key a b
target_one a b = grind (arith, nat_tests, common_steps)

pub target_is : IsEnd at_target (λ key. key.to)
target_is = record { near_is = λ key. refl; less = target_less; one = target_one }

abbrev end_of : ℕ → ℕ → ℕ → EndKey
end_of near edge far = record { near = near; edge = edge; far = far }

-- places that compare alike are one
pub one_place : (p q : EndKey) → is_eq (end_cmp p q) ≡ true → p ≡ q
one_place p q h =
    let nears : p.near ≡ q.near = grind (arith, nat_tests, common_steps) in
    let edges : p.edge ≡ q.edge = grind (arith, nat_tests, common_steps) in
    let fars : p.far ≡ q.far = grind (arith, nat_tests, common_steps) in
    ap (λ (n : ℕ). end_of n p.edge p.far) nears ∙ (ap (λ (n : ℕ). end_of q.near n p.far) edges ∙ ap (λ (n : ℕ). end_of q.near q.edge n) fars)

pub place_self : (p : EndKey) → is_eq (end_cmp p p) ≡ true
place_self p = grind (arith, nat_tests, common_steps)

pub source_apart : TellsApart at_source
source_apart a b same = same_key_is a b (sym (source_one a b) ∙ (ap (λ (q : EndKey). is_eq (end_cmp (at_source a) q)) (sym same) ∙ place_self (at_source a)))

pub target_apart : TellsApart at_target
target_apart a b same = same_key_is a b (sym (target_one a b) ∙ (ap (λ (q : EndKey). is_eq (end_cmp (at_target a) q)) (sym same) ∙ place_self (at_target a)))
