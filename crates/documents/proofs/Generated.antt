-- The generated schema is checked, and the commands of a load have type numbers of it.
use Rattle.std.proofs.Common.{◌≡◌, ℕ, zero, suc, ◌<◌, IsTrue, Option, None, Some, Bool, true, false, ◌≤◌, length, List, [], ◌∷◌, ◌++◌, map, get_or, refl, sym, ap, ◌∙◌, subst, inr, arith}
use Rattle.std.specs.Prelude.{◌/◌, slice_get}
use Rattle.std.specs.List.{All, flat_map, filter, range_with_len}
use Rattle.std.proofs.lemmas.Bool.{false≢true}
use Rattle.std.proofs.lemmas.List.{length-map}
use Rattle.std.proofs.lemmas.List.Elements.{All-nil, All-cons, All-append}
use Rattle.delf_model.specs.declared.schema.ObjectRule.TheVariants.{Directly, ByAny}
use Rattle.delf_model.specs.declared.schema.EdgeRule.TheVariants.{Deep, Shallow, Refcount}
use Rattle.delf_model.specs.RuleSet.{RuleSet}
use Rattle.delf_model.specs.Checked.{KeepsRules, IsChecked, IsRepeated, HasRoute, may_condemn, takes, source_of, target_of, object_names, edge_names, numbered}
use Rattle.delf_model.specs.declared.schema.Schema.{Schema}
use Rattle.delf_model.specs.declared.script.Command.{Command}
use Rattle.delf_model.specs.declared.script.Command.TheVariants.{Submit, Work, Tick, Get, Show, Job, Jobs, Report, Fail, Crash, Par}
use Rattle.delf_model.specs.declared.script.Lane.{Lane}
use Rattle.delf_model.specs.declared.script.LaneCommand.{LaneCommand}
use Rattle.delf_model.specs.declared.script.LaneCommand.TheVariants as lane
use Rattle.script_lang.specs.Generated.{generated_schema, generated_script, script_of_groups, restores_of, restored, lane_of, is_in_lane}
use Rattle.script_lang.specs.TypeNumbers.{LaneCommandNames, LaneNames, CommandNames}
use Rattle.documents.specs.Loads.{IsStill, made_alone, lane_alone, block_alone, made_in_turn, load_commands, commands_of}
use Rattle.documents.specs.Names.{HasNames, HasNoLanes, IsNumberedCommand}
use Rattle.documents.proofs.Bounded.{HasFewLanes, single_few}
use Rattle.documents.proofs.Documents.{numbered_commands}

abbrev generated_rules : RuleSet
generated_rules = record {
  window = 100;
  objects = Directly ∷ ByAny ∷ [];
  edges =
      record { from = 0; to = 1; rule = Deep } ∷ record { from = 0; to = 1; rule = Shallow } ∷ record { from = 0; to = 1; rule = Refcount }
      ∷ record { from = 1; to = 1; rule = Shallow } ∷ [];
}

rules_are : generated_rules ≡ numbered generated_schema
rules_are = refl

object_names_once : (k : ℕ) → k < 2 → IsRepeated (object_names generated_schema) k → ⊥
object_names_once zero below (j, less, same) = absurd (omega arith)
object_names_once (suc zero) below (zero, less, same) = absurd (cc same)
object_names_once (suc zero) below (suc j, less, same) = absurd (omega arith)
object_names_once (suc (suc k)) below again = absurd (omega arith)

abbrev first_code : Option (List ℕ) → ℕ
first_code None = 0
first_code (Some []) = 0
first_code (Some (x ∷ xs)) = x

edge_names_once : (k : ℕ) → k < 4 → IsRepeated (edge_names generated_schema) k → ⊥
edge_names_once zero below (j, less, same) = absurd (omega arith)
edge_names_once (suc zero) below (zero, less, same) = let first : 111 ≡ 108 = ap first_code same in absurd (omega (arith, first))
edge_names_once (suc zero) below (suc j, less, same) = absurd (omega arith)
edge_names_once (suc (suc zero)) below (zero, less, same) = let first : 111 ≡ 104 = ap first_code same in absurd (omega (arith, first))
edge_names_once (suc (suc zero)) below (suc zero, less, same) = let first : 108 ≡ 104 = ap first_code same in absurd (omega (arith, first))
edge_names_once (suc (suc zero)) below (suc (suc j), less, same) = absurd (omega arith)
edge_names_once (suc (suc (suc zero))) below (zero, less, same) = let first : 111 ≡ 110 = ap first_code same in absurd (omega (arith, first))
edge_names_once (suc (suc (suc zero))) below (suc zero, less, same) = let first : 108 ≡ 110 = ap first_code same in absurd (omega (arith, first))
edge_names_once (suc (suc (suc zero))) below (suc (suc zero), less, same) = let first : 104 ≡ 110 = ap first_code same in absurd (omega (arith, first))
edge_names_once (suc (suc (suc zero))) below (suc (suc (suc j)), less, same) = absurd (omega arith)
edge_names_once (suc (suc (suc (suc k)))) below again = absurd (omega arith)

sources : (edge : ℕ) → edge < 4 → source_of generated_rules edge < 2
sources zero below = omega arith
sources (suc zero) below = omega arith
sources (suc (suc zero)) below = omega arith
sources (suc (suc (suc zero))) below = omega arith
sources (suc (suc (suc (suc k)))) below = absurd (omega arith)

targets : (edge : ℕ) → edge < 4 → target_of generated_rules edge < 2
targets zero below = omega arith
targets (suc zero) below = omega arith
targets (suc (suc zero)) below = omega arith
targets (suc (suc (suc zero))) below = omega arith
targets (suc (suc (suc (suc k)))) below = absurd (omega arith)

taken : (edge : ℕ) → IsTrue (may_condemn generated_rules edge) → IsTrue (takes generated_rules (target_of generated_rules edge))
taken zero is = refl
taken (suc zero) is = absurd (false≢true is)
taken (suc (suc zero)) is = refl
taken (suc (suc (suc zero))) is = absurd (false≢true is)
taken (suc (suc (suc (suc k)))) is = absurd (false≢true is)

routes : (kind : ℕ) → slice_get generated_rules.objects kind ≡ Some ByAny → HasRoute generated_rules kind
routes zero is = absurd (cc is)
routes (suc zero) is = (0 ∷ [], (refl, refl, inr (refl, refl)))
routes (suc (suc k)) is = absurd (cc is)

keeps : KeepsRules generated_rules
keeps = record { sources = sources; targets = targets; taken = taken; routes = routes }

pub generated_checked : IsChecked generated_schema
generated_checked = record {
  object_names_once = object_names_once;
  edge_names_once = edge_names_once;
  numbers = subst KeepsRules rules_are keeps;
}

-- commands of a script without its blocks

all_lists : {A B : Type 0} (P : A → Type 0) (Q : B → Type 0) (f : A → List B) → ((x : A) → P x → All Q (f x)) → (xs : List A) → All P xs → All Q (flat_map f xs)
all_lists P Q f each [] all = All-nil Q
all_lists P Q f each (x ∷ xs) all =
    All-append Q (f x) (flat_map f xs) (each x (all 0 x (omega arith))) (all_lists P Q f each xs (λ k d below. all (suc k) d (omega arith)))

all_made : {A B : Type 0} (P : A → Type 0) (Q : B → Type 0) (f : A → B) → ((x : A) → P x → Q (f x)) → (xs : List A) → All P xs → All Q (map f xs)
all_made P Q f each [] all = All-nil Q
all_made P Q f each (x ∷ xs) all =
    All-cons Q (f x) (map f xs) (each x (all 0 x (omega arith))) (all_made P Q f each xs (λ k d below. all (suc k) d (omega arith)))

module _ (schema : Schema) where
  alone_named : (command : LaneCommand) → LaneCommandNames schema command → CommandNames schema (made_alone command)
  alone_named (lane.Submit asked) names = names
  alone_named (lane.Get id) names = tt

  lane_named : (lane : Lane) → LaneNames schema lane → All (CommandNames schema) (lane_alone lane)
  lane_named lane names = all_made (LaneCommandNames schema) (CommandNames schema) made_alone alone_named lane.commands names.commands

  one : (command : Command) → CommandNames schema command → All (CommandNames schema) (command ∷ [])
  one command names = All-cons (CommandNames schema) command [] names (All-nil (CommandNames schema))

  turn_named : (command : Command) → CommandNames schema command → All (CommandNames schema) (made_in_turn command)
  turn_named (Submit asked) names = one (Submit asked) names
  turn_named (Work n) names = one (Work n) names
  turn_named (Tick n) names = one (Tick n) names
  turn_named (Get id) names = one (Get id) names
  turn_named Show names = one Show names
  turn_named (Job name) names = one (Job name) names
  turn_named Jobs names = one Jobs names
  turn_named Report names = one Report names
  turn_named (Fail n) names = one (Fail n) names
  turn_named (Crash pick) names = one (Crash pick) names
  turn_named (Par quiet workers turns lanes) names =
      All-append (CommandNames schema) (flat_map lane_alone lanes) (Work 1000000 ∷ [])
      (all_lists (LaneNames schema) (CommandNames schema) lane_alone lane_named lanes names) (one (Work 1000000) tt)

  -- the commands of a load have type numbers that the schema has
  load_named : (blocks : Bool) (script : List Command) → All (CommandNames schema) script → All (CommandNames schema) (commands_of blocks script)
  load_named true script names = names
  load_named false script names = all_lists (CommandNames schema) (CommandNames schema) made_in_turn turn_named script names

-- a load keeps the store open and gives no order

-- no block either
abbrev IsAlone : Command → Type 0
IsAlone command = IsStill command × HasNoLanes command

alone_alone : (command : LaneCommand) → IsAlone (made_alone command)
alone_alone (lane.Submit asked) = (tt, tt)
alone_alone (lane.Get id) = (tt, tt)

lane_is_alone : (lane : Lane) → All IsAlone (lane_alone lane)
lane_is_alone lane = all_made (λ c. Unit {0}) IsAlone made_alone (λ c t. alone_alone c) lane.commands (λ k d below. tt)

one_alone : (command : Command) → IsAlone command → All IsAlone (command ∷ [])
one_alone command is = All-cons IsAlone command [] is (All-nil IsAlone)

block_is_alone : (lanes : List Lane) → All IsAlone (block_alone lanes)
block_is_alone lanes =
    All-append IsAlone (flat_map lane_alone lanes) (Work 1000000 ∷ []) (all_lists (λ l. Unit {0}) IsAlone lane_alone (λ l t. lane_is_alone l) lanes (λ k d below. tt))
    (one_alone (Work 1000000) (tt, tt))

turn_alone : (command : Command) → IsStill command → All IsAlone (made_in_turn command)
turn_alone (Submit asked) still = one_alone (Submit asked) (tt, tt)
turn_alone (Work n) still = one_alone (Work n) (tt, tt)
turn_alone (Tick n) still = one_alone (Tick n) (tt, tt)
turn_alone (Get id) still = one_alone (Get id) (tt, tt)
turn_alone Show still = one_alone Show (tt, tt)
turn_alone (Job name) still = one_alone (Job name) (tt, tt)
turn_alone Jobs still = one_alone Jobs (tt, tt)
turn_alone Report still = one_alone Report (tt, tt)
turn_alone (Fail n) still = absurd still
turn_alone (Crash pick) still = absurd still
turn_alone (Par quiet workers turns lanes) still = block_is_alone lanes

-- and each block of it has few lanes

abbrev IsFine : Command → Type 0
IsFine command = IsStill command × HasFewLanes command

restores_fine : (groups : ℕ) → All IsFine (restores_of groups)
restores_fine groups = all_made (λ group. Unit {0}) IsFine restored (λ group t. (tt, tt)) (filter (is_in_lane 0) (range_with_len 0 groups)) (λ k d below. tt)

lanes_fine : (groups : ℕ) → IsFine (Par true 8 1000000 (map (lane_of groups) (range_with_len 0 8)))
lanes_fine groups = (tt, (omega (arith, length-map (range_with_len 0 8) (lane_of groups)), omega arith))

script_fine : (groups : ℕ) → All IsFine (script_of_groups groups)
script_fine groups =
    All-cons IsFine (Par true 8 1000000 (map (lane_of groups) (range_with_len 0 8))) (restores_of groups ++ Work 1000000 ∷ []) (lanes_fine groups)
    (All-append IsFine (restores_of groups) (Work 1000000 ∷ []) (restores_fine groups) (All-cons IsFine (Work 1000000) [] (tt, tt) (All-nil IsFine)))

script_still : (groups : ℕ) → All IsStill (script_of_groups groups)
script_still groups = λ k d below. (script_fine groups k d below).0

load_alone : (n : ℕ) → All IsAlone (load_commands (generated_script n))
load_alone n = all_lists IsStill IsAlone made_in_turn turn_alone (generated_script n) (script_still (n / 4))

load_fine : (blocks : Bool) (n : ℕ) → All IsFine (commands_of blocks (generated_script n))
load_fine true n = script_fine (n / 4)
load_fine false n = λ k d below.
    let alone = load_alone n k d below in (alone.0, single_few (get_or (load_commands (generated_script n)) k d) alone.1)

pub load_still : (blocks : Bool) (n : ℕ) (commands : List Command) → commands ≡ commands_of blocks (generated_script n) → All IsStill commands
load_still blocks n commands is = subst (λ (cs : List Command). All IsStill cs) (sym is) (λ k d below. (load_fine blocks n k d below).0)

pub load_laneless : (blocks : Bool) (n : ℕ) (commands : List Command) → blocks ≡ false → commands ≡ commands_of blocks (generated_script n) → All HasNoLanes commands
load_laneless blocks n commands without is =
    subst (λ (cs : List Command). All HasNoLanes cs) (sym (is ∙ ap (λ (b : Bool). commands_of b (generated_script n)) without)) (λ k d below. (load_alone n k d below).1)

pub load_numbered : (schema : Schema) (blocks : Bool) (n : ℕ) (rules : RuleSet) (script commands : List Command) → HasNames schema rules → All (CommandNames schema) script →
    script ≡ generated_script n → commands ≡ commands_of blocks script → All (IsNumberedCommand rules) commands
load_numbered schema blocks n rules script commands has names is_script is =
    subst (λ (cs : List Command). All (IsNumberedCommand rules) cs) (sym is)
    (numbered_commands schema rules (commands_of blocks script) has (load_named schema blocks script names)
    (subst (λ (s : List Command). All HasFewLanes (commands_of blocks s)) (sym is_script) (λ k d below. (load_fine blocks n k d below).1)))
