-- Why bytes are a document, or which fault of theirs is tried first.
use Rattle.std.proofs.Common.{◌≡◌, ℕ, zero, suc, ◌≤◌, ◌<◌, Err, List, [], ◌∷◌, length, get_or, refl, sym, ap, subst, ◌∙◌, arith}
use Rattle.std.proofs.lemmas.List.{length-map}
use Rattle.std.specs.Prelude.{Bool, codes}
use Rattle.std.specs.Str.Lines.{lines}
use Rattle.std.specs.List.{All, AllByRecursion}
use Rattle.delf_model.specs.declared.schema.Schema.{Schema}
use Rattle.delf_model.specs.declared.schema.ObjectType.{ObjectType}
use Rattle.delf_model.specs.declared.rules.Broken.{Broken}
use Rattle.delf_model.specs.declared.rules.Broken.TheVariants.{ObjectTwice, EdgeTwice, Undeclared, CannotTake, NoRoute}
use Rattle.delf_model.specs.declared.call.Call.{Call}
use Rattle.delf_model.specs.declared.call.Call.TheVariants as call
use Rattle.delf_model.specs.declared.script.Command.{Command}
use Rattle.delf_model.specs.declared.script.Command.TheVariants.{Submit, Work, Tick, Get, Show, Job, Jobs, Report, Fail, Crash, Par}
use Rattle.delf_model.specs.declared.script.Lane.{Lane}
use Rattle.delf_model.specs.declared.script.LaneCommand.{LaneCommand}
use Rattle.delf_model.specs.declared.script.LaneCommand.TheVariants as lane
use Rattle.delf_model.specs.RuleSet.{RuleSet}
use Rattle.delf_model.specs.Broken.{IsFirstBroken}
use Rattle.delf_model.specs.Checked as checked
use Rattle.delf_model.specs.Checked.{IsChecked, IsExpiry, numbered, shape_of}
use Rattle.schema_lang.specs.declared.fault.SchemaFault.{SchemaFault}
use Rattle.schema_lang.specs.declared.fault.SchemaFault.TheVariants as schema
use Rattle.schema_lang.specs.Spelling.{IsSpellable, FitsObject}
use Rattle.schema_lang.specs.Grammar as grammar
use Rattle.script_lang.specs.declared.fault.DocumentFault.{DocumentFault}
use Rattle.script_lang.specs.declared.fault.DocumentFault.TheVariants.{Bad, OutOfMemory}
use Rattle.script_lang.specs.Scripts.{script_of}
use Rattle.script_lang.specs.TypeNumbers.{CallNames, LaneCommandNames, LaneNames, CommandNames}
use Rattle.script_lang.specs.Documents.{IsLineTold, TellsPart, Spells}
use Rattle.documents.specs.Documents.{HasPart, IsThere, IsFault, TooLong, InPart, InCheck, InScript, IsToldFault, broken_line, broken_text}
use Rattle.documents.specs.Names.{HasNames, IsNumberedCall, IsNumberedLaneCommand, IsNumberedLane, IsNumberedBlock, IsNumberedCommand}
use Rattle.documents.proofs.Bounded.{HasFewLanes}

-- a schema that a text can spell is one that rules can be made of

expiries_of : (objects : List ObjectType) (k : ℕ) (d : ObjectType) → AllByRecursion FitsObject objects →
    k < length objects → IsExpiry (get_or objects k d).rule
expiries_of [] k d fit below = absurd (omega arith)
expiries_of (object ∷ more) zero d fit below = fit.0.rule
expiries_of (object ∷ more) (suc k) d fit below = expiries_of more k d fit.1 (omega arith)

pub spellable_of : (schema : Schema) → IsSpellable schema → checked.IsSpellable schema
spellable_of schema fits = record {
  window = fits.window;
  objects = fits.objects;
  edges = fits.edges;
  expiries = λ k d below. expiries_of schema.objects k d fits.each_object below;
}

-- its types have names, and so have the numbers in its commands

pub has_names : (schema : Schema) (rules : RuleSet) → rules ≡ numbered schema → HasNames schema rules
has_names schema rules is = record {
  objects = ap (λ (r : RuleSet). length r.objects) is ∙ length-map schema.objects (λ object. object.rule);
  edges = ap (λ (r : RuleSet). length r.edges) is ∙ length-map schema.edges (shape_of schema.objects);
}

numbered_call : (schema : Schema) (rules : RuleSet) (asked : Call) → HasNames schema rules → CallNames schema asked → IsNumberedCall rules asked
numbered_call schema rules (call.Create kind id payload) has names = omega (arith, has.objects)
numbered_call schema rules (call.Update id payload) has names = tt
numbered_call schema rules (call.Link edge from to payload) has names = omega (arith, has.edges)
numbered_call schema rules (call.Unlink edge from to name) has names = omega (arith, has.edges)
numbered_call schema rules (call.Delete id name) has names = tt
numbered_call schema rules (call.Restore name) has names = tt

numbered_lane_command : (schema : Schema) (rules : RuleSet) (command : LaneCommand) → HasNames schema rules → LaneCommandNames schema command →
    IsNumberedLaneCommand rules command
numbered_lane_command schema rules (lane.Submit asked) has names = numbered_call schema rules asked has names
numbered_lane_command schema rules (lane.Get id) has names = tt

numbered_lane : (schema : Schema) (rules : RuleSet) (lane : Lane) → HasNames schema rules → LaneNames schema lane → IsNumberedLane rules lane
numbered_lane schema rules lane has names = record {
  commands = λ k d below. numbered_lane_command schema rules (get_or lane.commands k d) has (names.commands k d below);
}

numbered_command : (schema : Schema) (rules : RuleSet) (command : Command) → HasNames schema rules → CommandNames schema command → HasFewLanes command →
    IsNumberedCommand rules command
numbered_command schema rules (Submit asked) has names few = numbered_call schema rules asked has names
numbered_command schema rules (Work n) has names few = tt
numbered_command schema rules (Tick n) has names few = tt
numbered_command schema rules (Get id) has names few = tt
numbered_command schema rules Show has names few = tt
numbered_command schema rules (Job name) has names few = tt
numbered_command schema rules Jobs has names few = tt
numbered_command schema rules Report has names few = tt
numbered_command schema rules (Fail n) has names few = tt
numbered_command schema rules (Crash pick) has names few = tt
numbered_command schema rules (Par quiet workers turns lanes) has names few = record {
  few_lanes = few.0;
  few_workers = few.1;
  each = λ k d below. numbered_lane schema rules (get_or lanes k d) has (names k d below);
}

pub numbered_commands : (schema : Schema) (rules : RuleSet) (commands : List Command) → HasNames schema rules → All (CommandNames schema) commands →
    All HasFewLanes commands → All (IsNumberedCommand rules) commands
numbered_commands schema rules commands has names few =
    λ k d below. numbered_command schema rules (get_or commands k d) has (names k d below) (few k d below)

-- the first broken rule is broken by a row that is there

pub there_of : (schema : Schema) (broken : Broken) → IsFirstBroken schema broken → IsThere schema broken
there_of schema (ObjectTwice row) first = first.0
there_of schema (EdgeTwice row) first = first.1.0
there_of schema (Undeclared row target) first = omega (arith, first.2.0.0, (has_names schema (numbered schema) refl).edges)
there_of schema (CannotTake row) first = omega (arith, first.2.1.0, (has_names schema (numbered schema) refl).edges)
there_of schema (NoRoute row) first = omega (arith, first.2.2.0, (has_names schema (numbered schema) refl).objects)

-- what is told

told_is : (blocks : Bool) (bytes : List ℕ) (told : DocumentFault) (line : ℕ) (text : List ℕ) → IsLineTold told line text → IsFault blocks bytes (record { line = line; text = text }) →
    IsToldFault blocks bytes told
told_is blocks bytes (Bad line' text') line text is fault =
    subst (λ (l : ℕ). IsFault blocks bytes (record { line = l; text = text' })) (sym is.0)
    (subst (λ (t : List ℕ). IsFault blocks bytes (record { line = line; text = t })) (sym is.1) fault)
told_is blocks bytes OutOfMemory line text is fault = tt

pub told_long : (blocks : Bool) (bytes : List ℕ) (told : DocumentFault) → 16777216 < length bytes → IsLineTold told 0 (codes "document too long") → IsToldFault blocks bytes told
told_long blocks bytes told long is = told_is blocks bytes told 0 (codes "document too long") is (TooLong long refl)

pub told_part : (blocks : Bool) (bytes : List ℕ) (fault : SchemaFault) (told : DocumentFault) → length bytes ≤ 16777216 → grammar.Fails fault (grammar.part_of (lines bytes)) →
    TellsPart fault told → IsToldFault blocks bytes told
told_part blocks bytes (schema.Bad line why) told small bad tells = told_is blocks bytes told line _ tells (InPart (record { line = line; why = why }) small bad refl)
told_part blocks bytes schema.OutOfMemory told small bad tells = subst (IsToldFault blocks bytes) (sym tells) tt

pub told_check : (blocks : Bool) (bytes : List ℕ) (part : grammar.Part) (broken : Broken) (told : DocumentFault) → HasPart bytes part → IsFirstBroken part.schema broken →
    IsLineTold told (broken_line part.schema broken) (broken_text part.schema broken) → IsToldFault blocks bytes told
told_check blocks bytes part broken told has first is =
    told_is blocks bytes told (broken_line part.schema broken) (broken_text part.schema broken) is (InCheck part broken has first refl)

pub told_script : (blocks : Bool) (bytes : List ℕ) (part : grammar.Part) (told : DocumentFault) → HasPart bytes part → IsChecked part.schema →
    Spells (Err told) (script_of part.schema blocks part.rest part.next) → IsToldFault blocks bytes told
told_script blocks bytes part (Bad line text) has is bad = InScript part has is bad
told_script blocks bytes part OutOfMemory has is bad = tt
