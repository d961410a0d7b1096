-- Which numbers of rows, items and refusals are those of types and edge types that the rules have.
use Rattle.std.specs.Prelude.{◌≡◌, ◌<◌, ℕ, List, Option, Some, Result, IfErr, IfSome, length, slice_get}
use Rattle.delf_model.specs.declared.schema.Schema.{Schema}
use Rattle.delf_model.specs.declared.rows.ObjectRow.{ObjectRow}
use Rattle.delf_model.specs.declared.rows.EdgeRow.{EdgeRow}
use Rattle.delf_model.specs.declared.rows.Item.{Item}
use Rattle.delf_model.specs.declared.rows.Item.TheVariants as item
use Rattle.delf_model.specs.declared.call.Call.{Call}
use Rattle.delf_model.specs.declared.call.Call.TheVariants as call
use Rattle.delf_model.specs.declared.call.Listed.{Listed}
use Rattle.delf_model.specs.declared.call.Refusal.{Refusal}
use Rattle.delf_model.specs.declared.call.Refusal.TheVariants as refusal
use Rattle.delf_model.specs.declared.script.Lane.{Lane}
use Rattle.delf_model.specs.declared.script.LaneCommand.{LaneCommand}
use Rattle.delf_model.specs.declared.script.LaneCommand.TheVariants as lane
use Rattle.delf_model.specs.RuleSet.{RuleSet}
use Rattle.delf_book.specs.declared.answers.Receipt.{Receipt}
use Rattle.delf_service.specs.declared.answers.Asked.{Asked}
use Rattle.delf_service.specs.declared.replies.LaneOut.{LaneOut}
use Rattle.delf_service.specs.declared.replies.LaneReply.{LaneReply}
use Rattle.delf_service.specs.declared.replies.LaneReply.TheVariants.{Submitted, Got}

abbrev pub IsNumberedObject : RuleSet → ObjectRow → Type 0
IsNumberedObject rules row = row.kind < length rules.objects

abbrev pub IsNumberedEdge : RuleSet → EdgeRow → Type 0
IsNumberedEdge rules row = row.key.edge < length rules.edges

abbrev pub IsNumberedItem : RuleSet → Item → Type 0
IsNumberedItem rules (item.Object job row) = IsNumberedObject rules row
IsNumberedItem rules (item.Edge job row from_birth to_birth) = IsNumberedEdge rules row

abbrev pub IsNumberedListed : RuleSet → Listed → Type 0
IsNumberedListed rules listed = IsNumberedItem rules listed.row

-- the type of a wrong end is one of so many
abbrev pub IsNumberedRefusal : ℕ → Refusal → Type 0
IsNumberedRefusal count (refusal.WrongEnd id kind) = kind < count
IsNumberedRefusal count other = Unit {0}

-- the schema has a name for the edge type of a call
abbrev pub IsNamed : Schema → Call → Type 0
IsNamed schema (call.Link edge from to payload) = edge < length schema.edges
IsNamed schema (call.Unlink edge from to name) = edge < length schema.edges
IsNamed schema other = Unit {0}

-- the reply is one to the command, and its line names types that the schema has

abbrev pub IsNumberedAnswer : Schema → Call → Result Receipt Refusal → Type 0
IsNumberedAnswer schema asked answer = IsNamed schema asked × IfErr answer (IsNumberedRefusal (length schema.objects))

abbrev pub IsNumberedAsked : Schema → Asked → Type 0
IsNumberedAsked schema asked = IfSome asked.found (λ row. row.0.kind < length schema.objects)

abbrev pub IsNumberedReply : Schema → LaneCommand → LaneReply → Type 0
IsNumberedReply schema (lane.Submit asked) (Submitted a) = IsNumberedAnswer schema asked a.reply
IsNumberedReply schema (lane.Submit asked) (Got found payload) = ⊥
IsNumberedReply schema (lane.Get id) (Submitted a) = ⊥
IsNumberedReply schema (lane.Get id) (Got asked payload) = IsNumberedAsked schema asked

abbrev pub AreNumberedReplies : Schema → List LaneCommand → List LaneReply → Type 0
AreNumberedReplies schema commands replies =
    (k : ℕ) (reply : LaneReply) → slice_get replies k ≡ Some reply → (command : LaneCommand) × (slice_get commands k ≡ Some command) × IsNumberedReply schema command reply

abbrev pub AreNumberedOuts : Schema → List Lane → List LaneOut → Type 0
AreNumberedOuts schema lanes outs =
    (place : ℕ) (out : LaneOut) → slice_get outs place ≡ Some out → (one : Lane) × (slice_get lanes place ≡ Some one) × AreNumberedReplies schema one.commands out.replies
