-- Bytes are one document at most, and none where they have a fault.
use Rattle.std.proofs.Common.{◌≡◌, ℕ, Bool, List, sym, subst, ap, ◌∙◌, arith}
use Rattle.std.specs.Prelude.{Ok}
use Rattle.std.specs.Str.Lines.{lines}
use Rattle.delf_model.specs.declared.schema.Schema.{Schema}
use Rattle.delf_model.specs.Checked.{IsChecked, numbered}
use Rattle.delf_model.proofs.CheckedLemmas.{IsFirstBroken-refutes}
use Rattle.schema_lang.specs.Grammar as grammar
use Rattle.script_lang.specs.Scripts.{Fault, script_of}
use Rattle.documents.specs.declared.document.Document.{Document}
use Rattle.documents.specs.Documents.{IsDocument, IsFault, TooLong, InPart, InCheck, InScript}

same_part : (bytes : List ℕ) (a b : grammar.Part) → grammar.part_of (lines bytes) ≡ Ok a → grammar.part_of (lines bytes) ≡ Ok b → a ≡ b
same_part bytes a b first second = cc (first, second)

pub document_rules : (blocks : Bool) (bytes : List ℕ) (a b : Document) → IsDocument blocks bytes a → IsDocument blocks bytes b → a.rules ≡ b.rules
document_rules blocks bytes a b first second =
    let parts : first.part ≡ second.part = same_part bytes first.part second.part first.has.spelled second.has.spelled in
    let schemas : a.schema ≡ b.schema = sym first.schema ∙ ap (λ (p : grammar.Part). p.schema) parts ∙ second.schema in
    first.rules ∙ ap numbered schemas ∙ sym second.rules

pub no_fault : (blocks : Bool) (bytes : List ℕ) (document : Document) (fault : Fault) → IsDocument blocks bytes document → IsFault blocks bytes fault → ⊥
no_fault blocks bytes document fault read (TooLong long is) = absurd (let short = read.has.size in omega (arith, short))
no_fault blocks bytes document fault read (InPart found size refused is) =
    let spelled = read.has.spelled in absurd (cc (spelled, refused))
no_fault blocks bytes document fault read (InCheck part broken has first is) =
    let parts : read.part ≡ part = same_part bytes read.part part read.has.spelled has.spelled in
    let schemas : document.schema ≡ part.schema = sym read.schema ∙ ap (λ (p : grammar.Part). p.schema) parts in
    IsFirstBroken-refutes part.schema broken first (subst IsChecked schemas read.checked)
no_fault blocks bytes document fault read (InScript part has checked refused) =
    let parts : read.part ≡ part = same_part bytes read.part part read.has.spelled has.spelled in
    let schemas : document.schema ≡ part.schema = sym read.schema ∙ ap (λ (p : grammar.Part). p.schema) parts in
    let script : script_of part.schema blocks part.rest part.next ≡ Ok document.commands =
    subst (λ (p : grammar.Part). script_of p.schema blocks p.rest p.next ≡ Ok document.commands) parts
    (subst (λ (s : Schema). script_of s blocks read.part.rest read.part.next ≡ Ok document.commands) (sym read.schema) read.script) in
    absurd (cc (script, refused))
