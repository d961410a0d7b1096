-- Bytes have one reading: a document, or a first fault.
use Rattle.std.proofs.Common.{◌≡◌, ◌<◌, ◌≤◌, ℕ, Bool, true, false, List, Ok, Err, length, ap, refl, sym, subst, ◌∙◌, arith, inl, inr}
use Rattle.std.proofs.lemmas.Bool.{cases_lt}
use Rattle.std.specs.Str.Lines.{lines}
use Rattle.delf_model.specs.declared.schema.Schema.{Schema}
use Rattle.delf_model.specs.declared.rules.Broken.{Broken}
use Rattle.delf_model.specs.declared.rules.Broken.TheVariants.{ObjectTwice, EdgeTwice, Undeclared, CannotTake, NoRoute}
use Rattle.delf_model.specs.declared.script.Command.{Command}
use Rattle.delf_model.specs.RuleSet.{RuleSet}
use Rattle.delf_model.specs.Broken.{IsFirstBroken}
use Rattle.delf_model.specs.Checked.{IsChecked, IsFirstRow, LacksNamedEnd, numbered}
use Rattle.delf_model.proofs.CheckedLemmas.{IsFirstBroken-refutes}
use Rattle.schema_lang.specs.Grammar as grammar
use Rattle.script_lang.specs.Documents.{schema_fault}
use Rattle.script_lang.specs.Scripts.{Fault, script_of}
use Rattle.documents.specs.declared.document.Document.{Document}
use Rattle.documents.specs.Documents.{HasPart, IsDocument, IsFault, TooLong, InPart, InCheck, InScript, broken_fault}

-- the first of some rows is one

first_row : (n : ℕ) (P : ℕ → Type 0) (a b : ℕ) → IsFirstRow n P a → IsFirstRow n P b → a ≡ b
first_row n P a b one two =
    elim (cases_lt a b) [
      | inl less ↦ absurd (two.2 a less one.1)
      | inr upward ↦ elim (cases_lt b a) [
        | inl less ↦ absurd (one.2 b less two.1)
        | inr downward ↦ omega (arith, upward, downward)
      ]
    ]

named_end : (rules : RuleSet) (row : ℕ) (a b : Bool) → LacksNamedEnd rules row a → LacksNamedEnd rules row b → a ≡ b
named_end rules row false false one two = refl
named_end rules row false true one two = absurd (two one)
named_end rules row true false one two = absurd (one two)
named_end rules row true true one two = refl

undeclared : (rules : RuleSet) (row row' : ℕ) (a b : Bool) → row ≡ row' → LacksNamedEnd rules row a → LacksNamedEnd rules row' b → Undeclared row a ≡ Undeclared row' b
undeclared rules row row' a b same one two =
    let ends : a ≡ b = named_end rules row a b one (subst (λ (k : ℕ). LacksNamedEnd rules k b) (sym same) two) in
    cc (same, ends)

-- a schema breaks one rule first

one_broken : (schema : Schema) (one other : Broken) → IsFirstBroken schema one → IsFirstBroken schema other → one ≡ other
one_broken schema (ObjectTwice a) (ObjectTwice b) x y = ap ObjectTwice (first_row _ _ a b x y)
one_broken schema (ObjectTwice a) (EdgeTwice b) x y = absurd (y.0 a x.0 x.1)
one_broken schema (ObjectTwice a) (Undeclared b other) x y = absurd (y.0 a x.0 x.1)
one_broken schema (ObjectTwice a) (CannotTake b) x y = absurd (y.0 a x.0 x.1)
one_broken schema (ObjectTwice a) (NoRoute b) x y = absurd (y.0 a x.0 x.1)
one_broken schema (EdgeTwice a) (ObjectTwice b) x y = absurd (x.0 b y.0 y.1)
one_broken schema (EdgeTwice a) (EdgeTwice b) x y = ap EdgeTwice (first_row _ _ a b x.1 y.1)
one_broken schema (EdgeTwice a) (Undeclared b other) x y = absurd (y.1 a x.1.0 x.1.1)
one_broken schema (EdgeTwice a) (CannotTake b) x y = absurd (y.1 a x.1.0 x.1.1)
one_broken schema (EdgeTwice a) (NoRoute b) x y = absurd (y.1 a x.1.0 x.1.1)
one_broken schema (Undeclared a end) (ObjectTwice b) x y = absurd (x.0 b y.0 y.1)
one_broken schema (Undeclared a end) (EdgeTwice b) x y = absurd (x.1 b y.1.0 y.1.1)
one_broken schema (Undeclared a end) (Undeclared b other) x y = undeclared (numbered schema) a b end other (first_row _ _ a b x.2.0 y.2.0) x.2.1 y.2.1
one_broken schema (Undeclared a end) (CannotTake b) x y = absurd (y.2.0 a x.2.0.0 x.2.0.1)
one_broken schema (Undeclared a end) (NoRoute b) x y = absurd (y.2.0 a x.2.0.0 x.2.0.1)
one_broken schema (CannotTake a) (ObjectTwice b) x y = absurd (x.0 b y.0 y.1)
one_broken schema (CannotTake a) (EdgeTwice b) x y = absurd (x.1 b y.1.0 y.1.1)
one_broken schema (CannotTake a) (Undeclared b other) x y = absurd (x.2.0 b y.2.0.0 y.2.0.1)
one_broken schema (CannotTake a) (CannotTake b) x y = ap CannotTake (first_row _ _ a b x.2.1 y.2.1)
one_broken schema (CannotTake a) (NoRoute b) x y = absurd (y.2.1 a x.2.1.0 x.2.1.1)
one_broken schema (NoRoute a) (ObjectTwice b) x y = absurd (x.0 b y.0 y.1)
one_broken schema (NoRoute a) (EdgeTwice b) x y = absurd (x.1 b y.1.0 y.1.1)
one_broken schema (NoRoute a) (Undeclared b other) x y = absurd (x.2.0 b y.2.0.0 y.2.0.1)
one_broken schema (NoRoute a) (CannotTake b) x y = absurd (x.2.1 b y.2.1.0 y.2.1.1)
one_broken schema (NoRoute a) (NoRoute b) x y = ap NoRoute (first_row _ _ a b x.2.2 y.2.2)

-- bytes have one schema part, and are one document

same_part : (bytes : List ℕ) (a b : grammar.Part) → HasPart bytes a → HasPart bytes b → a ≡ b
same_part bytes a b x y =
    let one : grammar.part_of (lines bytes) ≡ Ok a = x.spelled in
    let other : grammar.part_of (lines bytes) ≡ Ok b = y.spelled in
    cc (one, other)

document_of : Schema → RuleSet → List Command → Document
document_of schema rules commands = record { schema = schema; rules = rules; commands = commands }

same_document : (a b : Document) → a.schema ≡ b.schema → a.rules ≡ b.rules → a.commands ≡ b.commands → a ≡ b
unfolding document_of
same_document a b schemas rules commands =
    let same : document_of a.schema a.rules a.commands ≡ document_of b.schema b.rules b.commands = cc (schemas, rules, commands) in
    same

pub one_document : (blocks : Bool) (bytes : List ℕ) (one other : Document) → IsDocument blocks bytes one → IsDocument blocks bytes other → one ≡ other
one_document blocks bytes one other x y =
    let parts : x.part ≡ y.part = same_part bytes x.part y.part x.has y.has in
    let schemas : one.schema ≡ other.schema = sym x.schema ∙ ap (λ (p : grammar.Part). p.schema) parts ∙ y.schema in
    let here : script_of other.schema blocks x.part.rest x.part.next ≡ Ok one.commands =
    subst (λ (s : Schema). script_of s blocks x.part.rest x.part.next ≡ Ok one.commands) schemas x.script in
    let there : script_of other.schema blocks y.part.rest y.part.next ≡ Ok one.commands =
    subst (λ (p : grammar.Part). script_of other.schema blocks p.rest p.next ≡ Ok one.commands) parts here in
    let script : script_of other.schema blocks y.part.rest y.part.next ≡ Ok other.commands = y.script in
    let commands : one.commands ≡ other.commands = cc (there, script) in
    same_document one other schemas (x.rules ∙ ap numbered schemas ∙ sym y.rules) commands

-- bytes have one first fault

too_long : (bytes : List ℕ) → 16777216 < length bytes → length bytes ≤ 16777216 → ⊥
too_long bytes long short = omega (arith, long, short)

no_part : (bytes : List ℕ) (found : grammar.Fault) (part : grammar.Part) → grammar.part_of (lines bytes) ≡ Err found → HasPart bytes part → ⊥
no_part bytes found part refused has = let spelled : grammar.part_of (lines bytes) ≡ Ok part = has.spelled in absurd (cc (refused, spelled))

unchecked : (bytes : List ℕ) (a b : grammar.Part) (broken : Broken) → HasPart bytes a → HasPart bytes b → IsFirstBroken a.schema broken → IsChecked b.schema → ⊥
unchecked bytes a b broken x y first checked =
    IsFirstBroken-refutes a.schema broken first (subst (λ (p : grammar.Part). IsChecked p.schema) (same_part bytes b a y x) checked)

in_check : (bytes : List ℕ) (a b : grammar.Part) (broken broken' : Broken) → HasPart bytes a → HasPart bytes b → IsFirstBroken a.schema broken →
    IsFirstBroken b.schema broken' → broken_fault a.schema broken ≡ broken_fault b.schema broken'
in_check bytes a b broken broken' x y first second =
    let parts : b ≡ a = same_part bytes b a y x in
    let schemas : b.schema ≡ a.schema = ap (λ (p : grammar.Part). p.schema) parts in
    let same : broken ≡ broken' = one_broken a.schema broken broken' first (subst (λ (s : Schema). IsFirstBroken s broken') schemas second) in
    ap (broken_fault a.schema) same ∙ ap (λ (s : Schema). broken_fault s broken') (sym schemas)

in_script : (blocks : Bool) (bytes : List ℕ) (a b : grammar.Part) (fault fault' : Fault) → HasPart bytes a → HasPart bytes b →
    script_of a.schema blocks a.rest a.next ≡ Err fault → script_of b.schema blocks b.rest b.next ≡ Err fault' → fault ≡ fault'
in_script blocks bytes a b fault fault' x y first second =
    let here : script_of b.schema blocks b.rest b.next ≡ Err fault =
    subst (λ (p : grammar.Part). script_of p.schema blocks p.rest p.next ≡ Err fault) (same_part bytes a b x y) first in
    cc (here, second)

pub one_fault : (blocks : Bool) (bytes : List ℕ) (one other : Fault) → IsFault blocks bytes one → IsFault blocks bytes other → one ≡ other
one_fault blocks bytes one other (TooLong long is) (TooLong _ is') = is ∙ sym is'
one_fault blocks bytes one other (TooLong long is) (InPart found size refused is') = absurd (too_long bytes long size)
one_fault blocks bytes one other (TooLong long is) (InCheck part broken has first is') = absurd (too_long bytes long has.size)
one_fault blocks bytes one other (TooLong long is) (InScript part has checked refused) = absurd (too_long bytes long has.size)
one_fault blocks bytes one other (InPart found size refused is) (TooLong long is') = absurd (too_long bytes long size)
one_fault blocks bytes one other (InPart found size refused is) (InPart found' size' refused' is') =
    let same : found ≡ found' = cc (refused, refused') in
    is ∙ ap schema_fault same ∙ sym is'
one_fault blocks bytes one other (InPart found size refused is) (InCheck part broken has first is') = absurd (no_part bytes found part refused has)
one_fault blocks bytes one other (InPart found size refused is) (InScript part has checked refused') = absurd (no_part bytes found part refused has)
one_fault blocks bytes one other (InCheck part broken has first is) (TooLong long is') = absurd (too_long bytes long has.size)
one_fault blocks bytes one other (InCheck part broken has first is) (InPart found size refused is') = absurd (no_part bytes found part refused has)
one_fault blocks bytes one other (InCheck part broken has first is) (InCheck part' broken' has' first' is') =
    is ∙ in_check bytes part part' broken broken' has has' first first' ∙ sym is'
one_fault blocks bytes one other (InCheck part broken has first is) (InScript part' has' checked refused) = absurd (unchecked bytes part part' broken has has' first checked)
one_fault blocks bytes one other (InScript part has checked refused) (TooLong long is') = absurd (too_long bytes long has.size)
one_fault blocks bytes one other (InScript part has checked refused) (InPart found size refused' is') = absurd (no_part bytes found part refused' has)
one_fault blocks bytes one other (InScript part has checked refused) (InCheck part' broken has' first is') = absurd (unchecked bytes part' part broken has' has first checked)
one_fault blocks bytes one other (InScript part has checked refused) (InScript part' has' checked' refused') = in_script blocks bytes part part' one other has has' refused refused'
