-- What is read of a line is what its form says, within the limits.
use Rattle.std.proofs.Common.{◌≡◌, ℕ, Bool, true, false, cond, Option, Some, None, Result, Ok, Err, List, [], ◌∷◌, refl, sym, ap, subst, ◌∙◌, arith}
use Rattle.std.specs.Prelude.{option_map, codes}
use Rattle.std.specs.Str.{bytes_eq}
use Rattle.delf_model.specs.declared.call.Call.{Call}
use Rattle.delf_model.specs.declared.script.Command.{Command}
use Rattle.delf_model.specs.declared.script.Command.TheVariants.{Submit, Work, Tick, Get, Show, Job, Jobs, Report, Fail, Crash}
use Rattle.delf_model.specs.declared.script.LaneCommand.TheVariants as lane
use Rattle.delf_model.specs.declared.schema.Schema.{Schema}
use Rattle.schema_lang.specs.declared.line.Word.{Word}
use Rattle.schema_lang.specs.declared.line.Word.TheVariants.{Plain, Payload}
use Rattle.schema_lang.specs.Rows.{word_text}
use Rattle.schema_lang.specs.Numbers.{number_value}
use Rattle.schema_lang.proofs.FormLemmas.{is_number_of, plain_word, some_map}
use Rattle.schema_lang.proofs.ReadWords.{OfSome, some_cond}
use Rattle.script_lang.specs.declared.fault.Wrong.{Wrong}
use Rattle.script_lang.specs.declared.fault.Wrong.TheVariants.{Malformed, OutOfRange, Unknown}
use Rattle.script_lang.specs.declared.command.ScriptLine.{ScriptLine}
use Rattle.script_lang.specs.declared.command.ScriptLine.TheVariants.{Serial, Block}
use Rattle.script_lang.specs.declared.block.LaneLine.{LaneLine}
use Rattle.script_lang.specs.declared.block.LaneLine.TheVariants.{Begin, Within, End}
use Rattle.script_lang.specs.Parts.{mapped}
use Rattle.script_lang.specs.Commands.{other_line, submitted_or, script_line, one_number}
use Rattle.script_lang.specs.Blocks.{mark_line, within_or, lane_line}
use Rattle.script_lang.specs.TypeNumbers.{CommandNames}
use Rattle.script_lang.specs.Lines.{ScriptLineNames, LaneLineNames}
use Rattle.script_lang.specs.LineForms.{IsScriptLine, IsLaneLine, SubmitInLane, GetInLane, NextLane, BlockEnd, IsBetween, IsScriptLineWithin, IsLaneLineWithin, IsShort, IsRight}
use Rattle.script_lang.proofs.JudgeLemmas.{Counted, Called, nameless, counted_mapped, counted_if}
use Rattle.script_lang.proofs.CallLemmas.{raw_job, no_name, call_called}
use Rattle.script_lang.proofs.CallFormLemmas.{cons_same, num_is, nameless_some, whole, call_is, call_spells}
use Rattle.script_lang.proofs.LineFormLemmas.{raw_one, one_counted, raw_nothing, nothing_counted, raw_serial, raw_par, raw_other, other_counted, raw_line, raw_is, is_raw, one_spells, nothing_spells, numbered}

some_all : {A : Type 0} (P : A → Type 0) (m : Option A) → ((x : A) → P x) → OfSome P m
some_all P None each = tt
some_all P (Some x) each = each x

counted_nameless : {A : Type 0} (F K : A → Type 0) (m : Option A) (r : Result A Wrong) → OfSome K m → Counted F m r → Called (λ x name. F x × IsShort name) K (nameless m) r
counted_nameless F K m (Ok x) known is = ([], ap (λ k. nameless k) is.0, (is.1, no_name), subst (OfSome K) is.0 known)
counted_nameless F K m (Err Malformed) known is = ap (λ k. nameless k) is
counted_nameless F K m (Err OutOfRange) known is = (is.0, [], ap (λ k. nameless k) is.1, λ fits. is.2 fits.0)
counted_nameless F K m (Err (Unknown name)) known is = absurd is

abbrev first_or : {A : Type 0} → A → Option (A × List ℕ) → A
first_or x None = x
first_or x (Some c) = c.0

abbrev name_or : {A : Type 0} → List ℕ → Option (A × List ℕ) → List ℕ
name_or name None = name
name_or name (Some c) = c.1

same_there : {A : Type 0} (there : Option (A × List ℕ)) (x y : A) (one other : List ℕ) → there ≡ Some (x, one) → there ≡ Some (y, other) → (x ≡ y) × (one ≡ other)
same_there there x y one other is then = (ap (first_or x) (sym is ∙ then), ap (name_or one) (sym is ∙ then))

-- an answer that is judged is right

module _ {A : Type 0} (Has : A → List ℕ → Type 0) (F K : A → Type 0) (there : Option (A × List ℕ)) (has : (line : A) (name : List ℕ) → there ≡ Some (line, name) → Has line name)
    (is_there : (line : A) (name : List ℕ) → Has line name → there ≡ Some (line, name)) where
  nothing_there : (line : A) (name : List ℕ) → there ≡ None → there ≡ Some (line, name) → ⊥
  nothing_there line name is then = cc

  pub right_of : (r : Result A Wrong) → Called (λ line name. F line × IsShort name) K there r → IsRight Has F K r
  right_of (Ok line) is = (is.0, has line is.0 is.1, is.2, is.3)
  right_of (Err Malformed) is = λ line name form. nothing_there line name is (is_there line name form)
  right_of (Err OutOfRange) is = (is.0, is.1, has is.0 is.1 is.2, is.3)
  right_of (Err (Unknown lacked)) is = (is.0, has is.0 lacked is.1, is.2, is.3)

  pub read_of : (line : A) (name : List ℕ) → Has line name → F line × IsShort name → K line → (r : Result A Wrong) → Called (λ line name. F line × IsShort name) K there r → r ≡ Ok line
  read_of line name form within known (Ok found) is = let as_ok : A → Result A Wrong = λ l. Ok l in ap as_ok (same_there there found line is.0 name is.1 (is_there line name form)).0
  read_of line name form within known (Err Malformed) is = absurd (nothing_there line name is (is_there line name form))
  read_of line name form within known (Err OutOfRange) is =
      let same = same_there there is.0 line is.1 name is.2 (is_there line name form) in
      absurd (is.3 (subst F (sym same.0) within.0, subst IsShort (sym same.1) within.1))
  read_of line name form within known (Err (Unknown lacked)) is =
      let same = same_there there is.0 line lacked name is.1 (is_there line name form) in
      absurd (is.3 (subst K (sym same.0) known))

module _ (schema : Schema) (blocks : Bool) where
  command_known : (keyword : List ℕ) (words : List Word) → OfSome (λ command. ScriptLineNames schema (Serial command)) (raw_serial keyword words)
  command_known keyword words =
      some_cond (CommandNames schema) (bytes_eq keyword (codes "work")) _ _ (λ _. some_map (CommandNames schema) (λ n. Work n) (raw_one words) (some_all _ (raw_one words) (λ n. tt)))
      (λ _. some_cond (CommandNames schema) (bytes_eq keyword (codes "tick")) _ _ (λ _. some_map (CommandNames schema) (λ n. Tick n) (raw_one words) (some_all _ (raw_one words) (λ n. tt)))
      (λ _. some_cond (CommandNames schema) (bytes_eq keyword (codes "get")) _ _ (λ _. some_map (CommandNames schema) (λ n. Get n) (raw_one words) (some_all _ (raw_one words) (λ n. tt)))
      (λ _. some_cond (CommandNames schema) (bytes_eq keyword (codes "show")) _ _ (λ _. nothing_spells (CommandNames schema) Show words (λ _. tt))
      (λ _. some_cond (CommandNames schema) (bytes_eq keyword (codes "job")) _ _ (λ _. some_map (CommandNames schema) (λ job. Job job) (raw_job words) (some_all _ (raw_job words) (λ n. tt)))
      (λ _. some_cond (CommandNames schema) (bytes_eq keyword (codes "jobs")) _ _ (λ _. nothing_spells (CommandNames schema) Jobs words (λ _. tt))
      (λ _. some_cond (CommandNames schema) (bytes_eq keyword (codes "report")) _ _ (λ _. nothing_spells (CommandNames schema) Report words (λ _. tt))
      (λ _. some_cond (CommandNames schema) (bytes_eq keyword (codes "fail")) _ _ (λ _. some_map (CommandNames schema) (λ n. Fail n) (raw_one words) (some_all _ (raw_one words) (λ n. tt)))
      (λ _. some_cond (CommandNames schema) (bytes_eq keyword (codes "crash")) _ None (λ _. some_map (CommandNames schema) (λ n. Crash n) (raw_one words) (some_all _ (raw_one words) (λ n. tt)))
      (λ _. tt)))))))))

  other_known : (keyword : List ℕ) (words : List Word) → OfSome (ScriptLineNames schema) (raw_other blocks keyword words)
  other_known keyword words =
      some_cond (ScriptLineNames schema) (bytes_eq keyword (codes "par")) _ _
      (λ _. some_cond (ScriptLineNames schema) blocks (option_map (λ head. Block head) (raw_par words)) None (λ _. some_map (ScriptLineNames schema) (λ head. Block head) (raw_par words) (some_all _ (raw_par words) (λ head. tt))) (λ _. tt))
      (λ _. some_map (ScriptLineNames schema) (λ command. Serial command) (raw_serial keyword words) (command_known keyword words))

  submitted : (r : Result Call Wrong) (s : Result ScriptLine Wrong) → submitted_or (mapped (λ call. Some call) r) s ≡ mapped (λ call. Serial (Submit call)) r
  submitted (Ok call) s = refl
  submitted (Err wrong) s = refl

  line_called : (words : List Word) → Called (λ line name. IsScriptLineWithin line × IsShort name) (ScriptLineNames schema) (raw_line schema blocks words) (script_line schema blocks words)
  unfolding script_line
  line_called [] = refl
  line_called (k ∷ words) =
      call_called schema (λ call. Serial (Submit call)) (λ line name. IsScriptLineWithin line × IsShort name) (ScriptLineNames schema) submitted_or submitted (λ s. refl)
      (λ call name fits. fits) (λ call name fits. fits) (λ call known. known) (λ call known. known) (word_text k) words (nameless (raw_other blocks (word_text k) words)) (other_line blocks (word_text k) words)
      (counted_nameless IsScriptLineWithin (ScriptLineNames schema) (raw_other blocks (word_text k) words) (other_line blocks (word_text k) words) (other_known (word_text k) words) (other_counted blocks (word_text k) words))

  pub script_line_right : (words : List Word) → IsRight (IsScriptLine schema blocks words) IsScriptLineWithin (ScriptLineNames schema) (script_line schema blocks words)
  script_line_right words =
      right_of (IsScriptLine schema blocks words) IsScriptLineWithin (ScriptLineNames schema) (raw_line schema blocks words) (is_raw schema blocks words) (raw_is schema blocks words) (script_line schema blocks words) (line_called words)

  pub script_line_read : (words : List Word) (line : ScriptLine) (name : List ℕ) → IsScriptLine schema blocks words line name → IsScriptLineWithin line × IsShort name → ScriptLineNames schema line → script_line schema blocks words ≡ Ok line
  script_line_read words line name form within known =
      read_of (IsScriptLine schema blocks words) IsScriptLineWithin (ScriptLineNames schema) (raw_line schema blocks words) (is_raw schema blocks words) (raw_is schema blocks words) line name form within known (script_line schema blocks words) (line_called words)

-- the lines in a lane

abbrev raw_mark : List ℕ → List Word → Option LaneLine
raw_mark keyword words =
    cond (bytes_eq keyword (codes "get")) (option_map (λ id. Within (lane.Get id)) (raw_one words))
    (cond (bytes_eq keyword (codes "lane")) (raw_nothing Begin words)
    (cond (bytes_eq keyword (codes "end")) (raw_nothing End words) None))

mark_counted : (keyword : List ℕ) (words : List Word) → Counted IsLaneLineWithin (raw_mark keyword words) (mark_line keyword words)
mark_counted keyword words =
    counted_if IsLaneLineWithin (bytes_eq keyword (codes "get")) _ _ _ _
    (counted_mapped (IsBetween 1 999999999999) IsLaneLineWithin (λ id. Within (lane.Get id)) (λ n fits. fits) (λ n fits. fits) (raw_one words) (one_number 1 999999999999 words) (one_counted 1 999999999999 words))
    (counted_if IsLaneLineWithin (bytes_eq keyword (codes "lane")) _ _ _ _ (nothing_counted IsLaneLineWithin Begin tt words)
    (counted_if IsLaneLineWithin (bytes_eq keyword (codes "end")) _ None _ (Err Malformed) (nothing_counted IsLaneLineWithin End tt words) refl))

module _ (schema : Schema) where
  mark_known : (keyword : List ℕ) (words : List Word) → OfSome (LaneLineNames schema) (raw_mark keyword words)
  mark_known keyword words =
      some_cond (LaneLineNames schema) (bytes_eq keyword (codes "get")) _ _ (λ _. some_map (LaneLineNames schema) (λ id. Within (lane.Get id)) (raw_one words) (some_all _ (raw_one words) (λ n. tt)))
      (λ _. some_cond (LaneLineNames schema) (bytes_eq keyword (codes "lane")) _ _ (λ _. nothing_spells (LaneLineNames schema) Begin words (λ _. tt))
      (λ _. some_cond (LaneLineNames schema) (bytes_eq keyword (codes "end")) _ None (λ _. nothing_spells (LaneLineNames schema) End words (λ _. tt)) (λ _. tt)))

  mark_spells : (k : Word) (words : List Word) → OfSome (λ line. IsLaneLine schema (k ∷ words) line []) (raw_mark (word_text k) words)
  mark_spells k words =
      some_cond (λ line. IsLaneLine schema (k ∷ words) line []) (bytes_eq (word_text k) (codes "get")) _ _
      (λ e. some_map (λ line. IsLaneLine schema (k ∷ words) line []) (λ id. Within (lane.Get id)) (raw_one words) (one_spells (λ n. IsLaneLine schema (k ∷ words) (Within (lane.Get n)) []) words
      (λ a is n. GetInLane (word_text a) (number_value (word_text a)) (numbered k words (codes "get") a (plain_word k (codes "get") (omega arith) e) is n) (is_number_of (word_text a) n) refl refl)))
      (λ _. some_cond (λ line. IsLaneLine schema (k ∷ words) line []) (bytes_eq (word_text k) (codes "lane")) _ _ (λ e. nothing_spells (λ line. IsLaneLine schema (k ∷ words) line []) Begin words (λ is. NextLane (cons_same (plain_word k (codes "lane") (omega arith) e) is) refl refl))
      (λ _. some_cond (λ line. IsLaneLine schema (k ∷ words) line []) (bytes_eq (word_text k) (codes "end")) _ None (λ e. nothing_spells (λ line. IsLaneLine schema (k ∷ words) line []) End words (λ is. BlockEnd (cons_same (plain_word k (codes "end") (omega arith) e) is) refl refl))
      (λ _. tt)))

  abbrev raw_lane : List Word → Option (LaneLine × List ℕ)
  raw_lane words = whole schema (λ call. Within (lane.Submit call)) (λ keyword more. nameless (raw_mark keyword more)) words

  lane_is : (words : List Word) (line : LaneLine) (name : List ℕ) → IsLaneLine schema words line name → raw_lane words ≡ Some (line, name)
  lane_is words line name (SubmitInLane call is means) = call_is schema (λ call. Within (lane.Submit call)) (λ keyword more. nameless (raw_mark keyword more)) words call name is ∙ (rw means refl)
  lane_is words line name (GetInLane text id is digits none means) = ap raw_lane is ∙ (rw (num_is text id digits, none, means) refl)
  lane_is words line name (NextLane is none means) = ap raw_lane is ∙ (rw (none, means) refl)
  lane_is words line name (BlockEnd is none means) = ap raw_lane is ∙ (rw (none, means) refl)

  lane_spells : (words : List Word) → OfSome (λ c. IsLaneLine schema words c.0 c.1) (raw_lane words)
  lane_spells [] = tt
  lane_spells (k ∷ words) =
      call_spells schema (λ call. Within (lane.Submit call)) (λ c. IsLaneLine schema (k ∷ words) c.0 c.1) k words (λ call name is. SubmitInLane call is refl) (nameless (raw_mark (word_text k) words))
      (nameless_some (λ c. IsLaneLine schema (k ∷ words) c.0 c.1) (raw_mark (word_text k) words) (mark_spells k words))

  is_lane : (words : List Word) (line : LaneLine) (name : List ℕ) → raw_lane words ≡ Some (line, name) → IsLaneLine schema words line name
  is_lane words line name is = subst (OfSome (λ c. IsLaneLine schema words c.0 c.1)) is (lane_spells words)

  within : (r : Result Call Wrong) (s : Result LaneLine Wrong) → within_or (mapped (λ call. Some call) r) s ≡ mapped (λ call. Within (lane.Submit call)) r
  within (Ok call) s = refl
  within (Err wrong) s = refl

  lane_called : (words : List Word) → Called (λ line name. IsLaneLineWithin line × IsShort name) (LaneLineNames schema) (raw_lane words) (lane_line schema words)
  unfolding lane_line
  lane_called [] = refl
  lane_called (k ∷ words) =
      call_called schema (λ call. Within (lane.Submit call)) (λ line name. IsLaneLineWithin line × IsShort name) (LaneLineNames schema) within_or within (λ s. refl)
      (λ call name fits. fits) (λ call name fits. fits) (λ call known. known) (λ call known. known) (word_text k) words (nameless (raw_mark (word_text k) words)) (mark_line (word_text k) words)
      (counted_nameless IsLaneLineWithin (LaneLineNames schema) (raw_mark (word_text k) words) (mark_line (word_text k) words) (mark_known (word_text k) words) (mark_counted (word_text k) words))

  pub lane_line_right : (words : List Word) → IsRight (IsLaneLine schema words) IsLaneLineWithin (LaneLineNames schema) (lane_line schema words)
  lane_line_right words = right_of (IsLaneLine schema words) IsLaneLineWithin (LaneLineNames schema) (raw_lane words) (is_lane words) (lane_is words) (lane_line schema words) (lane_called words)

  pub lane_line_read : (words : List Word) (line : LaneLine) (name : List ℕ) → IsLaneLine schema words line name → IsLaneLineWithin line × IsShort name → LaneLineNames schema line → lane_line schema words ≡ Ok line
  lane_line_read words line name form fits known = read_of (IsLaneLine schema words) IsLaneLineWithin (LaneLineNames schema) (raw_lane words) (is_lane words) (lane_is words) line name form fits known (lane_line schema words) (lane_called words)
