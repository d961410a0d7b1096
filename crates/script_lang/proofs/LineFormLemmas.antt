-- The lines of a script: their forms, and what is read of them, both ways.
use Rattle.std.proofs.Common.{◌≡◌, ℕ, Bool, true, false, cond, Option, Some, None, Result, Ok, Err, List, [], ◌∷◌, length, refl, sym, ap, subst, ◌∙◌, arith}
use Rattle.std.specs.Prelude.{◌&&◌, option_map, codes}
use Rattle.std.specs.Str.{bytes_eq}
use Rattle.delf_model.specs.declared.call.Call.{Call}
use Rattle.delf_model.specs.declared.ids.JobName.{JobName}
use Rattle.delf_model.specs.declared.script.Command.{Command}
use Rattle.delf_model.specs.declared.script.Command.TheVariants.{Submit, Work, Tick, Get, Show, Job, Jobs, Report, Fail, Crash}
use Rattle.delf_model.specs.declared.script.LaneCommand.TheVariants as lane
use Rattle.delf_model.specs.declared.schema.Schema.{Schema}
use Rattle.schema_lang.specs.declared.line.Word.{Word}
use Rattle.schema_lang.specs.declared.line.Word.TheVariants.{Plain, Payload}
use Rattle.schema_lang.specs.Rows.{word_text}
use Rattle.schema_lang.specs.Numbers.{is_number, number_value}
use Rattle.schema_lang.specs.Forms.{IsNumber}
use Rattle.schema_lang.proofs.FormLemmas.{is_number_of, plain_word, number_word, some_map}
use Rattle.schema_lang.proofs.PrintLemmas.{both_true}
use Rattle.schema_lang.proofs.ReadWords.{OfSome, some_cond}
use Rattle.script_lang.specs.declared.fault.Wrong.{Wrong}
use Rattle.script_lang.specs.declared.fault.Wrong.TheVariants.{Malformed, OutOfRange, Unknown}
use Rattle.script_lang.specs.declared.command.BlockHead.{BlockHead}
use Rattle.script_lang.specs.declared.command.ScriptLine.{ScriptLine}
use Rattle.script_lang.specs.declared.command.ScriptLine.TheVariants.{Serial, Block}
use Rattle.script_lang.specs.declared.block.LaneLine.{LaneLine}
use Rattle.script_lang.specs.declared.block.LaneLine.TheVariants.{Begin, Within, End}
use Rattle.script_lang.specs.Parts.{both, mapped, number_part}
use Rattle.script_lang.specs.Calls.{call_line, job_name}
use Rattle.script_lang.specs.Commands.{nothing_more, one_number, serial_line, block_head, par_line, opening_line, other_line, submitted_or, script_line}
use Rattle.script_lang.specs.Blocks.{mark_line, within_or, lane_line}
use Rattle.script_lang.specs.Lines.{ScriptLineNames, LaneLineNames}
use Rattle.script_lang.specs.LineForms.{IsJob, IsCall, IsScriptLine, SubmitLine, WorkLine, TickLine, GetLine, ShowLine, JobLine, JobsLine, ReportLine, FailLine, CrashLine, ParLine, ParQuietLine, IsLaneLine, SubmitInLane, GetInLane, NextLane, BlockEnd, IsBetween, IsId, IsJobWithin, IsSerialWithin, IsScriptLineWithin, IsLaneLineWithin, IsShort}
use Rattle.script_lang.proofs.JudgeLemmas.{Counted, Called, number_counted, pair, counted_both, nameless, counted_mapped, counted_if}
use Rattle.script_lang.proofs.CallLemmas.{num, raw_job, job_counted, CallFits, no_name, raw_call, call_called}
use Rattle.script_lang.proofs.CallFormLemmas.{cons_same, num_is, num_some, job_is, job_spells, pair_some, nameless_some, whole, call_is, call_spells}

-- what the words behind a keyword mean, limits apart

abbrev pub raw_one : List Word → Option ℕ
raw_one [] = None
raw_one (a ∷ []) = num a
raw_one (a ∷ b ∷ more) = None

pub one_counted : (least greatest : ℕ) (words : List Word) → Counted (IsBetween least greatest) (raw_one words) (one_number least greatest words)
one_counted least greatest [] = refl
one_counted least greatest (a ∷ []) = number_counted least greatest a
one_counted least greatest (a ∷ b ∷ more) = refl

abbrev pub raw_nothing : {A : Type 0} → A → List Word → Option A
raw_nothing x [] = Some x
raw_nothing x (a ∷ more) = None

pub nothing_counted : {A : Type 0} (F : A → Type 0) (x : A) → F x → (words : List Word) → Counted F (raw_nothing x words) (mapped (λ nothing. x) (nothing_more words))
nothing_counted F x fits [] = (refl, fits)
nothing_counted F x fits (a ∷ more) = refl

abbrev pub raw_serial : List ℕ → List Word → Option Command
raw_serial keyword words =
    cond (bytes_eq keyword (codes "work")) (option_map (λ n. Work n) (raw_one words))
    (cond (bytes_eq keyword (codes "tick")) (option_map (λ n. Tick n) (raw_one words))
    (cond (bytes_eq keyword (codes "get")) (option_map (λ id. Get id) (raw_one words))
    (cond (bytes_eq keyword (codes "show")) (raw_nothing Show words)
    (cond (bytes_eq keyword (codes "job")) (option_map (λ job. Job job) (raw_job words))
    (cond (bytes_eq keyword (codes "jobs")) (raw_nothing Jobs words)
    (cond (bytes_eq keyword (codes "report")) (raw_nothing Report words)
    (cond (bytes_eq keyword (codes "fail")) (option_map (λ n. Fail n) (raw_one words))
    (cond (bytes_eq keyword (codes "crash")) (option_map (λ pick. Crash pick) (raw_one words)) None))))))))

one_command : (least greatest : ℕ) (f : ℕ → Command) → ((n : ℕ) → IsBetween least greatest n → IsSerialWithin (f n)) → ((n : ℕ) → IsSerialWithin (f n) → IsBetween least greatest n) → (words : List Word)
    → Counted IsSerialWithin (option_map f (raw_one words)) (mapped f (one_number least greatest words))
one_command least greatest f to back words = counted_mapped (IsBetween least greatest) IsSerialWithin f to back (raw_one words) (one_number least greatest words) (one_counted least greatest words)

serial_counted : (keyword : List ℕ) (words : List Word) → Counted IsSerialWithin (raw_serial keyword words) (serial_line keyword words)
serial_counted keyword words =
    counted_if IsSerialWithin (bytes_eq keyword (codes "work")) _ _ _ _ (one_command 1 1000000 (λ n. Work n) (λ n fits. fits) (λ n fits. fits) words)
    (counted_if IsSerialWithin (bytes_eq keyword (codes "tick")) _ _ _ _ (one_command 1 999999999999 (λ n. Tick n) (λ n fits. fits) (λ n fits. fits) words)
    (counted_if IsSerialWithin (bytes_eq keyword (codes "get")) _ _ _ _ (one_command 1 999999999999 (λ n. Get n) (λ n fits. fits) (λ n fits. fits) words)
    (counted_if IsSerialWithin (bytes_eq keyword (codes "show")) _ _ _ _ (nothing_counted IsSerialWithin Show tt words)
    (counted_if IsSerialWithin (bytes_eq keyword (codes "job")) _ _ _ _ (counted_mapped IsJobWithin IsSerialWithin (λ job. Job job) (λ job fits. fits) (λ job fits. fits) (raw_job words) (job_name words) (job_counted words))
    (counted_if IsSerialWithin (bytes_eq keyword (codes "jobs")) _ _ _ _ (nothing_counted IsSerialWithin Jobs tt words)
    (counted_if IsSerialWithin (bytes_eq keyword (codes "report")) _ _ _ _ (nothing_counted IsSerialWithin Report tt words)
    (counted_if IsSerialWithin (bytes_eq keyword (codes "fail")) _ _ _ _ (one_command 1 1000000 (λ n. Fail n) (λ n fits. fits) (λ n fits. fits) words)
    (counted_if IsSerialWithin (bytes_eq keyword (codes "crash")) _ None _ (Err Malformed) (one_command 0 18446744073709551615 (λ n. Crash n) (λ n fits. fits) (λ n fits. fits) words) refl))))))))

abbrev head_of : Bool → ℕ × ℕ → BlockHead
head_of quiet found = record { quiet = quiet; workers = found.0; turns = found.1 }

abbrev raw_head : Bool → List Word → Option BlockHead
raw_head quiet (a ∷ b ∷ c ∷ d ∷ []) = cond (bytes_eq (word_text a) (codes "workers") && bytes_eq (word_text c) (codes "turns")) (option_map (head_of quiet) (pair (num b) (num d))) None
raw_head quiet words = None

abbrev HeadFits : BlockHead → Type 0
HeadFits head = IsBetween 0 16 head.workers × IsBetween 1 1000000 head.turns

head_counted : (quiet : Bool) (words : List Word) → Counted HeadFits (raw_head quiet words) (block_head quiet words)
head_counted quiet [] = refl
head_counted quiet (a ∷ []) = refl
head_counted quiet (a ∷ b ∷ []) = refl
head_counted quiet (a ∷ b ∷ c ∷ []) = refl
head_counted quiet (a ∷ b ∷ c ∷ d ∷ []) =
    counted_if HeadFits (bytes_eq (word_text a) (codes "workers") && bytes_eq (word_text c) (codes "turns")) (option_map (head_of quiet) (pair (num b) (num d))) None
    (mapped (head_of quiet) (both (number_part 0 16 b) (number_part 1 1000000 d))) (Err Malformed)
    (counted_mapped (λ (found : ℕ × ℕ). IsBetween 0 16 found.0 × IsBetween 1 1000000 found.1) HeadFits (head_of quiet) (λ found fits. fits) (λ found fits. fits) (pair (num b) (num d)) (both (number_part 0 16 b) (number_part 1 1000000 d))
    (counted_both (IsBetween 0 16) (IsBetween 1 1000000) (num b) (num d) (number_part 0 16 b) (number_part 1 1000000 d) (number_counted 0 16 b) (number_counted 1 1000000 d))) refl
head_counted quiet (a ∷ b ∷ c ∷ d ∷ e ∷ more) = refl

abbrev pub raw_par : List Word → Option BlockHead
raw_par [] = None
raw_par (a ∷ more) = cond (bytes_eq (word_text a) (codes "quiet")) (raw_head true more) (raw_head false (a ∷ more))

par_counted : (words : List Word) → Counted HeadFits (raw_par words) (par_line words)
par_counted [] = refl
par_counted (a ∷ more) = counted_if HeadFits (bytes_eq (word_text a) (codes "quiet")) (raw_head true more) (raw_head false (a ∷ more)) _ _ (head_counted true more) (head_counted false (a ∷ more))

abbrev raw_opening : Bool → List Word → Option ScriptLine
raw_opening blocks words = cond blocks (option_map (λ head. Block head) (raw_par words)) None

abbrev pub raw_other : Bool → List ℕ → List Word → Option ScriptLine
raw_other blocks keyword words = cond (bytes_eq keyword (codes "par")) (raw_opening blocks words) (option_map (λ command. Serial command) (raw_serial keyword words))

pub other_counted : (blocks : Bool) (keyword : List ℕ) (words : List Word) → Counted IsScriptLineWithin (raw_other blocks keyword words) (other_line blocks keyword words)
other_counted blocks keyword words =
    counted_if IsScriptLineWithin (bytes_eq keyword (codes "par")) (raw_opening blocks words) _ (opening_line blocks words) _
    (counted_if IsScriptLineWithin blocks (option_map (λ head. Block head) (raw_par words)) None (mapped (λ head. Block head) (par_line words)) (Err Malformed)
    (counted_mapped HeadFits IsScriptLineWithin (λ head. Block head) (λ head fits. fits) (λ head fits. fits) (raw_par words) (par_line words) (par_counted words)) refl)
    (counted_mapped IsSerialWithin IsScriptLineWithin (λ command. Serial command) (λ command fits. fits) (λ command fits. fits) (raw_serial keyword words) (serial_line keyword words) (serial_counted keyword words))

-- such lines have the forms

pub one_spells : (P : ℕ → Type 0) (words : List Word) → ((word : Word) → words ≡ word ∷ [] → is_number (word_text word) ≡ true → P (number_value (word_text word))) → OfSome P (raw_one words)
one_spells P [] each = tt
one_spells P (a ∷ []) each = num_some P a (each a refl)
one_spells P (a ∷ b ∷ more) each = tt

pub nothing_spells : {A : Type 0} (P : A → Type 0) (x : A) (words : List Word) → (words ≡ [] → P x) → OfSome P (raw_nothing x words)
nothing_spells P x [] each = each refl
nothing_spells P x (a ∷ more) each = tt

job_more : (P : JobName → Type 0) (words : List Word) (m : Option JobName) → ((job : JobName) → IsJob words job → P job) → OfSome (IsJob words) m → OfSome P m
job_more P words None each is = tt
job_more P words (Some job) each is = each job is

-- a line of a keyword and a number, or of a keyword alone
pub numbered : (k : Word) (words : List Word) (text : List ℕ) (word : Word) → k ≡ Plain text → words ≡ word ∷ [] → is_number (word_text word) ≡ true → k ∷ words ≡ Plain text ∷ Plain (word_text word) ∷ []
numbered k words text word key is number = cons_same key (is ∙ cons_same (number_word word number) refl)

module _ (schema : Schema) (blocks : Bool) where
  abbrev IsOf : List Word → ScriptLine × List ℕ → Type 0
  IsOf words c = IsScriptLine schema blocks words c.0 c.1

  abbrev IsNameless : List Word → ScriptLine → Type 0
  IsNameless words line = IsScriptLine schema blocks words line []

  abbrev IsSerial : List Word → Command → Type 0
  IsSerial words command = IsScriptLine schema blocks words (Serial command) []

  serial_spells : (k : Word) (words : List Word) → OfSome (IsSerial (k ∷ words)) (raw_serial (word_text k) words)
  serial_spells k words =
      some_cond (IsSerial (k ∷ words)) (bytes_eq (word_text k) (codes "work")) _ _ (λ e. some_map (IsSerial (k ∷ words)) (λ n. Work n) (raw_one words) (one_spells (λ n. IsSerial (k ∷ words) (Work n)) words
      (λ a is n. WorkLine (word_text a) (number_value (word_text a)) (numbered k words (codes "work") a (plain_word k (codes "work") (omega arith) e) is n) (is_number_of (word_text a) n) refl refl)))
      (λ _. some_cond (IsSerial (k ∷ words)) (bytes_eq (word_text k) (codes "tick")) _ _ (λ e. some_map (IsSerial (k ∷ words)) (λ n. Tick n) (raw_one words) (one_spells (λ n. IsSerial (k ∷ words) (Tick n)) words
      (λ a is n. TickLine (word_text a) (number_value (word_text a)) (numbered k words (codes "tick") a (plain_word k (codes "tick") (omega arith) e) is n) (is_number_of (word_text a) n) refl refl)))
      (λ _. some_cond (IsSerial (k ∷ words)) (bytes_eq (word_text k) (codes "get")) _ _ (λ e. some_map (IsSerial (k ∷ words)) (λ n. Get n) (raw_one words) (one_spells (λ n. IsSerial (k ∷ words) (Get n)) words
      (λ a is n. GetLine (word_text a) (number_value (word_text a)) (numbered k words (codes "get") a (plain_word k (codes "get") (omega arith) e) is n) (is_number_of (word_text a) n) refl refl)))
      (λ _. some_cond (IsSerial (k ∷ words)) (bytes_eq (word_text k) (codes "show")) _ _ (λ e. nothing_spells (IsSerial (k ∷ words)) Show words (λ is. ShowLine (cons_same (plain_word k (codes "show") (omega arith) e) is) refl refl))
      (λ _. some_cond (IsSerial (k ∷ words)) (bytes_eq (word_text k) (codes "job")) _ _ (λ e. some_map (IsSerial (k ∷ words)) (λ job. Job job) (raw_job words) (job_more (λ job. IsSerial (k ∷ words) (Job job)) words (raw_job words)
      (λ job said. JobLine words job (cons_same (plain_word k (codes "job") (omega arith) e) refl) said refl refl) (job_spells words)))
      (λ _. some_cond (IsSerial (k ∷ words)) (bytes_eq (word_text k) (codes "jobs")) _ _ (λ e. nothing_spells (IsSerial (k ∷ words)) Jobs words (λ is. JobsLine (cons_same (plain_word k (codes "jobs") (omega arith) e) is) refl refl))
      (λ _. some_cond (IsSerial (k ∷ words)) (bytes_eq (word_text k) (codes "report")) _ _ (λ e. nothing_spells (IsSerial (k ∷ words)) Report words (λ is. ReportLine (cons_same (plain_word k (codes "report") (omega arith) e) is) refl refl))
      (λ _. some_cond (IsSerial (k ∷ words)) (bytes_eq (word_text k) (codes "fail")) _ _ (λ e. some_map (IsSerial (k ∷ words)) (λ n. Fail n) (raw_one words) (one_spells (λ n. IsSerial (k ∷ words) (Fail n)) words
      (λ a is n. FailLine (word_text a) (number_value (word_text a)) (numbered k words (codes "fail") a (plain_word k (codes "fail") (omega arith) e) is n) (is_number_of (word_text a) n) refl refl)))
      (λ _. some_cond (IsSerial (k ∷ words)) (bytes_eq (word_text k) (codes "crash")) _ None (λ e. some_map (IsSerial (k ∷ words)) (λ n. Crash n) (raw_one words) (one_spells (λ n. IsSerial (k ∷ words) (Crash n)) words
      (λ a is n. CrashLine (word_text a) (number_value (word_text a)) (numbered k words (codes "crash") a (plain_word k (codes "crash") (omega arith) e) is n) (is_number_of (word_text a) n) refl refl)))
      (λ _. tt)))))))))

  head_spells : (quiet : Bool) (words : List Word) (P : BlockHead → Type 0)
      → ((a b : List ℕ) (workers turns : ℕ) → words ≡ Plain (codes "workers") ∷ Plain a ∷ Plain (codes "turns") ∷ Plain b ∷ [] → IsNumber a workers → IsNumber b turns → P (record { quiet = quiet; workers = workers; turns = turns }))
      → OfSome P (raw_head quiet words)
  head_spells quiet [] P each = tt
  head_spells quiet (a ∷ []) P each = tt
  head_spells quiet (a ∷ b ∷ []) P each = tt
  head_spells quiet (a ∷ b ∷ c ∷ []) P each = tt
  head_spells quiet (a ∷ b ∷ c ∷ d ∷ []) P each =
      some_cond P (bytes_eq (word_text a) (codes "workers") && bytes_eq (word_text c) (codes "turns")) (option_map (head_of quiet) (pair (num b) (num d))) None
      (λ is. let parts = both_true (bytes_eq (word_text a) (codes "workers")) (bytes_eq (word_text c) (codes "turns")) is in
      some_map P (head_of quiet) (pair (num b) (num d)) (pair_some (λ found. P (head_of quiet found)) (num b) (num d) (num_some _ b (λ n. num_some _ d (λ m.
      each (word_text b) (word_text d) (number_value (word_text b)) (number_value (word_text d))
      (cons_same (plain_word a (codes "workers") (omega arith) parts.0) (cons_same (number_word b n) (cons_same (plain_word c (codes "turns") (omega arith) parts.1) (cons_same (number_word d m) refl))))
      (is_number_of (word_text b) n) (is_number_of (word_text d) m))))))
      (λ _. tt)
  head_spells quiet (a ∷ b ∷ c ∷ d ∷ e ∷ more) P each = tt

  par_spells : (k : Word) (words : List Word) → k ≡ Plain (codes "par") → blocks ≡ true → OfSome (λ head. IsNameless (k ∷ words) (Block head)) (raw_par words)
  par_spells k [] key served = tt
  par_spells k (a ∷ more) key served =
      some_cond (λ head. IsNameless (k ∷ a ∷ more) (Block head)) (bytes_eq (word_text a) (codes "quiet")) (raw_head true more) (raw_head false (a ∷ more))
      (λ e. head_spells true more (λ head. IsNameless (k ∷ a ∷ more) (Block head))
      (λ one other workers turns is first second. ParQuietLine one other workers turns served (cons_same key (cons_same (plain_word a (codes "quiet") (omega arith) e) is)) first second refl refl))
      (λ _. head_spells false (a ∷ more) (λ head. IsNameless (k ∷ a ∷ more) (Block head))
      (λ one other workers turns is first second. ParLine one other workers turns served (cons_same key is) first second refl refl))

  other_spells : (k : Word) (words : List Word) → OfSome (IsNameless (k ∷ words)) (raw_other blocks (word_text k) words)
  other_spells k words =
      some_cond (IsNameless (k ∷ words)) (bytes_eq (word_text k) (codes "par")) (raw_opening blocks words) _
      (λ e. some_cond (IsNameless (k ∷ words)) blocks (option_map (λ head. Block head) (raw_par words)) None
      (λ served. some_map (IsNameless (k ∷ words)) (λ head. Block head) (raw_par words) (par_spells k words (plain_word k (codes "par") (omega arith) e) served)) (λ _. tt))
      (λ _. some_map (IsNameless (k ∷ words)) (λ command. Serial command) (raw_serial (word_text k) words) (serial_spells k words))

  -- the whole line

  abbrev pub raw_line : List Word → Option (ScriptLine × List ℕ)
  raw_line words = whole schema (λ call. Serial (Submit call)) (λ keyword more. nameless (raw_other blocks keyword more)) words

  pub raw_is : (words : List Word) (line : ScriptLine) (name : List ℕ) → IsScriptLine schema blocks words line name → raw_line words ≡ Some (line, name)
  raw_is words line name (SubmitLine call is means) =
      call_is schema (λ call. Serial (Submit call)) (λ keyword more. nameless (raw_other blocks keyword more)) words call name is ∙ (rw means refl)
  raw_is words line name (WorkLine text n is digits none means) = ap raw_line is ∙ (rw (num_is text n digits, none, means) refl)
  raw_is words line name (TickLine text n is digits none means) = ap raw_line is ∙ (rw (num_is text n digits, none, means) refl)
  raw_is words line name (GetLine text n is digits none means) = ap raw_line is ∙ (rw (num_is text n digits, none, means) refl)
  raw_is words line name (ShowLine is none means) = ap raw_line is ∙ (rw (none, means) refl)
  raw_is words line name (JobLine behind job is said none means) = ap raw_line is ∙ (rw (job_is behind job said, none, means) refl)
  raw_is words line name (JobsLine is none means) = ap raw_line is ∙ (rw (none, means) refl)
  raw_is words line name (ReportLine is none means) = ap raw_line is ∙ (rw (none, means) refl)
  raw_is words line name (FailLine text n is digits none means) = ap raw_line is ∙ (rw (num_is text n digits, none, means) refl)
  raw_is words line name (CrashLine text n is digits none means) = ap raw_line is ∙ (rw (num_is text n digits, none, means) refl)
  raw_is words line name (ParLine a b workers turns served is one two none means) = ap raw_line is ∙ (rw (served, num_is a workers one, num_is b turns two, none, means) refl)
  raw_is words line name (ParQuietLine a b workers turns served is one two none means) = ap raw_line is ∙ (rw (served, num_is a workers one, num_is b turns two, none, means) refl)

  raw_spells : (words : List Word) → OfSome (IsOf words) (raw_line words)
  raw_spells [] = tt
  raw_spells (k ∷ words) =
      call_spells schema (λ call. Serial (Submit call)) (IsOf (k ∷ words)) k words (λ call name is. SubmitLine call is refl) (nameless (raw_other blocks (word_text k) words))
      (nameless_some (IsOf (k ∷ words)) (raw_other blocks (word_text k) words) (other_spells k words))

  pub is_raw : (words : List Word) (line : ScriptLine) (name : List ℕ) → raw_line words ≡ Some (line, name) → IsScriptLine schema blocks words line name
  is_raw words line name is = subst (OfSome (IsOf words)) is (raw_spells words)
