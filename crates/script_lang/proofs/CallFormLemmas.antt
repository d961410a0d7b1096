-- The forms of the writing calls, and what their words mean, limits apart: both ways.
use Rattle.std.proofs.Common.{◌≡◌, ℕ, Bool, true, false, cond, Option, Some, None, List, [], ◌∷◌, refl, sym, ap, ◌∙◌, arith}
use Rattle.std.specs.Prelude.{option_map, codes}
use Rattle.std.specs.Str.{bytes_eq}
use Rattle.delf_model.specs.declared.call.Call.{Call}
use Rattle.delf_model.specs.declared.call.Call.TheVariants.{Create, Update, Link, Unlink, Delete, Restore}
use Rattle.delf_model.specs.declared.ids.JobName.{JobName}
use Rattle.delf_model.specs.declared.ids.JobName.TheVariants.{Named, Expiry}
use Rattle.delf_model.specs.declared.schema.Schema.{Schema}
use Rattle.delf_model.specs.Checked.{number_of}
use Rattle.schema_lang.specs.declared.line.Word.{Word}
use Rattle.schema_lang.specs.declared.line.Word.TheVariants.{Plain, Payload}
use Rattle.schema_lang.specs.Rows.{word_text}
use Rattle.schema_lang.specs.Numbers.{is_number, number_value, is_name_word}
use Rattle.schema_lang.specs.Forms.{IsNumber, IsNameWord}
use Rattle.schema_lang.proofs.FormLemmas.{raw_number, number_is, is_number_of, name_is, is_name_of, plain_word, named_word, number_word, some_map}
use Rattle.schema_lang.proofs.ReadWords.{OfSome, some_cond}
use Rattle.script_lang.specs.Parts.{edge_number}
use Rattle.script_lang.specs.LineForms.{IsJob, ByNumber, ByExpiry, IsCall, CreateLine, CreateWithLine, UpdateLine, LinkLine, LinkWithLine, UnlinkLine, DeleteLine, RestoreLine}
use Rattle.script_lang.proofs.JudgeLemmas.{raw_named, pair, name_first, name_last, nameless, renamed}
use Rattle.script_lang.proofs.CallLemmas.{num, raw_job, raw_created, raw_linked, raw_unlinked, raw_create, raw_update, raw_link, raw_unlink, raw_delete, raw_restore, raw_call}

pub cons_same : {x y : Word} {xs ys : List Word} → x ≡ y → xs ≡ ys → x ∷ xs ≡ y ∷ ys
cons_same {y = y} {xs = xs} p q = ap (λ (z : Word). z ∷ xs) p ∙ ap (λ (zs : List Word). y ∷ zs) q

pub num_is : (text : List ℕ) (n : ℕ) → IsNumber text n → raw_number text ≡ Some n
num_is text n is = let parts = number_is text n is in rw (parts.0, parts.1) refl

pub num_some : (P : ℕ → Type 0) (word : Word) → (is_number (word_text word) ≡ true → P (number_value (word_text word))) → OfSome P (num word)
num_some P word each = some_cond P (is_number (word_text word)) (Some (number_value (word_text word))) None each (λ _. tt)

named_some : (P : ℕ × List ℕ → Type 0) (place : List ℕ → ℕ) (word : Word) → (is_name_word (word_text word) ≡ true → P (place (word_text word), word_text word)) → OfSome P (raw_named place (word_text word))
named_some P place word each = some_cond P (is_name_word (word_text word)) (Some (place (word_text word), word_text word)) None each (λ _. tt)

pub renamed_some : {A B : Type 0} (P : B × List ℕ → Type 0) (f : A → B) (m : Option (A × List ℕ)) → OfSome (λ c. P (f c.0, c.1)) m → OfSome P (renamed f m)
renamed_some P f None is = tt
renamed_some P f (Some c) is = is

pub nameless_some : {A : Type 0} (P : A × List ℕ → Type 0) (m : Option A) → OfSome (λ x. P (x, [])) m → OfSome P (nameless m)
nameless_some P None is = tt
nameless_some P (Some x) is = is

pub pair_some : {A B : Type 0} (P : A × B → Type 0) (m : Option A) (n : Option B) → OfSome (λ x. OfSome (λ y. P (x, y)) n) m → OfSome P (pair m n)
pair_some P None n is = tt
pair_some P (Some x) None is = tt
pair_some P (Some x) (Some y) is = is

first_some : {A B : Type 0} (P : (A × B) × List ℕ → Type 0) (m : Option (A × List ℕ)) (n : Option B) → OfSome (λ c. OfSome (λ y. P ((c.0, y), c.1)) n) m → OfSome P (name_first m n)
first_some P None n is = tt
first_some P (Some x) None is = tt
first_some P (Some x) (Some y) is = is

last_some : {A B : Type 0} (P : (A × B) × List ℕ → Type 0) (m : Option A) (n : Option (B × List ℕ)) → OfSome (λ x. OfSome (λ c. P ((x, c.0), c.1)) n) m → OfSome P (name_last m n)
last_some P None n is = tt
last_some P (Some x) None is = tt
last_some P (Some x) (Some y) is = is

-- jobs

pub job_is : (words : List Word) (job : JobName) → IsJob words job → raw_job words ≡ Some job
job_is words job (ByNumber text n is digits means) = ap raw_job is ∙ (rw (num_is text n digits, means) refl)
job_is words job (ByExpiry text id is digits means) = ap raw_job is ∙ (rw (num_is text id digits, means) refl)

pub job_spells : (words : List Word) → OfSome (IsJob words) (raw_job words)
job_spells [] = tt
job_spells (a ∷ []) =
    some_map (IsJob (a ∷ [])) (λ n. Named n) (num a)
    (num_some (λ n. IsJob (a ∷ []) (Named n)) a (λ n. ByNumber (word_text a) (number_value (word_text a)) (cons_same (number_word a n) refl) (is_number_of (word_text a) n) refl))
job_spells (a ∷ b ∷ []) =
    some_cond (IsJob (a ∷ b ∷ [])) (bytes_eq (word_text a) (codes "expiry")) (option_map (λ id. Expiry id) (num b)) None
    (λ expiry. some_map (IsJob (a ∷ b ∷ [])) (λ id. Expiry id) (num b)
    (num_some (λ n. IsJob (a ∷ b ∷ []) (Expiry n)) b (λ n. ByExpiry (word_text b) (number_value (word_text b)) (cons_same (plain_word a (codes "expiry") (omega arith) expiry) (cons_same (number_word b n) refl)) (is_number_of (word_text b) n) refl)))
    (λ _. tt)
job_spells (a ∷ b ∷ c ∷ more) = tt

module _ (schema : Schema) where
  -- the words of a line, where one keyword begins a call and others may begin something else
  module _ {A : Type 0} (embed : Call → A) (other : List ℕ → List Word → Option (A × List ℕ)) where
    abbrev pub whole : List Word → Option (A × List ℕ)
    whole [] = None
    whole (keyword ∷ words) = raw_call schema embed (word_text keyword) words (other (word_text keyword) words)

    pub call_is : (words : List Word) (call : Call) (name : List ℕ) → IsCall schema words call name → whole words ≡ Some (embed call, name)
    call_is words call name (CreateLine text id is digits named means) = ap whole is ∙ (rw (num_is text id digits, name_is name named, means) refl)
    call_is words call name (CreateWithLine text id payload is digits named means) = ap whole is ∙ (rw (num_is text id digits, name_is name named, means) refl)
    call_is words call name (UpdateLine text id payload is digits none means) = ap whole is ∙ (rw (num_is text id digits, none, means) refl)
    call_is words call name (LinkLine a b source target is named one two means) = ap whole is ∙ (rw (name_is name named, num_is a source one, num_is b target two, means) refl)
    call_is words call name (LinkWithLine a b source target payload is named one two means) = ap whole is ∙ (rw (name_is name named, num_is a source one, num_is b target two, means) refl)
    call_is words call name (UnlinkLine a b c source target job is named one two three means) = ap whole is ∙ (rw (name_is name named, num_is a source one, num_is b target two, num_is c job three, means) refl)
    call_is words call name (DeleteLine a c id job is one two none means) = ap whole is ∙ (rw (num_is a id one, num_is c job two, none, means) refl)
    call_is words call name (RestoreLine behind job is said none means) = ap whole is ∙ (rw (job_is behind job said, none, means) refl)

  abbrev IsOf : List Word → Call × List ℕ → Type 0
  IsOf words c = IsCall schema words c.0 c.1

  create_spells : (k : Word) (words : List Word) → k ≡ Plain (codes "create") → OfSome (IsOf (k ∷ words)) (raw_create schema words)
  create_spells k [] is = tt
  create_spells k (a ∷ []) is = tt
  create_spells k (a ∷ b ∷ []) is =
      renamed_some (IsOf (k ∷ a ∷ b ∷ [])) (λ found. Create found.1 found.0 []) (name_last (num a) (raw_named (number_of schema.objects) (word_text b)))
      (last_some (λ (c : (ℕ × ℕ) × List ℕ). IsOf (k ∷ a ∷ b ∷ []) (Create c.0.1 c.0.0 [], c.1)) (num a) (raw_named (number_of schema.objects) (word_text b))
      (num_some _ a (λ n. named_some _ (number_of schema.objects) b (λ m.
      CreateLine (word_text a) (number_value (word_text a)) (cons_same is (cons_same (number_word a n) (cons_same (named_word b m) refl))) (is_number_of (word_text a) n) (is_name_of (word_text b) m) refl))))
  create_spells k (a ∷ b ∷ Plain text ∷ more) is = tt
  create_spells k (a ∷ b ∷ Payload payload ∷ []) is =
      renamed_some (IsOf (k ∷ a ∷ b ∷ Payload payload ∷ [])) (λ found. Create found.1 found.0 payload) (name_last (num a) (raw_named (number_of schema.objects) (word_text b)))
      (last_some (λ (c : (ℕ × ℕ) × List ℕ). IsOf (k ∷ a ∷ b ∷ Payload payload ∷ []) (Create c.0.1 c.0.0 payload, c.1)) (num a) (raw_named (number_of schema.objects) (word_text b))
      (num_some _ a (λ n. named_some _ (number_of schema.objects) b (λ m.
      CreateWithLine (word_text a) (number_value (word_text a)) payload (cons_same is (cons_same (number_word a n) (cons_same (named_word b m) refl))) (is_number_of (word_text a) n) (is_name_of (word_text b) m) refl))))
  create_spells k (a ∷ b ∷ Payload payload ∷ c ∷ more) is = tt

  update_spells : (k : Word) (words : List Word) → k ≡ Plain (codes "update") → OfSome (IsOf (k ∷ words)) (raw_update schema words)
  update_spells k [] is = tt
  update_spells k (a ∷ []) is = tt
  update_spells k (a ∷ Plain text ∷ more) is = tt
  update_spells k (a ∷ Payload payload ∷ []) is =
      nameless_some (IsOf (k ∷ a ∷ Payload payload ∷ [])) (option_map (λ id. Update id payload) (num a))
      (some_map (λ call. IsOf (k ∷ a ∷ Payload payload ∷ []) (call, [])) (λ id. Update id payload) (num a)
      (num_some _ a (λ n. UpdateLine (word_text a) (number_value (word_text a)) payload (cons_same is (cons_same (number_word a n) refl)) (is_number_of (word_text a) n) refl refl)))
  update_spells k (a ∷ Payload payload ∷ b ∷ more) is = tt

  link_spells : (k : Word) (words : List Word) → k ≡ Plain (codes "link") → OfSome (IsOf (k ∷ words)) (raw_link schema words)
  link_spells k [] is = tt
  link_spells k (a ∷ []) is = tt
  link_spells k (a ∷ b ∷ []) is = tt
  link_spells k (a ∷ b ∷ c ∷ []) is =
      renamed_some (IsOf (k ∷ a ∷ b ∷ c ∷ [])) (λ found. Link found.0 found.1.0 found.1.1 []) (name_first (raw_named (edge_number schema.edges) (word_text a)) (pair (num b) (num c)))
      (first_some (λ (d : (ℕ × (ℕ × ℕ)) × List ℕ). IsOf (k ∷ a ∷ b ∷ c ∷ []) (Link d.0.0 d.0.1.0 d.0.1.1 [], d.1)) (raw_named (edge_number schema.edges) (word_text a)) (pair (num b) (num c))
      (named_some _ (edge_number schema.edges) a (λ m. pair_some _ (num b) (num c) (num_some _ b (λ n. num_some _ c (λ p.
      LinkLine (word_text b) (word_text c) (number_value (word_text b)) (number_value (word_text c)) (cons_same is (cons_same (named_word a m) (cons_same (number_word b n) (cons_same (number_word c p) refl))))
      (is_name_of (word_text a) m) (is_number_of (word_text b) n) (is_number_of (word_text c) p) refl))))))
  link_spells k (a ∷ b ∷ c ∷ Plain text ∷ more) is = tt
  link_spells k (a ∷ b ∷ c ∷ Payload payload ∷ []) is =
      renamed_some (IsOf (k ∷ a ∷ b ∷ c ∷ Payload payload ∷ [])) (λ found. Link found.0 found.1.0 found.1.1 payload) (name_first (raw_named (edge_number schema.edges) (word_text a)) (pair (num b) (num c)))
      (first_some (λ (d : (ℕ × (ℕ × ℕ)) × List ℕ). IsOf (k ∷ a ∷ b ∷ c ∷ Payload payload ∷ []) (Link d.0.0 d.0.1.0 d.0.1.1 payload, d.1)) (raw_named (edge_number schema.edges) (word_text a)) (pair (num b) (num c))
      (named_some _ (edge_number schema.edges) a (λ m. pair_some _ (num b) (num c) (num_some _ b (λ n. num_some _ c (λ p.
      LinkWithLine (word_text b) (word_text c) (number_value (word_text b)) (number_value (word_text c)) payload (cons_same is (cons_same (named_word a m) (cons_same (number_word b n) (cons_same (number_word c p) refl))))
      (is_name_of (word_text a) m) (is_number_of (word_text b) n) (is_number_of (word_text c) p) refl))))))
  link_spells k (a ∷ b ∷ c ∷ Payload payload ∷ d ∷ more) is = tt

  unlink_spells : (k : Word) (words : List Word) → k ≡ Plain (codes "unlink") → OfSome (IsOf (k ∷ words)) (raw_unlink schema words)
  unlink_spells k [] is = tt
  unlink_spells k (a ∷ []) is = tt
  unlink_spells k (a ∷ b ∷ []) is = tt
  unlink_spells k (a ∷ b ∷ c ∷ []) is = tt
  unlink_spells k (a ∷ b ∷ c ∷ d ∷ []) is = tt
  unlink_spells k (a ∷ b ∷ c ∷ d ∷ e ∷ []) is =
      some_cond (IsOf (k ∷ a ∷ b ∷ c ∷ d ∷ e ∷ [])) (bytes_eq (word_text d) (codes "job")) (raw_unlinked schema a b c e) None
      (λ job. renamed_some (IsOf (k ∷ a ∷ b ∷ c ∷ d ∷ e ∷ [])) (λ found. Unlink found.0 found.1.0 found.1.1.0 found.1.1.1) (name_first (raw_named (edge_number schema.edges) (word_text a)) (pair (num b) (pair (num c) (num e))))
      (first_some (λ (f : (ℕ × (ℕ × (ℕ × ℕ))) × List ℕ). IsOf (k ∷ a ∷ b ∷ c ∷ d ∷ e ∷ []) (Unlink f.0.0 f.0.1.0 f.0.1.1.0 f.0.1.1.1, f.1)) (raw_named (edge_number schema.edges) (word_text a)) (pair (num b) (pair (num c) (num e)))
      (named_some _ (edge_number schema.edges) a (λ m. pair_some _ (num b) (pair (num c) (num e)) (num_some _ b (λ n. pair_some _ (num c) (num e) (num_some _ c (λ p. num_some _ e (λ q.
      UnlinkLine (word_text b) (word_text c) (word_text e) (number_value (word_text b)) (number_value (word_text c)) (number_value (word_text e))
      (cons_same is (cons_same (named_word a m) (cons_same (number_word b n) (cons_same (number_word c p) (cons_same (plain_word d (codes "job") (omega arith) job) (cons_same (number_word e q) refl))))))
      (is_name_of (word_text a) m) (is_number_of (word_text b) n) (is_number_of (word_text c) p) (is_number_of (word_text e) q) refl)))))))))
      (λ _. tt)
  unlink_spells k (a ∷ b ∷ c ∷ d ∷ e ∷ f ∷ more) is = tt

  delete_spells : (k : Word) (words : List Word) → k ≡ Plain (codes "delete") → OfSome (IsOf (k ∷ words)) (raw_delete schema words)
  delete_spells k [] is = tt
  delete_spells k (a ∷ []) is = tt
  delete_spells k (a ∷ b ∷ []) is = tt
  delete_spells k (a ∷ b ∷ c ∷ []) is =
      some_cond (IsOf (k ∷ a ∷ b ∷ c ∷ [])) (bytes_eq (word_text b) (codes "job")) (nameless (option_map (λ found. Delete found.0 found.1) (pair (num a) (num c)))) None
      (λ job. nameless_some (IsOf (k ∷ a ∷ b ∷ c ∷ [])) (option_map (λ found. Delete found.0 found.1) (pair (num a) (num c)))
      (some_map (λ call. IsOf (k ∷ a ∷ b ∷ c ∷ []) (call, [])) (λ found. Delete found.0 found.1) (pair (num a) (num c))
      (pair_some _ (num a) (num c) (num_some _ a (λ n. num_some _ c (λ p.
      DeleteLine (word_text a) (word_text c) (number_value (word_text a)) (number_value (word_text c))
      (cons_same is (cons_same (number_word a n) (cons_same (plain_word b (codes "job") (omega arith) job) (cons_same (number_word c p) refl)))) (is_number_of (word_text a) n) (is_number_of (word_text c) p) refl refl))))))
      (λ _. tt)
  delete_spells k (a ∷ b ∷ c ∷ d ∷ more) is = tt

  some_more : {A : Type 0} (P Q : A → Type 0) (m : Option A) → ((x : A) → P x → Q x) → OfSome P m → OfSome Q m
  some_more P Q None more is = tt
  some_more P Q (Some x) more is = more x is

  restore_spells : (k : Word) (words : List Word) → k ≡ Plain (codes "restore") → OfSome (IsOf (k ∷ words)) (raw_restore schema words)
  restore_spells k words is =
      nameless_some (IsOf (k ∷ words)) (option_map (λ job. Restore job) (raw_job words))
      (some_map (λ call. IsOf (k ∷ words) (call, [])) (λ job. Restore job) (raw_job words)
      (some_more (IsJob words) (λ job. IsOf (k ∷ words) (Restore job, [])) (raw_job words) (λ job said. RestoreLine words job (cons_same is refl) said refl refl) (job_spells words)))

  module _ {A : Type 0} (embed : Call → A) (P : A × List ℕ → Type 0) (k : Word) (words : List Word) (each : (call : Call) (name : List ℕ) → IsCall schema (k ∷ words) call name → P (embed call, name)) where
    at_call : (m : Option (Call × List ℕ)) → OfSome (IsOf (k ∷ words)) m → OfSome P (renamed embed m)
    at_call m is = renamed_some P embed m (some_more (IsOf (k ∷ words)) (λ c. P (embed c.0, c.1)) m (λ c found. each c.0 c.1 found) is)

    pub call_spells : (other : Option (A × List ℕ)) → OfSome P other → OfSome P (raw_call schema embed (word_text k) words other)
    call_spells other is =
        some_cond P (bytes_eq (word_text k) (codes "create")) _ _ (λ e. at_call (raw_create schema words) (create_spells k words (plain_word k (codes "create") (omega arith) e)))
        (λ _. some_cond P (bytes_eq (word_text k) (codes "update")) _ _ (λ e. at_call (raw_update schema words) (update_spells k words (plain_word k (codes "update") (omega arith) e)))
        (λ _. some_cond P (bytes_eq (word_text k) (codes "link")) _ _ (λ e. at_call (raw_link schema words) (link_spells k words (plain_word k (codes "link") (omega arith) e)))
        (λ _. some_cond P (bytes_eq (word_text k) (codes "unlink")) _ _ (λ e. at_call (raw_unlink schema words) (unlink_spells k words (plain_word k (codes "unlink") (omega arith) e)))
        (λ _. some_cond P (bytes_eq (word_text k) (codes "delete")) _ _ (λ e. at_call (raw_delete schema words) (delete_spells k words (plain_word k (codes "delete") (omega arith) e)))
        (λ _. some_cond P (bytes_eq (word_text k) (codes "restore")) _ other (λ e. at_call (raw_restore schema words) (restore_spells k words (plain_word k (codes "restore") (omega arith) e)))
        (λ _. is))))))
