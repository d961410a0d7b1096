-- The lines of the writing calls: their forms, and what is read of them.
use Rattle.std.proofs.Common.{◌≡◌, ℕ, ◌<◌, ◌≤◌, Bool, true, false, cond, Option, Some, None, Result, Ok, Err, List, [], ◌∷◌, length, refl, sym, ap, subst, ◌∙◌, arith}
use Rattle.std.specs.Prelude.{option_map, codes}
use Rattle.std.specs.Str.{bytes_eq}
use Rattle.delf_model.specs.declared.call.Call.{Call}
use Rattle.delf_model.specs.declared.call.Call.TheVariants.{Create, Update, Link, Unlink, Delete, Restore}
use Rattle.delf_model.specs.declared.ids.JobName.{JobName}
use Rattle.delf_model.specs.declared.ids.JobName.TheVariants.{Named, Expiry}
use Rattle.delf_model.specs.declared.schema.Schema.{Schema}
use Rattle.delf_model.specs.Checked.{number_of}
use Rattle.schema_lang.specs.declared.line.Word.{Word}
use Rattle.schema_lang.specs.declared.line.Word.TheVariants.{Plain, Payload}
use Rattle.schema_lang.specs.Rows.{word_text}
use Rattle.schema_lang.specs.Numbers.{is_number, number_value, is_name_word}
use Rattle.schema_lang.specs.Forms.{IsNumber, IsNameWord}
use Rattle.schema_lang.proofs.FormLemmas.{raw_number, number_is, is_number_of, name_is, is_name_of, plain_word, named_word, number_word}
use Rattle.schema_lang.proofs.ReadWords.{OfSome, some_cond}
use Rattle.script_lang.specs.declared.fault.Wrong.{Wrong}
use Rattle.script_lang.specs.declared.fault.Wrong.TheVariants.{Malformed}
use Rattle.script_lang.specs.Parts.{both, mapped, number_part, id_part, job_part, type_part, edge_part, edge_number}
use Rattle.script_lang.specs.Calls.{created, create_line, update_line, linked, link_line, unlinked, unlink_line, delete_line, job_name, call_line}
use Rattle.script_lang.specs.TypeNumbers.{CallNames}
use Rattle.script_lang.specs.LineForms.{IsBetween, IsId, IsJobNumber, IsJobWithin, IsCallWithin, IsShort}
use Rattle.script_lang.proofs.JudgeLemmas.{Counted, Called, number_counted, raw_named, Shortly, named_called, pair, counted_both, name_first, first_called, name_last, last_called, nameless, renamed, counted_mapped, counted_called, called_mapped, counted_if, called_if}

abbrev pub num : Word → Option ℕ
num word = raw_number (word_text word)

abbrev pub raw_job : List Word → Option JobName
raw_job [] = None
raw_job (a ∷ []) = option_map (λ n. Named n) (num a)
raw_job (a ∷ b ∷ []) = cond (bytes_eq (word_text a) (codes "expiry")) (option_map (λ id. Expiry id) (num b)) None
raw_job (a ∷ b ∷ c ∷ more) = None

pub job_counted : (words : List Word) → Counted IsJobWithin (raw_job words) (job_name words)
job_counted [] = refl
job_counted (a ∷ []) = counted_mapped IsJobNumber IsJobWithin (λ n. Named n) (λ n fits. fits) (λ n fits. fits) (num a) (job_part a) (number_counted 0 4294967295 a)
job_counted (a ∷ b ∷ []) =
    counted_if IsJobWithin (bytes_eq (word_text a) (codes "expiry")) (option_map (λ id. Expiry id) (num b)) None (mapped (λ id. Expiry id) (id_part b)) (Err Malformed)
    (counted_mapped IsId IsJobWithin (λ id. Expiry id) (λ n fits. fits) (λ n fits. fits) (num b) (id_part b) (number_counted 1 999999999999 b)) refl
job_counted (a ∷ b ∷ c ∷ more) = refl

abbrev pub CallFits : Call → List ℕ → Type 0
CallFits call name = IsCallWithin call × IsShort name

pub no_name : IsShort []
no_name = omega arith

module _ (schema : Schema) where
  abbrev pub raw_created : Word → Word → List ℕ → Option (Call × List ℕ)
  raw_created id kind payload = renamed (λ found. Create found.1 found.0 payload) (name_last (num id) (raw_named (number_of schema.objects) (word_text kind)))

  abbrev pub raw_linked : Word → Word → Word → List ℕ → Option (Call × List ℕ)
  raw_linked edge source target payload =
      renamed (λ found. Link found.0 found.1.0 found.1.1 payload) (name_first (raw_named (edge_number schema.edges) (word_text edge)) (pair (num source) (num target)))

  abbrev pub raw_unlinked : Word → Word → Word → Word → Option (Call × List ℕ)
  raw_unlinked edge source target job =
      renamed (λ found. Unlink found.0 found.1.0 found.1.1.0 found.1.1.1) (name_first (raw_named (edge_number schema.edges) (word_text edge)) (pair (num source) (pair (num target) (num job))))

  created_called : (id kind : Word) (payload : List ℕ) → Called CallFits (CallNames schema) (raw_created id kind payload) (created schema id kind payload)
  created_called id kind payload =
      called_mapped (λ (found : ℕ × ℕ) name. IsId found.0 × IsShort name) (λ (found : ℕ × ℕ). found.1 < length schema.objects) CallFits (CallNames schema)
      (λ found. Create found.1 found.0 payload) (λ found name fits. fits) (λ found name fits. fits) (λ found known. known) (λ found known. known)
      (name_last (num id) (raw_named (number_of schema.objects) (word_text kind))) (both (id_part id) (type_part schema kind))
      (last_called IsId Shortly (λ (at : ℕ). at < length schema.objects) (num id) (raw_named (number_of schema.objects) (word_text kind)) (id_part id) (type_part schema kind)
      (number_counted 1 999999999999 id) (named_called (number_of schema.objects) (length schema.objects) (word_text kind)))

  linked_called : (edge source target : Word) (payload : List ℕ) → Called CallFits (CallNames schema) (raw_linked edge source target payload) (linked schema edge source target payload)
  linked_called edge source target payload =
      called_mapped (λ (found : ℕ × (ℕ × ℕ)) name. IsShort name × (IsId found.1.0 × IsId found.1.1)) (λ (found : ℕ × (ℕ × ℕ)). found.0 < length schema.edges) CallFits (CallNames schema)
      (λ found. Link found.0 found.1.0 found.1.1 payload) (λ found name fits. (fits.1, fits.0)) (λ found name fits. (fits.1, fits.0)) (λ found known. known) (λ found known. known)
      (name_first (raw_named (edge_number schema.edges) (word_text edge)) (pair (num source) (num target))) (both (edge_part schema edge) (both (id_part source) (id_part target)))
      (first_called Shortly (λ (at : ℕ). at < length schema.edges) (λ (ends : ℕ × ℕ). IsId ends.0 × IsId ends.1) (raw_named (edge_number schema.edges) (word_text edge)) (pair (num source) (num target))
      (edge_part schema edge) (both (id_part source) (id_part target)) (named_called (edge_number schema.edges) (length schema.edges) (word_text edge))
      (counted_both IsId IsId (num source) (num target) (id_part source) (id_part target) (number_counted 1 999999999999 source) (number_counted 1 999999999999 target)))

  unlinked_called : (edge source target job : Word) → Called CallFits (CallNames schema) (raw_unlinked edge source target job) (unlinked schema edge source target job)
  unlinked_called edge source target job =
      called_mapped (λ (found : ℕ × (ℕ × (ℕ × ℕ))) name. IsShort name × (IsId found.1.0 × (IsId found.1.1.0 × IsJobNumber found.1.1.1))) (λ (found : ℕ × (ℕ × (ℕ × ℕ))). found.0 < length schema.edges) CallFits (CallNames schema)
      (λ found. Unlink found.0 found.1.0 found.1.1.0 found.1.1.1) (λ found name fits. (fits.1, fits.0)) (λ found name fits. (fits.1, fits.0)) (λ found known. known) (λ found known. known)
      (name_first (raw_named (edge_number schema.edges) (word_text edge)) (pair (num source) (pair (num target) (num job)))) (both (edge_part schema edge) (both (id_part source) (both (id_part target) (job_part job))))
      (first_called Shortly (λ (at : ℕ). at < length schema.edges) (λ (ends : ℕ × (ℕ × ℕ)). IsId ends.0 × (IsId ends.1.0 × IsJobNumber ends.1.1)) (raw_named (edge_number schema.edges) (word_text edge)) (pair (num source) (pair (num target) (num job)))
      (edge_part schema edge) (both (id_part source) (both (id_part target) (job_part job))) (named_called (edge_number schema.edges) (length schema.edges) (word_text edge))
      (counted_both IsId (λ (ends : ℕ × ℕ). IsId ends.0 × IsJobNumber ends.1) (num source) (pair (num target) (num job)) (id_part source) (both (id_part target) (job_part job)) (number_counted 1 999999999999 source)
      (counted_both IsId IsJobNumber (num target) (num job) (id_part target) (job_part job) (number_counted 1 999999999999 target) (number_counted 0 4294967295 job))))

  abbrev pub raw_create : List Word → Option (Call × List ℕ)
  raw_create (a ∷ b ∷ []) = raw_created a b []
  raw_create (a ∷ b ∷ Payload payload ∷ []) = raw_created a b payload
  raw_create words = None

  pub create_called : (words : List Word) → Called CallFits (CallNames schema) (raw_create words) (create_line schema words)
  create_called [] = refl
  create_called (a ∷ []) = refl
  create_called (a ∷ b ∷ []) = created_called a b []
  create_called (a ∷ b ∷ Plain text ∷ more) = refl
  create_called (a ∷ b ∷ Payload payload ∷ []) = created_called a b payload
  create_called (a ∷ b ∷ Payload payload ∷ c ∷ more) = refl

  abbrev pub raw_update : List Word → Option (Call × List ℕ)
  raw_update (a ∷ Payload payload ∷ []) = nameless (option_map (λ id. Update id payload) (num a))
  raw_update words = None

  pub update_called : (words : List Word) → Called CallFits (CallNames schema) (raw_update words) (update_line words)
  update_called [] = refl
  update_called (a ∷ []) = refl
  update_called (a ∷ Plain text ∷ more) = refl
  update_called (a ∷ Payload payload ∷ []) =
      counted_called IsId CallFits (CallNames schema) (λ id. Update id payload) (λ id fits. (fits, no_name)) (λ id fits. fits.0) (λ id. tt) (num a) (id_part a) (number_counted 1 999999999999 a)
  update_called (a ∷ Payload payload ∷ b ∷ more) = refl

  abbrev pub raw_link : List Word → Option (Call × List ℕ)
  raw_link (a ∷ b ∷ c ∷ []) = raw_linked a b c []
  raw_link (a ∷ b ∷ c ∷ Payload payload ∷ []) = raw_linked a b c payload
  raw_link words = None

  pub link_called : (words : List Word) → Called CallFits (CallNames schema) (raw_link words) (link_line schema words)
  link_called [] = refl
  link_called (a ∷ []) = refl
  link_called (a ∷ b ∷ []) = refl
  link_called (a ∷ b ∷ c ∷ []) = linked_called a b c []
  link_called (a ∷ b ∷ c ∷ Plain text ∷ more) = refl
  link_called (a ∷ b ∷ c ∷ Payload payload ∷ []) = linked_called a b c payload
  link_called (a ∷ b ∷ c ∷ Payload payload ∷ d ∷ more) = refl

  abbrev pub raw_unlink : List Word → Option (Call × List ℕ)
  raw_unlink (a ∷ b ∷ c ∷ d ∷ e ∷ []) = cond (bytes_eq (word_text d) (codes "job")) (raw_unlinked a b c e) None
  raw_unlink words = None

  pub unlink_called : (words : List Word) → Called CallFits (CallNames schema) (raw_unlink words) (unlink_line schema words)
  unlink_called [] = refl
  unlink_called (a ∷ []) = refl
  unlink_called (a ∷ b ∷ []) = refl
  unlink_called (a ∷ b ∷ c ∷ []) = refl
  unlink_called (a ∷ b ∷ c ∷ d ∷ []) = refl
  unlink_called (a ∷ b ∷ c ∷ d ∷ e ∷ []) =
      called_if CallFits (CallNames schema) (bytes_eq (word_text d) (codes "job")) (raw_unlinked a b c e) None (unlinked schema a b c e) (Err Malformed) (unlinked_called a b c e) refl
  unlink_called (a ∷ b ∷ c ∷ d ∷ e ∷ f ∷ more) = refl

  abbrev pub raw_delete : List Word → Option (Call × List ℕ)
  raw_delete (a ∷ b ∷ c ∷ []) = cond (bytes_eq (word_text b) (codes "job")) (nameless (option_map (λ found. Delete found.0 found.1) (pair (num a) (num c)))) None
  raw_delete words = None

  pub delete_called : (words : List Word) → Called CallFits (CallNames schema) (raw_delete words) (delete_line words)
  delete_called [] = refl
  delete_called (a ∷ []) = refl
  delete_called (a ∷ b ∷ []) = refl
  delete_called (a ∷ b ∷ c ∷ []) =
      called_if CallFits (CallNames schema) (bytes_eq (word_text b) (codes "job")) (nameless (option_map (λ found. Delete found.0 found.1) (pair (num a) (num c)))) None (mapped (λ found. Delete found.0 found.1) (both (id_part a) (job_part c))) (Err Malformed)
      (counted_called (λ (found : ℕ × ℕ). IsId found.0 × IsJobNumber found.1) CallFits (CallNames schema) (λ found. Delete found.0 found.1) (λ found fits. (fits, no_name)) (λ found fits. fits.0) (λ found. tt)
      (pair (num a) (num c)) (both (id_part a) (job_part c)) (counted_both IsId IsJobNumber (num a) (num c) (id_part a) (job_part c) (number_counted 1 999999999999 a) (number_counted 0 4294967295 c))) refl
  delete_called (a ∷ b ∷ c ∷ d ∷ more) = refl

  abbrev pub raw_restore : List Word → Option (Call × List ℕ)
  raw_restore words = nameless (option_map (λ job. Restore job) (raw_job words))

  restore_called : (words : List Word) → Called CallFits (CallNames schema) (raw_restore words) (mapped (λ job. Restore job) (job_name words))
  restore_called words =
      counted_called IsJobWithin CallFits (CallNames schema) (λ job. Restore job) (λ job fits. (fits, no_name)) (λ job fits. fits.0) (λ job. tt) (raw_job words) (job_name words) (job_counted words)

  -- the call of a line, or what else the line says
  module _ {A : Type 0} (embed : Call → A) where
    abbrev pub raw_call : List ℕ → List Word → Option (A × List ℕ) → Option (A × List ℕ)
    raw_call keyword words other =
        cond (bytes_eq keyword (codes "create")) (renamed embed (raw_create words))
        (cond (bytes_eq keyword (codes "update")) (renamed embed (raw_update words))
        (cond (bytes_eq keyword (codes "link")) (renamed embed (raw_link words))
        (cond (bytes_eq keyword (codes "unlink")) (renamed embed (raw_unlink words))
        (cond (bytes_eq keyword (codes "delete")) (renamed embed (raw_delete words))
        (cond (bytes_eq keyword (codes "restore")) (renamed embed (raw_restore words)) other)))))

    module _ (F : A → List ℕ → Type 0) (K : A → Type 0) (join : Result (Option Call) Wrong → Result A Wrong → Result A Wrong)
        (joined : (r : Result Call Wrong) (s : Result A Wrong) → join (mapped (λ call. Some call) r) s ≡ mapped embed r) (apart : (s : Result A Wrong) → join (Ok None) s ≡ s)
        (to : (call : Call) (name : List ℕ) → CallFits call name → F (embed call) name) (back : (call : Call) (name : List ℕ) → F (embed call) name → CallFits call name)
        (know : (call : Call) → CallNames schema call → K (embed call)) (forget : (call : Call) → K (embed call) → CallNames schema call) where
      chain : (s : Result A Wrong) (b : Bool) (m : Option (Call × List ℕ)) (others : Option (A × List ℕ)) (r : Result Call Wrong) (rest : Result (Option Call) Wrong)
          → Called CallFits (CallNames schema) m r → Called F K others (join rest s) → Called F K (cond b (renamed embed m) others) (join (cond b (mapped (λ call. Some call) r) rest) s)
      chain s true m others r rest is then = subst (Called F K (renamed embed m)) (sym (joined r s)) (called_mapped CallFits (CallNames schema) F K embed to back know forget m r is)
      chain s false m others r rest is then = then

      restored : (words : List Word) → mapped (λ name. Some (Restore name)) (job_name words) ≡ mapped (λ call. Some call) (mapped (λ job. Restore job) (job_name words))
      restored words = twice (job_name words)
        where
          twice : (r : Result JobName Wrong) → mapped (λ name. Some (Restore name)) r ≡ mapped (λ call. Some call) (mapped (λ job. Restore job) r)
          twice (Ok name) = refl
          twice (Err wrong) = refl

      pub call_called : (keyword : List ℕ) (words : List Word) (other : Option (A × List ℕ)) (s : Result A Wrong) → Called F K other s → Called F K (raw_call keyword words other) (join (call_line schema keyword words) s)
      call_called keyword words other s is =
          chain s (bytes_eq keyword (codes "create")) (raw_create words) _ (create_line schema words) _ (create_called words)
          (chain s (bytes_eq keyword (codes "update")) (raw_update words) _ (update_line words) _ (update_called words)
          (chain s (bytes_eq keyword (codes "link")) (raw_link words) _ (link_line schema words) _ (link_called words)
          (chain s (bytes_eq keyword (codes "unlink")) (raw_unlink words) _ (unlink_line schema words) _ (unlink_called words)
          (chain s (bytes_eq keyword (codes "delete")) (raw_delete words) _ (delete_line words) _ (delete_called words)
          (subst (λ (r : Result (Option Call) Wrong). Called F K (cond (bytes_eq keyword (codes "restore")) (renamed embed (raw_restore words)) other) (join (cond (bytes_eq keyword (codes "restore")) r (Ok None)) s)) (sym (restored words))
          (chain s (bytes_eq keyword (codes "restore")) (raw_restore words) other (mapped (λ job. Restore job) (job_name words)) (Ok None) (restore_called words) (subst (Called F K other) (sym (apart s)) is)))))))
