-- The lines of the writing calls: what the words behind the first one mean.
use Rattle.std.specs.Prelude.{ℕ, Option, Some, None, Result, Ok, Err, List, [], ◌∷◌, if◌then◌else◌, codes}
use Rattle.std.specs.Str.{bytes_eq}
use Rattle.delf_model.specs.declared.call.Call.{Call}
use Rattle.delf_model.specs.declared.call.Call.TheVariants.{Create, Update, Link, Unlink, Delete, Restore}
use Rattle.delf_model.specs.declared.ids.JobName.{JobName}
use Rattle.delf_model.specs.declared.ids.JobName.TheVariants.{Named, Expiry}
use Rattle.delf_model.specs.declared.schema.Schema.{Schema}
use Rattle.schema_lang.specs.declared.line.Word.{Word}
use Rattle.schema_lang.specs.declared.line.Word.TheVariants.{Payload}
use Rattle.schema_lang.specs.Rows.{word_text}
use Rattle.script_lang.specs.declared.fault.Wrong.{Wrong}
use Rattle.script_lang.specs.declared.fault.Wrong.TheVariants.{Malformed}
use Rattle.script_lang.specs.Parts.{both, mapped, id_part, job_part, type_part, edge_part}

-- `create ID TYPE`, with a payload or without
abbrev pub created : Schema → Word → Word → List ℕ → Result Call Wrong
created schema id kind payload = mapped (λ found. Create found.1 found.0 payload) (both (id_part id) (type_part schema kind))

abbrev pub create_line : Schema → List Word → Result Call Wrong
create_line schema (id ∷ kind ∷ []) = created schema id kind []
create_line schema (id ∷ kind ∷ Payload payload ∷ []) = created schema id kind payload
create_line schema words = Err Malformed

-- `update ID PAYLOAD`
abbrev pub update_line : List Word → Result Call Wrong
update_line (id ∷ Payload payload ∷ []) = mapped (λ id. Update id payload) (id_part id)
update_line words = Err Malformed

-- `link EDGE A B`, with a payload or without
abbrev pub linked : Schema → Word → Word → Word → List ℕ → Result Call Wrong
linked schema edge source target payload =
    mapped (λ found. Link found.0 found.1.0 found.1.1 payload) (both (edge_part schema edge) (both (id_part source) (id_part target)))

abbrev pub link_line : Schema → List Word → Result Call Wrong
link_line schema (edge ∷ source ∷ target ∷ []) = linked schema edge source target []
link_line schema (edge ∷ source ∷ target ∷ Payload payload ∷ []) = linked schema edge source target payload
link_line schema words = Err Malformed

-- `unlink EDGE A B job N`
abbrev pub unlinked : Schema → Word → Word → Word → Word → Result Call Wrong
unlinked schema edge source target name =
    mapped (λ found. Unlink found.0 found.1.0 found.1.1.0 found.1.1.1)
    (both (edge_part schema edge) (both (id_part source) (both (id_part target) (job_part name))))

abbrev pub unlink_line : Schema → List Word → Result Call Wrong
unlink_line schema (edge ∷ source ∷ target ∷ job ∷ name ∷ []) =
    if bytes_eq (word_text job) (codes "job") then unlinked schema edge source target name else Err Malformed
unlink_line schema words = Err Malformed

-- `delete ID job N`
abbrev pub delete_line : List Word → Result Call Wrong
delete_line (id ∷ job ∷ name ∷ []) =
    if bytes_eq (word_text job) (codes "job") then mapped (λ found. Delete found.0 found.1) (both (id_part id) (job_part name)) else Err Malformed
delete_line words = Err Malformed

-- a job: its number, or `expiry ID`
abbrev pub job_name : List Word → Result JobName Wrong
job_name (name ∷ []) = mapped (λ name. Named name) (job_part name)
job_name (expiry ∷ id ∷ []) = if bytes_eq (word_text expiry) (codes "expiry") then mapped (λ id. Expiry id) (id_part id) else Err Malformed
job_name words = Err Malformed

-- the call that a line says, by its first word; none where no call begins with it
abbrev pub call_line : Schema → List ℕ → List Word → Result (Option Call) Wrong
call_line schema keyword words =
    if bytes_eq keyword (codes "create") then mapped (λ call. Some call) (create_line schema words)
    else (if bytes_eq keyword (codes "update") then mapped (λ call. Some call) (update_line words)
    else (if bytes_eq keyword (codes "link") then mapped (λ call. Some call) (link_line schema words)
    else (if bytes_eq keyword (codes "unlink") then mapped (λ call. Some call) (unlink_line schema words)
    else (if bytes_eq keyword (codes "delete") then mapped (λ call. Some call) (delete_line words)
    else (if bytes_eq keyword (codes "restore") then mapped (λ name. Some (Restore name)) (job_name words)
    else Ok None)))))
