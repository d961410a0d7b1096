-- The lines of a job by the name that means it.
use Rattle.std.proofs.Common.{◌≡◌, ℕ, Option, Some, None, List, [], ◌∷◌, ◌++◌, length, map, refl, ap, ◌∙◌, flat_map}
use Rattle.std.proofs.lemmas.List.{length-map}
use Rattle.delf_model.specs.declared.rows.ObjectRow.{ObjectRow}
use Rattle.delf_model.specs.declared.rows.EdgeRow.{EdgeRow}
use Rattle.delf_model.specs.declared.schema.Schema.{Schema}
use Rattle.delf_model.specs.declared.ids.JobName.{JobName}
use Rattle.delf_model.specs.declared.call.JobLine.{JobLine}
use Rattle.delf_model.specs.State.{State, JobRow, find_job}
use Rattle.delf_model.specs.Report.{job_line, line_of_row, listed_from}
use Rattle.job_report.specs.Texts.{job_text, no_job_text, jobs_text, report_text, found_text, object_text, edge_text, load_text}
use Rattle.documents.specs.Loads.{restored_count}
use Rattle.script_runner.specs.LoadEnds.{loaded_line}
use Rattle.script_runner.specs.Serial.{row_lines, row_named, job_lines, job_text_of, jobs_lines, report_line, listed_line}

told : (schema : Schema) (s : State) (name : JobName) (o : Option JobRow) (line : JobLine) (text : List ℕ) → Some line ≡ line_of_row s o →
    text ≡ job_text line ++ flat_map (listed_line schema) (listed_from line.job 0 s.items) → text ≡ row_lines schema s name o
told schema s name None line text is said = absurd (cc is)
told schema s name (Some row) line text is said =
    let same : line ≡ job_line s row = cc in
    said ∙ ap (λ (l : JobLine). job_text l ++ flat_map (listed_line schema) (listed_from l.job 0 s.items)) same

untold : (schema : Schema) (s : State) (name : JobName) (o : Option JobRow) (text : List ℕ) → None ≡ line_of_row s o → text ≡ no_job_text name →
    text ≡ row_lines schema s name o
untold schema s name None text is said = said
untold schema s name (Some row) text is said = absurd (cc is)

pub job_told : (schema : Schema) (s : State) (name : JobName) (line : JobLine) (text : List ℕ) →
    Some line ≡ line_of_row s (row_named s (find_job s.jobs name)) →
    text ≡ job_text line ++ flat_map (listed_line schema) (listed_from line.job 0 s.items) → text ≡ job_lines schema s name
job_told schema s name line text is said = told schema s name (row_named s (find_job s.jobs name)) line text is said

pub job_untold : (schema : Schema) (s : State) (name : JobName) (text : List ℕ) → None ≡ line_of_row s (row_named s (find_job s.jobs name)) →
    text ≡ no_job_text name → text ≡ job_lines schema s name
job_untold schema s name text is said = untold schema s name (row_named s (find_job s.jobs name)) text is said

-- all jobs

flat_map-lines : (s : State) (rows : List JobRow) → flat_map job_text (map (job_line s) rows) ≡ flat_map (job_text_of s) rows
flat_map-lines s [] = refl
flat_map-lines s (row ∷ rows) = ap (λ (t : List ℕ). job_text (job_line s row) ++ t) (flat_map-lines s rows)

pub jobs_told : (s : State) (lines : List JobLine) (count : ℕ) (first rows text : List ℕ) → lines ≡ map (job_line s) s.jobs → count ≡ length lines →
    first ≡ jobs_text count → rows ≡ flat_map job_text lines → text ≡ first ++ rows → text ≡ jobs_lines s
jobs_told s lines count first rows text lines_are counted first_is rows_are said =
    said ∙ ap (λ (t : List ℕ). t ++ rows) (first_is ∙ ap jobs_text (counted ∙ ap length lines_are ∙ length-map s.jobs (job_line s)))
    ∙ ap (λ (t : List ℕ). jobs_text (length s.jobs) ++ t) (rows_are ∙ ap (flat_map job_text) lines_are ∙ flat_map-lines s s.jobs)

pub report_told : (s : State) (objects : List ObjectRow) (edges : List EdgeRow) (lines : List JobLine) (o e h : ℕ) (text : List ℕ) →
    objects ≡ s.graph.objects → edges ≡ s.graph.edges → lines ≡ map (job_line s) s.jobs → o ≡ length objects → e ≡ length edges → h ≡ s.len →
    text ≡ report_text o e h lines → text ≡ report_line s
report_told s objects edges lines o e h text objects_are edges_are lines_are o_is e_is h_is said =
    said ∙ ap (λ (n : ℕ). report_text n e h lines) (o_is ∙ ap length objects_are)
    ∙ ap (λ (n : ℕ). report_text (length s.graph.objects) n h lines) (e_is ∙ ap length edges_are)
    ∙ ap (λ (n : ℕ). report_text (length s.graph.objects) (length s.graph.edges) n lines) h_is
    ∙ ap (report_text (length s.graph.objects) (length s.graph.edges) s.len) lines_are

-- a load

pub load_told : (n : ℕ) (s : State) (objects : List ObjectRow) (edges : List EdgeRow) (lines : List JobLine) (o e h j r : ℕ) (text : List ℕ) →
    objects ≡ s.graph.objects → edges ≡ s.graph.edges → lines ≡ map (job_line s) s.jobs → o ≡ length objects → e ≡ length edges → h ≡ s.len →
    j ≡ length lines → r ≡ restored_count lines → text ≡ load_text n o e h j r → text ≡ loaded_line n s
load_told n s objects edges lines o e h j r text objects_are edges_are lines_are o_is e_is h_is j_is r_is said =
    said ∙ ap (λ (x : ℕ). load_text n x e h j r) (o_is ∙ ap length objects_are)
    ∙ ap (λ (x : ℕ). load_text n (length s.graph.objects) x h j r) (e_is ∙ ap length edges_are)
    ∙ ap (λ (x : ℕ). load_text n (length s.graph.objects) (length s.graph.edges) x j r) h_is
    ∙ ap (λ (x : ℕ). load_text n (length s.graph.objects) (length s.graph.edges) s.len x r) (j_is ∙ ap length lines_are ∙ length-map s.jobs (job_line s))
    ∙ ap (λ (x : ℕ). load_text n (length s.graph.objects) (length s.graph.edges) s.len (length s.jobs) x) (r_is ∙ ap restored_count lines_are)

-- lines with parts that are told

pub found_is : (row : ObjectRow) (text : List ℕ) (len at : ℕ) (a name x bytes : List ℕ) (o owner : Option ℕ) → text ≡ found_text len row a x o → len ≡ at → a ≡ name →
    x ≡ bytes → o ≡ owner → text ≡ found_text at row name bytes owner
found_is row text len at a name x bytes o owner said len_is name_is bytes_are owner_is =
    said ∙ ap (λ (n : ℕ). found_text n row a x o) len_is ∙ ap (λ (n : List ℕ). found_text at row n x o) name_is
    ∙ ap (λ (b : List ℕ). found_text at row name b o) bytes_are ∙ ap (λ (j : Option ℕ). found_text at row name bytes j) owner_is

pub object_is : (row : ObjectRow) (text : List ℕ) (a name x bytes : List ℕ) (o owner : Option ℕ) → text ≡ object_text row a x o → a ≡ name →
    x ≡ bytes → o ≡ owner → text ≡ object_text row name bytes owner
object_is row text a name x bytes o owner said name_is bytes_are owner_is =
    said ∙ ap (λ (n : List ℕ). object_text row n x o) name_is
    ∙ ap (λ (b : List ℕ). object_text row name b o) bytes_are ∙ ap (λ (j : Option ℕ). object_text row name bytes j) owner_is

pub edge_is : (row : EdgeRow) (text : List ℕ) (a name x bytes : List ℕ) → text ≡ edge_text row a x → a ≡ name → x ≡ bytes → text ≡ edge_text row name bytes
edge_is row text a name x bytes said name_is bytes_are =
    said ∙ ap (λ (n : List ℕ). edge_text row n x) name_is ∙ ap (λ (b : List ℕ). edge_text row name b) bytes_are
