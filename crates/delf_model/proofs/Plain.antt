-- The owner map as code changes it: only starts, cuts and erasures do.
use Rattle.std.proofs.Common.{◌≡◌, ℕ, Bool, true, false, cond, not, ◌&&◌, ◌||◌, eqb, List, [], ◌∷◌, Option, Some, None, refl, sym, ap, ◌∙◌, subst}
use Rattle.std.proofs.lemmas.Bool.{and_parts, eqb-true, eq-eqb, false≢true}
use Rattle.std.specs.Prelude.{find, is_some, is_none, slice_get}
use Rattle.std.specs.List.{list_any}
use Rattle.delf_model.specs.declared.rows.ObjectRow.{ObjectRow}
use Rattle.delf_model.specs.declared.rows.EdgeKey.{EdgeKey}
use Rattle.delf_model.specs.declared.rows.EdgeRow.{EdgeRow}
use Rattle.delf_model.specs.declared.ids.JobName.{JobName}
use Rattle.delf_model.specs.declared.ids.JobName.TheVariants.{Named}
use Rattle.delf_model.specs.declared.entry.Entry.{Entry}
use Rattle.delf_model.specs.declared.entry.Tag.{Tag}
use Rattle.delf_model.specs.declared.entry.What.{What}
use Rattle.delf_model.specs.declared.entry.What.TheVariants.{Create, Update, Link, Unlink, Delete, Restore, Expire, Cut, Erase, Put, Purge}
use Rattle.delf_model.specs.RuleSet.{RuleSet}
use Rattle.delf_model.specs.Graph.{Graph, TakesEdge, changed, has_key, same_key, object_at, edge_at, edge_stands, stands, is_born_at}
use Rattle.delf_model.specs.State.{State, Logged, Owners, owner, owner_in, is_owned_by, is_job}
use Rattle.delf_model.specs.Step.{step, graph_after, put_change, new_edge}
use Rattle.delf_model.specs.Owners.{root_of_start, start_of, root_owner, unlink_start, first_passed, passed_owner, condemns, key_of}
use Rattle.std.specs.Option.{option_or}
use Rattle.delf_model.specs.Puts.{judged}
use Rattle.delf_model.specs.Store.{EndsStand}
use Rattle.delf_model.specs.Legal.{is_legal, is_due_row}
use Rattle.delf_model.specs.Reply.{refusals}
use Rattle.delf_model.proofs.Graphs.{same_key_is, same_key_refl, same_key_sym, find-filter_edge, find-filter_object}
use Rattle.delf_model.proofs.Lines.{none_of, allowed_of, there, free, edge_there}
use Rattle.delf_model.proofs.Leaves.{objects_leave, edge_stands_put, edge_stands_put_item}
use Rattle.delf_model.proofs.Owners.{OwnedStand, owner_kept, owner_new, owner_gone, passed_to, stands_of}

-- the owner after an entry, by the kind of the entry
abbrev pub plain_owner : State → What → ℕ → Option ℕ
plain_owner s (Create tag kind new size) id = owner s id
plain_owner s (Update tag target size) id = owner s id
plain_owner s (Link tag edge from to size) id = owner s id
plain_owner s (Unlink tag edge from to name) id = cond (is_some (unlink_start s edge from to name) && eqb to id) (Some s.len) (owner s id)
plain_owner s (Delete tag root name) id = cond (eqb root id) (Some s.len) (owner s id)
plain_owner s (Restore tag job) id = owner s id
plain_owner s (Expire root) id = cond (eqb root id) (Some s.len) (owner s id)
plain_owner s (Cut job edge from to) id =
    cond (eqb to id && is_none (owner s to) && condemns s.rules (changed s.graph (TakesEdge (key_of edge from to))) (key_of edge from to)) (Some job) (owner s id)
plain_owner s (Erase job gone) id = cond (eqb gone id) None (owner s id)
plain_owner s (Put job i) id = owner s id
plain_owner s (Purge job) id = owner s id

-- every row of these stands in the graph
abbrev pub AllStand : Graph → List EdgeRow → Type 0
AllStand g [] = Unit {0}
AllStand g (row ∷ rows) = (edge_stands g row.key ≡ true) × AllStand g rows

all_stand_more : (g : Graph) (x : EdgeRow) (rows : List EdgeRow) (more : EdgeRow → Type 0) → Unit {0}
all_stand_more g x rows more = tt

stand_cons : (x : EdgeRow) (xs : List EdgeRow) (key : EdgeKey) → is_some (find (has_key key) xs) ≡ true → is_some (find (has_key key) (x ∷ xs)) ≡ true
stand_cons x xs key stood = by_hit (same_key x.key key)
  where
    by_hit : (hit : Bool) → is_some (cond hit (Some x) (find (has_key key) xs)) ≡ true
    by_hit true = refl
    by_hit false = stood

stand_head : (x : EdgeRow) (xs : List EdgeRow) → is_some (find (has_key x.key) (x ∷ xs)) ≡ true
stand_head x xs = ap (λ (b : Bool). is_some (cond b (Some x) (find (has_key x.key) xs))) (same_key_refl x.key)

all_find : (xs rows : List EdgeRow) → ((key : EdgeKey) → is_some (find (has_key key) rows) ≡ true → is_some (find (has_key key) xs) ≡ true) →
    (g : Graph) → ((key : EdgeKey) → is_some (find (has_key key) xs) ≡ true → edge_stands g key ≡ true) → AllStand g rows
all_find xs [] within g stand = tt
all_find xs (row ∷ rows) within g stand = (
  stand row.key (within row.key (stand_head row rows)),
  all_find xs rows (λ key stood. within key (stand_cons row rows key stood)) g stand,
)

-- the rows of a graph stand in each graph in which all its keys stand
pub all_stand : (g now : Graph) → ((key : EdgeKey) → edge_stands g key ≡ true → edge_stands now key ≡ true) → AllStand now g.edges
all_stand g now stand = all_find g.edges g.edges (λ key stood. stood) now stand

-- where no edge is gone, none passes an owner

passes_none : (b c : Bool) (o : Option ℕ) (here stood : Bool) → stood ≡ true → cond (here && not stood && c) o None ≡ None
passes_none b c o true true is = refl
passes_none b c o false true is = refl
passes_none b c o here false is = absurd (false≢true is)

first_after : (o p : Option ℕ) → o ≡ None → p ≡ None → option_or o p ≡ None
first_after o p one two = ap (λ (x : Option ℕ). option_or x p) one ∙ two

pub none_passed : (rules : RuleSet) (now : Graph) (owners : Owners) (id : ℕ) (rows : List EdgeRow) → AllStand now rows →
    first_passed rules now owners id rows ≡ None
none_passed rules now owners id [] stand = refl
none_passed rules now owners id (row ∷ rows) stand =
    first_after _ _
    (passes_none true (condemns rules now row.key) (owner_in owners row.key.from) (eqb row.key.to id) (edge_stands now row.key) stand.0)
    (none_passed rules now owners id rows stand.1)

-- where one edge is gone, it passes the owner of its source, if it condemns

abbrev pub passed_by : RuleSet → Graph → Owners → ℕ → EdgeKey → Option ℕ
passed_by rules now owners id key = cond (eqb key.to id && condemns rules now key) (owner_in owners key.from) None

-- each row stands, or is the one that is gone
abbrev pub StandOrGone : Graph → EdgeKey → List EdgeRow → Type 0
StandOrGone now gone [] = Unit {0}
StandOrGone now gone (row ∷ rows) = (edge_stands now row.key ≡ not (same_key gone row.key)) × StandOrGone now gone rows

passed_gone : (rules : RuleSet) (now : Graph) (owners : Owners) (id : ℕ) (key : EdgeKey) (b c : Bool) (o : Option ℕ) → cond (b && not false && c) o None ≡ cond (b && c) o None
passed_gone rules now owners id key true c o = refl
passed_gone rules now owners id key false c o = refl

passed_row : (rules : RuleSet) (now : Graph) (owners : Owners) (id : ℕ) (gone : EdgeKey) (row : EdgeRow) (hit : Bool) → same_key gone row.key ≡ hit →
    edge_stands now row.key ≡ not hit → passed_owner rules now owners id row ≡ cond hit (passed_by rules now owners id gone) None
passed_row rules now owners id gone row true is stood =
    ap (λ (b : Bool). cond (eqb row.key.to id && not b && condemns rules now row.key) (owner_in owners row.key.from) None) stood ∙
    (passed_gone rules now owners id row.key (eqb row.key.to id) (condemns rules now row.key) (owner_in owners row.key.from) ∙
    ap (passed_by rules now owners id) (sym (same_key_is gone row.key is)))
passed_row rules now owners id gone row false is stood =
    passes_none true (condemns rules now row.key) (owner_in owners row.key.from) (eqb row.key.to id) (edge_stands now row.key) stood

join_passed : (here later : Bool) (o : Option ℕ) → option_or (cond here o None) (cond later o None) ≡ cond (here || later) o None
join_passed true true None = refl
join_passed true true (Some x) = refl
join_passed true false None = refl
join_passed true false (Some x) = refl
join_passed false later o = refl

abbrev pub has_gone : EdgeKey → EdgeRow → Bool
has_gone gone row = same_key gone row.key

pub one_passed : (rules : RuleSet) (now : Graph) (owners : Owners) (id : ℕ) (gone : EdgeKey) (rows : List EdgeRow) → StandOrGone now gone rows →
    first_passed rules now owners id rows ≡ cond (list_any (has_gone gone) rows) (passed_by rules now owners id gone) None
one_passed rules now owners id gone [] stand = refl
one_passed rules now owners id gone (row ∷ rows) stand =
    ap (λ (o : Option ℕ). option_or o (first_passed rules now owners id rows))
    (passed_row rules now owners id gone row (same_key gone row.key) refl stand.0) ∙
    (ap (λ (o : Option ℕ). option_or (cond (same_key gone row.key) (passed_by rules now owners id gone) None) o)
    (one_passed rules now owners id gone rows stand.1) ∙
    join_passed (same_key gone row.key) (list_any (has_gone gone) rows) (passed_by rules now owners id gone))

-- after an edge was taken, each row stands or is that edge

stood_after : (g : Graph) (gone key : EdgeKey) (hit : Bool) → same_key gone key ≡ hit → edge_stands g key ≡ true → edge_stands (changed g (TakesEdge gone)) key ≡ not hit
stood_after g gone key true is stood = ap (λ (o : Option EdgeRow). is_some o) (find-filter_edge gone g.edges key ∙ ap (λ (b : Bool). cond b None (edge_at g key)) is)
stood_after g gone key false is stood = ap (λ (o : Option EdgeRow). is_some o) (find-filter_edge gone g.edges key ∙ ap (λ (b : Bool). cond b None (edge_at g key)) is) ∙ stood

stand_or_gone : (g : Graph) (gone : EdgeKey) (rows : List EdgeRow) → AllStand g rows → StandOrGone (changed g (TakesEdge gone)) gone rows
stand_or_gone g gone [] stand = tt
stand_or_gone g gone (row ∷ rows) stand =
    (stood_after g gone row.key (same_key gone row.key) refl stand.0, stand_or_gone g gone rows stand.1)

gone_there : (gone : EdgeKey) (rows : List EdgeRow) → is_some (find (has_key gone) rows) ≡ true → list_any (has_gone gone) rows ≡ true
gone_there gone [] stood = absurd (false≢true stood)
gone_there gone (row ∷ rows) stood = by_hit (same_key row.key gone) (same_key gone row.key) (same_key_sym row.key gone) stood (gone_there gone rows)
  where
    by_hit : (hit other : Bool) → hit ≡ other → is_some (cond hit (Some row) (find (has_key gone) rows)) ≡ true →
        (is_some (find (has_key gone) rows) ≡ true → list_any (has_gone gone) rows ≡ true) → (other || list_any (has_gone gone) rows) ≡ true
    by_hit hit true is found IH = refl
    by_hit true false is found IH = absurd (false≢true (sym is))
    by_hit false false is found IH = IH found

-- what a taken edge passes on
pub taken_passes : (rules : RuleSet) (g : Graph) (owners : Owners) (id : ℕ) (gone : EdgeKey) → edge_stands g gone ≡ true →
    first_passed rules (changed g (TakesEdge gone)) owners id g.edges ≡ passed_by rules (changed g (TakesEdge gone)) owners id gone
taken_passes rules g owners id gone stood =
    one_passed rules (changed g (TakesEdge gone)) owners id gone g.edges
    (stand_or_gone g gone g.edges (all_stand g g (λ key here. here))) ∙
    ap (λ (b : Bool). cond b (passed_by rules (changed g (TakesEdge gone)) owners id gone) None) (gone_there gone g.edges stood)

-- the three cases of an object after an entry

-- where the object stands afterwards as it did, the owner is what was passed to it; else there is none, and was none
-- unless it is erased here
pub data Afterwards (s : State) (e : Entry) (id : ℕ) : Type 0 where
  Kept : (row : ObjectRow) → object_at s.graph id ≡ Some row → owner (step s e) id ≡ passed_to s e id → Afterwards s e id
  Unowned : owner s id ≡ None → owner (step s e) id ≡ None → Afterwards s e id
  Erased : (job : ℕ) → e.what ≡ Erase job id → owner (step s e) id ≡ None → Afterwards s e id

born_some : (birth : ℕ) (o : Option ObjectRow) → is_born_at birth o ≡ true → (row : ObjectRow) × (o ≡ Some row)
born_some birth None born = absurd (false≢true born)
born_some birth (Some row) born = (row, refl)

some_row : (o : Option ObjectRow) → is_some o ≡ true → (row : ObjectRow) × (o ≡ Some row)
some_row None some = absurd (false≢true some)
some_row (Some row) some = (row, refl)

pub afterwards : (s : State) (e : Entry) → is_legal s e ≡ true → OwnedStand s → (id : ℕ) → Afterwards s e id
afterwards s e legal stand id = by_now (object_at (graph_after s e.moment e.what) id) refl
  where
    -- an owner before is of an object that stood, and that left: it is erased here
    by_owner : (o : Option ℕ) → owner s id ≡ o → owner (step s e) id ≡ None →
        ((birth : ℕ) → stands s.graph id birth ≡ true → stands (step s e).graph id birth ≡ false) → Afterwards s e id
    by_owner None own none left = Unowned own none
    by_owner (Some job) own none left =
        let found = some_row (object_at s.graph id) (stand id job own) in
        let stood : stands s.graph id found.0.birth ≡ true = stands_of s.graph id found.0 found.1 in
        let gone = objects_leave s e legal id found.0.birth stood (left found.0.birth stood) in
        Erased gone.0 gone.2 none

    by_stood : (row : ObjectRow) → object_at (graph_after s e.moment e.what) id ≡ Some row → (stood : Bool) →
        stands s.graph id row.birth ≡ stood → Afterwards s e id
    by_stood row at true is =
        let found = born_some row.birth (object_at s.graph id) is in
        Kept found.0 found.1 (owner_kept s e id row at is)
    by_stood row at false is =
        by_owner (owner s id) refl (owner_new s e id row at is) (λ birth stood. not_both birth (eqb row.birth birth) refl stood)
      where
        not_both : (birth : ℕ) (same : Bool) → eqb row.birth birth ≡ same → stands s.graph id birth ≡ true → stands (step s e).graph id birth ≡ false
        not_both birth true same stood =
            absurd (false≢true (sym is ∙ subst (λ (n : ℕ). stands s.graph id n ≡ true) (sym (eqb-true row.birth birth same)) stood))
        not_both birth false same stood = ap (is_born_at birth) at ∙ same

    by_now : (o : Option ObjectRow) → object_at (graph_after s e.moment e.what) id ≡ o → Afterwards s e id
    by_now None at = by_owner (owner s id) refl (owner_gone s e id at) (λ birth stood. ap (is_born_at birth) at)
    by_now (Some row) at = by_stood row at (stands s.graph id row.birth) refl

first_none : (o : Option ℕ) → option_or o None ≡ o
first_none None = refl
first_none (Some x) = refl

-- an entry that starts nothing and passes nothing, and is no erasure, leaves every owner
quiet_plain : (s : State) (e : Entry) → is_legal s e ≡ true → OwnedStand s → start_of s e.what ≡ None →
    ((job gone : ℕ) → e.what ≡ Erase job gone → ⊥) → (id : ℕ) →
    first_passed s.rules (graph_after s e.moment e.what) s.owners id s.graph.edges ≡ None → owner (step s e) id ≡ owner s id
quiet_plain s e legal stand none other id passed = by_case (afterwards s e legal stand id)
  where
    by_case : Afterwards s e id → owner (step s e) id ≡ owner s id
    by_case (Kept row at is) =
        is ∙ (ap (λ (o : Option ℕ). option_or (owner s id) (option_or (root_owner (root_of_start (start_of s e.what)) s.len id) o)) passed ∙
        (ap (λ (o : Option _). option_or (owner s id) (option_or (root_owner (root_of_start o) s.len id) None)) none ∙ first_none (owner s id)))
    by_case (Unowned own now) = now ∙ sym own
    by_case (Erased job is now) = absurd (other job id is)

-- where the objects are those before, an object keeps its owner, or gets what is passed to it
same_objects : (s : State) (e : Entry) (id : ℕ) → object_at (graph_after s e.moment e.what) id ≡ object_at s.graph id → OwnedStand s →
    ((o : Option ObjectRow) → object_at s.graph id ≡ o → (is_some o ≡ true → owner (step s e) id ≡ passed_to s e id) × (o ≡ None → (owner (step s e) id ≡ None) × (owner s id ≡ None)))
same_objects s e id same stand None at =
    (λ some. absurd (false≢true some), λ none. (owner_gone s e id (same ∙ at), by_owner (owner s id) refl))
  where
    by_owner : (o : Option ℕ) → owner s id ≡ o → owner s id ≡ None
    by_owner None own = own
    by_owner (Some job) own = absurd (false≢true (sym (ap (λ (r : Option ObjectRow). is_some r) at) ∙ stand id job own))
same_objects s e id same stand (Some row) at =
    (λ some. owner_kept s e id row (same ∙ at) (stands_of s.graph id row at), λ none. absurd (cc none))

root_passed : (root position id : ℕ) (hit : Bool) (own : Option ℕ) → (hit ≡ true → own ≡ None) →
    option_or own (option_or (cond hit (Some position) None) None) ≡ cond hit (Some position) own
root_passed root position id true own free = ap (λ (o : Option ℕ). option_or o (Some position)) (free refl)
root_passed root position id false own free = first_none own

-- an entry that starts a job at a root that stands and has no owner, and passes nothing
started_plain : (s : State) (e : Entry) (root : ℕ) → OwnedStand s → root_of_start (start_of s e.what) ≡ Some root →
    is_some (object_at s.graph root) ≡ true → owner s root ≡ None → (id : ℕ) →
    object_at (graph_after s e.moment e.what) id ≡ object_at s.graph id →
    first_passed s.rules (graph_after s e.moment e.what) s.owners id s.graph.edges ≡ None →
    owner (step s e) id ≡ cond (eqb root id) (Some s.len) (owner s id)
started_plain s e root stand is there_root free_root id same passed = by_row (object_at s.graph id) refl
  where
    along : (hit : Bool) → eqb root id ≡ hit → hit ≡ true → owner s id ≡ None
    along hit at yes_hit = subst (λ (n : ℕ). owner s n ≡ None) (eqb-true root id (at ∙ yes_hit)) free_root

    by_gone : (hit : Bool) → eqb root id ≡ hit → object_at s.graph id ≡ None → owner s id ≡ None → None ≡ cond hit (Some s.len) (owner s id)
    by_gone true at none own =
        absurd (false≢true (sym (ap (λ (r : Option ObjectRow). is_some r) (subst (λ (n : ℕ). object_at s.graph n ≡ None) (sym (eqb-true root id at)) none)) ∙ there_root))
    by_gone false at none own = sym own

    by_row : (o : Option ObjectRow) → object_at s.graph id ≡ o → owner (step s e) id ≡ cond (eqb root id) (Some s.len) (owner s id)
    by_row None at =
        let both = (same_objects s e id same stand None at).1 refl in
        both.0 ∙ by_gone (eqb root id) refl at both.1
    by_row (Some row) at =
        (same_objects s e id same stand (Some row) at).0 refl ∙
        (ap (λ (o : Option ℕ). option_or (owner s id) (option_or (root_owner (root_of_start (start_of s e.what)) s.len id) o)) passed ∙
        (ap (λ (o : Option ℕ). option_or (owner s id) (option_or (root_owner o s.len id) None)) is ∙
        root_passed root s.len id (eqb root id) (owner s id) (along (eqb root id) refl)))

same_edges : (s : State) (now : Graph) (id : ℕ) → ((key : EdgeKey) → edge_stands s.graph key ≡ true → edge_stands now key ≡ true) →
    first_passed s.rules now s.owners id s.graph.edges ≡ None
same_edges s now id stand = none_passed s.rules now s.owners id s.graph.edges (all_stand s.graph now stand)

free_source : (rules : RuleSet) (now : Graph) (owners : Owners) (id : ℕ) (key : EdgeKey) → owner_in owners key.from ≡ None →
    passed_by rules now owners id key ≡ None
free_source rules now owners id key free = by_hit (eqb key.to id && condemns rules now key)
  where
    by_hit : (hit : Bool) → cond hit (owner_in owners key.from) None ≡ None
    by_hit true = free
    by_hit false = refl

due_there : (moment : ℕ) (o : Option ObjectRow) → is_due_row moment o ≡ true → is_some o ≡ true
due_there moment None due = absurd (false≢true due)
due_there moment (Some row) due = refl

none_is : (o : Option ℕ) → is_none o ≡ true → o ≡ None
none_is None none = refl
none_is (Some x) none = absurd (false≢true none)

-- the case of an unlink, by whether it starts a job
unlink_plain : (s : State) (moment : ℕ) (tag : Tag) (edge from to name : ℕ) → is_legal s (record { moment = moment; what = Unlink tag edge from to name }) ≡ true →
    OwnedStand s → is_some (object_at s.graph to) ≡ true → owner s to ≡ None → (id : ℕ) →
    first_passed s.rules (changed s.graph (TakesEdge (key_of edge from to))) s.owners id s.graph.edges ≡ None →
    (starts : Bool) → is_some (unlink_start s edge from to name) ≡ starts → root_of_start (unlink_start s edge from to name) ≡ cond starts (Some to) None →
    owner (step s (record { moment = moment; what = Unlink tag edge from to name })) id ≡ cond (starts && eqb to id) (Some s.len) (owner s id)
unlink_plain s moment tag edge from to name legal stand there_to free_to id passed true is root =
    started_plain s (record { moment = moment; what = Unlink tag edge from to name }) to stand root there_to free_to id refl passed
unlink_plain s moment tag edge from to name legal stand there_to free_to id passed false is root =
    by_case (afterwards s (record { moment = moment; what = Unlink tag edge from to name }) legal stand id)
  where
    by_case : Afterwards s (record { moment = moment; what = Unlink tag edge from to name }) id →
        owner (step s (record { moment = moment; what = Unlink tag edge from to name })) id ≡ owner s id
    by_case (Kept row at is) =
        is ∙ (ap (λ (o : Option ℕ). option_or (owner s id) (option_or (root_owner (root_of_start (unlink_start s edge from to name)) s.len id) o)) passed ∙
        (ap (λ (o : Option ℕ). option_or (owner s id) (option_or (root_owner o s.len id) None)) root ∙ first_none (owner s id)))
    by_case (Unowned own now) = now ∙ sym own
    by_case (Erased job is now) = absurd (cc is)

unlink_root : (s : State) (edge from to name : ℕ) → root_of_start (unlink_start s edge from to name) ≡ cond (is_some (unlink_start s edge from to name)) (Some to) None
unlink_root s edge from to name = by_hit _
  where
    by_hit : (hit : Bool) → root_of_start (cond hit (Some (to, Named name)) None) ≡
        cond (is_some {T = ℕ × JobName} (cond hit (Some (to, Named name)) None)) (Some to) None
    by_hit true = refl
    by_hit false = refl

-- the case of a cut
cut_owner : (job : ℕ) (source target own : Option ℕ) (hit c : Bool) → (hit ≡ true → own ≡ target) → (is_job job source || is_job job target) ≡ true →
    option_or own (option_or None (cond (hit && c) source None)) ≡ cond (hit && is_none target && c) (Some job) own
cut_owner job source target own false c along line = first_none own
cut_owner job source None own true true along line =
    ap (λ (o : Option ℕ). option_or o source) (along refl) ∙ by_line source line
  where
    by_line : (o : Option ℕ) → (is_job job o || false) ≡ true → o ≡ Some job
    by_line None own_line = absurd (false≢true own_line)
    by_line (Some x) own_line = ap Some (eqb-true x job (by_or (eqb x job) own_line))
      where
        by_or : (b : Bool) → (b || false) ≡ true → b ≡ true
        by_or true is = refl
        by_or false is = is
cut_owner job source None own true false along line = first_none own
cut_owner job source (Some t) own true c along line = ap (λ (o : Option ℕ). option_or o (option_or None (cond c source None))) (along refl) ∙ sym (along refl)

cut_plain : (s : State) (moment job edge from to : ℕ) → OwnedStand s → EndsStand s.graph →
    edge_stands s.graph (key_of edge from to) ≡ true → (is_owned_by s job from || is_owned_by s job to) ≡ true → (id : ℕ) →
    owner (step s (record { moment = moment; what = Cut job edge from to })) id ≡ plain_owner s (Cut job edge from to) id
cut_plain s moment job edge from to stand ends stood line id = by_row (object_at s.graph id) refl
  where
    along : (hit : Bool) → eqb to id ≡ hit → hit ≡ true → owner s id ≡ owner s to
    along hit at one = ap (λ (n : ℕ). owner s n) (sym (eqb-true to id (at ∙ one)))

    gone_target : (hit : Bool) (rest : Bool) → eqb to id ≡ hit → object_at s.graph id ≡ None → owner s id ≡ None → None ≡ cond (hit && is_none (owner s to) && rest) (Some job) (owner s id)
    gone_target true rest at none own =
        absurd (false≢true (sym (ap (λ (r : Option ObjectRow). is_some r) (subst (λ (n : ℕ). object_at s.graph n ≡ None) (sym (eqb-true to id at)) none)) ∙ ends.target (key_of edge from to) stood))
    gone_target false rest at none own = sym own

    by_row : (o : Option ObjectRow) → object_at s.graph id ≡ o → owner (step s (record { moment = moment; what = Cut job edge from to })) id ≡ plain_owner s (Cut job edge from to) id
    by_row None at =
        let both = (same_objects s (record { moment = moment; what = Cut job edge from to }) id refl stand None at).1 refl in
        both.0 ∙ gone_target (eqb to id) (condemns s.rules (changed s.graph (TakesEdge (key_of edge from to))) (key_of edge from to)) refl at both.1
    by_row (Some row) at =
        (same_objects s (record { moment = moment; what = Cut job edge from to }) id refl stand (Some row) at).0 refl ∙
        (ap (λ (o : Option ℕ). option_or (owner s id) (option_or None o)) (taken_passes s.rules s.graph s.owners id (key_of edge from to) stood) ∙
        cut_owner job (owner s from) (owner s to) (owner s id) (eqb to id) (condemns s.rules (changed s.graph (TakesEdge (key_of edge from to))) (key_of edge from to)) (along (eqb to id) refl) line)

-- the owner after a legal entry
pub owner_plain : (s : State) (moment : ℕ) (what : What) → is_legal s (record { moment = moment; what = what }) ≡ true → OwnedStand s → EndsStand s.graph → (id : ℕ) →
    owner (step s (record { moment = moment; what = what })) id ≡ plain_owner s what id
owner_plain s moment (Create tag kind new size) legal stand ends id =
    quiet_plain s (record { moment = moment; what = Create tag kind new size }) legal stand refl (λ job gone is. absurd (cc is)) id
    (same_edges s (graph_after s moment (Create tag kind new size)) id (λ key stood. stood))
owner_plain s moment (Update tag target size) legal stand ends id =
    quiet_plain s (record { moment = moment; what = Update tag target size }) legal stand refl (λ job gone is. absurd (cc is)) id
    (same_edges s (graph_after s moment (Update tag target size)) id (λ key stood. stood))
owner_plain s moment (Link tag edge from to size) legal stand ends id =
    quiet_plain s (record { moment = moment; what = Link tag edge from to size }) legal stand refl (λ job gone is. absurd (cc is)) id
    (same_edges s (graph_after s moment (Link tag edge from to size)) id (λ key stood. edge_stands_put s.graph (new_edge s edge from to size) key stood))
owner_plain s moment (Unlink tag edge from to name) legal stand ends id =
    let line = none_of (refusals s moment (Unlink tag edge from to name)) (allowed_of s (record { moment = moment; what = Unlink tag edge from to name }) legal) in
    unlink_plain s moment tag edge from to name legal stand (there s to line.1.0) (free s to line.1.1.1.0) id
    (taken_passes s.rules s.graph s.owners id (key_of edge from to) (edge_there s (key_of edge from to) line.1.1.1.1.0) ∙
    free_source s.rules (changed s.graph (TakesEdge (key_of edge from to))) s.owners id (key_of edge from to) (free s from line.1.1.0))
    (is_some (unlink_start s edge from to name)) refl (unlink_root s edge from to name)
owner_plain s moment (Delete tag root name) legal stand ends id =
    let line = none_of (refusals s moment (Delete tag root name)) (allowed_of s (record { moment = moment; what = Delete tag root name }) legal) in
    started_plain s (record { moment = moment; what = Delete tag root name }) root stand refl (there s root line.0) (free s root line.1.0) id refl
    (same_edges s (graph_after s moment (Delete tag root name)) id (λ key stood. stood))
owner_plain s moment (Restore tag job) legal stand ends id =
    quiet_plain s (record { moment = moment; what = Restore tag job }) legal stand refl (λ other gone is. absurd (cc is)) id
    (same_edges s (graph_after s moment (Restore tag job)) id (λ key stood. stood))
owner_plain s moment (Expire root) legal stand ends id =
    let line = and_parts (is_due_row moment (object_at s.graph root)) (is_none (owner s root)) (allowed_of s (record { moment = moment; what = Expire root }) legal) in
    started_plain s (record { moment = moment; what = Expire root }) root stand refl (due_there moment (object_at s.graph root) line.0) (none_is (owner s root) line.1) id refl
    (same_edges s (graph_after s moment (Expire root)) id (λ key stood. stood))
owner_plain s moment (Cut job edge from to) legal stand ends id =
    let line = and_parts (edge_stands s.graph (key_of edge from to)) (is_owned_by s job from || is_owned_by s job to)
    (allowed_of s (record { moment = moment; what = Cut job edge from to }) legal) in
    cut_plain s moment job edge from to stand ends line.0 line.1 id
owner_plain s moment (Erase job gone) legal stand ends id = by_hit (eqb gone id) refl
  where
    by_hit : (hit : Bool) → eqb gone id ≡ hit → owner (step s (record { moment = moment; what = Erase job gone })) id ≡ cond hit None (owner s id)
    by_hit true at =
        owner_gone s (record { moment = moment; what = Erase job gone }) id
        (find-filter_object gone s.graph.objects id ∙ ap (λ (b : Bool). cond b None (object_at s.graph id)) at)
    by_hit false at =
        by_case (afterwards s (record { moment = moment; what = Erase job gone }) legal stand id)
      where
        by_case : Afterwards s (record { moment = moment; what = Erase job gone }) id → owner (step s (record { moment = moment; what = Erase job gone })) id ≡ owner s id
        by_case (Kept row here is) =
            is ∙ (ap (λ (o : Option ℕ). option_or (owner s id) (option_or None o)) (same_edges s (graph_after s moment (Erase job gone)) id (λ key stood. stood)) ∙ first_none (owner s id))
        by_case (Unowned own now) = now ∙ sym own
        by_case (Erased other is now) = absurd (false≢true (sym at ∙ eq-eqb gone id (let same : gone ≡ id = cc in same)))
owner_plain s moment (Put job i) legal stand ends id =
    quiet_plain s (record { moment = moment; what = Put job i }) legal stand refl (λ other gone is. absurd (cc is)) id
    (same_edges s (graph_after s moment (Put job i)) id (λ key stood. put_change_stands s (slice_get s.items i) key stood))
  where
    put_change_stands : (t : State) (o : Option Logged) (key : EdgeKey) → edge_stands t.graph key ≡ true → edge_stands (changed t.graph (put_change t o)) key ≡ true
    put_change_stands t None key stood = stood
    put_change_stands t (Some logged) key stood = edge_stands_put_item t logged.item (judged t logged.item) key stood
owner_plain s moment (Purge job) legal stand ends id =
    quiet_plain s (record { moment = moment; what = Purge job }) legal stand refl (λ other gone is. absurd (cc is)) id
    (same_edges s (graph_after s moment (Purge job)) id (λ key stood. stood))
