-- How one legal entry moves payloads, and what every legal history keeps of them.
use Rattle.std.proofs.Common.{◌≡◌, ℕ, zero, suc, ◌+◌, ◌≤◌, ◌<◌, Bool, true, false, cond, not, ◌&&◌, ◌||◌, eqb, List, [], ◌∷◌, length, Option, Some, None, refl, sym, ap, ◌∙◌, subst, arith, inl, inr, ◌⊎◌}
use Rattle.std.proofs.lemmas.Bool.{and_parts, and_from, or_cases, or_left, or_right, eqb-true, eq-eqb, false≢true, not-true, not_from_false}
use Rattle.std.specs.Prelude.{slice_get, is_none, Contains}
use Rattle.std.specs.List.{list_any}
use Rattle.delf_model.specs.declared.rows.ObjectRow.{ObjectRow}
use Rattle.delf_model.specs.declared.rows.EdgeKey.{EdgeKey}
use Rattle.delf_model.specs.declared.rows.EdgeRow.{EdgeRow}
use Rattle.delf_model.specs.declared.call.Cause.{Cause}
use Rattle.delf_model.specs.declared.entry.Entry.{Entry}
use Rattle.delf_model.specs.declared.entry.What.{What}
use Rattle.delf_model.specs.declared.entry.What.TheVariants.{Update, Unlink, Cut, Erase, Put, Purge}
use Rattle.delf_model.specs.RuleSet.{RuleSet}
use Rattle.delf_model.specs.Graph.{has_id, has_key, object_at, edge_at, same_key}
use Rattle.delf_model.specs.State.{State, Logged, position_of, size_of, job_of}
use Rattle.delf_model.specs.Step.{step, after}
use Rattle.delf_model.specs.Owners.{key_of}
use Rattle.delf_model.specs.Puts.{judged}
use Rattle.delf_model.specs.Legal.{is_legal, is_allowed, Legal}
use Rattle.delf_model.specs.Report.{was_put}
use Rattle.delf_model.specs.Payloads.{is_purged, keeps_payload, object_needs, edge_needs, item_needs, is_needed, Carrier, Journal, Vault, last_carrier}
use Rattle.delf_model.proofs.Graphs.{same_key_refl}
use Rattle.delf_model.proofs.Lines.{allowed_of}
use Rattle.delf_model.proofs.Owners.{found_id, found_key}
use Rattle.delf_model.proofs.Jobs.{Idle}
use Rattle.delf_model.proofs.Good.{good_after}
use Rattle.payload_laws.specs.Holders.{IsLive, record_size, scrubbed_by, carrier_of_object, carrier_of_edge, carrier_of_put, unput_of, Carried, Stays, Brought, Taken, PutBack, PayloadsMove, PositionsHeld, HasSize, PayloadsAreHeld}
use Rattle.payload_laws.proofs.Members.{In, some_is, found_in, in_found, any_in, in_any, any_at, at_any}
use Rattle.payload_laws.proofs.Carriers.{Unheld, HeldLast, held_or_not, carrier_unheld, carrier_held, unput_vault, put_by, put_journal, vault_is, journal_is, vault_journal}
use Rattle.payload_laws.proofs.Rows.{Source, OfObject, OfEdge, OfPut, object_is, edge_is, source_of, gone_of, source_of_item, Holds, ByObject, ByEdge, not_none, not_put, RowNow, Old, New, Back, PutsBack, row_now, row_goes}
use Rattle.payload_laws.proofs.Items.{ItemNow, Old as Was, Logs, Handles, LogsNow, HandlesNow, with_how, put_now, item_now, item_stays, is_purge_of, purge_now, purged_now}
use Rattle.payload_laws.proofs.Placed.{IsFrom, Placed, unput, placed_step, placed_after, placed_again, with_next, next_old, next_new, sources_in, sizes_in, size_there}

-- elements by their places

contains_in : {A : Type 0} (xs : List A) (x : A) → Contains xs x → In xs x
contains_in [] x (k, within, is) = absurd (omega (arith, within))
contains_in (y ∷ ys) x (zero, within, is) = inl is
contains_in (y ∷ ys) x (suc k, within, is) = inr (contains_in ys x (k, omega (arith, within), is))

in_contains : {A : Type 0} (xs : List A) (x : A) → In xs x → Contains xs x
in_contains [] x here = absurd here
in_contains (y ∷ ys) x (inl same) = (zero, omega arith, same)
in_contains (y ∷ ys) x (inr rest) = let there = in_contains ys x rest in (suc there.0, (let lt : there.0 < length ys = there.1 in omega arith), there.2)

-- what needs a position

pub data NeededBy (s : State) (p : ℕ) : Type 0 where
  ByRow : (source : Source) (size : ℕ) → Holds s.graph source p size → NeededBy s p
  ByItem : (i : ℕ) (l : Logged) → slice_get s.items i ≡ Some l → position_of l.item ≡ p → is_purged s.jobs (job_of l.item) ≡ false → was_put l.handled ≡ false → NeededBy s p

needed_by : (s : State) (p : ℕ) → is_needed s p ≡ true → NeededBy s p
needed_by s p needed =
    elim (or_cases ((list_any (object_needs p) s.graph.objects) || (list_any (edge_needs p) s.graph.edges)) (list_any (item_needs s.jobs p) s.items) needed) [
      | inl row ↦
          elim (or_cases (list_any (object_needs p) s.graph.objects) (list_any (edge_needs p) s.graph.edges) row) [
            | inl object ↦
                let found = any_in (object_needs p) s.graph.objects object in
                ByRow (OfObject found.0.id) found.0.size (ByObject found.0 found.1 refl (sym (eqb-true found.0.at p found.2)) refl)
            | inr edge ↦
                let found = any_in (edge_needs p) s.graph.edges edge in
                ByRow (OfEdge found.0.key) found.0.size (ByEdge found.0 found.1 refl (sym (eqb-true found.0.birth p found.2)) refl)
          ]
      | inr item ↦
          let found = any_at (item_needs s.jobs p) s.items item in
          let l = found.1.0 in
          let parts = and_parts (keeps_payload s.jobs l) (eqb (position_of l.item) p) found.1.2 in
          let keeps = and_parts (not (is_purged s.jobs (job_of l.item))) (not (was_put l.handled)) parts.0 in
          ByItem found.0 l found.1.1 (eqb-true (position_of l.item) p parts.1) (not-true (is_purged s.jobs (job_of l.item)) keeps.0) (not-true (was_put l.handled) keeps.1)
    ]

row_needed : (s : State) (source : Source) (p size : ℕ) → Holds s.graph source p size → is_needed s p ≡ true
row_needed s source p size (ByObject row here is at sized) =
    or_left (list_any (object_needs p) s.graph.objects || list_any (edge_needs p) s.graph.edges) (list_any (item_needs s.jobs p) s.items)
    (or_left (list_any (object_needs p) s.graph.objects) (list_any (edge_needs p) s.graph.edges) (in_any (object_needs p) s.graph.objects row here (eq-eqb row.at p (sym at))))
row_needed s source p size (ByEdge row here is at sized) =
    or_left (list_any (object_needs p) s.graph.objects || list_any (edge_needs p) s.graph.edges) (list_any (item_needs s.jobs p) s.items)
    (or_right (list_any (object_needs p) s.graph.objects) (list_any (edge_needs p) s.graph.edges) (in_any (edge_needs p) s.graph.edges row here (eq-eqb row.birth p (sym at))))

pub item_needed : (s : State) (p i : ℕ) (l : Logged) → slice_get s.items i ≡ Some l → position_of l.item ≡ p → is_purged s.jobs (job_of l.item) ≡ false → was_put l.handled ≡ false →
    is_needed s p ≡ true
item_needed s p i l at holds unpurged waits =
    or_right (list_any (object_needs p) s.graph.objects || list_any (edge_needs p) s.graph.edges) (list_any (item_needs s.jobs p) s.items)
    (at_any (item_needs s.jobs p) s.items i l at
    (and_from (keeps_payload s.jobs l) (eqb (position_of l.item) p)
    (and_from (not (is_purged s.jobs (job_of l.item))) (not (was_put l.handled)) (not_from_false (is_purged s.jobs (job_of l.item)) unpurged) (not_from_false (was_put l.handled) waits))
    (eq-eqb (position_of l.item) p holds)))

-- who serves a payload

-- the journal record that serves a row: the one that gave the payload, or the put of an item that holds it
pub data ServedBy (sources : ℕ → Source) (s : State) (p place : ℕ) : Type 0 where
  Given : place ≡ p → ServedBy sources s p place
  ByPut : (i : ℕ) (l : Logged) → slice_get s.items i ≡ Some l → position_of l.item ≡ p → sources place ≡ OfPut i → ServedBy sources s p place

pub record Served (sources : ℕ → Source) (sizes : ℕ → ℕ) (s : State) (p size : ℕ) : Type 0 where
  pub place : ℕ
  pub below : place < s.len
  pub carried : last_carrier s p ≡ Journal place
  pub size_is : sizes place ≡ size
  pub by : ServedBy sources s p place

module _ (sources : ℕ → Source) (sizes : ℕ → ℕ) (s : State) (placed : Placed sources sizes s) where
  -- an item that was not put back is served by its own record
  unput_carrier : (i : ℕ) (l : Logged) → slice_get s.items i ≡ Some l → was_put l.handled ≡ false → last_carrier s (position_of l.item) ≡ Vault i
  unput_carrier i l at waits =
      carrier_held s (position_of l.item) i (record { logged = l; there = at; holds = refl; last = placed.unput_last i l at waits }) ∙ unput_vault i l.handled waits

  row_served : (source : Source) (p size : ℕ) → Holds s.graph source p size → Served sources sizes s p size
  row_served source p size held = elim (held_or_not p s.items) [ inl none ↦ given none | inr last ↦ put_back last.0 last.1 ]
    where
      from : IsFrom sources sizes s.len source p size
      from = placed.rows source p size held

      given : Unheld p s.items → Served sources sizes s p size
      given none = record { place = p; below = from.below; carried = carrier_unheld s p none; size_is = from.size_is; by = Given refl }

      put_back : (i : ℕ) → HeldLast p s.items i → Served sources sizes s p size
      put_back i last =
          let l = last.logged in
          let by = put_by l.handled (placed.rows_put source p size held i l last.there last.holds) in
          let put = placed.puts i l by.how last.there by.is by.back in
          let item = placed.items i l last.there in
          record {
            place = by.how.put;
            below = put.below;
            carried = carrier_held s p i last ∙ put_journal i l.handled by;
            size_is = put.size_is ∙ (sym item.size_is ∙ (ap sizes last.holds ∙ from.size_is));
            by = ByPut i l last.there last.holds put.source_is;
          }

  -- two rows that one record serves hold one position
  served_apart : (source other : Source) (p q m n : ℕ) → Holds s.graph source p m → Holds s.graph other q n → last_carrier s p ≡ last_carrier s q → p ≡ q
  served_apart source other p q m n first second same = by_both one.by two.by
    where
      one : Served sources sizes s p m
      one = row_served source p m first

      two : Served sources sizes s q n
      two = row_served other q n second

      places : one.place ≡ two.place
      places = journal_is (sym one.carried ∙ (same ∙ two.carried))

      put_same : {i j : ℕ} → OfPut i ≡ OfPut j → i ≡ j
      put_same is = cc

      by_both : ServedBy sources s p one.place → ServedBy sources s q two.place → p ≡ q
      by_both (Given at) (Given at') = sym at ∙ (places ∙ at')
      by_both (Given at) (ByPut i l there holds put) =
          absurd (not_put s.graph source p m i first (sym (placed.rows source p m first).source_is ∙ (ap sources (sym at ∙ places) ∙ put)))
      by_both (ByPut i l there holds put) (Given at') =
          absurd (not_put s.graph other q n i second (sym (placed.rows other q n second).source_is ∙ (ap sources (sym at' ∙ sym places) ∙ put)))
      by_both (ByPut i l there holds put) (ByPut j k there' holds' put') =
          let place : i ≡ j = put_same (sym put ∙ (ap sources places ∙ put')) in
          let item : l ≡ k = some_is (sym there ∙ (ap (λ (x : ℕ). slice_get s.items x) place ∙ there')) in
          sym holds ∙ (ap (λ (x : Logged). position_of x.item) item ∙ holds')

  pub positions_held : PositionsHeld s
  positions_held = record {
    below = λ p needed. needed_below p (needed_by s p needed);
    objects = λ id row at.
        let served = row_served (OfObject row.id) row.at row.size (object_holds id row at) in (served.place, served.below, served.carried);
    edges = λ key row at.
        let served = row_served (OfEdge row.key) row.birth row.size (edge_holds key row at) in (served.place, served.below, served.carried);
    items = unput_carrier;
    apart = λ a b x y at at' same.
        let one = placed.rows (OfObject x.id) x.at x.size (object_holds a x at) in
        let two = placed.rows (OfObject y.id) y.at y.size (object_holds b y at') in
        sym (found_id s.graph.objects a x at) ∙ (object_is (sym one.source_is ∙ (ap sources same ∙ two.source_is)) ∙ found_id s.graph.objects b y at');
    edges_apart = λ a b x y at at' same.
        let one = placed.rows (OfEdge x.key) x.birth x.size (edge_holds a x at) in
        let two = placed.rows (OfEdge y.key) y.birth y.size (edge_holds b y at') in
        sym (found_key s.graph.edges a x at) ∙ (edge_is (sym one.source_is ∙ (ap sources same ∙ two.source_is)) ∙ found_key s.graph.edges b y at');
    kinds_apart = λ id key x y at at' same.
        let one = placed.rows (OfObject x.id) x.at x.size (object_holds id x at) in
        let two = placed.rows (OfEdge y.key) y.birth y.size (edge_holds key y at') in
        let is : OfObject x.id ≡ OfEdge y.key = sym one.source_is ∙ (ap sources same ∙ two.source_is) in cc is;
  }
    where
      object_holds : (id : ℕ) (row : ObjectRow) → object_at s.graph id ≡ Some row → Holds s.graph (OfObject row.id) row.at row.size
      object_holds id row at = ByObject row (found_in (has_id id) s.graph.objects row at) refl refl refl

      edge_holds : (key : EdgeKey) (row : EdgeRow) → edge_at s.graph key ≡ Some row → Holds s.graph (OfEdge row.key) row.birth row.size
      edge_holds key row at = ByEdge row (found_in (has_key key) s.graph.edges row at) refl refl refl

      needed_below : (p : ℕ) → NeededBy s p → p < s.len
      needed_below p (ByRow source size held) = (placed.rows source p size held).below
      needed_below p (ByItem i l at holds unpurged waits) = subst (λ (n : ℕ). n < s.len) holds (placed.items i l at).below

-- what an entry scrubs

pub data Scrubs (s : State) (w : What) (carrier : Carrier) : Type 0 where
  Gone : (source : Source) (p size : ℕ) → Holds s.graph source p size → gone_of w ≡ source → last_carrier s p ≡ carrier → Scrubs s w carrier
  PutsItem : (job i : ℕ) (l : Logged) → w ≡ Put job i → slice_get s.items i ≡ Some l → judged s l.item ≡ None → Vault i ≡ carrier → Scrubs s w carrier
  Purges : (job i : ℕ) (l : Logged) → w ≡ Purge job → slice_get s.items i ≡ Some l → job_of l.item ≡ job → was_put l.handled ≡ false → Vault i ≡ carrier → Scrubs s w carrier

scrubs_object : (s : State) (w : What) (carrier : Carrier) (id : ℕ) → gone_of w ≡ OfObject id → (o : Option ObjectRow) → object_at s.graph id ≡ o → In (carrier_of_object s o) carrier → Scrubs s w carrier
scrubs_object s w carrier id gone None at here = absurd here
scrubs_object s w carrier id gone (Some row) at (inl same) =
    Gone (OfObject row.id) row.at row.size (ByObject row (found_in (has_id id) s.graph.objects row at) refl refl refl) (gone ∙ ap OfObject (sym (found_id s.graph.objects id row at))) same
scrubs_object s w carrier id gone (Some row) at (inr none) = absurd none

scrubs_edge : (s : State) (w : What) (carrier : Carrier) (key : EdgeKey) → gone_of w ≡ OfEdge key → (o : Option EdgeRow) → edge_at s.graph key ≡ o → In (carrier_of_edge s o) carrier → Scrubs s w carrier
scrubs_edge s w carrier key gone None at here = absurd here
scrubs_edge s w carrier key gone (Some row) at (inl same) =
    Gone (OfEdge row.key) row.birth row.size (ByEdge row (found_in (has_key key) s.graph.edges row at) refl refl refl) (gone ∙ ap OfEdge (sym (found_key s.graph.edges key row at))) same
scrubs_edge s w carrier key gone (Some row) at (inr none) = absurd none

none_cause : (c : Option Cause) → is_none c ≡ true → c ≡ None
none_cause None none = refl
none_cause (Some cause) none = absurd (false≢true none)

scrubs_put : (s : State) (carrier : Carrier) (job i : ℕ) (o : Option Logged) → slice_get s.items i ≡ o → In (carrier_of_put s i o) carrier → Scrubs s (Put job i) carrier
scrubs_put s carrier job i None at here = absurd here
scrubs_put s carrier job i (Some l) at here = by_free (is_none (judged s l.item)) refl here
  where
    by_free : (b : Bool) → is_none (judged s l.item) ≡ b → In (cond b (Vault i ∷ []) []) carrier → Scrubs s (Put job i) carrier
    by_free true free (inl same) = PutsItem job i l refl at (none_cause (judged s l.item) free) same
    by_free true free (inr none) = absurd none
    by_free false free none = absurd none

-- an item of a job that was not put back
abbrev pub IsUnput : ℕ → Logged → Type 0
IsUnput job l = (job_of l.item ≡ job) × (was_put l.handled ≡ false)

unput_in : (job k : ℕ) (xs : List Logged) (carrier : Carrier) → In (unput_of job k xs) carrier →
    (i : ℕ) × ((l : Logged) × (slice_get xs i ≡ Some l) × IsUnput job l × (Vault (k + i) ≡ carrier))
unput_in job k [] carrier here = absurd here
unput_in job k (x ∷ xs) carrier here = by_hit (eqb (job_of x.item) job && not (was_put x.handled)) refl here (unput_in job (k + 1) xs carrier)
  where
    next_place : (i : ℕ) → k + suc i ≡ k + 1 + i
    next_place i = omega arith

    no_more : k + 0 ≡ k
    no_more = omega arith

    rest : ((i : ℕ) × ((l : Logged) × (slice_get xs i ≡ Some l) × IsUnput job l × (Vault (k + 1 + i) ≡ carrier))) →
        (i : ℕ) × ((l : Logged) × (slice_get (x ∷ xs) i ≡ Some l) × IsUnput job l × (Vault (k + i) ≡ carrier))
    rest old = (suc old.0, (old.1.0, old.1.1, old.1.2, ap (λ (n : ℕ). Vault n) (next_place old.0) ∙ old.1.3))

    by_hit : (b : Bool) → (eqb (job_of x.item) job && not (was_put x.handled)) ≡ b → In (cond b (Vault k ∷ unput_of job (k + 1) xs) (unput_of job (k + 1) xs)) carrier →
        (In (unput_of job (k + 1) xs) carrier → (i : ℕ) × ((l : Logged) × (slice_get xs i ≡ Some l) × IsUnput job l × (Vault (k + 1 + i) ≡ carrier))) →
        (i : ℕ) × ((l : Logged) × (slice_get (x ∷ xs) i ≡ Some l) × IsUnput job l × (Vault (k + i) ≡ carrier))
    by_hit true is (inl same) IH =
        let parts = and_parts (eqb (job_of x.item) job) (not (was_put x.handled)) is in
        (zero, (x, refl, (eqb-true (job_of x.item) job parts.0, not-true (was_put x.handled) parts.1), ap (λ (n : ℕ). Vault n) no_more ∙ same))
    by_hit true is (inr old) IH = rest (IH old)
    by_hit false is old IH = rest (IH old)

in_unput : (job k : ℕ) (xs : List Logged) (i : ℕ) (l : Logged) → slice_get xs i ≡ Some l → IsUnput job l → In (unput_of job k xs) (Vault (k + i))
in_unput job k [] i l at is = absurd (cc at)
in_unput job k (x ∷ xs) zero l at is =
    subst (λ (b : Bool). In (cond b (Vault k ∷ unput_of job (k + 1) xs) (unput_of job (k + 1) xs)) (Vault (k + 0))) (sym hit)
    (inl (ap (λ (n : ℕ). Vault n) no_more))
  where
    no_more : k ≡ k + 0
    no_more = omega arith

    one : x ≡ l
    one = some_is at

    hit : (eqb (job_of x.item) job && not (was_put x.handled)) ≡ true
    hit =
        and_from (eqb (job_of x.item) job) (not (was_put x.handled)) (eq-eqb (job_of x.item) job (ap (λ (y : Logged). job_of y.item) one ∙ is.0))
        (not_from_false (was_put x.handled) (ap (λ (y : Logged). was_put y.handled) one ∙ is.1))
in_unput job k (x ∷ xs) (suc i) l at is =
    subst (λ (n : ℕ). In (unput_of job k (x ∷ xs)) (Vault n)) next_place
    (by_hit (eqb (job_of x.item) job && not (was_put x.handled)) (in_unput job (k + 1) xs i l at is))
  where
    next_place : k + 1 + i ≡ k + suc i
    next_place = omega arith

    by_hit : (b : Bool) → In (unput_of job (k + 1) xs) (Vault (k + 1 + i)) → In (cond b (Vault k ∷ unput_of job (k + 1) xs) (unput_of job (k + 1) xs)) (Vault (k + 1 + i))
    by_hit true IH = inr IH
    by_hit false IH = IH

from_zero : (n : ℕ) → 0 + n ≡ n
from_zero n = omega arith

scrubs_of : (s : State) (w : What) (carrier : Carrier) → In (scrubbed_by s w) carrier → Scrubs s w carrier
scrubs_of s (Update tag id size) carrier here = scrubs_object s (Update tag id size) carrier id refl (object_at s.graph id) refl here
scrubs_of s (Unlink tag edge from to name) carrier here = scrubs_edge s (Unlink tag edge from to name) carrier (key_of edge from to) refl (edge_at s.graph (key_of edge from to)) refl here
scrubs_of s (Cut job edge from to) carrier here = scrubs_edge s (Cut job edge from to) carrier (key_of edge from to) refl (edge_at s.graph (key_of edge from to)) refl here
scrubs_of s (Erase job id) carrier here = scrubs_object s (Erase job id) carrier id refl (object_at s.graph id) refl here
scrubs_of s (Put job i) carrier here = scrubs_put s carrier job i (slice_get s.items i) refl here
scrubs_of s (Purge job) carrier here =
    let found = unput_in job 0 s.items carrier here in
    Purges job found.0 found.1.0 refl found.1.1 found.1.2.0 found.1.2.1 (ap (λ (n : ℕ). Vault n) (sym (from_zero found.0)) ∙ found.1.3)
scrubs_of s what carrier here = absurd here

-- what an entry takes, it scrubs

module _ (s : State) (one : (source : Source) (p q m n : ℕ) → Holds s.graph source p m → Holds s.graph source q n → p ≡ q) where
  object_scrubbed : (id : ℕ) (source : Source) (p size : ℕ) → Holds s.graph source p size → OfObject id ≡ source → In (carrier_of_object s (object_at s.graph id)) (last_carrier s p)
  object_scrubbed id source p size (ByEdge row here is at sized) gone = absurd (cc (gone, is))
  object_scrubbed id source p size (ByObject row here is at sized) gone =
      let found = in_found (has_id id) s.graph.objects row here (eq-eqb row.id id (sym (object_is (gone ∙ is)))) in
      let first = found.0 in
      let same_id : first.id ≡ id = found_id s.graph.objects id first found.1 in
      let same : first.at ≡ p =
      one source first.at p first.size size (ByObject first (found_in (has_id id) s.graph.objects first found.1) (sym gone ∙ ap OfObject (sym same_id)) refl refl) (ByObject row here is at sized) in
      subst (λ (o : Option ObjectRow). In (carrier_of_object s o) (last_carrier s p)) (sym found.1) (inl (ap (last_carrier s) same))

  edge_scrubbed : (key : EdgeKey) (source : Source) (p size : ℕ) → Holds s.graph source p size → OfEdge key ≡ source → In (carrier_of_edge s (edge_at s.graph key)) (last_carrier s p)
  edge_scrubbed key source p size (ByObject row here is at sized) gone = absurd (cc (gone, is))
  edge_scrubbed key source p size (ByEdge row here is at sized) gone =
      let found = in_found (has_key key) s.graph.edges row here (ap (λ (k : EdgeKey). same_key row.key k) (edge_is (gone ∙ is)) ∙ same_key_refl row.key) in
      let first = found.0 in
      let same_one : first.key ≡ key = found_key s.graph.edges key first found.1 in
      let same : first.birth ≡ p =
      one source first.birth p first.size size (ByEdge first (found_in (has_key key) s.graph.edges first found.1) (sym gone ∙ ap OfEdge (sym same_one)) refl refl) (ByEdge row here is at sized) in
      subst (λ (o : Option EdgeRow). In (carrier_of_edge s o) (last_carrier s p)) (sym found.1) (inl (ap (last_carrier s) same))

  gone_scrubbed : (w : What) (source : Source) (p size : ℕ) → Holds s.graph source p size → gone_of w ≡ source → In (scrubbed_by s w) (last_carrier s p)
  gone_scrubbed (Update tag id given) source p size held gone = object_scrubbed id source p size held gone
  gone_scrubbed (Unlink tag edge from to name) source p size held gone = edge_scrubbed (key_of edge from to) source p size held gone
  gone_scrubbed (Cut job edge from to) source p size held gone = edge_scrubbed (key_of edge from to) source p size held gone
  gone_scrubbed (Erase job id) source p size held gone = object_scrubbed id source p size held gone
  gone_scrubbed what source p size held gone = absurd (not_none s.graph source p size held gone)

-- one legal entry

module _ (sources : ℕ → Source) (sizes : ℕ → ℕ) (s : State) (e : Entry) (before : Placed sources sizes s) (now : Placed sources sizes (step s e)) (idle : Idle s) (legal : is_legal s e ≡ true) where
  line : is_allowed s e.moment e.what ≡ true
  line = allowed_of s e legal

  row_of : (source : Source) (p size : ℕ) → Holds (step s e).graph source p size → RowNow s e.what source p size
  row_of source p size held = row_now s e.moment e.what line source p size held

  item_of : (j : ℕ) (y : Logged) → slice_get (step s e).items j ≡ Some y → ItemNow s e.what j y
  item_of j y at = item_now s e.moment e.what idle line j y at

  -- a row that stays is served by the record that served it
  row_stays : (source other : Source) (p m n : ℕ) → Holds s.graph source p m → Holds (step s e).graph other p n → last_carrier (step s e) p ≡ last_carrier s p
  row_stays source other p m n old new = elim (held_or_not p s.items) [ inl none ↦ unheld none | inr last ↦ held last.0 last.1 ]
    where
      not_logged : (j : ℕ) (y : Logged) → slice_get (step s e).items j ≡ Some y → position_of y.item ≡ p → LogsNow s e.what j y → ⊥
      not_logged j y at holds logs = unput y.handled logs.waits (now.rows_put other p n new j y at holds)

      unheld : Unheld p s.items → last_carrier (step s e) p ≡ last_carrier s p
      unheld none = carrier_unheld (step s e) p (λ j y at holds. nowhere j y at holds (item_of j y at)) ∙ sym (carrier_unheld s p none)
        where
          nowhere : (j : ℕ) (y : Logged) → slice_get (step s e).items j ≡ Some y → position_of y.item ≡ p → ItemNow s e.what j y → ⊥
          nowhere j y at holds (Was there other) = none j y there holds
          nowhere j y at holds (Logs logs) = not_logged j y at holds logs
          nowhere j y at holds (Handles x handles is) = none j x handles.there (ap (λ (k : Logged). position_of k.item) (sym is) ∙ holds)

      held : (i : ℕ) → HeldLast p s.items i → last_carrier (step s e) p ≡ last_carrier s p
      held i last =
          elim (item_stays s e.moment e.what line i last.logged last.there) [
            | inl there ↦
                carrier_held (step s e) p i (record { logged = last.logged; there = there; holds = last.holds; last = λ j y at holds. before_it j y at holds (item_of j y at) }) ∙
                sym (carrier_held s p i last)
            | inr handled ↦ absurd (unput last.logged.handled handled.0.waits (before.rows_put source p m old i last.logged last.there last.holds))
          ]
        where
          before_it : (j : ℕ) (y : Logged) → slice_get (step s e).items j ≡ Some y → position_of y.item ≡ p → ItemNow s e.what j y → j ≤ i
          before_it j y at holds (Was there other) = last.last j y there holds
          before_it j y at holds (Logs logs) = absurd (not_logged j y at holds logs)
          before_it j y at holds (Handles x handles is) = last.last j x handles.there (ap (λ (k : Logged). position_of k.item) (sym is) ∙ holds)

  -- no item holds the position of the entry
  new_carrier : last_carrier (step s e) s.len ≡ Journal s.len
  new_carrier = carrier_unheld (step s e) s.len (λ j y at holds. nowhere j y holds (item_of j y at))
    where
      nowhere : (j : ℕ) (y : Logged) → position_of y.item ≡ s.len → ItemNow s e.what j y → ⊥
      nowhere j y holds (Was there other) = let lt : position_of y.item < s.len = (before.items j y there).below in omega (arith, holds)
      nowhere j y holds (Logs logs) =
          let lt : position_of y.item < s.len = (before.rows (source_of_item y.item) (position_of y.item) (size_of y.item) logs.stood).below in omega (arith, holds)
      nowhere j y holds (Handles x handles is) =
          let lt : position_of x.item < s.len = (before.items j x handles.there).below in
          let same : position_of x.item ≡ s.len = ap (λ (k : Logged). position_of k.item) (sym is) ∙ holds in omega (arith, same)

  put_same : {a b m n : ℕ} → Put a m ≡ Put b n → m ≡ n
  put_same is = cc

  -- an item that is put back is the last that holds its position, and its put is the record that serves it
  back_carrier : (i : ℕ) (l : Logged) → PutsBack s e.what i l → last_carrier (step s e) (position_of l.item) ≡ Journal s.len
  back_carrier i l back =
      elim (item_stays s e.moment e.what line i l back.there) [
        | inl there ↦ absurd (still there (item_of i l there))
        | inr handled ↦
            carrier_held (step s e) (position_of l.item) i (record { logged = with_how l (put_now s l); there = handled.1; holds = refl; last = λ j y at holds. before_it j y holds (item_of j y at) }) ∙
            ap (λ (c : Option Cause). cond (is_none c) (Journal s.len) (Vault i)) back.free
      ]
    where
      still : slice_get (step s e).items i ≡ Some l → ItemNow s e.what i l → ⊥
      still there (Was old other) = other back.job back.puts
      still there (Logs logs) = not_none s.graph (source_of_item l.item) (position_of l.item) (size_of l.item) logs.stood (ap gone_of (sym back.puts) ∙ logs.gone)
      still there (Handles x handles is) =
          let none : None ≡ Some (put_now s x) = sym back.waits ∙ ap (λ (k : Logged). k.handled) is in cc none

      before_it : (j : ℕ) (y : Logged) → position_of y.item ≡ position_of l.item → ItemNow s e.what j y → j ≤ i
      before_it j y holds (Was there other) = before.unput_last i l back.there (ap was_put back.waits) j y there holds
      before_it j y holds (Logs logs) =
          absurd (not_none s.graph (source_of_item y.item) (position_of y.item) (size_of y.item) logs.stood (ap gone_of (sym back.puts) ∙ logs.gone))
      before_it j y holds (Handles x handles is) =
          before.unput_last i l back.there (ap was_put back.waits) j x handles.there (ap (λ (k : Logged). position_of k.item) (sym is) ∙ holds)

  -- a job that is not purged now was not
  unpurged_before : (job : ℕ) → is_purged (step s e).jobs job ≡ false → is_purged s.jobs job ≡ false
  unpurged_before job unpurged =
      elim (purged_now s e.moment e.what job line) [
        | inl same ↦ sym same ∙ unpurged
        | inr purges ↦ absurd (false≢true (sym unpurged ∙ purges.purged))
      ]

  carried_row : (source : Source) (p size : ℕ) → Holds (step s e).graph source p size → RowNow s e.what source p size → Carried s e p
  carried_row source p size held (Old old kept) = Stays (row_needed s source p size old) (row_stays source source p size size old held)
  carried_row source p size held (New at is sized brought only) = Brought at brought (ap (last_carrier (step s e)) at ∙ new_carrier)
  carried_row source p size held (Back i l back is at sized free) =
      PutBack back.job i l back.puts back.there back.free at
      (item_needed s p i l back.there (sym at) (before.unpurged i l back.there back.opened) (ap was_put back.waits))
      (ap (last_carrier s) at ∙ unput_carrier sources sizes s before i l back.there (ap was_put back.waits))
      (ap (last_carrier (step s e)) at ∙ back_carrier i l back)

  carried_item : (p j : ℕ) (y : Logged) → slice_get (step s e).items j ≡ Some y → position_of y.item ≡ p → is_purged (step s e).jobs (job_of y.item) ≡ false → was_put y.handled ≡ false →
      ItemNow s e.what j y → Carried s e p
  carried_item p j y at holds unpurged waits (Was old other) =
      Stays (item_needed s p j y old holds (unpurged_before (job_of y.item) unpurged) waits)
      (subst (λ (n : ℕ). last_carrier (step s e) n ≡ last_carrier s n) holds
      (unput_carrier sources sizes (step s e) now j y at waits ∙ sym (unput_carrier sources sizes s before j y old waits)))
  carried_item p j y at holds unpurged waits (Logs logs) =
      Taken (logs.took ∙ ap (λ (n : ℕ). Some n) holds)
      (subst (λ (n : ℕ). is_needed s n ≡ true) holds (row_needed s (source_of_item y.item) (position_of y.item) (size_of y.item) logs.stood))
      (ap (last_carrier (step s e)) (sym holds) ∙ (unput_carrier sources sizes (step s e) now j y at waits ∙ ap (λ (n : ℕ). Vault n) logs.last))
  carried_item p j y at holds unpurged waits (Handles x handles is) =
      let item : y.item ≡ x.item = ap (λ (k : Logged). k.item) is in
      let holds_before : position_of x.item ≡ p = ap position_of (sym item) ∙ holds in
      Stays (item_needed s p j x handles.there holds_before
      (unpurged_before (job_of x.item) (subst (λ (n : ℕ). is_purged (step s e).jobs n ≡ false) (ap job_of item) unpurged)) (ap was_put handles.waits))
      (ap (last_carrier (step s e)) (sym holds) ∙ (unput_carrier sources sizes (step s e) now j y at waits ∙
      (sym (unput_carrier sources sizes s before j x handles.there (ap was_put handles.waits)) ∙ ap (last_carrier s) holds_before)))

  carried_by : (p : ℕ) → NeededBy (step s e) p → Carried s e p
  carried_by p (ByRow source size held) = carried_row source p size held (row_of source p size held)
  carried_by p (ByItem j y at holds unpurged waits) = carried_item p j y at holds unpurged waits (item_of j y at)

  -- the record of a row is none of an item that was not put back
  row_or_item : (source : Source) (p size i : ℕ) → Holds (step s e).graph source p size → last_carrier (step s e) p ≡ Vault i → ⊥
  row_or_item source p size i held is =
      let served = row_served sources sizes (step s e) now source p size held in vault_journal i served.place (sym is ∙ served.carried)

  item_carrier : (p j : ℕ) (y : Logged) → slice_get (step s e).items j ≡ Some y → position_of y.item ≡ p → was_put y.handled ≡ false → last_carrier (step s e) p ≡ Vault j
  item_carrier p j y at holds waits = ap (last_carrier (step s e)) (sym holds) ∙ unput_carrier sources sizes (step s e) now j y at waits

  -- what an entry takes from the graph is served by an earlier record, which serves nothing after it
  dead_gone : (source : Source) (p size : ℕ) → Holds s.graph source p size → gone_of e.what ≡ source → (q : ℕ) → NeededBy (step s e) q → last_carrier (step s e) q ≡ last_carrier s p → ⊥
  dead_gone source p size held gone q needed same = by_need needed
    where
      served : Served sources sizes s p size
      served = row_served sources sizes s before source p size held

      not_here : last_carrier (step s e) q ≡ Journal s.len → ⊥
      not_here is =
          let place : s.len ≡ served.place = journal_is (sym is ∙ (same ∙ served.carried)) in
          let lt : served.place < s.len = served.below in omega arith

      by_row : (other : Source) (n : ℕ) → Holds (step s e).graph other q n → RowNow s e.what other q n → ⊥
      by_row other n new (Old old kept) =
          let one : q ≡ p = served_apart sources sizes s before other source q p n size old held (sym (row_stays other other q n n old new) ∙ same) in
          kept (gone ∙ (sym (before.rows source p size held).source_is ∙ (ap sources (sym one) ∙ (before.rows other q n old).source_is)))
      by_row other n new (New at is sized brought only) = not_here (ap (last_carrier (step s e)) at ∙ new_carrier)
      by_row other n new (Back i l back is at sized free) = not_here (ap (last_carrier (step s e)) at ∙ back_carrier i l back)

      by_need : NeededBy (step s e) q → ⊥
      by_need (ByRow other n new) = by_row other n new (row_of other q n new)
      by_need (ByItem j y at holds unpurged waits) = vault_journal j served.place (sym (item_carrier q j y at holds waits) ∙ (same ∙ served.carried))

  dead_put : (job i : ℕ) (l : Logged) → e.what ≡ Put job i → slice_get s.items i ≡ Some l → judged s l.item ≡ None → (q : ℕ) → NeededBy (step s e) q → last_carrier (step s e) q ≡ Vault i → ⊥
  dead_put job i l puts there free q (ByRow other n new) same = row_or_item other q n i new same
  dead_put job i l puts there free q (ByItem j y at holds unpurged waits) same = by_item (item_of j y at)
    where
      place : j ≡ i
      place = vault_is (sym (item_carrier q j y at holds waits) ∙ same)

      by_item : ItemNow s e.what j y → ⊥
      by_item (Was old other) = other job (puts ∙ ap (λ (n : ℕ). Put job n) (sym place))
      by_item (Logs logs) = not_none s.graph (source_of_item y.item) (position_of y.item) (size_of y.item) logs.stood (ap gone_of (sym puts) ∙ logs.gone)
      by_item (Handles x handles is) =
          let one : x ≡ l = some_is (sym handles.there ∙ (ap (λ (n : ℕ). slice_get s.items n) place ∙ there)) in
          let put : was_put y.handled ≡ true = ap (λ (k : Logged). was_put k.handled) is ∙ ap (λ (c : Option Cause). is_none c) (ap (λ (k : Logged). judged s k.item) one ∙ free) in
          false≢true (sym waits ∙ put)

  dead_purge : (job i : ℕ) (l : Logged) → e.what ≡ Purge job → slice_get s.items i ≡ Some l → job_of l.item ≡ job → (q : ℕ) → NeededBy (step s e) q → last_carrier (step s e) q ≡ Vault i → ⊥
  dead_purge job i l purges there of_job q (ByRow other n new) same = row_or_item other q n i new same
  dead_purge job i l purges there of_job q (ByItem j y at holds unpurged waits) same =
      elim (item_stays s e.moment e.what line i l there) [
        | inl still ↦ by_item still
        | inr handled ↦ absurd (let put : Purge job ≡ Put handled.0.job i = sym purges ∙ handled.0.puts in cc put)
      ]
    where
      place : j ≡ i
      place = vault_is (sym (item_carrier q j y at holds waits) ∙ same)

      by_item : slice_get (step s e).items i ≡ Some l → ⊥
      by_item still =
          let one : y ≡ l = some_is (sym at ∙ (ap (λ (n : ℕ). slice_get (step s e).items n) place ∙ still)) in
          let job_is : job_of y.item ≡ job = ap (λ (k : Logged). job_of k.item) one ∙ of_job in
          let purged : is_purged (step s e).jobs job ≡ true = (purge_now s e.moment e.what job line (ap (is_purge_of job) purges ∙ eq-eqb job job refl)).purged in
          false≢true (sym unpurged ∙ (ap (is_purged (step s e).jobs) job_is ∙ purged))

  dead_by : (carrier : Carrier) → Scrubs s e.what carrier → IsLive (step s e) carrier → ⊥
  dead_by carrier (Gone source p size held gone is) (q, needed, same) = dead_gone source p size held gone q (needed_by (step s e) q needed) (same ∙ sym is)
  dead_by carrier (PutsItem job i l puts there free is) (q, needed, same) = dead_put job i l puts there free q (needed_by (step s e) q needed) (same ∙ sym is)
  dead_by carrier (Purges job i l purges there of_job waits is) (q, needed, same) = dead_purge job i l purges there of_job q (needed_by (step s e) q needed) (same ∙ sym is)

  -- an item that an entry puts is an unhandled one
  put_waits : (job i : ℕ) (l : Logged) → e.what ≡ Put job i → slice_get s.items i ≡ Some l → HandlesNow s e.what i l
  put_waits job i l puts there = elim (item_stays s e.moment e.what line i l there) [ inl still ↦ by_item (item_of i l still) | inr handled ↦ handled.0 ]
    where
      by_item : ItemNow s e.what i l → HandlesNow s e.what i l
      by_item (Was old other) = absurd (other job puts)
      by_item (Logs logs) =
          absurd (not_none s.graph (source_of_item l.item) (position_of l.item) (size_of l.item) logs.stood (ap gone_of (sym puts) ∙ logs.gone))
      by_item (Handles x handles is) = subst (λ (y : Logged). HandlesNow s e.what i y) (some_is (sym handles.there ∙ there)) handles

  live_by : (carrier : Carrier) → Scrubs s e.what carrier → IsLive s carrier
  live_by carrier (Gone source p size held gone is) = (p, row_needed s source p size held, is)
  live_by carrier (PutsItem job i l puts there free is) =
      let handles = put_waits job i l puts there in
      let waits : was_put l.handled ≡ false = ap was_put handles.waits in (
        position_of l.item,
        item_needed s (position_of l.item) i l there refl (before.unpurged i l there handles.opened) waits,
        unput_carrier sources sizes s before i l there waits ∙ is,
      )
  live_by carrier (Purges job i l purges there of_job waits is) =
      let now_purged = purge_now s e.moment e.what job line (ap (is_purge_of job) purges ∙ eq-eqb job job refl) in (
        position_of l.item,
        item_needed s (position_of l.item) i l there refl (ap (is_purged s.jobs) of_job ∙ now_purged.unpurged) waits,
        unput_carrier sources sizes s before i l there waits ∙ is,
      )

  -- what was served is served by the same record, or this record is scrubbed
  all_by : (carrier : Carrier) (p : ℕ) → NeededBy s p → last_carrier s p ≡ carrier → IsLive (step s e) carrier ⊎ In (scrubbed_by s e.what) carrier
  all_by carrier p (ByRow source size held) is =
      elim (row_goes s e.moment e.what line source p size held) [
        | inl stays ↦ inl (p, row_needed (step s e) source p size stays, row_stays source source p size size held stays ∙ is)
        | inr gone ↦ inr (subst (λ (c : Carrier). In (scrubbed_by s e.what) c) is (gone_scrubbed s before.one e.what source p size held gone))
      ]
  all_by carrier p (ByItem i l at holds unpurged waits) is =
      elim (item_stays s e.moment e.what line i l at) [
        | inl there ↦ still there
        | inr handled ↦ was_handled handled.0 handled.1
      ]
    where
      own : Vault i ≡ carrier
      own = sym (unput_carrier sources sizes s before i l at waits) ∙ (ap (last_carrier s) holds ∙ is)

      live : (y : Logged) → slice_get (step s e).items i ≡ Some y → y.item ≡ l.item → was_put y.handled ≡ false → is_purged (step s e).jobs (job_of l.item) ≡ false →
          IsLive (step s e) carrier ⊎ In (scrubbed_by s e.what) carrier
      live y there same waits_now unpurged_now =
          let holds_now : position_of y.item ≡ p = ap position_of same ∙ holds in
          inl (
            p,
            item_needed (step s e) p i y there holds_now (ap (is_purged (step s e).jobs) (ap job_of same) ∙ unpurged_now) waits_now,
            item_carrier p i y there holds_now waits_now ∙ own,
          )

      still : slice_get (step s e).items i ≡ Some l → IsLive (step s e) carrier ⊎ In (scrubbed_by s e.what) carrier
      still there =
          elim (purged_now s e.moment e.what (job_of l.item) line) [
            | inl same ↦ live l there refl waits (same ∙ unpurged)
            | inr purges ↦
                inr (subst (λ (w : What). In (scrubbed_by s w) carrier) (sym purges.purges)
                (subst (λ (c : Carrier). In (unput_of (job_of l.item) 0 s.items) c) (ap (λ (n : ℕ). Vault n) (from_zero i) ∙ own)
                (in_unput (job_of l.item) 0 s.items i l at (refl, waits))))
          ]

      was_handled : HandlesNow s e.what i l → slice_get (step s e).items i ≡ Some (with_how l (put_now s l)) → IsLive (step s e) carrier ⊎ In (scrubbed_by s e.what) carrier
      was_handled handles there = by_free (is_none (judged s l.item)) refl
        where
          by_free : (b : Bool) → is_none (judged s l.item) ≡ b → IsLive (step s e) carrier ⊎ In (scrubbed_by s e.what) carrier
          by_free true free =
              inr (subst (λ (w : What). In (scrubbed_by s w) carrier) (sym handles.puts)
              (subst (λ (o : Option Logged). In (carrier_of_put s i o) carrier) (sym at)
              (subst (λ (b : Bool). In (cond b (Vault i ∷ []) []) carrier) (sym free) (inl own))))
          by_free false listed =
              live (with_how l (put_now s l)) there refl listed
              (elim (purged_now s e.moment e.what (job_of l.item) line) [
                | inl same ↦ same ∙ unpurged
                | inr purges ↦ absurd (let put : Purge (job_of l.item) ≡ Put handles.job i = sym purges.purges ∙ handles.puts in cc put)
              ])

  pub payloads_move : PayloadsMove s e
  payloads_move = record {
    carried = λ p needed. carried_by p (needed_by (step s e) p needed);
    was_live = λ carrier scrubbed. live_by carrier (scrubs_of s e.what carrier (contains_in (scrubbed_by s e.what) carrier scrubbed));
    dead = λ carrier scrubbed live. dead_by carrier (scrubs_of s e.what carrier (contains_in (scrubbed_by s e.what) carrier scrubbed)) live;
    all = λ carrier live. all_found carrier (all_by carrier live.0 (needed_by s live.0 live.1) live.2);
  }
    where
      all_found : (carrier : Carrier) → IsLive (step s e) carrier ⊎ In (scrubbed_by s e.what) carrier → IsLive (step s e) carrier ⊎ Contains (scrubbed_by s e.what) carrier
      all_found carrier (inl live) = inl live
      all_found carrier (inr here) = inr (in_contains (scrubbed_by s e.what) carrier here)

-- every legal history

moves_after : (rules : RuleSet) (h : List Entry) → Legal rules h → (e : Entry) → is_legal (after rules h) e ≡ true → PayloadsMove (after rules h) e
moves_after rules h legal e next =
    payloads_move sources sizes s e before
    (placed_step sources sizes s e before idle next (next_new s.len (source_of e.what) (sources_in h)) (next_new s.len (record_size s e.what) (sizes_in rules h)))
    idle next
  where
    s : State
    s = after rules h

    sources : ℕ → Source
    sources = with_next s.len (source_of e.what) (sources_in h)

    sizes : ℕ → ℕ
    sizes = with_next s.len (record_size s e.what) (sizes_in rules h)

    idle : Idle s
    idle = (good_after rules h legal).idle

    before : Placed sources sizes s
    before =
        placed_again (sources_in h) sources (sizes_in rules h) sizes s (next_old s.len (source_of e.what) (sources_in h)) (next_old s.len (record_size s e.what) (sizes_in rules h))
        (placed_after rules h legal)

pub payloads_held : (rules : RuleSet) (h : List Entry) → Legal rules h → PayloadsAreHeld rules h
payloads_held rules h legal = record {
  held = positions_held (sources_in h) (sizes_in rules h) (after rules h) (placed_after rules h legal);
  object_sizes = λ id row q at carried.
      has_size (OfObject row.id) row.at row.size q (ByObject row (found_in (has_id id) (after rules h).graph.objects row at) refl refl refl) carried;
  edge_sizes = λ key row q at carried.
      has_size (OfEdge row.key) row.birth row.size q (ByEdge row (found_in (has_key key) (after rules h).graph.edges row at) refl refl refl) carried;
  moves = λ e next. moves_after rules h legal e next;
}
  where
    has_size : (source : Source) (p size q : ℕ) → Holds (after rules h).graph source p size → last_carrier (after rules h) p ≡ Journal q → HasSize rules h q size
    has_size source p size q held carried e there =
        let served = row_served (sources_in h) (sizes_in rules h) (after rules h) (placed_after rules h legal) source p size held in
        let place : q ≡ served.place = journal_is (sym carried ∙ served.carried) in
        sym (size_there rules h q e there) ∙ (ap (sizes_in rules h) place ∙ served.size_is)
