-- Where each payload is, in every state after a legal history.
use Rattle.std.proofs.Common.{◌≡◌, ℕ, zero, suc, ◌+◌, ◌≤◌, ◌<◌, Bool, true, false, cond, eqb, ltb, List, [], ◌∷◌, length, take, Option, Some, None, refl, sym, ap, ◌∙◌, subst, arith, inl, inr}
use Rattle.std.proofs.lemmas.Bool.{and_parts, and_from, eq-eqb, false≢true, cases_Bool, lt-ltb, le-ltb, true_from_ne_false}
use Rattle.std.proofs.lemmas.Option.{slice_get_within}
use Rattle.std.proofs.lemmas.List.Sums.{sum_by-cons}
use Rattle.std.specs.Prelude.{slice_get, is_none, count_by}
use Rattle.delf_model.specs.declared.call.Cause.{Cause}
use Rattle.delf_model.specs.declared.entry.Entry.{Entry}
use Rattle.delf_model.specs.declared.entry.What.TheVariants.{Put}
use Rattle.delf_model.specs.RuleSet.{RuleSet}
use Rattle.delf_model.specs.State.{State, Logged, Handled, start, position_of, size_of, job_of, is_restored, is_open, is_open_of, left}
use Rattle.delf_model.specs.Step.{step, run, after}
use Rattle.delf_model.specs.Puts.{judged}
use Rattle.delf_model.specs.Legal.{is_legal, is_legal_from, is_allowed, Legal}
use Rattle.delf_model.specs.Report.{was_put}
use Rattle.delf_model.specs.Payloads.{is_purged}
use Rattle.delf_model.proofs.Lines.{allowed_of}
use Rattle.delf_model.proofs.Jobs.{Idle, is_restore_of, restored_same}
use Rattle.delf_model.proofs.Good.{Good, good_start, good_step}
use Rattle.payload_laws.specs.Holders.{record_size, put_size, brings}
use Rattle.payload_laws.proofs.Members.{some_is}
use Rattle.payload_laws.proofs.Rows.{Source, OfNone, OfPut, source_of, gone_of, source_of_item, Holds, ByObject, ByEdge, item_not_none, RowNow, Old, New, Back, PutsBack, row_now}
use Rattle.payload_laws.proofs.Items.{ItemNow, Old as Was, Logs, Handles, put_now, item_now, PurgesNow, purged_now, restore_unpurged}

-- the entry at this position, which is below the length, serves this source with a payload of this size
pub record IsFrom (sources : ℕ → Source) (sizes : ℕ → ℕ) (len : ℕ) (source : Source) (p size : ℕ) : Type 0 where
  pub below : p < len
  pub source_is : sources p ≡ source
  pub size_is : sizes p ≡ size

pub record Placed (sources : ℕ → Source) (sizes : ℕ → ℕ) (s : State) : Type 0 where
  pub rows : (source : Source) (p size : ℕ) → Holds s.graph source p size → IsFrom sources sizes s.len source p size
  -- each object and each edge has one payload
  pub one : (source : Source) (p q m n : ℕ) → Holds s.graph source p m → Holds s.graph source q n → p ≡ q
  pub items : (i : ℕ) (l : Logged) → slice_get s.items i ≡ Some l → IsFrom sources sizes s.len (source_of_item l.item) (position_of l.item) (size_of l.item)
  pub puts : (i : ℕ) (l : Logged) (how : Handled) → slice_get s.items i ≡ Some l → l.handled ≡ Some how → how.cause ≡ None →
      IsFrom sources sizes s.len (OfPut i) how.put (size_of l.item)
  -- an item that was not put back is the last that holds its position
  pub unput_last : (i : ℕ) (l : Logged) → slice_get s.items i ≡ Some l → was_put l.handled ≡ false →
      (j : ℕ) (y : Logged) → slice_get s.items j ≡ Some y → position_of y.item ≡ position_of l.item → j ≤ i
  -- the items that hold the position of a row of the graph were put back
  pub rows_put : (source : Source) (p size : ℕ) → Holds s.graph source p size →
      (j : ℕ) (y : Logged) → slice_get s.items j ≡ Some y → position_of y.item ≡ p → was_put y.handled ≡ true
  pub unpurged : (i : ℕ) (l : Logged) → slice_get s.items i ≡ Some l → is_open s.jobs l ≡ true → is_purged s.jobs (job_of l.item) ≡ false

later : {sources : ℕ → Source} {sizes : ℕ → ℕ} {len : ℕ} {source : Source} {p size : ℕ} → IsFrom sources sizes len source p size → IsFrom sources sizes (len + 1) source p size
later from = record { below = (let lt = from.below in omega (arith, lt)); source_is = from.source_is; size_is = from.size_is }

moved : {sources : ℕ → Source} {sizes : ℕ → ℕ} {len : ℕ} {source other : Source} {p q size given : ℕ} → source ≡ other → p ≡ q → size ≡ given →
    IsFrom sources sizes len other q given → IsFrom sources sizes len source p size
moved same at sized from = record {
  below = (let lt = from.below in omega (arith, lt, at));
  source_is = cc (from.source_is, same, at);
  size_is = cc (from.size_is, sized, at);
}

pub unput : (o : Option Handled) → o ≡ None → was_put o ≡ true → ⊥
unput o none put = false≢true (ap was_put (sym none) ∙ put)

count_at : (q : Logged → Bool) (xs : List Logged) (i : ℕ) (l : Logged) → slice_get xs i ≡ Some l → q l ≡ true → 0 < count_by q xs
count_at q [] i l at passes = absurd (cc at)
count_at q (x ∷ xs) zero l at passes =
    let here : one_if (q x) ≡ 1 = ap one_if (ap q (some_is at) ∙ passes) in
    omega (arith, sum_by-cons (λ y. one_if (q y)) x xs, here)
  where
    one_if : Bool → ℕ
    one_if b = cond b 1 0
count_at q (x ∷ xs) (suc i) l at passes = omega (arith, sum_by-cons (λ y. cond (q y) 1 0) x xs, count_at q xs i l at passes)

module _ (sources : ℕ → Source) (sizes : ℕ → ℕ) (s : State) (e : Entry) (placed : Placed sources sizes s) (idle : Idle s) (legal : is_legal s e ≡ true)
    (source_here : sources s.len ≡ source_of e.what) (size_here : sizes s.len ≡ record_size s e.what) where
  line : is_allowed s e.moment e.what ≡ true
  line = allowed_of s e legal

  row_of : (source : Source) (p size : ℕ) → Holds (step s e).graph source p size → RowNow s e.what source p size
  row_of source p size held = row_now s e.moment e.what line source p size held

  item_of : (j : ℕ) (y : Logged) → slice_get (step s e).items j ≡ Some y → ItemNow s e.what j y
  item_of j y at = item_now s e.moment e.what idle line j y at

  here_below : s.len < s.len + 1
  here_below = omega arith

  rows_step : (source : Source) (p size : ℕ) → Holds (step s e).graph source p size → IsFrom sources sizes (s.len + 1) source p size
  rows_step source p size held = by_row (row_of source p size held)
    where
      by_row : RowNow s e.what source p size → IsFrom sources sizes (s.len + 1) source p size
      by_row (Old old kept) = later (placed.rows source p size old)
      by_row (New at is sized brought only) =
          moved (sym is) at (sym sized) (record { below = here_below; source_is = source_here; size_is = size_here })
      by_row (Back i l back is at sized free) = later (moved is at sized (placed.items i l back.there))

  one_step : (source : Source) (p q m n : ℕ) → Holds (step s e).graph source p m → Holds (step s e).graph source q n → p ≡ q
  one_step source p q m n first second = by_rows (row_of source p m first) (row_of source q n second)
    where
      same_item : (i j : ℕ) (l k : Logged) → PutsBack s e.what i l → PutsBack s e.what j k → position_of l.item ≡ position_of k.item
      same_item i j l k one two =
          let place : i ≡ j = put_same (sym one.puts ∙ two.puts) in
          ap (λ (x : Logged). position_of x.item) (some_is (sym one.there ∙ (ap (λ (x : ℕ). slice_get s.items x) place ∙ two.there)))
        where
          put_same : {a b x y : ℕ} → Put a x ≡ Put b y → x ≡ y
          put_same is = cc

      not_both : (i : ℕ) (l : Logged) → PutsBack s e.what i l → brings e.what ≡ true → ⊥
      not_both i l back brought = false≢true (sym (ap brings back.puts) ∙ brought)

      by_rows : RowNow s e.what source p m → RowNow s e.what source q n → p ≡ q
      by_rows (Old old kept) (Old old' kept') = placed.one source p q m n old old'
      by_rows (Old old kept) (New at is sized brought only) = absurd (kept (only p m old))
      by_rows (Old old kept) (Back i l back is at sized free) = absurd (free p m old)
      by_rows (New at is sized brought only) (Old old kept) = absurd (kept (only q n old))
      by_rows (New at is sized brought only) (New at' is' sized' brought' only') = at ∙ sym at'
      by_rows (New at is sized brought only) (Back i l back is' at' sized' free) = absurd (not_both i l back brought)
      by_rows (Back i l back is at sized free) (Old old kept) = absurd (free q n old)
      by_rows (Back i l back is at sized free) (New at' is' sized' brought only) = absurd (not_both i l back brought)
      by_rows (Back i l back is at sized free) (Back j k back' is' at' sized' free') = at ∙ (same_item i j l k back back' ∙ sym at')

  items_step : (i : ℕ) (l : Logged) → slice_get (step s e).items i ≡ Some l → IsFrom sources sizes (s.len + 1) (source_of_item l.item) (position_of l.item) (size_of l.item)
  items_step i l at = by_item (item_of i l at)
    where
      by_item : ItemNow s e.what i l → IsFrom sources sizes (s.len + 1) (source_of_item l.item) (position_of l.item) (size_of l.item)
      by_item (Was old other) = later (placed.items i l old)
      by_item (Logs logs) = later (placed.rows (source_of_item l.item) (position_of l.item) (size_of l.item) logs.stood)
      by_item (Handles x now is) =
          subst (λ (y : Logged). IsFrom sources sizes (s.len + 1) (source_of_item y.item) (position_of y.item) (size_of y.item)) (sym is) (later (placed.items i x now.there))

  puts_step : (i : ℕ) (l : Logged) (how : Handled) → slice_get (step s e).items i ≡ Some l → l.handled ≡ Some how → how.cause ≡ None →
      IsFrom sources sizes (s.len + 1) (OfPut i) how.put (size_of l.item)
  puts_step i l how at handled free = by_item (item_of i l at)
    where
      by_item : ItemNow s e.what i l → IsFrom sources sizes (s.len + 1) (OfPut i) how.put (size_of l.item)
      by_item (Was old other) = later (placed.puts i l how old handled free)
      by_item (Logs logs) = absurd (cc (logs.waits, handled))
      by_item (Handles x now is) =
          let how_is : put_now s x ≡ how = some_is (ap (λ (y : Logged). y.handled) (sym is) ∙ handled) in
          let free_now : judged s x.item ≡ None = ap (λ (h : Handled). h.cause) how_is ∙ free in
          let sized : record_size s e.what ≡ size_of x.item =
          ap (record_size s) now.puts ∙ (ap (put_size s) now.there ∙ ap (λ (c : Option Cause). cond (is_none c) (size_of x.item) 0) free_now) in
          moved refl (sym (ap (λ (h : Handled). h.put) how_is)) (ap (λ (y : Logged). size_of y.item) is)
          (record { below = here_below; source_is = source_here ∙ ap source_of now.puts; size_is = size_here ∙ sized })

  unput_step : (i : ℕ) (l : Logged) → slice_get (step s e).items i ≡ Some l → was_put l.handled ≡ false →
      (j : ℕ) (y : Logged) → slice_get (step s e).items j ≡ Some y → position_of y.item ≡ position_of l.item → j ≤ i
  unput_step i l at waits j y there same = by_items (item_of i l at) (item_of j y there)
    where
      -- an old item that was not put back is after each old one that holds its position, and none is logged that holds it
      over : (x : Logged) → slice_get s.items i ≡ Some x → was_put x.handled ≡ false → position_of x.item ≡ position_of l.item → ItemNow s e.what j y → j ≤ i
      over x old unput_still holds (Was old' other) = placed.unput_last i x old unput_still j y old' (same ∙ sym holds)
      over x old unput_still holds (Logs logs) =
          absurd (false≢true (sym unput_still ∙
          placed.rows_put (source_of_item y.item) (position_of y.item) (size_of y.item) logs.stood i x old (holds ∙ sym same)))
      over x old unput_still holds (Handles z now is) =
          placed.unput_last i x old unput_still j z now.there (ap (λ (k : Logged). position_of k.item) (sym is) ∙ (same ∙ sym holds))

      within : (x : Logged) → slice_get s.items j ≡ Some x → i ≡ length s.items → j ≤ i
      within x old last = let lt : j < length s.items = slice_get_within s.items j x old in omega arith

      by_items : ItemNow s e.what i l → ItemNow s e.what j y → j ≤ i
      by_items (Was old other) now = over l old waits refl now
      by_items (Handles x now is) then =
          over x now.there (ap was_put now.waits) (ap (λ (k : Logged). position_of k.item) (sym is)) then
      by_items (Logs logs) (Was old other) = within y old logs.last
      by_items (Logs logs) (Logs logs') = let one : i ≡ length s.items = logs.last in let two : j ≡ length s.items = logs'.last in omega arith
      by_items (Logs logs) (Handles x now is) = within x now.there logs.last

  rows_put_step : (source : Source) (p size : ℕ) → Holds (step s e).graph source p size →
      (j : ℕ) (y : Logged) → slice_get (step s e).items j ≡ Some y → position_of y.item ≡ p → was_put y.handled ≡ true
  rows_put_step source p size held j y there holds = by_both (row_of source p size held) (item_of j y there)
    where
      old_below : position_of y.item < s.len → p ≡ s.len → ⊥
      old_below lt at = absurd (omega (arith, holds))

      item_below : ItemNow s e.what j y → position_of y.item < s.len
      item_below (Was old other) = (placed.items j y old).below
      item_below (Logs logs) = (placed.rows (source_of_item y.item) (position_of y.item) (size_of y.item) logs.stood).below
      item_below (Handles x now is) = subst (λ (k : Logged). position_of k.item < s.len) (sym is) (placed.items j x now.there).below

      back_now : (i : ℕ) (l : Logged) → PutsBack s e.what i l → p ≡ position_of l.item → ItemNow s e.what j y → was_put y.handled ≡ true
      back_now i l back at (Was old other) =
          true_from_ne_false (was_put y.handled) (λ waits.
          let one : i ≤ j = placed.unput_last j y old waits i l back.there (sym at ∙ sym holds) in
          let two : j ≤ i = placed.unput_last i l back.there (ap was_put back.waits) j y old (holds ∙ at) in
          let same : i ≡ j = omega arith in
          other back.job (back.puts ∙ ap (λ (n : ℕ). Put back.job n) same))
      back_now i l back at (Logs logs) = absurd (item_not_none y.item (ap gone_of (sym back.puts) ∙ logs.gone))
      back_now i l back at (Handles x now is) =
          let place : i ≡ j = put_same (sym back.puts ∙ now.puts) in
          let one : l ≡ x = some_is (sym back.there ∙ (ap (λ (n : ℕ). slice_get s.items n) place ∙ now.there)) in
          let free : judged s x.item ≡ None = ap (λ (k : Logged). judged s k.item) (sym one) ∙ back.free in
          ap (λ (k : Logged). was_put k.handled) is ∙ ap (λ (c : Option Cause). is_none c) free
        where
          put_same : {a b m n : ℕ} → Put a m ≡ Put b n → m ≡ n
          put_same is = cc

      by_both : RowNow s e.what source p size → ItemNow s e.what j y → was_put y.handled ≡ true
      by_both (Old old kept) (Was old' other) = placed.rows_put source p size old j y old' holds
      by_both (Old old kept) (Logs logs) =
          let row = placed.rows source p size old in
          let took = placed.rows (source_of_item y.item) (position_of y.item) (size_of y.item) logs.stood in
          absurd (kept (logs.gone ∙ (sym took.source_is ∙ (ap sources holds ∙ row.source_is))))
      by_both (Old old kept) (Handles x now is) =
          absurd (unput x.handled now.waits (placed.rows_put source p size old j x now.there (ap (λ (k : Logged). position_of k.item) (sym is) ∙ holds)))
      by_both (New at is sized brought only) item = absurd (old_below (item_below item) at)
      by_both (Back i l back is at sized free) item = back_now i l back at item

  unpurged_step : (i : ℕ) (l : Logged) → slice_get (step s e).items i ≡ Some l → is_open (step s e).jobs l ≡ true → is_purged (step s e).jobs (job_of l.item) ≡ false
  unpurged_step i l at opened = by_item (item_of i l at)
    where
      parts : (is_none l.handled ≡ true) × (is_restored (step s e).jobs (job_of l.item) ≡ true)
      parts = and_parts (is_none l.handled) (is_restored (step s e).jobs (job_of l.item)) opened

      was_open : is_restore_of (job_of l.item) e.what ≡ false → is_open s.jobs l ≡ true
      was_open other =
          and_from (is_none l.handled) (is_restored s.jobs (job_of l.item)) parts.0
          (sym (restored_same s e.moment e.what (job_of l.item) other) ∙ parts.1)

      no_purge : {job : ℕ} → PurgesNow s e.moment e.what job → is_restore_of (job_of l.item) e.what ≡ false
      no_purge now = ap (is_restore_of (job_of l.item)) now.purges

      old_item : slice_get s.items i ≡ Some l → is_purged (step s e).jobs (job_of l.item) ≡ false
      old_item old =
          elim (purged_now s e.moment e.what (job_of l.item) line) [
            | inl same ↦
                elim (cases_Bool (is_restore_of (job_of l.item) e.what)) [
                  | inl restores ↦ same ∙ restore_unpurged s e.moment e.what (job_of l.item) line restores
                  | inr other ↦ same ∙ placed.unpurged i l old (was_open other)
                ]
            | inr now ↦
                absurd (let positive : 0 < left s (job_of l.item) =
                count_at (is_open_of (job_of l.item) s.jobs) s.items i l old
                (and_from (eqb (job_of l.item) (job_of l.item)) (is_open s.jobs l) (eq-eqb (job_of l.item) (job_of l.item) refl) (was_open (no_purge now))) in
                let none = now.none_left in omega (arith, none))
          ]

      by_item : ItemNow s e.what i l → is_purged (step s e).jobs (job_of l.item) ≡ false
      by_item (Was old other) = old_item old
      by_item (Logs logs) =
          absurd (logs.idle (sym (restored_same s e.moment e.what (job_of l.item) (logs.restores_none (job_of l.item))) ∙ parts.1))
      by_item (Handles x now is) = absurd (false≢true (ap (λ (k : Logged). is_none k.handled) (sym is) ∙ parts.0))

  pub placed_step : Placed sources sizes (step s e)
  placed_step = record {
    rows = rows_step;
    one = one_step;
    items = items_step;
    puts = puts_step;
    unput_last = unput_step;
    rows_put = rows_put_step;
    unpurged = unpurged_step;
  }

pub placed_start : (sources : ℕ → Source) (sizes : ℕ → ℕ) (rules : RuleSet) → Placed sources sizes (start rules)
placed_start sources sizes rules = record {
  rows = λ source p size held. absurd (none_held source p size held);
  one = λ source p q m n held more. absurd (none_held source p m held);
  items = λ i l at. absurd (cc at);
  puts = λ i l how at. absurd (cc at);
  unput_last = λ i l at. absurd (cc at);
  rows_put = λ source p size held. absurd (none_held source p size held);
  unpurged = λ i l at. absurd (cc at);
}
  where
    none_held : (source : Source) (p size : ℕ) → Holds (start rules).graph source p size → ⊥
    none_held source p size (ByObject row here is at sized) = here
    none_held source p size (ByEdge row here is at sized) = here

-- what is known of the entries of a list from this state on
abbrev pub Serves : (ℕ → Source) → (ℕ → ℕ) → State → List Entry → Type 0
Serves sources sizes s es =
    (k : ℕ) (e : Entry) → slice_get es k ≡ Some e → (sources (s.len + k) ≡ source_of e.what) × (sizes (s.len + k) ≡ record_size (run s (take k es)) e.what)

placed_run : (sources : ℕ → Source) (sizes : ℕ → ℕ) (s : State) (es : List Entry) → Serves sources sizes s es → Good s → Placed sources sizes s →
    is_legal_from s es ≡ true → Placed sources sizes (run s es)
placed_run sources sizes s [] serves good placed legal = placed
placed_run sources sizes s (e ∷ es) serves good placed legal =
    let parts = and_parts (is_legal s e) (is_legal_from (step s e) es) legal in
    let here = serves 0 e refl in
    placed_run sources sizes (step s e) es
    (λ k x at.
    let next = serves (suc k) x at in
    (subst (λ (n : ℕ). sources n ≡ source_of x.what) (next_place s.len k) next.0, subst (λ (n : ℕ). sizes n ≡ record_size (run (step s e) (take k es)) x.what) (next_place s.len k) next.1))
    (good_step s e good parts.0)
    (placed_step sources sizes s e placed good.idle parts.0
    (subst (λ (n : ℕ). sources n ≡ source_of e.what) (no_more s.len) here.0) (subst (λ (n : ℕ). sizes n ≡ record_size s e.what) (no_more s.len) here.1))
    parts.1
  where
    no_more : (n : ℕ) → n + 0 ≡ n
    no_more n = omega arith

    next_place : (a b : ℕ) → a + suc b ≡ a + 1 + b
    next_place a b = omega arith

-- the sources and sizes of a history

abbrev source_at : Option Entry → Source
source_at None = OfNone
source_at (Some e) = source_of e.what

abbrev size_at : State → Option Entry → ℕ
size_at s None = 0
size_at s (Some e) = record_size s e.what

abbrev pub sources_in : List Entry → ℕ → Source
sources_in h p = source_at (slice_get h p)

abbrev pub sizes_in : RuleSet → List Entry → ℕ → ℕ
sizes_in rules h p = size_at (after rules (take p h)) (slice_get h p)

pub size_there : (rules : RuleSet) (h : List Entry) (p : ℕ) (e : Entry) → slice_get h p ≡ Some e → sizes_in rules h p ≡ record_size (after rules (take p h)) e.what
size_there rules h p e at = ap (size_at (after rules (take p h))) at

pub placed_after : (rules : RuleSet) (h : List Entry) → Legal rules h → Placed (sources_in h) (sizes_in rules h) (after rules h)
placed_after rules h legal =
    placed_run (sources_in h) (sizes_in rules h) (start rules) h
    (λ k e at.
    (subst (λ (n : ℕ). sources_in h n ≡ source_of e.what) (sym (from_zero k)) (ap source_at at), subst (λ (n : ℕ). sizes_in rules h n ≡ record_size (after rules (take k h)) e.what) (sym (from_zero k)) (size_there rules h k e at)))
    (good_start rules) (placed_start (sources_in h) (sizes_in rules h) rules) legal
  where
    from_zero : (n : ℕ) → 0 + n ≡ n
    from_zero n = omega arith

-- the facts speak of positions below the length alone

pub placed_again : (sources sources' : ℕ → Source) (sizes sizes' : ℕ → ℕ) (s : State) → ((p : ℕ) → p < s.len → sources' p ≡ sources p) → ((p : ℕ) → p < s.len → sizes' p ≡ sizes p) →
    Placed sources sizes s → Placed sources' sizes' s
placed_again sources sources' sizes sizes' s same same_size placed = record {
  rows = λ source p size held. again (placed.rows source p size held);
  one = placed.one;
  items = λ i l at. again (placed.items i l at);
  puts = λ i l how at handled free. again (placed.puts i l how at handled free);
  unput_last = placed.unput_last;
  rows_put = placed.rows_put;
  unpurged = placed.unpurged;
}
  where
    again : {source : Source} {p size : ℕ} → IsFrom sources sizes s.len source p size → IsFrom sources' sizes' s.len source p size
    again {p = p} from = record { below = from.below; source_is = same p from.below ∙ from.source_is; size_is = same_size p from.below ∙ from.size_is }

-- one value more, at the length

abbrev pub with_next : {A : Type 0} → ℕ → A → (ℕ → A) → ℕ → A
with_next n new old p = cond (ltb p n) (old p) new

pub next_old : {A : Type 0} (n : ℕ) (new : A) (old : ℕ → A) (p : ℕ) → p < n → with_next n new old p ≡ old p
next_old n new old p below = ap (λ (b : Bool). cond b (old p) new) (lt-ltb p n below)

pub next_new : {A : Type 0} (n : ℕ) (new : A) (old : ℕ → A) → with_next n new old n ≡ new
next_new n new old = ap (λ (b : Bool). cond b (old n) new) (le-ltb n n (omega arith))
