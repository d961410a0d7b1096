-- Records of the journal as entries.
use Rattle.std.proofs.Common.{◌≡◌, ℕ, ◌+◌, ◌<◌, ◌≤◌, Bool, true, false, List, [], ◌∷◌, ◌++◌, length, take, Option, Some, None, refl, sym, ap, ◌∙◌, subst, arith}
use Rattle.std.specs.Prelude.{◌&&◌, nat_eq, IfSome, IfNone}
use Rattle.std.proofs.lemmas.Bool.{false≢true, eqb-true, eq-eqb}
use Rattle.delf_disk.specs.declared.area.Area.{Area}
use Rattle.delf_disk.specs.Areas.{Areas, area_of}
use Rattle.gate_log.specs.Records.{Record, head_of, payload_of}
use Rattle.gate_log.specs.Logs.{Front}
use Rattle.gate_log.specs.Places.{size_in}
use Rattle.gate_log.specs.Steps.{FrontHeadRead}
use Rattle.entry_codec.specs.Field.{spelled}
use Rattle.entry_codec.specs.EntryHead.{AreEntries, IsEntry, HasPayload, IsEntryHead, entry_head, what_fields}
use Rattle.entry_codec.proofs.Entries.{one_entry}
use Rattle.delf_model.specs.declared.entry.Entry.{Entry}
use Rattle.delf_model.specs.declared.entry.What.{What}
use Rattle.delf_model.specs.declared.entry.What.TheVariants.{Create, Update, Link, Unlink, Delete, Restore, Expire, Cut, Erase, Put, Purge}
use Rattle.delf_model.specs.RuleSet.{RuleSet}
use Rattle.delf_model.specs.State.{State, start}
use Rattle.delf_model.specs.Step.{step, run, after}
use Rattle.delf_model.specs.Legal.{is_legal}
use Rattle.delf_model.proofs.Runs.{Legal_push}
use Rattle.payload_laws.specs.Holders.{record_size}
use Rattle.ledger.specs.Ledgers.{Ledgered, state_of, IsSame, HasEntered}
use Rattle.delf_book.proofs.Sizes.{journal_sizes-push}
use Rattle.opening_laws.specs.Places.{IsRecordOf, IsWrong, AreRecordsOf}
use Rattle.delf_recovery.specs.Reading.{IsRead, IsNoEntry, TakesEntry, RefusesEntry, JudgesEntry, ReadsEntries, EndsWrong, record_at}
use Rattle.delf_recovery.proofs.Records.{sized_at, many_records, next_front, next_sizes}

-- a head has at most 38 bytes

length-what : (w : What) → length (spelled (what_fields w)) ≤ 29
length-what (Create tag type id size) = omega arith
length-what (Update tag id size) = omega arith
length-what (Link tag edge from to size) = omega arith
length-what (Unlink tag edge from to name) = omega arith
length-what (Delete tag id name) = omega arith
length-what (Restore tag job) = omega arith
length-what (Expire id) = omega arith
length-what (Cut job edge from to) = omega arith
length-what (Erase job id) = omega arith
length-what (Put job item) = omega arith
length-what (Purge job) = omega arith

length-entry_head : (e : Entry) → length (entry_head e) ≤ 38
length-entry_head e = omega (arith, length-what e.what)

-- what was read of a head, told of the record

module _ (plain : Type 0) (area : Area) (sizes : List (ℕ × ℕ)) (i : ℕ) (areas : Areas) (inside : i < length sizes) where
  pub long_read : 128 < (size_in sizes i).0 → IsNoEntry plain area sizes i areas
  long_read long is mark rs sized front e head =
      omega (arith, long, (sized_at rs sizes i sized inside).head, ap length head.spelling, length-entry_head e)

  module _ (bytes : List ℕ) (n : ℕ) (long : length bytes ≡ (size_in sizes i).0) (size : n ≡ (size_in sizes i).1) (read : plain → FrontHeadRead area sizes i areas bytes) where
    pub some_read : (r : Option Entry) → IfSome r (λ e. IsEntryHead e bytes n) → IfSome r (λ e. IsRead plain area sizes i areas e)
    some_read None found = tt
    some_read (Some e) found = record {
      spelled = found.entry;
      carries = subst (HasPayload e.what) size found.payload;
      head = sym (ap length found.spelling) ∙ long;
      read = λ is mark rs sized front. sym (read is mark rs sized front) ∙ found.spelling;
    }

    pub none_read : (r : Option Entry) → IfNone r ((e : Entry) → IsEntryHead e bytes n → ⊥) → IfNone r (IsNoEntry plain area sizes i areas)
    none_read (Some e) none = tt
    none_read None none = λ is mark rs sized front e head.
        none e (subst (λ (l : List ℕ). IsEntryHead e l n) (sym (read is mark rs sized front))
        (subst (IsEntryHead e (head_of rs i)) ((sized_at rs sizes i sized inside).payload ∙ sym size) head))

-- the judgement of the fold

both_true : (a b : Bool) → true ≡ (a && b) → (a ≡ true) × (b ≡ true)
both_true true true is = (refl, refl)
both_true true false is = absurd (false≢true (sym is))
both_true false b is = absurd (false≢true (sym is))

none_true : (a b : Bool) → false ≡ (a && b) → a ≡ true → b ≡ true → ⊥
none_true a b is one two = false≢true (is ∙ ap (λ (x : Bool). x && b) one ∙ two)

module _ {G : Type 0} (plain : Type 0) (area : Area) (sizes : List (ℕ × ℕ)) (i n : ℕ) (areas : Areas) (old new : Ledgered G) (inside : i < length sizes) (size : n ≡ (size_in sizes i).1) where
  pub refused : IsNoEntry plain area sizes i areas → IsSame old new → RefusesEntry plain area sizes i areas old new
  refused none same = record {
    same = same;
    wrong = λ is mark rs sized front e of. none is mark rs sized front e of.head;
  }

  pub judges : (entry : Entry) (taken : Bool) → IsRead plain area sizes i areas entry → taken ≡ (is_legal (state_of old) entry && nat_eq n (record_size (state_of old) entry.what))
      → (taken ≡ true → HasEntered old new entry) → (taken ≡ false → IsSame old new) → JudgesEntry plain area sizes i areas old new taken
  judges entry true read exact enters stays =
      let both = both_true (is_legal (state_of old) entry) (nat_eq n (record_size (state_of old) entry.what)) exact in
      record {
        entry = entry;
        entered = enters refl;
        is_read = read;
        line = both.0;
        payload = sym (eqb-true n (record_size (state_of old) entry.what) both.1) ∙ size;
      }
  judges entry false read exact enters stays = record {
    same = stays refl;
    wrong = λ is mark rs sized front e of.
        let s = state_of old in
        let here = sized_at rs sizes i sized inside in
        let own : IsEntryHead entry (head_of rs i) (length (payload_of rs i)) = record {
          entry = read.spelled;
          payload = subst (HasPayload entry.what) (sym here.payload) read.carries;
          spelling = read.read is mark rs sized front;
        } in
        let same : e ≡ entry = one_entry e entry (head_of rs i) (length (payload_of rs i)) of.head own in
        let line : is_legal s entry ≡ true = ap (is_legal s) (sym same) ∙ of.line in
        let fits : n ≡ record_size s entry.what =
        size ∙ (sym here.payload ∙ (of.size ∙ ap (λ (x : Entry). record_size s x.what) same)) in
        none_true (is_legal s entry) (nat_eq n (record_size s entry.what)) exact line (eq-eqb n (record_size s entry.what) fits);
  }

-- one record more

entries_push : (es : List Entry) (e : Entry) → AreEntries es → IsEntry e → AreEntries (es ++ e ∷ [])
entries_push [] e all one = (one, tt)
entries_push (x ∷ es) e all one = (all.0, entries_push es e all.1 one)

records_push : (s : State) (es : List Entry) (rs : List Record) (e : Entry) (r : Record) → AreRecordsOf s es rs → IsRecordOf (run s es) e r → AreRecordsOf s (es ++ e ∷ []) (rs ++ r ∷ [])
records_push s [] [] e r all one = (one, tt)
records_push s [] (x ∷ rs) e r all one = absurd all
records_push s (x ∷ es) [] e r all one = absurd all
records_push s (x ∷ es) (y ∷ rs) e r all one = (all.0, records_push (step s x) es rs e r all.1 one)

pub more_entries : {G : Type 0} (plain now : Type 0) (area : Area) (sizes : List (ℕ × ℕ)) (i : ℕ) (areas areas_now : Areas) (old new : Ledgered G)
    → (plain → now) → (plain → areas_now ≡ areas) → i < length sizes → ReadsEntries plain area sizes areas old.rules old.history i → TakesEntry now area sizes i areas_now old new
    → ReadsEntries plain area sizes areas new.rules new.history (i + 1)
more_entries plain now area sizes i areas areas_now old new still same inside so_far takes =
    let e = takes.entry in
    let longer = old.history ++ e ∷ [] in
    let s = state_of old in
    let next : ReadsEntries plain area sizes areas old.rules (old.history ++ takes.entry ∷ []) (i + 1) = record {
      few = omega (arith, inside);
      sized =
          journal_sizes-push (start old.rules) old.history e ∙
          (ap (λ (l : List (ℕ × ℕ)). l ++ (length (entry_head e), record_size s e.what) ∷ []) so_far.sized ∙
          (ap (λ (k : ℕ). take i sizes ++ (k, record_size s e.what) ∷ []) takes.is_read.head ∙
          (ap (λ (k : ℕ). take i sizes ++ ((size_in sizes i).0, k) ∷ []) takes.payload ∙ sym (next_sizes sizes i inside))));
      entries = entries_push old.history e so_far.entries takes.is_read.spelled;
      legal = Legal_push old.rules old.history e so_far.legal takes.line;
      read = λ is mark rs sized front.
          let here = sized_at rs sizes i sized inside in
          let front_now = subst (λ (x : Areas). Front mark rs (area_of area x)) (sym (same is)) front in
          let of : IsRecordOf s e (record_at rs i) = record {
            head = record {
              entry = takes.is_read.spelled;
              payload = subst (HasPayload e.what) (sym here.payload) takes.is_read.carries;
              spelling = takes.is_read.read (still is) mark rs sized front_now;
            };
            line = takes.line;
            size = here.payload ∙ sym takes.payload;
          } in
          subst (AreRecordsOf (start old.rules) (old.history ++ takes.entry ∷ [])) (sym (next_front rs i (omega (arith, inside, many_records rs sizes sized))))
          (records_push (start old.rules) old.history (take i rs) e (record_at rs i) (so_far.read is mark rs sized front) of);
    } in
    subst (λ (r : RuleSet). ReadsEntries plain area sizes areas r new.history (i + 1)) (sym takes.entered.rules)
    (subst (λ (h : List Entry). ReadsEntries plain area sizes areas old.rules h (i + 1)) (sym takes.entered.history) next)

-- what one judgement makes of the records read so far

module _ {G : Type 0} (plain now : Type 0) (area : Area) (sizes : List (ℕ × ℕ)) (i : ℕ) (areas areas_now : Areas) (old new : Ledgered G) (taken : Bool)
    (still : plain → now) (same : plain → areas_now ≡ areas) (judged : JudgesEntry now area sizes i areas_now old new taken) where
  takes_it : taken ≡ true → TakesEntry now area sizes i areas_now old new
  takes_it is = subst (JudgesEntry now area sizes i areas_now old new) is judged

  refuses_it : taken ≡ false → RefusesEntry now area sizes i areas_now old new
  refuses_it is = subst (JudgesEntry now area sizes i areas_now old new) is judged

  pub same_rules : taken ≡ true → new.rules ≡ old.rules
  same_rules is = (takes_it is).entered.rules

  pub goes_on : taken ≡ true → i < length sizes → ReadsEntries plain area sizes areas old.rules old.history i → ReadsEntries plain area sizes areas new.rules new.history (i + 1)
  goes_on is inside so_far = more_entries plain now area sizes i areas areas_now old new still same inside so_far (takes_it is)

  pub ends_wrong : taken ≡ false → EndsWrong plain area sizes areas new.rules new.history i
  ends_wrong is inside holds mark rs sized front =
      let refused = refuses_it is in
      let front_now = subst (λ (x : Areas). Front mark rs (area_of area x)) (sym (same holds)) front in
      subst (λ (r : RuleSet). IsWrong (after r new.history) (record_at rs i)) (sym refused.same.rules)
      (subst (λ (h : List Entry). IsWrong (after old.rules h) (record_at rs i)) (sym refused.same.history) (refused.wrong (still holds) mark rs sized front_now))

pub unchanged : {G : Type 0} (l : Ledgered G) → IsSame l l
unchanged l = record { rules = refl; history = refl; held = refl; spare = omega arith }
