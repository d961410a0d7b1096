-- Along every legal history the payloads are those that calls gave.
use Rattle.std.proofs.Common.{◌≡◌, ℕ, zero, suc, ◌+◌, ◌<◌, Bool, true, false, cond, eqb, List, [], ◌∷◌, ◌++◌, Option, Some, None, refl, sym, ap, ◌∙◌, subst, arith}
use Rattle.std.proofs.lemmas.Bool.{and_parts, eqb-true, eq-eqb, ne_eqb, cond-true, cond-false, false≢true}
use Rattle.std.proofs.lemmas.List.{map-append, append-nil}
use Rattle.std.proofs.lemmas.List.Elements.{filter-append}
use Rattle.std.proofs.lemmas.Option.{slice_get-map}
use Rattle.std.specs.Prelude.{find, filter, map, slice_get, is_some, if◌then◌else◌, option_map}
use Rattle.delf_model.specs.declared.rows.ObjectRow.{ObjectRow}
use Rattle.delf_model.specs.declared.rows.EdgeRow.{EdgeRow}
use Rattle.delf_model.specs.declared.entry.Entry.{Entry}
use Rattle.delf_model.specs.declared.entry.What.{What}
use Rattle.delf_model.specs.declared.entry.What.TheVariants.{Create, Update, Link, Unlink, Delete, Restore, Expire, Cut, Erase, Put, Purge}
use Rattle.delf_model.specs.RuleSet.{RuleSet}
use Rattle.delf_model.specs.Graph.{Graph, object_at, edge_at}
use Rattle.delf_model.specs.State.{State, Logged, Handled, start, position_of}
use Rattle.delf_model.specs.Owners.{key_of}
use Rattle.delf_model.specs.Step.{step, run, after, items_after, edge_item, object_item, handled_at, outcome}
use Rattle.delf_model.specs.Legal.{Legal, is_legal, is_legal_from, is_allowed}
use Rattle.delf_model.specs.Payloads.{Payloads, no_payloads, is_needed, is_needed_pair, is_at, payload_at, bytes_of_pair, brought, sealed, payloads_after, given_at, payloads_run, payloads_along, seal_given, AreGiven, IsDamaged, position_of_object, position_of_edge}
use Rattle.delf_model.proofs.Runs.{after_push, Legal_push}
use Rattle.delf_model.proofs.Lines.{allowed_of}
use Rattle.delf_model.proofs.Good.{good_after}
use Rattle.delf_model.proofs.Owners.{OwnedStand}
use Rattle.payload_laws.specs.Holders.{brings, position_taken, Carried, Stays, Brought, Taken, PutBack, PayloadsMove, PositionsHeld}
use Rattle.payload_laws.proofs.Moves.{payloads_held}
use Rattle.payload_laws.proofs.Taken.{taken_needed, cut_there, erase_there}

-- the pairs of a position

filter_kept : {A : Type 0} (q keep : A → Bool) → ((x : A) → q x ≡ true → keep x ≡ true) → (xs : List A) → filter q (filter keep xs) ≡ filter q xs
filter_kept {A = A} q keep keeps [] = refl
filter_kept {A = A} q keep keeps (x ∷ xs) = by_both (keep x) (q x) refl refl (filter_kept q keep keeps xs)
  where
    by_both : (k b : Bool) → keep x ≡ k → q x ≡ b → filter q (filter keep xs) ≡ filter q xs →
        filter q (cond k (x ∷ filter keep xs) (filter keep xs)) ≡ cond b (x ∷ filter q xs) (filter q xs)
    by_both true true kept hit IH =
        cond-true (q x) (x ∷ filter q (filter keep xs)) (filter q (filter keep xs)) hit ∙ ap (λ (l : List A). x ∷ l) IH
    by_both true false kept hit IH = cond-false (q x) (x ∷ filter q (filter keep xs)) (filter q (filter keep xs)) hit ∙ IH
    by_both false true kept hit IH = absurd (false≢true (sym kept ∙ keeps x hit))
    by_both false false kept hit IH = IH

filter_dropped : {A : Type 0} (q keep : A → Bool) → ((x : A) → q x ≡ true → keep x ≡ false) → (xs : List A) → filter q (filter keep xs) ≡ []
filter_dropped {A = A} q keep drops [] = refl
filter_dropped {A = A} q keep drops (x ∷ xs) = by_both (keep x) (q x) refl refl (filter_dropped q keep drops xs)
  where
    by_both : (k b : Bool) → keep x ≡ k → q x ≡ b → filter q (filter keep xs) ≡ [] → filter q (cond k (x ∷ filter keep xs) (filter keep xs)) ≡ []
    by_both true true kept hit IH = absurd (false≢true (sym (drops x hit) ∙ kept))
    by_both true false kept hit IH = cond-false (q x) (x ∷ filter q (filter keep xs)) (filter q (filter keep xs)) hit ∙ IH
    by_both false b kept hit IH = IH

brought_none : (n p : ℕ) (given : List ℕ) → (p ≡ n → ⊥) → filter (is_at p) ((n, given) ∷ []) ≡ []
brought_none n p given apart = cond-false (eqb n p) ((n, given) ∷ []) [] (ne_eqb n p (λ same. apart (sym same)))

brought_other : (n p : ℕ) (w : What) (given : List ℕ) → (p ≡ n → ⊥) → filter (is_at p) (brought n w given) ≡ []
brought_other n p (Create tag kind id size) given apart = brought_none n p given apart
brought_other n p (Update tag id size) given apart = brought_none n p given apart
brought_other n p (Link tag edge from to size) given apart = brought_none n p given apart
brought_other n p (Unlink tag edge from to name) given apart = refl
brought_other n p (Delete tag id name) given apart = refl
brought_other n p (Restore tag job) given apart = refl
brought_other n p (Expire id) given apart = refl
brought_other n p (Cut job edge from to) given apart = refl
brought_other n p (Erase job id) given apart = refl
brought_other n p (Put job i) given apart = refl
brought_other n p (Purge job) given apart = refl

brought_one : (n p : ℕ) (given : List ℕ) → p ≡ n → filter (is_at p) ((n, given) ∷ []) ≡ (n, given) ∷ []
brought_one n p given same = cond-true (eqb n p) ((n, given) ∷ []) [] (eq-eqb n p (sym same))

brought_own : (n p : ℕ) (w : What) (given : List ℕ) → p ≡ n → brings w ≡ true → filter (is_at p) (brought n w given) ≡ (n, given) ∷ []
brought_own n p (Create tag kind id size) given same own = brought_one n p given same
brought_own n p (Update tag id size) given same own = brought_one n p given same
brought_own n p (Link tag edge from to size) given same own = brought_one n p given same
brought_own n p w given same own = absurd (false≢true own)

-- what a pair of a position tells

found_first : {A : Type 0} (q : A → Bool) (xs : List A) (x : A) → filter q xs ≡ x ∷ [] → find q xs ≡ Some x
found_first {A = A} q [] x one = absurd (cc one)
found_first {A = A} q (y ∷ ys) x one = by_hit (q y) one (found_first q ys x)
  where
    by_hit : (b : Bool) → cond b (y ∷ filter q ys) (filter q ys) ≡ x ∷ [] → (filter q ys ≡ x ∷ [] → find q ys ≡ Some x) → cond b (Some y) (find q ys) ≡ Some x
    by_hit true one IH = let same : y ≡ x = cc one in ap (λ (z : A). Some z) same
    by_hit false one IH = IH one

pub payload_given : (digest : List ℕ → List ℕ) (given : List (List ℕ)) (s : State) (e : Payloads) → AreGiven digest given s e →
    (p : ℕ) → is_needed s p ≡ true → payload_at e p ≡ given_at given p
payload_given digest given s e are p needed =
    ap bytes_of_pair
    (found_first (is_at p) e.bytes (p, given_at given p) (are.pairs p ∙ cond-true (is_needed s p) ((p, given_at given p) ∷ []) [] needed))

-- one entry more

handled-map : (f : Logged → List ℕ) → ((x : Logged) (how : Option Handled) → f (record { item = x.item; handled = how }) ≡ f x) →
    (xs : List Logged) (i : ℕ) (how : Handled) → map f (handled_at xs i how) ≡ map f xs
handled-map f same [] i how = refl
handled-map f same (x ∷ xs) zero how = ap (λ (y : List ℕ). y ∷ map f xs) (same x (Some how))
handled-map f same (x ∷ xs) (suc i) how = ap (λ (l : List (List ℕ)). f x ∷ l) (handled-map f same xs i how)

module _ (digest : List ℕ → List ℕ) (given : List (List ℕ)) (s : State) (e : Payloads) (entry : Entry) (held : PositionsHeld s) (moves : PayloadsMove s entry)
    (needs : (p : ℕ) → position_taken s entry.what ≡ Some p → is_needed s p ≡ true) (are : AreGiven digest given s e) where
  abbrev next : Payloads
  next = payloads_after digest s entry (given_at given s.len) e

  abbrev new : List (ℕ × List ℕ)
  new = brought s.len entry.what (given_at given s.len)

  kept : (p : ℕ) → is_needed (step s entry) p ≡ true → filter (is_at p) next.bytes ≡ filter (is_at p) e.bytes ++ filter (is_at p) new
  kept p needed =
      filter_kept (is_at p) (is_needed_pair (step s entry)) (λ x at. ap (is_needed (step s entry)) (eqb-true x.0 p at) ∙ needed) (e.bytes ++ new) ∙
      filter-append (is_at p) e.bytes new

  not_next : (p : ℕ) → is_needed s p ≡ true → p ≡ s.len → ⊥
  not_next p needed same = let lt : p < s.len = held.below p needed in omega (arith, lt, same)

  old_pair : (p : ℕ) → is_needed (step s entry) p ≡ true → is_needed s p ≡ true → filter (is_at p) next.bytes ≡ (p, given_at given p) ∷ []
  old_pair p needed was =
      kept p needed ∙
      (ap (λ (l : List (ℕ × List ℕ)). filter (is_at p) e.bytes ++ l) (brought_other s.len p entry.what (given_at given s.len) (not_next p was)) ∙
      ap (λ (l : List (ℕ × List ℕ)). l ++ []) (are.pairs p ∙ cond-true (is_needed s p) ((p, given_at given p) ∷ []) [] was))

  new_pair : (p : ℕ) → is_needed (step s entry) p ≡ true → p ≡ s.len → brings entry.what ≡ true → filter (is_at p) next.bytes ≡ (p, given_at given p) ∷ []
  new_pair p needed at own =
      kept p needed ∙
      (ap (λ (l : List (ℕ × List ℕ)). l ++ filter (is_at p) new) (unheld (is_needed s p) refl) ∙
      (brought_own s.len p entry.what (given_at given s.len) at own ∙ ap (λ (n : ℕ). (n, given_at given n) ∷ []) (sym at)))
    where
      unheld : (b : Bool) → is_needed s p ≡ b → filter (is_at p) e.bytes ≡ []
      unheld true was = absurd (not_next p was at)
      unheld false was = are.pairs p ∙ cond-false (is_needed s p) ((p, given_at given p) ∷ []) [] was

  by_carried : (p : ℕ) → is_needed (step s entry) p ≡ true → Carried s entry p → filter (is_at p) next.bytes ≡ (p, given_at given p) ∷ []
  by_carried p needed (Stays was same) = old_pair p needed was
  by_carried p needed (Brought at own same) = new_pair p needed at own
  by_carried p needed (Taken taken was same) = old_pair p needed was
  by_carried p needed (PutBack job i logged puts there free at was carried same) = old_pair p needed was

  next_pairs : (p : ℕ) → filter (is_at p) next.bytes ≡ (if is_needed (step s entry) p then (p, given_at given p) ∷ [] else [])
  next_pairs p = by_need (is_needed (step s entry) p) refl
    where
      by_need : (b : Bool) → is_needed (step s entry) p ≡ b → filter (is_at p) next.bytes ≡ cond b ((p, given_at given p) ∷ []) []
      by_need true needed = by_carried p needed (moves.carried p needed)
      by_need false unneeded =
          filter_dropped (is_at p) (is_needed_pair (step s entry)) (λ x at. ap (is_needed (step s entry)) (eqb-true x.0 p at) ∙ unneeded) (e.bytes ++ new)

  abbrev f : Logged → List ℕ
  f = seal_given digest given

  plain : e.seals ++ [] ≡ map f s.items
  plain = append-nil e.seals ∙ are.seals

  one_more : (items : List Logged) (p : ℕ) → is_needed s p ≡ true → digest (given_at given p) ∷ [] ≡ map f items →
      e.seals ++ digest (payload_at e p) ∷ [] ≡ map f (s.items ++ items)
  one_more items p needed same =
      ap (λ (l : List (List ℕ)). l ++ digest (payload_at e p) ∷ []) are.seals ∙
      (ap (λ (b : List ℕ). map f s.items ++ digest b ∷ []) (payload_given digest given s e are p needed) ∙
      (ap (λ (l : List (List ℕ)). map f s.items ++ l) same ∙ sym (map-append f s.items items)))

  edge_seal : (job : ℕ) (o : Option EdgeRow) → is_some o ≡ true → digest (given_at given (position_of_edge o)) ∷ [] ≡ map f (edge_item s.graph job o)
  edge_seal job None some = absurd (false≢true some)
  edge_seal job (Some row) some = refl

  object_seal : (job : ℕ) (o : Option ObjectRow) → is_some o ≡ true → digest (given_at given (position_of_object o)) ∷ [] ≡ map f (object_item job o)
  object_seal job None some = absurd (false≢true some)
  object_seal job (Some row) some = refl

  abbrev Takes : What → Type 0
  Takes w = (p : ℕ) → position_taken s w ≡ Some p → is_needed s p ≡ true

  next_seals : (w : What) → OwnedStand s → is_allowed s entry.moment w ≡ true → Takes w → e.seals ++ sealed digest s e w ≡ map f (items_after s w)
  next_seals (Create tag kind id size) owned line takes = plain
  next_seals (Update tag id size) owned line takes = plain
  next_seals (Link tag edge from to size) owned line takes = plain
  next_seals (Unlink tag edge from to name) owned line takes = plain
  next_seals (Delete tag id name) owned line takes = plain
  next_seals (Restore tag job) owned line takes = plain
  next_seals (Expire id) owned line takes = plain
  next_seals (Cut job edge from to) owned line takes =
      one_more (edge_item s.graph job (edge_at s.graph (key_of edge from to))) (position_of_edge (edge_at s.graph (key_of edge from to))) (takes _ refl)
      (edge_seal job (edge_at s.graph (key_of edge from to)) (cut_there s entry.moment job edge from to line))
  next_seals (Erase job id) owned line takes =
      one_more (object_item job (object_at s.graph id)) (position_of_object (object_at s.graph id)) (takes _ refl)
      (object_seal job (object_at s.graph id) (erase_there s entry.moment job id owned line))
  next_seals (Put job i) owned line takes =
      plain ∙ sym (handled-map f (λ x how. refl) s.items i (outcome s (slice_get s.items i)))
  next_seals (Purge job) owned line takes = plain

  pub given_step : OwnedStand s → is_allowed s entry.moment entry.what ≡ true → AreGiven digest given (step s entry) next
  given_step owned line = record { pairs = next_pairs; seals = next_seals entry.what owned line needs }

-- a whole history

start_given : (digest : List ℕ → List ℕ) (given : List (List ℕ)) (rules : RuleSet) → AreGiven digest given (start rules) no_payloads
start_given digest given rules = record { pairs = λ p. refl; seals = refl }

module _ (digest : List ℕ → List ℕ) (given : List (List ℕ)) (rules : RuleSet) where
  run_given : (h rest : List Entry) (e : Payloads) → Legal rules h → is_legal_from (after rules h) rest ≡ true → AreGiven digest given (after rules h) e →
      AreGiven digest given (run (after rules h) rest) (payloads_run digest given (after rules h) rest e)
  run_given h [] e legal more are = are
  run_given h (x ∷ rest) e legal more are =
      let parts = and_parts (is_legal (after rules h) x) (is_legal_from (step (after rules h) x) rest) more in
      let line = allowed_of (after rules h) x parts.0 in
      let laws = payloads_held rules h legal in
      let owned = (good_after rules h legal).owned_stand in
      let one = given_step digest given (after rules h) e x laws.held (laws.moves x parts.0) (taken_needed (after rules h) x.moment x.what owned line) are owned line in
      let push = after_push rules h x in
      let e' = payloads_after digest (after rules h) x (given_at given (after rules h).len) e in
      subst (λ (s : State). AreGiven digest given (run s rest) (payloads_run digest given s rest e')) push
      (run_given (h ++ x ∷ []) rest e' (Legal_push rules h x legal parts.0)
      (subst (λ (s : State). is_legal_from s rest ≡ true) (sym push) parts.1) (subst (λ (s : State). AreGiven digest given s e') (sym push) one))

  pub given_along : (h : List Entry) → Legal rules h → AreGiven digest given (after rules h) (payloads_along digest given rules h)
  given_along h legal = run_given [] h no_payloads refl legal (start_given digest given rules)

-- no item is damaged

pub none_damaged : (digest : List ℕ → List ℕ) (given : List (List ℕ)) (s : State) (e : Payloads) → AreGiven digest given s e → (i : ℕ) → IsDamaged digest s e i → ⊥
none_damaged digest given s e are i damaged =
    damaged.differs
    (ap (λ (l : List (List ℕ)). slice_get l i) are.seals ∙
    (slice_get-map (seal_given digest given) s.items i ∙
    (ap (option_map (seal_given digest given)) damaged.there ∙
    ap (λ (b : List ℕ). Some (digest b)) (sym (payload_given digest given s e are (position_of damaged.logged.item) damaged.needed)))))
