-- The entry that an accepted call asks for.
use Rattle.std.proofs.Common.{◌≡◌, ℕ, ◌≤◌, Bool, true, false, cond, ltb, List, [], ◌∷◌, length, Option, Some, None, refl, subst, arith}
use Rattle.std.proofs.lemmas.Bool.{or_from}
use Rattle.std.proofs.lemmas.Bool.Decides.{nat_tests}
use Rattle.std.specs.Prelude.{Ok, is_some}
use Rattle.delf_model.specs.declared.call.Call.{Call}
use Rattle.delf_model.specs.declared.call.Call.TheVariants as call
use Rattle.delf_model.specs.declared.call.Refusal.{Refusal}
use Rattle.delf_model.specs.declared.call.Refusal.TheVariants as refusal
use Rattle.delf_model.specs.declared.entry.Tag.{Tag}
use Rattle.delf_model.specs.declared.entry.What.{What}
use Rattle.delf_model.specs.declared.entry.What.TheVariants.{Create, Update, Link, Unlink, Delete, Restore}
use Rattle.delf_model.specs.declared.rows.EdgeKey.{EdgeKey}
use Rattle.delf_model.specs.Graph.{edge_stands}
use Rattle.delf_model.specs.RuleSet.{RuleSet}
use Rattle.delf_model.specs.State.{State, find_job}
use Rattle.delf_model.specs.Order.{erases_same, is_held}
use Rattle.delf_model.specs.Owners.{unlink_start, key_of}
use Rattle.std.specs.Option.{option_or}
use Rattle.delf_model.specs.Reply.{job_taken_if, absent, condemned, no_edge, refused, first_refusal, too_long, answered, answered_by, asked, restore_of, reply, next_tag}
use Rattle.delf_model.specs.Room.{payload_limit}
use Rattle.entry_codec.specs.EntryHead.{IsBounded}
use Rattle.payload_laws.specs.Holders.{record_size, position_taken}
use Rattle.delf_book.specs.Books.{HasNumbers, given_by, EdgeStands}
use Rattle.delf_book.specs.Keeping.{PutsBack, scrubs_rows}

-- what the entry of a call is
pub record IsCallEntry (s : State) (given : List ℕ) (what : What) : Type 0 where
  pub size : length given ≡ record_size s what
  pub small : length given ≤ payload_limit
  pub no_item : position_taken s what ≡ None
  pub no_put : PutsBack s what → ⊥
  pub rows : scrubs_rows what ≡ true
  pub bounded : IsBounded what
  pub stands : EdgeStands s what
  pub unheld : (held : List What) → is_held held what ≡ false

-- an entry that erases no row takes that of no held step
none_held : (what : What) → ((other : What) → erases_same what other ≡ false) → (held : List What) → is_held held what ≡ false
none_held what apart [] = refl
none_held what apart (x ∷ xs) = or_from (erases_same what x) (is_held xs what) (apart x) (none_held what apart xs)

made : (w what : What) (o : Option Refusal) → answered_by w o ≡ Ok what → (o ≡ None) × (w ≡ what)
made w what None is = (refl, cc)
made w what (Some refusal) is = absurd (cc is)

-- no refusal holds, so the payload is not too long
none_first : (o other : Option Refusal) → option_or o other ≡ None → o ≡ None
none_first None other is = refl
none_first (Some x) other is = absurd (cc is)

short_enough : (size : ℕ) → too_long size ≡ None → size ≤ 512
short_enough size none = by_test (ltb 512 size) refl none
  where
    by_test : (b : Bool) → ltb 512 size ≡ b → cond b (Some (refusal.TooLong size)) None ≡ None → size ≤ 512
    by_test true is none = absurd (cc none)
    by_test false is none = grind (arith, nat_tests)

none_rest : (o other : Option Refusal) → option_or o other ≡ None → other ≡ None
none_rest None other is = is
none_rest (Some x) other is = absurd (cc is)

there : (s : State) (key : EdgeKey) → no_edge s key ≡ None → edge_stands s.graph key ≡ true
there s key none = by_test (edge_stands s.graph key) refl none
  where
    by_test : (b : Bool) → edge_stands s.graph key ≡ b → cond b None (Some refusal.NoEdge) ≡ None → edge_stands s.graph key ≡ true
    by_test true is none = is
    by_test false is none = absurd (cc none)

edge_there : (s : State) (from to : ℕ) (key : EdgeKey) (rest : List (Option Refusal)) →
    first_refusal (absent s from ∷ absent s to ∷ condemned s from ∷ condemned s to ∷ no_edge s key ∷ rest) ≡ None → edge_stands s.graph key ≡ true
edge_there s from to key rest none =
    there s key (none_first (no_edge s key) (first_refusal rest)
    (none_rest (condemned s to) _ (none_rest (condemned s from) _ (none_rest (absent s to) _ (none_rest (absent s from) _ none)))))

module _ (rules : RuleSet) (s : State) (objects : length rules.objects ≤ 64) where
  at_what : (given : List ℕ) (w what : What) → IsCallEntry s given w → w ≡ what → IsCallEntry s given what
  at_what given w what is same = subst (λ (x : What). IsCallEntry s given x) same is

  by_call : (moment : ℕ) (tag : Tag) (c : Call) (what : What) → HasNumbers rules c → answered s moment (asked s tag c) ≡ Ok what → IsCallEntry s (given_by c) what
  by_call moment tag (call.Create kind id payload) what within is =
      let w = made (Create tag kind id (length payload)) what (refused s moment (Create tag kind id (length payload))) is in
      let small = short_enough (length payload) (none_first (too_long (length payload)) _ w.0) in
      at_what payload _ what (record {
        size = refl;
        small = small;
        no_item = refl;
        no_put = λ puts. cc (puts.2.1.0);
        rows = refl;
        bounded = (omega (arith, within, objects), small);
        stands = tt;
        unheld = none_held (Create tag kind id (length payload)) (λ other. refl);
      }) w.1
  by_call moment tag (call.Update id payload) what within is =
      let w = made (Update tag id (length payload)) what (refused s moment (Update tag id (length payload))) is in
      let small = short_enough (length payload) (none_first (too_long (length payload)) _ w.0) in
      at_what payload _ what (record { size = refl; small = small; no_item = refl; no_put = λ puts. cc (puts.2.1.0); rows = refl; bounded = small; stands = tt; unheld = none_held (Update tag id (length payload)) (λ other. refl) }) w.1
  by_call moment tag (call.Link edge from to payload) what within is =
      let w = made (Link tag edge from to (length payload)) what (refused s moment (Link tag edge from to (length payload))) is in
      let small = short_enough (length payload) (none_first (too_long (length payload)) _ w.0) in
      at_what payload _ what (record {
        size = refl;
        small = small;
        no_item = refl;
        no_put = λ puts. cc (puts.2.1.0);
        rows = refl;
        bounded = small;
        stands = tt;
        unheld = none_held (Link tag edge from to (length payload)) (λ other. refl);
      }) w.1
  by_call moment tag (call.Unlink edge from to name) what within is =
      let w = made (Unlink tag edge from to name) what (refused s moment (Unlink tag edge from to name)) is in
      at_what [] _ what (record { size = refl; small = omega arith; no_item = refl; no_put = λ puts. cc (puts.2.1.0); rows = refl; bounded = tt; stands = edge_there s from to (key_of edge from to) (job_taken_if (is_some (unlink_start s edge from to name)) s name ∷ []) w.0; unheld = none_held (Unlink tag edge from to name) (λ other. refl) }) w.1
  by_call moment tag (call.Delete id name) what within is =
      let w = made (Delete tag id name) what (refused s moment (Delete tag id name)) is in
      at_what [] _ what (record { size = refl; small = omega arith; no_item = refl; no_put = λ puts. cc (puts.2.1.0); rows = refl; bounded = tt; stands = tt; unheld = none_held (Delete tag id name) (λ other. refl) }) w.1
  by_call moment tag (call.Restore name) what within is = by_job (find_job s.jobs name) is
    where
      by_job : (o : Option ℕ) → answered s moment (restore_of tag o) ≡ Ok what → IsCallEntry s [] what
      by_job None is = absurd (cc is)
      by_job (Some job) is =
          let w = made (Restore tag job) what (refused s moment (Restore tag job)) is in
          subst (λ (x : What). IsCallEntry s [] x) w.1
          (record { size = refl; small = omega arith; no_item = refl; no_put = λ puts. cc (puts.2.1.0); rows = refl; bounded = tt; stands = tt; unheld = none_held (Restore tag job) (λ other. refl) })

  pub call_entry : (moment seat : ℕ) (c : Call) (what : What) → HasNumbers rules c → reply s moment seat c ≡ Ok what → IsCallEntry s (given_by c) what
  call_entry moment seat c what within is = by_call moment (next_tag s seat) c what within is
