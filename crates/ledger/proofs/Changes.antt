-- A legal entry changes the graph in a way that the graph can take.
use Rattle.std.proofs.Common.{◌≡◌, ℕ, ◌+◌, ◌≤◌, ◌<◌, Bool, true, false, not, List, [], ◌∷◌, length, Option, Some, None, refl, arith}
use Rattle.std.proofs.lemmas.Bool.{and_parts}
use Rattle.std.proofs.lemmas.List.Sums.{sum_by-cons}
use Rattle.std.specs.Prelude.{IsTrue, slice_get, sum_by}
use Rattle.delf_model.specs.declared.rows.ObjectRow.{ObjectRow}
use Rattle.delf_model.specs.declared.rows.EdgeRow.{EdgeRow}
use Rattle.delf_model.specs.declared.rows.EdgeKey.{EdgeKey}
use Rattle.delf_model.specs.declared.rows.Item.{Item}
use Rattle.delf_model.specs.declared.rows.Item.TheVariants as item
use Rattle.delf_model.specs.declared.call.Cause.{Cause}
use Rattle.delf_model.specs.declared.entry.What.{What}
use Rattle.delf_model.specs.declared.entry.What.TheVariants.{Create, Update, Link, Unlink, Delete, Restore, Expire, Cut, Erase, Put, Purge}
use Rattle.delf_model.specs.Graph.{object_at, is_touched}
use Rattle.delf_model.specs.State.{State, Logged, is_owned_by}
use Rattle.delf_model.specs.Puts.{judged, taken}
use Rattle.delf_model.specs.Owners.{key_of}
use Rattle.delf_model.specs.Step.{put_unless, put_change, change_of}
use Rattle.delf_model.specs.Legal.{is_allowed}
use Rattle.delf_model.specs.Reply.{refusals}
use Rattle.delf_model.specs.Room.{room, room_limit, owed_for_edge}
use Rattle.delf_model.proofs.Lines.{none_of, name_free, key_free, there}
use Rattle.delf_model.proofs.Ends.{fits_of, stands_there}
use Rattle.ledger.specs.Edits.{CanChange}
use Rattle.ledger.specs.Ledgers.{has_room, has_room_for}

edges_count : (rows : List EdgeRow) → sum_by owed_for_edge rows ≡ length rows
edges_count [] = refl
edges_count (x ∷ xs) = omega (arith, sum_by-cons owed_for_edge x xs, edges_count xs)

few : (a b c d e n : ℕ) → a + (b + c + d + e) ≤ 500000 → c ≡ n → n < 4294967295
few a b c d e n within is = omega arith

-- within the room there are few edges
few_edges : (s : State) → room s ≤ room_limit → length s.graph.edges < 4294967295
few_edges s within = few s.len _ (sum_by owed_for_edge s.graph.edges) _ _ (length s.graph.edges) within (edges_count s.graph.edges)

not_true : (b : Bool) → not b ≡ true → b ≡ false
not_true true h = absurd (cc h)
not_true false h = refl

untaken : (o : Option ObjectRow) → taken o ≡ None → o ≡ None
untaken None none = refl
untaken (Some row) none = absurd (cc none)

-- a put that was judged so
put_can : (s : State) (objects : ℕ → Bool) (edges : EdgeKey → Bool) (it : Item) (cause : Option Cause) → room s ≤ room_limit →
    judged s it ≡ cause → IsTrue (has_room_for objects edges (put_unless cause it)) → CanChange s.graph objects edges (put_unless cause it)
put_can s objects edges (item.Object job row) None within is ready = record { free = untaken (object_at s.graph row.id) is; ready = ready }
put_can s objects edges (item.Edge job row from_birth to_birth) None within is ready =
    let fits = fits_of s job row from_birth to_birth is in
    record {
      free = fits.key_is_free;
      source = stands_there s.graph row.key.from from_birth fits.source;
      target = stands_there s.graph row.key.to to_birth fits.target;
      room = few_edges s within;
      ready = ready;
    }
put_can s objects edges it (Some cause) within is ready = tt

put_change_can : (s : State) (objects : ℕ → Bool) (edges : EdgeKey → Bool) (o : Option Logged) → room s ≤ room_limit →
    IsTrue (has_room_for objects edges (put_change s o)) → CanChange s.graph objects edges (put_change s o)
put_change_can s objects edges None within ready = tt
put_change_can s objects edges (Some logged) within ready = put_can s objects edges logged.item (judged s logged.item) within refl ready

-- the graph can take what an allowed entry does to it
pub what_can : (s : State) (objects : ℕ → Bool) (edges : EdgeKey → Bool) (moment : ℕ) (what : What) → room s ≤ room_limit →
    is_allowed s moment what ≡ true → IsTrue (has_room objects edges s what) → CanChange s.graph objects edges (change_of s moment what)
what_can s objects edges moment (Create tag kind id size) within allowed ready =
    let none = none_of (refusals s moment (Create tag kind id size)) allowed in
    record { free = name_free s id none.1.0; ready = ready }
what_can s objects edges moment (Update tag id size) within allowed ready =
    let none = none_of (refusals s moment (Update tag id size)) allowed in
    there s id none.1.0
what_can s objects edges moment (Link tag edge from to size) within allowed ready =
    let none = none_of (refusals s moment (Link tag edge from to size)) allowed in
    record {
      free = key_free s (key_of edge from to) none.1.1.1.1.1.1.1.0;
      source = there s from none.1.0;
      target = there s to none.1.1.0;
      room = few_edges s within;
      ready = ready;
    }
what_can s objects edges moment (Unlink tag edge from to name) within allowed ready = tt
what_can s objects edges moment (Delete tag id name) within allowed ready = tt
what_can s objects edges moment (Restore tag job) within allowed ready = tt
what_can s objects edges moment (Expire id) within allowed ready = tt
what_can s objects edges moment (Cut job edge from to) within allowed ready = tt
what_can s objects edges moment (Erase job id) within allowed ready =
    not_true (is_touched s.graph id) (and_parts (is_owned_by s job id) (not (is_touched s.graph id)) allowed).1
what_can s objects edges moment (Put job i) within allowed ready = put_change_can s objects edges (slice_get s.items i) within ready
what_can s objects edges moment (Purge job) within allowed ready = tt

-- the room that an entry wants is that of its change, at any moment
pub has_room_is : (objects : ℕ → Bool) (edges : EdgeKey → Bool) (s : State) (moment : ℕ) (what : What) →
    has_room_for objects edges (change_of s moment what) ≡ has_room objects edges s what
has_room_is objects edges s moment (Create tag kind id size) = refl
has_room_is objects edges s moment (Put job i) = refl
has_room_is objects edges s moment what = refl
