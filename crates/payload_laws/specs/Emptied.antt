-- A wrong fold, in which a put loses the bytes, and a history that tells it from the right one.
use Rattle.std.specs.Prelude.{ℕ, List, [], ◌∷◌, map}
use Rattle.delf_model.specs.declared.entry.Entry.{Entry}
use Rattle.delf_model.specs.declared.entry.Tag.{Tag}
use Rattle.delf_model.specs.declared.entry.What.{What}
use Rattle.delf_model.specs.declared.entry.What.TheVariants.{Create, Delete, Restore, Erase, Put}
use Rattle.delf_model.specs.RuleSet.{RuleSet}
use Rattle.delf_model.specs.State.{State, start}
use Rattle.delf_model.specs.Step.{step}
use Rattle.delf_model.specs.Payloads.{Payloads, no_payloads, payloads_after, given_at}
use Rattle.delf_model.specs.Worked.{user}

abbrev pub emptied_pair : ℕ × List ℕ → ℕ × List ℕ
emptied_pair pair = (pair.0, [])

abbrev pub emptied_at_put : What → List (ℕ × List ℕ) → List (ℕ × List ℕ)
emptied_at_put (Put job i) pairs = map emptied_pair pairs
emptied_at_put what pairs = pairs

abbrev pub emptied_after : (List ℕ → List ℕ) → State → Entry → List ℕ → Payloads → Payloads
emptied_after digest s entry given e = record {
  bytes = emptied_at_put entry.what (payloads_after digest s entry given e).bytes;
  seals = (payloads_after digest s entry given e).seals;
}

abbrev pub emptied_run : (List ℕ → List ℕ) → List (List ℕ) → State → List Entry → Payloads → Payloads
emptied_run digest given s [] e = e
emptied_run digest given s (entry ∷ entries) e =
    emptied_run digest given (step s entry) entries (emptied_after digest s entry (given_at given s.len) e)

abbrev pub emptied_along : (List ℕ → List ℕ) → List (List ℕ) → RuleSet → List Entry → Payloads
emptied_along digest given rules history = emptied_run digest given (start rules) history no_payloads

abbrev pub at_zero : What → Entry
at_zero what = record { moment = 0; what = what }

abbrev pub tag : ℕ → Tag
tag k = record { seat = 0; k = k }

-- a user is created with one byte, deleted, erased, restored and put back
abbrev pub there_and_back : List Entry
there_and_back =
    at_zero (Create (tag 0) user 1 1) ∷ at_zero (Delete (tag 1) 1 40) ∷ at_zero (Erase 1 1) ∷ at_zero (Restore (tag 2) 1) ∷
    at_zero (Put 1 0) ∷ []

abbrev pub one_byte : List (List ℕ)
one_byte = (97 ∷ []) ∷ [] ∷ [] ∷ [] ∷ [] ∷ []
