-- A legal entry is within the bounds of its spelling.
use Rattle.std.proofs.Common.{◌≡◌, ℕ, ◌≤◌, true, length, subst, arith}
use Rattle.std.proofs.lemmas.Bool.Decides.{nat_tests}
use Rattle.delf_model.specs.declared.entry.Entry.{Entry}
use Rattle.delf_model.specs.declared.entry.What.{What}
use Rattle.delf_model.specs.declared.entry.What.TheVariants.{Create, Update, Link, Unlink, Delete, Restore, Expire, Cut, Erase, Put, Purge}
use Rattle.delf_model.specs.RuleSet.{RuleSet}
use Rattle.delf_model.specs.State.{State}
use Rattle.delf_model.specs.Legal.{is_legal, is_allowed, is_numbered}
use Rattle.delf_model.specs.Reply.{refusals}
use Rattle.delf_model.proofs.Lines.{allowed_of, numbered_of, moment_within, none_of, short}
use Rattle.entry_codec.specs.EntryHead.{IsBounded}

by_what : (s : State) (moment : ℕ) (what : What) → length s.rules.objects ≤ 64 → is_numbered s.rules what ≡ true → is_allowed s moment what ≡ true → IsBounded what
by_what s moment (Create tag kind id size) few numbered line = (grind (arith, nat_tests), short size (none_of (refusals s moment (Create tag kind id size)) line).0)
by_what s moment (Update tag id size) few numbered line = short size (none_of (refusals s moment (Update tag id size)) line).0
by_what s moment (Link tag edge from to size) few numbered line = short size (none_of (refusals s moment (Link tag edge from to size)) line).0
by_what s moment (Unlink tag edge from to name) few numbered line = tt
by_what s moment (Delete tag id name) few numbered line = tt
by_what s moment (Restore tag job) few numbered line = tt
by_what s moment (Expire id) few numbered line = tt
by_what s moment (Cut job edge from to) few numbered line = tt
by_what s moment (Erase job id) few numbered line = tt
by_what s moment (Put job i) few numbered line = tt
by_what s moment (Purge job) few numbered line = tt

pub legal_bounded : (rules : RuleSet) (e : Entry) → length rules.objects ≤ 64 → (s : State) × (rules ≡ s.rules) × (is_legal s e ≡ true) → IsBounded e.what
legal_bounded rules e few (s, is, line) =
    by_what s e.moment e.what (subst (λ (r : RuleSet). length r.objects ≤ 64) is few) (numbered_of s e line) (allowed_of s e line)

pub legal_moment : (rules : RuleSet) (e : Entry) → (s : State) × (rules ≡ s.rules) × (is_legal s e ≡ true) → e.moment ≤ 999999999999
legal_moment rules e (s, is, line) = moment_within s e line
