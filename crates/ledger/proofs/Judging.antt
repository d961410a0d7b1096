-- An accepted call gives a legal entry.
use Rattle.std.proofs.Common.{◌≡◌, ℕ, suc, ◌+◌, ◌*◌, ◌≤◌, Bool, true, false, cond, ◌&&◌, List, [], ◌∷◌, length, Option, Some, None, refl, sym, ap, ◌∙◌, subst, arith, leb}
use Rattle.std.proofs.lemmas.Bool.{and_from, and_parts, eqb-true, le-leb}
use Rattle.std.proofs.lemmas.Bool.Decides.{nat_tests}
use Rattle.std.proofs.lemmas.Grind.{common_steps}
use Rattle.std.specs.Prelude.{Result, Ok, Err, IfOk, is_none, nat_eq, nat_le, nat_lt, not}
use Rattle.delf_model.specs.declared.call.Call.{Call}
use Rattle.delf_model.specs.declared.call.Call.TheVariants as call
use Rattle.delf_model.specs.declared.call.Refusal.{Refusal}
use Rattle.delf_model.specs.declared.ids.JobName.{JobName}
use Rattle.delf_model.specs.declared.ids.JobName.TheVariants.{Named, Expiry}
use Rattle.delf_model.specs.declared.entry.What.{What}
use Rattle.delf_model.specs.declared.entry.What.TheVariants.{Create, Update, Link, Unlink, Delete, Restore}
use Rattle.delf_model.specs.State.{State, JobRow, find_job, job_row, same_name, last_of, is_job}
use Rattle.delf_model.specs.Step.{tag_of}
use Rattle.delf_model.specs.Legal.{is_legal, is_tag, is_numbered, is_allowed, is_named_so}
use Rattle.delf_model.specs.Room.{greatest_moment}
use Rattle.delf_model.specs.Reply.{refused, answered, answered_by, restore_of, seat_entries, next_tag, reply, reply_at}
use Rattle.job_table.specs.Table.{starts_rise}
use Rattle.ledger.specs.Ledgers.{Ledgered, state_of, is_numbered_call}
use Rattle.ledger.proofs.Entering.{len_after}

made : (w what : What) (o : Option Refusal) → answered_by w o ≡ Ok what → (o ≡ None) × (w ≡ what)
made w what None is = (refl, cc)
made w what (Some refusal) is = absurd (cc is)

eqb_self : (n : ℕ) → nat_eq n n ≡ true
eqb_self n = grind (arith, nat_tests)

-- legality, part by part
legal_from_parts : (s : State) (moment : ℕ) (what : What) → s.moment ≤ moment → moment ≤ greatest_moment → is_tag s (tag_of what) ≡ true →
    is_numbered s.rules what ≡ true → is_allowed s moment what ≡ true → is_legal s (record { moment = moment; what = what }) ≡ true
legal_from_parts s moment what low high tag numbered allowed =
    and_from (leb s.moment moment && leb moment greatest_moment && is_tag s (tag_of what) && is_numbered s.rules what) (is_allowed s moment what)
    (and_from (leb s.moment moment && leb moment greatest_moment && is_tag s (tag_of what)) (is_numbered s.rules what)
    (and_from (leb s.moment moment && leb moment greatest_moment) (is_tag s (tag_of what))
    (and_from (leb s.moment moment) (leb moment greatest_moment) (le-leb s.moment moment low) (le-leb moment greatest_moment high)) tag) numbered) allowed

tag_ok : (s : State) (seat : ℕ) → seat ≤ 64 * (s.len + 1) → is_tag s (Some (next_tag s seat)) ≡ true
tag_ok s seat small =
    and_from (nat_eq (seat_entries s seat) (seat_entries s seat)) (nat_le seat (64 * (s.len + 1))) (eqb_self (seat_entries s seat))
    (le-leb seat (64 * (s.len + 1)) small)

-- the job that a name means has that name

same_name_is : (a b : JobName) → same_name a b ≡ true → a ≡ b
same_name_is (Named a) (Named b) same = ap Named (eqb-true a b same)
same_name_is (Named a) (Expiry y) same = absurd (cc same)
same_name_is (Expiry x) (Named b) same = absurd (cc same)
same_name_is (Expiry x) (Expiry y) same = ap Expiry (eqb-true x y same)

row_above : (low len job : ℕ) (rows : List JobRow) (row : JobRow) → starts_rise low len rows ≡ true → job_row rows job ≡ Some row → low ≤ job
row_above low len job [] row rise found = absurd (cc found)
row_above low len job (x ∷ xs) row rise found = grind (arith, nat_tests, common_steps, row_above (suc x.start) len job xs row)

record HasName (rows : List JobRow) (job : ℕ) (name : JobName) : Type 0 where
  row : JobRow
  found : job_row rows job ≡ Some row
  named : row.name ≡ name

rise_rest : (low len : ℕ) (x : JobRow) (xs : List JobRow) → starts_rise low len (x ∷ xs) ≡ true → starts_rise (suc x.start) len xs ≡ true
rise_rest low len x xs rise = (and_parts (not (nat_lt x.start low) && nat_lt x.start len) (starts_rise (suc x.start) len xs) rise).1

has_name : (name : JobName) (job low len : ℕ) (rows : List JobRow) → starts_rise low len rows ≡ true → find_job rows name ≡ Some job → HasName rows job name
has_name name job low len [] rise is = absurd (cc is)
has_name name job low len (x ∷ xs) rise is =
    go (has_name name job (suc x.start) len xs (rise_rest low len x xs rise)) (find_job xs name) refl (same_name x.name name) refl is
  where
    later : HasName xs job name → HasName (x ∷ xs) job name
    later more =
        let above : suc x.start ≤ job = row_above (suc x.start) len job xs more.row (rise_rest low len x xs rise) more.found in
        let other : nat_eq x.start job ≡ false = grind (arith, nat_tests, above) in
        record { row = more.row; found = ap (λ (b : Bool). cond b (Some x) (job_row xs job)) other ∙ more.found; named = more.named }

    go : (find_job xs name ≡ Some job → HasName xs job name) → (o : Option ℕ) → find_job xs name ≡ o → (hit : Bool) → same_name x.name name ≡ hit →
        last_of (cond hit (Some x.start) None) o ≡ Some job → HasName (x ∷ xs) job name
    go more (Some j) e true h is = later (more (e ∙ is))
    go more (Some j) e false h is = later (more (e ∙ is))
    go more None e true h is =
        let start : x.start ≡ job = cc is in
        let same : nat_eq x.start job ≡ true = ap (nat_eq x.start) (sym start) ∙ eqb_self x.start in
        record { row = x; found = ap (λ (b : Bool). cond b (Some x) (job_row xs job)) same; named = same_name_is x.name name h }
    go more None e false h is = absurd (cc is)

named_so : (s : State) (job : ℕ) (name : JobName) → starts_rise 0 s.len s.jobs ≡ true → find_job s.jobs name ≡ Some job →
    is_named_so s job (job_row s.jobs job) ≡ true
named_so s job name rise is =
    let h = has_name name job 0 s.len s.jobs rise is in
    ap (is_named_so s job) h.found ∙ ap (is_job job) (ap (find_job s.jobs) h.named ∙ is) ∙ eqb_self job

-- what an accepted call asks for may come next
reply_legal : (s : State) (moment seat : ℕ) (c : Call) (what : What) → reply s moment seat c ≡ Ok what → s.moment ≤ moment → moment ≤ greatest_moment →
    seat ≤ 64 * (s.len + 1) → is_numbered_call s.rules c ≡ true → starts_rise 0 s.len s.jobs ≡ true →
    is_legal s (record { moment = moment; what = what }) ≡ true
reply_legal s moment seat (call.Create kind id payload) what is low high small numbered rise =
    let w = Create (next_tag s seat) kind id (length payload) in
    let m = made w what (refused s moment w) is in
    subst (λ (x : What). is_legal s (record { moment = moment; what = x }) ≡ true) m.1
    (legal_from_parts s moment w low high (tag_ok s seat small) numbered (ap is_none m.0))
reply_legal s moment seat (call.Update id payload) what is low high small numbered rise =
    let w = Update (next_tag s seat) id (length payload) in
    let m = made w what (refused s moment w) is in
    subst (λ (x : What). is_legal s (record { moment = moment; what = x }) ≡ true) m.1
    (legal_from_parts s moment w low high (tag_ok s seat small) refl (ap is_none m.0))
reply_legal s moment seat (call.Link edge from to payload) what is low high small numbered rise =
    let w = Link (next_tag s seat) edge from to (length payload) in
    let m = made w what (refused s moment w) is in
    subst (λ (x : What). is_legal s (record { moment = moment; what = x }) ≡ true) m.1
    (legal_from_parts s moment w low high (tag_ok s seat small) numbered (ap is_none m.0))
reply_legal s moment seat (call.Unlink edge from to name) what is low high small numbered rise =
    let w = Unlink (next_tag s seat) edge from to name in
    let m = made w what (refused s moment w) is in
    subst (λ (x : What). is_legal s (record { moment = moment; what = x }) ≡ true) m.1
    (legal_from_parts s moment w low high (tag_ok s seat small) refl (ap is_none m.0))
reply_legal s moment seat (call.Delete id name) what is low high small numbered rise =
    let w = Delete (next_tag s seat) id name in
    let m = made w what (refused s moment w) is in
    subst (λ (x : What). is_legal s (record { moment = moment; what = x }) ≡ true) m.1
    (legal_from_parts s moment w low high (tag_ok s seat small) refl (ap is_none m.0))
reply_legal s moment seat (call.Restore name) what is low high small numbered rise = go (find_job s.jobs name) refl is
  where
    go : (o : Option ℕ) → find_job s.jobs name ≡ o → answered s moment (restore_of (next_tag s seat) o) ≡ Ok what →
        is_legal s (record { moment = moment; what = what }) ≡ true
    go None e got = absurd (cc got)
    go (Some job) e got =
        let w = Restore (next_tag s seat) job in
        let m = made w what (refused s moment w) got in
        subst (λ (x : What). is_legal s (record { moment = moment; what = x }) ≡ true) m.1
        (legal_from_parts s moment w low high (tag_ok s seat small) refl
        (and_from (is_named_so s job (job_row s.jobs job)) (is_none (refused s moment w)) (named_so s job name rise e) (ap is_none m.0)))

reply_ok : (s : State) (moment seat : ℕ) (c : Call) (r : Result What Refusal) → r ≡ reply s moment seat c → s.moment ≤ moment → moment ≤ greatest_moment →
    seat ≤ 64 * (s.len + 1) → is_numbered_call s.rules c ≡ true → starts_rise 0 s.len s.jobs ≡ true →
    IfOk r (λ (what : What). is_legal s (record { moment = moment; what = what }) ≡ true)
reply_ok s moment seat c (Ok what) is low high small numbered rise = reply_legal s moment seat c what (sym is) low high small numbered rise
reply_ok s moment seat c (Err refusal) is low high small numbered rise = tt

-- what was judged of the fields, said of the value

pub judged_in : {G : Type 0} (l v : Ledgered G) (moment seat k : ℕ) (c : Call) (r : Result What Refusal) → l ≡ v → k ≡ seat_entries (state_of l) seat →
    r ≡ reply_at (state_of l) moment (record { seat = seat; k = k }) c → r ≡ reply (state_of v) moment seat c
judged_in l v moment seat k c r is k_is answer =
    subst (λ (x : Ledgered _). r ≡ reply (state_of x) moment seat c) is
    (answer ∙ ap (λ (n : ℕ). reply_at (state_of l) moment (record { seat = seat; k = n }) c) k_is)

pub judged_legal : {G : Type 0} (l v : Ledgered G) (moment seat : ℕ) (c : Call) (r : Result What Refusal) → l ≡ v →
    (state_of l).rules ≡ l.rules → starts_rise 0 (state_of l).len (state_of l).jobs ≡ true → r ≡ reply (state_of v) moment seat c →
    (state_of v).moment ≤ moment → moment ≤ greatest_moment → seat ≤ 64 * (length v.history + 1) → is_numbered_call v.rules c ≡ true →
    IfOk r (λ (what : What). is_legal (state_of v) (record { moment = moment; what = what }) ≡ true)
judged_legal l v moment seat c r is ruled rise answer low high small numbered =
    reply_ok (state_of v) moment seat c r answer low high
    (subst (λ (n : ℕ). seat ≤ 64 * (n + 1)) (sym (len_after v.rules v.history)) small)
    (ap (λ (x : Ledgered _). is_numbered_call (state_of x).rules c) (sym is) ∙ ap (λ rules. is_numbered_call rules c) ruled ∙
    ap (λ (x : Ledgered _). is_numbered_call x.rules c) is ∙ numbered)
    (ap (λ (x : Ledgered _). starts_rise 0 (state_of x).len (state_of x).jobs) (sym is) ∙ rise)
