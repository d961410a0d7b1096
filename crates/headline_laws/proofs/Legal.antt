-- What a world adds to its history is legal: the entry of an accepted call, and a step.
use Rattle.std.proofs.Common.{◌≡◌, ℕ, ◌+◌, ◌*◌, ◌<◌, ◌≤◌, min, max, Bool, true, false, cond, Option, Some, None, Ok, List, [], ◌∷◌, ◌++◌, length, map, refl, sym, ap, subst, ◌∙◌, arith}
use Rattle.std.proofs.lemmas.Bool.{and_parts, lt-ltb}
use Rattle.std.proofs.lemmas.List.{append-nil}
use Rattle.std.specs.Prelude.{IfOk, nat_eq}
use Rattle.delf_model.specs.declared.call.Call.{Call}
use Rattle.delf_model.specs.declared.call.Call.TheVariants as call
use Rattle.delf_model.specs.declared.entry.Entry.{Entry}
use Rattle.delf_model.specs.declared.entry.What.{What}
use Rattle.delf_model.specs.declared.entry.What.TheVariants.{Create, Update, Link, Unlink, Delete, Restore, Expire, Cut, Erase, Put, Purge}
use Rattle.delf_model.specs.declared.ids.JobName.{JobName}
use Rattle.delf_model.specs.declared.ids.JobName.TheVariants.{Named, Expiry}
use Rattle.delf_model.specs.RuleSet.{RuleSet}
use Rattle.delf_model.specs.State.{State, JobRow, start}
use Rattle.delf_model.specs.Owners.{unlink_start}
use Rattle.delf_model.specs.Step.{step, run, after, tag_of, jobs_after, started_job, row_restored_at, erased_at, purged_if}
use Rattle.delf_model.specs.Legal.{Legal, is_legal}
use Rattle.delf_model.specs.Room.{moment_of, greatest_moment}
use Rattle.delf_model.specs.Order.{is_step, first_step}
use Rattle.delf_model.specs.Sound.{FirstIsLegal}
use Rattle.delf_model.proofs.Good.{good_after}
use Rattle.order_laws.proofs.First.{first_is_legal}
use Rattle.job_table.specs.Table.{starts_rise}
use Rattle.job_table.proofs.Rows.{starts_wider, starts_push, starts_map}
use Rattle.ledger.specs.Ledgers.{Ledgered, is_numbered_call}
use Rattle.ledger.proofs.Judging.{judged_legal}
use Rattle.delf_service.specs.Standings.{seat_of_tag}
use Rattle.delf_service.proofs.Tags.{step_maker}
use Rattle.documents.specs.Names.{IsNumberedCall}
use Rattle.script_runner.specs.Serial.{answer, next_step}
use Rattle.script_runner.specs.Worlds.{World, state_of, now_of, entry_now}
use Rattle.script_runner.proofs.Numbered.{rules_after}

-- jobs go by rising starts

restored_start : (job position : ℕ) (row : JobRow) → (row_restored_at job position row).start ≡ row.start
restored_start job position row = go (nat_eq row.start job)
  where
    go : (b : Bool) → (cond b (record row { restored = Some position }) row).start ≡ row.start
    go true = refl
    go false = refl

erased_start : (job moment : ℕ) (row : JobRow) → (erased_at job moment row).start ≡ row.start
erased_start job moment row = go (nat_eq row.start job)
  where
    go : (b : Bool) → (cond b (record row { last = Some moment }) row).start ≡ row.start
    go true = refl
    go false = refl

purged_start : (job : ℕ) (row : JobRow) → (purged_if job row).start ≡ row.start
purged_start job row = go (nat_eq row.start job)
  where
    go : (b : Bool) → (cond b (record row { purged = true }) row).start ≡ row.start
    go true = refl
    go false = refl

rise_started : (len : ℕ) (o : Option (ℕ × JobName)) (jobs : List JobRow) → starts_rise 0 len jobs ≡ true →
    starts_rise 0 (len + 1) (jobs ++ started_job len o) ≡ true
rise_started len None jobs rise =
    subst (λ (l : List JobRow). starts_rise 0 (len + 1) l ≡ true) (sym (append-nil jobs)) (starts_wider 0 len (len + 1) jobs (omega arith) rise)
rise_started len (Some pair) jobs rise = starts_push 0 len pair.0 pair.1 jobs (omega arith) rise

rise_step : (s : State) (moment : ℕ) (what : What) → starts_rise 0 s.len s.jobs ≡ true → starts_rise 0 (s.len + 1) (jobs_after s moment what) ≡ true
rise_step s moment (Create tag kind id size) rise = starts_wider 0 s.len (s.len + 1) s.jobs (omega arith) rise
rise_step s moment (Update tag id size) rise = starts_wider 0 s.len (s.len + 1) s.jobs (omega arith) rise
rise_step s moment (Link tag edge from to size) rise = starts_wider 0 s.len (s.len + 1) s.jobs (omega arith) rise
rise_step s moment (Unlink tag edge from to name) rise = rise_started s.len (unlink_start s edge from to name) s.jobs rise
rise_step s moment (Delete tag id name) rise = starts_push 0 s.len id (Named name) s.jobs (omega arith) rise
rise_step s moment (Restore tag job) rise =
    starts_map (row_restored_at job s.len) 0 (s.len + 1) s.jobs (restored_start job s.len) (starts_wider 0 s.len (s.len + 1) s.jobs (omega arith) rise)
rise_step s moment (Expire id) rise = starts_push 0 s.len id (Expiry id) s.jobs (omega arith) rise
rise_step s moment (Cut job edge from to) rise =
    starts_map (erased_at job moment) 0 (s.len + 1) s.jobs (erased_start job moment) (starts_wider 0 s.len (s.len + 1) s.jobs (omega arith) rise)
rise_step s moment (Erase job id) rise =
    starts_map (erased_at job moment) 0 (s.len + 1) s.jobs (erased_start job moment) (starts_wider 0 s.len (s.len + 1) s.jobs (omega arith) rise)
rise_step s moment (Put job i) rise = starts_wider 0 s.len (s.len + 1) s.jobs (omega arith) rise
rise_step s moment (Purge job) rise =
    starts_map (purged_if job) 0 (s.len + 1) s.jobs (purged_start job) (starts_wider 0 s.len (s.len + 1) s.jobs (omega arith) rise)

rise_run : (s : State) (es : List Entry) → starts_rise 0 s.len s.jobs ≡ true → starts_rise 0 (run s es).len (run s es).jobs ≡ true
rise_run s [] rise = rise
rise_run s (e ∷ es) rise = rise_run (step s e) es (rise_step s e.moment e.what rise)

starts_after : (rules : RuleSet) (h : List Entry) → starts_rise 0 (after rules h).len (after rules h).jobs ≡ true
starts_after rules h = rise_run (start rules) h refl

-- an accepted call

numbered_call : (rules : RuleSet) (asked : Call) → IsNumberedCall rules asked → is_numbered_call rules asked ≡ true
numbered_call rules (call.Create kind id payload) numbered = lt-ltb kind (length rules.objects) numbered
numbered_call rules (call.Update id payload) numbered = refl
numbered_call rules (call.Link edge from to payload) numbered = lt-ltb edge (length rules.edges) numbered
numbered_call rules (call.Unlink edge from to name) numbered = refl
numbered_call rules (call.Delete id name) numbered = refl
numbered_call rules (call.Restore name) numbered = refl

moment_low : (s : State) (clock : ℕ) → s.moment ≤ moment_of s clock
moment_low s clock = omega arith

moment_high : (s : State) (clock : ℕ) → s.moment ≤ greatest_moment → moment_of s clock ≤ greatest_moment
moment_high s clock small = omega (arith, small)

pub answer_legal : (w : World) (asked : Call) (what : What) → Legal w.rules w.history → IsNumberedCall w.rules asked → answer w asked ≡ Ok what →
    is_legal (state_of w) (entry_now w what) ≡ true
answer_legal w asked what legal numbered is =
    let l : Ledgered (Unit {0}) = record { rules = w.rules; history = w.history; store = tt; held = []; spare = 0 } in
    judged_legal l l (now_of w) 0 asked (Ok what) refl (rules_after w.rules w.history) (starts_after w.rules w.history) (sym is)
    (moment_low (state_of w) w.clock) (moment_high (state_of w) w.clock (good_after w.rules w.history legal).moment) (omega arith)
    (numbered_call w.rules asked numbered)

-- a step

pub step_first : (w : World) (what : What) → Legal w.rules w.history → next_step w ≡ Some what → (is_step what ≡ true) × (is_legal (state_of w) (entry_now w what) ≡ true)
step_first w what legal is =
    and_parts (is_step what) (is_legal (state_of w) (entry_now w what)) ((first_is_legal w.rules w.history (now_of w) legal).legal what is)

pub step_untagged : (w : World) (what : What) → Legal w.rules w.history → next_step w ≡ Some what → seat_of_tag (tag_of what) ≡ None
step_untagged w what legal is = step_maker (state_of w) (now_of w) what ((first_is_legal w.rules w.history (now_of w) legal).legal what is)
