use Rattle.std.proofs.Common.{◌∙◌, ℕ, List, sym, ap, subst}
use Rattle.std.specs.Prelude.{map}
use Rattle.delf_disk.specs.declared.area.Area.TheVariants as area
use Rattle.delf_disk.proofs.Flags.{stays_plain}
use Rattle.gate_log.specs.Records.{size_of}
use Rattle.delf_model.specs.RuleSet.{RuleSet}
use Rattle.store_laws.specs.Logged.{IsLog}
use Rattle.store_laws.specs.Stores.{StandBut, journal_mark, vault_mark}
use Rattle.ledger.specs.Ledgers.{state_of}
use Rattle.delf_book.proofs.Writes.{leaves_joined}
use Rattle.delf_recovery.specs.Opening.{IsBadAt}
use Rattle.delf_recovery.specs.Reading.{ShowsFaulty, ReadsVault}
use Rattle.delf_recovery.proofs.Notes.{noted_there}
use Rattle.delf_recovery.proofs.Started.{log_now}
use Rattle.delf_recovery.proofs.Spelled.{reads_stand}
use Rattle.delf_recovery.proofs.Longer.{keeps_joined}
use Rattle.delf_recovery.proofs.Faults.{journal_never, vault_bad, vault_never}
use Rattle.delf_recovery.proofs.reading.read_areas.Goals as goal

pub returns-in-Err-clause-never : goal.returns-in-Err-clause-never
returns-in-Err-clause-never g c = λ plain h e but.
    journal_never c.args.fold.now.rules h e (g.D.Disk.seen c.args.disk.now) c.in-Err.fault but (c.in-Err.ensures.bad plain)

pub returns-in-Err-read_vault-clause-bad : goal.returns-in-Err-read_vault-clause-bad
returns-in-Err-read_vault-clause-bad g c = λ plain.
    let f = c.read_journal.new.fold in
    let fault = c.in-Err-read_vault.fault in
    let old = g.D.Disk.seen c.args.disk.now in
    let same = (c.in-Ok.ensures.starts plain).other in
    subst (λ (r : RuleSet). IsBadAt r (g.D.Disk.seen c.args.disk.now) c.in-Err-read_vault.fault) c.in-Ok.ensures.rules
    (vault_bad f.rules f.history old fault (c.in-Ok.ensures.reads plain)
    (subst (λ (v : List ℕ). ShowsFaulty (state_of c.read_journal.new.fold).items v c.in-Err-read_vault.fault) same (c.in-Err-read_vault.ensures.bad (stays_plain c.read_journal.ensures.kind plain))))

pub returns-in-Err-read_vault-clause-never : goal.returns-in-Err-read_vault-clause-never
returns-in-Err-read_vault-clause-never g c = λ plain h e but.
    let f = c.read_journal.new.fold in
    let fault = c.in-Err-read_vault.fault in
    let old = g.D.Disk.seen c.args.disk.now in
    let same = (c.in-Ok.ensures.starts plain).other in
    let but_now = subst (λ (r : RuleSet). StandBut r h e (g.D.Disk.seen c.args.disk.now)) (sym c.in-Ok.ensures.rules) but in
    vault_never f.rules f.history h e old fault (c.in-Ok.ensures.reads plain) but_now
    (subst (λ (v : List ℕ). ShowsFaulty (state_of c.read_journal.new.fold).items v c.in-Err-read_vault.fault) same (c.in-Err-read_vault.ensures.bad (stays_plain c.read_journal.ensures.kind plain)))

pub returns-in-Err-read_vault-clause-crash : goal.returns-in-Err-read_vault-clause-crash
returns-in-Err-read_vault-clause-crash g c = λ plain rules h e but.
    let now = stays_plain c.read_journal.ensures.kind plain in
    let first = c.read_journal.ensures.crash plain rules h e but in
    leaves_joined first (c.read_vault.ensures.crash now rules h e (first.now (g.D.Disk.seen c.read_journal.new.disk) (g.met.D.Disk.reads_as_image c.read_journal.new.disk now)))

pub returns-in-Ok-read_vault-clause-crash : goal.returns-in-Ok-read_vault-clause-crash
returns-in-Ok-read_vault-clause-crash g c = λ plain rules h e but.
    let now = stays_plain c.read_journal.ensures.kind plain in
    let first = c.read_journal.ensures.crash plain rules h e but in
    leaves_joined first (c.read_vault.ensures.crash now rules h e (first.now (g.D.Disk.seen c.read_journal.new.disk) (g.met.D.Disk.reads_as_image c.read_journal.new.disk now)))

pub returns-in-Ok-read_vault-clause-vault_reads : goal.returns-in-Ok-read_vault-clause-vault_reads
returns-in-Ok-read_vault-clause-vault_reads g c = λ plain.
    subst (λ (v : List ℕ). ReadsVault (state_of c.read_journal.new.fold).items v) (c.in-Ok.ensures.starts plain).other
    (c.in-Ok-read_vault.ensures.reads (stays_plain c.read_journal.ensures.kind plain))

pub returns-in-Ok-read_vault-clause-found : goal.returns-in-Ok-read_vault-clause-found
returns-in-Ok-read_vault-clause-found g c = λ plain.
    let f = c.read_journal.new.fold in
    let stood = reads_stand f.rules f.history (g.D.Disk.seen c.args.disk.now) c.in-Ok.ensures.legal c.in-Ok.ensures.entries (c.in-Ok.ensures.reads plain) (returns-in-Ok-read_vault-clause-vault_reads g c plain) in
    record { entries = c.in-Ok.ensures.entries; payloads = stood.0; stand = stood.1 }

pub returns-in-Ok-read_vault-clause-sized : goal.returns-in-Ok-read_vault-clause-sized
returns-in-Ok-read_vault-clause-sized g c = λ plain.
    let starts = c.in-Ok-read_vault.ensures.starts (stays_plain c.read_journal.ensures.kind plain) in
    let now = log_now area.Vault vault_mark c.in-Ok-read_vault.vault.log.sizes (g.D.Disk.seen c.read_journal.new.disk) (g.D.Disk.seen c.read_vault.new.disk) starts in
    ap (map size_of) now.1 ∙ starts.sized

pub returns-in-Ok-read_vault-clause-standing : goal.returns-in-Ok-read_vault-clause-standing
returns-in-Ok-read_vault-clause-standing g c = λ plain.
    let f = c.read_journal.new.fold in
    let now = stays_plain c.read_journal.ensures.kind plain in
    let then = stays_plain c.read_vault.ensures.kind now in
    let found = returns-in-Ok-read_vault-clause-found g c plain in
    let journal = c.in-Ok.ensures.starts plain in
    let vault = c.in-Ok-read_vault.ensures.starts now in
    let last = g.D.Disk.seen c.read_vault.new.disk in
    record {
      journal = subst (IsLog journal_mark) (sym vault.other) (log_now area.Journal journal_mark c.in-Ok.journal.log.sizes (g.D.Disk.seen c.args.disk.now) (g.D.Disk.seen c.read_journal.new.disk) journal).0;
      vault = (log_now area.Vault vault_mark c.in-Ok-read_vault.vault.log.sizes (g.D.Disk.seen c.read_journal.new.disk) last vault).0;
      payloads = found.payloads;
      stand = (returns-in-Ok-read_vault-clause-crash g c plain f.rules f.history found.payloads found.stand).now last (g.met.D.Disk.reads_as_image c.read_vault.new.disk then);
    }

pub returns-in-Ok-read_vault-clause-journal_noted : goal.returns-in-Ok-read_vault-clause-journal_noted
returns-in-Ok-read_vault-clause-journal_noted g c = λ plain.
    let starts = c.in-Ok-read_vault.ensures.starts (stays_plain c.read_journal.ensures.kind plain) in
    noted_there area.Journal (g.D.Disk.seen c.read_journal.new.disk) (g.D.Disk.seen c.read_vault.new.disk) c.in-Ok.journal.notes.items starts.other (c.in-Ok.ensures.noted plain)

pub returns-in-Err-read_vault-clause-longer : goal.returns-in-Err-read_vault-clause-longer
returns-in-Err-read_vault-clause-longer g c = λ plain.
    let now = stays_plain c.read_journal.ensures.kind plain in
    let mid = g.D.Disk.seen c.read_journal.new.disk in
    let first = c.read_journal.ensures.longer plain in
    keeps_joined (g.D.Disk.seen c.args.disk.now) mid first (first.now mid (g.met.D.Disk.reads_as_image c.read_journal.new.disk now)) (c.read_vault.ensures.longer now)

pub returns-in-Ok-read_vault-clause-longer : goal.returns-in-Ok-read_vault-clause-longer
returns-in-Ok-read_vault-clause-longer g c = λ plain.
    let now = stays_plain c.read_journal.ensures.kind plain in
    let mid = g.D.Disk.seen c.read_journal.new.disk in
    let first = c.read_journal.ensures.longer plain in
    keeps_joined (g.D.Disk.seen c.args.disk.now) mid first (first.now mid (g.met.D.Disk.reads_as_image c.read_journal.new.disk now)) (c.read_vault.ensures.longer now)
