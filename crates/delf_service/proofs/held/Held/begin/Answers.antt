use Rattle.std.proofs.Common.{Ok, Err}
use Rattle.delf_model.specs.Room.{moment_of}
use Rattle.delf_book.specs.Books.{state_in}
use Rattle.delf_book.specs.declared.answers.Begun.TheVariants as begun
use Rattle.delf_service.specs.declared.answers.Turned.TheVariants as turned_as
use Rattle.delf_service.specs.Standings.{standing_in}
use Rattle.delf_service.proofs.Books.{begin_at, begin_in, held_turn}
use Rattle.delf_service.proofs.Claimed.{turned}
use Rattle.delf_service.proofs.held.Held.begin.Goals as goal

pub returns-in-Ok-Stepped : goal.returns-in-Ok-Stepped
returns-in-Ok-Stepped g c =
    turned (standing_in g.R.Disk c.args.self.now.book c.args.self.now.moment c.args.self.now.lanes) (standing_in g.R.Disk c.begin-outcome.new.self c.args.self.now.moment c.args.self.now.lanes) c.args.now (Ok (turned_as.Stepped c.in-Ok-Stepped.position))
    c.len-len.ensures.legal
    (begin_at g.R.Disk c.args.self.now.moment c.args.self.now.lanes c.args.self.now.book c.begin-outcome.new.self c.args.now c.standing.ensures.sealed
    c.begin-outcome.result c.in-Ok-Stepped.field-0 (begun.Stepped c.in-Ok-Stepped.position) c.in-Ok-Stepped.is c.in-Ok-Stepped.field-0-is
    c.begin-outcome.ensures.answer c.begin-outcome.ensures.payloads c.begin-outcome.ensures.seals c.begin-outcome.ensures.cause c.begin-outcome.ensures.kind)
    c.standing-2.ensures.fell

pub returns-in-Ok-Idle : goal.returns-in-Ok-Idle
returns-in-Ok-Idle g c =
    turned (standing_in g.R.Disk c.args.self.now.book c.args.self.now.moment c.args.self.now.lanes) (standing_in g.R.Disk c.begin-outcome.new.self c.args.self.now.moment c.args.self.now.lanes) c.args.now (Ok (turned_as.Idle c.in-Ok-Idle.len))
    c.len-len.ensures.legal
    (begin_at g.R.Disk c.args.self.now.moment c.args.self.now.lanes c.args.self.now.book c.begin-outcome.new.self c.args.now c.standing.ensures.sealed
    c.begin-outcome.result c.in-Ok-Idle.field-0 (begun.Idle c.in-Ok-Idle.len) c.in-Ok-Idle.is c.in-Ok-Idle.field-0-is
    c.begin-outcome.ensures.answer c.begin-outcome.ensures.payloads c.begin-outcome.ensures.seals c.begin-outcome.ensures.cause c.begin-outcome.ensures.kind)
    c.standing-2.ensures.fell

pub returns-in-Err : goal.returns-in-Err
returns-in-Err g c =
    turned (standing_in g.R.Disk c.args.self.now.book c.args.self.now.moment c.args.self.now.lanes) (standing_in g.R.Disk c.begin-outcome.new.self c.args.self.now.moment c.args.self.now.lanes) c.args.now (Err c.in-Err.fault)
    c.len-len.ensures.legal
    (begin_in g.R.Disk c.args.self.now.moment c.args.self.now.lanes c.args.self.now.book c.begin-outcome.new.self c.args.now c.standing.ensures.sealed (Err c.in-Err.fault)
    c.in-Err.ensures.answer c.in-Err.ensures.payloads c.in-Err.ensures.seals c.in-Err.ensures.cause c.begin-outcome.ensures.kind)
    c.standing-2.ensures.fell

pub returns-in-Ok-Claimed : goal.returns-in-Ok-Claimed
returns-in-Ok-Claimed g c = record {
  legal = c.len-len.ensures.legal;
  same = begin_at g.R.Disk c.args.self.now.moment c.args.self.now.lanes c.args.self.now.book c.begin-outcome.new.self c.args.now c.standing.ensures.sealed
      c.begin-outcome.result c.in-Ok-Claimed.field-0 (begun.Claimed c.in-Ok-Claimed.claim) c.in-Ok-Claimed.is c.in-Ok-Claimed.field-0-is
      c.begin-outcome.ensures.answer c.begin-outcome.ensures.payloads c.begin-outcome.ensures.seals c.begin-outcome.ensures.cause c.begin-outcome.ensures.kind;
}

pub returns-in-Ok-Held : goal.returns-in-Ok-Held
returns-in-Ok-Held g c =
    held_turn g.R.Disk c.args.self.now.moment c.args.self.now.lanes c.args.self.now.book c.begin-outcome.new.self (moment_of (state_in c.args.self.now.book) c.args.now) c.args.now
    c.in-Ok-Held.field-0-0 c.in-Ok-Held.field-0-1 (standing_in g.R.Disk c.work.new.self.book c.work.new.self.moment c.work.new.self.lanes) c.work.result
    c.begin-outcome.result c.in-Ok-Held.field-0 c.in-Ok-Held.is c.in-Ok-Held.field-0-is c.begin-outcome.ensures.answer c.work.ensures.turns
