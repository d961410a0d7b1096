use Rattle.std.proofs.Common.{List, length, ap, ◌∙◌, subst}
use Rattle.std.proofs.lemmas.List.{length-map}
use Rattle.delf_disk.specs.Plain.{Plain}
use Rattle.delf_model.specs.declared.entry.What.{What}
use Rattle.delf_model.specs.Step.{after}
use Rattle.ledger.specs.Held.{AreHeld}
use Rattle.delf_book.specs.Books.{Booked, state_in}
use Rattle.delf_book.specs.Claims.{step_of, steps_of, AreLogged, AreRead}
use Rattle.delf_book.proofs.book.Book.claims.Goals as goal

pub returns-clause-value : goal.returns-clause-value
returns-clause-value g c =
    c.held.ensures.value ∙ (ap length c.self.invariant.5.steps ∙ (length-map c.self.inside.claims.items step_of ∙
    ap (λ (b : Booked g.row.G.Denot g.row.R.Denot). length b.held) c.self.view_is))

pub returns-clause-held : goal.returns-clause-held
returns-clause-held g c =
    let l = c.self.inside.ledger in
    subst (λ (b : Booked g.row.G.Denot g.row.R.Denot). AreHeld (state_in b) (steps_of b.held)) c.self.view_is
    (subst (λ (steps : List What). AreHeld (after l.rules l.history) steps) c.self.invariant.5.steps c.held.ensures.are)

pub returns-clause-logged : goal.returns-clause-logged
returns-clause-logged g c = subst (λ (b : Booked g.row.G.Denot g.row.R.Denot). AreLogged (state_in b) b.held) c.self.view_is c.self.invariant.5.logged

pub returns-clause-read : goal.returns-clause-read
returns-clause-read g c =
    subst (λ (b : Booked g.row.G.Denot g.row.R.Denot). Plain (g.R.Disk.told b.rig) (g.R.Disk.honest b.rig) → AreRead b.payloads b.held) c.self.view_is c.self.invariant.6
