use Rattle.std.proofs.Common.{rules, refl, vec_capacity, sym, subst, arith}
use Rattle.std.proofs.lemmas.Bool.{false≢true}
use Rattle.std.proofs.lemmas.Grind.{common_steps}
use Rattle.std.specs.Prelude.{false}
use Rattle.delf_disk.specs.Areas.{Areas}
use Rattle.delf_model.specs.Step.{after}
use Rattle.ledger.specs.Ledgers.{Ledgered}
use Rattle.delf_book.specs.Keeping.{KeepsLogs, KeepsAreas, KeepsPayloads, KeepsOpening, payloads_in}
use Rattle.delf_book.proofs.Claiming.{claims_none, read_none}
use Rattle.delf_book.proofs.Payloads.{keeps_opened}
use Rattle.delf_book.proofs.folds.Fold.into_book.Goals as goal

pub invariant_of-result : goal.invariant_of-result
invariant_of-result g c =
    let l = c.self.inside.ledger in
    let seen : g.row.R.Denot → Areas = g.R.Disk.seen in (
      λ up. record {
        logs = subst (λ (x : Ledgered g.row.G.Denot). KeepsLogs x.rules x.history c.args.journal c.args.vault) (sym c.self.view_is) c.requires.logs;
        carried = c.self.invariant.0;
        room = first_of (search rules, grind (arith, common_steps));
        areas = λ plain. subst (λ (x : Ledgered g.row.G.Denot). KeepsAreas x.rules x.history (seen c.args.rig) (g.R.Disk.may_leave c.args.rig)) (sym c.self.view_is) (c.requires.areas plain);
      },
      λ up. refl,
      λ down. absurd (false≢true down),
      λ plain.
          let areas = subst (λ (x : Ledgered g.row.G.Denot). KeepsAreas x.rules x.history (seen c.args.rig) (g.R.Disk.may_leave c.args.rig)) (sym c.self.view_is) (c.requires.areas plain) in
          subst (λ (x : g.row.R.Denot). KeepsPayloads l.rules l.history (payloads_in (after l.rules l.history) (seen x)) false (seen c.args.rig) (seen c.of-opened.result.value)) (sym c.of-rested.ensures)
          (subst (λ (x : g.row.R.Denot). KeepsPayloads l.rules l.history (payloads_in (after l.rules l.history) (seen c.args.rig)) false (seen c.args.rig) (seen x)) (sym c.of-opened.ensures)
          (keeps_opened l.rules l.history (seen c.args.rig) (g.R.Disk.may_leave c.args.rig) c.len-len.ensures.legal (g.met.R.Disk.reads_as_image c.args.rig plain) areas)),
      subst (λ (x : g.row.R.Denot). KeepsOpening g.R.Disk.told g.R.Disk.honest g.R.Disk.faults false x c.args.rig) (sym c.of-opened.ensures) (record {
        telling = record { tells = refl; keeps_word = refl };
        later = omega arith;
        rose = λ is. absurd (false≢true is);
      }),
      claims_none l.rules l.history l.held c.self.inside.claims.items (vec_capacity c.self.inside.claims) c.self.invariant.1 c.self.invariant.2,
      λ plain. read_none (payloads_in (after l.rules l.history) (seen c.of-rested.result.value)) c.self.inside.claims.items c.self.invariant.2,
    )
