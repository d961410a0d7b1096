use Rattle.std.proofs.Common.{[], refl}
use Rattle.std.proofs.lemmas.Bool.{false≢true}
use Rattle.delf_model.specs.RuleSet.{RuleSet}
use Rattle.delf_model.specs.Payloads.{no_payloads}
use Rattle.store_laws.specs.Stores.{Hold}
use Rattle.store_laws.proofs.examples.empty_history.Goals as goal

empty_held : (rules : RuleSet) → Hold rules [] no_payloads [] []
empty_held rules = record {
  spell = record { entries = tt; heads = refl; sizes = refl; items = refl; item_sizes = refl };
  reads = λ p needed. absurd (false≢true needed);
  seals = refl;
  alone = λ p unneeded. refl;
}

pub returns-clause-empty : goal.returns-clause-empty
returns-clause-empty c = empty_held

pub returns-clause-journal : goal.returns-clause-journal
returns-clause-journal c = λ rules r hold. cc hold.spell.sizes

pub returns-clause-vault : goal.returns-clause-vault
returns-clause-vault c = λ rules r hold. cc hold.spell.item_sizes
