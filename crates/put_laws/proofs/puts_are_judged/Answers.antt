use Rattle.put_laws.proofs.Puts.{judged_puts}
use Rattle.put_laws.proofs.puts_are_judged.Goals as goal

pub returns : goal.returns
returns c = judged_puts
