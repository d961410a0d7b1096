use Rattle.std.proofs.Common.{string_bytes, arith}
use Rattle.documents.proofs.Requests.{past_three}
use Rattle.documents.proofs.words.read_words.Goals as goal

pub returns-in_default-2-clause-request : goal.returns-in_default-2-clause-request
returns-in_default-2-clause-request c = past_three string_bytes c.args.words.now (omega (arith, c.in_default.len_at_least))
