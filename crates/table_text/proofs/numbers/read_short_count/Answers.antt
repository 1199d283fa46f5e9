use Rattle.table_text.proofs.SignedFacts.{short-within}
use Rattle.std.proofs.Common.{arith}
use Rattle.table_text.proofs.numbers.read_short_count.Goals as goal

pub returns-clause-within : goal.returns-clause-within
returns-clause-within c = short-within c.args.text.now c.read_count.result (omega arith) c.read_count.ensures
