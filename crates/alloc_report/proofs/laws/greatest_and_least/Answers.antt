-- Each part is a lemma.
use Rattle.alloc_report.proofs.WeightsLemmas.{greatest, least}
use Rattle.alloc_report.proofs.laws.greatest_and_least.Goals as goal

pub returns : goal.returns
returns c numbers some = (greatest numbers some, least numbers some)
