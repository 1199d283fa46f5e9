use Rattle.lottery_file.proofs.ReadOnce.{one-value, not-both}
use Rattle.lottery_file.proofs.RoundTrip.{rows-read, text-reads}
use Rattle.lottery_file.specs.Written.{lottery_text}
use Rattle.lottery_file.proofs.laws.written_lottery_reads_back.Goals as goal

pub returns-clause-records : goal.returns-clause-records
returns-clause-records c = rows-read

pub returns-clause-text : goal.returns-clause-text
returns-clause-text c = text-reads

pub returns-clause-alone : goal.returns-clause-alone
returns-clause-alone c l m h r = one-value (lottery_text l) m l r (text-reads l h)

pub returns-clause-faultless : goal.returns-clause-faultless
returns-clause-faultless c l n k h = not-both (lottery_text l) l n k (text-reads l h)
