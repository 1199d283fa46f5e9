use Rattle.lottery_file.proofs.SaidFacts.{last-said, denominator-said, agents-said, columns-said, rows-said, units-said, prices-said}
use Rattle.lottery_file.proofs.SaidLawful.{pieces-said, lists-said, worths-said, pieces-so-far, lists-so-far, worths-so-far, open-list-said, open-worths-said}
use Rattle.lottery_file.proofs.laws.what_records_say.Goals as goal

pub returns : goal.returns
returns c = record {
  last = last-said;
  denominator = denominator-said;
  agents = agents-said;
  columns = columns-said;
  rows = rows-said;
  units = units-said;
  prices = prices-said;
  pieces = pieces-said;
  lists = lists-said;
  worths = worths-said;
  pieces_so_far = pieces-so-far;
  lists_so_far = lists-so-far;
  worths_so_far = worths-so-far;
  open_list = open-list-said;
  open_worths = open-worths-said;
}
