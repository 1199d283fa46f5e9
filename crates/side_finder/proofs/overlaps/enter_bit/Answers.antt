use Rattle.std.proofs.Common.{◌+◌, ◌*◌, refl, arith}
use Rattle.side_finder.proofs.Words.{holders_more, holders_past}
use Rattle.side_finder.proofs.overlaps.enter_bit.Goals as goal

pub returns-then-set-len : goal.returns-then-set-len
returns-then-set-len c = holders_past c.args.family.now c.args.block c.args.bit c.args.words.now c.args.words.now c.requires.before (64 * c.args.block + c.args.bit + 1) refl (omega arith) refl

pub returns : goal.returns
returns c = holders_more c.args.family.now c.args.block c.args.bit c.args.words.now c.enter.new.words c.requires.before (64 * c.args.block + c.args.bit + 1) refl c.enter.ensures
