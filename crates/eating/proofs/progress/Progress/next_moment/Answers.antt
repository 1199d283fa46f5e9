use Rattle.eating.proofs.Earliest.{next_due}
use Rattle.eating.proofs.progress.Progress.next_moment.Goals as goal

pub returns : goal.returns
returns c =
    let s = c.args.self.now in
    next_due s.unit s.at s.moments.items s.rests.items s.speeds.items s.dues c.requires c.top.result c.key.result c.top.ensures.known c.key.ensures c.top.ensures.first
