use Rattle.side_finder.specs.Marks.{depth_at}
use Rattle.side_finder.proofs.ring.+climb.Given as goal

abbrev pub decreases-climb : goal.decreases-climb
decreases-climb l = depth_at l.marks.now l.first
