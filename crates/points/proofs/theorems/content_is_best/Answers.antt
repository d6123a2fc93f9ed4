use Rattle.points.proofs.Optimal.{near, best}
use Rattle.points.proofs.theorems.content_is_best.Goals as goal

pub returns : goal.returns
returns c = record { near = near; best = best }
