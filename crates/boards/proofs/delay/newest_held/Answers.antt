use Rattle.std.proofs.Common.{rules}
use Rattle.boards.specs.Held.{found_at}
use Rattle.boards.proofs.delay.newest_held.Goals as goal

pub returns : goal.returns
returns c = rw (found_at c.args.held.now c.args.seat c.newest_place.result c.newest_place.ensures) (search rules)
