use Rattle.boards.specs.Copies.{BroughtUp}
use Rattle.boards.proofs.Sites.{Done}
use Rattle.boards.proofs.copies.bring_all_up.Given as goal

abbrev pub invariant-loop-copy : goal.invariant-loop-copy
invariant-loop-copy l = Done (BroughtUp l.told) l.initial.copy-items l.copy-items l.copy-index
