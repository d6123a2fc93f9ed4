use Rattle.boards.specs.Copies.{Marked}
use Rattle.boards.proofs.Sites.{Done}
use Rattle.boards.proofs.copies.mark_all.Given as goal

abbrev pub invariant-loop-copy : goal.invariant-loop-copy
invariant-loop-copy l = Done (Marked l.seat) l.initial.copy-items l.copy-items l.copy-index
