use Rattle.boards.specs.Faces.{BoardDoes}
use Rattle.boards.specs.Held.{run_next}
use Rattle.boards.proofs.tellings.tell_all.Goals as goal

pub loop-t-preserved : goal.loop-t-preserved
loop-t-preserved g c = (
  run_next g.B.PriceBoard.step c.args.tellings.now c.loop-t.t-index _ _ _ c.loop-t-test.true c.loop-t.invariant.0 c.tell_one.ensures.own,
  λ s. run_next BoardDoes c.args.tellings.now c.loop-t.t-index _ _ _ c.loop-t-test.true (c.loop-t.invariant.1 s) (c.tell_one.ensures.does (c.loop-t.invariant.2 s)),
  λ s. c.tell_one.ensures.safe (c.loop-t.invariant.2 s),
)
