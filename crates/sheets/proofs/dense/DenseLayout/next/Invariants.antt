use Rattle.points.specs.Tables.{Gap}
use Rattle.sheets.specs.Dense.{dense_table}
use Rattle.sheets.proofs.dense.DenseLayout.next.Given as goal

abbrev pub invariant-loop-seat : goal.invariant-loop-seat
invariant-loop-seat l = Gap (dense_table l.bytes) l.run l.from l.seat
