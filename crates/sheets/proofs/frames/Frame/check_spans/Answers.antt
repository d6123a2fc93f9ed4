use Rattle.std.proofs.Common.{add-one, arith, below_more}
use Rattle.fault.specs.Checks.{Passes}
use Rattle.sheets.specs.Sparse.{row_spans}
use Rattle.sheets.specs.Covered.{covered_none}
use Rattle.sheets.proofs.frames.Frame.check_spans.Goals as goal

pub loop-run-init : goal.loop-run-init
loop-run-init c = (λ k h. absurd (omega arith), covered_none c.args.self.now.bytes.now, omega arith)

pub loop-run-preserved : goal.loop-run-preserved
loop-run-preserved c =
    let bs = c.args.self.now.bytes.now in
    let got = c.in_ok-covered.ensures in
    (below_more (λ i. Passes (row_spans bs i)) c.loop-run.run c.loop-run.invariant.0 got.0, rw add-one got.1, rw add-one got.2)
