use Rattle.std.proofs.Common.{ℕ, subst, add-one, below_more}
use Rattle.fault.specs.Checks.{Passes}
use Rattle.sheets.specs.Sparse.{end_before, row_checks}
use Rattle.sheets.proofs.frames.Frame.check_rows.Goals as goal

pub loop-run-preserved : goal.loop-run-preserved
loop-run-preserved c =
    let bs = c.args.self.now.bytes.now in
    let i = c.loop-run.run in
    let here : Passes (row_checks bs i (end_before bs i)) = subst (λ (e : ℕ). Passes (row_checks bs i e)) c.loop-run.invariant.1 c.in_ok-end.ensures.0 in
    (below_more (λ k. Passes (row_checks bs k (end_before bs k))) i c.loop-run.invariant.0 here, rw add-one c.in_ok-end.ensures.1)
