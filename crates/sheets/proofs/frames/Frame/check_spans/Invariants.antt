use Rattle.std.proofs.Common.{◌≡◌, ◌*◌, ◌≤◌}
use Rattle.fault.specs.Checks.{Passes, each}
use Rattle.sheets.specs.Sparse.{end_before, covered_before, row_spans}
use Rattle.sheets.proofs.frames.Frame.check_spans.Given as goal

abbrev pub invariant-loop-run : goal.invariant-loop-run
invariant-loop-run l =
    Passes (each l.run (λ i. row_spans l.self.bytes.now i))
    × (l.covered ≡ covered_before l.self.bytes.now (end_before l.self.bytes.now l.run))
    × (l.covered ≤ 256 * end_before l.self.bytes.now l.run)
