use Rattle.std.proofs.Common.{◌≡◌}
use Rattle.fault.specs.Checks.{Passes, each}
use Rattle.sheets.specs.Sparse.{end_before, row_checks}
use Rattle.sheets.proofs.frames.Frame.check_rows.Given as goal

abbrev pub invariant-loop-run : goal.invariant-loop-run
invariant-loop-run l = Passes (each l.run (λ i. row_checks l.self.bytes.now i (end_before l.self.bytes.now i))) × (l.end ≡ end_before l.self.bytes.now l.run)
