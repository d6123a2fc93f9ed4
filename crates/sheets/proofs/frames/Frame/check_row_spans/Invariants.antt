use Rattle.std.proofs.Common.{◌≡◌, ◌+◌, ◌*◌, ◌≤◌}
use Rattle.fault.specs.Checks.{Passes, each}
use Rattle.sheets.specs.Sparse.{row_from, seats_before, covered_before, span_checks}
use Rattle.sheets.proofs.frames.Frame.check_row_spans.Given as goal

abbrev pub invariant-loop-place : goal.invariant-loop-place
invariant-loop-place l =
    Passes (each l.place (λ d. span_checks l.self.bytes.now (row_from l.self.bytes.now l.run + d) (seats_before l.self.bytes.now l.run d) (covered_before l.self.bytes.now (row_from l.self.bytes.now l.run + d))))
    × (l.end ≡ seats_before l.self.bytes.now l.run l.place)
    × (l.covered ≡ covered_before l.self.bytes.now (row_from l.self.bytes.now l.run + l.place))
    × (l.covered ≤ 256 * (row_from l.self.bytes.now l.run + l.place))
