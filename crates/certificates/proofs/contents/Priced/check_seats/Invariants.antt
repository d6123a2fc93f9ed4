use Rattle.std.proofs.Common.{◌≡◌, ℕ, ◌≤◌}
use Rattle.fault.specs.Checks.{Passes}
use Rattle.points.specs.Seats.{seats_from}
use Rattle.certificates.specs.Certificates.{seat_checks}
use Rattle.certificates.proofs.contents.Priced.check_seats.Given as goal

abbrev pub invariant-loop-seat : goal.invariant-loop-seat
invariant-loop-seat g l =
    let t = g.S.PairSource.table l.self.source.now in
    (from : ℕ) × (from ≤ t.size) × (l.seat-iterator ≡ seats_from t l.run from) × Passes (seat_checks t l.self.prices.now l.run l.held from)
