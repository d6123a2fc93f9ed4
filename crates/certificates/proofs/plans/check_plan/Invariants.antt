use Rattle.std.proofs.Common.{◌≡◌, length}
use Rattle.fault.specs.Checks.{Passes, each}
use Rattle.points.specs.Plans.{total_to}
use Rattle.certificates.specs.Certificates.{seat_in, run_checks}
use Rattle.certificates.specs.Marks.{Marked}
use Rattle.certificates.proofs.plans.check_plan.Given as goal

abbrev pub invariant-loop-run : goal.invariant-loop-run
invariant-loop-run g l =
    let t = g.S.PairSource.table l.source in
    Passes (each l.run (run_checks t l.seats)) × Marked l.seats l.run l.marks × (l.sum ≡ total_to t (seat_in l.seats) l.run) × (length l.marks ≡ 256)
