use Rattle.fault.specs.Checks.{Passes}
use Rattle.certificates.specs.Certificates.{price_checks}
use Rattle.certificates.proofs.prices.check_prices.Given as goal

abbrev pub invariant-loop-seat : goal.invariant-loop-seat
invariant-loop-seat l = Passes (price_checks l.seat l.prices)
