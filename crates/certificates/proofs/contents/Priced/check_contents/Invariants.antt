use Rattle.fault.specs.Checks.{Passes, each}
use Rattle.certificates.specs.Certificates.{content_checks}
use Rattle.certificates.proofs.contents.Priced.check_contents.Given as goal

abbrev pub invariant-loop-run : goal.invariant-loop-run
invariant-loop-run g l = Passes (each l.run (content_checks (g.S.PairSource.table l.self.source.now) l.seats l.self.prices.now))
