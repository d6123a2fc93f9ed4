use Rattle.std.proofs.lemmas.Result.{MatchResult-weaker}
use Rattle.points.specs.Tables.{Table}
use Rattle.certificates.proofs.Accepts.{accepted, refused}
use Rattle.certificates.proofs.checker.check.Goals as goal

pub returns : goal.returns
returns g c =
    let t : Table = g.S.PairSource.table c.args.source.now in
    let l = g.met.S.PairSource.lawful c.args.source.now in
    let seats = c.args.seats.now in
    let prices = c.args.prices.now in
    MatchResult-weaker c.check_rules.result c.check_rules.ensures (λ a p. accepted t seats prices l p.0 a p.1) (λ f r. refused t seats prices l f r)
