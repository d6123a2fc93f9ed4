use Rattle.std.proofs.lemmas.Bool.{ltb-true}
use Rattle.ledgers.proofs.Views.{recalls_view}
use Rattle.ledgers.proofs.ledger.Ledger.recall.Goals as goal

pub returns : goal.returns
returns c =
    let p = c.in_ok-check_recall.ensures.0 in
    (p, rw (c.drop_bid.ensures, c.with_recalled.ensures) (recalls_view c.args.self.now c.args.run (ltb-true _ _ p.0) p.1))
