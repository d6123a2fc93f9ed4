use Rattle.ledgers.proofs.Views.{outbids_view}
use Rattle.ledgers.proofs.ledger.Ledger.outbid.Goals as goal

pub returns : goal.returns
returns c = rw (c.drop_bid.ensures, c.with_outbid.ensures, c.price_at-price.ensures, c.from-seat.ensures) (outbids_view c.args.self.now c.args.run c.args.bid c.requires.bid c.requires.little)
