use Rattle.std.proofs.Common.{ℕ}
use Rattle.bidding.specs.Searches.{SeeksAt, BidsAt}
use Rattle.bidding.proofs.Composed.{composed}
use Rattle.bidding.proofs.search.compose_bid.Given.{Over}
use Rattle.bidding.proofs.search.compose_bid.Goals as goal

bids : (g : Over) (c : goal.After-offer g) (q : ℕ → ℕ) → SeeksAt (g.S.PairSource.table c.args.source.now) c.args.terms.now q c.args.run c.seek.result → BidsAt (g.S.PairSource.table c.args.source.now) c.args.terms.now q c.args.run c.offer.result
bids g c q found m of =
    let s = c.args.source.now in
    composed (g.S.PairSource.table s) (g.met.S.PairSource.lawful s) m q c.args.run c.args.terms.now of c.seek.result c.offer.result c.offer.ensures (found of.size)

pub returns-clause-limited : goal.returns-clause-limited
returns-clause-limited g c = bids g c _ c.seek.ensures.limited

pub returns-clause-shown : goal.returns-clause-shown
returns-clause-shown g c sound within = bids g c _ (c.seek.ensures.shown sound within)
