use Rattle.auction.proofs.Stands.{auction_stands}
use Rattle.auction.proofs.theorems.auction_stands.Goals as goal

pub returns : goal.returns
returns c = auction_stands
