use Rattle.bidding.proofs.Deep as deep
use Rattle.bidding.proofs.claims.floors_agree.Goals as goal

pub returns : goal.returns
returns c = deep.floors_agree
