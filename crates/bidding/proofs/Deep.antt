-- The floor by the numbers of a phase: it is the market's, and it lies within range.
use Rattle.std.proofs.Common.{◌≡◌, ◌≤◌, refl, arith}
use Rattle.points.specs.Tables.{Table}
use Rattle.bidding.specs.declared.terms.Terms.{Terms}
use Rattle.auction.specs.Markets.{Market}
use Rattle.auction.specs.Bids.{ceiling, depth, floor}
use Rattle.bidding.specs.Depths.{depth_of, FloorsAgree, ceiling_limit, depth_limit}
use Rattle.bidding.specs.Searches.{terms_floor, TermsOf}

pub floors_agree : FloorsAgree
unfolding depth ceiling
floors_agree t m = refl

-- the floor of a market's terms is the market's
pub terms_floor_lem : (t : Table) (m : Market) (x : Terms) → TermsOf t m x → terms_floor x ≡ floor t m
terms_floor_lem t m x of = let e = floors_agree t m in cc

-- the depth of terms is far from the largest u64
pub depth_low : (x : Terms) → depth_of x.size x.top x.increment x.high ≤ depth_limit
depth_low x = grind arith

-- and so is the greatest that scaled points can be
pub ceiling_low : (t : Table) (m : Market) (x : Terms) → TermsOf t m x → ceiling t ≤ ceiling_limit
unfolding ceiling
ceiling_low t m x of = grind arith
