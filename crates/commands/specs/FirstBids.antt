-- A run's first bid: what it is, and its line.
use Rattle.std.specs.Prelude.{◌≡◌, ℕ, ◌⊎◌, List, ◌++◌, Some, None, codes, decimal, Option, Result, MatchResult, nat_le, nat_lt}
use Rattle.std.specs.Fmt.{signed_decimal}
use Rattle.fault.specs.declared.causes.Cause.TheVariants.{Number, Size}
use Rattle.fault.specs.declared.layers.Layer.TheVariants.{Exchange}
use Rattle.fault.specs.declared.faults.Fault.{Fault}
use Rattle.fault.specs.Faults.{in_phase}
use Rattle.fault.specs.Checks.{Checks, test, ◌then◌, Passes, Refuses}
use Rattle.points.specs.Limits.{size_limit}
use Rattle.points.specs.Tables.{Table}
use Rattle.auction.specs.Bids.{BestBid, Hopeless}
use Rattle.bidding.specs.Depths.{floor_of}
use Rattle.auction.specs.Markets.{Market}
use Rattle.bidding.specs.Searches.{Finds}
use Rattle.bidding.specs.declared.sought.Sought.{Sought}
use Rattle.sheets.specs.Kinds.{sheet_checks, sheet_table}
use Rattle.commands.specs.declared.first_bid.FirstBid.{FirstBid}
use Rattle.commands.specs.declared.first_bid.BidLine.{BidLine}

-- `run R seat S net V second W price P`
abbrev pub bid_text : FirstBid → List ℕ
bid_text b = codes "run " ++ (decimal b.run ++ (codes " seat " ++ (decimal b.seat ++ (codes " net " ++ (signed_decimal b.net ++ (codes " second " ++ (signed_decimal b.second ++ (codes " price " ++ decimal b.price))))))))

-- a run's bid, or `run R no full plan`
abbrev pub bid_or_none_text : ℕ → Option FirstBid → List ℕ
bid_or_none_text i (Some b) = bid_text b
bid_or_none_text i None = codes "run " ++ (decimal i ++ codes " no full plan")

-- the same, of a line
abbrev pub bid_line_text : BidLine → List ℕ
bid_line_text l = bid_or_none_text l.run l.bid

-- a market whose increment is 1 and in which no price was above 0 when the phase began
pub record Fresh (m : Market) : Type 0 where
  pub increment : m.increment ≡ 1
  pub high : m.high ≡ 0

-- prices that are all 0
abbrev pub FreePrices : (ℕ → ℕ) → Type 0
FreePrices q = (k : ℕ) → q k ≡ 0

-- run i's bid at prices q in any fresh market, with the net of its best seat and its second value
pub record BidsFirst (t : Table) (q : ℕ → ℕ) (i : ℕ) (b : FirstBid) : Type 0 where
  pub run : b.run ≡ i
  pub free : FreePrices q
  pub bid : (m : Market) → Fresh m → BestBid t m q i b.seat b.price
  pub sought : Sought
  pub finds : Finds t (floor_of t.size t.top 1 0) q i sought
  pub net : b.net ≡ sought.net
  pub second : b.second ≡ sought.second

-- the bid, or that the run is hopeless in any fresh market
abbrev pub BidsOrNone : Table → ℕ → Option FirstBid → Type 0
BidsOrNone t i (Some b) = (q : ℕ → ℕ) × BidsFirst t q i b
BidsOrNone t i None = (q : ℕ → ℕ) × FreePrices q × ((m : Market) → Fresh m → Hopeless t m q i)

-- the line of that run, with its bid or none
abbrev pub BidLineOf : Table → ℕ → BidLine → Type 0
BidLineOf t i l = (l.run ≡ i) × BidsOrNone t i l.bid

-- a run below the size, and a size that is taken
abbrev pub bid_checks : ℕ → ℕ → Checks
bid_checks n i =
    test (nat_lt i n) (in_phase Exchange Number 0 (Some i) None)
    then test (nat_le n size_limit) (in_phase Exchange Size 0 None None)

-- a run's first bid over a table, or the refusal
abbrev pub FirstBidOf : Table → ℕ → Result BidLine Fault → Type 0
FirstBidOf t i r = MatchResult r (λ l. Passes (bid_checks t.size i) × BidLineOf t i l) (λ f. Refuses (bid_checks t.size i) f)

-- the same over a sheet's bytes, which are refused first
abbrev pub BidOver : List ℕ → ℕ → Result BidLine Fault → Type 0
BidOver bs i r = MatchResult r
    (λ l. Passes (sheet_checks bs) × Passes (bid_checks (sheet_table bs).size i) × BidLineOf (sheet_table bs) i l)
    (λ f. Refuses (sheet_checks bs) f ⊎ (Passes (sheet_checks bs) × Refuses (bid_checks (sheet_table bs).size i) f))
