-- The laws of the auction, over every lawful table and every market that is reached.
use Rattle.std.specs.Prelude.{◌≡◌, ℕ, ◌+◌, ◌*◌, ◌<◌, ◌≤◌, ◌⊎◌, [], ℤ, pos, ◌+ℤ◌, ◌≤ℤ◌, Some, None, Option}
use Rattle.points.specs.Tables.{Table, Pays, Allowed, Lawful}
use Rattle.points.specs.Limits.{price_limit, size_limit, top_limit}
use Rattle.points.specs.Nets.{scaled, net, Content}
use Rattle.points.specs.Plans.{FullPlan, Best, total}
use Rattle.auction.specs.Limits.{phase_limit, increment_limit}
use Rattle.auction.specs.Markets.{Bid, Market, Holds, Free, Vacant, Out, AllSeated, ShownBelow, plan_of, bids_out}
use Rattle.auction.specs.Bids.{ceiling, depth, floor, cap, BestBid, Hopeless}
use Rattle.auction.specs.Changes.{Alike}
use Rattle.auction.specs.Events.{MayBid, Composed, Marked, Landed, Outbid, Settled, Event, Step}
use Rattle.auction.specs.Runs.{FallsToOne, Opened, Reached}

-- the market that a start leaves is reached
abbrev pub OpeningReached : Type 0
OpeningReached = (t : Table) (m : Market) → Lawful t → Opened m → Reached t m

-- what an event makes of a reached market is reached
abbrev pub StepReached : Type 0
StepReached = (t : Table) (c : Event) (m n : Market) → Reached t m → Step t c m n → Reached t n

-- a run that holds a seat is content with it, within the increment
abbrev pub AlwaysContent : Type 0
AlwaysContent = (t : Table) (m : Market) (i j : ℕ) → Reached t m → Holds m i j → Content t m.price m.increment i j

-- a seat is held by one run at most
abbrev pub SeatsHeldOnce : Type 0
SeatsHeldOnce = (t : Table) (m : Market) (i j k : ℕ) → Reached t m → Holds m i k → Holds m j k → i ≡ j

-- a run holds only a seat that it is allowed
abbrev pub SeatsAllowed : Type 0
SeatsAllowed = (t : Table) (m : Market) (i k : ℕ) → Reached t m → Holds m i k → Allowed t i k

-- a run with a bid out holds no seat
abbrev pub BiddersFree : Type 0
BiddersFree = (t : Table) (m : Market) (i : ℕ) (x : Bid) → Reached t m → m.bid i ≡ Some x → Free m i

-- a seat that no run holds costs no more than the highest price when the phase began
abbrev pub VacantIsCheap : Type 0
VacantIsCheap = (t : Table) (m : Market) (k : ℕ) → Reached t m → k < t.size → Vacant m k → m.price k ≤ m.high

-- no run is ever shown a price above the seat's
abbrev pub AlwaysShownBelow : Type 0
AlwaysShownBelow = (t : Table) (m : Market) → Reached t m → ShownBelow m

-- with every run seated in the last phase, the plan is full and no full plan totals more
abbrev pub CompleteIsBest : Type 0
CompleteIsBest = (t : Table) (m : Market) → Reached t m → AllSeated t m → m.later ≡ [] → Best t (plan_of m)

-- with every run seated in any phase, a full plan leads by at most the size times the increment in scaled points
abbrev pub NearInEachPhase : Type 0
NearInEachPhase = (t : Table) (m : Market) (π : ℕ → ℕ) → Reached t m → AllSeated t m → FullPlan t π → scaled t.size (total t π) ≤ℤ (scaled t.size (total t (plan_of m)) +ℤ pos (t.size * m.increment))

-- a mark means that there is no full plan
abbrev pub MarkIsRight : Type 0
MarkIsRight = (t : Table) (m : Market) (i : ℕ) (π : ℕ → ℕ) → Reached t m → m.mark ≡ Some i → FullPlan t π → ⊥

-- where there is a full plan, its seat nets a free run no less than the floor, at any prices not above the seats'
abbrev pub FloorStands : Type 0
FloorStands = (t : Table) (m : Market) (π q : ℕ → ℕ) (i : ℕ) (p : ℤ) → Reached t m → FullPlan t π → Free m i → ((k : ℕ) → q k ≤ m.price k) → Pays t i (π i) p → floor t m ≤ℤ net t.size p (q (π i))

-- so a run that is hopeless at such prices has no part in a full plan, and there is none
abbrev pub HopelessMeansNone : Type 0
HopelessMeansNone = (t : Table) (m : Market) (π q : ℕ → ℕ) (i : ℕ) → Reached t m → FullPlan t π → i < t.size → Free m i → ((k : ℕ) → q k ≤ m.price k) → Hopeless t m q i → ⊥

-- a phase accepts few bids
abbrev pub FewAccepted : Type 0
FewAccepted = (t : Table) (m : Market) → Reached t m → m.phase_accepted * m.increment ≤ t.size * (m.high + t.size * (2 * ceiling t + m.increment))

-- a bid composed straight after the board has settled is accepted when it is delivered next
pub record SettledBidLands : Type 0 where
  pub lands : (t : Table) (m w x : Market) (i j b : ℕ) → Reached t m → Settled m w → Composed t w x i j b → (d : Option ℕ) × (n : Market) × Landed t x n i j b d
  pub only : (t : Table) (m w x n : Market) (i j k b p : ℕ) → Reached t m → Settled m w → Composed t w x i j b → Outbid t x n i k p → ⊥

-- each bid composed was accepted, outbid or recalled, or is out
abbrev pub BooksBalance : Type 0
BooksBalance = (t : Table) (m : Market) → Reached t m → m.composed ≡ m.accepted + m.outbid + m.recalled + bids_out t m

-- no more bids are composed than the allowance
abbrev pub AllowanceKept : Type 0
AllowanceKept = (t : Table) (m : Market) → Reached t m → m.composed ≤ m.allowance

-- the increments left fall to 1
abbrev pub IncrementsFall : Type 0
IncrementsFall = (t : Table) (m : Market) → Reached t m → FallsToOne m.increment m.later

-- no price, no bid that is out and no depth of the floor is above c
pub record Within (t : Table) (m : Market) (c : ℕ) : Type 0 where
  pub prices : (k : ℕ) → k < t.size → m.price k ≤ c
  pub bids : (i k b : ℕ) → Out m i k b → b ≤ c
  pub depth : depth t m ≤ c

-- prices stay within the cap of the phase
abbrev pub PricesCapped : Type 0
PricesCapped = (t : Table) (m : Market) → Reached t m → Within t m (cap t m)

-- prices stay within what the phases of a ladder can add
abbrev pub PricesLow : Type 0
PricesLow = (t : Table) (m : Market) → Reached t m → Within t m (phase_limit * (t.size * (2 * ceiling t + increment_limit)))

-- up to the limits of size and top, prices stay within the price limit, and so within 64 bits
abbrev pub PricesFit : Type 0
PricesFit = (t : Table) (m : Market) → Reached t m → t.size ≤ size_limit → t.top ≤ top_limit → Within t m price_limit

-- at any prices, a run has one bid, or is hopeless and has none
pub record BidIsSingle : Type 0 where
  pub seat : (t : Table) (m : Market) (q : ℕ → ℕ) (i j k b c : ℕ) → BestBid t m q i j b → BestBid t m q i k c → j ≡ k
  pub price : (t : Table) (m : Market) (q : ℕ → ℕ) (i j k b c : ℕ) → BestBid t m q i j b → BestBid t m q i k c → b ≡ c
  pub apart : (t : Table) (m : Market) (q : ℕ → ℕ) (i j b : ℕ) → BestBid t m q i j b → Hopeless t m q i → ⊥
  pub some : (t : Table) (m : Market) (q : ℕ → ℕ) (i : ℕ) → Lawful t → ((j : ℕ) × (b : ℕ) × BestBid t m q i j b) ⊎ Hopeless t m q i

-- composing has one answer, and leaves one market but for what the board shows
pub record ComposingIsSingle : Type 0 where
  pub composed : (t : Table) (m n o : Market) (i j k b c : ℕ) → Composed t m n i j b → Composed t m o i k c → (j ≡ k) × (b ≡ c) × Alike n o
  pub apart : (t : Table) (m n o : Market) (i j b : ℕ) → Composed t m n i j b → Marked t m o i → ⊥
  pub marked : (t : Table) (m n o : Market) (i : ℕ) → Marked t m n i → Marked t m o i → Alike n o

-- a run that may bid gets an answer
abbrev pub ComposingAnswered : Type 0
ComposingAnswered = (t : Table) (m : Market) (i : ℕ) → Lawful t → MayBid t m i → ((j : ℕ) × (b : ℕ) × (n : Market) × Composed t m n i j b) ⊎ ((n : Market) × Marked t m n i)

-- delivering has one answer, and leaves one market but for what the board shows
pub record DeliveryIsSingle : Type 0 where
  pub landed : (t : Table) (m n o : Market) (i j k b c : ℕ) (d e : Option ℕ) → Landed t m n i j b d → Landed t m o i k c e → (j ≡ k) × (b ≡ c) × (d ≡ e) × Alike n o
  pub apart : (t : Table) (m n o : Market) (i j k b p : ℕ) (d : Option ℕ) → Landed t m n i j b d → Outbid t m o i k p → ⊥
  pub outbid : (t : Table) (m n o : Market) (i j k p q : ℕ) → Outbid t m n i j p → Outbid t m o i k q → (j ≡ k) × (p ≡ q) × Alike n o

-- a bid that is out in a market with no mark gets an answer when it is delivered
abbrev pub DeliveryAnswered : Type 0
DeliveryAnswered = (t : Table) (m : Market) (i j b : ℕ) → Reached t m → m.mark ≡ None → Out m i j b → ((d : Option ℕ) × (n : Market) × Landed t m n i j b d) ⊎ ((n : Market) × Outbid t m n i j (m.price j))

-- all of them
pub record AuctionStands : Type 0 where
  pub opening : OpeningReached
  pub step : StepReached
  pub content : AlwaysContent
  pub once : SeatsHeldOnce
  pub allowed : SeatsAllowed
  pub free : BiddersFree
  pub cheap : VacantIsCheap
  pub shown : AlwaysShownBelow
  pub best : CompleteIsBest
  pub near : NearInEachPhase
  pub mark : MarkIsRight
  pub floor : FloorStands
  pub hopeless : HopelessMeansNone
  pub few : FewAccepted
  pub lands : SettledBidLands
  pub balance : BooksBalance
  pub allowance : AllowanceKept
  pub increments : IncrementsFall
  pub capped : PricesCapped
  pub low : PricesLow
  pub fit : PricesFit
  pub bid : BidIsSingle
  pub composing : ComposingIsSingle
  pub composing_answered : ComposingAnswered
  pub delivery : DeliveryIsSingle
  pub delivery_answered : DeliveryAnswered
