-- Events: the calls of an auction with their answers, and what each makes of a market.
use Rattle.std.specs.Prelude.{◌≡◌, ℕ, ◌+◌, ◌<◌, ◌≤◌, ◌≢◌, ◌∷◌, Some, None, Option}
use Rattle.points.specs.Tables.{Table}
use Rattle.auction.specs.Markets.{Bid, Market, Holds, Free, Out, AllSeated, ShownBelow}
use Rattle.auction.specs.Bids.{BestBid, Hopeless}
use Rattle.auction.specs.Changes.{Counted, SamePhase, SameSeats, SameBids, BidSet, SameShown}

-- run i may bid: there is no mark, it holds no seat, it has no bid out, and the allowance is not spent
pub record MayBid (t : Table) (m : Market) (i : ℕ) : Type 0 where
  pub low : i < t.size
  pub unmarked : m.mark ≡ None
  pub free : Free m i
  pub idle : m.bid i ≡ None
  pub unspent : m.composed < m.allowance

-- run i composes the bid of price b for seat j at the prices that it is shown, and the bid is out
pub record Composed (t : Table) (m n : Market) (i j b : ℕ) : Type 0 where
  pub may : MayBid t m i
  pub bid : BestBid t m (m.shown i) i j b
  pub counts : Counted m n 1 0 0 0
  pub phase : SamePhase m n
  pub seats : SameSeats m n
  pub bids : BidSet m n i (Some (record { seat = j; price = b }))
  pub shown : SameShown m n
  pub mark : n.mark ≡ m.mark

-- run i has no bid to compose at the prices that it is shown, and the market is marked with it
pub record Marked (t : Table) (m n : Market) (i : ℕ) : Type 0 where
  pub may : MayBid t m i
  pub hopeless : Hopeless t m (m.shown i) i
  pub counts : Counted m n 0 0 0 0
  pub phase : SamePhase m n
  pub seats : SameSeats m n
  pub bids : SameBids m n
  pub shown : SameShown m n
  pub mark : n.mark ≡ Some i

-- d is the run other than i that holds seat j, or nothing where there is none
pub record Displaced (m : Market) (i j : ℕ) (d : Option ℕ) : Type 0 where
  pub holds : (r : ℕ) → d ≡ Some r → (r ≢ i) × Holds m r j
  pub named : (r : ℕ) → r ≢ i → Holds m r j → d ≡ Some r

-- run i's bid of b for seat j is accepted: it is at least an increment above the price, which rises to it, the run holds the
-- seat, the run displaced is free, and the board is told
pub record Landed (t : Table) (m n : Market) (i j b : ℕ) (d : Option ℕ) : Type 0 where
  pub low : i < t.size
  pub unmarked : m.mark ≡ None
  pub out : Out m i j b
  pub enough : m.price j + m.increment ≤ b
  pub counts : Counted m n 0 1 0 0
  pub phase : SamePhase m n
  pub accepted : n.phase_accepted ≡ m.phase_accepted + 1
  pub raised : n.price j ≡ b
  pub prices : (k : ℕ) → k ≢ j → n.price k ≡ m.price k
  pub displaced : Displaced m i j d
  pub seated : Holds n i j
  pub freed : (r : ℕ) → d ≡ Some r → Free n r
  pub kept : (r : ℕ) → r ≢ i → d ≢ Some r → n.seat r ≡ m.seat r
  pub bids : BidSet m n i None
  pub shown : ShownBelow n
  pub mark : n.mark ≡ m.mark

-- run i's bid x is out no more, and nothing else changes but the counts
pub record Dropped (t : Table) (m n : Market) (i : ℕ) (x : Bid) : Type 0 where
  pub low : i < t.size
  pub out : m.bid i ≡ Some x
  pub phase : SamePhase m n
  pub seats : SameSeats m n
  pub bids : BidSet m n i None
  pub shown : SameShown m n
  pub mark : n.mark ≡ m.mark

-- run i's bid for seat j is less than an increment above the price p, and is dropped
pub record Outbid (t : Table) (m n : Market) (i j p : ℕ) : Type 0 where
  pub unmarked : m.mark ≡ None
  pub offer : ℕ
  pub dropped : Dropped t m n i (record { seat = j; price = offer })
  pub price : p ≡ m.price j
  pub little : offer < m.price j + m.increment
  pub counts : Counted m n 0 0 1 0

-- run i's bid is dropped, whatever it was
pub record Recalled (t : Table) (m n : Market) (i : ℕ) : Type 0 where
  pub bid : Bid
  pub dropped : Dropped t m n i bid
  pub counts : Counted m n 0 0 0 1

-- the board shows other prices, none above the seats'
pub record Carried (m n : Market) : Type 0 where
  pub counts : Counted m n 0 0 0 0
  pub phase : SamePhase m n
  pub seats : SameSeats m n
  pub bids : SameBids m n
  pub shown : ShownBelow n
  pub mark : n.mark ≡ m.mark

-- the board shows every run the seats' prices
pub record Settled (m n : Market) : Type 0 where
  pub carried : Carried m n
  pub told : (i k : ℕ) → n.shown i k ≡ n.price k

-- h is the highest of the first n prices
pub record Highest (n : ℕ) (q : ℕ → ℕ) (h : ℕ) : Type 0 where
  pub over : (k : ℕ) → k < n → q k ≤ h
  pub reached : (k : ℕ) × (k < n) × (q k ≡ h)

-- every run holds a seat and there is a phase to come, which begins: the seats are emptied, and the prices stay
pub record Advanced (t : Table) (m n : Market) : Type 0 where
  pub unmarked : m.mark ≡ None
  pub seated : AllSeated t m
  pub ladder : m.later ≡ n.increment ∷ n.later
  pub phase : n.phase ≡ m.phase + 1
  pub high : Highest t.size m.price n.high
  pub counts : Counted m n 0 0 0 0
  pub accepted : n.phase_accepted ≡ 0
  pub price : (k : ℕ) → n.price k ≡ m.price k
  pub seat : (i : ℕ) → Free n i
  pub bids : SameBids m n
  pub shown : SameShown m n
  pub mark : n.mark ≡ m.mark

-- a call with its answer
pub data Event : Type 0 where
  -- run, seat and price
  composed : ℕ → ℕ → ℕ → Event
  -- run
  marked : ℕ → Event
  -- run, seat, price, and the run displaced, if any
  landed : ℕ → ℕ → ℕ → Option ℕ → Event
  -- run, seat, and the seat's price
  outbid : ℕ → ℕ → ℕ → Event
  -- run
  recalled : ℕ → Event
  carried : Event
  settled : Event
  advanced : Event

-- over a table, an event makes one market into another
abbrev pub Step : Table → Event → Market → Market → Type 0
Step t (composed i j b) m n = Composed t m n i j b
Step t (marked i) m n = Marked t m n i
Step t (landed i j b d) m n = Landed t m n i j b d
Step t (outbid i j p) m n = Outbid t m n i j p
Step t (recalled i) m n = Recalled t m n i
Step t carried m n = Carried m n
Step t settled m n = Settled m n
Step t advanced m n = Advanced t m n
