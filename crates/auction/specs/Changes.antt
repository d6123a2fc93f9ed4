-- What an event changes in a market, part by part, and what it leaves as it was.
use Rattle.std.specs.Prelude.{◌≡◌, ℕ, ◌+◌, ◌≢◌, Option}
use Rattle.auction.specs.Markets.{Bid, Market}

-- so many bids more were composed, accepted, outbid and recalled, and the allowance is the same
pub record Counted (m n : Market) (a b c d : ℕ) : Type 0 where
  pub composed : n.composed ≡ m.composed + a
  pub accepted : n.accepted ≡ m.accepted + b
  pub outbid : n.outbid ≡ m.outbid + c
  pub recalled : n.recalled ≡ m.recalled + d
  pub allowance : n.allowance ≡ m.allowance

-- the phase goes on
pub record SamePhase (m n : Market) : Type 0 where
  pub phase : n.phase ≡ m.phase
  pub increment : n.increment ≡ m.increment
  pub later : n.later ≡ m.later
  pub high : n.high ≡ m.high

-- no price and no seat changes, and the phase has accepted as many bids
pub record SameSeats (m n : Market) : Type 0 where
  pub price : (k : ℕ) → n.price k ≡ m.price k
  pub seat : (i : ℕ) → n.seat i ≡ m.seat i
  pub accepted : n.phase_accepted ≡ m.phase_accepted

-- the same bids are out
abbrev pub SameBids : Market → Market → Type 0
SameBids m n = (i : ℕ) → n.bid i ≡ m.bid i

-- run i's bid becomes o, and no other changes
pub record BidSet (m n : Market) (i : ℕ) (o : Option Bid) : Type 0 where
  pub here : n.bid i ≡ o
  pub other : (r : ℕ) → r ≢ i → n.bid r ≡ m.bid r

-- the board shows the same
abbrev pub SameShown : Market → Market → Type 0
SameShown m n = (i k : ℕ) → n.shown i k ≡ m.shown i k

-- two markets differ at most in what their boards show
pub record Alike (m n : Market) : Type 0 where
  pub counts : Counted m n 0 0 0 0
  pub phase : SamePhase m n
  pub seats : SameSeats m n
  pub bids : SameBids m n
  pub mark : n.mark ≡ m.mark
