-- What holds of the market between any two events.
use Rattle.std.proofs.Common.{◌≡◌, ℕ, ◌+◌, ◌*◌, ◌<◌, ◌≤◌, ◌≢◌, ℤ, pos, ◌+ℤ◌, ◌≤ℤ◌, Some}
use Rattle.points.specs.Tables.{Table, Pays, Allowed}
use Rattle.points.specs.Nets.{net, Content}
use Rattle.points.specs.Plans.{FullPlan}
use Rattle.points.specs.Sums.{sum}
use Rattle.auction.specs.Markets.{Market, Holds, Free, Vacant, Out, ShownBelow, bids_out}
use Rattle.auction.specs.Bids.{cap}
use Rattle.auction.specs.Runs.{FallsToOne}

-- a seat is held by one run at most, which is allowed it and content, and a vacant one costs what it did when the phase began
pub record Orderly (t : Table) (m : Market) : Type 0 where
  pub allowed : (i k : ℕ) → Holds m i k → Allowed t i k
  pub single : (i j k : ℕ) → Holds m i k → Holds m j k → i ≡ j
  pub content : (i j : ℕ) → Holds m i j → Content t m.price m.increment i j
  pub vacant : (k : ℕ) → k < t.size → Vacant m k → m.price k ≤ m.high

-- the bid of b for seat j leaves run i content when it lands, however prices rise meanwhile
pub record Standing (t : Table) (m : Market) (i j b : ℕ) : Type 0 where
  pub free : Free m i
  pub points : ℤ
  pub pays : Pays t i j points
  pub capped : b ≤ cap t m
  pub content : (k : ℕ) (r : ℤ) → Pays t i k r → k ≢ j → net t.size r (m.price k) ≤ℤ (net t.size points b +ℤ pos m.increment)

-- each bid composed was accepted, outbid or recalled, or is out
abbrev pub Balanced : Table → Market → Type 0
Balanced t m = m.composed ≡ m.accepted + m.outbid + m.recalled + bids_out t m

-- there is no full plan if there is a mark
abbrev pub MarkedRightly : Table → Market → Type 0
MarkedRightly t m = (i : ℕ) → m.mark ≡ Some i → (π : ℕ → ℕ) → FullPlan t π → ⊥

-- the bids that are out are standing
abbrev pub AllStanding : Table → Market → Type 0
AllStanding t m = (i j b : ℕ) → Out m i j b → Standing t m i j b

pub record Sound (t : Table) (m : Market) : Type 0 where
  pub orderly : Orderly t m
  pub bids : AllStanding t m
  pub capped : (k : ℕ) → k < t.size → m.price k ≤ cap t m
  pub counted : m.phase_accepted * m.increment ≤ sum t.size m.price
  pub balance : Balanced t m
  pub allowance : m.composed ≤ m.allowance
  pub shown : ShownBelow m
  pub marked : MarkedRightly t m
  pub ladder : FallsToOne m.increment m.later
