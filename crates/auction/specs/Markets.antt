-- The market: a started exchange as the rules see it.
use Rattle.std.specs.Prelude.{◌≡◌, ℕ, ◌<◌, ◌≤◌, List, Some, None, Option}
use Rattle.points.specs.Tables.{Table}
use Rattle.points.specs.Sums.{sum}

-- an offer of a price for a seat
pub record Bid : Type 0 where
  pub seat : ℕ
  pub price : ℕ

-- what the rules speak of
pub record Market : Type 0 where
  -- the price of each seat
  pub price : ℕ → ℕ
  -- the seat that each run holds
  pub seat : ℕ → Option ℕ
  -- each run's bid that is out
  pub bid : ℕ → Option Bid
  -- what the board shows a run of a seat's price
  pub shown : ℕ → ℕ → ℕ
  -- the run that was found to have no part in a full plan
  pub mark : Option ℕ
  -- the number of the phase, its increment, and the increments of the phases to come
  pub phase : ℕ
  pub increment : ℕ
  pub later : List ℕ
  -- the highest price when the phase began
  pub high : ℕ
  -- the bids made, and what became of them
  pub composed : ℕ
  pub accepted : ℕ
  pub outbid : ℕ
  pub recalled : ℕ
  -- the bids accepted in this phase
  pub phase_accepted : ℕ
  -- how many bids may be made
  pub allowance : ℕ

-- run i holds seat k
abbrev pub Holds : Market → ℕ → ℕ → Type 0
Holds m i k = m.seat i ≡ Some k

-- run i holds no seat
abbrev pub Free : Market → ℕ → Type 0
Free m i = m.seat i ≡ None

-- no run holds seat k
abbrev pub Vacant : Market → ℕ → Type 0
Vacant m k = (i : ℕ) → Holds m i k → ⊥

-- run i's bid of price b for seat k is out
abbrev pub Out : Market → ℕ → ℕ → ℕ → Type 0
Out m i k b = m.bid i ≡ Some (record { seat = k; price = b })

-- every run holds a seat
abbrev pub AllSeated : Table → Market → Type 0
AllSeated t m = (i : ℕ) → i < t.size → (k : ℕ) × Holds m i k

-- no run is shown a price above the seat's
abbrev pub ShownBelow : Market → Type 0
ShownBelow m = (i k : ℕ) → m.shown i k ≤ m.price k

-- a seat that is held, and 0 for none
abbrev pub seat_or0 : Option ℕ → ℕ
seat_or0 (Some k) = k
seat_or0 None = 0

-- the plan that a market with every run seated stands for
abbrev pub plan_of : Market → ℕ → ℕ
plan_of m i = seat_or0 (m.seat i)

-- 1 for a bid that is out, and 0 for none
abbrev pub outs : Option Bid → ℕ
outs (Some x) = 1
outs None = 0

-- how many bids are out
abbrev pub bids_out : Table → Market → ℕ
bids_out t m = sum t.size (λ i. outs (m.bid i))
