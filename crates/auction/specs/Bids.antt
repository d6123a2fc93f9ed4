-- The floor, and the bid that a run composes at given prices.
use Rattle.std.specs.Prelude.{◌≡◌, ℕ, ◌+◌, ◌-◌, ◌*◌, ◌<◌, ◌≢◌, ◌⊎◌, ℤ, pos, ◌+ℤ◌, ◌-ℤ◌, neg_ℤ, ◌≤ℤ◌, ◌<ℤ◌}
use Rattle.points.specs.Tables.{Table, Pays}
use Rattle.points.specs.Nets.{scaled, net}
use Rattle.auction.specs.Markets.{Market}

-- the greatest that scaled points can be
unfoldable pub ceiling : Table → ℕ
ceiling t = (t.size + 1) * t.top

-- how far below 0 the floor lies
unfoldable pub depth : Table → Market → ℕ
depth t m = (2 * t.size - 1) * ceiling t + (t.size - 1) * m.increment + m.high

-- Bertsekas's bound: where there is a full plan, each free run has a seat that nets no less
abbrev pub floor : Table → Market → ℤ
floor t m = neg_ℤ (pos (depth t m))

-- no price and no bid of a phase is above this
unfoldable pub cap : Table → Market → ℕ
cap t m = m.high + t.size * (2 * ceiling t + m.increment)

-- at prices q, seat j with its p points is the lowest of the seats that net run i the most
pub record BestSeat (t : Table) (q : ℕ → ℕ) (i j : ℕ) (p : ℤ) : Type 0 where
  pub pays : Pays t i j p
  pub most : (k : ℕ) (r : ℤ) → Pays t i k r → net t.size r (q k) ≤ℤ net t.size p (q j)
  pub lowest : (k : ℕ) (r : ℤ) → Pays t i k r → k < j → net t.size r (q k) <ℤ net t.size p (q j)

-- w is the net of an allowed seat of run i other than j
abbrev pub NetsOther : Table → (ℕ → ℕ) → ℕ → ℕ → ℤ → Type 0
NetsOther t q i j w = (k : ℕ) × (r : ℤ) × Pays t i k r × (k ≢ j) × (w ≡ net t.size r (q k))

-- w is the greatest of f and the nets of the allowed seats of run i other than j
pub record SecondValue (t : Table) (f : ℤ) (q : ℕ → ℕ) (i j : ℕ) (w : ℤ) : Type 0 where
  pub over_floor : f ≤ℤ w
  pub over_others : (k : ℕ) (r : ℤ) → Pays t i k r → k ≢ j → net t.size r (q k) ≤ℤ w
  pub reached : (w ≡ f) ⊎ NetsOther t q i j w

-- at prices q, run i's bid is seat j at price b, one increment more than leaves it as well off as its second value
pub record BestBid (t : Table) (m : Market) (q : ℕ → ℕ) (i j b : ℕ) : Type 0 where
  pub points : ℤ
  pub best : BestSeat t q i j points
  pub above : floor t m ≤ℤ net t.size points (q j)
  pub second : ℤ
  pub value : SecondValue t (floor t m) q i j second
  pub price : pos b ≡ ((scaled t.size points -ℤ second) +ℤ pos m.increment)

-- at prices q, each allowed seat of run i nets less than the floor
abbrev pub Hopeless : Table → Market → (ℕ → ℕ) → ℕ → Type 0
Hopeless t m q i = (k : ℕ) (r : ℤ) → Pays t i k r → net t.size r (q k) <ℤ floor t m
