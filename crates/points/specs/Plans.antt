-- Full plans and their totals.
use Rattle.std.specs.Prelude.{◌≡◌, ℕ, zero, suc, ◌*◌, ◌<◌, ℤ, pos, ◌+ℤ◌, ◌≤ℤ◌, Some, None, Option}
use Rattle.points.specs.Tables.{Table, Allowed, Lawful}
use Rattle.points.specs.Nets.{scaled, Content}

-- every run has an allowed seat, and no seat is given twice
pub record FullPlan (t : Table) (π : ℕ → ℕ) : Type 0 where
  pub allowed : (i : ℕ) → i < t.size → Allowed t i (π i)
  pub apart : (i j : ℕ) → i < t.size → j < t.size → π i ≡ π j → i ≡ j

abbrev pub value : Option ℤ → ℤ
value (Some p) = p
value None = pos 0

-- the points of the first m runs under a plan
abbrev pub total_to : Table → (ℕ → ℕ) → ℕ → ℤ
total_to t π zero = pos 0
total_to t π (suc m) = total_to t π m +ℤ value (t.points m (π m))

abbrev pub total : Table → (ℕ → ℕ) → ℤ
total t π = total_to t π t.size

-- the plan is full, and no full plan totals more
pub record Best (t : Table) (π : ℕ → ℕ) : Type 0 where
  pub full : FullPlan t π
  pub most : (σ : ℕ → ℕ) → FullPlan t σ → total t σ ≤ℤ total t π

-- at some prices, every run is content within e with the seat that the plan gives it
abbrev pub AllContent : Table → (ℕ → ℕ) → ℕ → (ℕ → ℕ) → Type 0
AllContent t q e π = (i : ℕ) → i < t.size → Content t q e i (π i)

-- where every run is content within e, a full plan leads by at most the size times e in scaled points
abbrev pub ContentIsNear : Type 0
ContentIsNear = (t : Table) (q : ℕ → ℕ) (e : ℕ) (π σ : ℕ → ℕ) → Lawful t → FullPlan t π → AllContent t q e π → FullPlan t σ → scaled t.size (total t σ) ≤ℤ (scaled t.size (total t π) +ℤ pos (t.size * e))

-- where every run is content within 1, no full plan totals more
abbrev pub ContentIsBest : Type 0
ContentIsBest = (t : Table) (q : ℕ → ℕ) (π : ℕ → ℕ) → Lawful t → FullPlan t π → AllContent t q 1 π → Best t π
