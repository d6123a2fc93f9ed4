-- Tables of points: what a source means.
use Rattle.std.specs.Prelude.{◌≡◌, ℕ, ◌<◌, ◌≤◌, true, ℤ, pos, neg_ℤ, ◌≤ℤ◌, is_some, Some, None, Option}

-- as many runs as seats, a top, and for each run and seat the points, or nothing where the pair is not allowed
pub record Table : Type 0 where
  pub size : ℕ
  pub top : ℕ
  pub points : ℕ → ℕ → Option ℤ

-- run i may take seat k, for p points
abbrev pub Pays : Table → ℕ → ℕ → ℤ → Type 0
Pays t i k p = t.points i k ≡ Some p

-- run i may take seat k
abbrev pub Allowed : Table → ℕ → ℕ → Type 0
Allowed t i k = is_some (t.points i k) ≡ true

-- allowed pairs lie below the size, and their points from -top to top
pub record Lawful (t : Table) : Type 0 where
  pub runs : (i k : ℕ) (p : ℤ) → Pays t i k p → i < t.size
  pub seats : (i k : ℕ) (p : ℤ) → Pays t i k p → k < t.size
  pub low : (i k : ℕ) (p : ℤ) → Pays t i k p → neg_ℤ (pos t.top) ≤ℤ p
  pub high : (i k : ℕ) (p : ℤ) → Pays t i k p → p ≤ℤ pos t.top

-- no seat of run i from one seat on, up to another, is allowed
abbrev pub Gap : Table → ℕ → ℕ → ℕ → Type 0
Gap t i from to = (k : ℕ) → from ≤ k → k < to → t.points i k ≡ None

-- the lowest allowed seat of run i that is at least `from`, or nothing where there is none
abbrev pub Next : Table → ℕ → ℕ → Option ℕ → Type 0
Next t i from None = (k : ℕ) → from ≤ k → t.points i k ≡ None
Next t i from (Some k) = (from ≤ k) × Allowed t i k × Gap t i from k

-- `next` has one answer
abbrev pub NextIsSingle : Type 0
NextIsSingle = (t : Table) (i from : ℕ) (r s : Option ℕ) → Next t i from r → Next t i from s → r ≡ s
