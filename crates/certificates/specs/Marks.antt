-- Marks of the seats that lower runs hold.
use Rattle.std.specs.Prelude.{◌≡◌, ℕ, ◌<◌, Bool, true, false, List, slice_index_or}
use Rattle.certificates.specs.Certificates.{seat_in}

-- just the seats of the runs below i are marked
pub record Marked (seats : List ℕ) (i : ℕ) (marks : List Bool) : Type 0 where
  pub there : (j : ℕ) → j < i → slice_index_or marks (seat_in seats j) false ≡ true
  pub only : (k : ℕ) → slice_index_or marks k false ≡ true → (j : ℕ) × (j < i) × (seat_in seats j ≡ k)
