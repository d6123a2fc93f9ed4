-- The copies of a site board, one after another.
use Rattle.std.proofs.Common.{◌≡◌, ℕ, ◌<◌, ◌≤◌, List, length}
use Rattle.boards.specs.declared.copies.SiteCopy.{SiteCopy}
use Rattle.boards.specs.Copies.{copy_at}

-- every copy before c came by R from what it was, and the others are as they were
abbrev pub Done : (SiteCopy → SiteCopy → Type 0) → List SiteCopy → List SiteCopy → ℕ → Type 0
Done R old now c = ((j : ℕ) → j < c → R (copy_at old j) (copy_at now j)) × ((j : ℕ) → c ≤ j → copy_at now j ≡ copy_at old j) × (length now ≡ length old)
