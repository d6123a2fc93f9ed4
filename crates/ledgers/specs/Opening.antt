-- A ladder copied into a longer row.
use Rattle.std.specs.Prelude.{◌≡◌, ℕ, List, length, slice_index}
use Rattle.auction.specs.Limits.{phase_limit}

-- the row begins with the ladder, and has zeros behind it
pub record Copied (ladder row : List ℕ) : Type 0 where
  pub long : length row ≡ phase_limit
  pub same : (k : ℕ) → slice_index row k ≡ slice_index ladder k
