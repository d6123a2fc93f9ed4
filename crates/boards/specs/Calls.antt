-- Calls that change a board, and runs of them.
use Rattle.std.specs.Prelude.{◌≡◌, ℕ, List, [], ◌∷◌}

-- the board is cleared to n seats; the price x of seat k is told; r is carried; the board is settled
pub data Call : Type 0 where
  clears : ℕ → Call
  tells : ℕ → ℕ → Call
  carries : ℕ → Call
  settles : Call

-- a became b by calls one after another, each of which does what Does says
abbrev pub Run : {S : Type 0} → (Call → S → S → Type 0) → List Call → S → S → Type 0
Run Does [] a b = a ≡ b
Run {S} Does (c ∷ cs) a b = (m : S) × Does c a m × Run Does cs m b
