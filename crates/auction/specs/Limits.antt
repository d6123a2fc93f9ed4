-- The limits of an auction, each named once.
use Rattle.std.specs.Prelude.{ℕ}

-- how many phases a ladder has at most
abbrev pub phase_limit : ℕ
phase_limit = 16

-- the greatest first increment, in scaled points
abbrev pub increment_limit : ℕ
increment_limit = 1000000000

-- the greatest allowance, in bids
abbrev pub allowance_limit : ℕ
allowance_limit = 1000000000000
