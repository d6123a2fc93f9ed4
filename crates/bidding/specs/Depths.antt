-- How far below 0 the floor of a phase lies, by the phase's own numbers.
use Rattle.std.specs.Prelude.{◌≡◌, ℕ, ◌+◌, ◌-◌, ◌*◌, ◌≤◌, ℤ, pos, neg_ℤ}
use Rattle.points.specs.Limits.{price_limit, size_limit, top_limit}
use Rattle.points.specs.Tables.{Table}
use Rattle.auction.specs.Limits.{increment_limit}
use Rattle.auction.specs.Markets.{Market}
use Rattle.auction.specs.Bids.{floor}

-- the depth at n seats, a top, an increment e and a high price h
abbrev pub depth_of : ℕ → ℕ → ℕ → ℕ → ℕ
depth_of n top e h = (2 * n - 1) * ((n + 1) * top) + (n - 1) * e + h

abbrev pub floor_of : ℕ → ℕ → ℕ → ℕ → ℤ
floor_of n top e h = neg_ℤ (pos (depth_of n top e h))

-- no ceiling, no part of a depth and no depth is over these where the numbers lie within the limits
abbrev pub ceiling_limit : ℕ
ceiling_limit = (size_limit + 1) * top_limit

abbrev pub points_part_limit : ℕ
points_part_limit = (2 * size_limit - 1) * ceiling_limit

abbrev pub increments_part_limit : ℕ
increments_part_limit = (size_limit - 1) * increment_limit

abbrev pub depth_limit : ℕ
depth_limit = points_part_limit + increments_part_limit + price_limit

-- the numbers of a phase lie within the limits
pub record WithinLimits (n top e h : ℕ) : Type 0 where
  pub some : 1 ≤ n
  pub few : n ≤ size_limit
  pub low : top ≤ top_limit
  pub small : e ≤ increment_limit
  pub cheap : h ≤ price_limit

-- by the numbers of a table and a market it is their floor
abbrev pub FloorsAgree : Type 0
FloorsAgree = (t : Table) (m : Market) → floor_of t.size t.top m.increment m.high ≡ floor t m
