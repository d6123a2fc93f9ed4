-- The limits of tables, each named once.
use Rattle.std.specs.Prelude.{ℕ}

-- no table of more runs is taken by a sheet, the checker or an auction; a source may have any size
abbrev pub size_limit : ℕ
size_limit = 256

-- the greatest top that a kind of source may state
abbrev pub top_limit : ℕ
top_limit = 1000000

-- the greatest price that is taken, in scaled points
abbrev pub price_limit : ℕ
price_limit = 4000000000000000
