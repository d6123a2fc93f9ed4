-- Rows of prices.
use Rattle.std.specs.Prelude.{ℕ, slice_index}
use Rattle.boards.specs.declared.rows.PriceRow.{PriceRow}

-- the price at a seat, or 0 past the row
abbrev pub at : PriceRow → ℕ → ℕ
at row k = slice_index row.prices k
