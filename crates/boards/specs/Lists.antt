-- Lists of told prices.
use Rattle.std.specs.Prelude.{ℕ}
use Rattle.boards.specs.declared.states.PriceList.{PriceList}
use Rattle.boards.specs.Faces.{within}
use Rattle.boards.specs.Rows.{at}

-- the price at a seat, or 0 past the size
abbrev pub price_at : PriceList → ℕ → ℕ
price_at list k = within list.size k (at list.row k)
