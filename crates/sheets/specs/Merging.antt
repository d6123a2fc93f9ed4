-- Touching spans merged into one.
use Rattle.std.specs.Prelude.{◌≡◌, ℕ, ◌+◌, ◌<◌, ◌≤◌, List, ◌≢◌}
use Rattle.fault.specs.Checks.{Passes}
use Rattle.points.specs.Tables.{Table}
use Rattle.sheets.specs.Headers.{size_in, spans_in}
use Rattle.sheets.specs.Sparse.{row_from, row_len, row_end, span_from, span_len, span_end, covered_before, point_word, sparse_checks, sparse_table}

-- cs is bs with span j of row i and the next one, which it touches, merged into one: that row has one span less, the later spans move up by one, and the points stay; where rows begin, and the first points, follow by the rules
pub record Merged (bs cs : List ℕ) (i j : ℕ) : Type 0 where
  pub size : size_in cs ≡ size_in bs
  pub spans : spans_in cs + 1 ≡ spans_in bs
  pub row : i < size_in bs
  pub low : row_from bs i ≤ j
  pub high : j + 1 < row_end bs i
  pub touch : span_end bs j ≡ span_from bs (j + 1)
  pub shorter : row_len cs i + 1 ≡ row_len bs i
  pub others : (r : ℕ) → r < size_in bs → (r ≢ i) → row_len cs r ≡ row_len bs r
  pub before : (q : ℕ) → q < j → (span_from cs q ≡ span_from bs q) × (span_len cs q ≡ span_len bs q)
  pub merged : (span_from cs j ≡ span_from bs j) × (span_len cs j ≡ span_len bs j + span_len bs (j + 1))
  pub after : (q : ℕ) → j < q → q < spans_in cs → (span_from cs q ≡ span_from bs (q + 1)) × (span_len cs q ≡ span_len bs (q + 1))
  pub points : (p : ℕ) → p < covered_before bs (spans_in bs) → point_word cs p ≡ point_word bs p

-- two tables of one size and top that have the same points for every pair
pub record SameTable (s t : Table) : Type 0 where
  pub size : s.size ≡ t.size
  pub top : s.top ≡ t.top
  pub points : (i k : ℕ) → s.points i k ≡ t.points i k

-- a sheet and the same sheet with touching spans merged mean the same table
abbrev pub MergingKeepsTheTable : Type 0
MergingKeepsTheTable = (bs cs : List ℕ) (i j : ℕ) → Passes (sparse_checks bs) → Passes (sparse_checks cs) → Merged bs cs i j → SameTable (sparse_table bs) (sparse_table cs)
