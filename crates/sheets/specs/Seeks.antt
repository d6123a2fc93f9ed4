-- What a search among the spans of a row finds.
use Rattle.std.specs.Prelude.{◌≡◌, ℕ, ◌+◌, ◌-◌, ◌<◌, ◌≤◌, Bool, cond, List, length, take, drop, slice_index_or, ℤ, Some, None, Option, nat_le}
use Rattle.sheets.specs.declared.spans.Span.{Span}
use Rattle.sheets.specs.Bytes.{le16}
use Rattle.sheets.specs.Headers.{size_in, signed32}
use Rattle.sheets.specs.Sparse.{row_from, row_end, span_at, span_from, span_len, span_first, span_end, point_word}

-- the spans from one on, up to another, end one after the other
abbrev pub Rising : List ℕ → ℕ → ℕ → Type 0
Rising bs from to = (q m : ℕ) → from ≤ q → q ≤ m → m < to → span_end bs q ≤ span_end bs m

-- the spans from one on, up to another, do not end over seat k
abbrev pub Passed : List ℕ → ℕ → ℕ → ℕ → Type 0
Passed bs from to k = (q : ℕ) → from ≤ q → q < to → span_end bs q ≤ k

-- xs are the bytes of n spans, one span after the other, from span j on
pub record SpansAt (bs : List ℕ) (j n : ℕ) (xs : List (List ℕ)) : Type 0 where
  pub long : length xs ≡ n
  pub each : (d : ℕ) (z : List ℕ) → d < n → slice_index_or xs d z ≡ take 8 (drop (span_at (size_in bs) (j + d)) bs)

-- the span of these bytes ends at seat k, or before it
abbrev pub past : ℕ → List ℕ → Bool
past k b = nat_le (le16 b 0 + le16 b 2) k

-- span j of row i is the first to end over seat k, and s has its fields
pub record Found (bs : List ℕ) (i k : ℕ) (s : Span) (j : ℕ) : Type 0 where
  pub low : row_from bs i ≤ j
  pub high : j < row_end bs i
  pub before : Passed bs (row_from bs i) j k
  pub over : k < span_end bs j
  pub from : s.from ≡ span_from bs j
  pub len : s.len ≡ span_len bs j
  pub first : s.first ≡ span_first bs j

-- the first span of row i to end over seat k, or nothing where none does
abbrev pub First : List ℕ → ℕ → ℕ → Option Span → Type 0
First bs i k None = Passed bs (row_from bs i) (row_end bs i) k
First bs i k (Some s) = (j : ℕ) × Found bs i k s j

-- the points that a span with these fields has for seat k below its end, or nothing where it begins after k
abbrev pub point_by : List ℕ → Span → ℕ → Option ℤ
point_by bs s k = cond (nat_le s.from k) (Some (signed32 (point_word bs (s.first + (k - s.from))))) None
