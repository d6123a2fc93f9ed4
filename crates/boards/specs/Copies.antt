-- Copies of the told prices at the sites.
use Rattle.std.specs.Prelude.{◌≡◌, ℕ, ◌+◌, ◌<◌, ◌≤◌, min, max, ◌⊎◌, List, [], slice_index_or, refl}
use Rattle.std.proofs.Common.{arith}
use Rattle.boards.specs.declared.rows.PriceRow.{PriceRow}
use Rattle.boards.specs.declared.spans.Span.{Span}
use Rattle.boards.specs.declared.copies.SiteCopy.{SiteCopy}
use Rattle.boards.specs.Limits.{seat_limit, site_count}
use Rattle.boards.specs.Rows.{at}

-- the span of no seat
abbrev pub no_span : Span
no_span = record { from = seat_limit; to = 0; none = λ _. (refl, refl); within = omega arith }

-- the copy of site c
abbrev pub copy_at : List SiteCopy → ℕ → SiteCopy
copy_at copies c = slice_index_or copies c (record { row = record { prices = [] }; behind = no_span })

-- the span holds seat k
abbrev pub Covers : Span → ℕ → Type 0
Covers s k = (s.from ≤ k) × (k < s.to)

-- seat k is outside the span
abbrev pub Misses : Span → ℕ → Type 0
Misses s k = (k < s.from) ⊎ (s.to ≤ k)

-- a seat outside the span of a copy
abbrev pub Outside : SiteCopy → ℕ → Type 0
Outside c k = Misses c.behind k

-- nothing to copy: no seat lies in the span
abbrev pub NoSpan : SiteCopy → Type 0
NoSpan c = (c.behind.from ≡ seat_limit) × (c.behind.to ≡ 0)

-- a copy of zeros that lies behind nowhere
abbrev pub Blank : SiteCopy → Type 0
Blank c = NoSpan c × ((k : ℕ) → at c.row k ≡ 0)

-- where the span begins that holds a seat too, and where it ends
abbrev pub first_with : Span → ℕ → ℕ
first_with s seat = min s.from seat

abbrev pub end_with : Span → ℕ → ℕ
end_with s seat = max s.to (seat + 1)

-- c became d when a seat was noted: d has the prices of c, and that seat in its span
pub record Marked (seat : ℕ) (c d : SiteCopy) : Type 0 where
  pub row : d.row ≡ c.row
  pub span : (d.behind.from ≡ first_with c.behind seat) × (d.behind.to ≡ end_with c.behind seat)

-- c became d: it has the told prices in its span and its own elsewhere, and now lies behind nowhere
pub record BroughtUp (told : PriceRow) (c d : SiteCopy) : Type 0 where
  pub up : (k : ℕ) → Covers c.behind k → at d.row k ≡ at told k
  pub kept : (k : ℕ) → Outside c k → at d.row k ≡ at c.row k
  pub span : NoSpan d

-- outside its span a copy has the told prices
abbrev pub LevelOutside : PriceRow → List SiteCopy → Type 0
LevelOutside told copies = (c k : ℕ) → (c < site_count) × Outside (copy_at copies c) k → at (copy_at copies c).row k ≡ at told k

-- no copy is ahead of the told prices
abbrev pub Behind : PriceRow → List SiteCopy → Type 0
Behind told copies = (c k : ℕ) → c < site_count → at (copy_at copies c).row k ≤ at told k
