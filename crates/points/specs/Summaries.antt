-- What a table comes to: how many pairs it allows, and the least and the greatest of their points.
use Rattle.std.specs.Prelude.{ℕ, zero, suc, ◌+◌, min, ℤ, Some, None, Option}
use Rattle.std.specs.Int.{int_min, int_max}
use Rattle.points.specs.declared.summaries.Range.{Range}
use Rattle.points.specs.declared.summaries.Summary.{Summary}
use Rattle.points.specs.Tables.{Table}

-- no pairs
abbrev pub nothing : Summary
nothing = record { allowed = 0; range = None }

-- a range stretched to points p
abbrev pub stretched : Option Range → ℤ → Range
stretched None p = record { least = p; greatest = p }
stretched (Some r) p = record { least = int_min r.least p; greatest = int_max r.greatest p }

-- one pair more, if it is allowed; the count stops at the largest u64
abbrev pub noted : Summary → Option ℤ → Summary
noted s None = s
noted s (Some p) = record { allowed = min (s.allowed + 1) 18446744073709551615; range = Some (stretched s.range p) }

-- the first m seats of run i more
abbrev pub row_noted : Table → ℕ → Summary → ℕ → Summary
row_noted t i s zero = s
row_noted t i s (suc m) = noted (row_noted t i s m) (t.points i m)

-- the first m runs
abbrev pub summary_to : Table → ℕ → Summary
summary_to t zero = nothing
summary_to t (suc m) = row_noted t m (summary_to t m) t.size

abbrev pub summary_of : Table → Summary
summary_of t = summary_to t t.size
