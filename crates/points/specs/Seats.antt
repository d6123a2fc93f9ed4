-- The allowed seats of a run.
use Rattle.std.specs.Prelude.{ℕ, ◌-◌, List, is_some}
use Rattle.std.specs.List.{filter, range_with_len}
use Rattle.points.specs.Tables.{Table}

-- the allowed seats of run i that are at least `from`, ascending
abbrev pub seats_from : Table → ℕ → ℕ → List ℕ
seats_from t i from = filter (λ k. is_some (t.points i k)) (range_with_len from (t.size - from))
