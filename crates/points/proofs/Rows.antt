-- Allowed seats lie below the size.
use Rattle.std.proofs.Common.{ℕ, ◌<◌}
use Rattle.points.specs.Tables.{Table, Allowed, Lawful}
use Rattle.points.proofs.Scales.{worth}

pub allowed_below : (t : Table) → Lawful t → (i k : ℕ) → Allowed t i k → k < t.size
allowed_below t l i k a = let (p, e) = worth t i k a in l.seats i k p e
