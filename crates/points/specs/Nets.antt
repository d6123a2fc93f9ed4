-- Scaled points, nets and contentment.
use Rattle.std.specs.Prelude.{ℕ, ◌+◌, ℤ, pos, ◌+ℤ◌, ◌-ℤ◌, ◌*ℤ◌, ◌≤ℤ◌}
use Rattle.points.specs.Tables.{Table, Pays}

-- points times one more than the size
unfoldable pub scaled : ℕ → ℤ → ℤ
scaled n p = pos (n + 1) *ℤ p

-- scaled points less a price
abbrev pub net : ℕ → ℤ → ℕ → ℤ
net n p x = scaled n p -ℤ pos x

-- at prices q, no allowed seat nets run i over e more than seat j does
abbrev pub Content : Table → (ℕ → ℕ) → ℕ → ℕ → ℕ → Type 0
Content t q e i j = (k : ℕ) (p r : ℤ) → Pays t i j p → Pays t i k r → net t.size r (q k) ≤ℤ (net t.size p (q j) +ℤ pos e)
