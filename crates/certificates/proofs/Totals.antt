-- Totals: one run more, and their range.
use Rattle.std.proofs.Common.{◌≡◌, ℕ, zero, suc, ◌+◌, ◌*◌, ◌≤◌, ℤ, pos, ◌+ℤ◌, neg_ℤ, ◌≤ℤ◌, Some, None, Option, refl, ap, ◌∙◌, mul-le-mul, add-one, arith}
use borrow.Author.Differences.{ints}
use Rattle.points.specs.Tables.{Table, Lawful}
use Rattle.points.specs.Plans.{value, total_to}

module _ (t : Table) (π : ℕ → ℕ) where
  pub total_more : (m : ℕ) (p : ℤ) → t.points m (π m) ≡ Some p → total_to t π (m + 1) ≡ total_to t π m +ℤ p
  total_more m p e = ap (total_to t π) (add-one m) ∙ ap (λ (o : Option ℤ). total_to t π m +ℤ value o) e

  module _ (l : Lawful t) where
    value_range : (i k : ℕ) (o : Option ℤ) → t.points i k ≡ o → (neg_ℤ (pos t.top) ≤ℤ value o) × (value o ≤ℤ pos t.top)
    value_range i k None e = (omega (arith, ints), omega (arith, ints))
    value_range i k (Some p) e = (l.low i k p e, l.high i k p e)

    total_range : (m : ℕ) → (neg_ℤ (pos (m * t.top)) ≤ℤ total_to t π m) × (total_to t π m ≤ℤ pos (m * t.top))
    total_range zero = (omega (arith, ints), omega (arith, ints))
    total_range (suc m) =
        let h = total_range m in
        let v = value_range m (π m) (t.points m (π m)) refl in
        (omega (arith, ints, h.0, v.0), omega (arith, ints, h.1, v.1))

    -- with at most 256 runs and points within a million
    pub total_within : (m : ℕ) → m ≤ 256 → t.top ≤ 1000000 → (neg_ℤ (pos 256000000) ≤ℤ total_to t π m) × (total_to t π m ≤ℤ pos 256000000)
    total_within m h k =
        let q : m * t.top ≤ 256 * 1000000 = mul-le-mul h k in
        let r = total_range m in
        (omega (arith, ints, r.0, q), omega (arith, ints, r.1, q))
