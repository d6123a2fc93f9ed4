-- Cells of a dense sheet: where they lie, and what they say.
use Rattle.std.specs.Prelude.{◌≡◌, ℕ, suc, ◌+◌, ◌*◌, ◌<◌, ◌≤◌, Bool, true, ◌&&◌, List, length, ℤ, pos, neg_ℤ, ◌≤ℤ◌, Some, None, ◌==◌, nat_le, nat_lt}
use Rattle.std.proofs.lemmas.Option.{none-some}
use Rattle.std.proofs.Common.{sym, ◌∙◌, inl, inr, arith, mul-le-mul_left, mul-suc}
use Rattle.std.proofs.lemmas.Bool.{and_parts, or_cases, both_ways, cases_Bool, cond-true, cond-false, ltb-true, leb-true, eqb-true}
use Rattle.fault.specs.Checks.{Passes, kept}
use Rattle.fault.proofs.Once.{kept_passes}
use Rattle.points.specs.Tables.{Pays, Lawful}
use Rattle.sheets.specs.Bytes.{le32}
use Rattle.sheets.specs.Headers.{size_in, sheet_top, absent, signed32, in_range}
use Rattle.sheets.specs.Dense.{row_at, is_cell, dense_checks, cell, dense_table}
use Rattle.sheets.specs.Words.{filled, range_bounds}

-- the rows below n lie within n times n cells
pub row_within : (n i : ℕ) → i < n → n * i + n ≤ n * n
row_within n i h = let a : n * suc i ≤ n * n = mul-le-mul_left n h in omega (arith, a, mul-suc n i)

module _ (bs : List ℕ) (keeps : 0 < length bs → kept (dense_checks bs) ≡ true) where
  passed : (i : ℕ) → i < size_in bs → Passes (dense_checks bs)
  passed i h = kept_passes (dense_checks bs) (keeps (filled bs i h))

  pub small : (i : ℕ) → i < size_in bs → size_in bs ≤ 256
  small i h = leb-true _ _ (and_parts (nat_le 1 (size_in bs)) (nat_le (size_in bs) 256) (passed i h).0.0.1.1).1

  -- a cell lies within the bytes
  pub room : (i k : ℕ) → i < size_in bs → k < size_in bs → row_at (size_in bs) i + 4 * k + 4 ≤ length bs
  room i k h l = omega (arith, eqb-true _ _ (passed i h).0.1.1, row_within (size_in bs) i h)

  fair : (i k : ℕ) → i < size_in bs → k < size_in bs → is_cell (le32 bs (row_at (size_in bs) i + 4 * k)) ≡ true
  fair i k h l = (passed i h).1 i h k l

  -- an allowed pair lies below the size, and its word is in range
  found : (i k : ℕ) (p : ℤ) → Pays (dense_table bs) i k p → (i < size_in bs) × (k < size_in bs) × (neg_ℤ (pos sheet_top) ≤ℤ p) × (p ≤ℤ pos sheet_top)
  found i k p e = elim (cases_Bool inside) [ inl t ↦ within t | inr t ↦ absurd (none-some p (sym (cond-false inside (cell word) None t) ∙ e)) ]
    where
      inside : Bool
      inside = nat_lt i (size_in bs) && nat_lt k (size_in bs)

      word : ℕ
      word = le32 bs (row_at (size_in bs) i + 4 * k)

      within : inside ≡ true → (i < size_in bs) × (k < size_in bs) × (neg_ℤ (pos sheet_top) ≤ℤ p) × (p ≤ℤ pos sheet_top)
      within t =
          let b = and_parts (nat_lt i (size_in bs)) (nat_lt k (size_in bs)) t in
          let h : i < size_in bs = ltb-true _ _ b.0 in
          let l : k < size_in bs = ltb-true _ _ b.1 in
          let c : cell word ≡ Some p = sym (cond-true inside (cell word) None t) ∙ e in
          elim (cases_Bool (word == absent)) [
            | inl a ↦ absurd (none-some p (sym (cond-true (word == absent) None (Some (signed32 word)) a) ∙ c))
            | inr a ↦ (
                let s : Some (signed32 word) ≡ Some p = sym (cond-false (word == absent) None (Some (signed32 word)) a) ∙ c in
                let r : in_range word ≡ true = elim (or_cases (word == absent) (in_range word) (fair i k h l)) [ inl q ↦ absurd (both_ways _ a q) | inr q ↦ q ] in
                let v : signed32 word ≡ p = cc in
                let g = range_bounds word r in
                (h, l, rw v at g.0, rw v at g.1))
          ]

  pub dense_lawful : Lawful (dense_table bs)
  dense_lawful = record {
    runs = λ i k p e. (found i k p e).0;
    seats = λ i k p e. (found i k p e).1;
    low = λ i k p e. (found i k p e).2;
    high = λ i k p e. (found i k p e).3;
  }
