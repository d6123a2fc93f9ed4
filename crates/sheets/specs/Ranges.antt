-- The points of a sparse sheet: where they lie, and in which range.
use Rattle.std.specs.Prelude.{◌≡◌, ℕ, zero, suc, ◌+◌, ◌-◌, ◌*◌, ◌<◌, ◌≤◌, true, List, length, ℤ, pos, neg_ℤ, ◌≤ℤ◌, None, nat_le, nat_lt}
use Rattle.std.proofs.lemmas.Option.{none-some}
use Rattle.std.proofs.Common.{sym, ap, ◌∙◌, inl, inr, arith}
use Rattle.std.proofs.lemmas.Bool.{and_parts, cases_lt, leb-true, ltb-true, eqb-true, le-ltb, cond-false}
use Rattle.fault.specs.Checks.{Passes, kept}
use Rattle.fault.proofs.Once.{kept_passes}
use Rattle.points.specs.Tables.{Pays, Lawful}
use Rattle.sheets.specs.Headers.{size_in, spans_in, sheet_top}
use Rattle.sheets.specs.Sparse.{row_from, row_len, row_end, span_from, span_first, span_end, covered_before, points_at, sparse_checks, point_word, span_point, point_in, sparse_table}
use Rattle.sheets.specs.Words.{filled, range_bounds}
use Rattle.sheets.specs.Covered.{covered_more, row_end_lem}
use Rattle.sheets.specs.Finds.{find_back, span_fields, table_is}

-- more spans cover no fewer seats
pub covered_rises : (bs : List ℕ) (j d : ℕ) → covered_before bs j ≤ covered_before bs (j + d)
covered_rises bs j zero = let e : j + zero ≡ j = omega arith in omega (arith, ap (covered_before bs) e)
covered_rises bs j (suc d) =
    let e : j + d + 1 ≡ j + suc d = omega arith in
    omega (arith, covered_rises bs j d, covered_more bs (j + d), ap (covered_before bs) e)

module _ (bs : List ℕ) (ok : Passes (sparse_checks bs)) where
  module _ (i j k : ℕ) (row : i < size_in bs) (low : row_from bs i ≤ j) (high : j < row_end bs i) (from : span_from bs j ≤ k) (over : k < span_end bs j) where
    -- the point of a covered seat is one of the sheet's points
    pub point_below : span_first bs j + (k - span_from bs j) < covered_before bs (spans_in bs)
    point_below =
        let end : row_end bs i ≤ spans_in bs = row_end_lem bs ok.1.0 i row in
        let e : j + 1 + (spans_in bs - (j + 1)) ≡ spans_in bs = omega arith in
        omega (arith, (span_fields bs ok.1.1.0 i row j low high).2, covered_more bs j, covered_rises bs (j + 1) (spans_in bs - (j + 1)), ap (covered_before bs) e)

    -- and lies within the bytes
    pub point_room : points_at bs + 4 * (span_first bs j + (k - span_from bs j)) + 4 ≤ length bs
    point_room = omega (arith, point_below, eqb-true _ _ ok.1.1.1.0)

    pub point_range : (neg_ℤ (pos sheet_top) ≤ℤ span_point bs j k) × (span_point bs j k ≤ℤ pos sheet_top)
    point_range = range_bounds (point_word bs (span_first bs j + (k - span_from bs j))) (ok.1.1.1.1 (span_first bs j + (k - span_from bs j)) point_below)

module _ (bs : List ℕ) (keeps : 0 < length bs → kept (sparse_checks bs) ≡ true) where
  pub passed : (i : ℕ) → i < size_in bs → Passes (sparse_checks bs)
  passed i h = kept_passes (sparse_checks bs) (keeps (filled bs i h))

  -- an allowed pair lies below the size, and its points are in range
  found : (i k : ℕ) (p : ℤ) → Pays (sparse_table bs) i k p → (i < size_in bs) × (k < size_in bs) × (neg_ℤ (pos sheet_top) ≤ℤ p) × (p ≤ℤ pos sheet_top)
  found i k p e = elim (cases_lt i (size_in bs)) [ inl h ↦ within h | inr h ↦ absurd (none-some p (sym (cond-false (nat_lt i (size_in bs)) (point_in bs k (row_from bs i) (row_len bs i)) None (le-ltb i (size_in bs) h)) ∙ e)) ]
    where
      within : i < size_in bs → (i < size_in bs) × (k < size_in bs) × (neg_ℤ (pos sheet_top) ≤ℤ p) × (p ≤ℤ pos sheet_top)
      within h =
          let ok : Passes (sparse_checks bs) = passed i h in
          let spans = ok.1.1.0 in
          let f = find_back bs k (row_from bs i) (row_len bs i) p (sym (table_is bs spans i h k) ∙ e) in
          let b = and_parts (nat_le (span_from bs f.0) k) (nat_lt k (span_end bs f.0)) f.3 in
          let from : span_from bs f.0 ≤ k = leb-true _ _ b.0 in
          let over : k < span_end bs f.0 = ltb-true _ _ b.1 in
          let r = point_range bs ok i f.0 k h f.1 f.2 from over in
          (h, omega (arith, (span_fields bs spans i h f.0 f.1 f.2).1), rw f.4 at r.0, rw f.4 at r.1)

  pub sparse_lawful : Lawful (sparse_table bs)
  sparse_lawful = record {
    runs = λ i k p e. (found i k p e).0;
    seats = λ i k p e. (found i k p e).1;
    low = λ i k p e. (found i k p e).2;
    high = λ i k p e. (found i k p e).3;
  }
