-- Spans by their bytes, a search among the spans of a row, and the rules that the bytes keep.
use Rattle.std.proofs.Common.{◌≡◌, ℕ, ◌+◌, ◌-◌, ◌<◌, ◌≤◌, true, false, List, [], Bor, Some, None, Option, IfSome, IsSomeAnd, MatchOption, length, take, drop, slice_index_or, sym, subst, ap, ◌∙◌, add-zero, arith}
use Rattle.std.proofs.lemmas.Bool.{leb-true, leb-false, le-leb}
use Rattle.std.specs.List.{HoldsAt}
use Rattle.std.specs.List.Sorted.{IsPartitionedBy, IsPartitionPoint}
use Rattle.sheets.specs.declared.spans.Span.{Span}
use Rattle.sheets.specs.declared.sparse.SparseBytes.{SparseBytes}
use Rattle.fault.specs.Checks.{Passes}
use Rattle.fault.proofs.Once.{kept_passes}
use Rattle.sheets.specs.Bytes.{le16, le32}
use Rattle.sheets.specs.Parts.{le16_part, le32_part}
use Rattle.sheets.specs.Headers.{size_in}
use Rattle.sheets.specs.Sparse.{row_from, row_len, span_at, span_from, span_len, span_first, span_end, sparse_spans, sparse_checks}
use Rattle.sheets.specs.Seeks.{SpansAt, Passed, First, past}
use Rattle.sheets.specs.Finds.{rising}

-- the bytes of a sheet keep every rule
pub rules_of : (b : SparseBytes) → Passes (sparse_checks b.frame.bytes.now)
rules_of b = kept_passes (sparse_checks b.frame.bytes.now) b.keeps

module _ (bs : List ℕ) (j : ℕ) (x : List ℕ) (is : x ≡ take 8 (drop (span_at (size_in bs) j) bs)) where
  pub from_is : le16 x 0 ≡ span_from bs j
  unfolding span_from
  from_is =
      let at : ℕ = span_at (size_in bs) j in
      ap (λ (b : List ℕ). le16 b 0) is ∙ le16_part bs at 8 0 (omega arith) ∙ ap (le16 bs) (add-zero at)

  pub len_is : le16 x 2 ≡ span_len bs j
  unfolding span_len
  len_is = ap (λ (b : List ℕ). le16 b 2) is ∙ le16_part bs (span_at (size_in bs) j) 8 2 (omega arith)

  pub first_is : le32 x 4 ≡ span_first bs j
  unfolding span_first
  first_is = ap (λ (b : List ℕ). le32 b 4) is ∙ le32_part bs (span_at (size_in bs) j) 8 4 (omega arith)

-- a call on what is there, said in other words
pub answered : {X Y : Type 0} (g : Option X) (r : Option Y) (R S : X → Y → Type 0) → MatchOption g (r ≡ None) (λ x. IsSomeAnd r (R x)) → ((x : X) (y : Y) → R x y → S x y) → MatchOption g (r ≡ None) (λ x. IsSomeAnd r (S x))
answered None r R S h f = h
answered (Some x) None R S h f = h
answered (Some x) (Some y) R S h f = f x y h

module _ (bs : List ℕ) (spans : Passes (sparse_spans bs)) (i : ℕ) (row : i < size_in bs) (seat : ℕ) (xs : List (List ℕ)) (at : SpansAt bs (row_from bs i) (row_len bs i) xs) where
  end_is : (d : ℕ) (z : List ℕ) → d < row_len bs i → le16 (slice_index_or xs d z) 0 + le16 (slice_index_or xs d z) 2 ≡ span_end bs (row_from bs i + d)
  end_is d z h =
      let e = at.each d z h in
      let j : ℕ = row_from bs i + d in
      omega (arith, from_is bs j (slice_index_or xs d z) e, len_is bs j (slice_index_or xs d z) e)

  pub partitioned : IsPartitionedBy (past seat) xs
  partitioned q m z h l t =
      let less : m < row_len bs i = omega (arith, at.long) in
      let last : span_end bs (row_from bs i + m) ≤ seat = omega (arith, leb-true _ _ t, end_is m z less) in
      le-leb _ _ (omega (arith, last, end_is q z (omega arith), rising bs spans i row (row_from bs i + q) (row_from bs i + m) (omega arith) (omega arith) (omega arith)))

  -- what lies before the point has been passed, and what stands there, if any, ends over the seat
  module _ (p : ℕ) (point : IsPartitionPoint (λ b. past seat b ≡ true) (λ b. past seat b ≡ false) xs p) where
    passed : p ≤ row_len bs i → Passed bs (row_from bs i) (row_from bs i + p) seat
    passed h q a b =
        let d = q - row_from bs i in
        let e : row_from bs i + d ≡ q = omega arith in
        omega (arith, leb-true _ _ (point.0 d [] (omega arith) (omega arith)), end_is d [] (omega arith), ap (span_end bs) e)

    pub found : (g : Option (Bor (List ℕ))) (r : Option Span) → MatchOption g (length xs ≤ p) (λ x. (p < length xs) × HoldsAt (λ y. x.now ≡ y) xs p) → IfSome g (λ x. x.now ≡ slice_index_or xs p x.now) → MatchOption g (r ≡ None) (λ x. IsSomeAnd r (λ s. (s.from ≡ le16 x.now 0) × (s.len ≡ le16 x.now 2) × (s.first ≡ le32 x.now 4))) → p ≤ length xs → First bs i seat r
    found None r out is e h =
        let n : p ≡ row_len bs i = omega (arith, at.long, out) in
        subst (First bs i seat) (sym e) (λ q a b. passed (omega arith) q a (omega arith))
    found (Some x) None out is e h = absurd e
    found (Some x) (Some s) out is e h =
        let j : ℕ = row_from bs i + p in
        let less : p < row_len bs i = omega (arith, at.long, out.0) in
        let b : x.now ≡ take 8 (drop (span_at (size_in bs) j) bs) = is ∙ at.each p x.now less in
        let over : seat < le16 (slice_index_or xs p x.now) 0 + le16 (slice_index_or xs p x.now) 2 = leb-false _ _ (point.1 p x.now (omega arith) out.0) in (
          j,
          record {
            low = omega arith;
            high = omega arith;
            before = passed (omega arith);
            over = omega (arith, over, end_is p x.now less);
            from = e.0 ∙ from_is bs j x.now b;
            len = e.1 ∙ len_is bs j x.now b;
            first = e.2 ∙ first_is bs j x.now b;
          },
        )
