-- Which seats the spans of a row cover, and with which points.
use Rattle.std.specs.Prelude.{◌≡◌, ℕ, zero, suc, ◌+◌, ◌-◌, ◌<◌, ◌≤◌, true, false, List, ℤ, Some, None, nat_le, nat_lt, refl}
use Rattle.std.proofs.Common.{sym, ap, subst, ◌∙◌, inl, inr, arith}
use Rattle.std.proofs.lemmas.Bool.{cases_order, cases_eq, cases_Bool, cond-true, cond-false, and_left, and_right, and_from, lt-leb, le-leb, le-ltb, lt-ltb}
use Rattle.fault.specs.Checks.{Passes}
use Rattle.sheets.specs.Headers.{size_in}
use Rattle.sheets.specs.Sparse.{row_from, row_len, row_end, span_from, span_len, span_first, span_end, seats_before, covered_before, sparse_spans, covers, span_point, point_in, sparse_table}
use Rattle.sheets.specs.Seeks.{Rising, Passed}
use Rattle.sheets.specs.Covered.{span_parts, checks_same}

module _ (bs : List ℕ) where
  pub before : (q k : ℕ) → k < span_from bs q → covers bs q k ≡ false
  before q k h = and_left (nat_le (span_from bs q) k) (nat_lt k (span_end bs q)) (lt-leb (span_from bs q) k h)

  pub after : (q k : ℕ) → span_end bs q ≤ k → covers bs q k ≡ false
  after q k h = and_right (nat_le (span_from bs q) k) (nat_lt k (span_end bs q)) (le-ltb k (span_end bs q) h)

  pub inside : (q k : ℕ) → span_from bs q ≤ k → k < span_end bs q → covers bs q k ≡ true
  inside q k h l = and_from (nat_le (span_from bs q) k) (nat_lt k (span_end bs q)) (le-leb (span_from bs q) k h) (lt-ltb k (span_end bs q) l)

  -- no span covers the seat
  pub find_none : (k j c : ℕ) → ((q : ℕ) → j ≤ q → q < j + c → covers bs q k ≡ false) → point_in bs k j c ≡ None
  find_none k j zero h = refl
  find_none k j (suc c) h =
      cond-false (covers bs j k) _ _ (h j (omega arith) (omega arith)) ∙ find_none k (j + 1) c (λ q a b. h q (omega arith) (omega arith))

  -- the first span that covers the seat has its points
  pub find_some : (k j c q : ℕ) → j ≤ q → q < j + c → covers bs q k ≡ true → ((p : ℕ) → j ≤ p → p < q → covers bs p k ≡ false) → point_in bs k j c ≡ Some (span_point bs q k)
  find_some k j zero q a b e h = absurd (omega arith)
  find_some k j (suc c) q a b e h =
      elim (cases_eq q j) [
        | inl p ↦ (
            let x : covers bs j k ≡ true = subst (λ r. covers bs r k ≡ true) p e in
            cond-true (covers bs j k) (Some (span_point bs j k)) (point_in bs k (j + 1) c) x ∙ ap (λ r. Some (span_point bs r k)) (sym p))
        | inr p ↦ (
            let x : covers bs j k ≡ false = h j (omega arith) (omega arith) in
            cond-false (covers bs j k) (Some (span_point bs j k)) (point_in bs k (j + 1) c) x ∙ find_some k (j + 1) c q (omega arith) (omega arith) e (λ r l m. h r (omega arith) m))
      ]

  -- points that are found are those of a span that covers the seat
  pub find_back : (k j c : ℕ) (z : ℤ) → point_in bs k j c ≡ Some z → (q : ℕ) × (j ≤ q) × (q < j + c) × (covers bs q k ≡ true) × (span_point bs q k ≡ z)
  find_back k j zero z e = let w : ◌≡◌ {A = ℕ} 0 1 = cc in absurd (omega arith)
  find_back k j (suc c) z e =
      elim (cases_Bool (covers bs j k)) [
        | inl t ↦ (let s : Some (span_point bs j k) ≡ Some z = sym (cond-true (covers bs j k) (Some (span_point bs j k)) (point_in bs k (j + 1) c) t) ∙ e in (j, omega arith, omega arith, t, cc))
        | inr t ↦ (
            let s : point_in bs k (j + 1) c ≡ Some z = sym (cond-false (covers bs j k) (Some (span_point bs j k)) (point_in bs k (j + 1) c) t) ∙ e in
            let r = find_back k (j + 1) c z s in
            (r.0, omega (arith, r.1), omega (arith, r.2), r.3, r.4))
      ]

-- the spans of a row that pass the checks
module _ (bs : List ℕ) (spans : Passes (sparse_spans bs)) (i : ℕ) (row : i < size_in bs) where
  -- each has seats of its own, and its first point follows the points before it
  pub span_fields : (j : ℕ) → row_from bs i ≤ j → j < row_end bs i → (1 ≤ span_len bs j) × (span_end bs j ≤ size_in bs) × (span_first bs j ≡ covered_before bs j)
  span_fields j a b =
      let d = j - row_from bs i in
      let e : row_from bs i + d ≡ j = omega arith in
      let p = span_parts bs j (seats_before bs i d) (covered_before bs j)
      (checks_same bs (row_from bs i + d) j (seats_before bs i d) (seats_before bs i d) (covered_before bs (row_from bs i + d)) (covered_before bs j) e refl (ap (covered_before bs) e) (spans i row d (omega arith))) in
      (p.1, p.2, p.3)

  -- one begins no earlier than the one before it ends
  next_from : (j : ℕ) → row_from bs i ≤ j → j + 1 < row_end bs i → span_end bs j ≤ span_from bs (j + 1)
  next_from j a b =
      let d = j - row_from bs i in
      let e : row_from bs i + d ≡ j = omega arith in
      let f : row_from bs i + suc d ≡ j + 1 = omega arith in
      let p = span_parts bs (row_from bs i + suc d) (seats_before bs i (suc d)) (covered_before bs (row_from bs i + suc d)) (spans i row (suc d) (omega arith)) in
      omega (arith, p.0, ap (span_end bs) e, ap (span_from bs) f)

  later : (j d : ℕ) → row_from bs i ≤ j → j + 1 + d < row_end bs i → span_end bs j ≤ span_from bs (j + 1 + d)
  later j zero a b = let p : j + 1 ≡ j + 1 + zero = omega arith in omega (arith, next_from j a (omega arith), ap (span_from bs) p)
  later j (suc d) a b =
      let p : j + 1 + d + 1 ≡ j + 1 + suc d = omega arith in
      omega (arith, later j d a (omega arith), next_from (j + 1 + d) (omega arith) (omega arith), ap (span_from bs) p)

  -- each begins no earlier than any before it ends
  pub in_order : (j q : ℕ) → row_from bs i ≤ j → j < q → q < row_end bs i → span_end bs j ≤ span_from bs q
  in_order j q a b h =
      let p : j + 1 + (q - (j + 1)) ≡ q = omega arith in
      omega (arith, later j (q - (j + 1)) a (omega arith), ap (span_from bs) p)

  pub rising : Rising bs (row_from bs i) (row_end bs i)
  rising q m a b h =
      elim (cases_eq q m) [ inl e ↦ omega (arith, ap (span_end bs) e) | inr e ↦ omega (arith, in_order q m a (omega arith) h) ]

  pub table_is : (k : ℕ) → (sparse_table bs).points i k ≡ point_in bs k (row_from bs i) (row_len bs i)
  table_is k = cond-true (nat_lt i (size_in bs)) (point_in bs k (row_from bs i) (row_len bs i)) None (lt-ltb i (size_in bs) row)

  -- a seat that no span ends over is not covered
  pub passed_none : (k seat : ℕ) → seat ≤ k → Passed bs (row_from bs i) (row_end bs i) seat → (sparse_table bs).points i k ≡ None
  passed_none k seat l h = table_is k ∙ find_none bs k (row_from bs i) (row_len bs i) (λ q a b. after bs q k (omega (arith, h q a b)))

  module _ (seat j : ℕ) (low : row_from bs i ≤ j) (high : j < row_end bs i) (first : Passed bs (row_from bs i) j seat) where
    -- from a seat on, up to the first span that ends over it, no seat is covered
    pub gap_none : (k : ℕ) → seat ≤ k → k < span_from bs j → (sparse_table bs).points i k ≡ None
    gap_none k l h =
        table_is k ∙ find_none bs k (row_from bs i) (row_len bs i) (λ q a b.
        elim (cases_order q j) [
          | inl e ↦ before bs q k (omega (arith, ap (span_from bs) e))
          | inr d ↦ elim d [
            | inl e ↦ after bs q k (omega (arith, first q a e))
            | inr e ↦ before bs q k (omega (arith, in_order j q low e b))
          ]
        ])

    -- that span covers what lies from its start on, up to its end
    pub over_some : (k : ℕ) → seat ≤ k → span_from bs j ≤ k → k < span_end bs j → (sparse_table bs).points i k ≡ Some (span_point bs j k)
    over_some k l a b =
        table_is k ∙ find_some bs k (row_from bs i) (row_len bs i) j low high (inside bs j k a b) (λ p c d. after bs p k (omega (arith, first p c d)))
