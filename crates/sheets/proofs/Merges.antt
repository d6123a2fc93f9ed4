-- A sheet and the same sheet with touching spans merged mean the same table.
use Rattle.std.proofs.Common.{◌≡◌, ℕ, zero, suc, ◌+◌, ◌-◌, ◌<◌, ◌≤◌, ltb, leb, List, ℤ, Some, None, Option, sym, refl, ap, ◌∙◌, inl, inr, add-one, arith}
use Rattle.std.proofs.lemmas.Bool.{cases_lt, cases_order, cases_eq, and_parts, leb-true, ltb-true, cond-false, le-ltb}
use Rattle.fault.specs.Checks.{Passes}
use Rattle.sheets.specs.Headers.{size_in, spans_in, signed32}
use Rattle.sheets.specs.Sparse.{row_from, row_len, row_end, span_from, span_len, span_first, span_end, covered_before, sparse_checks, sparse_rows, point_word, span_point, point_in, sparse_table}
use Rattle.sheets.specs.Merging.{Merged, MergingKeepsTheTable}
use Rattle.sheets.specs.Covered.{covered_none, covered_more, row_from_lem, row_end_lem}
use Rattle.sheets.specs.Finds.{find_some, find_back, inside, after, span_fields, in_order, table_is}
use Rattle.sheets.specs.Ranges.{point_below}

-- a row begins where the one before it ends
row_follows : (bs : List ℕ) → Passes (sparse_rows bs) → (r : ℕ) → r + 1 < size_in bs → row_from bs (r + 1) ≡ row_end bs r
row_follows bs rows r h = let g : suc r < size_in bs = omega arith in rw add-one (row_from_lem bs rows (suc r) g)

-- rows lie one after the other
rows_apart : (bs : List ℕ) → Passes (sparse_rows bs) → (r d : ℕ) → r + 1 + d < size_in bs → row_end bs r ≤ row_from bs (r + 1 + d)
rows_apart bs rows r zero h = let e : r + 1 + zero ≡ r + 1 = omega arith in omega (arith, row_follows bs rows r (omega arith), ap (row_from bs) e)
rows_apart bs rows r (suc d) h =
    let e : r + 1 + d + 1 ≡ r + 1 + suc d = omega arith in
    omega (arith, rows_apart bs rows r d (omega arith), row_follows bs rows (r + 1 + d) (omega arith), ap (row_from bs) e)

row_after : (bs : List ℕ) → Passes (sparse_rows bs) → (r s : ℕ) → r < s → s < size_in bs → row_end bs r ≤ row_from bs s
row_after bs rows r s h l =
    let e : r + 1 + (s - (r + 1)) ≡ s = omega arith in
    omega (arith, rows_apart bs rows r (s - (r + 1)) (omega arith), ap (row_from bs) e)

-- a span of the row that covers the seat has its points
covered_pays : (bs : List ℕ) → Passes (sparse_checks bs) → (r q k : ℕ) → r < size_in bs → row_from bs r ≤ q → q < row_end bs r → span_from bs q ≤ k → k < span_end bs q → (sparse_table bs).points r k ≡ Some (span_point bs q k)
covered_pays bs ok r q k h a b c d =
    table_is bs ok.1.1.0 r h k
    ∙ find_some bs k (row_from bs r) (row_len bs r) q a b (inside bs q k c d) (λ p l m. after bs p k (omega (arith, in_order bs ok.1.1.0 r h p q l m b)))

-- points are those of a span of the row that covers the seat
record Payer (bs : List ℕ) (r k : ℕ) (z : ℤ) : Type 0 where
  span : ℕ
  low : row_from bs r ≤ span
  high : span < row_end bs r
  from : span_from bs span ≤ k
  over : k < span_end bs span
  is : span_point bs span k ≡ z

payer : (bs : List ℕ) → Passes (sparse_checks bs) → (r k : ℕ) (z : ℤ) → r < size_in bs → (sparse_table bs).points r k ≡ Some z → Payer bs r k z
payer bs ok r k z h e =
    let f = find_back bs k (row_from bs r) (row_len bs r) z (sym (table_is bs ok.1.1.0 r h k) ∙ e) in
    let b = and_parts (leb (span_from bs f.0) k) (ltb k (span_end bs f.0)) f.3 in
    record { span = f.0; low = f.1; high = f.2; from = leb-true _ _ b.0; over = ltb-true _ _ b.1; is = f.4 }

module _ (bs cs : List ℕ) (i j : ℕ) (okb : Passes (sparse_checks bs)) (okc : Passes (sparse_checks cs)) (m : Merged bs cs i j) where
  -- where the rows of cs begin
  Begins : ℕ → Type 0
  Begins r = (r ≤ i → row_from cs r ≡ row_from bs r) × (i < r → row_from cs r + 1 ≡ row_from bs r)

  begins : (r : ℕ) → r < size_in bs → Begins r
  unfolding Begins
  begins zero h =
      (λ l. row_from_lem cs okc.1.0 zero (omega (arith, m.size)) ∙ sym (row_from_lem bs okb.1.0 zero h), λ l. absurd (omega arith))
  begins (suc r) h =
      let b : row_from bs (suc r) ≡ row_end bs r = row_from_lem bs okb.1.0 (suc r) h in
      let c : row_from cs (suc r) ≡ row_end cs r = row_from_lem cs okc.1.0 (suc r) (omega (arith, m.size)) in
      let f = begins r (omega arith) in
      elim (cases_order r i) [
        | inl e ↦ (λ l. absurd (omega arith), λ l. omega (arith, f.0 (omega arith), m.shorter, ap (row_len bs) e, ap (row_len cs) e))
        | inr d ↦ elim d [
          | inl e ↦ (
              let o : row_len cs r ≡ row_len bs r = m.others r (omega arith) (λ x. omega arith) in
              (λ l. omega (arith, f.0 (omega arith)), λ l. absurd (omega arith)))
          | inr e ↦ (
              let o : row_len cs r ≡ row_len bs r = m.others r (omega arith) (λ x. omega arith) in
              (λ l. absurd (omega arith), λ l. omega (arith, f.1 e)))
        ]
      ]

  -- the spans up to j cover as much as they did
  covered_low : (q : ℕ) → q ≤ j → covered_before cs q ≡ covered_before bs q
  covered_low zero h = sym (covered_none cs) ∙ covered_none bs
  covered_low (suc q) h =
      let e : q + 1 ≡ suc q = omega arith in
      omega (arith, covered_low q (omega arith), covered_more bs q, covered_more cs q, ap (covered_before bs) e, ap (covered_before cs) e, (m.before q (omega arith)).1)

  -- and with the merged one as much as they did with both
  covered_high : (d : ℕ) → j + 1 + d ≤ spans_in cs → covered_before cs (j + 1 + d) ≡ covered_before bs (j + 1 + d + 1)
  covered_high zero h =
      let e : j + 1 + zero ≡ j + 1 = omega arith in
      let g : j + 1 + zero + 1 ≡ j + 1 + 1 = omega arith in
      omega (arith, covered_low j (omega arith), covered_more cs j, covered_more bs j, covered_more bs (j + 1), ap (covered_before cs) e, ap (covered_before bs) g, m.merged.1)
  covered_high (suc d) h =
      let e : j + 1 + d + 1 ≡ j + 1 + suc d = omega arith in
      let g : j + 1 + d + 1 + 1 ≡ j + 1 + suc d + 1 = omega arith in
      omega (arith, covered_high d (omega arith), covered_more cs (j + 1 + d), covered_more bs (j + 1 + d + 1), ap (covered_before cs) e, ap (covered_before bs) g, (m.after (j + 1 + d) (omega arith) (omega arith)).1)

  -- a row of cs holds the spans up to j that it held in bs, and the later ones one place lower
  in_row : (r q : ℕ) → r < size_in bs → row_from bs r ≤ q → q < row_end bs r → (q ≤ j → (row_from cs r ≤ q) × (q < row_end cs r)) × (j < q → (row_from cs r + 1 ≤ q) × (q < row_end cs r + 1))
  unfolding Begins
  in_row r q h a b =
      let f = begins r h in
      elim (cases_order r i) [
        | inl e ↦ (
            let x : row_from cs r ≡ row_from bs r = f.0 (omega arith) in
            let y : row_len cs r + 1 ≡ row_len bs r = omega (arith, m.shorter, ap (row_len bs) e, ap (row_len cs) e) in
            let z : row_from bs r ≤ j = omega (arith, m.low, ap (row_from bs) e) in
            let w : j + 1 < row_end bs r = omega (arith, m.high, ap (row_end bs) e) in
            (λ l. (omega arith, omega arith), λ l. (omega arith, omega arith)))
        | inr d ↦ elim d [
          | inl e ↦ (
              let x : row_from cs r ≡ row_from bs r = f.0 (omega arith) in
              let y : row_len cs r ≡ row_len bs r = m.others r h (λ v. omega arith) in
              let z : row_end bs r ≤ row_from bs i = row_after bs okb.1.0 r i e m.row in
              (λ l. (omega arith, omega arith), λ l. absurd (omega (arith, m.low))))
          | inr e ↦ (
              let x : row_from cs r + 1 ≡ row_from bs r = f.1 e in
              let y : row_len cs r ≡ row_len bs r = m.others r h (λ v. omega arith) in
              let z : row_end bs i ≤ row_from bs r = row_after bs okb.1.0 i r e h in
              (λ l. absurd (omega (arith, m.high)), λ l. (omega arith, omega arith)))
        ]
      ]

  -- and the other way round
  in_row_back : (r q : ℕ) → r < size_in bs → row_from cs r ≤ q → q < row_end cs r → (q ≤ j → (row_from bs r ≤ q) × (q < row_end bs r)) × (j ≤ q → (row_from bs r ≤ q + 1) × (q + 1 < row_end bs r))
  unfolding Begins
  in_row_back r q h a b =
      let f = begins r h in
      elim (cases_order r i) [
        | inl e ↦ (
            let x : row_from cs r ≡ row_from bs r = f.0 (omega arith) in
            let y : row_len cs r + 1 ≡ row_len bs r = omega (arith, m.shorter, ap (row_len bs) e, ap (row_len cs) e) in
            (λ l. (omega arith, omega arith), λ l. (omega arith, omega arith)))
        | inr d ↦ elim d [
          | inl e ↦ (
              let x : row_from cs r ≡ row_from bs r = f.0 (omega arith) in
              let y : row_len cs r ≡ row_len bs r = m.others r h (λ v. omega arith) in
              let z : row_end bs r ≤ row_from bs i = row_after bs okb.1.0 r i e m.row in
              (λ l. (omega arith, omega arith), λ l. absurd (omega (arith, m.low))))
          | inr e ↦ (
              let x : row_from cs r + 1 ≡ row_from bs r = f.1 e in
              let y : row_len cs r ≡ row_len bs r = m.others r h (λ v. omega arith) in
              let z : row_end bs i ≤ row_from bs r = row_after bs okb.1.0 i r e h in
              (λ l. absurd (omega (arith, m.high)), λ l. (omega arith, omega arith)))
        ]
      ]

  module _ (r k : ℕ) (h : r < size_in bs) where
    -- a span of cs that covers the seat, with the same point, pays the same
    same_point : (q t : ℕ) → row_from bs r ≤ q → q < row_end bs r → span_from bs q ≤ k → k < span_end bs q → row_from cs r ≤ t → t < row_end cs r → span_from cs t ≤ k → k < span_end cs t → covered_before cs t + (k - span_from cs t) ≡ covered_before bs q + (k - span_from bs q) → (sparse_table cs).points r k ≡ Some (span_point bs q k)
    same_point q t a b c d l o u v e =
        let n : r < size_in cs = omega (arith, m.size) in
        let x : span_first bs q ≡ covered_before bs q = (span_fields bs okb.1.1.0 r h q a b).2 in
        let y : span_first cs t ≡ covered_before cs t = (span_fields cs okc.1.1.0 r n t l o).2 in
        let p : span_first cs t + (k - span_from cs t) ≡ span_first bs q + (k - span_from bs q) = omega arith in
        let w : point_word cs (span_first cs t + (k - span_from cs t)) ≡ point_word bs (span_first bs q + (k - span_from bs q)) = ap (point_word cs) p ∙ m.points (span_first bs q + (k - span_from bs q)) (point_below bs okb r q k h a b c d) in
        covered_pays cs okc r t k n l o u v ∙ ap (λ (x : ℕ). Some (signed32 x)) w

    -- what a span pays in bs is paid in cs
    forth : (q : ℕ) → row_from bs r ≤ q → q < row_end bs r → span_from bs q ≤ k → k < span_end bs q → (sparse_table cs).points r k ≡ Some (span_point bs q k)
    forth q a b c d =
        let g = in_row r q h a b in
        elim (cases_lt q j) [
          | inl e ↦ (
              let f : span_from cs q ≡ span_from bs q = (m.before q e).0 in
              let l : span_len cs q ≡ span_len bs q = (m.before q e).1 in
              let n : (row_from cs r ≤ q) × (q < row_end cs r) = g.0 (omega arith) in
              same_point q q a b c d n.0 n.1 (omega arith) (omega arith) (omega (arith, covered_low q (omega arith))))
          | inr e ↦ elim (cases_eq q j) [
            | inl x ↦ (
                let f : span_from cs q ≡ span_from bs q = ap (span_from cs) x ∙ m.merged.0 ∙ sym (ap (span_from bs) x) in
                let l : span_len cs q ≡ span_len bs q + span_len bs (j + 1) = omega (arith, m.merged.1, ap (span_len cs) x, ap (span_len bs) x) in
                let n : (row_from cs r ≤ q) × (q < row_end cs r) = g.0 (omega arith) in
                same_point q q a b c d n.0 n.1 (omega arith) (omega arith) (omega (arith, covered_low q (omega arith))))
            | inr x ↦ elim (cases_eq q (j + 1)) [
              | inl y ↦ (
                  let f : span_from bs q ≡ span_end bs j = ap (span_from bs) y ∙ sym m.touch in
                  let l : span_len bs q ≡ span_len bs (j + 1) = ap (span_len bs) y in
                  let n : (row_from cs r + 1 ≤ q) × (q < row_end cs r + 1) = g.1 (omega arith) in
                  let u : span_from cs j ≡ span_from bs j = m.merged.0 in
                  let v : span_len cs j ≡ span_len bs j + span_len bs (j + 1) = m.merged.1 in
                  same_point q j a b c d (omega arith) (omega arith) (omega arith) (omega arith) (omega (arith, covered_low j (omega arith), covered_more bs j, ap (covered_before bs) y)))
              | inr y ↦ (
                  let t = q - 1 in
                  let o : t + 1 ≡ q = omega arith in
                  let n : (row_from cs r + 1 ≤ q) × (q < row_end cs r + 1) = g.1 (omega arith) in
                  let end : row_end bs r ≤ spans_in bs = row_end_lem bs okb.1.0 r h in
                  let low : t < spans_in cs = omega (arith, m.spans) in
                  let f : span_from cs t ≡ span_from bs q = (m.after t (omega arith) low).0 ∙ ap (span_from bs) o in
                  let l : span_len cs t ≡ span_len bs q = (m.after t (omega arith) low).1 ∙ ap (span_len bs) o in
                  let u : j + 1 + (t - (j + 1)) ≡ t = omega arith in
                  let v : j + 1 + (t - (j + 1)) + 1 ≡ q = omega arith in
                  let w : covered_before cs t ≡ covered_before bs q = sym (ap (covered_before cs) u) ∙ covered_high (t - (j + 1)) (omega arith) ∙ ap (covered_before bs) v in
                  same_point q t a b c d (omega arith) (omega arith) (omega arith) (omega arith) (omega arith))
            ]
          ]
        ]

    -- what a span covers in cs is covered in bs
    back : (q : ℕ) → row_from cs r ≤ q → q < row_end cs r → span_from cs q ≤ k → k < span_end cs q → (z : ℤ) × ((sparse_table bs).points r k ≡ Some z)
    back q a b c d =
        let g = in_row_back r q h a b in
        let pays : (t : ℕ) → row_from bs r ≤ t → t < row_end bs r → span_from bs t ≤ k → k < span_end bs t → (z : ℤ) × ((sparse_table bs).points r k ≡ Some z) = λ t l o u v. (span_point bs t k, covered_pays bs okb r t k h l o u v) in
        elim (cases_lt q j) [
          | inl e ↦ (
              let f : span_from cs q ≡ span_from bs q = (m.before q e).0 in
              let l : span_len cs q ≡ span_len bs q = (m.before q e).1 in
              let n : (row_from bs r ≤ q) × (q < row_end bs r) = g.0 (omega arith) in
              pays q n.0 n.1 (omega arith) (omega arith))
          | inr e ↦ elim (cases_eq q j) [
            | inl x ↦ (
                let f : span_from cs q ≡ span_from bs j = ap (span_from cs) x ∙ m.merged.0 in
                let l : span_len cs q ≡ span_len bs j + span_len bs (j + 1) = ap (span_len cs) x ∙ m.merged.1 in
                let n : (row_from bs r ≤ q) × (q < row_end bs r) = g.0 (omega arith) in
                let o : (row_from bs r ≤ q + 1) × (q + 1 < row_end bs r) = g.1 (omega arith) in
                elim (cases_lt k (span_end bs j)) [ inl y ↦ pays j (omega arith) (omega arith) (omega arith) y | inr y ↦ pays (j + 1) (omega arith) (omega arith) (omega (arith, m.touch)) (omega (arith, m.touch)) ])
            | inr x ↦ (
                let n : r < size_in cs = omega (arith, m.size) in
                let end : row_end cs r ≤ spans_in cs = row_end_lem cs okc.1.0 r n in
                let f : span_from cs q ≡ span_from bs (q + 1) = (m.after q (omega arith) (omega arith)).0 in
                let l : span_len cs q ≡ span_len bs (q + 1) = (m.after q (omega arith) (omega arith)).1 in
                let o : (row_from bs r ≤ q + 1) × (q + 1 < row_end bs r) = g.1 (omega arith) in
                pays (q + 1) o.0 o.1 (omega arith) (omega arith))
          ]
        ]

    same_below : (sparse_table bs).points r k ≡ (sparse_table cs).points r k
    same_below = go ((sparse_table bs).points r k) ((sparse_table cs).points r k) refl refl
      where
        go : (o u : Option ℤ) → (sparse_table bs).points r k ≡ o → (sparse_table cs).points r k ≡ u → o ≡ u
        go None None x y = refl
        go None (Some z) x y =
            let p = payer cs okc r k z (omega (arith, m.size)) y in
            let w = back p.span p.low p.high p.from p.over in
            let n : ◌≡◌ {A = ℕ} 0 1 = cc w.1 in
            absurd (omega arith)
        go (Some z) u x y =
            let p = payer bs okb r k z h x in
            sym (ap Some p.is) ∙ sym (forth p.span p.low p.high p.from p.over) ∙ y

  same_points : (r k : ℕ) → (sparse_table bs).points r k ≡ (sparse_table cs).points r k
  same_points r k =
      elim (cases_lt r (size_in bs)) [
        | inl h ↦ same_below r k h
        | inr h ↦ (
            cond-false (ltb r (size_in bs)) (point_in bs k (row_from bs r) (row_len bs r)) None (le-ltb r (size_in bs) h)
            ∙ sym (cond-false (ltb r (size_in cs)) (point_in cs k (row_from cs r) (row_len cs r)) None (le-ltb r (size_in cs) (omega (arith, m.size)))))
      ]

pub merging : MergingKeepsTheTable
merging bs cs i j okb okc m = record { size = sym m.size; top = refl; points = same_points bs cs i j okb okc m }
