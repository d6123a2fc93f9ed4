-- What the checks of rows and spans say, and how many seats the spans cover.
use Rattle.std.specs.Prelude.{◌≡◌, ℕ, zero, suc, ◌+◌, ◌<◌, ◌≤◌, true, List, length, ◌==◌, nat_le, refl}
use Rattle.std.proofs.Common.{sym, subst, ◌∙◌, inl, inr, arith, add-one}
use Rattle.std.proofs.lemmas.Bool.{and_parts, leb-true, eqb-true, eq-eqb, cases_Bool, cond-true, cond-false}
use Rattle.points.specs.Sums.{sum}
use Rattle.fault.specs.Checks.{Passes}
use Rattle.sheets.specs.Headers.{size_in, spans_in}
use Rattle.sheets.specs.Sparse.{row_from, row_end, end_before, span_from, span_len, span_first, span_end, covered_before, points_at, sparse_frame, ends_well, sparse_rows, span_checks}

-- no span covers nothing
pub covered_none : (bs : List ℕ) → 0 ≡ covered_before bs 0
unfolding sum
covered_none bs = refl

-- one span more covers as many seats more as it is long
pub covered_more : (bs : List ℕ) (j : ℕ) → covered_before bs (j + 1) ≡ covered_before bs j + span_len bs j
unfolding sum
covered_more bs j = rw add-one

pub checks_same : (bs : List ℕ) (j k b d c e : ℕ) → j ≡ k → b ≡ d → c ≡ e → Passes (span_checks bs j b c) → Passes (span_checks bs k d e)
checks_same bs j k b d c e p q r h =
    subst (λ (x : ℕ). Passes (span_checks bs x d e)) p
    (subst (λ (x : ℕ). Passes (span_checks bs j x e)) q
    (subst (λ (x : ℕ). Passes (span_checks bs j b x)) r h))

-- a span that passes
pub span_parts : (bs : List ℕ) (j b c : ℕ) → Passes (span_checks bs j b c) → (b ≤ span_from bs j) × (1 ≤ span_len bs j) × (span_end bs j ≤ size_in bs) × (span_first bs j ≡ c)
span_parts bs j b c h =
    let p = and_parts (nat_le 1 (span_len bs j)) (nat_le (span_end bs j) (size_in bs)) h.1.0 in
    (leb-true _ _ h.0, leb-true _ _ p.0, leb-true _ _ p.1, eqb-true _ _ h.1.1)

-- a frame that passes
pub frame_parts : (bs : List ℕ) → Passes (sparse_frame bs) → (1 ≤ size_in bs) × (size_in bs ≤ 256) × (spans_in bs ≤ 65536) × (points_at bs ≤ length bs)
frame_parts bs h =
    let p = and_parts (nat_le 1 (size_in bs)) (nat_le (size_in bs) 256) h.0.1.1 in
    (leb-true _ _ p.0, leb-true _ _ p.1, leb-true _ _ h.1.0, leb-true _ _ h.1.1)

-- a row that ends well ends at most at the span count, and the last one there
ends : (n i end spans : ℕ) → ends_well n i end spans ≡ true → (end ≤ spans) × (i + 1 ≡ n → end ≡ spans)
ends n i end spans h =
    elim (cases_Bool (i + 1 == n)) [
      | inl t ↦ (let e : end ≡ spans = eqb-true _ _ (sym (cond-true (i + 1 == n) (end == spans) (nat_le end spans) t) ∙ h) in (omega arith, λ l. e))
      | inr t ↦ (
        leb-true _ _ (sym (cond-false (i + 1 == n) (end == spans) (nat_le end spans) t) ∙ h),
        λ l. let z : ◌≡◌ {A = ℕ} 0 1 = cc (eq-eqb (i + 1) n l) in absurd (omega arith),
      )
    ]

module _ (bs : List ℕ) (rows : Passes (sparse_rows bs)) where
  pub row_from_lem : (i : ℕ) → i < size_in bs → row_from bs i ≡ end_before bs i
  row_from_lem i h = eqb-true _ _ (rows i h).0

  pub row_end_lem : (i : ℕ) → i < size_in bs → row_end bs i ≤ spans_in bs
  row_end_lem i h = (ends (size_in bs) i (row_end bs i) (spans_in bs) (rows i h).1).0

  pub last_end : 1 ≤ size_in bs → end_before bs (size_in bs) ≡ spans_in bs
  last_end h = go (size_in bs) h (λ i l. (ends (size_in bs) i (row_end bs i) (spans_in bs) (rows i (omega arith)).1).1 l)
    where
      go : (n : ℕ) → 1 ≤ n → ((i : ℕ) → i + 1 ≡ n → row_end bs i ≡ spans_in bs) → end_before bs n ≡ spans_in bs
      go zero l f = absurd (omega arith)
      go (suc i) l f = f i (omega arith)
