-- The cells of a dense sheet stand row by row, one after the other.
use Rattle.std.proofs.Common.{◌≡◌, ℕ, suc, ◌+◌, ◌*◌, ◌/◌, ◌%◌, ◌<◌, ◌≤◌, true, false, List, subst, ap, inl, inr, arith, mul-le-mul_left, mul-suc, mul_comm}
use Rattle.std.proofs.lemmas.Bool.{cases_lt}
use Rattle.std.proofs.lemmas.Nat.{div-add-mod', mod_below}
use Rattle.fault.specs.declared.causes.Cause.TheVariants.{Points}
use Rattle.fault.specs.declared.faults.Fault.{Fault}
use Rattle.fault.specs.Checks.{Passes, Refuses, each}
use Rattle.sheets.specs.Bytes.{le32}
use Rattle.sheets.specs.Headers.{sheet_fault, word_checks}
use Rattle.sheets.specs.Dense.{row_at, is_cell}

-- n numbers from n times j on lie below n times a later number
row_below : (n j i : ℕ) → j < i → n * j + n ≤ n * i
row_below n j i h = let a : n * suc j ≤ n * i = mul-le-mul_left n h in omega (arith, a, mul-suc n j)

module _ (bs : List ℕ) (n : ℕ) where
  pub grid_passes : Passes (word_checks is_cell bs 8 (n * n)) → Passes (each n (λ i. word_checks is_cell bs (row_at n i) n))
  grid_passes h i row k seat =
      let at : 8 + 4 * (n * i + k) ≡ row_at n i + 4 * k = omega arith in
      subst (λ (x : ℕ). is_cell (le32 bs x) ≡ true) at (h (n * i + k) (omega (arith, row_below n i n row)))

  -- the first cell that is refused is the first of its row, and no row before is refused
  pub grid_refuses : (f : Fault) → Refuses (word_checks is_cell bs 8 (n * n)) f → Refuses (each n (λ i. word_checks is_cell bs (row_at n i) n)) f
  grid_refuses f (m, low, before, bad) =
      let i = m / n in
      let k = m % n in
      let some : 0 < n = elim (cases_lt 0 n) [ inl h ↦ h | inr h ↦ (let e : n ≡ 0 = omega arith in let z : n * n ≡ 0 * n = ap (λ (x : ℕ). x * n) e in absurd (omega arith)) ] in
      let is : n * i + k ≡ m = omega (arith, div-add-mod' m n, mul_comm n i) in
      let seat : k < n = mod_below m n some in
      let row : i < n = elim (cases_lt i n) [ inl h ↦ h | inr h ↦ (let q : n * n ≤ n * i = mul-le-mul_left n h in absurd (omega arith)) ] in
      let at : 8 + 4 * m ≡ row_at n i + 4 * k = omega arith in
      let passes : (j q : ℕ) → n * j + q < m → is_cell (le32 bs (row_at n j + 4 * q)) ≡ true = λ j q h.
      let here : 8 + 4 * (n * j + q) ≡ row_at n j + 4 * q = omega arith in
      subst (λ (x : ℕ). is_cell (le32 bs x) ≡ true) here (before (n * j + q) h) in
      (i, row, λ j h q l. passes j q (omega (arith, row_below n j i h)), (k, seat, λ q l. passes i q (omega arith), subst (λ (x : ℕ). (is_cell (le32 bs x) ≡ false) × (f ≡ sheet_fault Points x)) at bad))
