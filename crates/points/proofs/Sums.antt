-- Sums over the numbers below n, and injections.
use Rattle.std.proofs.Common.{◌≡◌, ℕ, zero, suc, ◌+◌, ◌-◌, ◌*◌, ◌<◌, ◌≤◌, ◌≢◌, sym, refl, ap, ◌∙◌, subst, ap₂, arith}
use native.Mathlib.Decide.{ℕ_discrete}
use Rattle.points.specs.Sums.{sum}

-- g, but 0 at j
without : (j k : ℕ) → ℕ → Dec (k ≡ j) → ℕ
without j k x (yes e) = 0
without j k x (no e) = x

except : ℕ → (ℕ → ℕ) → ℕ → ℕ
except j g k = without j k (g k) (ℕ_discrete k j)

without_other : (j k x : ℕ) (d : Dec (k ≡ j)) → k ≢ j → without j k x d ≡ x
unfolding without
without_other j k x (yes e) h = absurd (h e)
without_other j k x (no e) h = refl

without_same : (j k x : ℕ) (d : Dec (k ≡ j)) → k ≡ j → without j k x d ≡ 0
unfolding without
without_same j k x (yes e) h = refl
without_same j k x (no e) h = absurd (e h)

except_other : (j : ℕ) (g : ℕ → ℕ) (k : ℕ) → k ≢ j → except j g k ≡ g k
unfolding except
except_other j g k h = without_other j k (g k) (ℕ_discrete k j) h

except_same : (j : ℕ) (g : ℕ → ℕ) → except j g j ≡ 0
unfolding except
except_same j g = without_same j j (g j) (ℕ_discrete j j) refl

pub sum_same : (n : ℕ) (f g : ℕ → ℕ) → ((k : ℕ) → k < n → f k ≡ g k) → sum n f ≡ sum n g
unfolding sum
sum_same zero f g h = refl
sum_same (suc n) f g h = ap₂ ◌+◌ (sum_same n f g (λ k l. h k (omega arith))) (h n (omega arith))

pub sum_le : (n : ℕ) (f g : ℕ → ℕ) → ((k : ℕ) → k < n → f k ≤ g k) → sum n f ≤ sum n g
unfolding sum
sum_le zero f g h = omega arith
sum_le (suc n) f g h = omega (arith, sum_le n f g (λ k l. h k (omega arith)), h n (omega arith))

pub sum_add : (n : ℕ) (f g : ℕ → ℕ) → sum n (λ k. f k + g k) ≡ sum n f + sum n g
unfolding sum
sum_add zero f g = refl
sum_add (suc n) f g = omega (arith, sum_add n f g)

pub sum_const : (n c : ℕ) → sum n (λ k. c) ≡ n * c
unfolding sum
sum_const zero c = omega arith
sum_const (suc n) c = omega (arith, sum_const n c)

-- one place taken out of a sum
sum_except : (n j : ℕ) (g : ℕ → ℕ) → j < n → sum n (except j g) + g j ≡ sum n g
unfolding sum
sum_except zero j g h = absurd (omega arith)
sum_except (suc n) j g h = go (λ l. sum_except n j g l) (ℕ_discrete j n)
  where
    go : (j < n → sum n (except j g) + g j ≡ sum n g) → Dec (j ≡ n) → sum (suc n) (except j g) + g j ≡ sum (suc n) g
    go ih (yes e) =
        omega (
          arith,
          sum_same n (except j g) g (λ k l. except_other j g k (omega arith)),
          ap (except j g) (sym e) ∙ except_same j g,
          ap g e,
        )
    go ih (no d) = omega (arith, ih (omega arith), except_other j g n (λ e. d (sym e)))

-- over an injection into the numbers below m a sum is at most the whole one
pub injected_le : (n m : ℕ) (f g : ℕ → ℕ) → ((i : ℕ) → i < n → f i < m) → ((i j : ℕ) → i < n → j < n → f i ≡ f j → i ≡ j) → sum n (λ i. g (f i)) ≤ sum m g
unfolding sum
injected_le zero m f g low apart = omega arith
injected_le (suc n) m f g low apart =
    omega (
      arith,
      injected_le n m f (except (f n) g) (λ i l. low i (omega arith)) (λ i j k l. apart i j (omega arith) (omega arith)),
      sum_same n (λ i. except (f n) g (f i)) (λ i. g (f i)) (λ i l. except_other (f n) g (f i) (λ e. omega (arith, apart i n (omega arith) (omega arith) e))),
      sum_except m (f n) g (low n (omega arith)),
    )

-- no injection into fewer numbers
pub pigeonhole : (n m : ℕ) (f : ℕ → ℕ) → ((i : ℕ) → i < n → f i < m) → ((i j : ℕ) → i < n → j < n → f i ≡ f j → i ≡ j) → n ≤ m
pigeonhole n m f low apart = omega (arith, injected_le n m f (λ k. 1) low apart, sum_const n 1, sum_const m 1)

-- every value below n is at most the sum
pub at_most_sum : (n : ℕ) (f : ℕ → ℕ) (k : ℕ) → k < n → f k ≤ sum n f
at_most_sum n f k h = omega (arith, sum_except n k f h)

-- a permutation leaves a sum alike
pub permuted : (n : ℕ) (f g : ℕ → ℕ) → ((i : ℕ) → i < n → f i < n) → ((i j : ℕ) → i < n → j < n → f i ≡ f j → i ≡ j) → sum n (λ i. g (f i)) ≡ sum n g
permuted n f g low apart =
    omega (
      arith,
      injected_le n n f g low apart,
      injected_le n n f (λ k. sum n g - g k) low apart,
      sum_add n (λ i. g (f i)) (λ i. sum n g - g (f i)),
      sum_add n g (λ k. sum n g - g k),
      sum_same n (λ i. g (f i) + (sum n g - g (f i))) (λ i. sum n g) (λ i l. omega (arith, at_most_sum n g (f i) (low i l))),
      sum_same n (λ k. g k + (sum n g - g k)) (λ k. sum n g) (λ k l. omega (arith, at_most_sum n g k l)),
    )

-- a sum of which one term changes
pub sum_set : (n j : ℕ) (f g : ℕ → ℕ) → j < n → ((k : ℕ) → k ≢ j → g k ≡ f k) → sum n g + f j ≡ sum n f + g j
sum_set n j f g h same = omega (arith, sum_except n j f h, sum_except n j g h, sum_same n (except j g) (except j f) (λ k l. step k (ℕ_discrete k j)))
  where
    step : (k : ℕ) → Dec (k ≡ j) → except j g k ≡ except j f k
    step k (yes e) = subst (λ (z : ℕ). except j g z ≡ except j f z) (sym e) (except_same j g ∙ sym (except_same j f))
    step k (no d) = except_other j g k d ∙ same k d ∙ sym (except_other j f k d)

pub sum_at_most : (n c : ℕ) (f : ℕ → ℕ) → ((k : ℕ) → k < n → f k ≤ c) → sum n f ≤ n * c
sum_at_most n c f h = omega (arith, sum_le n f (λ k. c) h, sum_const n c)
