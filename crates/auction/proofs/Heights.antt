-- The highest price, as a computation.
use Rattle.std.proofs.Common.{◌≡◌, ℕ, zero, suc, ◌<◌, ◌≤◌, Bool, true, false, cond, leb, ◌⊎◌, sym, refl, ap, ◌∙◌, inl, inr, arith}
use Rattle.std.proofs.lemmas.Bool.{leb-true, leb-false, cases_eq}
use Rattle.auction.specs.Events.{Highest}

-- the greater of two numbers
abbrev pub greater : ℕ → ℕ → ℕ
greater a b = cond (leb a b) b a

greater_is : (a b : ℕ) → (a ≤ greater a b) × (b ≤ greater a b) × ((greater a b ≡ a) ⊎ (greater a b ≡ b))
greater_is a b = go (leb a b) refl
  where
    go : (c : Bool) → leb a b ≡ c → (a ≤ cond c b a) × (b ≤ cond c b a) × ((cond c b a ≡ a) ⊎ (cond c b a ≡ b))
    go true e = (leb-true a b e, omega arith, inr refl)
    go false e = (omega arith, omega (arith, leb-false a b e), inl refl)

-- the highest of the first n prices
abbrev pub highest : (ℕ → ℕ) → ℕ → ℕ
highest q zero = 0
highest q (suc n) = greater (highest q n) (q n)

highest_over : (q : ℕ → ℕ) (n k : ℕ) → k < n → q k ≤ highest q n
highest_over q zero k h = absurd (omega arith)
highest_over q (suc n) k h = go (highest_over q n k) (cases_eq k n)
  where
    go : (k < n → q k ≤ highest q n) → (k ≡ n) ⊎ (k ≡ n → ⊥) → q k ≤ highest q (suc n)
    go ih (inl e) = omega (arith, (greater_is (highest q n) (q n)).1, ap q e)
    go ih (inr c) = omega (arith, (greater_is (highest q n) (q n)).0, ih (omega arith))

highest_reached : (q : ℕ → ℕ) (n : ℕ) → (k : ℕ) × (k < suc n) × (q k ≡ highest q (suc n))
highest_reached q zero = (0, omega arith, elim (greater_is 0 (q 0)).2 [ inl e ↦ omega (arith, (greater_is 0 (q 0)).1) | inr e ↦ sym e ])
highest_reached q (suc n) = go (highest_reached q n) (greater_is (highest q (suc n)) (q (suc n))).2
  where
    go : ((k : ℕ) × (k < suc n) × (q k ≡ highest q (suc n))) → (highest q (suc (suc n)) ≡ highest q (suc n)) ⊎ (highest q (suc (suc n)) ≡ q (suc n)) → (k : ℕ) × (k < suc (suc n)) × (q k ≡ highest q (suc (suc n)))
    go (k, h, e) (inl f) = (k, omega arith, e ∙ sym f)
    go ih (inr f) = (suc n, omega arith, sym f)

pub highest_is : (q : ℕ → ℕ) (n : ℕ) → 0 < n → Highest n q (highest q n)
highest_is q zero h = absurd (omega arith)
highest_is q (suc n) h = record { over = highest_over q (suc n); reached = highest_reached q n }
