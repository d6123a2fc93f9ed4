-- Scaled points: their range, and how they add up.
use Rattle.std.proofs.Common.{◌≡◌, ℕ, ◌+◌, ◌*◌, ◌<◌, ◌≤◌, true, ℤ, pos, ◌+ℤ◌, neg_ℤ, ◌≤ℤ◌, is_some, Some, None, Option, refl, ap, mul-le-mul_right, mul-le-mul_left, arith, w32, SFits}
use native.Mathlib.Decide.{dec_le}
use borrow.Author.Differences.{ints, up, down, sum_is_lem}
use Rattle.points.specs.Tables.{Table, Pays, Allowed}
use Rattle.points.specs.Nets.{scaled}

-- the points of an allowed pair
pub worth : (t : Table) (i k : ℕ) → Allowed t i k → (p : ℤ) × Pays t i k p
worth t i k h = go (t.points i k) h
  where
    go : (o : Option ℤ) → is_some o ≡ true → (p : ℤ) × (o ≡ Some p)
    go (Some p) e = (p, refl)
    go None e = let q : ◌≡◌ {A = ℕ} 0 1 = cc in absurd (omega arith)

pub pays_allowed : (t : Table) (i k : ℕ) (p : ℤ) → Pays t i k p → Allowed t i k
pays_allowed t i k p e = ap is_some e

pub scaled_add : (n : ℕ) (a b : ℤ) → scaled n (a +ℤ b) ≡ scaled n a +ℤ scaled n b
unfolding scaled
scaled_add n a b = omega (arith, ints, ap (λ (x : ℕ). (n + 1) * x) (sum_is_lem a b))

pub scaled_none : (n : ℕ) → scaled n (pos 0) ≡ pos 0
unfolding scaled
scaled_none n = omega (arith, ints)

-- points from -t to t are scaled to points from -(n + 1) t to (n + 1) t
pub scaled_low : (n t : ℕ) (p : ℤ) → neg_ℤ (pos t) ≤ℤ p → neg_ℤ (pos ((n + 1) * t)) ≤ℤ scaled n p
unfolding scaled
scaled_low n t p l = let q : down p ≤ up p + t = omega (arith, ints) in omega (arith, ints, mul-le-mul_left (n + 1) q)

pub scaled_high : (n t : ℕ) (p : ℤ) → p ≤ℤ pos t → scaled n p ≤ℤ pos ((n + 1) * t)
unfolding scaled
scaled_high n t p l = let q : up p ≤ down p + t = omega (arith, ints) in omega (arith, ints, mul-le-mul_left (n + 1) q)

-- a lead of fewer scaled points than one point makes is none
small : (n x y : ℕ) → (n + 1) * x ≤ (n + 1) * y + n → x ≤ y
small n x y h = go (dec_le x y)
  where
    go : Dec (x ≤ y) → x ≤ y
    go (yes l) = l
    go (no d) = let q : y + 1 ≤ x = omega arith in absurd (omega (arith, mul-le-mul_left (n + 1) q))

pub whole : (n : ℕ) (a b : ℤ) → scaled n a ≤ℤ (scaled n b +ℤ pos n) → a ≤ℤ b
unfolding scaled
whole n a b h = let q : up a + down b ≤ up b + down a = small n (up a + down b) (up b + down a) (omega (arith, ints)) in omega (arith, ints)

-- the scaled points of any i32, at any size of 16 bits
pub scaled_fits : (n : ℕ) (p : ℤ) → n < 65536 → SFits w32 p → (neg_ℤ (pos (65536 * 2147483648)) ≤ℤ scaled n p) × (scaled n p ≤ℤ pos (65536 * 2147483648))
scaled_fits n p h f =
    let s : n + 1 ≤ 65536 = omega arith in
    let m : (n + 1) * 2147483648 ≤ 65536 * 2147483648 = mul-le-mul_right 2147483648 s in
    let low : neg_ℤ (pos 2147483648) ≤ℤ p = omega (arith, ints) in
    let high : p ≤ℤ pos 2147483648 = omega (arith, ints) in
    (omega (arith, ints, m, scaled_low n 2147483648 p low), omega (arith, ints, m, scaled_high n 2147483648 p high))

-- how a product of points, or a net, fits 64 bits
pub ruleset fits = (ints, scaled_fits)
