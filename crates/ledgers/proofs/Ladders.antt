-- Ladders that pass their checks, in a row that begins with them.
use Rattle.std.proofs.Common.{◌≡◌, ℕ, zero, suc, ◌+◌, ◌-◌, ◌<◌, ◌≤◌, true, eqb, leb, List, [], ◌∷◌, length, get_or, take, drop, refl, subst, ◌∙◌, get_or-take, arith}
use Rattle.std.proofs.lemmas.List.{ext_get_or, length-take-le}
use Rattle.std.proofs.lemmas.Bool.{leb-true, ltb-true, eqb-true, and_parts}
use Rattle.fault.specs.Checks.{Passes}
use Rattle.auction.specs.Limits.{phase_limit, increment_limit}
use Rattle.ledgers.specs.Refusals.{ladder_checks}
use Rattle.ledgers.specs.Rules.{UpTo}
use Rattle.auction.specs.Runs.{FallsToOne, Ladder}

pub take_copied : (xs row : List ℕ) → ((k : ℕ) → get_or row k 0 ≡ get_or xs k 0) → length xs ≤ length row → take (length xs) row ≡ xs
take_copied xs row h l =
    let long : length (take (length xs) row) ≡ length xs = length-take-le (length xs) row l in
    ext_get_or 0 (take (length xs) row) xs long (λ i w. get_or-take (length xs) row i 0 (omega (arith, long, w)) ∙ h i)

falls_from : (x : ℕ) (xs : List ℕ) → ((k : ℕ) → k < length xs → get_or (x ∷ xs) (suc k) 0 < get_or (x ∷ xs) k 0) → get_or (x ∷ xs) (length xs) 0 ≡ 1 → FallsToOne x xs
falls_from x [] h e = e
falls_from x (y ∷ ys) h e = (h 0 (omega arith), falls_from y ys (λ k l. h (suc k) (omega (arith, l))) e)

falls_most : (x : ℕ) (xs : List ℕ) → FallsToOne x xs → (k : ℕ) → get_or (x ∷ xs) k 0 ≤ x
falls_most x xs f zero = omega arith
falls_most x [] f (suc k) = omega arith
falls_most x (y ∷ ys) f (suc k) = omega (arith, f.0, falls_most y ys f.1 k)

-- a ladder that passes: its first increment, and those to come
pub record Passed (xs : List ℕ) : Type 0 where
  pub some : 1 ≤ length xs
  pub few : length xs ≤ phase_limit
  pub ladder : Ladder (get_or xs 0 0) (drop 1 xs)
  pub small : UpTo increment_limit xs
  pub whole : get_or xs 0 0 ∷ drop 1 xs ≡ xs

pub passed : (xs : List ℕ) → Passes (ladder_checks xs) → Passed xs
passed [] p = let w = and_parts (leb 1 0) (leb 0 phase_limit) p.0 in let z : ◌≤◌ 1 0 = leb-true 1 0 w.0 in absurd (omega (arith, z))
passed (x ∷ xs) p =
    let w = and_parts (leb 1 (length (x ∷ xs))) (leb (length (x ∷ xs)) phase_limit) p.0 in
    let few : length (x ∷ xs) ≤ phase_limit = leb-true (length (x ∷ xs)) phase_limit w.1 in
    let low : x ≤ increment_limit = leb-true x increment_limit p.1.0 in
    let falls : FallsToOne x xs = falls_from x xs (λ k l. let q : k + 1 ≡ suc k = omega arith in subst (λ (n : ℕ). get_or (x ∷ xs) n 0 < get_or (x ∷ xs) k 0) q (ltb-true (get_or (x ∷ xs) (k + 1) 0) (get_or (x ∷ xs) k 0) (p.1.1.0 k (omega (arith, l))))) (let d : length (x ∷ xs) - 1 ≡ length xs = omega arith in eqb-true (get_or (x ∷ xs) (length xs) 0) 1 (subst (λ (n : ℕ). eqb (get_or (x ∷ xs) n 0) 1 ≡ true) d p.1.1.1)) in
    record {
      some = omega arith;
      few = few;
      ladder = record { falls = falls; few = omega (arith, few); small = low };
      small = λ k. omega (arith, falls_most x xs falls k, low);
      whole = refl;
    }
