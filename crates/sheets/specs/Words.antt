-- Fields of no bytes are 0, and words of points are in range.
use Rattle.std.specs.Prelude.{◌≡◌, ℕ, ◌<◌, true, List, [], ◌∷◌, length, pos, neg_ℤ, ◌≤ℤ◌, int_le, refl}
use Rattle.std.proofs.Common.{arith}
use Rattle.std.proofs.lemmas.Int.{ints}
use Rattle.std.proofs.lemmas.Bool.{and_parts}
use Rattle.sheets.specs.Bytes.{le16}
use Rattle.sheets.specs.Headers.{size_in, sheet_top, signed32, in_range}

pub empty_size : (bs : List ℕ) → length bs ≡ 0 → size_in bs ≡ 0
unfolding le16
empty_size [] e = refl
empty_size (b ∷ bs) e = absurd (omega arith)

-- bytes whose header gives a size above 0 are there
pub filled : (bs : List ℕ) (i : ℕ) → i < size_in bs → 0 < length bs
unfolding le16
filled [] i h = absurd (omega arith)
filled (b ∷ bs) i h = omega arith

-- a word in range stands for points from -top to top
pub range_bounds : (w : ℕ) → in_range w ≡ true → (neg_ℤ (pos sheet_top) ≤ℤ signed32 w) × (signed32 w ≤ℤ pos sheet_top)
range_bounds w h =
    let p = and_parts (int_le (neg_ℤ (pos sheet_top)) (signed32 w)) (int_le (signed32 w) (pos sheet_top)) h in
    (omega (arith, ints, p.0), omega (arith, ints, p.1))
