-- A part of some bytes says what the bytes say there.
use Rattle.std.specs.Prelude.{◌≡◌, ℕ, ◌+◌, ◌<◌, ◌≤◌, List, take, drop, slice_index}
use Rattle.std.proofs.Common.{◌∙◌, ap, add-zero, arith}
use Rattle.std.proofs.lemmas.List.{get_or-take, get_or-drop}
use Rattle.sheets.specs.Bytes.{le16, le32, le64}

module _ (bs : List ℕ) (at n : ℕ) where
  byte_part : (i : ℕ) → i < n → slice_index (take n (drop at bs)) i ≡ slice_index bs (at + i)
  byte_part i h = get_or-take n (drop at bs) i 0 h ∙ get_or-drop at bs i 0

  -- the byte d after byte i
  later_part : (i d : ℕ) → i + d < n → slice_index (take n (drop at bs)) (i + d) ≡ slice_index bs (at + i + d)
  later_part i d h = byte_part (i + d) h ∙ ap (slice_index bs) (omega arith)

  pub le16_part : (i : ℕ) → i + 2 ≤ n → le16 (take n (drop at bs)) i ≡ le16 bs (at + i)
  unfolding le16
  le16_part i h = omega (arith, byte_part i (omega arith), later_part i 1 (omega arith))

  pub le32_part : (i : ℕ) → i + 4 ≤ n → le32 (take n (drop at bs)) i ≡ le32 bs (at + i)
  unfolding le32
  le32_part i h = omega (arith, byte_part i (omega arith), later_part i 1 (omega arith), later_part i 2 (omega arith), later_part i 3 (omega arith))

  pub le64_part : (i : ℕ) → i + 8 ≤ n → le64 (take n (drop at bs)) i ≡ le64 bs (at + i)
  unfolding le64
  le64_part i h = let e : at + (i + 4) ≡ at + i + 4 = omega arith in omega (arith, le32_part i (omega arith), le32_part (i + 4) (omega arith), ap (le32 bs) e)

-- a number depends on its bytes alone
pub le16_alone : (bs : List ℕ) (at : ℕ) → le16 (take 2 (drop at bs)) 0 ≡ le16 bs at
le16_alone bs at = le16_part bs at 2 0 (omega arith) ∙ ap (le16 bs) (add-zero at)

pub le32_alone : (bs : List ℕ) (at : ℕ) → le32 (take 4 (drop at bs)) 0 ≡ le32 bs at
le32_alone bs at = le32_part bs at 4 0 (omega arith) ∙ ap (le32 bs) (add-zero at)

pub le64_alone : (bs : List ℕ) (at : ℕ) → le64 (take 8 (drop at bs)) 0 ≡ le64 bs at
le64_alone bs at = le64_part bs at 8 0 (omega arith) ∙ ap (le64 bs) (add-zero at)
