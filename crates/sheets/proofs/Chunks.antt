-- Bytes cut into parts of one length.
use Rattle.std.proofs.Common.{◌≡◌, ℕ, zero, suc, ◌+◌, ◌-◌, ◌*◌, ◌/◌, ◌<◌, ◌≤◌, List, length, take, drop, slice_index_or, sym, ap, ◌∙◌, mul-suc, arith}
use Rattle.std.specs.Simd.{first_chunks}
use Rattle.std.proofs.lemmas.List.{length-take-le, length-drop, take-take, drop-take, drop-drop}
use Rattle.std.proofs.lemmas.Nat.{div-mul-add}

-- a part of a part
pub part_of_part : (bs : List ℕ) (from m at n : ℕ) → at + n ≤ m → take n (drop at (take m (drop from bs))) ≡ take n (drop (from + at) bs)
part_of_part bs from m at n h =
    let e : at + (m - at) ≡ m = omega arith in
    let l : n ≤ m - at = omega arith in
    ap (λ (k : ℕ). take n (drop at (take k (drop from bs)))) (sym e)
    ∙ ap (take n) (drop-take at (m - at) (drop from bs))
    ∙ take-take n (m - at) (drop at (drop from bs)) l
    ∙ ap (take n) (drop-drop at from bs)

-- the parts of n times w bytes
module _ (bs rest : List ℕ) (from w n size : ℕ) (is : rest ≡ take (w * n) (drop from bs)) (one : size ≡ w) (room : from + w * n ≤ length bs) where
  long : length rest ≡ n * w
  long = let h : w * n ≤ length (drop from bs) = omega (arith, length-drop from bs) in ap length is ∙ length-take-le (w * n) (drop from bs) h ∙ omega arith

  pub parts : 0 < w → length rest / size ≡ n
  parts some = let e : n * w ≡ n * w + 0 = omega arith in ap (λ (k : ℕ). k / size) long ∙ ap (λ (k : ℕ). n * w / k) one ∙ ap (λ (k : ℕ). k / w) e ∙ div-mul-add n w 0 some

  pub part : (i : ℕ) (x : List ℕ) → i * size + size ≤ length rest → x ≡ take size (drop (i * size) rest) → x ≡ take w (drop (from + w * i) bs)
  part i x h e =
      let at : i * size ≡ w * i = ap (λ (k : ℕ). i * k) one ∙ omega arith in
      let fits : w * i + w ≤ w * n = omega (arith, long, at) in
      e
      ∙ ap (λ (k : ℕ). take k (drop (i * size) rest)) one
      ∙ ap (λ (k : ℕ). take w (drop k rest)) at
      ∙ ap (λ (l : List ℕ). take w (drop (w * i) l)) is
      ∙ part_of_part bs from (w * n) (w * i) w fits

-- the chunks of n of the first bytes
pub chunk_at : (n count : ℕ) (bs : List ℕ) (i : ℕ) (z : List ℕ) → i < count → slice_index_or (first_chunks n count bs) i z ≡ take n (drop (n * i) bs)
chunk_at n zero bs i z h = absurd (omega arith)
chunk_at n (suc count) bs zero z h = let e : n * zero ≡ 0 = omega arith in ap (λ (k : ℕ). take n (drop k bs)) (sym e)
chunk_at n (suc count) bs (suc i) z h =
    let e : n + n * i ≡ n * suc i = omega (arith, mul-suc n i) in
    chunk_at n count (drop n bs) i z (omega arith) ∙ ap (take n) (drop-drop (n * i) n bs) ∙ ap (λ (k : ℕ). take n (drop k bs)) e
