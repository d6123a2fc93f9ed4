-- The touching spans of an example, merged.
use Rattle.std.proofs.Common.{◌≡◌, ℕ, zero, suc, ◌<◌, refl, arith}
use Rattle.sheets.specs.Bytes.{le16, le32}
use Rattle.points.specs.Sums.{sum}
use Rattle.sheets.specs.Sparse.{row_from, row_len, span_from, span_len, span_first, covered_before, point_word}
use Rattle.sheets.specs.Headers.{size_in, spans_in}
use Rattle.sheets.specs.Merging.{Merged}
use Rattle.sheets.specs.Examples.{touching, joined}

others : (r : ℕ) → r < size_in touching → (r ≡ 0 → ⊥) → row_len joined r ≡ row_len touching r
unfolding le16 le32 row_len
others zero h ne = absurd (ne refl)
others (suc zero) h ne = refl
others (suc (suc zero)) h ne = refl
others (suc (suc (suc zero))) h ne = refl
others (suc (suc (suc (suc r)))) h ne = absurd (omega arith)

points : (p : ℕ) → p < covered_before touching (spans_in touching) → point_word joined p ≡ point_word touching p
unfolding le16 le32 sum span_len
points zero h = refl
points (suc zero) h = refl
points (suc (suc zero)) h = refl
points (suc (suc (suc p))) h = absurd (omega arith)

pub joined_merged : Merged touching joined 0 0
unfolding le16 le32 sum row_from row_len span_from span_len span_first
joined_merged = record {
  size = refl;
  spans = refl;
  row = omega arith;
  low = omega arith;
  high = omega arith;
  touch = refl;
  shorter = refl;
  others = others;
  before = λ q h. absurd (omega arith);
  merged = (refl, refl);
  after = λ q l h. absurd (omega arith);
  points = points;
}
