use Rattle.std.proofs.Common.{◌≡◌, ℕ, ◌+◌, ◌-◌, ◌*◌, ◌/◌, ◌≤◌, List, length, take, drop, slice_index_or, ap, ◌∙◌, arith}
use Rattle.sheets.specs.Headers.{size_in}
use Rattle.sheets.specs.Sparse.{row_from, row_len, span_at}
use Rattle.sheets.proofs.Chunks.{parts, part, chunk_at}
use Rattle.sheets.proofs.frames.Frame.row_spans.Goals as goal

pub returns : goal.returns
returns c =
    let bs = c.args.self.now.bytes.now in
    let j : ℕ = row_from bs c.args.run in
    let n : ℕ = row_len bs c.args.run in
    let from : ℕ = c.span_at-from.result in
    let begin : from ≡ span_at (size_in bs) j = omega arith in
    let cut : c.span_at-end.result - from ≡ 8 * n = omega arith in
    let rest : List ℕ = take (c.span_at-end.result - from) (drop from bs) in
    let is : rest ≡ take (8 * n) (drop from bs) = ap (λ (k : ℕ). take k (drop from bs)) cut in
    let one : ◌≡◌ {A = ℕ} 8 8 = omega arith in
    let room : from + 8 * n ≤ length bs = omega arith in
    let count : length rest / 8 ≡ n = parts bs rest from 8 n 8 is one room (omega arith) in
    record {
      long = c.as_chunks.ensures.front_len ∙ count;
      each = λ d z h.
          let fits : d * 8 + 8 ≤ length rest = omega (arith, ap length is, count) in
          let here : take 8 (drop (8 * d) rest) ≡ take 8 (drop (d * 8) rest) = let e : 8 * d ≡ d * 8 = omega arith in ap (λ (k : ℕ). take 8 (drop k rest)) e in
          let there : from + 8 * d ≡ span_at (size_in bs) (j + d) = omega arith in
          ap (λ (l : List (List ℕ)). slice_index_or l d z) c.as_chunks.ensures.front
          ∙ chunk_at 8 (length rest / 8) rest d z (omega (arith, count))
          ∙ part bs rest from 8 n 8 is one room d (take 8 (drop (8 * d) rest)) fits here
          ∙ ap (λ (k : ℕ). take 8 (drop k bs)) there;
    }
