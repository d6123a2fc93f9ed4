use Rattle.std.proofs.Common.{◌≡◌, ◌+◌, ◌≤◌, sym, ap, ◌∙◌, add_assoc, add-one, arith, below_more}
use Rattle.fault.specs.Checks.{Passes}
use Rattle.sheets.specs.Sparse.{row_from, span_from, span_len, span_end, seats_before, covered_before, span_checks}
use Rattle.sheets.specs.Headers.{size_in}
use Rattle.sheets.specs.Covered.{covered_more, checks_same, span_parts}
use Rattle.sheets.proofs.frames.Frame.check_row_spans.Goals as goal

pub loop-place-preserved : goal.loop-place-preserved
loop-place-preserved c =
    let bs = c.args.self.now.bytes.now in
    let i = c.args.run in
    let d = c.loop-place.place in
    let j = row_from bs i + d in
    let got = c.in_ok-span.ensures in
    let at : c.row-row.result.from + d ≡ j = omega arith in
    let here : Passes (span_checks bs j (seats_before bs i d) (covered_before bs j)) = checks_same bs _ j _ _ _ _ at c.loop-place.invariant.1 c.loop-place.invariant.2 got.0 in
    let len : c.in_ok-span.span.len ≡ span_len bs j = got.2 ∙ ap (span_len bs) at in
    let from : c.in_ok-span.span.from ≡ span_from bs j = got.1 ∙ ap (span_from bs) at in
    let more : covered_before bs (row_from bs i + (d + 1)) ≡ covered_before bs j + span_len bs j = ap (covered_before bs) (sym (add_assoc (row_from bs i) d 1)) ∙ covered_more bs j in
    let small : span_end bs j ≤ size_in bs = (span_parts bs j (seats_before bs i d) (covered_before bs j) here).2 in (
      below_more (λ k. Passes (span_checks bs (row_from bs i + k) (seats_before bs i k) (covered_before bs (row_from bs i + k)))) d c.loop-place.invariant.0 here,
      rw add-one (omega arith),
      omega arith,
      omega arith,
    )
