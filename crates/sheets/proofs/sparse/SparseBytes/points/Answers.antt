use Rattle.std.proofs.Common.{◌≡◌, ℕ, ◌+◌, ◌-◌, ◌<◌, ◌≤◌, leb, Some, None, sym, ap, ◌∙◌, inl, inr, arith}
use Rattle.std.proofs.lemmas.Bool.{cases_lt, cond-true, cond-false, le-leb, lt-leb}
use Rattle.sheets.specs.declared.spans.Span.{Span}
use Rattle.sheets.specs.Headers.{size_in, signed32}
use Rattle.sheets.specs.Sparse.{span_from, span_first, point_word}
use Rattle.sheets.specs.Finds.{passed_none, gap_none, over_some}
use Rattle.sheets.specs.Ranges.{point_room}
use Rattle.sheets.proofs.Searches.{rules_of}
use Rattle.sheets.proofs.sparse.SparseBytes.points.Goals as goal

pub returns-in_err-span : goal.returns-in_err-span
returns-in_err-span c =
    let bs = c.args.self.now.frame.bytes.now in
    let ok = rules_of c.args.self.now in
    let run : c.args.run < size_in bs = omega arith in
    rw c.from_residual.ensures (sym (passed_none bs ok.1.1.0 c.args.run run c.args.seat c.args.seat (omega arith) c.in_err-span.ensures))

pub point_of-requires : goal.point_of-requires
point_of-requires c =
    let bs = c.args.self.now.frame.bytes.now in
    let ok = rules_of c.args.self.now in
    let run : c.args.run < size_in bs = omega arith in
    let f = c.in_ok-span.ensures.1 in
    λ h. let from : span_from bs c.in_ok-span.ensures.0 ≤ c.args.seat = omega (arith, f.from) in
    omega (arith, f.from, f.first, point_room bs ok c.args.run c.in_ok-span.ensures.0 c.args.seat run f.low f.high from f.over)

pub returns : goal.returns
returns c =
    let bs = c.args.self.now.frame.bytes.now in
    let ok = rules_of c.args.self.now in
    let k = c.args.seat in
    let s : Span = c.in_ok-span.span in
    let run : c.args.run < size_in bs = omega arith in
    let spans = ok.1.1.0 in
    let j : ℕ = c.in_ok-span.ensures.0 in
    let f = c.in_ok-span.ensures.1 in
    let at : s.first + (k - s.from) ≡ span_first bs j + (k - span_from bs j) = omega (arith, f.from, f.first) in
    elim (cases_lt k s.from) [
      | inl h ↦ (
          c.point_of.ensures
          ∙ cond-false (leb s.from k) (Some (signed32 (point_word bs (s.first + (k - s.from))))) None (lt-leb s.from k h)
          ∙ sym (gap_none bs spans c.args.run run k j f.low f.high f.before k (omega arith) (omega (arith, f.from))))
      | inr h ↦ (
          c.point_of.ensures
          ∙ cond-true (leb s.from k) (Some (signed32 (point_word bs (s.first + (k - s.from))))) None (le-leb s.from k h)
          ∙ ap (λ (p : ℕ). Some (signed32 (point_word bs p))) at
          ∙ sym (over_some bs spans c.args.run run k j f.low f.high f.before k (omega arith) (omega (arith, f.from)) f.over))
    ]
