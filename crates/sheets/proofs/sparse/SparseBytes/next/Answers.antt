use Rattle.std.proofs.Common.{◌≡◌, ℕ, ◌<◌, ◌≤◌, max, is_some, ap, arith}
use Rattle.sheets.specs.Headers.{size_in}
use Rattle.sheets.specs.Sparse.{span_from, span_len}
use Rattle.sheets.specs.Finds.{span_fields, passed_none, gap_none, over_some}
use Rattle.sheets.proofs.Searches.{rules_of}
use Rattle.sheets.proofs.sparse.SparseBytes.next.Goals as goal

pub returns-in_err-span : goal.returns-in_err-span
returns-in_err-span c =
    let bs = c.args.self.now.frame.bytes.now in
    let ok = rules_of c.args.self.now in
    let run : c.args.run < size_in bs = omega arith in
    rw c.from_residual.ensures (λ k h. passed_none bs ok.1.1.0 c.args.run run k c.args.from h c.in_err-span.ensures)

pub returns : goal.returns
returns c =
    let bs = c.args.self.now.frame.bytes.now in
    let ok = rules_of c.args.self.now in
    let run : c.args.run < size_in bs = omega arith in
    let spans = ok.1.1.0 in
    let j : ℕ = c.in_ok-span.ensures.0 in
    let f = c.in_ok-span.ensures.1 in
    let s : c.reached.result ≡ max c.args.from (span_from bs j) = omega (arith, f.from) in
    let one : 1 ≤ span_len bs j = (span_fields bs spans c.args.run run j f.low f.high).0 in
    let at = over_some bs spans c.args.run run c.args.from j f.low f.high f.before c.reached.result (omega arith) (omega arith) (omega (arith, f.over)) in
    (omega arith, ap is_some at, λ k a b. gap_none bs spans c.args.run run c.args.from j f.low f.high f.before k a (omega arith))
