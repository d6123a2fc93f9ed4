use Rattle.std.proofs.Common.{◌<◌, arith, rules}
use Rattle.sheets.specs.Headers.{size_in}
use Rattle.sheets.specs.Covered.{row_end_lem}
use Rattle.sheets.proofs.Searches.{rules_of, answered, partitioned, found}
use Rattle.sheets.proofs.sparse.SparseBytes.first_over.Goals as goal

pub row_spans-spans-requires-clause-row : goal.row_spans-spans-requires-clause-row
row_spans-spans-requires-clause-row c =
    let bs = c.args.self.now.frame.bytes.now in
    let ok = rules_of c.args.self.now in
    let run : c.args.run < size_in bs = omega arith in
    omega (arith, row_end_lem bs ok.1.0 c.args.run run)

pub returns : goal.returns
returns c =
    let bs = c.args.self.now.frame.bytes.now in
    let ok = rules_of c.args.self.now in
    let run : c.args.run < size_in bs = omega arith in
    let seat = c.args.seat in
    let xs = c.row_spans-spans.result.now in
    let at = c.row_spans-spans.ensures in
    let p = c.seek-passed.result in
    found bs ok.1.1.0 c.args.run run seat xs at p c.seek-passed.ensures.point c.get.result c.map.result c.get.ensures.lookup.3 c.get.ensures.lookup.1 (answered c.get.result c.map.result _ _ c.map.ensures.cases (λ x s q. search rules)) c.seek-passed.ensures.bound

pub seek-passed-requires : goal.seek-passed-requires
seek-passed-requires c =
    let bs = c.args.self.now.frame.bytes.now in
    let ok = rules_of c.args.self.now in
    let run : c.args.run < size_in bs = omega arith in
    partitioned bs ok.1.1.0 c.args.run run c.args.seat c.row_spans-spans.result.now c.row_spans-spans.ensures
