use Rattle.std.proofs.Common.{vec_items, arith}
use Rattle.sheets.proofs.Kept.{seen_passes}
use Rattle.sheets.proofs.sheet.SheetRowSource.next.Goals as goal

pub next-requires-clause-passes : goal.next-requires-clause-passes
next-requires-clause-passes g c = let s = c.args.self.now in seen_passes g.K.Layout.checks (vec_items s.bytes) _ c.args.run s.keeps (omega (arith, s.sized)) c.deref.ensures.value
