use Rattle.std.proofs.Common.{List, ℕ, vec_items, ap, ◌∙◌, subst}
use Rattle.fault.specs.Checks.{Passes}
use Rattle.fault.proofs.Once.{passes_kept}
use Rattle.sheets.specs.Headers.{size_in}
use Rattle.sheets.proofs.sheet.Sheet.read.Goals as goal

pub invariant_of-result : goal.invariant_of-result
invariant_of-result g c =
    let bs = vec_items c.args.bytes in
    let passed : Passes (g.K.Layout.checks bs) = subst (λ (l : List ℕ). Passes (g.K.Layout.checks l)) c.deref.ensures.value c.in_ok-size.ensures.0 in
    record { sized = c.in_ok-size.ensures.1 ∙ ap size_in c.deref.ensures.value; keeps = (λ h. passes_kept (g.K.Layout.checks bs) passed) }
