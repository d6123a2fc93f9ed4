use Rattle.std.proofs.Common.{rules}
use Rattle.std.proofs.lemmas.Result.{err_from_is_err_and}
use Rattle.commands.proofs.calls.check_sheet.Goals as goal

pub returns-in_err-check_plan : goal.returns-in_err-check_plan
returns-in_err-check_plan c =
    let raised = c.from_residual-in_err-check_plan in
    let p = err_from_is_err_and raised.result raised.ensures.1 in
    rw (p.1, p.2) (c.in_ok-plan.plan, c.in_ok-plan.ensures, search rules)

pub returns : goal.returns
returns c = (c.in_ok-plan.plan, c.in_ok-plan.ensures, search rules)
