use Rattle.cases.proofs.Worked.{worked_hold}
use Rattle.cases.proofs.theorems.worked_cases_hold.Goals as goal

pub returns : goal.returns
returns c = worked_hold
