use Rattle.fault.proofs.Once.{apart, single, computed}
use Rattle.fault.proofs.theorems.checks_answer_once.Goals as goal

pub returns : goal.returns
returns c = record { apart = apart; single = single; computed = computed }
