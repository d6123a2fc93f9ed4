use Rattle.sheets.proofs.Merges.{merging}
use Rattle.sheets.proofs.theorems.merging_keeps_the_table.Goals as goal

pub returns : goal.returns
returns c = merging
