use Rattle.std.proofs.Common.{refl}
use Rattle.boards.proofs.Rising.{rises, stays_above}
use Rattle.boards.proofs.theorems.held_tellings_rise.Goals as goal

pub returns : goal.returns
returns c = record {
  rise = λ l s. rises l.held l.below.told s.climbs;
  above = λ l s i h. stays_above l.held i _ (l.below.told _) h (s.climbs _) refl;
}
