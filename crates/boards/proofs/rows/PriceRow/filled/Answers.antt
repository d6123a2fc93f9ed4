use Rattle.std.proofs.Common.{replicate}
use lib.ListN.{length-replicate}
use Rattle.std.proofs.lemmas.List.{get_or-replicate, get_or_past}
use Rattle.boards.proofs.rows.PriceRow.filled.Goals as goal

pub returns : goal.returns
returns c = record {
  inside = λ k h. get_or-replicate 256 k c.args.x 0 h;
  past = λ k h. get_or_past (replicate 256 c.args.x) k 0 (simp length-replicate h);
}
