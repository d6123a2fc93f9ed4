use Rattle.fault.proofs.Once.{passes_kept}
use Rattle.sheets.specs.Sparse.{sparse_checks}
use Rattle.sheets.proofs.sparse.SparseBytes.new.Goals as goal

pub invariant_of-result-2 : goal.invariant_of-result-2
invariant_of-result-2 c = record { keeps = passes_kept (sparse_checks c.args.bytes.now) c.requires.passes }
