-- Of which kind a sheet of either kind is, and what it means.
use Rattle.std.specs.Prelude.{◌≡◌, vec_items, refl}
use Rattle.points.specs.Tables.{Table, Lawful}
use Rattle.sheets.specs.declared.any.AnySheet.{AnySheet}
use Rattle.sheets.specs.declared.any.AnySheet.TheVariants.{Dense, Sparse}
use Rattle.sheets.specs.declared.kinds.Kind.{Kind}
use Rattle.sheets.specs.declared.kinds.Kind.TheVariants.{Dense as DenseKind, Sparse as SparseKind}
use Rattle.sheets.specs.Headers.{sheet_top}
use Rattle.sheets.specs.Dense.{dense_table}
use Rattle.sheets.specs.Sparse.{sparse_table}
use Rattle.sheets.specs.Cells.{dense_lawful}
use Rattle.sheets.specs.Ranges.{sparse_lawful}

abbrev pub kind_of : AnySheet → Kind
kind_of (Dense s) = DenseKind
kind_of (Sparse s) = SparseKind

abbrev pub table_of : AnySheet → Table
table_of (Dense s) = dense_table (vec_items s.bytes)
table_of (Sparse s) = sparse_table (vec_items s.bytes)

pub any_topped : (s : AnySheet) → (table_of s).top ≡ sheet_top
any_topped (Dense s) = refl
any_topped (Sparse s) = refl

pub any_lawful : (s : AnySheet) → Lawful (table_of s)
any_lawful (Dense s) = dense_lawful (vec_items s.bytes) s.keeps
any_lawful (Sparse s) = sparse_lawful (vec_items s.bytes) s.keeps
