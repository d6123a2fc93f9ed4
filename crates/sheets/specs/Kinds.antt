-- The kind that a sheet's header names, and what the sheet then has to keep and means.
use Rattle.std.specs.Prelude.{ℕ, Bool, cond, ◌&&◌, List, length, ◌==◌, nat_le}
use Rattle.fault.specs.Checks.{Checks}
use Rattle.points.specs.Tables.{Table}
use Rattle.sheets.specs.declared.kinds.Kind.{Kind}
use Rattle.sheets.specs.declared.kinds.Kind.TheVariants.{Dense, Sparse}
use Rattle.sheets.specs.Codes.{code}
use Rattle.sheets.specs.Headers.{kind_in}
use Rattle.sheets.specs.Dense.{dense_checks, dense_table}
use Rattle.sheets.specs.Sparse.{sparse_checks, sparse_table}

-- the kind field is there, and is that of a sparse sheet
abbrev pub names_sparse : List ℕ → Bool
names_sparse bs = nat_le 4 (length bs) && kind_in bs == code Sparse

-- the kind of a sheet: sparse where the header names that kind, else dense
abbrev pub kind_named : List ℕ → Kind
kind_named bs = cond (names_sparse bs) Sparse Dense

-- the rules of a sheet: those of a sparse sheet where the header names one, else those of a dense sheet
abbrev pub sheet_checks : List ℕ → Checks
sheet_checks bs = cond (names_sparse bs) (sparse_checks bs) (dense_checks bs)

-- the table that a sheet of either kind means
abbrev pub sheet_table : List ℕ → Table
sheet_table bs = cond (names_sparse bs) (sparse_table bs) (dense_table bs)
