-- The kinds of sheet, by their codes and by their names.
use Rattle.std.specs.Prelude.{ℕ, List, codes}
use Rattle.sheets.specs.declared.kinds.Kind.{Kind}
use Rattle.sheets.specs.declared.kinds.Kind.TheVariants.{Dense, Sparse}

-- the code of a kind, as headers have it
abbrev pub code : Kind → ℕ
code Dense = 0
code Sparse = 1

abbrev pub kind_name : Kind → List ℕ
kind_name Dense = codes "dense"
kind_name Sparse = codes "sparse"
