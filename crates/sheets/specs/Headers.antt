-- The header that every sheet begins with, and points as they stand in a sheet.
use Rattle.std.specs.Prelude.{ℕ, ◌+◌, ◌*◌, Bool, ◌&&◌, List, length, ℤ, pos, neg_ℤ, ◌==◌, int_le, nat_le}
use Rattle.std.specs.Int.{w32}
use Rattle.std.proofs.Common.{to_z}
use Rattle.fault.specs.declared.causes.Cause.{Cause}
use Rattle.fault.specs.declared.causes.Cause.TheVariants.{Length, Size, Kind, Points}
use Rattle.fault.specs.declared.layers.Layer.TheVariants.{Sheet}
use Rattle.fault.specs.declared.faults.Fault.{Fault}
use Rattle.fault.specs.Faults.{at_byte}
use Rattle.fault.specs.Checks.{Checks, test, each, ◌then◌}
use Rattle.points.specs.Limits.{size_limit}
use Rattle.sheets.specs.Bytes.{le16, le32}

-- the header's fields: how many runs and seats, the kind of sheet, and how many spans it has
abbrev pub size_in : List ℕ → ℕ
size_in bs = le16 bs 0

abbrev pub kind_in : List ℕ → ℕ
kind_in bs = le16 bs 2

abbrev pub spans_in : List ℕ → ℕ
spans_in bs = le32 bs 4

-- points lie from -top to top
abbrev pub sheet_top : ℕ
sheet_top = 1000000

-- a sheet's fault names a byte
abbrev pub sheet_fault : Cause → ℕ → Fault
sheet_fault c b = at_byte Sheet c b

-- 8 bytes of header, the kind, and a size from 1 to the limit
abbrev pub header_checks : ℕ → List ℕ → Checks
header_checks kind bs =
    test (nat_le 8 (length bs)) (sheet_fault Length (length bs))
    then test (kind_in bs == kind) (sheet_fault Kind 2)
    then test (nat_le 1 (size_in bs) && nat_le (size_in bs) size_limit) (sheet_fault Size 0)

-- the points that a word of 32 bits stands for
abbrev pub signed32 : ℕ → ℤ
signed32 w = to_z w32 w

-- a word is points in range
abbrev pub in_range : ℕ → Bool
in_range w = int_le (neg_ℤ (pos sheet_top)) (signed32 w) && int_le (signed32 w) (pos sheet_top)

-- the word that marks a pair that is not allowed: the bits of the least i32
abbrev pub absent : ℕ
absent = 2147483648

-- words one after the other, from a byte on, each of which is taken
abbrev pub word_checks : (ℕ → Bool) → List ℕ → ℕ → ℕ → Checks
word_checks takes bs from count = each count (λ k. test (takes (le32 bs (from + 4 * k))) (sheet_fault Points (from + 4 * k)))
