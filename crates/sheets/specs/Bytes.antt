-- Little-endian numbers in a list of bytes; past its end a byte counts as 0.
use Rattle.std.specs.Prelude.{ℕ, ◌+◌, ◌*◌, List, slice_index}

unfoldable pub le16 : List ℕ → ℕ → ℕ
le16 bs at = slice_index bs at + slice_index bs (at + 1) * 256

unfoldable pub le32 : List ℕ → ℕ → ℕ
le32 bs at = slice_index bs at + slice_index bs (at + 1) * 256 + slice_index bs (at + 2) * 65536 + slice_index bs (at + 3) * 16777216

unfoldable pub le64 : List ℕ → ℕ → ℕ
le64 bs at = le32 bs at + le32 bs (at + 4) * 4294967296
