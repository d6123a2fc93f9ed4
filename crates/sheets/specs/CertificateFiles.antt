-- Certificate files: the seats of n runs, two bytes each, and then the prices of n seats, eight bytes each.
use Rattle.std.specs.Prelude.{◌≡◌, ℕ, ◌+◌, ◌*◌, ◌%◌, ◌<◌, List, length, vec_items, slice_index_or}
use Rattle.sheets.specs.declared.certificate_files.Certificate.{Certificate}
use Rattle.sheets.specs.declared.certificate_files.Unreadable.{Unreadable}
use Rattle.sheets.specs.declared.certificate_files.Unreadable.TheVariants.{Length, Memory}
use Rattle.sheets.specs.Bytes.{le16, le64}

-- a list of the first m values that f gives
pub record Reads {X : Type 0} (f : ℕ → X) (m : ℕ) (xs : List X) : Type 0 where
  pub long : length xs ≡ m
  pub each : (i : ℕ) (d : X) → i < m → slice_index_or xs i d ≡ f i

-- the first m seats of a file
abbrev pub SeatsIn : List ℕ → ℕ → List ℕ → Type 0
SeatsIn bs m seats = Reads (λ i. le16 bs (2 * i)) m seats

-- the first m prices of a file, from a byte on
abbrev pub PricesIn : List ℕ → ℕ → ℕ → List ℕ → Type 0
PricesIn bs from m prices = Reads (λ k. le64 bs (from + 8 * k)) m prices

-- the certificate that a file of 10 bytes for each run holds
pub record Holds (bs : List ℕ) (c : Certificate) : Type 0 where
  pub size : ℕ
  pub long : length bs ≡ 10 * size
  pub seats : SeatsIn bs size (vec_items c.seats)
  pub prices : PricesIn bs (2 * size) size (vec_items c.prices)

-- why a file is not read: its length is no multiple of 10, or there is no memory for what it holds
abbrev pub Unread : List ℕ → Unreadable → Type 0
Unread bs Length = length bs % 10 ≡ 0 → ⊥
Unread bs Memory = length bs % 10 ≡ 0
