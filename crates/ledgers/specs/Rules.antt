-- What always holds of the parts of a book, whatever table it is about.
use Rattle.std.specs.Prelude.{◌≡◌, ℕ, ◌+◌, ◌<◌, ◌≤◌, Bool, true, false, List, [], ◌∷◌, is_some, Some, None, Option, ◌==◌, slice_index, slice_index_or}
use Rattle.ledgers.specs.declared.books.Bid.{Bid}

-- what a phase can add to the highest price at most: 256 × (2 × 257 × 1,000,000 + 1,000,000,000)
abbrev pub phase_rise : ℕ
phase_rise = 387584000000

-- how many entries there are
abbrev pub count : {A : Type 0} → List (Option A) → ℕ
count [] = 0
count (None ∷ xs) = count xs
count (Some x ∷ xs) = count xs + 1

-- every bid out is for a seat below n, at a price up to h
abbrev pub BidsFit : ℕ → ℕ → List (Option Bid) → Type 0
BidsFit n h bids = (i : ℕ) (x : Bid) → slice_index_or bids i None ≡ Some x → (x.seat < n) × (x.price ≤ h)

-- whether an entry is there and is this number
abbrev pub names : Option ℕ → ℕ → Bool
names None a = false
names (Some b) a = b == a

-- no run with a bid out holds a seat
abbrev pub Waiting : List (Option ℕ) → List (Option Bid) → Type 0
Waiting seats bids = (i : ℕ) (x : Bid) → slice_index_or bids i None ≡ Some x → is_some (slice_index_or seats i None) ≡ false

-- a list has entries only at places below n, and they are below n
abbrev pub Below : ℕ → List (Option ℕ) → Type 0
Below n xs = (a b : ℕ) → slice_index_or xs a None ≡ Some b → (a < n) × (b < n)

-- whatever one list has at a place, the other has the place there
abbrev pub Returned : List (Option ℕ) → List (Option ℕ) → Type 0
Returned xs ys = (a b : ℕ) → slice_index_or xs a None ≡ Some b → names (slice_index_or ys b None) a ≡ true

-- no number of the list is above h
abbrev pub UpTo : ℕ → List ℕ → Type 0
UpTo h xs = (k : ℕ) → slice_index xs k ≤ h
