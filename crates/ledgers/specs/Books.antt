-- The parts of a book, and the book of an auction that starts.
use Rattle.std.specs.Prelude.{◌≡◌, ℕ, ◌+◌, ◌-◌, ◌<◌, true, false, List, length, take, replicate, is_some, Some, None, Option, MatchOption, slice_index, slice_index_or, slice_set}
use Rattle.points.specs.Limits.{size_limit}
use Rattle.ledgers.specs.declared.books.Bid.{Bid}
use Rattle.ledgers.specs.declared.books.Book.{Book}
use Rattle.ledgers.specs.declared.books.Conditions.{Conditions}
use Rattle.ledgers.specs.declared.books.Counts.{Counts}

abbrev pub price_at : Book → ℕ → ℕ
price_at b k = slice_index b.prices.prices k

abbrev pub seat_at : Book → ℕ → Option ℕ
seat_at b i = slice_index_or b.seats i None

abbrev pub holder_at : Book → ℕ → Option ℕ
holder_at b k = slice_index_or b.holders k None

abbrev pub bid_at : Book → ℕ → Option Bid
bid_at b i = slice_index_or b.bids i None

-- the increment of the phase
abbrev pub increment_of : Book → ℕ
increment_of b = slice_index b.conditions.increments (b.phase - 1)

-- the increments that count
abbrev pub ladder_of : Book → List ℕ
ladder_of b = take b.conditions.phases b.conditions.increments

-- the seats of the runs once the run displaced, if any, is free
abbrev pub freed : List (Option ℕ) → Option ℕ → List (Option ℕ)
freed seats None = seats
freed seats (Some r) = slice_set seats r None

-- how many runs hold a seat once one more does and the run displaced, if any, does not
abbrev pub seated_after : ℕ → Option ℕ → ℕ
seated_after n None = n + 1
seated_after n (Some r) = n

-- the first place of a list that has no entry, or nothing where each has one
abbrev pub FirstNone : List (Option ℕ) → Option ℕ → Type 0
FirstNone xs o = MatchOption o
    ((k : ℕ) → k < length xs → is_some (slice_index_or xs k None) ≡ true)
    (λ i. (i < length xs) × (is_some (slice_index_or xs i None) ≡ false) × ((k : ℕ) → k < i → is_some (slice_index_or xs k None) ≡ true))

-- one bid more is outbid or recalled, and no other count changes
pub record Ends (c d : Counts) : Type 0 where
  pub composed : d.composed ≡ c.composed
  pub accepted : d.accepted ≡ c.accepted
  pub one : d.outbid + d.recalled ≡ c.outbid + c.recalled + 1
  pub phase : d.phase_accepted ≡ c.phase_accepted

-- run i's bid is out no more, and is counted so
abbrev pub dropped : Book → ℕ → Counts → Book
dropped b i c = record b { bids = slice_set b.bids i None; counts = c }

-- the book once the next phase has begun, and h is the highest price
abbrev pub advanced : Book → ℕ → Book
advanced b h = record b {
  phase = b.phase + 1;
  high = h;
  seats = replicate size_limit None;
  holders = replicate size_limit None;
  seated = 0;
  counts = record b.counts { phase_accepted = 0 };
}

-- the book of an auction that starts
abbrev pub blank : Conditions → Book
blank c = record {
  conditions = c;
  phase = 1;
  high = 0;
  prices = record { prices = replicate size_limit 0 };
  seats = replicate size_limit None;
  holders = replicate size_limit None;
  seated = 0;
  bids = replicate size_limit None;
  mark = None;
  counts = record { composed = 0; accepted = 0; outbid = 0; recalled = 0; phase_accepted = 0 };
}
