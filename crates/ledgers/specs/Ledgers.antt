-- The market that a ledger stands for, and what its operations do, in the market's words.
use Rattle.std.specs.Prelude.{◌≡◌, ℕ, ◌<◌, true, false, List, ◌∷◌, drop, is_some, Some, None, Option}
use Rattle.points.specs.Tables.{Table}
use Rattle.ledgers.specs.declared.books.Bid.{Bid as Offer}
use Rattle.ledgers.specs.declared.books.Book.{Book}
use Rattle.ledgers.specs.declared.ledger.Ledger.{Ledger}
use Rattle.ledgers.specs.Books.{price_at, seat_at, bid_at, increment_of, ladder_of}
use Rattle.auction.specs.Markets.{Bid, Market, ShownBelow}
use Rattle.auction.specs.Bids.{BestBid, Hopeless}
use Rattle.auction.specs.Events.{Composed, Marked, Landed, Outbid, Recalled, Advanced}
use Rattle.auction.specs.Runs.{Opened}

-- a bid of the book as the market sees it
abbrev pub bid_of : Option Offer → Option Bid
bid_of None = None
bid_of (Some x) = Some (record { seat = x.seat; price = x.price })

-- the market of a book, beside a board that shows these prices
abbrev pub view_of : Book → (ℕ → ℕ → ℕ) → Market
view_of b shown = record {
  price = price_at b;
  seat = seat_at b;
  bid = λ i. bid_of (bid_at b i);
  shown = shown;
  mark = b.mark;
  phase = b.phase;
  increment = increment_of b;
  later = drop b.phase (ladder_of b);
  high = b.high;
  composed = b.counts.composed;
  accepted = b.counts.accepted;
  outbid = b.counts.outbid;
  recalled = b.counts.recalled;
  phase_accepted = b.counts.phase_accepted;
  allowance = b.conditions.allowance;
}

-- the market that a ledger stands for
abbrev pub market_of : Ledger → (ℕ → ℕ → ℕ) → Market
market_of l shown = view_of l.book shown

-- how many runs an auction has, and as many seats
abbrev pub size_of : Ledger → ℕ
size_of l = l.book.conditions.size

-- a board that shows 0 everywhere
abbrev pub unshown : ℕ → ℕ → ℕ
unshown i k = 0

-- the ledger of an auction of n runs that starts with this ladder and this allowance
pub record Starts (n : ℕ) (xs : List ℕ) (a : ℕ) (l : Ledger) : Type 0 where
  pub size : size_of l ≡ n
  pub opened : Opened (market_of l unshown)
  pub ladder : (market_of l unshown).increment ∷ (market_of l unshown).later ≡ xs
  pub allowance : (market_of l unshown).allowance ≡ a

-- each of the first n runs holds a seat
abbrev pub SeatedBelow : Book → ℕ → Type 0
SeatedBelow b n = (r : ℕ) → r < n → is_some (seat_at b r) ≡ true

-- the lowest run that holds no seat, or nothing where each run holds one
abbrev pub LowestFree : Book → Option ℕ → Type 0
LowestFree b (Some i) = (i < b.conditions.size) × (is_some (seat_at b i) ≡ false) × SeatedBelow b i
LowestFree b None = SeatedBelow b b.conditions.size

-- run i may bid: there is no mark, it holds no seat, it has no bid out, and the allowance is not spent
pub record Ready (b : Book) (i : ℕ) : Type 0 where
  pub low : i < b.conditions.size
  pub unmarked : b.mark ≡ None
  pub free : seat_at b i ≡ None
  pub idle : bid_at b i ≡ None
  pub unspent : b.counts.composed < b.conditions.allowance

-- run i's bid x can be delivered: it is out, and there is no mark
pub record Deliverable (b : Book) (i : ℕ) (x : Offer) : Type 0 where
  pub low : i < b.conditions.size
  pub unmarked : b.mark ≡ None
  pub out : bid_at b i ≡ Some x

-- over each table of the book's size, and beside each board, the book's change is the market's event
-- the bid of run i for seat j at price p, where that is its best, is composed
abbrev pub Composes : Book → Book → ℕ → ℕ → ℕ → Type 0
Composes b c i j p = (c.conditions ≡ b.conditions) × ((t : Table) (shown : ℕ → ℕ → ℕ) → t.size ≡ b.conditions.size → BestBid t (view_of b shown) (shown i) i j p → Composed t (view_of b shown) (view_of c shown) i j p)

-- the market is marked with run i, where its allowed seats all net less than the floor
abbrev pub Marks : Book → Book → ℕ → Type 0
Marks b c i = (c.conditions ≡ b.conditions) × ((t : Table) (shown : ℕ → ℕ → ℕ) → t.size ≡ b.conditions.size → Hopeless t (view_of b shown) (shown i) i → Marked t (view_of b shown) (view_of c shown) i)

-- run i's bid of p for seat j lands and displaces run d, if any, whatever the board shows after it that is not above the prices
abbrev pub Lands : Book → Book → ℕ → ℕ → ℕ → Option ℕ → Type 0
Lands b c i j p d = (c.conditions ≡ b.conditions) × ((t : Table) (shown shown' : ℕ → ℕ → ℕ) → t.size ≡ b.conditions.size → ShownBelow (view_of c shown') → Landed t (view_of b shown) (view_of c shown') i j p d)

-- run i's bid for seat j is outbid at price p
abbrev pub Outbids : Book → Book → ℕ → ℕ → ℕ → Type 0
Outbids b c i j p = (c.conditions ≡ b.conditions) × ((t : Table) (shown : ℕ → ℕ → ℕ) → t.size ≡ b.conditions.size → Outbid t (view_of b shown) (view_of c shown) i j p)

-- run i's bid is recalled
abbrev pub Recalls : Book → Book → ℕ → Type 0
Recalls b c i = (c.conditions ≡ b.conditions) × ((t : Table) (shown : ℕ → ℕ → ℕ) → t.size ≡ b.conditions.size → Recalled t (view_of b shown) (view_of c shown) i)

-- the next phase begins
abbrev pub Advances : Book → Book → Type 0
Advances b c = (c.conditions ≡ b.conditions) × ((t : Table) (shown : ℕ → ℕ → ℕ) → t.size ≡ b.conditions.size → Advanced t (view_of b shown) (view_of c shown))
