-- How a delivered bid comes out, in the market's words.
use Rattle.std.specs.Prelude.{ℕ}
use Rattle.ledgers.specs.declared.books.Book.{Book}
use Rattle.ledgers.specs.declared.deliveries.Delivery.{Delivery}
use Rattle.ledgers.specs.declared.deliveries.Delivery.TheVariants.{Accepted, Outbid}
use Rattle.ledgers.specs.Ledgers.{Lands, Outbids}

-- run i's bid lands, or is outbid at the seat's price
abbrev pub Delivers : Book → Book → ℕ → Delivery → Type 0
Delivers b c i (Accepted x) = Lands b c i x.seat x.price x.displaced
Delivers b c i (Outbid k p) = Outbids b c i k p
