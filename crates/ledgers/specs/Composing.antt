-- What composing a bid answers, and what it makes of the book.
use Rattle.std.specs.Prelude.{◌≡◌, ℕ, ◌⊎◌, None, Option, Result, MatchResult, ◌==◌}
use Rattle.fault.specs.declared.causes.Cause.TheVariants.{Size, NoFullPlan}
use Rattle.fault.specs.declared.faults.Fault.{Fault}
use Rattle.fault.specs.Checks.{Checks, test, ◌then◌, Passes, Refuses}
use Rattle.points.specs.Tables.{Table}
use Rattle.auction.specs.Events.{Composed, Marked}
use Rattle.bidding.specs.declared.sought.Offer.{Offer}
use Rattle.bidding.specs.Searches.{Composes}
use Rattle.ledgers.specs.declared.books.Book.{Book}
use Rattle.ledgers.specs.Ledgers.{view_of}
use Rattle.ledgers.specs.Refusals.{phase_fault, run_fault, compose_checks}

-- over a source of n runs: it has as many as the auction, and run i may bid
abbrev pub composing_checks : ℕ → Book → ℕ → Checks
composing_checks n b i = test (n == b.conditions.size) (phase_fault b Size None None) then compose_checks b i

-- the offer is what the rules have run i bid at prices q, whatever else the board shows; there is none where it is hopeless
abbrev pub OffersIn : Table → Book → (ℕ → ℕ) → ℕ → Option Offer → Type 0
OffersIn t b q i r = (shown : ℕ → ℕ → ℕ) → Composes t (view_of b shown) q i r

-- run i's bid is composed in the market beside a board that shows these prices
pub record BidComposed (t : Table) (shown : ℕ → ℕ → ℕ) (b c : Book) (i : ℕ) (o : Offer) : Type 0 where
  pub passes : Passes (composing_checks t.size b i)
  pub same : c.conditions ≡ b.conditions
  pub event : Composed t (view_of b shown) (view_of c shown) i o.seat o.price

-- the market beside that board is marked with run i, and the fault names it
pub record RunMarked (t : Table) (shown : ℕ → ℕ → ℕ) (b c : Book) (i : ℕ) (f : Fault) : Type 0 where
  pub passes : Passes (composing_checks t.size b i)
  pub same : c.conditions ≡ b.conditions
  pub event : Marked t (view_of b shown) (view_of c shown) i
  pub fault : f ≡ run_fault b NoFullPlan i

-- the fault of the first test that fails, and the book as it was
pub record NotComposed (t : Table) (b c : Book) (i : ℕ) (f : Fault) : Type 0 where
  pub refuses : Refuses (composing_checks t.size b i) f
  pub same : c ≡ b

-- composing answers a bid, or the fault of the first test that fails, or that no full plan exists
abbrev pub Composing : Table → (ℕ → ℕ → ℕ) → Book → Book → ℕ → Result Offer Fault → Type 0
Composing t shown b c i r = MatchResult r (λ o. BidComposed t shown b c i o) (λ f. NotComposed t b c i f ⊎ RunMarked t shown b c i f)
