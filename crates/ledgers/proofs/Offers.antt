-- The bid that a search finds fits the book.
use Rattle.std.proofs.Common.{◌≡◌, ℕ, ◌+◌, ◌-◌, ◌*◌, ◌<◌, ◌≤◌, mul-le-mul, arith}
use Rattle.points.specs.Limits.{size_limit, top_limit}
use Rattle.points.specs.Tables.{Table, Lawful}
use Rattle.auction.specs.Limits.{increment_limit}
use Rattle.auction.specs.Markets.{Market}
use Rattle.auction.specs.Bids.{ceiling, cap, BestBid}
use Rattle.auction.proofs.Floors.{bid_capped}
use Rattle.bidding.specs.Depths.{ceiling_limit}
use Rattle.ledgers.specs.declared.ledger.Ledger.{Ledger}
use Rattle.ledgers.specs.Rules.{phase_rise}
use Rattle.ledgers.specs.Books.{increment_of}
use Rattle.ledgers.specs.Ledgers.{market_of, size_of}

-- within the limits, a phase adds no more to the highest price than its rise
cap_rises : (t : Table) (m : Market) → t.size ≤ size_limit → t.top ≤ top_limit → m.increment ≤ increment_limit → cap t m ≤ m.high + phase_rise
unfolding cap ceiling
cap_rises t m few low small =
    let a : t.size + 1 ≤ size_limit + 1 = omega arith in
    let c : (t.size + 1) * t.top ≤ ceiling_limit = mul-le-mul a low in
    let d : 2 * ((t.size + 1) * t.top) + m.increment ≤ 2 * ceiling_limit + increment_limit = omega arith in
    omega (arith, mul-le-mul few d)

-- a run's bid is for a seat of the auction, within what the phase can reach
pub offer_fits : (t : Table) (l : Ledger) (shown : ℕ → ℕ → ℕ) (q : ℕ → ℕ) (i j p : ℕ) → Lawful t → t.top ≤ top_limit → t.size ≡ size_of l → BestBid t (market_of l shown) q i j p → (j < size_of l) × (p ≤ l.book.phase * phase_rise)
offer_fits t l shown q i j p lawful low e x =
    let few : t.size ≤ size_limit = omega (arith, e, l.sized.1) in
    let some : 1 ≤ t.size = omega (arith, e, l.sized.0) in
    let small : increment_of l.book ≤ increment_limit = l.small (l.book.phase - 1) in
    let high : p ≤ cap t (market_of l shown) = bid_capped t (market_of l shown) lawful some q i j p x in (
      omega (arith, e, lawful.seats i j x.points x.best.pays),
      omega (arith, high, cap_rises t (market_of l shown) few low small, l.high),
    )
