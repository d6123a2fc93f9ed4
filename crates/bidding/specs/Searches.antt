-- What the search for a run's bid answers.
use Rattle.std.specs.Prelude.{◌≡◌, ℕ, ◌+◌, ◌≤◌, min, cond, ℤ, ◌-ℤ◌, Some, None, Option, int_lt, unsigned_abs}
use Rattle.std.specs.Int.{int_max}
use Rattle.points.specs.Tables.{Table}
use Rattle.points.specs.Limits.{price_limit}
use Rattle.points.specs.Nets.{scaled, net}
use Rattle.boards.specs.Faces.{Face}
use Rattle.bidding.specs.declared.terms.Terms.{Terms}
use Rattle.bidding.specs.declared.sought.Sought.{Sought}
use Rattle.bidding.specs.declared.sought.Offer.{Offer}
use Rattle.auction.specs.Markets.{Market}
use Rattle.auction.specs.Bids.{BestSeat, SecondValue, BestBid, Hopeless}
use Rattle.bidding.specs.Depths.{floor_of, WithinLimits}

-- the terms are these numbers
pub record HasTerms (n c e h : ℕ) (x : Terms) : Type 0 where
  pub size : x.size ≡ n
  pub top : x.top ≡ c
  pub increment : x.increment ≡ e
  pub high : x.high ≡ h

-- terms are made of the numbers, or nothing where one is outside its limits
abbrev pub Made : ℕ → ℕ → ℕ → ℕ → Option Terms → Type 0
Made n top e h None = WithinLimits n top e h → ⊥
Made n top e h (Some x) = HasTerms n top e h x

-- the floor that the terms give
abbrev pub terms_floor : Terms → ℤ
terms_floor x = floor_of x.size x.top x.increment x.high

-- the terms are those of a table and a market
abbrev pub TermsOf : Table → Market → Terms → Type 0
TermsOf t m x = HasTerms t.size t.top m.increment m.high x

-- the price that run i is shown of seat k, or the limit where it is over that
abbrev pub limited_to : Face → ℕ → ℕ → ℕ
limited_to f i k = min (f.shown i k) price_limit

-- no run is shown a price above the told one, as on every sound board
abbrev pub ShownBehind : Face → Type 0
ShownBehind f = (i k : ℕ) → f.shown i k ≤ f.told k

-- no told price is over the limit
abbrev pub ToldWithin : Face → Type 0
ToldWithin f = (k : ℕ) → f.told k ≤ price_limit

-- where no told price is over the limit, the price is taken as it is shown
abbrev pub LimitChangesNothing : Type 0
LimitChangesNothing = (f : Face) → ShownBehind f → ToldWithin f → (i k : ℕ) → limited_to f i k ≡ f.shown i k

-- seat k with its points, if it is allowed, as a find of its own, at n seats, the floor f and prices q
abbrev pub valued : ℕ → ℤ → (ℕ → ℕ) → ℕ → Option ℤ → Option Sought
valued n f q k None = None
valued n f q k (Some p) = Some (record { seat = k; worth = scaled n p; net = net n p (q k); second = f })

-- a seat put beside what was found below it: the one that nets more, the lower of equals, with the other's net counted
abbrev pub weighed : Sought → Sought → Sought
weighed old new =
    cond (int_lt old.net new.net) (record new { second = int_max old.second old.net })
    (record old { second = int_max old.second new.net })

-- s is the lowest of the seats that net run i the most, with its scaled points, its net, and the second value
pub record Finds (t : Table) (f : ℤ) (q : ℕ → ℕ) (i : ℕ) (s : Sought) : Type 0 where
  pub points : ℤ
  pub best : BestSeat t q i s.seat points
  pub worth : s.worth ≡ scaled t.size points
  pub net : s.net ≡ net t.size points (q s.seat)
  pub second : SecondValue t f q i s.seat s.second

-- the search finds a run's best seat, or nothing where no seat is allowed to it
abbrev pub Seeks : Table → ℤ → (ℕ → ℕ) → ℕ → Option Sought → Type 0
Seeks t f q i None = (k : ℕ) → t.points i k ≡ None
Seeks t f q i (Some s) = Finds t f q i s

-- terms of the table's size: the search finds a run's best seat, with the floor that they give
abbrev pub SeeksAt : Table → Terms → (ℕ → ℕ) → ℕ → Option Sought → Type 0
SeeksAt t x q i o = x.size ≡ t.size → Seeks t (terms_floor x) q i o

-- the price for which a seat of scaled points u leaves w, and the increment more; it stops at the largest u64
abbrev pub priced : ℤ → ℤ → ℕ → ℕ
priced u w e = min (unsigned_abs (u -ℤ w) + e) 18446744073709551615

-- what is offered on what was found: nothing where that nets less than the floor
abbrev pub offered : ℤ → ℕ → Option Sought → Option Offer
offered f e None = None
offered f e (Some s) = cond (int_lt s.net f) None (Some (record { seat = s.seat; price = priced s.worth s.second e }))

-- terms of the table's size: what is offered on a run's best seat by the numbers of the terms, whatever market they are of
abbrev pub OffersAt : Table → Terms → (ℕ → ℕ) → ℕ → Option Offer → Type 0
OffersAt t x q i r = x.size ≡ t.size → (o : Option Sought) × Seeks t (terms_floor x) q i o × (r ≡ offered (terms_floor x) x.increment o)

-- the offer is the bid that the rules give the run, and where there is none the run is hopeless
abbrev pub Composes : Table → Market → (ℕ → ℕ) → ℕ → Option Offer → Type 0
Composes t m q i None = Hopeless t m q i
Composes t m q i (Some o) = BestBid t m q i o.seat o.price

-- for every market whose terms these are, the offer is the run's bid by the rules
abbrev pub BidsAt : Table → Terms → (ℕ → ℕ) → ℕ → Option Offer → Type 0
BidsAt t x q i r = (m : Market) → TermsOf t m x → Composes t m q i r
