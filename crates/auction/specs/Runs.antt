-- Runs of events, the market that a start leaves, and the markets that are reached from it.
use Rattle.std.specs.Prelude.{◌≡◌, ℕ, ◌+◌, ◌<◌, ◌≤◌, List, [], ◌∷◌, length, None}
use Rattle.points.specs.Tables.{Table, Lawful}
use Rattle.auction.specs.Limits.{phase_limit, increment_limit, allowance_limit}
use Rattle.auction.specs.Markets.{Market, Free}
use Rattle.auction.specs.Events.{Event, Step}

-- events, the first one first, lead from one market to another
abbrev pub Run : Table → List Event → Market → Market → Type 0
Run t [] m n = m ≡ n
Run t (c ∷ cs) m n = (x : Market) × Step t c m x × Run t cs x n

-- an increment and those to come fall strictly, and the last is 1
abbrev pub FallsToOne : ℕ → List ℕ → Type 0
FallsToOne e [] = e ≡ 1
FallsToOne e (x ∷ xs) = (x < e) × FallsToOne x xs

-- a first increment and those to come make a ladder
pub record Ladder (first : ℕ) (later : List ℕ) : Type 0 where
  pub falls : FallsToOne first later
  pub few : length later + 1 ≤ phase_limit
  pub small : first ≤ increment_limit

-- the market as a start leaves it
pub record Opened (m : Market) : Type 0 where
  pub ladder : Ladder m.increment m.later
  pub some : 1 ≤ m.allowance
  pub allowance : m.allowance ≤ allowance_limit
  pub price : (k : ℕ) → m.price k ≡ 0
  pub seat : (i : ℕ) → Free m i
  pub bid : (i : ℕ) → m.bid i ≡ None
  pub shown : (i k : ℕ) → m.shown i k ≡ 0
  pub mark : m.mark ≡ None
  pub phase : m.phase ≡ 1
  pub high : m.high ≡ 0
  pub composed : m.composed ≡ 0
  pub accepted : m.accepted ≡ 0
  pub outbid : m.outbid ≡ 0
  pub recalled : m.recalled ≡ 0
  pub phase_accepted : m.phase_accepted ≡ 0

-- over a lawful table, some events lead from a start to the market
pub record Reached (t : Table) (m : Market) : Type 0 where
  pub lawful : Lawful t
  pub start : Market
  pub opened : Opened start
  pub events : List Event
  pub run : Run t events start m
