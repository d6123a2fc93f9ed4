-- What a board means, and what clear, tell, carry and settle do to that.
use Rattle.std.specs.Prelude.{◌≡◌, ℕ, ◌<◌, ◌≤◌, cond, ◌≢◌, ◌⊎◌, nat_lt}
use Rattle.boards.specs.Calls.{Call, clears, tells, carries, settles}
use Rattle.boards.specs.Limits.{seat_limit}

-- as many seats as runs, the told price of each seat, and the price shown to each run at each seat
pub record Face : Type 0 where
  pub size : ℕ
  pub told : ℕ → ℕ
  pub shown : ℕ → ℕ → ℕ

-- x at a number below n, else 0
abbrev pub within : ℕ → ℕ → ℕ → ℕ
within n k x = cond (nat_lt k n) x 0

-- g is a board of n seats, or of none where n is over the limit, whose told and shown prices are all 0
pub record Cleared (n : ℕ) (g : Face) : Type 0 where
  pub sized : n ≤ seat_limit → g.size ≡ n
  pub emptied : seat_limit < n → g.size ≡ 0
  pub untold : (k : ℕ) → g.told k ≡ 0
  pub unshown : (i k : ℕ) → g.shown i k ≡ 0

-- the board takes a telling: the seat is below the size, and the price is at least the told one
abbrev pub Takes : Face → ℕ → ℕ → Type 0
Takes f seat x = (seat < f.size) × (f.told seat ≤ x)

-- the board refuses a telling: the seat is not below the size, or the price is below the told one
abbrev pub Refuses : Face → ℕ → ℕ → Type 0
Refuses f seat x = (f.size ≤ seat) ⊎ (x < f.told seat)

-- g has the size and the told prices of f
pub record SameTold (f g : Face) : Type 0 where
  pub size : g.size ≡ f.size
  pub told : (k : ℕ) → g.told k ≡ f.told k

-- g shows what f shows
abbrev pub SameShown : Face → Face → Type 0
SameShown f g = (i k : ℕ) → g.shown i k ≡ f.shown i k

-- f became g when the price of a seat was told: a telling that is taken is the seat's told price, and no other changes;
-- one that is refused changes neither told nor shown prices; the size stays
pub record Told (f g : Face) (seat x : ℕ) : Type 0 where
  pub size : g.size ≡ f.size
  pub raised : Takes f seat x → g.told seat ≡ x
  pub others : Takes f seat x → (k : ℕ) → k ≢ seat → g.told k ≡ f.told k
  pub refused : Refuses f seat x → SameTold f g × SameShown f g

-- f became g by a carry: size and told prices stay
abbrev pub Carried : Face → Face → Type 0
Carried f g = SameTold f g

-- every run is shown the told price of every seat
abbrev pub Level : Face → Type 0
Level f = (i k : ℕ) → i < f.size → k < f.size → f.shown i k ≡ f.told k

-- f became g when it was settled: size and told prices stay, and every shown price is the told one
pub record Settled (f g : Face) : Type 0 where
  pub same : SameTold f g
  pub level : Level g

-- what a call does to any board that is sound
abbrev pub BoardDoes : Call → Face → Face → Type 0
BoardDoes (clears n) f g = Cleared n g
BoardDoes (tells k x) f g = Told f g k x
BoardDoes (carries r) f g = Carried f g
BoardDoes settles f g = Settled f g
