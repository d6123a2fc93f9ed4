-- Tellings that are held back, the oldest first.
use Rattle.std.specs.Prelude.{◌≡◌, ℕ, ◌<◌, ◌≤◌, ◌≢◌, MatchOption, Option, cond, List, [], ◌∷◌, map, length, ◌==◌, slice_index_or}
use Rattle.boards.specs.declared.tellings.Telling.{Telling}
use Rattle.boards.specs.declared.board.PriceBoard.{Ghosts as OfBoard}
use Rattle.boards.specs.Calls.{Call, tells, Run}
use Rattle.boards.specs.Faces.{BoardDoes}

-- the price of the newest telling for seat k, or x where there is none
abbrev pub newest : List Telling → ℕ → ℕ → ℕ
newest [] k x = x
newest (t ∷ ts) k x = newest ts k (cond (k == t.seat) t.price x)

-- each telling is for a seat below n
abbrev pub Seated : ℕ → List Telling → Type 0
Seated n [] = Unit {0}
Seated n (t ∷ ts) = (t.seat < n) × Seated n ts

-- the tellings for seat k never fall, from x upward
abbrev pub Climbs : List Telling → ℕ → ℕ → Type 0
Climbs [] k x = Unit {0}
Climbs (t ∷ ts) k x = (k ≡ t.seat → x ≤ t.price) × Climbs ts k (cond (k == t.seat) t.price x)

-- the call that a telling is
abbrev pub call : Telling → Call
call t = tells t.seat t.price

-- tellings as calls, in order
abbrev pub calls : List Telling → List Call
calls ts = map call ts

-- tellings were told to a, which became b: by the board's own tells in order, and on a sound board by every board's rules
pub record Passed {B : Type 0} (board : OfBoard B) (ts : List Telling) (a b : B) : Type 0 where
  pub own : Run board.step (calls ts) a b
  pub does : board.sound a → Run BoardDoes (calls ts) (board.face a) (board.face b)
  pub safe : board.sound a → board.sound b

-- the telling at a place of a list
abbrev pub telling_at : List Telling → ℕ → Telling
telling_at ts i = slice_index_or ts i (record { seat = 0; price = 0 })

-- the tellings of each seat rise from oldest to newest: of two for one seat, the older is never higher
abbrev pub Rise : List Telling → Type 0
Rise ts = (i j : ℕ) → i < j → j < length ts → (telling_at ts i).seat ≡ (telling_at ts j).seat → (telling_at ts i).price ≤ (telling_at ts j).price

-- no telling is below the price that p has for its seat
abbrev pub Above : List Telling → (ℕ → ℕ) → Type 0
Above ts p = (i : ℕ) → i < length ts → p (telling_at ts i).seat ≤ (telling_at ts i).price

-- where the newest telling for seat k lies, if there is one
abbrev pub NewestAt : List Telling → ℕ → Option ℕ → Type 0
NewestAt ts k place = MatchOption place ((j : ℕ) → j < length ts → (telling_at ts j).seat ≢ k)
    (λ i. (i < length ts) × ((telling_at ts i).seat ≡ k) × ((j : ℕ) → i < j → j < length ts → (telling_at ts j).seat ≢ k))
