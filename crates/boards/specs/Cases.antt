-- Worked cases: calls on a board, and what it then answers.
use Rattle.std.specs.Prelude.{◌≡◌, ℕ, zero, suc, List, [], ◌∷◌, ◌++◌, length}
use Rattle.boards.specs.Calls.{Call, clears, tells, carries, settles, Run}
use Rattle.boards.specs.Faces.{Face, Takes, Refuses, BoardDoes}
use Rattle.boards.specs.Sites.{SiteDoes}
use Rattle.boards.specs.Layers.{Layer, layer_face, LayerDoes}

-- what a call does to a delay layer over any sound board
abbrev pub AnyLayerDoes : Call → Layer Face → Layer Face → Type 0
AnyLayerDoes = LayerDoes (λ f. f) BoardDoes

-- calls, and what holds after them: a site board's shown price to a run at a seat; a delay layer's told price of a seat,
-- the told price of a seat on the board below it, how many tellings it holds, that it refuses a telling, and that the
-- board below would take one
pub data Case : Type 0 where
  site_shows : List Call → ℕ → ℕ → ℕ → Case
  layer_told : List Call → ℕ → ℕ → Case
  below_told : List Call → ℕ → ℕ → Case
  layer_holds : List Call → ℕ → Case
  layer_refuses : List Call → ℕ → ℕ → Case
  below_takes : List Call → ℕ → ℕ → Case

-- every run of the calls leads there
abbrev pub Holds : Case → Type 0
Holds (site_shows cs i k x) = (f g : Face) → Run SiteDoes cs f g → g.shown i k ≡ x
Holds (layer_told cs k x) = (l m : Layer Face) → Run AnyLayerDoes cs l m → (layer_face m).told k ≡ x
Holds (below_told cs k x) = (l m : Layer Face) → Run AnyLayerDoes cs l m → m.below.told k ≡ x
Holds (layer_holds cs n) = (l m : Layer Face) → Run AnyLayerDoes cs l m → length m.held ≡ n
Holds (layer_refuses cs k x) = (l m : Layer Face) → Run AnyLayerDoes cs l m → Refuses (layer_face m) k x
Holds (below_takes cs k x) = (l m : Layer Face) → Run AnyLayerDoes cs l m → Takes m.below k x

abbrev pub AllHold : List Case → Type 0
AllHold [] = Unit {0}
AllHold (c ∷ cs) = Holds c × AllHold cs

-- ten seats, and the price 7 told at seat 1
abbrev pub told_once : List Call
told_once = clears 10 ∷ tells 1 7 ∷ []

-- two seats, and the prices 1 to n told at seat 0
abbrev pub told_rising : ℕ → List Call
told_rising zero = clears 2 ∷ []
told_rising (suc n) = told_rising n ++ tells 0 (suc n) ∷ []

-- two seats, and at seat 0 the price 5 passed down and the price 9 held
abbrev pub told_twice : List Call
told_twice = clears 2 ∷ tells 0 5 ∷ carries 1 ∷ tells 0 9 ∷ []

abbrev pub cases : List Case
cases =
    -- a site board: a tells reaches no run, a carry those of one site, a settle all
    site_shows told_once 0 1 0 ∷
    site_shows told_once 9 1 0 ∷
    site_shows (told_once ++ carries 8 ∷ []) 0 1 7 ∷
    site_shows (told_once ++ carries 8 ∷ []) 8 1 7 ∷
    site_shows (told_once ++ carries 8 ∷ []) 1 1 0 ∷
    site_shows (told_once ++ carries 8 ∷ []) 9 1 0 ∷
    site_shows (told_once ++ carries 8 ∷ settles ∷ []) 9 1 7 ∷
    -- a delay layer: the 65th telling passes the oldest down
    layer_holds (told_rising 64) 64 ∷
    layer_told (told_rising 64) 0 64 ∷
    below_told (told_rising 64) 0 0 ∷
    layer_holds (told_rising 65) 64 ∷
    layer_told (told_rising 65) 0 65 ∷
    below_told (told_rising 65) 0 1 ∷
    -- a telling between the board below and the layer's own told price is refused by the layer; an equal one is not
    below_told told_twice 0 5 ∷
    layer_told told_twice 0 9 ∷
    layer_refuses told_twice 0 7 ∷
    below_takes told_twice 0 7 ∷
    layer_told (told_twice ++ tells 0 7 ∷ []) 0 9 ∷
    layer_holds (told_twice ++ tells 0 7 ∷ []) 1 ∷
    below_told (told_twice ++ tells 0 7 ∷ settles ∷ []) 0 9 ∷
    layer_holds (told_twice ++ tells 0 9 ∷ []) 2 ∷
    []

-- all of the worked cases hold
abbrev pub WorkedCasesHold : Type 0
WorkedCasesHold = AllHold cases
