-- What a common board means.
use Rattle.std.specs.Prelude.{◌≡◌}
use Rattle.boards.specs.declared.states.CommonBoard.{CommonBoard}
use Rattle.boards.specs.Calls.{Call, clears, tells, carries, settles}
use Rattle.boards.specs.Faces.{Face, Cleared, Told, Level, within}
use Rattle.boards.specs.Lists.{price_at}

-- every run is shown the told prices
abbrev pub common_face : CommonBoard → Face
common_face b = record {
  size = b.told.size;
  told = price_at b.told;
  shown = λ i k. within b.told.size i (price_at b.told k);
}

-- every state is sound
abbrev pub common_sound : CommonBoard → Type 0
common_sound b = Unit {0}

-- what a call does to a common board: what is told is shown at once, and nothing is left to carry or to settle
abbrev pub CommonDoes : Call → CommonBoard → CommonBoard → Type 0
CommonDoes (clears n) a b = Cleared n (common_face b)
CommonDoes (tells k x) a b = Told (common_face a) (common_face b) k x × Level (common_face b)
CommonDoes (carries r) a b = b ≡ a
CommonDoes settles a b = b ≡ a
