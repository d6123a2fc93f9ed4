-- What two delay layers over a site board mean.
use Rattle.boards.specs.declared.states.Delay.{Delay}
use Rattle.boards.specs.declared.states.SiteBoard.{SiteBoard}
use Rattle.boards.specs.Faces.{Face}
use Rattle.boards.specs.Sites.{site_face}
use Rattle.boards.specs.Layers.{layer_of, over_face, layer_face}

-- one layer over a site board
abbrev pub layered_face : Delay SiteBoard → Face
layered_face d = layer_face (over_face site_face (layer_of d))

-- one more layer over that
abbrev pub pile_face : Delay (Delay SiteBoard) → Face
pile_face d = layer_face (over_face layered_face (layer_of d))
