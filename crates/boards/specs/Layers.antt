-- What a delay layer means, by the board below it, and what its calls do.
use Rattle.std.specs.Prelude.{◌≡◌, ℕ, ◌+◌, ◌-◌, List, [], ◌∷◌, ◌++◌, length, take, drop, vec_items}
use Rattle.boards.specs.declared.tellings.Telling.{Telling}
use Rattle.boards.specs.declared.states.Delay.{Delay}
use Rattle.boards.specs.declared.board.PriceBoard.{Ghosts as OfBoard}
use Rattle.boards.specs.Limits.{held_limit}
use Rattle.boards.specs.Calls.{Call, clears, tells, carries, settles, Run}
use Rattle.boards.specs.Faces.{Face, Takes, Refuses, BoardDoes, within}
use Rattle.boards.specs.Tellings.{newest, Seated, Climbs, Rise, Above, calls}

-- the board below, or what it means, and the tellings held back from it, the oldest first
pub record Layer (S : Type 0) : Type 0 where
  pub below : S
  pub held : List Telling

-- the layer that a delay layer is
abbrev pub layer_of : {B : Type 0} → Delay B → Layer B
layer_of d = record { below = d.below; held = vec_items d.held }

-- a layer over what the board below means
abbrev pub over_face : {S : Type 0} → (S → Face) → Layer S → Layer Face
over_face face l = record { below = face l.below; held = l.held }

-- the told price is that of the newest telling held for the seat, else that of the board below; the rest is as below
abbrev pub layer_face : Layer Face → Face
layer_face l = record {
  size = l.below.size;
  told = λ k. within l.below.size k (newest l.held k (l.below.told k));
  shown = l.below.shown;
}

-- the held seats are below the size, and the tellings of each never fall, from the told price below upward
pub record Steady (l : Layer Face) : Type 0 where
  pub seated : Seated l.below.size l.held
  pub climbs : (k : ℕ) → Climbs l.held k (l.below.told k)

-- how many tellings pass down before one more is held: one where as many as may be are held, else none
abbrev pub due : List Telling → ℕ
due ts = length ts + 1 - held_limit

-- below, Does says what a call does to the board below, and face what that board means

-- m holds nothing, and the board below is cleared to n seats
pub record LayerCleared {S : Type 0} (Does : Call → S → S → Type 0) (l m : Layer S) (n : ℕ) : Type 0 where
  pub held : m.held ≡ []
  pub below : Does (clears n) l.below m.below

-- l became m when the price of a seat was told: a telling that is taken, by the layer's own told price, is held as the
-- newest, and where the layer was full the oldest is first told below; one that is refused changes nothing
pub record LayerTold {S : Type 0} (face : S → Face) (Does : Call → S → S → Type 0) (l m : Layer S) (seat x : ℕ) : Type 0 where
  pub held : Takes (layer_face (over_face face l)) seat x → m.held ≡ drop (due l.held) l.held ++ record { seat = seat; price = x } ∷ []
  pub below : Takes (layer_face (over_face face l)) seat x → Run Does (calls (take (due l.held) l.held)) l.below m.below
  pub refused : Refuses (layer_face (over_face face l)) seat x → m ≡ l

-- l became m when r was carried: the r oldest tellings are told below in order, and then r is carried below
pub record LayerCarried {S : Type 0} (Does : Call → S → S → Type 0) (l m : Layer S) (r : ℕ) : Type 0 where
  pub held : m.held ≡ drop r l.held
  pub below : (s : S) × Run Does (calls (take r l.held)) l.below s × Does (carries r) s m.below

-- l became m when it was settled: all tellings are told below in order, and then the board below is settled
pub record LayerSettled {S : Type 0} (Does : Call → S → S → Type 0) (l m : Layer S) : Type 0 where
  pub held : m.held ≡ []
  pub below : (s : S) × Run Does (calls l.held) l.below s × Does settles s m.below

-- what a call does to a delay layer
abbrev pub LayerDoes : {S : Type 0} → (S → Face) → (Call → S → S → Type 0) → Call → Layer S → Layer S → Type 0
LayerDoes face Does (clears n) l m = LayerCleared Does l m n
LayerDoes face Does (tells k x) l m = LayerTold face Does l m k x
LayerDoes face Does (carries r) l m = LayerCarried Does l m r
LayerDoes face Does settles l m = LayerSettled Does l m

-- what a delay layer over a board means
abbrev pub delay_face : {B : Type 0} → OfBoard B → Delay B → Face
delay_face board d = layer_face (over_face board.face (layer_of d))

-- a delay layer is sound when the board below is, and the layer is steady
abbrev pub DelaySound : {B : Type 0} → OfBoard B → Delay B → Type 0
DelaySound board d = board.sound d.below × Steady (over_face board.face (layer_of d))

-- all that a call does to a delay layer, by what calls do to the board below
abbrev pub DelayDoes : {B : Type 0} → OfBoard B → Call → Delay B → Delay B → Type 0
DelayDoes board c d e = LayerDoes board.face board.step c (layer_of d) (layer_of e)

-- what a call does to a delay layer over a sound board, by what the board below means
abbrev pub DelayKeeps : {B : Type 0} → OfBoard B → Call → Delay B → Delay B → Type 0
DelayKeeps board c d e = LayerDoes (λ f. f) BoardDoes c (over_face board.face (layer_of d)) (over_face board.face (layer_of e))

-- in a steady layer the tellings held for a seat rise from oldest to newest, and none is below the told price below
pub record HeldTellingsRise : Type 0 where
  pub rise : (l : Layer Face) → Steady l → Rise l.held
  pub above : (l : Layer Face) → Steady l → Above l.held l.below.told
