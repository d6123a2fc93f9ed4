-- What a site board means, and what its calls do beyond what every board's do.
use Rattle.std.specs.Prelude.{◌≡◌, ℕ, ◌%◌, ◌<◌, ◌≢◌}
use Rattle.boards.specs.declared.states.SiteBoard.{SiteBoard}
use Rattle.boards.specs.Limits.{site_count}
use Rattle.boards.specs.Calls.{Call, clears, tells, carries, settles}
use Rattle.boards.specs.Faces.{Face, Cleared, Told, Carried, Settled, SameShown, within}
use Rattle.boards.specs.Rows.{at}
use Rattle.boards.specs.Lists.{price_at}
use Rattle.boards.specs.Copies.{copy_at, Behind}

-- run i is shown the copy of site i mod 8
abbrev pub site_face : SiteBoard → Face
site_face b = record {
  size = b.told.size;
  told = price_at b.told;
  shown = λ i k. within b.told.size i (within b.told.size k (at (copy_at b.copies (i % site_count)).row k));
}

-- no copy is ahead of the told prices
abbrev pub site_sound : SiteBoard → Type 0
site_sound b = Behind b.told.row b.copies

-- f became g when the price of a seat was told: it reaches no copy
pub record SiteTold (f g : Face) (seat x : ℕ) : Type 0 where
  pub told : Told f g seat x
  pub shown : SameShown f g

-- f became g when r was carried: the runs of site r mod 8 are shown the told prices, and the others what they were
pub record SiteCarried (f g : Face) (r : ℕ) : Type 0 where
  pub carried : Carried f g
  pub reached : (i k : ℕ) → i < f.size → i % site_count ≡ r % site_count → g.shown i k ≡ f.told k
  pub others : (i k : ℕ) → i % site_count ≢ r % site_count → g.shown i k ≡ f.shown i k

-- what a call does to a site board
abbrev pub SiteDoes : Call → Face → Face → Type 0
SiteDoes (clears n) f g = Cleared n g
SiteDoes (tells k x) f g = SiteTold f g k x
SiteDoes (carries r) f g = SiteCarried f g r
SiteDoes settles f g = Settled f g
