-- What a telling does to a face.
use Rattle.std.specs.Prelude.{◌≡◌, ℕ, cond, ◌⊎◌, ◌==◌, refl}
use Rattle.std.proofs.Common.{arith}
use Rattle.std.proofs.lemmas.Bool.Decides.{nat_tests}
use Rattle.boards.specs.Faces.{Face, Takes, Refuses, Told}

-- the told price of each seat after a telling that is taken
pub told_is : (f g : Face) (seat x : ℕ) → Told f g seat x → Takes f seat x → (k : ℕ) → g.told k ≡ cond (k == seat) x (f.told k)
told_is f g seat x told takes k = grind (arith, nat_tests, told.raised takes, told.others takes k)

-- a telling is taken or refused
pub cases_takes : (f : Face) (seat x : ℕ) → Takes f seat x ⊎ Refuses f seat x
cases_takes f seat x = grind arith

pub not_both : (f : Face) (seat x : ℕ) → Takes f seat x → Refuses f seat x → ⊥
not_both f seat x takes why = grind arith

-- a telling that is not taken leaves the board as it is
pub told_nothing : (f : Face) (seat x : ℕ) → (Takes f seat x → ⊥) → Told f f seat x
told_nothing f seat x not = record {
  size = refl;
  raised = λ t. absurd (not t);
  others = λ t. absurd (not t);
  refused = λ _. (record { size = refl; told = λ k. refl }, λ i k. refl);
}
