-- Prices within a size.
use Rattle.std.specs.Prelude.{◌≡◌, ℕ, ◌<◌}
use Rattle.std.proofs.Common.{arith}
use Rattle.std.proofs.lemmas.Bool.Decides.{nat_tests}
use Rattle.boards.specs.Faces.{within}

pub inside : (n k x : ℕ) → k < n → within n k x ≡ x
inside n k x h = grind (arith, nat_tests)
