use Rattle.std.proofs.Common.{◌≡◌, ℕ, ◌≤◌, ap, ◌∙◌, arith}
use borrow.Author.Differences.{ints}
use Rattle.std.proofs.lemmas.Bool.{leb-true}
use Rattle.points.specs.Limits.{price_limit}
use Rattle.points.specs.Nets.{scaled}
use Rattle.points.proofs.Scales.{scaled_fits}
use Rattle.certificates.specs.Certificates.{price_in}
use Rattle.certificates.proofs.contents.Priced.net.Given.{Over}
use Rattle.certificates.proofs.contents.Priced.net.Goals as goal

is : (g : Over) (c : goal.After-result-1 g) → c.scaled_points.result ≡ scaled c.args.self.now.size c.args.points
is g c = c.scaled_points.ensures ∙ ap (scaled c.args.self.now.size) (omega (arith, ints))

cheap : (g : Over) (c : goal.After-result-1 g) → price_in c.args.self.now.prices.now c.args.seat ≤ price_limit
cheap g c = let p = c.args.self.now in leb-true _ _ (p.cheap c.args.seat (omega (arith, c.requires, p.priced)))

pub overflow_sub-result : goal.overflow_sub-result
overflow_sub-result g c =
    let p = c.args.self.now in
    omega (arith, ints, is g c, cheap g c, scaled_fits p.size c.args.points (omega (arith, c.type_inv.self)) c.ranges.points)

pub returns : goal.returns
returns g c =
    let p = c.args.self.now in
    let size : scaled p.size c.args.points ≡ scaled (g.S.PairSource.table p.source.now).size c.args.points = ap (λ (n : ℕ). scaled n c.args.points) p.sized in
    omega (arith, ints, is g c, size, cheap g c, scaled_fits p.size c.args.points (omega (arith, c.type_inv.self)) c.ranges.points)
