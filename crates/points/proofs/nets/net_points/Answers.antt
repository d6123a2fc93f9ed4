use Rattle.std.proofs.Common.{◌≡◌, ap, ◌∙◌, arith}
use borrow.Author.Differences.{ints}
use Rattle.points.specs.Nets.{scaled}
use Rattle.points.proofs.Scales.{scaled_fits}
use Rattle.points.proofs.nets.net_points.Goals as goal

is : (c : goal.After-limited) → c.scaled_points.result ≡ scaled c.args.size c.args.points
is c = c.scaled_points.ensures ∙ ap (scaled c.args.size) (omega (arith, ints))

pub less-requires : goal.less-requires
less-requires c =
    let f = scaled_fits c.args.size c.args.points (omega arith) c.ranges.points in
    (omega (arith, ints, is c, f.0), omega (arith, ints, is c, f.1), omega (arith, c.limited.ensures))
