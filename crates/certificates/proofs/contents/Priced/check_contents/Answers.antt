use Rattle.std.proofs.Common.{◌≡◌, ℕ, ℤ, ap, ◌∙◌, subst, arith, w64, to_z, of_z, below_more}
use borrow.Author.Differences.{ints}
use Rattle.fault.specs.Checks.{Passes}
use Rattle.points.specs.Tables.{Table}
use Rattle.points.specs.Nets.{net}
use Rattle.points.specs.Plans.{value}
use Rattle.certificates.specs.Certificates.{price_in, held_net, seat_checks, content_checks}
use Rattle.certificates.proofs.contents.Priced.check_contents.Goals as goal

pub loop-run-preserved : goal.loop-run-preserved
loop-run-preserved g c =
    let p = c.args.self.now in
    let t : Table = g.S.PairSource.table p.source.now in
    let prices = p.prices.now in
    let seats = c.args.seats.now in
    let run = c.loop-run.run in
    let is : c.held_net.result ≡ held_net t seats prices run = c.held_net.ensures ∙ ap (λ (k : ℕ). net t.size (value (t.points run k)) (price_in prices k)) c.from.ensures in
    let held : to_z w64 (of_z w64 c.held_net.result) ≡ held_net t seats prices run = ◌∙◌ {b = c.held_net.result} (omega (arith, ints)) is in
    below_more (λ i. Passes (content_checks t seats prices i)) run c.loop-run.invariant
    (subst (λ (v : ℤ). Passes (seat_checks t prices run v t.size)) held c.in_ok-check_seats.ensures)
