use Rattle.std.proofs.Common.{◌≡◌, ◌+◌, ℤ, sym, ◌∙◌, subst, arith, w64, to_z, of_z}
use borrow.Author.Differences.{ints}
use Rattle.std.proofs.lemmas.Result.{err_from_is_err_and}
use Rattle.fault.specs.Checks.{Passes}
use Rattle.points.specs.Tables.{Table}
use Rattle.certificates.specs.Certificates.{seat_checks}
use Rattle.points.proofs.Allowed.{seats_first, seats_none}
use Rattle.certificates.proofs.Seats.{passed_gap, passed_more}
use Rattle.certificates.proofs.contents.Priced.check_seats.Goals as goal

pub nets_at_most-requires : goal.nets_at_most-requires
nets_at_most-requires g c =
    let p = c.args.self.now in
    let t : Table = g.S.PairSource.table p.source.now in
    let (from, low, left, passed) = c.loop-seat.invariant in
    let next = seats_first t c.args.run from c.in-Some.seat c.next.new.self (sym left ∙ c.in-Some.ensures.steps) in
    omega (arith, next.1, p.sized, p.priced)

pub returns-in_err-unless : goal.returns-in_err-unless
returns-in_err-unless g c =
    let e = err_from_is_err_and c.from_residual.result c.from_residual.ensures.1 in
    let p = c.args.self.now in
    let t : Table = g.S.PairSource.table p.source.now in
    let (from, low, left, passed) = c.loop-seat.invariant in
    let seat = c.in-Some.seat in
    let (above, below, here, gap, rest) = seats_first t c.args.run from seat c.next.new.self (sym left ∙ c.in-Some.ensures.steps) in
    let held : to_z w64 (of_z w64 c.args.held) ≡ c.args.held = omega (arith, ints) in
    let before : Passes (seat_checks t p.prices.now c.args.run (to_z w64 (of_z w64 c.args.held)) seat) = passed_gap t p.prices.now c.args.run (to_z w64 (of_z w64 c.args.held)) from seat gap passed in
    rw (e.1, e.2, ← held) (seat, below, before, (sym c.nets_at_most.ensures ∙ c.in_err-unless.ensures.0, c.in_err-unless.ensures.1 ∙ c.not_content.ensures))

pub loop-seat-preserved : goal.loop-seat-preserved
loop-seat-preserved g c =
    let p = c.args.self.now in
    let t : Table = g.S.PairSource.table p.source.now in
    let (from, low, left, passed) = c.loop-seat.invariant in
    let seat = c.in-Some.seat in
    let (above, below, here, gap, rest) = seats_first t c.args.run from seat c.next.new.self (sym left ∙ c.in-Some.ensures.steps) in
    (seat + 1, omega arith, rest, passed_more t p.prices.now c.args.run (to_z w64 (of_z w64 c.args.held)) from seat gap passed (sym c.nets_at_most.ensures ∙ c.in_ok-unless.ensures))

pub returns : goal.returns
returns g c =
    let p = c.args.self.now in
    let t : Table = g.S.PairSource.table p.source.now in
    let (from, low, left, passed) = c.loop-seat.invariant in
    let held : to_z w64 (of_z w64 c.args.held) ≡ c.args.held = omega (arith, ints) in
    let gap = seats_none t c.args.run from (sym left ∙ c.in-None.ensures.steps.0) in
    subst (λ (v : ℤ). Passes (seat_checks t p.prices.now c.args.run v t.size)) held (passed_gap t p.prices.now c.args.run (to_z w64 (of_z w64 c.args.held)) from t.size gap passed)
