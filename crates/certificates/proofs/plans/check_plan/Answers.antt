use Rattle.std.proofs.Common.{◌≡◌, ℕ, ◌+◌, ◌<◌, ◌≤◌, true, length, set, sym, refl, ap, ◌∙◌, subst, arith, length-set, below_more}
use borrow.Author.Differences.{ints}
use Rattle.std.proofs.lemmas.Bool.{ltb-true}
use Rattle.fault.specs.Checks.{Passes}
use Rattle.certificates.specs.Certificates.{seat_in, run_checks}
use Rattle.certificates.specs.Marks.{Marked}
use Rattle.certificates.proofs.Taken.{marked_none, marked_more}
use Rattle.certificates.proofs.Totals.{total_more, total_within}
use Rattle.certificates.proofs.plans.check_plan.Goals as goal

pub loop-run-init : goal.loop-run-init
loop-run-init g c = ((λ k l. absurd (omega arith)), marked_none c.args.seats.now 256, refl, refl)

pub add_points-sum-requires : goal.add_points-sum-requires
add_points-sum-requires g c =
    let s = c.args.source.now in
    let law = g.met.S.PairSource in
    let few : c.loop-run.run ≤ 256 = omega (arith, c.requires.size, c.requires.seated) in
    let low : (g.S.PairSource.table s).top ≤ 1000000 = omega (arith, law.topped s, law.limits.1) in
    let w = total_within (g.S.PairSource.table s) (seat_in c.args.seats.now) (law.lawful s) c.loop-run.run few low in
    (omega (arith, ints, w.0, c.loop-run.invariant.2), omega (arith, ints, w.1, c.loop-run.invariant.2))

pub loop-run-preserved : goal.loop-run-preserved
loop-run-preserved g c =
    let t = g.S.PairSource.table c.args.source.now in
    let seats = c.args.seats.now in
    let run = c.loop-run.run in
    let passed = c.in_ok-points.ensures in
    let seat : c.from.result ≡ seat_in seats run = c.from.ensures in
    let marks : c.mark.new.marks ≡ set c.loop-run.marks (seat_in seats run) true = c.mark.ensures ∙ ap (λ (k : ℕ). set c.loop-run.marks k true) seat in
    let below : seat_in seats run < length c.loop-run.marks = omega (arith, ltb-true _ _ passed.0.0, c.requires.size, c.loop-run.invariant.3) in
    let more = total_more t (seat_in seats) run c.in_ok-points.points passed.1 in (
      below_more (λ i. Passes (run_checks t seats i)) run c.loop-run.invariant.0 passed.0,
      subst (Marked seats (run + 1)) (sym marks) (marked_more seats run c.loop-run.marks c.loop-run.invariant.1 below),
      omega (arith, ints, more, c.add_points-sum.ensures, c.loop-run.invariant.2),
      ap length marks ∙ length-set c.loop-run.marks (seat_in seats run) true ∙ c.loop-run.invariant.3,
    )
