use Rattle.std.proofs.Common.{◌≡◌, ℕ, Bool, true, false, not, get_or, Some, sym, refl, ap, ◌∙◌, subst, inr, rules}
use Rattle.std.proofs.lemmas.Result.{err_from_is_err_and}
use Rattle.fault.specs.declared.causes.Cause.TheVariants.{SeatTaken}
use Rattle.fault.specs.declared.faults.Fault.{Fault}
use Rattle.fault.specs.Checks.{Refuses}
use Rattle.certificates.specs.Certificates.{seat_in, seat_fault, checker_fault}
use Rattle.certificates.proofs.Taken.{others, held_refuses}
use Rattle.certificates.proofs.plans.check_run.Goals as goal

marked : (b : Bool) → not b ≡ false → b ≡ true
marked true e = refl
marked false e = sym e

pub returns-in_err-unless-2 : goal.returns-in_err-unless-2
returns-in_err-unless-2 g c =
    let p = err_from_is_err_and c.from_residual-in_err-unless-2.result c.from_residual-in_err-unless-2.ensures.1 in
    let t = c.in_err-unless-2.ensures in
    let seats = c.args.seats.now in
    let run = c.args.run in
    let is : c.from-seat.result ≡ seat_in seats run = c.from-seat.ensures in
    let there : get_or c.args.marks.now (seat_in seats run) false ≡ true = subst (λ (k : ℕ). get_or c.args.marks.now k false ≡ true) is (sym c.is_marked.ensures ∙ marked c.is_marked.result t.0) in
    let low = c.requires.marked.only (seat_in seats run) there in
    let fault : c.in_err-unless-2.field-0.0 ≡ seat_fault SeatTaken seats run = t.1 ∙ c.checker_fault-2.ensures ∙ ap (λ (k : ℕ). checker_fault SeatTaken (Some run) (Some k)) is in
    rw (p.1, p.2) (inr (search rules, inr (search rules, subst (λ (f : Fault). Refuses (others seats run (seat_fault SeatTaken seats run)) f) (sym fault) (held_refuses seats run (seat_fault SeatTaken seats run) low.0 low.1 low.2))))
