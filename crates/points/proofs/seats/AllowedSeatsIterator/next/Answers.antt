use Rattle.std.proofs.Common.{◌≡◌, ℕ, [], ◌∷◌, sym, ap, ◌∙◌, arith, length}
use Rattle.points.specs.Tables.{Table}
use Rattle.points.specs.Seats.{seats_from}
use Rattle.points.proofs.Allowed.{seats_next, seats_end}
use Rattle.points.proofs.seats.AllowedSeatsIterator.next.Given.{Over}
use Rattle.points.proofs.seats.AllowedSeatsIterator.next.Goals as goal

first : (g : Over) (c : goal.After-self-1 g) → c.args.self.now ≡ c.in_ok-seat.seat ∷ seats_from (g.S.PairSource.table c.self.inside.source.now) c.self.inside.run c.after-self-inside.result
first g c =
    let a = c.self.inside in
    let s = a.source.now in
    let t : Table = g.S.PairSource.table s in
    sym c.self.view_is
    ∙ seats_next t a.run a.from c.in_ok-seat.seat (g.met.S.PairSource.lawful s) c.in_ok-seat.ensures
    ∙ ap (λ (k : ℕ). c.in_ok-seat.seat ∷ seats_from t a.run k) (sym c.after-self-inside.ensures)

pub returns-in_err-seat-clause-steps : goal.returns-in_err-seat-clause-steps
returns-in_err-seat-clause-steps g c =
    let a = c.self.inside in
    let none : c.args.self.now ≡ [] = sym c.self.view_is ∙ seats_end (g.S.PairSource.table a.source.now) a.run a.from c.in_err-seat.ensures in
    rw (c.from_residual.ensures) (none, none)

pub returns-clause-steps : goal.returns-clause-steps
returns-clause-steps g c = first g c

pub returns-clause-goes : goal.returns-clause-goes
returns-clause-goes g c = record {
  on = λ _. (tt, tt, omega (arith, ap length (first g c)));
  keeps = tt;
  rests = λ _. tt;
}
