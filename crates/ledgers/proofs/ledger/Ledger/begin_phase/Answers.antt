use Rattle.std.proofs.Common.{ℕ, None, Option, ap, is_some, arith}
use Rattle.points.specs.Limits.{size_limit}
use Rattle.ledgers.proofs.Entries.{same, empty_some}
use Rattle.ledgers.proofs.Views.{advances_view}
use Rattle.ledgers.proofs.ledger.Ledger.begin_phase.Goals as goal

pub invariant_of-self-clause-high : goal.invariant_of-self-clause-high
invariant_of-self-clause-high c =
    let top = c.highest-high.ensures in
    rw c.begin_phase.ensures (omega (arith, c.args.self.now.priced top.reached.0, top.reached.2))

pub invariant_of-self-clause-small : goal.invariant_of-self-clause-small
invariant_of-self-clause-small c = rw c.begin_phase.ensures c.args.self.now.small

pub invariant_of-self-clause-priced : goal.invariant_of-self-clause-priced
invariant_of-self-clause-priced c = rw c.begin_phase.ensures (λ k. omega (arith, c.args.self.now.priced k))

pub invariant_of-self-clause-balanced : goal.invariant_of-self-clause-balanced
invariant_of-self-clause-balanced c = rw c.begin_phase.ensures c.args.self.now.balanced

pub invariant_of-self-clause-fit : goal.invariant_of-self-clause-fit
invariant_of-self-clause-fit c = rw c.begin_phase.ensures (λ i x e. let f = c.args.self.now.fit i x e in (f.0, omega (arith, f.1)))

pub invariant_of-self-clause-waiting : goal.invariant_of-self-clause-waiting
invariant_of-self-clause-waiting c = rw c.begin_phase.ensures (λ i x e. ap is_some (same {A = Option ℕ} size_limit None i))

pub invariant_of-self-clause-runs : goal.invariant_of-self-clause-runs
invariant_of-self-clause-runs c = rw c.begin_phase.ensures (λ i x e. empty_some size_limit i x e)

pub invariant_of-self-clause-places : goal.invariant_of-self-clause-places
invariant_of-self-clause-places c = rw c.begin_phase.ensures (λ i x e. empty_some size_limit i x e)

pub invariant_of-self-clause-held : goal.invariant_of-self-clause-held
invariant_of-self-clause-held c = rw c.begin_phase.ensures (λ i x e. empty_some size_limit i x e)

pub invariant_of-self-clause-holding : goal.invariant_of-self-clause-holding
invariant_of-self-clause-holding c = rw c.begin_phase.ensures (λ i x e. empty_some size_limit i x e)

pub returns : goal.returns
returns c = rw c.begin_phase.ensures (advances_view c.args.self.now c.highest-high.result c.requires c.highest-high.ensures)
