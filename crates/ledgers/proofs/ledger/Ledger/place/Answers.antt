use Rattle.std.proofs.Common.{arith}
use Rattle.ledgers.specs.declared.books.Bid.{Bid}
use Rattle.ledgers.proofs.Bids.{fit_some, waiting_some}
use Rattle.ledgers.proofs.Entries.{count_some}
use Rattle.ledgers.proofs.ledger.Ledger.place.Goals as goal

pub invariant_of-self-clause-fit : goal.invariant_of-self-clause-fit
invariant_of-self-clause-fit c = fit_some _ _ _ _ _ c.args.self.now.fit c.requires.fit

pub invariant_of-self-clause-waiting : goal.invariant_of-self-clause-waiting
invariant_of-self-clause-waiting c = waiting_some _ _ _ _ c.args.self.now.waiting c.requires.ready.free

pub invariant_of-self-clause-balanced : goal.invariant_of-self-clause-balanced
invariant_of-self-clause-balanced c = rw c.with_composed-self.ensures (
    let s = c.args.self.now in
    let x : Bid = record { seat = c.args.offer.seat; price = c.args.offer.price } in
    omega (arith, count_some s.book.bids c.args.run x (omega (arith, c.requires.ready.low, s.sized.1, s.whole.2)) c.requires.ready.idle, s.balanced))
