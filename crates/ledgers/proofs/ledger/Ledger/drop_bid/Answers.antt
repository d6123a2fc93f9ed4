use Rattle.std.proofs.Common.{arith}
use Rattle.ledgers.proofs.Bids.{fit_none, waiting_none}
use Rattle.ledgers.proofs.Entries.{count_out}
use Rattle.ledgers.proofs.ledger.Ledger.drop_bid.Goals as goal

pub invariant_of-self-clause-fit : goal.invariant_of-self-clause-fit
invariant_of-self-clause-fit c = fit_none _ _ _ _ c.args.self.now.fit

pub invariant_of-self-clause-waiting : goal.invariant_of-self-clause-waiting
invariant_of-self-clause-waiting c = waiting_none _ _ _ c.args.self.now.waiting

pub invariant_of-self-clause-balanced : goal.invariant_of-self-clause-balanced
invariant_of-self-clause-balanced c = omega (arith, count_out c.args.self.now.book.bids c.args.run c.requires.out, c.args.self.now.balanced)
