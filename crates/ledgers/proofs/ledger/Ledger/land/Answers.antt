use Rattle.std.proofs.Common.{◌∙◌, arith, rules}
use Rattle.ledgers.proofs.Bids.{fit_none}
use Rattle.ledgers.proofs.Entries.{count_most, count_none}
use Rattle.ledgers.proofs.Landings.{Takes, waiting_landed, runs_landed, places_landed, held_landed, holding_landed, long_landed, priced_landed, filled_landed}
use Rattle.ledgers.proofs.Views.{lands_view}
use Rattle.ledgers.proofs.ledger.Ledger.land.Goals as goal

pub seated_after-self-requires : goal.seated_after-self-requires
seated_after-self-requires c =
    let s = c.args.self.now in
    omega (arith, count_most s.book.seats s.book.conditions.size (λ a y q. (s.places a y q).0), s.filled, s.sized.1)

pub invariant_of-self : goal.invariant_of-self
invariant_of-self c =
    let s = c.args.self.now in
    let f : Takes s c.args.run c.args.bid c.from-seat.result c.free.new.seats c.raise.new.prices = record { bid = c.requires.bid; seat = c.from-seat.ensures; seats = c.free.ensures; prices = c.raise.ensures } in
    record {
      whole = search rules;
      long = (long_landed f ∙ s.long.0, s.long.1);
      sized = s.sized;
      phased = s.phased;
      small = s.small;
      priced = priced_landed f;
      high = s.high;
      fit = fit_none _ _ _ _ s.fit;
      waiting = waiting_landed f;
      runs = runs_landed f;
      places = places_landed f;
      held = held_landed f;
      holding = holding_landed f;
      filled = c.seated_after-self.ensures ∙ filled_landed f;
      balanced = omega (arith, count_none s.book.bids c.args.run c.args.bid c.requires.bid.out, s.balanced);
      within = search rules;
    }

pub returns : goal.returns
returns c =
    let s = c.args.self.now in
    let f : Takes s c.args.run c.args.bid c.from-seat.result c.free.new.seats c.raise.new.prices = record { bid = c.requires.bid; seat = c.from-seat.ensures; seats = c.free.ensures; prices = c.raise.ensures } in
    lands_view f c.seated_after-self.result _ c.wide.ensures c.requires.enough
