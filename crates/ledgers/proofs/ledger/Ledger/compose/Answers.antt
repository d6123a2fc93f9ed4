use Rattle.std.proofs.Common.{ℕ, ◌≤◌, Some, None, sym, ◌∙◌, subst, inr, arith}
use Rattle.fault.specs.Checks.{Passes}
use Rattle.points.specs.Limits.{top_limit}
use Rattle.bidding.specs.Searches.{limited_to}
use Rattle.ledgers.specs.Ledgers.{unshown}
use Rattle.ledgers.specs.Composing.{composing_checks, OffersIn, BidComposed, RunMarked}
use Rattle.ledgers.proofs.Offers.{offer_fits}
use Rattle.ledgers.proofs.ledger.Ledger.compose.Given.{Over}
use Rattle.ledgers.proofs.ledger.Ledger.compose.Goals as goal

pub place-requires : goal.place-requires
place-requires g c =
    let s = c.args.source.now in
    let ready = c.in_ok-check_composing.ensures.ready in
    let low : (g.S.PairSource.table s).top ≤ top_limit = omega (arith, g.met.S.PairSource.topped s, g.met.S.PairSource.limits.1) in
    record {
      ready = ready.1;
      fit = offer_fits (g.S.PairSource.table s) c.args.self.now unshown (limited_to (g.B.PriceBoard.face c.args.board.now) c.args.run) c.args.run c.in-Some.offer.seat c.in-Some.offer.price (g.met.S.PairSource.lawful s) low (sym c.size.ensures ∙ ready.0) (c.in-Some.ensures.limited unshown);
    }

-- the bid that is found at the prices that a board shows is composed beside it
bid_composed : (g : Over) (c : goal.After-place g) (shown : ℕ → ℕ → ℕ) → OffersIn (g.S.PairSource.table c.args.source.now) c.args.self.now.book (shown c.args.run) c.args.run (Some c.in-Some.offer) → BidComposed (g.S.PairSource.table c.args.source.now) shown c.args.self.now.book c.place.new.self.book c.args.run c.in-Some.offer
bid_composed g c shown found =
    let tested = c.in_ok-check_composing.ensures in
    record {
      passes = subst (λ (n : ℕ). Passes (composing_checks n c.args.self.now.book c.args.run)) c.size.ensures tested.is;
      same = c.place.ensures.0;
      event = c.place.ensures.1 (g.S.PairSource.table c.args.source.now) shown (sym c.size.ensures ∙ tested.ready.0) (found shown);
    }

pub returns-in-Some : goal.returns-in-Some
returns-in-Some g c =
    let f = g.B.PriceBoard.face c.args.board.now in
    record {
      limited = bid_composed g c (limited_to f) c.in-Some.ensures.limited;
      shown = λ sound within. bid_composed g c f.shown (c.in-Some.ensures.shown sound within);
    }

-- the run that is hopeless at the prices that a board shows is marked beside it
run_marked : (g : Over) (c : goal.After-mark g) (shown : ℕ → ℕ → ℕ) → OffersIn (g.S.PairSource.table c.args.source.now) c.args.self.now.book (shown c.args.run) c.args.run None → RunMarked (g.S.PairSource.table c.args.source.now) shown c.args.self.now.book c.mark.new.self.book c.args.run c.run_fault-fault.result
run_marked g c shown none =
    let tested = c.in_ok-check_composing.ensures in
    record {
      passes = subst (λ (n : ℕ). Passes (composing_checks n c.args.self.now.book c.args.run)) c.size.ensures tested.is;
      same = c.mark.ensures.0;
      event = c.mark.ensures.1 (g.S.PairSource.table c.args.source.now) shown (sym c.size.ensures ∙ tested.ready.0) (none shown);
      fault = c.run_fault-fault.ensures;
    }

pub returns-in-None : goal.returns-in-None
returns-in-None g c =
    let f = g.B.PriceBoard.face c.args.board.now in
    record {
      limited = inr (run_marked g c (limited_to f) c.in-None.ensures.limited);
      shown = λ sound within. inr (run_marked g c f.shown (c.in-None.ensures.shown sound within));
    }
