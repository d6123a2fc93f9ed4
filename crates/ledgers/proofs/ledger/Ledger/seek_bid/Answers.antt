use Rattle.std.proofs.Common.{ℕ, sym, ◌∙◌}
use Rattle.bidding.specs.Searches.{TermsOf}
use Rattle.ledgers.specs.Ledgers.{view_of}
use Rattle.ledgers.proofs.ledger.Ledger.seek_bid.Given.{Over}
use Rattle.ledgers.proofs.ledger.Ledger.seek_bid.Goals as goal

terms_of : (g : Over) (c : goal.After-compose_bid g) (shown : ℕ → ℕ → ℕ) → TermsOf (g.S.PairSource.table c.args.source.now) (view_of c.args.self.now.book shown) c.terms-terms.result
terms_of g c shown =
    let x = c.terms-terms.ensures in record {
      size = x.size ∙ sym c.requires;
      top = x.top ∙ c.limit.ensures ∙ sym (g.met.S.PairSource.topped c.args.source.now);
      increment = x.increment;
      high = x.high;
    }

pub returns : goal.returns
returns g c = record {
  limited = λ shown. c.compose_bid.ensures.limited (view_of c.args.self.now.book shown) (terms_of g c shown);
  shown = λ sound within shown. c.compose_bid.ensures.shown sound within (view_of c.args.self.now.book shown) (terms_of g c shown);
}
