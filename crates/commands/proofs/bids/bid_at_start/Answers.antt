use Rattle.std.proofs.Common.{◌≡◌, ℕ, min, ℤ, refl, sym, ap, ◌∙◌, subst, ap₂, arith}
use borrow.Author.Differences.{ints}
use Rattle.points.specs.Limits.{price_limit}
use Rattle.points.specs.Tables.{Table}
use Rattle.boards.specs.Commons.{common_face}
use Rattle.boards.specs.Faces.{Face, Cleared}
use Rattle.bidding.specs.Depths.{floor_of}
use Rattle.auction.specs.Markets.{Market}
use Rattle.bidding.specs.Searches.{HasTerms, TermsOf, terms_floor, limited_to, Finds}
use Rattle.bidding.specs.declared.terms.Terms.{Terms}
use Rattle.commands.specs.FirstBids.{Fresh, FreePrices}
use Rattle.commands.proofs.bids.bid_at_start.Goals as goal

zero : (f : Face) (n : ℕ) → Cleared n f → (i : ℕ) → FreePrices (limited_to f i)
zero f n c i k = ap (λ (x : ℕ). min x price_limit) (c.unshown i k)

terms_of : (t : Table) (x : Terms) → HasTerms t.size t.top 1 0 x → (m : Market) → Fresh m → TermsOf t m x
terms_of t x h m f = record { size = h.size; top = h.top; increment = h.increment ∙ sym f.increment; high = h.high ∙ sym f.high }

floor_is : (t : Table) (x : Terms) → HasTerms t.size t.top 1 0 x → terms_floor x ≡ floor_of t.size t.top 1 0
floor_is t x h =
    ap₂ (λ (n c : ℕ). floor_of n c x.increment x.high) h.size h.top ∙ ap₂ (λ (e m : ℕ). floor_of t.size t.top e m) h.increment h.high

pub returns-in_err-offer : goal.returns-in_err-offer
returns-in_err-offer g c =
    let t : Table = g.S.PairSource.table c.args.source.now in
    let f : Face = common_face c.new-board.result in
    rw c.from_residual.ensures
    (limited_to f c.args.run, zero f 0 c.new-board.ensures c.args.run, λ m h. c.in_err-offer.ensures.limited m (terms_of t c.args.terms.now c.requires m h))

pub returns : goal.returns
returns g c =
    let t : Table = g.S.PairSource.table c.args.source.now in
    let f : Face = common_face c.new-board.result in
    let x : Terms = c.args.terms.now in
    let q : ℕ → ℕ = limited_to f c.args.run in (
      q,
      record {
        run = refl;
        free = zero f 0 c.new-board.ensures c.args.run;
        bid = λ m h. c.in_ok-offer.ensures.limited m (terms_of t x c.requires m h);
        sought = c.in_ok-best.best;
        finds = subst (λ (z : ℤ). Finds t z q c.args.run c.in_ok-best.best) (floor_is t x c.requires) (c.in_ok-best.ensures.limited c.requires.size);
        net = omega (arith, ints);
        second = omega (arith, ints);
      },
    )
