-- The offer on what a search found is the run's bid by the rules.
use Rattle.std.proofs.Common.{◌≡◌, ℕ, ◌≤◌, Bool, true, false, cond, ℤ, pos, ◌+ℤ◌, ◌-ℤ◌, neg_ℤ, ◌≤ℤ◌, Some, None, Option, refl, subst, arith}
use mathlib.Core.Path.{fun_ext}
use borrow.Author.Differences.{ints, lt-true, lt-false}
use lib.Signed.{lt_z}
use Rattle.points.specs.Tables.{Table, Lawful}
use Rattle.points.specs.Nets.{scaled, net}
use Rattle.boards.specs.Faces.{Face}
use Rattle.bidding.specs.declared.terms.Terms.{Terms}
use Rattle.bidding.specs.declared.sought.Sought.{Sought}
use Rattle.bidding.specs.declared.sought.Offer.{Offer}
use Rattle.auction.specs.Markets.{Market}
use Rattle.auction.specs.Bids.{ceiling, floor, SecondValue}
use Rattle.auction.specs.Limits.{increment_limit}
use Rattle.bidding.specs.Depths.{ceiling_limit, depth_limit}
use Rattle.bidding.specs.Searches.{TermsOf, terms_floor, limited_to, ShownBehind, ToldWithin, LimitChangesNothing, Seeks, priced, offered, Composes}
use Rattle.auction.proofs.Holders.{none_some}
use Rattle.auction.proofs.Floors.{under_ceiling}
use Rattle.auction.proofs.Seeks.{second_low}
use Rattle.bidding.proofs.Deep.{terms_floor_lem, depth_low, ceiling_low}

pub limit_idle : LimitChangesNothing
limit_idle f behind within i k = grind arith

-- the price of a bid, where the second value is at most the scaled points and neither is far from 0
priced_is : (u w : ℤ) (e : ℕ) → w ≤ℤ u → u ≤ℤ pos ceiling_limit → neg_ℤ (pos depth_limit) ≤ℤ w → e ≤ increment_limit → pos (priced u w e) ≡ ((u -ℤ w) +ℤ pos e)
priced_is u w e low high deep small = omega (arith, ints)

module _ (t : Table) (l : Lawful t) (m : Market) (q : ℕ → ℕ) (i : ℕ) (x : Terms) (of : TermsOf t m x) where
  offered_is : (o : Option Sought) → Seeks t (terms_floor x) q i o → Composes t m q i (offered (terms_floor x) x.increment o)
  offered_is None none = λ k r a. none_some (t.points i k) r (none k) a
  offered_is (Some s) found = go (lt_z s.net (terms_floor x)) refl
    where
      same : terms_floor x ≡ floor t m
      same = terms_floor_lem t m x of

      go : (b : Bool) → lt_z s.net (terms_floor x) ≡ b → Composes t m q i (cond b None (Some (record { seat = s.seat; price = priced s.worth s.second x.increment })))
      go true e = λ k r a. omega (arith, ints, found.best.most k r a, lt-true s.net (terms_floor x) e, found.net, same)
      go false e =
          let above : floor t m ≤ℤ net t.size found.points (q s.seat) = omega (arith, ints, lt-false s.net (terms_floor x) e, found.net, same) in
          let value : SecondValue t (floor t m) q i s.seat s.second = subst (λ (z : ℤ). SecondValue t z q i s.seat s.second) same found.second in
          let low : s.second ≤ℤ net t.size found.points (q s.seat) = second_low t (floor t m) q i s.seat found.points s.second found.best value above in
          let high : scaled t.size found.points ≤ℤ pos (ceiling t) = under_ceiling t l i s.seat found.points found.best.pays in
          let price : pos (priced s.worth s.second x.increment) ≡ ((s.worth -ℤ s.second) +ℤ pos x.increment) =
          priced_is s.worth s.second x.increment (omega (arith, ints, low, found.worth)) (omega (arith, ints, high, ceiling_low t m x of, found.worth)) (omega (arith, ints, depth_low x, found.second.over_floor)) x.small in
          record {
            points = found.points;
            best = found.best;
            above = above;
            second = s.second;
            value = value;
            price = omega (arith, ints, price, found.worth, of.increment);
          }

  pub composed : (o : Option Sought) (r : Option Offer) → r ≡ offered (terms_floor x) x.increment o → Seeks t (terms_floor x) q i o → Composes t m q i r
  composed o r e found = rw e (offered_is o found)

-- where no told price is over the limit, what is found is found at the shown prices
pub at_shown : (t : Table) (z : ℤ) (f : Face) (i : ℕ) (o : Option Sought) → ShownBehind f → ToldWithin f → Seeks t z (limited_to f i) i o → Seeks t z (f.shown i) i o
at_shown t z f i o behind within h =
    let e : limited_to f i ≡ f.shown i = fun_ext (limit_idle f behind within i) in
    subst (λ (q : ℕ → ℕ). Seeks t z q i o) e h
