-- Composing, marking, dropping and carrying keep the market sound.
use Rattle.std.proofs.Common.{◌≡◌, ℕ, ◌+◌, ◌*◌, ◌<◌, ◌≤◌, Some, None, Option, sym, refl, ap, ◌∙◌, subst, ap₂, arith}
use native.Mathlib.Decide.{ℕ_discrete}
use borrow.Author.Differences.{ints}
use Rattle.points.specs.Tables.{Table, Pays, Lawful}
use Rattle.points.specs.Plans.{FullPlan}
use Rattle.points.proofs.Sums.{sum_same, sum_set}
use Rattle.points.proofs.Scales.{worth}
use Rattle.auction.specs.Markets.{Bid, Market, ShownBelow, outs, bids_out}
use Rattle.auction.specs.Bids.{ceiling, cap}
use Rattle.auction.specs.Changes.{Counted, SamePhase, SameSeats, SameBids, BidSet, SameShown}
use Rattle.auction.specs.Events.{Composed, Marked, Dropped, Outbid, Recalled, Carried}
use Rattle.auction.specs.Runs.{FallsToOne}
use Rattle.auction.proofs.Sound.{Orderly, Standing, Balanced, MarkedRightly, AllStanding, Sound}
use Rattle.auction.proofs.Holders.{none_some, same_bid}
use Rattle.auction.proofs.Floors.{bid_capped, net_high}

-- how many bids are out, where they are the same, or one is set
outs_same : (t : Table) (m n : Market) → SameBids m n → bids_out t n ≡ bids_out t m
outs_same t m n e = sum_same t.size (λ i. outs (n.bid i)) (λ i. outs (m.bid i)) (λ r h. ap outs (e r))

pub outs_set : (t : Table) (m n : Market) (i : ℕ) (o : Option Bid) → i < t.size → BidSet m n i o → bids_out t n + outs (m.bid i) ≡ bids_out t m + outs o
outs_set t m n i o low e =
    omega (arith, sum_set t.size i (λ r. outs (m.bid r)) (λ r. outs (n.bid r)) low (λ r c. ap outs (e.other r c)), ap outs e.here)

pub balance_same : (t : Table) (m n : Market) → Counted m n 0 0 0 0 → SameBids m n → Balanced t m → Balanced t n
balance_same t m n c e h = omega (arith, c.composed, c.accepted, c.outbid, c.recalled, outs_same t m n e)

module _ (t : Table) (m n : Market) (p : SamePhase m n) where
  pub cap_same : cap t n ≡ cap t m
  unfolding cap
  cap_same = ap₂ (λ (h e : ℕ). h + t.size * (2 * ceiling t + e)) p.high p.increment

  pub ladder_same : FallsToOne m.increment m.later → FallsToOne n.increment n.later
  ladder_same h = rw (p.increment, p.later) h

  module _ (s : SameSeats m n) where
    orderly_same : Orderly t m → Orderly t n
    orderly_same o = record {
      allowed = λ i k h. o.allowed i k (sym (s.seat i) ∙ h);
      single = λ i j k h g. o.single i j k (sym (s.seat i) ∙ h) (sym (s.seat j) ∙ g);
      content = λ i j h k a b x y. omega (arith, ints, o.content i j (sym (s.seat i) ∙ h) k a b x y, s.price j, s.price k, p.increment);
      vacant = λ k low v. omega (arith, o.vacant k low (λ i h. v i (s.seat i ∙ h)), s.price k, p.high);
    }

    standing_same : (i j b : ℕ) → Standing t m i j b → Standing t n i j b
    standing_same i j b d = record {
      free = s.seat i ∙ d.free;
      points = d.points;
      pays = d.pays;
      capped = omega (arith, d.capped, cap_same);
      content = λ k r a c. omega (arith, ints, d.content k r a c, s.price k, p.increment);
    }

    -- what is left to show of an event that changes no seat and no price
    sound_same : Sound t m → AllStanding t n → Balanced t n → n.composed ≤ n.allowance → ShownBelow n → MarkedRightly t n → Sound t n
    sound_same d bids balance allowance shown marked = record {
      orderly = orderly_same d.orderly;
      bids = bids;
      capped = λ k low. omega (arith, d.capped k low, cap_same, s.price k);
      counted = omega (arith, d.counted, ap₂ ◌*◌ s.accepted p.increment, sum_same t.size n.price m.price (λ k l. s.price k));
      balance = balance;
      allowance = allowance;
      shown = shown;
      marked = marked;
      ladder = ladder_same d.ladder;
    }

    bids_kept : Sound t m → SameBids m n → AllStanding t n
    bids_kept d e i j b out = standing_same i j b (d.bids i j b (sym (e i) ∙ out))

    bids_set : Sound t m → (i : ℕ) (o : Option Bid) → BidSet m n i o → ((j b : ℕ) → o ≡ Some (record { seat = j; price = b }) → Standing t n i j b) → AllStanding t n
    bids_set d i o e new r j b out = go (ℕ_discrete r i)
      where
        go : Dec (r ≡ i) → Standing t n r j b
        go (yes q) = subst (λ (z : ℕ). Standing t n z j b) (sym q) (new j b (sym e.here ∙ ap n.bid (sym q) ∙ out))
        go (no c) = standing_same r j b (d.bids r j b (sym (e.other r c) ∙ out))

    shown_kept : Sound t m → SameShown m n → ShownBelow n
    shown_kept d e r k = omega (arith, e r k, d.shown r k, s.price k)

-- a mark that was there stands for the same
pub mark_kept : (t : Table) (m n : Market) → n.mark ≡ m.mark → MarkedRightly t m → MarkedRightly t n
mark_kept t m n e h i s = h i (sym e ∙ s)

module _ (t : Table) (m n : Market) (l : Lawful t) (d : Sound t m) where
  dropped : (i : ℕ) (x : Bid) → Dropped t m n i x → (c r : ℕ) → 1 ≡ c + r → Counted m n 0 0 c r → Sound t n
  dropped i y x c r one counts =
      sound_same t m n x.phase x.seats d
      (bids_set t m n x.phase x.seats d i None x.bids (λ j b e. none_some None (record { seat = j; price = b }) refl e))
      (omega (arith, d.balance, counts.composed, counts.accepted, counts.outbid, counts.recalled, outs_set t m n i None x.low x.bids, ap outs x.out))
      (omega (arith, d.allowance, counts.composed, counts.allowance))
      (shown_kept t m n x.phase x.seats d x.shown)
      (mark_kept t m n x.mark d.marked)

  pub outbid : (i j p : ℕ) → Outbid t m n i j p → Sound t n
  outbid i j p x = dropped i (record { seat = j; price = x.offer }) x.dropped 1 0 refl x.counts

  pub recalled : (i : ℕ) → Recalled t m n i → Sound t n
  recalled i x = dropped i x.bid x.dropped 0 1 refl x.counts

  pub carried : Carried m n → Sound t n
  carried x =
      sound_same t m n x.phase x.seats d
      (bids_kept t m n x.phase x.seats d x.bids)
      (balance_same t m n x.counts x.bids d.balance)
      (omega (arith, d.allowance, x.counts.composed, x.counts.allowance))
      x.shown
      (mark_kept t m n x.mark d.marked)

  pub marked : (i : ℕ) → Marked t m n i → Sound t n
  marked i x =
      sound_same t m n x.phase x.seats d
      (bids_kept t m n x.phase x.seats d x.bids)
      (balance_same t m n x.counts x.bids d.balance)
      (omega (arith, d.allowance, x.counts.composed, x.counts.allowance))
      (shown_kept t m n x.phase x.seats d x.shown)
      (λ r e π f. no_plan π f)
    where
      no_plan : (π : ℕ → ℕ) → FullPlan t π → ⊥
      no_plan π f =
          let (p, a) = worth t i (π i) (f.allowed i x.may.low) in
          omega (arith, ints, net_high t m π i l d.orderly f x.may.low x.may.free p a, x.hopeless (π i) p a, d.shown i (π i))

  pub composed : (i j b : ℕ) → Composed t m n i j b → Sound t n
  composed i j b x =
      sound_same t m n x.phase x.seats d
      (bids_set t m n x.phase x.seats d i (Some (record { seat = j; price = b })) x.bids new)
      (omega (arith, d.balance, c.composed, c.accepted, c.outbid, c.recalled, outs_set t m n i (Some (record { seat = j; price = b })) x.may.low x.bids, ap outs x.may.idle))
      (omega (arith, x.may.unspent, c.composed, c.allowance))
      (shown_kept t m n x.phase x.seats d x.shown)
      (mark_kept t m n x.mark d.marked)
    where
      c : Counted m n 1 0 0 0
      c = x.counts

      pays : Pays t i j x.bid.points
      pays = x.bid.best.pays

      low : b ≤ cap t m
      low = bid_capped t m l (omega (arith, x.may.low)) (m.shown i) i j b x.bid

      mine : Standing t n i j b
      mine = standing_same t m n x.phase x.seats i j b (record {
        free = x.may.free;
        points = x.bid.points;
        pays = pays;
        capped = low;
        content = λ k r a f. omega (arith, ints, x.bid.value.over_others k r a f, x.bid.price, d.shown i k);
      })

      new : (k a : ℕ) → ◌≡◌ {A = Option Bid} (Some (record { seat = j; price = b })) (Some (record { seat = k; price = a })) → Standing t n i k a
      new k a e = let (p, q) = same_bid j b k a e in rw (← p, ← q) mine
