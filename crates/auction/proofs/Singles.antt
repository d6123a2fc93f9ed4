-- A call has one answer, and leaves one market but for what the board shows.
use Rattle.std.proofs.Common.{◌≡◌, ℕ, ◌⊎◌, ℤ, ◌≤ℤ◌, Some, None, Option, sym, refl, ap, ◌∙◌, subst, inl, inr, arith}
use native.Mathlib.Decide.{ℕ_discrete}
use borrow.Author.Differences.{ints}
use Rattle.std.proofs.lemmas.Bool.{cases_order}
use Rattle.points.specs.Tables.{Table, Pays, Lawful}
use Rattle.points.specs.Nets.{scaled}
use Rattle.auction.specs.Markets.{Bid, Market}
use Rattle.auction.specs.Bids.{floor, NetsOther, SecondValue, BestBid, Hopeless}
use Rattle.auction.specs.Changes.{Counted, SamePhase, SameSeats, SameBids, BidSet, Alike}
use Rattle.auction.specs.Events.{Composed, Marked, Displaced, Landed, Outbid}
use Rattle.auction.specs.Laws as law
use Rattle.auction.proofs.Holders.{is_some, same_bid}
use Rattle.auction.proofs.Seeks.{Found, Answers, judged, seek, offer, answers}

second_le : (t : Table) (f : ℤ) (q : ℕ → ℕ) (i j : ℕ) (v w : ℤ) → SecondValue t f q i j v → SecondValue t f q i j w → v ≤ℤ w
second_le t f q i j v w x y = go x.reached
  where
    go : (v ≡ f) ⊎ NetsOther t q i j v → v ≤ℤ w
    go (inl e) = omega (arith, ints, e, y.over_floor)
    go (inr (k, r, a, n, e)) = omega (arith, ints, e, y.over_others k r a n)

module _ (t : Table) (m : Market) (q : ℕ → ℕ) (i : ℕ) where
  one_seat : (j k b c : ℕ) → BestBid t m q i j b → BestBid t m q i k c → j ≡ k
  one_seat j k b c x y =
      elim (cases_order j k) [
        | inl e ↦ e
        | inr s ↦ elim s [
          | inl h ↦ absurd (omega (arith, ints, y.best.lowest j x.points x.best.pays h, x.best.most k y.points y.best.pays))
          | inr h ↦ absurd (omega (arith, ints, x.best.lowest k y.points y.best.pays h, y.best.most j x.points x.best.pays))
        ]
      ]

  at_one_price : (j b c : ℕ) → BestBid t m q i j b → BestBid t m q i j c → b ≡ c
  at_one_price j b c x y =
      let a : Pays t i j x.points = x.best.pays in
      let d : Pays t i j y.points = y.best.pays in
      let same : x.points ≡ y.points = cc in
      omega (
        arith,
        ints,
        x.price,
        y.price,
        ap (scaled t.size) same,
        second_le t (floor t m) q i j x.second y.second x.value y.value,
        second_le t (floor t m) q i j y.second x.second y.value x.value,
      )

  one_price : (j k b c : ℕ) → BestBid t m q i j b → BestBid t m q i k c → b ≡ c
  one_price j k b c x y = at_one_price j b c x (subst (λ (z : ℕ). BestBid t m q i z c) (sym (one_seat j k b c x y)) y)

  not_both : (j b : ℕ) → BestBid t m q i j b → Hopeless t m q i → ⊥
  not_both j b x h = omega (arith, ints, x.above, h j x.points x.best.pays)

  one_or_none : Lawful t → ((j : ℕ) × (b : ℕ) × BestBid t m q i j b) ⊎ Hopeless t m q i
  one_or_none l = go (judged t m q i (seek t (floor t m) q i t.size)) (answers t m q i l)
    where
      go : (o : Option Found) → Answers t m q i o → ((j : ℕ) × (b : ℕ) × BestBid t m q i j b) ⊎ Hopeless t m q i
      go (Some x) h = inl (x.seat, offer t m q i x, h)
      go None h = inr h

pub bid_is_single : law.BidIsSingle
bid_is_single = record { seat = one_seat; price = one_price; apart = not_both; some = one_or_none }

-- two markets that come from one by the same change
module _ (m n o : Market) where
  counted_alike : (a b c d : ℕ) → Counted m n a b c d → Counted m o a b c d → Counted n o 0 0 0 0
  counted_alike a b c d x y = record {
    composed = omega (arith, x.composed, y.composed);
    accepted = omega (arith, x.accepted, y.accepted);
    outbid = omega (arith, x.outbid, y.outbid);
    recalled = omega (arith, x.recalled, y.recalled);
    allowance = y.allowance ∙ sym x.allowance;
  }

  phase_alike : SamePhase m n → SamePhase m o → SamePhase n o
  phase_alike x y = record {
    phase = y.phase ∙ sym x.phase;
    increment = y.increment ∙ sym x.increment;
    later = y.later ∙ sym x.later;
    high = y.high ∙ sym x.high;
  }

  seats_alike : SameSeats m n → SameSeats m o → SameSeats n o
  seats_alike x y = record {
    price = λ k. y.price k ∙ sym (x.price k);
    seat = λ i. y.seat i ∙ sym (x.seat i);
    accepted = y.accepted ∙ sym x.accepted;
  }

  bids_alike : (i : ℕ) (z : Option Bid) → BidSet m n i z → BidSet m o i z → SameBids n o
  bids_alike i z x y r = go (ℕ_discrete r i)
    where
      go : Dec (r ≡ i) → o.bid r ≡ n.bid r
      go (yes e) = ap o.bid e ∙ y.here ∙ sym x.here ∙ ap n.bid (sym e)
      go (no c) = y.other r c ∙ sym (x.other r c)

  composed_alike : (t : Table) (i j b : ℕ) → Composed t m n i j b → Composed t m o i j b → Alike n o
  composed_alike t i j b x y = record {
    counts = counted_alike 1 0 0 0 x.counts y.counts;
    phase = phase_alike x.phase y.phase;
    seats = seats_alike x.seats y.seats;
    bids = bids_alike i (Some (record { seat = j; price = b })) x.bids y.bids;
    mark = y.mark ∙ sym x.mark;
  }

  marked_alike : (t : Table) (i : ℕ) → Marked t m n i → Marked t m o i → Alike n o
  marked_alike t i x y = record {
    counts = counted_alike 0 0 0 0 x.counts y.counts;
    phase = phase_alike x.phase y.phase;
    seats = seats_alike x.seats y.seats;
    bids = λ r. y.bids r ∙ sym (x.bids r);
    mark = y.mark ∙ sym x.mark;
  }

  outbid_alike : (t : Table) (i j k p q : ℕ) → Outbid t m n i j p → Outbid t m o i k q → Alike n o
  outbid_alike t i j k p q x y = record {
    counts = counted_alike 0 0 1 0 x.counts y.counts;
    phase = phase_alike x.dropped.phase y.dropped.phase;
    seats = seats_alike x.dropped.seats y.dropped.seats;
    bids = bids_alike i None x.dropped.bids y.dropped.bids;
    mark = y.dropped.mark ∙ sym x.dropped.mark;
  }

  landed_alike : (t : Table) (i j b : ℕ) (d : Option ℕ) → Landed t m n i j b d → Landed t m o i j b d → Alike n o
  landed_alike t i j b d x y = record {
    counts = counted_alike 0 1 0 0 x.counts y.counts;
    phase = phase_alike x.phase y.phase;
    seats = record {
      price = λ k. price k (ℕ_discrete k j);
      seat = λ r. seat r (ℕ_discrete r i) (is_some d r);
      accepted = y.accepted ∙ sym x.accepted;
    };
    bids = bids_alike i None x.bids y.bids;
    mark = y.mark ∙ sym x.mark;
  }
    where
      price : (k : ℕ) → Dec (k ≡ j) → o.price k ≡ n.price k
      price k (yes e) = ap o.price e ∙ y.raised ∙ sym x.raised ∙ ap n.price (sym e)
      price k (no c) = y.prices k c ∙ sym (x.prices k c)

      seat : (r : ℕ) → Dec (r ≡ i) → Dec (d ≡ Some r) → o.seat r ≡ n.seat r
      seat r (yes e) f = ap o.seat e ∙ y.seated ∙ sym x.seated ∙ ap n.seat (sym e)
      seat r (no c) (yes f) = y.freed r f ∙ sym (x.freed r f)
      seat r (no c) (no f) = y.kept r c f ∙ sym (x.kept r c f)

pub composing_is_single : law.ComposingIsSingle
composing_is_single = record {
  composed = λ t m n o i j k b c x y.
      let p : j ≡ k = one_seat t m (m.shown i) i j k b c x.bid y.bid in
      let q : b ≡ c = one_price t m (m.shown i) i j k b c x.bid y.bid in
      let z : Composed t m o i j b = rw (p, q) y in
      (p, q, composed_alike m n o t i j b x z);
  apart = λ t m n o i j b x y. not_both t m (m.shown i) i j b x.bid y.hopeless;
  marked = λ t m n o i x y. marked_alike m n o t i x y;
}

same_option : (d e : Option ℕ) → ((r : ℕ) → d ≡ Some r → e ≡ Some r) → ((r : ℕ) → e ≡ Some r → d ≡ Some r) → d ≡ e
same_option None None f g = refl
same_option None (Some r) f g = g r refl
same_option (Some r) e f g = sym (f r refl)

one_displaced : (m : Market) (i j : ℕ) (d e : Option ℕ) → Displaced m i j d → Displaced m i j e → d ≡ e
one_displaced m i j d e x y =
    same_option d e (λ r h. let (c, g) = x.holds r h in y.named r c g) (λ r h. let (c, g) = y.holds r h in x.named r c g)

pub delivery_is_single : law.DeliveryIsSingle
delivery_is_single = record {
  landed = λ t m n o i j k b c d e x y.
      let (p, q) = same_bid j b k c (sym x.out ∙ y.out) in
      let u : Displaced m i j e = rw p y.displaced in
      let s : d ≡ e = one_displaced m i j d e x.displaced u in
      let z : Landed t m o i j b d = rw (p, q, s) y in
      (p, q, s, landed_alike m n o t i j b d x z);
  apart = λ t m n o i j k b p d x y.
      let (e, f) = same_bid j b k y.offer (sym x.out ∙ y.dropped.out) in
      omega (arith, x.enough, y.little, f, ap m.price e);
  outbid = λ t m n o i j k p q x y.
      let (e, f) = same_bid j x.offer k y.offer (sym x.dropped.out ∙ y.dropped.out) in
      (e, x.price ∙ ap m.price e ∙ sym y.price, outbid_alike m n o t i j k p q x y);
}
