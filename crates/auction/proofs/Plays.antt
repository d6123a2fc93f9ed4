-- Events as a computation: when one can follow, and the market that it leaves on a board that lags until it settles.
use Rattle.std.proofs.Common.{◌≡◌, ℕ, zero, suc, ◌+◌, ◌<◌, ◌≤◌, Bool, true, false, cond, ◌&&◌, eqb, ltb, leb, ◌⊎◌, List, [], ◌∷◌, is_some, Some, None, Option, sym, refl, ap, ◌∙◌, subst, inl, inr, arith}
use Rattle.std.proofs.lemmas.Bool.{eqb-true, ltb-true, leb-true, and_parts, both_ways, cond-true, cond-false, cases_eq}
use Rattle.points.specs.Tables.{Table, Lawful}
use Rattle.auction.specs.Markets.{Bid, Market, Holds, Out, AllSeated}
use Rattle.auction.specs.Bids.{floor, BestBid, Hopeless}
use Rattle.auction.specs.Changes.{Counted, SamePhase, SameSeats, BidSet}
use Rattle.auction.specs.Events.{MayBid, Composed, Marked, Displaced, Landed, Dropped, Outbid, Recalled, Carried, Advanced, Event, composed, marked, landed, outbid, recalled, carried, settled, advanced, Step}
use Rattle.auction.proofs.Seeks.{Found, offer, judged, Answers, seek, answers}
use Rattle.auction.proofs.Puts.{put, put_here, put_other, is_none, has, none_of, some_of, true_has, false_has, alike, alike_true}
use Rattle.auction.proofs.Displaces.{holder, Playable, displaced}
use Rattle.auction.proofs.Heights.{highest, highest_is}

-- the first n runs hold seats
abbrev pub seated : Market → ℕ → Bool
seated m zero = true
seated m (suc n) = is_some (m.seat n) && seated m n

pub seated_all : (m : Market) (n : ℕ) → seated m n ≡ true → (i : ℕ) → i < n → (k : ℕ) × Holds m i k
seated_all m zero e i h = absurd (omega arith)
seated_all m (suc n) e i h = go (seated_all m n) (and_parts _ _ e) (cases_eq i n)
  where
    go : (seated m n ≡ true → (i : ℕ) → i < n → (k : ℕ) × Holds m i k) → (is_some (m.seat n) ≡ true) × (seated m n ≡ true) → (i ≡ n) ⊎ (i ≡ n → ⊥) → (k : ℕ) × Holds m i k
    go ih (a, b) (inl f) = let (k, s) = some_of (m.seat n) a in (k, ap m.seat f ∙ s)
    go ih (a, b) (inr c) = ih b i (omega arith)

-- a market with other bids, shown prices and mark, and so many bids more composed, outbid and recalled
abbrev pub kept_with : Market → (ℕ → Option Bid) → (ℕ → ℕ → ℕ) → Option ℕ → ℕ → ℕ → ℕ → Market
kept_with m bids shown mark a b c = record {
  price = m.price;
  seat = m.seat;
  bid = bids;
  shown = shown;
  mark = mark;
  phase = m.phase;
  increment = m.increment;
  later = m.later;
  high = m.high;
  composed = m.composed + a;
  accepted = m.accepted;
  outbid = m.outbid + b;
  recalled = m.recalled + c;
  phase_accepted = m.phase_accepted;
  allowance = m.allowance;
}

abbrev pub landed_with : Market → ℕ → ℕ → ℕ → Option ℕ → Market
landed_with m i j b d = record {
  price = put m.price j b;
  seat = put (λ r. cond (has d r) None (m.seat r)) i (Some j);
  bid = put m.bid i None;
  shown = m.shown;
  mark = m.mark;
  phase = m.phase;
  increment = m.increment;
  later = m.later;
  high = m.high;
  composed = m.composed;
  accepted = m.accepted + 1;
  outbid = m.outbid;
  recalled = m.recalled;
  phase_accepted = m.phase_accepted + 1;
  allowance = m.allowance;
}

abbrev pub advanced_with : Table → Market → List ℕ → Market
advanced_with t m [] = m
advanced_with t m (e ∷ es) = record {
  price = m.price;
  seat = λ i. None;
  bid = m.bid;
  shown = m.shown;
  mark = m.mark;
  phase = m.phase + 1;
  increment = e;
  later = es;
  high = highest m.price t.size;
  composed = m.composed;
  accepted = m.accepted;
  outbid = m.outbid;
  recalled = m.recalled;
  phase_accepted = 0;
  allowance = m.allowance;
}

-- the market that an event leaves
abbrev pub next : Table → Event → Market → Market
next t (composed i j b) m = kept_with m (put m.bid i (Some (record { seat = j; price = b }))) m.shown m.mark 1 0 0
next t (marked i) m = kept_with m m.bid m.shown (Some i) 0 0 0
next t (landed i j b d) m = landed_with m i j b d
next t (outbid i j p) m = kept_with m (put m.bid i None) m.shown m.mark 0 1 0
next t (recalled i) m = kept_with m (put m.bid i None) m.shown m.mark 0 0 1
next t carried m = kept_with m m.bid m.shown m.mark 0 0 0
next t settled m = kept_with m m.bid (λ i k. m.price k) m.mark 0 0 0
next t advanced m = advanced_with t m m.later

abbrev pub may : Table → Market → ℕ → Bool
may t m i = ltb i t.size && (is_none m.mark && (is_none (m.seat i) && (is_none (m.bid i) && ltb m.composed m.allowance)))

-- what run i's search comes to
abbrev pub sought : Table → Market → ℕ → Option Found
sought t m i = judged t m (m.shown i) i (seek t (floor t m) (m.shown i) i t.size)

abbrev pub bidden : Table → Market → ℕ → ℕ → ℕ → Option Found → Bool
bidden t m i j b None = false
bidden t m i j b (Some x) = eqb x.seat j && eqb (offer t m (m.shown i) i x) b

abbrev pub lands : Market → ℕ → ℕ → Option Bid → Bool
lands m j b None = false
lands m j b (Some x) = eqb x.seat j && (eqb x.price b && leb (m.price j + m.increment) b)

abbrev pub falls_short : Market → ℕ → ℕ → Option Bid → Bool
falls_short m j p None = false
falls_short m j p (Some x) = eqb x.seat j && (eqb p (m.price j) && ltb x.price (m.price j + m.increment))

abbrev pub more_phases : List ℕ → Bool
more_phases [] = false
more_phases (e ∷ es) = true

-- the event can follow
abbrev pub follows : Table → Event → Market → Bool
follows t (composed i j b) m = may t m i && bidden t m i j b (sought t m i)
follows t (marked i) m = may t m i && is_none (sought t m i)
follows t (landed i j b d) m = ltb i t.size && (is_none m.mark && (alike d (holder m i j t.size) && lands m j b (m.bid i)))
follows t (outbid i j p) m = ltb i t.size && (is_none m.mark && falls_short m j p (m.bid i))
follows t (recalled i) m = ltb i t.size && is_some (m.bid i)
follows t carried m = true
follows t settled m = true
follows t advanced m = ltb 0 t.size && (is_none m.mark && (seated m t.size && more_phases m.later))

module _ (t : Table) (m : Market) where
  bids_put : (i : ℕ) (o : Option Bid) (shown : ℕ → ℕ → ℕ) (mark : Option ℕ) (a b c : ℕ) → BidSet m (kept_with m (put m.bid i o) shown mark a b c) i o
  bids_put i o shown mark a b c = record { here = put_here m.bid i o; other = λ r n. put_other m.bid i o r n }

  module _ (bids : ℕ → Option Bid) (shown : ℕ → ℕ → ℕ) (mark : Option ℕ) (a b c : ℕ) where
    phase_kept : SamePhase m (kept_with m bids shown mark a b c)
    phase_kept = record { phase = refl; increment = refl; later = refl; high = refl }

    seats_kept : SameSeats m (kept_with m bids shown mark a b c)
    seats_kept = record { price = λ k. refl; seat = λ i. refl; accepted = refl }

    counts_kept : Counted m (kept_with m bids shown mark a b c) a 0 b c
    counts_kept = record { composed = refl; accepted = omega arith; outbid = refl; recalled = refl; allowance = refl }

  may_bid : (i : ℕ) → may t m i ≡ true → MayBid t m i
  may_bid i e =
      let (low, e₁) = and_parts _ _ e in
      let (unmarked, e₂) = and_parts _ _ e₁ in
      let (free, e₃) = and_parts _ _ e₂ in
      let (idle, unspent) = and_parts _ _ e₃ in
      record {
        low = ltb-true i t.size low;
        unmarked = none_of m.mark unmarked;
        free = none_of (m.seat i) free;
        idle = none_of (m.bid i) idle;
        unspent = ltb-true m.composed m.allowance unspent;
      }

  -- a run that may bid composes the bid that fits, or is marked where it is hopeless
  pub composing : (i j b : ℕ) → MayBid t m i → BestBid t m (m.shown i) i j b → Composed t m (next t (composed i j b) m) i j b
  composing i j b h y =
      let x : Bid = record { seat = j; price = b } in
      let bids : ℕ → Option Bid = put m.bid i (Some x) in
      record {
        may = h;
        bid = y;
        counts = counts_kept bids m.shown m.mark 1 0 0;
        phase = phase_kept bids m.shown m.mark 1 0 0;
        seats = seats_kept bids m.shown m.mark 1 0 0;
        bids = bids_put i (Some x) m.shown m.mark 1 0 0;
        shown = λ r k. refl;
        mark = refl;
      }

  pub marking : (i : ℕ) → MayBid t m i → Hopeless t m (m.shown i) i → Marked t m (next t (marked i) m) i
  marking i h y = record {
    may = h;
    hopeless = y;
    counts = counts_kept m.bid m.shown (Some i) 0 0 0;
    phase = phase_kept m.bid m.shown (Some i) 0 0 0;
    seats = seats_kept m.bid m.shown (Some i) 0 0 0;
    bids = λ r. refl;
    shown = λ r k. refl;
    mark = refl;
  }

  bidden_fits : (i j b : ℕ) (o : Option Found) → Answers t m (m.shown i) i o → bidden t m i j b o ≡ true → BestBid t m (m.shown i) i j b
  bidden_fits i j b None h f = absurd (both_ways false refl f)
  bidden_fits i j b (Some x) h f =
      let (p, q) = and_parts _ _ f in
      let p' : j ≡ x.seat = sym (eqb-true x.seat j p) in
      let q' : b ≡ offer t m (m.shown i) i x = sym (eqb-true (offer t m (m.shown i) i x) b q) in
      rw (p', q') h

  none_fits : (i : ℕ) (o : Option Found) → Answers t m (m.shown i) i o → is_none o ≡ true → Hopeless t m (m.shown i) i
  none_fits i None h f = h
  none_fits i (Some x) h f = absurd (both_ways false refl f)

  -- a bid that is high enough lands, whatever the board does
  pub landing : Playable t m → (i j b : ℕ) (d : Option ℕ) → i < t.size → m.mark ≡ None → Out m i j b → m.price j + m.increment ≤ b → holder m i j t.size ≡ d → Landed t m (landed_with m i j b d) i j b d
  landing p i j b d low unmarked out enough e = record {
    low = low;
    unmarked = unmarked;
    out = out;
    enough = enough;
    counts = record { composed = omega arith; accepted = refl; outbid = omega arith; recalled = omega arith; allowance = refl };
    phase = record { phase = refl; increment = refl; later = refl; high = refl };
    accepted = refl;
    raised = put_here m.price j b;
    prices = λ k n. put_other m.price j b k n;
    displaced = gone;
    seated = put_here others i (Some j);
    freed = λ r f. put_other others i (Some j) r (gone.holds r f).0 ∙ cond-true (has d r) None (m.seat r) (true_has d r f);
    kept = λ r n f. put_other others i (Some j) r n ∙ cond-false (has d r) None (m.seat r) (false_has d r f);
    bids = record { here = put_here m.bid i None; other = λ r n. put_other m.bid i None r n };
    shown = λ r k. elim (cases_eq k j) [
      | inl f ↦ omega (arith, p.shown r k, ap m.price f, ap (put m.price j b) f, put_here m.price j b)
      | inr c ↦ omega (arith, p.shown r k, put_other m.price j b k c)
    ];
    mark = refl;
  }
    where
      others : ℕ → Option ℕ
      others r = cond (has d r) None (m.seat r)

      gone : Displaced m i j d
      gone = subst (Displaced m i j) e (displaced m i j t p)

  out_of : (o : Option Bid) (i j b : ℕ) → m.bid i ≡ o → lands m j b o ≡ true → Out m i j b × (m.price j + m.increment ≤ b)
  out_of None i j b e f = absurd (both_ways false refl f)
  out_of (Some x) i j b e f =
      let (p, f₁) = and_parts _ _ f in
      let (q, r) = and_parts _ _ f₁ in
      let p' : j ≡ x.seat = sym (eqb-true x.seat j p) in
      let q' : b ≡ x.price = sym (eqb-true x.price b q) in
      let out : m.bid i ≡ Some (record { seat = j; price = b }) = rw (p', q') e in
      (out, leb-true (m.price j + m.increment) b r)

  drops : (i : ℕ) (x : Bid) (b c : ℕ) → i < t.size → m.bid i ≡ Some x → Dropped t m (kept_with m (put m.bid i None) m.shown m.mark 0 b c) i x
  drops i x b c low out = record {
    low = low;
    out = out;
    phase = phase_kept (put m.bid i None) m.shown m.mark 0 b c;
    seats = seats_kept (put m.bid i None) m.shown m.mark 0 b c;
    bids = bids_put i None m.shown m.mark 0 b c;
    shown = λ r k. refl;
    mark = refl;
  }

  -- a bid that is too low is outbid
  pub outbidding : (i j b : ℕ) → i < t.size → m.mark ≡ None → Out m i j b → b < m.price j + m.increment → Outbid t m (next t (outbid i j (m.price j)) m) i j (m.price j)
  outbidding i j b low unmarked out little = record {
    unmarked = unmarked;
    offer = b;
    dropped = drops i (record { seat = j; price = b }) 1 0 low out;
    price = refl;
    little = little;
    counts = counts_kept (put m.bid i None) m.shown m.mark 0 1 0;
  }

  short_outbid : (i j p : ℕ) (o : Option Bid) → m.bid i ≡ o → i < t.size → m.mark ≡ None → falls_short m j p o ≡ true → Outbid t m (next t (outbid i j p) m) i j p
  short_outbid i j p None out low unmarked f = absurd (both_ways false refl f)
  short_outbid i j p (Some x) out low unmarked f =
      let (a, f₁) = and_parts _ _ f in
      let (q, r) = and_parts _ _ f₁ in
      let s : j ≡ x.seat = sym (eqb-true x.seat j a) in
      let here : Out m i j x.price = rw s out in
      rw (eqb-true p (m.price j) q) (outbidding i j x.price low unmarked here (ltb-true x.price (m.price j + m.increment) r))

  recalls : (i : ℕ) → follows t (recalled i) m ≡ true → Recalled t m (next t (recalled i) m) i
  recalls i e =
      let (low, e₁) = and_parts _ _ e in
      let (x, out) = some_of (m.bid i) e₁ in
      record {
        bid = x;
        dropped = drops i x 0 1 (ltb-true i t.size low) out;
        counts = counts_kept (put m.bid i None) m.shown m.mark 0 0 1;
      }

  carries : (shown : ℕ → ℕ → ℕ) → ((i k : ℕ) → shown i k ≤ m.price k) → Carried m (kept_with m m.bid shown m.mark 0 0 0)
  carries shown h = record {
    counts = counts_kept m.bid shown m.mark 0 0 0;
    phase = phase_kept m.bid shown m.mark 0 0 0;
    seats = seats_kept m.bid shown m.mark 0 0 0;
    bids = λ r. refl;
    shown = h;
    mark = refl;
  }

  advances : follows t advanced m ≡ true → Advanced t m (next t advanced m)
  advances e =
      let (low, e₁) = and_parts _ _ e in
      let (unmarked, e₂) = and_parts _ _ e₁ in
      let (all, more) = and_parts _ _ e₂ in
      go m.later refl (ltb-true 0 t.size low) (none_of m.mark unmarked) (seated_all m t.size all) more
    where
      go : (es : List ℕ) → m.later ≡ es → 0 < t.size → m.mark ≡ None → AllSeated t m → more_phases es ≡ true → Advanced t m (advanced_with t m es)
      go [] later low unmarked all more = absurd (both_ways false refl more)
      go (e ∷ es) later low unmarked all more = record {
        unmarked = unmarked;
        seated = all;
        ladder = later;
        phase = refl;
        high = highest_is m.price t.size low;
        counts = record { composed = omega arith; accepted = omega arith; outbid = omega arith; recalled = omega arith; allowance = refl };
        accepted = refl;
        price = λ k. refl;
        seat = λ i. refl;
        bids = λ r. refl;
        shown = λ r k. refl;
        mark = refl;
      }

pub plays_step : (t : Table) (c : Event) (m : Market) → Lawful t → Playable t m → follows t c m ≡ true → Step t c m (next t c m)
plays_step t (composed i j b) m l p e =
    let (a, c) = and_parts _ _ e in
    composing t m i j b (may_bid t m i a) (bidden_fits t m i j b (sought t m i) (answers t m (m.shown i) i l) c)
plays_step t (marked i) m l p e =
    let (a, c) = and_parts _ _ e in
    marking t m i (may_bid t m i a) (none_fits t m i (sought t m i) (answers t m (m.shown i) i l) c)
plays_step t (landed i j b d) m l p e =
    let (low, e₁) = and_parts _ _ e in
    let (unmarked, e₂) = and_parts _ _ e₁ in
    let (same, f) = and_parts _ _ e₂ in
    let (out, enough) = out_of t m (m.bid i) i j b refl f in
    landing t m p i j b d (ltb-true i t.size low) (none_of m.mark unmarked) out enough (alike_true d (holder m i j t.size) same)
plays_step t (outbid i j q) m l p e =
    let (low, e₁) = and_parts _ _ e in
    let (unmarked, f) = and_parts _ _ e₁ in
    short_outbid t m i j q (m.bid i) refl (ltb-true i t.size low) (none_of m.mark unmarked) f
plays_step t (recalled i) m l p e = recalls t m i e
plays_step t carried m l p e = carries t m m.shown p.shown
plays_step t settled m l p e = record { carried = carries t m (λ i k. m.price k) (λ i k. omega arith); told = λ i k. refl }
plays_step t advanced m l p e = advances t m e

-- events that can follow one another, and the market that they leave
abbrev pub plays : Table → List Event → Market → Bool
plays t [] m = true
plays t (c ∷ cs) m = follows t c m && plays t cs (next t c m)

abbrev pub ends : Table → List Event → Market → Market
ends t [] m = m
ends t (c ∷ cs) m = ends t cs (next t c m)
