-- Landing and advancing keep the market sound, and it is sound when it opens.
use Rattle.std.proofs.Common.{◌≡◌, ℕ, ◌*◌, ◌<◌, ◌≤◌, ◌≢◌, ◌⊎◌, List, ◌∷◌, pos, ◌+ℤ◌, ◌≤ℤ◌, Some, None, Option, sym, ap, ◌∙◌, subst, ap₂, inl, inr, arith}
use native.Mathlib.Decide.{ℕ_discrete}
use borrow.Author.Differences.{ints}
use Rattle.points.specs.Tables.{Table, Pays, Lawful}
use Rattle.points.specs.Nets.{scaled, net, Content}
use Rattle.points.specs.Sums.{sum}
use Rattle.points.proofs.Sums.{sum_set, sum_same, sum_const}
use Rattle.points.proofs.Scales.{pays_allowed}
use Rattle.auction.specs.Markets.{Market, Holds, Out, outs}
use Rattle.auction.specs.Bids.{cap}
use Rattle.auction.specs.Events.{Landed, Advanced}
use Rattle.auction.specs.Runs.{FallsToOne, Opened}
use Rattle.auction.proofs.Sound.{Orderly, Standing, Sound}
use Rattle.auction.proofs.Holders.{none_some, is_some}
use Rattle.auction.proofs.Keeps.{cap_same, ladder_same, outs_set, balance_same, mark_kept}

module _ (t : Table) (m n : Market) (l : Lawful t) (s : Sound t m) (i j b : ℕ) (d : Option ℕ) (x : Landed t m n i j b d) where
  o : Orderly t m
  o = s.orderly

  bid : Standing t m i j b
  bid = s.bids i j b x.out

  -- a run that holds a seat afterwards is run i, or held it before
  before : (r k : ℕ) → Holds n r k → ((r ≡ i) × (k ≡ j)) ⊎ (Holds m r k × (k ≢ j))
  before r k h = go (ℕ_discrete r i) (is_some (m.seat r) j)
    where
      go : Dec (r ≡ i) → Dec (Holds m r j) → ((r ≡ i) × (k ≡ j)) ⊎ (Holds m r k × (k ≢ j))
      go (yes e) c = let q : n.seat r ≡ Some j = ap n.seat e ∙ x.seated in inl (e, cc)
      go (no c) (yes g) = none_some (n.seat r) k (x.freed r (x.displaced.named r c g)) h
      go (no c) (no g) =
          let w : Holds m r k = sym (x.kept r c (λ e. g (x.displaced.holds r e).1)) ∙ h in
          inr (w, λ e. g (subst (λ (z : ℕ). Holds m r z) e w))

  rises : (k : ℕ) → m.price k ≤ n.price k
  rises k = go (ℕ_discrete k j)
    where
      go : Dec (k ≡ j) → m.price k ≤ n.price k
      go (yes e) = omega (arith, x.raised, x.enough, ap m.price e, ap n.price e)
      go (no c) = omega (arith, x.prices k c)

  content : (r a : ℕ) → Holds n r a → Content t n.price n.increment r a
  content r a h k p q y z = go (before r a h) (ℕ_discrete k j)
    where
      go : ((r ≡ i) × (a ≡ j)) ⊎ (Holds m r a × (a ≢ j)) → Dec (k ≡ j) → net t.size q (n.price k) ≤ℤ (net t.size p (n.price a) +ℤ pos n.increment)
      go (inl (e, f)) (yes g) =
          let same : p ≡ q = cc in
          omega (arith, ints, ap (scaled t.size) same, ap n.price (g ∙ sym f))
      go (inl (e, f)) (no g) =
          let paid : t.points i j ≡ Some bid.points = bid.pays in
          let own : bid.points ≡ p = cc in
          let other : Pays t i k q = cc in
          omega (arith, ints, bid.content k q other g, ap (scaled t.size) own, ap n.price f, x.raised, x.prices k g, x.phase.increment)
      go (inr (w, c)) g = omega (arith, ints, o.content r a w k p q y z, rises k, x.prices a c, x.phase.increment)

  -- a run that held another seat holds it still
  after : (r k : ℕ) → k ≢ j → Holds m r k → Holds n r k
  after r k c h =
      x.kept r (λ e. none_some (m.seat r) k (ap m.seat e ∙ bid.free) h) (λ e. let g : Holds m r j = (x.displaced.holds r e).1 in let q : k ≡ j = cc in c q) ∙ h

  single : (r u k : ℕ) → Holds n r k → Holds n u k → r ≡ u
  single r u k h g = go (before r k h) (before u k g)
    where
      go : ((r ≡ i) × (k ≡ j)) ⊎ (Holds m r k × (k ≢ j)) → ((u ≡ i) × (k ≡ j)) ⊎ (Holds m u k × (k ≢ j)) → r ≡ u
      go (inl (e, f)) (inl (v, w)) = e ∙ sym v
      go (inl (e, f)) (inr (v, w)) = absurd (w f)
      go (inr (e, f)) (inl (v, w)) = absurd (f w)
      go (inr (e, f)) (inr (v, w)) = o.single r u k e v

  orderly : Orderly t n
  orderly = record {
    allowed = λ r k h. elim (before r k h) [ inl c ↦ pays_allowed t r k bid.points (ap₂ t.points c.0 c.1 ∙ bid.pays) | inr c ↦ o.allowed r k c.0 ];
    single = single;
    content = content;
    vacant = λ k low v. let c : k ≢ j = λ e. v i (x.seated ∙ ap Some (sym e)) in omega (arith, o.vacant k low (λ r h. v r (after r k c h)), x.prices k c, x.phase.high);
  }

  -- the other bids stand, since prices only rose
  standing : (r k c : ℕ) → r ≢ i → Standing t m r k c → Standing t n r k c
  standing r k c f y = record {
    free = x.kept r f (λ e. none_some (m.seat r) j y.free (x.displaced.holds r e).1) ∙ y.free;
    points = y.points;
    pays = y.pays;
    capped = omega (arith, y.capped, cap_same t m n x.phase);
    content = λ a q z g. omega (arith, ints, y.content a q z g, rises a, x.phase.increment);
  }

  counted : n.phase_accepted * n.increment ≤ sum t.size n.price
  counted =
      omega (
        arith,
        s.counted,
        ap₂ ◌*◌ x.accepted x.phase.increment,
        sum_set t.size j m.price n.price (l.seats i j bid.points bid.pays) x.prices,
        x.raised,
        x.enough,
      )

  pub landed : Sound t n
  landed = record {
    orderly = orderly;
    bids = λ r k c out. let f : r ≢ i = λ e. none_some (n.bid r) (record { seat = k; price = c }) (ap n.bid e ∙ x.bids.here) out in standing r k c f (s.bids r k c (sym (x.bids.other r f) ∙ out));
    capped = λ k low. elim (ℕ_discrete k j) [ yes e ↦ omega (arith, bid.capped, cap_same t m n x.phase, x.raised, ap n.price e) | no c ↦ omega (arith, s.capped k low, cap_same t m n x.phase, x.prices k c) ];
    counted = counted;
    balance = let c = x.counts in omega (arith, s.balance, c.composed, c.accepted, c.outbid, c.recalled, outs_set t m n i None x.low x.bids, ap outs x.out);
    allowance = omega (arith, s.allowance, x.counts.composed, x.counts.allowance);
    shown = x.shown;
    marked = mark_kept t m n x.mark s.marked;
    ladder = ladder_same t m n x.phase s.ladder;
  }

-- the phase to come begins with an increment that falls to 1
pub ladder_falls : (t : Table) (m n : Market) → FallsToOne m.increment m.later → Advanced t m n → FallsToOne m.increment (n.increment ∷ n.later)
ladder_falls t m n h x = subst (λ (z : List ℕ). FallsToOne m.increment z) x.ladder h

module _ (t : Table) (m n : Market) (l : Lawful t) (s : Sound t m) (x : Advanced t m n) where
  empty : {P : Type 0} (i k : ℕ) → Holds n i k → P
  empty i k h = none_some (n.seat i) k (x.seat i) h

  -- no bid is out while every run holds a seat
  none_out : {P : Type 0} (i j b : ℕ) → Out m i j b → P
  none_out i j b out =
      let y = s.bids i j b out in
      let (k, h) = x.seated i (l.runs i j y.points y.pays) in
      none_some (m.seat i) k y.free h

  pub high_over : (k : ℕ) → k < t.size → n.price k ≤ n.high
  high_over k low = omega (arith, x.price k, x.high.over k low)

  pub advanced : Sound t n
  unfolding cap
  advanced = record {
    orderly = record {
      allowed = λ i k h. empty i k h;
      single = λ i j k h g. empty i k h;
      content = λ i j h. empty i j h;
      vacant = λ k low v. high_over k low;
    };
    bids = λ i j b out. none_out i j b (sym (x.bids i) ∙ out);
    capped = λ k low. omega (arith, high_over k low);
    counted = omega (arith, ap (λ (z : ℕ). z * n.increment) x.accepted);
    balance = balance_same t m n x.counts x.bids s.balance;
    allowance = omega (arith, s.allowance, x.counts.composed, x.counts.allowance);
    shown = λ i k. omega (arith, x.shown i k, s.shown i k, x.price k);
    marked = mark_kept t m n x.mark s.marked;
    ladder = (ladder_falls t m n s.ladder x).1;
  }

module _ (t : Table) (m : Market) (x : Opened m) where
  unseated : {P : Type 0} (i k : ℕ) → Holds m i k → P
  unseated i k h = none_some (m.seat i) k (x.seat i) h

  pub opened : Sound t m
  opened = record {
    orderly = record {
      allowed = λ i k h. unseated i k h;
      single = λ i j k h g. unseated i k h;
      content = λ i j h. unseated i j h;
      vacant = λ k low v. omega (arith, x.price k);
    };
    bids = λ i j b out. none_some (m.bid i) (record { seat = j; price = b }) (x.bid i) out;
    capped = λ k low. omega (arith, x.price k);
    counted = omega (arith, ap (λ (z : ℕ). z * m.increment) x.phase_accepted);
    balance = omega (arith, x.composed, x.accepted, x.outbid, x.recalled, sum_same t.size (λ i. outs (m.bid i)) (λ i. 0) (λ i h. ap outs (x.bid i)), sum_const t.size 0);
    allowance = omega (arith, x.composed);
    shown = λ i k. omega (arith, x.shown i k);
    marked = λ i e. none_some m.mark i x.mark e;
    ladder = x.ladder.falls;
  }
