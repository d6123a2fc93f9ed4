-- The search for a run's bid, seat by seat: what is known once the seats below k are seen, and the bid at the end.
use Rattle.std.proofs.Common.{◌≡◌, ℕ, zero, suc, ◌<◌, ◌≤◌, Bool, true, false, cond, ◌≢◌, ◌⊎◌, ℤ, pos, negsuc, ◌+ℤ◌, ◌-ℤ◌, nat_abs, ◌≤ℤ◌, ◌<ℤ◌, Some, None, Option, refl, ap, ◌∙◌, subst, inl, inr, arith}
use native.Mathlib.Decide.{ℕ_discrete, dec_lt}
use borrow.Author.Differences.{ints, lt-true, lt-false, le-true, le-false}
use lib.Signed.{le_z, lt_z}
use Rattle.points.specs.Tables.{Table, Pays, Lawful, Gap}
use Rattle.points.specs.Nets.{scaled, net}
use Rattle.auction.specs.Markets.{Market}
use Rattle.auction.specs.Bids.{floor, BestSeat, NetsOther, SecondValue, BestBid, Hopeless}
use Rattle.auction.proofs.Holders.{none_some}

-- w is the net of an allowed seat below k other than j
abbrev pub NetsBelow : Table → (ℕ → ℕ) → ℕ → ℕ → ℕ → ℤ → Type 0
NetsBelow t q i k j w = (r : ℕ) × (s : ℤ) × (r < k) × Pays t i r s × (r ≢ j) × (w ≡ net t.size s (q r))

-- of the seats below k, j is the lowest of the best, for p points, and w the greatest of f and the other nets
pub record Seen (t : Table) (f : ℤ) (q : ℕ → ℕ) (i k j : ℕ) (p w : ℤ) : Type 0 where
  pub below : j < k
  pub pays : Pays t i j p
  pub most : (r : ℕ) (s : ℤ) → r < k → Pays t i r s → net t.size s (q r) ≤ℤ net t.size p (q j)
  pub lowest : (r : ℕ) (s : ℤ) → r < j → Pays t i r s → net t.size s (q r) <ℤ net t.size p (q j)
  pub over_floor : f ≤ℤ w
  pub over_others : (r : ℕ) (s : ℤ) → r < k → Pays t i r s → r ≢ j → net t.size s (q r) ≤ℤ w
  pub reached : (w ≡ f) ⊎ NetsBelow t q i k j w

module _ (t : Table) (f : ℤ) (q : ℕ → ℕ) (i : ℕ) where
  -- a seat of a gap pays nothing
  pub unpaid : {P : Type 0} (from to r : ℕ) (s : ℤ) → Gap t i from to → from ≤ r → r < to → Pays t i r s → P
  unpaid from to r s gap a b y = none_some (t.points i r) s (gap r a b) y

  -- what holds of the net of seat k holds of the net of a seat that is k
  at_seat : (P : ℤ → Type 0) (k r : ℕ) (p s : ℤ) → Pays t i k p → Pays t i r s → r ≡ k → P (net t.size p (q k)) → P (net t.size s (q r))
  at_seat P k r p s a b e h =
      let b' : Pays t i k s = subst (λ (z : ℕ). Pays t i z s) e b in
      let same : p ≡ s = cc in
      rw (e, ← same) h

  -- no allowed seat comes from k to l
  pub seen_skip : (k l j : ℕ) (p w : ℤ) → k ≤ l → Gap t i k l → Seen t f q i k j p w → Seen t f q i l j p w
  seen_skip k l j p w h gap x = record {
    below = omega (arith, x.below);
    pays = x.pays;
    most = λ r s d a. x.most r s (at r s d a) a;
    lowest = x.lowest;
    over_floor = x.over_floor;
    over_others = λ r s d a n. x.over_others r s (at r s d a) a n;
    reached = elim x.reached [ inl e ↦ inl e | inr (r, s, d, a, n, e) ↦ inr (r, s, omega arith, a, n, e) ];
  }
    where
      at : (r : ℕ) (s : ℤ) → r < l → Pays t i r s → r < k
      at r s d a = elim (dec_lt r k) [ yes y ↦ y | no n ↦ unpaid k l r s gap (omega arith) d a ]

  -- the first allowed seat
  pub seen_first : (k : ℕ) (p : ℤ) → Gap t i 0 k → Pays t i k p → Seen t f q i (suc k) k p f
  seen_first k p gap a = record {
    below = omega arith;
    pays = a;
    most = λ r s d b. elim (ℕ_discrete r k) [
      | yes e ↦ at_seat (λ z. z ≤ℤ net t.size p (q k)) k r p s a b e (omega (arith, ints))
      | no n ↦ unpaid 0 k r s gap (omega arith) (omega arith) b
    ];
    lowest = λ r s d b. unpaid 0 k r s gap (omega arith) d b;
    over_floor = omega (arith, ints);
    over_others = λ r s d b n. unpaid 0 k r s gap (omega arith) (omega arith) b;
    reached = inl refl;
  }

  -- a better seat: the best so far counts among the others from now on
  pub seen_better : (k j : ℕ) (p w s v : ℤ) → Seen t f q i k j p w → Pays t i k s → net t.size p (q j) <ℤ net t.size s (q k) → w ≤ℤ v → net t.size p (q j) ≤ℤ v → (v ≡ w) ⊎ (v ≡ net t.size p (q j)) → Seen t f q i (suc k) k s v
  seen_better k j p w s v x a h over-w over-j from = record {
    below = omega arith;
    pays = a;
    most = λ r u d b. elim (ℕ_discrete r k) [
      | yes e ↦ at_seat (λ z. z ≤ℤ net t.size s (q k)) k r s u a b e (omega (arith, ints))
      | no n ↦ omega (arith, ints, x.most r u (omega arith) b, h)
    ];
    lowest = λ r u d b. omega (arith, ints, x.most r u d b, h);
    over_floor = omega (arith, ints, x.over_floor, over-w);
    over_others = λ r u d b n. omega (arith, ints, x.most r u (omega arith) b, over-j);
    reached = go from x.reached;
  }
    where
      go : (v ≡ w) ⊎ (v ≡ net t.size p (q j)) → (w ≡ f) ⊎ NetsBelow t q i k j w → (v ≡ f) ⊎ NetsBelow t q i (suc k) k v
      go (inr e) y = inr (j, p, omega (arith, x.below), x.pays, omega (arith, x.below), e)
      go (inl e) (inl g) = inl (e ∙ g)
      go (inl e) (inr (r, u, d, b, n, g)) = inr (r, u, omega arith, b, omega arith, e ∙ g)

  -- a seat that is no better
  pub seen_other : (k j : ℕ) (p w s v : ℤ) → Seen t f q i k j p w → Pays t i k s → net t.size s (q k) ≤ℤ net t.size p (q j) → w ≤ℤ v → net t.size s (q k) ≤ℤ v → (v ≡ w) ⊎ (v ≡ net t.size s (q k)) → Seen t f q i (suc k) j p v
  seen_other k j p w s v x a h over-w over-k from = record {
    below = omega (arith, x.below);
    pays = x.pays;
    most = λ r u d b. elim (ℕ_discrete r k) [ yes e ↦ at_seat (λ z. z ≤ℤ net t.size p (q j)) k r s u a b e h | no n ↦ x.most r u (omega arith) b ];
    lowest = x.lowest;
    over_floor = omega (arith, ints, x.over_floor, over-w);
    over_others = λ r u d b n. elim (ℕ_discrete r k) [ yes e ↦ at_seat (λ z. z ≤ℤ v) k r s u a b e over-k | no c ↦ omega (arith, ints, x.over_others r u (omega arith) b n, over-w) ];
    reached = go from x.reached;
  }
    where
      go : (v ≡ w) ⊎ (v ≡ net t.size s (q k)) → (w ≡ f) ⊎ NetsBelow t q i k j w → (v ≡ f) ⊎ NetsBelow t q i (suc k) j v
      go (inr e) y = inr (k, s, omega arith, a, omega (arith, x.below), e)
      go (inl e) (inl g) = inl (e ∙ g)
      go (inl e) (inr (r, u, d, b, n, g)) = inr (r, u, omega arith, b, n, e ∙ g)

  module _ (l : Lawful t) (j : ℕ) (p w : ℤ) (x : Seen t f q i t.size j p w) where
    -- the search is over
    pub seen_best : BestSeat t q i j p
    seen_best = record {
      pays = x.pays;
      most = λ r s a. x.most r s (l.seats i r s a) a;
      lowest = λ r s a d. x.lowest r s d a;
    }

    pub seen_second : SecondValue t f q i j w
    seen_second = record {
      over_floor = x.over_floor;
      over_others = λ r s a n. x.over_others r s (l.seats i r s a) a n;
      reached = elim x.reached [ inl e ↦ inl e | inr (r, s, d, a, n, e) ↦ inr (r, s, a, n, e) ];
    }

-- the second value is no more than the best, if the floor is not
pub second_low : (t : Table) (f : ℤ) (q : ℕ → ℕ) (i j : ℕ) (p w : ℤ) → BestSeat t q i j p → SecondValue t f q i j w → f ≤ℤ net t.size p (q j) → w ≤ℤ net t.size p (q j)
second_low t f q i j p w b s h = go s.reached
  where
    go : (w ≡ f) ⊎ NetsOther t q i j w → w ≤ℤ net t.size p (q j)
    go (inl e) = omega (arith, ints, e, h)
    go (inr (k, r, a, n, e)) = omega (arith, ints, e, b.most k r a)

-- the search, as a computation
pub record Found : Type 0 where
  pub seat : ℕ
  pub points : ℤ
  pub second : ℤ

abbrev pub larger : ℤ → ℤ → ℤ
larger a b = cond (le_z a b) b a

-- seat k with its p points, put beside what was found below it
abbrev pub weighed : ℕ → ℤ → (ℕ → ℕ) → ℕ → ℤ → Option Found → Found
weighed n f q k p None = record { seat = k; points = p; second = f }
weighed n f q k p (Some x) =
    cond (lt_z (net n x.points (q x.seat)) (net n p (q k)))
    (record { seat = k; points = p; second = larger x.second (net n x.points (q x.seat)) })
    (record { seat = x.seat; points = x.points; second = larger x.second (net n p (q k)) })

abbrev pub taken : ℕ → ℤ → (ℕ → ℕ) → ℕ → Option ℤ → Option Found → Option Found
taken n f q k None o = o
taken n f q k (Some p) o = Some (weighed n f q k p o)

abbrev pub seek : Table → ℤ → (ℕ → ℕ) → ℕ → ℕ → Option Found
seek t f q i zero = None
seek t f q i (suc k) = taken t.size f q k (t.points i k) (seek t f q i k)

-- what the search knows by the seats below k
abbrev pub Knows : Table → ℤ → (ℕ → ℕ) → ℕ → ℕ → Option Found → Type 0
Knows t f q i k None = Gap t i 0 k
Knows t f q i k (Some x) = Seen t f q i k x.seat x.points x.second

module _ (t : Table) (f : ℤ) (q : ℕ → ℕ) (i : ℕ) where
  larger_left : (a b : ℤ) → a ≤ℤ larger a b
  larger_left a b = go (le_z a b) refl
    where
      go : (c : Bool) → le_z a b ≡ c → a ≤ℤ cond c b a
      go true e = omega (arith, ints, le-true a b e)
      go false e = omega (arith, ints)

  larger_right : (a b : ℤ) → b ≤ℤ larger a b
  larger_right a b = go (le_z a b) refl
    where
      go : (c : Bool) → le_z a b ≡ c → b ≤ℤ cond c b a
      go true e = omega (arith, ints)
      go false e = omega (arith, ints, le-false a b e)

  larger_one : (a b : ℤ) → (larger a b ≡ a) ⊎ (larger a b ≡ b)
  larger_one a b = go (le_z a b)
    where
      go : (c : Bool) → (cond c b a ≡ a) ⊎ (cond c b a ≡ b)
      go true = inr refl
      go false = inl refl

  knows_weighed : (k : ℕ) (p : ℤ) (o : Option Found) → Pays t i k p → Knows t f q i k o → Knows t f q i (suc k) (Some (weighed t.size f q k p o))
  knows_weighed k p None a gap = seen_first t f q i k p gap a
  knows_weighed k p (Some x) a seen = go (lt_z old new) refl
    where
      old : ℤ
      old = net t.size x.points (q x.seat)

      new : ℤ
      new = net t.size p (q k)

      go : (c : Bool) → lt_z old new ≡ c → Knows t f q i (suc k) (Some (cond c (record { seat = k; points = p; second = larger x.second old }) (record { seat = x.seat; points = x.points; second = larger x.second new })))
      go true e = seen_better t f q i k x.seat x.points x.second p (larger x.second old) seen a (omega (arith, ints, lt-true old new e)) (larger_left x.second old) (larger_right x.second old) (larger_one x.second old)
      go false e = seen_other t f q i k x.seat x.points x.second p (larger x.second new) seen a (omega (arith, ints, lt-false old new e)) (larger_left x.second new) (larger_right x.second new) (larger_one x.second new)

  knows_taken : (k : ℕ) (s : Option ℤ) (o : Option Found) → t.points i k ≡ s → Knows t f q i k o → Knows t f q i (suc k) (taken t.size f q k s o)
  knows_taken k (Some p) o e h = knows_weighed k p o e h
  knows_taken k None None e gap = λ r a b. elim (ℕ_discrete r k) [ yes c ↦ ap (t.points i) c ∙ e | no n ↦ gap r a (omega arith) ]
  knows_taken k None (Some x) e seen =
      seen_skip t f q i k (suc k) x.seat x.points x.second (omega arith) (λ r a b. let c : r ≡ k = omega arith in ap (t.points i) c ∙ e) seen

  pub knows : (k : ℕ) → Knows t f q i k (seek t f q i k)
  knows zero = λ r a b. absurd (omega arith)
  knows (suc k) = knows_taken k (t.points i k) (seek t f q i k) refl (knows k)

module _ (t : Table) (m : Market) (q : ℕ → ℕ) (i : ℕ) where
  -- what is bid on what was found
  abbrev pub offer : Found → ℕ
  offer x = nat_abs ((scaled t.size x.points -ℤ x.second) +ℤ pos m.increment)

  -- the seat and the price that a run bids, or nothing where it is hopeless
  abbrev pub judged : Option Found → Option Found
  judged None = None
  judged (Some x) = cond (lt_z (net t.size x.points (q x.seat)) (floor t m)) None (Some x)

  -- what a judged search means
  abbrev pub Answers : Option Found → Type 0
  Answers None = Hopeless t m q i
  Answers (Some x) = BestBid t m q i x.seat (offer x)

  whole : (z : ℤ) → pos 0 ≤ℤ z → pos (nat_abs z) ≡ z
  whole (pos n) h = refl
  whole (negsuc n) h = absurd (omega (arith, ints))

  pub answers : Lawful t → Answers (judged (seek t (floor t m) q i t.size))
  answers l = go (seek t (floor t m) q i t.size) (knows t (floor t m) q i t.size)
    where
      go : (o : Option Found) → Knows t (floor t m) q i t.size o → Answers (judged o)
      go None gap = λ k r a. unpaid t (floor t m) q i 0 t.size k r gap (omega arith) (l.seats i k r a) a
      go (Some x) seen = by (lt_z v (floor t m)) refl
        where
          v : ℤ
          v = net t.size x.points (q x.seat)

          best : BestSeat t q i x.seat x.points
          best = seen_best t (floor t m) q i l x.seat x.points x.second seen

          second : SecondValue t (floor t m) q i x.seat x.second
          second = seen_second t (floor t m) q i l x.seat x.points x.second seen

          by : (c : Bool) → lt_z v (floor t m) ≡ c → Answers (cond c None (Some x))
          by true e = λ k r a. omega (arith, ints, best.most k r a, lt-true v (floor t m) e)
          by false e =
              let above : floor t m ≤ℤ v = omega (arith, ints, lt-false v (floor t m) e) in
              record {
                points = x.points;
                best = best;
                above = above;
                second = x.second;
                value = second;
                price = whole _ (omega (arith, ints, second_low t (floor t m) q i x.seat x.points x.second best second above));
              }
