-- Where there is a full plan, each free run nets no less than the floor on its planned seat.
use Rattle.std.proofs.Common.{◌≡◌, ℕ, zero, suc, ◌+◌, ◌-◌, ◌*◌, ◌<◌, ◌≤◌, ◌⊎◌, ℤ, pos, neg_ℤ, ◌≤ℤ◌, sym, ap, ◌∙◌, subst, inl, inr, mul-le-mul_right, arith}
use native.Mathlib.Decide.{ℕ_discrete}
use borrow.Author.Differences.{ints}
use Rattle.std.proofs.lemmas.Bool.{cases_order}
use Rattle.points.specs.Tables.{Table, Pays, Lawful}
use Rattle.points.specs.Nets.{scaled, net}
use Rattle.points.specs.Plans.{FullPlan}
use Rattle.points.proofs.Sums.{pigeonhole}
use Rattle.points.proofs.Scales.{worth, scaled_low, scaled_high}
use Rattle.auction.specs.Markets.{Market, Holds, Free, Vacant}
use Rattle.auction.specs.Bids.{ceiling, depth, floor, cap, BestBid}
use Rattle.auction.proofs.Sound.{Orderly}
use Rattle.auction.proofs.Holders.{none_some, run_low, seat_low, held_or_vacant}

-- scaled points lie from -C to C
pub over_bottom : (t : Table) → Lawful t → (i k : ℕ) (p : ℤ) → Pays t i k p → neg_ℤ (pos (ceiling t)) ≤ℤ scaled t.size p
unfolding ceiling
over_bottom t l i k p e = scaled_low t.size t.top p (l.low i k p e)

pub under_ceiling : (t : Table) → Lawful t → (i k : ℕ) (p : ℤ) → Pays t i k p → scaled t.size p ≤ℤ pos (ceiling t)
unfolding ceiling
under_ceiling t l i k p e = scaled_high t.size t.top p (l.high i k p e)

-- the depth, by links of a chain
links_deep : (n c e h : ℕ) → 1 ≤ n → (2 * n - 1) * c + (n - 1) * e + h ≡ c + (h + (n - 1) * (2 * c + e))
links_deep zero c e h l = absurd (omega arith)
links_deep (suc n) c e h l =
    let p : 2 * suc n - 1 ≡ 2 * n + 1 = omega arith in
    let q : suc n - 1 ≡ n = omega arith in
    rw (p, q) (omega arith)

pub depth_is : (t : Table) (m : Market) → 1 ≤ t.size → depth t m ≡ ceiling t + (m.high + (t.size - 1) * (2 * ceiling t + m.increment))
unfolding depth
depth_is t m h = links_deep t.size (ceiling t) m.increment m.high h

-- one link more than the chain of the depth has
cap_is : (n c e h : ℕ) → 1 ≤ n → h + n * (2 * c + e) ≡ h + ((n - 1) * (2 * c + e) + (2 * c + e))
cap_is zero c e h l = absurd (omega arith)
cap_is (suc n) c e h l = let q : suc n - 1 ≡ n = omega arith in rw q (omega arith)

-- a ceiling and an increment more than the depth is the cap
pub depth_cap : (t : Table) (m : Market) → 1 ≤ t.size → depth t m + (ceiling t + m.increment) ≡ cap t m
unfolding cap
depth_cap t m h = omega (arith, depth_is t m h, cap_is t.size (ceiling t) m.increment m.high h)

-- no bid is above the cap
pub bid_capped : (t : Table) (m : Market) → Lawful t → 1 ≤ t.size → (q : ℕ → ℕ) (i j b : ℕ) → BestBid t m q i j b → b ≤ cap t m
bid_capped t m l h q i j b x = omega (arith, ints, x.price, x.value.over_floor, under_ceiling t l i j x.points x.best.pays, depth_cap t m h)

-- the run that holds a seat, where one does
one_of : (m : Market) (k : ℕ) → ((r : ℕ) × Holds m r k) ⊎ Vacant m k → ℕ
one_of m k (inl f) = f.0
one_of m k (inr v) = 0

one_of_holds : (m : Market) (k : ℕ) (s : ((r : ℕ) × Holds m r k) ⊎ Vacant m k) → Holds m (one_of m k s) k ⊎ Vacant m k
unfolding one_of
one_of_holds m k (inl f) = inl f.1
one_of_holds m k (inr v) = inr v

-- the chain: a run, the one that holds its planned seat, the one that holds that one's planned seat, and so on
chain : (t : Table) (m : Market) (l : Lawful t) (o : Orderly t m) (π : ℕ → ℕ) (i : ℕ) → ℕ → ℕ
chain t m l o π i zero = i
chain t m l o π i (suc n) = let r = chain t m l o π i n in one_of m (π r) (held_or_vacant t m l o (π r))

module _ (t : Table) (m : Market) (π : ℕ → ℕ) (i : ℕ) (l : Lawful t) (o : Orderly t m) (f : FullPlan t π) (low : i < t.size) (free : Free m i) where
  x : ℕ → ℕ
  x n = chain t m l o π i n

  -- the first d links of the chain are there
  Linked : ℕ → Type 0
  Linked d = (u : ℕ) → u < d → Holds m (x (suc u)) (π (x u))

  x_low : (d u : ℕ) → Linked d → u ≤ d → x u < t.size
  unfolding x chain Linked
  x_low d zero k h = low
  x_low d (suc u) k h = run_low t l (x (suc u)) (π (x u)) (o.allowed (x (suc u)) (π (x u)) (k u h))

  holds_one : (r j k : ℕ) → Holds m r j → Holds m r k → j ≡ k
  holds_one r j k p q = cc

  -- no run comes twice
  x_apart : (d a b : ℕ) → Linked d → a < b → b ≤ d → x a ≡ x b → ⊥
  unfolding x chain Linked
  x_apart d a zero k h q e = omega arith
  x_apart d zero (suc b) k h q e = none_some (m.seat i) (π (x b)) free (ap m.seat e ∙ k b q)
  x_apart d (suc a) (suc b) k h q e =
      let same : π (x a) ≡ π (x b) = holds_one (x (suc b)) (π (x a)) (π (x b)) (subst (λ (r : ℕ). Holds m r (π (x a))) e (k a (omega arith))) (k b (omega arith)) in
      x_apart d a b k (omega arith) (omega arith) (f.apart (x a) (x b) (x_low d a k (omega arith)) (x_low d b k (omega arith)) same)

  -- so the chain is shorter than the table
  x_short : (d : ℕ) → Linked d → d < t.size
  x_short d k = pigeonhole (suc d) t.size x (λ u h. x_low d u k (omega arith)) once
    where
      once : (a b : ℕ) → a < suc d → b < suc d → x a ≡ x b → a ≡ b
      once a b p q e = elim (cases_order a b) [ inl h ↦ h | inr s ↦ elim s [ inl h ↦ absurd (x_apart d a b k h (omega arith) e) | inr h ↦ absurd (x_apart d b a k h (omega arith) (sym e)) ] ]

  -- each link costs at most twice the ceiling and an increment
  link : (d u : ℕ) → Linked d → u < d → m.price (π (x u)) ≤ m.price (π (x (suc u))) + (2 * ceiling t + m.increment)
  unfolding Linked
  link d u k h =
      let r : ℕ = x (suc u) in
      let held = k u h in
      let a = worth t r (π (x u)) (o.allowed r (π (x u)) held) in
      let b = worth t r (π r) (f.allowed r (x_low d (suc u) k h)) in
      omega (
        arith,
        ints,
        o.content r (π (x u)) held (π r) a.0 b.0 a.1 b.1,
        under_ceiling t l r (π (x u)) a.0 a.1,
        over_bottom t l r (π r) b.0 b.1,
      )

  links : (d u : ℕ) → Linked d → u ≤ d → m.price (π i) ≤ m.price (π (x u)) + u * (2 * ceiling t + m.increment)
  unfolding x chain
  links d zero k h = omega arith
  links d (suc u) k h = omega (arith, links d u k (omega arith), link d u k h)

  -- the chain comes to a vacant seat
  end : (n d : ℕ) → d + n ≡ t.size → Linked d → (u : ℕ) × Linked u × Vacant m (π (x u))
  unfolding x chain Linked
  end zero d e k = absurd (omega (arith, x_short d k))
  end (suc n) d e k =
      elim (one_of_holds m (π (x d)) (held_or_vacant t m l o (π (x d)))) [
        | inl h ↦ end n (suc d) (omega arith) (λ u lt. elim (ℕ_discrete u d) [ yes p ↦ subst (λ (v : ℕ). Holds m (x (suc v)) (π (x v))) (sym p) h | no c ↦ k u (omega arith) ])
        | inr v ↦ (d, k, v)
      ]

  price_low : m.price (π i) ≤ m.high + (t.size - 1) * (2 * ceiling t + m.increment)
  unfolding Linked
  price_low =
      let (u, k, v) = end t.size 0 (omega arith) (λ a h. absurd (omega arith)) in
      let s : u ≤ t.size - 1 = omega (arith, x_short u k) in
      let r : x u < t.size = x_low u u k (omega arith) in
      omega (
        arith,
        links u u k (omega arith),
        o.vacant (π (x u)) (seat_low t l (x u) (π (x u)) (f.allowed (x u) r)) v,
        mul-le-mul_right (2 * ceiling t + m.increment) s,
      )

  pub net_high : (p : ℤ) → Pays t i (π i) p → floor t m ≤ℤ net t.size p (m.price (π i))
  net_high p a = omega (arith, ints, price_low, over_bottom t l i (π i) p a, depth_is t m (omega arith))
