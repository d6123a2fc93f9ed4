-- The laws of the auction, from what holds between any two events.
use Rattle.std.proofs.Common.{◌≡◌, ℕ, suc, ◌+◌, ◌-◌, ◌*◌, ◌<◌, ◌≤◌, ◌⊎◌, List, [], ◌∷◌, ◌++◌, length, Option, sym, refl, ap, ◌∙◌, subst, inl, inr, mul-le-mul, mul-le-mul_left, arith}
use native.Mathlib.Decide.{dec_le}
use borrow.Author.Differences.{ints}
use Rattle.points.specs.Tables.{Table, Lawful}
use Rattle.points.specs.Limits.{price_limit, size_limit, top_limit}
use Rattle.points.specs.Plans.{AllContent}
use Rattle.points.proofs.Sums.{sum_at_most}
use Rattle.points.proofs.Scales.{worth}
use Rattle.points.proofs.Optimal as Optimal
use Rattle.auction.specs.Limits.{phase_limit, increment_limit}
use Rattle.auction.specs.Markets.{Market, plan_of}
use Rattle.auction.specs.Bids.{ceiling, depth, floor, cap, BestBid, Hopeless}
use Rattle.auction.specs.Changes.{SamePhase}
use Rattle.auction.specs.Events.{Composed, Marked, Landed, Outbid, Settled, Advanced, Event, composed, marked, landed, outbid, recalled, carried, settled, advanced, Step}
use Rattle.auction.specs.Runs.{Run, FallsToOne, Reached}
use Rattle.auction.specs.Laws as law
use Rattle.auction.specs.Laws.{Within}
use Rattle.auction.proofs.Sound.{Sound}
use Rattle.auction.proofs.Holders.{same_bid, planned, all_content}
use Rattle.auction.proofs.Floors.{depth_cap, net_high}
use Rattle.auction.proofs.Keeps as Keeps
use Rattle.auction.proofs.Lands as Lands
use Rattle.auction.proofs.Seeks.{second_low}
use Rattle.auction.proofs.Singles.{bid_is_single, composing_is_single, delivery_is_single}
use Rattle.auction.proofs.Displaces.{holder, playable}
use Rattle.auction.proofs.Plays.{next, composing, marking, landed_with, landing, outbidding}

pub step_sound : (t : Table) (c : Event) (m n : Market) → Lawful t → Step t c m n → Sound t m → Sound t n
step_sound t (composed i j b) m n l s d = Keeps.composed t m n l d i j b s
step_sound t (marked i) m n l s d = Keeps.marked t m n l d i s
step_sound t (landed i j b o) m n l s d = Lands.landed t m n l d i j b o s
step_sound t (outbid i j p) m n l s d = Keeps.outbid t m n l d i j p s
step_sound t (recalled i) m n l s d = Keeps.recalled t m n l d i s
step_sound t carried m n l s d = Keeps.carried t m n l d s
step_sound t settled m n l s d = Keeps.carried t m n l d s.carried
step_sound t advanced m n l s d = Lands.advanced t m n l d s

pub run_sound : (t : Table) (cs : List Event) (m n : Market) → Lawful t → Run t cs m n → Sound t m → Sound t n
run_sound t [] m n l e d = subst (Sound t) e d
run_sound t (c ∷ cs) m n l (x, s, r) d = run_sound t cs x n l r (step_sound t c m x l s d)

pub sound : (t : Table) (m : Market) → Reached t m → Sound t m
sound t m r = run_sound t r.events r.start m r.lawful r.run (Lands.opened t r.start r.opened)

-- one event more
run_more : (t : Table) (cs : List Event) (c : Event) (m x n : Market) → Run t cs m x → Step t c x n → Run t (cs ++ (c ∷ [])) m n
run_more t [] c m x n e s = (n, subst (λ (z : Market). Step t c z n) (sym e) s, refl)
run_more t (d ∷ ds) c m x n (y, a, r) s = (y, a, run_more t ds c y x n r s)

pub opening_reached : law.OpeningReached
opening_reached t m l o = record { lawful = l; start = m; opened = o; events = []; run = refl }

pub step_reached : law.StepReached
step_reached t c m n r s = record {
  lawful = r.lawful;
  start = r.start;
  opened = r.opened;
  events = r.events ++ (c ∷ []);
  run = run_more t r.events c r.start m n r.run s;
}

-- in the last phase the increment is 1
last_is_one : (e : ℕ) (xs : List ℕ) → xs ≡ [] → FallsToOne e xs → e ≡ 1
last_is_one e xs z h = subst (λ (ys : List ℕ). FallsToOne e ys) z h

complete_is_best : law.CompleteIsBest
complete_is_best t m r all z =
    let d = sound t m r in
    let one : m.increment ≡ 1 = last_is_one m.increment m.later z d.ladder in
    let content : AllContent t m.price 1 (plan_of m) = subst (λ (e : ℕ). AllContent t m.price e (plan_of m)) one (all_content t m d.orderly all) in
    Optimal.best t m.price (plan_of m) r.lawful (planned t m d.orderly all) content

near_in_each_phase : law.NearInEachPhase
near_in_each_phase t m π r all f =
    let d = sound t m r in
    Optimal.near t m.price m.increment (plan_of m) π r.lawful (planned t m d.orderly all) (all_content t m d.orderly all) f

floor_stands : law.FloorStands
floor_stands t m π q i p r f free below a =
    omega (arith, ints, net_high t m π i r.lawful (sound t m r).orderly f (r.lawful.runs i (π i) p a) free p a, below (π i))

hopeless_means_none : law.HopelessMeansNone
hopeless_means_none t m π q i r f low free below none =
    let (p, a) = worth t i (π i) (f.allowed i low) in
    omega (arith, ints, floor_stands t m π q i p r f free below a, none (π i) p a)

few_accepted : law.FewAccepted
unfolding cap
few_accepted t m r = let d = sound t m r in omega (arith, d.counted, sum_at_most t.size (cap t m) m.price d.capped)

-- at the prices themselves a bid is an increment above its seat's
settled_enough : (t : Table) (m w x : Market) (i j b : ℕ) → Settled m w → Composed t w x i j b → x.price j + x.increment ≤ b
settled_enough t m w x i j b s c =
    let y = c.bid in
    omega (
      arith,
      ints,
      c.seats.price j,
      c.phase.increment,
      s.told i j,
      y.price,
      second_low t (floor t w) (w.shown i) i j y.points y.second y.best y.value y.above,
    )

composing_answered : law.ComposingAnswered
composing_answered t m i l h = go (bid_is_single.some t m (m.shown i) i l)
  where
    go : ((j : ℕ) × (b : ℕ) × BestBid t m (m.shown i) i j b) ⊎ Hopeless t m (m.shown i) i → ((j : ℕ) × (b : ℕ) × (n : Market) × Composed t m n i j b) ⊎ ((n : Market) × Marked t m n i)
    go (inl (j, b, y)) = inl (j, b, next t (composed i j b) m, composing t m i j b h y)
    go (inr y) = inr (next t (marked i) m, marking t m i h y)

delivery_answered : law.DeliveryAnswered
delivery_answered t m i j b r unmarked out = go (dec_le (m.price j + m.increment) b)
  where
    d : Sound t m
    d = sound t m r

    low : i < t.size
    low = let y = d.bids i j b out in r.lawful.runs i j y.points y.pays

    go : Dec (m.price j + m.increment ≤ b) → ((o : Option ℕ) × (n : Market) × Landed t m n i j b o) ⊎ ((n : Market) × Outbid t m n i j (m.price j))
    go (yes h) =
        let o : Option ℕ = holder m i j t.size in
        inl (o, landed_with m i j b o, landing t m (playable t m r.lawful d) i j b o low unmarked out h refl)
    go (no h) = inr (next t (outbid i j (m.price j)) m, outbidding t m i j b low unmarked out (omega arith))

settled_bid_lands : law.SettledBidLands
settled_bid_lands = record {
  lands = λ t m w x i j b r s c.
      let l = r.lawful in
      let d : Sound t x = step_sound t (composed i j b) w x l c (step_sound t settled m w l s (sound t m r)) in
      let o : Option ℕ = holder x i j t.size in
      (o, landed_with x i j b o, landing t x (playable t x l d) i j b o c.may.low (c.mark ∙ c.may.unmarked) c.bids.here (settled_enough t m w x i j b s c) refl);
  only = λ t m w x n i j k b p r s c o.
      let (e, f) = same_bid j b k o.offer (sym c.bids.here ∙ o.dropped.out) in
      omega (arith, settled_enough t m w x i j b s c, o.little, f, ap x.price e);
}

-- the floor is no deeper than the cap is high
depth_low : (t : Table) (m : Market) → depth t m ≤ cap t m
unfolding depth cap
depth_low t m = go (dec_le 1 t.size)
  where
    go : Dec (1 ≤ t.size) → depth t m ≤ cap t m
    go (yes h) = omega (arith, depth_cap t m h)
    go (no c) =
        let p : 2 * t.size - 1 ≡ 0 = omega arith in
        let q : t.size - 1 ≡ 0 = omega arith in
        omega (arith, ap (λ (z : ℕ). z * ceiling t) p, ap (λ (z : ℕ). z * m.increment) q)

prices_capped : law.PricesCapped
prices_capped t m r = let d = sound t m r in record {
  prices = d.capped;
  bids = λ i k b out. (d.bids i k b out).capped;
  depth = depth_low t m;
}

within_more : (t : Table) (m : Market) (c d : ℕ) → c ≤ d → Within t m c → Within t m d
within_more t m c d h w = record {
  prices = λ k low. omega (arith, w.prices k low);
  bids = λ i k b out. omega (arith, w.bids i k b out);
  depth = omega (arith, w.depth);
}

-- what prices can come to by the last phase
ultimate : Table → Market → ℕ
ultimate t m = m.high + (length m.later + 1) * (t.size * (2 * ceiling t + m.increment))

same_ultimate : (t : Table) (m n : Market) → SamePhase m n → ultimate t n ≤ ultimate t m
unfolding ultimate
same_ultimate t m n p = rw (p.high, p.later, p.increment) (omega arith)

more_phases : (h g len a b : ℕ) → g ≤ h + b → a ≤ b → g + (len + 1) * a ≤ h + (suc len + 1) * b
more_phases h g len a b p q = omega (arith, mul-le-mul_left (len + 1) q)

advanced_ultimate : (t : Table) (m n : Market) → Sound t m → Advanced t m n → ultimate t n ≤ ultimate t m
unfolding ultimate cap
advanced_ultimate t m n d s =
    let (k, low, e) = s.high.reached in
    let falls = Lands.ladder_falls t m n d.ladder s in
    rw s.ladder (
    more_phases m.high n.high (length n.later) (t.size * (2 * ceiling t + n.increment)) (t.size * (2 * ceiling t + m.increment))
    (omega (arith, e, d.capped k low))
    (mul-le-mul_left t.size (omega (arith, falls.0)))
    )

step_ultimate : (t : Table) (c : Event) (m n : Market) → Sound t m → Step t c m n → ultimate t n ≤ ultimate t m
step_ultimate t (composed i j b) m n d s = same_ultimate t m n s.phase
step_ultimate t (marked i) m n d s = same_ultimate t m n s.phase
step_ultimate t (landed i j b o) m n d s = same_ultimate t m n s.phase
step_ultimate t (outbid i j p) m n d s = same_ultimate t m n s.dropped.phase
step_ultimate t (recalled i) m n d s = same_ultimate t m n s.dropped.phase
step_ultimate t carried m n d s = same_ultimate t m n s.phase
step_ultimate t settled m n d s = same_ultimate t m n s.carried.phase
step_ultimate t advanced m n d s = advanced_ultimate t m n d s

run_ultimate : (t : Table) (cs : List Event) (m n : Market) → Lawful t → Run t cs m n → Sound t m → ultimate t n ≤ ultimate t m
unfolding ultimate
run_ultimate t [] m n l e d = subst (λ (z : Market). ultimate t z ≤ ultimate t m) e (omega arith)
run_ultimate t (c ∷ cs) m n l (x, s, r) d = omega (arith, run_ultimate t cs x n l r (step_sound t c m x l s d), step_ultimate t c m x d s)

cap_low : (t : Table) (m : Market) → Reached t m → cap t m ≤ phase_limit * (t.size * (2 * ceiling t + increment_limit))
unfolding ultimate cap
cap_low t m r =
    let x = r.opened in
    let small : 2 * ceiling t + r.start.increment ≤ 2 * ceiling t + increment_limit = omega (arith, x.ladder.small) in
    omega (
      arith,
      run_ultimate t r.events r.start m r.lawful r.run (Lands.opened t r.start x),
      x.high,
      mul-le-mul x.ladder.few (mul-le-mul_left t.size small),
    )

prices_low : law.PricesLow
prices_low t m r = within_more t m (cap t m) (phase_limit * (t.size * (2 * ceiling t + increment_limit))) (cap_low t m r) (prices_capped t m r)

limit_high : (t : Table) → t.size ≤ size_limit → t.top ≤ top_limit → phase_limit * (t.size * (2 * ceiling t + increment_limit)) ≤ price_limit
unfolding ceiling
limit_high t narrow low =
    let scale : t.size + 1 ≤ size_limit + 1 = omega arith in
    let c : (t.size + 1) * t.top ≤ (size_limit + 1) * top_limit = mul-le-mul scale low in
    let e : 2 * ((t.size + 1) * t.top) + increment_limit ≤ 2 * ((size_limit + 1) * top_limit) + increment_limit = omega arith in
    let s : t.size * (2 * ((t.size + 1) * t.top) + increment_limit) ≤ size_limit * (2 * ((size_limit + 1) * top_limit) + increment_limit) = mul-le-mul narrow e in
    omega (arith, s)

prices_fit : law.PricesFit
prices_fit t m r narrow low =
    within_more t m (phase_limit * (t.size * (2 * ceiling t + increment_limit))) price_limit (limit_high t narrow low) (prices_low t m r)

pub auction_stands : law.AuctionStands
auction_stands = record {
  opening = opening_reached;
  step = step_reached;
  content = λ t m i j r h. (sound t m r).orderly.content i j h;
  once = λ t m i j k r. (sound t m r).orderly.single i j k;
  allowed = λ t m i k r. (sound t m r).orderly.allowed i k;
  free = λ t m i x r out. ((sound t m r).bids i x.seat x.price out).free;
  cheap = λ t m k r. (sound t m r).orderly.vacant k;
  shown = λ t m r. (sound t m r).shown;
  best = complete_is_best;
  near = near_in_each_phase;
  mark = λ t m i π r e f. (sound t m r).marked i e π f;
  floor = floor_stands;
  hopeless = hopeless_means_none;
  few = few_accepted;
  lands = settled_bid_lands;
  balance = λ t m r. (sound t m r).balance;
  allowance = λ t m r. (sound t m r).allowance;
  increments = λ t m r. (sound t m r).ladder;
  capped = prices_capped;
  low = prices_low;
  fit = prices_fit;
  bid = bid_is_single;
  composing = composing_is_single;
  composing_answered = composing_answered;
  delivery = delivery_is_single;
  delivery_answered = delivery_answered;
}
