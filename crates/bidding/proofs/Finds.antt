-- The search for a run's best seat: what is known once the seats below k are seen, and at the end.
use Rattle.std.proofs.Common.{◌≡◌, ℕ, suc, ◌+◌, ◌≤◌, Bool, true, false, cond, ◌⊎◌, ℤ, ◌≤ℤ◌, ◌<ℤ◌, Some, None, Option, List, [], ◌∷◌, refl, sym, ap, add-one, arith}
use borrow.Author.Differences.{ints, lt-true, lt-false}
use lib.Signed.{lt_z}
use Rattle.std.specs.Int.{int_max}
use Rattle.std.specs.List.{fold, filter_map, reduce}
use Rattle.std.proofs.lemmas.Int.{clamps}
use Rattle.points.specs.Tables.{Table, Pays, Lawful, Gap}
use Rattle.points.specs.Seats.{seats_from}
use Rattle.points.specs.Nets.{scaled, net}
use Rattle.points.proofs.Allowed.{seats_first, seats_none}
use Rattle.points.proofs.Scales.{worth}
use Rattle.bidding.specs.declared.sought.Sought.{Sought}
use Rattle.bidding.specs.Searches.{valued, weighed, Seeks}
use Rattle.auction.proofs.Holders.{none_some}
use Rattle.auction.proofs.Seeks.{Seen, seen_skip, seen_first, seen_better, seen_other, seen_best, seen_second}

-- what is known of s by the seats below k
pub record FoundBelow (t : Table) (f : ℤ) (q : ℕ → ℕ) (i k : ℕ) (s : Sought) : Type 0 where
  pub points : ℤ
  pub worth : s.worth ≡ scaled t.size points
  pub net : s.net ≡ net t.size points (q s.seat)
  pub seen : Seen t f q i k s.seat points s.second

-- the greater of two is one of them
greater_one : (a b : ℤ) → (int_max a b ≡ a) ⊎ (int_max a b ≡ b)
greater_one a b = grind (arith, ints, clamps)

module _ (t : Table) (f : ℤ) (q : ℕ → ℕ) (i : ℕ) where
  abbrev alone : ℕ → ℤ → Sought
  alone k p = record { seat = k; worth = scaled t.size p; net = net t.size p (q k); second = f }

  abbrev value : ℕ → ℕ → Option Sought
  value n k = valued n f q k (t.points i k)

  -- an allowed seat put beside what was found
  found_more : (k : ℕ) (p : ℤ) (s : Sought) → Pays t i k p → FoundBelow t f q i k s → FoundBelow t f q i (suc k) (weighed s (alone k p))
  found_more k p s a x = go (lt_z s.net new) refl
    where
      new : ℤ
      new = net t.size p (q k)

      old : ℤ
      old = net t.size x.points (q s.seat)

      go : (b : Bool) → lt_z s.net new ≡ b → FoundBelow t f q i (suc k) (cond b (record { seat = k; worth = scaled t.size p; net = new; second = int_max s.second s.net }) (record { seat = s.seat; worth = s.worth; net = s.net; second = int_max s.second new }))
      go true e =
          let less : old <ℤ new = omega (arith, ints, lt-true s.net new e, x.net) in
          record {
            points = p;
            worth = refl;
            net = refl;
            seen = seen_better t f q i k s.seat x.points s.second p (int_max s.second s.net) x.seen a less (omega (arith, ints, clamps)) (omega (arith, ints, clamps, x.net))
                (rw (← x.net) (greater_one s.second s.net));
          }
      go false e =
          let most : new ≤ℤ old = omega (arith, ints, lt-false s.net new e, x.net) in
          record {
            points = x.points;
            worth = x.worth;
            net = x.net;
            seen = seen_other t f q i k s.seat x.points s.second p (int_max s.second new) x.seen a most (omega (arith, ints, clamps)) (omega (arith, ints, clamps)) (greater_one s.second new);
          }

  -- seats that are not allowed change nothing
  found_skip : (k l : ℕ) (s : Sought) → k ≤ l → Gap t i k l → FoundBelow t f q i k s → FoundBelow t f q i l s
  found_skip k l s h gap x = record {
    points = x.points;
    worth = x.worth;
    net = x.net;
    seen = seen_skip t f q i k l s.seat x.points s.second h gap x.seen;
  }

  -- the allowed seats from one on, put beside what was found below it
  found_all : (from : ℕ) (xs : List ℕ) (s : Sought) → from ≤ t.size → seats_from t i from ≡ xs → FoundBelow t f q i from s → FoundBelow t f q i t.size (fold weighed s (filter_map (value t.size) xs))
  found_all from [] s low left x = found_skip from t.size s low (seats_none t i from left) x
  found_all from (k ∷ xs) s low left x =
      let (above, below, here, gap, rest) = seats_first t i from k xs left in
      let (p, a) = worth t i k here in
      let more : FoundBelow t f q i (k + 1) (weighed s (alone k p)) = rw add-one (found_more k p s a (found_skip from k s above gap x)) in
      rw a (found_all (k + 1) xs (weighed s (alone k p)) (omega arith) (sym rest) more)

  -- the first allowed seat has a value
  pub first_valued : {P : Type 0} (n k : ℕ) (xs : List ℕ) → seats_from t i 0 ≡ k ∷ xs → value n k ≡ None → P
  first_valued n k xs left none =
      let (above, below, here, gap, rest) = seats_first t i 0 k xs left in
      let (p, a) = worth t i k here in
      none_some (value n k) _ none (ap (valued n f q k) a)

  -- all allowed seats of the run, weighed in turn
  pub best_sought : (n : ℕ) (o : Option Sought) → Lawful t → n ≡ t.size → o ≡ reduce weighed (filter_map (value n) (seats_from t i 0)) → Seeks t f q i o
  best_sought n o l is e = rw (e, is) (go (seats_from t i 0) refl)
    where
      go : (xs : List ℕ) → seats_from t i 0 ≡ xs → Seeks t f q i (reduce weighed (filter_map (value t.size) xs))
      go [] left = λ k. none k (t.points i k) refl
        where
          none : (k : ℕ) (o : Option ℤ) → t.points i k ≡ o → t.points i k ≡ None
          none k None e = e
          none k (Some p) e = seats_none t i 0 left k (omega arith) (l.seats i k p e)
      go (k ∷ xs) left =
          let (above, below, here, gap, rest) = seats_first t i 0 k xs left in
          let (p, a) = worth t i k here in
          let first : FoundBelow t f q i (k + 1) (alone k p) = rw add-one record { points = p; worth = refl; net = refl; seen = seen_first t f q i k p gap a } in
          let x = found_all (k + 1) xs (alone k p) (omega arith) (sym rest) first in
          let s = fold weighed (alone k p) (filter_map (value t.size) xs) in
          rw a record {
            points = x.points;
            best = seen_best t f q i l s.seat x.points s.second x.seen;
            worth = x.worth;
            net = x.net;
            second = seen_second t f q i l s.seat x.points s.second x.seen;
          }
