-- The run that a landing displaces, as a computation.
use Rattle.std.proofs.Common.{◌≡◌, ℕ, zero, suc, ◌<◌, Bool, true, false, cond, not, ◌&&◌, eqb, ◌≢◌, Some, None, Option, refl, ap, ◌∙◌, subst, inl, inr, arith}
use Rattle.std.proofs.lemmas.Bool.{eq-eqb, ne_eqb, and_parts, both_ways, cases_eq}
use Rattle.points.specs.Tables.{Table, Lawful}
use Rattle.auction.specs.Markets.{Market, Holds, ShownBelow}
use Rattle.auction.specs.Events.{Displaced}
use Rattle.auction.proofs.Sound.{Sound}
use Rattle.auction.proofs.Holders.{none_some, run_low}
use Rattle.auction.proofs.Puts.{has, has_true, true_has}

-- the run below n, other than i, that holds seat j
abbrev pub holder : Market → ℕ → ℕ → ℕ → Option ℕ
holder m i j zero = None
holder m i j (suc r) = cond (not (eqb r i) && has (m.seat r) j) (Some r) (holder m i j r)

-- what is needed of a market for its events to be computed
pub record Playable (t : Table) (m : Market) : Type 0 where
  pub low : (i k : ℕ) → Holds m i k → i < t.size
  pub single : (i j k : ℕ) → Holds m i k → Holds m j k → i ≡ j
  pub shown : ShownBelow m

pub playable : (t : Table) (m : Market) → Lawful t → Sound t m → Playable t m
playable t m l d = record {
  low = λ i k h. run_low t l i k (d.orderly.allowed i k h);
  single = d.orderly.single;
  shown = d.shown;
}

module _ (m : Market) (i j : ℕ) where
  -- what the holder below n tells
  abbrev Tells : ℕ → Option ℕ → Type 0
  Tells n None = (r : ℕ) → r < n → r ≢ i → Holds m r j → ⊥
  Tells n (Some r) = (r ≢ i) × Holds m r j

  apart : (r : ℕ) → r ≢ i → Holds m r j → (not (eqb r i) && has (m.seat r) j) ≡ true
  apart r n h = let a : eqb r i ≡ false = ne_eqb r i n in let b : has (m.seat r) j ≡ true = true_has (m.seat r) j h in rw (a, b) refl

  tells_more : (r : ℕ) (o : Option ℕ) (c : Bool) → (not (eqb r i) && has (m.seat r) j) ≡ c → Tells r o → Tells (suc r) (cond c (Some r) o)
  tells_more r o true e h = let (a, b) = and_parts _ _ e in ((λ f. both_ways _ (ap not (eq-eqb r i f)) a), has_true (m.seat r) j b)
  tells_more r None false e h = λ u l n g. elim (cases_eq u r) [
    | inl f ↦ both_ways _ e (apart r (λ c. n (f ∙ c)) (subst (λ (z : ℕ). Holds m z j) f g))
    | inr c ↦ h u (omega arith) n g
  ]
  tells_more r (Some u) false e h = h

  tells : (n : ℕ) → Tells n (holder m i j n)
  tells zero = λ r l n h. omega arith
  tells (suc r) = tells_more r (holder m i j r) (not (eqb r i) && has (m.seat r) j) refl (tells r)

  displaced_by : (t : Table) (o : Option ℕ) → Playable t m → Tells t.size o → Displaced m i j o
  displaced_by t None p h = record { holds = λ r e. none_some None r refl e; named = λ r n g. absurd (h r (p.low r j g) n g) }
  displaced_by t (Some u) p (n, h) = record {
    holds = λ r e. let f : u ≡ r = cc in subst (λ (z : ℕ). (z ≢ i) × Holds m z j) f (n, h);
    named = λ r c g. ap Some (p.single u r j h g);
  }

  pub displaced : (t : Table) → Playable t m → Displaced m i j (holder m i j t.size)
  displaced t p = displaced_by t (holder m i j t.size) p (tells t.size)
