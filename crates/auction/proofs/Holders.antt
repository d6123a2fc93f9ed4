-- Who holds a seat, and the plan of a market with every run seated.
use Rattle.std.proofs.Common.{◌≡◌, ℕ, zero, suc, ◌<◌, ◌⊎◌, Some, None, Option, sym, refl, ap, ◌∙◌, subst, inl, inr, arith}
use native.Mathlib.Decide.{ℕ_discrete}
use Rattle.points.specs.Tables.{Table, Allowed, Lawful}
use Rattle.points.specs.Plans.{FullPlan, AllContent}
use Rattle.points.proofs.Scales.{worth}
use Rattle.auction.specs.Markets.{Bid, Market, Holds, Vacant, AllSeated, seat_or0, plan_of}
use Rattle.auction.proofs.Sound.{Orderly}

pub none_some : {A : Type 0} {P : Type 0} (o : Option A) (x : A) → o ≡ None → o ≡ Some x → P
none_some o x p q = let z : ◌≡◌ {A = ℕ} 0 1 = cc in absurd (omega arith)

pub is_some : (o : Option ℕ) (k : ℕ) → Dec (o ≡ Some k)
is_some None k = no (λ e. none_some None k refl e)
is_some (Some j) k = elim (ℕ_discrete j k) [ yes e ↦ yes (ap Some e) | no d ↦ no (λ e. d (cc)) ]

abbrev seat_of : Option Bid → ℕ
seat_of (Some x) = x.seat
seat_of None = 0

abbrev price_of : Option Bid → ℕ
price_of (Some x) = x.price
price_of None = 0

-- two bids that are the same are for the same seat at the same price
pub same_bid : (j b k c : ℕ) → ◌≡◌ {A = Option Bid} (Some (record { seat = j; price = b })) (Some (record { seat = k; price = c })) → (j ≡ k) × (b ≡ c)
same_bid j b k c e = (ap seat_of e, ap price_of e)

-- an allowed pair lies below the size
pub run_low : (t : Table) → Lawful t → (i k : ℕ) → Allowed t i k → i < t.size
run_low t l i k h = let (p, a) = worth t i k h in l.runs i k p a

pub seat_low : (t : Table) → Lawful t → (i k : ℕ) → Allowed t i k → k < t.size
seat_low t l i k h = let (p, a) = worth t i k h in l.seats i k p a

-- the run below n that holds seat k, if any
found : (m : Market) (k n : ℕ) → ((i : ℕ) × Holds m i k) ⊎ ((i : ℕ) → i < n → Holds m i k → ⊥)
found m k zero = inr (λ i l h. omega arith)
found m k (suc n) = go (is_some (m.seat n) k) (found m k n)
  where
    go : Dec (Holds m n k) → ((i : ℕ) × Holds m i k) ⊎ ((i : ℕ) → i < n → Holds m i k → ⊥) → ((i : ℕ) × Holds m i k) ⊎ ((i : ℕ) → i < suc n → Holds m i k → ⊥)
    go (yes h) f = inl (n, h)
    go (no d) (inl f) = inl f
    go (no d) (inr f) = inr (λ i l h. elim (ℕ_discrete i n) [ yes e ↦ d (subst (λ (x : ℕ). Holds m x k) e h) | no c ↦ f i (omega arith) h ])

pub held_or_vacant : (t : Table) (m : Market) → Lawful t → Orderly t m → (k : ℕ) → ((i : ℕ) × Holds m i k) ⊎ Vacant m k
held_or_vacant t m l o k = elim (found m k t.size) [ inl f ↦ inl f | inr f ↦ inr (λ i h. f i (run_low t l i k (o.allowed i k h)) h) ]

module _ (t : Table) (m : Market) (o : Orderly t m) (all : AllSeated t m) where
  held : (i : ℕ) → i < t.size → Holds m i (plan_of m i)
  held i h = let (k, s) = all i h in s ∙ ap (λ (z : Option ℕ). Some (seat_or0 z)) (sym s)

  pub planned : FullPlan t (plan_of m)
  planned = record {
    allowed = λ i h. o.allowed i (plan_of m i) (held i h);
    apart = λ i j h k e. o.single i j (plan_of m i) (held i h) (subst (λ (z : ℕ). Holds m j z) (sym e) (held j k));
  }

  pub all_content : AllContent t m.price m.increment (plan_of m)
  all_content i h = o.content i (plan_of m i) (held i h)
