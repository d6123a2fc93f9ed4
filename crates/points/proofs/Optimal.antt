-- A full plan whose runs are all content is best, but for the increment.
use Rattle.std.proofs.Common.{◌≡◌, ℕ, zero, suc, ◌*◌, ◌≤◌, ℤ, pos, ◌+ℤ◌, ◌≤ℤ◌, Option, ap, arith}
use borrow.Author.Differences.{ints}
use Rattle.points.specs.Tables.{Table, Lawful}
use Rattle.points.specs.Nets.{scaled}
use Rattle.points.specs.Plans.{FullPlan, Best, AllContent, value, total_to, total}
use Rattle.points.specs.Sums.{sum}
use Rattle.points.proofs.Sums.{permuted}
use Rattle.points.proofs.Scales.{worth, scaled_add, scaled_none, whole}

module _ (t : Table) (q : ℕ → ℕ) (e : ℕ) (π σ : ℕ → ℕ) (l : Lawful t) (mine : FullPlan t π) (content : AllContent t q e π) (other : FullPlan t σ) where
  -- the lead of the first m runs, with the prices that both plans pay
  ahead : (m : ℕ) → m ≤ t.size → (scaled t.size (total_to t σ m) +ℤ pos (sum m (λ i. q (π i)))) ≤ℤ ((scaled t.size (total_to t π m) +ℤ pos (sum m (λ i. q (σ i)))) +ℤ pos (m * e))
  unfolding sum
  ahead zero h = omega (arith, ints, scaled_none t.size)
  ahead (suc m) h =
      let (p, a) = worth t m (π m) (mine.allowed m h) in
      let (r, b) = worth t m (σ m) (other.allowed m h) in
      omega (
        arith,
        ints,
        ahead m (omega arith),
        scaled_add t.size (total_to t σ m) (value (t.points m (σ m))),
        scaled_add t.size (total_to t π m) (value (t.points m (π m))),
        ap (λ (z : Option ℤ). scaled t.size (value z)) a,
        ap (λ (z : Option ℤ). scaled t.size (value z)) b,
        content m h (σ m) p r a b,
      )

  -- a full plan permutes the seats, so it pays every price once
  pays_all : (τ : ℕ → ℕ) → FullPlan t τ → sum t.size (λ i. q (τ i)) ≡ sum t.size q
  pays_all τ f = permuted t.size τ q (λ i h. let (p, a) = worth t i (τ i) (f.allowed i h) in l.seats i (τ i) p a) f.apart

  pub near : scaled t.size (total t σ) ≤ℤ (scaled t.size (total t π) +ℤ pos (t.size * e))
  near = omega (arith, ints, ahead t.size (omega arith), pays_all σ other, pays_all π mine)

pub best : (t : Table) (q π : ℕ → ℕ) → Lawful t → FullPlan t π → AllContent t q 1 π → Best t π
best t q π l mine content = record {
  full = mine;
  most = λ σ other. whole t.size (total t σ) (total t π) (omega (arith, ints, near t q 1 π σ l mine content other));
}
