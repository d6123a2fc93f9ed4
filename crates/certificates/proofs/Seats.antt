-- Seats of a run one after the other: gaps net nothing.
use Rattle.std.proofs.Common.{◌≡◌, ℕ, ◌+◌, true, List, ℤ, Option, ap, inl, inr, below_more}
use Rattle.std.proofs.lemmas.Bool.{cases_lt}
use Rattle.fault.specs.Checks.{Passes}
use Rattle.points.specs.Tables.{Table, Gap}
use Rattle.certificates.specs.Certificates.{price_in, nets_at_most, seat_checks}

module _ (t : Table) (prices : List ℕ) (i : ℕ) (v : ℤ) where
  -- seats that are not allowed pass
  pub passed_gap : (from to : ℕ) → Gap t i from to → Passes (seat_checks t prices i v from) → Passes (seat_checks t prices i v to)
  passed_gap from to gap p k h =
      elim (cases_lt k from) [ inl l ↦ p k l | inr l ↦ ap (λ (o : Option ℤ). nets_at_most t.size v o (price_in prices k)) (gap k l h) ]

  pub passed_more : (from seat : ℕ) → Gap t i from seat → Passes (seat_checks t prices i v from) → nets_at_most t.size v (t.points i seat) (price_in prices seat) ≡ true → Passes (seat_checks t prices i v (seat + 1))
  passed_more from seat gap p e =
      below_more (λ k. nets_at_most t.size v (t.points i k) (price_in prices k) ≡ true) seat (passed_gap from seat gap p) e
