-- A seat that a lower run holds, and marks of such seats.
use Rattle.std.proofs.Common.{◌≡◌, ℕ, zero, suc, ◌+◌, ◌<◌, Bool, true, false, not, eqb, List, length, get_or, set, replicate, Some, None, Option, sym, refl, ap, ◌∙◌, subst, inl, inr, arith, get_or-set_other, get_or-set_same, MatchOption}
use Rattle.std.proofs.lemmas.Bool.{eq-eqb, cases_eq, both_ways}
use Rattle.fault.specs.declared.faults.Fault.{Fault}
use Rattle.fault.specs.Checks.{Checks, test, each, Passes, Refuses, answer}
use Rattle.fault.proofs.Once.{computed}
use Rattle.certificates.specs.Certificates.{seat_in}
use Rattle.certificates.specs.Marks.{Marked}

module _ (seats : List ℕ) (i : ℕ) (fault : Fault) where
  abbrev pub others : Checks
  others = each i (λ j. test (not (eqb (seat_in seats j) (seat_in seats i))) fault)

  -- a lower run with the same seat is refused, whichever it is
  pub held_refuses : (j : ℕ) → j < i → seat_in seats j ≡ seat_in seats i → Refuses others fault
  held_refuses j h e = go (answer others) (computed others)
    where
      go : (o : Option Fault) → MatchOption o (Passes others) (Refuses others) → Refuses others fault
      go None p = absurd (both_ways _ (ap not (eq-eqb _ _ e)) (p j h))
      go (Some f) (k, l, before, b) = (k, l, before, (b.0, refl))

module _ (seats : List ℕ) (i : ℕ) (marks : List Bool) (m : Marked seats i marks) where
  -- one run more
  pub marked_more : seat_in seats i < length marks → Marked seats (i + 1) (set marks (seat_in seats i) true)
  marked_more h = record { there = there; only = only }
    where
      here : get_or (set marks (seat_in seats i) true) (seat_in seats i) false ≡ true
      here = get_or-set_same marks (seat_in seats i) true false h

      there : (j : ℕ) → j < i + 1 → get_or (set marks (seat_in seats i) true) (seat_in seats j) false ≡ true
      there j l = elim (cases_eq (seat_in seats j) (seat_in seats i)) [
        | inl e ↦ subst (λ (k : ℕ). get_or (set marks (seat_in seats i) true) k false ≡ true) (sym e) here
        | inr d ↦ elim (cases_eq j i) [
          | inl e ↦ absurd (d (ap (seat_in seats) e))
          | inr n ↦ get_or-set_other marks (seat_in seats i) (seat_in seats j) true false d ∙ m.there j (omega arith)
        ]
      ]

      only : (k : ℕ) → get_or (set marks (seat_in seats i) true) k false ≡ true → (j : ℕ) × (j < i + 1) × (seat_in seats j ≡ k)
      only k e = elim (cases_eq k (seat_in seats i)) [
        | inl q ↦ (i, omega arith, sym q)
        | inr d ↦ (let (j, l, s) = m.only k (sym (get_or-set_other marks (seat_in seats i) k true false d) ∙ e) in (j, omega arith, s))
      ]

pub marked_none : (seats : List ℕ) (n : ℕ) → Marked seats 0 (replicate n false)
marked_none seats n = record {
  there = λ j h. absurd (omega arith);
  only = λ k e. absurd (both_ways _ (blank n k) e);
}
  where
    blank : (n k : ℕ) → get_or (replicate n false) k false ≡ false
    blank zero k = refl
    blank (suc n) zero = refl
    blank (suc n) (suc k) = blank n k
