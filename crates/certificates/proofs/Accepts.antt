-- The rules of a certificate pass exactly where the conditions of acceptance hold, and then the plan is best.
use Rattle.std.proofs.Common.{◌≡◌, ℕ, ◌<◌, true, not, eqb, leb, List, length, ℤ, pos, ◌+ℤ◌, ◌≤ℤ◌, is_some, Some, None, Option, sym, refl, ap, ◌∙◌, subst, inl, inr, arith}
use borrow.Author.Differences.{ints}
use lib.Signed.{le_z}
use Rattle.std.proofs.lemmas.Bool.{and_parts, and_from, leb-true, le-leb, lt-ltb, eqb-true, eq-eqb, both_ways, cases_Bool, cases_order}
use Rattle.fault.specs.declared.faults.Fault.{Fault}
use Rattle.fault.specs.Checks.{Passes, Refuses}
use Rattle.fault.proofs.Once.{apart}
use Rattle.points.specs.Tables.{Table, Pays, Lawful}
use Rattle.points.specs.Nets.{net}
use Rattle.points.specs.Plans.{FullPlan, AllContent, value, total}
use Rattle.points.proofs.Optimal.{best}
use Rattle.points.specs.Limits.{size_limit}
use Rattle.certificates.specs.Certificates.{seat_in, price_in, nets_at_most, held_net, certificate_checks, Acceptable, Accepted, Refused}
use Rattle.points.proofs.Rows.{allowed_below}

at_most : (n x : ℕ) (v r : ℤ) (o : Option ℤ) → o ≡ Some r → nets_at_most n v o x ≡ true → net n r x ≤ℤ (v +ℤ pos 1)
at_most n x v r o e h = let l : le_z (net n r x) (v +ℤ pos 1) ≡ true = sym (ap (λ (u : Option ℤ). nets_at_most n v u x) e) ∙ h in omega (arith, ints, l)

from_at_most : (n x : ℕ) (v : ℤ) (o : Option ℤ) → ((r : ℤ) → o ≡ Some r → net n r x ≤ℤ (v +ℤ pos 1)) → nets_at_most n v o x ≡ true
from_at_most n x v None h = refl
from_at_most n x v (Some r) h = let l : net n r x ≤ℤ (v +ℤ pos 1) = h r refl in grind (arith, ints)

module _ (t : Table) (seats prices : List ℕ) (l : Lawful t) where
  module _ (p : Passes (certificate_checks t seats prices)) where
    plan : FullPlan t (seat_in seats)
    plan = record { allowed = λ i h. (p.1.0 i h).1.0; apart = distinct }
      where
        differ : (i j : ℕ) → i < j → j < t.size → seat_in seats i ≡ seat_in seats j → ⊥
        differ i j h k e = both_ways _ (ap not (eq-eqb _ _ e)) ((p.1.0 j k).1.1 i h)

        distinct : (i j : ℕ) → i < t.size → j < t.size → seat_in seats i ≡ seat_in seats j → i ≡ j
        distinct i j h k e = elim (cases_order i j) [ inl q ↦ q | inr d ↦ elim d [ inl a ↦ absurd (differ i j a k e) | inr a ↦ absurd (differ j i a h (sym e)) ] ]

    content : AllContent t (price_in prices) 1 (seat_in seats)
    content i h k w r held other =
        let c : net t.size r (price_in prices k) ≤ℤ (held_net t seats prices i +ℤ pos 1) = at_most t.size (price_in prices k) (held_net t seats prices i) r (t.points i k) other (p.1.1.1 i h k (l.seats i k r other)) in
        subst (λ (z : ℤ). net t.size r (price_in prices k) ≤ℤ (net t.size z (price_in prices (seat_in seats i)) +ℤ pos 1)) (ap value held) c

    pub acceptable : Acceptable t seats prices
    acceptable =
        let a = and_parts (leb 1 t.size) (leb t.size size_limit) p.0.0 in
        let b = and_parts (eqb (length seats) t.size) (eqb (length prices) t.size) p.0.1 in
        record {
          some = leb-true _ _ a.0;
          few = leb-true _ _ a.1;
          seated = eqb-true _ _ b.0;
          priced = eqb-true _ _ b.1;
          full = plan;
          cheap = λ k h. leb-true _ _ (p.1.1.0 k h);
          content = content;
        }

    pub accepted : (a : ℤ) → a ≡ total t (seat_in seats) → Accepted t seats prices a
    accepted a e = record { passes = p; acceptable = acceptable; totals = e; best = best t (price_in prices) (seat_in seats) l plan content }

  -- the other way round
  pub passes : Acceptable t seats prices → Passes (certificate_checks t seats prices)
  passes a = (
    (and_from _ _ (le-leb _ _ a.some) (le-leb _ _ a.few), and_from _ _ (eq-eqb _ _ a.seated) (eq-eqb _ _ a.priced)),
    (
      (λ i h. (lt-ltb _ _ (allowed_below t l i (seat_in seats i) (a.full.allowed i h)), (a.full.allowed i h, λ j k. other i j h k))),
      (
        (λ k h. le-leb _ _ (a.cheap k h)),
        λ i h k b. from_at_most t.size (price_in prices k) (held_net t seats prices i) (t.points i k) (λ r e. held i h k r e (t.points i (seat_in seats i)) refl (a.full.allowed i h)),
      ),
    ),
  )
    where
      other : (i j : ℕ) → i < t.size → j < i → not (eqb (seat_in seats j) (seat_in seats i)) ≡ true
      other i j h k = elim (cases_Bool (eqb (seat_in seats j) (seat_in seats i))) [
        | inl e ↦ (let q : j ≡ i = a.full.apart j i (omega arith) h (eqb-true _ _ e) in absurd (omega arith))
        | inr e ↦ ap not e
      ]

      held : (i : ℕ) → i < t.size → (k : ℕ) (r : ℤ) → Pays t i k r → (o : Option ℤ) → t.points i (seat_in seats i) ≡ o → is_some (t.points i (seat_in seats i)) ≡ true → net t.size r (price_in prices k) ≤ℤ (held_net t seats prices i +ℤ pos 1)
      held i h k r e None f s = let z : ◌≡◌ {A = ℕ} 0 1 = cc (ap is_some f) in absurd (omega arith)
      held i h k r e (Some w) f s = subst (λ (z : ℤ). net t.size r (price_in prices k) ≤ℤ (net t.size z (price_in prices (seat_in seats i)) +ℤ pos 1)) (sym (ap value f)) (a.content i h k w r f e)

  pub refused : (f : Fault) → Refuses (certificate_checks t seats prices) f → Refused t seats prices f
  refused f r = record { refuses = r; unacceptable = λ a. apart (certificate_checks t seats prices) f r (passes a) }
