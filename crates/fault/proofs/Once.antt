-- A refusal has one fault, nothing refused passes, and the computed answer says which it is.
use Rattle.std.proofs.Common.{◌≡◌, ℕ, zero, suc, Bool, true, false, not, is_some, Some, None, Option, sym, refl, ◌∙◌, subst, inl, inr, arith, MatchOption}
use Rattle.std.proofs.lemmas.Bool.{both_ways, cases_order, cases_eq}
use Rattle.fault.specs.declared.faults.Fault.{Fault}
use Rattle.fault.specs.Checks.{Checks, test, each, ◌then◌, Passes, Refuses, or_else, first_of, answer, kept}

pub apart : (c : Checks) (f : Fault) → Refuses c f → Passes c → ⊥
apart (test b g) f r p = both_ways b r.0 p
apart (each n c) f (k, l, before, r) p = apart (c k) f r (p k l)
apart (a then b) f (inl r) p = apart a f r p.0
apart (a then b) f (inr (q, r)) p = apart b f r p.1

pub single : (c : Checks) (f g : Fault) → Refuses c f → Refuses c g → f ≡ g
single (test b h) f g x y = x.1 ∙ sym y.1
single (each n c) f g (k, l, before, x) (m, o, others, y) =
    elim (cases_order k m) [
      | inl e ↦ single (c k) f g x (subst (λ (z : ℕ). Refuses (c z) g) (sym e) y)
      | inr d ↦ elim d [ inl h ↦ absurd (apart (c k) f x (others k h)) | inr h ↦ absurd (apart (c m) g y (before m h)) ]
    ]
single (a then b) f g (inl x) (inl y) = single a f g x y
single (a then b) f g (inl x) (inr (p, y)) = absurd (apart a f x p)
single (a then b) f g (inr (p, x)) (inl y) = absurd (apart a g y p)
single (a then b) f g (inr (p, x)) (inr (q, y)) = single b f g x y

by_test : (b : Bool) (f : Fault) → MatchOption (answer (test b f)) (Passes (test b f)) (Refuses (test b f))
by_test true f = refl
by_test false f = (refl, refl)

by_two : (a b : Checks) (o u : Option Fault) → MatchOption o (Passes a) (Refuses a) → MatchOption u (Passes b) (Refuses b) → MatchOption (or_else o u) (Passes (a then b)) (Refuses (a then b))
by_two a b None None p q = (p, q)
by_two a b None (Some f) p q = inr (p, q)
by_two a b (Some f) u p q = inl p

-- one number more
by_more : (n : ℕ) (c : ℕ → Checks) (o u : Option Fault) → MatchOption o (Passes (each n c)) (Refuses (each n c)) → MatchOption u (Passes (c n)) (Refuses (c n)) → MatchOption (or_else o u) (Passes (each (suc n) c)) (Refuses (each (suc n) c))
by_more n c None None p q = λ k l. elim (cases_eq k n) [ inl e ↦ subst (λ (z : ℕ). Passes (c z)) (sym e) q | inr d ↦ p k (omega arith) ]
by_more n c None (Some f) p q = (n, omega arith, p, q)
by_more n c (Some f) u (k, l, before, r) q = (k, omega arith, before, r)

by_each : (n : ℕ) (c : ℕ → Checks) → ((k : ℕ) → MatchOption (answer (c k)) (Passes (c k)) (Refuses (c k))) → MatchOption (first_of n (λ k. answer (c k))) (Passes (each n c)) (Refuses (each n c))
by_each zero c h = λ k l. absurd (omega arith)
by_each (suc n) c h = by_more n c (first_of n (λ k. answer (c k))) (answer (c n)) (by_each n c h) (h n)

pub computed : (c : Checks) → MatchOption (answer c) (Passes c) (Refuses c)
computed (test b f) = by_test b f
computed (each n c) = by_each n c (λ k. computed (c k))
computed (a then b) = by_two a b (answer a) (answer b) (computed a) (computed b)

-- what keeps every rule passes, and the other way round
pub kept_passes : (c : Checks) → kept c ≡ true → Passes c
kept_passes c h = go (answer c) (computed c) h
  where
    go : (o : Option Fault) → MatchOption o (Passes c) (Refuses c) → not (is_some o) ≡ true → Passes c
    go None p e = p
    go (Some f) p e = let q : ◌≡◌ {A = ℕ} 0 1 = cc in absurd (omega arith)

pub passes_kept : (c : Checks) → Passes c → kept c ≡ true
passes_kept c h = go (answer c) (computed c)
  where
    go : (o : Option Fault) → MatchOption o (Passes c) (Refuses c) → not (is_some o) ≡ true
    go None p = refl
    go (Some f) p = absurd (apart c f p h)
