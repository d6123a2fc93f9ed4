-- What `try_fold` over a range comes to, where each turn makes one step.
use Rattle.std.proofs.Common.{◌≡◌, ℕ, None, Some, List, [], ◌∷◌, map, map-id, refl, ap, sym, subst, arith}
use denote.Param.Members.{Mut, Called}
use Rattle.std.specs.declared.ops.Range.{Range}
use Rattle.std.specs.declared.ops.ControlFlow.{ControlFlow}
use Rattle.std.specs.declared.ops.ControlFlow.TheVariants.{Continue}
use Rattle.std.specs.List.{FoldsTo, range_with_len}
use Rattle.std.specs.Iterator.{TryFoldTurn, TryFoldsItems}
use Rattle.std.proofs.iter.Yields.{nat_range_steps}
use Rattle.std.proofs.lemmas.Iterator.{YieldsList-from_range, items_from_drains}

module _ {F B R E : Type 0} (g : Mut F (B × (ℕ × Unit {0})) R) (branches : R → ControlFlow E B → Type 0) (Step : B → B → Type 0) where
  -- a turn of f that goes on leaves f as it was, and makes a step
  abbrev Turns : F → Type 0
  Turns f = (a b : B) (x : ℕ) (v : R) (q : F) → Called g f (a, (x, tt)) v q → branches v (Continue b) → (q ≡ f) × Step a b

  steps : (f : F) → Turns f → (xs : List ℕ) (p q : F × B) → p.0 ≡ f → FoldsTo {P = F × B} (TryFoldTurn g branches) p xs q → FoldsTo (λ x _ y. Step x y) p.1 xs q.1
  steps f k [] p q a c = ap (λ (w : F × B). w.1) c
  steps f k (x ∷ xs) p q a c =
      let m = k p.1 c.0.1 x c.1.0 c.0.0 (subst (λ w. Called g w (p.1, (x, tt)) c.1.0 c.0.0) a c.1.1) c.1.2 in
      (c.0.1, m.1, steps f k xs c.0 q m.0 c.2)

  -- where no turn broke off, each made a step
  pub repeated : (resumes : E → R → Type 0) (n : ℕ) (s u : Range ℕ) (f : F) (init b : B) (r : R) → TryFoldsItems nat_range_steps g branches resumes s f init r u → s ≡ record { start = 0; end = n }
      → Turns f → ((e : E) → resumes e r → ⊥) → ((a : B) → branches r (Continue a) → a ≡ b) → FoldsTo (λ x _ y. Step x y) init (range_with_len 0 n) b
  repeated resumes n s u f init b r (xs, None, q, a, y, t, d) e k never is =
      let items : map (λ x. x) xs ≡ range_with_len 0 n = items_from_drains xs (y.0, y.1, λ _. (u, y.2)) (YieldsList-from_range 0 n n e (omega arith)) in
      rw (sym items, map-id xs, sym (is a d)) (steps f k xs (f, init) (q, a) refl t)
  repeated resumes n s u f init b r (xs, Some x, q, a, y, t, d) e k never is = absurd (never d.2 d.5)
