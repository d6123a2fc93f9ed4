-- Tellings that never fall, place by place.
use Rattle.std.proofs.Common.{◌≡◌, ℕ, zero, suc, ◌<◌, ◌≤◌, cond, eqb, List, [], ◌∷◌, length, refl, subst, le_trans, arith}
use Rattle.std.proofs.lemmas.Bool.{cond-true, eq-eqb}
use Rattle.boards.specs.declared.tellings.Telling.{Telling}
use Rattle.boards.specs.Tellings.{Climbs, Rise, telling_at}
use Rattle.boards.specs.Held.{first_above}

-- each telling for seat k is at least where they start
pub stays_above : (ts : List Telling) (i k x : ℕ) → i < length ts → Climbs ts k x → k ≡ (telling_at ts i).seat → x ≤ (telling_at ts i).price
stays_above [] i k x h c e = absurd (omega arith)
stays_above (t ∷ ts) zero k x h c e = c.0 e
stays_above (t ∷ ts) (suc i) k x h c e =
    le_trans (first_above t k x c.0) (stays_above ts i k (cond (eqb k t.seat) t.price x) (omega arith) c.1 e)

pub rises : (ts : List Telling) (start : ℕ → ℕ) → ((k : ℕ) → Climbs ts k (start k)) → Rise ts
rises [] start c i j h l e = absurd (omega arith)
rises (t ∷ ts) start c i zero h l e = absurd (omega arith)
rises (t ∷ ts) start c zero (suc j) h l e =
    let at_seat : cond (eqb t.seat t.seat) t.price (start t.seat) ≡ t.price = cond-true (eqb t.seat t.seat) t.price (start t.seat) (eq-eqb t.seat t.seat refl) in
    stays_above ts j t.seat t.price (omega arith) (subst (λ (x : ℕ). Climbs ts t.seat x) at_seat (c t.seat).1) e
rises (t ∷ ts) start c (suc i) (suc j) h l e =
    rises ts (λ k. cond (eqb k t.seat) t.price (start k)) (λ k. (c k).1) i j (omega arith) (omega arith) e
