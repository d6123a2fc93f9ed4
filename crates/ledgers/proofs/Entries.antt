-- Lists with entries that may be absent: reading after a write, counting, and lists that return each other.
use Rattle.std.proofs.Common.{◌≡◌, ℕ, zero, suc, ◌+◌, ◌<◌, ◌≤◌, true, false, not, List, [], ◌∷◌, length, get_or, set, replicate, is_some, Some, None, Option, sym, refl, ap, ◌∙◌, le_of_suc-le-suc, not-suc-le-zero, arith}
use Rattle.std.proofs.lemmas.Option.{none-some}
use Rattle.std.proofs.lemmas.Bool.{eqb-true}
use Rattle.std.proofs.lemmas.Bool.Decides.{nat_tests}
use Rattle.ledgers.specs.Rules.{count, names}

-- what holds of every entry at its place, and of a new one, holds once that is put in
pub each_set : {A : Type 0} (d : A) (P : ℕ → A → Type 0) (xs : List A) (i : ℕ) (a : A) → ((k : ℕ) → P k (get_or xs k d)) → P i a → (k : ℕ) → P k (get_or (set xs i a) k d)
each_set d P [] i a h p k = h k
each_set d P (x ∷ xs) zero a h p zero = p
each_set d P (x ∷ xs) zero a h p (suc k) = h (suc k)
each_set d P (x ∷ xs) (suc i) a h p zero = h zero
each_set d P (x ∷ xs) (suc i) a h p (suc k) = each_set d (λ j. P (suc j)) xs i a (λ j. h (suc j)) p k

-- every entry of a list of equal values, and what is read past its end
pub same : {A : Type 0} (n : ℕ) (a : A) (k : ℕ) → get_or (replicate n a) k a ≡ a
same zero a k = refl
same (suc n) a zero = refl
same (suc n) a (suc k) = same n a k

-- nothing is not something
pub empty_some : {A B : Type 0} (n k : ℕ) (x : A) → get_or (replicate n None) k None ≡ Some x → B
empty_some {A} n k x e = absurd (none-some x (sym (same {A = Option A} n None k) ∙ e))

pub is_none : {A : Type 0} (o : Option A) → is_some o ≡ false → o ≡ None
is_none None e = refl
is_none (Some x) e = cc

pub some_of : {A : Type 0} (o : Option A) → is_some o ≡ true → (x : A) × (o ≡ Some x)
some_of None e = cc
some_of (Some x) e = (x, refl)

pub not_some : {A : Type 0} (o : Option A) → not (is_some o) ≡ true → o ≡ None
not_some None e = refl
not_some (Some x) e = cc

pub names_some : (o : Option ℕ) (a : ℕ) → names o a ≡ true → o ≡ Some a
names_some None a e = cc
names_some (Some b) a e = ap Some (eqb-true b a e)

pub some_names : (o : Option ℕ) (a : ℕ) → o ≡ Some a → names o a ≡ true
some_names None a e = absurd (none-some a e)
some_names (Some b) a e = let q : b ≡ a = cc in grind (arith, nat_tests)

-- one entry fewer
pub count_none : {A : Type 0} (xs : List (Option A)) (i : ℕ) (x : A) → get_or xs i None ≡ Some x → count (set xs i None) + 1 ≡ count xs
count_none [] i x e = absurd (none-some x e)
count_none (None ∷ xs) zero x e = absurd (none-some x e)
count_none (Some y ∷ xs) zero x e = refl
count_none (None ∷ xs) (suc i) x e = count_none xs i x e
count_none (Some y ∷ xs) (suc i) x e = ap (λ n. n + 1) (count_none xs i x e)

pub count_out : {A : Type 0} (xs : List (Option A)) (i : ℕ) → is_some (get_or xs i None) ≡ true → count (set xs i None) + 1 ≡ count xs
count_out xs i e = let x = some_of (get_or xs i None) e in count_none xs i x.0 x.1

-- one entry more
pub count_some : {A : Type 0} (xs : List (Option A)) (i : ℕ) (x : A) → i < length xs → get_or xs i None ≡ None → count (set xs i (Some x)) ≡ count xs + 1
count_some [] i x h e = absurd (not-suc-le-zero h)
count_some (None ∷ xs) zero x h e = refl
count_some (Some y ∷ xs) zero x h e = absurd (none-some y (sym e))
count_some (None ∷ xs) (suc i) x h e = count_some xs i x (le_of_suc-le-suc h) e
count_some (Some y ∷ xs) (suc i) x h e = ap (λ n. n + 1) (count_some xs i x (le_of_suc-le-suc h) e)

-- a list with entries only below n has at most n of them
pub count_most : {A : Type 0} (xs : List (Option A)) (n : ℕ) → ((a : ℕ) (x : A) → get_or xs a None ≡ Some x → a < n) → count xs ≤ n
count_most [] n h = omega arith
count_most (Some x ∷ xs) zero h = absurd (not-suc-le-zero (h 0 x refl))
count_most (None ∷ xs) zero h = count_most xs zero (λ a x e. absurd (not-suc-le-zero (h (suc a) x e)))
count_most (None ∷ xs) (suc n) h = let r : count xs ≤ n = count_most xs n (λ a x e. le_of_suc-le-suc (h (suc a) x e)) in omega (arith, r)
count_most (Some x ∷ xs) (suc n) h = let r : count xs ≤ n = count_most xs n (λ a y e. le_of_suc-le-suc (h (suc a) y e)) in omega (arith, r)

-- with n entries it has one at each place below n
pub count_full : {A : Type 0} (xs : List (Option A)) (n : ℕ) → ((a : ℕ) (x : A) → get_or xs a None ≡ Some x → a < n) → count xs ≡ n → (i : ℕ) → i < n → (x : A) × (get_or xs i None ≡ Some x)
count_full [] n h e i l = absurd (omega (arith, e))
count_full (None ∷ xs) zero h e i l = absurd (not-suc-le-zero l)
count_full (Some x ∷ xs) zero h e i l = absurd (not-suc-le-zero l)
count_full (None ∷ xs) (suc n) h e i l = let r : count xs ≤ n = count_most xs n (λ a x q. le_of_suc-le-suc (h (suc a) x q)) in absurd (omega (arith, r, e))
count_full (Some x ∷ xs) (suc n) h e zero l = (x, refl)
count_full (Some x ∷ xs) (suc n) h e (suc i) l = let f : count xs ≡ n = omega (arith, e) in count_full xs n (λ a y q. le_of_suc-le-suc (h (suc a) y q)) f i (le_of_suc-le-suc l)
