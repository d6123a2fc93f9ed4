-- Functions with one value set, and tests on options.
use Rattle.std.proofs.Common.{◌≡◌, ℕ, Bool, true, false, cond, not, eqb, ◌≢◌, is_some, Some, None, Option, refl, ap}
use Rattle.std.proofs.lemmas.Bool.{eqb-true, eq-eqb, ne_eqb, both_ways, cond-true, cond-false}
use Rattle.auction.proofs.Holders.{none_some}

-- a function with one value set
abbrev pub put : {A : Type 0} → (ℕ → A) → ℕ → A → ℕ → A
put f i x r = cond (eqb r i) x (f r)

pub put_here : {A : Type 0} (f : ℕ → A) (i : ℕ) (x : A) → put f i x i ≡ x
put_here f i x = cond-true (eqb i i) x (f i) (eq-eqb i i refl)

pub put_other : {A : Type 0} (f : ℕ → A) (i : ℕ) (x : A) (r : ℕ) → r ≢ i → put f i x r ≡ f r
put_other f i x r n = cond-false (eqb r i) x (f r) (ne_eqb r i n)

-- tests on an option
abbrev pub is_none : {A : Type 0} → Option A → Bool
is_none o = not (is_some o)

-- it is this number
abbrev pub has : Option ℕ → ℕ → Bool
has None k = false
has (Some j) k = eqb j k

pub none_of : {A : Type 0} (o : Option A) → is_none o ≡ true → o ≡ None
none_of None e = refl
none_of (Some x) e = absurd (both_ways false refl e)

pub some_of : {A : Type 0} (o : Option A) → is_some o ≡ true → (x : A) × (o ≡ Some x)
some_of None e = absurd (both_ways false refl e)
some_of (Some x) e = (x, refl)

pub has_true : (o : Option ℕ) (k : ℕ) → has o k ≡ true → o ≡ Some k
has_true None k e = absurd (both_ways false refl e)
has_true (Some j) k e = ap Some (eqb-true j k e)

pub true_has : (o : Option ℕ) (k : ℕ) → o ≡ Some k → has o k ≡ true
true_has None k e = none_some None k refl e
true_has (Some j) k e = eq-eqb j k (cc)

pub false_has : (o : Option ℕ) (k : ℕ) → (o ≡ Some k → ⊥) → has o k ≡ false
false_has None k n = refl
false_has (Some j) k n = ne_eqb j k (λ e. n (ap Some e))

-- two options are the same
abbrev pub alike : Option ℕ → Option ℕ → Bool
alike None o = is_none o
alike (Some k) o = has o k

pub alike_true : (d o : Option ℕ) → alike d o ≡ true → o ≡ d
alike_true None o e = none_of o e
alike_true (Some k) o e = has_true o k e
