-- Checks in a fixed order: what passes them, and which fault answers what does not.
use Rattle.std.specs.Prelude.{◌≡◌, ℕ, zero, suc, ◌<◌, Bool, true, false, cond, not, ◌⊎◌, is_some, Some, None, Option, MatchOption}
use Rattle.fault.specs.declared.faults.Fault.{Fault}

infixr 20 ◌then◌
-- one test with the fault of its failure; a check for each number below a count, in order; one check and then another
pub data Checks : Type 0 where
  test : Bool → Fault → Checks
  each : ℕ → (ℕ → Checks) → Checks
  ◌then◌ : Checks → Checks → Checks

-- every test comes out true
abbrev pub Passes : Checks → Type 0
Passes (test b f) = b ≡ true
Passes (each n c) = (k : ℕ) → k < n → Passes (c k)
Passes (a then b) = Passes a × Passes b

-- f is the fault of the first test that comes out false
abbrev pub Refuses : Checks → Fault → Type 0
Refuses (test b g) f = (b ≡ false) × (f ≡ g)
Refuses (each n c) f = (k : ℕ) × (k < n) × ((j : ℕ) → j < k → Passes (c j)) × Refuses (c k) f
Refuses (a then b) f = Refuses a f ⊎ (Passes a × Refuses b f)

-- the first of two faults
abbrev pub or_else : Option Fault → Option Fault → Option Fault
or_else None o = o
or_else (Some f) o = Some f

-- the first fault among those of the numbers below a count
abbrev pub first_of : ℕ → (ℕ → Option Fault) → Option Fault
first_of zero g = None
first_of (suc n) g = or_else (first_of n g) (g n)

-- the same, computed: the fault of the first test that comes out false, or nothing
abbrev pub answer : Checks → Option Fault
answer (test b f) = cond b None (Some f)
answer (each n c) = first_of n (λ k. answer (c k))
answer (a then b) = or_else (answer a) (answer b)

-- no test comes out false
abbrev pub kept : Checks → Bool
kept c = not (is_some (answer c))

-- what is refused does not pass, and has one fault, which the computed answer gives
pub record OneAnswer : Type 0 where
  pub apart : (c : Checks) (f : Fault) → Refuses c f → Passes c → ⊥
  pub single : (c : Checks) (f g : Fault) → Refuses c f → Refuses c g → f ≡ g
  pub computed : (c : Checks) → MatchOption (answer c) (Passes c) (Refuses c)
