-- Certificates: a seat for every run and a price for every seat, and what the checker takes.
use Rattle.std.specs.Prelude.{◌≡◌, ℕ, ◌<◌, ◌≤◌, Bool, true, not, ◌&&◌, List, length, ℤ, pos, ◌+ℤ◌, is_some, Some, None, Option, ◌==◌, int_le, nat_le, nat_lt, slice_index}
use Rattle.fault.specs.declared.causes.Cause.{Cause}
use Rattle.fault.specs.declared.causes.Cause.TheVariants.{Size, Buffer, Number, NotAllowed, SeatTaken, PriceTooHigh, NotContent}
use Rattle.fault.specs.declared.layers.Layer.TheVariants.{Checker}
use Rattle.fault.specs.declared.faults.Fault.{Fault}
use Rattle.fault.specs.Faults.{in_phase}
use Rattle.fault.specs.Checks.{Checks, test, each, ◌then◌, Passes, Refuses}
use Rattle.points.specs.Tables.{Table}
use Rattle.points.specs.Limits.{size_limit, price_limit}
use Rattle.points.specs.Nets.{net}
use Rattle.points.specs.Plans.{FullPlan, Best, AllContent, value, total}

-- the seat of run i, and the price of seat k
abbrev pub seat_in : List ℕ → ℕ → ℕ
seat_in seats i = slice_index seats i

abbrev pub price_in : List ℕ → ℕ → ℕ
price_in prices k = slice_index prices k

-- a fault of the checker names a run and a seat, if any, in phase 0
abbrev pub checker_fault : Cause → Option ℕ → Option ℕ → Fault
checker_fault c i k = in_phase Checker c 0 i k

-- a fault at the seat of run i
abbrev pub seat_fault : Cause → List ℕ → ℕ → Fault
seat_fault c seats i = checker_fault c (Some i) (Some (seat_in seats i))

-- a size that is checked, and a seat and a price for each number below it
abbrev pub size_checks : ℕ → ℕ → ℕ → Checks
size_checks n seats prices =
    test (nat_le 1 n && nat_le n size_limit) (checker_fault Size None None)
    then test (seats == n && prices == n) (checker_fault Buffer None None)

-- the seat of run i is below the size, allowed, and not that of a lower run
abbrev pub run_checks : Table → List ℕ → ℕ → Checks
run_checks t seats i =
    test (nat_lt (seat_in seats i) t.size) (seat_fault Number seats i)
    then test (is_some (t.points i (seat_in seats i))) (seat_fault NotAllowed seats i)
    then each i (λ j. test (not (seat_in seats j == seat_in seats i)) (seat_fault SeatTaken seats i))

abbrev pub plan_checks : Table → List ℕ → Checks
plan_checks t seats = each t.size (run_checks t seats)

-- no price is over the limit
abbrev pub price_checks : ℕ → List ℕ → Checks
price_checks n prices = each n (λ k. test (nat_le (price_in prices k) price_limit) (checker_fault PriceTooHigh None (Some k)))

-- at a price, points that may be absent net at most 1 more than v
abbrev pub nets_at_most : ℕ → ℤ → Option ℤ → ℕ → Bool
nets_at_most n v None x = true
nets_at_most n v (Some p) x = int_le (net n p x) (v +ℤ pos 1)

-- what run i nets on its seat
abbrev pub held_net : Table → List ℕ → List ℕ → ℕ → ℤ
held_net t seats prices i = net t.size (value (t.points i (seat_in seats i))) (price_in prices (seat_in seats i))

-- none of the first m seats nets run i over 1 more than v
abbrev pub seat_checks : Table → List ℕ → ℕ → ℤ → ℕ → Checks
seat_checks t prices i v m = each m (λ k. test (nets_at_most t.size v (t.points i k) (price_in prices k)) (checker_fault NotContent (Some i) (Some k)))

-- no seat nets run i over 1 more than its own
abbrev pub content_checks : Table → List ℕ → List ℕ → ℕ → Checks
content_checks t seats prices i = seat_checks t prices i (held_net t seats prices i) t.size

-- the rules of a certificate, in the order in which they are checked
abbrev pub certificate_checks : Table → List ℕ → List ℕ → Checks
certificate_checks t seats prices =
    size_checks t.size (length seats) (length prices)
    then plan_checks t seats
    then price_checks t.size prices
    then each t.size (content_checks t seats prices)

-- the conditions of acceptance, in any order
pub record Acceptable (t : Table) (seats prices : List ℕ) : Type 0 where
  pub some : 1 ≤ t.size
  pub few : t.size ≤ size_limit
  pub seated : length seats ≡ t.size
  pub priced : length prices ≡ t.size
  pub full : FullPlan t (seat_in seats)
  pub cheap : (k : ℕ) → k < t.size → price_in prices k ≤ price_limit
  pub content : AllContent t (price_in prices) 1 (seat_in seats)

-- what an accepted certificate shows: the answer is the plan's total, and no full plan totals more
pub record Accepted (t : Table) (seats prices : List ℕ) (answer : ℤ) : Type 0 where
  pub passes : Passes (certificate_checks t seats prices)
  pub acceptable : Acceptable t seats prices
  pub totals : answer ≡ total t (seat_in seats)
  pub best : Best t (seat_in seats)

-- a refused certificate: the fault of the first rule that it breaks, and it does not meet the conditions
pub record Refused (t : Table) (seats prices : List ℕ) (fault : Fault) : Type 0 where
  pub refuses : Refuses (certificate_checks t seats prices) fault
  pub unacceptable : Acceptable t seats prices → ⊥
