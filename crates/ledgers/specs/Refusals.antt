-- The tests of each call of a started auction in their order, with the whole fault of each failure.
use Rattle.std.specs.Prelude.{ℕ, ◌+◌, ◌-◌, not, ◌&&◌, List, length, is_some, Some, None, Option, ◌==◌, nat_le, nat_lt, slice_index}
use Rattle.fault.specs.declared.causes.Cause.{Cause}
use Rattle.fault.specs.declared.causes.Cause.TheVariants.{Size, Ladder, Allowance, Number, HoldsSeat, BidOut, NoBidOut, AllowanceSpent, NoFullPlan, RunFree, LastPhase}
use Rattle.fault.specs.declared.layers.Layer.TheVariants.{Exchange}
use Rattle.fault.specs.declared.faults.Fault.{Fault}
use Rattle.fault.specs.Faults.{in_phase}
use Rattle.fault.specs.Checks.{Checks, test, each, ◌then◌}
use Rattle.ledgers.specs.declared.books.Book.{Book}
use Rattle.ledgers.specs.Books.{seat_at, bid_at}
use Rattle.ledgers.specs.Rules.{count}
use Rattle.points.specs.Limits.{size_limit}
use Rattle.auction.specs.Limits.{phase_limit, increment_limit, allowance_limit}

-- a fault of an auction that is not started names nothing
abbrev pub start_fault : Cause → Fault
start_fault c = in_phase Exchange c 0 None None

-- each of the first n increments after the first is below the one before it
abbrev pub fall_checks : List ℕ → ℕ → Checks
fall_checks xs n = each n (λ k. test (nat_lt (slice_index xs (k + 1)) (slice_index xs k)) (start_fault Ladder))

-- increments make a ladder: 1 to 16 of them, the first not over the limit, falling strictly to 1
abbrev pub ladder_checks : List ℕ → Checks
ladder_checks xs =
    test (nat_le 1 (length xs) && nat_le (length xs) phase_limit) (start_fault Ladder)
    then test (nat_le (slice_index xs 0) increment_limit) (start_fault Ladder)
    then fall_checks xs (length xs - 1)
    then test (slice_index xs (length xs - 1) == 1) (start_fault Ladder)

-- a start: the size, the ladder, the allowance
abbrev pub start_checks : ℕ → List ℕ → ℕ → Checks
start_checks n ladder allowance =
    test (nat_le 1 n && nat_le n size_limit) (start_fault Size)
    then ladder_checks ladder
    then test (nat_le 1 allowance && nat_le allowance allowance_limit) (start_fault Allowance)

-- a fault of a started auction names its phase, and a run and a seat, if any
abbrev pub phase_fault : Book → Cause → Option ℕ → Option ℕ → Fault
phase_fault b c i k = in_phase Exchange c b.phase i k

-- the run given, and no seat
abbrev pub run_fault : Book → Cause → ℕ → Fault
run_fault b c i = phase_fault b c (Some i) None

-- a run, and a seat, is below the size
abbrev pub run_checks : Book → ℕ → Checks
run_checks b i = test (nat_lt i b.conditions.size) (run_fault b Number i)

abbrev pub seat_checks : Book → ℕ → Checks
seat_checks b k = test (nat_lt k b.conditions.size) (phase_fault b Number None (Some k))

-- there is no mark; the fault names the marked run
abbrev pub mark_checks : Book → Checks
mark_checks b = test (not (is_some b.mark)) (phase_fault b NoFullPlan b.mark None)

-- run i has a bid out
abbrev pub out_checks : Book → ℕ → Checks
out_checks b i = test (is_some (bid_at b i)) (run_fault b NoBidOut i)

-- run i composes a bid
abbrev pub compose_checks : Book → ℕ → Checks
compose_checks b i =
    run_checks b i
    then mark_checks b
    then test (not (is_some (seat_at b i))) (run_fault b HoldsSeat i)
    then test (not (is_some (bid_at b i))) (run_fault b BidOut i)
    then test (nat_lt b.counts.composed b.conditions.allowance) (run_fault b AllowanceSpent i)

-- run i's bid is delivered
abbrev pub deliver_checks : Book → ℕ → Checks
deliver_checks b i = run_checks b i then mark_checks b then out_checks b i

-- run i's bid is recalled
abbrev pub recall_checks : Book → ℕ → Checks
recall_checks b i = run_checks b i then out_checks b i

-- the next phase begins: as many runs hold a seat as there are, and a phase is to come
abbrev pub advance_checks : Book → Checks
advance_checks b =
    mark_checks b
    then test (count b.seats == b.conditions.size) (phase_fault b RunFree None None)
    then test (nat_lt b.phase b.conditions.phases) (phase_fault b LastPhase None None)
