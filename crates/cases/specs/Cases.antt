-- The worked cases, one list of all layers, and what the contracts' own relations say of each.
use Rattle.std.specs.Prelude.{◌≡◌, ℕ, List, [], ◌∷◌, ◌++◌, map, ℤ, pos, Some, None, Option}
use Rattle.fault.specs.declared.causes.Cause.TheVariants.{Length, Spans, NotContent, SeatTaken}
use Rattle.fault.specs.declared.faults.Fault.{Fault}
use Rattle.fault.specs.Checks.{Passes, Refuses}
use Rattle.sheets.specs.Headers.{sheet_fault}
use Rattle.sheets.specs.Kinds.{sheet_checks, sheet_table}
use Rattle.sheets.specs.Merging.{Merged}
use Rattle.sheets.specs.Examples.{two_runs, touching, joined, to_the_end, past_the_end}
use Rattle.certificates.specs.Certificates.{Accepted, Refused, checker_fault}
use Rattle.boards.specs.Cases as boards
use Rattle.auction.specs.Figures as auctions

pub data Case : Type 0 where
  -- a sheet that keeps the rules
  keeps : List ℕ → Case
  -- a sheet that is refused with a fault
  breaks : List ℕ → Fault → Case
  -- a sheet's points for a run and a seat
  pays : List ℕ → ℕ → ℕ → Option ℤ → Case
  -- a sheet, and the same with two touching spans of a row merged: the row and the first of the spans
  merges : List ℕ → List ℕ → ℕ → ℕ → Case
  -- over a sheet, seats and prices that are accepted with a total
  accepts : List ℕ → List ℕ → List ℕ → ℤ → Case
  -- over a sheet, seats and prices that are refused with a fault
  refuses : List ℕ → List ℕ → List ℕ → Fault → Case
  -- calls on a board
  board : boards.Case → Case
  -- events of an auction
  auction : auctions.Case → Case

-- what the contracts' relations say of a case
abbrev pub Holds : Case → Type 0
Holds (keeps bs) = Passes (sheet_checks bs)
Holds (breaks bs f) = Refuses (sheet_checks bs) f
Holds (pays bs i k o) = (sheet_table bs).points i k ≡ o
Holds (merges bs cs i j) = Merged bs cs i j
Holds (accepts bs seats prices a) = Accepted (sheet_table bs) seats prices a
Holds (refuses bs seats prices f) = Refused (sheet_table bs) seats prices f
Holds (board c) = boards.Holds c
Holds (auction c) = auctions.CaseHolds c

abbrev pub AllHold : List Case → Type 0
AllHold [] = Unit {0}
AllHold (c ∷ cs) = Holds c × AllHold cs

abbrev pub sheet_cases : List Case
sheet_cases =
    -- no bytes are refused at byte 0
    breaks [] (sheet_fault Length 0)
    -- the dense sheet of 2 runs
    ∷ keeps two_runs
    ∷ pays two_runs 0 0 (Some (pos 5))
    ∷ pays two_runs 0 1 (Some (pos 3))
    ∷ pays two_runs 1 0 (Some (pos 4))
    ∷ pays two_runs 1 1 (Some (pos 1))
    -- touching spans (0, 2) and (2, 1) allow seats 0 to 2
    ∷ keeps touching
    ∷ pays touching 0 0 (Some (pos 7))
    ∷ pays touching 0 1 (Some (pos 7))
    ∷ pays touching 0 2 (Some (pos 7))
    ∷ pays touching 0 3 None
    ∷ keeps joined
    ∷ merges touching joined 0 0
    -- a span may end with the last seat, and not past it
    ∷ keeps to_the_end
    ∷ breaks past_the_end (sheet_fault Spans 42)
    ∷ []

abbrev pub checker_cases : List Case
checker_cases =
    accepts two_runs (1 ∷ 0 ∷ []) (10 ∷ 5 ∷ []) (pos 7)
    ∷ refuses two_runs (1 ∷ 0 ∷ []) (10 ∷ 7 ∷ []) (checker_fault NotContent (Some 0) (Some 0))
    ∷ refuses two_runs (0 ∷ 0 ∷ []) (10 ∷ 5 ∷ []) (checker_fault SeatTaken (Some 1) (Some 0))
    ∷ []

-- the one list
abbrev pub worked_cases : List Case
worked_cases = sheet_cases ++ (checker_cases ++ (map board boards.cases ++ map auction auctions.figures))

-- all of the worked cases hold
abbrev pub WorkedCasesHold : Type 0
WorkedCasesHold = AllHold worked_cases
