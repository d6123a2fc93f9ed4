-- The number of each cause.
use Rattle.std.specs.Prelude.{ℕ}
use Rattle.fault.specs.declared.causes.Cause.{Cause}
use Rattle.fault.specs.declared.causes.Cause.TheVariants.{Length, Size, Kind, Points, Spans, Ladder, Allowance, Number, Buffer, NotAllowed, SeatTaken, PriceTooHigh, NotContent, NotStarted, AlreadyStarted, HoldsSeat, BidOut, NoBidOut, AllowanceSpent, NoFullPlan, RunFree, LastPhase, NotComplete}

abbrev pub number_of : Cause → ℕ
number_of Length = 1
number_of Size = 2
number_of Kind = 3
number_of Points = 4
number_of Spans = 5
number_of Ladder = 6
number_of Allowance = 7
number_of Number = 8
number_of Buffer = 9
number_of NotAllowed = 10
number_of SeatTaken = 11
number_of PriceTooHigh = 12
number_of NotContent = 13
number_of NotStarted = 20
number_of AlreadyStarted = 21
number_of HoldsSeat = 22
number_of BidOut = 23
number_of NoBidOut = 24
number_of AllowanceSpent = 25
number_of NoFullPlan = 26
number_of RunFree = 27
number_of LastPhase = 28
number_of NotComplete = 29
