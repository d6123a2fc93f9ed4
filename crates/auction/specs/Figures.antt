-- The worked cases, as data, and what the rules say of each.
use Rattle.std.specs.Prelude.{◌≡◌, ℕ, List, [], ◌∷◌, length, ℤ, pos, Some, None, Option, slice_index, slice_index_or}
use Rattle.points.specs.Tables.{Table, Lawful}
use Rattle.points.specs.Plans.{total}
use Rattle.points.specs.Limits.{top_limit}
use Rattle.auction.specs.Markets.{Market, AllSeated, plan_of}
use Rattle.auction.specs.Events.{Event, composed, marked, landed, outbid, recalled, carried, settled, advanced, Step}
use Rattle.auction.specs.Runs.{Run, Opened}

-- a worked case
pub data Case : Type 0 where
  -- over these points by run and seat, events that follow a start with this first increment and these later ones
  leads : List (List (Option ℤ)) → ℕ → List ℕ → List Event → Case
  -- and that leave every run seated in the last phase, with this total
  completes : List (List (Option ℤ)) → ℕ → List ℕ → List Event → ℤ → Case
  -- at an increment and a price of seat 0, how a bid of so much for it comes out
  delivers : ℕ → ℕ → ℕ → Event → Case

-- the table of these points by run and seat
abbrev pub table_of : List (List (Option ℤ)) → Table
table_of rows = record { size = length rows; top = top_limit; points = λ i k. slice_index_or (slice_index_or rows i []) k None }

-- the market that a start with these increments leaves
abbrev pub opening : ℕ → List ℕ → Market
opening first later = record {
  price = λ k. 0;
  seat = λ i. None;
  bid = λ i. None;
  shown = λ i k. 0;
  mark = None;
  phase = 1;
  increment = first;
  later = later;
  high = 0;
  composed = 0;
  accepted = 0;
  outbid = 0;
  recalled = 0;
  phase_accepted = 0;
  allowance = 100;
}

-- a market of one run and one seat, at increment e and this price, with the run's bid of so much out
abbrev pub waiting : ℕ → ℕ → ℕ → Market
waiting e price offer = record {
  price = λ k. slice_index (price ∷ []) k;
  seat = λ i. None;
  bid = λ i. slice_index_or (Some (record { seat = 0; price = offer }) ∷ []) i None;
  shown = λ i k. 0;
  mark = None;
  phase = 1;
  increment = e;
  later = [];
  high = 0;
  composed = 1;
  accepted = 0;
  outbid = 0;
  recalled = 0;
  phase_accepted = 0;
  allowance = 100;
}

-- over a lawful table, the events lead from an opened market to another
pub record Leads (t : Table) (m : Market) (cs : List Event) : Type 0 where
  pub lawful : Lawful t
  pub opened : Opened m
  pub final : Market
  pub run : Run t cs m final

-- and there every run holds a seat in the last phase, and the plan has this total
pub record Completes (t : Table) (m : Market) (cs : List Event) (z : ℤ) : Type 0 where
  pub leads : Leads t m cs
  pub seated : AllSeated t leads.final
  pub last : leads.final.later ≡ []
  pub total : total t (plan_of leads.final) ≡ z

-- what the rules say of a case
abbrev pub CaseHolds : Case → Type 0
CaseHolds (leads rows first later cs) = Leads (table_of rows) (opening first later) cs
CaseHolds (completes rows first later cs z) = Completes (table_of rows) (opening first later) cs z
CaseHolds (delivers e price offer c) = (n : Market) × Step (table_of ((Some (pos 0) ∷ []) ∷ [])) c (waiting e price offer) n

-- every case of a list holds
abbrev pub AllHold : List Case → Type 0
AllHold [] = Unit {0}
AllHold (c ∷ cs) = CaseHolds c × AllHold cs

-- points 5, 3 and 4, 1
abbrev pub rows_a : List (List (Option ℤ))
rows_a = (Some (pos 5) ∷ Some (pos 3) ∷ []) ∷ (Some (pos 4) ∷ Some (pos 1) ∷ []) ∷ []

-- two runs that are allowed only seat 0, with 0 points
abbrev pub rows_one_seat : List (List (Option ℤ))
rows_one_seat = (Some (pos 0) ∷ None ∷ []) ∷ (Some (pos 0) ∷ None ∷ []) ∷ []

-- the cases
abbrev pub figures : List Case
figures =
    -- run 1 displaces run 0, which takes the other seat
    completes rows_a 1 [] (composed 0 0 7 ∷ landed 0 0 7 None ∷ settled ∷ composed 1 0 10 ∷ landed 1 0 10 (Some 0) ∷ settled ∷ composed 0 1 5 ∷ landed 0 1 5 None ∷ []) (pos 7)
    -- a board that still shows 0 to run 0
    ∷ leads rows_a 1 [] (composed 0 0 7 ∷ landed 0 0 7 None ∷ composed 1 0 10 ∷ landed 1 0 10 (Some 0) ∷ composed 0 0 7 ∷ outbid 0 0 10 ∷ [])
    -- both bids out before either is delivered, and one recalled
    ∷ leads rows_a 1 [] (composed 0 0 7 ∷ composed 1 0 10 ∷ landed 1 0 10 None ∷ outbid 0 0 10 ∷ carried ∷ composed 0 0 7 ∷ recalled 0 ∷ settled ∷ composed 0 1 5 ∷ [])
    -- increments 4 and 1
    ∷ completes rows_a 4 (1 ∷ []) (composed 0 0 10 ∷ landed 0 0 10 None ∷ settled ∷ composed 1 1 5 ∷ landed 1 1 5 None ∷ advanced ∷ settled ∷ composed 0 0 12 ∷ landed 0 0 12 None ∷ settled ∷ composed 1 0 15 ∷ landed 1 0 15 (Some 0) ∷ settled ∷ composed 0 1 10 ∷ landed 0 1 10 None ∷ []) (pos 7)
    -- one increment above the price is enough, and less is not
    ∷ delivers 1 10 10 (outbid 0 0 10)
    ∷ delivers 1 10 11 (landed 0 0 11 None)
    -- one run and one seat, allowed and not
    ∷ leads ((Some (pos 5) ∷ []) ∷ []) 1 [] (composed 0 0 2000011 ∷ [])
    ∷ leads ((None ∷ []) ∷ []) 1 [] (marked 0 ∷ [])
    -- no full plan
    ∷ leads rows_one_seat 1 [] (composed 0 0 9000002 ∷ landed 0 0 9000002 None ∷ settled ∷ marked 1 ∷ [])
    -- of equal seats the lowest
    ∷ leads ((Some (pos 4) ∷ Some (pos 4) ∷ []) ∷ (Some (pos 4) ∷ Some (pos 4) ∷ []) ∷ []) 1 [] (composed 0 0 1 ∷ [])
    ∷ []
