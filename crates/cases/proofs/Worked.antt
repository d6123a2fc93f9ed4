-- Every worked case holds.
use Rattle.std.proofs.Common.{◌≡◌, ℕ, List, [], ◌∷◌, ◌++◌, map, pos, Some, refl}
use Rattle.fault.specs.declared.faults.Fault.{Fault}
use Rattle.fault.specs.Checks.{Checks, Passes, Refuses, answer}
use Rattle.fault.proofs.Once.{computed, kept_passes}
use Rattle.std.proofs.lemmas.Option.{MatchOption-at_some}
use Rattle.points.specs.Tables.{Lawful}
use Rattle.points.specs.Sums.{sum}
use Rattle.points.specs.Nets.{scaled}
use Rattle.sheets.specs.Bytes.{le16, le32}
use Rattle.fault.specs.declared.causes.Cause.TheVariants.{Length, Spans, NotContent, SeatTaken}
use Rattle.sheets.specs.Headers.{sheet_fault}
use Rattle.sheets.specs.Kinds.{sheet_checks, sheet_table}
use Rattle.sheets.specs.Sparse.{row_from, row_len, span_from, span_len, span_first}
use Rattle.sheets.specs.Examples.{two_runs, touching, joined, to_the_end, past_the_end}
use Rattle.sheets.specs.Cells.{dense_lawful}
use Rattle.sheets.proofs.Worked.{joined_merged}
use Rattle.certificates.specs.Certificates.{checker_fault, certificate_checks}
use Rattle.certificates.proofs.Accepts.{accepted, refused}
use Rattle.boards.specs.Cases as boards
use Rattle.boards.proofs.Worked as boardly
use Rattle.auction.specs.Figures as auctions
use Rattle.auction.proofs.Figures.{figures_hold}
use Rattle.cases.specs.Cases.{Case, board, auction, AllHold, sheet_cases, checker_cases, worked_cases}

-- a fault that is computed is the fault of a refusal
faulted : (c : Checks) (f : Fault) → answer c ≡ Some f → Refuses c f
faulted c f e = MatchOption-at_some (Passes c) (Refuses c) f e (computed c)

joined_lists : (xs ys : List Case) → AllHold xs → AllHold ys → AllHold (xs ++ ys)
joined_lists [] ys h g = g
joined_lists (x ∷ xs) ys h g = (h.0, joined_lists xs ys h.1 g)

boards_hold : (cs : List boards.Case) → boards.AllHold cs → AllHold (map board cs)
boards_hold [] h = tt
boards_hold (c ∷ cs) h = (h.0, boards_hold cs h.1)

sheets_hold : AllHold sheet_cases
unfolding le16 le32 sum row_from row_len span_from span_len span_first
sheets_hold = (
  faulted (sheet_checks []) (sheet_fault Length 0) refl,
  (
    kept_passes (sheet_checks two_runs) refl,
    (
      refl,
      (
        refl,
        (
          refl,
          (
            refl,
            (
              kept_passes (sheet_checks touching) refl,
              (
                refl,
                (
                  refl,
                  (
                    refl,
                    (
                      refl,
                      (
                        kept_passes (sheet_checks joined) refl,
                        (
                          joined_merged,
                          (
                            kept_passes (sheet_checks to_the_end) refl,
                            (faulted (sheet_checks past_the_end) (sheet_fault Spans 42) refl, tt),
                          ),
                        ),
                      ),
                    ),
                  ),
                ),
              ),
            ),
          ),
        ),
      ),
    ),
  ),
)

lawful : Lawful (sheet_table two_runs)
unfolding le16 le32
lawful = dense_lawful two_runs (λ h. refl)

-- the rules of a certificate over the dense sheet of 2 runs
abbrev rules : List ℕ → List ℕ → Checks
rules seats prices = certificate_checks (sheet_table two_runs) seats prices

checker_holds : AllHold checker_cases
unfolding le16 le32 scaled
checker_holds =
    let content : Fault = checker_fault NotContent (Some 0) (Some 0) in
    let taken : Fault = checker_fault SeatTaken (Some 1) (Some 0) in (
      accepted (sheet_table two_runs) (1 ∷ 0 ∷ []) (10 ∷ 5 ∷ []) lawful (kept_passes (rules (1 ∷ 0 ∷ []) (10 ∷ 5 ∷ [])) refl) (pos 7) refl,
      (
        refused (sheet_table two_runs) (1 ∷ 0 ∷ []) (10 ∷ 7 ∷ []) lawful content (faulted (rules (1 ∷ 0 ∷ []) (10 ∷ 7 ∷ [])) content refl),
        (refused (sheet_table two_runs) (0 ∷ 0 ∷ []) (10 ∷ 5 ∷ []) lawful taken (faulted (rules (0 ∷ 0 ∷ []) (10 ∷ 5 ∷ [])) taken refl), tt),
      ),
    )

auctions_hold : (cs : List auctions.Case) → auctions.AllHold cs → AllHold (map auction cs)
auctions_hold [] h = tt
auctions_hold (c ∷ cs) h = (h.0, auctions_hold cs h.1)

pub worked_hold : AllHold worked_cases
worked_hold =
    let calls : List Case = map board boards.cases in
    let events : List Case = map auction auctions.figures in
    joined_lists sheet_cases (checker_cases ++ (calls ++ events)) sheets_hold
    (joined_lists checker_cases (calls ++ events) checker_holds
    (joined_lists calls events (boards_hold boards.cases boardly.worked) (auctions_hold auctions.figures figures_hold)))
