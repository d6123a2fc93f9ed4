use Rattle.std.proofs.Common.{◌≡◌, ℕ, ◌-◌, Bool, true, false, nat_lt, List, length, Some, None, Option, MatchOption, MatchBool, sym, refl, rules, arith}
use Rattle.std.proofs.lemmas.Bool.{both_ways}
use Rattle.std.proofs.lemmas.List.Sorted.{answers_always}
use Rattle.std.specs.List.{IsAllAdjacentAnswer}
use Rattle.fault.specs.declared.causes.Cause.TheVariants.{Ladder}
use Rattle.fault.specs.declared.faults.Fault.{Fault}
use Rattle.fault.specs.Checks.{Passes, Refuses, answer}
use Rattle.fault.proofs.Once.{computed}
use Rattle.ledgers.specs.Refusals.{start_fault, fall_checks}
use Rattle.ledgers.proofs.opening.check_falls.Goals as goal

-- whether each increment falls to the next says whether the tests pass
falls : (xs : List ℕ) (b : Bool) → IsAllAdjacentAnswer (λ x y r. r ≡ nat_lt y x) xs b → MatchBool b (Passes (fall_checks xs (length xs - 1))) (Refuses (fall_checks xs (length xs - 1)) (start_fault Ladder))
falls xs true h = λ k l. sym (h k 0 (omega (arith, l)))
falls xs false (k, l, e) = first (answer (fall_checks xs (length xs - 1))) (computed (fall_checks xs (length xs - 1)))
  where
    first : (o : Option Fault) → MatchOption o (Passes (fall_checks xs (length xs - 1))) (Refuses (fall_checks xs (length xs - 1))) → Refuses (fall_checks xs (length xs - 1)) (start_fault Ladder)
    first None p = absurd (both_ways _ (sym (e 0)) (p k (omega (arith, l))))
    first (Some f) (j, low, before, r) = (j, low, before, (r.0, refl))

pub returns : goal.returns
returns c =
    let xs = c.args.ladder.now in
    let h = c.is_sorted_by.ensures.cases (λ x y. nat_lt y x) (answers_always _ _ _ (λ f a r g h. search rules)) in
    let f : MatchBool c.is_sorted_by.result (Passes (fall_checks xs (length xs - 1))) (Refuses (fall_checks xs (length xs - 1)) (start_fault Ladder)) = falls xs c.is_sorted_by.result h in
    search (rules, f)
