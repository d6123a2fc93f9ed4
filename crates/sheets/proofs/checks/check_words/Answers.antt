use Rattle.std.proofs.Common.{◌≡◌, ℕ, ◌+◌, ◌*◌, ◌<◌, true, false, None, Some, arith, rules, tests}
use Rattle.std.proofs.lemmas.Iterator.{first_from_Range}
use Rattle.sheets.specs.Bytes.{le32}
use Rattle.sheets.proofs.checks.check_words.Given.{Over}
use Rattle.sheets.proofs.checks.check_words.Goals as goal

below : (g : Over) (c : goal.In-Some g) → c.in-Some.k < c.args.count
below g c =
    let at = λ (k : ℕ). g.K.Words.takes (le32 c.args.bytes.now (c.args.from + 4 * k)) in
    (first_from_Range _ _ _ (Some c.in-Some.k) (λ k. at k ≡ false) (λ k. at k ≡ true) c.in-Some.ensures.ran (λ x q k. search (rules, tests)) (λ x q k. search (rules, tests))).1

pub overflow_mul-k : goal.overflow_mul-k
overflow_mul-k g c = omega (arith, below g c)

pub overflow_add-from : goal.overflow_add-from
overflow_add-from g c = omega (arith, below g c)

pub returns-in-None : goal.returns-in-None
returns-in-None g c =
    let at = λ (k : ℕ). g.K.Words.takes (le32 c.args.bytes.now (c.args.from + 4 * k)) in
    let f = first_from_Range _ _ _ None (λ k. at k ≡ false) (λ k. at k ≡ true) c.in-None.ensures.ran (λ x q k. search (rules, tests)) (λ x q k. search (rules, tests)) in
    λ k h. f k (omega arith) h

pub returns-in-Some : goal.returns-in-Some
returns-in-Some g c =
    let at = λ (k : ℕ). g.K.Words.takes (le32 c.args.bytes.now (c.args.from + 4 * k)) in
    let f = first_from_Range _ _ _ (Some c.in-Some.k) (λ k. at k ≡ false) (λ k. at k ≡ true) c.in-Some.ensures.ran (λ x q k. search (rules, tests)) (λ x q k. search (rules, tests)) in
    (c.in-Some.k, f.1, λ j h. f.3 j (omega arith) h, (f.2, c.sheet_fault.ensures))
