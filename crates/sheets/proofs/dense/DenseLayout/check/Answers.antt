use Rattle.std.proofs.Common.{◌≡◌, ℕ, ◌*◌, inr, subst, arith}
use Rattle.std.proofs.lemmas.Result.{err_from_is_err_and}
use Rattle.fault.specs.Checks.{Passes, Refuses}
use Rattle.sheets.specs.Headers.{word_checks}
use Rattle.sheets.specs.Dense.{is_cell}
use Rattle.sheets.proofs.Grid.{grid_passes, grid_refuses}
use Rattle.sheets.proofs.dense.DenseLayout.check.Goals as goal

pub returns-in_err-check_words : goal.returns-in_err-check_words
returns-in_err-check_words c =
    let bs = c.args.bytes.now in
    let n = c.in_ok-size.size in
    let p = err_from_is_err_and c.from_residual-in_err-check_words.result c.from_residual-in_err-check_words.ensures.1 in
    let at : c.row_at.result ≡ 8 = omega arith in
    let f = c.in_err-check_words.field-0.0 in
    let cells = grid_refuses bs n f (subst (λ (a : ℕ). Refuses (word_checks is_cell bs a (n * n)) f) at c.in_err-check_words.ensures) in
    rw (p.1, p.2) (inr (c.in_ok-size.ensures.0, rw c.in_ok-size.ensures.1 at cells))

pub returns : goal.returns
returns c =
    let bs = c.args.bytes.now in
    let n = c.in_ok-size.size in
    let at : c.row_at.result ≡ 8 = omega arith in
    let cells = grid_passes bs n (subst (λ (a : ℕ). Passes (word_checks is_cell bs a (n * n))) at c.in_ok-check_words.ensures) in
    ((c.in_ok-size.ensures.0, rw c.in_ok-size.ensures.1 at cells), c.in_ok-size.ensures.1)
