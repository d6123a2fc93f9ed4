use Rattle.std.proofs.Common.{rules, ◌≡◌, ℕ, zero, suc, ◌+◌, [], ◌∷◌, sym, ap, ◌∙◌, refl, arith, add-one}
use Rattle.std.specs.List.{fold, range_with_len}
use Rattle.std.proofs.iter.Yields.{nat_range_steps}
use Rattle.std.proofs.lemmas.Fn.{fold_over}
use Rattle.std.proofs.lemmas.Iterator.{YieldsList-from_range}
use Rattle.std.proofs.lemmas.List.Sums.{fold-append}
use Rattle.points.specs.declared.summaries.Summary.{Summary}
use Rattle.points.specs.Tables.{Table}
use Rattle.points.specs.Seats.{seats_from}
use Rattle.points.specs.Summaries.{nothing, noted, row_noted, summary_to}
use Rattle.points.proofs.Allowed.{noted_seats}
use Rattle.points.proofs.summarize.summarize.Goals as goal

-- one run more
abbrev more : Table → Summary → ℕ → Summary
more t s i = row_noted t i s t.size

-- the runs from one on
summed : (t : Table) (from n : ℕ) → fold (more t) (summary_to t from) (range_with_len from n) ≡ summary_to t (from + n)
summed t from zero = ap (summary_to t) (omega arith)
summed t from (suc n) =
    let e : from + 1 + n ≡ from + suc n = omega arith in
    ap (λ (s : Summary). fold (more t) s (range_with_len (from + 1) n)) (sym (ap (summary_to t) (add-one from))) ∙ summed t (from + 1) n ∙ ap (summary_to t) e

pub returns : goal.returns
returns g c =
    let t : Table = g.S.PairSource.table c.args.source.now in
    let n : ℕ = c.size.result in
    let whole : 0 + n ≡ t.size = omega (arith, c.size.ensures) in
    fold_over nat_range_steps (λ x. x) _ (λ ys a. a ≡ fold (more t) nothing ys) _
    (λ ys a x b f' j call.
    let e : b ≡ fold (λ u k. noted u (t.points x k)) a (seats_from t x 0) = search rules in
    (e ∙ noted_seats t x a ∙ ap (λ (s : Summary). more t s x) j ∙ sym (fold-append (more t) nothing ys (x ∷ [])), search rules))
    c.runs.result (range_with_len 0 n) _ _ (YieldsList-from_range 0 n n c.runs.ensures (omega arith)).runs refl c.fold.ensures.ran
    ∙ summed t 0 n ∙ ap (summary_to t) whole
