use Rattle.std.proofs.Common.{rules, ◌≡◌, Ok, IsErr, IfOk, refl, sym, subst, ◌∙◌, true≢false}
use Rattle.std.specs.Result.{result_from_control_flow, IsErrAnd}
use Rattle.bench_tools.proofs.Repeats.{repeated}
use Rattle.bench_tools.proofs.time_often.Goals as goal

pub returns : goal.returns
returns g c =
    let last = c.in_ok-map_err.field-0 in
    let all = c.try_fold-made.result in
    let made : all ≡ Ok last = search rules in (
      c.default.result,
      c.default.ensures,
      repeated _ (λ r w. r ≡ result_from_control_flow w) (λ x y. goal.F-post g c.args.step x (Ok y)) (λ e r. IsErr r × IsErrAnd r (λ f. f ≡ e.0))
          c.args.repeats _ _ _ c.default.result last all c.try_fold-made.ensures.ran refl
          (λ a b x v q called went. search rules)
          (λ e came. true≢false (sym (subst IsErr made came.0)))
          (λ a went. subst (λ r. IfOk r (λ y. y ≡ last)) (sym made ∙ went) refl),
    )
