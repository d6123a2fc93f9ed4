use Rattle.std.proofs.Common.{◌≡◌, ℕ, ◌-◌, List, length, take, drop, vec_items, ap, ◌∙◌, arith, length-drop, rules}
use Rattle.std.proofs.lemmas.List.{take_at}
use Rattle.boards.specs.declared.tellings.Telling.{Telling}
use Rattle.boards.proofs.delay.drop_oldest.Goals as goal

pub returns : goal.returns
returns c =
    let ts : List Telling = vec_items c.args.held.now in
    let n : ℕ = c.args.count in
    let left : length (drop n ts) ≡ c.len.result - n = simp length-drop (omega (arith, c.len.ensures, c.args.held.now.ok.0)) in
    record {
      held = c.truncate.ensures.items ∙ ap (λ (us : List Telling). take (c.len.result - n) us) c.rotate_left.ensures.items ∙ take_at (drop n ts) (take n ts) (c.len.result - n) left;
      len = search rules;
      room = search rules;
    }
