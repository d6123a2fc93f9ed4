use Rattle.std.proofs.Common.{rules, ◌≡◌, ℕ, List, Option, Some, None, MatchOption, find, reverse, ◌==◌, ◌∙◌}
use Rattle.std.specs.Option.{option_map}
use Rattle.boards.specs.declared.tellings.Telling.{Telling}
use Rattle.boards.specs.Tellings.{newest}
use Rattle.boards.specs.Held.{newest_is}
use Rattle.boards.proofs.states.Delay.latest.Goals as goal

latest : (ts us : List Telling) (k x r : ℕ) (found : Option ℕ) → us ≡ ts → found ≡ option_map (λ t. t.price) (find (λ t. k == t.seat) (reverse us)) → MatchOption found (r ≡ x) (λ y. r ≡ y) → r ≡ newest ts k x
latest ts us k x r None same is m = m ∙ newest_is ts us k x None same is
latest ts us k x r (Some y) same is m = m ∙ newest_is ts us k x (Some y) same is

pub returns : goal.returns
returns g c = latest _ _ _ _ _ c.newest_held.result c.deref.ensures.value c.newest_held.ensures (search rules)
