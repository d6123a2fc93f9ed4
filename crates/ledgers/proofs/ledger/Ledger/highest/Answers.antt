use Rattle.std.proofs.Common.{◌≡◌, ℕ, ◌<◌, ◌≤◌, List, length, get_or, take, Some, None, Option, MatchOption, unwrap_or, sym, ◌∙◌, rules, arith, length-take, get_or-take}
use Rattle.std.proofs.iter.runs.Made.{chains}
use Rattle.auction.specs.Events.{Highest}
use Rattle.ledgers.proofs.ledger.Ledger.highest.Goals as goal

-- the highest of the first n prices, of which there is one
highest_of : (n : ℕ) (ps : List ℕ) (o : Option ℕ) → 1 ≤ n → n ≤ length ps → MatchOption o (length (take n ps) ≡ 0) (λ m. ((k : ℕ) → k < length (take n ps) → get_or (take n ps) k 0 ≤ m) × ((k : ℕ) × (k < length (take n ps)) × (get_or (take n ps) k 0 ≡ m))) → Highest n (λ k. get_or ps k 0) (unwrap_or o 0)
highest_of n ps None some long h = absurd (omega (arith, length-take n ps, h))
highest_of n ps (Some m) some long (over, (k, l, e)) =
    let low : k < n = omega (arith, length-take n ps, l) in
    record {
      over = λ a b. omega (arith, over a (omega (arith, length-take n ps, b)), get_or-take n ps a 0 b);
      reached = (k, low, sym (get_or-take n ps k 0 low) ∙ e);
    }

pub returns : goal.returns
returns c =
    let s = c.args.self.now in
    rw c.unwrap_or.ensures (highest_of s.book.conditions.size s.book.prices.prices c.max.result s.sized.0 (omega (arith, s.sized.1, s.long.0)) (search (rules, chains)))
