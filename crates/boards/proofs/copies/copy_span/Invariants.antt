use Rattle.std.proofs.Common.{◌≡◌, ℕ, ◌<◌, ◌≤◌, ◌⊎◌}
use Rattle.boards.specs.Rows.{at}
use Rattle.boards.proofs.copies.copy_span.Given as goal

-- the told prices up to k, and the row's own outside the span
abbrev pub invariant-loop-k : goal.invariant-loop-k
invariant-loop-k l =
    ((j : ℕ) → l.fn.span.from ≤ j → j < l.k → at l.row j ≡ at l.told j)
    × ((j : ℕ) → (j < l.fn.span.from) ⊎ (l.fn.span.to ≤ j) → at l.row j ≡ at l.initial.row j)
