use Rattle.std.proofs.Common.{◌≡◌, ◌-◌, ◌≤◌, true, false, length}
use Rattle.std.specs.List.{AllWithin}
use Rattle.sheets.specs.Seeks.{past}
use Rattle.sheets.proofs.spans.seek.Given as goal

-- what lies below has been passed, and what lies above ends over the seat
abbrev pub invariant-loop-high : goal.invariant-loop-high
invariant-loop-high l =
    (l.low ≤ l.high)
    × (l.high ≤ length l.spans)
    × AllWithin (λ b. past l.seat b ≡ true) l.spans 0 l.low
    × AllWithin (λ b. past l.seat b ≡ false) l.spans l.high (length l.spans)

abbrev pub decreases-loop-high : goal.decreases-loop-high
decreases-loop-high l = l.high - l.low

abbrev pub invariant-loop-low : goal.invariant-loop-low
invariant-loop-low l = (l.low ≤ l.high) × (l.high ≤ length l.spans) × AllWithin (λ b. past l.seat b ≡ true) l.spans 0 l.low × AllWithin (λ b. past l.seat b ≡ false) l.spans l.high (length l.spans)

abbrev pub decreases-loop-low : goal.decreases-loop-low
decreases-loop-low l = l.high - l.low
