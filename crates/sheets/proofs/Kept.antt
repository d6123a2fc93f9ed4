-- Bytes that keep every rule, where there are any.
use Rattle.std.proofs.Common.{◌≡◌, ℕ, ◌<◌, true, List, length, sym, subst}
use Rattle.fault.specs.Checks.{Checks, Passes, kept}
use Rattle.fault.proofs.Once.{kept_passes}
use Rattle.sheets.specs.Headers.{size_in}
use Rattle.sheets.specs.Words.{filled}

-- bytes that have a run pass, and so do bytes that are seen to equal them
pub seen_passes : (checks : List ℕ → Checks) (bs seen : List ℕ) (run : ℕ) → (0 < length bs → kept (checks bs) ≡ true) → run < size_in bs → seen ≡ bs → Passes (checks seen)
seen_passes checks bs seen run keeps h e = subst (λ (l : List ℕ). Passes (checks l)) (sym e) (kept_passes (checks bs) (keeps (filled bs run h)))
