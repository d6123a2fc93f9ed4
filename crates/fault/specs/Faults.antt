-- Faults by what they name.
use Rattle.std.specs.Prelude.{ℕ, None, Option}
use Rattle.fault.specs.declared.causes.Cause.{Cause}
use Rattle.fault.specs.declared.layers.Layer.{Layer}
use Rattle.fault.specs.declared.faults.Place.TheVariants.{Byte, Phase}
use Rattle.fault.specs.declared.faults.Fault.{Fault}

-- a fault that names a byte
abbrev pub at_byte : Layer → Cause → ℕ → Fault
at_byte l c b = record { cause = c; layer = l; place = Byte b; run = None; seat = None }

-- a fault that names a phase, and a run and a seat if there are any
abbrev pub in_phase : Layer → Cause → ℕ → Option ℕ → Option ℕ → Fault
in_phase l c p i k = record { cause = c; layer = l; place = Phase p; run = i; seat = k }
