-- The line that a fault prints.
use Rattle.std.specs.Prelude.{ℕ, List, [], ◌++◌, Some, None, codes, decimal, Option}
use Rattle.fault.specs.declared.layers.Layer.{Layer}
use Rattle.fault.specs.declared.layers.Layer.TheVariants.{Sheet, Exchange, ClosedExchange, Checker}
use Rattle.fault.specs.declared.faults.Place.{Place}
use Rattle.fault.specs.declared.faults.Place.TheVariants.{Byte, Phase}
use Rattle.fault.specs.declared.faults.Fault.{Fault}
use Rattle.fault.specs.Numbers.{number_of}

-- a layer's name
abbrev pub layer_name : Layer → List ℕ
layer_name Sheet = codes "sheet"
layer_name Exchange = codes "exchange"
layer_name ClosedExchange = codes "closed exchange"
layer_name Checker = codes "checker"

-- where the fault lies: `byte B`, or `phase P`
abbrev pub place_text : Place → List ℕ
place_text (Byte b) = codes "byte " ++ decimal b
place_text (Phase p) = codes "phase " ++ decimal p

-- a run or a seat, where the fault names one
abbrev pub named : List ℕ → Option ℕ → List ℕ
named word None = []
named word (Some k) = word ++ decimal k

-- `refused NUMBER LAYER PLACE[ run R][ seat S]`
abbrev pub line_of : Fault → List ℕ
line_of f = codes "refused " ++ (decimal (number_of f.cause) ++ (codes " " ++ (layer_name f.layer ++ (codes " " ++ (place_text f.place ++ (named (codes " run ") f.run ++ named (codes " seat ") f.seat))))))
