-- The lines that commands print.
use Rattle.std.specs.Prelude.{ℕ, List, [], ◌++◌, ℤ, Some, None, Ok, Err, codes, decimal, Option, Result}
use Rattle.std.specs.Fmt.{signed_decimal}
use Rattle.fault.specs.declared.faults.Fault.{Fault}
use Rattle.fault.specs.Lines.{line_of}
use Rattle.points.specs.declared.summaries.Range.{Range}
use Rattle.points.specs.Summaries.{summary_of}
use Rattle.points.specs.Tables.{Table}
use Rattle.sheets.specs.declared.kinds.Kind.{Kind}
use Rattle.sheets.specs.Codes.{kind_name}
use Rattle.commands.specs.declared.lines.SheetLine.{SheetLine}

-- ` least L greatest G`, or nothing where no pair is allowed
abbrev pub range_text : Option Range → List ℕ
range_text None = []
range_text (Some r) = codes " least " ++ (signed_decimal r.least ++ (codes " greatest " ++ signed_decimal r.greatest))

-- `kind KIND runs N allowed COUNT[ least L greatest G]`
abbrev pub sheet_text : SheetLine → List ℕ
sheet_text l = codes "kind " ++ (kind_name l.kind ++ (codes " runs " ++ (decimal l.runs ++ (codes " allowed " ++ (decimal l.summary.allowed ++ range_text l.summary.range)))))

-- the line of a table of a kind
abbrev pub sheet_line : Kind → Table → SheetLine
sheet_line k t = record { kind = k; runs = t.size; summary = summary_of t }

-- `accepted total T`
abbrev pub accepted_text : ℤ → List ℕ
accepted_text a = codes "accepted total " ++ signed_decimal a

-- the text of a line, if lines have one, or of the refusal in its place
abbrev pub answer_text : {L : Type 0} → (L → Option (List ℕ)) → Result L Fault → Option (List ℕ)
answer_text text (Ok l) = text l
answer_text text (Err f) = Some (line_of f)
