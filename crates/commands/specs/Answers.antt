-- What `show` and `check` answer, by the bytes that they are given.
use Rattle.std.specs.Prelude.{◌≡◌, ℕ, ◌⊎◌, List, Ok, Err, vec_items, Result, MatchResult}
use Rattle.fault.specs.declared.faults.Fault.{Fault}
use Rattle.fault.specs.Checks.{Passes, Refuses}
use Rattle.sheets.specs.Kinds.{kind_named, sheet_checks, sheet_table}
use Rattle.sheets.specs.CertificateFiles.{Holds, Unread}
use Rattle.sheets.specs.declared.certificate_files.Certificate.{Certificate}
use Rattle.certificates.specs.Certificates.{Accepted, Refused}
use Rattle.commands.specs.declared.calls.Failure.{Failure}
use Rattle.commands.specs.declared.calls.Failure.TheVariants.{Refusal, NoCertificate}
use Rattle.commands.specs.declared.lines.AcceptedLine.{AcceptedLine}
use Rattle.commands.specs.declared.lines.SheetLine.{SheetLine}
use Rattle.commands.specs.Lines.{sheet_line}

-- the line of a sheet's bytes, by the kind that the header names, or the first rule that they break
abbrev pub Shown : List ℕ → Result SheetLine Fault → Type 0
Shown bs r = MatchResult r (λ l. Passes (sheet_checks bs) × (l ≡ sheet_line (kind_named bs) (sheet_table bs))) (λ f. Refuses (sheet_checks bs) f)

-- seats and prices checked over a sheet's bytes, which are refused first
abbrev pub Judged : List ℕ → List ℕ → List ℕ → Result AcceptedLine Fault → Type 0
Judged bs seats prices r = MatchResult r
    (λ l. Passes (sheet_checks bs) × Accepted (sheet_table bs) seats prices l.total)
    (λ f. Refuses (sheet_checks bs) f ⊎ (Passes (sheet_checks bs) × Refused (sheet_table bs) seats prices f))

-- a certificate over a sheet's bytes
abbrev pub JudgedPlan : List ℕ → Certificate → Result AcceptedLine Fault → Type 0
JudgedPlan bs c r = Judged bs (vec_items c.seats) (vec_items c.prices) r

-- a certificate file over a sheet's bytes: not one of seats and prices, or judged by what it holds
abbrev pub Checked : List ℕ → List ℕ → Result AcceptedLine Failure → Type 0
Checked bs cs (Ok l) = (c : Certificate) × Holds cs c × JudgedPlan bs c (Ok l)
Checked bs cs (Err (Refusal f)) = (c : Certificate) × Holds cs c × JudgedPlan bs c (Err f)
Checked bs cs (Err (NoCertificate e)) = Unread cs e
