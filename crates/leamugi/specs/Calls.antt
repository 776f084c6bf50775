-- A call on BTFs that were read before, and its report, as the numbers that are said of them.
use Rattle.std.specs.Prelude.{ℕ, List, get_or, Result, Ok, Err}
use Rattle.std.specs.Borrow.{Bor}
use denote.Triple.Both.{Both}
use Rattle.btf_view.specs.View.{View, tab_view}
use Rattle.rules.specs.Call.{records_in, relocate_read}
use Rattle.rules.specs.Report.{report_said}
use Rattle.call_report.specs.declared.TooShort.{TooShort}
use Rattle.leamugi_numbers.specs.declared.Numbers.{Numbers}
use Rattle.leamugi_numbers.specs.Numbers.{numbered, five, btf_of}
use Rattle.leamugi_numbers.specs.Endings.{said_numbers}
use Rattle.call_report.specs.Reported.{reported}

-- What a call sees of a BTF that was read before: its bytes, its table and the numbers that the reading said, as they are at entry
abbrev pub lent_read : {X Y Z : Type 0} → Both (Bor (List ℕ)) X → Both (Bor (List ℕ)) Y → Both (Bor (List ℕ)) Z → View
lent_read bytes table read = tab_view bytes.entry.now table.entry.now (btf_of read.entry.now)

-- How many bytes a report takes, written or not
abbrev pub length_of : Result ℕ TooShort → ℕ
length_of (Ok n) = n
length_of (Err s) = s.needed

-- The report's length in the fourth place
abbrev pub reported_numbers : Numbers → ℕ → Numbers
reported_numbers n long = numbered n.number (get_or n.beside 0 0) (get_or n.beside 1 0) (get_or n.beside 2 0) long 0

-- The report of a call on BTFs that were read before
abbrev pub report_of : View → View → List ℕ → ℕ → List ℕ → List ℕ
report_of L T xs section rs = report_said L T section (records_in rs) (relocate_read L T xs section rs).said

-- The five numbers of a call with its report into a buffer
abbrev pub reported_five : View → View → List ℕ → ℕ → List ℕ → List ℕ → List ℕ
reported_five L T xs section rs out =
    five (reported_numbers (said_numbers (relocate_read L T xs section rs).said) (length_of (reported (report_of L T xs section rs) out)))
