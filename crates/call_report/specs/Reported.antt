-- The report of a call that was made, into a lent buffer: its lines, what is answered, what is left there (document 01,
-- section 9).
use Rattle.std.specs.Prelude.{ℕ, ◌-◌, ◌/◌, min, Bool, cond, List, ◌++◌, leb, length, drop, Result, Ok, Err}
use Rattle.btf_view.specs.View.{View}
use Rattle.rules.specs.declared.Ending.{Ending}
use Rattle.rules.specs.Record.{index_of, relocated}
use Rattle.rules.specs.Call.{record_at, records_from}
use Rattle.rules.specs.Report.{lines, report_from, answered, answer_at_end}
use Rattle.call_lines.specs.Pieces.{far}
use Rattle.call_report.specs.declared.TooShort.{TooShort}

-- The lines of record k, which was applied
unfoldable pub lines_again : View → View → ℕ → List ℕ → ℕ → List ℕ
lines_again L T section bytes k = let r = record_at bytes k in lines k (index_of section r) (answered (relocated L T r))

-- The lines of record k, where the call ended there; none past the last record
unfoldable pub lines_last : ℕ → List ℕ → ℕ → Ending → List ℕ
lines_last section bytes k e = report_from section k (records_from bytes k (length bytes / 16 - k)) (answer_at_end e)

-- The text fits.
abbrev pub fits_in : List ℕ → List ℕ → Bool
fits_in text buffer = leb (length text) (length buffer)

-- How many bytes were written, or are needed
unfoldable pub reported : List ℕ → List ℕ → Result ℕ TooShort
reported text buffer = cond (fits_in text buffer) (Ok (length text)) (Err (record { needed = min (length text) far }))

-- The buffer afterwards: the text in front, or nothing written
unfoldable pub holding : List ℕ → List ℕ → List ℕ
holding text buffer = cond (fits_in text buffer) (text ++ drop (length text) buffer) buffer
