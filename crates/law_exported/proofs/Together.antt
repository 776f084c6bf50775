-- The exported calls together: two BTFs read by `leamugi_read`, what it left and said handed on as it is, and a function relocated
-- between them. That is document 01's call from bytes to bytes, the report is section 9's, and demand 3 holds of it.
-- Assumes nothing.
use Rattle.std.specs.Prelude.{ℕ, ◌≤◌, ◌<◌, ◌≡◌, cond, List, [], length}
use Rattle.btf_accept.specs.declared.Btf.{Btf}
use Rattle.btf_accept.specs.declared.Reading.TheVariants.{Read}
use Rattle.btf_accept.specs.Table.{decode}
use Rattle.btf_view.specs.View.{View, doc_view}
use Rattle.btf_view.proofs.Agree.{views_agree}
use Rattle.rules.specs.Call.{records_in, shaped, relocate_of, relocate_read}
use Rattle.rules.specs.Report.{report, report_said}
use Rattle.rules.proofs.ReportLaws.{said_read}
use Rattle.call_relocate.proofs.Reading.{read_before}
use Rattle.law_growth.specs.Demand3.{Extended, SettledCall, Demand3Call}
use Rattle.law_growth.proofs.Proved.{read_in, demand3-tables}
use Rattle.law_exported.specs.Together.{seen, handed-on}

-- Two BTFs that were read, and the call between them
module _ (l ltable lread t ttable tread : List ℕ) {lb tb : Btf} (p : Read lb ≡ decode l (length ltable)) (q : Read tb ≡ decode t (length ttable))
    (h : 5 ≤ length lread) (k : 5 ≤ length tread) (xs : List ℕ) (section : ℕ) (rs : List ℕ) where
  -- What the exported calls say and the instructions that they leave are those of document 01's call.
  pub whole-call : relocate_read (seen l ltable lread) (seen t ttable tread) xs section rs ≡ relocate_of l (length ltable) t (length ttable) xs section rs
  whole-call = rw (handed-on l ltable lread lb p h, handed-on t ttable tread tb q k) (read_before l ltable t ttable xs section rs p q)

  -- The report of what they say (`report_of` in leamugi) is section 9's, of the decoded bytes; nothing where the shape is wrong.
  pub whole-report : report_said (seen l ltable lread) (seen t ttable tread) section (records_in rs)
      (relocate_read (seen l ltable lread) (seen t ttable tread) xs section rs).said
      ≡ cond (shaped xs section rs) (report (doc_view l lb) (doc_view t tb) section xs (records_in rs)) []
  whole-report =
      rw (handed-on l ltable lread lb p h, handed-on t ttable tread tb q k, views_agree l ltable lb p, views_agree t ttable tb q)
      (said_read (doc_view l lb) (doc_view t tb) section xs rs)

-- A target and the same target grown, each read into a table that is long enough: demand 3 of two exported calls
module _ {s s' : List ℕ} (g : Extended s s') (table read table' read' : List ℕ) (long : g.old.last < length table) (long' : g.new.last < length table')
    (h : 5 ≤ length read) (h' : 5 ≤ length read') where
  pub grown : (L : View) (section : ℕ) (insns rs : List ℕ)
      → SettledCall L (seen s table read) (records_in rs) (relocate_read L (seen s table read) insns section rs)
      → Demand3Call L (seen s table read) (seen s' table' read') section insns (records_in rs)
      (relocate_read L (seen s table read) insns section rs) (relocate_read L (seen s' table' read') insns section rs)
  grown =
      rw (
        handed-on s table read g.old (read_in s g.old table g.old_accepted long) h,
        handed-on s' table' read' g.new (read_in s' g.new table' g.new_accepted long') h',
      )
      (demand3-tables g table table' long long')
