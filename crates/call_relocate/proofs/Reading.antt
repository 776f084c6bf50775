-- The call on BTFs that were read before is the call from bytes, and what is reported afterwards is section 9's report.
use Prim.Native.Nat.{ℕ}
use mathlib.Core.Path.{◌≡◌, refl}
use mathlib.Core.Bool.{Bool, true, false, cond, ◌&&◌}
use mathlib.Core.List.{List, []}
use lib.ListN.{length}
use Rattle.btf_view.specs.View.{doc_view, tab_view}
use Rattle.btf_view.proofs.Agree.{views_agree}
use Rattle.rules.specs.declared.Ending.TheVariants.{Misshapen}
use Rattle.rules.specs.declared.Which.TheVariants.{Local, Target}
use Rattle.btf_accept.specs.declared.Btf.{Btf}
use Rattle.btf_accept.specs.declared.Reading.TheVariants.{Read}
use Rattle.btf_accept.specs.Table.{decode, tabled}
use Rattle.rules.specs.Call.{records_in, shaped, run_of, read_then, unrun, relocate_of, relocate_read, local_table, target_table, is_read}
use Rattle.rules.specs.Report.{report, report_said}
use Rattle.rules.proofs.ReportLaws.{said-run, unrun-nothing}

-- Where the tables are what reading left, the call on BTFs that were read before is the whole call.
pub read_before : (l ltable t ttable xs : List ℕ) (section : ℕ) (rs : List ℕ) {lb tb : Btf} → Read lb ≡ decode l (length ltable) → Read tb ≡ decode t (length ttable)
    → relocate_read (tab_view l (tabled l ltable) lb) (tab_view t (tabled t ttable) tb) xs section rs ≡ relocate_of l (length ltable) t (length ttable) xs section rs
unfolding relocate_read relocate_of
read_before l ltable t ttable xs section rs {lb} {tb} p q = rw (views_agree l ltable lb p, views_agree t ttable tb q, ← p, ← q)

-- What is reported afterwards, by the tables that the call has left, is section 9's report of the decoded bytes; nothing where the
-- shape is wrong.
module _ (l ltable t ttable xs : List ℕ) (section : ℕ) (rs : List ℕ) {lb tb : Btf} (p : Read lb ≡ decode l (length ltable)) (q : Read tb ≡ decode t (length ttable)) where
  pub reported-after : report_said (tab_view l (local_table l ltable xs section rs) lb) (tab_view t (target_table l (length ltable) t ttable xs section rs) tb) section (records_in rs)
      (relocate_of l (length ltable) t (length ttable) xs section rs).said
      ≡ cond (shaped xs section rs) (report (doc_view l lb) (doc_view t tb) section xs (records_in rs)) []
  unfolding relocate_of local_table target_table run_of
  reported-after = go (shaped xs section rs)
    where
      go : (b : Bool)
          → report_said (tab_view l (cond b (tabled l ltable) ltable) lb) (tab_view t (cond (b && is_read (decode l (length ltable))) (tabled t ttable) ttable) tb) section (records_in rs)
          (cond b (read_then Local xs (decode l (length ltable)) (λ x. read_then Target xs (decode t (length ttable)) (λ y. run_of (doc_view l x) (doc_view t y) section xs rs))) (unrun Misshapen xs)).said
          ≡ cond b (report (doc_view l lb) (doc_view t tb) section xs (records_in rs)) []
      go true = rw (← p, ← q, views_agree l ltable lb p, views_agree t ttable tb q) (said-run (doc_view l lb) (doc_view t tb) section (records_in rs) xs)
      go false = unrun-nothing _ _ section (records_in rs) Misshapen refl
