-- Demand 3, of bytes: proved. What it says stands in Demand3.
use Prim.Native.Nat.{ℕ, ◌<◌}
use mathlib.Core.Path.{◌≡◌, sym, ◌∙◌}
use mathlib.Core.List.{List}
use lib.ListN.{length}
use borrow.Author.Tests.{lt-ltb}
use Rattle.btf_accept.specs.declared.Btf.{Btf}
use Rattle.btf_accept.specs.declared.Whole.TheVariants.{Accepted}
use Rattle.btf_accept.specs.declared.Reading.TheVariants.{Read}
use Rattle.btf_accept.specs.Accept.{accepted}
use Rattle.btf_accept.specs.Table.{decode, tabled}
use Rattle.btf_view.specs.View.{View, doc_view, tab_view}
use Rattle.btf_view.proofs.Extends.{Closed, Extends}
use Rattle.btf_view.proofs.Agree.{views_agree, doc_closed}
use Rattle.btf_view.proofs.Grow.{doc_extends}
use Rattle.rules.specs.declared.Record.{Record}
use Rattle.rules.specs.Call.{Effect, records_in, relocate_of, relocate_read}
use Rattle.law_growth.specs.Demand3.{Extended, btf_in, Settled, Demand3, SettledList, Demand3List, SettledCall, Demand3Call}
use Rattle.law_growth.proofs.One.{demand3-view}
use Rattle.law_growth.proofs.Whole.{demand3_list-view}
use Rattle.law_growth.proofs.Calls.{demand3_read, call_read, Reads, reads}

-- Accepted bytes hold the document's view of them,
pub btf_in_lem : (s : List ℕ) (b : Btf) → Accepted b ≡ accepted s → btf_in s ≡ doc_view s b
unfolding btf_in
btf_in_lem s b h = rw (← h)

-- are read into a table that is long enough,
pub read_in : (s : List ℕ) (b : Btf) (table : List ℕ) → Accepted b ≡ accepted s → b.last < length table → Read b ≡ decode s (length table)
unfolding decode
read_in s b table h l = rw (← h, lt-ltb b.last (length table) l)

-- and that table, once filled, shows it.
pub table_in : (s : List ℕ) (b : Btf) (table : List ℕ) → Accepted b ≡ accepted s → b.last < length table → tab_view s (tabled s table) b ≡ btf_in s
table_in s b table h l = views_agree s table b (read_in s b table h l) ∙ sym (btf_in_lem s b h)

module _ {s s' : List ℕ} (g : Extended s s') where
  closed-old : Closed (btf_in s)
  closed-old = rw (btf_in_lem s g.old g.old_accepted) (doc_closed s g.old g.old_accepted)

  closed-new : Closed (btf_in s')
  closed-new = rw (btf_in_lem s' g.new g.new_accepted) (doc_closed s' g.new g.new_accepted)

  extended : Extends (btf_in s) (btf_in s')
  extended =
      rw (btf_in_lem s g.old g.old_accepted, btf_in_lem s' g.new g.new_accepted)
      (doc_extends s s' g.old g.new g.more_types g.more_strings g.old_accepted g.new_accepted g.types g.strings)

  -- For every local BTF l, every record that is settled against s;
  pub demand3 : (l : List ℕ) (section : ℕ) (insns : List ℕ) (r : Record)
      → Settled (btf_in l) (btf_in s) section insns r → Demand3 (btf_in l) (btf_in s) (btf_in s') section insns r
  demand3 l section insns r settled = demand3-view closed-old closed-new extended (btf_in l) section insns r settled

  -- every list of such records;
  pub demand3_list : (l : List ℕ) (section : ℕ) (insns : List ℕ) (rs : List Record)
      → SettledList (btf_in l) (btf_in s) section insns rs → Demand3List (btf_in l) (btf_in s) (btf_in s') section insns rs
  demand3_list l section insns rs settled = demand3_list-view closed-old closed-new extended (btf_in l) section insns rs settled

  -- two calls from bytes to bytes, the table lent for s' being long enough;
  pub demand3_call : (l : List ℕ) (lroom room room' : ℕ) (insns : List ℕ) (section : ℕ) (rs : List ℕ) → g.new.last < room'
      → SettledCall (btf_in l) (btf_in s) (records_in rs) (relocate_of l lroom s room insns section rs)
      → Demand3Call (btf_in l) (btf_in s) (btf_in s') section insns (records_in rs)
      (relocate_of l lroom s room insns section rs) (relocate_of l lroom s' room' insns section rs)
  demand3_call l lroom room room' insns section rs long settled =
      rw (was, is) (demand3_read closed-old closed-new extended (btf_in l) section insns rs (record { done = rw (← was) settled.done; matched = settled.matched }))
    where
      known : Reads l lroom g.old room
      known = reads l lroom s room g.old insns section rs g.old_accepted settled.done

      was : relocate_of l lroom s room insns section rs ≡ relocate_read (btf_in l) (btf_in s) insns section rs
      was =
          rw (btf_in_lem l known.lb known.is_btf, btf_in_lem s g.old g.old_accepted)
          (call_read l lroom s room known.lb g.old insns section rs known.is_btf known.room g.old_accepted known.room')

      is : relocate_of l lroom s' room' insns section rs ≡ relocate_read (btf_in l) (btf_in s') insns section rs
      is =
          rw (btf_in_lem l known.lb known.is_btf, btf_in_lem s' g.new g.new_accepted)
          (call_read l lroom s' room' known.lb g.new insns section rs known.is_btf known.room g.new_accepted (lt-ltb g.new.last room' long))

  -- two runs of the code, whose promise is that what it says and the instructions that it leaves are the definition's;
  pub demand3_runs : (l : List ℕ) (lroom room room' : ℕ) (insns : List ℕ) (section : ℕ) (rs : List ℕ) (before after : Effect)
      → before ≡ relocate_of l lroom s room insns section rs → after ≡ relocate_of l lroom s' room' insns section rs → g.new.last < room'
      → SettledCall (btf_in l) (btf_in s) (records_in rs) before → Demand3Call (btf_in l) (btf_in s) (btf_in s') section insns (records_in rs) before after
  demand3_runs l lroom room room' insns section rs before after p q long settled =
      rw (p, q) (demand3_call l lroom room room' insns section rs long (rw (← p) settled))

  -- and two calls by tables that were filled before, whatever local view stands beside.
  pub demand3-tables : (table table' : List ℕ) → g.old.last < length table → g.new.last < length table' → (L : View) (section : ℕ) (insns rs : List ℕ)
      → SettledCall L (tab_view s (tabled s table) g.old) (records_in rs) (relocate_read L (tab_view s (tabled s table) g.old) insns section rs)
      → Demand3Call L (tab_view s (tabled s table) g.old) (tab_view s' (tabled s' table') g.new) section insns (records_in rs)
      (relocate_read L (tab_view s (tabled s table) g.old) insns section rs) (relocate_read L (tab_view s' (tabled s' table') g.new) insns section rs)
  demand3-tables table table' long long' =
      rw (table_in s g.old table g.old_accepted long, table_in s' g.new table' g.new_accepted long') (demand3_read closed-old closed-new extended)
