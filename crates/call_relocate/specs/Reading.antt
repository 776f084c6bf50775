-- The shape of the code, no rule: how a call ends where a BTF is not read; the target read, then the records.
use Rattle.std.specs.Prelude.{ℕ, List}
use Rattle.btf_view.specs.View.{View, doc_view}
use Rattle.rules.specs.declared.Ending.{Ending}
use Rattle.rules.specs.declared.Ending.TheVariants.{Done, BadBtf, OverLimit, TableShort}
use Rattle.rules.specs.declared.Which.{Which}
use Rattle.rules.specs.declared.Which.TheVariants.{Target}
use Rattle.btf_accept.specs.declared.Reading.{Reading}
use Rattle.btf_accept.specs.declared.Reading.TheVariants.{Read, NoBtf, TooBig, TooShort}
use Rattle.btf_accept.specs.Table.{decode}
use Rattle.rules.specs.Call.{Effect, run_of, read_then}

-- How a call ends where a BTF is not read
abbrev pub unread_of : Which → Reading → Ending
unread_of w (Read b) = Done
unread_of w (NoBtf i) = BadBtf w i
unread_of w TooBig = OverLimit w
unread_of w (TooShort n) = TableShort w n

-- The target read, and the records applied
abbrev pub on_target : View → List ℕ → ℕ → List ℕ → ℕ → List ℕ → Effect
on_target L t troom xs section rs = read_then Target xs (decode t troom) (λ tb. run_of L (doc_view t tb) section xs rs)
