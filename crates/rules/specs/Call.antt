-- The whole call, from bytes to bytes (document 01, section 3): 18, the local BTF, the target BTF, then the records in order.
use Rattle.std.specs.Prelude.{ℕ, zero, suc, ◌+◌, ◌*◌, ◌/◌, ◌%◌, Bool, true, false, cond, ◌&&◌, List, [], ◌∷◌, length, eqb, leb}
use Rattle.word_read.specs.Num.{word}
use Rattle.btf_accept.specs.declared.Btf.{Btf}
use Rattle.btf_accept.specs.declared.Reading.{Reading}
use Rattle.btf_accept.specs.declared.Reading.TheVariants.{Read, NoBtf, TooBig, TooShort}
use Rattle.btf_accept.specs.Table.{decode, tabled}
use Rattle.btf_view.specs.View.{View, doc_view}
use Rattle.rules.specs.declared.Record.{Record}
use Rattle.rules.specs.declared.Answer.{Answer}
use Rattle.rules.specs.declared.Answer.TheVariants.{Applied, Poisoned, Refused}
use Rattle.rules.specs.declared.Which.{Which}
use Rattle.rules.specs.declared.Which.TheVariants.{Local, Target}
use Rattle.rules.specs.declared.Ending.{Ending}
use Rattle.rules.specs.declared.Ending.TheVariants.{Done, BadBtf, OverLimit, TableShort, Stopped, Misshapen}
use Rattle.rules.specs.declared.Said.{Said}
use Rattle.rules.specs.Limits.{max_insns}
use Rattle.rules.specs.Refusal.{number, returned}
use Rattle.rules.specs.List.{list_of}

-- The records

-- A record takes 16 bytes: four numbers of 32 bits.
abbrev pub record_at : List ℕ → ℕ → Record
record_at bytes k =
    record { offset = word bytes (16 * k); typ = word bytes (16 * k + 4); access = word bytes (16 * k + 8); kind = word bytes (16 * k + 12) }

-- n records from number k on
unfoldable pub records_from : List ℕ → ℕ → ℕ → List Record
records_from bytes k zero = []
records_from bytes k (suc n) = record_at bytes k ∷ records_from bytes (k + 1) n

-- All records of a list
abbrev pub records_in : List ℕ → List Record
records_in bytes = records_from bytes 0 (length bytes / 16)

-- The end of a run

-- A BTF is named by 0 (local) or 1 (target).
abbrev pub named : Which → ℕ
named Local = 0
named Target = 1

-- How a call ends, in document 01's number and what it returns beside it
unfoldable pub ending_said : Ending → List ℕ
ending_said Done = 0 ∷ []
ending_said (BadBtf w i) = 1 ∷ named w ∷ i ∷ []
ending_said (OverLimit w) = 2 ∷ named w ∷ []
ending_said (TableShort w n) = 3 ∷ named w ∷ n ∷ []
ending_said (Stopped k r) = number r ∷ returned k r
ending_said Misshapen = 18 ∷ []

abbrev pub ended : Ending → ℕ → Said
ended e n = record { ending = e; applied = n }

-- What the answers of a run say, from record number k on: all applied, or the first refused
unfoldable pub end_of : ℕ → List Answer → Said
end_of k [] = ended Done k
end_of k (Applied v ∷ more) = end_of (k + 1) more
end_of k (Poisoned ∷ more) = end_of (k + 1) more
end_of k (Refused r ∷ more) = ended (Stopped k r) k

-- A call's effect: what it says, and the instructions afterwards
pub record Effect : Type 0 where
  pub said : Said
  pub insns : List ℕ

-- Ended before its first record: nothing is applied, every instruction byte stays.
abbrev pub unrun : Ending → List ℕ → Effect
unrun e xs = record { said = ended e 0; insns = xs }

-- The records applied to a function
unfoldable pub run_of : View → View → ℕ → List ℕ → List ℕ → Effect
run_of L T section xs rs =
    let run = list_of L T section xs (records_in rs) in
    record { said = end_of 0 run.answers; insns = run.insns }

-- The call

-- Whole instructions, no more than carried; a section offset of whole instructions; whole records
unfoldable pub shaped : List ℕ → ℕ → List ℕ → Bool
shaped xs section rs =
    eqb (length xs % 8) 0 && (eqb (section % 8) 0 && (eqb (length rs % 16) 0 && leb (length xs / 8) max_insns))

-- What follows on a BTF that was read, or how the call ends
abbrev pub read_then : Which → List ℕ → Reading → (Btf → Effect) → Effect
read_then w xs (Read b) next = next b
read_then w xs (NoBtf i) next = unrun (BadBtf w i) xs
read_then w xs TooBig next = unrun (OverLimit w) xs
read_then w xs (TooShort n) next = unrun (TableShort w n) xs

-- The call on bytes: local BTF and its table's room, target BTF and its table's room, instructions, section offset, records
unfoldable pub relocate_of : List ℕ → ℕ → List ℕ → ℕ → List ℕ → ℕ → List ℕ → Effect
relocate_of l lroom t troom xs section rs =
    cond (shaped xs section rs)
    (read_then Local xs (decode l lroom) (λ lb. read_then Target xs (decode t troom) (λ tb. run_of (doc_view l lb) (doc_view t tb) section xs rs)))
    (unrun Misshapen xs)

-- The call on BTFs that were read before, by their tables: the views are the tables'.
unfoldable pub relocate_read : View → View → List ℕ → ℕ → List ℕ → Effect
relocate_read L T xs section rs = cond (shaped xs section rs) (run_of L T section xs rs) (unrun Misshapen xs)

-- The tables afterwards: the local one is filled where the shape is right and the local BTF is read, the target's where that holds of both.
unfoldable pub local_table : List ℕ → List ℕ → List ℕ → ℕ → List ℕ → List ℕ
local_table l table xs section rs = cond (shaped xs section rs) (tabled l table) table

abbrev pub is_read : Reading → Bool
is_read (Read b) = true
is_read (NoBtf i) = false
is_read TooBig = false
is_read (TooShort n) = false

unfoldable pub target_table : List ℕ → ℕ → List ℕ → List ℕ → List ℕ → ℕ → List ℕ → List ℕ
target_table l lroom t table xs section rs = cond (shaped xs section rs && is_read (decode l lroom)) (tabled t table) table
