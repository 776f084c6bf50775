-- What the code wants, looked for in the target: the rules' search with what it asks written out.
use Rattle.std.specs.Prelude.{ℕ, cond, length, Ok, Some}
use Rattle.btf_kinds.specs.Types.{Ty}
use Rattle.btf_view.specs.View.{View}
use Rattle.rules.specs.Kinds.{is_composite}
use Rattle.rules.specs.Fields.{member_bits, nth_entry}
use Rattle.rules.specs.Types.{fields_compatible}
use Rattle.rules.specs.Matching.{Sought, search, decided, grown, at_member, Search}
use Rattle.match_search.specs.declared.Wanted.{Wanted}

-- The members of a type: a struct's or a union's
abbrev pub member_count : Ty → ℕ
member_count t = cond (is_composite t.kind) (length t.entries) 0

abbrev pub sought : View → Wanted → Sought
sought L w = record { name = L.text w.member.name; candidate = w.candidate; from = w.from }

-- The search in the type i, with this many levels
abbrev pub searched : View → View → Wanted → ℕ → ℕ → Search
searched L T w levels i = search (fields_compatible L T w.member.typ) T (sought L w) levels i

-- The member k of type i has the name: compatible it is found, at its bits
unfoldable pub settled : View → View → Wanted → ℕ → ℕ → Search
settled L T w i k =
    decided (fields_compatible L T w.member.typ (nth_entry (T.typ i) k).typ)
    (grown (member_bits (T.typ i) (nth_entry (T.typ i) k)) (Ok (Some (at_member w.from i k (nth_entry (T.typ i) k).typ))))
