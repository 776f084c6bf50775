-- Worked examples of sections 3 and 4, by computation: a BTF with one type of each kind, and edits of it.
-- Assumes nothing.
use Prim.Native.Nat.{ℕ, ◌/◌, ◌%◌}
use mathlib.Core.Path.{◌≡◌, refl}
use mathlib.Core.List.{List, [], ◌∷◌, ◌++◌}
use lib.ListN.{get_or, set}
use Rattle.word_read.specs.Num.{num_at, section}
use Rattle.btf_kinds.specs.Kinds.{is_kind, extra_bytes, entry_bytes, has_size, has_type, encodes, entry, entry_of}
use Rattle.btf_kinds.specs.Types.{extra_at, entry_at, entries_at, entry_count, type_at, type_bytes}
use Rattle.btf_accept.specs.declared.Btf.{Btf}
use Rattle.btf_accept.specs.declared.Whole.TheVariants.{Accepted, Faulty}
use Rattle.btf_accept.specs.Sections.{begins, head_of, strings_fine}
use Rattle.btf_pass.specs.Good.{encoding_fine, good}
use Rattle.btf_accept.specs.Accept.{scan, all_fit, fits, unfit, checked, accepted}
use Rattle.btf_accept.specs.Table.{offsets, laid, decode, tabled}
use Rattle.btf_view.specs.Text.{cut, text_at}
use Rattle.btf_view.specs.View.{off, typ, doc_view}
use Rattle.leamugi_numbers.specs.Numbers.{numbered, read_numbers}

-- numbers of 32 bits as bytes, low byte first
unfoldable pub bytes4 : List ℕ → List ℕ
bytes4 [] = []
bytes4 (n ∷ ns) = n % 256 ∷ n / 256 % 256 ∷ n / 65536 % 256 ∷ n / 16777216 ∷ bytes4 ns

unfoldable pub sample : List ℕ
sample =
    159 ∷ 235 ∷ 1 ∷ 0 ∷ bytes4 (24 ∷ 0 ∷ 336 ∷ 336 ∷ 7 ∷ [])
    -- INT a, 4 bytes, signed
    ++ bytes4 (1 ∷ 16777216 ∷ 4 ∷ 16777248 ∷ [])
    -- PTR to 1
    ++ bytes4 (0 ∷ 33554432 ∷ 1 ∷ [])
    -- ARRAY of three 1
    ++ bytes4 (0 ∷ 50331648 ∷ 0 ∷ 1 ∷ 1 ∷ 3 ∷ [])
    -- STRUCT b of a, b at bits 0 and 32
    ++ bytes4 (3 ∷ 67108866 ∷ 8 ∷ 1 ∷ 1 ∷ 0 ∷ 3 ∷ 2 ∷ 32 ∷ [])
    -- UNION of a
    ++ bytes4 (0 ∷ 83886081 ∷ 4 ∷ 1 ∷ 1 ∷ 0 ∷ [])
    -- ENUM c of a = 0, b = 1
    ++ bytes4 (5 ∷ 100663298 ∷ 4 ∷ 1 ∷ 0 ∷ 3 ∷ 1 ∷ [])
    -- FWD b
    ++ bytes4 (3 ∷ 117440512 ∷ 0 ∷ [])
    -- TYPEDEF c of 1
    ++ bytes4 (5 ∷ 134217728 ∷ 1 ∷ [])
    -- VOLATILE 1
    ++ bytes4 (0 ∷ 150994944 ∷ 1 ∷ [])
    -- CONST 1
    ++ bytes4 (0 ∷ 167772160 ∷ 1 ∷ [])
    -- RESTRICT 2
    ++ bytes4 (0 ∷ 184549376 ∷ 2 ∷ [])
    -- FUNC a of 13
    ++ bytes4 (1 ∷ 201326593 ∷ 13 ∷ [])
    -- FUNC_PROTO from (b: 1) to 1
    ++ bytes4 (0 ∷ 218103809 ∷ 1 ∷ 3 ∷ 1 ∷ [])
    -- VAR c of 1
    ++ bytes4 (5 ∷ 234881024 ∷ 1 ∷ 1 ∷ [])
    -- DATASEC a with 14
    ++ bytes4 (1 ∷ 251658241 ∷ 4 ∷ 14 ∷ 0 ∷ 4 ∷ [])
    -- FLOAT b, 8 bytes
    ++ bytes4 (3 ∷ 268435456 ∷ 8 ∷ [])
    -- DECL_TAG c on 4
    ++ bytes4 (5 ∷ 285212672 ∷ 4 ∷ 4294967295 ∷ [])
    -- TYPE_TAG a on 1
    ++ bytes4 (1 ∷ 301989888 ∷ 1 ∷ [])
    -- ENUM64 b of c = 1
    ++ bytes4 (3 ∷ 318767105 ∷ 8 ∷ 5 ∷ 1 ∷ 0 ∷ [])
    -- the strings "", "a", "b", "c"
    ++ (0 ∷ 97 ∷ 0 ∷ 98 ∷ 0 ∷ 99 ∷ 0 ∷ [])

abbrev pub here : Btf
here = record { types = record { start = 24; size = 336 }; strings = record { start = 360; size = 7 }; last = 19 }

-- it is a BTF of nineteen types
accepts : accepted sample ≡ Accepted here
unfolding bytes4 sample num_at section is_kind extra_bytes entry_bytes has_size has_type encodes entry_of extra_at entry_at entries_at entry_count type_at type_bytes begins head_of strings_fine encoding_fine good
    scan all_fit fits unfit checked accepted
accepts = refl

-- what a table of 22 entries then has
tables : tabled sample (7 ∷ 7 ∷ 7 ∷ 7 ∷ 7 ∷ 7 ∷ 7 ∷ 7 ∷ 7 ∷ 7 ∷ 7 ∷ 7 ∷ 7 ∷ 7 ∷ 7 ∷ 7 ∷ 7 ∷ 7 ∷ 7 ∷ 7 ∷ 7 ∷ 7 ∷ []) ≡ 0 ∷ 24 ∷ 40 ∷ 52 ∷ 76 ∷ 112 ∷ 136 ∷ 164 ∷ 176 ∷ 188 ∷ 200 ∷ 212 ∷ 224
    ∷ 236 ∷ 256 ∷ 272 ∷ 296 ∷ 308 ∷ 324 ∷ 336 ∷ 7 ∷ 7 ∷ []
unfolding bytes4 sample num_at section is_kind extra_bytes entry_bytes has_size has_type encodes entry_of extra_at entry_at entries_at entry_count type_at type_bytes begins head_of strings_fine encoding_fine good
    scan all_fit fits unfit checked accepted offsets laid decode tabled
tables = refl

-- one of 19 is an entry short, which is document 01's number 3
short : read_numbers (decode sample 19) ≡ numbered 3 20 0 0 0 0
unfolding bytes4 sample num_at section is_kind extra_bytes entry_bytes has_size has_type encodes entry_of extra_at entry_at entries_at entry_count type_at type_bytes begins head_of strings_fine encoding_fine good
    scan all_fit fits unfit checked accepted decode read_numbers
short = refl

-- the struct's second member is "b", of type 2, at bit 32
member : get_or ((doc_view sample here).typ 4).entries 1 (entry 0 0 0 0) ≡ entry 3 2 32 0
unfolding bytes4 sample num_at section extra_bytes entry_bytes has_size has_type entry_of extra_at entry_at entries_at entry_count type_at type_bytes off typ
member = refl

named : (doc_view sample here).text 3 ≡ 98 ∷ []
unfolding bytes4 sample num_at section extra_bytes entry_bytes has_size has_type entry_of extra_at entry_at entries_at entry_count type_at type_bytes off typ text_at cut
named = refl

-- ids past the last are void
beyond : ((doc_view sample here).typ 20).kind ≡ 0
unfolding bytes4 sample num_at section extra_bytes entry_bytes has_size has_type entry_of extra_at entry_at entries_at entry_count type_at type_bytes off typ
beyond = refl

-- FLOAT with kind 20
kind-out : accepted (set sample 303 20) ≡ Faulty 16
unfolding bytes4 sample num_at section is_kind extra_bytes entry_bytes has_size has_type encodes entry_of extra_at entry_at entries_at entry_count type_at type_bytes begins head_of strings_fine encoding_fine good
    scan all_fit fits unfit checked accepted
kind-out = refl

-- INT with two encoding bits
encoding_out : accepted (set sample 39 3) ≡ Faulty 1
unfolding bytes4 sample num_at section is_kind extra_bytes entry_bytes has_size has_type encodes entry_of extra_at entry_at entries_at entry_count type_at type_bytes begins head_of strings_fine encoding_fine good
    scan all_fit fits unfit checked accepted
encoding_out = refl

-- PTR to an id past the last
id-out : accepted (set sample 48 20) ≡ Faulty 2
unfolding bytes4 sample num_at section is_kind extra_bytes entry_bytes has_size has_type encodes entry_of extra_at entry_at entries_at entry_count type_at type_bytes begins head_of strings_fine encoding_fine good
    scan all_fit fits unfit checked accepted
id-out = refl

-- a member whose name begins past the strings
name_out : accepted (set sample 100 7) ≡ Faulty 4
unfolding bytes4 sample num_at section is_kind extra_bytes entry_bytes has_size has_type encodes entry_of extra_at entry_at entries_at entry_count type_at type_bytes begins head_of strings_fine encoding_fine good
    scan all_fit fits unfit checked accepted
name_out = refl

-- another magic
magic-out : accepted (set sample 0 0) ≡ Faulty 0
unfolding bytes4 sample num_at section is_kind extra_bytes entry_bytes has_size has_type encodes entry_of extra_at entry_at entries_at entry_count type_at type_bytes begins head_of strings_fine encoding_fine good
    scan all_fit fits unfit checked accepted
magic-out = refl
