-- A search leaves no more parts than there were, one for each level and one for the member.
-- Assumes nothing.
use Prim.Native.Nat.{ℕ, zero, suc, ◌+◌, ◌≤◌}
use mathlib.Core.Bool.{Bool, true, false, cond}
use mathlib.Core.List.{List, [], ◌∷◌}
use native.Mathlib.Omega.{arith}
use lib.Dec.{eqb, ltb}
use Rattle.btf_kinds.specs.declared.Entry.{Entry}
use Rattle.btf_kinds.specs.Types.{Ty}
use Rattle.btf_view.specs.View.{View}
use Rattle.rules.specs.declared.Refusal.TheVariants.{MaximumNesting, BitsTooBig}
use Rattle.rules.specs.Kinds.{is_composite}
use Rattle.rules.specs.Limits.{max_spec_len, bit_limit}
use Rattle.rules.specs.Fields.{member_bits}
use Rattle.rules.specs.Refusal.{bind, Reply}
use Rattle.rules.specs.Types.{resolve, is_empty, same_text, Compat}
use Rattle.rules.specs.Matching.{reached, grown, or_else, decided, Sought, at_member, level, no_level, members_of, search, Search}
use Rattle.match_search.specs.Parts.{part_count}
use Rattle.std.specs.Prelude.{Err, None, Ok, Some}

pub either : (n : ℕ) (b : Bool) (x y : Search) → part_count x ≤ n → part_count y ≤ n → part_count (cond b x y) ≤ n
either n true x y h g = h
either n false x y h g = g

pub grown-parts : (n b : ℕ) (x : Search) → part_count x ≤ n → part_count (grown b x) ≤ n + 1
grown-parts n b (Ok None) h = omega arith
grown-parts n b (Err r) h = omega arith
grown-parts n b (Ok (Some s)) h = go (ltb (s.bits + b) bit_limit)
  where
    go : (t : Bool)
        → part_count (reached (bind (cond t (Ok (s.bits + b)) (Err BitsTooBig)) (λ e. Ok (record { typ = s.typ; last = s.last; bits = e; parts = suc s.parts })))) ≤ n + 1
    go true = omega arith
    go false = omega arith

or_else-parts : (n : ℕ) (x y : Search) → part_count x ≤ n → part_count y ≤ n → part_count (or_else x y) ≤ n
or_else-parts n (Ok (Some s)) y h g = h
or_else-parts n (Ok None) y h g = g
or_else-parts n (Err r) y h g = h

decided-parts : (n : ℕ) (f : Compat) (x : Search) → part_count x ≤ n → part_count (decided f x) ≤ n
decided-parts n (Ok true) x h = h
decided-parts n (Ok false) x h = omega arith
decided-parts n (Err r) x h = omega arith

module _ (down : ℕ → Search) (fits : ℕ → Compat) (q : Sought) (n : ℕ) (deep : (j : ℕ) → part_count (down j) ≤ n) (here : q.from.parts ≤ n) where
  level-parts : (text : ℕ → List ℕ) (i : ℕ) (t : Ty) (k : ℕ) (ms : List Entry) → part_count (level down fits text q i t k ms) ≤ n + 1
  unfolding level
  level-parts text i t k [] = omega arith
  level-parts text i t k (m ∷ ms) =
      let rest = level down fits text q i t (suc k) ms in
      let more : part_count rest ≤ n + 1 = level-parts text i t (suc k) ms in
      let below = grown (member_bits t m) (down m.typ) in
      let found = grown (member_bits t m) (Ok (Some (at_member q.from i k m.typ))) in
      let low : part_count below ≤ n + 1 = grown-parts n (member_bits t m) (down m.typ) (deep m.typ) in
      let at : part_count found ≤ n + 1 = grown-parts n (member_bits t m) (Ok (Some (at_member q.from i k m.typ))) here in
      either (n + 1) (eqb q.from.parts max_spec_len) (Err (MaximumNesting q.candidate)) _ (omega arith)
      (either (n + 1) (is_empty (text m.name)) (or_else below rest) _ (or_else-parts (n + 1) below rest low more)
      (either (n + 1) (same_text q.name (text m.name)) (decided (fits m.typ) found) rest (decided-parts (n + 1) (fits m.typ) found at) more))

  members_parts : (T : View) (r : Reply ℕ) → part_count (members_of down fits T q r) ≤ n + 1
  members_parts T (Err r) = omega arith
  members_parts T (Ok i) =
      either (n + 1) (is_composite (T.typ i).kind) (level down fits T.text q i (T.typ i) 0 (T.typ i).entries) (Ok None)
      (level-parts T.text i (T.typ i) 0 (T.typ i).entries) (omega arith)

pub search-parts : (fits : ℕ → Compat) (T : View) (q : Sought) (levels i : ℕ) → part_count (search fits T q levels i) ≤ q.from.parts + levels + 1
unfolding search
search-parts fits T q zero i = members_parts no_level fits q (q.from.parts + 0) (λ j. omega arith) (omega arith) T (resolve T.typ i)
search-parts fits T q (suc levels) i =
    members_parts (search fits T q levels) fits q (q.from.parts + suc levels)
    (λ j. omega (arith, search-parts fits T q levels j)) (omega arith) T (resolve T.typ i)
