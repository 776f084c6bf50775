-- The shape of the code, no rule: what its inner functions promise one another of types passed in turn, of the marks kept on the
-- way, and of a table that is filled in parts. No promise of a public function speaks of it.
-- Assumes nothing.
use Rattle.std.specs.Prelude.{ℕ, zero, suc, ◌+◌, ◌-◌, ◌≤◌, ◌<◌, ◌*◌, cond, List, ltb, length, get_or, ◌≡◌}
use Rattle.btf_kinds.specs.Types.{type_at, after}
use Rattle.btf_pass.specs.Good.{good}
use Rattle.btf_pass.specs.Reach.{larger, reach_of}
use Rattle.btf_accept.specs.declared.Stretched.{Stretched}
use Rattle.btf_accept.specs.declared.Stretched.TheVariants.{Passed, Stuck}
use Rattle.btf_accept.specs.declared.Scan.{Scan}
use Rattle.btf_accept.specs.declared.Scan.TheVariants.{Count}
use Rattle.btf_accept.specs.Accept.{scan, unfit}
use Rattle.btf_accept.specs.declared.Btf.{Btf}
use Rattle.btf_accept.specs.declared.Whole.{Whole}
use Rattle.btf_accept.specs.declared.Whole.TheVariants.{Accepted}
use Rattle.btf_accept.specs.Limits.{max_types}
use Rattle.btf_accept.specs.Sections.{types_in}

-- at most `left` types from `at` on, n before it; `far` and `top` are the reach of those before
unfoldable pub stretch_of : List ℕ → ℕ → ℕ → ℕ → ℕ → ℕ → Stretched
stretch_of t zero at n far top = Passed at n far top
stretch_of t (suc left) at n far top =
    let r = reach_of (type_at t at) in
    let rest = stretch_of t left (after t at) (n + 1) (larger far r.far) (larger top r.top) in
    cond (ltb at (length t)) (cond (good t at) rest (Stuck (n + 1))) (Passed at n far top)

-- where the type after n others begins
unfoldable pub place_of : List ℕ → ℕ → ℕ
place_of t zero = 0
place_of t (suc n) = after t (place_of t n)

-- the second and third pass, at the (n + 1)th of `last` types, which the first has counted
pub record Walking (most : ℕ) (t : List ℕ) (last at n : ℕ) : Type 0 where
  pub few : n ≤ most
  pub high : at ≤ length t
  pub rest : scan t (most - n) at n ≡ Count last

-- the first n types lie in the section
abbrev pub Lies : List ℕ → ℕ → Type 0
Lies t n = (k : ℕ) → k < n → after t (place_of t k) ≤ length t

-- the first n types reach no farther than this: inside such bounds, an unfit one comes after them
pub record Reached (t : List ℕ) (far top n : ℕ) : Type 0 where
  pub fit : (room last : ℕ) → far < room → top ≤ last → unfit t room last n 0 0 ≡ 0

-- a mark for every 1,024 types: where the next one begins
pub record Marked (t : List ℕ) (n : ℕ) (marks : List ℕ) : Type 0 where
  pub place : (i : ℕ) → 1024 * i < n → get_or marks i 0 ≡ place_of t (1024 * i)

-- the marks of a section, where its types are counted
pub record MarkedIf (t : List ℕ) (r : Scan) (marks : List ℕ) : Type 0 where
  pub counted : (n : ℕ) → Count n ≡ r → Marked t n marks

-- and of bytes, where they are accepted
pub record MarkedIn (s : List ℕ) (r : Whole) (marks : List ℕ) : Type 0 where
  pub accepted : (b : Btf) → Accepted b ≡ r → Marked (types_in s b) b.last marks

-- the count at the next mark, or the most there may be
unfoldable pub stop_after : ℕ → ℕ
stop_after n = cond (ltb n (max_types - 1024)) (n + 1024) max_types

-- the entry of an id: where its type begins
abbrev pub entry_for : List ℕ → ℕ → ℕ → ℕ
entry_for t base id = base + place_of t (id - 1)

-- the entries after `lo`, up to `hi`, are filled; the others are as they were
pub record Filled (t : List ℕ) (base lo hi : ℕ) (old new : List ℕ) : Type 0 where
  pub len : length new ≡ length old
  pub done : (j : ℕ) → lo < j → j ≤ hi → get_or new j 0 ≡ entry_for t base j
  pub low : (j : ℕ) → j ≤ lo → get_or new j 0 ≡ get_or old j 0
  pub high : (j : ℕ) → hi < j → get_or new j 0 ≡ get_or old j 0
