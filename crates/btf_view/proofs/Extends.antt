-- What proofs know of views: nothing in one points out of it; one has all of another, and maybe more.
-- Assumes nothing.
use Prim.Native.Nat.{ℕ, ◌≤◌, ◌<◌}
use mathlib.Core.Path.{◌≡◌}
use mathlib.Core.List.{List, [], ◌∷◌}
use Rattle.btf_kinds.specs.declared.Entry.{Entry}
use Rattle.btf_view.specs.View.{View}

-- every name of a list lies in the strings, every type is at most the last
abbrev pub Inside : ℕ → ℕ → List Entry → Type 0
Inside last room [] = Unit {0}
Inside last room (e ∷ es) = (e.name < room) × (e.typ ≤ last) × Inside last room es

-- nothing in a view points out of it
pub record Closed (B : View) : Type 0 where
  pub name : (i : ℕ) → (B.typ i).name < B.room
  pub ref : (i : ℕ) → (B.typ i).ref ≤ B.count
  pub index : (i : ℕ) → (B.typ i).index ≤ B.count
  pub entries : (i : ℕ) → Inside B.count B.room (B.typ i).entries

-- a view that has all of another, and maybe more
pub record Extends (B E : View) : Type 0 where
  pub more : B.count ≤ E.count
  pub typ : (i : ℕ) → i ≤ B.count → E.typ i ≡ B.typ i
  pub text : (o : ℕ) → o < B.room → E.text o ≡ B.text o
