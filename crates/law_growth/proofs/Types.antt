-- Laws of rules' Types: a grown target answers at old ids what the old one answered (`x_grow`); where an answer is an id, it
-- is at most the last (`x-low`); where a check is refused, it is for a refusal that a candidate causes (`x-caused`).
use Prim.Native.Nat.{ℕ, zero, suc, ◌-◌, ◌≤◌}
use mathlib.Core.Path.{◌≡◌, refl, ap}
use mathlib.Core.Bool.{Bool, cond}
use mathlib.Core.List.{List, [], ◌∷◌}
use native.Mathlib.Omega.{arith}
use lib.ListN.{get_or}
use lib.Dec.{eqb}
use Rattle.btf_kinds.specs.declared.Entry.{Entry}
use Rattle.btf_kinds.specs.Types.{Ty}
use Rattle.btf_view.specs.View.{View}
use Rattle.btf_view.proofs.Extends.{Inside, Closed, Extends}
use Rattle.btf_view.specs.Places.{no_entry}
use Rattle.rules.specs.Limits.{max_resolve_depth, max_steps}
use Rattle.rules.specs.Refusal.{Reply}
use Rattle.rules.specs.Types.{chain, resolve, elements, size_of, and_then, both, pairs, params, meet, no_step, types_within, types_compatible}
use Rattle.rules.specs.Types.{meet_fields, fields_within, fields_compatible, Compat}
use Rattle.law_growth.proofs.Replies.{causes_unresolved, causes-deep, Fine, found, Caused, cond-in, bind-in, bind-same}
use Rattle.std.specs.Prelude.{Err, Ok}
use Rattle.rules.specs.declared.Refusal.TheVariants.{Unresolved}

-- The chain ends at an id of the view, or does not end.
abbrev pub Low : View → Reply ℕ → Type 0
Low T x = Fine (λ i. i ≤ T.count) x

-- An entry's type, wherever in the list it is looked for
pub entry-low : (last room : ℕ) (es : List Entry) → Inside last room es → (k : ℕ) → (get_or es k no_entry).typ ≤ last
entry-low last room [] h k = omega arith
entry-low last room (e ∷ es) h zero = h.1
entry-low last room (e ∷ es) h (suc k) = entry-low last room es h.2 k

module _ {T : View} (cl : Closed T) where
  chain-low : (f i : ℕ) → i ≤ T.count → Low T (chain T.typ f i)
  unfolding chain
  chain-low zero i h = causes_unresolved
  chain-low (suc f) i h = cond-in _ (chain-low f (T.typ i).ref (cl.ref i)) (found h)

  pub resolve-low : (i : ℕ) → i ≤ T.count → Low T (resolve T.typ i)
  unfolding resolve
  resolve-low i h = chain-low max_resolve_depth i h

module _ {T E : View} (cl : Closed T) (ex : Extends T E) where
  -- Chains

  chain_grow : (f i : ℕ) → i ≤ T.count → chain E.typ f i ≡ chain T.typ f i
  unfolding chain
  chain_grow zero i h = refl
  chain_grow (suc f) i h = rw (ex.typ i h, chain_grow f (T.typ i).ref (cl.ref i))

  pub resolve_grow : (i : ℕ) → i ≤ T.count → resolve E.typ i ≡ resolve T.typ i
  unfolding resolve
  resolve_grow i h = chain_grow max_resolve_depth i h

  -- Sizes

  elements_grow : (f n i : ℕ) → i ≤ T.count → elements E.typ f n i ≡ elements T.typ f n i
  unfolding elements
  elements_grow zero n i h = refl
  elements_grow (suc f) n i h =
      rw (ex.typ i h, elements_grow f (T.typ i).extra (T.typ i).ref (cl.ref i), elements_grow f n (T.typ i).ref (cl.ref i))

  pub size_grow : (i : ℕ) → i ≤ T.count → size_of E.typ i ≡ size_of T.typ i
  unfolding size_of
  size_grow i h = elements_grow max_resolve_depth 1 i h

  -- Compatibility

  -- Two types, by checks that agree on old types
  both_grow : (L : ℕ → Ty) (check check' : Ty → Ty → Compat) → ((l : Ty) (j : ℕ) → j ≤ T.count → check' l (T.typ j) ≡ check l (T.typ j))
      → (a b : ℕ) → b ≤ T.count → both check' L E.typ (resolve L a) (resolve E.typ b) ≡ both check L T.typ (resolve L a) (resolve T.typ b)
  both_grow L check check' eq a b h = rw (resolve_grow b h) (go (resolve L a))
    where
      go : (x : Reply ℕ) → both check' L E.typ x (resolve T.typ b) ≡ both check L T.typ x (resolve T.typ b)
      go (Err q) = refl
      go (Ok i) = bind-same (resolve-low cl b h) (λ j l. rw (ex.typ j l) (eq (L i) j l))

  -- Parameters, by checks that agree on old ids
  pairs_grow : {k k' : ℕ → ℕ → Compat} → ((a b : ℕ) → b ≤ T.count → k' a b ≡ k a b)
      → (ps qs : List Entry) → Inside T.count T.room qs → pairs k' ps qs ≡ pairs k ps qs
  unfolding pairs
  pairs_grow eq [] qs l = refl
  pairs_grow eq (p ∷ ps) [] l = refl
  pairs_grow eq (p ∷ ps) (q ∷ qs) l = rw (eq p.typ q.typ l.1, pairs_grow eq ps qs l.2)

  meet_grow : {d d' k k' : ℕ → ℕ → Compat} → ((a b : ℕ) → b ≤ T.count → d' a b ≡ d a b) → ((a b : ℕ) → b ≤ T.count → k' a b ≡ k a b)
      → (l : Ty) (j : ℕ) → j ≤ T.count → meet d' k' l (T.typ j) ≡ meet d k l (T.typ j)
  unfolding meet params
  meet_grow eq-d eq-k l j h =
      rw (eq-d l.ref (T.typ j).ref (cl.ref j), pairs_grow eq-k l.entries (T.typ j).entries (cl.entries j))

  types_within_grow : (L : ℕ → Ty) (left own a b : ℕ) → b ≤ T.count → types_within L E.typ left own a b ≡ types_within L T.typ left own a b
  unfolding types_within
  types_within_grow L zero own a b h = ap (cond (eqb own 0) (Err Unresolved)) (both_grow L (meet no_step no_step) (meet no_step no_step) (λ l j g. refl) a b h)
  types_within_grow L (suc left) own a b h =
      ap (cond (eqb own 0) (Err Unresolved)) (both_grow L
      (meet (types_within L T.typ left (own - 1)) (types_within L T.typ left max_resolve_depth))
      (meet (types_within L E.typ left (own - 1)) (types_within L E.typ left max_resolve_depth))
      (meet_grow (types_within_grow L left (own - 1)) (types_within_grow L left max_resolve_depth)) a b h)

  pub types_grow : (L : ℕ → Ty) (a b : ℕ) → b ≤ T.count → types_compatible L E.typ a b ≡ types_compatible L T.typ a b
  unfolding types_compatible
  types_grow L a b h = types_within_grow L max_steps max_resolve_depth a b h

  meet_fields_grow : (text : ℕ → List ℕ) {d d' : ℕ → ℕ → Compat} → ((a b : ℕ) → b ≤ T.count → d' a b ≡ d a b)
      → (l : Ty) (j : ℕ) → j ≤ T.count → meet_fields d' text E.text l (T.typ j) ≡ meet_fields d text T.text l (T.typ j)
  unfolding meet_fields
  meet_fields_grow text eq l j h = rw (eq l.ref (T.typ j).ref (cl.ref j), ex.text (T.typ j).name (cl.name j))

  fields_within_grow : (L : View) (own a b : ℕ) → b ≤ T.count → fields_within L E own a b ≡ fields_within L T own a b
  unfolding fields_within
  fields_within_grow L zero a b h = refl
  fields_within_grow L (suc own) a b h =
      both_grow L.typ (meet_fields (fields_within L T own) L.text T.text) (meet_fields (fields_within L E own) L.text E.text)
      (meet_fields_grow L.text (fields_within_grow L own)) a b h

  pub fields_grow : (L : View) (a b : ℕ) → b ≤ T.count → fields_compatible L E a b ≡ fields_compatible L T a b
  unfolding fields_compatible
  fields_grow L a b h = fields_within_grow L max_resolve_depth a b h

-- Refusals, whatever the types

chain-caused : (typ : ℕ → Ty) (f i : ℕ) → Caused (chain typ f i)
unfolding chain
chain-caused typ zero i = causes_unresolved
chain-caused typ (suc f) i = cond-in _ (chain-caused typ f (typ i).ref) (found tt)

told : (b : Bool) → Caused (Ok b)
told b = found tt

both-caused : {check : Ty → Ty → Compat} (L T : ℕ → Ty) → ((l t : Ty) → Caused (check l t)) → (a b : ℕ) → Caused (both check L T (resolve L a) (resolve T b))
unfolding resolve
both-caused L T h a b = bind-in (chain-caused L max_resolve_depth a) (λ i u. bind-in (chain-caused T max_resolve_depth b) (λ j v. h (L i) (T j)))

and_then-caused : {x y : Compat} → Caused x → Caused y → Caused (and_then x y)
and_then-caused p q = bind-in p (λ b u. cond-in b q (found tt))

pairs-caused : {check : ℕ → ℕ → Compat} → ((a b : ℕ) → Caused (check a b)) → (ps qs : List Entry) → Caused (pairs check ps qs)
unfolding pairs
pairs-caused h [] qs = found tt
pairs-caused h (p ∷ ps) [] = found tt
pairs-caused h (p ∷ ps) (q ∷ qs) = and_then-caused (h p.typ q.typ) (pairs-caused h ps qs)

meet-caused : {down param : ℕ → ℕ → Compat} → ((a b : ℕ) → Caused (down a b)) → ((a b : ℕ) → Caused (param a b)) → (l t : Ty) → Caused (meet down param l t)
unfolding meet params
meet-caused h g l t =
    search (cond-in, and_then-caused, pairs-caused g l.entries t.entries, h, told, causes_unresolved) depth 12

types_within-caused : (L T : ℕ → Ty) (left own a b : ℕ) → Caused (types_within L T left own a b)
unfolding types_within
types_within-caused L T zero own a b =
    cond-in _ causes_unresolved (both-caused L T (meet-caused (λ i j. causes-deep) (λ i j. causes-deep)) a b)
types_within-caused L T (suc left) own a b =
    cond-in _ causes_unresolved (both-caused L T (meet-caused (types_within-caused L T left (own - 1)) (types_within-caused L T left max_resolve_depth)) a b)

pub types-caused : (L T : ℕ → Ty) (a b : ℕ) → Caused (types_compatible L T a b)
unfolding types_compatible
types-caused L T a b = types_within-caused L T max_steps max_resolve_depth a b

fields_within-caused : (L T : View) (own a b : ℕ) → Caused (fields_within L T own a b)
unfolding fields_within meet_fields
fields_within-caused L T zero a b = causes_unresolved
fields_within-caused L T (suc own) a b = both-caused {check = meet_fields (fields_within L T own) L.text T.text} L.typ T.typ (λ l t.
    search (cond-in, fields_within-caused L T own, told, causes_unresolved) depth 12) a b

pub fields-caused : (L T : View) (a b : ℕ) → Caused (fields_compatible L T a b)
unfolding fields_compatible
fields-caused L T a b = fields_within-caused L T max_resolve_depth a b
