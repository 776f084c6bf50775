-- Laws of rules' Matching, the walk of fields: in a grown target it comes from old ids to where it came (`x_grow`); it stays
-- at ids of its view, and where it fails, it is for one of the refusals that a candidate causes (`x-in`).
use Prim.Native.Nat.{ℕ, zero, suc, ◌+◌, ◌*◌, ◌≤◌}
use mathlib.Core.Path.{◌≡◌, refl}
use mathlib.Core.Bool.{not, ◌&&◌}
use mathlib.Core.List.{List, [], ◌∷◌}
use lib.Dec.{leb, eqb}
use Rattle.btf_kinds.specs.declared.Entry.{Entry}
use Rattle.btf_kinds.specs.Types.{Ty}
use Rattle.btf_view.specs.View.{View}
use Rattle.btf_view.proofs.Extends.{Inside, Closed, Extends}
use Rattle.rules.specs.declared.Accessor.{Accessor}
use Rattle.rules.specs.declared.Target.{Target}
use Rattle.rules.specs.Kinds.{is_composite}
use Rattle.btf_kinds.specs.Names.{ARRAY}
use Rattle.rules.specs.Limits.{max_spec_len, max_levels}
use Rattle.rules.specs.Fields.{member_bits, nth_entry}
use Rattle.rules.specs.Refusal.{Reply, bind}
use Rattle.rules.specs.Types.{resolve, size_of, is_empty, same_text, Compat}
use Rattle.rules.specs.Access.{element_bits}
use Rattle.rules.specs.Matching.{next, or_else, reached, grown, Sought, at_member, level, members_of, search, target_member, at_element}
use Rattle.rules.specs.Matching.{target_open, target_element, target_element_at, target_step, target_steps, origin, field_match, Search}
use Rattle.law_growth.proofs.Replies.{Fine, found, found-has, Caused, causes_nesting, causes-deep, cond-in, sized-in, bind-in, bind-same, bit_offset-in}
use Rattle.law_growth.proofs.Types.{resolve-low, resolve_grow, size_grow, fields-caused, fields_grow}
use Rattle.std.specs.Prelude.{Err, None, Ok, Option, Some}

-- A place of the walk at ids of the view
abbrev pub Place : View → Target → Type 0
Place T s = (s.typ ≤ T.count) × (s.last.typ ≤ T.count)

-- What a search answers: such a place, nothing, or a refusal that a candidate causes
abbrev pub Placed : View → Option Target → Type 0
Placed T None = Unit {0}
Placed T (Some s) = Place T s

abbrev pub In : View → Search → Type 0
In T x = Fine (Placed T) x

module _ (T : View) where
  reached-in : {x : Reply Target} → Fine (Place T) x → In T (reached x)
  reached-in h = bind-in h (λ s g. found g)

  grown-in : (b : ℕ) (x : Search) → In T x → In T (grown b x)
  grown-in b (Ok (Some s)) h = reached-in (bind-in (bit_offset-in (s.bits + b)) (λ n u. found (found-has h)))
  grown-in b (Ok None) h = h
  grown-in b (Err q) h = h

  or_in : (x y : Search) → In T x → In T y → In T (or_else x y)
  or_in (Ok (Some s)) y p q = p
  or_in (Ok None) y p q = q
  or_in (Err r) y p q = p

  level_in : {down : ℕ → Search} {fits : ℕ → Compat} (text : ℕ → List ℕ) (q : Sought) (i : ℕ) (t : Ty) → i ≤ T.count
      → ((j : ℕ) → j ≤ T.count → In T (down j)) → ((j : ℕ) → Caused (fits j)) → (k : ℕ) (ms : List Entry) → Inside T.count T.room ms
      → In T (level down fits text q i t k ms)
  unfolding level
  level_in text q i t h below fit k [] l = found tt
  level_in text q i t h below fit k (m ∷ ms) l =
      let rest = level_in text q i t h below fit (suc k) ms l.2 in
      cond-in (eqb q.from.parts max_spec_len) (causes_nesting q.candidate)
      (cond-in (is_empty (text m.name)) (or_in _ _ (grown-in (member_bits t m) _ (below m.typ l.1)) rest)
      (cond-in (same_text q.name (text m.name))
      (bind-in (fit m.typ) (λ b u. cond-in b (grown-in (member_bits t m) (Ok (Some (at_member q.from i k m.typ))) (found (l.1, h))) (found tt))) rest))

  -- The steps after a place: it is enough that they agree at such places.
  next-same : (x : Search) (f g : Target → Search) → In T x → ((s : Target) → Place T s → f s ≡ g s) → next x f ≡ next x g
  next-same (Ok (Some s)) f g h eq = eq s (found-has h)
  next-same (Ok None) f g h eq = refl
  next-same (Err q) f g h eq = refl

  next-in : (x : Search) (f : Target → Search) → In T x → ((s : Target) → Place T s → In T (f s)) → In T (next x f)
  next-in (Ok (Some s)) f h go = go s (found-has h)
  next-in (Ok None) f h go = h
  next-in (Err q) f h go = h

  element-in : (typ : ℕ → Ty) (c : ℕ) (s : Target) (k j : ℕ) → j ≤ T.count → Fine (Place T) (at_element typ c s k j)
  unfolding at_element element_bits
  element-in typ c s k j h =
      cond-in (eqb s.parts max_spec_len) (causes_nesting c)
      (bind-in (sized-in (size_of typ j) (λ n. bind-in (bit_offset-in (k * n * 8)) (λ e u. bit_offset-in (s.bits + e)))) (λ b u. found (h, h)))

-- The walk stays in its view.
module _ {T : View} (cl : Closed T) where
  resolved-in : (c : ℕ) (s : Target) (k i : ℕ) → i ≤ T.count → In T (reached (bind (resolve T.typ i) (at_element T.typ c s k)))
  resolved-in c s k i h = reached-in T (bind-in (resolve-low cl i h) (λ j l. element-in T T.typ c s k j l))

  members_in : {down : ℕ → Search} {fits : ℕ → Compat} (q : Sought) → ((j : ℕ) → j ≤ T.count → In T (down j)) → ((j : ℕ) → Caused (fits j))
      → (i : ℕ) → i ≤ T.count → In T (members_of down fits T q (resolve T.typ i))
  members_in q below fit i h = bind-in (resolve-low cl i h) (λ j l.
      cond-in (is_composite (T.typ j).kind) (level_in T T.text q j (T.typ j) l below fit 0 (T.typ j).entries (cl.entries j)) (found tt))

  search-in : {fits : ℕ → Compat} (q : Sought) → ((j : ℕ) → Caused (fits j)) → (levels i : ℕ) → i ≤ T.count → In T (search fits T q levels i)
  unfolding search
  search-in q fit zero i h = members_in q (λ j g. causes-deep) fit i h
  search-in q fit (suc levels) i h = members_in q (search-in q fit levels) fit i h

  step-element-in : (c : ℕ) (s : Target) (k i : ℕ) → i ≤ T.count → In T (target_element_at T.typ c s k (resolve T.typ i))
  unfolding target_element
  step-element-in c s k i h = bind-in (resolve-low cl i h) (λ j l.
      cond-in (not (eqb (T.typ j).kind ARRAY)) (found tt)
      (cond-in (not (target_open (T.typ j) (T.typ s.last.typ) s.last.index) && leb (T.typ j).extra k) (found tt)
      (resolved-in c s k (T.typ j).ref (cl.ref j))))

  step_in : (L : View) (c : ℕ) (s : Target) (a : Accessor) → Place T s → In T (target_step L T c s a)
  unfolding target_step target_member
  step_in L c s a o =
      let m = nth_entry (L.typ a.typ) a.index in
      cond-in a.named (search-in _ (fields-caused L T m.typ) max_levels s.typ o.0) (step-element-in c s a.index s.typ o.0)

  steps_in : (L : View) (c : ℕ) (s : Target) (steps : List Accessor) → Place T s → In T (target_steps L T c s steps)
  unfolding target_steps
  steps_in L c s [] o = found o
  steps_in L c s (a ∷ more) o = next-in T (target_step L T c s a) _ (step_in L c s a o) (λ u g. steps_in L c u more g)

  pub field_match-in : (L : View) (steps : List Accessor) (i : ℕ) → i ≤ T.count → In T (field_match L T steps i)
  unfolding field_match
  field_match-in L [] i h = found tt
  field_match-in L (a ∷ more) i h = next-in T _ _ (resolved-in i origin a.index i h) (λ s g. steps_in L i s more g)

-- In a grown view it goes the same way.
module _ {T E : View} (cl : Closed T) (ex : Extends T E) where
  level_grow : {down down' : ℕ → Search} {fits fits' : ℕ → Compat} (q : Sought) (i : ℕ) (t : Ty)
      → ((j : ℕ) → j ≤ T.count → down' j ≡ down j) → ((j : ℕ) → j ≤ T.count → fits' j ≡ fits j)
      → (k : ℕ) (ms : List Entry) → Inside T.count T.room ms → level down' fits' E.text q i t k ms ≡ level down fits T.text q i t k ms
  unfolding level
  level_grow q i t eq-d eq-f k [] l = refl
  level_grow q i t eq-d eq-f k (m ∷ ms) l =
      rw (ex.text m.name l.0, eq-d m.typ l.1, eq-f m.typ l.1, level_grow q i t eq-d eq-f (suc k) ms l.2)

  members_grow : {down down' : ℕ → Search} {fits fits' : ℕ → Compat} (q : Sought)
      → ((j : ℕ) → j ≤ T.count → down' j ≡ down j) → ((j : ℕ) → j ≤ T.count → fits' j ≡ fits j)
      → (i : ℕ) → i ≤ T.count → members_of down' fits' E q (resolve E.typ i) ≡ members_of down fits T q (resolve T.typ i)
  members_grow q eq-d eq-f i h =
      rw (resolve_grow cl ex i h) (bind-same (resolve-low cl i h) (λ j l.
      rw (ex.typ j l) (rw (level_grow q j (T.typ j) eq-d eq-f 0 (T.typ j).entries (cl.entries j)))))

  search_grow : {fits fits' : ℕ → Compat} (q : Sought) → ((j : ℕ) → j ≤ T.count → fits' j ≡ fits j)
      → (levels i : ℕ) → i ≤ T.count → search fits' E q levels i ≡ search fits T q levels i
  unfolding search
  search_grow q eq zero i h = members_grow q (λ j g. refl) eq i h
  search_grow q eq (suc levels) i h = members_grow q (search_grow q eq levels) eq i h

  element_grow : (c : ℕ) (s : Target) (k j : ℕ) → j ≤ T.count → at_element E.typ c s k j ≡ at_element T.typ c s k j
  unfolding at_element element_bits
  element_grow c s k j h = rw (size_grow cl ex j h)

  -- The element type of an array, and where it leads
  resolved-element : (c : ℕ) (s : Target) (k i : ℕ) → i ≤ T.count
      → bind (resolve E.typ i) (at_element E.typ c s k) ≡ bind (resolve T.typ i) (at_element T.typ c s k)
  resolved-element c s k i h = rw (resolve_grow cl ex i h) (bind-same (resolve-low cl i h) (λ j g. element_grow c s k j g))

  step-element_grow : (c : ℕ) (s : Target) (k : ℕ) → Place T s
      → target_element_at E.typ c s k (resolve E.typ s.typ) ≡ target_element_at T.typ c s k (resolve T.typ s.typ)
  unfolding target_element
  step-element_grow c s k o =
      rw (resolve_grow cl ex s.typ o.0) (bind-same (resolve-low cl s.typ o.0) (λ j l.
      rw (ex.typ j l, ex.typ s.last.typ o.1, resolved-element c s k (T.typ j).ref (cl.ref j))))

  step_grow : (L : View) (c : ℕ) (s : Target) (a : Accessor) → Place T s → target_step L E c s a ≡ target_step L T c s a
  unfolding target_step target_member
  step_grow L c s a o =
      let m = nth_entry (L.typ a.typ) a.index in
      rw (
        search_grow (record { name = L.text m.name; candidate = c; from = s }) (λ j g. fields_grow cl ex L m.typ j g) max_levels s.typ o.0,
        step-element_grow c s a.index o,
      )

  steps_grow : (L : View) (c : ℕ) (s : Target) (steps : List Accessor) → Place T s → target_steps L E c s steps ≡ target_steps L T c s steps
  unfolding target_steps
  steps_grow L c s [] o = refl
  steps_grow L c s (a ∷ more) o =
      rw (step_grow L c s a o) (next-same T (target_step L T c s a) _ _ (step_in cl L c s a o) (λ u g. steps_grow L c u more g))

  pub field_match_grow : (L : View) (steps : List Accessor) (i : ℕ) → i ≤ T.count → field_match L E steps i ≡ field_match L T steps i
  unfolding field_match
  field_match_grow L [] i h = refl
  field_match_grow L (a ∷ more) i h =
      rw (resolved-element i origin a.index i h)
      (next-same T _ _ _ (resolved-in cl i origin a.index i h) (λ s g. steps_grow L i s more g))
