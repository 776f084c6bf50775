-- Demand 3 of one record, over views: proved.
use Prim.Native.Nat.{ℕ, zero, suc, ◌+◌, ◌-◌, ◌≤◌, ◌<◌}
use mathlib.Core.Path.{◌≡◌, refl, sym, ap, ◌∙◌, subst}
use mathlib.Core.Bool.{Bool, true, false, cond, ◌||◌, not}
use mathlib.Core.List.{List, []}
use native.Mathlib.Omega.{arith}
use lib.Dec.{eqb, ltb}
use borrow.Author.Tests.{ne_eqb}
use Rattle.btf_kinds.specs.Types.{Ty}
use Rattle.btf_view.specs.View.{View}
use Rattle.btf_view.proofs.Extends.{Closed, Extends}
use Rattle.rules.specs.declared.Refusal.{Refusal}
use Rattle.rules.specs.declared.Refusal.TheVariants.{KindTooBig, NotInFunction}
use Rattle.rules.specs.declared.Value.{Value}
use Rattle.rules.specs.declared.Match.{Match}
use Rattle.rules.specs.declared.Write.{Write}
use Rattle.rules.specs.declared.Record.{Record}
use Rattle.rules.specs.Kinds.{type_id_local, enum_value}
use Rattle.rules.specs.Refusal.{Reply, bind}
use Rattle.rules.specs.Access.{Access}
use Rattle.rules.specs.Value.{local_value}
use Rattle.rules.specs.Record.{over, event_at, matches, conclude, resize_between, resizing, writing, computed, compute, accessed, relocated, Outcome}
use Rattle.rules.specs.Record.{refuse, apply, index_of, in_function, record_of, Matches}
use Rattle.law_growth.specs.Demand3.{causes, harms, given_to, gives, first_match, harms_first, harmful, harmful_ids, due, is_refused, has_match, Past}
use Rattle.law_growth.specs.Demand3.{Settled, Demand3}
use Rattle.law_growth.proofs.Replies.{found, found-has, refused-causes}
use Rattle.law_growth.proofs.Values.{TypingIn, WorthIn}
use Rattle.law_growth.proofs.Events.{EventIn, MatchesIn, event_at_grow, event_at-in, over-in}
use Rattle.law_growth.proofs.Fold.{over-more, over-same, unless, concluded, One, Owing, those-none-all, owed_none, owed-some, owed-one}
use Rattle.std.specs.Prelude.{Err, None, Ok, Option, Some}

-- What is written depends on the types of the two values alone.

module _ {T E : View} (ex : Extends T E) where
  between_grow : (L : ℕ → Ty) (s : ℕ) (x y : Option ℕ) → TypingIn T y → resize_between L E.typ s x y ≡ resize_between L T.typ s x y
  between_grow L s None y h = refl
  between_grow L s (Some a) None h = refl
  between_grow L s (Some a) (Some b) h = rw (ex.typ b h)

  writing_grow : (L : ℕ → Ty) (m : Value) (v : Option Value) → WorthIn T v → writing L E.typ m v ≡ writing L T.typ m v
  unfolding resizing
  writing_grow L m None h = refl
  writing_grow L m (Some v) h = rw (between_grow L v.size m.typ v.typ h)

-- An old type gives what it gave.

module _ {T E : View} (cl : Closed T) (ex : Extends T E) (L : View) (r : Record) where
  gives_grow : (i : ℕ) → i ≤ T.count → gives L E r i ≡ gives L T r i
  unfolding gives
  gives_grow i h = go (accessed L r)
    where
      go : (x : Reply Access) → cond (eqb r.kind type_id_local) (Ok None) (given_to L E r i x) ≡ cond (eqb r.kind type_id_local) (Ok None) (given_to L T r i x)
      go (Ok a) = rw (event_at_grow cl ex L r a (local_value L.typ r.kind a) i h)
      go (Err q) = refl

  -- The matches in E are those in T, and what the ids past the old end add.
  first_grow : first_match L E r ≡ over (gives L E r) (first_match L T r) (suc T.count) (E.count - T.count)
  unfolding first_match
  first_grow =
      let e : suc E.count ≡ suc T.count + (E.count - T.count) = omega (arith, ex.more) in
      let g : zero + suc T.count ≡ suc T.count = omega arith in
      ap (over (gives L E r) (Ok None) 0) e ∙ over-more (gives L E r) (Ok None) 0 (suc T.count) (E.count - T.count)
      ∙ rw (g, over-same (gives L E r) (gives L T r) (Ok None) 0 (suc T.count) (λ j h. gives_grow j (omega arith)))

-- A record that looks at a target, and is refused by nothing before the target is looked at

record Ready (L : View) (section : ℕ) (insns : List ℕ) (r : Record) : Type 0 where
  known : ltb enum_value r.kind ≡ false
  inside : in_function section insns r ≡ true
  looks : eqb r.kind type_id_local ≡ false
  access : Access
  accessed_as : accessed L r ≡ Ok access
  mine : Value
  valued_as : local_value L.typ r.kind access ≡ Ok mine

module _ {L : View} {section : ℕ} {insns : List ℕ} {r : Record} (d : Ready L section insns r) where
  gives_at : (T : View) (i : ℕ) → gives L T r i ≡ event_at L T r d.access (Ok d.mine) i
  unfolding gives
  gives_at T i = rw (d.looks, d.accessed_as, d.valued_as)

  gives-in : {T : View} → Closed T → (i : ℕ) → i ≤ T.count → EventIn T (gives L T r i)
  gives-in {T} cl i h = rw (gives_at T i) (event_at-in cl L d.mine r d.access i h)

  first-in : {T : View} → Closed T → MatchesIn T (first_match L T r)
  unfolding first_match
  first-in {T} cl = over-in T (gives L T r) (Ok None) 0 (suc T.count) (found tt) (λ j h. gives-in cl j (omega arith))

  -- What it leaves, by its matches
  left : (T : View) → record_of L T section insns r
      ≡ apply insns (index_of section r) (computed L.typ T.typ (Ok d.mine) (conclude r.kind (first_match L T r)))
  unfolding record_of relocated compute matches first_match
  left T = rw (
    d.known,
    d.inside,
    d.accessed_as,
    d.looks,
    d.valued_as,
    over-same (gives L T r) (event_at L T r d.access (Ok d.mine)) (Ok None) 0 (suc T.count) (λ j h. gives_at T j),
  )

-- An accepted record that looks at a target is ready, and its first match has no conflict.

record First (L T : View) (r : Record) : Type 0 where
  match : Match
  none : ℕ
  is : first_match L T r ≡ Ok (Some (record { first = match; conflict = none; count = 0 }))

module _ (L T : View) (section : ℕ) (insns : List ℕ) (r : Record) where
  -- What an outcome that is not refused tells of its stages
  told : (k i : Bool) (x : Reply Write)
      → is_refused (cond k (refuse insns (KindTooBig r.kind)) (cond (not i) (refuse insns NotInFunction) (apply insns (index_of section r) x))).answer ≡ false
      → (k ≡ false) × (i ≡ true) × ((w : Write) × (x ≡ Ok w))
  unfolding apply
  told true i x h = absurd (cc)
  told false false x h = absurd (cc)
  told false true (Err q) h = absurd (cc)
  told false true (Ok w) h = (refl, refl, (w, refl))

  pub stages : is_refused (record_of L T section insns r).answer ≡ false
      → (ltb enum_value r.kind ≡ false) × (in_function section insns r ≡ true) × ((w : Write) × (relocated L T r ≡ Ok w))
  unfolding record_of
  stages h = told (ltb enum_value r.kind) (in_function section insns r) (relocated L T r) h

  ready : is_refused (record_of L T section insns r).answer ≡ false → eqb r.kind type_id_local ≡ false → Ready L section insns r
  ready h looks = accessing (accessed L r) refl (unfold relocated in (stages h).2.1)
    where
      w : Write
      w = (stages h).2.0

      valuing : (a : Access) → accessed L r ≡ Ok a → (x : Reply Value) → local_value L.typ r.kind a ≡ x → (t : Reply (Option Value))
          → computed L.typ T.typ x t ≡ Ok w → Ready L section insns r
      valuing a e (Ok m) f t g =
          record { known = (stages h).0; inside = (stages h).1; looks = looks; access = a; accessed_as = e; mine = m; valued_as = f }
      valuing a e (Err q) f (Ok t) g = absurd (cc)
      valuing a e (Err q) f (Err q') g = absurd (cc)

      looking : (a : Access) → compute L T r a ≡ Ok w
          → computed L.typ T.typ (local_value L.typ r.kind a) (conclude r.kind (matches L T r a (local_value L.typ r.kind a))) ≡ Ok w
      looking a g = unfold compute in rw (← g, looks)

      accessing : (x : Reply Access) → accessed L r ≡ x → bind x (compute L T r) ≡ Ok w → Ready L section insns r
      accessing (Ok a) e g =
          valuing a e (local_value L.typ r.kind a) refl (conclude r.kind (matches L T r a (local_value L.typ r.kind a))) (looking a g)
      accessing (Err q) e g = absurd (cc)

  first : (d : Ready L section insns r) → is_refused (record_of L T section insns r).answer ≡ false → has_match (first_match L T r) ≡ true → First L T r
  unfolding apply conclude
  first d h m = go (first_match L T r) refl m (subst (λ (o : Outcome). is_refused o.answer ≡ false) (left d T) h)
    where
      NotRefused : Matches → Type 0
      NotRefused s = is_refused (apply insns (index_of section r) (computed L.typ T.typ (Ok d.mine) (conclude r.kind s))).answer ≡ false

      counted : (m : Match) (c n : ℕ) → first_match L T r ≡ Ok (Some (record { first = m; conflict = c; count = n }))
          → NotRefused (Ok (Some (record { first = m; conflict = c; count = n }))) → First L T r
      counted m c zero e t = record { match = m; none = c; is = e }
      counted m c (suc n) e t = let some = ne_eqb (suc n) 0 (λ q. omega arith) in let h = rw some at t in absurd (cc)

      go : (s : Matches) → first_match L T r ≡ s → has_match s ≡ true → NotRefused s → First L T r
      go (Ok None) e g t = absurd (cc)
      go (Err q) e g t = absurd (cc)
      go (Ok (Some k)) e g t = counted k.first k.conflict k.count e t

-- A record that looks at a target

module _ {T E : View} (cl : Closed T) (cl' : Closed E) (ex : Extends T E) {L : View} {section : ℕ} {insns : List ℕ} {r : Record}
    (d : Ready L section insns r) (m : First L T r) where
  harmful-at : (j : ℕ) → harmful L T E r j ≡ harms m.match (gives L E r j)
  unfolding harmful
  harmful-at j = rw m.is

  -- A local failure cannot be met past the old end: a refusal there is one that a candidate causes.
  owing : Owing (gives L E r) (harmful L T E r) (suc T.count) (E.count - T.count)
  owing = record { harm = harm }
    where
      harm : (j : ℕ) → suc T.count ≤ j → j < suc T.count + (E.count - T.count) → (q : Refusal) → gives L E r j ≡ Err q
          → (harmful L T E r j ≡ true) × (causes q ≡ true)
      harm j l k q e =
          let h : causes q ≡ true = refused-causes (subst (EventIn E) e (gives-in d cl' j (omega (arith, ex.more)))) in
          (harmful-at j ∙ ap (harms m.match) e ∙ h, h)

  -- In E the record has its first match's value, or is refused with what is due.
  concludes : conclude r.kind (first_match L E r) ≡ unless m.match.value (due L T E r)
  unfolding due harmful_ids
  concludes =
      rw (first_grow cl ex L r, m.is)
      (concluded (gives L E r) (harmful L T E r) m.match harmful-at r.kind (suc T.count) (E.count - T.count) m.none)

  after : record_of L E section insns r ≡ apply insns (index_of section r) (computed L.typ E.typ (Ok d.mine) (unless m.match.value (due L T E r)))
  after = left d E ∙ rw concludes

  before : record_of L T section insns r ≡ apply insns (index_of section r) (Ok (writing L.typ T.typ d.mine m.match.value))
  unfolding conclude
  before = left d T ∙ rw m.is

  after_none : due L T E r ≡ None → record_of L E section insns r ≡ record_of L T section insns r
  after_none h =
      let old : WorthIn T m.match.value = found-has (subst (MatchesIn T) m.is (first-in d cl)) in
      after ∙ rw (h, writing_grow ex L.typ d.mine m.match.value old) (sym before)

  after-some : (q : Refusal) → due L T E r ≡ Some q → record_of L E section insns r ≡ refuse insns q
  unfolding apply
  after-some q h = after ∙ rw h

  demand_of_match : is_refused (record_of L T section insns r).answer ≡ false → Demand3 L T E section insns r
  unfolding due harmful_ids
  demand_of_match accepted =
      let n = suc T.count in
      let k = E.count - T.count in
      record {
        kept = λ h. after_none (owed_none (gives L E r) (harmful L T E r) n k owing (λ j l u. h j (l, omega (arith, ex.more))));
        then_refused = λ i past h.
            let x = owed-some (gives L E r) (harmful L T E r) n k owing i past.0 (omega (arith, past.1, ex.more)) h in
            record {
              refusal = x.0;
              is_due = x.1;
              numbered = (owed-one (gives L E r) (harmful L T E r) n k owing x.0 x.1).1;
              outcome = after-some x.0 x.1;
            };
        only_then = λ h. only (due L T E r) refl h;
      }
    where
      only : (x : Option Refusal) → due L T E r ≡ x → is_refused (record_of L E section insns r).answer ≡ true
          → (i : ℕ) × Past T E i × (harmful L T E r i ≡ true)
      only None e h =
          absurd (cc (sym h, ap (λ (o : Outcome). is_refused o.answer) (after_none e), accepted))
      only (Some q) e h =
          let x : One (harmful L T E r) (suc T.count) (E.count - T.count) =
          (owed-one (gives L E r) (harmful L T E r) (suc T.count) (E.count - T.count) owing q (unfold due in unfold harmful_ids in e)).0 in
          (x.id, (x.low, omega (arith, x.high, ex.more)), x.holds)

-- `TypeIdLocal` looks at no target.

module _ (L T E : View) (section : ℕ) (insns : List ℕ) (r : Record) (own : eqb r.kind type_id_local ≡ true) where
  own_same : record_of L E section insns r ≡ record_of L T section insns r
  unfolding record_of relocated
  own_same = rw (go (accessed L r))
    where
      go : (x : Reply Access) → bind x (compute L E r) ≡ bind x (compute L T r)
      go (Ok a) = unfold compute in rw own
      go (Err q) = refl

  own_harmless : (i : ℕ) → harmful L T E r i ≡ false
  unfolding harmful gives
  own_harmless i = rw own (go (first_match L T r))
    where
      go : (s : Matches) → harms_first s (Ok None) ≡ false
      go (Ok None) = refl
      go (Ok (Some k)) = refl
      go (Err q) = refl

  demand_of_own : is_refused (record_of L T section insns r).answer ≡ false → Demand3 L T E section insns r
  demand_of_own accepted = record {
    kept = λ h. own_same;
    then_refused = λ i past h. absurd (cc (sym h, own_harmless i));
    only_then = λ h.
        absurd (cc (sym h, ap (λ (o : Outcome). is_refused o.answer) own_same, accepted));
  }

-- The demand, of every record that is settled
pub demand3-view : {T E : View} → Closed T → Closed E → Extends T E → (L : View) (section : ℕ) (insns : List ℕ) (r : Record)
    → Settled L T section insns r → Demand3 L T E section insns r
demand3-view {T} {E} cl cl' ex L section insns r s = go (eqb r.kind type_id_local) refl s.matched
  where
    go : (t : Bool) → eqb r.kind type_id_local ≡ t → (t || has_match (first_match L T r)) ≡ true → Demand3 L T E section insns r
    go true e h = demand_of_own L T E section insns r e s.accepted
    go false e h =
        let d : Ready L section insns r = ready L T section insns r s.accepted e in
        demand_of_match cl cl' ex d (first L T section insns r d s.accepted h) s.accepted

-- Where no id is counted as harmful, none is.
pub none-harmful : (L T E : View) (r : Record) → harmful_ids L T E r ≡ [] → (i : ℕ) → Past T E i → harmful L T E r i ≡ false
unfolding harmful_ids
none-harmful L T E r h i p = those-none-all (harmful L T E r) (suc T.count) (E.count - T.count) h i p.0 (omega (arith, p.1))
