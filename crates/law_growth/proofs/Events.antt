-- Laws of what a type gives a record (rules' Matching and Record): a grown target's old types give what they gave
-- (`x_grow`); where the local value is there, a refusal is one that a candidate causes, and a match's value is compared by a
-- type of the view (`x-in`).
use Prim.Native.Nat.{ℕ, zero, suc, ◌+◌, ◌≤◌, ◌<◌}
use mathlib.Core.Path.{◌≡◌, refl}
use mathlib.Core.Bool.{Bool, true, false, cond}
use mathlib.Core.List.{List, [], ◌∷◌}
use native.Mathlib.Omega.{arith}
use Rattle.btf_kinds.specs.declared.Entry.{Entry}
use Rattle.btf_kinds.specs.Types.{Ty}
use Rattle.btf_view.specs.View.{View}
use Rattle.btf_view.proofs.Extends.{Inside, Closed, Extends}
use Rattle.rules.specs.declared.Value.{Value}
use Rattle.rules.specs.declared.Match.{Match}
use Rattle.rules.specs.declared.Kept.{Kept}
use Rattle.rules.specs.declared.Record.{Record}
use Rattle.rules.specs.Kinds.{is_enum}
use Rattle.rules.specs.Refusal.{Reply}
use Rattle.rules.specs.Types.{resolve, types_compatible}
use Rattle.rules.specs.Access.{Access, whole, variant, path}
use Rattle.rules.specs.Value.{type_value}
use Rattle.rules.specs.Matching.{is_candidate, type_event, variant_named, variant_event, enum_event, enum_event_at, field_match, field_event, event}
use Rattle.rules.specs.Matching.{Search, Event}
use Rattle.rules.specs.Record.{agrees, keep, turn, over, event_at, Matches}
use Rattle.law_growth.proofs.Replies.{Fine, found, caused, found-has, refused-causes, cond-in, bind-in, bind-same}
use Rattle.law_growth.proofs.Types.{resolve-low, resolve_grow, types-caused, types_grow}
use Rattle.law_growth.proofs.Values.{WorthIn, field_value-in, field_value_grow, type_value-in, type_value_grow}
use Rattle.law_growth.proofs.Matching.{In, field_match-in, field_match_grow}
use Rattle.std.specs.Prelude.{Err, None, Ok, Option, Some}

-- Agreement

module _ {T E : View} (cl : Closed T) (ex : Extends T E) where
  variant_grow : (name : List ℕ) (es : List Entry) → Inside T.count T.room es → variant_named E.text name es ≡ variant_named T.text name es
  unfolding variant_named
  variant_grow name [] l = refl
  variant_grow name (e ∷ es) l = rw (ex.text e.name l.0, variant_grow name es l.2)

  enum_grow : (k : ℕ) (name : List ℕ) (i : ℕ) → i ≤ T.count → enum_event_at E k name (resolve E.typ i) ≡ enum_event_at T k name (resolve T.typ i)
  unfolding enum_event
  enum_grow k name i h =
      rw (resolve_grow cl ex i h) (bind-same (resolve-low cl i h) (λ j l. rw (ex.typ j l, variant_grow name (T.typ j).entries (cl.entries j))))

  field_event_grow : (k : ℕ) (mine : Reply Value) (x : Search) → In T x → field_event E.typ k mine x ≡ field_event T.typ k mine x
  field_event_grow k mine (Ok (Some s)) h = rw (field_value_grow cl ex k s.last s.bits (found-has h).1)
  field_event_grow k mine (Ok None) h = refl
  field_event_grow k mine (Err q) h = refl

  event_grow : (L : View) (k id : ℕ) (a : Access) (mine : Reply Value) (i : ℕ) → i ≤ T.count → event L E k id a mine i ≡ event L T k id a mine i
  unfolding event
  event_grow L k id whole mine i h = rw (types_grow cl ex L.typ id i h, type_value_grow cl ex k i h)
  event_grow L k id (variant e x) mine i h = enum_grow k _ i h
  event_grow L k id (path steps bits) mine i h =
      rw (field_match_grow cl ex L steps i h) (field_event_grow k mine (field_match L T steps i) (field_match-in cl L steps i h))

  -- What an old id gives is what it gave.
  pub event_at_grow : (L : View) (r : Record) (a : Access) (mine : Reply Value) (i : ℕ) → i ≤ T.count → event_at L E r a mine i ≡ event_at L T r a mine i
  unfolding event_at
  event_at_grow L r a mine i h = rw (ex.typ i h, ex.text (T.typ i).name (cl.name i), event_grow L r.kind r.typ a mine i h)

-- What a type gives

abbrev pub MatchIn : View → Option Match → Type 0
MatchIn T None = Unit {0}
MatchIn T (Some m) = WorthIn T m.value

abbrev pub EventIn : View → Event → Type 0
EventIn T x = Fine (MatchIn T) x

abbrev pub KeptIn : View → Option Kept → Type 0
KeptIn T None = Unit {0}
KeptIn T (Some k) = WorthIn T k.first.value

abbrev pub MatchesIn : View → Matches → Type 0
MatchesIn T x = Fine (KeptIn T) x

module _ (T : View) where
  type_event-in : (L : ℕ → Ty) (k id i : ℕ) → EventIn T (type_event (types_compatible L T.typ id i) (type_value T.typ k i))
  type_event-in L k id i =
      bind-in (types-caused L T.typ id i) (λ b u. cond-in b (bind-in (type_value-in T k i) (λ v h. found h)) (found tt))

  variant_event-in : (k : ℕ) (t : Ty) (x : Option Entry) → EventIn T (variant_event k t x)
  variant_event-in k t None = found tt
  variant_event-in k t (Some e) = found tt

  -- The fold keeps what it is given.
  keep-in : (kept : Option Kept) (i : ℕ) (m : Match) → KeptIn T kept → WorthIn T m.value → KeptIn T (Some (keep kept i m))
  keep-in None i m p h = h
  keep-in (Some k) i m p h = go (agrees k.first m) _ _
    where
      go : (t : Bool) (c n : ℕ) → WorthIn T (cond t k (record { first = k.first; conflict = c; count = n })).first.value
      go true c n = p
      go false c n = p

  turn_in : (s : Matches) (i : ℕ) (e : Event) → MatchesIn T s → EventIn T e → MatchesIn T (turn s i e)
  unfolding turn
  turn_in (Err q) i e p h = p
  turn_in (Ok kept) i (Ok None) p h = p
  turn_in (Ok kept) i (Ok (Some m)) p h = found (keep-in kept i m (found-has p) (found-has h))
  turn_in (Ok kept) i (Err q) p h = caused (refused-causes h)

  pub over-in : (f : ℕ → Event) (s : Matches) (i n : ℕ) → MatchesIn T s → ((j : ℕ) → j < i + n → EventIn T (f j)) → MatchesIn T (over f s i n)
  unfolding over
  over-in f s i zero h g = h
  over-in f s i (suc n) h g = over-in f (turn s i (f i)) (suc i) n (turn_in s i (f i) h (g i (omega arith))) (λ j l. g j (omega arith))

module _ {T : View} (cl : Closed T) (L : View) (m : Value) where
  field_event-in : (k : ℕ) (x : Search) → In T x → EventIn T (field_event T.typ k (Ok m) x)
  field_event-in k (Ok (Some s)) h = found (field_value-in cl k s.last s.bits (found-has h).1)
  field_event-in k (Ok None) h = found tt
  field_event-in k (Err q) h = caused (refused-causes h)

  event_in : (k id : ℕ) (a : Access) (i : ℕ) → i ≤ T.count → EventIn T (event L T k id a (Ok m) i)
  unfolding event enum_event
  event_in k id whole i h = type_event-in T L.typ k id i
  event_in k id (variant e x) i h = bind-in (resolve-low cl i h) (λ j l. cond-in (is_enum (T.typ j).kind) (variant_event-in T k (T.typ j) _) (found tt))
  event_in k id (path steps bits) i h = field_event-in k (field_match L T steps i) (field_match-in cl L steps i h)

  -- A local failure is not met where the local value is there.
  pub event_at-in : (r : Record) (a : Access) (i : ℕ) → i ≤ T.count → EventIn T (event_at L T r a (Ok m) i)
  unfolding event_at
  event_at-in r a i h = cond-in (is_candidate (L.typ r.typ) _ (T.typ i) _) (event_in r.kind r.typ a i h) (found tt)
