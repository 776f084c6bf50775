-- Laws of rules' Value: a grown target has at old ids the values that it had (`x_grow`), and the type that a value is
-- compared by is at most the last (`x-in`).
use Prim.Native.Nat.{ℕ, ◌≤◌}
use mathlib.Core.Path.{◌≡◌, refl, subst}
use mathlib.Core.Bool.{Bool, true, false, cond}
use lib.Dec.{leb, eqb}
use Rattle.btf_kinds.specs.Types.{Ty}
use Rattle.btf_view.specs.View.{View}
use Rattle.btf_view.proofs.Extends.{Closed, Extends}
use Rattle.rules.specs.declared.Accessor.{Accessor}
use Rattle.rules.specs.declared.Value.{Value}
use Rattle.rules.specs.declared.Load.{Load}
use Rattle.rules.specs.Kinds.{field_byte_offset, field_byte_size, field_exists, field_signed, field_lshift, type_id_target, type_exists}
use Rattle.rules.specs.Fields.{bitfield_size, nth_entry}
use Rattle.rules.specs.Refusal.{Reply, bind}
use Rattle.rules.specs.Types.{resolve, size_of, sized, own_size}
use Rattle.rules.specs.Value.{plain, end_from, bitfield, plain_load, shift, load_value, plain_value, bitfield_value, member_value, element_value}
use Rattle.rules.specs.Value.{field_value, type_value}
use Rattle.rules.specs.Matching.{perhaps}
use Rattle.law_growth.proofs.Replies.{Fine, found, found-has, cond-in, sized-in, bind-same}
use Rattle.law_growth.proofs.Types.{Low, entry-low, resolve-low, resolve_grow, size_grow}
use Rattle.rules.specs.declared.Unsized.{Unsized}
use Rattle.std.specs.Prelude.{Err, None, Ok, Option, Result, Some}

-- Agreement

module _ {T E : View} (cl : Closed T) (ex : Extends T E) where
  member_value_grow : (k bits w j : ℕ) → j ≤ T.count → member_value E.typ k bits w j ≡ member_value T.typ k bits w j
  unfolding member_value
  member_value_grow k bits w j h = rw (ex.typ j h, size_grow cl ex j h)

  element_value_grow : (k bits j : ℕ) → j ≤ T.count → element_value E.typ k bits j ≡ element_value T.typ k bits j
  unfolding element_value
  element_value_grow k bits j h = rw (size_grow cl ex j h)

  pub field_value_grow : (k : ℕ) (a : Accessor) (bits : ℕ) → a.typ ≤ T.count → field_value E.typ k a bits ≡ field_value T.typ k a bits
  unfolding field_value
  field_value_grow k a bits h =
      let t = T.typ a.typ in
      let m = nth_entry t a.index in
      let low = entry-low T.count T.room t.entries (cl.entries a.typ) a.index in
      rw (
        ex.typ a.typ h,
        resolve_grow cl ex m.typ low,
        element_value_grow k bits a.typ h,
        bind-same {f = member_value E.typ k bits (bitfield_size t m)} {g = member_value T.typ k bits (bitfield_size t m)} (resolve-low cl m.typ low)
            (member_value_grow k bits (bitfield_size t m)),
      )

  pub type_value_grow : (k i : ℕ) → i ≤ T.count → type_value E.typ k i ≡ type_value T.typ k i
  unfolding type_value
  type_value_grow k i h = rw (size_grow cl ex i h)

-- The type of a value

-- It is an id of the view, where there is one.
abbrev pub TypingIn : View → Option ℕ → Type 0
TypingIn T None = Unit {0}
TypingIn T (Some j) = j ≤ T.count

abbrev pub WorthIn : View → Option Value → Type 0
WorthIn T None = Unit {0}
WorthIn T (Some v) = TypingIn T v.typ

-- Of a value that is not there nothing is said.
abbrev pub ReplyIn : View → Reply Value → Type 0
ReplyIn T x = WorthIn T (perhaps x)

module _ (T : View) where
  either : (b : Bool) (x y : Reply Value) → ReplyIn T x → ReplyIn T y → ReplyIn T (cond b x y)
  either true x y p q = p
  either false x y p q = q

  size-in : (x : Result ℕ Unsized) (f : ℕ → Reply Value) → ((n : ℕ) → ReplyIn T (f n)) → ReplyIn T (sized x f)
  size-in (Ok n) f h = h n
  size-in (Err z) f h = tt

  stage-in : {A : Type 0} (x : Reply A) (f : A → Reply Value) → ((a : A) → x ≡ Ok a → ReplyIn T (f a)) → ReplyIn T (bind x f)
  stage-in (Ok a) f h = h a refl
  stage-in (Err q) f h = tt

  shift_in : (n : ℕ) → ReplyIn T (shift n)
  shift_in n = either (leb n 64) _ _ tt tt

  load-in : (k bits : ℕ) (t : Ty) (l : Load) (offset : Value) → TypingIn T offset.typ → ReplyIn T (load_value k bits t l offset)
  unfolding load_value
  load-in k bits t l offset h =
      either (eqb k field_byte_offset) _ _ h (either (eqb k field_byte_size) _ _ tt
      (either (eqb k field_signed) _ _ tt (either (eqb k field_lshift) _ _ (shift_in (end_from l.offset bits l.width)) (shift_in l.width))))

  member-in : (k bits w j : ℕ) → j ≤ T.count → ReplyIn T (member_value T.typ k bits w j)
  unfolding member_value plain_value bitfield_value
  member-in k bits w j h =
      either (eqb w 0) _ _ (size-in (size_of T.typ j) _ (λ s. load-in k bits (T.typ j) (plain_load bits s) _ h))
      (stage-in (bitfield bits w (own_size (T.typ j))) _ (λ l e. load-in k bits (T.typ j) l (plain l.offset) tt))

  element-in : (k bits j : ℕ) → j ≤ T.count → ReplyIn T (element_value T.typ k bits j)
  unfolding element_value
  element-in k bits j h =
      either (eqb k field_byte_offset) _ _ (size-in (size_of T.typ j) _ (λ s. h))
      (either (eqb k field_byte_size) _ _ (size-in (size_of T.typ j) _ (λ s. tt)) tt)

module _ {T : View} (cl : Closed T) where
  pub field_value-in : (k : ℕ) (a : Accessor) (bits : ℕ) → a.typ ≤ T.count → ReplyIn T (field_value T.typ k a bits)
  unfolding field_value
  field_value-in k a bits h =
      let t = T.typ a.typ in
      let m = nth_entry t a.index in
      let low = entry-low T.count T.room t.entries (cl.entries a.typ) a.index in
      either T (eqb k field_exists) _ _ tt (either T a.named _ _
      (stage-in T (resolve T.typ m.typ) _ (λ j e. member-in T k bits (bitfield_size t m) j (found-has (subst (Low T) e (resolve-low cl m.typ low)))))
      (element-in T k bits a.typ h))

-- A type as a whole has a plain value, or no size.
pub type_value-in : (T : View) (k i : ℕ) → Fine (λ v. TypingIn T v.typ) (type_value T.typ k i)
unfolding type_value
type_value-in T k i = cond-in (eqb k type_id_target) (found tt) (cond-in (eqb k type_exists) (found tt) (sized-in (size_of T.typ i) (λ n. found tt)))
