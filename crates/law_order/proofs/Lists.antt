-- A list in any order: proved.
use Prim.Native.Nat.{ℕ}
use mathlib.Core.Path.{◌≡◌, refl, sym, ap, ◌∙◌, subst}
use mathlib.Core.Bool.{false}
use mathlib.Core.List.{List, [], ◌∷◌, ◌++◌}
use Rattle.btf_view.specs.View.{View}
use Rattle.rules.specs.declared.Record.{Record}
use Rattle.rules.specs.declared.Answer.{Answer}
use Rattle.rules.specs.declared.Answer.TheVariants.{Applied, Poisoned, Refused}
use Rattle.rules.specs.Record.{record_of}
use Rattle.rules.specs.List.{Run, before, follow, list_of}
use Rattle.law_growth.specs.Demand3.{is_refused}
use Rattle.law_order.specs.AnyOrder.{NoCommon, IsAccepted, ApartFrom, Sortable, Reordered, alone, AnyOrder}
use Rattle.law_order.proofs.Two.{no_common_sym, either_order, touches-kept}

follow-on : (a : Answer) (xs : List ℕ) (f : List ℕ → Run) → is_refused a ≡ false → follow a xs f ≡ before a (f xs)
follow-on (Applied v) xs f h = refl
follow-on Poisoned xs f h = refl
follow-on (Refused q) xs f h = cc

module _ (L T : View) (section : ℕ) where
  -- The instructions after some records, none of them refused
  unfoldable pub final : List ℕ → List Record → List ℕ
  final insns [] = insns
  final insns (r ∷ rs) = final (record_of L T section insns r).insns rs

  -- One record done: the others are as they were.
  module _ (insns : List ℕ) (r : Record) (p : IsAccepted L T section insns r) where
    abbrev ys : List ℕ
    ys = (record_of L T section insns r).insns

    accepted-kept : (s : Record) → NoCommon section insns r s → IsAccepted L T section insns s → IsAccepted L T section ys s
    accepted-kept s n q = ap is_refused (either_order L T section insns r s p q n).second ∙ q

    apart-kept : (s : Record) → NoCommon section insns r s → IsAccepted L T section insns s → (rs : List Record) → ApartFrom section insns r rs
        → Sortable L T section insns rs → ApartFrom section insns s rs → ApartFrom section ys s rs
    apart-kept s n q [] a f h = tt
    apart-kept s n q (t ∷ rs) a f h = (
      λ k g. touches-kept L T section insns r t p f.0 a.0 k ∙ h.0 k (sym (touches-kept L T section insns r s p q n k) ∙ g),
      apart-kept s n q rs a.1 f.2 h.1,
    )

    sortable-kept : (rs : List Record) → ApartFrom section insns r rs → Sortable L T section insns rs → Sortable L T section ys rs
    sortable-kept [] a f = tt
    sortable-kept (s ∷ rs) a f = (accepted-kept s a.0 f.0, apart-kept s a.0 f.0 rs a.1 f.2 f.1, sortable-kept rs a.1 f.2)

    alone-kept : (rs : List Record) → ApartFrom section insns r rs → Sortable L T section insns rs → alone L T section ys rs ≡ alone L T section insns rs
    unfolding alone
    alone-kept [] a f = refl
    alone-kept (s ∷ rs) a f = rw ((either_order L T section insns r s p f.0 a.0).second, alone-kept rs a.1 f.2)

  -- A run of such a list: each is answered as alone.
  pub run : (rs : List Record) (insns : List ℕ) → Sortable L T section insns rs
      → list_of L T section insns rs ≡ record { answers = alone L T section insns rs; insns = final insns rs }
  unfolding list_of alone final
  run [] insns f = refl
  run (r ∷ rs) insns f =
      let one = record_of L T section insns r in
      follow-on one.answer one.insns (λ xs. list_of L T section xs rs) f.0
      ∙ ap (before one.answer) (run rs one.insns (sortable-kept insns r f.0 rs f.1 f.2))
      ∙ rw (alone-kept insns r f.0 rs f.1 f.2)

  -- A record out of the middle, first

  module _ (insns : List ℕ) (r : Record) (back : List Record) where
    apart-pick : (s : Record) (front : List Record) → ApartFrom section insns s (front ++ (r ∷ back)) → NoCommon section insns s r × ApartFrom section insns s (front ++ back)
    apart-pick s [] a = (a.0, a.1)
    apart-pick s (f ∷ front) a = ((apart-pick s front a.1).0, (a.0, (apart-pick s front a.1).1))

    pick : (front : List Record) → Sortable L T section insns (front ++ (r ∷ back)) → Sortable L T section insns (r ∷ (front ++ back))
    pick [] f = f
    pick (g ∷ front) f =
        let rest = pick front f.2 in
        let ga = apart-pick g front f.1 in
        (rest.0, (no_common_sym section insns g r ga.0, rest.1), (f.0, ga.1, rest.2))

  move : (front : List Record) (r : Record) (back : List Record) (insns : List ℕ) → Sortable L T section insns (front ++ (r ∷ back))
      → final insns (front ++ (r ∷ back)) ≡ final insns (r ∷ (front ++ back))
  unfolding final
  move [] r back insns f = refl
  move (g ∷ front) r back insns f =
      let rest = pick insns r back front f.2 in
      move front r back (record_of L T section insns g).insns (sortable-kept insns g f.0 (front ++ (r ∷ back)) f.1 f.2)
      ∙ ap (λ (xs : List ℕ). final xs (front ++ back)) (either_order L T section insns g r f.0 rest.0 (apart-pick insns r back g front f.1).0).bytes

  -- Any reordering

  apart-reordered : (insns : List ℕ) (r : Record) (ss rs : List Record) → ApartFrom section insns r rs → Reordered rs ss → ApartFrom section insns r ss
  apart-reordered insns r [] rs a o = tt
  apart-reordered insns r (s ∷ ss) rs a o =
      let x = apart-pick insns s o.1 r o.0 (subst (ApartFrom section insns r) o.2 a) in
      (x.0, apart-reordered insns r ss (o.0 ++ o.1) x.1 o.3)

  pub sortable-reordered : (insns : List ℕ) (ss rs : List Record) → Sortable L T section insns rs → Reordered rs ss → Sortable L T section insns ss
  sortable-reordered insns [] rs f o = tt
  sortable-reordered insns (s ∷ ss) rs f o =
      let x = pick insns s o.1 o.0 (subst (Sortable L T section insns) o.2 f) in
      (x.0, apart-reordered insns s ss (o.0 ++ o.1) x.1 o.3, sortable-reordered insns ss (o.0 ++ o.1) x.2 o.3)

  final-reordered : (ss rs : List Record) (insns : List ℕ) → Sortable L T section insns rs → Reordered rs ss → final insns ss ≡ final insns rs
  unfolding final
  final-reordered [] rs insns f o = rw o
  final-reordered (s ∷ ss) rs insns f o =
      let g = subst (Sortable L T section insns) o.2 f in
      let x = pick insns s o.1 o.0 g in
      final-reordered ss (o.0 ++ o.1) (record_of L T section insns s).insns (sortable-kept insns s x.0 (o.0 ++ o.1) x.1 x.2) o.3
      ∙ sym (move o.0 s o.1 insns g) ∙ ap (final insns) (sym o.2)

  -- The list in any order
  pub any_order : (insns : List ℕ) (rs ss : List Record) → Sortable L T section insns rs → Reordered rs ss → AnyOrder L T section insns rs ss
  any_order insns rs ss f o =
      let g = sortable-reordered insns ss rs f o in
      record {
        answers = ap (λ (x : Run). x.answers) (run rs insns f);
        answers' = ap (λ (x : Run). x.answers) (run ss insns g);
        bytes = ap (λ (x : Run). x.insns) (run ss insns g) ∙ final-reordered ss rs insns f o ∙ sym (ap (λ (x : Run). x.insns) (run rs insns f));
      }
