-- Two calls whose lists have the same records in another order: they say the same and leave the same bytes.
use Prim.Native.Nat.{ℕ, suc, ◌+◌}
use mathlib.Core.Path.{◌≡◌, refl, sym, ap, ◌∙◌}
use mathlib.Core.Bool.{true, false}
use mathlib.Core.List.{List, [], ◌∷◌, ◌++◌}
use native.Mathlib.Omega.{arith}
use lib.ListN.{length, length-append}
use Rattle.btf_accept.specs.declared.Btf.{Btf}
use Rattle.btf_accept.specs.declared.Reading.{Reading}
use Rattle.btf_accept.specs.declared.Reading.TheVariants.{Read, NoBtf, TooBig, TooShort}
use Rattle.btf_accept.specs.Table.{decode}
use Rattle.btf_accept.proofs.WholeLaws.{read_accepted}
use Rattle.btf_view.specs.View.{View, doc_view}
use Rattle.rules.specs.declared.Record.{Record}
use Rattle.rules.specs.declared.Answer.{Answer}
use Rattle.rules.specs.declared.Answer.TheVariants.{Applied, Poisoned, Refused}
use Rattle.rules.specs.declared.Ending.TheVariants.{Done}
use Rattle.rules.specs.declared.Which.{Which}
use Rattle.rules.specs.declared.Which.TheVariants.{Local, Target}
use Rattle.rules.specs.Record.{record_of}
use Rattle.rules.specs.Call.{records_in, ended, end_of, Effect, run_of, shaped, read_then, relocate_of, relocate_read}
use Rattle.law_growth.specs.Demand3.{btf_in, is_refused}
use Rattle.law_growth.proofs.Proved.{btf_in_lem}
use Rattle.law_order.specs.AnyOrder.{Sortable, Reordered, alone}
use Rattle.law_order.proofs.Lists.{any_order, sortable-reordered}

-- As many records
reordered-long : (ss rs : List Record) → Reordered rs ss → length ss ≡ length rs
reordered-long [] rs o = sym (ap length o)
reordered-long (s ∷ ss) rs o =
    omega (arith, reordered-long ss (o.0 ++ o.1) o.3, length-append o.0 o.1, length-append o.0 (s ∷ o.1), ap length o.2)

end_on : (k : ℕ) (a : Answer) (more : List Answer) → is_refused a ≡ false → end_of k (a ∷ more) ≡ end_of (k + 1) more
unfolding end_of
end_on k (Applied v) more h = refl
end_on k Poisoned more h = refl
end_on k (Refused q) more h = cc

end_none : (k : ℕ) → end_of k [] ≡ ended Done (k + 0)
unfolding end_of
end_none k = let e : k + 0 ≡ k = omega arith in rw e

module _ (L T : View) (section : ℕ) (insns : List ℕ) where
  -- All of them are applied.
  end-alone : (k : ℕ) (rs : List Record) → Sortable L T section insns rs → end_of k (alone L T section insns rs) ≡ ended Done (k + length rs)
  unfolding alone
  end-alone k [] f = end_none k
  end-alone k (r ∷ rs) f =
      let e : k + 1 + length rs ≡ k + suc (length rs) = omega arith in
      end_on k (record_of L T section insns r).answer (alone L T section insns rs) f.0 ∙ end-alone (k + 1) rs f.2 ∙ rw e

  run-order : (rs ss : List ℕ) → Sortable L T section insns (records_in rs) → Reordered (records_in rs) (records_in ss)
      → run_of L T section insns ss ≡ run_of L T section insns rs
  unfolding run_of
  run-order rs ss f o =
      let x = any_order L T section insns (records_in rs) (records_in ss) f o in
      rw (
        x.answers,
        x.answers',
        x.bytes,
        end-alone 0 (records_in rs) f,
        end-alone 0 (records_in ss) (sortable-reordered L T section insns (records_in ss) (records_in rs) f o),
        reordered-long (records_in ss) (records_in rs) o,
      )

  -- On BTFs that were read before
  pub read_order : (rs ss : List ℕ) → shaped insns section rs ≡ true → shaped insns section ss ≡ true
      → Sortable L T section insns (records_in rs) → Reordered (records_in rs) (records_in ss) → relocate_read L T insns section ss ≡ relocate_read L T insns section rs
  unfolding relocate_read
  read_order rs ss p q f o = rw (p, q) (run-order rs ss f o)

-- From bytes to bytes

read_same : (w : Which) (xs : List ℕ) (x : Reading) (f g : Btf → Effect) → ((b : Btf) → Read b ≡ x → f b ≡ g b) → read_then w xs x f ≡ read_then w xs x g
read_same w xs (Read b) f g h = h b refl
read_same w xs (NoBtf i) f g h = refl
read_same w xs TooBig f g h = refl
read_same w xs (TooShort n) f g h = refl

-- Bytes that were read are held.
held : (s : List ℕ) (room : ℕ) (b : Btf) → Read b ≡ decode s room → btf_in s ≡ doc_view s b
held s room b h = btf_in_lem s b (read_accepted s room b h)

pub call-order : (l : List ℕ) (lroom : ℕ) (t : List ℕ) (troom : ℕ) (insns : List ℕ) (section : ℕ) (rs ss : List ℕ)
    → shaped insns section rs ≡ true → shaped insns section ss ≡ true
    → Sortable (btf_in l) (btf_in t) section insns (records_in rs) → Reordered (records_in rs) (records_in ss)
    → relocate_of l lroom t troom insns section ss ≡ relocate_of l lroom t troom insns section rs
unfolding relocate_of
call-order l lroom t troom insns section rs ss p q f o =
    rw (p, q)
    (read_same Local insns (decode l lroom) _ _ (λ lb e. read_same Target insns (decode t troom) _ _ (λ tb g.
    rw (← held l lroom lb e, ← held t troom tb g) (run-order (btf_in l) (btf_in t) section insns rs ss f o))))
