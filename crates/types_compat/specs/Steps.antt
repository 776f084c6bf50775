-- A type compatibility check, step by step (document 01, sections 2 and 5).
use Rattle.std.specs.Prelude.{ℕ, zero, suc, ◌≡◌, Err, Ok}
use Rattle.btf_kinds.specs.Types.{Ty}
use Rattle.rules.specs.Refusal.{Reply, bind}
use Rattle.rules.specs.Types.{and_then, params, types_within, Compat}
use Rattle.types_compat.specs.declared.Descent.{Descent}
use Rattle.types_compat.specs.declared.Descent.TheVariants.{Done, Down, Function}
use Rattle.rules.specs.declared.Refusal.TheVariants.{TooDeep}

-- What a step comes to, where `down` goes on to pointees, elements or return types and `param` into a parameter
abbrev pub comes_to : (ℕ → ℕ → Compat) → (ℕ → ℕ → Compat) → (ℕ → Ty) → (ℕ → Ty) → Descent → Compat
comes_to down param L T (Done fit) = Ok fit
comes_to down param L T (Down i j) = down (L i).ref (T j).ref
comes_to down param L T (Function i j) = and_then (params param (L i).entries (T j).entries) (down (L i).ref (T j).ref)

-- A step that comes to the same as something does, whatever the further steps say
abbrev pub Leads : (ℕ → Ty) → (ℕ → Ty) → Reply Descent → ((ℕ → ℕ → Compat) → (ℕ → ℕ → Compat) → Compat) → Type 0
Leads L T s what = (down param : ℕ → ℕ → Compat) → bind s (comes_to down param L T) ≡ what down param

-- A further step, with `left` more allowed, itself among them
unfoldable pub step_within : (ℕ → Ty) → (ℕ → Ty) → ℕ → ℕ → ℕ → ℕ → Compat
step_within L T zero own a b = Err TooDeep
step_within L T (suc left) own a b = types_within L T left own a b
