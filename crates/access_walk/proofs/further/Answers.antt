-- `access_walk::further` meets its contract.
use mathlib.Core.Path.{◌≡◌, refl, ◌∙◌}
use mathlib.Core.List.{[], ◌∷◌, ◌++◌}
use native.Mathlib.Omega.{arith}
use lib.Seq.{take_all}
use Rattle.std.proofs.lemmas.List.{length_push}
use Rattle.access_text.specs.Few.{items_of}
use Rattle.access_walk.proofs.further.Goals as goal

pub returns-in-Some : goal.returns-in-Some
returns-in-Some c =
    let path = items_of c.args.walk.now.path in
    let a = c.in-Some.accessor in
    let e : items_of c.push.new.self ≡ path ++ a ∷ [] = c.push.ensures ∙ take_all 64 (path ++ a ∷ []) (omega (arith, length_push path a, c.requires)) in
    rw (e, c.in-Some.is) refl
