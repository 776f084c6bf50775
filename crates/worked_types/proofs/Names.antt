-- Names and flavours, worked (document 01, section 5). 95 is the underscore, 97 to 99 are `a` to `c`.
use mathlib.Core.Path.{◌≡◌, refl}
use mathlib.Core.Bool.{true, false}
use mathlib.Core.List.{[], ◌∷◌}
use Rattle.rules.specs.Types.{same_text, flavourless, same_flavourless}

-- `ab___c` is `ab`, `ab__c` is itself, `___a` is nothing, `a____b` is `a`.
pub cut : (flavourless (97 ∷ 98 ∷ 95 ∷ 95 ∷ 95 ∷ 99 ∷ []) ≡ 97 ∷ 98 ∷ []) × (flavourless (97 ∷ 98 ∷ 95 ∷ 95 ∷ 99 ∷ []) ≡ 97 ∷ 98 ∷ 95 ∷ 95 ∷ 99 ∷ [])
    × (flavourless (95 ∷ 95 ∷ 95 ∷ 97 ∷ []) ≡ []) × (flavourless (97 ∷ 95 ∷ 95 ∷ 95 ∷ 95 ∷ 98 ∷ []) ≡ 97 ∷ [])
unfolding flavourless
cut = (refl, refl, refl, refl)

-- `ab___c` and `ab` are the same but for flavours, `ab` and `a` are not, nor `a_` and `a`; a name that begins with `___` is the same as none.
pub alike : (same_flavourless (97 ∷ 98 ∷ 95 ∷ 95 ∷ 95 ∷ 99 ∷ []) (97 ∷ 98 ∷ []) ≡ true) × (same_flavourless (97 ∷ 98 ∷ []) (97 ∷ []) ≡ false)
    × (same_flavourless (97 ∷ 95 ∷ []) (97 ∷ []) ≡ false) × (same_flavourless (95 ∷ 95 ∷ 95 ∷ 97 ∷ []) [] ≡ true)
unfolding flavourless same_text
alike = (refl, refl, refl, refl)
