-- What a call says and leaves, as the rules' effect.
use Rattle.std.specs.Prelude.{ℕ, List}
use Rattle.rules.specs.declared.Said.{Said}
use Rattle.rules.specs.Call.{Effect}

-- What is said and the instructions left make
abbrev pub effect_of : Said → List ℕ → Effect
effect_of s xs = record { said = s; insns = xs }
