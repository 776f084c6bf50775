-- What the code's answers say, in the words of the rules.
use Rattle.std.specs.Prelude.{Result, Err, Ok}
use Rattle.rules.specs.declared.Refusal.{Refusal}
use Rattle.rules.specs.Refusal.{Reply}
use Rattle.rules.specs.Access as A
use Rattle.access_text.specs.Few.{items_of}
use Rattle.access_walk.specs.declared.Walk.{Walk}
use Rattle.access_walk.specs.declared.Access.{Access}
use Rattle.access_walk.specs.declared.Access.TheVariants.{Whole, Variant, Path}

-- A walk
abbrev pub walk_of : Walk → A.Walk
walk_of w = record { typ = w.typ; path = items_of w.path; bits = w.bits }

-- What was accessed
abbrev pub access_in : Access → A.Access
access_in Whole = A.whole
access_in (Variant i k) = A.variant i k
access_in (Path steps bits) = A.path (items_of steps) bits

abbrev pub access_of : Result Access Refusal → Reply A.Access
access_of (Ok a) = Ok (access_in a)
access_of (Err r) = Err r
