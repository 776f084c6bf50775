-- What a list by value means.
use Rattle.std.specs.Prelude.{List, take}
use Rattle.access_text.specs.declared.Few.{Few}

-- The first `count` items of the table
abbrev pub items_of : {A : Type 0} → Few A → List A
items_of f = take f.count f.items
