-- The parameters of a declarator, as a list that code sees.
use Rattle.std.specs.Prelude.{Bool, List, [], ◌∷◌}
use Rattle.c_tree.specs.declared.types.Parameter.{Parameter}
use Rattle.c_typing_state.specs.Checks.{Check, and_then}
use Rattle.c_typing_declarations.specs.Functions.{name_judged}

abbrev pub names_judged : List Parameter → (whole : Bool) → Check Bool
names_judged [] whole n = (whole, n)
names_judged (p ∷ ps) whole n = and_then (name_judged p.at p.name whole n) (λ r. names_judged ps r)
