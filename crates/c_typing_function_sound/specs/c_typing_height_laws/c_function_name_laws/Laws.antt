-- The functions that are made of a unit have the names of its definitions.
use Rattle.std.specs.Prelude.{ℕ, Bool, true, IsTrue, List, All}
use Rattle.c_tree.specs.declared.declarations.FunctionEnd.TheVariants.{Body}
use Rattle.c_tree.specs.declared.declarations.External.{External}
use Rattle.c_tree.specs.declared.declarations.External.TheVariants.{Function}
use Rattle.c_tree.specs.declared.declarations.TranslationUnit.{TranslationUnit}
use Rattle.c_typing_units.specs.Units.{whole_unit}

-- where it is a definition of a function, its name passes a test
abbrev pub passes : (test : List ℕ → Bool) → External → Bool
passes test (Function d storage (Body list)) = test d.name
passes test _ = true

-- whatever the names of all definitions pass, the names of all functions pass
abbrev pub FunctionsHaveDeclaredNames : Type 0
FunctionsHaveDeclaredNames =
    (test : List ℕ → Bool) (tree : TranslationUnit) → All (λ e. IsTrue (passes test e)) tree.externals →
    All (λ f. IsTrue (test f.function.name)) (whole_unit tree).0.functions
