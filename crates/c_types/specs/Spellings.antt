-- What the tree of a text gives besides: identifiers as the names of functions, and literals of bytes (C99 6.4.2.1,
-- 6.4.5).
use Rattle.std.specs.Prelude.{IsTrue, All}
use Rattle.c_tree.specs.declared.declarations.Init.{Init}
use Rattle.c_tree.specs.declared.declarations.TranslationUnit.{TranslationUnit}
use Rattle.c_typed_tree.specs.Lawful.{is_identifier}
use Rattle.c_types.specs.c_typed_unit_laws.FunctionNames.{passes}
use Rattle.c_types.specs.c_typed_unit_laws.Initialisers.{HoldsBytes}
use Rattle.c_types.specs.c_typed_unit_laws.Walks.{IsInitialiserIn}

-- the name of each function that is defined is an identifier, and the literals in initialisers hold bytes
pub record HasSpellings (unit : TranslationUnit) : Type 0 where
  pub names : All (λ e. IsTrue (passes is_identifier e)) unit.externals
  pub initialisers : (x : Init) → IsInitialiserIn x unit.externals → HoldsBytes x
