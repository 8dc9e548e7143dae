-- What is declared in a unit is found, unless something is noted; and what a unit without faults has then.
use Rattle.std.specs.Prelude.{◌≡◌, ℕ, ◌<◌, ◌==◌, Bool, IsTrue, List, Option, None}
use Rattle.std.specs.List.{list_any}
use Rattle.c_tree.specs.declared.types.TypeNode.{TypeNode}
use Rattle.c_tree.specs.declared.declarations.TranslationUnit.{TranslationUnit}
use Rattle.c_typing_faults.specs.Faults.{head}
use Rattle.c_typing_definitions.specs.Definitions.{definitions}
use Rattle.c_typing_struct_bodies.specs.Bodies.{TagScope, declared_type}
use Rattle.c_typing_declarations.specs.declared.walk.UnitFunction.{UnitFunction}
use Rattle.c_typing_units.specs.Units.{unit_start, whole_unit, faults_of}
use Rattle.c_typing_expression_sound.specs.c_found_laws.Laws.{Tells, IsFound}
use Rattle.c_types.specs.c_found_unit_laws.Steps.{UnitSteps}

-- the type of a declaration with the bodies in it
abbrev pub DeclaredTypesAreFound : Type 0
DeclaredTypesAreFound =
    (at : ℕ) (ty : TypeNode) (s : TagScope) → Tells (IsFound (declared_type at ty s).0) s.1 (declared_type at ty s).1.1

-- a unit without faults takes the steps of declarations without faults
abbrev pub UnitsTakeSteps : Type 0
UnitsTakeSteps =
    (unit : TranslationUnit) → head (faults_of unit) ≡ None →
    UnitSteps (definitions unit.externals) (unit_start (definitions unit.externals)).0
    (unit_start (definitions unit.externals)).1.1.0
    (whole_unit unit).0 (whole_unit unit).1.1.0

-- the tree of the function with a number was kept
abbrev pub is_tree_kept : List UnitFunction → ℕ → Bool
is_tree_kept fs k = list_any (λ (f : UnitFunction). f.number == k) fs

-- each function that has a number has a tree
abbrev pub FunctionsAreKept : Type 0
FunctionsAreKept =
    (unit : TranslationUnit) → head (faults_of unit) ≡ None → (k : ℕ) → k < (whole_unit unit).0.names.functions →
    IsTrue (is_tree_kept (whole_unit unit).0.functions k)
