-- A unit without faults is walked by declarations without faults; and the types of functions that are declared.
use Rattle.std.specs.Prelude.{◌≡◌, ℕ, IsTrue, None, IfSome}
use Rattle.c_tree.specs.declared.types.TypeNode.{TypeNode}
use Rattle.c_tree.specs.declared.declarations.TranslationUnit.{TranslationUnit}
use Rattle.c_typing_faults.specs.Faults.{head}
use Rattle.c_typing_definitions.specs.Definitions.{definitions}
use Rattle.c_typing_struct_bodies.specs.Bodies.{TagScope, declared_type}
use Rattle.c_types.specs.c_found_unit_laws.Externals.{externals}
use Rattle.c_types.specs.c_found_unit_laws.Units.{unit_start, faults_of}
use Rattle.c_types.specs.c_unit_walk_laws.Shapes.{is_shaped, HasShapes}
use Rattle.c_types.specs.c_unit_walk_laws.Walks.{WalkSteps}

-- from before the first declaration to behind the last one
abbrev pub UnitsAreWalked : Type 0
UnitsAreWalked =
    (unit : TranslationUnit) → head (faults_of unit) ≡ None →
    (let ds = definitions unit.externals in
    let behind = externals ds unit.externals (unit_start ds) in
    WalkSteps ds unit.externals ((unit_start ds).0, (unit_start ds).1.1) (behind.0, behind.1.1))

abbrev pub DeclaredTypesAreShaped : Type 0
DeclaredTypesAreShaped =
    (at : ℕ) (ty : TypeNode) (s : TagScope) → HasShapes s.1.0 →
    IfSome (declared_type at ty s).0 (λ of. IsTrue (is_shaped of))
