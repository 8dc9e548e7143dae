-- A unit without faults is walked by declarations without faults.
use Rattle.std.proofs.Common.{◌≡◌, ℕ, List, [], refl}
use Rattle.std.proofs.lemmas.List.Elements.{All-nil}
use Rattle.c_tree.specs.declared.declarations.TranslationUnit.{TranslationUnit}
use Rattle.c_typed_tree.specs.declared.types.CType.{CType}
use Rattle.c_typed_tree.specs.declared.expressions.Callee.{Callee}
use Rattle.c_typed_tree.specs.Lawful.{IsLawfulStruct}
use Rattle.c_typing_definitions.specs.declared.names.Definitions.{Definitions}
use Rattle.c_typing_definitions.specs.Definitions.{nothing_defined, definitions}
use Rattle.c_typing_state.specs.declared.env.Env.{Env}
use Rattle.c_typing_state.specs.Scopes.{with_meaning}
use Rattle.c_typing_state.specs.declared.meanings.NameMeaning.TheVariants as m
use Rattle.c_types.specs.c_unit_struct_laws.Notes.{IsWellDeclared}
use Rattle.c_types.specs.c_found_unit_laws.Externals.{externals}
use Rattle.c_types.specs.c_found_unit_laws.Builtins.{builtins}
use Rattle.c_types.specs.c_found_unit_laws.Units.{unit_start, whole_unit}
use Rattle.c_types.proofs.CFoundUnitLaws.Units.{clean_unit}
use Rattle.c_types.specs.c_unit_walk_laws.Shapes.{HasShapes}
use Rattle.c_types.specs.c_unit_walk_laws.Walks.{WalkSteps}
use Rattle.c_types.proofs.CUnitWalkLaws.Counted.{all_counted, every_listed}
use Rattle.c_types.proofs.CUnitWalkLaws.Shapes.{shapes_after}
use Rattle.c_types.proofs.CUnitWalkLaws.Externals.{IsGood, externals_tell}

no_shapes : HasShapes (record { names = []; outside = 0 })
no_shapes name ty e = let clash : ⊥ = cc in absurd clash

record AreShaped (env : Env) : Type 0 where
  shapes : HasShapes env

builtin_shaped : (name : List ℕ) (callee : Callee) (of : CType) (tys : List CType) (env : Env) → AreShaped env → AreShaped (with_meaning name (m.Function callee of tys) env)
builtin_shaped name callee of tys env h = record { shapes = shapes_after name (m.Function callee of tys) env (λ ty e. let clash : ⊥ = cc in absurd clash) h.shapes }

all_shaped : AreShaped builtins.1
all_shaped =
    builtin_shaped _ _ _ _ _ (builtin_shaped _ _ _ _ _ (builtin_shaped _ _ _ _ _ (builtin_shaped _ _ _ _ _ (record { shapes = no_shapes }))))

pub start_shapes : (ds : Definitions) → HasShapes (unit_start ds).1.1.0
start_shapes ds = all_shaped.shapes

pub start_declared : (ds : Definitions) → IsWellDeclared (unit_start ds).1.1
start_declared ds = record {
  noted = record { structs = All-nil (IsLawfulStruct []); tags = tt; untagged = tt };
  typedefs = (tt, (tt, (tt, (tt, tt))));
}

start_good : (ds : Definitions) → IsGood (unit_start ds).1.1
start_good ds = record { outside = refl; declared = start_declared ds; shapes = start_shapes ds }

pub unit_walk : (unit : TranslationUnit) → (whole_unit unit).1.1.1.faults ≡ []
    → (let ds = definitions unit.externals in let behind = externals ds unit.externals (unit_start ds) in WalkSteps ds unit.externals ((unit_start ds).0, (unit_start ds).1.1) (behind.0, behind.1.1))
unit_walk unit e =
    let ds = definitions unit.externals in
    (externals_tell ds unit.externals unit.externals (all_counted unit.externals nothing_defined) (every_listed unit.externals) (unit_start ds)).found (clean_unit unit e) (refl, refl) (start_good ds)
