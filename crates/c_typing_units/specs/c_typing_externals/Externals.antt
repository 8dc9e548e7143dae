-- Each declaration at file scope: its type with the bodies in it, whether that may be declared, its name, and what
-- initialises it, or its body (C99 6.7, 6.9).
use Rattle.std.specs.Prelude.{ℕ, true, false, List, [], ◌∷◌, Option, Some, None}
use Rattle.std.specs.Option.{option_map}
use Rattle.c_tree.specs.declared.types.Declaration.{Declaration}
use Rattle.c_tree.specs.declared.types.TypeNode.{TypeNode}
use Rattle.c_tree.specs.declared.statements.Stmt.{Stmt}
use Rattle.c_tree.specs.declared.declarations.Init.{Init}
use Rattle.c_tree.specs.declared.declarations.Storage.{Storage}
use Rattle.c_tree.specs.declared.declarations.FunctionEnd.{FunctionEnd}
use Rattle.c_tree.specs.declared.declarations.FunctionEnd.TheVariants as f
use Rattle.c_tree.specs.declared.declarations.External.{External}
use Rattle.c_tree.specs.declared.declarations.External.TheVariants as x
use Rattle.c_typing_rules.specs.declared.c_typing_declared_types.declared.DeclaredType.{DeclaredType}
use Rattle.c_typing_rules.specs.declared.c_typing_declared_types.declared.DeclaredType.TheVariants as d
use Rattle.c_typed_tree.specs.declared.types.CType.{CType}
use Rattle.c_typing_definitions.specs.declared.names.Definitions.{Definitions}
use Rattle.c_typing_state.specs.Checks.{each}
use Rattle.c_typing_judgements.specs.Types.{JudgementState, type_named}
use Rattle.c_typing_struct_bodies.specs.Bodies.{TagScope, declared_type}
use Rattle.c_typing_declarations.specs.Unfit.{judge_init}
use Rattle.c_typing_statements.specs.declared.c_typing_function_bodies.functions.FunctionType.{FunctionType}
use Rattle.c_typing_statements.specs.c_typing_function_bodies.Functions.{judge_function}
use Rattle.c_typing_unit_names.specs.declared.names.NameDeclaration.{NameDeclaration}
use Rattle.c_typing_declarations.specs.declared.walk.UnitSoFar.{UnitSoFar}
use Rattle.c_typing_declarations.specs.Walk.{UnitWalk, in_notes, with_state, declare, body_kept}
use Rattle.c_typing_declarations.specs.Objects.{faulty_object, array_object, value_object}
use Rattle.c_typing_declarations.specs.Functions.{function_type, function_with_type, optional_refused, init_refused, defined_type, main_seen}

-- ---- typedef names

abbrev pub typedef_of : DeclaredType → NameDeclaration
typedef_of ty = record { is_typedef = true; ty = ty; has_value = false }

abbrev pub typedef_with : Definitions → ℕ → List ℕ → Option DeclaredType × UnitWalk → UnitWalk
typedef_with ds at name r = declare ds at name (option_map typedef_of r.0) r.1

abbrev pub typedef_declared : Definitions → ℕ → List ℕ → Option DeclaredType → UnitWalk → UnitWalk
typedef_declared ds at name ty w = typedef_with ds at name (in_notes w (each ty (type_named at) w.1.1))

-- ---- objects; a typedef name of a function type declares a function

abbrev pub prototype : Definitions → ℕ → List ℕ → Option Storage → DeclaredType → UnitWalk → UnitWalk
prototype ds at name storage ty w = function_with_type ds at name storage false (in_notes w (function_type at ty w.1.1))

abbrev pub refused_behind : Option Init → UnitWalk → UnitWalk
refused_behind init w = with_state (optional_refused init w.1) w

abbrev pub with_init_refused : Init → UnitWalk → UnitWalk
with_init_refused init w = with_state (init_refused init w.1) w

abbrev pub object_with : Definitions → ℕ → List ℕ → Option Storage → Option Init → Option DeclaredType → UnitWalk →
    UnitWalk
object_with ds at name storage init None w = faulty_object ds at name init w
object_with ds at name storage init (Some (d.Value ty)) w = value_object ds at name storage init ty w
object_with ds at name storage init (Some (d.Unsized element)) w = array_object ds at name storage init element w
object_with ds at name storage init (Some (d.Function of parameters)) w =
    refused_behind init (prototype ds at name storage (d.Function of parameters) w)

-- ---- functions

abbrev pub main_with : List ℕ → Option DeclaredType → UnitSoFar → UnitSoFar
main_with name None u = u
main_with name (Some ty) u = main_seen name ty u

-- a definition of `main` counts whatever fault it has but for its type
abbrev pub with_main_in : List ℕ → Option DeclaredType × UnitWalk → Option DeclaredType × UnitWalk
with_main_in name r = (r.0, (main_with name r.0 r.1.0, r.1.1))

abbrev pub with_definition : ℕ → TypeNode → Option DeclaredType × UnitWalk → Option DeclaredType × UnitWalk
with_definition at node r = in_notes r.1 (each r.0 (defined_type at node) r.1.1.1)

abbrev pub type_with : CType → List CType → FunctionType
type_with of parameters = record { result = of; parameters = parameters }

-- the type of a function that is defined, where its declaration has no fault
abbrev pub type_of_function : Option DeclaredType → Option FunctionType
type_of_function None = None
type_of_function (Some (d.Value ty)) = None
type_of_function (Some (d.Unsized element)) = None
type_of_function (Some (d.Function of parameters)) = Some (type_with of parameters)

-- a body is judged behind the declaration of its name, which may call itself there
abbrev pub body_judged : Declaration → Option FunctionType → List Stmt → UnitWalk → UnitWalk
body_judged e of list w = body_kept e.name w.0 (judge_function e of list w.1)

abbrev pub definition_with : Definitions → Declaration → Option Storage → List Stmt → Option DeclaredType × UnitWalk →
    UnitWalk
definition_with ds e storage list r =
    body_judged e (type_of_function r.0) list (function_with_type ds e.at e.name storage true r)

abbrev pub definition : Definitions → Declaration → Option Storage → List Stmt → DeclaredType → UnitWalk → UnitWalk
definition ds e storage list ty w =
    definition_with ds e storage list
    (with_definition e.at e.ty (with_main_in e.name (in_notes w (function_type e.at ty w.1.1))))

abbrev pub external_function : Definitions → Declaration → Option Storage → FunctionEnd → DeclaredType → UnitWalk →
    UnitWalk
external_function ds e storage f.Nothing ty w = prototype ds e.at e.name storage ty w
external_function ds e storage (f.Init init) ty w = with_init_refused init (prototype ds e.at e.name storage ty w)
external_function ds e storage (f.Body list) ty w = definition ds e storage list ty w

-- what stands behind a declaration with a fault
abbrev pub end_judged : Declaration → FunctionEnd → JudgementState → JudgementState
end_judged e f.Nothing s = s
end_judged e (f.Init init) s = (judge_init init s).1
end_judged e (f.Body list) s = (judge_function e None list s).1

abbrev pub with_end_judged : Declaration → FunctionEnd → UnitWalk → UnitWalk
with_end_judged e end w = with_state (end_judged e end w.1) w

abbrev pub function_typed : Definitions → Declaration → Option Storage → FunctionEnd → Option DeclaredType →
    UnitWalk → UnitWalk
function_typed ds e storage end None w = with_end_judged e end (declare ds e.at e.name None w)
function_typed ds e storage end (Some ty) w = external_function ds e storage end ty w

-- ---- the type of each comes first

-- what follows a type with the bodies in it
abbrev pub external_behind_type : UnitSoFar → Option DeclaredType × TagScope →
    (Option DeclaredType → UnitWalk → UnitWalk) →
    UnitSoFar × TagScope
external_behind_type u r rest = ((rest r.0 (u, r.1.1)).0, (r.1.0, (rest r.0 (u, r.1.1)).1))

abbrev pub declarator_type : Declaration → TagScope → Option DeclaredType × TagScope
declarator_type e s = declared_type e.at e.ty s

-- a declaration that declares tags alone has no place of its own
abbrev pub tags_declared : UnitSoFar → Option DeclaredType × TagScope → UnitSoFar × TagScope
tags_declared u r = (u, r.1)

abbrev pub walk_external : Definitions → External → UnitSoFar × TagScope → UnitSoFar × TagScope
walk_external ds (x.Typedef e) s = external_behind_type s.0 (declarator_type e s.1) (typedef_declared ds e.at e.name)
walk_external ds (x.Object e storage init) s = external_behind_type s.0 (declarator_type e s.1)
    (object_with ds e.at e.name storage init)
walk_external ds (x.Function e storage end) s = external_behind_type s.0 (declarator_type e s.1)
    (function_typed ds e storage end)
walk_external ds (x.Tags storage ty) s = tags_declared s.0 (declared_type 0 ty s.1)

abbrev pub externals : Definitions → List External → UnitSoFar × TagScope → UnitSoFar × TagScope
externals ds [] s = s
externals ds (e ∷ es) s = externals ds es (walk_external ds e s)
