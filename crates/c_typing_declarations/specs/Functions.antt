-- Functions at file scope (C99 6.7.5.3, 6.9.1), but for what stands in their bodies.
use Rattle.std.specs.Prelude.{ℕ, Bool, true, false, ◌&&◌, ◌||◌, if◌then◌else◌, List, [], ◌∷◌, Option, Some, None}
use Rattle.c_tree.specs.declared.declarations.Storage.{Storage}
use Rattle.c_tree.specs.declared.declarations.Init as i
use Rattle.c_tree.specs.declared.types.TypeNode as t
use Rattle.c_tree.specs.declared.expressions.Expr.TheBlock as k
use Rattle.c_typing_rules.specs.declared.c_typing_declared_types.declared.DeclaredType.{DeclaredType}
use Rattle.c_typing_rules.specs.declared.c_typing_declared_types.declared.DeclaredType.TheVariants as d
use Rattle.c_typing_definitions.specs.declared.names.Definitions.{Definitions}
use Rattle.c_typed_tree.specs.declared.types.CType.{CType}
use Rattle.c_typing_faults.specs.declared.faults.Kind.{Kind}
use Rattle.c_typing_faults.specs.declared.faults.Kind.TheVariants.{BadType, BadInit, BadConversion}
use Rattle.c_typing_rules.specs.Values.{int, is_same}
use Rattle.c_typing_state.specs.Checks.{Check, pure, and_then}
use Rattle.c_typing_state.specs.Notes.{with_fault}
use Rattle.c_typing_judgements.specs.Types.{JudgementState, type_named}
use Rattle.c_typing_judgements.specs.Leaves.{no_type}
use Rattle.c_typing_unit_names.specs.declared.names.NameDeclaration.{NameDeclaration}
use Rattle.c_typing_declarations.specs.declared.walk.UnitSoFar.{UnitSoFar}
use Rattle.c_typing_declarations.specs.Walk.{UnitWalk, with_notes, declare, is_main, main_checked}
use Rattle.c_typing_initialisers.specs.Unfit.{faulty_init}

-- ---- types

abbrev pub function_type : ℕ → DeclaredType → Check (Option DeclaredType)
function_type at (d.Value ty) n = no_type at BadType n
function_type at (d.Unsized element) n = no_type at BadType n
function_type at (d.Function of parameters) n = type_named at (d.Function of parameters) n

abbrev pub function_declared : (has_body : Bool) → DeclaredType → NameDeclaration
function_declared has_body ty = record { is_typedef = false; ty = ty; has_value = has_body }

-- a declaration of a function of this type, if it has no fault
abbrev pub function_by_type :
    Definitions → ℕ → List ℕ → Option Storage → (has_body : Bool) → Option DeclaredType → UnitWalk → UnitWalk
function_by_type ds at name storage has_body None w = declare ds at name None w
function_by_type ds at name storage has_body (Some ty) w =
    declare ds at name (Some (function_declared has_body ty)) (with_notes (main_checked storage at name w.1.1) w)

abbrev pub function_with_type :
    Definitions → ℕ → List ℕ → Option Storage → (has_body : Bool) → Option DeclaredType × UnitWalk → UnitWalk
function_with_type ds at name storage has_body r = function_by_type ds at name storage has_body r.0 r.1

-- ---- a function has no initialiser

unfoldable pub is_list : i.Init → Bool
is_list (i.Value x) = false
is_list (i.List' at _ items) = true

abbrev pub refusal_of : i.Init → Kind
refusal_of x = if is_list x then BadInit else BadConversion

abbrev pub init_refused : i.Init → JudgementState → JudgementState
init_refused x s = (faulty_init (refusal_of x) x s).1

abbrev pub optional_refused : Option i.Init → JudgementState → JudgementState
optional_refused None s = s
optional_refused (Some x) s = init_refused x s

-- ---- definitions: the declarator is a function's own, and each parameter has a name (6.9.1)

abbrev pub name_judged : ℕ → (name : Option (List ℕ)) → (whole : Bool) → Check Bool
name_judged at None whole n = (false, with_fault at BadType n)
name_judged at (Some name) whole n = (whole, n)

-- whether all parameters have names
unfoldable pub name_row : {m : _} → k.Row_of-Parameter m → (whole : Bool) → Check Bool
name_row k.end_of-Parameter whole n = (whole, n)
name_row (k.more_of-Parameter at name ty rest) whole n = and_then (name_judged at name whole n) (λ r. name_row rest r)

abbrev pub type_where : DeclaredType → (whole : Bool) → Option DeclaredType
type_where ty false = None
type_where ty true = Some ty

unfoldable pub defined_type : ℕ → t.TypeNode → DeclaredType → Check (Option DeclaredType)
defined_type at (t.Basic words) ty n = no_type at BadType n
defined_type at (t.Named name) ty n = no_type at BadType n
defined_type at (t.Enum' place tag constants) ty n = no_type at BadType n
defined_type at (t.Struct' place tag members) ty n = no_type at BadType n
defined_type at (t.Pointer' _ target) ty n = no_type at BadType n
defined_type at (t.Array' _ element length) ty n = no_type at BadType n
defined_type at (t.Takes' _ result _ parameters) ty n =
    and_then (name_row parameters true n) (λ whole. pure (type_where ty whole))

-- ---- `main` is a function of type `int (void)` (5.1.2.2.1)

abbrev pub is_start_of : CType → List CType → Bool
is_start_of of [] = is_same of int
is_start_of of (ty ∷ tys) = false

abbrev pub is_start : DeclaredType → Bool
is_start (d.Value ty) = false
is_start (d.Unsized element) = false
is_start (d.Function of parameters) = is_start_of of parameters

abbrev pub with_main : (is_defined : Bool) → UnitSoFar → UnitSoFar
with_main is_defined u = record {
  names = u.names;
  objects = u.objects;
  functions = u.functions;
  has_main = u.has_main || is_defined;
}

abbrev pub main_seen : List ℕ → DeclaredType → UnitSoFar → UnitSoFar
main_seen name ty u = with_main (is_main name && is_start ty) u
