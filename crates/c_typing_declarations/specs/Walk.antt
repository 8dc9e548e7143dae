-- What is known behind some declarations at file scope: the names with their numbers, the objects with what their
-- initialisers give, the functions whose bodies have no fault, and whether `main` is defined; the names in scope, and
-- what was noted.
use Rattle.std.specs.Prelude.{ℕ, Bool, true, false, if◌then◌else◌, List, [], ◌∷◌, ◌++◌, length, ◌==◌, Option, Some, None, bytes_eq, codes}
use Rattle.c_tree.specs.declared.declarations.Storage.{Storage}
use Rattle.c_tree.specs.declared.declarations.Storage.TheVariants as s
use Rattle.c_typing_definitions.specs.declared.names.Definitions.{Definitions}
use Rattle.c_typing_faults.specs.declared.faults.Kind.TheVariants.{Redeclared}
use Rattle.mem_objects.specs.declared.DataCell.{DataCell}
use Rattle.c_typed_tree.specs.declared.types.CType.{CType}
use Rattle.c_typed_tree.specs.declared.units.TypedFn.{TypedFn}
use Rattle.c_typed_tree.specs.declared.expressions.Callee.{Callee}
use Rattle.c_typed_tree.specs.declared.expressions.Callee.TheVariants as c
use Rattle.c_typing_globals.specs.declared.objects.UnitObject.{UnitObject}
use Rattle.c_typing_globals.specs.Globals.{set_cells}
use Rattle.c_typing_state.specs.declared.meanings.NameMeaning.{NameMeaning}
use Rattle.c_typing_state.specs.declared.meanings.NameMeaning.TheVariants as m
use Rattle.c_typing_state.specs.declared.env.Env.{Env}
use Rattle.c_typing_state.specs.declared.notes.Notes.{Notes}
use Rattle.c_typing_state.specs.Notes.{with_fault}
use Rattle.c_typing_state.specs.Scopes.{meaning_of}
use Rattle.c_typing_judgements.specs.Types.{JudgementState}
use Rattle.c_typing_unit_names.specs.declared.names.NameDeclaration.{NameDeclaration}
use Rattle.c_typing_unit_names.specs.declared.names.UnitNames.{UnitNames}
use Rattle.c_typing_unit_names.specs.UnitNames.{judge_declaration}
use Rattle.c_typing_declarations.specs.declared.walk.UnitSoFar.{UnitSoFar}

abbrev pub UnitWalk : Type 0
UnitWalk = UnitSoFar × JudgementState

-- ---- what a judgement leaves as it was

abbrev pub in_notes : {A : Type 0} → UnitWalk → A × Notes → A × UnitWalk
in_notes w r = (r.0, (w.0, (w.1.0, r.1)))

abbrev pub with_state : JudgementState → UnitWalk → UnitWalk
with_state s w = (w.0, s)

abbrev pub with_notes : Notes → UnitWalk → UnitWalk
with_notes n w = (w.0, (w.1.0, n))

-- ---- names

abbrev pub with_names : UnitNames → UnitSoFar → UnitSoFar
with_names names u = record { names = names; objects = u.objects; functions = u.functions; has_main = u.has_main }

-- a name that is declared, or whose declaration has a fault
abbrev pub enter_names : UnitNames × JudgementState → UnitWalk → UnitWalk
enter_names r w = (with_names r.0 w.0, r.1)

abbrev pub declare : Definitions → ℕ → List ℕ → Option NameDeclaration → UnitWalk → UnitWalk
declare ds at name new w = enter_names (judge_declaration ds at name new w.0.names w.1) w

-- `main` is no function of one unit alone
abbrev pub is_static : Option Storage → Bool
is_static None = false
is_static (Some s.Static) = true
is_static (Some s.Extern) = false

abbrev pub is_main : List ℕ → Bool
is_main name = bytes_eq name (codes "main")

abbrev pub main_checked : Option Storage → ℕ → List ℕ → Notes → Notes
main_checked storage at name n =
    if is_static storage then (if is_main name then with_fault at Redeclared n else n) else n

-- ---- objects, in the order of their numbers

abbrev pub set_objects : List UnitObject → UnitSoFar → UnitSoFar
set_objects os u = record { names = u.names; objects = os; functions = u.functions; has_main = u.has_main }

abbrev pub next_object : (is_next : Bool) → List ℕ → CType → UnitSoFar → UnitSoFar
next_object false name ty u = u
next_object true name ty u = set_objects (u.objects ++ record { name = name; ty = ty; cells = [] } ∷ []) u

-- what a name means, if it is an object that the unit defines
abbrev pub defined_object : Option NameMeaning → Option ℕ
defined_object None = None
defined_object (Some m.Faulty) = None
defined_object (Some (m.Undefined number)) = None
defined_object (Some (m.Local number ty)) = None
defined_object (Some (m.Object number ty)) = Some number
defined_object (Some (m.Constant word)) = None
defined_object (Some (m.Function callee result parameters)) = None
defined_object (Some (m.Typedef ty)) = None

abbrev pub object_number : Env → List ℕ → Option ℕ
object_number env name = defined_object (meaning_of env name)

-- an object stands among them from the declaration on that gives it its number
abbrev pub add_numbered : Option ℕ → List ℕ → CType → UnitSoFar → UnitSoFar
add_numbered None name ty u = u
add_numbered (Some number) name ty u = next_object (number == length u.objects) name ty u

abbrev pub add_object : Env → List ℕ → CType → UnitSoFar → UnitSoFar
add_object env name ty u = add_numbered (object_number env name) name ty u

abbrev pub with_unit_object : List ℕ → CType → UnitWalk → UnitWalk
with_unit_object name ty w = (add_object w.1.0 name ty w.0, w.1)

-- ---- what initialisers give

abbrev pub fill_numbered : Option ℕ → List DataCell → UnitSoFar → UnitSoFar
fill_numbered None cells u = u
fill_numbered (Some number) cells u = set_objects (set_cells number cells u.objects) u

abbrev pub keep_cells : Env → List ℕ → Option (List DataCell) → UnitSoFar → UnitSoFar
keep_cells env name None u = u
keep_cells env name (Some cells) u = fill_numbered (object_number env name) cells u

abbrev pub fill : List ℕ → UnitSoFar → Option (List DataCell) × JudgementState → UnitWalk
fill name u r = (keep_cells r.1.0 name r.0 u, r.1)

-- ---- functions, in the order of their bodies

abbrev pub with_unit_function : (number : ℕ) → TypedFn → UnitSoFar → UnitSoFar
with_unit_function number f u = record {
  names = u.names;
  objects = u.objects;
  functions = u.functions ++ record { number = number; function = f } ∷ [];
  has_main = u.has_main;
}

abbrev pub function_called : Callee → Option ℕ
function_called (c.Function number) = Some number
function_called (c.Builtin builtin) = None

-- what a name means, if it is a function that the unit defines
abbrev pub function_by : Option NameMeaning → Option ℕ
function_by None = None
function_by (Some m.Faulty) = None
function_by (Some (m.Undefined number)) = None
function_by (Some (m.Local number ty)) = None
function_by (Some (m.Object number ty)) = None
function_by (Some (m.Constant word)) = None
function_by (Some (m.Function callee result parameters)) = function_called callee
function_by (Some (m.Typedef ty)) = None

abbrev pub function_at : Env → List ℕ → Option ℕ
function_at env name = function_by (meaning_of env name)

abbrev pub add_function : Option ℕ → TypedFn → UnitSoFar → UnitSoFar
add_function None f u = u
add_function (Some number) f u = with_unit_function number f u

abbrev pub keep_function : Env → List ℕ → Option TypedFn → UnitSoFar → UnitSoFar
keep_function env name None u = u
keep_function env name (Some f) u = add_function (function_at env name) f u

abbrev pub body_kept : List ℕ → UnitSoFar → Option TypedFn × JudgementState → UnitWalk
body_kept name u r = (keep_function r.1.0 name r.0 u, r.1)
