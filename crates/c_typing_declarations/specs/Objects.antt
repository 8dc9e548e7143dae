-- Objects at file scope (C99 6.7, 6.7.8, 6.9.2): which types they may have, and their initialisers.
use Rattle.std.specs.Prelude.{ℕ, Bool, false, if◌then◌else◌, List, Option, Some, None, is_some}
use Rattle.c_tree.specs.declared.declarations.Storage.{Storage}
use Rattle.c_tree.specs.declared.declarations.Init.{Init}
use Rattle.c_typing_rules.specs.declared.c_typing_declared_types.declared.DeclaredType.{DeclaredType}
use Rattle.c_typing_rules.specs.declared.c_typing_declared_types.declared.DeclaredType.TheVariants as d
use Rattle.c_typing_rules.specs.c_typing_declared_types.Declarators.{array_with}
use Rattle.c_typing_definitions.specs.declared.names.Definitions.{Definitions}
use Rattle.c_typed_tree.specs.declared.types.CType.{CType}
use Rattle.c_typing_faults.specs.declared.faults.Kind.TheVariants.{BadType}
use Rattle.c_typing_state.specs.Checks.{Check, fault}
use Rattle.c_typing_judgements.specs.Types.{JudgementState}
use Rattle.c_typing_struct_bodies.specs.Members.{is_member_type}
use Rattle.c_typing_unit_names.specs.declared.names.NameDeclaration.{NameDeclaration}
use Rattle.c_typing_initialisers.specs.Unfit.{judge_init}
use Rattle.c_typing_initialisers.specs.Initialisers.{object_cells, length_given}
use Rattle.c_typing_declarations.specs.Walk.{UnitWalk, in_notes, with_state, with_notes, declare, main_checked, with_unit_object, fill}

-- ---- types: those of members, which are complete and neither too large nor too deep

abbrev pub no_object_type : ℕ → Check (Option CType)
no_object_type at = fault at BadType

abbrev pub object_type : ℕ → CType → Check (Option CType)
object_type at ty n = if is_member_type n.structs ty then (Some ty, n) else no_object_type at n

abbrev pub type_there : ℕ → Option DeclaredType → Check (Option CType)
type_there at None n = no_object_type at n
type_there at (Some (d.Value ty)) n = object_type at ty n
type_there at (Some (d.Unsized element)) n = no_object_type at n
type_there at (Some (d.Function of parameters)) n = no_object_type at n

-- an array with the length that its initialiser gives
abbrev pub array_type : ℕ → (element : CType) → (length : ℕ) → Check (Option CType)
array_type at element length n = type_there at (array_with n.structs element length) n

-- ---- initialisers

-- what an initialiser is made of is judged also where what it initialises has a fault
abbrev pub init_judged : Option Init → JudgementState → JudgementState
init_judged None s = s
init_judged (Some x) s = (judge_init x s).1

abbrev pub init_filled : List ℕ → CType → Option Init → UnitWalk → UnitWalk
init_filled name ty None w = w
init_filled name ty (Some x) w = fill name w.0 (object_cells ty x w.1)

-- ---- declarations. A name is in scope within its own initialiser (6.2.1)

abbrev pub object_declared : CType → (has_value : Bool) → NameDeclaration
object_declared ty has_value = record { is_typedef = false; ty = d.Value ty; has_value = has_value }

abbrev pub judged_behind : Option Init → UnitWalk → UnitWalk
judged_behind init w = with_state (init_judged init w.1) w

abbrev pub faulty_object : Definitions → ℕ → List ℕ → Option Init → UnitWalk → UnitWalk
faulty_object ds at name init w = judged_behind init (declare ds at name None w)

abbrev pub object_by_type : Definitions → ℕ → List ℕ → Option Storage → Option Init → Option CType → UnitWalk → UnitWalk
object_by_type ds at name storage init None w = faulty_object ds at name init w
object_by_type ds at name storage init (Some ty) w =
    init_filled name ty init
    (with_unit_object name ty
    (declare ds at name (Some (object_declared ty (is_some init))) (with_notes (main_checked storage at name w.1.1) w)))

abbrev pub object_with_type :
    Definitions → ℕ → List ℕ → Option Storage → Option Init → Option CType × UnitWalk → UnitWalk
object_with_type ds at name storage init r = object_by_type ds at name storage init r.0 r.1

-- an array without a length has that of its initialiser
abbrev pub array_object : Definitions → ℕ → List ℕ → Option Storage → Option Init → (element : CType) → UnitWalk →
    UnitWalk
array_object ds at name storage None element w =
    object_with_type ds at name storage None (in_notes w (no_object_type at w.1.1))
array_object ds at name storage (Some x) element w =
    object_with_type ds at name storage (Some x) (in_notes w (array_type at element (length_given element x) w.1.1))

abbrev pub value_object : Definitions → ℕ → List ℕ → Option Storage → Option Init → CType → UnitWalk → UnitWalk
value_object ds at name storage init ty w =
    object_with_type ds at name storage init (in_notes w (object_type at ty w.1.1))
