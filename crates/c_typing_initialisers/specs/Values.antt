-- Single values in objects of static storage (C99 6.7.8): that of a scalar is a constant of its type, and a text fills
-- an array of characters.
use Rattle.std.specs.Prelude.{ℕ, if◌then◌else◌, Bool, true, false, List, Option, Some, None, is_some}
use Rattle.c_tree.specs.declared.expressions.Expr as e
use Rattle.c_typed_tree.specs.declared.types.CType.{CType}
use Rattle.c_typing_judgements.specs.c_typing_operators.Null.{take_value}
use Rattle.c_typed_tree.specs.Layout.{integer_of}
use Rattle.c_typed_tree.specs.View.{type_view}
use Rattle.c_typing_faults.specs.declared.faults.Kind.TheVariants.{BadInit}
use Rattle.c_typing_rules.specs.declared.typed.TypedExpression.{TypedExpression}
use Rattle.c_typing_rules.specs.Conversions.{decay}
use Rattle.mem_objects.specs.declared.DataCell.{DataCell}
use Rattle.c_typing_initial_values.specs.declared.values.InitialValue.{InitialValue}
use Rattle.c_typing_initial_values.specs.Values.{initial_value}
use Rattle.c_typing_initial_values.specs.Cells.{place_piece, value_cells, text_cells}
use Rattle.c_typing_initial_values.specs.Parts.{is_aggregate, is_room_for, part_room}
use Rattle.c_typing_state.specs.declared.env.Env.{Env}
use Rattle.c_typing_state.specs.declared.notes.Notes.{Notes}
use Rattle.c_typing_state.specs.Checks.{Check, pure, and_then, each, note_fault}
use Rattle.c_typing_judgements.specs.Types.{JudgementState}
use Rattle.c_typing_judgements.specs.Texts.{spelling_bytes}
use Rattle.c_typing_expressions.specs.Expressions.{judge}
use Rattle.c_typing_initialisers.specs.Unfit.{no_place}

-- the cells of an object so far, and what was noted
abbrev pub CellsAndNotes : Type 0
CellsAndNotes = List DataCell × Notes

-- these, with the names in scope
abbrev pub FillingState : Type 0
FillingState = List DataCell × JudgementState

-- what is judged beside the cells
abbrev pub cells_beside : {A S : Type 0} → List DataCell → A × S → A × (List DataCell × S)
cells_beside cells x = (x.0, (cells, x.1))

-- what is filled where names stay as they are
abbrev pub with_env : {A : Type 0} → Env → A × CellsAndNotes → A × FillingState
with_env env x = (x.0, (x.1.0, (env, x.1.1)))

-- ---- scalars: the value is a constant, and is converted as by an assignment. Both are judged

abbrev pub constant_value : TypedExpression → Check (Option InitialValue)
constant_value a n = note_fault (initial_value n.structs a) n

abbrev pub is_taken : CType → TypedExpression → Check Bool
is_taken ty a n = and_then (note_fault (take_value ty a) n) (λ tree. pure (is_some tree))

-- the place of the value, with the cells that it fills
abbrev pub put_scalar :
    CType → (place at : ℕ) → Option InitialValue → (is_taken : Bool) → List DataCell → Option ℕ × List DataCell
put_scalar ty place at None is_taken cells = (None, cells)
put_scalar ty place at (Some v) false cells = (None, cells)
put_scalar ty place at (Some v) true cells =
    (Some at, place_piece place (value_cells (integer_of (type_view ty)) v) cells)

abbrev pub with_notes : {A : Type 0} → A × List DataCell → Notes → A × CellsAndNotes
with_notes r n = (r.0, (r.1, n))

-- a value of which an array is a pointer already
abbrev pub scalar_value : CType → (place : ℕ) → TypedExpression → CellsAndNotes → Option ℕ × CellsAndNotes
scalar_value ty place a f =
    and_then (constant_value a f.1) (λ v n. and_then (is_taken ty a n) (λ taken.
    with_notes (put_scalar ty place a.at v taken f.0)))

-- ---- an array or a struct has no single value here

abbrev pub fill_value : CType → (place : ℕ) → TypedExpression → CellsAndNotes → Option ℕ × CellsAndNotes
fill_value ty place a f =
    if is_aggregate ty then cells_beside f.0 (no_place BadInit a.at f.1) else scalar_value ty place (decay a) f

abbrev pub expression_value : CType → (place : ℕ) → e.Expr → FillingState → Option ℕ × FillingState
expression_value ty place x s =
    and_then (judge x s.1) (λ a u. with_env u.0 (each a (fill_value ty place) (s.0, u.1)))

-- ---- but a text fills an array of characters, and is no object then

-- a text as it is spelled
unfoldable pub text_in : e.Expr → Option (ℕ × List (List ℕ))
text_in (e.Name at name) = None
text_in (e.Number at spelling) = None
text_in (e.Character at spelling) = None
text_in (e.Text at spellings) = Some (at, spellings)
text_in (e.Call' at name _ arguments) = None
text_in (e.Unary' at op _ x) = None
text_in (e.Binary' at op _ x _ y) = None
text_in (e.Assign' at op _ x _ y) = None
text_in (e.Conditional' at _ x _ y _ z) = None
text_in (e.Cast' at _ ty _ x) = None
text_in (e.SizeOfValue' at _ x) = None
text_in (e.SizeOfType' at _ ty) = None
text_in (e.Index' at _ x _ y) = None
text_in (e.Field' at _ x name) = None
text_in (e.Arrow' at _ x name) = None
text_in (e.Postfix' at op _ x) = None
text_in (e.Comma' at _ operands) = None

abbrev pub text_value : (place room at : ℕ) → (bytes : List ℕ) → CellsAndNotes → Option ℕ × CellsAndNotes
text_value place room at bytes f =
    if is_room_for room bytes then (Some at, (place_piece place (text_cells room bytes) f.0, f.1))
    else cells_beside f.0 (no_place BadInit at f.1)

abbrev pub value_or_text :
    (room : Option ℕ) → (text : Option (ℕ × List (List ℕ))) → CType → (place : ℕ) → e.Expr → FillingState
    → Option ℕ × FillingState
value_or_text None text ty place x s = expression_value ty place x s
value_or_text (Some room) None ty place x s = expression_value ty place x s
value_or_text (Some room) (Some spelled) ty place x s =
    with_env s.1.0 (text_value place room spelled.0 (spelling_bytes spelled.1) (s.0, s.1.1))

-- a single value at a place of an object
abbrev pub single_value : CType → (place : ℕ) → e.Expr → FillingState → Option ℕ × FillingState
single_value ty place x s = value_or_text (part_room ty) (text_in x) ty place x s
