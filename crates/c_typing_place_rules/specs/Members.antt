-- Members and sizes (C99 6.5.2.3, 6.5.3.4). A member is given by what was found of its name: its number in the struct
-- and its type.
use Rattle.std.specs.Prelude.{ℕ, Bool, false, if◌then◌else◌, List, Option, Some, None, Ok}
use Rattle.bk_arithmetic.specs.declared.integer_type.IntegerType.{IntegerType}
use Rattle.bk_arithmetic.specs.declared.integer_type.IntegerType.TheVariants.{UnsignedLong}
use Rattle.c_typed_tree.specs.declared.types.CType.{CType}
use Rattle.c_typed_tree.specs.declared.types.StructDef.{StructDef}
use Rattle.c_typed_tree.specs.declared.expressions.TExpr as x
use Rattle.c_typed_tree.specs.Layout.{size_of, is_object}
use Rattle.c_typed_tree.specs.View.{type_view}
use Rattle.c_typing_faults.specs.declared.faults.Kind.TheVariants.{BadOperand, NoMember}
use Rattle.c_typing_place_rules.specs.declared.members.FoundMember.{FoundMember}
use Rattle.c_typing_rules.specs.declared.typed.LvalueKind.{LvalueKind}
use Rattle.c_typing_rules.specs.declared.typed.LvalueKind.TheVariants as p
use Rattle.c_typing_rules.specs.declared.typed.TypedExpression.{TypedExpression}
use Rattle.c_typing_rules.specs.Rulings.{Ruling, fault}
use Rattle.c_typed_tree.specs.Typing.{is_struct}
use Rattle.c_typing_rules.specs.Types.{points_to_struct}
use Rattle.c_typing_rules.specs.Values.{type_of_integer, rvalue}
use Rattle.c_typing_place_rules.specs.Places.{is_somewhere, pointed_place}

-- ---- `.` of a place of struct type: the member of a local is that local's, as one takes its address

abbrev pub place_of_member : LvalueKind → LvalueKind
place_of_member p.Nowhere = p.Nowhere
place_of_member (p.Local number) = p.Local number
place_of_member (p.Global number) = p.Elsewhere
place_of_member p.Elsewhere = p.Elsewhere

abbrev pub field_found : ℕ → TypedExpression → Option FoundMember → Ruling TypedExpression
field_found at a None = fault at NoMember
field_found at a (Some m) =
    Ok (record { at = at; tree = x.Field m.ty a.tree m.number; ty = m.ty; place = place_of_member a.place })

abbrev pub is_struct_place : TypedExpression → Bool
is_struct_place a = if is_somewhere a.place then is_struct (type_view a.ty) else false

abbrev pub field : ℕ → TypedExpression → Option FoundMember → Ruling TypedExpression
field at a found = if is_struct_place a then field_found at a found else fault at BadOperand

-- ---- `->` of a pointer to a complete struct

abbrev pub arrow_found : ℕ → TypedExpression → Option FoundMember → Ruling TypedExpression
arrow_found at a None = fault at NoMember
arrow_found at a (Some m) = Ok (pointed_place at m.ty (x.Arrow m.ty a.tree m.number))

abbrev pub arrow : List StructDef → ℕ → TypedExpression → Option FoundMember → Ruling TypedExpression
arrow ds at a found = if points_to_struct ds (type_view a.ty) then arrow_found at a found else fault at BadOperand

-- ---- `sizeof` of a type that objects have, which is an `unsigned long`

abbrev pub number_rvalue : ℕ → IntegerType → ℕ → TypedExpression
number_rvalue at t word = rvalue at (type_of_integer t) (x.Number (type_of_integer t) word)

abbrev pub size : List StructDef → ℕ → CType → Ruling TypedExpression
size ds at ty =
    if is_object ds (type_view ty) then Ok (number_rvalue at UnsignedLong (size_of ds (type_view ty)))
    else fault at BadOperand
