-- What initial values put into an object is lawful (C99 6.6, 6.7.8).
use Rattle.std.specs.Prelude.{◌≡◌, ℕ, ◌+◌, ◌*◌, IsTrue, List, Option, Some, None, IfOk, IfSome}
use Rattle.bk_arithmetic.specs.declared.integer_type.IntegerType.{IntegerType}
use Rattle.bk_arithmetic.specs.IntegerTypes.{bytes}
use Rattle.c_typed_tree.specs.declared.types.StructDef.{StructDef}
use Rattle.c_typed_tree.specs.Expressions.{Expr}
use Rattle.c_typed_tree.specs.Typing.{Context, is_typed}
use Rattle.c_typing_rules.specs.declared.typed.TypedExpression.{TypedExpression}
use Rattle.c_typing_constants.specs.c_constant_rules.Addresses.{address_constant}
use Rattle.mem_objects.specs.declared.DataObject.{DataObject}
use Rattle.mem_objects.specs.declared.DataCell.{DataCell}
use Rattle.c_typing_initial_values.specs.declared.values.InitialValue.{InitialValue}
use Rattle.c_typing_initial_values.specs.Values.{initial_value}
use Rattle.c_typing_initial_values.specs.Cells.{value_cells, text_cells, place_piece}
use Rattle.c_typing_expression_sound.specs.c_type_laws.Typed.{AreKnown, IsTypedIn}
use Rattle.mem_model.specs.Bytes.{AreBytes}
use Rattle.c_typing_initialiser_sound.specs.c_initial_value_laws.Cells.{IsAddressIn, IsValueIn, AreInitialCells}

-- an address constant lies in an object of the context, where the structs that it is judged by are known there
abbrev pub AddressIsThere : Type 0
AddressIsThere =
    (c : Context) (structs : List StructDef) (x : Expr) → AreKnown structs c.structs → IsTrue (is_typed c x) →
    IfSome (address_constant structs x) (IsAddressIn c.globals)

abbrev pub ValueIsThere : Type 0
ValueIsThere =
    (c : Context) (structs : List StructDef) (a : TypedExpression) → AreKnown structs c.structs → IsTypedIn c a →
    IfOk (initial_value structs a) (IsValueIn c.globals)

-- the bytes of a value of an integer type, or of a pointer
abbrev pub value_size : Option IntegerType → ℕ
value_size None = 8
value_size (Some t) = bytes t

pub record IsMultiple (of n : ℕ) : Type 0 where
  pub times : ℕ
  pub same : n ≡ times * of

-- a pointer stands at a multiple of 8
abbrev pub IsPlaceFor : Option IntegerType → (place : ℕ) → Type 0
IsPlaceFor None place = IsMultiple 8 place
IsPlaceFor (Some t) place = Unit {0}

abbrev pub ValueIsPut : Type 0
ValueIsPut =
    (globals : List DataObject) (to : Option IntegerType) (value : InitialValue) (place : ℕ) (cells : List DataCell) →
    IsValueIn globals value → IsPlaceFor to place → AreInitialCells globals place cells →
    AreInitialCells globals (place + value_size to) (place_piece place (value_cells to value) cells)

abbrev pub TextIsPut : Type 0
TextIsPut =
    (globals : List DataObject) (room : ℕ) (text : List ℕ) (place : ℕ) (cells : List DataCell) →
    AreBytes text → AreInitialCells globals place cells →
    AreInitialCells globals (place + room) (place_piece place (text_cells room text) cells)
