-- Conversions of values, and the operators at which pointers meet (C99 6.3.2, 6.5.4, 6.5.9, 6.5.15, 6.5.16.1). Of each
-- operand that may be a null pointer constant it is given whether it is one.
use Rattle.std.specs.Prelude.{ℕ, Bool, true, false, ◌||◌, if◌then◌else◌, Option, Some, None, Ok}
use Rattle.bk_arithmetic.specs.declared.integer_type.IntegerType.{IntegerType}
use Rattle.c_tree.specs.declared.expressions.BinaryOp.{BinaryOp}
use Rattle.c_typed_tree.specs.declared.types.CType as t
use Rattle.c_typed_tree.specs.declared.expressions.TExpr as x
use Rattle.c_typed_tree.specs.View.{type_view}
use Rattle.c_typing_faults.specs.declared.faults.Kind.TheVariants.{BadOperand, BadConversion}
use Rattle.c_typing_rules.specs.declared.typed.TypedExpression.{TypedExpression}
use Rattle.c_typing_rules.specs.Rulings.{Ruling, fault}
use Rattle.c_typed_tree.specs.Constants.{is_integer}
use Rattle.c_typed_tree.specs.Typing.{is_void, is_pointer, is_pointer_to_void}
use Rattle.c_typing_rules.specs.Values.{int, is_same, integer, rvalue, convert_tree, binary_in}
use Rattle.c_typing_rules.specs.Arithmetic.{common_type}

-- ---- an array becomes a pointer to its first element (6.3.2.1)

-- the type of the elements of an array
unfoldable pub element : t.CType → Option t.CType
element t.Void = None
element (t.Int bytes signed) = None
element (t.Pointer' _ target) = None
element (t.Array' _ (t.more_of-CType x t.end_of-CType) length) = Some x
element (t.Struct number) = None

abbrev pub decayed_to : TypedExpression → Option t.CType → TypedExpression
decayed_to a None = a
decayed_to a (Some e) = rvalue a.at (t.Pointer e) (x.Convert (t.Pointer e) a.tree)

abbrev pub decay : TypedExpression → TypedExpression
decay a = decayed_to a (element a.ty)

-- ---- a value where one of a type is wanted, as an assigned one (6.5.16.1)

abbrev pub as_integer : t.CType → TypedExpression → Ruling x.TExpr
as_integer to v = if is_integer (type_view v.ty) then Ok (x.Convert to v.tree) else fault v.at BadConversion

-- a null pointer constant, or a pointer where one of the two is to void
abbrev pub is_taken_as_pointer : t.CType → TypedExpression → (null : Bool) → Bool
is_taken_as_pointer to v null =
    if null then true
    else if is_pointer (type_view v.ty) then is_pointer_to_void (type_view to) || is_pointer_to_void (type_view v.ty)
    else false

abbrev pub as_pointer : t.CType → TypedExpression → (null : Bool) → Ruling x.TExpr
as_pointer to v null = if is_taken_as_pointer to v null then Ok (x.Convert to v.tree) else fault v.at BadConversion

abbrev pub value_for_type : t.CType → TypedExpression → (null : Bool) → Ruling x.TExpr
value_for_type to v null =
    if is_same to v.ty then Ok v.tree
    else if is_integer (type_view to) then as_integer to v
    else if is_pointer (type_view to) then as_pointer to v null
    else fault v.at BadConversion

-- ---- a cast: to void from anything, between integers, between pointers, and of a null pointer constant (6.5.4)

abbrev pub is_castable : t.CType → TypedExpression → (null : Bool) → Bool
is_castable to a null =
    if is_void (type_view to) then true
    else if is_integer (type_view to) then is_integer (type_view a.ty)
    else if is_pointer (type_view to) then is_pointer (type_view a.ty) || null
    else false

abbrev pub cast_value : ℕ → t.CType → x.TExpr → TypedExpression
cast_value at to operand = rvalue at to (x.Cast to operand)

abbrev pub cast_ruling : ℕ → t.CType → TypedExpression → (null : Bool) → Ruling TypedExpression
cast_ruling at to a null = if is_castable to a null then Ok (cast_value at to a.tree) else fault at BadConversion

-- ---- the type in which two operands meet of which one is a pointer (6.5.9, 6.5.15): their own; beside a null pointer
-- constant the other's; beside a pointer to void that one

abbrev pub void_pointer : t.CType
void_pointer = t.Pointer t.Void

abbrev pub pointers_meet : (left right : t.CType) → (null_left : Bool) → Option t.CType
pointers_meet a b null_left =
    if null_left then Some b
    else if is_pointer_to_void (type_view a) || is_pointer_to_void (type_view b) then Some void_pointer
    else None

abbrev pub meet_of_pointer : (left right : t.CType) → (null_left null_right : Bool) → Option t.CType
meet_of_pointer a b null_left null_right =
    if is_same a b then Some a
    else if null_right then Some a
    else if is_pointer (type_view b) then pointers_meet a b null_left
    else None

abbrev pub meet : (left right : t.CType) → (null_left null_right : Bool) → Option t.CType
meet a b null_left null_right =
    if is_pointer (type_view a) then meet_of_pointer a b null_left null_right
    else if is_pointer (type_view b) then (if null_left then Some b else None)
    else None

-- ---- `==` and `!=`

abbrev pub equal_pointers : ℕ → BinaryOp → (left right : TypedExpression) → Option t.CType → Ruling TypedExpression
equal_pointers at op a b None = fault at BadOperand
equal_pointers at op a b (Some ty) = Ok (binary_in at int op ty a b)

abbrev pub equality_of : ℕ → BinaryOp → (left right : TypedExpression) → (null_left null_right : Bool)
    → Option IntegerType → Option IntegerType → Ruling TypedExpression
equality_of at op a b na nb (Some s) (Some u) = Ok (binary_in at int op (common_type s u) a b)
equality_of at op a b na nb (Some s) None = equal_pointers at op a b (meet a.ty b.ty na nb)
equality_of at op a b na nb None u = equal_pointers at op a b (meet a.ty b.ty na nb)

abbrev pub equality_test : ℕ → BinaryOp → (left right : TypedExpression) → (null_left null_right : Bool) →
    Ruling TypedExpression
equality_test at op a b na nb = equality_of at op a b na nb (integer a) (integer b)

-- ---- `?:`, with its condition

abbrev pub choice_in : ℕ → x.TExpr → t.CType → (holds fails : TypedExpression) → TypedExpression
choice_in at c ty a b = rvalue at ty (x.Conditional ty c (convert_tree ty a) (convert_tree ty b))

abbrev pub choice_met : ℕ → x.TExpr → (holds fails : TypedExpression) → Option t.CType → Ruling TypedExpression
choice_met at c a b None = fault at BadOperand
choice_met at c a b (Some ty) = Ok (choice_in at c ty a b)

-- arms of void, or of one struct, have that type
abbrev pub choice_apart : ℕ → x.TExpr → (holds fails : TypedExpression) → (null_left null_right : Bool) →
    Ruling TypedExpression
choice_apart at c a b na nb =
    if is_same a.ty b.ty then Ok (choice_in at c a.ty a b) else choice_met at c a b (meet a.ty b.ty na nb)

abbrev pub choice_of : ℕ → x.TExpr → (holds fails : TypedExpression) → (null_left null_right : Bool)
    → Option IntegerType → Option IntegerType → Ruling TypedExpression
choice_of at c a b na nb (Some s) (Some u) = Ok (choice_in at c (common_type s u) a b)
choice_of at c a b na nb (Some s) None = choice_apart at c a b na nb
choice_of at c a b na nb None u = choice_apart at c a b na nb

abbrev pub choice : ℕ → x.TExpr → (holds fails : TypedExpression) → (null_left null_right : Bool) →
    Ruling TypedExpression
choice at c a b na nb = choice_of at c a b na nb (integer a) (integer b)
