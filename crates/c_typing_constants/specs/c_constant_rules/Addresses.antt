-- Address constants (C99 6.6p9): a pointer to an object of static storage or to a part of it, by `&`, `*`, `[]`, `.` and
-- `->`, by the conversion of an array, by casts, and moved by integer constants, each step within the object or to its
-- end.
use Rattle.std.specs.Prelude.{ℕ, ◌+◌, ◌*◌, ◌-◌, ◌^◌, nat_le, Bool, true, false, not, if◌then◌else◌, List, Option, Some, None}
use Rattle.std.specs.Bool.{beq}
use Rattle.bk_arithmetic.specs.declared.integer_type.IntegerType.{IntegerType}
use Rattle.bk_arithmetic.specs.declared.integer_type.IntegerType.TheVariants.{UnsignedLong}
use Rattle.bk_arithmetic.specs.Operations.{conversion, is_less}
use Rattle.c_tree.specs.declared.expressions.UnaryOp.{UnaryOp}
use Rattle.c_tree.specs.declared.expressions.UnaryOp.TheVariants as u
use Rattle.c_tree.specs.declared.expressions.BinaryOp.{BinaryOp}
use Rattle.c_tree.specs.declared.expressions.BinaryOp.TheVariants as b
use Rattle.c_typed_tree.specs.declared.types.StructDef.{StructDef}
use Rattle.c_typed_tree.specs.Types.{PlainType, Pointer, Struct}
use Rattle.c_typed_tree.specs.Expressions.{Expr, Global, Unary, Binary, Cast, Convert, Index, Field, Arrow, type_of}
use Rattle.c_typed_tree.specs.Layout.{integer_of, size_of, offset_of, is_object}
use Rattle.c_typed_tree.specs.Constants.{constant}
use Rattle.c_typed_tree.specs.Typing.{is_array, is_pointer, target_of}
use Rattle.c_typing_constants.specs.declared.c_constant_rules.addresses.Address.{Address}

-- ---- objects

abbrev pub start_address : List StructDef → PlainType → (number : ℕ) → Option Address
start_address ds ty number =
    if is_object ds ty then Some (record { global = number; size = size_of ds ty; plus = 0 }) else None

-- what `&` of an lvalue leads to, and what `*` of a pointer names
abbrev pub address_of_lvalue : UnaryOp → Option Address → Option Address
address_of_lvalue u.Address a = a
address_of_lvalue _ a = None

abbrev pub lvalue_of_pointer : UnaryOp → Option Address → Option Address
lvalue_of_pointer u.Dereference a = a
lvalue_of_pointer _ a = None

-- ---- steps, by a number of elements

-- a number without its sign
abbrev pub magnitude : IntegerType → (word : ℕ) → ℕ
magnitude t word = if is_less t word 0 then 2 ^ 64 - conversion t UnsignedLong word else conversion t UnsignedLong word

abbrev pub address_after : Address → (bytes : ℕ) → Option Address
address_after a bytes =
    if nat_le bytes (a.size - a.plus) then Some (record { global = a.global; size = a.size; plus = a.plus + bytes })
    else None

abbrev pub address_before : Address → (bytes : ℕ) → Option Address
address_before a bytes =
    if nat_le bytes a.plus then Some (record { global = a.global; size = a.size; plus = a.plus - bytes }) else None

-- a negative number turns a step round
abbrev pub goes_back : (back : Bool) → IntegerType → (word : ℕ) → Bool
goes_back back t word = not (beq back (is_less t word 0))

abbrev pub step_elements : Address → (size : ℕ) → (back : Bool) → IntegerType → (word : ℕ) → Option Address
step_elements a size back t word =
    if goes_back back t word then address_before a (size * magnitude t word)
    else address_after a (size * magnitude t word)

-- the size of what a pointer points to
abbrev pub target_size : List StructDef → PlainType → Option ℕ
target_size ds (Pointer target) = if is_object ds target then Some (size_of ds target) else None
target_size ds _ = None

abbrev pub move_pointer : Option Address → Option ℕ → (back : Bool) → Option IntegerType → Option ℕ → Option Address
move_pointer None size back t word = None
move_pointer (Some a) None back t word = None
move_pointer (Some a) (Some size) back None word = None
move_pointer (Some a) (Some size) back (Some t) None = None
move_pointer (Some a) (Some size) back (Some t) (Some word) = step_elements a size back t word

abbrev pub moved_by : List StructDef → Option Address → (pointer : Expr) → (back : Bool) → (integer : Expr) →
    Option Address
moved_by ds a x back y = move_pointer a (target_size ds (type_of x)) back (integer_of (type_of y)) (constant y)

-- `+` and `-`, which goes back
abbrev pub direction : BinaryOp → Option Bool
direction b.Add = Some false
direction b.Subtract = Some true
direction _ = None

abbrev pub moved_either : List StructDef → Option Bool → (left right : Expr) → (of_left of_right : Option Address) →
    Option Address
moved_either ds None x y a c = None
moved_either ds (Some back) x y a c =
    if is_pointer (type_of x) then moved_by ds a x back y else moved_by ds c y back x

-- ---- members

abbrev pub address_behind : (bytes : ℕ) → Option Address → Option Address
address_behind bytes None = None
address_behind bytes (Some a) = address_after a bytes

-- a member of the struct that stands there
abbrev pub constant_member : List StructDef → PlainType → (member : ℕ) → Option Address → Option Address
constant_member ds (Struct number) member a = address_behind (offset_of ds number member) a
constant_member ds _ member a = None

-- ---- address constants

abbrev mutual
  -- where a pointer leads to
  pub address_constant : List StructDef → Expr → Option Address
  address_constant ds (Unary ty op x) = address_of_lvalue op (constant_lvalue ds x)
  address_constant ds (Convert ty x) = if is_array (type_of x) then constant_lvalue ds x else address_constant ds x
  address_constant ds (Cast ty x) = if is_pointer ty then address_constant ds x else None
  address_constant ds (Binary ty op x y) =
      moved_either ds (direction op) x y (address_constant ds x) (address_constant ds y)
  address_constant ds _ = None

  -- what an lvalue names
  pub constant_lvalue : List StructDef → Expr → Option Address
  constant_lvalue ds (Global ty number) = start_address ds ty number
  constant_lvalue ds (Unary ty op x) = lvalue_of_pointer op (address_constant ds x)
  constant_lvalue ds (Index ty x y) =
      moved_either ds (Some false) x y (address_constant ds x) (address_constant ds y)
  constant_lvalue ds (Field ty x member) = constant_member ds (type_of x) member (constant_lvalue ds x)
  constant_lvalue ds (Arrow ty x member) = constant_member ds (target_of (type_of x)) member (address_constant ds x)
  constant_lvalue ds _ = None
