-- When a typed tree is well typed (C99 6.5, 6.8): each expression has the type that its operator gives for the types
-- of its parts, each conversion is written, places stand where places are asked for, and each number names what is
-- there. One line for each form; the rule of an operator speaks of types alone.
use Rattle.std.specs.Prelude.{ℕ, ◌+◌, nat_le, max, ◌==◌, Bool, true, false, ◌&&◌, ◌||◌, not, List, [], ◌∷◌, slice_get, is_some, Option, Some, None}
use Rattle.std.specs.Bool.{beq}
use Rattle.bk_arithmetic.specs.declared.integer_type.IntegerType.{IntegerType}
use Rattle.bk_arithmetic.specs.IntegerTypes.{bytes, is_signed, promote, common}
use Rattle.bk_arithmetic.specs.Words.{is_word}
use Rattle.c_tree.specs.declared.expressions.UnaryOp.{UnaryOp}
use Rattle.c_tree.specs.declared.expressions.UnaryOp.TheVariants as u
use Rattle.c_tree.specs.declared.expressions.BinaryOp.{BinaryOp}
use Rattle.c_tree.specs.declared.expressions.BinaryOp.TheVariants as b
use Rattle.c_tree.specs.declared.expressions.AssignOp.{AssignOp}
use Rattle.c_tree.specs.declared.expressions.AssignOp.TheVariants as a
use Rattle.mem_objects.specs.declared.DataObject.{DataObject}
use Rattle.c_typed_tree.specs.declared.expressions.Builtin.TheVariants.{Putchar, Getchar, Abort, Exit}
use Rattle.c_typed_tree.specs.declared.expressions.Callee.{Callee}
use Rattle.c_typed_tree.specs.declared.expressions.Callee.TheVariants.{Function, Builtin}
use Rattle.c_typed_tree.specs.declared.types.StructDef.{StructDef}
use Rattle.c_typed_tree.specs.declared.types.Member.{Member}
use Rattle.c_typed_tree.specs.declared.units.Local as l
use Rattle.c_typed_tree.specs.Types.{PlainType, Void, Int, Pointer, Array, Struct}
use Rattle.c_typed_tree.specs.Expressions.{Expr, Number, Local, Global, Call, Unary, Binary, Assign, Conditional, Cast, Convert, Index, Field, Arrow, Postfix, Comma, Exprs, no_exprs, more_exprs, type_of}
use Rattle.c_typed_tree.specs.View.{type_view}
use Rattle.c_typed_tree.specs.Layout.{integer_of, size_of, is_complete, is_object, struct_member}
use Rattle.c_typed_tree.specs.Constants.{is_integer, is_null_constant}

-- ---- types

abbrev pub is_same_type : PlainType → PlainType → Bool
is_same_type Void Void = true
is_same_type (Int n s) (Int m r) = n == m && beq s r
is_same_type (Pointer t) (Pointer u) = is_same_type t u
is_same_type (Array t n) (Array u m) = is_same_type t u && n == m
is_same_type (Struct n) (Struct m) = n == m
is_same_type _ _ = false

abbrev pub int : PlainType
int = Int 4 true

abbrev pub long : PlainType
long = Int 8 true

abbrev pub is_void : PlainType → Bool
is_void Void = true
is_void _ = false

abbrev pub is_pointer : PlainType → Bool
is_pointer (Pointer target) = true
is_pointer _ = false

abbrev pub is_struct : PlainType → Bool
is_struct (Struct n) = true
is_struct _ = false

abbrev pub is_array : PlainType → Bool
is_array (Array element n) = true
is_array _ = false

-- integers and pointers (C99 6.2.5)
abbrev pub is_scalar : PlainType → Bool
is_scalar ty = is_integer ty || is_pointer ty

-- the integer types that the promotions leave as they are (C99 6.3.1.1)
abbrev pub is_same_integer : IntegerType → IntegerType → Bool
is_same_integer t u = bytes t == bytes u && beq (is_signed t) (is_signed u)

abbrev pub is_promoted_integer : Option IntegerType → Bool
is_promoted_integer None = false
is_promoted_integer (Some t) = is_same_integer (promote t) t

abbrev pub is_promoted : PlainType → Bool
is_promoted ty = is_promoted_integer (integer_of ty)

-- the right type is the common one of itself and the left (C99 6.3.1.8)
abbrev pub is_common_integer : (left right : Option IntegerType) → Bool
is_common_integer (Some t) (Some u) = is_same_integer (common t u) u
is_common_integer _ _ = false

abbrev pub is_common : (left right : PlainType) → Bool
is_common left right = is_common_integer (integer_of left) (integer_of right)

-- a pointer to a complete object type, and one to this type
abbrev pub points_to_object : List StructDef → PlainType → Bool
points_to_object ds (Pointer target) = is_object ds target
points_to_object ds _ = false

abbrev pub points_to : List StructDef → (target : PlainType) → PlainType → Bool
points_to ds ty (Pointer target) = is_same_type target ty && is_object ds target
points_to ds ty _ = false

abbrev pub is_pointer_to_void : PlainType → Bool
is_pointer_to_void (Pointer target) = is_void target
is_pointer_to_void _ = false

-- a type of which all parts are there: sizes of integers, numbers of structs, and arrays of objects no larger than
-- the data may be
abbrev pub is_valid_type : List StructDef → PlainType → Bool
is_valid_type ds Void = true
is_valid_type ds (Int n s) = is_integer (Int n s)
is_valid_type ds (Pointer target) = is_valid_type ds target
is_valid_type ds (Array element n) = is_valid_type ds element && is_object ds (Array element n)
is_valid_type ds (Struct n) = is_some (slice_get ds n)

-- how deep a type is. A struct behind a pointer, or one that is not complete, is 1 deep
abbrev pub struct_depth : Option StructDef → ℕ
struct_depth None = 1
struct_depth (Some d) = max 1 d.depth

abbrev pub depth_behind : PlainType → ℕ
depth_behind Void = 1
depth_behind (Int n s) = 1
depth_behind (Pointer target) = 1 + depth_behind target
depth_behind (Array element n) = 1 + depth_behind element
depth_behind (Struct n) = 1

abbrev pub depth_of : List StructDef → PlainType → ℕ
depth_of ds Void = 1
depth_of ds (Int n s) = 1
depth_of ds (Pointer target) = 1 + depth_behind target
depth_of ds (Array element n) = 1 + depth_of ds element
depth_of ds (Struct n) = struct_depth (slice_get ds n)

-- the depth of a type that is declared is at most 256; that of an expression may be 1 more, by `&`, where a struct
-- counts as one behind a pointer, since types of expressions are not judged for depth
abbrev pub most_depth : ℕ
most_depth = 256

abbrev pub is_fit : List StructDef → PlainType → Bool
is_fit ds ty = is_valid_type ds ty && nat_le (depth_behind ty) (1 + most_depth)

-- ---- operators, by the types of their operands and of the result

-- `+`, `-` and `~` are done in a promoted type, and `!` of a scalar is `int` (C99 6.5.3.3)
abbrev pub has_promoted_type : (ty operand : PlainType) → Bool
has_promoted_type ty operand = is_promoted operand && is_same_type operand ty

abbrev pub has_truth_type : (ty operand : PlainType) → Bool
has_truth_type ty operand = is_same_type ty int && is_scalar operand

-- `++` and `--` (C99 6.5.2.4, 6.5.3.1)
abbrev pub has_step_type : List StructDef → (ty operand : PlainType) → Bool
has_step_type ds ty operand = is_same_type operand ty && (is_integer operand || points_to_object ds operand)

-- both operands were converted to one type, in which the operator is done (C99 6.3.1.8)
abbrev pub is_arithmetic : (ty left right : PlainType) → Bool
is_arithmetic ty left right = is_promoted left && is_same_type left right && is_same_type left ty

-- the integer beside a pointer is not converted (C99 6.5.6)
abbrev pub is_sum : List StructDef → (ty left right : PlainType) → Bool
is_sum ds ty left right =
    is_arithmetic ty left right
    || points_to_object ds left && is_integer right && is_same_type left ty
    || is_integer left && points_to_object ds right && is_same_type right ty

abbrev pub is_difference : List StructDef → (ty left right : PlainType) → Bool
is_difference ds ty left right =
    is_arithmetic ty left right
    || points_to_object ds left && is_integer right && is_same_type left ty
    || points_to_object ds left && is_same_type left right && is_same_type ty long

-- each operand of a shift is promoted by itself (C99 6.5.7)
abbrev pub is_shift : (ty left right : PlainType) → Bool
is_shift ty left right = is_promoted left && is_promoted right && is_same_type left ty

-- integers of one type, or pointers of one (C99 6.5.8, 6.5.9)
abbrev pub is_comparison : (ty left right : PlainType) → Bool
is_comparison ty left right = is_same_type ty int && is_same_type left right && (is_promoted left || is_pointer left)

-- C99 6.5.13, 6.5.14
abbrev pub is_logical : (ty left right : PlainType) → Bool
is_logical ty left right = is_same_type ty int && is_scalar left && is_scalar right

abbrev pub has_binary_type : List StructDef → BinaryOp → (ty left right : PlainType) → Bool
has_binary_type ds b.LogicalOr ty left right = is_logical ty left right
has_binary_type ds b.LogicalAnd ty left right = is_logical ty left right
has_binary_type ds b.Or ty left right = is_arithmetic ty left right
has_binary_type ds b.Xor ty left right = is_arithmetic ty left right
has_binary_type ds b.And ty left right = is_arithmetic ty left right
has_binary_type ds b.Equal ty left right = is_comparison ty left right
has_binary_type ds b.NotEqual ty left right = is_comparison ty left right
has_binary_type ds b.Less ty left right = is_comparison ty left right
has_binary_type ds b.Greater ty left right = is_comparison ty left right
has_binary_type ds b.LessEqual ty left right = is_comparison ty left right
has_binary_type ds b.GreaterEqual ty left right = is_comparison ty left right
has_binary_type ds b.ShiftLeft ty left right = is_shift ty left right
has_binary_type ds b.ShiftRight ty left right = is_shift ty left right
has_binary_type ds b.Add ty left right = is_sum ds ty left right
has_binary_type ds b.Subtract ty left right = is_difference ds ty left right
has_binary_type ds b.Multiply ty left right = is_arithmetic ty left right
has_binary_type ds b.Divide ty left right = is_arithmetic ty left right
has_binary_type ds b.Remainder ty left right = is_arithmetic ty left right

-- the right side of an assignment has the type of the left; in a compound one of integers it has the type in which
-- the operator is done, and in a shift its own promoted one (C99 6.5.16)
abbrev pub is_compound : (left right : PlainType) → Bool
is_compound left right = is_integer left && is_common left right

abbrev pub is_compound_sum : List StructDef → (left right : PlainType) → Bool
is_compound_sum ds left right = is_compound left right || points_to_object ds left && is_integer right

abbrev pub is_compound_shift : (left right : PlainType) → Bool
is_compound_shift left right = is_integer left && is_promoted right

abbrev pub has_assigned_type : List StructDef → AssignOp → (left right : PlainType) → Bool
has_assigned_type ds a.Set left right = is_same_type right left && (is_scalar left || is_struct left)
has_assigned_type ds a.Multiply left right = is_compound left right
has_assigned_type ds a.Divide left right = is_compound left right
has_assigned_type ds a.Remainder left right = is_compound left right
has_assigned_type ds a.Add left right = is_compound_sum ds left right
has_assigned_type ds a.Subtract left right = is_compound_sum ds left right
has_assigned_type ds a.ShiftLeft left right = is_compound_shift left right
has_assigned_type ds a.ShiftRight left right = is_compound_shift left right
has_assigned_type ds a.And left right = is_compound left right
has_assigned_type ds a.Xor left right = is_compound left right
has_assigned_type ds a.Or left right = is_compound left right

-- both arms of a choice were converted to one type (C99 6.5.15)
abbrev pub is_choice : (ty condition holds fails : PlainType) → Bool
is_choice ty condition holds fails =
    is_scalar condition && is_same_type holds ty && is_same_type fails ty
    && (is_promoted ty || is_pointer ty || is_void ty || is_struct ty)

-- a cast: to void of every value; between integer types; between pointers; of a null constant (C99 6.5.4)
abbrev pub is_cast : (to from : PlainType) → (null : Bool) → Bool
is_cast to from null =
    is_void to && not (is_array from)
    || is_integer to && is_integer from
    || is_pointer to && (is_pointer from || is_integer from && null)

-- an array becomes a pointer to its first element (C99 6.3.2.1)
abbrev pub decays : (from to : PlainType) → Bool
decays (Array element n) (Pointer target) = is_same_type element target
decays from to = false

-- a conversion that no cast spells: between integer types; of an array that stands somewhere; of a null constant; of
-- pointers of one type, and to and from `void *` (C99 6.3)
abbrev pub is_conversion : (to from : PlainType) → (null place : Bool) → Bool
is_conversion to from null place =
    is_integer to && is_integer from
    || decays from to && place
    || is_pointer to && is_integer from && null
    || is_pointer to && is_pointer from && (is_same_type to from || is_pointer_to_void to || is_pointer_to_void from)

-- a pointer and an index, in either order (C99 6.5.2.1)
abbrev pub is_element : List StructDef → (ty left right : PlainType) → Bool
is_element ds ty left right =
    points_to ds ty left && is_integer right || is_integer left && points_to ds ty right

-- a member of a complete struct (C99 6.5.2.3)
abbrev pub has_member_type : Option Member → PlainType → Bool
has_member_type None ty = false
has_member_type (Some m) ty = is_same_type (type_view m.ty) ty

abbrev pub is_member : List StructDef → (ty struct : PlainType) → (member : ℕ) → Bool
is_member ds ty (Struct n) member =
    is_complete (slice_get ds n) && has_member_type (struct_member (slice_get ds n) member) ty
is_member ds ty _ member = false

abbrev pub target_of : PlainType → PlainType
target_of (Pointer target) = target
target_of ty = Void

-- ---- what names name

-- the types of a function's result and parameters
pub record Signature : Type 0 where
  pub result : PlainType
  pub params : List PlainType

-- what the numbers of an expression name: the structs, objects and functions of the unit, and the locals of the
-- function in which it stands
pub record Context : Type 0 where
  pub structs : List StructDef
  pub globals : List DataObject
  pub functions : List Signature
  pub locals : List l.Local

abbrev pub callee_signature : Context → Callee → Option Signature
callee_signature c (Function n) = slice_get c.functions n
callee_signature c (Builtin Putchar) = Some (record { result = int; params = int ∷ [] })
callee_signature c (Builtin Getchar) = Some (record { result = int; params = [] })
callee_signature c (Builtin Abort) = Some (record { result = Void; params = [] })
callee_signature c (Builtin Exit) = Some (record { result = Void; params = int ∷ [] })

-- a local has its type; of an object the bytes are kept and not the type, so it has as many as its type asks
abbrev pub has_local_type : Option l.Local → PlainType → Bool
has_local_type None ty = false
has_local_type (Some l) ty = is_same_type (type_view l.ty) ty

abbrev pub has_global_type : List StructDef → Option DataObject → PlainType → Bool
has_global_type ds None ty = false
has_global_type ds (Some o) ty = is_object ds ty && size_of ds ty == o.size

-- each argument has the type of its parameter (C99 6.5.2.2)
abbrev pub are_arguments : List PlainType → Exprs → Bool
are_arguments [] no_exprs = true
are_arguments [] (more_exprs x xs) = false
are_arguments (t ∷ ts) no_exprs = false
are_arguments (t ∷ ts) (more_exprs x xs) = is_same_type (type_of x) t && are_arguments ts xs

abbrev pub is_call : Option Signature → PlainType → Exprs → Bool
is_call None ty xs = false
is_call (Some f) ty xs = is_same_type f.result ty && are_arguments f.params xs

-- ---- places (C99 6.3.2.1)

abbrev pub is_place : Expr → Bool
is_place (Local ty k) = true
is_place (Global ty k) = true
is_place (Unary ty u.Dereference x) = true
is_place (Index ty x y) = true
is_place (Field ty x member) = is_place x
is_place (Arrow ty x member) = true
is_place _ = false

-- a place that is an object of memory, or a part of one: all but a local that a register holds
abbrev pub is_memory_local : Option l.Local → Bool
is_memory_local None = false
is_memory_local (Some l) = l.in_memory

abbrev pub is_in_memory : List l.Local → Expr → Bool
is_in_memory ls (Local ty k) = is_memory_local (slice_get ls k)
is_in_memory ls (Field ty x member) = is_in_memory ls x
is_in_memory ls x = is_place x

-- ---- expressions

-- the operands of commas: two or more, each a value, the last one of the type of the whole (C99 6.5.17)
abbrev pub has_last_type : PlainType → (last : PlainType) → Exprs → Bool
has_last_type ty last no_exprs = is_same_type last ty && not (is_array last)
has_last_type ty last (more_exprs x xs) = not (is_array last) && has_last_type ty (type_of x) xs

abbrev pub are_operands : PlainType → Exprs → Bool
are_operands ty no_exprs = false
are_operands ty (more_exprs x no_exprs) = false
are_operands ty (more_exprs x (more_exprs y ys)) = has_last_type ty (type_of x) (more_exprs y ys)

-- a number is a word as its type holds it
abbrev pub is_number_of : Option IntegerType → ℕ → Bool
is_number_of None n = false
is_number_of (Some t) n = is_word t n

-- an operator in front of an operand (C99 6.5.3)
abbrev pub has_unary_type : List StructDef → List l.Local → UnaryOp → (ty : PlainType) → Expr → Bool
has_unary_type ds ls u.Increment ty x = has_step_type ds ty (type_of x) && is_place x
has_unary_type ds ls u.Decrement ty x = has_step_type ds ty (type_of x) && is_place x
has_unary_type ds ls u.Address ty x = is_same_type ty (Pointer (type_of x)) && is_in_memory ls x
has_unary_type ds ls u.Dereference ty x = points_to ds ty (type_of x)
has_unary_type ds ls u.Plus ty x = has_promoted_type ty (type_of x)
has_unary_type ds ls u.Minus ty x = has_promoted_type ty (type_of x)
has_unary_type ds ls u.Invert ty x = has_promoted_type ty (type_of x)
has_unary_type ds ls u.Not ty x = has_truth_type ty (type_of x)

-- the rule of each form, beside that its parts are well typed
abbrev pub has_rule : Context → Expr → Bool
has_rule c (Number ty n) = is_number_of (integer_of ty) n
has_rule c (Local ty k) = has_local_type (slice_get c.locals k) ty
has_rule c (Global ty k) = has_global_type c.structs (slice_get c.globals k) ty
has_rule c (Call ty callee xs) = is_call (callee_signature c callee) ty xs
has_rule c (Unary ty op x) = has_unary_type c.structs c.locals op ty x
has_rule c (Binary ty op x y) = has_binary_type c.structs op ty (type_of x) (type_of y)
has_rule c (Assign ty op x y) =
    is_place x && is_same_type (type_of x) ty && has_assigned_type c.structs op (type_of x) (type_of y)
has_rule c (Conditional ty x y z) = is_choice ty (type_of x) (type_of y) (type_of z)
has_rule c (Cast ty x) = is_cast ty (type_of x) (is_null_constant x)
has_rule c (Convert ty x) = is_conversion ty (type_of x) (is_null_constant x) (is_place x)
has_rule c (Index ty x y) = is_element c.structs ty (type_of x) (type_of y)
has_rule c (Field ty x member) = is_place x && is_member c.structs ty (type_of x) member
has_rule c (Arrow ty x member) = is_member c.structs ty (target_of (type_of x)) member
has_rule c (Postfix ty op x) = has_step_type c.structs ty (type_of x) && is_place x
has_rule c (Comma ty xs) = are_operands ty xs

-- the type of each expression is one of the unit, the rule of its form holds, and its parts are well typed
abbrev mutual
  pub is_typed : Context → Expr → Bool
  is_typed c (Number ty n) = is_fit c.structs ty && has_rule c (Number ty n)
  is_typed c (Local ty k) = is_fit c.structs ty && has_rule c (Local ty k)
  is_typed c (Global ty k) = is_fit c.structs ty && has_rule c (Global ty k)
  is_typed c (Call ty callee xs) = is_fit c.structs ty && has_rule c (Call ty callee xs) && are_typed c xs
  is_typed c (Unary ty op x) = is_fit c.structs ty && has_rule c (Unary ty op x) && is_typed c x
  is_typed c (Binary ty op x y) =
      is_fit c.structs ty && has_rule c (Binary ty op x y) && is_typed c x && is_typed c y
  is_typed c (Assign ty op x y) =
      is_fit c.structs ty && has_rule c (Assign ty op x y) && is_typed c x && is_typed c y
  is_typed c (Conditional ty x y z) =
      is_fit c.structs ty && has_rule c (Conditional ty x y z) && is_typed c x && is_typed c y && is_typed c z
  is_typed c (Cast ty x) = is_fit c.structs ty && has_rule c (Cast ty x) && is_typed c x
  is_typed c (Convert ty x) = is_fit c.structs ty && has_rule c (Convert ty x) && is_typed c x
  is_typed c (Index ty x y) = is_fit c.structs ty && has_rule c (Index ty x y) && is_typed c x && is_typed c y
  is_typed c (Field ty x member) = is_fit c.structs ty && has_rule c (Field ty x member) && is_typed c x
  is_typed c (Arrow ty x member) = is_fit c.structs ty && has_rule c (Arrow ty x member) && is_typed c x
  is_typed c (Postfix ty op x) = is_fit c.structs ty && has_rule c (Postfix ty op x) && is_typed c x
  is_typed c (Comma ty xs) = is_fit c.structs ty && has_rule c (Comma ty xs) && are_typed c xs

  pub are_typed : Context → Exprs → Bool
  are_typed c no_exprs = true
  are_typed c (more_exprs x xs) = is_typed c x && are_typed c xs
