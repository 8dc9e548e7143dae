-- What stars, lengths and lists of parameters make of a type (C99 6.7.5.1 to 6.7.5.3); None where there is no such
-- type.
use Rattle.std.specs.Prelude.{ℕ, if◌then◌else◌, List, Option, Some, None}
use Rattle.c_typed_tree.specs.declared.types.CType as t
use Rattle.c_typed_tree.specs.declared.types.StructDef.{StructDef}
use Rattle.c_typed_tree.specs.Layout.{is_object}
use Rattle.c_typed_tree.specs.Typing.{is_void, is_scalar}
use Rattle.c_typed_tree.specs.View.{type_view}
use Rattle.c_typing_rules.specs.declared.c_typing_declared_types.declared.DeclaredType.{DeclaredType}
use Rattle.c_typing_rules.specs.declared.c_typing_declared_types.declared.DeclaredType.TheVariants as d

-- there are no pointers to functions here
abbrev pub pointer_to : DeclaredType → Option DeclaredType
pointer_to (d.Value ty) = Some (d.Value (t.Pointer ty))
pointer_to (d.Unsized element) = None
pointer_to (d.Function of parameters) = None

-- the elements of an array are objects, it has one at least, and it is no larger than the data may be
abbrev pub array_with : List StructDef → t.CType → ℕ → Option DeclaredType
array_with ds ty length =
    if is_object ds (type_view (t.Array ty length)) then Some (d.Value (t.Array ty length)) else None

abbrev pub array_without : List StructDef → t.CType → Option DeclaredType
array_without ds ty = if is_object ds (type_view ty) then Some (d.Unsized ty) else None

abbrev pub array_of : List StructDef → DeclaredType → (length : Option ℕ) → Option DeclaredType
array_of ds (d.Value ty) None = array_without ds ty
array_of ds (d.Value ty) (Some length) = array_with ds ty length
array_of ds (d.Unsized element) length = None
array_of ds (d.Function of parameters) length = None

-- a parameter is a scalar, once an array has become a pointer to its first element
unfoldable pub parameter_value : t.CType → Option t.CType
parameter_value t.Void = None
parameter_value (t.Int bytes signed) = Some (t.Int bytes signed)
parameter_value (t.Pointer' _ (t.more_of-CType x t.end_of-CType)) = Some (t.Pointer x)
parameter_value (t.Array' _ (t.more_of-CType x t.end_of-CType) length) = Some (t.Pointer x)
parameter_value (t.Struct number) = None

abbrev pub adjusted_parameter : DeclaredType → Option t.CType
adjusted_parameter (d.Value ty) = parameter_value ty
adjusted_parameter (d.Unsized element) = Some (t.Pointer element)
adjusted_parameter (d.Function of parameters) = None

-- the result of a function is void or a scalar
abbrev pub function_with : t.CType → List t.CType → Option DeclaredType
function_with ty parameters =
    if is_void (type_view ty) then Some (d.Function ty parameters)
    else if is_scalar (type_view ty) then Some (d.Function ty parameters)
    else None

abbrev pub function_of : DeclaredType → List t.CType → Option DeclaredType
function_of (d.Value ty) parameters = function_with ty parameters
function_of (d.Unsized element) parameters = None
function_of (d.Function of more) parameters = None
