-- Null pointer constants (C99 6.3.2.3).
use Rattle.std.specs.Prelude.{Bool, false, ◌||◌, if◌then◌else◌}
use Rattle.c_typed_tree.specs.Types.{PlainType}
use Rattle.c_typed_tree.specs.Expressions.{Expr, Cast, Convert, type_of}
use Rattle.c_typed_tree.specs.Constants.{is_integer, is_null_constant}
use Rattle.c_typed_tree.specs.Typing.{is_pointer, is_pointer_to_void}

-- the integer constant 0, cast to `void *`
abbrev pub is_null_cast : PlainType → Expr → Bool
is_null_cast ty e = if is_pointer_to_void ty then is_null_constant e else false

abbrev pub is_null_void : Expr → Bool
is_null_void (Cast ty e) = is_null_cast ty e
is_null_void _ = false

-- the integer constant 0, or that one cast to `void *`
abbrev pub is_null_pointer_constant : Expr → Bool
is_null_pointer_constant e = is_null_constant e || is_null_void e

-- A null pointer as an initialiser may have it (C99 6.6p7): the integer constant 0 that is cast or converted to a pointer
-- type, maybe through several.
abbrev pub is_null_pointer : Expr → Bool
is_null_pointer (Cast ty e) =
    if is_pointer ty then if is_integer (type_of e) then is_null_constant e else is_null_pointer e else false
is_null_pointer (Convert ty e) =
    if is_pointer ty then if is_integer (type_of e) then is_null_constant e else is_null_pointer e else false
is_null_pointer _ = false
