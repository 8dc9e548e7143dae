-- Null pointer constants (C99 6.3.2.3): the integer constant 0, and that one cast to `void *`.
use Rattle.std.specs.Prelude.{Bool, false, if◌then◌else◌}
use Rattle.c_typed_tree.specs.declared.types.CType.{CType}
use Rattle.c_typed_tree.specs.declared.expressions.TExpr.{TExpr}
use Rattle.c_typed_tree.specs.View.{type_view, expr_view}
use Rattle.c_typed_tree.specs.Constants.{is_integer, is_null_constant}
use Rattle.c_typed_tree.specs.Typing.{is_pointer}
use Rattle.c_typing_constants.specs.Null.{is_null_void}
use Rattle.c_typing_rules.specs.declared.typed.TypedExpression.{TypedExpression}
use Rattle.c_typing_rules.specs.Rulings.{Ruling}
use Rattle.c_typing_rules.specs.Conversions.{decay, value_for_type}

abbrev pub is_null_value : TypedExpression → Bool
is_null_value a =
    if is_integer (type_view a.ty) then is_null_constant (expr_view a.tree) else is_null_void (expr_view a.tree)

-- it is asked where a type is a pointer's
abbrev pub is_null_for : CType → TypedExpression → Bool
is_null_for to a = if is_pointer (type_view to) then is_null_value a else false

-- a value where one of a type is wanted: an argument, an initialiser, the operand of `return` (6.5.16.1)
abbrev pub value_or_null : CType → TypedExpression → Ruling TExpr
value_or_null to a = value_for_type to a (is_null_for to a)

abbrev pub take_value : CType → TypedExpression → Ruling TExpr
take_value to a = value_or_null to (decay a)
