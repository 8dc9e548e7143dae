-- Operators in front of an operand (C99 6.5.3). The operand of `&`, `++` and `--` is a place, and no value.
use Rattle.std.specs.Prelude.{ℕ, List}
use Rattle.c_tree.specs.declared.expressions.UnaryOp.{UnaryOp}
use Rattle.c_tree.specs.declared.expressions.UnaryOp.TheVariants as u
use Rattle.c_typed_tree.specs.declared.types.StructDef.{StructDef}
use Rattle.c_typing_rules.specs.declared.typed.TypedExpression.{TypedExpression}
use Rattle.c_typing_rules.specs.Rulings.{Ruling}
use Rattle.c_typing_rules.specs.Arithmetic.{unary_arithmetic}
use Rattle.c_typing_rules.specs.Comparisons.{not_operation}
use Rattle.c_typing_rules.specs.Conversions.{decay}
use Rattle.c_typing_place_rules.specs.Places.{address, dereference, step_before}

abbrev pub indirection : List StructDef → ℕ → TypedExpression → Ruling TypedExpression
indirection ds at a = dereference ds at (decay a)

abbrev pub prefix_arithmetic : ℕ → UnaryOp → TypedExpression → Ruling TypedExpression
prefix_arithmetic at op a = unary_arithmetic at op (decay a)

abbrev pub logical_not : ℕ → TypedExpression → Ruling TypedExpression
logical_not at a = not_operation at (decay a)

abbrev pub unary_ruling : List StructDef → ℕ → UnaryOp → TypedExpression → Ruling TypedExpression
unary_ruling ds at u.Increment a = step_before ds at u.Increment a
unary_ruling ds at u.Decrement a = step_before ds at u.Decrement a
unary_ruling ds at u.Address a = address at a
unary_ruling ds at u.Dereference a = indirection ds at a
unary_ruling ds at u.Plus a = prefix_arithmetic at u.Plus a
unary_ruling ds at u.Minus a = prefix_arithmetic at u.Minus a
unary_ruling ds at u.Invert a = prefix_arithmetic at u.Invert a
unary_ruling ds at u.Not a = logical_not at a
