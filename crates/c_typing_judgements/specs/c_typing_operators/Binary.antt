-- Operators between operands, elements and choices (C99 6.5.2.1, 6.5.5 to 6.5.15). Each operand is a value.
use Rattle.std.specs.Prelude.{ℕ, List, Ok, Err}
use Rattle.c_tree.specs.declared.expressions.BinaryOp.{BinaryOp}
use Rattle.c_tree.specs.declared.expressions.BinaryOp.TheVariants as b
use Rattle.c_typed_tree.specs.declared.types.StructDef.{StructDef}
use Rattle.c_typed_tree.specs.declared.expressions.TExpr.{TExpr}
use Rattle.c_typing_rules.specs.declared.typed.TypedExpression.{TypedExpression}
use Rattle.c_typing_rules.specs.Rulings.{Ruling}
use Rattle.c_typing_rules.specs.Arithmetic.{arithmetic, bitwise_shift, addition, subtraction}
use Rattle.c_typing_rules.specs.Comparisons.{logical, comparison, condition}
use Rattle.c_typing_rules.specs.Conversions.{decay, equality_test, choice}
use Rattle.c_typing_place_rules.specs.Places.{index}
use Rattle.c_typing_judgements.specs.c_typing_operators.Null.{is_null_for}

abbrev pub equal : ℕ → BinaryOp → (left right : TypedExpression) → Ruling TypedExpression
equal at op x y = equality_test at op x y (is_null_for y.ty x) (is_null_for x.ty y)

abbrev pub binary_operation : List StructDef → ℕ → BinaryOp → (left right : TypedExpression) → Ruling TypedExpression
binary_operation ds at b.LogicalOr x y = logical at b.LogicalOr x y
binary_operation ds at b.LogicalAnd x y = logical at b.LogicalAnd x y
binary_operation ds at b.Or x y = arithmetic at b.Or x y
binary_operation ds at b.Xor x y = arithmetic at b.Xor x y
binary_operation ds at b.And x y = arithmetic at b.And x y
binary_operation ds at b.Equal x y = equal at b.Equal x y
binary_operation ds at b.NotEqual x y = equal at b.NotEqual x y
binary_operation ds at b.Less x y = comparison at b.Less x y
binary_operation ds at b.Greater x y = comparison at b.Greater x y
binary_operation ds at b.LessEqual x y = comparison at b.LessEqual x y
binary_operation ds at b.GreaterEqual x y = comparison at b.GreaterEqual x y
binary_operation ds at b.ShiftLeft x y = bitwise_shift at b.ShiftLeft x y
binary_operation ds at b.ShiftRight x y = bitwise_shift at b.ShiftRight x y
binary_operation ds at b.Add x y = addition ds at x y
binary_operation ds at b.Subtract x y = subtraction ds at x y
binary_operation ds at b.Multiply x y = arithmetic at b.Multiply x y
binary_operation ds at b.Divide x y = arithmetic at b.Divide x y
binary_operation ds at b.Remainder x y = arithmetic at b.Remainder x y

abbrev pub binary_ruling : List StructDef → ℕ → BinaryOp → (left right : TypedExpression) → Ruling TypedExpression
binary_ruling ds at op x y = binary_operation ds at op (decay x) (decay y)

abbrev pub subscript : List StructDef → ℕ → (left right : TypedExpression) → Ruling TypedExpression
subscript ds at x y = index ds at (decay x) (decay y)

-- ---- `?:`, whose arms are judged where its condition is without fault

abbrev pub condition_tree : TypedExpression → Ruling TExpr
condition_tree c = condition (decay c)

abbrev pub between_values : ℕ → TExpr → (holds fails : TypedExpression) → Ruling TypedExpression
between_values at c x y = choice at c x y (is_null_for y.ty x) (is_null_for x.ty y)

abbrev pub between_arms : ℕ → TExpr → (holds fails : TypedExpression) → Ruling TypedExpression
between_arms at c x y = between_values at c (decay x) (decay y)

abbrev pub conditional_on : ℕ → Ruling TExpr → (holds fails : TypedExpression) → Ruling TypedExpression
conditional_on at (Ok c) x y = between_arms at c x y
conditional_on at (Err f) x y = Err f

abbrev pub conditional_ruling : ℕ → (condition holds fails : TypedExpression) → Ruling TypedExpression
conditional_ruling at c x y = conditional_on at (condition_tree c) x y
