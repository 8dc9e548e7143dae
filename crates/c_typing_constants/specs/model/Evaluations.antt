-- What is known of an expression as a constant, form by form.
use Rattle.std.specs.Prelude.{ℕ, Bool, true, false, not, ◌&&◌, ◌==◌, Option, Some, None, option_map, option_and_then, if◌then◌else◌}
use Rattle.bk_arithmetic.specs.declared.integer_type.IntegerType.{IntegerType}
use Rattle.bk_arithmetic.specs.Operations.{truth}
use Rattle.c_tree.specs.declared.expressions.UnaryOp.{UnaryOp}
use Rattle.c_tree.specs.declared.expressions.BinaryOp.{BinaryOp}
use Rattle.c_typed_tree.specs.Types.{PlainType}
use Rattle.c_typed_tree.specs.Expressions.{Expr, Exprs, no_exprs, more_exprs, type_of}
use Rattle.c_typed_tree.specs.Layout.{integer_of}
use Rattle.c_typed_tree.specs.Constants.{unary_value, binary_value, converted_value, is_pure_operator, is_integer, is_built, choice_value, value_with, constant}
use Rattle.c_typing_constants.specs.declared.evaluation.Evaluation.{Evaluation}

abbrev pub evaluation : Expr → Evaluation
evaluation e = record { ty = integer_of (type_of e); built = is_built e; value = constant e }

-- ---- the forms

abbrev pub number : PlainType → ℕ → Evaluation
number ty word = record { ty = integer_of ty; built = is_integer ty; value = if is_integer ty then Some word else None }

abbrev pub no_constant : PlainType → Evaluation
no_constant ty = record { ty = integer_of ty; built = false; value = None }

abbrev pub value_behind : UnaryOp → Evaluation → Option ℕ
value_behind op x = option_and_then (unary_value op x.ty) x.value

abbrev pub unary : PlainType → UnaryOp → Evaluation → Evaluation
unary ty op x = record {
  ty = integer_of ty;
  built = is_integer ty && is_pure_operator op && x.built;
  value = value_behind op x;
}

abbrev pub truth_of : Option ℕ → Option ℕ
truth_of y = option_map (λ n. truth (not (n == 0))) y

abbrev pub value_of_both : BinaryOp → Evaluation → Evaluation → Option ℕ
value_of_both op x y = option_and_then (λ n. option_and_then (binary_value op x.ty y.ty n) y.value) x.value

abbrev pub value_between : BinaryOp → Evaluation → Evaluation → Option ℕ
value_between op x y = value_with op x.ty y.ty x.value y.built y.value

abbrev pub binary : PlainType → BinaryOp → Evaluation → Evaluation → Evaluation
binary ty op x y = record {
  ty = integer_of ty;
  built = is_integer ty && x.built && y.built;
  value = value_between op x y;
}

abbrev pub conditional : PlainType → Evaluation → Evaluation → Evaluation → Evaluation
conditional ty x y z = record {
  ty = integer_of ty;
  built = is_integer ty && x.built && y.built && z.built;
  value = choice_value x.value (y.built && z.built) y.value z.value;
}

abbrev pub value_in : Option IntegerType → Evaluation → Option ℕ
value_in ty x = option_and_then (converted_value x.ty ty) x.value

abbrev pub evaluation_in : PlainType → Evaluation → Evaluation
evaluation_in ty x = record { ty = integer_of ty; built = is_integer ty && x.built; value = value_in (integer_of ty) x }

-- ---- the operands of commas

abbrev pub value_after : Evaluation → Evaluation → Option ℕ
value_after all next = option_and_then (λ _. next.value) all.value

abbrev pub sequence : Evaluation → Evaluation → Evaluation
sequence all next = record { ty = next.ty; built = all.built && next.built; value = value_after all next }

abbrev pub start : Evaluation
start = record { ty = None; built = true; value = Some 0 }

abbrev pub last_from : Evaluation → Exprs → Evaluation
last_from all no_exprs = all
last_from all (more_exprs x xs) = last_from (sequence all (evaluation x)) xs

abbrev pub is_nothing : Exprs → Bool
is_nothing no_exprs = true
is_nothing (more_exprs x xs) = false

abbrev pub value_of_last : (nothing : Bool) → Evaluation → Option ℕ
value_of_last nothing all = if nothing then None else all.value

abbrev pub comma : PlainType → (nothing : Bool) → Evaluation → Evaluation
comma ty nothing all = record {
  ty = integer_of ty;
  built = is_integer ty && all.built;
  value = value_of_last nothing all;
}
