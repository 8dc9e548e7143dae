-- How much higher the rules make an expression.
use Rattle.std.proofs.Common.{◌≤◌, ◌+◌, ℕ, Bool, true, false, ◌&&◌, ◌==◌, List, Option, Some, None, if◌then◌else◌, arith}
use Rattle.c_tree.specs.declared.expressions.BinaryOp.{BinaryOp}
use Rattle.c_tree.specs.declared.expressions.BinaryOp.TheVariants as b
use Rattle.c_typed_tree.specs.Types.{PlainType}
use Rattle.c_typed_tree.specs.Expressions.{Expr, Number, Binary, Conditional, Convert, type_of}
use Rattle.c_typed_tree.specs.declared.units.Local.{Local}
use Rattle.c_typed_tree.specs.Constants.{is_integer, constant}
use Rattle.c_typed_tree.specs.Typing.{is_same_type}
use Rattle.c_typed_tree.specs.c_typed_height.Heights.{expr_height}
use Rattle.c_rewrite_rules.specs.Rules.{is_literal_with, keeps_left, keeps_right, is_zero_product, first_operand, is_left_out, simplified_twice, simplified, literal_of, is_over_literals, literal_or, folded, arm_by, truth_of, pruned_binary, pruned}
use Rattle.c_rewrite_rules.specs.model.NodeLaws.{tall}

pub folded_low : (x : Expr) → expr_height (folded x) ≤ expr_height x + 0
folded_low x = by (is_over_literals x) (constant x)
  where
    by : (t : Bool) (v : Option ℕ) → expr_height (if t then literal_or x v else x) ≤ expr_height x + 0
    by true (Some n) = omega (arith, tall x)
    by true None = omega arith
    by false v = omega arith

-- an arm is no higher than the whole, with a bound for each
arm_low : (o : Option ℕ) (whole y z : Expr) (most : ℕ) → expr_height whole ≤ most → expr_height y ≤ most → expr_height z ≤ most
    → expr_height (arm_by o whole y z) ≤ most
arm_low None whole y z most h g k = h
arm_low (Some n) whole y z most h g k = by (n == 0)
  where
    by : (t : Bool) → expr_height (if t then z else y) ≤ most
    by true = k
    by false = g

binary_low : (ty : PlainType) (op : BinaryOp) (x y : Expr) → expr_height (pruned_binary ty op x y) ≤ expr_height (Binary ty op x y) + 1
binary_low ty b.LogicalAnd x y =
    arm_low (literal_of x) (Binary ty b.LogicalAnd x y) (truth_of ty y) (Number ty 0) _ (omega arith) (omega arith) (omega arith)
binary_low ty b.LogicalOr x y =
    arm_low (literal_of x) (Binary ty b.LogicalOr x y) (Number ty 1) (truth_of ty y) _ (omega arith) (omega arith) (omega arith)
binary_low ty op x y = omega arith

pub pruned_low : (x : Expr) → expr_height (pruned x) ≤ expr_height x + 1
pruned_low (Conditional ty x y z) = arm_low (literal_of x) (Conditional ty x y z) y z _ (omega arith) (omega arith) (omega arith)
pruned_low (Binary ty op x y) = binary_low ty op x y
pruned_low x = omega arith

-- ---- Simplify

by_rows : (p q r : Bool) (x y z w : Expr) (most : ℕ) → expr_height x ≤ most → expr_height y ≤ most → expr_height z ≤ most → expr_height w ≤ most
    → expr_height (if p then x else if q then y else if r then z else w) ≤ most
by_rows true q r x y z w most h g k l = h
by_rows false true r x y z w most h g k l = g
by_rows false false true x y z w most h g k l = k
by_rows false false false x y z w most h g k l = l

either_low : (p : Bool) (x y : Expr) (most : ℕ) → expr_height x ≤ most → expr_height y ≤ most → expr_height (if p then x else y) ≤ most
either_low true x y most h g = h
either_low false x y most h g = g

first_low : (x : Expr) → expr_height (first_operand x) ≤ expr_height x
first_low (Convert ty x) = omega arith
first_low x = omega arith

pub simplified_low : (ls : List Local) (x : Expr) → expr_height (simplified ls x) ≤ expr_height x + 0
simplified_low ls (Binary ty op x y) =
    by_rows (is_literal_with (keeps_left op) y) (is_literal_with (keeps_right op) x) (is_zero_product ls op x y) x y (Number ty 0) (Binary ty op x y) _
    (omega arith) (omega arith) (omega arith) (omega arith)
simplified_low ls (Convert ty x) =
    let h = first_low x in
    either_low (is_integer ty && is_same_type (type_of x) ty) x (simplified_twice ty x) _ (omega arith)
    (either_low (is_left_out ty x) (Convert ty (first_operand x)) (Convert ty x) _ (omega (arith, h)) (omega arith))
simplified_low ls x = omega arith
