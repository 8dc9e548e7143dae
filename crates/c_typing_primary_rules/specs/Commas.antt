-- The comma operator (C99 6.5.17): the value of the last operand is that of all.
use Rattle.std.specs.Prelude.{ℕ, List, [], ◌∷◌, ◌++◌}
use Rattle.c_typed_tree.specs.declared.types.CType as t
use Rattle.c_typed_tree.specs.declared.expressions.TExpr as x
use Rattle.c_typing_rules.specs.declared.typed.TypedExpression.{TypedExpression}
use Rattle.c_typing_rules.specs.Conversions.{decay}
use Rattle.c_typing_rules.specs.Values.{rvalue}
use Rattle.c_typing_primary_rules.specs.declared.commas.CommaOperands.{CommaOperands}

-- the trees of operands in their order, and the type of the last
abbrev pub no_operands : CommaOperands
no_operands = record { trees = []; last = t.Void }

abbrev pub with_operand : TypedExpression → CommaOperands → CommaOperands
with_operand a g = record { trees = g.trees ++ a.tree ∷ []; last = a.ty }

-- each operand is a value
abbrev pub comma_operands : CommaOperands → List TypedExpression → CommaOperands
comma_operands g [] = g
comma_operands g (a ∷ rest) = comma_operands (with_operand (decay a) g) rest

abbrev pub comma_tree : ℕ → CommaOperands → TypedExpression
comma_tree at g = rvalue at g.last (x.Comma g.last g.trees)

abbrev pub comma_value : ℕ → List TypedExpression → TypedExpression
comma_value at operands = comma_tree at (comma_operands no_operands operands)
