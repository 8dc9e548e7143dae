-- Typed expressions are at most three times as high as the trees that they are of: of each node come at most three that
-- stand one under the other, which are the node itself, an array that becomes a pointer, and a conversion.
use Rattle.std.specs.Prelude.{ℕ, ◌+◌, ◌*◌, ◌≤◌, IfSome}
use Rattle.c_tree.specs.declared.expressions.Expr.{Expr}
use Rattle.c_tree.specs.Nodes.{expr_node, node_height}
use Rattle.c_typed_tree.specs.declared.expressions.TExpr.{TExpr}
use Rattle.c_typed_tree.specs.View.{expr_view}
use Rattle.c_typed_tree.specs.c_typed_height.Heights.{expr_height}
use Rattle.c_typing_judgements.specs.Types.{JudgementState}
use Rattle.c_typing_expressions.specs.Expressions.{judge}

-- a tree is within three nodes for each of so many levels, with room for more nodes above it
abbrev pub IsWithin : (room levels : ℕ) → TExpr → Type 0
IsWithin room levels tree = expr_height (expr_view tree) + room ≤ 3 * levels

-- what becomes of the value where it is used has room above it
abbrev pub ExpressionsAreWithin : Type 0
ExpressionsAreWithin =
    (x : Expr) (s : JudgementState) → IfSome (judge x s).0 (λ a. IsWithin 2 (node_height (expr_node x)) a.tree)
