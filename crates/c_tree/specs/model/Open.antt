-- The definitions of the nodes, as one name that opens them.
use denote.Hole.Carrier as Carrier
use Rattle.c_tree.specs.declared.expressions.Expr.TheBlock as k
use Rattle.c_tree.specs.declared.statements.Stmt.TheBlock as b
use Rattle.c_tree.specs.declared.declarations.Init.TheBlock as i
use Rattle.c_tree.specs.Nodes.{expr_node, stmt_node, init_node}

unfoldable pub opens : Unit {0}
unfolding expr_node stmt_node init_node k.hidden-the_row-Expr-0 k.hidden-the_row-Expr-1 k.hidden-the_row-TypeName-2 k.hidden-the_row-Constant-3 k.hidden-the_row-Declaration-4 k.hidden-the_row-TypeNode-5 k.hidden-the_row-Parameter-6 b.hidden-the_row-Stmt-0 b.hidden-the_row-Stmt-1 b.hidden-the_row-Section-2 i.hidden-the_row-Init-0 Carrier.hidden
opens = tt
