-- What looks into a type as it is spelled, as one name that opens it.
use denote.Hole.Carrier as Carrier
use Rattle.c_tree.specs.declared.expressions.Expr.TheBlock as k
use Rattle.c_typing_definitions.specs.Definitions.{is_function}

unfoldable pub opens : Unit {0}
unfolding is_function k.hidden-the_row-Expr-0 k.hidden-the_row-Expr-1 k.hidden-the_row-TypeName-2 k.hidden-the_row-Constant-3 k.hidden-the_row-Declaration-4 k.hidden-the_row-TypeNode-5 k.hidden-the_row-Parameter-6 Carrier.hidden
opens = tt
