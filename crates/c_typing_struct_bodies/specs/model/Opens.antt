-- The definitions of bodies, as one name that opens them.
use denote.Hole.Carrier as Carrier
use Rattle.c_tree.specs.declared.expressions.Expr.TheBlock as k
use Rattle.c_typing_struct_bodies.specs.Enums.{judge_constant_row}
use Rattle.c_typing_struct_bodies.specs.Bodies.{bodies}

unfoldable pub opens : Unit {0}
unfolding bodies judge_constant_row k.hidden-the_row-Expr-0 k.hidden-the_row-Expr-1 k.hidden-the_row-TypeName-2 k.hidden-the_row-Constant-3 k.hidden-the_row-Declaration-4 k.hidden-the_row-TypeNode-5 k.hidden-the_row-Parameter-6 Carrier.hidden
opens = tt
