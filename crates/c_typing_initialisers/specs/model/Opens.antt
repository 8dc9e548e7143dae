-- The definitions of initialisers, as one name that opens them.
use denote.Hole.Carrier as Carrier
use Rattle.c_tree.specs.declared.expressions.Expr.TheBlock as k
use Rattle.c_tree.specs.declared.declarations.Init.TheBlock as i
use Rattle.c_typing_initialisers.specs.Unfit.{judge_init}
use Rattle.c_typing_initialisers.specs.Values.{text_in}
use Rattle.c_typing_initialisers.specs.Initialisers.{initialise, row_length, length_given}

unfoldable pub opens : Unit {0}
unfolding judge_init text_in initialise row_length length_given k.hidden-the_row-Expr-0 k.hidden-the_row-Expr-1 k.hidden-the_row-TypeName-2 k.hidden-the_row-Constant-3 k.hidden-the_row-Declaration-4 k.hidden-the_row-TypeNode-5 k.hidden-the_row-Parameter-6 i.hidden-the_row-Init-0 Carrier.hidden
opens = tt
