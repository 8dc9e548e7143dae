-- What looks into a type or an initialiser, as one name that opens it.
use denote.Hole.Carrier as Carrier
use Rattle.c_tree.specs.declared.expressions.Expr.TheBlock as k
use Rattle.c_tree.specs.declared.declarations.Init.TheBlock as i
use Rattle.c_typing_declarations.specs.Functions.{is_list, name_row, defined_type}

unfoldable pub opens : Unit {0}
unfolding is_list name_row defined_type k.hidden-the_row-Expr-0 k.hidden-the_row-Expr-1 k.hidden-the_row-TypeName-2 k.hidden-the_row-Constant-3 k.hidden-the_row-Declaration-4 k.hidden-the_row-TypeNode-5 k.hidden-the_row-Parameter-6 i.hidden-the_row-Init-0 Carrier.hidden
opens = tt
