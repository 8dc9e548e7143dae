-- The parameters that code sees are those of the row that the definition goes over.
use Rattle.std.proofs.Common.{◌≡◌, List}
use Rattle.c_tree.specs.declared.expressions.Expr.TheBlock as k
use Rattle.c_tree.specs.declared.types.TypeNode as n
use Rattle.c_tree.specs.declared.types.Parameter.{Parameter}
use denote.Hole.Carrier as Carrier
use Rattle.c_typing_statements.specs.c_typing_function_bodies.Functions.{parameters_of}

pub parameters_of_takes : (x : n.TypeNode) (list : List Parameter) → parameters_of (n.Takes x list) ≡ list
unfolding parameters_of k.hidden-the_row-Parameter-6 k.hidden-the_row-TypeNode-5 Carrier.hidden
parameters_of_takes x list = k.items_hidden-the_row-Parameter-6 list
