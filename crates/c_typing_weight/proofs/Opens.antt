-- One name that opens the views and the weight of statements.
use Rattle.c_typed_tree.specs.Weight.{stmt_weight}
use Rattle.c_typed_tree.specs.model.View.{opens}

unfoldable pub statements : Unit {0}
unfolding opens stmt_weight
statements = tt
