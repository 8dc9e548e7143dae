-- The definitions of statements, as one name that opens them.
use denote.Hole.Carrier as Carrier
use Rattle.c_tree.specs.declared.statements.Stmt.TheBlock as b
use Rattle.c_typing_statements.specs.Statements.{statement}

unfoldable pub opens : Unit {0}
unfolding statement b.hidden-the_row-Stmt-0 b.hidden-the_row-Stmt-1 b.hidden-the_row-Section-2 Carrier.hidden
opens = tt
