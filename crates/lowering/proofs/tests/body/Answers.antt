-- A block of no statements.
use Rattle.std.proofs.Common.{◌≡◌, sym, subst, []}
use Rattle.c_typed_tree.specs.declared.statements.TStmt as s
use Rattle.c_typed_tree.specs.Statements.{Block, no_stmts}
use Rattle.c_typed_tree.specs.View.{stmt_view}
use Rattle.c_typed_tree.proofs.Views.{view_block}
use Rattle.lowering.proofs.tests.body.Goals as goal

pub returns : goal.returns
returns c = subst (λ l. stmt_view (s.Block l) ≡ Block no_stmts) (sym c.new.ensures) (view_block [])
