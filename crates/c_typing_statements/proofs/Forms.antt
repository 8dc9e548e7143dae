-- What forms with a list answer, from what their parts answer.
use Rattle.std.proofs.Common.{◌≡◌, List, Option, Result, Ok, Err, sym, ap, ◌∙◌}
use Rattle.c_tree.specs.declared.expressions.Expr.{Expr}
use Rattle.c_tree.specs.declared.statements.Stmt.{Stmt}
use Rattle.c_tree.specs.declared.statements.Stmt as s
use Rattle.c_tree.specs.declared.statements.Section.{Section}
use Rattle.c_typed_tree.specs.declared.types.CType.{CType}
use Rattle.c_typed_tree.specs.declared.statements.TStmt.{TStmt}
use Rattle.c_typed_tree.specs.declared.units.Local.{Local}
use Rattle.c_typing_primary_rules.specs.declared.switches.SwitchValue.{SwitchValue}
use Rattle.c_typing_state.specs.Checks.{and_then, Finds}
use Rattle.c_typing_judgements.specs.Types.{JudgementState}
use Rattle.c_typing_statement_parts.specs.c_typing_local_rules.Locals.{BodyState, locals_beside}
use Rattle.c_typing_statement_rules.specs.declared.jumps.Jumps.{Jumps}
use Rattle.c_typing_statement_rules.specs.Jumps.{in_switch}
use Rattle.c_typing_statement_parts.specs.Parts.{operand_of}
use Rattle.c_typing_statements.specs.Statements.{statement}
use Rattle.c_typing_statements.specs.model.Lists.{statement_block, switch_statement}
use Rattle.c_typing_statements.proofs.Rows.{statement-Block, statement-Switch}

pub block_done : {E : Type 0} (of : Option CType) (j : Jumps) (v : Stmt) (list ys : List Stmt) (w new : BodyState) (r : Result (Option TStmt) E)
    → v ≡ s.Block list → ys ≡ list → Finds (statement_block of j ys w) r new → Finds (statement of j v w) r new
block_done of j v list ys w new (Ok a) form same given =
    ap (λ z. statement of j z w) form ∙ (statement-Block of j list w ∙ (ap (λ l. statement_block of j l w) (sym same) ∙ given))
block_done of j v list ys w new (Err e) form same given = tt

pub switch_done : {E : Type 0} (of : Option CType) (j jumps : Jumps) (v : Stmt) (x : Expr) (list ys : List Section) (ls : List Local) (before behind : JudgementState) (o : Option SwitchValue) (new : BodyState) (r : Result (Option TStmt) E)
    → v ≡ s.Switch x list → ys ≡ list → jumps ≡ in_switch j → operand_of x before ≡ (o, behind) → Finds (switch_statement of jumps o ys (ls, behind)) r new → Finds (statement of j v (ls, before)) r new
switch_done of j jumps v x list ys ls before behind o new (Ok a) form same inner operand given =
    ap (λ z. statement of j z (ls, before)) form ∙ (statement-Switch of j x list (ls, before)
    ∙ (ap (λ q. and_then (locals_beside ls q) (λ k (u : BodyState). switch_statement of (in_switch j) k list u)) operand
    ∙ (ap (λ k. switch_statement of k o list (ls, behind)) (sym inner) ∙ (ap (λ l. switch_statement of jumps o l (ls, behind)) (sym same) ∙ given))))
switch_done of j jumps v x list ys ls before behind o new (Err e) form same inner operand given = tt
