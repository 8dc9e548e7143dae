-- The parts of a list that code sees are those of the row that the definitions go over.
use Rattle.std.proofs.Common.{◌≡◌, List, [], Option, Some, None, refl, sym, ap, ◌∙◌}
use mathlib.Core.Former.{Count}
use Rattle.bk_arithmetic.specs.declared.integer_type.IntegerType.{IntegerType}
use Rattle.c_tree.specs.declared.expressions.Expr.{Expr}
use Rattle.c_tree.specs.declared.statements.Stmt as s
use Rattle.c_tree.specs.declared.statements.Stmt.TheBlock as b
use Rattle.c_tree.specs.declared.statements.Section.{Section}
use Rattle.c_tree.specs.declared.statements.Label.{Label}
use Rattle.c_typed_tree.specs.declared.types.CType.{CType}
use Rattle.c_typed_tree.specs.declared.statements.TLabel.{TLabel}
use Rattle.c_typed_tree.specs.declared.statements.TStmt.{TStmt}
use Rattle.c_typed_tree.specs.declared.statements.TSection.{TSection}
use Rattle.c_typing_state.specs.Checks.{pure, and_then, walk, append_part}
use Rattle.c_typing_statement_rules.specs.declared.jumps.Jumps.{Jumps}
use Rattle.c_typing_statement_rules.specs.Jumps.{in_switch}
use Rattle.c_typing_statement_rules.specs.Labels.{no_labels}
use Rattle.c_typing_statement_parts.specs.c_typing_local_rules.Locals.{BodyState, locals_beside}
use Rattle.c_typing_statement_rules.specs.Forms.{if_else, switch, switch_type, section_under, block}
use Rattle.c_typing_statement_parts.specs.Parts.{condition_of, operand_of, label_of}
use Rattle.c_typing_statements.specs.Statements.{SwitchState, beside_locals, in_scope, behind_scope, statement, statement_row, judge_section_row}
use Rattle.c_typing_statements.specs.model.Lists.{else_statement, statement_block, section, switch_statement}
use Rattle.c_typing_statements.specs.model.Opens.{opens}

module _ (of : Option CType) (j : Jumps) where
  statement_row_is : (m : Count) (xs : b.Row_of-Stmt m) (found : Option (List TStmt)) (w : BodyState) → statement_row of j xs found w ≡ walk (statement of j) (b.items-the_row-Stmt m xs) found w
  unfolding statement
  statement_row_is m b.end_of-Stmt found w = refl
  statement_row_is m (b.more_of-Stmt x xs) found w = statement_row_is _ xs (append_part found (statement of j x w).0) (statement of j x w).1

  pub statement_row-hidden : (xs : List s.Stmt) (found : Option (List TStmt)) (w : BodyState) → statement_row of j (b.hidden-the_row-Stmt-0 xs) found w ≡ walk (statement of j) xs found w
  statement_row-hidden xs found w = statement_row_is _ (b.hidden-the_row-Stmt-0 xs) found w ∙ ap (λ l. walk (statement of j) l found w) (b.items_hidden-the_row-Stmt-0 xs)

  -- a label, in front of the statements under it
  label_in_front : Option IntegerType → Label → SwitchState → Option TLabel × SwitchState
  label_in_front ty label w = beside_locals w (label_of ty label (w.0, w.1.1))

  section_row_is : (ty : Option IntegerType) (m : Count) (xs : b.Row_of-Section m) (found : Option (List TSection)) (w : SwitchState) → judge_section_row of j ty xs found w ≡ walk (section of j ty) (b.items-the_row-Section m xs) found w
  unfolding statement label_in_front
  section_row_is ty m b.end_of-Section found w = refl
  section_row_is ty m (b.more_of-Section label c xs rest) found w =
      ap (λ q. judge_section_row of j ty rest (append_part found (section_under (label_in_front ty label w).0 q.0)) ((label_in_front ty label w).1.0, q.1))
      (statement_row_is _ xs (Some []) (label_in_front ty label w).1.1 ∙ ap (λ l. walk (statement of j) l (Some []) (label_in_front ty label w).1.1) (sym (b.items_shown-the_row-Stmt-0 c xs)))
      ∙ section_row_is ty _ rest (append_part found (section of j ty (record { label = label; statements = b.shown-the_row-Stmt-0 c xs }) w).0) (section of j ty (record { label = label; statements = b.shown-the_row-Stmt-0 c xs }) w).1

  pub section_row-hidden : (ty : Option IntegerType) (xs : List Section) (found : Option (List TSection)) (w : SwitchState) → judge_section_row of j ty (b.hidden-the_row-Section-2 xs) found w ≡ walk (section of j ty) xs found w
  section_row-hidden ty xs found w = section_row_is ty _ (b.hidden-the_row-Section-2 xs) found w ∙ ap (λ l. walk (section of j ty) l found w) (b.items_hidden-the_row-Section-2 xs)

-- ---- statements, as code sees them

pub statement-Block : (of : Option CType) (j : Jumps) (xs : List s.Stmt) (w : BodyState) → statement of j (s.Block xs) w ≡ statement_block of j xs w
unfolding opens
statement-Block of j xs w = ap (λ q. (block q.0, behind_scope w q.1)) (statement_row-hidden of j xs (Some []) (in_scope w))

pub statement-If : (of : Option CType) (j : Jumps) (x : Expr) (y : s.Stmt) (z : Option s.Stmt) (w : BodyState)
    → statement of j (s.If x y z) w ≡ and_then (locals_beside w.0 (condition_of x w.1)) (λ c u. and_then (statement of j y u) (λ a v. and_then (else_statement of j z v) (λ d. pure (if_else c a d))))
unfolding opens
statement-If of j x y None w = refl
statement-If of j x y (Some z) w = refl

pub statement-Switch : (of : Option CType) (j : Jumps) (x : Expr) (xs : List Section) (w : BodyState)
    → statement of j (s.Switch x xs) w ≡ and_then (locals_beside w.0 (operand_of x w.1)) (λ o u. switch_statement of (in_switch j) o xs u)
unfolding opens
statement-Switch of j x xs w =
    ap (λ q. (switch (operand_of x w.1).0 q.0, q.1.1)) (section_row-hidden of (in_switch j) (switch_type (operand_of x w.1).0) xs (Some []) (no_labels, (w.0, (operand_of x w.1).1)))

pub ruleset rows = (statement-Block, statement-If, statement-Switch)
