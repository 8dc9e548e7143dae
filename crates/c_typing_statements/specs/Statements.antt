-- What statements are, with every fault that is in them (C99 6.8). The parts are judged in the order of the text; each
-- form is judged where its parts are without fault.
use Rattle.std.specs.Prelude.{List, [], Option, Some, None}
use Rattle.std.specs.Option.{option_map}
use Rattle.bk_arithmetic.specs.declared.integer_type.IntegerType.{IntegerType}
use Rattle.c_tree.specs.declared.statements.Stmt as s
use Rattle.c_tree.specs.declared.statements.Stmt.TheBlock as b
use Rattle.c_typed_tree.specs.declared.types.CType.{CType}
use Rattle.c_typed_tree.specs.declared.statements.TStmt.{TStmt}
use Rattle.c_typed_tree.specs.declared.statements.TStmt as t
use Rattle.c_typed_tree.specs.declared.statements.TSection.{TSection}
use Rattle.c_typing_state.specs.Checks.{pure, and_then, append_part}
use Rattle.c_typing_state.specs.Scopes.{enter, leave}
use Rattle.c_typing_judgements.specs.Types.{JudgementState}
use Rattle.c_typing_statement_rules.specs.declared.jumps.Jumps.{Jumps}
use Rattle.c_typing_statement_rules.specs.declared.labels.Labels.{Labels}
use Rattle.c_typing_statement_rules.specs.Jumps.{in_loop, in_switch, break_statement, continue_statement}
use Rattle.c_typing_statement_rules.specs.Labels.{no_labels, beside_labels}
use Rattle.c_typing_statement_parts.specs.c_typing_local_rules.Locals.{BodyState, locals_beside, in_body}
use Rattle.c_typing_statement_rules.specs.Forms.{if_else, while_loop, do_loop, for_loop, switch, section_under, switch_type, block, expression_statement, local_statement}
use Rattle.c_typing_statement_parts.specs.Parts.{condition_of, full_value, operand_of, optional_condition, optional_value, return_statement, local_of, first_of, label_of}

-- ---- a scope, which is undone where it is left (6.2.1)

abbrev pub in_scope : BodyState → BodyState
in_scope w = (w.0, (enter w.1.0, w.1.1))

abbrev pub behind_scope : (before : BodyState) → BodyState → BodyState
behind_scope w u = (u.0, (leave w.1.0.outside u.1.0, u.1.1))

-- ---- the labels of a `switch` beside what stands in it

abbrev pub SwitchState : Type 0
SwitchState = Labels × BodyState

abbrev pub beside_locals : {A : Type 0} → SwitchState → A × (Labels × JudgementState) → A × SwitchState
beside_locals w x = (x.0, (x.1.0, (w.1.0, x.1.1)))

-- ---- statements, in a function of which the result has a type

module _ (of : Option CType) where
  unfoldable mutual
    pub statement : Jumps → s.Stmt → BodyState → Option TStmt × BodyState
    statement j (s.Block' _ list) w =
        and_then (statement_row j list (Some []) (in_scope w)) (λ found u. (block found, behind_scope w u))
    statement j (s.If' x _ (b.more_of-Stmt y b.end_of-Stmt) z) w =
        and_then (locals_beside w.0 (condition_of x w.1)) (λ c u. and_then (statement j y u) (λ a v.
        and_then (else_held j z v) (λ d. pure (if_else c a d))))
    statement j (s.While' x _ (b.more_of-Stmt y b.end_of-Stmt)) w =
        and_then (locals_beside w.0 (condition_of x w.1)) (λ c u. and_then (statement in_loop y u) (λ a.
        pure (while_loop c a)))
    statement j (s.Do' _ (b.more_of-Stmt y b.end_of-Stmt) x) w =
        and_then (statement in_loop y w) (λ a u. and_then (locals_beside u.0 (condition_of x u.1)) (λ c.
        pure (do_loop a c)))
    -- a `for` is a scope of its own (6.8.5)
    statement j (s.For' first c e _ (b.more_of-Stmt y b.end_of-Stmt)) w =
        and_then (first_of first (in_scope w)) (λ p u. and_then (locals_beside u.0 (optional_condition c u.1)) (λ q v.
        and_then (locals_beside v.0 (optional_value e v.1)) (λ r x. and_then (statement in_loop y x) (λ a z.
        (for_loop p q r a, behind_scope w z)))))
    statement j (s.Switch' x _ list) w =
        and_then (locals_beside w.0 (operand_of x w.1)) (λ o u.
        and_then (judge_section_row (in_switch j) (switch_type o) list (Some []) (no_labels, u)) (λ found v.
        (switch o found, v.1)))
    statement j (s.Break at) w = in_body w (break_statement j at w.1.1)
    statement j (s.Continue at) w = in_body w (continue_statement j at w.1.1)
    statement j (s.Return at x) w = locals_beside w.0 (return_statement of at x w.1)
    statement j (s.Expression x) w =
        locals_beside w.0 (and_then (full_value x w.1) (λ v. pure (expression_statement v)))
    statement j s.Empty w = (Some t.Empty, w)
    statement j (s.Local d) w = and_then (local_of d w) (λ r. pure (local_statement r))

    pub statement_row : Jumps → {m : _} → b.Row_of-Stmt m → Option (List TStmt) → BodyState →
        Option (List TStmt) × BodyState
    statement_row j b.end_of-Stmt found w = (found, w)
    statement_row j (b.more_of-Stmt x xs) found w =
        and_then (statement j x w) (λ r. statement_row j xs (append_part found r))

    pub else_held : Jumps → b.Held-Stmt-If-2 → BodyState → Option (Option TStmt) × BodyState
    else_held j b.None' w = (Some None, w)
    else_held j (b.Some' _ (b.more_of-Stmt x b.end_of-Stmt)) w =
        and_then (statement j x w) (λ r. pure (option_map Some r))

    -- each label with the statements under it
    pub judge_section_row : Jumps → Option IntegerType → {m : _} → b.Row_of-Section m → Option (List TSection) →
        SwitchState → Option (List TSection) × SwitchState
    judge_section_row j ty b.end_of-Section found w = (found, w)
    judge_section_row j ty (b.more_of-Section label _ list rest) found w =
        and_then (and_then (beside_locals w (label_of ty label (w.0, w.1.1))) (λ l u.
        and_then (beside_labels u.0 (statement_row j list (Some []) u.1)) (λ xs. pure (section_under l xs)))) (λ r.
        judge_section_row j ty rest (append_part found r))
