-- Whole statements: one line or two for each form.
use Rattle.std.proofs.Common.{IsTrue, List, [], Option, Some, IfSome, refl}
use Rattle.bk_arithmetic.specs.declared.integer_type.IntegerType.{IntegerType}
use Rattle.c_tree.specs.declared.statements.Stmt as s
use Rattle.c_tree.specs.declared.statements.Stmt.TheBlock as b
use Rattle.c_typed_tree.specs.declared.types.CType.{CType}
use Rattle.c_typed_tree.specs.declared.statements.TStmt.{TStmt}
use Rattle.c_typed_tree.specs.declared.statements.TSection.{TSection}
use Rattle.c_typed_tree.specs.View.{type_view}
use Rattle.c_typed_tree.specs.Typing.{Context, is_fit}
use Rattle.c_typing_state.specs.Checks.{append_part}
use Rattle.c_typing_statement_rules.specs.declared.jumps.Jumps.{Jumps}
use Rattle.c_typing_statement_rules.specs.Jumps.{in_loop, in_switch, break_statement, continue_statement}
use Rattle.c_typing_statement_rules.specs.Labels.{no_labels}
use Rattle.c_typing_statement_parts.specs.c_typing_local_rules.Locals.{BodyState}
use Rattle.c_typing_statement_rules.specs.Forms.{section_under, switch_type}
use Rattle.c_typing_statement_parts.specs.Parts.{condition_of, full_value, operand_of, optional_condition, optional_value, local_of, first_of, label_of}
use Rattle.c_typing_statements.specs.Statements.{SwitchState, in_scope, statement, statement_row, else_held, judge_section_row}
use Rattle.c_typing_expression_sound.specs.c_judgement_laws.Covers.{IsLawfulContext}
use Rattle.c_typing_function_sound.proofs.CStatementLaws.Moves.{Moves, moves_none, moves_as, moves_then, moves_both, moves_noted, scope_moves, part_more}
use Rattle.c_typing_function_sound.proofs.CStatementLaws.Parts.{result_type, condition_moves, value_moves, operand_moves, optional_condition_moves, optional_value_moves, return_moves}
use Rattle.c_typing_function_sound.proofs.CStatementLaws.Names.{local_moves, first_moves}
use Rattle.c_typing_function_sound.proofs.CStatementLaws.Labels.{label_moves}
use Rattle.c_typing_function_sound.proofs.CStatementLaws.Forms as form
use Rattle.c_typing_function_sound.proofs.CStatementLaws.Forms.{jumps_of, IsStmt, AreStmts, IsElse, AreSections}

module _ (c : Context) (lawful : IsLawfulContext c) (of : Option CType) where
  -- the type of what the function gives, where its declaration has no fault
  abbrev known : Type 0
  known = IfSome of (λ ty. IsTrue (is_fit c.structs (type_view ty)))

  abbrev Is : Jumps → TStmt → Type 0
  Is j x = IsStmt c lawful known (result_type of) j x

  abbrev Are : Jumps → List TStmt → Type 0
  Are j xs = AreStmts c lawful known (result_type of) j xs

  mutual
    unfolding statement

    pub statement_moves : (j : Jumps) (x : s.Stmt) (w : BodyState) → Moves c known (IfSome (statement of j x w).0 (Is j)) w (statement of j x w).1
    statement_moves j (s.Block' _ list) w =
        let r = statement_row of j list (Some []) (in_scope w) in
        scope_moves c known w r.1 (moves_as c known (in_scope w) r.1 (form.block_typed c lawful known (result_type of) j r.0) (row_moves j list (Some []) (in_scope w) (in_scope w) (moves_none c known (in_scope w) refl)))
    statement_moves j (s.If' x _ (b.more_of-Stmt y b.end_of-Stmt) z) w =
        let q = condition_of x w.1 in let a = statement of j y (w.0, q.1) in let d = else_held of j z a.1 in
        moves_both c known w a.1 d.1 (λ h k. form.if_typed c lawful known (result_type of) j q.0 a.0 d.0 h.0 h.1 k)
        (moves_then c known w (w.0, q.1) a.1 (condition_moves c lawful known x w) (statement_moves j y (w.0, q.1))) (else_moves j z a.1)
    statement_moves j (s.While' x _ (b.more_of-Stmt y b.end_of-Stmt)) w =
        let q = condition_of x w.1 in let a = statement of in_loop y (w.0, q.1) in
        moves_both c known w (w.0, q.1) a.1 (λ h k. form.while_typed c lawful known (result_type of) j q.0 a.0 h k) (condition_moves c lawful known x w) (statement_moves in_loop y (w.0, q.1))
    statement_moves j (s.Do' _ (b.more_of-Stmt y b.end_of-Stmt) x) w =
        let a = statement of in_loop y w in let q = condition_of x a.1.1 in
        moves_both c known w a.1 (a.1.0, q.1) (λ h k. form.do_typed c lawful known (result_type of) j a.0 q.0 h k) (statement_moves in_loop y w) (condition_moves c lawful known x a.1)
    statement_moves j (s.For' first x e _ (b.more_of-Stmt y b.end_of-Stmt)) w =
        let p = first_of first (in_scope w) in let q = optional_condition x p.1.1 in let r = optional_value e q.1 in let a = statement of in_loop y (p.1.0, r.1) in
        scope_moves c known w a.1
        (moves_both c known (in_scope w) (p.1.0, r.1) a.1 (λ h k. form.for_typed c lawful known (result_type of) j p.0 q.0 r.0 a.0 h.0.0 h.0.1 h.1 k)
        (moves_then c known (in_scope w) (p.1.0, q.1) (p.1.0, r.1)
        (moves_then c known (in_scope w) p.1 (p.1.0, q.1) (first_moves c known lawful first (in_scope w)) (optional_condition_moves c lawful known x p.1)) (optional_value_moves c lawful known e (p.1.0, q.1)))
        (statement_moves in_loop y (p.1.0, r.1)))
    statement_moves j (s.Switch' x _ list) w =
        let o = operand_of x w.1 in let u : BodyState = (w.0, o.1) in let f = judge_section_row of (in_switch j) (switch_type o.0) list (Some []) (no_labels, u) in
        moves_both c known w u f.1.1 (λ h k. form.switch_typed c lawful known (result_type of) j (in_switch j) o.0 f.1.0 f.0 refl h k) (operand_moves c lawful known x w)
        (sections_moves (in_switch j) (switch_type o.0) list (Some []) (no_labels, u) u (moves_none c known u (form.none_yet c lawful known (result_type of) (in_switch j) (switch_type o.0) no_labels)))
    statement_moves j (s.Break at) w =
        moves_noted c known w (break_statement j at w.1.1).1 (form.break_later c lawful known (result_type of) j at w.1.1) (form.break_typed c lawful known (result_type of) j at w.1.1)
    statement_moves j (s.Continue at) w =
        moves_noted c known w (continue_statement j at w.1.1).1 (form.continue_later c lawful known (result_type of) j at w.1.1) (form.continue_typed c lawful known (result_type of) j at w.1.1)
    statement_moves j (s.Return at x) w = return_moves c lawful known (jumps_of j) of (λ g. g) at x w
    statement_moves j (s.Expression x) w =
        let v = full_value x w.1 in
        moves_as c known w (w.0, v.1) (form.expression_typed c lawful known (result_type of) j v.0) (value_moves c lawful known x w)
    statement_moves j s.Empty w = moves_none c known w (form.empty_typed c lawful known (result_type of) j)
    statement_moves j (s.Local d) w =
        let l = local_of d w in
        moves_as c known w l.1 (form.local_typed c lawful known (result_type of) j l.0) (local_moves c known lawful d w)

    pub row_moves : (j : Jumps) {m : _} (xs : b.Row_of-Stmt m) (found : Option (List TStmt)) (w u : BodyState) → Moves c known (IfSome found (Are j)) w u
        → Moves c known (IfSome (statement_row of j xs found u).0 (Are j)) w (statement_row of j xs found u).1
    row_moves j b.end_of-Stmt found w u m = m
    row_moves j (b.more_of-Stmt x xs) found w u m =
        let r = statement of j x u in
        row_moves j xs (append_part found r.0) w r.1
        (moves_both c known w u r.1 (part_more c known (Are j) (Is j) (form.stmts_more c lawful known (result_type of) j) found r.0) m (statement_moves j x u))

    else_moves : (j : Jumps) (z : b.Held-Stmt-If-2) (w : BodyState) → Moves c known (IfSome (else_held of j z w).0 (IsElse c lawful known (result_type of) j)) w (else_held of j z w).1
    else_moves j b.None' w = moves_none c known w refl
    else_moves j (b.Some' _ (b.more_of-Stmt x b.end_of-Stmt)) w =
        let r = statement of j x w in
        moves_as c known w r.1 (form.else_typed c lawful known (result_type of) j r.0) (statement_moves j x w)

    sections_moves : (j : Jumps) (ty : Option IntegerType) {m : _} (xs : b.Row_of-Section m) (found : Option (List TSection)) (v : SwitchState) (w : BodyState)
        → Moves c known (IfSome found (AreSections c lawful known (result_type of) j ty v.0)) w v.1
        → Moves c known (IfSome (judge_section_row of j ty xs found v).0 (AreSections c lawful known (result_type of) j ty (judge_section_row of j ty xs found v).1.0)) w (judge_section_row of j ty xs found v).1.1
    sections_moves j ty b.end_of-Section found v w m = m
    sections_moves j ty (b.more_of-Section label _ list rest) found v w m =
        let l = label_of ty label (v.0, v.1.1) in let u : BodyState = (v.1.0, l.1.1) in let r = statement_row of j list (Some []) u in
        sections_moves j ty rest (append_part found (section_under l.0 r.0)) (l.1.0, r.1) w
        (moves_both c known w u r.1 (λ h k. form.part_more c lawful known (result_type of) j ty v.0 l.1.0 found l.0 r.0 h.0 h.1 k)
        (moves_then c known w v.1 u m (label_moves c lawful known ty label v.0 v.1))
        (row_moves j list (Some []) u u (moves_none c known u refl)))
