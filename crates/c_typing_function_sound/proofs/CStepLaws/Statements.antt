-- Statements, and the bodies of functions.
use Rattle.std.proofs.Common.{Bool, true, false, List, [], Option, Some, ℕ, if◌then◌else◌}
use Rattle.bk_arithmetic.specs.declared.integer_type.IntegerType.{IntegerType}
use Rattle.c_tree.specs.declared.statements.Stmt as s
use Rattle.c_tree.specs.declared.statements.Stmt.TheBlock as b
use Rattle.c_tree.specs.declared.types.Declaration.{Declaration}
use Rattle.c_typed_tree.specs.declared.types.CType.{CType}
use Rattle.c_typed_tree.specs.declared.statements.TStmt.{TStmt}
use Rattle.c_typed_tree.specs.declared.statements.TStmt as t
use Rattle.c_typed_tree.specs.declared.statements.TSection.{TSection}
use Rattle.c_typing_faults.specs.declared.faults.Kind.TheVariants.{BadJump}
use Rattle.c_typing_state.specs.declared.notes.Notes.{Notes}
use Rattle.c_typing_state.specs.Checks.{append_part}
use Rattle.c_typing_state.specs.Scopes.{enter}
use Rattle.c_typing_judgements.specs.Types.{JudgementState}
use Rattle.c_typing_statement_rules.specs.declared.jumps.Jumps.{Jumps}
use Rattle.c_typing_statement_rules.specs.Jumps.{no_jumps, in_loop, in_switch, bad_jump, break_statement, continue_statement}
use Rattle.c_typing_statement_rules.specs.Forms.{switch_type, section_under}
use Rattle.c_typing_statement_rules.specs.Labels.{no_labels}
use Rattle.c_typing_statement_parts.specs.c_typing_local_rules.Locals.{BodyState}
use Rattle.c_typing_statement_parts.specs.Parts.{condition_of, operand_of, optional_condition, optional_value, first_of, label_of}
use Rattle.c_typing_statements.specs.Statements.{SwitchState, in_scope, statement, statement_row, else_held, judge_section_row}
use Rattle.c_typing_statements.specs.declared.c_typing_function_bodies.functions.FunctionType.{FunctionType}
use Rattle.c_typing_statements.specs.c_typing_function_bodies.Functions.{parameters_of, declared_parameters, result_of, judge_function}
use Rattle.c_typing_expression_sound.specs.c_note_laws.Steps.{NoteSteps}
use Rattle.c_typing_expression_sound.proofs.CNoteLaws.Walks.{judge_adds}
use Rattle.c_typing_function_sound.proofs.CStepLaws.Parts.{condition_steps, operand_steps, optional_condition_steps, optional_value_steps, return_steps, local_steps, walk_steps, first_steps, label_steps, declared_steps}

break_steps : (j : Jumps) (at : ℕ) (n : Notes) → NoteSteps n (break_statement j at n).1
break_steps j at n = choose j.breaks
  where
    choose : (b : Bool) → NoteSteps n (if b then (Some t.Break, n) else bad_jump at n).1
    choose true = NoteSteps.Stays
    choose false = NoteSteps.AddsFault at BadJump

continue_steps : (j : Jumps) (at : ℕ) (n : Notes) → NoteSteps n (continue_statement j at n).1
continue_steps j at n = choose j.continues
  where
    choose : (b : Bool) → NoteSteps n (if b then (Some t.Continue, n) else bad_jump at n).1
    choose true = NoteSteps.Stays
    choose false = NoteSteps.AddsFault at BadJump

module _ (of : Option CType) where
  mutual
    unfolding statement

    pub statement_steps : (j : Jumps) (x : s.Stmt) (w : BodyState) → NoteSteps w.1.1 (statement of j x w).1.1.1
    statement_steps j (s.Block' _ list) w = row_steps j list (Some []) (in_scope w)
    statement_steps j (s.If' x _ (b.more_of-Stmt y b.end_of-Stmt) z) w =
        let u : BodyState = (w.0, (condition_of x w.1).1) in
        let v = (statement of j y u).1 in
        NoteSteps.Follows (condition_steps x w.1) (NoteSteps.Follows (statement_steps j y u) (else_steps j z v))
    statement_steps j (s.While' x _ (b.more_of-Stmt y b.end_of-Stmt)) w =
        let u : BodyState = (w.0, (condition_of x w.1).1) in
        NoteSteps.Follows (condition_steps x w.1) (statement_steps in_loop y u)
    statement_steps j (s.Do' _ (b.more_of-Stmt y b.end_of-Stmt) x) w =
        let u = (statement of in_loop y w).1 in
        NoteSteps.Follows (statement_steps in_loop y w) (condition_steps x u.1)
    statement_steps j (s.For' first c e _ (b.more_of-Stmt y b.end_of-Stmt)) w =
        let u = (first_of first (in_scope w)).1 in
        let v : BodyState = (u.0, (optional_condition c u.1).1) in
        let x : BodyState = (v.0, (optional_value e v.1).1) in
        NoteSteps.Follows (first_steps first (in_scope w))
        (NoteSteps.Follows (optional_condition_steps c u.1) (NoteSteps.Follows (optional_value_steps e v.1) (statement_steps in_loop y x)))
    statement_steps j (s.Switch' x _ list) w =
        let o = operand_of x w.1 in
        let u : BodyState = (w.0, o.1) in
        NoteSteps.Follows (operand_steps x w.1) (sections_steps (in_switch j) (switch_type o.0) list (Some []) (no_labels, u))
    statement_steps j (s.Break at) w = break_steps j at w.1.1
    statement_steps j (s.Continue at) w = continue_steps j at w.1.1
    statement_steps j (s.Return at x) w = return_steps of at x w.1
    statement_steps j (s.Expression x) w = judge_adds x w.1
    statement_steps j s.Empty w = NoteSteps.Stays
    statement_steps j (s.Local d) w = local_steps d w

    pub row_steps : (j : Jumps) {m : _} (xs : b.Row_of-Stmt m) (found : Option (List TStmt)) (w : BodyState) → NoteSteps w.1.1 (statement_row of j xs found w).1.1.1
    row_steps j b.end_of-Stmt found w = NoteSteps.Stays
    row_steps j (b.more_of-Stmt x xs) found w =
        let r = statement of j x w in
        NoteSteps.Follows (statement_steps j x w) (row_steps j xs (append_part found r.0) r.1)

    pub else_steps : (j : Jumps) (x : b.Held-Stmt-If-2) (w : BodyState) → NoteSteps w.1.1 (else_held of j x w).1.1.1
    else_steps j b.None' w = NoteSteps.Stays
    else_steps j (b.Some' _ (b.more_of-Stmt x b.end_of-Stmt)) w = statement_steps j x w

    pub sections_steps : (j : Jumps) (ty : Option IntegerType) {m : _} (xs : b.Row_of-Section m) (found : Option (List TSection)) (w : SwitchState)
        → NoteSteps w.1.1.1 (judge_section_row of j ty xs found w).1.1.1.1
    sections_steps j ty b.end_of-Section found w = NoteSteps.Stays
    sections_steps j ty (b.more_of-Section label _ list rest) found w =
        let l = label_of ty label (w.0, w.1.1) in
        let u : BodyState = (w.1.0, l.1.1) in
        let r = statement_row of j list (Some []) u in
        NoteSteps.Follows (label_steps ty label (w.0, w.1.1))
        (NoteSteps.Follows (row_steps j list (Some []) u) (sections_steps j ty rest (append_part found (section_under l.0 r.0)) (l.1.0, r.1)))

pub function_steps : (d : Declaration) (of : Option FunctionType) (list : List s.Stmt) (s : JudgementState) → NoteSteps s.1 (judge_function d of list s).1.1
function_steps d of list s =
    let start : BodyState = ([], (enter s.0, s.1)) in
    let u = declared_parameters of (parameters_of d.ty) start in
    NoteSteps.Follows (declared_steps of (parameters_of d.ty) start)
    (NoteSteps.Follows (walk_steps (statement (result_of of) no_jumps) list (Some []) u.1 (statement_steps (result_of of) no_jumps)) (NoteSteps.ListsAddresses []))
