-- How often statements declare a local.
use Rattle.std.proofs.Common.{◌≡◌, ◌+◌, ℕ, Bool, true, false, if◌then◌else◌, List, [], ◌∷◌, ◌++◌, Option, Some, None, length, refl, ap, arith}
use Rattle.std.specs.Option.{option_map}
use Rattle.bk_arithmetic.specs.declared.integer_type.IntegerType.{IntegerType}
use Rattle.c_tree.specs.declared.expressions.Expr.{Expr}
use Rattle.c_tree.specs.declared.statements.Stmt as s
use Rattle.c_tree.specs.declared.statements.Stmt.TheBlock as b
use Rattle.c_typed_tree.specs.declared.types.CType.{CType}
use Rattle.c_typed_tree.specs.declared.expressions.TExpr.{TExpr}
use Rattle.c_typed_tree.specs.declared.statements.TStmt.{TStmt}
use Rattle.c_typed_tree.specs.declared.statements.TStmt as t
use Rattle.c_typed_tree.specs.declared.statements.TSection.{TSection}
use Rattle.c_typed_tree.specs.declared.statements.TLabel.{TLabel}
use Rattle.c_typed_tree.specs.declared.statements.TFirst.{TFirst}
use Rattle.c_typed_tree.specs.declared.statements.TLocal.{TLocal}
use Rattle.c_typed_tree.specs.Declarations.{declarations, else_declarations, stmts_declarations, sections_declarations}
use Rattle.c_typed_tree.specs.Typing.{is_void}
use Rattle.c_typed_tree.specs.View.{type_view, stmt_view}
use Rattle.c_typed_tree.specs.model.View.{stmts_view, opens}
use Rattle.c_typed_tree.specs.model.Lists.{sections_view, else_view}
use Rattle.c_typed_tree.proofs.Views.{view_block, view_switch, view_if}
use Rattle.c_typing_primary_rules.specs.declared.switches.SwitchValue.{SwitchValue}
use Rattle.c_typing_rules.specs.declared.typed.TypedExpression.{TypedExpression}
use Rattle.c_typing_judgements.specs.c_typing_operators.Null.{take_value}
use Rattle.c_typing_state.specs.declared.notes.Notes.{Notes}
use Rattle.c_typing_state.specs.Checks.{append_part, both_parts, note_fault, and_then, pure}
use Rattle.c_typing_judgements.specs.Types.{JudgementState}
use Rattle.c_typing_expressions.specs.Expressions.{judge}
use Rattle.c_typing_statement_rules.specs.declared.jumps.Jumps.{Jumps}
use Rattle.c_typing_statement_rules.specs.Jumps.{in_loop, in_switch, break_statement, continue_statement}
use Rattle.c_typing_statement_rules.specs.Labels.{no_labels}
use Rattle.c_typing_statement_rules.specs.Values.{return_of, bad_return, return_value}
use Rattle.c_typing_statement_parts.specs.c_typing_local_rules.Locals.{BodyState}
use Rattle.c_typing_statement_rules.specs.Forms.{if_else, while_loop, do_loop, for_loop, switch, section_under, switch_type, block, expression_statement, local_statement}
use Rattle.c_typing_statement_parts.specs.Parts.{condition_of, full_value, operand_of, optional_condition, optional_value, return_statement, local_of, first_of, label_of}
use Rattle.c_typing_statements.specs.Statements.{SwitchState, in_scope, statement, statement_row, else_held, judge_section_row}
use Rattle.c_typing_function_sound.proofs.CLocalLaws.Numbers.{Declares, Is, plus, declares_on, declares_as, declares_none, count_of, part_count}
use Rattle.c_typing_function_sound.proofs.CLocalLaws.Locals.{here, first_here, local_says, first_says}

module _ (k : ℕ) where
  abbrev pub stmt_here : TStmt → ℕ
  stmt_here x = declarations k (stmt_view x)

  abbrev pub stmts_here : List TStmt → ℕ
  stmts_here xs = stmts_declarations k (stmts_view xs)

  abbrev else_here : Option TStmt → ℕ
  else_here x = else_declarations k (else_view x)

  abbrev section_here : TSection → ℕ
  section_here x = stmts_here x.statements

  abbrev sections_here : List TSection → ℕ
  sections_here xs = sections_declarations k (sections_view xs)

  pub stmts_push : (xs : List TStmt) (x : TStmt) → stmts_here (xs ++ x ∷ []) ≡ stmts_here xs + stmt_here x
  stmts_push [] x = omega arith
  stmts_push (y ∷ ys) x = omega (arith, stmts_push ys x)

  sections_push : (xs : List TSection) (x : TSection) → sections_here (xs ++ x ∷ []) ≡ sections_here xs + section_here x
  sections_push [] x = omega arith
  sections_push (y ∷ ys) x = omega (arith, sections_push ys x)

  -- ---- a form declares what its parts declare

  block_count : (list : Option (List TStmt)) → Is (count_of stmt_here (block list)) (count_of stmts_here list)
  block_count None = tt
  block_count (Some xs) = ap (declarations k) (view_block xs)

  if_count : (c : Option TExpr) (x : Option TStmt) (y : Option (Option TStmt)) → Is (count_of stmt_here (if_else c x y)) (plus (count_of stmt_here x) (count_of else_here y))
  if_count None x y = tt
  if_count (Some c) None y = tt
  if_count (Some c) (Some x) None = tt
  if_count (Some c) (Some x) (Some y) = ap (declarations k) (view_if c x y)

  else_count : (x : Option TStmt) → Is (count_of else_here (option_map Some x)) (count_of stmt_here x)
  else_count None = tt
  else_count (Some x) = refl

  while_count : (c : Option TExpr) (x : Option TStmt) → Is (count_of stmt_here (while_loop c x)) (count_of stmt_here x)
  unfolding opens
  while_count None x = tt
  while_count (Some c) None = tt
  while_count (Some c) (Some x) = refl

  do_count : (x : Option TStmt) (c : Option TExpr) → Is (count_of stmt_here (do_loop x c)) (count_of stmt_here x)
  unfolding opens
  do_count None c = tt
  do_count (Some x) None = tt
  do_count (Some x) (Some c) = refl

  for_count : (p : Option TFirst) (c e : Option (Option TExpr)) (x : Option TStmt) → Is (count_of stmt_here (for_loop p c e x)) (plus (count_of (first_here k) p) (count_of stmt_here x))
  unfolding opens
  for_count None c e x = tt
  for_count (Some p) None e x = tt
  for_count (Some p) (Some c) None x = tt
  for_count (Some p) (Some c) (Some e) None = tt
  for_count (Some p) (Some c) (Some e) (Some x) = refl

  switch_count : (o : Option SwitchValue) (xs : Option (List TSection)) → Is (count_of stmt_here (switch o xs)) (count_of sections_here xs)
  switch_count None xs = tt
  switch_count (Some o) None = tt
  switch_count (Some o) (Some xs) = ap (declarations k) (view_switch o.tree xs)

  under_count : (l : Option TLabel) (xs : Option (List TStmt)) → Is (count_of section_here (section_under l xs)) (count_of stmts_here xs)
  under_count None xs = tt
  under_count (Some l) None = tt
  under_count (Some l) (Some xs) = refl

  value_count : (v : Option TExpr) → Is (count_of stmt_here (expression_statement v)) (Some 0)
  unfolding opens
  value_count None = tt
  value_count (Some x) = refl

  local_count : (l : Option TLocal) → Is (count_of stmt_here (local_statement l)) (count_of (here k) l)
  unfolding opens
  local_count None = tt
  local_count (Some l) = refl

  -- ---- jumps and `return` declare nothing

  empty_count : Is (count_of stmt_here (Some t.Empty)) (Some 0)
  unfolding opens
  empty_count = refl

  abbrev found_of : {S : Type 0} → Option TStmt × S → Option ℕ
  found_of r = count_of stmt_here r.0

  jump_count : {S : Type 0} (b : Bool) (x : TStmt) (n m : S) → stmt_here x ≡ 0 → Is (found_of (if b then (Some x, n) else (None, m))) (Some 0)
  jump_count true x n m none = none
  jump_count false x n m none = tt

  break_count : (j : Jumps) (at : ℕ) (n : Notes) → Is (count_of stmt_here (break_statement j at n).0) (Some 0)
  unfolding opens
  break_count j at n = jump_count j.breaks t.Break _ _ refl

  continue_count : (j : Jumps) (at : ℕ) (n : Notes) → Is (count_of stmt_here (continue_statement j at n).0) (Some 0)
  unfolding opens
  continue_count j at n = jump_count j.continues t.Continue _ _ refl

  return_of_count : (v : Option TExpr) → Is (count_of stmt_here (return_of v)) (Some 0)
  unfolding opens
  return_of_count None = tt
  return_of_count (Some x) = refl

  return_value_count : (at : ℕ) (ty : CType) (a : Option TypedExpression) (n : Notes) → Is (count_of stmt_here (both_parts (Some ty) a (return_value at) n).0) (Some 0)
  return_value_count at ty None n = tt
  return_value_count at ty (Some a) n = by (is_void (type_view ty))
    where
      by : (v : Bool) → Is (found_of (if v then bad_return at n else and_then (note_fault (take_value ty a) n) (λ value. pure (return_of value)))) (Some 0)
      by true = tt
      by false = return_of_count (note_fault (take_value ty a) n).0

  return_count : (of : Option CType) (at : ℕ) (e : Option Expr) (w : JudgementState) → Is (count_of stmt_here (return_statement of at e w).0) (Some 0)
  unfolding opens
  return_count None at None w = tt
  return_count (Some ty) at None w = jump_count (is_void (type_view ty)) (t.Return None) _ _ refl
  return_count None at (Some x) w = tt
  return_count (Some ty) at (Some x) w = return_value_count at ty (judge x w).0 (judge x w).1.1

-- ---- statements

module _ (k : ℕ) (of : Option CType) where
  mutual
    unfolding statement

    pub statement_says : (j : Jumps) (x : s.Stmt) (w : BodyState) → Declares k (length w.0) (length (statement of j x w).1.0) (count_of (stmt_here k) (statement of j x w).0)
    statement_says j (s.Block' _ list) w =
        let r = statement_row of j list (Some []) (in_scope w) in
        declares_as k (length w.0) (length r.1.0) (count_of (stmts_here k) r.0) (count_of (stmt_here k) (block r.0)) (block_count k r.0) (row_says j list (Some []) (in_scope w) (length w.0) (declares_none k (length w.0)))
    statement_says j (s.If' x _ (b.more_of-Stmt y b.end_of-Stmt) z) w =
        let c = condition_of x w.1 in let a = statement of j y (w.0, c.1) in let d = else_held of j z a.1 in
        declares_as k (length w.0) (length d.1.0) (plus (count_of (stmt_here k) a.0) (count_of (else_here k) d.0)) (count_of (stmt_here k) (if_else c.0 a.0 d.0)) (if_count k c.0 a.0 d.0)
        (declares_on k (length w.0) (length a.1.0) (length d.1.0) (count_of (stmt_here k) a.0) (count_of (else_here k) d.0) (statement_says j y (w.0, c.1)) (else_says j z a.1))
    statement_says j (s.While' x _ (b.more_of-Stmt y b.end_of-Stmt)) w =
        let c = condition_of x w.1 in let a = statement of in_loop y (w.0, c.1) in
        declares_as k (length w.0) (length a.1.0) (count_of (stmt_here k) a.0) (count_of (stmt_here k) (while_loop c.0 a.0)) (while_count k c.0 a.0) (statement_says in_loop y (w.0, c.1))
    statement_says j (s.Do' _ (b.more_of-Stmt y b.end_of-Stmt) x) w =
        let a = statement of in_loop y w in let c = condition_of x a.1.1 in
        declares_as k (length w.0) (length a.1.0) (count_of (stmt_here k) a.0) (count_of (stmt_here k) (do_loop a.0 c.0)) (do_count k a.0 c.0) (statement_says in_loop y w)
    statement_says j (s.For' first c e _ (b.more_of-Stmt y b.end_of-Stmt)) w =
        let p = first_of first (in_scope w) in let q = optional_condition c p.1.1 in let r = optional_value e q.1 in let a = statement of in_loop y (p.1.0, r.1) in
        declares_as k (length w.0) (length a.1.0) (plus (count_of (first_here k) p.0) (count_of (stmt_here k) a.0)) (count_of (stmt_here k) (for_loop p.0 q.0 r.0 a.0)) (for_count k p.0 q.0 r.0 a.0)
        (declares_on k (length w.0) (length p.1.0) (length a.1.0) (count_of (first_here k) p.0) (count_of (stmt_here k) a.0) (first_says k first (in_scope w)) (statement_says in_loop y (p.1.0, r.1)))
    statement_says j (s.Switch' x _ list) w =
        let o = operand_of x w.1 in let f = judge_section_row of (in_switch j) (switch_type o.0) list (Some []) (no_labels, (w.0, o.1)) in
        declares_as k (length w.0) (length f.1.1.0) (count_of (sections_here k) f.0) (count_of (stmt_here k) (switch o.0 f.0)) (switch_count k o.0 f.0)
        (sections_says (in_switch j) (switch_type o.0) list (Some []) (no_labels, (w.0, o.1)) (length w.0) (declares_none k (length w.0)))
    statement_says j (s.Break at) w = declares_as k (length w.0) (length w.0) (Some 0) _ (break_count k j at w.1.1) (declares_none k (length w.0))
    statement_says j (s.Continue at) w = declares_as k (length w.0) (length w.0) (Some 0) _ (continue_count k j at w.1.1) (declares_none k (length w.0))
    statement_says j (s.Return at x) w = declares_as k (length w.0) (length w.0) (Some 0) _ (return_count k of at x w.1) (declares_none k (length w.0))
    statement_says j (s.Expression x) w = declares_as k (length w.0) (length w.0) (Some 0) _ (value_count k (full_value x w.1).0) (declares_none k (length w.0))
    statement_says j s.Empty w = declares_as k (length w.0) (length w.0) (Some 0) _ (empty_count k) (declares_none k (length w.0))
    statement_says j (s.Local d) w =
        let l = local_of d w in
        declares_as k (length w.0) (length l.1.0) (count_of (here k) l.0) (count_of (stmt_here k) (local_statement l.0)) (local_count k l.0) (local_says k d w)

    pub row_says : (j : Jumps) {m : _} (xs : b.Row_of-Stmt m) (found : Option (List TStmt)) (w : BodyState) (a : ℕ) → Declares k a (length w.0) (count_of (stmts_here k) found)
        → Declares k a (length (statement_row of j xs found w).1.0) (count_of (stmts_here k) (statement_row of j xs found w).0)
    row_says j b.end_of-Stmt found w a before = before
    row_says j (b.more_of-Stmt x xs) found w a before =
        let r = statement of j x w in
        row_says j xs (append_part found r.0) r.1 a
        (declares_as k a (length r.1.0) (plus (count_of (stmts_here k) found) (count_of (stmt_here k) r.0)) (count_of (stmts_here k) (append_part found r.0)) (part_count (stmt_here k) (stmts_here k) (stmts_push k) found r.0)
        (declares_on k a (length w.0) (length r.1.0) (count_of (stmts_here k) found) (count_of (stmt_here k) r.0) before (statement_says j x w)))

    else_says : (j : Jumps) (z : b.Held-Stmt-If-2) (w : BodyState) → Declares k (length w.0) (length (else_held of j z w).1.0) (count_of (else_here k) (else_held of j z w).0)
    else_says j b.None' w = declares_none k (length w.0)
    else_says j (b.Some' _ (b.more_of-Stmt x b.end_of-Stmt)) w =
        let r = statement of j x w in
        declares_as k (length w.0) (length r.1.0) (count_of (stmt_here k) r.0) (count_of (else_here k) (option_map Some r.0)) (else_count k r.0) (statement_says j x w)

    sections_says : (j : Jumps) (ty : Option IntegerType) {m : _} (xs : b.Row_of-Section m) (found : Option (List TSection)) (w : SwitchState) (a : ℕ) → Declares k a (length w.1.0) (count_of (sections_here k) found)
        → Declares k a (length (judge_section_row of j ty xs found w).1.1.0) (count_of (sections_here k) (judge_section_row of j ty xs found w).0)
    sections_says j ty b.end_of-Section found w a before = before
    sections_says j ty (b.more_of-Section label _ list rest) found w a before =
        let l = label_of ty label (w.0, w.1.1) in let r = statement_row of j list (Some []) (w.1.0, l.1.1) in let x = section_under l.0 r.0 in
        sections_says j ty rest (append_part found x) (l.1.0, r.1) a
        (declares_as k a (length r.1.0) (plus (count_of (sections_here k) found) (count_of (section_here k) x)) (count_of (sections_here k) (append_part found x)) (part_count (section_here k) (sections_here k) (sections_push k) found x)
        (declares_on k a (length w.1.0) (length r.1.0) (count_of (sections_here k) found) (count_of (section_here k) x) before
        (declares_as k (length w.1.0) (length r.1.0) (count_of (stmts_here k) r.0) (count_of (section_here k) x) (under_count k l.0 r.0) (row_says j list (Some []) (w.1.0, l.1.1) (length w.1.0) (declares_none k (length w.1.0))))))
