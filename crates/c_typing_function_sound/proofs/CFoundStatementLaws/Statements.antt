-- Whole statements, in a function whose result may have a type: one line or two for each form.
use Rattle.std.proofs.Common.{List, [], Option, Some, None, refl}
use Rattle.bk_arithmetic.specs.declared.integer_type.IntegerType.{IntegerType}
use Rattle.c_tree.specs.declared.statements.Stmt as s
use Rattle.c_tree.specs.declared.statements.Stmt.TheBlock as b
use Rattle.c_typed_tree.specs.declared.types.CType.{CType}
use Rattle.c_typed_tree.specs.declared.expressions.TExpr.{TExpr}
use Rattle.c_typed_tree.specs.declared.statements.TStmt.{TStmt}
use Rattle.c_typed_tree.specs.declared.statements.TSection.{TSection}
use Rattle.c_typed_tree.specs.declared.statements.TLabel.{TLabel}
use Rattle.c_typed_tree.specs.declared.statements.TFirst.{TFirst}
use Rattle.c_typing_primary_rules.specs.declared.switches.SwitchValue.{SwitchValue}
use Rattle.c_typing_state.specs.Checks.{append_part}
use Rattle.c_typing_judgements.specs.Types.{JudgementState}
use Rattle.c_typing_statement_rules.specs.declared.jumps.Jumps.{Jumps}
use Rattle.c_typing_statement_rules.specs.Jumps.{in_loop, in_switch, break_statement, continue_statement}
use Rattle.c_typing_statement_rules.specs.Labels.{no_labels}
use Rattle.c_typing_statement_parts.specs.c_typing_local_rules.Locals.{BodyState}
use Rattle.c_typing_statement_rules.specs.Forms.{if_else, while_loop, do_loop, for_loop, switch, section_under, switch_type}
use Rattle.c_typing_statement_parts.specs.Parts.{condition_of, full_value, operand_of, optional_condition, optional_value, local_of, first_of, label_of}
use Rattle.c_typing_statements.specs.Statements.{SwitchState, in_scope, beside_locals, statement, statement_row, else_held, judge_section_row}
use Rattle.c_typing_expression_sound.specs.c_found_laws.Laws.{Tells, IsFound}
use Rattle.c_typing_expression_sound.proofs.CFoundLaws.Forms.{no_true, tells_none, tells_as, tells_then, tells_both, append_found, map_found, left_tells}
use Rattle.c_typing_function_sound.proofs.CFoundStatementLaws.Parts.{condition_tells, value_tells, operand_tells, optional_condition_tells, optional_value_tells, return_tells, local_tells, first_tells, label_tells, break_tells, continue_tells}

-- ---- forms whose parts are found

if_found : (c : Option TExpr) (a : Option TStmt) (d : Option (Option TStmt)) → IsFound c → IsFound a → IsFound d → IsFound (if_else c a d)
if_found None a d h g k = no_true h
if_found (Some c) None d h g k = no_true g
if_found (Some c) (Some a) None h g k = no_true k
if_found (Some c) (Some a) (Some d) h g k = refl

while_found : (c : Option TExpr) (a : Option TStmt) → IsFound c → IsFound a → IsFound (while_loop c a)
while_found None a h g = no_true h
while_found (Some c) None h g = no_true g
while_found (Some c) (Some a) h g = refl

do_found : (a : Option TStmt) (c : Option TExpr) → IsFound a → IsFound c → IsFound (do_loop a c)
do_found None c h g = no_true h
do_found (Some a) None h g = no_true g
do_found (Some a) (Some c) h g = refl

for_found : (p : Option TFirst) (c e : Option (Option TExpr)) (a : Option TStmt) → IsFound p → IsFound c → IsFound e → IsFound a → IsFound (for_loop p c e a)
for_found None c e a h g k l = no_true h
for_found (Some p) None e a h g k l = no_true g
for_found (Some p) (Some c) None a h g k l = no_true k
for_found (Some p) (Some c) (Some e) None h g k l = no_true l
for_found (Some p) (Some c) (Some e) (Some a) h g k l = refl

switch_found : (o : Option SwitchValue) (xs : Option (List TSection)) → IsFound o → IsFound xs → IsFound (switch o xs)
switch_found None xs h g = no_true h
switch_found (Some o) None h g = no_true g
switch_found (Some o) (Some xs) h g = refl

section_found : (l : Option TLabel) (xs : Option (List TStmt)) → IsFound l → IsFound xs → IsFound (section_under l xs)
section_found None xs h g = no_true h
section_found (Some l) None h g = no_true g
section_found (Some l) (Some xs) h g = refl

module _ (of : Option CType) where
  -- what is found where the result has a type
  abbrev pub Under : {A : Type 0} → Option A → Type 0
  Under o = IsFound of → IsFound o

  mutual
    unfolding statement

    pub statement_tells : (j : Jumps) (x : s.Stmt) (w : BodyState) → Tells (Under (statement of j x w).0) w.1 (statement of j x w).1.1
    statement_tells j (s.Block' _ list) w =
        let r = statement_row of j list (Some []) (in_scope w) in
        left_tells w.1 r.1.1 (tells_as (in_scope w).1 r.1.1 (λ h k. map_found _ r.0 (h k)) (row_tells j list (Some []) (in_scope w).1 (in_scope w) (tells_none (in_scope w).1 (λ k. refl))))
    statement_tells j (s.If' x _ (b.more_of-Stmt y b.end_of-Stmt) z) w =
        let c = condition_of x w.1 in let a = statement of j y (w.0, c.1) in let d = else_held of j z a.1 in
        tells_as w.1 d.1.1 (λ h k. if_found c.0 a.0 d.0 h.0.0 (h.0.1 k) (h.1 k))
        (tells_then w.1 a.1.1 d.1.1 (tells_then w.1 c.1 a.1.1 (condition_tells x w.1) (statement_tells j y (w.0, c.1))) (else_tells j z a.1))
    statement_tells j (s.While' x _ (b.more_of-Stmt y b.end_of-Stmt)) w =
        let c = condition_of x w.1 in let a = statement of in_loop y (w.0, c.1) in
        tells_both w.1 c.1 a.1.1 (λ h g k. while_found c.0 a.0 h (g k)) (condition_tells x w.1) (statement_tells in_loop y (w.0, c.1))
    statement_tells j (s.Do' _ (b.more_of-Stmt y b.end_of-Stmt) x) w =
        let a = statement of in_loop y w in let c = condition_of x a.1.1 in
        tells_both w.1 a.1.1 c.1 (λ h g k. do_found a.0 c.0 (h k) g) (statement_tells in_loop y w) (condition_tells x a.1.1)
    statement_tells j (s.For' first c e _ (b.more_of-Stmt y b.end_of-Stmt)) w =
        let p = first_of first (in_scope w) in let q = optional_condition c p.1.1 in let r = optional_value e q.1 in let a = statement of in_loop y (p.1.0, r.1) in
        left_tells w.1 a.1.1
        (tells_as (in_scope w).1 a.1.1 (λ h k. for_found p.0 q.0 r.0 a.0 h.0.0.0 h.0.0.1 h.0.1 (h.1 k))
        (tells_then (in_scope w).1 r.1 a.1.1 (tells_then (in_scope w).1 q.1 r.1 (tells_then (in_scope w).1 p.1.1 q.1 (first_tells first (in_scope w)) (optional_condition_tells c p.1.1)) (optional_value_tells e q.1))
        (statement_tells in_loop y (p.1.0, r.1))))
    statement_tells j (s.Switch' x _ list) w =
        let o = operand_of x w.1 in let f = judge_section_row of (in_switch j) (switch_type o.0) list (Some []) (no_labels, (w.0, o.1)) in
        tells_both w.1 o.1 f.1.1.1 (λ h g k. switch_found o.0 f.0 h (g k)) (operand_tells x w.1)
        (sections_tell (in_switch j) (switch_type o.0) list (Some []) o.1 (no_labels, (w.0, o.1)) (tells_none o.1 (λ k. refl)))
    statement_tells j (s.Break at) w = tells_as w.1 (w.1.0, (break_statement j at w.1.1).1) (λ h k. h) (break_tells w.1.0 j at w.1.1)
    statement_tells j (s.Continue at) w = tells_as w.1 (w.1.0, (continue_statement j at w.1.1).1) (λ h k. h) (continue_tells w.1.0 j at w.1.1)
    statement_tells j (s.Return at x) w = return_tells of at x w.1
    statement_tells j (s.Expression x) w = let v = full_value x w.1 in tells_as w.1 v.1 (λ h k. map_found _ v.0 h) (value_tells x w.1)
    statement_tells j s.Empty w = tells_none w.1 (λ k. refl)
    statement_tells j (s.Local x) w = let r = local_of x w in tells_as w.1 r.1.1 (λ h k. map_found _ r.0 h) (local_tells x w)

    pub row_tells : (j : Jumps) {m : _} (xs : b.Row_of-Stmt m) (found : Option (List TStmt)) (v : JudgementState) (w : BodyState) → Tells (Under found) v w.1 → Tells (Under (statement_row of j xs found w).0) v (statement_row of j xs found w).1.1
    row_tells j b.end_of-Stmt found v w h = h
    row_tells j (b.more_of-Stmt x xs) found v w h =
        let r = statement of j x w in
        row_tells j xs (append_part found r.0) v r.1 (tells_both v w.1 r.1.1 (λ g l k. append_found found r.0 (g k) (l k)) h (statement_tells j x w))

    else_tells : (j : Jumps) (z : b.Held-Stmt-If-2) (w : BodyState) → Tells (Under (else_held of j z w).0) w.1 (else_held of j z w).1.1
    else_tells j b.None' w = tells_none w.1 (λ k. refl)
    else_tells j (b.Some' _ (b.more_of-Stmt x b.end_of-Stmt)) w =
        let r = statement of j x w in
        tells_as w.1 r.1.1 (λ h k. map_found Some r.0 (h k)) (statement_tells j x w)

    sections_tell : (j : Jumps) (ty : Option IntegerType) {m : _} (xs : b.Row_of-Section m) (found : Option (List TSection)) (v : JudgementState) (u : SwitchState) → Tells (Under found) v u.1.1
        → Tells (Under (judge_section_row of j ty xs found u).0) v (judge_section_row of j ty xs found u).1.1.1
    sections_tell j ty b.end_of-Section found v u h = h
    sections_tell j ty (b.more_of-Section label _ list rest) found v u h =
        let l = beside_locals u (label_of ty label (u.0, u.1.1)) in
        let r = statement_row of j list (Some []) l.1.1 in
        sections_tell j ty rest (append_part found (section_under l.0 r.0)) v (l.1.0, r.1)
        (tells_both v u.1.1 r.1.1 (λ g p k. append_found found (section_under l.0 r.0) (g k) (section_found l.0 r.0 p.0 (p.1 k))) h
        (tells_then u.1.1 l.1.1.1 r.1.1 (label_tells ty label (u.0, u.1.1)) (row_tells j list (Some []) l.1.1.1 l.1.1 (tells_none l.1.1.1 (λ k. refl)))))
