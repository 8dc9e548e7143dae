-- Statements, and the bodies of functions: one line or two for each form.
use Rattle.std.proofs.Common.{ℕ, suc, ◌*◌, ◌≤◌, max, Bool, true, false, List, [], length, Option, Some, None, IfSome, arith}
use Rattle.bk_arithmetic.specs.declared.integer_type.IntegerType.{IntegerType}
use Rattle.c_tree.specs.declared.statements.Stmt as s
use Rattle.c_tree.specs.declared.statements.Stmt.TheBlock as b
use Rattle.c_tree.specs.declared.types.Declaration.{Declaration}
use Rattle.c_tree.specs.declared.declarations.Storage.{Storage}
use Rattle.c_tree.specs.declared.declarations.FunctionEnd.TheVariants.{Body}
use Rattle.c_tree.specs.declared.declarations.External.TheVariants.{Function}
use Rattle.c_tree.specs.Nodes.{Nodes, none, more, append_nodes, nodes_of, expr_node, type_node, part_of_for, first_nodes, label_nodes, stmt_node, stmt_row, stmt_held, section_row, external_node, node_height, nodes_height}
use Rattle.c_typed_tree.specs.declared.types.CType.{CType}
use Rattle.c_typed_tree.specs.declared.statements.TStmt.{TStmt}
use Rattle.c_typed_tree.specs.declared.statements.TStmt as t
use Rattle.c_typed_tree.specs.declared.statements.TSection.{TSection}
use Rattle.c_typed_tree.specs.declared.units.Local.{Local}
use Rattle.c_typed_tree.specs.c_typed_height.Heights.{function_height}
use Rattle.c_typing_state.specs.Checks.{append_part, walk}
use Rattle.c_typing_state.specs.Scopes.{enter}
use Rattle.c_typing_judgements.specs.Types.{JudgementState}
use Rattle.c_typing_statement_rules.specs.declared.jumps.Jumps.{Jumps}
use Rattle.c_typing_statement_rules.specs.Jumps.{no_jumps, in_loop, in_switch}
use Rattle.c_typing_statement_rules.specs.Forms.{switch_type, section_under}
use Rattle.c_typing_statement_rules.specs.Labels.{no_labels}
use Rattle.c_typing_statement_parts.specs.c_typing_local_rules.Locals.{BodyState, with_addressed}
use Rattle.c_typing_statements.specs.declared.c_typing_function_bodies.functions.FunctionType.{FunctionType}
use Rattle.c_typing_statement_parts.specs.Parts.{condition_of, full_value, operand_of, optional_condition, optional_value, local_of, first_of, label_of}
use Rattle.c_typing_statements.specs.Statements as j
use Rattle.c_typing_statements.specs.Statements.{SwitchState, in_scope, statement, statement_row, else_held}
use Rattle.c_typing_statements.specs.c_typing_function_bodies.Functions.{parameters_of, declared_parameters, result_of, typed_function, judge_function}
use Rattle.c_typing_function_sound.proofs.CTypingHeightLaws.CExpressionHeightLaws.Forms.{appended_all}
use Rattle.c_typing_function_sound.proofs.CTypingHeightLaws.CStatementHeightLaws.Parts.{IsLow, lower_left, lower_right, fits_left, fits_right, no_more, nothing_low, node_low, found_lower, walk_low, condition_low, value_low, value_height, operand_low, operand_height, optional_condition_low, optional_value_low, optional_value_height, return_low, local_low, first_low, first_of_for_height, statement_height}
use Rattle.c_typing_function_sound.proofs.CTypingHeightLaws.CStatementHeightLaws.Forms.{statements_height, statements_more, section_height, all_sections_height, sections_more, otherwise_height, block_low, if_low, while_low, do_low, for_low, switch_low, section_low, expression_low, empty_low, break_low, continue_low, local_statement_low, else_low}

second : (a b c : ℕ) → b ≤ max a (max b c)
second a b c = omega arith

third : (a b c : ℕ) → c ≤ max a (max b c)
third a b c = omega arith

last : (a b c : ℕ) → c ≤ max a (max b (max c 0))
last a b c = omega arith

-- what stands behind is among all
behind : (ms ns : Nodes) → nodes_height ns ≤ nodes_height (append_nodes ms ns)
behind none ns = no_more (nodes_height ns)
behind (more m ms) ns = let h = behind ms ns in larger (node_height m) (nodes_height (append_nodes ms ns)) (nodes_height ns) h
  where
    larger : (a b c : ℕ) → c ≤ b → c ≤ max a b
    larger a b c h = omega (arith, h)

in_front : (ms ns : Nodes) → nodes_height ms ≤ nodes_height (append_nodes ms ns)
in_front none ns = least (nodes_height ns)
  where
    least : (n : ℕ) → 0 ≤ n
    least n = omega arith
in_front (more m ms) ns = let h = in_front ms ns in wider (node_height m) (nodes_height ms) (nodes_height (append_nodes ms ns)) h
  where
    wider : (a b c : ℕ) → b ≤ c → max a b ≤ max a c
    wider a b c h = omega (arith, h)

-- the parts of a `for` that stand behind its first one
at_place : (a b c : ℕ) → a ≤ b → b ≤ c → a ≤ c
at_place a b c h g = omega (arith, h, g)

module _ (of : Option CType) where
  mutual
    unfolding statement stmt_node

    pub statement_low : (i : Jumps) (x : s.Stmt) (w : BodyState) → IfSome (statement of i x w).0 (IsLow statement_height (node_height (stmt_node x)))
    statement_low i (s.Block' _ list) w =
        let n = nodes_height (stmt_row list) in
        block_low n (statement_row of i list (Some []) (in_scope w)).0 (row_low n i list (Some []) (in_scope w) (no_more n) (nothing_low n))
    statement_low i (s.If' x _ (b.more_of-Stmt y b.end_of-Stmt) z) w =
        let p = node_height (expr_node x) in let q = node_height (stmt_node y) in let r = nodes_height (stmt_held z) in let n = max p (max q r) in
        let c = condition_of x w.1 in
        let u : BodyState = (w.0, c.1) in
        let a = statement of i y u in
        let d = else_held of i z a.1 in
        if_low n c.0 a.0 d.0 (found_lower value_height p n c.0 (lower_left p (max q r)) (condition_low x w.1)) (found_lower statement_height q n a.0 (second p q r) (statement_low i y u))
        (found_lower otherwise_height r n d.0 (third p q r) (otherwise_low i z a.1))
    statement_low i (s.While' x _ (b.more_of-Stmt y b.end_of-Stmt)) w =
        let p = node_height (expr_node x) in let q = node_height (stmt_node y) in let n = max p (max q 0) in
        let c = condition_of x w.1 in
        let u : BodyState = (w.0, c.1) in
        let a = statement of in_loop y u in
        while_low n c.0 a.0 (found_lower value_height p n c.0 (lower_left p (max q 0)) (condition_low x w.1)) (found_lower statement_height q n a.0 (second p q 0) (statement_low in_loop y u))
    statement_low i (s.Do' _ (b.more_of-Stmt y b.end_of-Stmt) x) w =
        let p = node_height (stmt_node y) in let q = node_height (expr_node x) in let n = max p (max q 0) in
        let a = statement of in_loop y w in
        let c = condition_of x a.1.1 in
        do_low n a.0 c.0 (found_lower statement_height p n a.0 (lower_left p (max q 0)) (statement_low in_loop y w)) (found_lower value_height q n c.0 (second p q 0) (condition_low x a.1.1))
    statement_low i (s.For' first c e _ (b.more_of-Stmt y b.end_of-Stmt)) w =
        let p = node_height (part_of_for c) in let q = node_height (part_of_for e) in let r = node_height (stmt_node y) in let rest = max p (max q (max r 0)) in
        let front = first_nodes first in let back = more (part_of_for c) (more (part_of_for e) (more (stmt_node y) none)) in let n = nodes_height (append_nodes front back) in
        let f = first_of first (in_scope w) in
        let g = optional_condition c f.1.1 in
        let h = optional_value e g.1 in
        let x : BodyState = (f.1.0, h.1) in
        let a = statement of in_loop y x in
        for_low n f.0 g.0 h.0 a.0 (found_lower first_of_for_height (nodes_height front) n f.0 (in_front front back) (first_low first (in_scope w)))
        (found_lower optional_value_height p n g.0 (at_place p rest n (lower_left p (max q (max r 0))) (behind front back)) (optional_condition_low c f.1.1))
        (found_lower optional_value_height q n h.0 (at_place q rest n (second p q (max r 0)) (behind front back)) (optional_value_low e g.1))
        (found_lower statement_height r n a.0 (at_place r rest n (last p q r) (behind front back)) (statement_low in_loop y x))
    statement_low i (s.Switch' x _ list) w =
        let p = node_height (expr_node x) in let q = nodes_height (section_row list) in let n = max p q in
        let o = operand_of x w.1 in
        let u : SwitchState = (no_labels, (w.0, o.1)) in
        let found = j.judge_section_row of (in_switch i) (switch_type o.0) list (Some []) u in
        switch_low n o.0 found.0 (found_lower operand_height p n o.0 (lower_left p q) (operand_low x w.1))
        (found_lower all_sections_height q n found.0 (lower_right p q) (sections_low q (in_switch i) (switch_type o.0) list (Some []) u (no_more q) (nothing_low q)))
    statement_low i (s.Break at) w = break_low 0 i at w.1.1
    statement_low i (s.Continue at) w = continue_low 0 i at w.1.1
    statement_low i (s.Return at x) w = return_low of at x w.1
    statement_low i (s.Expression x) w =
        let p = node_height (expr_node x) in let n = max p 0 in
        let v = full_value x w.1 in
        expression_low n v.0 (found_lower value_height p n v.0 (lower_left p 0) (value_low x w.1))
    statement_low i s.Empty w = empty_low 0
    statement_low i (s.Local d) w = local_statement_low _ (local_of d w).0 (local_low d w)

    row_low : {m : _} (n : ℕ) (i : Jumps) (xs : b.Row_of-Stmt m) (found : Option (List TStmt)) (w : BodyState) → nodes_height (stmt_row xs) ≤ n → IfSome found (IsLow statements_height n) → IfSome (statement_row of i xs found w).0 (IsLow statements_height n)
    row_low n i b.end_of-Stmt found w g h = h
    row_low n i (b.more_of-Stmt x xs) found w g h =
        let own = node_height (stmt_node x) in let rest = nodes_height (stmt_row xs) in
        let r = statement of i x w in
        row_low n i xs (append_part found r.0) r.1 (fits_right own rest n g)
        (appended_all (IsLow statement_height n) (IsLow statements_height n) (statements_more n) found r.0 h (found_lower statement_height own n r.0 (fits_left own rest n g) (statement_low i x w)))

    otherwise_low : (i : Jumps) (x : b.Held-Stmt-If-2) (w : BodyState) → IfSome (else_held of i x w).0 (IsLow otherwise_height (nodes_height (stmt_held x)))
    otherwise_low i b.None' w = nothing_low 0
    otherwise_low i (b.Some' _ (b.more_of-Stmt x b.end_of-Stmt)) w =
        let n = node_height (stmt_node x) in
        let r = statement of i x w in
        else_low (max n 0) r.0 (found_lower statement_height n (max n 0) r.0 (lower_left n 0) (statement_low i x w))

    sections_low : {m : _} (n : ℕ) (i : Jumps) (ty : Option IntegerType) (xs : b.Row_of-Section m) (found : Option (List TSection)) (w : SwitchState) → nodes_height (section_row xs) ≤ n → IfSome found (IsLow all_sections_height n)
        → IfSome (j.judge_section_row of i ty xs found w).0 (IsLow all_sections_height n)
    sections_low n i ty b.end_of-Section found w g h = h
    sections_low n i ty (b.more_of-Section label _ list rest) found w g h =
        let inner = nodes_height (stmt_row list) in let all = nodes_height (append_nodes (label_nodes label) (stmt_row list)) in let after = nodes_height (section_row rest) in
        let l = label_of ty label (w.0, w.1.1) in
        let u : BodyState = (w.1.0, l.1.1) in
        let r = statement_row of i list (Some []) u in
        let x = section_under l.0 r.0 in
        sections_low n i ty rest (append_part found x) (l.1.0, r.1) (fits_right (suc all) after n g)
        (appended_all (IsLow section_height n) (IsLow all_sections_height n) (sections_more n) found x h
        (found_lower section_height (suc all) n x (fits_left (suc all) after n g)
        (section_low all l.0 r.0 (found_lower statements_height inner all r.0 (behind (label_nodes label) (stmt_row list)) (row_low inner i list (Some []) u (no_more inner) (nothing_low inner))))))

-- ---- functions

body_low : (n : ℕ) (name : List ℕ) (ty : Option CType) (sound : Bool) (params : ℕ) (ls : List Local) (found : Option (List TStmt)) → IfSome found (IsLow statements_height n) → IfSome (typed_function name ty sound params ls found) (IsLow function_height (suc (suc n)))
body_low n name None sound params ls found h = tt
body_low n name (Some ty) false params ls found h = tt
body_low n name (Some ty) true params ls None h = tt
body_low n name (Some ty) true params ls (Some list) h = node_low (statement_height (t.Block list)) (suc n) (block_low n (Some list) h)

pub function_within : (d : Declaration) (of : Option FunctionType) (storage : Option Storage) (list : List s.Stmt) (w : JudgementState)
    → IfSome (judge_function d of list w).0 (λ f. function_height f ≤ 3 * node_height (external_node (Function d storage (Body list))))
function_within d of storage list w =
    let n = nodes_height (nodes_of stmt_node list) in let own = node_height (type_node d.ty) in
    let p = declared_parameters of (parameters_of d.ty) ([], (enter w.0, w.1)) in
    let v = walk (statement (result_of of) no_jumps) list (Some []) p.1 in
    let f = typed_function d.name (result_of of) p.0 (length p.1.0) (with_addressed v.1.1.1.addressed v.1.0) v.0 in
    found_lower function_height (suc (suc n)) (suc (max own (max (suc n) 0))) f (whole own n)
    (body_low n d.name (result_of of) p.0 (length p.1.0) (with_addressed v.1.1.1.addressed v.1.0) v.0
    (walk_low stmt_node statement_height statements_height (statement (result_of of) no_jumps) n (statements_more n) (statement_low (result_of of) no_jumps) list (Some []) p.1 (no_more n) (nothing_low n)))
  where
    whole : (a n : ℕ) → suc (suc n) ≤ suc (max a (max (suc n) 0))
    whole a n = omega arith
