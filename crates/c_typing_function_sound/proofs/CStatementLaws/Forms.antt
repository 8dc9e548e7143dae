-- A form of a statement is well typed where its parts are.
use Rattle.std.proofs.Common.{◌≡◌, ℕ, Bool, true, false, IsTrue, List, [], ◌∷◌, ◌++◌, Option, Some, None, IfSome, refl, ap, ◌∙◌, subst, if◌then◌else◌}
use Rattle.std.specs.Option.{option_map}
use Rattle.bk_arithmetic.specs.declared.integer_type.IntegerType.{IntegerType}
use Rattle.c_typed_tree.specs.declared.expressions.TExpr.{TExpr}
use Rattle.c_typed_tree.specs.declared.statements.TStmt.{TStmt}
use Rattle.c_typed_tree.specs.declared.statements.TStmt as t
use Rattle.c_typed_tree.specs.declared.statements.TFirst.{TFirst}
use Rattle.c_typed_tree.specs.declared.statements.TLabel.{TLabel}
use Rattle.c_typed_tree.specs.declared.statements.TLocal.{TLocal}
use Rattle.c_typed_tree.specs.declared.statements.TSection.{TSection}
use Rattle.c_typed_tree.specs.Types.{PlainType}
use Rattle.c_typed_tree.specs.Expressions.{type_of}
use Rattle.c_typed_tree.specs.View.{expr_view, stmt_view, first_view}
use Rattle.c_typed_tree.specs.model.View.{stmts_view, opens}
use Rattle.c_typed_tree.specs.model.Lists.{sections_view, else_view}
use Rattle.c_typed_tree.proofs.Views.{view_block, view_switch, view_if}
use Rattle.c_typed_tree.specs.Layout.{integer_of}
use Rattle.c_typed_tree.specs.Typing.{Context, is_promoted, is_typed}
use Rattle.c_typed_tree.specs.TypingStatements.{Jumps, in_loop, in_switch, is_condition, is_optional_condition, is_optional_value, is_first, are_labels, is_typed_stmt, is_typed_else, are_typed_stmts, are_typed_sections}
use Rattle.c_typing_primary_rules.specs.declared.switches.SwitchValue.{SwitchValue}
use Rattle.c_typing_state.specs.declared.notes.Notes.{Notes}
use Rattle.c_typing_state.specs.Checks.{append_part}
use Rattle.c_typing_statement_rules.specs.declared.jumps.Jumps as rules
use Rattle.c_typing_statement_rules.specs.declared.labels.Labels.{Labels}
use Rattle.c_typing_statement_rules.specs.Jumps.{bad_jump, break_statement, continue_statement}
use Rattle.c_typing_statement_rules.specs.Forms.{if_else, while_loop, do_loop, for_loop, switch, section_under, switch_type, block, expression_statement, local_statement}
use Rattle.c_typing_expression_sound.specs.c_type_laws.Typed.{IsSwitched}
use Rattle.c_typing_expression_sound.proofs.CTypeLaws.Truth.{front, back, also, three, four, along}
use Rattle.c_typing_expression_sound.specs.c_judgement_laws.Covers.{IsLawfulContext}
use Rattle.c_typing_expression_sound.proofs.CJudgementLaws.Notes.{Later, later_itself, later_fault}
use Rattle.c_typing_faults.specs.declared.faults.Kind.TheVariants.{BadJump}
use Rattle.c_typing_function_sound.proofs.CStatementLaws.Parts.{IsCondition, IsValue, IsOptionalCondition, IsOptionalValue}
use Rattle.c_typing_function_sound.proofs.CStatementLaws.Names.{IsDeclared, IsFirst}
use Rattle.c_typing_function_sound.proofs.CStatementLaws.Labels.{HaveLabels, IsLabelOf, integer_there, labels_more, have_more, have_last}

-- the jumps of the rules and those of typed trees
abbrev pub jumps_of : rules.Jumps → Jumps
jumps_of j = record { breaks = j.breaks; continues = j.continues }

module _ (c : Context) (lawful : IsLawfulContext c) (known : Type 0) (result : PlainType) where
  abbrev pub IsStmt : rules.Jumps → TStmt → Type 0
  IsStmt j x = IsTrue (is_typed_stmt c result (jumps_of j) (stmt_view x))

  abbrev pub AreStmts : rules.Jumps → List TStmt → Type 0
  AreStmts j xs = IsTrue (are_typed_stmts c result (jumps_of j) (stmts_view xs))

  abbrev pub IsElse : rules.Jumps → Option TStmt → Type 0
  IsElse j x = IsTrue (is_typed_else c result (jumps_of j) (else_view x))

  abbrev IsLooped : TStmt → Type 0
  IsLooped x = IsTrue (is_typed_stmt c result in_loop (stmt_view x))

  pub stmts_more : (j : rules.Jumps) (xs : List TStmt) (x : TStmt) → AreStmts j xs → IsStmt j x → AreStmts j (xs ++ x ∷ [])
  stmts_more j [] x h g = also (is_typed_stmt c result (jumps_of j) (stmt_view x)) true g refl
  stmts_more j (y ∷ ys) x h g =
      let own = is_typed_stmt c result (jumps_of j) (stmt_view y) in
      let rest = are_typed_stmts c result (jumps_of j) (stmts_view ys) in
      also own (are_typed_stmts c result (jumps_of j) (stmts_view (ys ++ x ∷ []))) (front own rest h) (stmts_more j ys x (back own rest h) g)

  -- ---- forms

  pub block_typed : (j : rules.Jumps) (list : Option (List TStmt)) → IfSome list (AreStmts j) → IfSome (block list) (IsStmt j)
  block_typed j None h = tt
  block_typed j (Some xs) h = along (is_typed_stmt c result (jumps_of j)) (view_block xs) h

  pub if_typed : (j : rules.Jumps) (e : Option TExpr) (x : Option TStmt) (y : Option (Option TStmt)) → IfSome e (IsCondition c lawful known) → IfSome x (IsStmt j) → IfSome y (IsElse j) → IfSome (if_else e x y) (IsStmt j)
  if_typed j None x y h g k = tt
  if_typed j (Some e) None y h g k = tt
  if_typed j (Some e) (Some x) None h g k = tt
  if_typed j (Some e) (Some x) (Some y) h g k =
      along (is_typed_stmt c result (jumps_of j)) (view_if e x y)
      (three (is_condition c (expr_view e)) (is_typed_stmt c result (jumps_of j) (stmt_view x)) (is_typed_else c result (jumps_of j) (else_view y)) h g k)

  pub else_typed : (j : rules.Jumps) (x : Option TStmt) → IfSome x (IsStmt j) → IfSome (option_map Some x) (IsElse j)
  else_typed j None h = tt
  else_typed j (Some x) h = h

  pub while_typed : (j : rules.Jumps) (e : Option TExpr) (x : Option TStmt) → IfSome e (IsCondition c lawful known) → IfSome x IsLooped → IfSome (while_loop e x) (IsStmt j)
  unfolding opens
  while_typed j None x h g = tt
  while_typed j (Some e) None h g = tt
  while_typed j (Some e) (Some x) h g = also (is_condition c (expr_view e)) (is_typed_stmt c result in_loop (stmt_view x)) h g

  pub do_typed : (j : rules.Jumps) (x : Option TStmt) (e : Option TExpr) → IfSome x IsLooped → IfSome e (IsCondition c lawful known) → IfSome (do_loop x e) (IsStmt j)
  unfolding opens
  do_typed j None e h g = tt
  do_typed j (Some x) None h g = tt
  do_typed j (Some x) (Some e) h g = also (is_condition c (expr_view e)) (is_typed_stmt c result in_loop (stmt_view x)) g h

  pub for_typed : (j : rules.Jumps) (p : Option TFirst) (e f : Option (Option TExpr)) (x : Option TStmt) → IfSome p (IsFirst c known lawful) → IfSome e (IsOptionalCondition c lawful known) → IfSome f (IsOptionalValue c lawful known) → IfSome x IsLooped
      → IfSome (for_loop p e f x) (IsStmt j)
  unfolding opens
  for_typed j None e f x h g k l = tt
  for_typed j (Some p) None f x h g k l = tt
  for_typed j (Some p) (Some e) None x h g k l = tt
  for_typed j (Some p) (Some e) (Some f) None h g k l = tt
  for_typed j (Some p) (Some e) (Some f) (Some x) h g k l =
      four (is_first c (first_view p)) (is_optional_condition c (option_map expr_view e)) (is_optional_value c (option_map expr_view f)) (is_typed_stmt c result in_loop (stmt_view x)) h g k l

  pub expression_typed : (j : rules.Jumps) (o : Option TExpr) → IfSome o (IsValue c lawful known) → IfSome (expression_statement o) (IsStmt j)
  unfolding opens
  expression_typed j None h = tt
  expression_typed j (Some x) h = h

  pub empty_typed : (j : rules.Jumps) → IsStmt j t.Empty
  unfolding opens
  empty_typed j = refl

  pub local_typed : (j : rules.Jumps) (o : Option TLocal) → IfSome o (IsDeclared c known lawful) → IfSome (local_statement o) (IsStmt j)
  unfolding opens
  local_typed j None h = tt
  local_typed j (Some l) h = h

  -- ---- jumps

  pub break_typed : (j : rules.Jumps) (at : ℕ) (n : Notes) → IfSome (break_statement j at n).0 (IsStmt j)
  unfolding opens
  break_typed j at n = choose j.breaks refl
    where
      choose : (b : Bool) → j.breaks ≡ b → IfSome (if b then (Some t.Break, n) else bad_jump at n).0 (IsStmt j)
      choose true e = e
      choose false e = tt

  pub continue_typed : (j : rules.Jumps) (at : ℕ) (n : Notes) → IfSome (continue_statement j at n).0 (IsStmt j)
  unfolding opens
  continue_typed j at n = choose j.continues refl
    where
      choose : (b : Bool) → j.continues ≡ b → IfSome (if b then (Some t.Continue, n) else bad_jump at n).0 (IsStmt j)
      choose true e = e
      choose false e = tt

  pub break_later : (j : rules.Jumps) (at : ℕ) (n : Notes) → Later c n (break_statement j at n).1
  break_later j at n = choose j.breaks
    where
      choose : (b : Bool) → Later c n (if b then (Some t.Break, n) else bad_jump at n).1
      choose true = later_itself c n
      choose false = later_fault c at BadJump n

  pub continue_later : (j : rules.Jumps) (at : ℕ) (n : Notes) → Later c n (continue_statement j at n).1
  continue_later j at n = choose j.continues
    where
      choose : (b : Bool) → Later c n (if b then (Some t.Continue, n) else bad_jump at n).1
      choose true = later_itself c n
      choose false = later_fault c at BadJump n

  -- ---- sections

  -- the sections that were found, with the labels that stand in them
  pub record HasSections (j : rules.Jumps) (ty : IntegerType) (ls : Labels) (xs : List TSection) : Type 0 where
    pub labels : IsTrue (are_labels (Some ty) (sections_view xs))
    pub have : HaveLabels ls xs
    pub statements : IsTrue (are_typed_sections c result (jumps_of j) (sections_view xs))

  -- where the operand has a fault, nothing is asked of them
  abbrev pub AreSections : rules.Jumps → Option IntegerType → Labels → List TSection → Type 0
  AreSections j None ls xs = Unit {0}
  AreSections j (Some ty) ls xs = HasSections j ty ls xs

  sections_typed : (j : rules.Jumps) (xs : List TSection) (x : TSection) → IsTrue (are_typed_sections c result (jumps_of j) (sections_view xs)) → AreStmts j x.statements
      → IsTrue (are_typed_sections c result (jumps_of j) (sections_view (xs ++ x ∷ [])))
  sections_typed j [] x h g = also (are_typed_stmts c result (jumps_of j) (stmts_view x.statements)) true g refl
  sections_typed j (y ∷ ys) x h g =
      let own = are_typed_stmts c result (jumps_of j) (stmts_view y.statements) in
      let rest = are_typed_sections c result (jumps_of j) (sections_view ys) in
      also own (are_typed_sections c result (jumps_of j) (sections_view (ys ++ x ∷ []))) (front own rest h) (sections_typed j ys x (back own rest h) g)

  section_more : (j : rules.Jumps) (ty : Option IntegerType) (ls later : Labels) (xs : List TSection) (label : TLabel) (list : List TStmt) → AreSections j ty ls xs → IsLabelOf ty ls later label → AreStmts j list
      → AreSections j ty later (xs ++ record { label = label; statements = list } ∷ [])
  section_more j None ls later xs label list h g k = tt
  section_more j (Some ty) ls later xs label list h g k =
      let x : TSection = record { label = label; statements = list } in
      record {
        labels = labels_more ty ls xs x h.labels h.have g.word g.new;
        have = have_last later xs x (have_more ls later xs g.more h.have) g.there;
        statements = sections_typed j xs x h.statements k;
      }

  pub part_more : (j : rules.Jumps) (ty : Option IntegerType) (ls later : Labels) (found : Option (List TSection)) (label : Option TLabel) (list : Option (List TStmt)) → IfSome found (AreSections j ty ls) → IfSome label (IsLabelOf ty ls later)
      → IfSome list (AreStmts j) → IfSome (append_part found (section_under label list)) (AreSections j ty later)
  part_more j ty ls later None label list h g k = tt
  part_more j ty ls later (Some xs) None list h g k = tt
  part_more j ty ls later (Some xs) (Some label) None h g k = tt
  part_more j ty ls later (Some xs) (Some label) (Some list) h g k = section_more j ty ls later xs label list h g k

  pub none_yet : (j : rules.Jumps) (ty : Option IntegerType) (ls : Labels) → AreSections j ty ls []
  none_yet j None ls = tt
  none_yet j (Some ty) ls = record { labels = refl; have = tt; statements = refl }

  pub switch_typed : (j inner : rules.Jumps) (o : Option SwitchValue) (ls : Labels) (found : Option (List TSection)) → jumps_of inner ≡ in_switch (jumps_of j) → IfSome o (IsSwitched c) → IfSome found (AreSections inner (switch_type o) ls)
      → IfSome (switch o found) (IsStmt j)
  switch_typed j inner None ls found e h g = tt
  switch_typed j inner (Some o) ls None e h g = tt
  switch_typed j inner (Some o) ls (Some xs) e h g =
      let x = expr_view o.tree in
      let sections = sections_view xs in
      along (is_typed_stmt c result (jumps_of j)) (view_switch o.tree xs)
      (four (is_promoted (type_of x)) (are_labels (integer_of (type_of x)) sections) (is_typed c x) (are_typed_sections c result (in_switch (jumps_of j)) sections)
      (along is_promoted h.value.type h.promoted)
      (along (λ q. are_labels q sections) (ap integer_of h.value.type ∙ integer_there o.ty) g.labels)
      h.value.typed
      (subst (λ i. IsTrue (are_typed_sections c result i sections)) e g.statements))
