-- How high statements are that are made of their parts.
use Rattle.std.proofs.Common.{◌≡◌, ℕ, suc, ◌*◌, ◌≤◌, max, List, [], ◌∷◌, ◌++◌, Option, Some, None, IfSome, sym, subst, arith}
use Rattle.std.specs.Option.{option_map}
use Rattle.c_typed_tree.specs.declared.expressions.TExpr.{TExpr}
use Rattle.c_typed_tree.specs.declared.statements.TStmt.{TStmt}
use Rattle.c_typed_tree.specs.declared.statements.TStmt as t
use Rattle.c_typed_tree.specs.declared.statements.TFirst.{TFirst}
use Rattle.c_typed_tree.specs.declared.statements.TLabel.{TLabel}
use Rattle.c_typed_tree.specs.declared.statements.TLocal.{TLocal}
use Rattle.c_typed_tree.specs.declared.statements.TSection.{TSection}
use Rattle.c_typed_tree.specs.Statements.{Stmt}
use Rattle.c_typed_tree.specs.View.{stmt_view}
use Rattle.c_typed_tree.specs.model.View.{stmts_view, opens}
use Rattle.c_typed_tree.specs.model.Lists.{sections_view, else_view}
use Rattle.c_typed_tree.proofs.Views.{view_block, view_switch, view_if}
use Rattle.c_typed_tree.specs.c_typed_height.Heights.{stmt_height, else_height, stmts_height, sections_height}
use Rattle.c_typing_primary_rules.specs.declared.switches.SwitchValue.{SwitchValue}
use Rattle.c_typing_state.specs.declared.notes.Notes.{Notes}
use Rattle.c_typing_statement_rules.specs.declared.jumps.Jumps.{Jumps}
use Rattle.c_typing_statement_rules.specs.Jumps.{bad_jump, break_statement, continue_statement}
use Rattle.c_typing_statement_rules.specs.Forms.{if_else, while_loop, do_loop, for_loop, switch, section_under, block, expression_statement, local_statement}
use Rattle.c_typing_function_sound.proofs.CTypingHeightLaws.CExpressionHeightLaws.Forms.{either_found}
use Rattle.c_typing_function_sound.proofs.CTypingHeightLaws.CStatementHeightLaws.Parts.{IsLow, nothing_low, both_low, left_low, right_low, node_low, mapped_if_some, value_height, operand_height, optional_value_height, statement_height, local_height, first_of_for_height}

-- ---- lists

abbrev pub statements_height : List TStmt → ℕ
statements_height xs = stmts_height (stmts_view xs)

pub statements_more : (n : ℕ) (xs : List TStmt) (x : TStmt) → IsLow statements_height n xs → IsLow statement_height n x → IsLow statements_height n (xs ++ x ∷ [])
statements_more n [] x h g = both_low (statement_height x) 0 n g (nothing_low n)
statements_more n (y ∷ ys) x h g =
    let own = statement_height y in
    both_low own (statements_height (ys ++ x ∷ [])) n (left_low own (statements_height ys) n h) (statements_more n ys x (right_low own (statements_height ys) n h) g)

abbrev pub section_height : TSection → ℕ
section_height x = suc (statements_height x.statements)

abbrev pub all_sections_height : List TSection → ℕ
all_sections_height xs = sections_height (sections_view xs)

pub sections_more : (n : ℕ) (xs : List TSection) (x : TSection) → IsLow all_sections_height n xs → IsLow section_height n x → IsLow all_sections_height n (xs ++ x ∷ [])
sections_more n [] x h g = both_low (section_height x) 0 n g (nothing_low n)
sections_more n (y ∷ ys) x h g =
    let own = section_height y in
    both_low own (all_sections_height (ys ++ x ∷ [])) n (left_low own (all_sections_height ys) n h) (sections_more n ys x (right_low own (all_sections_height ys) n h) g)

abbrev pub otherwise_height : Option TStmt → ℕ
otherwise_height x = else_height (else_view x)

-- ---- numbers

two_low : (a b n : ℕ) → a ≤ 3 * n → b ≤ 3 * n → suc (max a b) ≤ 3 * suc n
two_low a b n h g = omega (arith, h, g)

three_low : (a b c n : ℕ) → a ≤ 3 * n → b ≤ 3 * n → c ≤ 3 * n → suc (max a (max b c)) ≤ 3 * suc n
three_low a b c n h g k = omega (arith, h, g, k)

four_low : (a b c d n : ℕ) → a ≤ 3 * n → b ≤ 3 * n → c ≤ 3 * n → d ≤ 3 * n → suc (max a (max b (max c d))) ≤ 3 * suc n
four_low a b c d n h g k l = omega (arith, h, g, k, l)

-- a statement as its plain data says it
seen : (n : ℕ) (x : TStmt) (y : Stmt) → stmt_view x ≡ y → stmt_height y ≤ 3 * n → IsLow statement_height n x
seen n x y e h = subst (λ v. stmt_height v ≤ 3 * n) (sym e) h

-- ---- forms, each of parts within n levels

module _ (n : ℕ) where
  abbrev IsOneHigher : TStmt → Type 0
  IsOneHigher x = IsLow statement_height (suc n) x

  body_low : (xs : List TStmt) → IsLow statements_height n xs → IsOneHigher (t.Block xs)
  body_low xs h = seen (suc n) (t.Block xs) _ (view_block xs) (node_low (statements_height xs) n h)

  pub block_low : (o : Option (List TStmt)) → IfSome o (IsLow statements_height n) → IfSome (block o) IsOneHigher
  block_low o h = mapped_if_some (IsLow statements_height n) IsOneHigher t.Block o h body_low

  pub if_low : (c : Option TExpr) (x : Option TStmt) (y : Option (Option TStmt)) → IfSome c (IsLow value_height n) → IfSome x (IsLow statement_height n) → IfSome y (IsLow otherwise_height n) → IfSome (if_else c x y) IsOneHigher
  if_low None x y h g k = tt
  if_low (Some c) None y h g k = tt
  if_low (Some c) (Some x) None h g k = tt
  if_low (Some c) (Some x) (Some y) h g k = seen (suc n) (t.If c x y) _ (view_if c x y) (three_low (value_height c) (statement_height x) (otherwise_height y) n h g k)

  pub while_low : (c : Option TExpr) (x : Option TStmt) → IfSome c (IsLow value_height n) → IfSome x (IsLow statement_height n) → IfSome (while_loop c x) IsOneHigher
  unfolding opens
  while_low None x h g = tt
  while_low (Some c) None h g = tt
  while_low (Some c) (Some x) h g = two_low (value_height c) (statement_height x) n h g

  pub do_low : (x : Option TStmt) (c : Option TExpr) → IfSome x (IsLow statement_height n) → IfSome c (IsLow value_height n) → IfSome (do_loop x c) IsOneHigher
  unfolding opens
  do_low None c h g = tt
  do_low (Some x) None h g = tt
  do_low (Some x) (Some c) h g = two_low (statement_height x) (value_height c) n h g

  pub for_low : (p : Option TFirst) (c e : Option (Option TExpr)) (x : Option TStmt) → IfSome p (IsLow first_of_for_height n) → IfSome c (IsLow optional_value_height n) → IfSome e (IsLow optional_value_height n) → IfSome x (IsLow statement_height n)
      → IfSome (for_loop p c e x) IsOneHigher
  unfolding opens
  for_low None c e x h g k l = tt
  for_low (Some p) None e x h g k l = tt
  for_low (Some p) (Some c) None x h g k l = tt
  for_low (Some p) (Some c) (Some e) None h g k l = tt
  for_low (Some p) (Some c) (Some e) (Some x) h g k l = four_low (first_of_for_height p) (optional_value_height c) (optional_value_height e) (statement_height x) n h g k l

  pub switch_low : (o : Option SwitchValue) (xs : Option (List TSection)) → IfSome o (IsLow operand_height n) → IfSome xs (IsLow all_sections_height n) → IfSome (switch o xs) IsOneHigher
  switch_low None xs h g = tt
  switch_low (Some o) None h g = tt
  switch_low (Some o) (Some xs) h g = seen (suc n) (t.Switch o.tree xs) _ (view_switch o.tree xs) (two_low (operand_height o) (all_sections_height xs) n h g)

  pub section_low : (l : Option TLabel) (xs : Option (List TStmt)) → IfSome xs (IsLow statements_height n) → IfSome (section_under l xs) (IsLow section_height (suc n))
  section_low None xs h = tt
  section_low (Some l) None h = tt
  section_low (Some l) (Some xs) h = node_low (statements_height xs) n h

  expression_made : (x : TExpr) → IsLow value_height n x → IsOneHigher (t.Expression x)
  unfolding opens
  expression_made x h = node_low (value_height x) n h

  pub expression_low : (o : Option TExpr) → IfSome o (IsLow value_height n) → IfSome (expression_statement o) IsOneHigher
  expression_low o h = mapped_if_some (IsLow value_height n) IsOneHigher t.Expression o h expression_made

  pub empty_low : IsOneHigher t.Empty
  unfolding opens
  empty_low = node_low 0 n (nothing_low n)

  break_made : IsOneHigher t.Break
  unfolding opens
  break_made = node_low 0 n (nothing_low n)

  pub break_low : (j : Jumps) (at : ℕ) (m : Notes) → IfSome (break_statement j at m).0 IsOneHigher
  break_low j at m = either_found IsOneHigher j.breaks (Some t.Break, m) (bad_jump at m) break_made tt

  continue_made : IsOneHigher t.Continue
  unfolding opens
  continue_made = node_low 0 n (nothing_low n)

  pub continue_low : (j : Jumps) (at : ℕ) (m : Notes) → IfSome (continue_statement j at m).0 IsOneHigher
  continue_low j at m = either_found IsOneHigher j.continues (Some t.Continue, m) (bad_jump at m) continue_made tt

local_made : (n : ℕ) (l : TLocal) → IsLow local_height n l → IsLow statement_height n (t.Local l)
unfolding opens
local_made n l h = h

pub local_statement_low : (n : ℕ) (o : Option TLocal) → IfSome o (IsLow local_height n) → IfSome (local_statement o) (IsLow statement_height n)
local_statement_low n o h = mapped_if_some (IsLow local_height n) (IsLow statement_height n) t.Local o h (local_made n)

pub else_low : (n : ℕ) (o : Option TStmt) → IfSome o (IsLow statement_height n) → IfSome (option_map Some o) (IsLow otherwise_height n)
else_low n o h = mapped_if_some (IsLow statement_height n) (IsLow otherwise_height n) Some o h (λ x k. k)
