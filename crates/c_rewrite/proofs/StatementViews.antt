-- Rewritten statements in their trees.
use Rattle.std.proofs.Common.{◌≡◌, List, [], ◌∷◌, map, Option, refl, ap, sym, ◌∙◌}
use Rattle.std.specs.List.{AllZip}
use Rattle.c_typed_tree.specs.declared.expressions.TExpr as e
use Rattle.c_typed_tree.specs.declared.statements.TStmt as s
use Rattle.c_typed_tree.specs.declared.statements.TSection.{TSection}
use Rattle.c_typed_tree.specs.declared.statements.TLocal.{TLocal}
use Rattle.c_typed_tree.specs.Expressions.{Expr}
use Rattle.c_typed_tree.specs.Statements.{Stmt, Stmts, no_stmts, more_stmts, Sections, no_sections, more_sections}
use Rattle.c_typed_tree.specs.Statements as q
use Rattle.c_typed_tree.specs.View.{expr_view, stmt_view, local_view}
use Rattle.c_typed_tree.specs.model.View.{stmts_view}
use Rattle.c_typed_tree.specs.model.Lists.{sections_view, else_view}
use Rattle.c_typed_tree.proofs.Views.{view_block, view_switch, view_if}
use Rattle.c_rewrite.specs.Rewritten.{with_init, with_exprs, else_with_exprs, all_with_exprs, sections_with_exprs}

module _ (f : Expr → Expr) where
  -- what each element is to what stood there
  abbrev pub LocalDone : TLocal → TLocal → Type 0
  LocalDone x y = local_view y ≡ with_init f (local_view x)

  abbrev pub StmtDone : s.TStmt → s.TStmt → Type 0
  StmtDone x y = stmt_view y ≡ with_exprs f (stmt_view x)

  abbrev pub SectionDone : TSection → TSection → Type 0
  SectionDone x y = (y.label ≡ x.label) × (stmts_view y.statements ≡ all_with_exprs f (stmts_view x.statements))

  pub locals_done : (xs ys : List TLocal) → AllZip LocalDone xs ys → map local_view ys ≡ map (with_init f) (map local_view xs)
  locals_done [] [] h = refl
  locals_done [] (y ∷ ys) h = absurd h
  locals_done (x ∷ xs) [] h = absurd h
  locals_done (x ∷ xs) (y ∷ ys) h = ap (λ v. v ∷ map local_view ys) h.0 ∙ ap (λ l. with_init f (local_view x) ∷ l) (locals_done xs ys h.1)

  pub stmts_done : (xs ys : List s.TStmt) → AllZip StmtDone xs ys → stmts_view ys ≡ all_with_exprs f (stmts_view xs)
  stmts_done [] [] h = refl
  stmts_done [] (y ∷ ys) h = absurd h
  stmts_done (x ∷ xs) [] h = absurd h
  stmts_done (x ∷ xs) (y ∷ ys) h = ap (λ v. more_stmts v (stmts_view ys)) h.0 ∙ ap (more_stmts (with_exprs f (stmt_view x))) (stmts_done xs ys h.1)

  pub sections_done : (xs ys : List TSection) → AllZip SectionDone xs ys → sections_view ys ≡ sections_with_exprs f (sections_view xs)
  sections_done [] [] h = refl
  sections_done [] (y ∷ ys) h = absurd h
  sections_done (x ∷ xs) [] h = absurd h
  sections_done (x ∷ xs) (y ∷ ys) h =
      ap (λ l. more_sections l (stmts_view y.statements) (sections_view ys)) h.0.0
      ∙ ap (λ v. more_sections x.label v (sections_view ys)) h.0.1
      ∙ ap (more_sections x.label (all_with_exprs f (stmts_view x.statements))) (sections_done xs ys h.1)

  -- statements with lists in them
  pub block_done : (xs ys : List s.TStmt) → stmts_view ys ≡ all_with_exprs f (stmts_view xs) → stmt_view (s.Block ys) ≡ with_exprs f (stmt_view (s.Block xs))
  block_done xs ys h = view_block ys ∙ ap q.Block h ∙ sym (ap (with_exprs f) (view_block xs))

  pub switch_done : (x v : e.TExpr) (xs ys : List TSection) → expr_view v ≡ f (expr_view x) → sections_view ys ≡ sections_with_exprs f (sections_view xs)
      → stmt_view (s.Switch v ys) ≡ with_exprs f (stmt_view (s.Switch x xs))
  switch_done x v xs ys h g =
      view_switch v ys ∙ ap (λ u. q.Switch u (sections_view ys)) h ∙ ap (q.Switch (f (expr_view x))) g ∙ sym (ap (with_exprs f) (view_switch x xs))

  pub if_done : (x v : e.TExpr) (y w : s.TStmt) (z u : Option s.TStmt) → expr_view v ≡ f (expr_view x) → stmt_view w ≡ with_exprs f (stmt_view y)
      → else_view u ≡ else_with_exprs f (else_view z) → stmt_view (s.If v w u) ≡ with_exprs f (stmt_view (s.If x y z))
  if_done x v y w z u h g k =
      view_if v w u ∙ ap (λ t. q.If t (stmt_view w) (else_view u)) h ∙ ap (λ t. q.If (f (expr_view x)) t (else_view u)) g
      ∙ ap (q.If (f (expr_view x)) (with_exprs f (stmt_view y))) k ∙ sym (ap (with_exprs f) (view_if x y z))

pub ruleset statement_steps = (block_done, switch_done, if_done)
