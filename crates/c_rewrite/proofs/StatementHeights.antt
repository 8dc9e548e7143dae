-- The heights of statements in their trees.
use Rattle.std.proofs.Common.{◌≡◌, ℕ, zero, suc, ◌<◌, ◌≤◌, List, [], ◌∷◌, Option, Some, ap, ◌∙◌, arith}
use Rattle.std.specs.Prelude.{slice_get}
use Rattle.std.proofs.lemmas.Option.{none-some}
use Rattle.c_typed_tree.specs.declared.expressions.TExpr as e
use Rattle.c_typed_tree.specs.declared.statements.TStmt as s
use Rattle.c_typed_tree.specs.declared.statements.TFirst.{TFirst}
use Rattle.c_typed_tree.specs.declared.statements.TSection.{TSection}
use Rattle.c_typed_tree.specs.c_typed_height.Heights.{stmt_height, else_height, stmts_height, sections_height}
use Rattle.c_typed_tree.specs.View.{stmt_view}
use Rattle.c_typed_tree.specs.model.View.{stmts_view, opens as opens_views}
use Rattle.c_typed_tree.specs.model.Lists.{sections_view, else_view}
use Rattle.c_typed_tree.proofs.Views.{view_block, view_switch, view_if}

pub block_height : (x : s.TStmt) (xs : List s.TStmt) → x ≡ s.Block xs → stmts_height (stmts_view xs) < stmt_height (stmt_view x)
block_height x xs is =
    let e = ap (λ v. stmt_height (stmt_view v)) is ∙ ap stmt_height (view_block xs) in
    omega (arith, e)

pub if_height : (x : s.TStmt) (c : e.TExpr) (y : s.TStmt) (z : Option s.TStmt) → x ≡ s.If c y z
    → (stmt_height (stmt_view y) < stmt_height (stmt_view x)) × (else_height (else_view z) < stmt_height (stmt_view x))
if_height x c y z is =
    let e = ap (λ v. stmt_height (stmt_view v)) is ∙ ap stmt_height (view_if c y z) in
    (omega (arith, e), omega (arith, e))

pub while_height : (x : s.TStmt) (c : e.TExpr) (y : s.TStmt) → x ≡ s.While c y → stmt_height (stmt_view y) < stmt_height (stmt_view x)
unfolding opens_views
while_height x c y is = let e = ap (λ v. stmt_height (stmt_view v)) is in omega (arith, e)

pub do_height : (x : s.TStmt) (y : s.TStmt) (c : e.TExpr) → x ≡ s.Do y c → stmt_height (stmt_view y) < stmt_height (stmt_view x)
unfolding opens_views
do_height x y c is = let e = ap (λ v. stmt_height (stmt_view v)) is in omega (arith, e)

pub for_height : (x : s.TStmt) (first : TFirst) (c d : Option e.TExpr) (y : s.TStmt) → x ≡ s.For first c d y → stmt_height (stmt_view y) < stmt_height (stmt_view x)
unfolding opens_views
for_height x first c d y is = let e = ap (λ v. stmt_height (stmt_view v)) is in omega (arith, e)

pub switch_height : (x : s.TStmt) (c : e.TExpr) (xs : List TSection) → x ≡ s.Switch c xs → sections_height (sections_view xs) < stmt_height (stmt_view x)
switch_height x c xs is =
    let e = ap (λ v. stmt_height (stmt_view v)) is ∙ ap stmt_height (view_switch c xs) in
    omega (arith, e)

pub element_height : (xs : List s.TStmt) (k : ℕ) (x : s.TStmt) → slice_get xs k ≡ Some x → stmt_height (stmt_view x) ≤ stmts_height (stmts_view xs)
element_height [] k x is = absurd (none-some x is)
element_height (y ∷ ys) zero x is =
    let same : y ≡ x = cc in
    let e = ap (λ v. stmt_height (stmt_view v)) same in
    omega (arith, e)
element_height (y ∷ ys) (suc k) x is = let h = element_height ys k x is in omega (arith, h)

pub section_height : (xs : List TSection) (k : ℕ) (x : TSection) → slice_get xs k ≡ Some x → stmts_height (stmts_view x.statements) < sections_height (sections_view xs)
section_height [] k x is = absurd (none-some x is)
section_height (y ∷ ys) zero x is =
    let same : y ≡ x = cc in
    let e = ap (λ v. stmts_height (stmts_view v.statements)) same in
    omega (arith, e)
section_height (y ∷ ys) (suc k) x is = let h = section_height ys k x is in omega (arith, h)
