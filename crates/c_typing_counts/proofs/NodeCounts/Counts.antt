-- Counts over lists: one more element behind the others.
use Rattle.std.proofs.Common.{◌≡◌, ◌<◌, ℕ, ◌+◌, ◌-◌, min, List, [], ◌∷◌, ◌++◌, length, take, get_or, map, sum_by, ap, ◌∙◌, sym, arith}
use Rattle.std.proofs.lemmas.List.{take_more, map-append}
use Rattle.std.proofs.lemmas.List.Sums.{sum_by_push}
use Rattle.c_typed_tree.specs.declared.types.CType.{CType}
use Rattle.c_typed_tree.specs.declared.expressions.Callee.{Callee}
use Rattle.c_typed_tree.specs.declared.expressions.TExpr as e
use Rattle.c_typed_tree.specs.declared.statements.TStmt as s
use Rattle.c_typed_tree.specs.declared.statements.TLocal.{TLocal}
use Rattle.c_typed_tree.specs.declared.statements.TSection.{TSection}
use Rattle.c_typed_tree.specs.declared.units.TypedFn.{TypedFn}
use Rattle.c_typed_tree.specs.View.{expr_view, local_view, stmt_view}
use Rattle.c_typed_tree.specs.model.View.{exprs_view, stmts_view}
use Rattle.c_typed_tree.specs.model.Lists.{sections_view}
use Rattle.c_typed_tree.specs.Counts.{declared_nodes, expr_nodes, exprs_nodes, stmt_nodes, stmts_nodes, sections_nodes, function_nodes}
use Rattle.c_typed_tree.proofs.Views.{view_call, view_comma, view_block, view_switch}

pub exprs_end : (xs : List e.TExpr) (x : e.TExpr) → exprs_nodes (exprs_view (xs ++ x ∷ [])) ≡ exprs_nodes (exprs_view xs) + expr_nodes (expr_view x)
exprs_end [] x = omega arith
exprs_end (y ∷ xs) x = omega (arith, exprs_end xs x)

pub stmts_end : (xs : List s.TStmt) (x : s.TStmt) → stmts_nodes (stmts_view (xs ++ x ∷ [])) ≡ stmts_nodes (stmts_view xs) + stmt_nodes (stmt_view x)
stmts_end [] x = omega arith
stmts_end (y ∷ xs) x = omega (arith, stmts_end xs x)

pub sections_end : (xs : List TSection) (x : TSection) → sections_nodes (sections_view (xs ++ x ∷ [])) ≡ sections_nodes (sections_view xs) + stmts_nodes (stmts_view x.statements)
sections_end [] x = omega arith
sections_end (y ∷ xs) x = omega (arith, sections_end xs x)

pub locals_end : (xs : List TLocal) (x : TLocal)
    → sum_by declared_nodes (map local_view (xs ++ x ∷ [])) ≡ sum_by declared_nodes (map local_view xs) + declared_nodes (local_view x)
locals_end xs x = ap (sum_by declared_nodes) (map-append local_view xs (x ∷ [])) ∙ sum_by_push declared_nodes (map local_view xs) (local_view x)

pub functions_end : (xs : List TypedFn) (x : TypedFn) → sum_by function_nodes (xs ++ x ∷ []) ≡ sum_by function_nodes xs + function_nodes x
functions_end xs x = sum_by_push function_nodes xs x

-- One turn of a loop that adds what an element counts, where sums stand still at a number.
pub one_more : {A : Type 0} (f : List A → ℕ) (g : A → ℕ) → ((ys : List A) (y : A) → f (ys ++ y ∷ []) ≡ f ys + g y)
    → (xs : List A) (i : ℕ) (x : A) (total own new most : ℕ) → i < length xs → x ≡ get_or xs i x
    → total ≡ min (f (take i xs)) most → own ≡ min (g x) most → new ≡ min (total + own) most → new ≡ min (f (take (i + 1) xs)) most
one_more f g end xs i x total own new most h is before this sum =
    let e : f (take (i + 1) xs) ≡ f (take i xs) + g x = ap f (take_more xs i x h ∙ ap (λ y. take i xs ++ y ∷ []) (sym is)) ∙ end (take i xs) x in
    omega (arith, e)

-- ---- forms with a list

pub call_is : (v : e.TExpr) (ty : CType) (f : Callee) (xs : List e.TExpr) (list own most : ℕ) → v ≡ e.Call ty f xs
    → list ≡ min (exprs_nodes (exprs_view xs)) most → own ≡ min (1 + (list + 0)) most → own ≡ min (expr_nodes (expr_view v)) most
call_is v ty f xs list own most is hl h =
    let e : expr_nodes (expr_view v) ≡ 1 + exprs_nodes (exprs_view xs) = ap (λ w. expr_nodes (expr_view w)) is ∙ ap expr_nodes (view_call ty f xs) in
    omega (arith, e, hl, h)

pub comma_is : (v : e.TExpr) (ty : CType) (xs : List e.TExpr) (list own most : ℕ) → v ≡ e.Comma ty xs
    → list ≡ min (exprs_nodes (exprs_view xs)) most → own ≡ min (1 + (list + 0)) most → own ≡ min (expr_nodes (expr_view v)) most
comma_is v ty xs list own most is hl h =
    let e : expr_nodes (expr_view v) ≡ 1 + exprs_nodes (exprs_view xs) = ap (λ w. expr_nodes (expr_view w)) is ∙ ap expr_nodes (view_comma ty xs) in
    omega (arith, e, hl, h)

pub block_is : (v : s.TStmt) (xs : List s.TStmt) (list own most : ℕ) → v ≡ s.Block xs
    → list ≡ min (stmts_nodes (stmts_view xs)) most → own ≡ min (1 + (list + 0)) most → own ≡ min (stmt_nodes (stmt_view v)) most
block_is v xs list own most is hl h =
    let e : stmt_nodes (stmt_view v) ≡ 1 + stmts_nodes (stmts_view xs) = ap (λ w. stmt_nodes (stmt_view w)) is ∙ ap stmt_nodes (view_block xs) in
    omega (arith, e, hl, h)

pub switch_is : (v : s.TStmt) (x : e.TExpr) (xs : List TSection) (head list own most : ℕ) → v ≡ s.Switch x xs
    → head ≡ min (expr_nodes (expr_view x)) most → list ≡ min (sections_nodes (sections_view xs)) most → own ≡ min (1 + (head + list)) most
    → own ≡ min (stmt_nodes (stmt_view v)) most
switch_is v x xs head list own most is hh hl h =
    let e : stmt_nodes (stmt_view v) ≡ 1 + expr_nodes (expr_view x) + sections_nodes (sections_view xs) = ap (λ w. stmt_nodes (stmt_view w)) is ∙ ap stmt_nodes (view_switch x xs) in
    omega (arith, e, hh, hl, h)
