-- Weights of lists: one more element behind the others.
use Rattle.std.proofs.Common.{◌≡◌, ◌<◌, ℕ, ◌+◌, ◌-◌, min, max, List, [], ◌∷◌, ◌++◌, length, take, get_or, map, sum_by, refl, ap, ◌∙◌, sym, arith}
use Rattle.std.proofs.lemmas.List.{take_more}
use Rattle.c_typed_tree.specs.declared.types.StructDef.{StructDef}
use Rattle.c_typed_tree.specs.declared.types.CType.{CType}
use Rattle.c_typed_tree.specs.declared.expressions.Callee.{Callee}
use Rattle.c_typed_tree.specs.declared.expressions.TExpr as e
use Rattle.c_typed_tree.specs.declared.statements.TStmt as s
use Rattle.c_typed_tree.specs.View.{expr_view, local_view, stmt_view}
use Rattle.c_typed_tree.specs.model.View.{exprs_view, stmts_view}
use Rattle.c_typed_tree.specs.Weight.{declared_weight, expr_weight, exprs_weight, exprs_count, label_weight, stmt_weight, stmts_weight, sections_weight, function_weight}
use Rattle.c_typed_tree.specs.Rooms.{local_bytes, locals_bytes, greatest_locals}
use Rattle.c_typed_tree.specs.declared.statements.TLocal.{TLocal}
use Rattle.c_typed_tree.specs.declared.statements.TSection.{TSection}
use Rattle.c_typed_tree.specs.declared.units.Local.{Local}
use Rattle.c_typed_tree.specs.declared.units.TypedFn.{TypedFn}
use Rattle.std.proofs.lemmas.List.{map-append}
use Rattle.std.proofs.lemmas.List.Sums.{sum_by_push}
use Rattle.c_typed_tree.specs.model.Lists.{sections_view}
use Rattle.c_typed_tree.proofs.Views.{view_call, view_comma, view_block, view_switch}

pub exprs_weight_end : (ds : List StructDef) (xs : List e.TExpr) (x : e.TExpr) → exprs_weight ds (exprs_view (xs ++ x ∷ [])) ≡ exprs_weight ds (exprs_view xs) + expr_weight ds (expr_view x)
unfolding expr_weight
exprs_weight_end ds [] x = omega arith
exprs_weight_end ds (y ∷ xs) x = omega (arith, exprs_weight_end ds xs x)

pub exprs_count_views : (xs : List e.TExpr) → exprs_count (exprs_view xs) ≡ length xs
exprs_count_views [] = refl
exprs_count_views (y ∷ xs) = omega (arith, exprs_count_views xs)

pub stmts_weight_end : (ds : List StructDef) (xs : List s.TStmt) (x : s.TStmt) → stmts_weight ds (stmts_view (xs ++ x ∷ [])) ≡ stmts_weight ds (stmts_view xs) + stmt_weight ds (stmt_view x)
unfolding stmt_weight
stmts_weight_end ds [] x = omega arith
stmts_weight_end ds (y ∷ xs) x = omega (arith, stmts_weight_end ds xs x)

pub sections_weight_end : (ds : List StructDef) (xs : List TSection) (x : TSection)
    → sections_weight ds (sections_view (xs ++ x ∷ [])) ≡ sections_weight ds (sections_view xs) + (label_weight x.label + stmts_weight ds (stmts_view x.statements))
unfolding stmt_weight
sections_weight_end ds [] x = omega arith
sections_weight_end ds (y ∷ xs) x = omega (arith, sections_weight_end ds xs x)

-- a sum over locals, over functions, and of bytes: one more behind the others
pub locals_weight_end : (ds : List StructDef) (xs : List TLocal) (x : TLocal)
    → sum_by (declared_weight ds) (map local_view (xs ++ x ∷ [])) ≡ sum_by (declared_weight ds) (map local_view xs) + declared_weight ds (local_view x)
locals_weight_end ds xs x = ap (sum_by (declared_weight ds)) (map-append local_view xs (x ∷ [])) ∙ sum_by_push (declared_weight ds) (map local_view xs) (local_view x)

pub bytes_end : (ds : List StructDef) (xs : List Local) (x : Local) → sum_by (local_bytes ds) (xs ++ x ∷ []) ≡ sum_by (local_bytes ds) xs + local_bytes ds x
bytes_end ds xs x = sum_by_push (local_bytes ds) xs x

pub functions_end : (ds : List StructDef) (xs : List TypedFn) (x : TypedFn)
    → sum_by (λ f. 1 + function_weight ds f) (xs ++ x ∷ []) ≡ sum_by (λ f. 1 + function_weight ds f) xs + (1 + function_weight ds x)
functions_end ds xs x = sum_by_push (λ f. 1 + function_weight ds f) xs x

pub greatest_end : (ds : List StructDef) (xs : List TypedFn) (x : TypedFn) → greatest_locals ds (xs ++ x ∷ []) ≡ max (greatest_locals ds xs) (locals_bytes ds x)
greatest_end ds [] x = omega arith
greatest_end ds (y ∷ xs) x = omega (arith, greatest_end ds xs x)

-- One turn of a loop that adds what an element weighs, where sums stand still at a number.
pub one_more : {A : Type 0} (f : List A → ℕ) (g : A → ℕ) → ((ys : List A) (y : A) → f (ys ++ y ∷ []) ≡ f ys + g y)
    → (xs : List A) (i : ℕ) (x : A) (total own new most : ℕ) → i < length xs → x ≡ get_or xs i x
    → total ≡ min (f (take i xs)) most → own ≡ min (g x) most → new ≡ min (total + own) most → new ≡ min (f (take (i + 1) xs)) most
one_more f g end xs i x total own new most h is before this sum =
    let e : f (take (i + 1) xs) ≡ f (take i xs) + g x = ap f (take_more xs i x h ∙ ap (λ y. take i xs ++ y ∷ []) (sym is)) ∙ end (take i xs) x in
    omega (arith, e)

-- The same for the greatest number.
pub greatest_more : (ds : List StructDef) (xs : List TypedFn) (i : ℕ) (x : TypedFn) (total own new most : ℕ) → i < length xs → x ≡ get_or xs i x
    → total ≡ min (greatest_locals ds (take i xs)) most → own ≡ min (locals_bytes ds x) most → new ≡ max total own → new ≡ min (greatest_locals ds (take (i + 1) xs)) most
greatest_more ds xs i x total own new most h is before this larger =
    let e : greatest_locals ds (take (i + 1) xs) ≡ max (greatest_locals ds (take i xs)) (locals_bytes ds x) =
    ap (greatest_locals ds) (take_more xs i x h ∙ ap (λ y. take i xs ++ y ∷ []) (sym is)) ∙ greatest_end ds (take i xs) x in
    omega (arith, e, before, this, larger)

-- A sum of which a part is the least of itself and a number.
pub least_sum : (a own_a b own_b sum most : ℕ) → own_a ≡ a → own_b ≡ min b most → sum ≡ min (own_a + own_b) most → sum ≡ min (a + b) most
least_sum a own_a b own_b sum most ha hb h = omega (arith, ha, hb, h)

-- ---- forms with a list

pub call_is : (ds : List StructDef) (v : e.TExpr) (ty : CType) (f : Callee) (xs : List e.TExpr) (list own most : ℕ) → v ≡ e.Call ty f xs
    → list ≡ min (exprs_weight ds (exprs_view xs)) most → own ≡ min (1 + (list + 0)) most → own ≡ min (expr_weight ds (expr_view v)) most
unfolding expr_weight
call_is ds v ty f xs list own most is hl h =
    let e : expr_weight ds (expr_view v) ≡ 1 + exprs_weight ds (exprs_view xs) = ap (λ w. expr_weight ds (expr_view w)) is ∙ ap (expr_weight ds) (view_call ty f xs) in
    omega (arith, e, hl, h)

pub comma_is : (ds : List StructDef) (v : e.TExpr) (ty : CType) (xs : List e.TExpr) (list count less own most : ℕ) → v ≡ e.Comma ty xs
    → list ≡ min (exprs_weight ds (exprs_view xs)) most → count ≡ length xs → less ≡ count - 1 → own ≡ min (list + less) most → own ≡ min (expr_weight ds (expr_view v)) most
unfolding expr_weight
comma_is ds v ty xs list count less own most is hl hc hm h =
    let e : expr_weight ds (expr_view v) ≡ exprs_count (exprs_view xs) - 1 + exprs_weight ds (exprs_view xs) =
    ap (λ w. expr_weight ds (expr_view w)) is ∙ ap (expr_weight ds) (view_comma ty xs) in
    omega (arith, e, exprs_count_views xs, hl, hc, hm, h)

pub block_is : (ds : List StructDef) (v : s.TStmt) (xs : List s.TStmt) (list own most : ℕ) → v ≡ s.Block xs
    → list ≡ min (stmts_weight ds (stmts_view xs)) most → own ≡ min (1 + (list + 0)) most → own ≡ min (stmt_weight ds (stmt_view v)) most
unfolding stmt_weight
block_is ds v xs list own most is hl h =
    let e : stmt_weight ds (stmt_view v) ≡ 1 + stmts_weight ds (stmts_view xs) = ap (λ w. stmt_weight ds (stmt_view w)) is ∙ ap (stmt_weight ds) (view_block xs) in
    omega (arith, e, hl, h)

pub switch_is : (ds : List StructDef) (v : s.TStmt) (x : e.TExpr) (xs : List TSection) (head list own most : ℕ) → v ≡ s.Switch x xs
    → head ≡ min (expr_weight ds (expr_view x)) most → list ≡ min (sections_weight ds (sections_view xs)) most → own ≡ min (1 + (head + list)) most
    → own ≡ min (stmt_weight ds (stmt_view v)) most
unfolding stmt_weight
switch_is ds v x xs head list own most is hh hl h =
    let e : stmt_weight ds (stmt_view v) ≡ 1 + (expr_weight ds (expr_view x) + sections_weight ds (sections_view xs)) =
    ap (λ w. stmt_weight ds (stmt_view w)) is ∙ ap (stmt_weight ds) (view_switch x xs) in
    omega (arith, e, hh, hl, h)
