-- How many depths the elements of a list take.
use Rattle.std.proofs.Common.{◌≡◌, ◌≤◌, ◌<◌, ℕ, zero, suc, ◌+◌, ◌*◌, ◌^◌, List, [], ◌∷◌, ◌++◌, length, get_or, take, ap, sym, ◌∙◌, arith}
use Rattle.c_typed_tree.specs.declared.types.CType.{CType}
use Rattle.c_typed_tree.specs.declared.expressions.Callee.{Callee}
use Rattle.c_typed_tree.specs.declared.expressions.TExpr as e
use Rattle.c_typed_tree.specs.Expressions.{Expr, Exprs}
use Rattle.c_typed_tree.specs.Expressions as p
use Rattle.c_typed_tree.specs.View.{type_view, expr_view}
use Rattle.c_typed_tree.specs.model.View.{exprs_view}
use Rattle.c_typed_tree.proofs.Views.{view_call, view_comma}
use Rattle.std.proofs.lemmas.List.{take_more, length-take}
use Rattle.c_typed_tree.specs.Expressions.{type_of}
use Rattle.lowering_code.specs.Registers.{value_register}
use Rattle.lowering_expressions.specs.declared.scope.LoweringScope.{LoweringScope}
use Rattle.lowering_expressions.specs.model.Scopes.{call_registers}
use Rattle.lowering_expressions.specs.Levels.{register_levels, levels_above, levels_of_each}

pub own_levels : (x : Expr) → 5 ≤ register_levels x
own_levels (p.Number ty n) = omega arith
own_levels (p.Local ty k) = omega arith
own_levels (p.Global ty k) = omega arith
own_levels (p.Call ty c xs) = omega arith
own_levels (p.Unary ty op x) = omega arith
own_levels (p.Binary ty op x y) = omega arith
own_levels (p.Assign ty op x y) = omega arith
own_levels (p.Conditional ty x y z) = omega arith
own_levels (p.Cast ty x) = omega arith
own_levels (p.Convert ty x) = omega arith
own_levels (p.Index ty x y) = omega arith
own_levels (p.Field ty x k) = omega arith
own_levels (p.Arrow ty x k) = omega arith
own_levels (p.Postfix ty op x) = omega arith
own_levels (p.Comma ty xs) = omega arith

pub above_at : (xs : List e.TExpr) (i : ℕ) (x : e.TExpr) → i < length xs → i + register_levels (expr_view (get_or xs i x)) ≤ levels_above (exprs_view xs)
above_at [] i x h = absurd (omega arith)
above_at (y ∷ xs) zero x h = omega arith
above_at (y ∷ xs) (suc i) x h = omega (arith, above_at xs i x (omega arith))

pub each_at : (xs : List e.TExpr) (i : ℕ) (x : e.TExpr) → i < length xs → register_levels (expr_view (get_or xs i x)) ≤ levels_of_each (exprs_view xs)
each_at [] i x h = absurd (omega arith)
each_at (y ∷ xs) zero x h = omega arith
each_at (y ∷ xs) (suc i) x h = omega (arith, each_at xs i x (omega arith))

pub length_le : (xs : List e.TExpr) → length xs ≤ levels_above (exprs_view xs)
length_le [] = omega arith
length_le (x ∷ xs) = omega (arith, length_le xs)

-- the parts of a tree that hold a list
pub call_is : (v : e.TExpr) (ty : CType) (c : Callee) (xs ys : List e.TExpr) → v ≡ e.Call ty c xs → ys ≡ xs → expr_view v ≡ p.Call (type_view ty) c (exprs_view ys)
call_is v ty c xs ys h same = ap expr_view h ∙ view_call ty c xs ∙ ap (λ l. p.Call (type_view ty) c (exprs_view l)) (sym same)

pub comma_is : (v : e.TExpr) (ty : CType) (xs ys : List e.TExpr) → v ≡ e.Comma ty xs → ys ≡ xs → expr_view v ≡ p.Comma (type_view ty) (exprs_view ys)
comma_is v ty xs ys h same = ap expr_view h ∙ view_comma ty xs ∙ ap (λ l. p.Comma (type_view ty) (exprs_view l)) (sym same)

-- one more argument
registers_end : (s : LoweringScope) (d : ℕ) (xs : List e.TExpr) (x : e.TExpr)
    → call_registers s d (exprs_view (xs ++ x ∷ [])) ≡ call_registers s d (exprs_view xs) ++ value_register s.registers.locals (d + length xs) (type_of (expr_view x)) ∷ []
registers_end s d [] x =
    let e : d ≡ d + 0 = omega arith in
    ap (λ k. value_register s.registers.locals k (type_of (expr_view x)) ∷ []) e
registers_end s d (y ∷ xs) x =
    let e : suc d + length xs ≡ d + suc (length xs) = omega arith in
    ap (λ l. value_register s.registers.locals d (type_of (expr_view y)) ∷ l)
    (registers_end s (suc d) xs x ∙ ap (λ k. call_registers s (suc d) (exprs_view xs) ++ value_register s.registers.locals k (type_of (expr_view x)) ∷ []) e)

pub registers_more : (s : LoweringScope) (d at i : ℕ) (xs : List e.TExpr) (x : e.TExpr) → i < length xs → x ≡ get_or xs i x → at ≡ d + i
    → call_registers s d (exprs_view (take (i + 1) xs)) ≡ call_registers s d (exprs_view (take i xs)) ++ value_register s.registers.locals at (type_of (expr_view x)) ∷ []
registers_more s d at i xs x lt is h =
    let n : d + length (take i xs) ≡ at = omega (arith, length-take i xs, lt, h) in
    ap (λ l. call_registers s d (exprs_view l)) (take_more xs i x lt ∙ ap (λ y. take i xs ++ y ∷ []) (sym is)) ∙ registers_end s d (take i xs) x
    ∙ ap (λ k. call_registers s d (exprs_view (take i xs)) ++ value_register s.registers.locals k (type_of (expr_view x)) ∷ []) n

pub register_there : (s : LoweringScope) (d at i : ℕ) (xs : List e.TExpr) (x : e.TExpr) → i < length xs → x ≡ get_or xs i x → at ≡ d + i
    → s.registers.locals + 5 * (d + levels_above (exprs_view xs)) < 2 ^ 32 → s.registers.locals + 5 * (at + 1) < 2 ^ 32
register_there s d at i xs x lt is h bound = omega (arith, above_at xs i x lt, own_levels (expr_view (get_or xs i x)), h, bound)
