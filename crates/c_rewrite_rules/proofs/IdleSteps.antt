-- Lists of idle expressions, and calls and commas.
use Rattle.std.proofs.Common.{◌≡◌, ℕ, zero, suc, ◌+◌, ◌<◌, ◌≤◌, true, false, ◌&&◌, List, [], ◌∷◌, length, drop, get_or, refl, ap, sym, ◌∙◌, arith, drop-cons, add-one}
use Rattle.c_typed_tree.specs.declared.types.CType.{CType}
use Rattle.c_typed_tree.specs.declared.expressions.Callee.{Callee}
use Rattle.c_typed_tree.specs.declared.expressions.TExpr as e
use Rattle.c_typed_tree.specs.declared.units.Local.{Local}
use Rattle.c_typed_tree.specs.View.{expr_view}
use Rattle.c_typed_tree.specs.model.View.{exprs_view}
use Rattle.c_typed_tree.proofs.Views.{view_call, view_comma}
use Rattle.c_rewrite_rules.specs.Rules.{is_idle, is_idle_place, are_idle}

pub rest_idle : (ls : List Local) (xs : List e.TExpr) (k : ℕ) (x : e.TExpr) → k < length xs → x ≡ get_or xs k x → is_idle ls (expr_view x) ≡ true
    → are_idle ls (exprs_view (drop k xs)) ≡ are_idle ls (exprs_view (drop (k + 1) xs))
rest_idle ls xs k x p is test =
    ap (λ l. are_idle ls (exprs_view l)) (drop-cons xs k x p)
    ∙ ap (λ y. is_idle ls (expr_view y) && are_idle ls (exprs_view (drop (suc k) xs))) (sym is)
    ∙ ap (λ b. b && are_idle ls (exprs_view (drop (suc k) xs))) test
    ∙ ap (λ j. are_idle ls (exprs_view (drop j xs))) (sym (add-one k))

pub first_not_idle : (ls : List Local) (xs : List e.TExpr) (k : ℕ) (x : e.TExpr) → k < length xs → x ≡ get_or xs k x → is_idle ls (expr_view x) ≡ false
    → are_idle ls (exprs_view (drop k xs)) ≡ false
first_not_idle ls xs k x p is test =
    ap (λ l. are_idle ls (exprs_view l)) (drop-cons xs k x p)
    ∙ ap (λ y. is_idle ls (expr_view y) && are_idle ls (exprs_view (drop (suc k) xs))) (sym is)
    ∙ ap (λ b. b && are_idle ls (exprs_view (drop (suc k) xs))) test

pub no_more_idle : (ls : List Local) (xs : List e.TExpr) (k : ℕ) → length xs ≤ k → are_idle ls (exprs_view (drop k xs)) ≡ true
no_more_idle ls [] k p = ap (λ l. are_idle ls (exprs_view l)) (nothing k)
  where
    nothing : (k : ℕ) → drop {A = e.TExpr} k [] ≡ []
    nothing zero = refl
    nothing (suc k) = refl
no_more_idle ls (x ∷ xs) zero p = absurd (omega arith)
no_more_idle ls (x ∷ xs) (suc k) p = no_more_idle ls xs k (omega arith)

pub call_not_idle : (ls : List Local) (ty : CType) (callee : Callee) (xs : List e.TExpr) → is_idle ls (expr_view (e.Call ty callee xs)) ≡ false
call_not_idle ls ty callee xs = ap (is_idle ls) (view_call ty callee xs)

pub call_no_place : (ls : List Local) (ty : CType) (callee : Callee) (xs : List e.TExpr) → is_idle_place ls (expr_view (e.Call ty callee xs)) ≡ false
call_no_place ls ty callee xs = ap (is_idle_place ls) (view_call ty callee xs)

pub comma_no_place : (ls : List Local) (ty : CType) (xs : List e.TExpr) → is_idle_place ls (expr_view (e.Comma ty xs)) ≡ false
comma_no_place ls ty xs = ap (is_idle_place ls) (view_comma ty xs)

pub comma_idle : (ls : List Local) (x : e.TExpr) (ty : CType) (xs : List e.TExpr) → x ≡ e.Comma ty xs → is_idle ls (expr_view x) ≡ are_idle ls (exprs_view xs)
comma_idle ls x ty xs is = ap (λ v. is_idle ls (expr_view v)) is ∙ ap (is_idle ls) (view_comma ty xs)

pub ruleset idle_steps = (rest_idle, first_not_idle, no_more_idle, call_not_idle, call_no_place, comma_no_place)
