-- Lists of literals, and what is seen of calls and commas.
use Rattle.std.proofs.Common.{◌≡◌, ℕ, zero, suc, ◌+◌, ◌<◌, ◌≤◌, true, false, ◌&&◌, List, [], ◌∷◌, length, drop, get_or, None, refl, ap, sym, ◌∙◌, arith, drop-cons, add-one}
use Rattle.c_typed_tree.specs.declared.types.CType.{CType}
use Rattle.c_typed_tree.specs.declared.expressions.Callee.{Callee}
use Rattle.c_typed_tree.specs.declared.expressions.TExpr as e
use Rattle.c_typed_tree.specs.View.{expr_view}
use Rattle.c_typed_tree.specs.model.View.{exprs_view}
use Rattle.c_typed_tree.proofs.Views.{view_call, view_comma}
use Rattle.c_rewrite_rules.specs.Rules.{literal_of, is_literal, are_literals, is_over_literals}

pub rest_literal : (xs : List e.TExpr) (k : ℕ) (x : e.TExpr) → k < length xs → x ≡ get_or xs k x → is_literal (expr_view x) ≡ true
    → are_literals (exprs_view (drop k xs)) ≡ are_literals (exprs_view (drop (k + 1) xs))
rest_literal xs k x p is test =
    ap (λ l. are_literals (exprs_view l)) (drop-cons xs k x p)
    ∙ ap (λ y. is_literal (expr_view y) && are_literals (exprs_view (drop (suc k) xs))) (sym is)
    ∙ ap (λ b. b && are_literals (exprs_view (drop (suc k) xs))) test
    ∙ ap (λ j. are_literals (exprs_view (drop j xs))) (sym (add-one k))

pub first_no_literal : (xs : List e.TExpr) (k : ℕ) (x : e.TExpr) → k < length xs → x ≡ get_or xs k x → is_literal (expr_view x) ≡ false
    → are_literals (exprs_view (drop k xs)) ≡ false
first_no_literal xs k x p is test =
    ap (λ l. are_literals (exprs_view l)) (drop-cons xs k x p)
    ∙ ap (λ y. is_literal (expr_view y) && are_literals (exprs_view (drop (suc k) xs))) (sym is)
    ∙ ap (λ b. b && are_literals (exprs_view (drop (suc k) xs))) test

pub no_more_literals : (xs : List e.TExpr) (k : ℕ) → length xs ≤ k → are_literals (exprs_view (drop k xs)) ≡ true
no_more_literals [] k p = ap (λ l. are_literals (exprs_view l)) (nothing k)
  where
    nothing : (k : ℕ) → drop {A = e.TExpr} k [] ≡ []
    nothing zero = refl
    nothing (suc k) = refl
no_more_literals (x ∷ xs) zero p = absurd (omega arith)
no_more_literals (x ∷ xs) (suc k) p = no_more_literals xs k (omega arith)

pub call_no_literal : (ty : CType) (callee : Callee) (xs : List e.TExpr) → literal_of (expr_view (e.Call ty callee xs)) ≡ None
call_no_literal ty callee xs = ap literal_of (view_call ty callee xs)

pub comma_no_literal : (ty : CType) (xs : List e.TExpr) → literal_of (expr_view (e.Comma ty xs)) ≡ None
comma_no_literal ty xs = ap literal_of (view_comma ty xs)

pub call_not_over : (ty : CType) (callee : Callee) (xs : List e.TExpr) → is_over_literals (expr_view (e.Call ty callee xs)) ≡ false
call_not_over ty callee xs = ap is_over_literals (view_call ty callee xs)

pub comma_over : (ty : CType) (xs : List e.TExpr) → is_over_literals (expr_view (e.Comma ty xs)) ≡ are_literals (exprs_view xs)
comma_over ty xs = ap is_over_literals (view_comma ty xs)

pub comma_seen : (x : e.TExpr) (ty : CType) (xs : List e.TExpr) → x ≡ e.Comma ty xs → is_over_literals (expr_view x) ≡ are_literals (exprs_view xs)
comma_seen x ty xs is = ap (λ v. is_over_literals (expr_view v)) is ∙ comma_over ty xs

pub ruleset literal_steps = (rest_literal, first_no_literal, no_more_literals, call_no_literal, comma_no_literal, call_not_over)
