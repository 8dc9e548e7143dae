-- The operands of commas, as a list that code sees.
use Rattle.std.proofs.Common.{◌≡◌, ℕ, suc, ◌+◌, ◌<◌, ◌≤◌, Bool, true, false, ◌&&◌, List, [], ◌∷◌, Option, Some, None, refl, sym, ap, ◌∙◌, length, drop, get_or, drop-cons, add-one, arith}
use mathlib.Core.Former.{this, list, arity}
use Rattle.std.specs.Prelude.{option_and_then}
use Rattle.c_typed_tree.specs.declared.types.CType.{CType}
use Rattle.c_typed_tree.specs.declared.expressions.TExpr as e
use Rattle.c_typed_tree.specs.declared.expressions.TExpr.TheBlock as eb
use Rattle.c_typed_tree.specs.Expressions as p
use Rattle.c_typed_tree.specs.Types.{PlainType}
use Rattle.c_typed_tree.specs.Layout.{integer_of}
use Rattle.c_typed_tree.specs.Expressions.{Expr, Exprs, no_exprs, more_exprs}
use Rattle.c_typed_tree.specs.Constants.{is_integer, are_built, constant, last_value}
use Rattle.c_typed_tree.specs.View.{type_view, expr_view}
use Rattle.c_typed_tree.specs.model.View.{exprs_view, opens}
use Rattle.c_typing_constants.specs.declared.evaluation.Evaluation.{Evaluation}
use Rattle.c_typing_constants.specs.model.Evaluations.{evaluation, sequence, start, last_from, is_nothing, comma}

operands_of : Expr → Exprs
operands_of (p.Comma ty xs) = xs
operands_of _ = no_exprs

row_is : (ty : CType) (s : List (Unit {0})) (xs : e.Row_of-TExpr (arity (list (this {0})) s))
    → operands_of (expr_view (e.Comma' ty s xs)) ≡ exprs_view (e.items-the_row-TExpr _ xs)
unfolding expr_view operands_of
row_is ty [] e.end_of-TExpr = refl
row_is ty (u ∷ s) (e.more_of-TExpr x xs) = ap (more_exprs (expr_view x)) (row_is ty s xs)

pub comma_view : (ty : CType) (xs : List e.TExpr) → expr_view (e.Comma ty xs) ≡ p.Comma (type_view ty) (exprs_view xs)
unfolding opens operands_of
comma_view ty xs =
    ap (p.Comma (type_view ty))
    (row_is ty _ (eb.hidden-the_row-TExpr-0 xs) ∙ ap exprs_view (eb.items_hidden-the_row-TExpr-0 xs))

-- ---- all operands at once

none_stays : (xs : Exprs) → last_value None xs ≡ None
none_stays no_exprs = refl
none_stays (more_exprs x xs) = refl

value_on : (first next : Option ℕ) (xs : Exprs)
    → last_value (option_and_then (λ _. next) first) xs ≡ option_and_then (λ _. last_value next xs) first
value_on None next xs = none_stays xs
value_on (Some n) next xs = refl

and_assoc : (a b c : Bool) → ((a && b) && c) ≡ (a && (b && c))
and_assoc true b c = refl
and_assoc false b c = refl

and_true : (a : Bool) → a ≡ (a && true)
and_true true = refl
and_true false = refl

pub built_all : (all : Evaluation) (xs : Exprs) → (last_from all xs).built ≡ (all.built && are_built xs)
built_all all no_exprs = and_true all.built
built_all all (more_exprs x xs) =
    built_all (sequence all (evaluation x)) xs ∙ and_assoc all.built (evaluation x).built (are_built xs)

pub value_all : (all : Evaluation) (xs : Exprs) → (last_from all xs).value ≡ last_value all.value xs
value_all all no_exprs = refl
value_all all (more_exprs x xs) = value_all (sequence all (evaluation x)) xs ∙ value_on all.value (constant x) xs

pub comma_is : (ty : PlainType) (xs : Exprs)
    → comma ty (is_nothing xs) (last_from start xs) ≡ evaluation (p.Comma ty xs)
comma_is ty no_exprs = refl
comma_is ty (more_exprs x xs) =
    ap (λ (r : Bool × Option ℕ). record { ty = integer_of ty; built = is_integer ty && r.0; value = r.1 })
    (ap (λ b. (b, (last_from start (more_exprs x xs)).value)) (built_all start (more_exprs x xs))
    ∙ ap (λ v. (are_built (more_exprs x xs), v)) (value_all start (more_exprs x xs)))

-- what the code does at commas
pub comma_done : (v : e.TExpr) (ty : CType) (xs ys : List e.TExpr) (nothing : Bool) (all r : Evaluation)
    → v ≡ e.Comma ty xs → ys ≡ xs → nothing ≡ is_nothing (exprs_view ys)
    → all ≡ last_from start (exprs_view ys) → r ≡ comma (type_view ty) nothing all → r ≡ evaluation (expr_view v)
comma_done v ty xs ys nothing all r hv hy hn ha hr =
    hr ∙ ap (λ b. comma (type_view ty) b all) hn ∙ ap (comma (type_view ty) (is_nothing (exprs_view ys))) ha
    ∙ comma_is (type_view ty) (exprs_view ys) ∙ ap (λ zs. evaluation (p.Comma (type_view ty) (exprs_view zs))) hy
    ∙ ap evaluation (sym (comma_view ty xs)) ∙ ap (λ w. evaluation (expr_view w)) (sym hv)

-- one operand more
one_step : (all : Evaluation) (y : e.TExpr) (ys : List e.TExpr)
    → last_from all (exprs_view (y ∷ ys)) ≡ last_from (sequence all (evaluation (expr_view y))) (exprs_view ys)
one_step all y ys = refl

pub last_more : (xs : List e.TExpr) (i : ℕ) (x : e.TExpr) (first all next : Evaluation) → i < length xs
    → x ≡ get_or xs i x → last_from first (exprs_view xs) ≡ last_from all (exprs_view (drop i xs))
    → next ≡ sequence all (evaluation (expr_view x))
    → last_from first (exprs_view xs) ≡ last_from next (exprs_view (drop (i + 1) xs))
last_more xs i x first all next within item so_far is =
    so_far
    ∙ (ap (λ ys. last_from all (exprs_view ys)) (drop-cons xs i x within)
    ∙ (one_step all (get_or xs i x) (drop (suc i) xs)
    ∙ (ap (λ y. last_from (sequence all (evaluation (expr_view y))) (exprs_view (drop (suc i) xs))) (sym item)
    ∙ (ap (λ n. last_from n (exprs_view (drop (suc i) xs))) (sym is)
    ∙ ap (λ k. last_from next (exprs_view (drop k xs))) (sym (add-one i))))))

pub some_operand : (xs : List e.TExpr) → 1 ≤ length xs → false ≡ is_nothing (exprs_view xs)
some_operand [] h = absurd (omega arith)
some_operand (x ∷ xs) h = refl
