-- The operands of expressions in their trees.
use Rattle.std.proofs.Common.{◌≡◌, ℕ, zero, suc, ◌<◌, ◌≤◌, Bool, true, false, List, [], ◌∷◌, length, Some, refl, ap, sym, ◌∙◌, arith}
use Rattle.std.specs.Prelude.{slice_get, slice_set, nat_lt, if◌then◌else◌}
use Rattle.std.proofs.lemmas.Bool.{ltb-true}
use Rattle.std.proofs.Common.{lt-ltb}
use Rattle.c_typed_tree.specs.declared.types.CType.{CType}
use Rattle.c_typed_tree.specs.declared.expressions.Callee.{Callee}
use Rattle.c_typed_tree.specs.declared.expressions.TExpr as e
use Rattle.c_typed_tree.specs.Expressions.{Expr, Exprs, no_exprs, more_exprs}
use Rattle.c_typed_tree.specs.Expressions as p
use Rattle.c_typed_tree.specs.View.{type_view, expr_view}
use Rattle.c_typed_tree.specs.model.View.{exprs_view, opens as opens_views}
use Rattle.c_typed_tree.proofs.Views.{view_call, view_comma}
use Rattle.c_rewrite_rules.specs.Nodes.{operand_list, counted, children_of, pick_first, pick_second, pick_third, with_listed, with_child}

-- opens the views
unfoldable pub opens : Unit {0}
unfolding opens_views
opens = tt

-- ---- lists

pub as_many : (xs : List e.TExpr) → length (operand_list (exprs_view xs)) ≡ length xs
as_many [] = refl
as_many (x ∷ xs) = ap suc (as_many xs)

seen_at : (xs : List e.TExpr) (k : ℕ) (x : e.TExpr) → slice_get xs k ≡ Some x → slice_get (operand_list (exprs_view xs)) k ≡ Some (expr_view x)
seen_at [] k x is = cc
seen_at (y ∷ ys) zero x is = let same : y ≡ x = cc in ap (λ v. Some (expr_view v)) same
seen_at (y ∷ ys) (suc k) x is = seen_at ys k x is

set_seen : (xs : List e.TExpr) (k : ℕ) (x : e.TExpr) → exprs_view (slice_set xs k x) ≡ with_listed (exprs_view xs) k (expr_view x)
set_seen [] k x = refl
set_seen (y ∷ ys) zero x = refl
set_seen (y ∷ ys) (suc k) x = ap (more_exprs (expr_view y)) (set_seen ys k x)

pub count_few : (xs : List e.TExpr) → length xs < 4294967296 → length (counted (exprs_view xs)) ≡ length xs
count_few xs p =
    let test : nat_lt (length (operand_list (exprs_view xs))) 4294967296 ≡ true =
    ap (λ n. nat_lt n 4294967296) (as_many xs) ∙ lt-ltb (length xs) 4294967296 p in
    ap (λ b. length (if b then operand_list (exprs_view xs) else [])) test ∙ as_many xs

pub count_many : (xs : List e.TExpr) → 4294967296 ≤ length xs → length (counted (exprs_view xs)) ≡ 0
count_many xs p =
    ap (λ n. length (if nat_lt n 4294967296 then operand_list (exprs_view xs) else [])) (as_many xs)
    ∙ by_test (nat_lt (length xs) 4294967296) refl
  where
    by_test : (b : Bool) → nat_lt (length xs) 4294967296 ≡ b → length (if b then operand_list (exprs_view xs) else []) ≡ 0
    by_test true e = absurd (let low : length xs < 4294967296 = ltb-true (length xs) 4294967296 e in omega arith)
    by_test false e = refl

few_of : (b : Bool) (xs : List Expr) (k : ℕ) → k < length (if b then xs else []) → b ≡ true
few_of true xs k p = refl
few_of false xs k p = absurd (omega arith)

is_few : (xs : List e.TExpr) (k : ℕ) → k < length (counted (exprs_view xs)) → nat_lt (length (operand_list (exprs_view xs))) 4294967296 ≡ true
is_few xs k p = few_of (nat_lt (length (operand_list (exprs_view xs))) 4294967296) (operand_list (exprs_view xs)) k p

pub within_list : (xs : List e.TExpr) (k : ℕ) → k < length (counted (exprs_view xs)) → k < length xs
within_list xs k p =
    let same : length (counted (exprs_view xs)) ≡ length xs =
    ap (λ b. length (if b then operand_list (exprs_view xs) else [])) (is_few xs k p) ∙ as_many xs in
    omega arith

pub old_listed : (xs : List e.TExpr) (k : ℕ) (x : e.TExpr) → k < length (counted (exprs_view xs)) → slice_get xs k ≡ Some x
    → slice_get (counted (exprs_view xs)) k ≡ Some (expr_view x)
old_listed xs k x p is =
    ap (λ b. slice_get (if b then operand_list (exprs_view xs) else []) k) (is_few xs k p) ∙ seen_at xs k x is

pub new_listed : (xs ys : List e.TExpr) (k : ℕ) (x : e.TExpr) → ys ≡ slice_set xs k x → exprs_view ys ≡ with_listed (exprs_view xs) k (expr_view x)
new_listed xs ys k x is = ap exprs_view is ∙ set_seen xs k x

pub call_children : (ty : CType) (callee : Callee) (xs : List e.TExpr) → children_of (expr_view (e.Call ty callee xs)) ≡ counted (exprs_view xs)
call_children ty callee xs = ap children_of (view_call ty callee xs)

pub comma_children : (ty : CType) (xs : List e.TExpr) → children_of (expr_view (e.Comma ty xs)) ≡ counted (exprs_view xs)
comma_children ty xs = ap children_of (view_comma ty xs)

-- ---- one, two and three operands

pub one_old : (k : ℕ) (x : Expr) → k < 1 → slice_get (x ∷ []) k ≡ Some x
one_old zero x p = refl
one_old (suc k) x p = absurd (omega arith)

pub one_new : (k : ℕ) (x d : Expr) → k < 1 → pick_first k x d ≡ d
one_new zero x d p = refl
one_new (suc k) x d p = absurd (omega arith)

pub first_there : (k : ℕ) (x d : Expr) → k ≡ 0 → pick_first k x d ≡ d
first_there zero x d p = refl
first_there (suc k) x d p = absurd (omega arith)

pub first_kept : (k : ℕ) (x d : Expr) → ¬ (k ≡ 0) → pick_first k x d ≡ x
first_kept zero x d p = absurd (p refl)
first_kept (suc k) x d p = refl

pub second_there : (k : ℕ) (x d : Expr) → k ≡ 1 → pick_second k x d ≡ d
second_there zero x d p = absurd (omega arith)
second_there (suc zero) x d p = refl
second_there (suc (suc k)) x d p = absurd (omega arith)

pub second_kept : (k : ℕ) (x d : Expr) → ¬ (k ≡ 1) → pick_second k x d ≡ x
second_kept zero x d p = refl
second_kept (suc zero) x d p = absurd (p refl)
second_kept (suc (suc k)) x d p = refl

pub third_there : (k : ℕ) (x d : Expr) → k ≡ 2 → pick_third k x d ≡ d
third_there zero x d p = absurd (omega arith)
third_there (suc zero) x d p = absurd (omega arith)
third_there (suc (suc zero)) x d p = refl
third_there (suc (suc (suc k))) x d p = absurd (omega arith)

pub third_kept : (k : ℕ) (x d : Expr) → ¬ (k ≡ 2) → pick_third k x d ≡ x
third_kept zero x d p = refl
third_kept (suc zero) x d p = refl
third_kept (suc (suc zero)) x d p = absurd (p refl)
third_kept (suc (suc (suc k))) x d p = refl

pub get_first : (xs : List Expr) (k : ℕ) (x : Expr) → k ≡ 0 → slice_get (x ∷ xs) k ≡ Some x
get_first xs zero x p = refl
get_first xs (suc k) x p = absurd (omega arith)

pub get_second : (xs : List Expr) (k : ℕ) (x y : Expr) → k ≡ 1 → slice_get (x ∷ y ∷ xs) k ≡ Some y
get_second xs zero x y p = absurd (omega arith)
get_second xs (suc zero) x y p = refl
get_second xs (suc (suc k)) x y p = absurd (omega arith)

pub get_third : (xs : List Expr) (k : ℕ) (x y z : Expr) → k ≡ 2 → slice_get (x ∷ y ∷ z ∷ xs) k ≡ Some z
get_third xs zero x y z p = absurd (omega arith)
get_third xs (suc zero) x y z p = absurd (omega arith)
get_third xs (suc (suc zero)) x y z p = refl
get_third xs (suc (suc (suc k))) x y z p = absurd (omega arith)

pub ruleset operand_steps = (count_few, count_many, within_list, old_listed, new_listed, call_children, comma_children, one_old, one_new, first_there, first_kept, second_there, second_kept, third_there, third_kept, get_first, get_second, get_third)

-- ---- calls and commas

pub call_counted : (x : e.TExpr) (ty : CType) (callee : Callee) (xs : List e.TExpr) → x ≡ e.Call ty callee xs
    → length (children_of (expr_view x)) ≡ length (counted (exprs_view xs))
call_counted x ty callee xs is = ap (λ v. length (children_of (expr_view v))) is ∙ ap length (call_children ty callee xs)

pub comma_counted : (x : e.TExpr) (ty : CType) (xs : List e.TExpr) → x ≡ e.Comma ty xs
    → length (children_of (expr_view x)) ≡ length (counted (exprs_view xs))
comma_counted x ty xs is = ap (λ v. length (children_of (expr_view v))) is ∙ ap length (comma_children ty xs)

pub call_changed : (x : e.TExpr) (ty : CType) (callee : Callee) (xs ys : List e.TExpr) (k : ℕ) (d : Expr) → x ≡ e.Call ty callee xs
    → exprs_view ys ≡ with_listed (exprs_view xs) k d → expr_view (e.Call ty callee ys) ≡ with_child (expr_view x) k d
call_changed x ty callee xs ys k d is h =
    view_call ty callee ys ∙ ap (p.Call (type_view ty) callee) h
    ∙ sym (ap (λ v. with_child (expr_view v) k d) is ∙ ap (λ v. with_child v k d) (view_call ty callee xs))

pub comma_changed : (x : e.TExpr) (ty : CType) (xs ys : List e.TExpr) (k : ℕ) (d : Expr) → x ≡ e.Comma ty xs
    → exprs_view ys ≡ with_listed (exprs_view xs) k d → expr_view (e.Comma ty ys) ≡ with_child (expr_view x) k d
comma_changed x ty xs ys k d is h =
    view_comma ty ys ∙ ap (p.Comma (type_view ty)) h
    ∙ sym (ap (λ v. with_child (expr_view v) k d) is ∙ ap (λ v. with_child v k d) (view_comma ty xs))
