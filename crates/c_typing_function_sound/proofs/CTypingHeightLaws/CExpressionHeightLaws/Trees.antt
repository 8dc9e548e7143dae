-- How high trees are that are made of others.
use Rattle.std.proofs.Common.{ℕ, suc, ◌+◌, ◌*◌, ◌≤◌, max, List, [], ◌∷◌, ◌++◌, sym, subst, arith}
use Rattle.c_tree.specs.declared.expressions.UnaryOp.{UnaryOp}
use Rattle.c_tree.specs.declared.expressions.BinaryOp.{BinaryOp}
use Rattle.c_tree.specs.declared.expressions.AssignOp.{AssignOp}
use Rattle.c_tree.specs.declared.expressions.StepOp.{StepOp}
use Rattle.c_typed_tree.specs.declared.types.CType.{CType}
use Rattle.c_typed_tree.specs.declared.expressions.Callee.{Callee}
use Rattle.c_typed_tree.specs.declared.expressions.TExpr as e
use Rattle.c_typed_tree.specs.View.{expr_view}
use Rattle.c_typed_tree.specs.model.View.{exprs_view, opens}
use Rattle.c_typed_tree.proofs.Views.{view_call, view_comma}
use Rattle.c_typed_tree.specs.c_typed_height.Heights.{expr_height, exprs_height}
use Rattle.c_typing_function_sound.specs.c_typing_height_laws.c_expression_height_laws.Laws.{IsWithin}

-- ---- numbers

leaf_number : (n : ℕ) → 1 + 2 ≤ 3 * suc n
leaf_number n = omega arith

over_one : (h n : ℕ) → h + 0 ≤ 3 * n → suc h + 2 ≤ 3 * suc n
over_one h n g = omega (arith, g)

over_two : (h k n : ℕ) → h + 0 ≤ 3 * n → k + 0 ≤ 3 * n → suc (max h k) + 2 ≤ 3 * suc n
over_two h k n g f = omega (arith, g, f)

over_three : (h k l n : ℕ) → h + 0 ≤ 3 * n → k + 0 ≤ 3 * n → l + 0 ≤ 3 * n → suc (max h (max k l)) + 2 ≤ 3 * suc n
over_three h k l n g f d = omega (arith, g, f, d)

step : (h r n : ℕ) → h + suc r ≤ 3 * n → suc h + r ≤ 3 * n
step h r n g = omega (arith, g)

less : (h r n : ℕ) → h + suc r ≤ 3 * n → h + r ≤ 3 * n
less h r n g = omega (arith, g)

more : (h r n m : ℕ) → h + r ≤ 3 * n → n ≤ m → h + r ≤ 3 * m
more h r n m g f = omega (arith, g, f)

-- ---- room

-- with less room
pub roomy : (r n : ℕ) (t : e.TExpr) → IsWithin (suc r) n t → IsWithin r n t
roomy r n t h = less (expr_height (expr_view t)) r n h

-- with more levels
pub higher : (r n m : ℕ) (t : e.TExpr) → n ≤ m → IsWithin r n t → IsWithin r m t
higher r n m t g h = more (expr_height (expr_view t)) r n m h g

-- ---- nodes

pub number_within : (n : ℕ) (ty : CType) (word : ℕ) → IsWithin 2 (suc n) (e.Number ty word)
unfolding opens
number_within n ty word = leaf_number n

pub local_within : (n : ℕ) (ty : CType) (number : ℕ) → IsWithin 2 (suc n) (e.Local ty number)
unfolding opens
local_within n ty number = leaf_number n

pub global_within : (n : ℕ) (ty : CType) (number : ℕ) → IsWithin 2 (suc n) (e.Global ty number)
unfolding opens
global_within n ty number = leaf_number n

pub unary_within : (n : ℕ) (ty : CType) (op : UnaryOp) (x : e.TExpr) → IsWithin 0 n x → IsWithin 2 (suc n) (e.Unary ty op x)
unfolding opens
unary_within n ty op x h = over_one (expr_height (expr_view x)) n h

pub binary_within : (n : ℕ) (ty : CType) (op : BinaryOp) (x y : e.TExpr) → IsWithin 0 n x → IsWithin 0 n y → IsWithin 2 (suc n) (e.Binary ty op x y)
unfolding opens
binary_within n ty op x y h g = over_two (expr_height (expr_view x)) (expr_height (expr_view y)) n h g

pub assign_within : (n : ℕ) (ty : CType) (op : AssignOp) (x y : e.TExpr) → IsWithin 0 n x → IsWithin 0 n y → IsWithin 2 (suc n) (e.Assign ty op x y)
unfolding opens
assign_within n ty op x y h g = over_two (expr_height (expr_view x)) (expr_height (expr_view y)) n h g

pub conditional_within : (n : ℕ) (ty : CType) (c x y : e.TExpr) → IsWithin 0 n c → IsWithin 0 n x → IsWithin 0 n y → IsWithin 2 (suc n) (e.Conditional ty c x y)
unfolding opens
conditional_within n ty c x y k h g = over_three (expr_height (expr_view c)) (expr_height (expr_view x)) (expr_height (expr_view y)) n k h g

pub cast_within : (n : ℕ) (ty : CType) (x : e.TExpr) → IsWithin 0 n x → IsWithin 2 (suc n) (e.Cast ty x)
unfolding opens
cast_within n ty x h = over_one (expr_height (expr_view x)) n h

pub index_within : (n : ℕ) (ty : CType) (x y : e.TExpr) → IsWithin 0 n x → IsWithin 0 n y → IsWithin 2 (suc n) (e.Index ty x y)
unfolding opens
index_within n ty x y h g = over_two (expr_height (expr_view x)) (expr_height (expr_view y)) n h g

pub field_within : (n : ℕ) (ty : CType) (x : e.TExpr) (member : ℕ) → IsWithin 0 n x → IsWithin 2 (suc n) (e.Field ty x member)
unfolding opens
field_within n ty x member h = over_one (expr_height (expr_view x)) n h

pub arrow_within : (n : ℕ) (ty : CType) (x : e.TExpr) (member : ℕ) → IsWithin 0 n x → IsWithin 2 (suc n) (e.Arrow ty x member)
unfolding opens
arrow_within n ty x member h = over_one (expr_height (expr_view x)) n h

pub postfix_within : (n : ℕ) (ty : CType) (op : StepOp) (x : e.TExpr) → IsWithin 0 n x → IsWithin 2 (suc n) (e.Postfix ty op x)
unfolding opens
postfix_within n ty op x h = over_one (expr_height (expr_view x)) n h

-- a conversion stands in the room of what it is of
pub convert_within : (r n : ℕ) (ty : CType) (x : e.TExpr) → IsWithin (suc r) n x → IsWithin r n (e.Convert ty x)
unfolding opens
convert_within r n ty x h = step (expr_height (expr_view x)) r n h

-- ---- lists

abbrev pub AreWithin : (n : ℕ) → List e.TExpr → Type 0
AreWithin n xs = exprs_height (exprs_view xs) + 0 ≤ 3 * n

none_within : (n : ℕ) → 0 + 0 ≤ 3 * n
none_within n = omega arith

one_within : (h n : ℕ) → h + 0 ≤ 3 * n → max h 0 + 0 ≤ 3 * n
one_within h n g = omega (arith, g)

both_within : (h k n : ℕ) → h + 0 ≤ 3 * n → k + 0 ≤ 3 * n → max h k + 0 ≤ 3 * n
both_within h k n g f = omega (arith, g, f)

first_within : (h k n : ℕ) → max h k + 0 ≤ 3 * n → h + 0 ≤ 3 * n
first_within h k n g = omega (arith, g)

rest_within : (h k n : ℕ) → max h k + 0 ≤ 3 * n → k + 0 ≤ 3 * n
rest_within h k n g = omega (arith, g)

pub no_trees : (n : ℕ) → AreWithin n []
no_trees n = none_within n

pub trees_more : (n : ℕ) (xs : List e.TExpr) (x : e.TExpr) → AreWithin n xs → IsWithin 0 n x → AreWithin n (xs ++ x ∷ [])
trees_more n [] x h g = one_within (expr_height (expr_view x)) n g
trees_more n (y ∷ ys) x h g =
    let own = expr_height (expr_view y) in
    both_within own (exprs_height (exprs_view (ys ++ x ∷ []))) n (first_within own (exprs_height (exprs_view ys)) n h)
    (trees_more n ys x (rest_within own (exprs_height (exprs_view ys)) n h) g)

pub call_within : (n : ℕ) (ty : CType) (callee : Callee) (xs : List e.TExpr) → AreWithin n xs → IsWithin 2 (suc n) (e.Call ty callee xs)
call_within n ty callee xs h =
    subst (λ v. expr_height v + 2 ≤ 3 * suc n) (sym (view_call ty callee xs)) (over_one (exprs_height (exprs_view xs)) n h)

pub comma_within : (n : ℕ) (ty : CType) (xs : List e.TExpr) → AreWithin n xs → IsWithin 2 (suc n) (e.Comma ty xs)
comma_within n ty xs h =
    subst (λ v. expr_height v + 2 ≤ 3 * suc n) (sym (view_comma ty xs)) (over_one (exprs_height (exprs_view xs)) n h)
