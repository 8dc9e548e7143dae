-- The laws of expressions as trees.
use Rattle.std.proofs.Common.{◌≡◌, ℕ, zero, suc, ◌<◌, ◌≤◌, Bool, true, false, List, [], ◌∷◌, length, max, Some, refl, ap, subst, sym, ◌∙◌, arith}
use Rattle.std.specs.Prelude.{slice_get, slice_set, nat_lt, if◌then◌else◌}
use Rattle.std.proofs.lemmas.Option.{none-some}
use Rattle.std.proofs.lemmas.List.{length-set}
use Rattle.c_typed_tree.specs.Expressions.{Expr, Number, Local, Global, Call, Unary, Binary, Assign, Conditional, Cast, Convert, Index, Field, Arrow, Postfix, Comma, Exprs, no_exprs, more_exprs}
use Rattle.c_typed_tree.specs.c_typed_height.Heights.{expr_height, exprs_height}
use Rattle.c_semantics.specs.Refines.{ExprRefines, ExprWithin, ExprsWithin}
use Rattle.c_semantics.specs.Refines as form
use Rattle.c_semantics.proofs.RefinesOrder.{expr_itself, expr_on}
use Rattle.c_semantics.proofs.RefinesExpr.{within_refines}
use Rattle.pass_trees.specs.Trees.{TreeLaws}
use Rattle.c_rewrite_rules.specs.Nodes.{operand_list, counted, children_of, pick_first, pick_second, pick_third, with_listed, with_child, placeholder}

-- ---- one of several operands

first_again : (k : ℕ) (x b c : Expr) → pick_first k (pick_first k x b) c ≡ pick_first k x c
first_again zero x b c = refl
first_again (suc k) x b c = refl

second_again : (k : ℕ) (x b c : Expr) → pick_second k (pick_second k x b) c ≡ pick_second k x c
second_again zero x b c = refl
second_again (suc zero) x b c = refl
second_again (suc (suc k)) x b c = refl

third_again : (k : ℕ) (x b c : Expr) → pick_third k (pick_third k x b) c ≡ pick_third k x c
third_again zero x b c = refl
third_again (suc zero) x b c = refl
third_again (suc (suc zero)) x b c = refl
third_again (suc (suc (suc k))) x b c = refl

one_sets : (x : Expr) (k : ℕ) (c : Expr) → k < 1 → pick_first k x c ∷ [] ≡ slice_set (x ∷ []) k c
one_sets x zero c p = refl
one_sets x (suc k) c p = absurd (omega arith)

two_sets : (x y : Expr) (k : ℕ) (c : Expr) → k < 2 → pick_first k x c ∷ pick_second k y c ∷ [] ≡ slice_set (x ∷ y ∷ []) k c
two_sets x y zero c p = refl
two_sets x y (suc zero) c p = refl
two_sets x y (suc (suc k)) c p = absurd (omega arith)

three_sets : (x y z : Expr) (k : ℕ) (c : Expr) → k < 3
    → pick_first k x c ∷ pick_second k y c ∷ pick_third k z c ∷ [] ≡ slice_set (x ∷ y ∷ z ∷ []) k c
three_sets x y z zero c p = refl
three_sets x y z (suc zero) c p = refl
three_sets x y z (suc (suc zero)) c p = refl
three_sets x y z (suc (suc (suc k))) c p = absurd (omega arith)

pub same_in : {x c : Expr} → Some x ≡ Some c → c ≡ x
same_in e = cc

one_same : (x : Expr) (k : ℕ) (c : Expr) → slice_get (x ∷ []) k ≡ Some c → pick_first k x c ≡ x
one_same x zero c is = same_in is
one_same x (suc k) c is = refl

two_same : (x y : Expr) (k : ℕ) (c : Expr) → slice_get (x ∷ y ∷ []) k ≡ Some c → (pick_first k x c ≡ x) × (pick_second k y c ≡ y)
two_same x y zero c is = (same_in is, refl)
two_same x y (suc zero) c is = (refl, same_in is)
two_same x y (suc (suc k)) c is = (refl, refl)

three_same : (x y z : Expr) (k : ℕ) (c : Expr) → slice_get (x ∷ y ∷ z ∷ []) k ≡ Some c
    → (pick_first k x c ≡ x) × (pick_second k y c ≡ y) × (pick_third k z c ≡ z)
three_same x y z zero c is = (same_in is, refl, refl)
three_same x y z (suc zero) c is = (refl, same_in is, refl)
three_same x y z (suc (suc zero)) c is = (refl, refl, same_in is)
three_same x y z (suc (suc (suc k))) c is = (refl, refl, refl)

height_of : {x c : Expr} (most : ℕ) → Some x ≡ Some c → expr_height x ≤ most → expr_height c ≤ most
height_of most e p = let same = same_in e in subst (λ v. expr_height v ≤ most) (sym same) p

one_lower : (x : Expr) (k : ℕ) (c : Expr) → slice_get (x ∷ []) k ≡ Some c → expr_height c ≤ expr_height x
one_lower x zero c is = height_of _ is (omega arith)
one_lower x (suc k) c is = absurd (none-some c is)

two_lower : (x y : Expr) (k : ℕ) (c : Expr) → slice_get (x ∷ y ∷ []) k ≡ Some c → expr_height c ≤ max (expr_height x) (expr_height y)
two_lower x y zero c is = height_of _ is (omega arith)
two_lower x y (suc zero) c is = height_of _ is (omega arith)
two_lower x y (suc (suc k)) c is = absurd (none-some c is)

three_lower : (x y z : Expr) (k : ℕ) (c : Expr) → slice_get (x ∷ y ∷ z ∷ []) k ≡ Some c
    → expr_height c ≤ max (expr_height x) (max (expr_height y) (expr_height z))
three_lower x y z zero c is = height_of _ is (omega arith)
three_lower x y z (suc zero) c is = height_of _ is (omega arith)
three_lower x y z (suc (suc zero)) c is = height_of _ is (omega arith)
three_lower x y z (suc (suc (suc k))) c is = absurd (none-some c is)

first_raised : (k : ℕ) (x d : Expr) → expr_height (pick_first k x d) ≤ max (expr_height x) (expr_height d)
first_raised zero x d = omega arith
first_raised (suc k) x d = omega arith

second_raised : (k : ℕ) (x d : Expr) → expr_height (pick_second k x d) ≤ max (expr_height x) (expr_height d)
second_raised zero x d = omega arith
second_raised (suc zero) x d = omega arith
second_raised (suc (suc k)) x d = omega arith

third_raised : (k : ℕ) (x d : Expr) → expr_height (pick_third k x d) ≤ max (expr_height x) (expr_height d)
third_raised zero x d = omega arith
third_raised (suc zero) x d = omega arith
third_raised (suc (suc zero)) x d = omega arith
third_raised (suc (suc (suc k))) x d = omega arith

-- the one that is put refines the one that stood there
put_here : {x c : Expr} (d : Expr) → Some x ≡ Some c → ExprRefines d c → ExprWithin d x
put_here d e h = form.here (subst (ExprRefines d) (same_in e) h)

stays : (x : Expr) → ExprWithin x x
stays x = form.here (expr_itself x)

one_within : (x : Expr) (k : ℕ) (c d : Expr) → slice_get (x ∷ []) k ≡ Some c → ExprRefines d c → ExprWithin (pick_first k x d) x
one_within x zero c d is h = put_here d is h
one_within x (suc k) c d is h = stays x

two_within : (x y : Expr) (k : ℕ) (c d : Expr) → slice_get (x ∷ y ∷ []) k ≡ Some c → ExprRefines d c
    → ExprWithin (pick_first k x d) x × ExprWithin (pick_second k y d) y
two_within x y zero c d is h = (put_here d is h, stays y)
two_within x y (suc zero) c d is h = (stays x, put_here d is h)
two_within x y (suc (suc k)) c d is h = (stays x, stays y)

three_within : (x y z : Expr) (k : ℕ) (c d : Expr) → slice_get (x ∷ y ∷ z ∷ []) k ≡ Some c → ExprRefines d c
    → ExprWithin (pick_first k x d) x × ExprWithin (pick_second k y d) y × ExprWithin (pick_third k z d) z
three_within x y z zero c d is h = (put_here d is h, stays y, stays z)
three_within x y z (suc zero) c d is h = (stays x, put_here d is h, stays z)
three_within x y z (suc (suc zero)) c d is h = (stays x, stays y, put_here d is h)
three_within x y z (suc (suc (suc k))) c d is h = (stays x, stays y, stays z)

-- ---- lists of operands

operand_sets : (xs : Exprs) (k : ℕ) (c : Expr) → operand_list (with_listed xs k c) ≡ slice_set (operand_list xs) k c
operand_sets no_exprs k c = refl
operand_sets (more_exprs x xs) zero c = refl
operand_sets (more_exprs x xs) (suc k) c = ap (λ l. x ∷ l) (operand_sets xs k c)

operand_again : (xs : Exprs) (k : ℕ) (b c : Expr) → with_listed (with_listed xs k b) k c ≡ with_listed xs k c
operand_again no_exprs k b c = refl
operand_again (more_exprs x xs) zero b c = refl
operand_again (more_exprs x xs) (suc k) b c = ap (more_exprs x) (operand_again xs k b c)

operand_same : (xs : Exprs) (k : ℕ) (c : Expr) → slice_get (operand_list xs) k ≡ Some c → with_listed xs k c ≡ xs
operand_same no_exprs k c is = refl
operand_same (more_exprs x xs) zero c is = ap (λ v. more_exprs v xs) (same_in is)
operand_same (more_exprs x xs) (suc k) c is = ap (more_exprs x) (operand_same xs k c is)

operand_lower : (xs : Exprs) (k : ℕ) (c : Expr) → slice_get (operand_list xs) k ≡ Some c → expr_height c ≤ exprs_height xs
operand_lower no_exprs k c is = absurd (none-some c is)
operand_lower (more_exprs x xs) zero c is = height_of _ is (omega arith)
operand_lower (more_exprs x xs) (suc k) c is = let h = operand_lower xs k c is in omega (arith, h)

operand_raised : (xs : Exprs) (k : ℕ) (d : Expr) → exprs_height (with_listed xs k d) ≤ max (exprs_height xs) (expr_height d)
operand_raised no_exprs k d = omega arith
operand_raised (more_exprs x xs) zero d = omega arith
operand_raised (more_exprs x xs) (suc k) d = let h = operand_raised xs k d in omega (arith, h)

operands_stay : (xs : Exprs) → ExprsWithin xs xs
operands_stay no_exprs = form.none
operands_stay (more_exprs x xs) = form.more (stays x) (operands_stay xs)

operand_within : (xs : Exprs) (k : ℕ) (c d : Expr) → slice_get (operand_list xs) k ≡ Some c → ExprRefines d c
    → ExprsWithin (with_listed xs k d) xs
operand_within no_exprs k c d is h = form.none
operand_within (more_exprs x xs) zero c d is h = form.more (put_here d is h) (operands_stay xs)
operand_within (more_exprs x xs) (suc k) c d is h = form.more (stays x) (operand_within xs k c d is h)

-- ---- lists that are counted

-- an element of a counted list is one of the list
pub of_counted : (b : Bool) (xs : List Expr) (k : ℕ) (c : Expr) → slice_get (if b then xs else []) k ≡ Some c → slice_get xs k ≡ Some c
of_counted true xs k c is = is
of_counted false xs k c is = absurd (none-some c is)

counted_sets : (xs : Exprs) (k : ℕ) (c : Expr) → k < length (counted xs) → counted (with_listed xs k c) ≡ slice_set (counted xs) k c
counted_sets xs k c p =
    let as_many : length (operand_list (with_listed xs k c)) ≡ length (operand_list xs) =
    ap length (operand_sets xs k c) ∙ length-set (operand_list xs) k c in
    ap (λ n. if nat_lt n 4294967296 then operand_list (with_listed xs k c) else []) as_many
    ∙ by_test (nat_lt (length (operand_list xs)) 4294967296) (operand_list (with_listed xs k c)) (operand_list xs) (operand_sets xs k c)
  where
    by_test : (b : Bool) (ys zs : List Expr) → ys ≡ slice_set zs k c → (if b then ys else []) ≡ slice_set (if b then zs else []) k c
    by_test true ys zs e = e
    by_test false ys zs e = refl

-- ---- each form

pub sets : (n : Expr) (k : ℕ) (c : Expr) → k < length (children_of n) → children_of (with_child n k c) ≡ slice_set (children_of n) k c
sets (Number ty n) k c p = absurd (omega arith)
sets (Local ty j) k c p = absurd (omega arith)
sets (Global ty j) k c p = absurd (omega arith)
sets (Call ty callee xs) k c p = counted_sets xs k c p
sets (Unary ty op x) k c p = one_sets x k c p
sets (Binary ty op x y) k c p = two_sets x y k c p
sets (Assign ty op x y) k c p = two_sets x y k c p
sets (Conditional ty x y z) k c p = three_sets x y z k c p
sets (Cast ty x) k c p = one_sets x k c p
sets (Convert ty x) k c p = one_sets x k c p
sets (Index ty x y) k c p = two_sets x y k c p
sets (Field ty x member) k c p = one_sets x k c p
sets (Arrow ty x member) k c p = one_sets x k c p
sets (Postfix ty op x) k c p = one_sets x k c p
sets (Comma ty xs) k c p = counted_sets xs k c p

pub sets_again : (n : Expr) (k : ℕ) (b c : Expr) → with_child (with_child n k b) k c ≡ with_child n k c
sets_again (Number ty n) k b c = refl
sets_again (Local ty j) k b c = refl
sets_again (Global ty j) k b c = refl
sets_again (Call ty callee xs) k b c = ap (Call ty callee) (operand_again xs k b c)
sets_again (Unary ty op x) k b c = ap (λ v. Unary ty op v) (first_again k x b c)
sets_again (Binary ty op x y) k b c = ap (λ v. Binary ty op v (pick_second k (pick_second k y b) c)) (first_again k x b c) ∙ ap (λ v. Binary ty op (pick_first k x c) v) (second_again k y b c)
sets_again (Assign ty op x y) k b c = ap (λ v. Assign ty op v (pick_second k (pick_second k y b) c)) (first_again k x b c) ∙ ap (λ v. Assign ty op (pick_first k x c) v) (second_again k y b c)
sets_again (Conditional ty x y z) k b c = ap (λ v. Conditional ty v (pick_second k (pick_second k y b) c) (pick_third k (pick_third k z b) c)) (first_again k x b c) ∙ ap (λ v. Conditional ty (pick_first k x c) v (pick_third k (pick_third k z b) c)) (second_again k y b c) ∙ ap (λ v. Conditional ty (pick_first k x c) (pick_second k y c) v) (third_again k z b c)
sets_again (Cast ty x) k b c = ap (λ v. Cast ty v) (first_again k x b c)
sets_again (Convert ty x) k b c = ap (λ v. Convert ty v) (first_again k x b c)
sets_again (Index ty x y) k b c = ap (λ v. Index ty v (pick_second k (pick_second k y b) c)) (first_again k x b c) ∙ ap (λ v. Index ty (pick_first k x c) v) (second_again k y b c)
sets_again (Field ty x member) k b c = ap (λ v. Field ty v member) (first_again k x b c)
sets_again (Arrow ty x member) k b c = ap (λ v. Arrow ty v member) (first_again k x b c)
sets_again (Postfix ty op x) k b c = ap (λ v. Postfix ty op v) (first_again k x b c)
sets_again (Comma ty xs) k b c = ap (Comma ty) (operand_again xs k b c)

pub sets_same : (n : Expr) (k : ℕ) (c : Expr) → slice_get (children_of n) k ≡ Some c → with_child n k c ≡ n
sets_same (Number ty n) k c is = refl
sets_same (Local ty j) k c is = refl
sets_same (Global ty j) k c is = refl
sets_same (Call ty callee xs) k c is = ap (Call ty callee) (operand_same xs k c (of_counted _ _ k c is))
sets_same (Unary ty op x) k c is = ap (λ v. Unary ty op v) (one_same x k c is)
sets_same (Binary ty op x y) k c is = ap (λ v. Binary ty op v (pick_second k y c)) ((two_same x y k c is).0) ∙ ap (λ v. Binary ty op x v) ((two_same x y k c is).1)
sets_same (Assign ty op x y) k c is = ap (λ v. Assign ty op v (pick_second k y c)) ((two_same x y k c is).0) ∙ ap (λ v. Assign ty op x v) ((two_same x y k c is).1)
sets_same (Conditional ty x y z) k c is = ap (λ v. Conditional ty v (pick_second k y c) (pick_third k z c)) ((three_same x y z k c is).0) ∙ ap (λ v. Conditional ty x v (pick_third k z c)) ((three_same x y z k c is).1) ∙ ap (λ v. Conditional ty x y v) ((three_same x y z k c is).2)
sets_same (Cast ty x) k c is = ap (λ v. Cast ty v) (one_same x k c is)
sets_same (Convert ty x) k c is = ap (λ v. Convert ty v) (one_same x k c is)
sets_same (Index ty x y) k c is = ap (λ v. Index ty v (pick_second k y c)) ((two_same x y k c is).0) ∙ ap (λ v. Index ty x v) ((two_same x y k c is).1)
sets_same (Field ty x member) k c is = ap (λ v. Field ty v member) (one_same x k c is)
sets_same (Arrow ty x member) k c is = ap (λ v. Arrow ty v member) (one_same x k c is)
sets_same (Postfix ty op x) k c is = ap (λ v. Postfix ty op v) (one_same x k c is)
sets_same (Comma ty xs) k c is = ap (Comma ty) (operand_same xs k c (of_counted _ _ k c is))

pub tall : (n : Expr) → 0 < expr_height n
tall (Number ty n) = omega arith
tall (Local ty j) = omega arith
tall (Global ty j) = omega arith
tall (Call ty callee xs) = omega arith
tall (Unary ty op x) = omega arith
tall (Binary ty op x y) = omega arith
tall (Assign ty op x y) = omega arith
tall (Conditional ty x y z) = omega arith
tall (Cast ty x) = omega arith
tall (Convert ty x) = omega arith
tall (Index ty x y) = omega arith
tall (Field ty x member) = omega arith
tall (Arrow ty x member) = omega arith
tall (Postfix ty op x) = omega arith
tall (Comma ty xs) = omega arith

pub lower : (n : Expr) (k : ℕ) (c : Expr) → slice_get (children_of n) k ≡ Some c → expr_height c < expr_height n
lower (Number ty n) k c is = absurd (none-some c is)
lower (Local ty j) k c is = absurd (none-some c is)
lower (Global ty j) k c is = absurd (none-some c is)
lower (Call ty callee xs) k c is = let h = operand_lower xs k c (of_counted _ _ k c is) in omega (arith, h)
lower (Unary ty op x) k c is = let h = one_lower x k c is in omega (arith, h)
lower (Binary ty op x y) k c is = let h = two_lower x y k c is in omega (arith, h)
lower (Assign ty op x y) k c is = let h = two_lower x y k c is in omega (arith, h)
lower (Conditional ty x y z) k c is = let h = three_lower x y z k c is in omega (arith, h)
lower (Cast ty x) k c is = let h = one_lower x k c is in omega (arith, h)
lower (Convert ty x) k c is = let h = one_lower x k c is in omega (arith, h)
lower (Index ty x y) k c is = let h = two_lower x y k c is in omega (arith, h)
lower (Field ty x member) k c is = let h = one_lower x k c is in omega (arith, h)
lower (Arrow ty x member) k c is = let h = one_lower x k c is in omega (arith, h)
lower (Postfix ty op x) k c is = let h = one_lower x k c is in omega (arith, h)
lower (Comma ty xs) k c is = let h = operand_lower xs k c (of_counted _ _ k c is) in omega (arith, h)

pub raised : (n : Expr) (k : ℕ) (d : Expr) → expr_height (with_child n k d) ≤ max (expr_height n) (suc (expr_height d))
raised (Number ty n) k d = omega arith
raised (Local ty j) k d = omega arith
raised (Global ty j) k d = omega arith
raised (Call ty callee xs) k d = let h = operand_raised xs k d in omega (arith, h)
raised (Unary ty op x) k d = let h0 = first_raised k x d in omega (arith, h0)
raised (Binary ty op x y) k d = let h0 = first_raised k x d in let h1 = second_raised k y d in omega (arith, h0, h1)
raised (Assign ty op x y) k d = let h0 = first_raised k x d in let h1 = second_raised k y d in omega (arith, h0, h1)
raised (Conditional ty x y z) k d = let h0 = first_raised k x d in let h1 = second_raised k y d in let h2 = third_raised k z d in omega (arith, h0, h1, h2)
raised (Cast ty x) k d = let h0 = first_raised k x d in omega (arith, h0)
raised (Convert ty x) k d = let h0 = first_raised k x d in omega (arith, h0)
raised (Index ty x y) k d = let h0 = first_raised k x d in let h1 = second_raised k y d in omega (arith, h0, h1)
raised (Field ty x member) k d = let h0 = first_raised k x d in omega (arith, h0)
raised (Arrow ty x member) k d = let h0 = first_raised k x d in omega (arith, h0)
raised (Postfix ty op x) k d = let h0 = first_raised k x d in omega (arith, h0)
raised (Comma ty xs) k d = let h = operand_raised xs k d in omega (arith, h)

pub within : (n : Expr) (k : ℕ) (c d : Expr) → slice_get (children_of n) k ≡ Some c → ExprRefines d c → ExprWithin (with_child n k d) n
within (Number ty n) k c d is h = absurd (none-some c is)
within (Local ty j) k c d is h = absurd (none-some c is)
within (Global ty j) k c d is h = absurd (none-some c is)
within (Call ty callee xs) k c d is h = form.call (operand_within xs k c d (of_counted _ _ k c is) h)
within (Unary ty op x) k c d is h = form.unary (one_within x k c d is h)
within (Binary ty op x y) k c d is h = form.binary ((two_within x y k c d is h).0) ((two_within x y k c d is h).1)
within (Assign ty op x y) k c d is h = form.assign ((two_within x y k c d is h).0) ((two_within x y k c d is h).1)
within (Conditional ty x y z) k c d is h = form.conditional ((three_within x y z k c d is h).0) ((three_within x y z k c d is h).1) ((three_within x y z k c d is h).2)
within (Cast ty x) k c d is h = form.cast (one_within x k c d is h)
within (Convert ty x) k c d is h = form.convert (one_within x k c d is h)
within (Index ty x y) k c d is h = form.index ((two_within x y k c d is h).0) ((two_within x y k c d is h).1)
within (Field ty x member) k c d is h = form.field (one_within x k c d is h)
within (Arrow ty x member) k c d is h = form.arrow (one_within x k c d is h)
within (Postfix ty op x) k c d is h = form.postfix (one_within x k c d is h)
within (Comma ty xs) k c d is h = form.comma (operand_within xs k c d (of_counted _ _ k c is) h)

pub node_laws : TreeLaws children_of with_child placeholder expr_height ExprRefines
node_laws = record {
  sets = sets;
  sets_again = sets_again;
  sets_same = sets_same;
  leaf_ends = refl;
  tall = tall;
  lower = lower;
  raised = raised;
  itself = expr_itself;
  onwards = expr_on;
  through = λ n k c d is h. within_refines (within n k c d is h);
}
