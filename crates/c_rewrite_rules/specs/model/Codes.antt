-- The code of expressions as plain data, by which a proof tells them apart: each is the view of a tree.
use Rattle.std.specs.Prelude.{◌≡◌, List, [], ◌∷◌, refl}
use Rattle.std.specs.Coded.{Coded, code_by}
use mathlib.Core.Path.{ap, ◌∙◌}
use Rattle.c_typed_tree.specs.declared.types.CType as t
use Rattle.c_typed_tree.specs.declared.expressions.TExpr as e
use Rattle.c_typed_tree.specs.contracts.expressions.TExpr as stored
use Rattle.c_typed_tree.specs.Types.{PlainType}
use Rattle.c_typed_tree.specs.Types as o
use Rattle.c_typed_tree.specs.Expressions.{Expr, Exprs, no_exprs, more_exprs}
use Rattle.c_typed_tree.specs.Expressions as p
use Rattle.c_typed_tree.specs.View.{type_view, expr_view}
use Rattle.c_typed_tree.specs.model.View.{exprs_view, opens}
use Rattle.c_typed_tree.proofs.Views.{view_call, view_comma}

abbrev pub typed_as : PlainType → t.CType
typed_as o.Void = t.Void
typed_as (o.Int bytes signed) = t.Int bytes signed
typed_as (o.Pointer ty) = t.Pointer (typed_as ty)
typed_as (o.Array ty n) = t.Array (typed_as ty) n
typed_as (o.Struct n) = t.Struct n

abbrev mutual
  pub tree_of : Expr → e.TExpr
  tree_of (p.Number ty n) = e.Number (typed_as ty) n
  tree_of (p.Local ty n) = e.Local (typed_as ty) n
  tree_of (p.Global ty n) = e.Global (typed_as ty) n
  tree_of (p.Call ty callee xs) = e.Call (typed_as ty) callee (trees_of xs)
  tree_of (p.Unary ty op x) = e.Unary (typed_as ty) op (tree_of x)
  tree_of (p.Binary ty op x y) = e.Binary (typed_as ty) op (tree_of x) (tree_of y)
  tree_of (p.Assign ty op x y) = e.Assign (typed_as ty) op (tree_of x) (tree_of y)
  tree_of (p.Conditional ty x y z) = e.Conditional (typed_as ty) (tree_of x) (tree_of y) (tree_of z)
  tree_of (p.Cast ty x) = e.Cast (typed_as ty) (tree_of x)
  tree_of (p.Convert ty x) = e.Convert (typed_as ty) (tree_of x)
  tree_of (p.Index ty x y) = e.Index (typed_as ty) (tree_of x) (tree_of y)
  tree_of (p.Field ty x member) = e.Field (typed_as ty) (tree_of x) member
  tree_of (p.Arrow ty x member) = e.Arrow (typed_as ty) (tree_of x) member
  tree_of (p.Postfix ty op x) = e.Postfix (typed_as ty) op (tree_of x)
  tree_of (p.Comma ty xs) = e.Comma (typed_as ty) (trees_of xs)

  pub trees_of : Exprs → List e.TExpr
  trees_of no_exprs = []
  trees_of (more_exprs x xs) = tree_of x ∷ trees_of xs

pub type_back : (ty : PlainType) → type_view (typed_as ty) ≡ ty
unfolding opens
type_back o.Void = refl
type_back (o.Int bytes signed) = refl
type_back (o.Pointer ty) = ap o.Pointer (type_back ty)
type_back (o.Array ty n) = ap (λ u. o.Array u n) (type_back ty)
type_back (o.Struct n) = refl

mutual
  unfolding opens

  pub expr_back : (x : Expr) → expr_view (tree_of x) ≡ x
  expr_back (p.Number ty n) = ap (λ u. p.Number u n) (type_back ty)
  expr_back (p.Local ty n) = ap (λ u. p.Local u n) (type_back ty)
  expr_back (p.Global ty n) = ap (λ u. p.Global u n) (type_back ty)
  expr_back (p.Call ty callee xs) =
      view_call (typed_as ty) callee (trees_of xs) ∙ ap (λ u. p.Call u callee (exprs_view (trees_of xs))) (type_back ty)
      ∙ ap (p.Call ty callee) (exprs_back xs)
  expr_back (p.Unary ty op x) = ap (λ u. p.Unary u op (expr_view (tree_of x))) (type_back ty) ∙ ap (p.Unary ty op) (expr_back x)
  expr_back (p.Binary ty op x y) =
      ap (λ u. p.Binary u op (expr_view (tree_of x)) (expr_view (tree_of y))) (type_back ty)
      ∙ ap (λ v. p.Binary ty op v (expr_view (tree_of y))) (expr_back x) ∙ ap (p.Binary ty op x) (expr_back y)
  expr_back (p.Assign ty op x y) =
      ap (λ u. p.Assign u op (expr_view (tree_of x)) (expr_view (tree_of y))) (type_back ty)
      ∙ ap (λ v. p.Assign ty op v (expr_view (tree_of y))) (expr_back x) ∙ ap (p.Assign ty op x) (expr_back y)
  expr_back (p.Conditional ty x y z) =
      ap (λ u. p.Conditional u (expr_view (tree_of x)) (expr_view (tree_of y)) (expr_view (tree_of z))) (type_back ty)
      ∙ ap (λ v. p.Conditional ty v (expr_view (tree_of y)) (expr_view (tree_of z))) (expr_back x)
      ∙ ap (λ v. p.Conditional ty x v (expr_view (tree_of z))) (expr_back y)
      ∙ ap (p.Conditional ty x y) (expr_back z)
  expr_back (p.Cast ty x) = ap (λ u. p.Cast u (expr_view (tree_of x))) (type_back ty) ∙ ap (p.Cast ty) (expr_back x)
  expr_back (p.Convert ty x) = ap (λ u. p.Convert u (expr_view (tree_of x))) (type_back ty) ∙ ap (p.Convert ty) (expr_back x)
  expr_back (p.Index ty x y) =
      ap (λ u. p.Index u (expr_view (tree_of x)) (expr_view (tree_of y))) (type_back ty)
      ∙ ap (λ v. p.Index ty v (expr_view (tree_of y))) (expr_back x) ∙ ap (p.Index ty x) (expr_back y)
  expr_back (p.Field ty x member) =
      ap (λ u. p.Field u (expr_view (tree_of x)) member) (type_back ty) ∙ ap (λ v. p.Field ty v member) (expr_back x)
  expr_back (p.Arrow ty x member) =
      ap (λ u. p.Arrow u (expr_view (tree_of x)) member) (type_back ty) ∙ ap (λ v. p.Arrow ty v member) (expr_back x)
  expr_back (p.Postfix ty op x) =
      ap (λ u. p.Postfix u op (expr_view (tree_of x))) (type_back ty) ∙ ap (p.Postfix ty op) (expr_back x)
  expr_back (p.Comma ty xs) =
      view_comma (typed_as ty) (trees_of xs) ∙ ap (λ u. p.Comma u (exprs_view (trees_of xs))) (type_back ty)
      ∙ ap (p.Comma ty) (exprs_back xs)

  pub exprs_back : (xs : Exprs) → exprs_view (trees_of xs) ≡ xs
  exprs_back no_exprs = refl
  exprs_back (more_exprs x xs) =
      ap (λ v. more_exprs v (exprs_view (trees_of xs))) (expr_back x) ∙ ap (more_exprs x) (exprs_back xs)

abbrev pub expr_code : Coded Expr
expr_code = code_by e.TExpr stored.the_row.coded tree_of expr_view expr_back
