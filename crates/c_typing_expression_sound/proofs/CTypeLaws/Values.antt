-- Values that were judged, and conversions of them.
use Rattle.std.proofs.Common.{◌≡◌, ℕ, Bool, true, false, ◌&&◌, ◌||◌, IsTrue, IsFalse, Option, Some, None, refl, sym, ap, ◌∙◌, subst, if◌then◌else◌}
use Rattle.bk_arithmetic.specs.declared.integer_type.IntegerType.{IntegerType}
use Rattle.c_tree.specs.declared.expressions.UnaryOp.{UnaryOp}
use Rattle.c_tree.specs.declared.expressions.BinaryOp.{BinaryOp}
use Rattle.c_typed_tree.specs.declared.types.CType as t
use Rattle.c_typed_tree.specs.declared.expressions.TExpr as e
use Rattle.c_typed_tree.specs.Types.{PlainType, Pointer, Array}
use Rattle.c_typed_tree.specs.Expressions.{Expr, Number, Local, Global, Call, Unary, Binary, Assign, Conditional, Cast, Convert, Index, Field, Arrow, Postfix, Comma, type_of}
use Rattle.c_typed_tree.specs.View.{type_view, expr_view}
use Rattle.c_typed_tree.specs.model.View.{opens}
use Rattle.c_typed_tree.specs.Constants.{is_integer, is_null_constant}
use Rattle.c_typed_tree.specs.Typing.{Context, is_same_type, is_array, is_pointer, is_pointer_to_void, is_fit, has_binary_type, has_unary_type, decays, is_conversion, is_place, has_rule, is_typed, are_typed}
use Rattle.c_typing_rules.specs.declared.typed.TypedExpression.{TypedExpression}
use Rattle.c_typing_rules.specs.Values.{type_of_integer, integer, is_same, rvalue, convert_tree, unary_rvalue, binary_rvalue}
use Rattle.c_typing_rules.specs.Conversions.{element, decayed_to, decay}
use Rattle.c_typing_expression_sound.specs.c_type_laws.Typed.{IsTypedIn, IsOfType}
use Rattle.c_typing_expression_sound.proofs.CTypeLaws.Truth.{no_true, front, also, three, four, along, second_of_four, first_of_four, third_of_four, fourth_of_four}
use Rattle.c_typing_expression_sound.proofs.CTypeLaws.Types.{same, alike, integer_known, integer_from, integer_fits, decayed_fits}

-- ---- conversions, by the types

pub integer_conversion : (to from : PlainType) (null place : Bool) → IsTrue (is_integer to) → IsTrue (is_integer from) → IsTrue (is_conversion to from null place)
integer_conversion to from null place h g =
    first_of_four (is_integer to && is_integer from) (decays from to && place) (is_pointer to && is_integer from && null)
    (is_pointer to && is_pointer from && (is_same_type to from || is_pointer_to_void to || is_pointer_to_void from))
    (also (is_integer to) (is_integer from) h g)

pub array_conversion : (to from : PlainType) (null place : Bool) → IsTrue (decays from to) → IsTrue place → IsTrue (is_conversion to from null place)
array_conversion to from null place h g =
    second_of_four (is_integer to && is_integer from) (decays from to && place) (is_pointer to && is_integer from && null)
    (is_pointer to && is_pointer from && (is_same_type to from || is_pointer_to_void to || is_pointer_to_void from))
    (also (decays from to) place h g)

pub zero_conversion : (to from : PlainType) (null place : Bool) → IsTrue (is_pointer to) → IsTrue (is_integer from && null) → IsTrue (is_conversion to from null place)
zero_conversion to from null place h g =
    third_of_four (is_integer to && is_integer from) (decays from to && place) (is_pointer to && is_integer from && null)
    (is_pointer to && is_pointer from && (is_same_type to from || is_pointer_to_void to || is_pointer_to_void from))
    (three (is_pointer to) (is_integer from) null h (front (is_integer from) null g) (second (is_integer from) null g))
  where
    second : (a b : Bool) → IsTrue (a && b) → IsTrue b
    second true b h = h
    second false b h = no_true h

pub pointer_conversion : (to from : PlainType) (null place : Bool) → IsTrue (is_pointer to) → IsTrue (is_pointer from)
    → IsTrue (is_same_type to from || is_pointer_to_void to || is_pointer_to_void from) → IsTrue (is_conversion to from null place)
pointer_conversion to from null place h g k =
    fourth_of_four (is_integer to && is_integer from) (decays from to && place) (is_pointer to && is_integer from && null)
    (is_pointer to && is_pointer from && (is_same_type to from || is_pointer_to_void to || is_pointer_to_void from))
    (three (is_pointer to) (is_pointer from) (is_same_type to from || is_pointer_to_void to || is_pointer_to_void from) h g k)

-- ---- what an array has

abbrev pub ElementIs : Option t.CType → PlainType → Type 0
ElementIs None ty = IsFalse (is_array ty)
ElementIs (Some x) ty = (n : ℕ) × (ty ≡ Array (type_view x) n)

pub element_says : (ty : t.CType) → ElementIs (element ty) (type_view ty)
unfolding element type_view
element_says t.Void = refl
element_says (t.Int n s) = refl
element_says (t.Pointer' _ (t.more_of-CType x t.end_of-CType)) = refl
element_says (t.Array' _ (t.more_of-CType x t.end_of-CType) n) = (n, refl)
element_says (t.Struct n) = refl

-- ---- in a context

-- a value, which is no array
pub record IsValueIn (c : Context) (a : TypedExpression) : Type 0 where
  pub typed : IsTypedIn c a
  pub value : IsFalse (is_array (type_view a.ty))

module _ (c : Context) where
  pub fit_of : (x : Expr) → IsTrue (is_typed c x) → IsTrue (is_fit c.structs (type_of x))
  fit_of (Number ty n) h = front (is_fit c.structs ty) (has_rule c (Number ty n)) h
  fit_of (Local ty n) h = front (is_fit c.structs ty) (has_rule c (Local ty n)) h
  fit_of (Global ty n) h = front (is_fit c.structs ty) (has_rule c (Global ty n)) h
  fit_of (Call ty f xs) h = front (is_fit c.structs ty) (has_rule c (Call ty f xs)) (front (is_fit c.structs ty && has_rule c (Call ty f xs)) (are_typed c xs) h)
  fit_of (Unary ty op x) h = front (is_fit c.structs ty) (has_rule c (Unary ty op x)) (front (is_fit c.structs ty && has_rule c (Unary ty op x)) (is_typed c x) h)
  fit_of (Binary ty op x y) h =
      front (is_fit c.structs ty) (has_rule c (Binary ty op x y)) (front (is_fit c.structs ty && has_rule c (Binary ty op x y)) (is_typed c x)
      (front (is_fit c.structs ty && has_rule c (Binary ty op x y) && is_typed c x) (is_typed c y) h))
  fit_of (Assign ty op x y) h =
      front (is_fit c.structs ty) (has_rule c (Assign ty op x y)) (front (is_fit c.structs ty && has_rule c (Assign ty op x y)) (is_typed c x)
      (front (is_fit c.structs ty && has_rule c (Assign ty op x y) && is_typed c x) (is_typed c y) h))
  fit_of (Conditional ty x y z) h =
      front (is_fit c.structs ty) (has_rule c (Conditional ty x y z)) (front (is_fit c.structs ty && has_rule c (Conditional ty x y z)) (is_typed c x)
      (front (is_fit c.structs ty && has_rule c (Conditional ty x y z) && is_typed c x) (is_typed c y)
      (front (is_fit c.structs ty && has_rule c (Conditional ty x y z) && is_typed c x && is_typed c y) (is_typed c z) h)))
  fit_of (Cast ty x) h = front (is_fit c.structs ty) (has_rule c (Cast ty x)) (front (is_fit c.structs ty && has_rule c (Cast ty x)) (is_typed c x) h)
  fit_of (Convert ty x) h = front (is_fit c.structs ty) (has_rule c (Convert ty x)) (front (is_fit c.structs ty && has_rule c (Convert ty x)) (is_typed c x) h)
  fit_of (Index ty x y) h =
      front (is_fit c.structs ty) (has_rule c (Index ty x y)) (front (is_fit c.structs ty && has_rule c (Index ty x y)) (is_typed c x)
      (front (is_fit c.structs ty && has_rule c (Index ty x y) && is_typed c x) (is_typed c y) h))
  fit_of (Field ty x m) h = front (is_fit c.structs ty) (has_rule c (Field ty x m)) (front (is_fit c.structs ty && has_rule c (Field ty x m)) (is_typed c x) h)
  fit_of (Arrow ty x m) h = front (is_fit c.structs ty) (has_rule c (Arrow ty x m)) (front (is_fit c.structs ty && has_rule c (Arrow ty x m)) (is_typed c x) h)
  fit_of (Postfix ty op x) h = front (is_fit c.structs ty) (has_rule c (Postfix ty op x)) (front (is_fit c.structs ty && has_rule c (Postfix ty op x)) (is_typed c x) h)
  fit_of (Comma ty xs) h = front (is_fit c.structs ty) (has_rule c (Comma ty xs)) (front (is_fit c.structs ty && has_rule c (Comma ty xs)) (are_typed c xs) h)

  -- the type of what was judged is fit
  pub fit_in : (a : TypedExpression) → IsTypedIn c a → IsTrue (is_fit c.structs (type_view a.ty))
  fit_in a h = along (is_fit c.structs) (sym h.type) (fit_of (expr_view a.tree) h.tree)

  -- what was judged, as a tree of its type
  pub tree_in : (a : TypedExpression) → IsTypedIn c a → IsOfType c (type_view a.ty) a.tree
  tree_in a h = record { typed = h.tree; type = h.type }

  -- a value is no place
  pub value_typed : (at : ℕ) (ty : t.CType) (x : e.TExpr) → IsTrue (is_typed c (expr_view x)) → type_of (expr_view x) ≡ type_view ty
      → IsFalse (is_array (type_view ty)) → IsTypedIn c (rvalue at ty x)
  value_typed at ty x h g n = record { tree = h; type = g; place = λ s. no_true s; array = λ y. no_true (sym n ∙ y) }

  -- ---- conversions

  pub convert_made : (to : t.CType) (a : TypedExpression) → IsTypedIn c a → IsTrue (is_fit c.structs (type_view to))
      → IsTrue (is_conversion (type_view to) (type_view a.ty) (is_null_constant (expr_view a.tree)) (is_place (expr_view a.tree)))
      → IsOfType c (type_view to) (e.Convert to a.tree)
  unfolding opens
  convert_made to a h fit rule = record {
    typed = three (is_fit c.structs (type_view to)) (has_rule c (Convert (type_view to) (expr_view a.tree))) (is_typed c (expr_view a.tree)) fit
        (along (λ from. is_conversion (type_view to) from (is_null_constant (expr_view a.tree)) (is_place (expr_view a.tree))) h.type rule) h.tree;
    type = refl;
  }

  converted_where : (to : t.CType) (a : TypedExpression) (b : Bool) → is_same to a.ty ≡ b → IsTypedIn c a → IsTrue (is_fit c.structs (type_view to))
      → IsTrue (is_conversion (type_view to) (type_view a.ty) (is_null_constant (expr_view a.tree)) (is_place (expr_view a.tree)))
      → IsOfType c (type_view to) (if b then a.tree else e.Convert to a.tree)
  converted_where to a true s h fit rule = record { typed = h.tree; type = h.type ∙ sym (same (type_view to) (type_view a.ty) s) }
  converted_where to a false s h fit rule = convert_made to a h fit rule

  pub converted_fit : (to : t.CType) (a : TypedExpression) → IsTypedIn c a → IsTrue (is_fit c.structs (type_view to))
      → IsTrue (is_conversion (type_view to) (type_view a.ty) (is_null_constant (expr_view a.tree)) (is_place (expr_view a.tree)))
      → IsOfType c (type_view to) (convert_tree to a)
  converted_fit to a h fit rule = converted_where to a (is_same to a.ty) refl h fit rule

  pub same_operand : (to : t.CType) (a : TypedExpression) → IsTypedIn c a → IsTrue (is_same to a.ty) → IsOfType c (type_view to) (convert_tree to a)
  same_operand to a h s =
      subst (λ b. IsOfType c (type_view to) (if b then a.tree else e.Convert to a.tree)) (sym s)
      (record { typed = h.tree; type = h.type ∙ sym (same (type_view to) (type_view a.ty) s) })

  -- an integer in an integer type
  pub integer_operand : (u : IntegerType) (a : TypedExpression) (s : IntegerType) → IsTypedIn c a → integer a ≡ Some s → IsOfType c (type_view (type_of_integer u)) (convert_tree (type_of_integer u) a)
  integer_operand u a s h known =
      converted_fit (type_of_integer u) a h (integer_fits c.structs u)
      (integer_conversion (type_view (type_of_integer u)) (type_view a.ty) (is_null_constant (expr_view a.tree)) (is_place (expr_view a.tree))
      (integer_from (type_view (type_of_integer u)) u (integer_known u)) (integer_from (type_view a.ty) s known))

  -- ---- operators

  pub unary_made : (at : ℕ) (ty : t.CType) (op : UnaryOp) (x : e.TExpr) → IsTrue (is_typed c (expr_view x)) → IsTrue (is_fit c.structs (type_view ty))
      → IsTrue (has_unary_type c.structs c.locals op (type_view ty) (expr_view x)) → IsFalse (is_array (type_view ty)) → IsTypedIn c (unary_rvalue at ty op x)
  unfolding opens
  unary_made at ty op x h fit rule n =
      value_typed at ty (e.Unary ty op x)
      (three (is_fit c.structs (type_view ty)) (has_rule c (Unary (type_view ty) op (expr_view x))) (is_typed c (expr_view x)) fit rule h) refl n

  pub binary_made : (at : ℕ) (ty : t.CType) (op : BinaryOp) (left right : PlainType) (x y : e.TExpr) → IsOfType c left x → IsOfType c right y → IsTrue (is_fit c.structs (type_view ty))
      → IsTrue (has_binary_type c.structs op (type_view ty) left right) → IsFalse (is_array (type_view ty)) → IsTypedIn c (binary_rvalue at ty op x y)
  unfolding opens
  binary_made at ty op left right x y h g fit rule n =
      value_typed at ty (e.Binary ty op x y)
      (four (is_fit c.structs (type_view ty)) (has_rule c (Binary (type_view ty) op (expr_view x) (expr_view y))) (is_typed c (expr_view x)) (is_typed c (expr_view y)) fit
      (along (λ o. has_binary_type c.structs op (type_view ty) o (type_of (expr_view y))) h.type (along (λ o. has_binary_type c.structs op (type_view ty) left o) g.type rule))
      h.typed g.typed) refl n

  -- ---- an array becomes a pointer

  decayed_typed : (a : TypedExpression) (o : Option t.CType) → ElementIs o (type_view a.ty) → IsTypedIn c a → IsValueIn c (decayed_to a o)
  unfolding opens
  decayed_typed a None n h = record { typed = h; value = n }
  decayed_typed a (Some x) s h =
      let array = ap is_array s.1 in
      let made = convert_made (t.Pointer x) a h (decayed_fits c.structs (type_view x) s.0 (along (is_fit c.structs) (sym s.1) (fit_in a h)))
      (array_conversion (Pointer (type_view x)) (type_view a.ty) (is_null_constant (expr_view a.tree)) (is_place (expr_view a.tree))
      (along (λ from. decays from (Pointer (type_view x))) s.1 (alike (type_view x))) (h.place (h.array array)).place) in
      record { typed = value_typed a.at (t.Pointer x) (e.Convert (t.Pointer x) a.tree) made.typed made.type refl; value = refl }

  pub decay_typed : (a : TypedExpression) → IsTypedIn c a → IsValueIn c (decay a)
  decay_typed a h = decayed_typed a (element a.ty) (element_says a.ty) h
