-- Conversions of values, and the operators at which pointers meet.
use Rattle.std.proofs.Common.{◌≡◌, ℕ, Bool, true, false, not, ◌&&◌, ◌||◌, IsTrue, IsFalse, is_some, Option, Some, None, IfOk, IfSome, refl, sym, ap, ◌∙◌, if◌then◌else◌}
use Rattle.bk_arithmetic.specs.declared.integer_type.IntegerType.{IntegerType}
use Rattle.bk_arithmetic.specs.IntegerTypes.{common}
use Rattle.c_tree.specs.declared.expressions.BinaryOp.{BinaryOp}
use Rattle.c_typed_tree.specs.declared.types.CType as t
use Rattle.c_typed_tree.specs.declared.expressions.TExpr as e
use Rattle.c_typed_tree.specs.Types.{PlainType, Void, Int, Pointer, Array, Struct}
use Rattle.c_typed_tree.specs.Expressions.{Cast, Conditional, type_of}
use Rattle.c_typed_tree.specs.View.{type_view, expr_view}
use Rattle.c_typed_tree.specs.model.View.{opens}
use Rattle.c_typed_tree.specs.Layout.{integer_of}
use Rattle.c_typed_tree.specs.Constants.{is_integer, is_null_constant}
use Rattle.c_typed_tree.specs.Typing.{Context, is_same_type, is_void, is_array, is_struct, is_pointer, is_scalar, is_pointer_to_void, is_promoted, is_valid_type, is_fit, is_cast, is_conversion, is_place, has_rule, is_typed}
use Rattle.c_typing_rules.specs.declared.typed.TypedExpression.{TypedExpression}
use Rattle.c_typing_rules.specs.Values.{integer, is_same, convert_tree}
use Rattle.c_typing_rules.specs.Arithmetic.{common_type}
use Rattle.c_typing_rules.specs.Comparisons.{condition}
use Rattle.c_typing_rules.specs.Conversions.{is_taken_as_pointer, value_for_type, is_castable, cast_value, cast_ruling, void_pointer, meet, equal_pointers, equality_of, equality_test, choice_in, choice_met, choice_apart, choice_of, choice}
use Rattle.c_typing_expression_sound.specs.c_type_laws.Typed.{IsTypedIn, IsOfType, IsTested}
use Rattle.c_typing_expression_sound.proofs.CTypeLaws.Truth.{no_true, also, three, four, five, along, either, either_left, either_right, first_of_three, second_of_three, third_of_three, later_of_three, first_of_four, given_true, given_some, if_true}
use Rattle.c_typing_expression_sound.proofs.CTypeLaws.Types.{same, alike, equal, integer_fits, common_promoted, promoted_holds, fit_type, void_no_array, integer_no_array, pointer_no_array, void_pointer_is}
use Rattle.c_typing_expression_sound.proofs.CTypeLaws.Values.{IsValueIn, fit_in, value_typed, integer_conversion, zero_conversion, pointer_conversion, convert_made, converted_fit, same_operand, integer_operand}
use Rattle.c_typing_expression_sound.proofs.CTypeLaws.Arithmetic.{plain_integer, Compares, compared_types, integers_compared}

-- ---- null pointer constants: the integer constant 0, or a pointer to void

abbrev pub null_of : PlainType → (constant : Bool) → Bool
null_of ty constant = is_integer ty && constant || is_pointer_to_void ty

abbrev pub IsNull : TypedExpression → Type 0
IsNull a = IsTrue (null_of (type_view a.ty) (is_null_constant (expr_view a.tree)))

-- it is a pointer, or the constant
null_conversion : (to from : PlainType) (null place : Bool) → IsTrue (is_pointer to) → IsTrue (null_of from null) → IsTrue (is_conversion to from null place)
null_conversion to from null place p h =
    either (is_integer from && null) (is_pointer_to_void from)
    (λ z. zero_conversion to from null place p z)
    (λ v. pointer_conversion to from null place p (void_pointer_is from v)
    (third_of_three (is_same_type to from) (is_pointer_to_void to) (is_pointer_to_void from) v)) h

self_conversion : (ty : PlainType) (null place : Bool) → IsTrue (is_pointer ty) → IsTrue (is_conversion ty ty null place)
self_conversion ty null place p =
    pointer_conversion ty ty null place p p (first_of_three (is_same_type ty ty) (is_pointer_to_void ty) (is_pointer_to_void ty) (alike ty))

to_void_conversion : (from : PlainType) (null place : Bool) → IsTrue (is_pointer from) → IsTrue (is_conversion (Pointer Void) from null place)
to_void_conversion from null place p =
    pointer_conversion (Pointer Void) from null place refl p (second_of_three (is_same_type (Pointer Void) from) true (is_pointer_to_void from) refl)

taken_conversion : (to from : PlainType) (constant place : Bool) (null : Bool) → IsTrue (is_pointer to) → (IsTrue null → IsTrue (null_of from constant))
    → IsTrue (if null then true else if is_pointer from then is_pointer_to_void to || is_pointer_to_void from else false) → IsTrue (is_conversion to from constant place)
taken_conversion to from constant place null p n h =
    if_true null true (if is_pointer from then is_pointer_to_void to || is_pointer_to_void from else false)
    (λ z w. null_conversion to from constant place p (n z))
    (λ z w. if_true (is_pointer from) (is_pointer_to_void to || is_pointer_to_void from) false
    (λ q v. pointer_conversion to from constant place p q (later_of_three (is_same_type to from) (is_pointer_to_void to) (is_pointer_to_void from) v))
    (λ q v. no_true v) w) h

-- ---- casts, by the types

castable_cast : (to from : PlainType) (constant null : Bool) → IsFalse (is_array from) → (IsTrue null → IsTrue (null_of from constant))
    → IsTrue (if is_void to then true else if is_integer to then is_integer from else if is_pointer to then is_pointer from || null else false) → IsTrue (is_cast to from constant)
castable_cast to from constant null a n h =
    if_true (is_void to) true (if is_integer to then is_integer from else if is_pointer to then is_pointer from || null else false)
    (λ v w. first_of_three (is_void to && not (is_array from)) (is_integer to && is_integer from) (is_pointer to && (is_pointer from || is_integer from && constant))
    (also (is_void to) (not (is_array from)) v (ap not a)))
    (λ v w. if_true (is_integer to) (is_integer from) (if is_pointer to then is_pointer from || null else false)
    (λ i k. second_of_three (is_void to && not (is_array from)) (is_integer to && is_integer from) (is_pointer to && (is_pointer from || is_integer from && constant))
    (also (is_integer to) (is_integer from) i k))
    (λ i k. if_true (is_pointer to) (is_pointer from || null) false
    (λ p q. third_of_three (is_void to && not (is_array from)) (is_integer to && is_integer from) (is_pointer to && (is_pointer from || is_integer from && constant))
    (also (is_pointer to) (is_pointer from || is_integer from && constant) p
    (either (is_pointer from) null (λ r. either_left (is_pointer from) (is_integer from && constant) r)
    (λ z. either (is_integer from && constant) (is_pointer_to_void from) (λ r. either_right (is_pointer from) (is_integer from && constant) r)
    (λ r. either_left (is_pointer from) (is_integer from && constant) (void_pointer_is from r)) (n z)) q)))
    (λ p q. no_true q) k) w) h

castable_plain : (to from : PlainType) (null : Bool) → IsTrue (if is_void to then true else if is_integer to then is_integer from else if is_pointer to then is_pointer from || null else false) → IsFalse (is_array to)
castable_plain to from null h =
    if_true (is_void to) true (if is_integer to then is_integer from else if is_pointer to then is_pointer from || null else false)
    (λ v w. void_no_array to v)
    (λ v w. if_true (is_integer to) (is_integer from) (if is_pointer to then is_pointer from || null else false)
    (λ i k. integer_no_array to i)
    (λ i k. if_true (is_pointer to) (is_pointer from || null) false (λ p q. pointer_no_array to p) (λ p q. no_true q) k) w) h

-- ---- in a context

-- a type in which two operands meet, each of which may be converted to it
record Meets (c : Context) (a b : TypedExpression) (ty : t.CType) : Type 0 where
  fit : IsTrue (is_fit c.structs (type_view ty))
  pointer : IsTrue (is_pointer (type_view ty))
  left : IsTrue (is_conversion (type_view ty) (type_view a.ty) (is_null_constant (expr_view a.tree)) (is_place (expr_view a.tree)))
  right : IsTrue (is_conversion (type_view ty) (type_view b.ty) (is_null_constant (expr_view b.tree)) (is_place (expr_view b.tree)))

module _ (c : Context) where
  -- ---- a value where one of a type is wanted

  pub value_for_type_typed : (to : t.CType) (v : TypedExpression) (null : Bool) → IsTypedIn c v → IsTrue (is_fit c.structs (type_view to)) → (IsTrue null → IsNull v)
      → IfOk (value_for_type to v null) (IsOfType c (type_view to))
  value_for_type_typed to v null h fit n =
      let wanted = type_view to in
      let own = type_view v.ty in
      let constant = is_null_constant (expr_view v.tree) in
      let stands = is_place (expr_view v.tree) in
      given_true (IsOfType c wanted) (is_same to v.ty) _ _
      (λ s. record { typed = h.tree; type = h.type ∙ sym (same wanted own s) })
      (λ s. given_true (IsOfType c wanted) (is_integer wanted) _ _
      (λ i. given_true (IsOfType c wanted) (is_integer own) _ _ (λ k. convert_made c to v h fit (integer_conversion wanted own constant stands i k)) (λ k. tt))
      (λ i. given_true (IsOfType c wanted) (is_pointer wanted) _ _
      (λ p. given_true (IsOfType c wanted) (is_taken_as_pointer to v null) _ _ (λ k. convert_made c to v h fit (taken_conversion wanted own constant stands null p n k)) (λ k. tt))
      (λ p. tt)))

  -- ---- casts

  cast_made : (at : ℕ) (to : t.CType) (a : TypedExpression) → IsTypedIn c a → IsTrue (is_fit c.structs (type_view to))
      → IsTrue (is_cast (type_view to) (type_view a.ty) (is_null_constant (expr_view a.tree))) → IsFalse (is_array (type_view to)) → IsTypedIn c (cast_value at to a.tree)
  unfolding opens
  cast_made at to a h fit rule n =
      value_typed c at to (e.Cast to a.tree)
      (three (is_fit c.structs (type_view to)) (has_rule c (Cast (type_view to) (expr_view a.tree))) (is_typed c (expr_view a.tree)) fit
      (along (λ from. is_cast (type_view to) from (is_null_constant (expr_view a.tree))) h.type rule) h.tree) refl n

  pub cast_typed : (at : ℕ) (to : t.CType) (a : TypedExpression) (null : Bool) → IsValueIn c a → IsTrue (is_fit c.structs (type_view to)) → (IsTrue null → IsNull a)
      → IfOk (cast_ruling at to a null) (IsTypedIn c)
  cast_typed at to a null h fit n =
      given_true (IsTypedIn c) (is_castable to a null) _ _
      (λ k. cast_made at to a h.typed fit (castable_cast (type_view to) (type_view a.ty) (is_null_constant (expr_view a.tree)) null h.value n k) (castable_plain (type_view to) (type_view a.ty) null k))
      (λ k. tt)

  -- ---- where two operands meet

  meet_left : (a b : TypedExpression) → IsTypedIn c a → IsTrue (is_pointer (type_view a.ty))
      → IsTrue (is_conversion (type_view a.ty) (type_view b.ty) (is_null_constant (expr_view b.tree)) (is_place (expr_view b.tree))) → Meets c a b a.ty
  meet_left a b h p r = record {
    fit = fit_in c a h;
    pointer = p;
    left = self_conversion (type_view a.ty) (is_null_constant (expr_view a.tree)) (is_place (expr_view a.tree)) p;
    right = r;
  }

  meet_right : (a b : TypedExpression) → IsTypedIn c b → IsTrue (is_pointer (type_view b.ty))
      → IsTrue (is_conversion (type_view b.ty) (type_view a.ty) (is_null_constant (expr_view a.tree)) (is_place (expr_view a.tree))) → Meets c a b b.ty
  meet_right a b h p r = record {
    fit = fit_in c b h;
    pointer = p;
    left = r;
    right = self_conversion (type_view b.ty) (is_null_constant (expr_view b.tree)) (is_place (expr_view b.tree)) p;
  }

  meet_void : (a b : TypedExpression) → IsTrue (is_pointer (type_view a.ty)) → IsTrue (is_pointer (type_view b.ty)) → Meets c a b void_pointer
  unfolding opens
  meet_void a b p q = record {
    fit = refl;
    pointer = refl;
    left = to_void_conversion (type_view a.ty) (is_null_constant (expr_view a.tree)) (is_place (expr_view a.tree)) p;
    right = to_void_conversion (type_view b.ty) (is_null_constant (expr_view b.tree)) (is_place (expr_view b.tree)) q;
  }

  meet_says : (a b : TypedExpression) (na nb : Bool) → IsTypedIn c a → IsTypedIn c b → (IsTrue na → IsNull a) → (IsTrue nb → IsNull b) → IfSome (meet a.ty b.ty na nb) (Meets c a b)
  meet_says a b na nb h g m n =
      let left = type_view a.ty in
      let right = type_view b.ty in
      given_some (Meets c a b) (is_pointer left) _ _
      (λ p. given_some (Meets c a b) (is_same a.ty b.ty) _ _
      (λ s. meet_left a b h p (along (λ from. is_conversion left from (is_null_constant (expr_view b.tree)) (is_place (expr_view b.tree))) (sym (same left right s))
      (self_conversion left (is_null_constant (expr_view b.tree)) (is_place (expr_view b.tree)) p)))
      (λ s. given_some (Meets c a b) nb _ _
      (λ z. meet_left a b h p (null_conversion left right (is_null_constant (expr_view b.tree)) (is_place (expr_view b.tree)) p (n z)))
      (λ z. given_some (Meets c a b) (is_pointer right) _ _
      (λ q. given_some (Meets c a b) na _ _
      (λ y. meet_right a b g q (null_conversion right left (is_null_constant (expr_view a.tree)) (is_place (expr_view a.tree)) q (m y)))
      (λ y. given_some (Meets c a b) (is_pointer_to_void left || is_pointer_to_void right) _ _ (λ v. meet_void a b p q) (λ v. tt)))
      (λ q. tt))))
      (λ p. given_some (Meets c a b) (is_pointer right) _ _
      (λ q. given_some (Meets c a b) na _ _
      (λ y. meet_right a b g q (null_conversion right left (is_null_constant (expr_view a.tree)) (is_place (expr_view a.tree)) q (m y)))
      (λ y. tt))
      (λ q. tt))

  -- ---- `==` and `!=`

  equal_typed : (at : ℕ) (op : BinaryOp) (a b : TypedExpression) (o : Option t.CType) → Compares op → IsTypedIn c a → IsTypedIn c b → IfSome o (Meets c a b) → IfOk (equal_pointers at op a b o) (IsTypedIn c)
  equal_typed at op a b None p h g k = tt
  equal_typed at op a b (Some ty) p h g k =
      compared_types c at op (type_view ty) (convert_tree ty a) (convert_tree ty b) p (converted_fit c ty a h k.fit k.left) (converted_fit c ty b g k.fit k.right)
      (either_right (is_promoted (type_view ty)) (is_pointer (type_view ty)) k.pointer)

  equality_of_typed : (at : ℕ) (op : BinaryOp) (a b : TypedExpression) (na nb : Bool) (o q : Option IntegerType) → Compares op → IsTypedIn c a → IsTypedIn c b → (IsTrue na → IsNull a) → (IsTrue nb → IsNull b)
      → integer a ≡ o → integer b ≡ q → IfOk (equality_of at op a b na nb o q) (IsTypedIn c)
  equality_of_typed at op a b na nb (Some s) (Some u) p h g m n k l = integers_compared c at op a b s u p h g k l
  equality_of_typed at op a b na nb (Some s) None p h g m n k l = equal_typed at op a b (meet a.ty b.ty na nb) p h g (meet_says a b na nb h g m n)
  equality_of_typed at op a b na nb None q p h g m n k l = equal_typed at op a b (meet a.ty b.ty na nb) p h g (meet_says a b na nb h g m n)

  pub equality_typed : (at : ℕ) (op : BinaryOp) (a b : TypedExpression) (na nb : Bool) → Compares op → IsTypedIn c a → IsTypedIn c b → (IsTrue na → IsNull a) → (IsTrue nb → IsNull b)
      → IfOk (equality_test at op a b na nb) (IsTypedIn c)
  equality_typed at op a b na nb p h g m n = equality_of_typed at op a b na nb (integer a) (integer b) p h g m n refl refl

  -- ---- `?:`

  pub condition_typed : (a : TypedExpression) → IsTypedIn c a → IfOk (condition a) (IsTested c)
  condition_typed a h = given_true (IsTested c) (is_scalar (type_view a.ty)) _ _ (λ s. record { typed = h.tree; scalar = along is_scalar h.type s }) (λ s. tt)

  choice_made : (at : ℕ) (x : e.TExpr) (ty : t.CType) (a b : TypedExpression) → IsTested c x → IsOfType c (type_view ty) (convert_tree ty a) → IsOfType c (type_view ty) (convert_tree ty b)
      → IsTrue (is_fit c.structs (type_view ty)) → IsTrue (is_promoted (type_view ty) || is_pointer (type_view ty) || is_void (type_view ty) || is_struct (type_view ty))
      → IsFalse (is_array (type_view ty)) → IsTypedIn c (choice_in at x ty a b)
  unfolding opens
  choice_made at x ty a b tested h g fit kind n =
      let result = type_view ty in
      let test = expr_view x in
      let left = expr_view (convert_tree ty a) in
      let right = expr_view (convert_tree ty b) in
      value_typed c at ty (e.Conditional ty x (convert_tree ty a) (convert_tree ty b))
      (five (is_fit c.structs result) (has_rule c (Conditional result test left right)) (is_typed c test) (is_typed c left) (is_typed c right) fit
      (four (is_scalar (type_of test)) (is_same_type (type_of left) result) (is_same_type (type_of right) result)
      (is_promoted result || is_pointer result || is_void result || is_struct result) tested.scalar (equal (type_of left) result h.type) (equal (type_of right) result g.type) kind)
      tested.typed h.typed g.typed) refl n

  choice_met_typed : (at : ℕ) (x : e.TExpr) (a b : TypedExpression) (o : Option t.CType) → IsTested c x → IsTypedIn c a → IsTypedIn c b → IfSome o (Meets c a b) → IfOk (choice_met at x a b o) (IsTypedIn c)
  choice_met_typed at x a b None tested h g k = tt
  choice_met_typed at x a b (Some ty) tested h g k =
      choice_made at x ty a b tested (converted_fit c ty a h k.fit k.left) (converted_fit c ty b g k.fit k.right) k.fit
      (pointer_kind (is_promoted (type_view ty)) (is_pointer (type_view ty)) (is_void (type_view ty)) (is_struct (type_view ty)) k.pointer) (pointer_no_array (type_view ty) k.pointer)
    where
      pointer_kind : (a b c d : Bool) → IsTrue b → IsTrue (a || b || c || d)
      pointer_kind true b c d h = refl
      pointer_kind false true c d h = refl
      pointer_kind false false c d h = no_true h

  -- a type of values that is no integer type
  value_kind : (ty : PlainType) → IsFalse (is_array ty) → integer_of ty ≡ None → IsTrue (is_valid_type c.structs ty) → IsTrue (is_promoted ty || is_pointer ty || is_void ty || is_struct ty)
  value_kind Void n k h = refl
  value_kind (Int b s) n k h = no_true (sym (ap is_some k) ∙ h)
  value_kind (Pointer x) n k h = refl
  value_kind (Array x m) n k h = no_true (sym n)
  value_kind (Struct m) n k h = refl

  choice_apart_typed : (at : ℕ) (x : e.TExpr) (a b : TypedExpression) (na nb : Bool) → IsTested c x → IsValueIn c a → IsValueIn c b → (IsTrue na → IsNull a) → (IsTrue nb → IsNull b)
      → (IsTrue (is_same a.ty b.ty) → integer a ≡ None) → IfOk (choice_apart at x a b na nb) (IsTypedIn c)
  choice_apart_typed at x a b na nb tested h g m n none =
      let left = type_view a.ty in
      given_true (IsTypedIn c) (is_same a.ty b.ty) _ _
      (λ s. choice_made at x a.ty a b tested (same_operand c a.ty a h.typed (alike left)) (same_operand c a.ty b g.typed s) (fit_in c a h.typed)
      (value_kind left h.value (none s) (fit_type c.structs left (fit_in c a h.typed))) h.value)
      (λ s. choice_met_typed at x a b (meet a.ty b.ty na nb) tested h.typed g.typed (meet_says a b na nb h.typed g.typed m n))

  choice_of_typed : (at : ℕ) (x : e.TExpr) (a b : TypedExpression) (na nb : Bool) (o q : Option IntegerType) → IsTested c x → IsValueIn c a → IsValueIn c b → (IsTrue na → IsNull a) → (IsTrue nb → IsNull b)
      → integer a ≡ o → integer b ≡ q → IfOk (choice_of at x a b na nb o q) (IsTypedIn c)
  choice_of_typed at x a b na nb (Some s) (Some u) tested h g m n k l =
      let ty = type_view (common_type s u) in
      choice_made at x (common_type s u) a b tested (integer_operand c (common s u) a s h.typed k) (integer_operand c (common s u) b u g.typed l) (integer_fits c.structs (common s u))
      (first_of_four (is_promoted ty) (is_pointer ty) (is_void ty) (is_struct ty) (promoted_holds (common s u) (common_promoted s u))) (plain_integer (common s u))
  choice_of_typed at x a b na nb (Some s) None tested h g m n k l =
      choice_apart_typed at x a b na nb tested h g m n (λ z. ap integer_of (same (type_view a.ty) (type_view b.ty) z) ∙ l)
  choice_of_typed at x a b na nb None q tested h g m n k l = choice_apart_typed at x a b na nb tested h g m n (λ z. k)

  pub choice_typed : (at : ℕ) (x : e.TExpr) (a b : TypedExpression) (na nb : Bool) → IsTested c x → IsValueIn c a → IsValueIn c b → (IsTrue na → IsNull a) → (IsTrue nb → IsNull b)
      → IfOk (choice at x a b na nb) (IsTypedIn c)
  choice_typed at x a b na nb tested h g m n = choice_of_typed at x a b na nb (integer a) (integer b) tested h g m n refl refl
