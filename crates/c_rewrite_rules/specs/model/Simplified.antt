-- `Simplify` refines.
use Rattle.std.proofs.Common.{◌≡◌, ◌⊎◌, ℕ, Bool, true, false, ◌&&◌, ◌||◌, ◌==◌, IsTrue, List, Option, Some, None, refl, sym, ap, ◌∙◌, subst, inl, inr, if◌then◌else◌, eqb-true, leb-true, nat_le, option_and_then, arith}
use Rattle.std.specs.Prelude.{ℤ}
use Rattle.std.proofs.lemmas.Int.{ints}
use Rattle.std.proofs.lemmas.Option.{none-some}
use Rattle.mem_model.specs.declared.value.Value.{Value}
use Rattle.mem_model.specs.declared.value.Value.TheVariants.{Word, Address, Unset}
use Rattle.mem_model.specs.Ending.{Evaluation, Gives, Ends}
use Rattle.bk_arithmetic.specs.declared.integer_type.IntegerType.{IntegerType}
use Rattle.bk_arithmetic.specs.declared.integer_type.IntegerType.TheVariants as i
use Rattle.bk_arithmetic.specs.IntegerTypes.{bytes, is_signed, integer_type, fits}
use Rattle.bk_arithmetic.specs.Words.{is_word, value}
use Rattle.bk_arithmetic.specs.Operations.{conversion}
use Rattle.bk_arithmetic.proofs.Values.{fits-value}
use Rattle.bk_arithmetic.proofs.Results.{product-zero, product-either}
use Rattle.bk_arithmetic.proofs.Conversions.{fits-wider, conversion-same, conversion-through_wide, conversion-through_all}
use Rattle.c_tree.specs.declared.expressions.BinaryOp.{BinaryOp}
use Rattle.c_tree.specs.declared.expressions.BinaryOp.TheVariants as b
use Rattle.c_typed_tree.specs.declared.units.Local as l
use Rattle.c_typed_tree.specs.Types.{PlainType, Void, Int, Pointer, Array, Struct}
use Rattle.c_typed_tree.specs.Expressions.{Expr, Number, Binary, Convert, type_of}
use Rattle.c_typed_tree.specs.Layout.{integer_of}
use Rattle.c_typed_tree.specs.Constants.{is_integer, is_built, word_of, binary_value, converted_value, both_values, value_with, constant}
use Rattle.c_typed_tree.specs.Typing.{Context, is_same_type, is_promoted, is_pointer, is_fit, points_to_object, is_arithmetic, has_binary_type, is_number_of, is_conversion, is_place, decays, is_pointer_to_void, has_rule, is_typed}
use Rattle.c_typed_tree.specs.Constants.{is_null_constant}
use Rattle.c_typed_tree.specs.Names.{names}
use Rattle.c_typed_tree.specs.Weight.{expr_weight}
use Rattle.c_semantics.specs.Runs.{CallState, Run, and_then, ◌>>=◌, pure, undefined_behaviour}
use Rattle.c_semantics.specs.Objects.{Scope, ValuePlace, integer_or_word}
use Rattle.c_semantics.specs.Operators.{convert_word, apply_binary}
use Rattle.c_semantics.specs.Evaluates.{Functions, converted_from, eval, place}
use Rattle.c_semantics.specs.Refines.{RefinesIn, ExprRefines, RunRefines}
use Rattle.c_semantics.proofs.Facts.{no_true, front, back, also, three}
use Rattle.c_semantics.proofs.RefinesOrder.{expr_itself}
use Rattle.c_rewrite_rules.specs.Rules.{is_literal_with, keeps_left, keeps_right, is_idle, is_zero_product, simplified_binary, holds_all, integer_bytes, leaves_out, simplified_twice, simplified_conversion, simplified}
use Rattle.c_rewrite_rules.specs.model.Truths.{either, left_of, same, IsIntegerType, integer_there, promoted_integer, is_there_integer, then_there, both_there, rule_alone, fit_one, one_typed, fit_two, rule_two, first_typed, second_typed}
use Rattle.c_rewrite_rules.specs.model.Constants.{IsIntegerWord, constant_word, no_integer_pointer, some_is}
use Rattle.c_rewrite_rules.specs.model.Runs.{as_it_is, nothing_asked}
use Rattle.c_rewrite_rules.specs.model.Folded.{or_word, fit_of, literal_there}
use Rattle.c_rewrite_rules.specs.model.Held.{IsHeld, eval_held}
use Rattle.c_rewrite_rules.specs.model.Idle.{eval_idle}
use Rattle.c_rewrite_rules.specs.model.SimplifiedOperands.{leaves_values, held_is, zero_is, left_kept, right_kept, apply_left, apply_right, apply_zero, zero_applied, drops_idle, under_pure, arithmetic_left, left_type, right_type, RightIs}

-- ---- the values of constants

strict_left : (op : BinaryOp) (n : ℕ) → IsTrue (keeps_left op n) → (l r : Option IntegerType) (p : Option ℕ) (built : Bool) (q : Option ℕ)
    → value_with op l r p built q ≡ both_values (binary_value op l r) p q
strict_left b.Add n k l r p built q = refl
strict_left b.Subtract n k l r p built q = refl
strict_left b.Multiply n k l r p built q = refl
strict_left b.Or n k l r p built q = refl
strict_left b.Xor n k l r p built q = refl
strict_left b.ShiftLeft n k l r p built q = refl
strict_left b.ShiftRight n k l r p built q = refl
strict_left op n k l r p built q = no_true k

strict_right : (op : BinaryOp) (n : ℕ) → IsTrue (keeps_right op n) → (l r : Option IntegerType) (p : Option ℕ) (built : Bool) (q : Option ℕ)
    → value_with op l r p built q ≡ both_values (binary_value op l r) p q
strict_right b.Add n k l r p built q = refl
strict_right b.Multiply n k l r p built q = refl
strict_right op n k l r p built q = no_true k

-- the operator on the words leaves the one
left_value : (op : BinaryOp) (l r : Option IntegerType) (a n m : ℕ) → IsTrue (keeps_left op n) → ((t : IntegerType) → l ≡ Some t → is_word t a ≡ true)
    → binary_value op l r a n ≡ Some m → a ≡ m
left_value op None r a n m k w e = absurd (none-some m e)
left_value op (Some t) None a n m k w e = absurd (none-some m e)
left_value op (Some t) (Some c) a n m k w e = some_is (sym (ap word_of (left_kept op t c a n k (w t refl))) ∙ e)

right_value : (op : BinaryOp) (l r : Option IntegerType) (a n m : ℕ) → IsTrue (keeps_right op n) → ((t : IntegerType) → l ≡ Some t → is_word t a ≡ true)
    → binary_value op l r n a ≡ Some m → a ≡ m
right_value op None r a n m k w e = absurd (none-some m e)
right_value op (Some t) None a n m k w e = absurd (none-some m e)
right_value op (Some t) (Some c) a n m k w e = some_is (sym (ap word_of (right_kept op t c a n k (w t refl))) ∙ e)

word_at : (ty : PlainType) (a : ℕ) → IsIntegerWord ty a → (t : IntegerType) → integer_of ty ≡ Some t → is_word t a ≡ true
word_at ty a w t e = ap (λ v. is_word v a) (sym (some_is (sym w.is ∙ e))) ∙ w.word

-- ---- the rows

-- the type of a literal
literal_type : (o : Option IntegerType) (t : PlainType) (n : ℕ) → integer_of t ≡ o → IsTrue (is_number_of o n) → IsIntegerType t
literal_type None t n e h = no_true h
literal_type (Some c) t n e h = record { of = c; is = e }

module _ (c : Context) (ty : PlainType) (op : BinaryOp) (x : Expr) (t : PlainType) (n : ℕ) (p : IsTrue (is_typed c (Binary ty op x (Number t n)))) where
  abbrev left_whole : Expr
  left_whole = Binary ty op x (Number t n)

  left_rule : IsTrue (has_binary_type c.structs op ty (type_of x) t)
  left_rule = rule_two (is_fit c.structs ty) (has_rule c left_whole) (is_typed c x) (is_typed c (Number t n)) p

  left_typed : IsTrue (is_typed c x)
  left_typed = first_typed (is_fit c.structs ty) (has_rule c left_whole) (is_typed c x) (is_typed c (Number t n)) p

  right_literal : IsIntegerType t
  right_literal =
      literal_type (integer_of t) t n refl
      (rule_alone (is_fit c.structs t) (is_number_of (integer_of t) n) (second_typed (is_fit c.structs ty) (has_rule c left_whole) (is_typed c x) (is_typed c (Number t n)) p))

  left_constant : IsTrue (keeps_left op n) → (m : ℕ) → constant left_whole ≡ Some m → constant x ≡ Some m
  left_constant k m e =
      let parts = both_there (binary_value op (integer_of (type_of x)) (integer_of t)) (constant x) (constant (Number t n)) m
      (sym (strict_left op n k (integer_of (type_of x)) (integer_of t) (constant x) (is_integer t) (constant (Number t n))) ∙ e) in
      let literal = (literal_there (is_integer t) n parts.1 parts.3).1 in
      let value = subst (λ v. binary_value op (integer_of (type_of x)) (integer_of t) parts.0 v ≡ Some m) (sym literal) parts.4 in
      parts.2 ∙ ap Some (left_value op (integer_of (type_of x)) (integer_of t) parts.0 n m k
      (word_at (type_of x) parts.0 (constant_word c x parts.0 left_typed parts.2)) value)

  left_run : (f : Functions) (scope : Scope) → IsTrue (keeps_left op n)
      → RunRefines (eval c.structs c.locals f scope x)
      (eval c.structs c.locals f scope x >>= (λ v. pure (Word n) >>= (λ w. apply_binary c.structs op (type_of x) t v w)))
  left_run f scope k =
      leaves_values (eval c.structs c.locals f scope x) (λ v. pure (Word n) >>= (λ w. apply_binary c.structs op (type_of x) t v w))
      (eval_held c f scope x left_typed)
      (λ v h. under_pure (Word n) (λ w. apply_binary c.structs op (type_of x) t v w)
      (apply_left c.structs op (type_of x) t right_literal.of v n (fit_of c x left_typed) right_literal.is k h))

left_eval : (c : Context) (ty : PlainType) (op : BinaryOp) (x : Expr) (t : PlainType) (n : ℕ) (f : Functions) (scope : Scope) → IsTrue (keeps_left op n)
    → eval c.structs c.locals f scope (Binary ty op x (Number t n))
    ≡ (eval c.structs c.locals f scope x >>= (λ v. pure (Word n) >>= (λ w. apply_binary c.structs op (type_of x) t v w)))
left_eval c ty b.Add x t n f scope k = refl
left_eval c ty b.Subtract x t n f scope k = refl
left_eval c ty b.Multiply x t n f scope k = refl
left_eval c ty b.Or x t n f scope k = refl
left_eval c ty b.Xor x t n f scope k = refl
left_eval c ty b.ShiftLeft x t n f scope k = refl
left_eval c ty b.ShiftRight x t n f scope k = refl
left_eval c ty op x t n f scope k = no_true k

left_refines : (c : Context) (ty : PlainType) (op : BinaryOp) (x : Expr) (t : PlainType) (n : ℕ) → IsTrue (keeps_left op n)
    → IsTrue (is_typed c (Binary ty op x (Number t n))) → RefinesIn c x (Binary ty op x (Number t n))
unfolding expr_weight
left_refines c ty op x t n k p = record {
  typed = left_typed c ty op x t n p;
  types = left_type c.structs op ty (type_of x) t (right_literal c ty op x t n p).of n (right_literal c ty op x t n p).is k (left_rule c ty op x t n p);
  named = λ a h. left_of (names a x) false h;
  weight = omega arith;
  places = λ h. no_true h;
  memory = λ h. no_true h;
  constants = left_constant c ty op x t n p k;
  built = λ h. back (is_integer ty) (is_built x) (front (is_integer ty && is_built x) (is_integer t) h);
  value = λ f i2 scope. subst (RunRefines (eval c.structs c.locals f scope x)) (sym (left_eval c ty op x t n f scope k)) (left_run c ty op x t n p f scope k);
  stands = λ f i2 scope. nothing_asked _ _;
}

module _ (c : Context) (ty : PlainType) (op : BinaryOp) (t : PlainType) (n : ℕ) (y : Expr) (p : IsTrue (is_typed c (Binary ty op (Number t n) y))) where
  abbrev right_whole : Expr
  right_whole = Binary ty op (Number t n) y

  right_rule : IsTrue (has_binary_type c.structs op ty t (type_of y))
  right_rule = rule_two (is_fit c.structs ty) (has_rule c right_whole) (is_typed c (Number t n)) (is_typed c y) p

  right_typed : IsTrue (is_typed c y)
  right_typed = second_typed (is_fit c.structs ty) (has_rule c right_whole) (is_typed c (Number t n)) (is_typed c y) p

  left_literal : IsIntegerType t
  left_literal =
      literal_type (integer_of t) t n refl
      (rule_alone (is_fit c.structs t) (is_number_of (integer_of t) n) (first_typed (is_fit c.structs ty) (has_rule c right_whole) (is_typed c (Number t n)) (is_typed c y) p))

  side : IsTrue (keeps_right op n) → RightIs c.structs ty t (type_of y)
  side k = right_type c.structs op ty t (type_of y) left_literal.of n left_literal.is k right_rule

  -- a constant on the right has the type of the literal
  alike_word : (a : ℕ) → IsIntegerWord (type_of y) a → (t ≡ type_of y) ⊎ IsTrue (points_to_object c.structs (type_of y)) → (v : IntegerType) → integer_of t ≡ Some v → is_word v a ≡ true
  alike_word a w (inl e) v h = word_at (type_of y) a w v (sym (ap integer_of e) ∙ h)
  alike_word a w (inr q) v h = no_integer_pointer c.structs (type_of y) w.of w.is q

  right_constant : IsTrue (keeps_right op n) → (m : ℕ) → constant right_whole ≡ Some m → constant y ≡ Some m
  right_constant k m e =
      let parts = both_there (binary_value op (integer_of t) (integer_of (type_of y))) (constant (Number t n)) (constant y) m
      (sym (strict_right op n k (integer_of t) (integer_of (type_of y)) (constant (Number t n)) (is_built y) (constant y)) ∙ e) in
      let literal = (literal_there (is_integer t) n parts.0 parts.2).1 in
      let value = subst (λ v. binary_value op (integer_of t) (integer_of (type_of y)) v parts.1 ≡ Some m) (sym literal) parts.4 in
      parts.3 ∙ ap Some (right_value op (integer_of t) (integer_of (type_of y)) parts.1 n m k
      (alike_word parts.1 (constant_word c y parts.1 right_typed parts.3) (side k).alike) value)

  right_run : (f : Functions) (scope : Scope) → IsTrue (keeps_right op n)
      → RunRefines (eval c.structs c.locals f scope y)
      (pure (Word n) >>= (λ v. eval c.structs c.locals f scope y >>= (λ w. apply_binary c.structs op t (type_of y) v w)))
  right_run f scope k =
      under_pure (Word n) (λ v. eval c.structs c.locals f scope y >>= (λ w. apply_binary c.structs op t (type_of y) v w))
      (leaves_values (eval c.structs c.locals f scope y) (λ w. apply_binary c.structs op t (type_of y) (Word n) w)
      (eval_held c f scope y right_typed)
      (λ w h. apply_right c.structs op t (type_of y) left_literal.of w n (fit_of c y right_typed) left_literal.is (side k).alike k h))

right_eval : (c : Context) (ty : PlainType) (op : BinaryOp) (t : PlainType) (n : ℕ) (y : Expr) (f : Functions) (scope : Scope) → IsTrue (keeps_right op n)
    → eval c.structs c.locals f scope (Binary ty op (Number t n) y)
    ≡ (pure (Word n) >>= (λ v. eval c.structs c.locals f scope y >>= (λ w. apply_binary c.structs op t (type_of y) v w)))
right_eval c ty b.Add t n y f scope k = refl
right_eval c ty b.Multiply t n y f scope k = refl
right_eval c ty op t n y f scope k = no_true k

right_refines : (c : Context) (ty : PlainType) (op : BinaryOp) (t : PlainType) (n : ℕ) (y : Expr) → IsTrue (keeps_right op n)
    → IsTrue (is_typed c (Binary ty op (Number t n) y)) → RefinesIn c y (Binary ty op (Number t n) y)
unfolding expr_weight
right_refines c ty op t n y k p = record {
  typed = right_typed c ty op t n y p;
  types = (side c ty op t n y p k).whole;
  named = λ a h. h;
  weight = omega arith;
  places = λ h. no_true h;
  memory = λ h. no_true h;
  constants = right_constant c ty op t n y p k;
  built = λ h. back (is_integer ty && is_integer t) (is_built y) h;
  value = λ f i2 scope. subst (RunRefines (eval c.structs c.locals f scope y)) (sym (right_eval c ty op t n y f scope k)) (right_run c ty op t n y p f scope k);
  stands = λ f i2 scope. nothing_asked _ _;
}

-- ---- products by 0

zero_word : (t : IntegerType) → is_word t 0 ≡ true
zero_word i.Char = refl
zero_word i.UnsignedChar = refl
zero_word i.Short = refl
zero_word i.UnsignedShort = refl
zero_word i.Int = refl
zero_word i.UnsignedInt = refl
zero_word i.Long = refl
zero_word i.UnsignedLong = refl

zero_number_typed : (c : Context) (ty : PlainType) → IsTrue (is_fit c.structs ty) → IsIntegerType ty → IsTrue (is_typed c (Number ty 0))
zero_number_typed c ty fit there = also (is_fit c.structs ty) (is_number_of (integer_of ty) 0) fit (ap (λ v. is_number_of v 0) there.is ∙ zero_word there.of)

product_of : (l r : Option IntegerType) (a m : ℕ) → binary_value b.Multiply l r a 0 ≡ Some m → 0 ≡ m
product_of None r a m e = absurd (none-some m e)
product_of (Some t) None a m e = absurd (none-some m e)
product_of (Some t) (Some c) a m e = some_is (sym (ap word_of (product-zero t a)) ∙ e)

of_product : (l r : Option IntegerType) (a m : ℕ) → binary_value b.Multiply l r 0 a ≡ Some m → 0 ≡ m
of_product None r a m e = absurd (none-some m e)
of_product (Some t) None a m e = absurd (none-some m e)
of_product (Some t) (Some c) a m e = some_is (sym (ap word_of (product-either t 0 a ∙ product-zero t a)) ∙ e)

number_constant : (ty : PlainType) (m : ℕ) → IsTrue (is_integer ty) → 0 ≡ m → constant (Number ty 0) ≡ Some m
number_constant ty m h e = ap (λ v. if v then Some 0 else None) h ∙ ap Some e

product_integer : (ty left right : PlainType) → IsTrue (is_arithmetic ty left right) → IsIntegerType ty
product_integer ty left right r =
    let there = promoted_integer left (front (is_promoted left) (is_same_type left right) (front (is_promoted left && is_same_type left right) (is_same_type left ty) r)) in
    record { of = there.of; is = sym (ap integer_of (arithmetic_left ty left right r)) ∙ there.is }

zero_left_refines : (c : Context) (ls : List l.Local) (ty : PlainType) (t : PlainType) (n : ℕ) (y : Expr) → IsTrue (n == 0) → IsTrue (is_idle ls y)
    → IsTrue (is_typed c (Binary ty b.Multiply (Number t n) y)) → RefinesIn c (Number ty 0) (Binary ty b.Multiply (Number t n) y)
unfolding expr_weight
zero_left_refines c ls ty t n y zero idle p =
    let rule = right_rule c ty b.Multiply t n y p in
    let there = product_integer ty t (type_of y) rule in
    let integer = is_there_integer ty there in
    record {
      typed = zero_number_typed c ty (fit_two (is_fit c.structs ty) (has_rule c (Binary ty b.Multiply (Number t n) y)) (is_typed c (Number t n)) (is_typed c y) p) there;
      types = refl;
      named = λ a h. no_true h;
      weight = omega arith;
      places = λ h. no_true h;
      memory = λ h. no_true h;
      constants = λ m e.
          let parts = both_there (binary_value b.Multiply (integer_of t) (integer_of (type_of y))) (constant (Number t n)) (constant y) m e in
          let literal = sym (zero_is n zero) ∙ (literal_there (is_integer t) n parts.0 parts.2).1 in
          number_constant ty m integer (of_product (integer_of t) (integer_of (type_of y)) parts.1 m
          (subst (λ v. binary_value b.Multiply (integer_of t) (integer_of (type_of y)) v parts.1 ≡ Some m) (sym literal) parts.4));
      built = λ h. integer;
      value = λ f i2 scope.
          under_pure (Word n) (λ v. eval c.structs c.locals f scope y >>= (λ w. apply_binary c.structs b.Multiply t (type_of y) v w))
          (drops_idle (Word 0) (eval c.structs c.locals f scope y) (λ w. apply_binary c.structs b.Multiply t (type_of y) (Word n) w)
          (eval_idle c f scope ls y idle) (λ w. zero_applied c.structs t (type_of y) w n (zero_is n zero)));
      stands = λ f i2 scope. nothing_asked _ _;
    }

zero_right_refines : (c : Context) (ls : List l.Local) (ty : PlainType) (x : Expr) (t : PlainType) (n : ℕ) → IsTrue (n == 0) → IsTrue (is_idle ls x)
    → IsTrue (is_typed c (Binary ty b.Multiply x (Number t n))) → RefinesIn c (Number ty 0) (Binary ty b.Multiply x (Number t n))
unfolding expr_weight
zero_right_refines c ls ty x t n zero idle p =
    let rule = left_rule c ty b.Multiply x t n p in
    let there = product_integer ty (type_of x) t rule in
    let integer = is_there_integer ty there in
    record {
      typed = zero_number_typed c ty (fit_two (is_fit c.structs ty) (has_rule c (Binary ty b.Multiply x (Number t n))) (is_typed c x) (is_typed c (Number t n)) p) there;
      types = refl;
      named = λ a h. no_true h;
      weight = omega arith;
      places = λ h. no_true h;
      memory = λ h. no_true h;
      constants = λ m e.
          let parts = both_there (binary_value b.Multiply (integer_of (type_of x)) (integer_of t)) (constant x) (constant (Number t n)) m e in
          let literal = sym (zero_is n zero) ∙ (literal_there (is_integer t) n parts.1 parts.3).1 in
          number_constant ty m integer (product_of (integer_of (type_of x)) (integer_of t) parts.0 m
          (subst (λ v. binary_value b.Multiply (integer_of (type_of x)) (integer_of t) parts.0 v ≡ Some m) (sym literal) parts.4));
      built = λ h. integer;
      value = λ f i2 scope.
          drops_idle (Word 0) (eval c.structs c.locals f scope x) (λ v. pure (Word n) >>= (λ w. apply_binary c.structs b.Multiply (type_of x) t v w))
          (eval_idle c f scope ls x idle)
          (λ v. under_pure (Word n) (λ w. apply_binary c.structs b.Multiply (type_of x) t v w) (apply_zero c.structs (type_of x) t v n (zero_is n zero)));
      stands = λ f i2 scope. nothing_asked _ _;
    }

-- ---- operators between two values, by the first row that holds

passed : (x : Expr) (test : ℕ → Bool) → IsTrue (is_literal_with test x) → (t : PlainType) × (n : ℕ) × (x ≡ Number t n) × IsTrue (test n)
passed (Number t n) test h = (t, n, refl, h)
passed x test h = no_true h

module _ (c : Context) (ls : List l.Local) (ty : PlainType) (x y : Expr) where
  zero_rows : (op : BinaryOp) → IsTrue (is_zero_product ls op x y) → IsTrue (is_typed c (Binary ty op x y)) → RefinesIn c (Number ty 0) (Binary ty op x y)
  zero_rows b.Multiply h p = by (either (is_literal_with (λ n. n == 0) y && is_idle ls x) (is_literal_with (λ n. n == 0) x && is_idle ls y) h)
    where
      by : IsTrue (is_literal_with (λ n. n == 0) y && is_idle ls x) ⊎ IsTrue (is_literal_with (λ n. n == 0) x && is_idle ls y) → RefinesIn c (Number ty 0) (Binary ty b.Multiply x y)
      by (inl k) =
          let lit = passed y (λ n. n == 0) (front (is_literal_with (λ n. n == 0) y) (is_idle ls x) k) in
          subst (λ v. IsTrue (is_typed c (Binary ty b.Multiply x v)) → RefinesIn c (Number ty 0) (Binary ty b.Multiply x v)) (sym lit.2)
          (zero_right_refines c ls ty x lit.0 lit.1 lit.3 (back (is_literal_with (λ n. n == 0) y) (is_idle ls x) k)) p
      by (inr k) =
          let lit = passed x (λ n. n == 0) (front (is_literal_with (λ n. n == 0) x) (is_idle ls y) k) in
          subst (λ v. IsTrue (is_typed c (Binary ty b.Multiply v y)) → RefinesIn c (Number ty 0) (Binary ty b.Multiply v y)) (sym lit.2)
          (zero_left_refines c ls ty lit.0 lit.1 y lit.3 (back (is_literal_with (λ n. n == 0) x) (is_idle ls y) k)) p
  zero_rows op h p = no_true h

  binary_rows : (op : BinaryOp) → IsTrue (is_typed c (Binary ty op x y)) → RefinesIn c (simplified_binary ls ty op x y) (Binary ty op x y)
  binary_rows op p = first (is_literal_with (keeps_left op) y) refl
    where
      third : (r : Bool) → is_zero_product ls op x y ≡ r → RefinesIn c (if r then Number ty 0 else Binary ty op x y) (Binary ty op x y)
      third true e = zero_rows op e p
      third false e = expr_itself (Binary ty op x y) c p

      second : (r : Bool) → is_literal_with (keeps_right op) x ≡ r
          → RefinesIn c (if r then y else if is_zero_product ls op x y then Number ty 0 else Binary ty op x y) (Binary ty op x y)
      second true e =
          let lit = passed x (keeps_right op) e in
          subst (λ v. IsTrue (is_typed c (Binary ty op v y)) → RefinesIn c y (Binary ty op v y)) (sym lit.2) (right_refines c ty op lit.0 lit.1 y lit.3) p
      second false e = third (is_zero_product ls op x y) refl

      first : (r : Bool) → is_literal_with (keeps_left op) y ≡ r
          → RefinesIn c (if r then x else if is_literal_with (keeps_right op) x then y else if is_zero_product ls op x y then Number ty 0 else Binary ty op x y) (Binary ty op x y)
      first true e =
          let lit = passed y (keeps_left op) e in
          subst (λ v. IsTrue (is_typed c (Binary ty op x v)) → RefinesIn c x (Binary ty op x v)) (sym lit.2) (left_refines c ty op x lit.0 lit.1 lit.3) p
      first false e = second (is_literal_with (keeps_right op) x) refl

-- ---- conversions

sized : (n : ℕ) (s : Bool) (t : IntegerType) → integer_type n s ≡ Some t → Int n s ≡ Int (bytes t) (is_signed t)
sized n true t e = first (n == 1) refl e
  where
    fourth : (r : Bool) → (n == 8) ≡ r → (if r then Some i.Long else None) ≡ Some t → Int n true ≡ Int (bytes t) (is_signed t)
    fourth true k e = ap (λ m. Int m true) (eqb-true n 8 k) ∙ ap (λ u. Int (bytes u) (is_signed u)) (some_is e)
    fourth false k e = absurd (none-some t e)

    third : (r : Bool) → (n == 4) ≡ r → (if r then Some i.Int else if n == 8 then Some i.Long else None) ≡ Some t → Int n true ≡ Int (bytes t) (is_signed t)
    third true k e = ap (λ m. Int m true) (eqb-true n 4 k) ∙ ap (λ u. Int (bytes u) (is_signed u)) (some_is e)
    third false k e = fourth (n == 8) refl e

    second : (r : Bool) → (n == 2) ≡ r → (if r then Some i.Short else if n == 4 then Some i.Int else if n == 8 then Some i.Long else None) ≡ Some t → Int n true ≡ Int (bytes t) (is_signed t)
    second true k e = ap (λ m. Int m true) (eqb-true n 2 k) ∙ ap (λ u. Int (bytes u) (is_signed u)) (some_is e)
    second false k e = third (n == 4) refl e

    first : (r : Bool) → (n == 1) ≡ r → (if r then Some i.Char else if n == 2 then Some i.Short else if n == 4 then Some i.Int else if n == 8 then Some i.Long else None) ≡ Some t → Int n true ≡ Int (bytes t) (is_signed t)
    first true k e = ap (λ m. Int m true) (eqb-true n 1 k) ∙ ap (λ u. Int (bytes u) (is_signed u)) (some_is e)
    first false k e = second (n == 2) refl e
sized n false t e = first (n == 1) refl e
  where
    fourth : (r : Bool) → (n == 8) ≡ r → (if r then Some i.UnsignedLong else None) ≡ Some t → Int n false ≡ Int (bytes t) (is_signed t)
    fourth true k e = ap (λ m. Int m false) (eqb-true n 8 k) ∙ ap (λ u. Int (bytes u) (is_signed u)) (some_is e)
    fourth false k e = absurd (none-some t e)

    third : (r : Bool) → (n == 4) ≡ r → (if r then Some i.UnsignedInt else if n == 8 then Some i.UnsignedLong else None) ≡ Some t → Int n false ≡ Int (bytes t) (is_signed t)
    third true k e = ap (λ m. Int m false) (eqb-true n 4 k) ∙ ap (λ u. Int (bytes u) (is_signed u)) (some_is e)
    third false k e = fourth (n == 8) refl e

    second : (r : Bool) → (n == 2) ≡ r → (if r then Some i.UnsignedShort else if n == 4 then Some i.UnsignedInt else if n == 8 then Some i.UnsignedLong else None) ≡ Some t → Int n false ≡ Int (bytes t) (is_signed t)
    second true k e = ap (λ m. Int m false) (eqb-true n 2 k) ∙ ap (λ u. Int (bytes u) (is_signed u)) (some_is e)
    second false k e = third (n == 4) refl e

    first : (r : Bool) → (n == 1) ≡ r → (if r then Some i.UnsignedChar else if n == 2 then Some i.UnsignedShort else if n == 4 then Some i.UnsignedInt else if n == 8 then Some i.UnsignedLong else None) ≡ Some t → Int n false ≡ Int (bytes t) (is_signed t)
    first true k e = ap (λ m. Int m false) (eqb-true n 1 k) ∙ ap (λ u. Int (bytes u) (is_signed u)) (some_is e)
    first false k e = second (n == 2) refl e

pub plain_type : (ty : PlainType) (t : IntegerType) → integer_of ty ≡ Some t → ty ≡ Int (bytes t) (is_signed t)
plain_type (Int n s) t e = sized n s t e
plain_type Void t e = absurd (none-some t e)
plain_type (Pointer u) t e = absurd (none-some t e)
plain_type (Array u n) t e = absurd (none-some t e)
plain_type (Struct n) t e = absurd (none-some t e)

wider : (t u : IntegerType) (z : ℤ) → IsTrue (holds_all (Int (bytes t) (is_signed t)) (Int (bytes u) (is_signed u))) → fits t z ≡ true → fits u z ≡ true
wider i.Char i.Char z h e = e
wider i.Char i.UnsignedChar z h e = no_true h
wider i.Char i.Short z h e = fits-wider i.Char i.Short z e (λ l. omega (arith, ints)) (λ l. omega (arith, ints))
wider i.Char i.UnsignedShort z h e = no_true h
wider i.Char i.Int z h e = fits-wider i.Char i.Int z e (λ l. omega (arith, ints)) (λ l. omega (arith, ints))
wider i.Char i.UnsignedInt z h e = no_true h
wider i.Char i.Long z h e = fits-wider i.Char i.Long z e (λ l. omega (arith, ints)) (λ l. omega (arith, ints))
wider i.Char i.UnsignedLong z h e = no_true h
wider i.UnsignedChar i.Char z h e = no_true h
wider i.UnsignedChar i.UnsignedChar z h e = e
wider i.UnsignedChar i.Short z h e = fits-wider i.UnsignedChar i.Short z e (λ l. omega (arith, ints)) (λ l. omega (arith, ints))
wider i.UnsignedChar i.UnsignedShort z h e = fits-wider i.UnsignedChar i.UnsignedShort z e (λ l. omega (arith, ints)) (λ l. omega (arith, ints))
wider i.UnsignedChar i.Int z h e = fits-wider i.UnsignedChar i.Int z e (λ l. omega (arith, ints)) (λ l. omega (arith, ints))
wider i.UnsignedChar i.UnsignedInt z h e = fits-wider i.UnsignedChar i.UnsignedInt z e (λ l. omega (arith, ints)) (λ l. omega (arith, ints))
wider i.UnsignedChar i.Long z h e = fits-wider i.UnsignedChar i.Long z e (λ l. omega (arith, ints)) (λ l. omega (arith, ints))
wider i.UnsignedChar i.UnsignedLong z h e = fits-wider i.UnsignedChar i.UnsignedLong z e (λ l. omega (arith, ints)) (λ l. omega (arith, ints))
wider i.Short i.Char z h e = no_true h
wider i.Short i.UnsignedChar z h e = no_true h
wider i.Short i.Short z h e = e
wider i.Short i.UnsignedShort z h e = no_true h
wider i.Short i.Int z h e = fits-wider i.Short i.Int z e (λ l. omega (arith, ints)) (λ l. omega (arith, ints))
wider i.Short i.UnsignedInt z h e = no_true h
wider i.Short i.Long z h e = fits-wider i.Short i.Long z e (λ l. omega (arith, ints)) (λ l. omega (arith, ints))
wider i.Short i.UnsignedLong z h e = no_true h
wider i.UnsignedShort i.Char z h e = no_true h
wider i.UnsignedShort i.UnsignedChar z h e = no_true h
wider i.UnsignedShort i.Short z h e = no_true h
wider i.UnsignedShort i.UnsignedShort z h e = e
wider i.UnsignedShort i.Int z h e = fits-wider i.UnsignedShort i.Int z e (λ l. omega (arith, ints)) (λ l. omega (arith, ints))
wider i.UnsignedShort i.UnsignedInt z h e = fits-wider i.UnsignedShort i.UnsignedInt z e (λ l. omega (arith, ints)) (λ l. omega (arith, ints))
wider i.UnsignedShort i.Long z h e = fits-wider i.UnsignedShort i.Long z e (λ l. omega (arith, ints)) (λ l. omega (arith, ints))
wider i.UnsignedShort i.UnsignedLong z h e = fits-wider i.UnsignedShort i.UnsignedLong z e (λ l. omega (arith, ints)) (λ l. omega (arith, ints))
wider i.Int i.Char z h e = no_true h
wider i.Int i.UnsignedChar z h e = no_true h
wider i.Int i.Short z h e = no_true h
wider i.Int i.UnsignedShort z h e = no_true h
wider i.Int i.Int z h e = e
wider i.Int i.UnsignedInt z h e = no_true h
wider i.Int i.Long z h e = fits-wider i.Int i.Long z e (λ l. omega (arith, ints)) (λ l. omega (arith, ints))
wider i.Int i.UnsignedLong z h e = no_true h
wider i.UnsignedInt i.Char z h e = no_true h
wider i.UnsignedInt i.UnsignedChar z h e = no_true h
wider i.UnsignedInt i.Short z h e = no_true h
wider i.UnsignedInt i.UnsignedShort z h e = no_true h
wider i.UnsignedInt i.Int z h e = no_true h
wider i.UnsignedInt i.UnsignedInt z h e = e
wider i.UnsignedInt i.Long z h e = fits-wider i.UnsignedInt i.Long z e (λ l. omega (arith, ints)) (λ l. omega (arith, ints))
wider i.UnsignedInt i.UnsignedLong z h e = fits-wider i.UnsignedInt i.UnsignedLong z e (λ l. omega (arith, ints)) (λ l. omega (arith, ints))
wider i.Long i.Char z h e = no_true h
wider i.Long i.UnsignedChar z h e = no_true h
wider i.Long i.Short z h e = no_true h
wider i.Long i.UnsignedShort z h e = no_true h
wider i.Long i.Int z h e = no_true h
wider i.Long i.UnsignedInt z h e = no_true h
wider i.Long i.Long z h e = e
wider i.Long i.UnsignedLong z h e = no_true h
wider i.UnsignedLong i.Char z h e = no_true h
wider i.UnsignedLong i.UnsignedChar z h e = no_true h
wider i.UnsignedLong i.Short z h e = no_true h
wider i.UnsignedLong i.UnsignedShort z h e = no_true h
wider i.UnsignedLong i.Int z h e = no_true h
wider i.UnsignedLong i.UnsignedInt z h e = no_true h
wider i.UnsignedLong i.Long z h e = no_true h
wider i.UnsignedLong i.UnsignedLong z h e = e

-- of two conversions the first may be left out
first_left_out : (from middle to : PlainType) (s u t : IntegerType) → integer_of from ≡ Some s → integer_of middle ≡ Some u → integer_of to ≡ Some t
    → IsTrue (nat_le (integer_bytes to) (integer_bytes middle) || holds_all from middle) → (n : ℕ) → conversion u t (conversion s u n) ≡ conversion s t n
first_left_out from middle to s u t e g k h n = by (either (nat_le (integer_bytes to) (integer_bytes middle)) (holds_all from middle) h)
  where
    by : IsTrue (nat_le (integer_bytes to) (integer_bytes middle)) ⊎ IsTrue (holds_all from middle) → conversion u t (conversion s u n) ≡ conversion s t n
    by (inl le) =
        conversion-through_wide s u t n
        (leb-true (bytes t) (bytes u) (sym (ap (λ v. nat_le (integer_bytes v) (integer_bytes middle)) (plain_type to t k) ∙ ap (λ v. nat_le (bytes t) (integer_bytes v)) (plain_type middle u g)) ∙ le))
    by (inr all) =
        conversion-through_all s u t n
        (wider s u (value s n) (sym (ap (λ v. holds_all v middle) (plain_type from s e) ∙ ap (holds_all (Int (bytes s) (is_signed s))) (plain_type middle u g)) ∙ all) (fits-value s n))

-- what two conversions make of a value is what the second makes of it
twice_converted : (s u t : IntegerType) → ((n : ℕ) → conversion u t (conversion s u n) ≡ conversion s t n) → (r : Evaluation Value CallState)
    → and_then r (convert_word s t) ≡ and_then (and_then r (convert_word s u)) (convert_word u t)
unfolding ◌>>=◌ pure undefined_behaviour
twice_converted s u t h (Gives (Word n) w) = ap (λ k. Gives (Word k) w) (sym (h n))
twice_converted s u t h (Gives (Address p) w) = refl
twice_converted s u t h (Gives Unset w) = refl
twice_converted s u t h (Ends e) = refl

-- a conversion between integer types, whatever the place
integer_conversion : (from to : PlainType) (s t : IntegerType) → integer_of from ≡ Some s → integer_of to ≡ Some t → (m : Run Value) (p : Run ValuePlace)
    → converted_from from to m p ≡ (m >>= convert_word s t)
integer_conversion (Int n g) (Int j h) s t e k m p =
    ap (λ v. m >>= convert_word v (integer_or_word (Int j h))) (or_word (Int n g) s e) ∙ ap (λ v. m >>= convert_word s v) (or_word (Int j h) t k)
integer_conversion (Int n g) Void s t e k m p = absurd (none-some t k)
integer_conversion (Int n g) (Pointer u) s t e k m p = absurd (none-some t k)
integer_conversion (Int n g) (Array u j) s t e k m p = absurd (none-some t k)
integer_conversion (Int n g) (Struct j) s t e k m p = absurd (none-some t k)
integer_conversion Void to s t e k m p = absurd (none-some s e)
integer_conversion (Pointer u) to s t e k m p = absurd (none-some s e)
integer_conversion (Array u j) to s t e k m p = absurd (none-some s e)
integer_conversion (Struct j) to s t e k m p = absurd (none-some s e)

twice_run : (m : Run Value) (s u t : IntegerType) → ((n : ℕ) → conversion u t (conversion s u n) ≡ conversion s t n)
    → RunRefines (m >>= convert_word s t) (m >>= convert_word s u >>= convert_word u t)
unfolding ◌>>=◌
twice_run m s u t h = as_it_is (λ w. twice_converted s u t h (m w))

same_word : (t : IntegerType) (v : Value) → ((n : ℕ) → v ≡ Word n → is_word t n ≡ true) → RunRefines (pure v) (convert_word t t v)
unfolding ◌>>=◌ pure undefined_behaviour
same_word t (Word n) h = as_it_is (λ s. ap (λ k. Gives (Word k) s) (sym (conversion-same t n ∙ held_is t n (h n refl))))
same_word t (Address p) h = record { by = λ s. tt }
same_word t Unset h = record { by = λ s. tt }

held_at : (ty : PlainType) (t : IntegerType) (v : Value) → integer_of ty ≡ Some t → IsHeld ty v → (n : ℕ) → v ≡ Word n → is_word t n ≡ true
held_at ty t v e h n is = let word : IsHeld ty (Word n) = subst (IsHeld ty) is h in word t e

-- a conversion to the type that the operand has
same_refines : (c : Context) (ty : PlainType) (x : Expr) → IsTrue (is_integer ty) → IsTrue (is_same_type (type_of x) ty) → IsTrue (is_typed c (Convert ty x))
    → RefinesIn c x (Convert ty x)
unfolding expr_weight
same_refines c ty x integer alike p =
    let there = integer_there ty integer in
    let equal = same (type_of x) ty alike in
    let from = ap integer_of equal ∙ there.is in
    let typed = one_typed (is_fit c.structs ty) (has_rule c (Convert ty x)) (is_typed c x) p in
    record {
      typed = typed;
      types = equal;
      named = λ a h. h;
      weight = omega arith;
      places = λ h. no_true h;
      memory = λ h. no_true h;
      constants = λ m e.
          let parts = then_there (converted_value (integer_of (type_of x)) (integer_of ty)) (constant x) m e in
          let word = word_at (type_of x) parts.0 (constant_word c x parts.0 typed parts.1) there.of from in
          let value = sym (ap (λ v. converted_value v (integer_of ty) parts.0) from ∙ ap (λ v. converted_value (Some there.of) v parts.0) there.is) ∙ parts.2 in
          parts.1 ∙ ap Some (sym (conversion-same there.of parts.0 ∙ held_is there.of parts.0 word) ∙ some_is value);
      built = λ h. back (is_integer ty) (is_built x) h;
      value = λ f i2 scope.
          subst (RunRefines (eval c.structs c.locals f scope x))
          (sym (integer_conversion (type_of x) ty there.of there.of from there.is (eval c.structs c.locals f scope x) (place c.structs c.locals f scope x)))
          (leaves_values (eval c.structs c.locals f scope x) (convert_word there.of there.of) (eval_held c f scope x typed)
          (λ v h. same_word there.of v (held_at (type_of x) there.of v from h)));
      stands = λ f i2 scope. nothing_asked _ _;
    }

-- two conversions in a row
twice_refines : (c : Context) (ty middle : PlainType) (x : Expr) → IsTrue (leaves_out (type_of x) middle ty) → IsTrue (is_typed c (Convert ty (Convert middle x)))
    → RefinesIn c (Convert ty x) (Convert ty (Convert middle x))
unfolding expr_weight
twice_refines c ty middle x out p =
    let integers_are = front (is_integer (type_of x) && is_integer middle && is_integer ty) (nat_le (integer_bytes ty) (integer_bytes middle) || holds_all (type_of x) middle) out in
    let two = front (is_integer (type_of x) && is_integer middle) (is_integer ty) integers_are in
    let s = integer_there (type_of x) (front (is_integer (type_of x)) (is_integer middle) two) in
    let u = integer_there middle (back (is_integer (type_of x)) (is_integer middle) two) in
    let t = integer_there ty (back (is_integer (type_of x) && is_integer middle) (is_integer ty) integers_are) in
    let words = first_left_out (type_of x) middle ty s.of u.of t.of s.is u.is t.is
    (back (is_integer (type_of x) && is_integer middle && is_integer ty) (nat_le (integer_bytes ty) (integer_bytes middle) || holds_all (type_of x) middle) out) in
    let whole = has_rule c (Convert ty (Convert middle x)) in
    let part = one_typed (is_fit c.structs ty) whole (is_typed c (Convert middle x)) p in
    let typed = one_typed (is_fit c.structs middle) (has_rule c (Convert middle x)) (is_typed c x) part in
    let rule : IsTrue (is_conversion ty (type_of x) (is_null_constant x) (is_place x)) =
    left_of (is_integer ty && is_integer (type_of x) || decays (type_of x) ty && is_place x || is_pointer ty && is_integer (type_of x) && is_null_constant x)
    (is_pointer ty && is_pointer (type_of x) && (is_same_type ty (type_of x) || is_pointer_to_void ty || is_pointer_to_void (type_of x)))
    (left_of (is_integer ty && is_integer (type_of x) || decays (type_of x) ty && is_place x) (is_pointer ty && is_integer (type_of x) && is_null_constant x)
    (left_of (is_integer ty && is_integer (type_of x)) (decays (type_of x) ty && is_place x)
    (also (is_integer ty) (is_integer (type_of x)) (is_there_integer ty t) (is_there_integer (type_of x) s)))) in
    record {
      typed = three (is_fit c.structs ty) (has_rule c (Convert ty x)) (is_typed c x) (fit_one (is_fit c.structs ty) whole (is_typed c (Convert middle x)) p) rule typed;
      types = refl;
      named = λ a h. h;
      weight = omega arith;
      places = λ h. no_true h;
      memory = λ h. no_true h;
      constants = λ m e.
          let outer = then_there (converted_value (integer_of middle) (integer_of ty)) (constant (Convert middle x)) m e in
          let inner = then_there (converted_value (integer_of (type_of x)) (integer_of middle)) (constant x) outer.0 outer.1 in
          let first = some_is (sym (ap (λ v. converted_value v (integer_of middle) inner.0) s.is ∙ ap (λ v. converted_value (Some s.of) v inner.0) u.is) ∙ inner.2) in
          let second = some_is (sym (ap (λ v. converted_value v (integer_of ty) outer.0) u.is ∙ ap (λ v. converted_value (Some u.of) v outer.0) t.is) ∙ outer.2) in
          ap (option_and_then (converted_value (integer_of (type_of x)) (integer_of ty))) inner.1
          ∙ ap (λ v. converted_value v (integer_of ty) inner.0) s.is ∙ ap (λ v. converted_value (Some s.of) v inner.0) t.is
          ∙ ap Some (sym (words inner.0) ∙ ap (conversion u.of t.of) first ∙ second);
      built = λ h.
          let outer = back (is_integer ty) (is_built (Convert middle x)) h in
          also (is_integer ty) (is_built x) (front (is_integer ty) (is_built (Convert middle x)) h) (back (is_integer middle) (is_built x) outer);
      value = λ f i2 scope.
          subst (λ m. RunRefines m (eval c.structs c.locals f scope (Convert ty (Convert middle x))))
          (sym (integer_conversion (type_of x) ty s.of t.of s.is t.is (eval c.structs c.locals f scope x) (place c.structs c.locals f scope x)))
          (subst (RunRefines (eval c.structs c.locals f scope x >>= convert_word s.of t.of))
          (sym (integer_conversion middle ty u.of t.of u.is t.is (eval c.structs c.locals f scope (Convert middle x)) (place c.structs c.locals f scope (Convert middle x))
          ∙ ap (λ m. m >>= convert_word u.of t.of) (integer_conversion (type_of x) middle s.of u.of s.is u.is (eval c.structs c.locals f scope x) (place c.structs c.locals f scope x))))
          (twice_run (eval c.structs c.locals f scope x) s.of u.of t.of words));
      stands = λ f i2 scope. nothing_asked _ _;
    }

twice_rows : (c : Context) (ty : PlainType) (x : Expr) → IsTrue (is_typed c (Convert ty x)) → RefinesIn c (simplified_twice ty x) (Convert ty x)
twice_rows c ty (Convert middle x) p = by (leaves_out (type_of x) middle ty) refl
  where
    by : (r : Bool) → leaves_out (type_of x) middle ty ≡ r → RefinesIn c (if r then Convert ty x else Convert ty (Convert middle x)) (Convert ty (Convert middle x))
    by true e = twice_refines c ty middle x e p
    by false e = expr_itself (Convert ty (Convert middle x)) c p
twice_rows c ty x p = expr_itself (Convert ty x) c p

conversion_rows : (c : Context) (ty : PlainType) (x : Expr) → IsTrue (is_typed c (Convert ty x)) → RefinesIn c (simplified_conversion ty x) (Convert ty x)
conversion_rows c ty x p = by (is_integer ty && is_same_type (type_of x) ty) refl
  where
    by : (r : Bool) → (is_integer ty && is_same_type (type_of x) ty) ≡ r → RefinesIn c (if r then x else simplified_twice ty x) (Convert ty x)
    by true e = same_refines c ty x (front (is_integer ty) (is_same_type (type_of x) ty) e) (back (is_integer ty) (is_same_type (type_of x) ty) e) p
    by false e = twice_rows c ty x p

pub simplified_refines : (ls : List l.Local) (x : Expr) → ExprRefines (simplified ls x) x
simplified_refines ls (Binary ty op x y) c p = binary_rows c ls ty x y op p
simplified_refines ls (Convert ty x) c p = conversion_rows c ty x p
simplified_refines ls x c p = expr_itself x c p
