-- The value of a well typed integer constant is a word of its type.
use Rattle.std.proofs.Common.{◌≡◌, ◌⊎◌, ℕ, Bool, true, false, not, ◌&&◌, ◌||◌, ◌==◌, IsTrue, List, Option, Some, None, refl, sym, ap, ◌∙◌, subst, inl, inr, option_map, if◌then◌else◌}
use Rattle.std.proofs.lemmas.Option.{none-some}
use Rattle.bk_arithmetic.specs.declared.integer_type.IntegerType.{IntegerType}
use Rattle.bk_arithmetic.specs.declared.integer_type.IntegerType.TheVariants as i
use Rattle.bk_arithmetic.specs.declared.outcome.ArithmeticOutcome.{ArithmeticOutcome}
use Rattle.bk_arithmetic.specs.declared.outcome.ArithmeticOutcome.TheVariants as o
use Rattle.bk_arithmetic.specs.Words.{is_word}
use Rattle.bk_arithmetic.specs.Operations.{truth}
use Rattle.bk_arithmetic.specs.Outcomes.{IsWordOf}
use Rattle.bk_arithmetic.proofs.Results.{is_word-extension, sum-word, difference-word, product-word, negation-word, quotient-word, remainder-word, left_shift-word, right_shift-word}
use Rattle.c_tree.specs.declared.expressions.UnaryOp.{UnaryOp}
use Rattle.c_tree.specs.declared.expressions.UnaryOp.TheVariants as u
use Rattle.c_tree.specs.declared.expressions.BinaryOp.{BinaryOp}
use Rattle.c_tree.specs.declared.expressions.BinaryOp.TheVariants as b
use Rattle.c_typed_tree.specs.declared.types.StructDef.{StructDef}
use Rattle.c_typed_tree.specs.Types.{PlainType, Int, Pointer}
use Rattle.c_typed_tree.specs.Expressions.{Expr, Number, Local, Global, Call, Unary, Binary, Assign, Conditional, Cast, Convert, Index, Field, Arrow, Postfix, Comma, Exprs, no_exprs, more_exprs, type_of}
use Rattle.c_typed_tree.specs.Layout.{integer_of}
use Rattle.c_typed_tree.specs.Constants.{is_integer, is_built, word_of, integers_with, unary_value, binary_value, converted_value, and_value, or_value, choice_value, both_values, value_with, constant, last_value}
use Rattle.c_typed_tree.specs.Typing.{Context, int, long, is_scalar, is_promoted, is_same_type, is_pointer, is_void, is_struct, is_array, is_fit, points_to_object, has_unary_type, has_binary_type, has_promoted_type, is_arithmetic, is_sum, is_difference, is_shift, is_comparison, has_last_type, are_operands, is_number_of, has_rule, is_typed, are_typed}
use Rattle.c_semantics.proofs.Facts.{no_true, front, back}
use Rattle.c_rewrite_rules.specs.model.Truths.{either, same, is_there_integer, then_there, both_there, rule_alone, rule_one, one_typed, rule_two, rule_three, holds_typed, fails_typed}

-- a number is a word of an integer type
pub record IsIntegerWord (ty : PlainType) (n : ℕ) : Type 0 where
  pub of : IntegerType
  pub is : integer_of ty ≡ Some of
  pub word : is_word of n ≡ true

-- along equal types
pub onto_type : (x y : PlainType) (n : ℕ) → x ≡ y → IsIntegerWord x n → IsIntegerWord y n
onto_type x y n e h = subst (λ t. IsIntegerWord t n) e h

-- ---- results

truth_word : (t : Bool) → is_word i.Int (truth t) ≡ true
truth_word true = refl
truth_word false = refl

pub truth_is : (ty : PlainType) (t : Bool) → IsTrue (is_same_type ty int) → IsIntegerWord ty (truth t)
truth_is ty t h = onto_type int ty (truth t) (sym (same ty int h)) (record { of = i.Int; is = refl; word = truth_word t })

in_type : (t : IntegerType) (o : ArithmeticOutcome) (n : ℕ) → IsWordOf t o → word_of o ≡ Some n → is_word t n ≡ true
in_type t (o.Word m) n w e = subst (λ k. is_word t k ≡ true) (some_same e) w
  where
    some_same : {x y : ℕ} → Some x ≡ Some y → x ≡ y
    some_same e = cc
in_type t (o.Trap code) n w e = absurd (none-some n e)
in_type t o.Undefined n w e = absurd (none-some n e)

pub some_is : {A : Type 0} {x y : A} → Some x ≡ Some y → x ≡ y
some_is e = cc

-- arithmetic in the type of the left operand
pub data IsArithmetic : BinaryOp → Type 0 where
  or : IsArithmetic b.Or
  xor : IsArithmetic b.Xor
  and : IsArithmetic b.And
  shift_left : IsArithmetic b.ShiftLeft
  shift_right : IsArithmetic b.ShiftRight
  add : IsArithmetic b.Add
  subtract : IsArithmetic b.Subtract
  multiply : IsArithmetic b.Multiply
  divide : IsArithmetic b.Divide
  remainder : IsArithmetic b.Remainder

pub left_word : (op : BinaryOp) → IsArithmetic op → (t c : IntegerType) (x y : ℕ) → IsWordOf t (integers_with op t c x y)
left_word op or t c x y = is_word-extension t _
left_word op xor t c x y = is_word-extension t _
left_word op and t c x y = is_word-extension t _
left_word op shift_left t c x y = left_shift-word t c x y
left_word op shift_right t c x y = right_shift-word t c x y
left_word op add t c x y = sum-word t x y
left_word op subtract t c x y = difference-word t x y
left_word op multiply t c x y = product-word t x y
left_word op divide t c x y = quotient-word t x y
left_word op remainder t c x y = remainder-word t x y

of_types : (op : BinaryOp) → IsArithmetic op → (l r : Option IntegerType) (x y n : ℕ) → binary_value op l r x y ≡ Some n
    → (t : IntegerType) × (l ≡ Some t) × (is_word t n ≡ true)
of_types op a None r x y n e = absurd (none-some n e)
of_types op a (Some t) None x y n e = absurd (none-some n e)
of_types op a (Some t) (Some c) x y n e = (t, refl, in_type t (integers_with op t c x y) n (left_word op a t c x y) e)

left_is : (op : BinaryOp) → IsArithmetic op → (left right : PlainType) (x y n : ℕ) → binary_value op (integer_of left) (integer_of right) x y ≡ Some n
    → IsIntegerWord left n
left_is op a left right x y n e =
    let h = of_types op a (integer_of left) (integer_of right) x y n e in record { of = h.0; is = h.1; word = h.2 }

-- a comparison
pub data IsTest : BinaryOp → Type 0 where
  equal : IsTest b.Equal
  not_equal : IsTest b.NotEqual
  less : IsTest b.Less
  greater : IsTest b.Greater
  less_equal : IsTest b.LessEqual
  greater_equal : IsTest b.GreaterEqual

test_word : (op : BinaryOp) → IsTest op → (l r : Option IntegerType) (x y n : ℕ) → binary_value op l r x y ≡ Some n → (t : Bool) × (n ≡ truth t)
test_word op k None r x y n e = absurd (none-some n e)
test_word op k (Some t) None x y n e = absurd (none-some n e)
test_word op equal (Some t) (Some c) x y n e = (_, sym (some_is e))
test_word op not_equal (Some t) (Some c) x y n e = (_, sym (some_is e))
test_word op less (Some t) (Some c) x y n e = (_, sym (some_is e))
test_word op greater (Some t) (Some c) x y n e = (_, sym (some_is e))
test_word op less_equal (Some t) (Some c) x y n e = (_, sym (some_is e))
test_word op greater_equal (Some t) (Some c) x y n e = (_, sym (some_is e))

test_is : (op : BinaryOp) → IsTest op → (ty : PlainType) (l r : Option IntegerType) (x y n : ℕ) → binary_value op l r x y ≡ Some n → IsTrue (is_same_type ty int) → IsIntegerWord ty n
test_is op k ty l r x y n e h =
    let w = test_word op k l r x y n e in subst (IsIntegerWord ty) (sym w.1) (truth_is ty w.0 h)

and_is : (ty : PlainType) (p q : Option ℕ) (built : Bool) (n : ℕ) → IsTrue (is_same_type ty int) → and_value p built q ≡ Some n → IsIntegerWord ty n
and_is ty None q built n h e = absurd (none-some n e)
and_is ty (Some x) q false n h e = absurd (none-some n e)
and_is ty (Some x) q true n h e = by (x == 0) q e
  where
    by : (t : Bool) (q : Option ℕ) → (if t then Some 0 else option_map (λ n. truth (not (n == 0))) q) ≡ Some n → IsIntegerWord ty n
    by true q e = subst (IsIntegerWord ty) (some_is e) (truth_is ty false h)
    by false None e = absurd (none-some n e)
    by false (Some y) e = subst (IsIntegerWord ty) (some_is e) (truth_is ty (not (y == 0)) h)

or_is : (ty : PlainType) (p q : Option ℕ) (built : Bool) (n : ℕ) → IsTrue (is_same_type ty int) → or_value p built q ≡ Some n → IsIntegerWord ty n
or_is ty None q built n h e = absurd (none-some n e)
or_is ty (Some x) q false n h e = absurd (none-some n e)
or_is ty (Some x) q true n h e = by (x == 0) q e
  where
    by : (t : Bool) (q : Option ℕ) → (if t then option_map (λ n. truth (not (n == 0))) q else Some 1) ≡ Some n → IsIntegerWord ty n
    by false q e = subst (IsIntegerWord ty) (some_is e) (truth_is ty true h)
    by true None e = absurd (none-some n e)
    by true (Some y) e = subst (IsIntegerWord ty) (some_is e) (truth_is ty (not (y == 0)) h)

pub converted_is : (from to : PlainType) (x n : ℕ) → converted_value (integer_of from) (integer_of to) x ≡ Some n → IsIntegerWord to n
converted_is from to x n e = by (integer_of from) (integer_of to) refl e
  where
    by : (s t : Option IntegerType) → integer_of to ≡ t → converted_value s t x ≡ Some n → IsIntegerWord to n
    by None t is e = absurd (none-some n e)
    by (Some s) None is e = absurd (none-some n e)
    by (Some s) (Some t) is e = record { of = t; is = is; word = subst (λ k. is_word t k ≡ true) (some_is e) (is_word-extension t _) }

negated : (o : Option IntegerType) (x n : ℕ) → unary_value u.Minus o x ≡ Some n → (t : IntegerType) × (o ≡ Some t) × (is_word t n ≡ true)
negated None x n e = absurd (none-some n e)
negated (Some t) x n e = (t, refl, in_type t _ n (negation-word t x) e)

inverted : (o : Option IntegerType) (x n : ℕ) → unary_value u.Invert o x ≡ Some n → (t : IntegerType) × (o ≡ Some t) × (is_word t n ≡ true)
inverted None x n e = absurd (none-some n e)
inverted (Some t) x n e = (t, refl, subst (λ k. is_word t k ≡ true) (some_is e) (is_word-extension t _))

kept : (o : Option IntegerType) (x n : ℕ) → unary_value u.Plus o x ≡ Some n → x ≡ n
kept None x n e = absurd (none-some n e)
kept (Some t) x n e = some_is e

turned_round : (o : Option IntegerType) (x n : ℕ) → unary_value u.Not o x ≡ Some n → truth (x == 0) ≡ n
turned_round None x n e = absurd (none-some n e)
turned_round (Some t) x n e = some_is e

-- the operators that give no constant
no_value : (op : UnaryOp) (o : Option IntegerType) (x : ℕ) → unary_value op o x ≡ None → (n : ℕ) → unary_value op o x ≡ Some n → ⊥
no_value op o x is n e = none-some n (sym is ∙ e)

never : (o : Option IntegerType) (x : ℕ) → unary_value u.Increment o x ≡ None
never None x = refl
never (Some t) x = refl

never_less : (o : Option IntegerType) (x : ℕ) → unary_value u.Decrement o x ≡ None
never_less None x = refl
never_less (Some t) x = refl

never_placed : (o : Option IntegerType) (x : ℕ) → unary_value u.Address o x ≡ None
never_placed None x = refl
never_placed (Some t) x = refl

never_followed : (o : Option IntegerType) (x : ℕ) → unary_value u.Dereference o x ≡ None
never_followed None x = refl
never_followed (Some t) x = refl

-- a pointer is no integer
no_pointer : {X : Type 0} (ds : List StructDef) (ty : PlainType) (n : ℕ) → IsIntegerWord ty n → IsTrue (points_to_object ds ty) → X
no_pointer ds (Pointer t) n w h = absurd (none-some _ w.is)
no_pointer ds (Int m s) n w h = no_true h
no_pointer ds _ n w h = absurd (none-some _ w.is)

right_there : (op : BinaryOp) (l r : Option IntegerType) (x y n : ℕ) → binary_value op l r x y ≡ Some n → (t : IntegerType) × (r ≡ Some t)
right_there op None r x y n e = absurd (none-some n e)
right_there op (Some t) None x y n e = absurd (none-some n e)
right_there op (Some t) (Some c) x y n e = (c, refl)

pub no_integer_pointer : {X : Type 0} (ds : List StructDef) (ty : PlainType) (t : IntegerType) → integer_of ty ≡ Some t → IsTrue (points_to_object ds ty) → X
no_integer_pointer ds (Pointer u) t e h = absurd (none-some t e)
no_integer_pointer ds (Int m s) t e h = no_true h
no_integer_pointer ds _ t e h = absurd (none-some t e)

chosen_there : (p : Option ℕ) (built : Bool) (q r : Option ℕ) (n : ℕ) → choice_value p built q r ≡ Some n → (q ≡ Some n) ⊎ (r ≡ Some n)
chosen_there None built q r n e = absurd (none-some n e)
chosen_there (Some x) false q r n e = absurd (none-some n e)
chosen_there (Some x) true q r n e = by (x == 0) e
  where
    by : (t : Bool) → (if t then r else q) ≡ Some n → (q ≡ Some n) ⊎ (r ≡ Some n)
    by true e = inr e
    by false e = inl e

number_word : (o : Option IntegerType) (ty : PlainType) (k n : ℕ) → integer_of ty ≡ o → IsTrue (is_number_of o k) → (if is_integer ty then Some k else None) ≡ Some n → IsIntegerWord ty n
number_word None ty k n is h e = no_true h
number_word (Some t) ty k n is h e =
    let test : is_integer ty ≡ true = is_there_integer ty (record { of = t; is = is }) in
    let same : Some k ≡ Some n = sym (ap (λ b. if b then Some k else None) test) ∙ e in
    subst (IsIntegerWord ty) (some_is same) (record { of = t; is = is; word = h })

-- ---- operators, by their rules

module _ (c : Context) (ty : PlainType) (x : Expr) (m n : ℕ) (w : IsIntegerWord (type_of x) m) where
  promoted_is : IsTrue (has_promoted_type ty (type_of x)) → (k : ℕ) → IsIntegerWord (type_of x) k → IsIntegerWord ty k
  promoted_is r k v = onto_type (type_of x) ty k (same (type_of x) ty (back (is_promoted (type_of x)) (is_same_type (type_of x) ty) r)) v

  unary_word : (op : UnaryOp) → IsTrue (has_unary_type c.structs c.locals op ty x) → unary_value op (integer_of (type_of x)) m ≡ Some n → IsIntegerWord ty n
  unary_word u.Plus r e = promoted_is r n (subst (IsIntegerWord (type_of x)) (kept (integer_of (type_of x)) m n e) w)
  unary_word u.Minus r e = let h = negated (integer_of (type_of x)) m n e in promoted_is r n (record { of = h.0; is = h.1; word = h.2 })
  unary_word u.Invert r e = let h = inverted (integer_of (type_of x)) m n e in promoted_is r n (record { of = h.0; is = h.1; word = h.2 })
  unary_word u.Not r e =
      subst (IsIntegerWord ty) (turned_round (integer_of (type_of x)) m n e)
      (truth_is ty (m == 0) (front (is_same_type ty int) (is_scalar (type_of x)) r))
  unary_word u.Increment r e = absurd (no_value u.Increment (integer_of (type_of x)) m (never (integer_of (type_of x)) m) n e)
  unary_word u.Decrement r e = absurd (no_value u.Decrement (integer_of (type_of x)) m (never_less (integer_of (type_of x)) m) n e)
  unary_word u.Address r e = absurd (no_value u.Address (integer_of (type_of x)) m (never_placed (integer_of (type_of x)) m) n e)
  unary_word u.Dereference r e = absurd (no_value u.Dereference (integer_of (type_of x)) m (never_followed (integer_of (type_of x)) m) n e)

module _ (ds : List StructDef) (ty left right : PlainType) (p q : Option ℕ) (built : Bool) (n : ℕ) where
  arithmetic : (op : BinaryOp) → IsArithmetic op → (left ≡ ty) → both_values (binary_value op (integer_of left) (integer_of right)) p q ≡ Some n → IsIntegerWord ty n
  arithmetic op a e h =
      let parts = both_there (binary_value op (integer_of left) (integer_of right)) p q n h in
      onto_type left ty n e (left_is op a left right parts.0 parts.1 n parts.4)

  left_same : IsTrue (is_arithmetic ty left right) → left ≡ ty
  left_same r = same left ty (back (is_promoted left && is_same_type left right) (is_same_type left ty) r)

  shift_same : IsTrue (is_shift ty left right) → left ≡ ty
  shift_same r = same left ty (back (is_promoted left && is_promoted right) (is_same_type left ty) r)

  tested : (op : BinaryOp) → IsTest op → IsTrue (is_comparison ty left right) → both_values (binary_value op (integer_of left) (integer_of right)) p q ≡ Some n → IsIntegerWord ty n
  tested op k r h =
      let parts = both_there (binary_value op (integer_of left) (integer_of right)) p q n h in
      test_is op k ty (integer_of left) (integer_of right) parts.0 parts.1 n parts.4
      (front (is_same_type ty int) (is_same_type left right) (front (is_same_type ty int && is_same_type left right) (is_promoted left || is_pointer left) r))

  summed : IsTrue (is_sum ds ty left right) → both_values (binary_value b.Add (integer_of left) (integer_of right)) p q ≡ Some n → IsIntegerWord ty n
  summed r h =
      let parts = both_there (binary_value b.Add (integer_of left) (integer_of right)) p q n h in
      let right_is = right_there b.Add (integer_of left) (integer_of right) parts.0 parts.1 n parts.4 in
      by right_is (either (is_arithmetic ty left right || points_to_object ds left && is_integer right && is_same_type left ty) (is_integer left && points_to_object ds right && is_same_type right ty) r)
    where
      by : ((t : IntegerType) × (integer_of right ≡ Some t))
          → IsTrue (is_arithmetic ty left right || points_to_object ds left && is_integer right && is_same_type left ty) ⊎ IsTrue (is_integer left && points_to_object ds right && is_same_type right ty)
          → IsIntegerWord ty n
      by right_is (inl s) = inner (either (is_arithmetic ty left right) (points_to_object ds left && is_integer right && is_same_type left ty) s)
        where
          inner : IsTrue (is_arithmetic ty left right) ⊎ IsTrue (points_to_object ds left && is_integer right && is_same_type left ty) → IsIntegerWord ty n
          inner (inl a) = arithmetic b.Add add (left_same a) h
          inner (inr s) = arithmetic b.Add add (same left ty (back (points_to_object ds left && is_integer right) (is_same_type left ty) s)) h
      by right_is (inr s) =
          no_integer_pointer ds right right_is.0 right_is.1
          (back (is_integer left) (points_to_object ds right) (front (is_integer left && points_to_object ds right) (is_same_type right ty) s))

  subtracted : IsTrue (is_difference ds ty left right) → both_values (binary_value b.Subtract (integer_of left) (integer_of right)) p q ≡ Some n → IsIntegerWord ty n
  subtracted r h =
      let parts = both_there (binary_value b.Subtract (integer_of left) (integer_of right)) p q n h in
      let word = left_is b.Subtract subtract left right parts.0 parts.1 n parts.4 in
      by word (either (is_arithmetic ty left right || points_to_object ds left && is_integer right && is_same_type left ty) (points_to_object ds left && is_same_type left right && is_same_type ty long) r)
    where
      by : IsIntegerWord left n
          → IsTrue (is_arithmetic ty left right || points_to_object ds left && is_integer right && is_same_type left ty) ⊎ IsTrue (points_to_object ds left && is_same_type left right && is_same_type ty long)
          → IsIntegerWord ty n
      by word (inl s) = inner (either (is_arithmetic ty left right) (points_to_object ds left && is_integer right && is_same_type left ty) s)
        where
          inner : IsTrue (is_arithmetic ty left right) ⊎ IsTrue (points_to_object ds left && is_integer right && is_same_type left ty) → IsIntegerWord ty n
          inner (inl a) = arithmetic b.Subtract subtract (left_same a) h
          inner (inr s) = arithmetic b.Subtract subtract (same left ty (back (points_to_object ds left && is_integer right) (is_same_type left ty) s)) h
      by word (inr s) =
          no_pointer ds left n word
          (front (points_to_object ds left) (is_same_type left right) (front (points_to_object ds left && is_same_type left right) (is_same_type ty long) s))

  binary_word : (op : BinaryOp) → IsTrue (has_binary_type ds op ty left right) → value_with op (integer_of left) (integer_of right) p built q ≡ Some n → IsIntegerWord ty n
  binary_word b.LogicalOr r e = or_is ty p q built n (front (is_same_type ty int) (is_scalar left) (front (is_same_type ty int && is_scalar left) (is_scalar right) r)) e
  binary_word b.LogicalAnd r e = and_is ty p q built n (front (is_same_type ty int) (is_scalar left) (front (is_same_type ty int && is_scalar left) (is_scalar right) r)) e
  binary_word b.Or r e = arithmetic b.Or or (left_same r) e
  binary_word b.Xor r e = arithmetic b.Xor xor (left_same r) e
  binary_word b.And r e = arithmetic b.And and (left_same r) e
  binary_word b.Equal r e = tested b.Equal equal r e
  binary_word b.NotEqual r e = tested b.NotEqual not_equal r e
  binary_word b.Less r e = tested b.Less less r e
  binary_word b.Greater r e = tested b.Greater greater r e
  binary_word b.LessEqual r e = tested b.LessEqual less_equal r e
  binary_word b.GreaterEqual r e = tested b.GreaterEqual greater_equal r e
  binary_word b.ShiftLeft r e = arithmetic b.ShiftLeft shift_left (shift_same r) e
  binary_word b.ShiftRight r e = arithmetic b.ShiftRight shift_right (shift_same r) e
  binary_word b.Add r e = summed r e
  binary_word b.Subtract r e = subtracted r e
  binary_word b.Multiply r e = arithmetic b.Multiply multiply (left_same r) e
  binary_word b.Divide r e = arithmetic b.Divide divide (left_same r) e
  binary_word b.Remainder r e = arithmetic b.Remainder remainder (left_same r) e

-- ---- all constants

mutual
  pub constant_word : (c : Context) (x : Expr) (n : ℕ) → IsTrue (is_typed c x) → constant x ≡ Some n → IsIntegerWord (type_of x) n
  constant_word c (Number ty k) n p e = number_word (integer_of ty) ty k n refl (rule_alone (is_fit c.structs ty) (is_number_of (integer_of ty) k) p) e
  constant_word c (Local ty k) n p e = absurd (none-some n e)
  constant_word c (Global ty k) n p e = absurd (none-some n e)
  constant_word c (Call ty callee xs) n p e = absurd (none-some n e)
  constant_word c (Unary ty op x) n p e =
      let h = then_there (unary_value op (integer_of (type_of x))) (constant x) n e in
      unary_word c ty x h.0 n (constant_word c x h.0 (one_typed (is_fit c.structs ty) (has_rule c (Unary ty op x)) (is_typed c x) p) h.1) op
      (rule_one (is_fit c.structs ty) (has_rule c (Unary ty op x)) (is_typed c x) p) h.2
  constant_word c (Binary ty op x y) n p e =
      binary_word c.structs ty (type_of x) (type_of y) (constant x) (constant y) (is_built y) n op
      (rule_two (is_fit c.structs ty) (has_rule c (Binary ty op x y)) (is_typed c x) (is_typed c y) p) e
  constant_word c (Assign ty op x y) n p e = absurd (none-some n e)
  constant_word c (Conditional ty x y z) n p e =
      let fit = is_fit c.structs ty in
      let rule = has_rule c (Conditional ty x y z) in
      let r = rule_three fit rule (is_typed c x) (is_typed c y) (is_typed c z) p in
      let arms = front (is_scalar (type_of x) && is_same_type (type_of y) ty && is_same_type (type_of z) ty) (is_promoted ty || is_pointer ty || is_void ty || is_struct ty) r in
      elim (chosen_there (constant x) (is_built y && is_built z) (constant y) (constant z) n e) [
        | inl h ↦ onto_type (type_of y) ty n (same (type_of y) ty (back (is_scalar (type_of x)) (is_same_type (type_of y) ty) (front (is_scalar (type_of x) && is_same_type (type_of y) ty) (is_same_type (type_of z) ty) arms)))
            (constant_word c y n (holds_typed fit rule (is_typed c x) (is_typed c y) (is_typed c z) p) h)
        | inr h ↦ onto_type (type_of z) ty n (same (type_of z) ty (back (is_scalar (type_of x) && is_same_type (type_of y) ty) (is_same_type (type_of z) ty) arms))
            (constant_word c z n (fails_typed fit rule (is_typed c x) (is_typed c y) (is_typed c z) p) h)
      ]
  constant_word c (Cast ty x) n p e =
      let h = then_there (converted_value (integer_of (type_of x)) (integer_of ty)) (constant x) n e in
      converted_is (type_of x) ty h.0 n h.2
  constant_word c (Convert ty x) n p e =
      let h = then_there (converted_value (integer_of (type_of x)) (integer_of ty)) (constant x) n e in
      converted_is (type_of x) ty h.0 n h.2
  constant_word c (Index ty x y) n p e = absurd (none-some n e)
  constant_word c (Field ty x member) n p e = absurd (none-some n e)
  constant_word c (Arrow ty x member) n p e = absurd (none-some n e)
  constant_word c (Postfix ty op x) n p e = absurd (none-some n e)
  constant_word c (Comma ty no_exprs) n p e = absurd (none-some n e)
  constant_word c (Comma ty (more_exprs x no_exprs)) n p e =
      no_true (rule_one (is_fit c.structs ty) (are_operands ty (more_exprs x no_exprs)) (are_typed c (more_exprs x no_exprs)) p)
  constant_word c (Comma ty (more_exprs x (more_exprs y ys))) n p e =
      let xs = more_exprs x (more_exprs y ys) in
      let typed = one_typed (is_fit c.structs ty) (are_operands ty xs) (are_typed c xs) p in
      last_word c ty (type_of x) (more_exprs y ys) (constant x) n
      (λ m h. constant_word c x m (front (is_typed c x) (are_typed c (more_exprs y ys)) typed) h)
      (rule_one (is_fit c.structs ty) (are_operands ty xs) (are_typed c xs) p)
      (back (is_typed c x) (are_typed c (more_exprs y ys)) typed) e

  last_word : (c : Context) (ty last : PlainType) (xs : Exprs) (first : Option ℕ) (n : ℕ) → ((m : ℕ) → first ≡ Some m → IsIntegerWord last m)
      → IsTrue (has_last_type ty last xs) → IsTrue (are_typed c xs) → last_value first xs ≡ Some n → IsIntegerWord ty n
  last_word c ty last no_exprs first n h r p e =
      onto_type last ty n (same last ty (front (is_same_type last ty) (not (is_array last)) r)) (h n e)
  last_word c ty last (more_exprs x xs) first n h r p e =
      let parts = then_there (λ m. last_value (constant x) xs) first n e in
      last_word c ty (type_of x) xs (constant x) n (λ m g. constant_word c x m (front (is_typed c x) (are_typed c xs) p) g)
      (back (not (is_array last)) (has_last_type ty (type_of x) xs) r) (back (is_typed c x) (are_typed c xs) p) parts.2
