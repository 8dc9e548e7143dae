-- The value of a well typed expression of an integer type is a word of that type, in every state and whatever the
-- functions do.
use Rattle.std.proofs.Common.{◌≡◌, ◌⊎◌, ℕ, Bool, true, false, not, ◌&&◌, ◌||◌, ◌==◌, IsTrue, List, Option, Some, None, refl, sym, ap, ◌∙◌, subst, inl, inr, if◌then◌else◌}
use Rattle.std.specs.Prelude.{pos, ℤ, int_rem, int_div}
use Rattle.std.specs.Ordering.{int_eq}
use Rattle.std.proofs.lemmas.Option.{none-some}
use Rattle.mem_model.specs.declared.value.Value.{Value}
use Rattle.mem_model.specs.declared.value.Value.TheVariants.{Word, Address, Unset}
use Rattle.mem_model.specs.Ending.{Evaluation, Gives, Ends}
use Rattle.bk_arithmetic.specs.declared.integer_type.IntegerType.{IntegerType}
use Rattle.bk_arithmetic.specs.declared.integer_type.IntegerType.TheVariants as i
use Rattle.bk_arithmetic.specs.declared.outcome.ArithmeticOutcome.{ArithmeticOutcome}
use Rattle.bk_arithmetic.specs.declared.outcome.ArithmeticOutcome.TheVariants as o
use Rattle.bk_arithmetic.specs.Words.{is_word, extension, word}
use Rattle.bk_arithmetic.specs.Operations.{truth, conversion, negation, complement}
use Rattle.bk_arithmetic.specs.Outcomes.{IsWordOf}
use Rattle.bk_arithmetic.proofs.Results.{is_word-extension, negation-word}
use Rattle.c_tree.specs.declared.expressions.UnaryOp.{UnaryOp}
use Rattle.c_tree.specs.declared.expressions.UnaryOp.TheVariants as u
use Rattle.c_tree.specs.declared.expressions.BinaryOp.{BinaryOp}
use Rattle.c_tree.specs.declared.expressions.BinaryOp.TheVariants as b
use Rattle.c_tree.specs.declared.expressions.AssignOp.{AssignOp}
use Rattle.c_tree.specs.declared.expressions.AssignOp.TheVariants as a
use Rattle.c_tree.specs.declared.expressions.StepOp.TheVariants as steps
use Rattle.c_typed_tree.specs.declared.types.StructDef.{StructDef}
use Rattle.c_typed_tree.specs.Types.{PlainType, Void, Int, Pointer, Array, Struct}
use Rattle.c_typed_tree.specs.Expressions.{Expr, Number, Local, Global, Call, Unary, Binary, Assign, Conditional, Cast, Convert, Index, Field, Arrow, Postfix, Comma, Exprs, no_exprs, more_exprs, type_of}
use Rattle.c_typed_tree.specs.Layout.{integer_of, size_of}
use Rattle.c_typed_tree.specs.Constants.{is_integer, is_null_constant, integers_with}
use Rattle.c_typed_tree.specs.Typing.{Context, int, long, is_cast, is_conversion, decays, is_scalar, is_promoted, is_same_type, is_pointer, is_void, is_struct, is_array, is_fit, is_place, is_in_memory, points_to_object, has_assigned_type, is_arithmetic, is_shift, is_comparison, is_sum, is_difference, has_unary_type, has_binary_type, is_number_of, has_last_type, are_operands, has_rule, is_typed, are_typed}
use Rattle.c_semantics.specs.Reasons.{Reason, UsesNoValue, ComparesApart}
use Rattle.c_semantics.specs.Runs.{CallState, Run, and_then, ◌>>=◌, pure, undefined_behaviour, trap, use_value}
use Rattle.c_semantics.specs.Objects.{ValuePlace, Register, At, Scope, integer_or_word, integer_value, as_held, call_result, read_at, read, load, start_pointer}
use Rattle.c_semantics.specs.Operators.{outcome, integers, convert_word, pure_truth, apply_binary, combined_in, combine, operation_type, step_operator, one_type, step_value, elements, pointers, pointer_and_integer}
use Rattle.c_semantics.specs.Evaluates.{Functions, update, new_value, old_value, assign_value, assignment_value, choose, converted_from, eval, place, value_of_last}
use Rattle.c_semantics.proofs.Facts.{no_true, front, back}
use Rattle.c_rewrite_rules.specs.model.Truths.{either, same, is_there_integer, promoted_integer, rule_alone, rule_one, one_typed, rule_two, second_typed, rule_three, holds_typed, fails_typed}
use Rattle.c_rewrite_rules.specs.model.Constants.{no_integer_pointer, IsArithmetic, or, xor, and, shift_left, shift_right, add, subtract, multiply, divide, remainder, left_word}
use Rattle.c_rewrite_rules.specs.model.Folded.{or_word}

-- what holds of the value that a run gives
abbrev pub GivesOnly : {A : Type 0} → (A → Type 0) → Evaluation A CallState → Type 0
GivesOnly P (Gives a s) = P a
GivesOnly P (Ends e) = Unit {0}

pub record Only {A : Type 0} (P : A → Type 0) (m : Run A) : Type 0 where
  pub by : (s : CallState) → GivesOnly P (m s)

-- a word of the type, if that is one of integers
abbrev pub IsHeld : PlainType → Value → Type 0
IsHeld ty (Word n) = (t : IntegerType) → integer_of ty ≡ Some t → is_word t n ≡ true
IsHeld ty v = Unit {0}

abbrev pub Held : PlainType → Run Value → Type 0
Held ty m = Only (IsHeld ty) m

after : {A B : Type 0} (P : A → Type 0) (Q : B → Type 0) (r : Evaluation A CallState) (k : A → Run B) → GivesOnly P r → ((a : A) → P a → Only Q (k a))
    → GivesOnly Q (and_then r k)
after P Q (Gives a s) k h g = (g a h).by s
after P Q (Ends e) k h g = tt

pub then_only : {A B : Type 0} {P : A → Type 0} {Q : B → Type 0} {m : Run A} {k : A → Run B} → Only P m → ((a : A) → P a → Only Q (k a)) → Only Q (m >>= k)
unfolding ◌>>=◌
then_only {P = P} {Q = Q} {m = m} {k = k} h g = record { by = λ s. after P Q (m s) k (h.by s) g }

anything : {A : Type 0} (r : Evaluation A CallState) → GivesOnly (λ a. Unit {0}) r
anything (Gives a s) = tt
anything (Ends e) = tt

pub then_any : {A B : Type 0} {Q : B → Type 0} (m : Run A) {k : A → Run B} → ((a : A) → Only Q (k a)) → Only Q (m >>= k)
then_any {A = A} {Q = Q} m {k = k} g =
    then_only {P = λ a. Unit {0}} {Q = Q} {m = m} {k = k} (record { by = λ s. anything (m s) }) (λ a h. g a)

pub pure_only : {A : Type 0} {P : A → Type 0} (a : A) → P a → Only P (pure a)
unfolding pure
pure_only a h = record { by = λ s. h }

pub undefined_only : {A : Type 0} (P : A → Type 0) (reason : Reason) → Only P (undefined_behaviour reason)
unfolding undefined_behaviour
undefined_only P reason = record { by = λ s. tt }

trap_only : {A : Type 0} (P : A → Type 0) (code : ℕ) → Only P (trap code)
unfolding trap
trap_only P code = record { by = λ s. tt }

-- ---- types that are none of integers

no_integer_value : (ty : PlainType) → integer_of ty ≡ None → (v : Value) → IsHeld ty v
no_integer_value ty e (Word n) = λ t is. absurd (none-some t (sym e ∙ is))
no_integer_value ty e (Address p) = tt
no_integer_value ty e Unset = tt

every : {A : Type 0} (P : A → Type 0) → ((a : A) → P a) → (r : Evaluation A CallState) → GivesOnly P r
every P h (Gives a s) = h a
every P h (Ends e) = tt

pub no_integer : (ty : PlainType) (m : Run Value) → integer_of ty ≡ None → Held ty m
no_integer ty m e = record { by = λ s. every (IsHeld ty) (no_integer_value ty e) (m s) }

-- either way
pub by_type : (ty : PlainType) (m : Run Value) → ((t : IntegerType) → integer_of ty ≡ Some t → Held ty m) → Held ty m
by_type ty m h = cases (integer_of ty) refl
  where
    cases : (o : Option IntegerType) → integer_of ty ≡ o → Held ty m
    cases None e = no_integer ty m e
    cases (Some t) e = h t e

pub word_held : (ty : PlainType) (t : IntegerType) (n : ℕ) → integer_of ty ≡ Some t → is_word t n ≡ true → IsHeld ty (Word n)
word_held ty t n e w u is = let equal : t ≡ u = some_value (sym e ∙ is) in subst (λ v. is_word v n ≡ true) equal w
  where
    some_value : {x y : IntegerType} → Some x ≡ Some y → x ≡ y
    some_value h = cc

-- ---- what is read

integer_held : (ty : PlainType) (t : IntegerType) (v : Value) → integer_of ty ≡ Some t → Held ty (integer_value t v)
integer_held ty t v e = then_any _ (λ n. pure_only (Word (extension t n)) (word_held ty t (extension t n) e (is_word-extension t n)))

as_held_held : (ty : PlainType) (v : Value) → Held ty (as_held ty v)
as_held_held (Int n g) v =
    by_type (Int n g) (as_held (Int n g) v) (λ t e. subst (λ w. Held (Int n g) (integer_value w v)) (sym (or_word (Int n g) t e)) (integer_held (Int n g) t v e))
as_held_held Void v = no_integer Void (as_held Void v) refl
as_held_held (Pointer u) v = no_integer (Pointer u) (as_held (Pointer u) v) refl
as_held_held (Array u n) v = no_integer (Array u n) (as_held (Array u n) v) refl
as_held_held (Struct n) v = no_integer (Struct n) (as_held (Struct n) v) refl

pub read_at_held : (ty : PlainType) (p : Value) → Held ty (read_at ty p)
read_at_held (Int n g) p =
    by_type (Int n g) (read_at (Int n g) p) (λ t e. subst (λ w. Held (Int n g) (load n false p >>= integer_value w)) (sym (or_word (Int n g) t e))
    (then_any _ (λ v. integer_held (Int n g) t v e)))
read_at_held Void p = no_integer Void (read_at Void p) refl
read_at_held (Pointer u) p = no_integer (Pointer u) (read_at (Pointer u) p) refl
read_at_held (Array u n) p = no_integer (Array u n) (read_at (Array u n) p) refl
read_at_held (Struct n) p = no_integer (Struct n) (read_at (Struct n) p) refl

pub read_held : (ty : PlainType) (p : ValuePlace) → Held ty (read ty p)
read_held ty (Register k) = then_any _ (as_held_held ty)
read_held ty (At p) = read_at_held ty p

given_held : (ty : PlainType) (v : Value) → Held ty (call_result ty v)
given_held ty Unset = pure_only Unset tt
given_held ty (Word n) = as_held_held ty (Word n)
given_held ty (Address p) = as_held_held ty (Address p)

-- ---- operators

truth_held : (ty : PlainType) (t : Bool) → ty ≡ int → Held ty (pure_truth t)
truth_held ty t e = pure_only (Word (truth t)) (word_held ty i.Int (truth t) (ap integer_of e) (truth_word t))
  where
    truth_word : (t : Bool) → is_word i.Int (truth t) ≡ true
    truth_word true = refl
    truth_word false = refl

outcome_held : (ty : PlainType) (t : IntegerType) (a : ArithmeticOutcome) → integer_of ty ≡ Some t → IsWordOf t a → Held ty (outcome a)
outcome_held ty t (o.Word n) e w = pure_only (Word n) (word_held ty t n e w)
outcome_held ty t (o.Trap code) e w = trap_only (IsHeld ty) code
outcome_held ty t o.Undefined e w = undefined_only (IsHeld ty) _

converted_held : (ty : PlainType) (s t : IntegerType) (v : Value) → integer_of ty ≡ Some t → Held ty (convert_word s t v)
converted_held ty s t v e = then_any _ (λ n. pure_only (Word (conversion s t n)) (word_held ty t (conversion s t n) e (is_word-extension t _)))

integers_held : (op : BinaryOp) → IsArithmetic op → (ty : PlainType) (t c : IntegerType) (v w : Value) → integer_of ty ≡ Some t → Held ty (integers op t c v w)
integers_held op a ty t c v w e = then_any _ (λ x. then_any _ (λ y. outcome_held ty t (integers_with op t c x y) e (left_word op a t c x y)))

used_held : (ty : PlainType) (reason : Reason) (v : Value) → IsHeld ty v → Held ty (use_value reason v)
used_held ty reason (Word n) h = pure_only (Word n) h
used_held ty reason (Address p) h = pure_only (Address p) tt
used_held ty reason Unset h = undefined_only (IsHeld ty) reason

-- two integers of arithmetic, the left one of the type of the whole
arithmetic_held : (ds : List StructDef) (op : BinaryOp) → IsArithmetic op → (left right : PlainType) (t c : IntegerType) → integer_of left ≡ Some t → integer_of right ≡ Some c
    → (v w : Value) → Held left (apply_binary ds op left right v w)
arithmetic_held ds op a (Int n g) (Int m h) t c e k v w =
    subst (λ x. Held (Int n g) (integers op x (integer_or_word (Int m h)) v w)) (sym (or_word (Int n g) t e)) (integers_held op a (Int n g) t (integer_or_word (Int m h)) v w e)
arithmetic_held ds op a (Int n g) Void t c e k v w = absurd (none-some c k)
arithmetic_held ds op a (Int n g) (Pointer u) t c e k v w = absurd (none-some c k)
arithmetic_held ds op a (Int n g) (Array u m) t c e k v w = absurd (none-some c k)
arithmetic_held ds op a (Int n g) (Struct m) t c e k v w = absurd (none-some c k)
arithmetic_held ds op a Void right t c e k v w = absurd (none-some t e)
arithmetic_held ds op a (Pointer u) right t c e k v w = absurd (none-some t e)
arithmetic_held ds op a (Array u n) right t c e k v w = absurd (none-some t e)
arithmetic_held ds op a (Struct n) right t c e k v w = absurd (none-some t e)

arithmetic_of : (ds : List StructDef) (op : BinaryOp) → IsArithmetic op → (ty left right : PlainType) → IsTrue (is_arithmetic ty left right) → (v w : Value) → Held ty (apply_binary ds op left right v w)
arithmetic_of ds op a ty left right r v w =
    let alike = front (is_promoted left && is_same_type left right) (is_same_type left ty) r in
    let there = promoted_integer left (front (is_promoted left) (is_same_type left right) alike) in
    let right_is = same left right (back (is_promoted left) (is_same_type left right) alike) in
    let whole = same left ty (back (is_promoted left && is_same_type left right) (is_same_type left ty) r) in
    subst (λ x. Held x (apply_binary ds op left right v w)) whole
    (arithmetic_held ds op a left right there.of there.of there.is (sym (ap integer_of right_is) ∙ there.is) v w)

shift_of : (ds : List StructDef) (op : BinaryOp) → IsArithmetic op → (ty left right : PlainType) → IsTrue (is_shift ty left right) → (v w : Value) → Held ty (apply_binary ds op left right v w)
shift_of ds op a ty left right r v w =
    let both = front (is_promoted left && is_promoted right) (is_same_type left ty) r in
    let there = promoted_integer left (front (is_promoted left) (is_promoted right) both) in
    let count = promoted_integer right (back (is_promoted left) (is_promoted right) both) in
    let whole = same left ty (back (is_promoted left && is_promoted right) (is_same_type left ty) r) in
    subst (λ x. Held x (apply_binary ds op left right v w)) whole
    (arithmetic_held ds op a left right there.of count.of there.is count.is v w)

-- a comparison gives the truth, as an `int`
record GivesTruth (op : BinaryOp) : Type 0 where
  word : (t c : IntegerType) (x y : ℕ) → (k : Bool) × (integers_with op t c x y ≡ o.Word (truth k))
  pointers_give : (ds : List StructDef) (element ty : PlainType) (v w : Value) → ty ≡ int → Held ty (pointers ds op element v w)
  with_number : (ds : List StructDef) (element : PlainType) (t : IntegerType) (v w : Value) → pointer_and_integer ds op element t v w ≡ undefined_behaviour UsesNoValue

equal_truth : GivesTruth b.Equal
equal_truth = record { word = λ t c x y. (_, refl); pointers_give = λ ds element ty v w e. then_any _ (λ t. truth_held ty t e); with_number = λ ds element t v w. refl }

not_equal_truth : GivesTruth b.NotEqual
not_equal_truth = record { word = λ t c x y. (_, refl); pointers_give = λ ds element ty v w e. then_any _ (λ t. truth_held ty (not t) e); with_number = λ ds element t v w. refl }

less_truth : GivesTruth b.Less
less_truth = record { word = λ t c x y. (_, refl); pointers_give = λ ds element ty v w e. then_any _ (λ t. truth_held ty t e); with_number = λ ds element t v w. refl }

greater_truth : GivesTruth b.Greater
greater_truth = record { word = λ t c x y. (_, refl); pointers_give = λ ds element ty v w e. then_any _ (λ t. truth_held ty t e); with_number = λ ds element t v w. refl }

less_equal_truth : GivesTruth b.LessEqual
less_equal_truth = record { word = λ t c x y. (_, refl); pointers_give = λ ds element ty v w e. then_any _ (λ t. truth_held ty t e); with_number = λ ds element t v w. refl }

greater_equal_truth : GivesTruth b.GreaterEqual
greater_equal_truth = record { word = λ t c x y. (_, refl); pointers_give = λ ds element ty v w e. then_any _ (λ t. truth_held ty t e); with_number = λ ds element t v w. refl }

module _ (ds : List StructDef) (op : BinaryOp) (g : GivesTruth op) (ty : PlainType) (is_int : ty ≡ int) where
  numbers_compared : (t c : IntegerType) (v w : Value) → Held ty (integers op t c v w)
  numbers_compared t c v w = then_any _ (λ x. then_any _ (λ y.
      let k = g.word t c x y in subst (λ a. Held ty (outcome a)) (sym k.1) (truth_held ty k.0 is_int)))

  number_pointer : (element : PlainType) (t : IntegerType) (v w : Value) → Held ty (pointer_and_integer ds op element t v w)
  number_pointer element t v w = subst (Held ty) (sym (g.with_number ds element t v w)) (undefined_only (IsHeld ty) _)

  comparison_held : (left right : PlainType) (v w : Value) → Held ty (apply_binary ds op left right v w)
  comparison_held (Int n s) (Int m h) v w = numbers_compared (integer_or_word (Int n s)) (integer_or_word (Int m h)) v w
  comparison_held (Int n s) Void v w = numbers_compared (integer_or_word (Int n s)) (integer_or_word Void) v w
  comparison_held (Int n s) (Pointer element) v w = number_pointer element (integer_or_word (Int n s)) w v
  comparison_held (Int n s) (Array u m) v w = numbers_compared (integer_or_word (Int n s)) (integer_or_word (Array u m)) v w
  comparison_held (Int n s) (Struct m) v w = numbers_compared (integer_or_word (Int n s)) (integer_or_word (Struct m)) v w
  comparison_held (Pointer element) (Pointer other) v w = g.pointers_give ds element ty v w is_int
  comparison_held (Pointer element) (Int m h) v w = number_pointer element (integer_or_word (Int m h)) v w
  comparison_held (Pointer element) Void v w = number_pointer element (integer_or_word Void) v w
  comparison_held (Pointer element) (Array u m) v w = number_pointer element (integer_or_word (Array u m)) v w
  comparison_held (Pointer element) (Struct m) v w = number_pointer element (integer_or_word (Struct m)) v w
  comparison_held Void right v w = undefined_only (IsHeld ty) _
  comparison_held (Array u m) right v w = undefined_only (IsHeld ty) _
  comparison_held (Struct m) right v w = undefined_only (IsHeld ty) _

int_of : (ty left right : PlainType) → IsTrue (is_comparison ty left right) → ty ≡ int
int_of ty left right r =
    same ty int (front (is_same_type ty int) (is_same_type left right) (front (is_same_type ty int && is_same_type left right) (is_promoted left || is_pointer left) r))

-- the distance of two pointers is a `long`
elements_held : (ty : PlainType) (z : ℤ) (size : ℕ) → ty ≡ long → Held ty (elements z size)
elements_held ty z size e = by (size == 0) (int_eq (int_rem z (pos size)) (pos 0))
  where
    by : (a c : Bool) → Held ty (if a then undefined_behaviour ComparesApart else if c then pure (Word (word i.Long (int_div z (pos size)))) else undefined_behaviour ComparesApart)
    by true c = undefined_only (IsHeld ty) _
    by false true = pure_only (Word (word i.Long (int_div z (pos size)))) (word_held ty i.Long _ (ap integer_of e) (is_word-extension i.Long _))
    by false false = undefined_only (IsHeld ty) _

distance_held : (ds : List StructDef) (ty left right : PlainType) (v w : Value) → ty ≡ long → IsTrue (points_to_object ds left) → left ≡ right
    → Held ty (apply_binary ds b.Subtract left right v w)
distance_held ds ty (Pointer element) right v w e p alike =
    subst (λ x. Held ty (apply_binary ds b.Subtract (Pointer element) x v w)) alike (then_any _ (λ z. elements_held ty z (size_of ds element) e))
distance_held ds ty (Int n s) right v w e p alike = no_true p
distance_held ds ty Void right v w e p alike = no_true p
distance_held ds ty (Array u n) right v w e p alike = no_true p
distance_held ds ty (Struct n) right v w e p alike = no_true p

module _ (ds : List StructDef) (ty left right : PlainType) (t : IntegerType) (integer : integer_of ty ≡ Some t) (v w : Value) where
  -- no pointer has the type of the whole
  not_pointer : {X : Type 0} (side : PlainType) → IsTrue (points_to_object ds side) → IsTrue (is_same_type side ty) → X
  not_pointer side p e = no_integer_pointer ds side t (ap integer_of (same side ty e) ∙ integer) p

  sum_held : IsTrue (is_sum ds ty left right) → Held ty (apply_binary ds b.Add left right v w)
  sum_held r = outer (either (is_arithmetic ty left right || points_to_object ds left && is_integer right && is_same_type left ty) (is_integer left && points_to_object ds right && is_same_type right ty) r)
    where
      inner : IsTrue (is_arithmetic ty left right) ⊎ IsTrue (points_to_object ds left && is_integer right && is_same_type left ty) → Held ty (apply_binary ds b.Add left right v w)
      inner (inl a) = arithmetic_of ds b.Add add ty left right a v w
      inner (inr s) = not_pointer left (front (points_to_object ds left) (is_integer right) (front (points_to_object ds left && is_integer right) (is_same_type left ty) s)) (back (points_to_object ds left && is_integer right) (is_same_type left ty) s)

      outer : IsTrue (is_arithmetic ty left right || points_to_object ds left && is_integer right && is_same_type left ty) ⊎ IsTrue (is_integer left && points_to_object ds right && is_same_type right ty) → Held ty (apply_binary ds b.Add left right v w)
      outer (inl s) = inner (either (is_arithmetic ty left right) (points_to_object ds left && is_integer right && is_same_type left ty) s)
      outer (inr s) = not_pointer right (back (is_integer left) (points_to_object ds right) (front (is_integer left && points_to_object ds right) (is_same_type right ty) s)) (back (is_integer left && points_to_object ds right) (is_same_type right ty) s)

  difference_held : IsTrue (is_difference ds ty left right) → Held ty (apply_binary ds b.Subtract left right v w)
  difference_held r = outer (either (is_arithmetic ty left right || points_to_object ds left && is_integer right && is_same_type left ty) (points_to_object ds left && is_same_type left right && is_same_type ty long) r)
    where
      inner : IsTrue (is_arithmetic ty left right) ⊎ IsTrue (points_to_object ds left && is_integer right && is_same_type left ty) → Held ty (apply_binary ds b.Subtract left right v w)
      inner (inl a) = arithmetic_of ds b.Subtract subtract ty left right a v w
      inner (inr s) = not_pointer left (front (points_to_object ds left) (is_integer right) (front (points_to_object ds left && is_integer right) (is_same_type left ty) s)) (back (points_to_object ds left && is_integer right) (is_same_type left ty) s)

      outer : IsTrue (is_arithmetic ty left right || points_to_object ds left && is_integer right && is_same_type left ty) ⊎ IsTrue (points_to_object ds left && is_same_type left right && is_same_type ty long) → Held ty (apply_binary ds b.Subtract left right v w)
      outer (inl s) = inner (either (is_arithmetic ty left right) (points_to_object ds left && is_integer right && is_same_type left ty) s)
      outer (inr s) =
          let both = front (points_to_object ds left && is_same_type left right) (is_same_type ty long) s in
          distance_held ds ty left right v w (same ty long (back (points_to_object ds left && is_same_type left right) (is_same_type ty long) s))
          (front (points_to_object ds left) (is_same_type left right) both) (same left right (back (points_to_object ds left) (is_same_type left right) both))

-- ---- changes of a place

combined_held : (ds : List StructDef) (op : BinaryOp) (ty right : PlainType) (v w : Value) → Held ty (combine ds op ty right v w)
combined_held ds op (Int n s) right v w =
    by_type (Int n s) (combine ds op (Int n s) right v w) (λ t e.
    subst (λ k. Held (Int n s) (combined_in op (operation_type op k (integer_or_word right)) k (integer_or_word right) v w)) (sym (or_word (Int n s) t e))
    (then_any _ (λ x. then_any _ (λ z. converted_held (Int n s) _ t z e))))
combined_held ds op Void right v w = no_integer Void _ refl
combined_held ds op (Pointer u) right v w = no_integer (Pointer u) _ refl
combined_held ds op (Array u n) right v w = no_integer (Array u n) _ refl
combined_held ds op (Struct n) right v w = no_integer (Struct n) _ refl

updated_held : (ds : List StructDef) (ty : PlainType) (change : Value → Run Value) (pick : Value → Value → Value) (p : ValuePlace)
    → ((v : Value) → Held ty (change v)) → ((v w : Value) → IsHeld ty v → IsHeld ty w → IsHeld ty (pick v w)) → Held ty (update ds ty change pick p)
updated_held ds ty change pick p g k =
    then_only (read_held ty p) (λ v h. then_only (g v) (λ w j. then_any _ (λ u. pure_only (pick v w) (k v w h j))))

-- what an assignment gives is its right side, or the combined value
value_held : (ty : PlainType) (p : ValuePlace) (v : Value) → IsHeld ty v → IsHeld ty (assignment_value ty p v)
value_held (Struct n) (At p) v h = no_integer_value (Struct n) refl p
value_held (Struct n) (Register k) v h = h
value_held Void p v h = h
value_held (Int n s) p v h = h
value_held (Pointer u) p v h = h
value_held (Array u n) p v h = h

set_held : (ds : List StructDef) (ty right : PlainType) (p : ValuePlace) (v : Value) → IsHeld ty v → Held ty (assign_value ds ty right None p v)
set_held ds ty right p v h = then_any _ (λ u. pure_only (assignment_value ty p v) (value_held ty p v h))

changed_held : (ds : List StructDef) (ty right : PlainType) (op : BinaryOp) (p : ValuePlace) (v : Value) → Held ty (assign_value ds ty right (Some op) p v)
changed_held ds ty right op p v = updated_held ds ty (λ old. combine ds op ty right old v) new_value p (λ old. combined_held ds op ty right old v) (λ old new h k. k)

-- ---- conversions

conversion_held : (from to : PlainType) (by_value : Run Value) (by_place : Run ValuePlace) → (IsTrue (is_integer to) → IsTrue (is_integer from)) → Held to (converted_from from to by_value by_place)
conversion_held (Int n s) (Int m h) by_value by_place from =
    by_type (Int m h) (converted_from (Int n s) (Int m h) by_value by_place) (λ t e.
    subst (λ k. Held (Int m h) (by_value >>= convert_word (integer_or_word (Int n s)) k)) (sym (or_word (Int m h) t e))
    (then_any _ (λ v. converted_held (Int m h) _ t v e)))
conversion_held Void (Int m h) by_value by_place from = by_type (Int m h) _ (λ t e. no_true (from (is_there_integer (Int m h) (record { of = t; is = e }))))
conversion_held (Pointer u) (Int m h) by_value by_place from = by_type (Int m h) _ (λ t e. no_true (from (is_there_integer (Int m h) (record { of = t; is = e }))))
conversion_held (Array u n) (Int m h) by_value by_place from = by_type (Int m h) _ (λ t e. no_true (from (is_there_integer (Int m h) (record { of = t; is = e }))))
conversion_held (Struct n) (Int m h) by_value by_place from = by_type (Int m h) _ (λ t e. no_true (from (is_there_integer (Int m h) (record { of = t; is = e }))))
conversion_held from Void by_value by_place f = no_integer Void _ refl
conversion_held from (Pointer u) by_value by_place f = no_integer (Pointer u) _ refl
conversion_held from (Array u n) by_value by_place f = no_integer (Array u n) _ refl
conversion_held from (Struct n) by_value by_place f = no_integer (Struct n) _ refl

-- what is converted to an integer type is of one
cast_from : (to from : PlainType) (null : Bool) → IsTrue (is_cast to from null) → IsTrue (is_integer to) → IsTrue (is_integer from)
cast_from (Int n s) from null r to = integer_side r
  where
    integer_side : IsTrue (is_cast (Int n s) from null) → IsTrue (is_integer from)
    integer_side h = outer (either (false || is_integer (Int n s) && is_integer from) false h)
      where
        outer : IsTrue (false || is_integer (Int n s) && is_integer from) ⊎ IsTrue false → IsTrue (is_integer from)
        outer (inl k) = back (is_integer (Int n s)) (is_integer from) k
        outer (inr k) = no_true k
cast_from Void from null r to = no_true to
cast_from (Pointer u) from null r to = no_true to
cast_from (Array u n) from null r to = no_true to
cast_from (Struct n) from null r to = no_true to

decays_not : (from : PlainType) (n : ℕ) (s : Bool) → decays from (Int n s) ≡ false
decays_not Void n s = refl
decays_not (Int m h) n s = refl
decays_not (Pointer u) n s = refl
decays_not (Array u m) n s = refl
decays_not (Struct m) n s = refl

conversion_from : (to from : PlainType) (null place : Bool) → IsTrue (is_conversion to from null place) → IsTrue (is_integer to) → IsTrue (is_integer from)
conversion_from (Int n s) from null place r to =
    let plain : IsTrue (is_integer (Int n s) && is_integer from || false && place || false || false) =
    subst (λ d. IsTrue (is_integer (Int n s) && is_integer from || d && place || false || false)) (decays_not from n s) r in
    outer (is_integer (Int n s)) (is_integer from) plain
  where
    outer : (a c : Bool) → IsTrue (a && c || false || false || false) → IsTrue c
    outer true true h = refl
    outer true false h = no_true h
    outer false c h = no_true h
conversion_from Void from null place r to = no_true to
conversion_from (Pointer u) from null place r to = no_true to
conversion_from (Array u n) from null place r to = no_true to
conversion_from (Struct n) from null place r to = no_true to

chosen_held : (ty : PlainType) (x y : Run Value) (t : Bool) → Held ty x → Held ty y → Held ty (choose x y t)
chosen_held ty x y true h g = h
chosen_held ty x y false h g = g

number_held : (ty : PlainType) (n : ℕ) → IsTrue (is_number_of (integer_of ty) n) → IsHeld ty (Word n)
number_held ty n h t e = sym (ap (λ o. is_number_of o n) e) ∙ h

-- ---- every expression

module _ (c : Context) (f : Functions) (scope : Scope) where
  abbrev run : Expr → Run Value
  run x = eval c.structs c.locals f scope x

  unary_held : (ty : PlainType) (op : UnaryOp) (x : Expr) → IsTrue (has_unary_type c.structs c.locals op ty x) → Held (type_of x) (run x) → Held ty (run (Unary ty op x))
  unary_held ty u.Address x r h =
      no_integer ty _ (ap integer_of (same ty (Pointer (type_of x)) (front (is_same_type ty (Pointer (type_of x))) (is_in_memory c.locals x) r)))
  unary_held ty u.Dereference x r h = then_any _ (read_at_held ty)
  unary_held ty u.Increment x r h =
      then_any _ (λ p. updated_held c.structs ty (step_value c.structs steps.Increment ty) new_value p (λ v. combined_held c.structs (step_operator steps.Increment) ty (one_type ty) v (Word 1)) (λ v w j k. k))
  unary_held ty u.Decrement x r h =
      then_any _ (λ p. updated_held c.structs ty (step_value c.structs steps.Decrement ty) new_value p (λ v. combined_held c.structs (step_operator steps.Decrement) ty (one_type ty) v (Word 1)) (λ v w j k. k))
  unary_held ty u.Not x r h =
      let e = same ty int (front (is_same_type ty int) (is_scalar (type_of x)) r) in
      then_any _ (λ t. chosen_held ty (pure_truth false) (pure_truth true) t (truth_held ty false e) (truth_held ty true e))
  unary_held ty u.Plus x r h =
      let e = same (type_of x) ty (back (is_promoted (type_of x)) (is_same_type (type_of x) ty) r) in
      subst (λ k. Held k (run (Unary ty u.Plus x))) e (then_only h (λ v k. used_held (type_of x) UsesNoValue v k))
  unary_held ty u.Minus x r h =
      by_type ty (run (Unary ty u.Minus x)) (λ t e. then_any _ (λ v. then_any _ (λ n.
      subst (λ k. Held ty (outcome (negation k n))) (sym (or_word ty t e)) (outcome_held ty t (negation t n) e (negation-word t n)))))
  unary_held ty u.Invert x r h =
      by_type ty (run (Unary ty u.Invert x)) (λ t e. then_any _ (λ v. then_any _ (λ n.
      subst (λ k. Held ty (pure (Word (complement k n)))) (sym (or_word ty t e)) (pure_only (Word (complement t n)) (word_held ty t _ e (is_word-extension t _))))))

  binary_held : (ty : PlainType) (op : BinaryOp) (x y : Expr) → IsTrue (has_binary_type c.structs op ty (type_of x) (type_of y)) → Held ty (run (Binary ty op x y))
  binary_held ty b.LogicalAnd x y r =
      let e = same ty int (front (is_same_type ty int) (is_scalar (type_of x)) (front (is_same_type ty int && is_scalar (type_of x)) (is_scalar (type_of y)) r)) in
      then_any _ (λ t. chosen_held ty _ (pure_truth false) t (then_any _ (λ k. truth_held ty k e)) (truth_held ty false e))
  binary_held ty b.LogicalOr x y r =
      let e = same ty int (front (is_same_type ty int) (is_scalar (type_of x)) (front (is_same_type ty int && is_scalar (type_of x)) (is_scalar (type_of y)) r)) in
      then_any _ (λ t. chosen_held ty (pure_truth true) _ t (truth_held ty true e) (then_any _ (λ k. truth_held ty k e)))
  binary_held ty b.Or x y r = then_any _ (λ v. then_any _ (λ w. arithmetic_of c.structs b.Or or ty (type_of x) (type_of y) r v w))
  binary_held ty b.Xor x y r = then_any _ (λ v. then_any _ (λ w. arithmetic_of c.structs b.Xor xor ty (type_of x) (type_of y) r v w))
  binary_held ty b.And x y r = then_any _ (λ v. then_any _ (λ w. arithmetic_of c.structs b.And and ty (type_of x) (type_of y) r v w))
  binary_held ty b.Equal x y r = then_any _ (λ v. then_any _ (λ w. comparison_held c.structs b.Equal equal_truth ty (int_of ty (type_of x) (type_of y) r) (type_of x) (type_of y) v w))
  binary_held ty b.NotEqual x y r = then_any _ (λ v. then_any _ (λ w. comparison_held c.structs b.NotEqual not_equal_truth ty (int_of ty (type_of x) (type_of y) r) (type_of x) (type_of y) v w))
  binary_held ty b.Less x y r = then_any _ (λ v. then_any _ (λ w. comparison_held c.structs b.Less less_truth ty (int_of ty (type_of x) (type_of y) r) (type_of x) (type_of y) v w))
  binary_held ty b.Greater x y r = then_any _ (λ v. then_any _ (λ w. comparison_held c.structs b.Greater greater_truth ty (int_of ty (type_of x) (type_of y) r) (type_of x) (type_of y) v w))
  binary_held ty b.LessEqual x y r = then_any _ (λ v. then_any _ (λ w. comparison_held c.structs b.LessEqual less_equal_truth ty (int_of ty (type_of x) (type_of y) r) (type_of x) (type_of y) v w))
  binary_held ty b.GreaterEqual x y r = then_any _ (λ v. then_any _ (λ w. comparison_held c.structs b.GreaterEqual greater_equal_truth ty (int_of ty (type_of x) (type_of y) r) (type_of x) (type_of y) v w))
  binary_held ty b.ShiftLeft x y r = then_any _ (λ v. then_any _ (λ w. shift_of c.structs b.ShiftLeft shift_left ty (type_of x) (type_of y) r v w))
  binary_held ty b.ShiftRight x y r = then_any _ (λ v. then_any _ (λ w. shift_of c.structs b.ShiftRight shift_right ty (type_of x) (type_of y) r v w))
  binary_held ty b.Add x y r = then_any _ (λ v. then_any _ (λ w. by_type ty (apply_binary c.structs b.Add (type_of x) (type_of y) v w) (λ t e. sum_held c.structs ty (type_of x) (type_of y) t e v w r)))
  binary_held ty b.Subtract x y r = then_any _ (λ v. then_any _ (λ w. by_type ty (apply_binary c.structs b.Subtract (type_of x) (type_of y) v w) (λ t e. difference_held c.structs ty (type_of x) (type_of y) t e v w r)))
  binary_held ty b.Multiply x y r = then_any _ (λ v. then_any _ (λ w. arithmetic_of c.structs b.Multiply multiply ty (type_of x) (type_of y) r v w))
  binary_held ty b.Divide x y r = then_any _ (λ v. then_any _ (λ w. arithmetic_of c.structs b.Divide divide ty (type_of x) (type_of y) r v w))
  binary_held ty b.Remainder x y r = then_any _ (λ v. then_any _ (λ w. arithmetic_of c.structs b.Remainder remainder ty (type_of x) (type_of y) r v w))

  assigned_held : (ty : PlainType) (op : AssignOp) (x y : Expr) → IsTrue (has_rule c (Assign ty op x y)) → Held (type_of y) (run y) → Held ty (run (Assign ty op x y))
  assigned_held ty a.Set x y r h =
      let left = front (is_place x && is_same_type (type_of x) ty) (has_assigned_type c.structs a.Set (type_of x) (type_of y)) r in
      let right = back (is_place x && is_same_type (type_of x) ty) (has_assigned_type c.structs a.Set (type_of x) (type_of y)) r in
      let e = same (type_of y) (type_of x) (front (is_same_type (type_of y) (type_of x)) (is_scalar (type_of x) || is_struct (type_of x)) right)
      ∙ same (type_of x) ty (back (is_place x) (is_same_type (type_of x) ty) left) in
      then_any _ (λ p. then_only h (λ v k. set_held c.structs ty (type_of y) p v (subst (λ t. IsHeld t v) e k)))
  assigned_held ty a.Multiply x y r h = then_any _ (λ p. then_any _ (λ v. changed_held c.structs ty (type_of y) b.Multiply p v))
  assigned_held ty a.Divide x y r h = then_any _ (λ p. then_any _ (λ v. changed_held c.structs ty (type_of y) b.Divide p v))
  assigned_held ty a.Remainder x y r h = then_any _ (λ p. then_any _ (λ v. changed_held c.structs ty (type_of y) b.Remainder p v))
  assigned_held ty a.Add x y r h = then_any _ (λ p. then_any _ (λ v. changed_held c.structs ty (type_of y) b.Add p v))
  assigned_held ty a.Subtract x y r h = then_any _ (λ p. then_any _ (λ v. changed_held c.structs ty (type_of y) b.Subtract p v))
  assigned_held ty a.ShiftLeft x y r h = then_any _ (λ p. then_any _ (λ v. changed_held c.structs ty (type_of y) b.ShiftLeft p v))
  assigned_held ty a.ShiftRight x y r h = then_any _ (λ p. then_any _ (λ v. changed_held c.structs ty (type_of y) b.ShiftRight p v))
  assigned_held ty a.And x y r h = then_any _ (λ p. then_any _ (λ v. changed_held c.structs ty (type_of y) b.And p v))
  assigned_held ty a.Xor x y r h = then_any _ (λ p. then_any _ (λ v. changed_held c.structs ty (type_of y) b.Xor p v))
  assigned_held ty a.Or x y r h = then_any _ (λ p. then_any _ (λ v. changed_held c.structs ty (type_of y) b.Or p v))

  mutual
    pub eval_held : (x : Expr) → IsTrue (is_typed c x) → Held (type_of x) (run x)
    eval_held (Number ty n) p = pure_only (Word n) (number_held ty n (rule_alone (is_fit c.structs ty) (is_number_of (integer_of ty) n) p))
    eval_held (Local ty k) p = then_any _ (read_held ty)
    eval_held (Global ty k) p = read_at_held ty (start_pointer k)
    eval_held (Call ty callee xs) p = then_any _ (given_held ty)
    eval_held (Unary ty op x) p =
        unary_held ty op x (rule_one (is_fit c.structs ty) (has_rule c (Unary ty op x)) (is_typed c x) p)
        (eval_held x (one_typed (is_fit c.structs ty) (has_rule c (Unary ty op x)) (is_typed c x) p))
    eval_held (Binary ty op x y) p =
        binary_held ty op x y (rule_two (is_fit c.structs ty) (has_rule c (Binary ty op x y)) (is_typed c x) (is_typed c y) p)
    eval_held (Assign ty op x y) p =
        assigned_held ty op x y (rule_two (is_fit c.structs ty) (has_rule c (Assign ty op x y)) (is_typed c x) (is_typed c y) p)
        (eval_held y (second_typed (is_fit c.structs ty) (has_rule c (Assign ty op x y)) (is_typed c x) (is_typed c y) p))
    eval_held (Conditional ty x y z) p =
        let fit = is_fit c.structs ty in
        let rule = has_rule c (Conditional ty x y z) in
        let r = rule_three fit rule (is_typed c x) (is_typed c y) (is_typed c z) p in
        let arms = front (is_scalar (type_of x) && is_same_type (type_of y) ty && is_same_type (type_of z) ty) (is_promoted ty || is_pointer ty || is_void ty || is_struct ty) r in
        let first = same (type_of y) ty (back (is_scalar (type_of x)) (is_same_type (type_of y) ty) (front (is_scalar (type_of x) && is_same_type (type_of y) ty) (is_same_type (type_of z) ty) arms)) in
        let second = same (type_of z) ty (back (is_scalar (type_of x) && is_same_type (type_of y) ty) (is_same_type (type_of z) ty) arms) in
        let one : Held ty (run y) = subst (λ t. Held t (run y)) first (eval_held y (holds_typed fit rule (is_typed c x) (is_typed c y) (is_typed c z) p)) in
        let other : Held ty (run z) = subst (λ t. Held t (run z)) second (eval_held z (fails_typed fit rule (is_typed c x) (is_typed c y) (is_typed c z) p)) in
        then_any _ (λ t. chosen_held ty (run y) (run z) t one other)
    eval_held (Cast ty x) p =
        conversion_held (type_of x) ty _ _ (cast_from ty (type_of x) (is_null_constant x) (rule_one (is_fit c.structs ty) (has_rule c (Cast ty x)) (is_typed c x) p))
    eval_held (Convert ty x) p =
        conversion_held (type_of x) ty _ _ (conversion_from ty (type_of x) (is_null_constant x) (is_place x) (rule_one (is_fit c.structs ty) (has_rule c (Convert ty x)) (is_typed c x) p))
    eval_held (Index ty x y) p = then_any _ (read_at_held ty)
    eval_held (Field ty x member) p = then_any _ (read_at_held ty)
    eval_held (Arrow ty x member) p = then_any _ (read_at_held ty)
    eval_held (Postfix ty op x) p =
        then_any _ (λ q. updated_held c.structs ty (step_value c.structs op ty) old_value q (λ v. combined_held c.structs (step_operator op) ty (one_type ty) v (Word 1)) (λ v w j k. j))
    eval_held (Comma ty no_exprs) p = undefined_only (IsHeld ty) _
    eval_held (Comma ty (more_exprs x no_exprs)) p = no_true (rule_one (is_fit c.structs ty) (are_operands ty (more_exprs x no_exprs)) (are_typed c (more_exprs x no_exprs)) p)
    eval_held (Comma ty (more_exprs x (more_exprs y ys))) p =
        let xs = more_exprs x (more_exprs y ys) in
        let typed = one_typed (is_fit c.structs ty) (are_operands ty xs) (are_typed c xs) p in
        last_held ty (type_of x) (more_exprs y ys) (run x) (eval_held x (front (is_typed c x) (are_typed c (more_exprs y ys)) typed))
        (rule_one (is_fit c.structs ty) (are_operands ty xs) (are_typed c xs) p) (back (is_typed c x) (are_typed c (more_exprs y ys)) typed)

    last_held : (ty last : PlainType) (xs : Exprs) (first : Run Value) → Held last first → IsTrue (has_last_type ty last xs) → IsTrue (are_typed c xs)
        → Held ty (value_of_last c.structs c.locals f scope first xs)
    last_held ty last no_exprs first h r p = subst (λ t. Held t first) (same last ty (front (is_same_type last ty) (not (is_array last)) r)) h
    last_held ty last (more_exprs x xs) first h r p =
        then_any _ (λ v. last_held ty (type_of x) xs (run x) (eval_held x (front (is_typed c x) (are_typed c xs) p))
        (back (not (is_array last)) (has_last_type ty (type_of x) xs) r) (back (is_typed c x) (are_typed c xs) p))
