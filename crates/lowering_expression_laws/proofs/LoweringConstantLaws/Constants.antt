-- An integer constant gives its value: one induction over expressions.
use Rattle.std.proofs.Common.{◌≡◌, ℕ, Bool, true, false, not, ◌&&◌, IsTrue, List, Option, Some, None, refl, sym, ap, ◌∙◌}
use Rattle.std.specs.Prelude.{◌==◌, if◌then◌else◌, option_map, option_and_then, unwrap_or}
use Rattle.std.proofs.lemmas.Option.{none-some}
use Rattle.mem_model.specs.declared.value.Value.{Value}
use Rattle.mem_model.specs.declared.value.Value.TheVariants.{Word}
use Rattle.mem_model.specs.Ending.{Gives}
use Rattle.bk_arithmetic.specs.declared.integer_type.IntegerType.{IntegerType}
use Rattle.bk_arithmetic.specs.declared.integer_type.IntegerType.TheVariants as i
use Rattle.bk_arithmetic.specs.declared.outcome.ArithmeticOutcome.{ArithmeticOutcome}
use Rattle.bk_arithmetic.specs.declared.outcome.ArithmeticOutcome.TheVariants as o
use Rattle.bk_arithmetic.specs.IntegerTypes.{integer_type}
use Rattle.bk_arithmetic.specs.Operations.{conversion, negation, complement, truth}
use Rattle.c_tree.specs.declared.expressions.UnaryOp.{UnaryOp}
use Rattle.c_tree.specs.declared.expressions.UnaryOp.TheVariants as u
use Rattle.c_tree.specs.declared.expressions.BinaryOp.{BinaryOp}
use Rattle.c_tree.specs.declared.expressions.BinaryOp.TheVariants as b
use Rattle.c_typed_tree.specs.declared.types.StructDef.{StructDef}
use Rattle.c_typed_tree.specs.declared.units.Local as l
use Rattle.c_typed_tree.specs.Types.{PlainType, Void, Int, Pointer, Array, Struct}
use Rattle.c_typed_tree.specs.Layout.{integer_of}
use Rattle.c_typed_tree.specs.Constants.{integers_with, word_of, integer_with, unary_value, binary_value, converted_value, is_integer, is_built, both_values, and_value, or_value, choice_value, constant, last_value}
use Rattle.c_typed_tree.specs.Typing.{Context, is_promoted, is_same_type, is_fit, has_rule, is_typed, are_typed}
use Rattle.c_typed_tree.specs.Expressions.{Expr, Number, Local, Global, Call, Unary, Binary, Assign, Conditional, Cast, Convert, Index, Field, Arrow, Postfix, Comma, Exprs, no_exprs, more_exprs, type_of}
use Rattle.c_semantics.specs.Reasons.{UsesNoValue}
use Rattle.c_semantics.specs.Runs.{CallState, Run, and_then, use_value, ◌>>=◌}
use Rattle.c_semantics.specs.Objects as objects
use Rattle.c_semantics.specs.Objects.{Scope, ValuePlace}
use Rattle.c_semantics.specs.Operators.{outcome, integers, apply_binary, apply_unary, test, pure_truth, convert}
use Rattle.c_semantics.specs.Evaluates.{Functions, choose, converted_from, eval, place, value_of_last}
use Rattle.lowering_states.specs.model.Opens.{opens}
use Rattle.lowering_bounds.proofs.Typing.{one, two, three, same}
use Rattle.c_typing_struct_layout.proofs.CLayoutLaws.Truth.{front, back}
use Rattle.lowering_expression_laws.specs.lowering_constant_laws.Laws.{ConstantsAreGiven}

-- ---- options

absent : {X : Type 0} (n : ℕ) → None ≡ Some n → X
absent n e = absurd (none-some n e)

same_value : (m n : ℕ) → Some m ≡ Some n → m ≡ n
same_value m n e = cc

-- what was found on the way
pub record FoundValue (f : ℕ → Option ℕ) (first : Option ℕ) (n : ℕ) : Type 0 where
  pub value : ℕ
  pub is_there : first ≡ Some value
  pub leads : f value ≡ Some n

then_found : (f : ℕ → Option ℕ) (first : Option ℕ) (n : ℕ) → option_and_then f first ≡ Some n → FoundValue f first n
then_found f None n e = absent n e
then_found f (Some m) n e = record { value = m; is_there = refl; leads = e }

given_if : (t : Bool) (m n : ℕ) → (if t then Some m else None) ≡ Some n → m ≡ n
given_if true m n e = same_value m n e
given_if false m n e = absent n e

-- a run gives a word, and leaves the state
abbrev GivesWord : Run Value → ℕ → CallState → Type 0
GivesWord run n s = run s ≡ Gives (Word n) s

-- ---- operators

outcome_given : (z : ArithmeticOutcome) (n : ℕ) (s : CallState) → word_of z ≡ Some n → outcome z s ≡ Gives (Word n) s
unfolding opens
outcome_given (o.Word k) n s e = ap (λ z. Gives (Word z) s) (same_value k n e)
outcome_given (o.Trap code) n s e = absent n e
outcome_given o.Undefined n s e = absent n e

no_second : {X : Type 0} (op : BinaryOp) (t : Option IntegerType) (x y n : ℕ) → binary_value op t None x y ≡ Some n → X
no_second op None x y n e = absent n e
no_second op (Some t) x y n e = absent n e

integers_given : (op : BinaryOp) (t r : Option IntegerType) (x y n : ℕ) (s : CallState) → binary_value op t r x y ≡ Some n
    → integers op (unwrap_or t i.UnsignedLong) (unwrap_or r i.UnsignedLong) (Word x) (Word y) s ≡ Gives (Word n) s
unfolding opens
integers_given op None r x y n s e = absent n e
integers_given op (Some t) None x y n s e = absent n e
integers_given op (Some t) (Some r) x y n s e = outcome_given (integers_with op t r x y) n s e

operator_given : (ds : List StructDef) (op : BinaryOp) (left right : PlainType) (x y n : ℕ) (s : CallState) → binary_value op (integer_of left) (integer_of right) x y ≡ Some n
    → apply_binary ds op left right (Word x) (Word y) s ≡ Gives (Word n) s
operator_given ds op Void right x y n s e = absent n e
operator_given ds op (Pointer t) right x y n s e = absent n e
operator_given ds op (Array t k) right x y n s e = absent n e
operator_given ds op (Struct k) right x y n s e = absent n e
operator_given ds op (Int a c) Void x y n s e = no_second op (integer_type a c) x y n e
operator_given ds op (Int a c) (Pointer t) x y n s e = no_second op (integer_type a c) x y n e
operator_given ds op (Int a c) (Array t k) x y n s e = no_second op (integer_type a c) x y n e
operator_given ds op (Int a c) (Struct k) x y n s e = no_second op (integer_type a c) x y n e
operator_given ds op (Int a c) (Int b d) x y n s e = integers_given op (integer_type a c) (integer_type b d) x y n s e

both_given : (ds : List StructDef) (op : BinaryOp) (left right : PlainType) (run other : Run Value) (x y : Option ℕ) (n : ℕ) (s : CallState) → ((m : ℕ) → x ≡ Some m → GivesWord run m s) → ((m : ℕ) → y ≡ Some m → GivesWord other m s)
    → both_values (binary_value op (integer_of left) (integer_of right)) x y ≡ Some n → and_then (run s) (λ v t. and_then (other t) (λ w. apply_binary ds op left right v w)) ≡ Gives (Word n) s
both_given ds op left right run other x y n s hx hy e =
    let first = then_found (λ m. option_and_then (binary_value op (integer_of left) (integer_of right) m) y) x n e in
    let second = then_found (binary_value op (integer_of left) (integer_of right) first.value) y n first.leads in
    ap (λ z. and_then z (λ v t. and_then (other t) (λ w. apply_binary ds op left right v w))) (hx first.value first.is_there)
    ∙ ap (λ z. and_then z (λ w. apply_binary ds op left right (Word first.value) w)) (hy second.value second.is_there) ∙ operator_given ds op left right first.value second.value n s second.leads

-- in front of a word: by the type of the operand, which is the one of the whole but for `!`
minus_given : (t : Option IntegerType) (x n : ℕ) (s : CallState) → unary_value u.Minus t x ≡ Some n → outcome (negation (unwrap_or t i.UnsignedLong) x) s ≡ Gives (Word n) s
minus_given None x n s e = absent n e
minus_given (Some t) x n s e = outcome_given (negation t x) n s e

invert_given : (t : Option IntegerType) (x n : ℕ) → unary_value u.Invert t x ≡ Some n → complement (unwrap_or t i.UnsignedLong) x ≡ n
invert_given None x n e = absent n e
invert_given (Some t) x n e = same_value (complement t x) n e

plus_given : (t : Option IntegerType) (x n : ℕ) → unary_value u.Plus t x ≡ Some n → x ≡ n
plus_given None x n e = absent n e
plus_given (Some t) x n e = same_value x n e

not_given : (t : Option IntegerType) (x n : ℕ) → unary_value u.Not t x ≡ Some n → truth (x == 0) ≡ n
not_given None x n e = absent n e
not_given (Some t) x n e = same_value (truth (x == 0)) n e

no_operator : {X : Type 0} (op : UnaryOp) (t : Option IntegerType) (x n : ℕ) → ((r : IntegerType) → integer_with op r x ≡ None) → unary_value op t x ≡ Some n → X
no_operator op None x n h e = absent n e
no_operator op (Some t) x n h e = absent n (sym (h t) ∙ e)

integer_is : (ty : PlainType) → objects.integer_or_word ty ≡ unwrap_or (integer_of ty) i.UnsignedLong
integer_is Void = refl
integer_is (Int a c) = refl
integer_is (Pointer t) = refl
integer_is (Array t k) = refl
integer_is (Struct k) = refl

-- ---- tests

tested : (x : ℕ) (s : CallState) (holds fails : Run Value) → and_then (test (Word x) s) (choose holds fails) ≡ (if x == 0 then fails else holds) s
unfolding opens
tested x s holds fails = by (x == 0)
  where
    by : (z : Bool) → (if not z then holds else fails) s ≡ (if z then fails else holds) s
    by true = refl
    by false = refl

truths : (z : Bool) (s : CallState) → (if z then pure_truth true else pure_truth false) s ≡ Gives (Word (truth z)) s
unfolding opens
truths true s = refl
truths false s = refl

truth_given : (y : Option ℕ) (n : ℕ) (run : Run Value) (s : CallState) → ((m : ℕ) → y ≡ Some m → GivesWord run m s) → option_map (λ m. truth (not (m == 0))) y ≡ Some n
    → and_then (and_then (run s) test) pure_truth ≡ Gives (Word n) s
unfolding opens
truth_given None n run s h e = absent n e
truth_given (Some m) n run s h e = ap (λ z. and_then (and_then z test) pure_truth) (h m refl) ∙ ap (λ z. Gives (Word z) s) (same_value (truth (not (m == 0))) n e)

word_is : (m n : ℕ) (s : CallState) → Some m ≡ Some n → Gives (Word m) s ≡ Gives (Word n) s
word_is m n s e = ap (λ z. Gives (Word z) s) (same_value m n e)

-- what a test of a word leads to
module _ (run : Run Value) (x : Option ℕ) (s : CallState) (hx : (m : ℕ) → x ≡ Some m → GivesWord run m s) where
  chosen : (m : ℕ) (holds fails : Run Value) → x ≡ Some m → and_then (and_then (run s) test) (choose holds fails) ≡ (if m == 0 then fails else holds) s
  chosen m holds fails e = ap (λ z. and_then (and_then z test) (choose holds fails)) (hx m e) ∙ tested m s holds fails

  by_test : (t : Bool) (holds fails : Run Value) (p q : Option ℕ) (n : ℕ) → (p ≡ Some n → GivesWord holds n s) → (q ≡ Some n → GivesWord fails n s) → (if t then q else p) ≡ Some n → (if t then fails else holds) s ≡ Gives (Word n) s
  by_test true holds fails p q n h g e = g e
  by_test false holds fails p q n h g e = h e

  and_given : (built : Bool) (y : Option ℕ) (other : Run Value) (n : ℕ) → ((m : ℕ) → y ≡ Some m → GivesWord other m s) → and_value x built y ≡ Some n
      → and_then (and_then (run s) test) (choose (other >>= test >>= pure_truth) (pure_truth false)) ≡ Gives (Word n) s
  unfolding opens
  and_given built y other n hy e = by x refl built e
    where
      by : (z : Option ℕ) → x ≡ z → (built : Bool) → and_value z built y ≡ Some n → and_then (and_then (run s) test) (choose (other >>= test >>= pure_truth) (pure_truth false)) ≡ Gives (Word n) s
      by None f built e = absent n e
      by (Some m) f false e = absent n e
      by (Some m) f true e =
          chosen m (other >>= test >>= pure_truth) (pure_truth false) f
          ∙ by_test (m == 0) (other >>= test >>= pure_truth) (pure_truth false) (option_map (λ k. truth (not (k == 0))) y) (Some 0) n (truth_given y n other s hy) (word_is 0 n s) e

  or_given : (built : Bool) (y : Option ℕ) (other : Run Value) (n : ℕ) → ((m : ℕ) → y ≡ Some m → GivesWord other m s) → or_value x built y ≡ Some n
      → and_then (and_then (run s) test) (choose (pure_truth true) (other >>= test >>= pure_truth)) ≡ Gives (Word n) s
  unfolding opens
  or_given built y other n hy e = by x refl built e
    where
      by : (z : Option ℕ) → x ≡ z → (built : Bool) → or_value z built y ≡ Some n → and_then (and_then (run s) test) (choose (pure_truth true) (other >>= test >>= pure_truth)) ≡ Gives (Word n) s
      by None f built e = absent n e
      by (Some m) f false e = absent n e
      by (Some m) f true e =
          chosen m (pure_truth true) (other >>= test >>= pure_truth) f
          ∙ by_test (m == 0) (pure_truth true) (other >>= test >>= pure_truth) (Some 1) (option_map (λ k. truth (not (k == 0))) y) n (word_is 1 n s) (truth_given y n other s hy) e

  choice_given : (built : Bool) (y z : Option ℕ) (holds fails : Run Value) (n : ℕ) → ((m : ℕ) → y ≡ Some m → GivesWord holds m s) → ((m : ℕ) → z ≡ Some m → GivesWord fails m s) → choice_value x built y z ≡ Some n
      → and_then (and_then (run s) test) (choose holds fails) ≡ Gives (Word n) s
  choice_given built y z holds fails n hy hz e = by x refl built e
    where
      by : (w : Option ℕ) → x ≡ w → (built : Bool) → choice_value w built y z ≡ Some n → and_then (and_then (run s) test) (choose holds fails) ≡ Gives (Word n) s
      by None f built e = absent n e
      by (Some m) f false e = absent n e
      by (Some m) f true e = chosen m holds fails f ∙ by_test (m == 0) holds fails y z n (hy n) (hz n) e

-- ---- conversions

word_converted : (s t : Option IntegerType) (m n : ℕ) → converted_value s t m ≡ Some n → conversion (unwrap_or s i.UnsignedLong) (unwrap_or t i.UnsignedLong) m ≡ n
word_converted None t m n e = absent n e
word_converted (Some s) None m n e = absent n e
word_converted (Some s) (Some t) m n e = same_value (conversion s t m) n e

no_target : {X : Type 0} (s : Option IntegerType) (m n : ℕ) → converted_value s None m ≡ Some n → X
no_target None m n e = absent n e
no_target (Some s) m n e = absent n e

converted_given : (from to : PlainType) (run : Run Value) (at : Run ValuePlace) (x : Option ℕ) (n : ℕ) (s : CallState) → ((m : ℕ) → x ≡ Some m → GivesWord run m s) → option_and_then (converted_value (integer_of from) (integer_of to)) x ≡ Some n
    → converted_from from to run at s ≡ Gives (Word n) s
unfolding opens
converted_given from to run at x n s hx e = by from to (then_found (converted_value (integer_of from) (integer_of to)) x n e)
  where
    by : (from to : PlainType) → FoundValue (converted_value (integer_of from) (integer_of to)) x n → converted_from from to run at s ≡ Gives (Word n) s
    by Void to h = absent n h.leads
    by (Pointer t) to h = absent n h.leads
    by (Array t k) to h = absent n h.leads
    by (Struct k) to h = absent n h.leads
    by (Int a c) Void h = no_target (integer_type a c) h.value n h.leads
    by (Int a c) (Pointer t) h = no_target (integer_type a c) h.value n h.leads
    by (Int a c) (Array t k) h = no_target (integer_type a c) h.value n h.leads
    by (Int a c) (Struct k) h = no_target (integer_type a c) h.value n h.leads
    by (Int a c) (Int b d) h = ap (λ z. and_then z (convert (Int a c) (Int b d))) (hx h.value h.is_there) ∙ ap (λ z. Gives (Word z) s) (word_converted (integer_type a c) (integer_type b d) h.value n h.leads)

-- ---- expressions

module _ (k : Context) (ls : List l.Local) (functions : Functions) (scope : Scope) where
  abbrev GivesConstant : Expr → ℕ → CallState → Type 0
  GivesConstant x n s = GivesWord (eval k.structs ls functions scope x) n s

  same_as : (ty : PlainType) (x : Expr) → IsTrue (is_promoted (type_of x) && is_same_type (type_of x) ty) → type_of x ≡ ty
  same_as ty x h = same (type_of x) ty (back (is_promoted (type_of x)) (is_same_type (type_of x) ty) h)

  operands : (op : BinaryOp) (x y : Expr) (n : ℕ) (s : CallState) → ((m : ℕ) → constant x ≡ Some m → GivesConstant x m s) → ((m : ℕ) → constant y ≡ Some m → GivesConstant y m s) → both_values (binary_value op (integer_of (type_of x)) (integer_of (type_of y))) (constant x) (constant y) ≡ Some n
      → and_then (eval k.structs ls functions scope x s) (λ v t. and_then (eval k.structs ls functions scope y t) (λ w. apply_binary k.structs op (type_of x) (type_of y) v w)) ≡ Gives (Word n) s
  operands op x y n s hx hy e = both_given k.structs op (type_of x) (type_of y) (eval k.structs ls functions scope x) (eval k.structs ls functions scope y) (constant x) (constant y) n s hx hy e

  typed_operands : (ty : PlainType) (op : BinaryOp) (x y : Expr) → IsTrue (is_typed k (Binary ty op x y)) → IsTrue (has_rule k (Binary ty op x y)) × IsTrue (is_typed k x) × IsTrue (is_typed k y)
  typed_operands ty op x y h = two (is_fit k.structs ty) (has_rule k (Binary ty op x y)) (is_typed k x) (is_typed k y) h

  mutual
    unfolding opens

    given : (x : Expr) (n : ℕ) → IsTrue (is_typed k x) → constant x ≡ Some n → (s : CallState) → GivesConstant x n s
    given (Number ty m) n h e s = ap (λ z. Gives (Word z) s) (given_if (is_integer ty) m n e)
    given (Local ty j) n h e s = absent n e
    given (Global ty j) n h e s = absent n e
    given (Call ty callee xs) n h e s = absent n e
    given (Unary ty u.Plus x) n h e s =
        let o = one (is_fit k.structs ty) (has_rule k (Unary ty u.Plus x)) (is_typed k x) h in
        let f = then_found (unary_value u.Plus (integer_of (type_of x))) (constant x) n e in
        ap (λ z. and_then z (use_value UsesNoValue)) (given x f.value o.1 f.is_there s) ∙ ap (λ z. Gives (Word z) s) (plus_given (integer_of (type_of x)) f.value n f.leads)
    given (Unary ty u.Minus x) n h e s =
        let o = one (is_fit k.structs ty) (has_rule k (Unary ty u.Minus x)) (is_typed k x) h in
        let f = then_found (unary_value u.Minus (integer_of (type_of x))) (constant x) n e in
        ap (λ z. and_then z (apply_unary u.Minus ty)) (given x f.value o.1 f.is_there s)
        ∙ ap (λ z. outcome (negation z f.value) s) (ap objects.integer_or_word (sym (same_as ty x o.0)) ∙ integer_is (type_of x)) ∙ minus_given (integer_of (type_of x)) f.value n s f.leads
    given (Unary ty u.Invert x) n h e s =
        let o = one (is_fit k.structs ty) (has_rule k (Unary ty u.Invert x)) (is_typed k x) h in
        let f = then_found (unary_value u.Invert (integer_of (type_of x))) (constant x) n e in
        ap (λ z. and_then z (apply_unary u.Invert ty)) (given x f.value o.1 f.is_there s)
        ∙ ap (λ z. Gives (Word (complement z f.value)) s) (ap objects.integer_or_word (sym (same_as ty x o.0)) ∙ integer_is (type_of x))
        ∙ ap (λ z. Gives (Word z) s) (invert_given (integer_of (type_of x)) f.value n f.leads)
    given (Unary ty u.Not x) n h e s =
        let o = one (is_fit k.structs ty) (has_rule k (Unary ty u.Not x)) (is_typed k x) h in
        let f = then_found (unary_value u.Not (integer_of (type_of x))) (constant x) n e in
        ap (λ z. and_then (and_then z test) (choose (pure_truth false) (pure_truth true))) (given x f.value o.1 f.is_there s)
        ∙ tested f.value s (pure_truth false) (pure_truth true) ∙ truths (f.value == 0) s ∙ ap (λ z. Gives (Word z) s) (not_given (integer_of (type_of x)) f.value n f.leads)
    given (Unary ty u.Increment x) n h e s = let f = then_found (unary_value u.Increment (integer_of (type_of x))) (constant x) n e in no_operator u.Increment (integer_of (type_of x)) f.value n (λ t. refl) f.leads
    given (Unary ty u.Decrement x) n h e s = let f = then_found (unary_value u.Decrement (integer_of (type_of x))) (constant x) n e in no_operator u.Decrement (integer_of (type_of x)) f.value n (λ t. refl) f.leads
    given (Unary ty u.Address x) n h e s = let f = then_found (unary_value u.Address (integer_of (type_of x))) (constant x) n e in no_operator u.Address (integer_of (type_of x)) f.value n (λ t. refl) f.leads
    given (Unary ty u.Dereference x) n h e s = let f = then_found (unary_value u.Dereference (integer_of (type_of x))) (constant x) n e in no_operator u.Dereference (integer_of (type_of x)) f.value n (λ t. refl) f.leads
    given (Binary ty b.Or x y) n h e s = operands b.Or x y n s (λ m f. given x m (typed_operands ty b.Or x y h).1 f s) (λ m f. given y m (typed_operands ty b.Or x y h).2 f s) e
    given (Binary ty b.Xor x y) n h e s = operands b.Xor x y n s (λ m f. given x m (typed_operands ty b.Xor x y h).1 f s) (λ m f. given y m (typed_operands ty b.Xor x y h).2 f s) e
    given (Binary ty b.And x y) n h e s = operands b.And x y n s (λ m f. given x m (typed_operands ty b.And x y h).1 f s) (λ m f. given y m (typed_operands ty b.And x y h).2 f s) e
    given (Binary ty b.Equal x y) n h e s = operands b.Equal x y n s (λ m f. given x m (typed_operands ty b.Equal x y h).1 f s) (λ m f. given y m (typed_operands ty b.Equal x y h).2 f s) e
    given (Binary ty b.NotEqual x y) n h e s = operands b.NotEqual x y n s (λ m f. given x m (typed_operands ty b.NotEqual x y h).1 f s) (λ m f. given y m (typed_operands ty b.NotEqual x y h).2 f s) e
    given (Binary ty b.Less x y) n h e s = operands b.Less x y n s (λ m f. given x m (typed_operands ty b.Less x y h).1 f s) (λ m f. given y m (typed_operands ty b.Less x y h).2 f s) e
    given (Binary ty b.Greater x y) n h e s = operands b.Greater x y n s (λ m f. given x m (typed_operands ty b.Greater x y h).1 f s) (λ m f. given y m (typed_operands ty b.Greater x y h).2 f s) e
    given (Binary ty b.LessEqual x y) n h e s = operands b.LessEqual x y n s (λ m f. given x m (typed_operands ty b.LessEqual x y h).1 f s) (λ m f. given y m (typed_operands ty b.LessEqual x y h).2 f s) e
    given (Binary ty b.GreaterEqual x y) n h e s = operands b.GreaterEqual x y n s (λ m f. given x m (typed_operands ty b.GreaterEqual x y h).1 f s) (λ m f. given y m (typed_operands ty b.GreaterEqual x y h).2 f s) e
    given (Binary ty b.ShiftLeft x y) n h e s = operands b.ShiftLeft x y n s (λ m f. given x m (typed_operands ty b.ShiftLeft x y h).1 f s) (λ m f. given y m (typed_operands ty b.ShiftLeft x y h).2 f s) e
    given (Binary ty b.ShiftRight x y) n h e s = operands b.ShiftRight x y n s (λ m f. given x m (typed_operands ty b.ShiftRight x y h).1 f s) (λ m f. given y m (typed_operands ty b.ShiftRight x y h).2 f s) e
    given (Binary ty b.Add x y) n h e s = operands b.Add x y n s (λ m f. given x m (typed_operands ty b.Add x y h).1 f s) (λ m f. given y m (typed_operands ty b.Add x y h).2 f s) e
    given (Binary ty b.Subtract x y) n h e s = operands b.Subtract x y n s (λ m f. given x m (typed_operands ty b.Subtract x y h).1 f s) (λ m f. given y m (typed_operands ty b.Subtract x y h).2 f s) e
    given (Binary ty b.Multiply x y) n h e s = operands b.Multiply x y n s (λ m f. given x m (typed_operands ty b.Multiply x y h).1 f s) (λ m f. given y m (typed_operands ty b.Multiply x y h).2 f s) e
    given (Binary ty b.Divide x y) n h e s = operands b.Divide x y n s (λ m f. given x m (typed_operands ty b.Divide x y h).1 f s) (λ m f. given y m (typed_operands ty b.Divide x y h).2 f s) e
    given (Binary ty b.Remainder x y) n h e s = operands b.Remainder x y n s (λ m f. given x m (typed_operands ty b.Remainder x y h).1 f s) (λ m f. given y m (typed_operands ty b.Remainder x y h).2 f s) e
    given (Binary ty b.LogicalAnd x y) n h e s =
        let o = typed_operands ty b.LogicalAnd x y h in
        and_given (eval k.structs ls functions scope x) (constant x) s (λ m f. given x m o.1 f s) (is_built y) (constant y) (eval k.structs ls functions scope y) n (λ m f. given y m o.2 f s) e
    given (Binary ty b.LogicalOr x y) n h e s =
        let o = typed_operands ty b.LogicalOr x y h in
        or_given (eval k.structs ls functions scope x) (constant x) s (λ m f. given x m o.1 f s) (is_built y) (constant y) (eval k.structs ls functions scope y) n (λ m f. given y m o.2 f s) e
    given (Assign ty op x y) n h e s = absent n e
    given (Conditional ty x y z) n h e s =
        let o = three (is_fit k.structs ty) (has_rule k (Conditional ty x y z)) (is_typed k x) (is_typed k y) (is_typed k z) h in
        choice_given (eval k.structs ls functions scope x) (constant x) s (λ m f. given x m o.1 f s) (is_built y && is_built z) (constant y) (constant z) (eval k.structs ls functions scope y) (eval k.structs ls functions scope z) n
        (λ m f. given y m o.2 f s) (λ m f. given z m o.3 f s) e
    given (Cast ty x) n h e s =
        let o = one (is_fit k.structs ty) (has_rule k (Cast ty x)) (is_typed k x) h in
        converted_given (type_of x) ty (eval k.structs ls functions scope x) (place k.structs ls functions scope x) (constant x) n s (λ m f. given x m o.1 f s) e
    given (Convert ty x) n h e s =
        let o = one (is_fit k.structs ty) (has_rule k (Convert ty x)) (is_typed k x) h in
        converted_given (type_of x) ty (eval k.structs ls functions scope x) (place k.structs ls functions scope x) (constant x) n s (λ m f. given x m o.1 f s) e
    given (Index ty x y) n h e s = absent n e
    given (Field ty x member) n h e s = absent n e
    given (Arrow ty x member) n h e s = absent n e
    given (Postfix ty op x) n h e s = absent n e
    given (Comma ty no_exprs) n h e s = absent n e
    given (Comma ty (more_exprs x xs)) n h e s =
        let all = back (is_fit k.structs ty && has_rule k (Comma ty (more_exprs x xs))) (are_typed k (more_exprs x xs)) h in
        given_last xs (eval k.structs ls functions scope x) (constant x) n (λ m f t. given x m (front (is_typed k x) (are_typed k xs) all) f t) (back (is_typed k x) (are_typed k xs) all) e s

    given_last : (xs : Exprs) (run : Run Value) (first : Option ℕ) (n : ℕ) → ((m : ℕ) → first ≡ Some m → (s : CallState) → GivesWord run m s) → IsTrue (are_typed k xs) → last_value first xs ≡ Some n
        → (s : CallState) → GivesWord (value_of_last k.structs ls functions scope run xs) n s
    given_last no_exprs run first n g h e s = g n e s
    given_last (more_exprs x xs) run first n g h e s =
        let f = then_found (λ _. last_value (constant x) xs) first n e in
        ap (λ z. and_then z (λ _. value_of_last k.structs ls functions scope (eval k.structs ls functions scope x) xs)) (g f.value f.is_there s)
        ∙ given_last xs (eval k.structs ls functions scope x) (constant x) n (λ m d t. given x m (front (is_typed k x) (are_typed k xs) h) d t) (back (is_typed k x) (are_typed k xs) h) f.leads s

pub constants_are_given : ConstantsAreGiven
constants_are_given k ls functions scope x n h e s = given k ls functions scope x n h e s
