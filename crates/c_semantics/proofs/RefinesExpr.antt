-- A refinement in the place of a part refines the whole expression: one line for each form.
use Rattle.std.proofs.Common.{◌≡◌, ◌≤◌, ◌+◌, ℕ, List, [], ◌∷◌, Bool, true, false, ◌&&◌, ◌||◌, not, IsTrue, Option, Some, None, refl, sym, ap, ◌∙◌, subst, arith, option_and_then}
use Rattle.std.proofs.lemmas.Option.{none-some}
use Rattle.mem_model.specs.declared.value.Value.{Value}
use Rattle.c_tree.specs.declared.expressions.UnaryOp.{UnaryOp}
use Rattle.c_tree.specs.declared.expressions.UnaryOp.TheVariants as u
use Rattle.c_tree.specs.declared.expressions.BinaryOp.{BinaryOp}
use Rattle.c_tree.specs.declared.expressions.BinaryOp.TheVariants as b
use Rattle.c_tree.specs.declared.expressions.AssignOp.{AssignOp}
use Rattle.c_tree.specs.declared.expressions.StepOp.{StepOp}
use Rattle.c_tree.specs.declared.expressions.StepOp.TheVariants as steps
use Rattle.c_typed_tree.specs.declared.expressions.Callee.{Callee}
use Rattle.c_typed_tree.specs.Types.{PlainType, Pointer}
use Rattle.c_typed_tree.specs.Expressions.{Expr, Call, Unary, Binary, Assign, Conditional, Cast, Convert, Index, Field, Arrow, Postfix, Comma, Exprs, no_exprs, more_exprs, type_of}
use Rattle.c_typed_tree.specs.Layout.{integer_of}
use Rattle.c_typed_tree.specs.Constants.{is_integer, is_pure_operator, is_built, are_built, unary_value, converted_value, value_with, constant, last_value, is_null_constant}
use Rattle.c_typed_tree.specs.Typing.{Context, Signature, is_fit, is_same_type, is_array, has_promoted_type, has_truth_type, has_step_type, has_binary_type, has_assigned_type, is_choice, is_cast, is_conversion, is_element, is_member, points_to, callee_signature, is_call, are_arguments, is_place, is_in_memory, has_last_type, are_operands, has_unary_type, has_rule, is_typed, are_typed}
use Rattle.c_typed_tree.specs.Typing as rules
use Rattle.c_typed_tree.specs.Names.{Referent, is_callee, names, any_names}
use Rattle.c_typed_tree.specs.Weight.{exprs_count, expr_weight, exprs_weight}
use Rattle.c_semantics.specs.Runs.{Run}
use Rattle.c_semantics.specs.Objects.{Scope}
use Rattle.c_semantics.specs.Operators.{apply_binary, operator_of}
use Rattle.c_semantics.specs.Evaluates.{Functions, element_pointer, member_pointer, target_of, new_value, old_value, assign_value, converted_from, eval, place, evals, value_of_last}
use Rattle.c_semantics.specs.Refines as form
use Rattle.c_semantics.specs.Refines.{IsBelow, IgnorePeak, RefinesIn, ExprRefines, ExprWithin, ExprsWithin}
use Rattle.std.proofs.lemmas.Option.{none-some}
use Rattle.c_semantics.proofs.Facts.{no_true, front, back, also, both_on, either_on, along, three, four, five, Keeps, keeps_then, keeps_with, keeps_choice, keeps_zero, cast_on, conversion_on}
use Rattle.c_semantics.proofs.Forms as forms
use Rattle.c_semantics.proofs.Below.{below_refines, refines_below, onto, BelowOf, kept_below}

-- ---- what a refinement is from a state with a lower peak

-- as `RefinesIn`, with runs that are compared from such states
pub record Inside (c : Context) (x y : Expr) : Type 0 where
  pub typed : IsTrue (is_typed c x)
  pub types : type_of x ≡ type_of y
  pub named : (a : Referent) → IsTrue (names a x) → IsTrue (names a y)
  pub weight : expr_weight c.structs x ≤ expr_weight c.structs y
  pub places : IsTrue (is_place y) → IsTrue (is_place x)
  pub memory : IsTrue (is_in_memory c.locals y) → IsTrue (is_in_memory c.locals x)
  pub constants : (n : ℕ) → constant y ≡ Some n → constant x ≡ Some n
  pub built : IsTrue (is_built y) → IsTrue (is_built x)
  pub value : (f : Functions) → IgnorePeak f → (scope : Scope)
      → IsBelow (eval c.structs c.locals f scope x) (eval c.structs c.locals f scope y)
  pub stands : (f : Functions) → IgnorePeak f → (scope : Scope)
      → IsBelow (place c.structs c.locals f scope x) (place c.structs c.locals f scope y)

inside : (c : Context) (x y : Expr) → RefinesIn c x y → Inside c x y
inside c x y h = record {
  typed = h.typed;
  types = h.types;
  named = h.named;
  weight = h.weight;
  places = h.places;
  memory = h.memory;
  constants = h.constants;
  built = h.built;
  value = λ f i scope. refines_below (forms.eval_related BelowOf kept_below c.structs c.locals f f i scope y) (h.value f i scope);
  stands = λ f i scope. refines_below (forms.place_related BelowOf kept_below c.structs c.locals f f i scope y) (h.stands f i scope);
}

-- ---- forms of one part

module _ (c : Context) {x y : Expr} (h : Inside c x y) where
  null_on : IsTrue (is_null_constant y) → IsTrue (is_null_constant x)
  null_on n = keeps_zero (constant x) (constant y) h.constants n

  unary_rule : (t : PlainType) (op : UnaryOp) → IsTrue (has_unary_type c.structs c.locals op t y) → IsTrue (has_unary_type c.structs c.locals op t x)
  unary_rule t u.Increment r = both_on (has_step_type c.structs t (type_of y)) (is_place y) (has_step_type c.structs t (type_of x)) (is_place x) (along (λ o. has_step_type c.structs t o) h.types) h.places r
  unary_rule t u.Decrement r = both_on (has_step_type c.structs t (type_of y)) (is_place y) (has_step_type c.structs t (type_of x)) (is_place x) (along (λ o. has_step_type c.structs t o) h.types) h.places r
  unary_rule t u.Address r = both_on (is_same_type t (Pointer (type_of y))) (is_in_memory c.locals y) (is_same_type t (Pointer (type_of x))) (is_in_memory c.locals x) (along (λ o. is_same_type t (Pointer o)) h.types) h.memory r
  unary_rule t u.Dereference r = along (λ o. points_to c.structs t o) h.types r
  unary_rule t u.Plus r = along (λ o. has_promoted_type t o) h.types r
  unary_rule t u.Minus r = along (λ o. has_promoted_type t o) h.types r
  unary_rule t u.Invert r = along (λ o. has_promoted_type t o) h.types r
  unary_rule t u.Not r = along (λ o. has_truth_type t o) h.types r

  unary_place : (t : PlainType) (op : UnaryOp) → IsTrue (is_place (Unary t op y)) → IsTrue (is_place (Unary t op x))
  unary_place t u.Increment p = p
  unary_place t u.Decrement p = p
  unary_place t u.Address p = p
  unary_place t u.Dereference p = p
  unary_place t u.Plus p = p
  unary_place t u.Minus p = p
  unary_place t u.Invert p = p
  unary_place t u.Not p = p

  unary_value_on : (t : PlainType) (op : UnaryOp) (f : Functions) (i : IgnorePeak f) (scope : Scope) → IsBelow (eval c.structs c.locals f scope (Unary t op x)) (eval c.structs c.locals f scope (Unary t op y))
  unary_value_on t u.Increment f i scope = kept_below.bind (h.stands f i scope) ((forms.related_update BelowOf kept_below) c.structs t new_value ((forms.steady_stepped BelowOf kept_below) c.structs steps.Increment t))
  unary_value_on t u.Decrement f i scope = kept_below.bind (h.stands f i scope) ((forms.related_update BelowOf kept_below) c.structs t new_value ((forms.steady_stepped BelowOf kept_below) c.structs steps.Decrement t))
  unary_value_on t u.Address f i scope = kept_below.bind (h.stands f i scope) (forms.steady_pointer BelowOf kept_below)
  unary_value_on t u.Dereference f i scope = kept_below.bind (kept_below.bind (h.value f i scope) ((forms.steady_used BelowOf kept_below) _)) ((forms.steady_read_at BelowOf kept_below) t)
  unary_value_on t u.Plus f i scope = kept_below.bind (h.value f i scope) ((forms.steady_plus BelowOf kept_below) t)
  unary_value_on t u.Minus f i scope = kept_below.bind (h.value f i scope) ((forms.steady_minus BelowOf kept_below) t)
  unary_value_on t u.Invert f i scope = kept_below.bind (h.value f i scope) ((forms.steady_invert BelowOf kept_below) t)
  unary_value_on t u.Not f i scope = kept_below.bind (kept_below.bind (h.value f i scope) (forms.steady_test BelowOf kept_below)) ((forms.related_choose BelowOf kept_below) ((forms.steady_truth BelowOf kept_below) false) ((forms.steady_truth BelowOf kept_below) true))

  unary_stands : (t : PlainType) (op : UnaryOp) (f : Functions) (i : IgnorePeak f) (scope : Scope) → IsBelow (place c.structs c.locals f scope (Unary t op x)) (place c.structs c.locals f scope (Unary t op y))
  unary_stands t u.Increment f i scope = kept_below.undefined _
  unary_stands t u.Decrement f i scope = kept_below.undefined _
  unary_stands t u.Address f i scope = kept_below.undefined _
  unary_stands t u.Dereference f i scope = kept_below.bind (kept_below.bind (h.value f i scope) ((forms.steady_used BelowOf kept_below) _)) (λ p. kept_below.pure _)
  unary_stands t u.Plus f i scope = kept_below.undefined _
  unary_stands t u.Minus f i scope = kept_below.undefined _
  unary_stands t u.Invert f i scope = kept_below.undefined _
  unary_stands t u.Not f i scope = kept_below.undefined _

  unary_refines : (t : PlainType) (op : UnaryOp) → IsTrue (is_fit c.structs t) → IsTrue (has_rule c (Unary t op y)) → Inside c (Unary t op x) (Unary t op y)
  unfolding expr_weight
  unary_refines t op fit rule = record {
    typed = three (is_fit c.structs t) (has_rule c (Unary t op x)) (is_typed c x) fit (unary_rule t op rule) h.typed;
    types = refl;
    named = h.named;
    weight = omega (arith, h.weight);
    places = unary_place t op;
    memory = unary_place t op;
    constants = λ n e. subst (λ o. option_and_then (unary_value op (integer_of o)) (constant x) ≡ Some n) (sym h.types) (keeps_then (unary_value op (integer_of (type_of y))) (constant x) (constant y) h.constants n e);
    built = both_on (is_integer t && is_pure_operator op) (is_built y) (is_integer t && is_pure_operator op) (is_built x) (λ p. p) h.built;
    value = unary_value_on t op;
    stands = unary_stands t op;
  }

  cast_refines : (t : PlainType) → IsTrue (is_fit c.structs t) → IsTrue (has_rule c (Cast t y)) → Inside c (Cast t x) (Cast t y)
  unfolding expr_weight
  cast_refines t fit rule = record {
    typed = three (is_fit c.structs t) (has_rule c (Cast t x)) (is_typed c x) fit (along (λ from. is_cast t from (is_null_constant x)) h.types (cast_on t (type_of y) (is_null_constant y) (is_null_constant x) null_on rule)) h.typed;
    types = refl;
    named = h.named;
    weight = omega (arith, h.weight);
    places = λ p. p;
    memory = λ p. p;
    constants = λ n e. subst (λ o. option_and_then (converted_value (integer_of o) (integer_of t)) (constant x) ≡ Some n) (sym h.types) (keeps_then (converted_value (integer_of (type_of y)) (integer_of t)) (constant x) (constant y) h.constants n e);
    built = both_on (is_integer t) (is_built y) (is_integer t) (is_built x) (λ p. p) h.built;
    value = λ f i scope. subst (λ from. IsBelow (eval c.structs c.locals f scope (Cast t x)) (converted_from from t (eval c.structs c.locals f scope y) (place c.structs c.locals f scope y))) h.types ((forms.related_converted BelowOf kept_below) (type_of x) t (h.value f i scope) (h.stands f i scope));
    stands = λ f i scope. kept_below.undefined _;
  }

  convert_refines : (t : PlainType) → IsTrue (is_fit c.structs t) → IsTrue (has_rule c (Convert t y)) → Inside c (Convert t x) (Convert t y)
  unfolding expr_weight
  convert_refines t fit rule = record {
    typed = three (is_fit c.structs t) (has_rule c (Convert t x)) (is_typed c x) fit (along (λ from. is_conversion t from (is_null_constant x) (is_place x)) h.types (conversion_on t (type_of y) (is_null_constant y) (is_null_constant x) (is_place y) (is_place x) null_on h.places rule)) h.typed;
    types = refl;
    named = h.named;
    weight = omega (arith, h.weight);
    places = λ p. p;
    memory = λ p. p;
    constants = λ n e. subst (λ o. option_and_then (converted_value (integer_of o) (integer_of t)) (constant x) ≡ Some n) (sym h.types) (keeps_then (converted_value (integer_of (type_of y)) (integer_of t)) (constant x) (constant y) h.constants n e);
    built = both_on (is_integer t) (is_built y) (is_integer t) (is_built x) (λ p. p) h.built;
    value = λ f i scope. subst (λ from. IsBelow (eval c.structs c.locals f scope (Convert t x)) (converted_from from t (eval c.structs c.locals f scope y) (place c.structs c.locals f scope y))) h.types ((forms.related_converted BelowOf kept_below) (type_of x) t (h.value f i scope) (h.stands f i scope));
    stands = λ f i scope. kept_below.undefined _;
  }

  field_refines : (t : PlainType) (m : ℕ) → IsTrue (is_fit c.structs t) → IsTrue (has_rule c (Field t y m)) → Inside c (Field t x m) (Field t y m)
  unfolding expr_weight
  field_refines t m fit rule = record {
    typed = three (is_fit c.structs t) (has_rule c (Field t x m)) (is_typed c x) fit (both_on (is_place y) (is_member c.structs t (type_of y) m) (is_place x) (is_member c.structs t (type_of x) m) h.places (along (λ o. is_member c.structs t o m) h.types) rule) h.typed;
    types = refl;
    named = h.named;
    weight = omega (arith, h.weight);
    places = h.places;
    memory = h.memory;
    constants = λ n e. absurd (none-some n e);
    built = λ p. p;
    value = λ f i scope. kept_below.bind (kept_below.bind (kept_below.bind (h.stands f i scope) (forms.steady_pointer BelowOf kept_below)) (λ p. onto (ap (λ o. member_pointer c.structs o m p) h.types) (forms.steady_member BelowOf kept_below c.structs c.locals f f i (type_of x) m p))) ((forms.steady_read_at BelowOf kept_below) t);
    stands = λ f i scope. kept_below.bind (kept_below.bind (kept_below.bind (h.stands f i scope) (forms.steady_pointer BelowOf kept_below)) (λ p. onto (ap (λ o. member_pointer c.structs o m p) h.types) (forms.steady_member BelowOf kept_below c.structs c.locals f f i (type_of x) m p))) (λ p. kept_below.pure _);
  }

  arrow_refines : (t : PlainType) (m : ℕ) → IsTrue (is_fit c.structs t) → IsTrue (has_rule c (Arrow t y m)) → Inside c (Arrow t x m) (Arrow t y m)
  unfolding expr_weight
  arrow_refines t m fit rule = record {
    typed = three (is_fit c.structs t) (has_rule c (Arrow t x m)) (is_typed c x) fit (along (λ o. is_member c.structs t (rules.target_of o) m) h.types rule) h.typed;
    types = refl;
    named = h.named;
    weight = omega (arith, h.weight);
    places = λ p. p;
    memory = λ p. p;
    constants = λ n e. absurd (none-some n e);
    built = λ p. p;
    value = λ f i scope. kept_below.bind (kept_below.bind (h.value f i scope) (λ p. onto (ap (λ o. member_pointer c.structs (target_of o) m p) h.types) (forms.steady_member BelowOf kept_below c.structs c.locals f f i (target_of (type_of x)) m p))) ((forms.steady_read_at BelowOf kept_below) t);
    stands = λ f i scope. kept_below.bind (kept_below.bind (h.value f i scope) (λ p. onto (ap (λ o. member_pointer c.structs (target_of o) m p) h.types) (forms.steady_member BelowOf kept_below c.structs c.locals f f i (target_of (type_of x)) m p))) (λ p. kept_below.pure _);
  }

  postfix_refines : (t : PlainType) (op : StepOp) → IsTrue (is_fit c.structs t) → IsTrue (has_rule c (Postfix t op y)) → Inside c (Postfix t op x) (Postfix t op y)
  unfolding expr_weight
  postfix_refines t op fit rule = record {
    typed = three (is_fit c.structs t) (has_rule c (Postfix t op x)) (is_typed c x) fit (both_on (has_step_type c.structs t (type_of y)) (is_place y) (has_step_type c.structs t (type_of x)) (is_place x) (along (λ o. has_step_type c.structs t o) h.types) h.places rule) h.typed;
    types = refl;
    named = h.named;
    weight = omega (arith, h.weight);
    places = λ p. p;
    memory = λ p. p;
    constants = λ n e. absurd (none-some n e);
    built = λ p. p;
    value = λ f i scope. kept_below.bind (h.stands f i scope) ((forms.related_update BelowOf kept_below) c.structs t old_value ((forms.steady_stepped BelowOf kept_below) c.structs op t));
    stands = λ f i scope. kept_below.undefined _;
  }

-- ---- forms of two parts

module _ (c : Context) {x y v w : Expr} (h : Inside c x y) (g : Inside c v w) where
  -- a test of the types of both
  along_both : (test : PlainType → PlainType → Bool) → IsTrue (test (type_of y) (type_of w)) → IsTrue (test (type_of x) (type_of v))
  along_both test r = along (λ o. test o (type_of v)) h.types (along (λ o. test (type_of y) o) g.types r)

  named_both : (a : Referent) → IsTrue (names a x || names a v) → IsTrue (names a y || names a w)
  named_both a = either_on (names a x) (names a v) (names a y) (names a w) (h.named a) (g.named a)

  both_types : (op : BinaryOp) (a d : Value) → apply_binary c.structs op (type_of x) (type_of v) a d ≡ apply_binary c.structs op (type_of y) (type_of w) a d
  both_types op a d = ap (λ o. apply_binary c.structs op o (type_of v) a d) h.types ∙ ap (λ o. apply_binary c.structs op (type_of y) o a d) g.types

  element_types : (a d : Value) → element_pointer c.structs (type_of x) (type_of v) a d ≡ element_pointer c.structs (type_of y) (type_of w) a d
  element_types a d = ap (λ o. element_pointer c.structs o (type_of v) a d) h.types ∙ ap (λ o. element_pointer c.structs (type_of y) o a d) g.types

  binary_value_on : (t : PlainType) (op : BinaryOp) (f : Functions) (i : IgnorePeak f) (scope : Scope) → IsBelow (eval c.structs c.locals f scope (Binary t op x v)) (eval c.structs c.locals f scope (Binary t op y w))
  binary_value_on t b.LogicalOr f i scope = kept_below.bind (kept_below.bind (h.value f i scope) (forms.steady_test BelowOf kept_below)) ((forms.related_choose BelowOf kept_below) ((forms.steady_truth BelowOf kept_below) true) (kept_below.bind (kept_below.bind (g.value f i scope) (forms.steady_test BelowOf kept_below)) (forms.steady_truth BelowOf kept_below)))
  binary_value_on t b.LogicalAnd f i scope = kept_below.bind (kept_below.bind (h.value f i scope) (forms.steady_test BelowOf kept_below)) ((forms.related_choose BelowOf kept_below) (kept_below.bind (kept_below.bind (g.value f i scope) (forms.steady_test BelowOf kept_below)) (forms.steady_truth BelowOf kept_below)) ((forms.steady_truth BelowOf kept_below) false))
  binary_value_on t b.Or f i scope = kept_below.bind (h.value f i scope) (λ a. kept_below.bind (g.value f i scope) (λ d. onto (both_types b.Or a d) ((forms.steady_binary BelowOf kept_below) c.structs b.Or (type_of x) (type_of v) a d)))
  binary_value_on t b.Xor f i scope = kept_below.bind (h.value f i scope) (λ a. kept_below.bind (g.value f i scope) (λ d. onto (both_types b.Xor a d) ((forms.steady_binary BelowOf kept_below) c.structs b.Xor (type_of x) (type_of v) a d)))
  binary_value_on t b.And f i scope = kept_below.bind (h.value f i scope) (λ a. kept_below.bind (g.value f i scope) (λ d. onto (both_types b.And a d) ((forms.steady_binary BelowOf kept_below) c.structs b.And (type_of x) (type_of v) a d)))
  binary_value_on t b.Equal f i scope = kept_below.bind (h.value f i scope) (λ a. kept_below.bind (g.value f i scope) (λ d. onto (both_types b.Equal a d) ((forms.steady_binary BelowOf kept_below) c.structs b.Equal (type_of x) (type_of v) a d)))
  binary_value_on t b.NotEqual f i scope = kept_below.bind (h.value f i scope) (λ a. kept_below.bind (g.value f i scope) (λ d. onto (both_types b.NotEqual a d) ((forms.steady_binary BelowOf kept_below) c.structs b.NotEqual (type_of x) (type_of v) a d)))
  binary_value_on t b.Less f i scope = kept_below.bind (h.value f i scope) (λ a. kept_below.bind (g.value f i scope) (λ d. onto (both_types b.Less a d) ((forms.steady_binary BelowOf kept_below) c.structs b.Less (type_of x) (type_of v) a d)))
  binary_value_on t b.Greater f i scope = kept_below.bind (h.value f i scope) (λ a. kept_below.bind (g.value f i scope) (λ d. onto (both_types b.Greater a d) ((forms.steady_binary BelowOf kept_below) c.structs b.Greater (type_of x) (type_of v) a d)))
  binary_value_on t b.LessEqual f i scope = kept_below.bind (h.value f i scope) (λ a. kept_below.bind (g.value f i scope) (λ d. onto (both_types b.LessEqual a d) ((forms.steady_binary BelowOf kept_below) c.structs b.LessEqual (type_of x) (type_of v) a d)))
  binary_value_on t b.GreaterEqual f i scope = kept_below.bind (h.value f i scope) (λ a. kept_below.bind (g.value f i scope) (λ d. onto (both_types b.GreaterEqual a d) ((forms.steady_binary BelowOf kept_below) c.structs b.GreaterEqual (type_of x) (type_of v) a d)))
  binary_value_on t b.ShiftLeft f i scope = kept_below.bind (h.value f i scope) (λ a. kept_below.bind (g.value f i scope) (λ d. onto (both_types b.ShiftLeft a d) ((forms.steady_binary BelowOf kept_below) c.structs b.ShiftLeft (type_of x) (type_of v) a d)))
  binary_value_on t b.ShiftRight f i scope = kept_below.bind (h.value f i scope) (λ a. kept_below.bind (g.value f i scope) (λ d. onto (both_types b.ShiftRight a d) ((forms.steady_binary BelowOf kept_below) c.structs b.ShiftRight (type_of x) (type_of v) a d)))
  binary_value_on t b.Add f i scope = kept_below.bind (h.value f i scope) (λ a. kept_below.bind (g.value f i scope) (λ d. onto (both_types b.Add a d) ((forms.steady_binary BelowOf kept_below) c.structs b.Add (type_of x) (type_of v) a d)))
  binary_value_on t b.Subtract f i scope = kept_below.bind (h.value f i scope) (λ a. kept_below.bind (g.value f i scope) (λ d. onto (both_types b.Subtract a d) ((forms.steady_binary BelowOf kept_below) c.structs b.Subtract (type_of x) (type_of v) a d)))
  binary_value_on t b.Multiply f i scope = kept_below.bind (h.value f i scope) (λ a. kept_below.bind (g.value f i scope) (λ d. onto (both_types b.Multiply a d) ((forms.steady_binary BelowOf kept_below) c.structs b.Multiply (type_of x) (type_of v) a d)))
  binary_value_on t b.Divide f i scope = kept_below.bind (h.value f i scope) (λ a. kept_below.bind (g.value f i scope) (λ d. onto (both_types b.Divide a d) ((forms.steady_binary BelowOf kept_below) c.structs b.Divide (type_of x) (type_of v) a d)))
  binary_value_on t b.Remainder f i scope = kept_below.bind (h.value f i scope) (λ a. kept_below.bind (g.value f i scope) (λ d. onto (both_types b.Remainder a d) ((forms.steady_binary BelowOf kept_below) c.structs b.Remainder (type_of x) (type_of v) a d)))

  binary_refines : (t : PlainType) (op : BinaryOp) → IsTrue (is_fit c.structs t) → IsTrue (has_rule c (Binary t op y w)) → Inside c (Binary t op x v) (Binary t op y w)
  unfolding expr_weight
  binary_refines t op fit rule = record {
    typed = four (is_fit c.structs t) (has_rule c (Binary t op x v)) (is_typed c x) (is_typed c v) fit (along_both (has_binary_type c.structs op t) rule) h.typed g.typed;
    types = refl;
    named = named_both;
    weight = omega (arith, h.weight, g.weight);
    places = λ p. p;
    memory = λ p. p;
    constants = λ n e.
        subst (λ o. value_with op (integer_of o) (integer_of (type_of v)) (constant x) (is_built v) (constant v) ≡ Some n) (sym h.types)
        (subst (λ o. value_with op (integer_of (type_of y)) (integer_of o) (constant x) (is_built v) (constant v) ≡ Some n) (sym g.types)
        (keeps_with op (integer_of (type_of y)) (integer_of (type_of w)) (constant x) (constant y) (is_built v) (is_built w) (constant v) (constant w) h.constants g.built g.constants n e));
    built = both_on (is_integer t && is_built y) (is_built w) (is_integer t && is_built x) (is_built v) (both_on (is_integer t) (is_built y) (is_integer t) (is_built x) (λ p. p) h.built) g.built;
    value = binary_value_on t op;
    stands = λ f i scope. kept_below.undefined _;
  }

  assign_rule : (t : PlainType) (op : AssignOp) → IsTrue (has_rule c (Assign t op y w)) → IsTrue (has_rule c (Assign t op x v))
  assign_rule t op =
      both_on (is_place y && is_same_type (type_of y) t) (has_assigned_type c.structs op (type_of y) (type_of w))
      (is_place x && is_same_type (type_of x) t) (has_assigned_type c.structs op (type_of x) (type_of v))
      (both_on (is_place y) (is_same_type (type_of y) t) (is_place x) (is_same_type (type_of x) t) h.places (along (λ o. is_same_type o t) h.types))
      (along_both (has_assigned_type c.structs op))

  assign_refines : (t : PlainType) (op : AssignOp) → IsTrue (is_fit c.structs t) → IsTrue (has_rule c (Assign t op y w)) → Inside c (Assign t op x v) (Assign t op y w)
  unfolding expr_weight
  assign_refines t op fit rule = record {
    typed = four (is_fit c.structs t) (has_rule c (Assign t op x v)) (is_typed c x) (is_typed c v) fit (assign_rule t op rule) h.typed g.typed;
    types = refl;
    named = named_both;
    weight = omega (arith, h.weight, g.weight);
    places = λ p. p;
    memory = λ p. p;
    constants = λ n e. absurd (none-some n e);
    built = λ p. p;
    value = λ f i scope. kept_below.bind (h.stands f i scope) (λ p. kept_below.bind (g.value f i scope) (λ d. onto (ap (λ o. assign_value c.structs t o (operator_of op) p d) g.types) ((forms.steady_assign BelowOf kept_below) c.structs t (type_of v) (operator_of op) p d)));
    stands = λ f i scope. kept_below.undefined _;
  }

  index_refines : (t : PlainType) → IsTrue (is_fit c.structs t) → IsTrue (has_rule c (Index t y w)) → Inside c (Index t x v) (Index t y w)
  unfolding expr_weight
  index_refines t fit rule = record {
    typed = four (is_fit c.structs t) (has_rule c (Index t x v)) (is_typed c x) (is_typed c v) fit (along_both (is_element c.structs t) rule) h.typed g.typed;
    types = refl;
    named = named_both;
    weight = omega (arith, h.weight, g.weight);
    places = λ p. p;
    memory = λ p. p;
    constants = λ n e. absurd (none-some n e);
    built = λ p. p;
    value = λ f i scope. kept_below.bind (kept_below.bind (h.value f i scope) (λ a. kept_below.bind (g.value f i scope) (λ d. onto (element_types a d) ((forms.steady_element BelowOf kept_below) c.structs (type_of x) (type_of v) a d)))) ((forms.steady_read_at BelowOf kept_below) t);
    stands = λ f i scope. kept_below.bind (kept_below.bind (h.value f i scope) (λ a. kept_below.bind (g.value f i scope) (λ d. onto (element_types a d) ((forms.steady_element BelowOf kept_below) c.structs (type_of x) (type_of v) a d)))) (λ p. kept_below.pure _);
  }

-- ---- choices

module _ (c : Context) {x y v w k z : Expr} (h : Inside c x y) (g : Inside c v w) (l : Inside c k z) where
  choice_rule : (t : PlainType) → IsTrue (is_choice t (type_of y) (type_of w) (type_of z)) → IsTrue (is_choice t (type_of x) (type_of v) (type_of k))
  choice_rule t r = along (λ o. is_choice t o (type_of v) (type_of k)) h.types (along (λ o. is_choice t (type_of y) o (type_of k)) g.types (along (λ o. is_choice t (type_of y) (type_of w) o) l.types r))

  built_arms : IsTrue (is_built w && is_built z) → IsTrue (is_built v && is_built k)
  built_arms = both_on (is_built w) (is_built z) (is_built v) (is_built k) g.built l.built

  conditional_refines : (t : PlainType) → IsTrue (is_fit c.structs t) → IsTrue (has_rule c (Conditional t y w z)) → Inside c (Conditional t x v k) (Conditional t y w z)
  unfolding expr_weight
  conditional_refines t fit rule = record {
    typed = five (is_fit c.structs t) (has_rule c (Conditional t x v k)) (is_typed c x) (is_typed c v) (is_typed c k) fit (choice_rule t rule) h.typed g.typed l.typed;
    types = refl;
    named = λ a. either_on (names a x || names a v) (names a k) (names a y || names a w) (names a z) (either_on (names a x) (names a v) (names a y) (names a w) (h.named a) (g.named a)) (l.named a);
    weight = omega (arith, h.weight, g.weight, l.weight);
    places = λ p. p;
    memory = λ p. p;
    constants = keeps_choice (constant x) (constant y) (is_built v && is_built k) (is_built w && is_built z) (constant v) (constant w) (constant k) (constant z) h.constants built_arms g.constants l.constants;
    built = both_on (is_integer t && is_built y && is_built w) (is_built z) (is_integer t && is_built x && is_built v) (is_built k) (both_on (is_integer t && is_built y) (is_built w) (is_integer t && is_built x) (is_built v) (both_on (is_integer t) (is_built y) (is_integer t) (is_built x) (λ p. p) h.built) g.built) l.built;
    value = λ f i scope. kept_below.bind (kept_below.bind (h.value f i scope) (forms.steady_test BelowOf kept_below)) ((forms.related_choose BelowOf kept_below) (g.value f i scope) (l.value f i scope));
    stands = λ f i scope. kept_below.undefined _;
  }

-- ---- lists of expressions

record ListIn (c : Context) (xs ys : Exprs) : Type 0 where
  typed : IsTrue (are_typed c xs)
  arguments : (ts : List PlainType) → IsTrue (are_arguments ts ys) → IsTrue (are_arguments ts xs)
  last_type : (t last : PlainType) → IsTrue (has_last_type t last ys) → IsTrue (has_last_type t last xs)
  named : (a : Referent) → IsTrue (any_names a xs) → IsTrue (any_names a ys)
  count : exprs_count xs ≡ exprs_count ys
  weight : exprs_weight c.structs xs ≤ exprs_weight c.structs ys
  built : IsTrue (are_built ys) → IsTrue (are_built xs)
  last_constant : (p q : Option ℕ) → Keeps p q → Keeps (last_value p xs) (last_value q ys)
  values : (f : Functions) → IgnorePeak f → (scope : Scope) → IsBelow (evals c.structs c.locals f scope xs) (evals c.structs c.locals f scope ys)
  last : (f : Functions) → IgnorePeak f → (scope : Scope) {d e : Run Value} → IsBelow d e → IsBelow (value_of_last c.structs c.locals f scope d xs) (value_of_last c.structs c.locals f scope e ys)

none_refines : (c : Context) → ListIn c no_exprs no_exprs
unfolding expr_weight
none_refines c = record {
  typed = refl;
  arguments = λ ts r. r;
  last_type = λ t last r. r;
  named = λ a r. r;
  count = refl;
  weight = omega arith;
  built = λ r. r;
  last_constant = λ p q k. k;
  values = λ f i scope. kept_below.pure [];
  last = λ f i scope k. k;
}

module _ (c : Context) {x y : Expr} {xs ys : Exprs} (h : Inside c x y) (g : ListIn c xs ys) where
  more_arguments : (ts : List PlainType) → IsTrue (are_arguments ts (more_exprs y ys)) → IsTrue (are_arguments ts (more_exprs x xs))
  more_arguments [] r = r
  more_arguments (t ∷ ts) r =
      both_on (is_same_type (type_of y) t) (are_arguments ts ys) (is_same_type (type_of x) t) (are_arguments ts xs) (along (λ o. is_same_type o t) h.types) (g.arguments ts) r

  more_last : (t last : PlainType) → IsTrue (has_last_type t last (more_exprs y ys)) → IsTrue (has_last_type t last (more_exprs x xs))
  more_last t last =
      both_on (not (is_array last)) (has_last_type t (type_of y) ys) (not (is_array last)) (has_last_type t (type_of x) xs) (λ p. p)
      (λ r. along (λ o. has_last_type t o xs) h.types (g.last_type t (type_of y) r))

  more_constant : (p q : Option ℕ) → Keeps p q → Keeps (last_value p (more_exprs x xs)) (last_value q (more_exprs y ys))
  more_constant p None k n e = absurd (none-some n e)
  more_constant p (Some m) k n e = subst (λ o. last_value o (more_exprs x xs) ≡ Some n) (sym (k m refl)) (g.last_constant (constant x) (constant y) h.constants n e)

  more_refines : ListIn c (more_exprs x xs) (more_exprs y ys)
  unfolding expr_weight
  more_refines = record {
    typed = also (is_typed c x) (are_typed c xs) h.typed g.typed;
    arguments = more_arguments;
    last_type = more_last;
    named = λ a. either_on (names a x) (any_names a xs) (names a y) (any_names a ys) (h.named a) (g.named a);
    count = ap (λ n. 1 + n) g.count;
    weight = omega (arith, h.weight, g.weight);
    built = both_on (is_built y) (are_built ys) (is_built x) (are_built xs) h.built g.built;
    last_constant = more_constant;
    values = λ f i scope. kept_below.bind (kept_below.bind (h.value f i scope) (forms.steady_used BelowOf kept_below _)) (λ v. kept_below.bind (g.values f i scope) (λ vs. kept_below.pure _));
    last = λ f i scope k. kept_below.bind k (λ _. g.last f i scope (h.value f i scope));
  }

call_rule : (c : Context) {xs ys : Exprs} → ListIn c xs ys → (t : PlainType) (s : Option Signature) → IsTrue (is_call s t ys) → IsTrue (is_call s t xs)
call_rule c g t None r = r
call_rule c {xs = xs} {ys = ys} g t (Some s) r =
    both_on (is_same_type s.result t) (are_arguments s.params ys) (is_same_type s.result t) (are_arguments s.params xs) (λ p. p) (g.arguments s.params) r

call_refines : (c : Context) {xs ys : Exprs} → ListIn c xs ys → (t : PlainType) (callee : Callee) → IsTrue (is_fit c.structs t)
    → IsTrue (has_rule c (Call t callee ys)) → Inside c (Call t callee xs) (Call t callee ys)
unfolding expr_weight
call_refines c {xs = xs} {ys = ys} g t callee fit rule = record {
  typed = three (is_fit c.structs t) (has_rule c (Call t callee xs)) (are_typed c xs) fit (call_rule c g t (callee_signature c callee) rule) g.typed;
  types = refl;
  named = λ a. either_on (is_callee a callee) (any_names a xs) (is_callee a callee) (any_names a ys) (λ p. p) (g.named a);
  weight = omega (arith, g.weight);
  places = λ p. p;
  memory = λ p. p;
  constants = λ n e. absurd (none-some n e);
  built = λ p. p;
  value = λ f i scope.
      kept_below.bind (kept_below.bind (g.values f i scope) (forms.call_related BelowOf kept_below c.structs c.locals f f i callee))
      (forms.steady_given BelowOf kept_below t);
  stands = λ f i scope. kept_below.undefined _;
}

comma_refines : (c : Context) {x y v w : Expr} {xs ys : Exprs} → Inside c x y → Inside c v w → ListIn c xs ys → (t : PlainType)
    → IsTrue (is_fit c.structs t) → IsTrue (has_rule c (Comma t (more_exprs y (more_exprs w ys))))
    → Inside c (Comma t (more_exprs x (more_exprs v xs))) (Comma t (more_exprs y (more_exprs w ys)))
unfolding expr_weight
comma_refines c {x = x} {y = y} {v = v} {w = w} {xs = xs} {ys = ys} h g k t fit rule =
    let l = more_refines c g k in
    let m = more_refines c h l in
    record {
      typed = three (is_fit c.structs t) (has_rule c (Comma t (more_exprs x (more_exprs v xs)))) (are_typed c (more_exprs x (more_exprs v xs))) fit
          (along (λ o. has_last_type t o (more_exprs v xs)) h.types (l.last_type t (type_of y) rule)) m.typed;
      types = refl;
      named = m.named;
      weight = omega (arith, m.weight, k.count);
      places = λ p. p;
      memory = λ p. p;
      constants = l.last_constant (constant x) (constant y) h.constants;
      built = both_on (is_integer t) (are_built (more_exprs y (more_exprs w ys))) (is_integer t) (are_built (more_exprs x (more_exprs v xs))) (λ p. p) m.built;
      value = λ f i scope. l.last f i scope (h.value f i scope);
      stands = λ f i scope. kept_below.undefined _;
    }

-- ---- the whole

mutual
  pub within_below : {x y : Expr} → ExprWithin x y → (c : Context) → IsTrue (is_typed c y) → Inside c x y
  within_below (form.here {x = x} {y = y} h) c p = inside c x y (h c p)
  within_below (form.unary {ty = t} {op = op} {x = x} {y = y} h) c p =
      let p1 = back (is_fit c.structs t && has_rule c (Unary t op y)) (is_typed c y) p in
      let q1 = front (is_fit c.structs t && has_rule c (Unary t op y)) (is_typed c y) p in
      let fit = front (is_fit c.structs t) (has_rule c (Unary t op y)) q1 in
      let rule = back (is_fit c.structs t) (has_rule c (Unary t op y)) q1 in
      unary_refines c (within_below h c p1) t op fit rule
  within_below (form.binary {ty = t} {op = op} {y = y} {w = w} h g) c p =
      let p2 = back (is_fit c.structs t && has_rule c (Binary t op y w) && is_typed c y) (is_typed c w) p in
      let q2 = front (is_fit c.structs t && has_rule c (Binary t op y w) && is_typed c y) (is_typed c w) p in
      let p1 = back (is_fit c.structs t && has_rule c (Binary t op y w)) (is_typed c y) q2 in
      let q1 = front (is_fit c.structs t && has_rule c (Binary t op y w)) (is_typed c y) q2 in
      let fit = front (is_fit c.structs t) (has_rule c (Binary t op y w)) q1 in
      let rule = back (is_fit c.structs t) (has_rule c (Binary t op y w)) q1 in
      binary_refines c (within_below h c p1) (within_below g c p2) t op fit rule
  within_below (form.assign {ty = t} {op = op} {y = y} {w = w} h g) c p =
      let p2 = back (is_fit c.structs t && has_rule c (Assign t op y w) && is_typed c y) (is_typed c w) p in
      let q2 = front (is_fit c.structs t && has_rule c (Assign t op y w) && is_typed c y) (is_typed c w) p in
      let p1 = back (is_fit c.structs t && has_rule c (Assign t op y w)) (is_typed c y) q2 in
      let q1 = front (is_fit c.structs t && has_rule c (Assign t op y w)) (is_typed c y) q2 in
      let fit = front (is_fit c.structs t) (has_rule c (Assign t op y w)) q1 in
      let rule = back (is_fit c.structs t) (has_rule c (Assign t op y w)) q1 in
      assign_refines c (within_below h c p1) (within_below g c p2) t op fit rule
  within_below (form.conditional {ty = t} {y = y} {w = w} {z = z} h g k) c p =
      let p3 = back (is_fit c.structs t && has_rule c (Conditional t y w z) && is_typed c y && is_typed c w) (is_typed c z) p in
      let q3 = front (is_fit c.structs t && has_rule c (Conditional t y w z) && is_typed c y && is_typed c w) (is_typed c z) p in
      let p2 = back (is_fit c.structs t && has_rule c (Conditional t y w z) && is_typed c y) (is_typed c w) q3 in
      let q2 = front (is_fit c.structs t && has_rule c (Conditional t y w z) && is_typed c y) (is_typed c w) q3 in
      let p1 = back (is_fit c.structs t && has_rule c (Conditional t y w z)) (is_typed c y) q2 in
      let q1 = front (is_fit c.structs t && has_rule c (Conditional t y w z)) (is_typed c y) q2 in
      let fit = front (is_fit c.structs t) (has_rule c (Conditional t y w z)) q1 in
      let rule = back (is_fit c.structs t) (has_rule c (Conditional t y w z)) q1 in
      conditional_refines c (within_below h c p1) (within_below g c p2) (within_below k c p3) t fit rule
  within_below (form.cast {ty = t} {y = y} h) c p =
      let p1 = back (is_fit c.structs t && has_rule c (Cast t y)) (is_typed c y) p in
      let q1 = front (is_fit c.structs t && has_rule c (Cast t y)) (is_typed c y) p in
      let fit = front (is_fit c.structs t) (has_rule c (Cast t y)) q1 in
      let rule = back (is_fit c.structs t) (has_rule c (Cast t y)) q1 in
      cast_refines c (within_below h c p1) t fit rule
  within_below (form.convert {ty = t} {y = y} h) c p =
      let p1 = back (is_fit c.structs t && has_rule c (Convert t y)) (is_typed c y) p in
      let q1 = front (is_fit c.structs t && has_rule c (Convert t y)) (is_typed c y) p in
      let fit = front (is_fit c.structs t) (has_rule c (Convert t y)) q1 in
      let rule = back (is_fit c.structs t) (has_rule c (Convert t y)) q1 in
      convert_refines c (within_below h c p1) t fit rule
  within_below (form.index {ty = t} {y = y} {w = w} h g) c p =
      let p2 = back (is_fit c.structs t && has_rule c (Index t y w) && is_typed c y) (is_typed c w) p in
      let q2 = front (is_fit c.structs t && has_rule c (Index t y w) && is_typed c y) (is_typed c w) p in
      let p1 = back (is_fit c.structs t && has_rule c (Index t y w)) (is_typed c y) q2 in
      let q1 = front (is_fit c.structs t && has_rule c (Index t y w)) (is_typed c y) q2 in
      let fit = front (is_fit c.structs t) (has_rule c (Index t y w)) q1 in
      let rule = back (is_fit c.structs t) (has_rule c (Index t y w)) q1 in
      index_refines c (within_below h c p1) (within_below g c p2) t fit rule
  within_below (form.field {ty = t} {m = m} {y = y} h) c p =
      let p1 = back (is_fit c.structs t && has_rule c (Field t y m)) (is_typed c y) p in
      let q1 = front (is_fit c.structs t && has_rule c (Field t y m)) (is_typed c y) p in
      let fit = front (is_fit c.structs t) (has_rule c (Field t y m)) q1 in
      let rule = back (is_fit c.structs t) (has_rule c (Field t y m)) q1 in
      field_refines c (within_below h c p1) t m fit rule
  within_below (form.arrow {ty = t} {m = m} {y = y} h) c p =
      let p1 = back (is_fit c.structs t && has_rule c (Arrow t y m)) (is_typed c y) p in
      let q1 = front (is_fit c.structs t && has_rule c (Arrow t y m)) (is_typed c y) p in
      let fit = front (is_fit c.structs t) (has_rule c (Arrow t y m)) q1 in
      let rule = back (is_fit c.structs t) (has_rule c (Arrow t y m)) q1 in
      arrow_refines c (within_below h c p1) t m fit rule
  within_below (form.postfix {ty = t} {op = op} {y = y} h) c p =
      let p1 = back (is_fit c.structs t && has_rule c (Postfix t op y)) (is_typed c y) p in
      let q1 = front (is_fit c.structs t && has_rule c (Postfix t op y)) (is_typed c y) p in
      let fit = front (is_fit c.structs t) (has_rule c (Postfix t op y)) q1 in
      let rule = back (is_fit c.structs t) (has_rule c (Postfix t op y)) q1 in
      postfix_refines c (within_below h c p1) t op fit rule
  within_below (form.call {ty = t} {callee = callee} {ys = ys} h) c p =
      let p1 = back (is_fit c.structs t && has_rule c (Call t callee ys)) (are_typed c ys) p in
      let q1 = front (is_fit c.structs t && has_rule c (Call t callee ys)) (are_typed c ys) p in
      let fit = front (is_fit c.structs t) (has_rule c (Call t callee ys)) q1 in
      let rule = back (is_fit c.structs t) (has_rule c (Call t callee ys)) q1 in
      call_refines c (list_refines h c p1) t callee fit rule
  within_below (form.comma {ty = t} form.none) c p = no_true (back (is_fit c.structs t) false (front (is_fit c.structs t && false) true p))
  within_below (form.comma {ty = t} (form.more {y = y} h form.none)) c p = no_true (back (is_fit c.structs t) false (front (is_fit c.structs t && false) (is_typed c y && true) p))
  within_below (form.comma {ty = t} (form.more {y = y} h (form.more {y = w} {ys = ys} g k))) c p =
      let p1 = back (is_fit c.structs t && has_rule c (Comma t (more_exprs y (more_exprs w ys)))) (are_typed c (more_exprs y (more_exprs w ys))) p in
      let q1 = front (is_fit c.structs t && has_rule c (Comma t (more_exprs y (more_exprs w ys)))) (are_typed c (more_exprs y (more_exprs w ys))) p in
      let fit = front (is_fit c.structs t) (has_rule c (Comma t (more_exprs y (more_exprs w ys)))) q1 in
      let rule = back (is_fit c.structs t) (has_rule c (Comma t (more_exprs y (more_exprs w ys)))) q1 in
      let r1 = back (is_typed c y) (are_typed c (more_exprs w ys)) p1 in
      comma_refines c (within_below h c (front (is_typed c y) (are_typed c (more_exprs w ys)) p1)) (within_below g c (front (is_typed c w) (are_typed c ys) r1)) (list_refines k c (back (is_typed c w) (are_typed c ys) r1)) t fit rule

  list_refines : {xs ys : Exprs} → ExprsWithin xs ys → (c : Context) → IsTrue (are_typed c ys) → ListIn c xs ys
  list_refines form.none c p = none_refines c
  list_refines (form.more {y = y} {ys = ys} h g) c p =
      more_refines c (within_below h c (front (is_typed c y) (are_typed c ys) p)) (list_refines g c (back (is_typed c y) (are_typed c ys) p))

pub within_refines : {x y : Expr} → ExprWithin x y → ExprRefines x y
within_refines w c p =
    let h = within_below w c p in
    record {
      typed = h.typed;
      types = h.types;
      named = h.named;
      weight = h.weight;
      places = h.places;
      memory = h.memory;
      constants = h.constants;
      built = h.built;
      value = λ f i scope. below_refines (h.value f i scope);
      stands = λ f i scope. below_refines (h.stands f i scope);
    }
