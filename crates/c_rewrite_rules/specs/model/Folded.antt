-- `FoldConst` refines: an operator over literals gives its value in every state, if it is a constant.
use Rattle.std.proofs.Common.{◌≡◌, ◌≤◌, ℕ, Bool, true, false, not, ◌&&◌, ◌==◌, IsTrue, List, Option, Some, None, refl, sym, ap, ◌∙◌, subst, if◌then◌else◌, unwrap_or, arith}
use Rattle.std.proofs.lemmas.Option.{none-some}
use Rattle.mem_model.specs.declared.value.Value.{Value}
use Rattle.mem_model.specs.declared.value.Value.TheVariants.{Word}
use Rattle.mem_model.specs.Ending.{Gives}
use Rattle.bk_arithmetic.specs.declared.integer_type.IntegerType.{IntegerType}
use Rattle.bk_arithmetic.specs.declared.integer_type.IntegerType.TheVariants as i
use Rattle.bk_arithmetic.specs.declared.outcome.ArithmeticOutcome.{ArithmeticOutcome}
use Rattle.bk_arithmetic.specs.declared.outcome.ArithmeticOutcome.TheVariants as o
use Rattle.bk_arithmetic.specs.Operations.{truth, negation, complement, conversion}
use Rattle.c_tree.specs.declared.expressions.UnaryOp.{UnaryOp}
use Rattle.c_tree.specs.declared.expressions.UnaryOp.TheVariants as u
use Rattle.c_tree.specs.declared.expressions.BinaryOp.{BinaryOp}
use Rattle.c_tree.specs.declared.expressions.BinaryOp.TheVariants as b
use Rattle.c_typed_tree.specs.declared.types.StructDef.{StructDef}
use Rattle.c_typed_tree.specs.Types.{PlainType, Void, Int, Pointer, Array, Struct}
use Rattle.c_typed_tree.specs.Expressions.{Expr, Number, Local, Global, Call, Unary, Binary, Assign, Conditional, Cast, Convert, Index, Field, Arrow, Postfix, Comma, Exprs, no_exprs, more_exprs, type_of}
use Rattle.c_typed_tree.specs.Layout.{integer_of}
use Rattle.c_typed_tree.specs.Constants.{is_integer, is_pure_operator, is_built, are_built, word_of, integers_with, unary_value, binary_value, converted_value, and_value, or_value, choice_value, both_values, constant, last_value}
use Rattle.c_typed_tree.specs.Typing.{Context, is_promoted, is_same_type, is_fit, is_number_of, is_place, is_in_memory, has_rule, are_operands, is_typed, are_typed}
use Rattle.c_typed_tree.specs.Weight.{expr_weight}
use Rattle.c_semantics.specs.Runs.{CallState, Run, and_then, ◌>>=◌, pure, on_memory}
use Rattle.c_semantics.specs.Objects.{Scope, ValuePlace, integer_or_word}
use Rattle.c_semantics.specs.Operators.{outcome, test, pure_truth, apply_binary}
use Rattle.c_semantics.specs.Evaluates.{Functions, choose, converted_from, eval, place, value_of_last}
use Rattle.c_semantics.specs.Refines.{RefinesIn, ExprRefines, RunRefines}
use Rattle.c_semantics.proofs.Facts.{no_true, front, back, also}
use Rattle.c_semantics.proofs.RefinesOrder.{expr_itself}
use Rattle.c_rewrite_rules.specs.Rules.{is_literal, are_literals, is_over_literals, literal_or, folded}
use Rattle.c_rewrite_rules.specs.model.Truths.{same, then_there, both_there, rule_one, one_typed, fit_one, fit_two, fit_three, is_there_integer}
use Rattle.c_rewrite_rules.specs.model.Constants.{constant_word, some_is}
use Rattle.c_rewrite_rules.specs.model.Runs.{as_it_is, nothing_asked, chosen_run}

-- ---- what each part gives

pub literal_there : (i : Bool) (k n : ℕ) → (if i then Some k else None) ≡ Some n → (i ≡ true) × (k ≡ n)
literal_there true k n e = (refl, some_is e)
literal_there false k n e = absurd (none-some n e)

pub or_word : (ty : PlainType) (t : IntegerType) → integer_of ty ≡ Some t → integer_or_word ty ≡ t
or_word (Int n s) t e = ap (λ v. unwrap_or v i.UnsignedLong) e
or_word Void t e = absurd (none-some t e)
or_word (Pointer u) t e = absurd (none-some t e)
or_word (Array u n) t e = absurd (none-some t e)
or_word (Struct n) t e = absurd (none-some t e)

outcome_word : (a : ArithmeticOutcome) (n : ℕ) (s : CallState) → word_of a ≡ Some n → outcome a s ≡ Gives (Word n) s
unfolding pure
outcome_word (o.Word m) n s e = ap (λ k. Gives (Word k) s) (some_is e)
outcome_word (o.Trap code) n s e = absurd (none-some n e)
outcome_word o.Undefined n s e = absurd (none-some n e)

no_right : {X : Type 0} (op : BinaryOp) (l : Option IntegerType) (a d n : ℕ) → binary_value op l None a d ≡ Some n → X
no_right op None a d n e = absurd (none-some n e)
no_right op (Some t) a d n e = absurd (none-some n e)

-- two integers, by the types of the operands
typed_outcome : (ds : List StructDef) (op : BinaryOp) (left right : PlainType) (a d n : ℕ) (s : CallState)
    → binary_value op (integer_of left) (integer_of right) a d ≡ Some n → apply_binary ds op left right (Word a) (Word d) s ≡ Gives (Word n) s
unfolding ◌>>=◌ pure
typed_outcome ds op (Int m g) (Int k h) a d n s e = by (integer_of (Int m g)) (integer_of (Int k h)) refl refl e
  where
    by : (l r : Option IntegerType) → integer_of (Int m g) ≡ l → integer_of (Int k h) ≡ r → binary_value op l r a d ≡ Some n
        → outcome (integers_with op (integer_or_word (Int m g)) (integer_or_word (Int k h)) a d) s ≡ Gives (Word n) s
    by None r is too e = absurd (none-some n e)
    by (Some t) None is too e = absurd (none-some n e)
    by (Some t) (Some c) is too e =
        ap (λ v. outcome (integers_with op v (integer_or_word (Int k h)) a d) s) (or_word (Int m g) t is)
        ∙ ap (λ v. outcome (integers_with op t v a d) s) (or_word (Int k h) c too)
        ∙ outcome_word (integers_with op t c a d) n s e
typed_outcome ds op (Int m g) Void a d n s e = no_right op (integer_of (Int m g)) a d n e
typed_outcome ds op (Int m g) (Pointer u) a d n s e = no_right op (integer_of (Int m g)) a d n e
typed_outcome ds op (Int m g) (Array u k) a d n s e = no_right op (integer_of (Int m g)) a d n e
typed_outcome ds op (Int m g) (Struct k) a d n s e = no_right op (integer_of (Int m g)) a d n e
typed_outcome ds op Void right a d n s e = absurd (none-some n e)
typed_outcome ds op (Pointer u) right a d n s e = absurd (none-some n e)
typed_outcome ds op (Array u k) right a d n s e = absurd (none-some n e)
typed_outcome ds op (Struct k) right a d n s e = absurd (none-some n e)

no_target : {X : Type 0} (l : Option IntegerType) (k n : ℕ) → converted_value l None k ≡ Some n → X
no_target None k n e = absurd (none-some n e)
no_target (Some t) k n e = absurd (none-some n e)

converted_word : (from to : PlainType) (by_place : Run ValuePlace) (k n : ℕ) (s : CallState)
    → converted_value (integer_of from) (integer_of to) k ≡ Some n
    → converted_from from to (pure (Word k)) by_place s ≡ Gives (Word n) s
unfolding ◌>>=◌ pure
converted_word (Int m g) (Int j h) by_place k n s e = by (integer_of (Int m g)) (integer_of (Int j h)) refl refl e
  where
    by : (l r : Option IntegerType) → integer_of (Int m g) ≡ l → integer_of (Int j h) ≡ r → converted_value l r k ≡ Some n
        → Gives (Word (conversion (integer_or_word (Int m g)) (integer_or_word (Int j h)) k)) s ≡ Gives (Word n) s
    by None r is too e = absurd (none-some n e)
    by (Some t) None is too e = absurd (none-some n e)
    by (Some t) (Some c) is too e =
        ap (λ v. Gives (Word (conversion v (integer_or_word (Int j h)) k)) s) (or_word (Int m g) t is)
        ∙ ap (λ v. Gives (Word (conversion t v k)) s) (or_word (Int j h) c too)
        ∙ ap (λ v. Gives (Word v) s) (some_is e)
converted_word (Int m g) Void by_place k n s e = no_target (integer_of (Int m g)) k n e
converted_word (Int m g) (Pointer u) by_place k n s e = no_target (integer_of (Int m g)) k n e
converted_word (Int m g) (Array u j) by_place k n s e = no_target (integer_of (Int m g)) k n e
converted_word (Int m g) (Struct j) by_place k n s e = no_target (integer_of (Int m g)) k n e
converted_word Void to by_place k n s e = absurd (none-some n e)
converted_word (Pointer u) to by_place k n s e = absurd (none-some n e)
converted_word (Array u j) to by_place k n s e = absurd (none-some n e)
converted_word (Struct j) to by_place k n s e = absurd (none-some n e)

-- ---- `!`, `&&`, `||` and `?:` of numbers

truth_run : (k : ℕ) (s : CallState) → (pure (Word k) >>= test >>= choose (pure_truth false) (pure_truth true)) s ≡ Gives (Word (truth (k == 0))) s
unfolding pure
truth_run k s = by (k == 0) refl
  where
    by : (t : Bool) → (k == 0) ≡ t → (pure (Word k) >>= test >>= choose (pure_truth false) (pure_truth true)) s ≡ Gives (Word (truth t)) s
    by true is = chosen_run k true (pure_truth false) (pure_truth true) s is
    by false is = chosen_run k false (pure_truth false) (pure_truth true) s is

tested_run : (k : ℕ) (s : CallState) → (pure (Word k) >>= test >>= pure_truth) s ≡ Gives (Word (truth (not (k == 0)))) s
unfolding ◌>>=◌ pure on_memory
tested_run k s = refl

and_run : (i j : Bool) (a d n : ℕ) (s : CallState) → and_value (if i then Some a else None) j (if j then Some d else None) ≡ Some n
    → (pure (Word a) >>= test >>= choose (pure (Word d) >>= test >>= pure_truth) (pure_truth false)) s ≡ Gives (Word n) s
unfolding pure
and_run false j a d n s e = absurd (none-some n e)
and_run true false a d n s e = absurd (none-some n e)
and_run true true a d n s e = by (a == 0) refl e
  where
    by : (t : Bool) → (a == 0) ≡ t → (if t then Some 0 else Some (truth (not (d == 0)))) ≡ Some n
        → (pure (Word a) >>= test >>= choose (pure (Word d) >>= test >>= pure_truth) (pure_truth false)) s ≡ Gives (Word n) s
    by true is e = chosen_run a true (pure (Word d) >>= test >>= pure_truth) (pure_truth false) s is ∙ ap (λ v. Gives (Word v) s) (some_is e)
    by false is e =
        chosen_run a false (pure (Word d) >>= test >>= pure_truth) (pure_truth false) s is ∙ tested_run d s
        ∙ ap (λ v. Gives (Word v) s) (some_is e)

or_run : (i j : Bool) (a d n : ℕ) (s : CallState) → or_value (if i then Some a else None) j (if j then Some d else None) ≡ Some n
    → (pure (Word a) >>= test >>= choose (pure_truth true) (pure (Word d) >>= test >>= pure_truth)) s ≡ Gives (Word n) s
unfolding pure
or_run false j a d n s e = absurd (none-some n e)
or_run true false a d n s e = absurd (none-some n e)
or_run true true a d n s e = by (a == 0) refl e
  where
    by : (t : Bool) → (a == 0) ≡ t → (if t then Some (truth (not (d == 0))) else Some 1) ≡ Some n
        → (pure (Word a) >>= test >>= choose (pure_truth true) (pure (Word d) >>= test >>= pure_truth)) s ≡ Gives (Word n) s
    by false is e = chosen_run a false (pure_truth true) (pure (Word d) >>= test >>= pure_truth) s is ∙ ap (λ v. Gives (Word v) s) (some_is e)
    by true is e =
        chosen_run a true (pure_truth true) (pure (Word d) >>= test >>= pure_truth) s is ∙ tested_run d s
        ∙ ap (λ v. Gives (Word v) s) (some_is e)

choice_run : (i j l built : Bool) (a d k n : ℕ) (s : CallState)
    → choice_value (if i then Some a else None) built (if j then Some d else None) (if l then Some k else None) ≡ Some n
    → (pure (Word a) >>= test >>= choose (pure (Word d)) (pure (Word k))) s ≡ Gives (Word n) s
unfolding pure
choice_run false j l built a d k n s e = absurd (none-some n e)
choice_run true j l false a d k n s e = absurd (none-some n e)
choice_run true j l true a d k n s e = by (a == 0) refl e
  where
    by : (t : Bool) → (a == 0) ≡ t → (if t then (if l then Some k else None) else (if j then Some d else None)) ≡ Some n
        → (pure (Word a) >>= test >>= choose (pure (Word d)) (pure (Word k))) s ≡ Gives (Word n) s
    by true is e = chosen_run a true (pure (Word d)) (pure (Word k)) s is ∙ ap (λ v. Gives (Word v) s) ((literal_there l k n e).1)
    by false is e = chosen_run a false (pure (Word d)) (pure (Word k)) s is ∙ ap (λ v. Gives (Word v) s) ((literal_there j d n e).1)

-- ---- operators in front of a number

no_constant : {X : Type 0} (op : UnaryOp) (l : Option IntegerType) (k n : ℕ) → ((v : IntegerType) → unary_value op (Some v) k ≡ None) → unary_value op l k ≡ Some n → X
no_constant op None k n never e = absurd (none-some n e)
no_constant op (Some v) k n never e = absurd (none-some n (sym (never v) ∙ e))

unary_run : (c : Context) (f : Functions) (scope : Scope) (ty t : PlainType) (op : UnaryOp) (k n : ℕ) (s : CallState)
    → IsTrue (has_rule c (Unary ty op (Number t k))) → unary_value op (integer_of t) k ≡ Some n
    → eval c.structs c.locals f scope (Unary ty op (Number t k)) s ≡ Gives (Word n) s
unfolding ◌>>=◌ pure
unary_run c f scope ty t u.Plus k n s r e = by (integer_of t) e
  where
    by : (l : Option IntegerType) → unary_value u.Plus l k ≡ Some n → Gives (Word k) s ≡ Gives (Word n) s
    by None e = absurd (none-some n e)
    by (Some v) e = ap (λ m. Gives (Word m) s) (some_is e)
unary_run c f scope ty t u.Minus k n s r e = by (integer_of t) refl e
  where
    equal : t ≡ ty
    equal = same t ty (back (is_promoted t) (is_same_type t ty) r)

    by : (l : Option IntegerType) → integer_of t ≡ l → unary_value u.Minus l k ≡ Some n → outcome (negation (integer_or_word ty) k) s ≡ Gives (Word n) s
    by None is e = absurd (none-some n e)
    by (Some v) is e =
        ap (λ w. outcome (negation w k) s) (or_word ty v (sym (ap integer_of equal) ∙ is)) ∙ outcome_word (negation v k) n s e
unary_run c f scope ty t u.Invert k n s r e = by (integer_of t) refl e
  where
    equal : t ≡ ty
    equal = same t ty (back (is_promoted t) (is_same_type t ty) r)

    by : (l : Option IntegerType) → integer_of t ≡ l → unary_value u.Invert l k ≡ Some n → Gives (Word (complement (integer_or_word ty) k)) s ≡ Gives (Word n) s
    by None is e = absurd (none-some n e)
    by (Some v) is e =
        ap (λ w. Gives (Word (complement w k)) s) (or_word ty v (sym (ap integer_of equal) ∙ is)) ∙ ap (λ m. Gives (Word m) s) (some_is e)
unary_run c f scope ty t u.Not k n s r e = truth_run k s ∙ by (integer_of t) e
  where
    by : (l : Option IntegerType) → unary_value u.Not l k ≡ Some n → Gives (Word (truth (k == 0))) s ≡ Gives (Word n) s
    by None e = absurd (none-some n e)
    by (Some v) e = ap (λ m. Gives (Word m) s) (some_is e)
unary_run c f scope ty t u.Increment k n s r e = no_constant u.Increment (integer_of t) k n (λ v. refl) e
unary_run c f scope ty t u.Decrement k n s r e = no_constant u.Decrement (integer_of t) k n (λ v. refl) e
unary_run c f scope ty t u.Address k n s r e = no_constant u.Address (integer_of t) k n (λ v. refl) e
unary_run c f scope ty t u.Dereference k n s r e = no_constant u.Dereference (integer_of t) k n (λ v. refl) e

-- ---- operators between two numbers

other_run : (ds : List StructDef) (op : BinaryOp) (l r : PlainType) (a d n : ℕ) (s : CallState)
    → both_values (binary_value op (integer_of l) (integer_of r)) (constant (Number l a)) (constant (Number r d)) ≡ Some n
    → apply_binary ds op l r (Word a) (Word d) s ≡ Gives (Word n) s
other_run ds op l r a d n s e =
    let parts = both_there (binary_value op (integer_of l) (integer_of r)) (constant (Number l a)) (constant (Number r d)) n e in
    let left = (literal_there (is_integer l) a parts.0 parts.2).1 in
    let right = (literal_there (is_integer r) d parts.1 parts.3).1 in
    typed_outcome ds op l r a d n s
    (subst (λ v. binary_value op (integer_of l) (integer_of r) v d ≡ Some n) (sym left)
    (subst (λ v. binary_value op (integer_of l) (integer_of r) parts.0 v ≡ Some n) (sym right) parts.4))

both_run : (c : Context) (f : Functions) (scope : Scope) (ty l r : PlainType) (op : BinaryOp) (a d n : ℕ) (s : CallState)
    → constant (Binary ty op (Number l a) (Number r d)) ≡ Some n
    → eval c.structs c.locals f scope (Binary ty op (Number l a) (Number r d)) s ≡ Gives (Word n) s
unfolding ◌>>=◌ pure
both_run c f scope ty l r b.LogicalAnd a d n s e = and_run (is_integer l) (is_integer r) a d n s e
both_run c f scope ty l r b.LogicalOr a d n s e = or_run (is_integer l) (is_integer r) a d n s e
both_run c f scope ty l r b.Or a d n s e = other_run c.structs b.Or l r a d n s e
both_run c f scope ty l r b.Xor a d n s e = other_run c.structs b.Xor l r a d n s e
both_run c f scope ty l r b.And a d n s e = other_run c.structs b.And l r a d n s e
both_run c f scope ty l r b.Equal a d n s e = other_run c.structs b.Equal l r a d n s e
both_run c f scope ty l r b.NotEqual a d n s e = other_run c.structs b.NotEqual l r a d n s e
both_run c f scope ty l r b.Less a d n s e = other_run c.structs b.Less l r a d n s e
both_run c f scope ty l r b.Greater a d n s e = other_run c.structs b.Greater l r a d n s e
both_run c f scope ty l r b.LessEqual a d n s e = other_run c.structs b.LessEqual l r a d n s e
both_run c f scope ty l r b.GreaterEqual a d n s e = other_run c.structs b.GreaterEqual l r a d n s e
both_run c f scope ty l r b.ShiftLeft a d n s e = other_run c.structs b.ShiftLeft l r a d n s e
both_run c f scope ty l r b.ShiftRight a d n s e = other_run c.structs b.ShiftRight l r a d n s e
both_run c f scope ty l r b.Add a d n s e = other_run c.structs b.Add l r a d n s e
both_run c f scope ty l r b.Subtract a d n s e = other_run c.structs b.Subtract l r a d n s e
both_run c f scope ty l r b.Multiply a d n s e = other_run c.structs b.Multiply l r a d n s e
both_run c f scope ty l r b.Divide a d n s e = other_run c.structs b.Divide l r a d n s e
both_run c f scope ty l r b.Remainder a d n s e = other_run c.structs b.Remainder l r a d n s e

choice_of : (c : Context) (f : Functions) (scope : Scope) (ty t v w : PlainType) (a d k n : ℕ) (s : CallState)
    → constant (Conditional ty (Number t a) (Number v d) (Number w k)) ≡ Some n
    → eval c.structs c.locals f scope (Conditional ty (Number t a) (Number v d) (Number w k)) s ≡ Gives (Word n) s
choice_of c f scope ty t v w a d k n s e =
    choice_run (is_integer t) (is_integer v) (is_integer w) (is_integer v && is_integer w) a d k n s e

-- ---- commas between numbers

last_run : (c : Context) (f : Functions) (scope : Scope) (xs : Exprs) (first : Run Value) (q : Option ℕ) (n : ℕ)
    → ((s : CallState) (m : ℕ) → q ≡ Some m → first s ≡ Gives (Word m) s) → IsTrue (are_literals xs) → last_value q xs ≡ Some n
    → (s : CallState) → value_of_last c.structs c.locals f scope first xs s ≡ Gives (Word n) s
unfolding ◌>>=◌ pure
last_run c f scope no_exprs first q n h l e s = h s n e
last_run c f scope (more_exprs (Number t k) xs) first None n h l e s = absurd (none-some n e)
last_run c f scope (more_exprs (Number t k) xs) first (Some m) n h l e s =
    ap (λ r. and_then r (λ v. value_of_last c.structs c.locals f scope (pure (Word k)) xs)) (h s m refl)
    ∙ last_run c f scope xs (pure (Word k)) (constant (Number t k)) n
    (λ s2 j is. ap (λ v. Gives (Word v) s2) ((literal_there (is_integer t) k j is).1)) l e s
last_run c f scope (more_exprs x xs) first q n h l e s = no_true (front (is_literal x) (are_literals xs) l)

-- ---- every operator over literals

pub literal_run : (c : Context) (f : Functions) (scope : Scope) (x : Expr) (n : ℕ) → IsTrue (is_typed c x) → IsTrue (is_over_literals x)
    → constant x ≡ Some n → (s : CallState) → eval c.structs c.locals f scope x s ≡ Gives (Word n) s
unfolding ◌>>=◌ pure
literal_run c f scope (Unary ty op (Number t k)) n p l e s =
    let h = then_there (unary_value op (integer_of t)) (constant (Number t k)) n e in
    let is = (literal_there (is_integer t) k h.0 h.1).1 in
    unary_run c f scope ty t op k n s (rule_one (is_fit c.structs ty) (has_rule c (Unary ty op (Number t k))) (is_typed c (Number t k)) p)
    (subst (λ v. unary_value op (integer_of t) v ≡ Some n) (sym is) h.2)
literal_run c f scope (Unary ty op x) n p l e s = no_true l
literal_run c f scope (Binary ty op (Number v a) (Number w d)) n p l e s = both_run c f scope ty v w op a d n s e
literal_run c f scope (Binary ty op (Number v a) y) n p l e s = no_true l
literal_run c f scope (Binary ty op x y) n p l e s = no_true l
literal_run c f scope (Conditional ty (Number t a) (Number v d) (Number w k)) n p l e s = choice_of c f scope ty t v w a d k n s e
literal_run c f scope (Conditional ty (Number t a) (Number v d) z) n p l e s = no_true l
literal_run c f scope (Conditional ty (Number t a) y z) n p l e s = no_true l
literal_run c f scope (Conditional ty x y z) n p l e s = no_true l
literal_run c f scope (Cast ty (Number t k)) n p l e s =
    let h = then_there (converted_value (integer_of t) (integer_of ty)) (constant (Number t k)) n e in
    let is = (literal_there (is_integer t) k h.0 h.1).1 in
    converted_word t ty (place c.structs c.locals f scope (Number t k)) k n s (subst (λ v. converted_value (integer_of t) (integer_of ty) v ≡ Some n) (sym is) h.2)
literal_run c f scope (Cast ty x) n p l e s = no_true l
literal_run c f scope (Convert ty (Number t k)) n p l e s =
    let h = then_there (converted_value (integer_of t) (integer_of ty)) (constant (Number t k)) n e in
    let is = (literal_there (is_integer t) k h.0 h.1).1 in
    converted_word t ty (place c.structs c.locals f scope (Number t k)) k n s (subst (λ v. converted_value (integer_of t) (integer_of ty) v ≡ Some n) (sym is) h.2)
literal_run c f scope (Convert ty x) n p l e s = no_true l
literal_run c f scope (Comma ty no_exprs) n p l e s = absurd (none-some n e)
literal_run c f scope (Comma ty (more_exprs (Number t k) xs)) n p l e s =
    last_run c f scope xs (pure (Word k)) (constant (Number t k)) n
    (λ s2 j is. ap (λ v. Gives (Word v) s2) ((literal_there (is_integer t) k j is).1)) l e s
literal_run c f scope (Comma ty (more_exprs x xs)) n p l e s = no_true (front (is_literal x) (are_literals xs) l)
literal_run c f scope x n p l e s = no_true l

-- ---- the laws of the rule

pub fit_of : (c : Context) (x : Expr) → IsTrue (is_typed c x) → IsTrue (is_fit c.structs (type_of x))
fit_of c (Number ty n) p = front (is_fit c.structs ty) (has_rule c (Number ty n)) p
fit_of c (Local ty j) p = front (is_fit c.structs ty) (has_rule c (Local ty j)) p
fit_of c (Global ty j) p = front (is_fit c.structs ty) (has_rule c (Global ty j)) p
fit_of c (Call ty callee xs) p = fit_one (is_fit c.structs ty) (has_rule c (Call ty callee xs)) (are_typed c xs) p
fit_of c (Unary ty op x) p = fit_one (is_fit c.structs ty) (has_rule c (Unary ty op x)) (is_typed c x) p
fit_of c (Binary ty op x y) p = fit_two (is_fit c.structs ty) (has_rule c (Binary ty op x y)) (is_typed c x) (is_typed c y) p
fit_of c (Assign ty op x y) p = fit_two (is_fit c.structs ty) (has_rule c (Assign ty op x y)) (is_typed c x) (is_typed c y) p
fit_of c (Conditional ty x y z) p = fit_three (is_fit c.structs ty) (has_rule c (Conditional ty x y z)) (is_typed c x) (is_typed c y) (is_typed c z) p
fit_of c (Cast ty x) p = fit_one (is_fit c.structs ty) (has_rule c (Cast ty x)) (is_typed c x) p
fit_of c (Convert ty x) p = fit_one (is_fit c.structs ty) (has_rule c (Convert ty x)) (is_typed c x) p
fit_of c (Index ty x y) p = fit_two (is_fit c.structs ty) (has_rule c (Index ty x y)) (is_typed c x) (is_typed c y) p
fit_of c (Field ty x member) p = fit_one (is_fit c.structs ty) (has_rule c (Field ty x member)) (is_typed c x) p
fit_of c (Arrow ty x member) p = fit_one (is_fit c.structs ty) (has_rule c (Arrow ty x member)) (is_typed c x) p
fit_of c (Postfix ty op x) p = fit_one (is_fit c.structs ty) (has_rule c (Postfix ty op x)) (is_typed c x) p
fit_of c (Comma ty xs) p = fit_one (is_fit c.structs ty) (has_rule c (Comma ty xs)) (are_typed c xs) p

pub weighs : (c : Context) (x : Expr) → IsTrue (is_typed c x) → 1 ≤ expr_weight c.structs x
unfolding expr_weight
weighs c (Number ty n) p = omega arith
weighs c (Local ty j) p = omega arith
weighs c (Global ty j) p = omega arith
weighs c (Call ty callee xs) p = omega arith
weighs c (Unary ty op x) p = omega arith
weighs c (Binary ty op x y) p = omega arith
weighs c (Assign ty op x y) p = omega arith
weighs c (Conditional ty x y z) p = omega arith
weighs c (Cast ty x) p = omega arith
weighs c (Convert ty x) p = omega arith
weighs c (Index ty x y) p = omega arith
weighs c (Field ty x member) p = omega arith
weighs c (Arrow ty x member) p = omega arith
weighs c (Postfix ty op x) p = omega arith
weighs c (Comma ty no_exprs) p = no_true (rule_one (is_fit c.structs ty) (are_operands ty no_exprs) true p)
weighs c (Comma ty (more_exprs x xs)) p =
    let typed = one_typed (is_fit c.structs ty) (are_operands ty (more_exprs x xs)) (are_typed c (more_exprs x xs)) p in
    let h : 1 ≤ expr_weight c.structs x = weighs c x (front (is_typed c x) (are_typed c xs) typed) in
    omega (arith, h)

pub built_integer : (x : Expr) → IsTrue (is_built x) → IsTrue (is_integer (type_of x))
built_integer (Number ty n) h = h
built_integer (Unary ty op x) h = front (is_integer ty) (is_pure_operator op) (front (is_integer ty && is_pure_operator op) (is_built x) h)
built_integer (Binary ty op x y) h = front (is_integer ty) (is_built x) (front (is_integer ty && is_built x) (is_built y) h)
built_integer (Conditional ty x y z) h =
    front (is_integer ty) (is_built x) (front (is_integer ty && is_built x) (is_built y) (front (is_integer ty && is_built x && is_built y) (is_built z) h))
built_integer (Cast ty x) h = front (is_integer ty) (is_built x) h
built_integer (Convert ty x) h = front (is_integer ty) (is_built x) h
built_integer (Comma ty xs) h = front (is_integer ty) (are_built xs) h
built_integer x h = no_true h

-- an operator over literals is no place
no_place : (x : Expr) (n : ℕ) → IsTrue (is_over_literals x) → constant x ≡ Some n → is_place x ≡ false
no_place (Unary ty u.Dereference x) n l e =
    let h = then_there (unary_value u.Dereference (integer_of (type_of x))) (constant x) n e in
    no_constant u.Dereference (integer_of (type_of x)) h.0 n (λ v. refl) h.2
no_place (Field ty x member) n l e = no_true l
no_place (Index ty x y) n l e = no_true l
no_place (Arrow ty x member) n l e = no_true l
no_place (Local ty k) n l e = no_true l
no_place (Global ty k) n l e = no_true l
no_place x n l e = refl

no_memory : (c : Context) (x : Expr) (n : ℕ) → IsTrue (is_over_literals x) → constant x ≡ Some n → is_in_memory c.locals x ≡ false
no_memory c (Local ty k) n l e = no_true l
no_memory c (Field ty x member) n l e = no_true l
no_memory c x n l e = no_place x n l e

no_stand : (c : Context) (f : Functions) (scope : Scope) (x : Expr) (m : Run ValuePlace) (n : ℕ) → IsTrue (is_over_literals x) → constant x ≡ Some n
    → RunRefines m (place c.structs c.locals f scope x)
no_stand c f scope (Unary ty u.Dereference x) m n l e =
    let h = then_there (unary_value u.Dereference (integer_of (type_of x))) (constant x) n e in
    no_constant u.Dereference (integer_of (type_of x)) h.0 n (λ v. refl) h.2
no_stand c f scope (Local ty k) m n l e = no_true l
no_stand c f scope (Global ty k) m n l e = no_true l
no_stand c f scope (Index ty x y) m n l e = no_true l
no_stand c f scope (Field ty x member) m n l e = no_true l
no_stand c f scope (Arrow ty x member) m n l e = no_true l
no_stand c f scope x m n l e = nothing_asked _ _

never_true : {X : Type 0} (t : Bool) → t ≡ false → IsTrue t → X
never_true true e h = no_true (sym e)
never_true false e h = no_true h

literal_refines : (c : Context) (x : Expr) (n : ℕ) → IsTrue (is_typed c x) → IsTrue (is_over_literals x) → constant x ≡ Some n
    → RefinesIn c (Number (type_of x) n) x
unfolding expr_weight pure
literal_refines c x n p l e =
    let word = constant_word c x n p e in
    let integer : is_integer (type_of x) ≡ true = is_there_integer (type_of x) (record { of = word.of; is = word.is }) in
    record {
      typed = also (is_fit c.structs (type_of x)) (is_number_of (integer_of (type_of x)) n) (fit_of c x p) (ap (λ v. is_number_of v n) word.is ∙ word.word);
      types = refl;
      named = λ a h. no_true h;
      weight = weighs c x p;
      places = λ h. never_true (is_place x) (no_place x n l e) h;
      memory = λ h. never_true (is_in_memory c.locals x) (no_memory c x n l e) h;
      constants = λ m h. ap (λ b. if b then Some n else None) integer ∙ sym e ∙ h;
      built = λ h. integer;
      value = λ f i scope. as_it_is (λ s. sym (literal_run c f scope x n p l e s));
      stands = λ f i scope. no_stand c f scope x _ n l e;
    }

pub folded_refines : (x : Expr) → ExprRefines (folded x) x
folded_refines x c p = by (is_over_literals x) (constant x) refl refl
  where
    by : (t : Bool) (v : Option ℕ) → is_over_literals x ≡ t → constant x ≡ v → RefinesIn c (if t then literal_or x v else x) x
    by true (Some n) l e = literal_refines c x n p l e
    by true None l e = expr_itself x c p
    by false v l e = expr_itself x c p
