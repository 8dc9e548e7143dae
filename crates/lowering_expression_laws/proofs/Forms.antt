-- The code of forms of expression: numbers, operators on integers and conversions between them.
use Rattle.std.proofs.Common.{◌≡◌, ◌≢◌, ℕ, suc, List, [], ◌∷◌, Bool, true, false, Some, refl, sym, ap, ◌∙◌, subst, arith}
use Rattle.std.specs.Prelude.{if◌then◌else◌, slice_get}
use Rattle.mem_model.specs.declared.value.Value.{Value}
use Rattle.mem_model.specs.declared.value.Value.TheVariants.{Word}
use Rattle.mem_model.specs.Memory.{Memory}
use Rattle.mem_model.specs.World.{World, Outer, outer_with_memory}
use Rattle.mem_model.specs.Ending.{Evaluation}
use Rattle.mem_model.specs.Related.{Names}
use Rattle.machine_model.specs.Code.{Writes, Stops, Traps}
use Rattle.bk_arithmetic.specs.declared.integer_type.IntegerType.{IntegerType}
use Rattle.bk_arithmetic.specs.declared.integer_type.IntegerType.TheVariants as i
use Rattle.bk_arithmetic.specs.declared.outcome.ArithmeticOutcome.{ArithmeticOutcome}
use Rattle.bk_arithmetic.specs.declared.outcome.ArithmeticOutcome.TheVariants as a
use Rattle.bk_arithmetic.specs.IntegerTypes.{is_signed, promote}
use Rattle.bk_arithmetic.specs.Words.{is_word}
use Rattle.bk_arithmetic.specs.Outcomes.{IsWordOf}
use Rattle.bk_arithmetic.specs.Operations.{conversion, negation, complement, truth}
use Rattle.bk_arithmetic.proofs.Results.{is_word-extension, sum-word, difference-word, product-word, negation-word, quotient-word, remainder-word, left_shift-word, right_shift-word}
use Rattle.c_tree.specs.declared.expressions.UnaryOp.TheVariants as u
use Rattle.c_tree.specs.declared.expressions.BinaryOp.{BinaryOp}
use Rattle.c_tree.specs.declared.expressions.BinaryOp.TheVariants as b
use Rattle.c_typed_tree.specs.Constants.{integers_with}
use Rattle.c_typed_tree.specs.Types.{PlainType}
use Rattle.c_typed_tree.specs.Expressions.{Expr, Number, Unary, Binary, Cast, Convert, type_of}
use Rattle.c_semantics.specs.Reasons.{UsesNoValue}
use Rattle.c_semantics.specs.Runs.{CallState, Run, and_then, use_value, use_number, pure}
use Rattle.c_semantics.specs.Objects as objects
use Rattle.c_semantics.specs.Objects.{Scope}
use Rattle.c_semantics.specs.Operators.{outcome, apply_unary, integers, apply_binary, convert}
use Rattle.c_semantics.specs.Evaluates.{eval, place, converted_from}
use Rattle.suifvm_ir.specs.declared.insn.VmInsn.{VmInsn}
use Rattle.suifvm_ir.specs.declared.insn.VmInsn.TheVariants as n
use Rattle.suifvm_ir.specs.declared.insn.VmUnaryOp.{VmUnaryOp}
use Rattle.suifvm_ir.specs.declared.insn.VmUnaryOp.TheVariants.{Negate, Complement}
use Rattle.suifvm_ir.specs.Insns.{writes_of}
use Rattle.suifvm_meaning.specs.declared.answer.Answer.TheVariants.{Gives, Fails}
use Rattle.suifvm_meaning.specs.Operations as vm
use Rattle.suifvm_meaning.specs.Effect.{writes, takes_turn}
use Rattle.suifvm_meaning.specs.Behave.{Registers, set_register, set_registers}
use Rattle.lowering_code.specs.declared.item.CodeItem.{CodeItem}
use Rattle.lowering_code.specs.declared.item.CodeItem.TheVariants.{Plain}
use Rattle.lowering_code.specs.Registers.{register_type, value_register, temporary}
use Rattle.lowering_code.specs.Expressions.{plain_of, keeps_register, narrow_type, operation_of, operation_insn, binary_code, conversion_code, convert_code, plus_of, expr_code, place_code}
use Rattle.lowering_states.specs.Places.{CodePlace, next_place, stands_at}
use Rattle.lowering_states.specs.Runs.{CodeObservation, ObservesTrap, view, finish}
use Rattle.lowering_states.specs.model.Opens.{opens}
use Rattle.lowering_states.specs.States.{IsHeld, IsInRegister, KeepsLower}
use Rattle.lowering_states.proofs.Steps.{finish-bind, meets_same, plain, traps, used_meets, number_meets, outcome_meets}
use Rattle.lowering_states.proofs.States.{kept_all, kept_on, kept_temporary, kept_reads, value_at, after_same, after_on, fits_temporary}
use Rattle.lowering_states.specs.lowering_values.Laws.{is_shift_operator, does_in}
use Rattle.lowering_states.proofs.LoweringValues.Integers.{kept_is, register-promoted, integer_of-plain, register-plain, promoted_word, kept_conversion, made_conversion}
use Rattle.lowering_states.proofs.LoweringValues.Operators.{word_true, unary_is, operators_correspond}
use Rattle.lowering_states.proofs.LoweringExpressionPlaces.Behind.{at_plain}
use Rattle.lowering_expression_laws.specs.Parts.{Setting, first_depth, EndsSo, Stands, Fit, Aft, Follows, ExprMeets}
use Rattle.lowering_expression_laws.specs.Laws.{is_logical_operator, result_type}

-- ---- words in registers

pub held_word : (t : IntegerType) (k : ℕ) → is_word t k ≡ true → IsHeld (plain_of t) (Word k)
held_word t k w = ap (λ z. is_word z k) (integer_of-plain t) ∙ w

pub word_held : (t : IntegerType) (k : ℕ) → IsHeld (plain_of t) (Word k) → is_word t k ≡ true
word_held t k h = ap (λ z. is_word z k) (sym (integer_of-plain t)) ∙ h

pub value_of_word : (t : IntegerType) (k : ℕ) → is_word t k ≡ true → vm.is_value_of (register_type (plain_of t)) (Word k) ≡ true
value_of_word t k w = ap (λ z. vm.is_value_in z (Word k)) (register-plain t) ∙ word_true (promote t) k (promoted_word t k w)

-- a word of an integer type, and where it stands
pub record WordIn (L d : ℕ) (t : IntegerType) (k : ℕ) (q : Registers) : Type 0 where
  pub is_one : is_word t k ≡ true
  pub stands : q (value_register L d (plain_of t)) ≡ Word k

pub word_in : (f : Names) (L d : ℕ) (ty : PlainType) (t : IntegerType) (v : Value) (k : ℕ) (q : Registers) → ty ≡ plain_of t → v ≡ Word k → IsHeld ty v → IsInRegister f ty v (q (value_register L d ty)) → WordIn L d t k q
word_in f L d ty t v k q e is held stands =
    let h : IsHeld (plain_of t) (Word k) = subst (λ z. IsHeld z (Word k)) e (subst (λ z. IsHeld ty z) is held) in
    let s : IsInRegister f (plain_of t) (Word k) (q (value_register L d (plain_of t))) = subst (λ z. IsInRegister f z (Word k) (q (value_register L d z))) e (subst (λ z. IsInRegister f ty z (q (value_register L d ty))) is stands) in
    record { is_one = word_held t k h; stands = s }

kept_register : (s t : IntegerType) → keeps_register (plain_of s) (plain_of t) ≡ true → register_type (plain_of s) ≡ register_type (plain_of t)
kept_register s t e = sym (register-promoted s) ∙ ap (λ z. register_type (plain_of z)) (kept_is s t e)

-- what an operator gives is a word of its type
truth_word : (x : Bool) → is_word i.Int (truth x) ≡ true
truth_word true = refl
truth_word false = refl

of_outcome : (t : IntegerType) (x : ArithmeticOutcome) (k : ℕ) → x ≡ a.Word k → IsWordOf t x → is_word t k ≡ true
of_outcome t x k e h = subst (λ z. IsWordOf t z) e h

same_word : (j k : ℕ) → a.Word j ≡ a.Word k → j ≡ k
same_word j k e = cc

pub result_word : (op : BinaryOp) (t c : IntegerType) (x y k : ℕ) → integers_with op t c x y ≡ a.Word k → is_word (result_type op t) k ≡ true
result_word b.LogicalOr t c x y k e = absurd (cc)
result_word b.LogicalAnd t c x y k e = absurd (cc)
result_word b.Or t c x y k e = ap (is_word t) (sym (same_word _ k e)) ∙ is_word-extension t _
result_word b.Xor t c x y k e = ap (is_word t) (sym (same_word _ k e)) ∙ is_word-extension t _
result_word b.And t c x y k e = ap (is_word t) (sym (same_word _ k e)) ∙ is_word-extension t _
result_word b.Equal t c x y k e = ap (is_word i.Int) (sym (same_word _ k e)) ∙ truth_word _
result_word b.NotEqual t c x y k e = ap (is_word i.Int) (sym (same_word _ k e)) ∙ truth_word _
result_word b.Less t c x y k e = ap (is_word i.Int) (sym (same_word _ k e)) ∙ truth_word _
result_word b.Greater t c x y k e = ap (is_word i.Int) (sym (same_word _ k e)) ∙ truth_word _
result_word b.LessEqual t c x y k e = ap (is_word i.Int) (sym (same_word _ k e)) ∙ truth_word _
result_word b.GreaterEqual t c x y k e = ap (is_word i.Int) (sym (same_word _ k e)) ∙ truth_word _
result_word b.ShiftLeft t c x y k e = of_outcome t _ k e (left_shift-word t c x y)
result_word b.ShiftRight t c x y k e = of_outcome t _ k e (right_shift-word t c x y)
result_word b.Add t c x y k e = of_outcome t _ k e (sum-word t x y)
result_word b.Subtract t c x y k e = of_outcome t _ k e (difference-word t x y)
result_word b.Multiply t c x y k e = of_outcome t _ k e (product-word t x y)
result_word b.Divide t c x y k e = of_outcome t _ k e (quotient-word t x y)
result_word b.Remainder t c x y k e = of_outcome t _ k e (remainder-word t x y)

module _ (c : Setting) (found : slice_get c.functions c.number ≡ Some c.code) where
  abbrev L : ℕ
  L = first_depth c

  pub insn_on : {o : CodeObservation} (insn : VmInsn) (p : CodePlace) (r : Registers) (w : World) (m : Memory) (vs : List Value) → stands_at c.code.blocks p ≡ Some (Some insn)
      → takes_turn insn ≡ false → does_in c.own r (outer_with_memory w.outer m) insn ≡ Writes vs (outer_with_memory w.outer m)
      → EndsSo c o (next_place p) (set_registers (writes_of insn) vs r) w m → EndsSo c o p r w m
  insn_on insn p r w m vs e calm d next = plain c.rooms c.functions c.number c.code found c.own c.waiting insn p r w m vs m e calm d next

  insn_traps : {o : CodeObservation} (insn : VmInsn) (p : CodePlace) (r : Registers) (w : World) (m : Memory) (code : ℕ) → stands_at c.code.blocks p ≡ Some (Some insn)
      → takes_turn insn ≡ false → does_in c.own r (outer_with_memory w.outer m) insn ≡ Stops (Traps code) (outer_with_memory w.outer m)
      → ObservesTrap (view w) code ≡ o → EndsSo c o p r w m
  insn_traps insn p r w m code e calm d same = traps c.rooms c.functions c.number c.code found c.own c.waiting insn p r w m code e calm d same

  pub bound_run : {A B : Type 0} (x : Evaluation A CallState) (k : A → Run B) (K : B → CallState → CodeObservation) (p : CodePlace) (r : Registers) (w : World) (m : Memory)
      → EndsSo c (finish x (λ a s. finish (k a s) K)) p r w m → EndsSo c (finish (and_then x k) K) p r w m
  bound_run x k K p r w m h = meets_same c.rooms c.functions (finish-bind x k K) h

  pub numbers : (t : IntegerType) (k : ℕ) → is_word t k ≡ true → ExprMeets c (Number (plain_of t) k)
  unfolding opens
  numbers t k w = record {
    by = λ d rest heads p f scope r s m K at fit low next.
        let ty = register_type (plain_of t) in
        let insn : VmInsn = n.LoadConstant ty (value_register L d (plain_of t)) k in
        insn_on insn p r s.world m (Word k ∷ []) at.has.0 refl
        (ap (λ x. writes (if x then Gives (Word k) else Fails) (outer_with_memory s.world.outer m)) (value_of_word t k w))
        (next (next_place p) (Word k) f s (set_register (value_register L d (plain_of t)) (Word k) r) m (at_plain c.code.blocks c.last c.end insn at) after_same (fits_temporary d ty (Word k) fit)
        (kept_temporary d ty (Word k) (omega arith) kept_all) (held_word t k w) (value_at f (Word k) (Word k) r (value_register L d (plain_of t)) refl));
  }

  pub pluses : (ty : PlainType) (x : Expr) → type_of x ≡ ty → ExprMeets c x → ExprMeets c (Unary ty u.Plus x)
  unfolding opens
  pluses ty x e h = record {
    by = λ d rest heads p f scope r s m K at fit low next.
        bound_run (eval c.structs c.locals c.calls scope x s) (λ v. use_value UsesNoValue v) K p r s.world m
        (h.by d rest heads p f scope r s m (λ v t. finish (use_value UsesNoValue v t) K) at fit low
        (λ q v g t q1 m1 at1 aft fit1 kept held stands.
        used_meets c.rooms c.functions UsesNoValue v t K _ (λ set.
        next q v g t q1 m1 at1 aft fit1 kept (subst (λ z. IsHeld z v) e held) (subst (λ z. IsInRegister g z v (q1 (value_register L d z))) e stands))));
  }

  -- an operator in front of an integer, whose instruction gives a word
  pub unary_on : (op : VmUnaryOp) (d : ℕ) (t : IntegerType) (k : ℕ) (q1 : Registers) (w : World) (m : Memory) → promote t ≡ t → WordIn L d t k q1
      → does_in c.own q1 (outer_with_memory w.outer m) (n.Unary op (register_type (plain_of t)) (value_register L d (plain_of t)) (value_register L d (plain_of t))) ≡ writes (vm.unary_number op t k) (outer_with_memory w.outer m)
  unary_on op d t k q1 w m p word =
      ap (λ a. writes (vm.unary_answer op (register_type (plain_of t)) a) (outer_with_memory w.outer m)) word.stands
      ∙ ap (λ a. writes a (outer_with_memory w.outer m)) (unary_is t op k word.is_one ∙ ap (λ z. vm.unary_number op z k) p)

  pub negations : (t : IntegerType) (x : Expr) → promote t ≡ t → type_of x ≡ plain_of t → ExprMeets c x → ExprMeets c (Unary (plain_of t) u.Minus x)
  unfolding opens
  negations t x p e h = record {
    by = λ d rest heads place f scope r s m K at fit low next.
        let insn : VmInsn = n.Unary Negate (register_type (plain_of t)) (value_register L d (plain_of t)) (value_register L d (plain_of t)) in
        let rest1 = Plain insn ∷ rest in
        let run : Value → Run Value = λ v. apply_unary u.Minus (plain_of t) v in
        bound_run (eval c.structs c.locals c.calls scope x s) run K place r s.world m
        (h.by d rest1 heads place f scope r s m (λ v t1. finish (run v t1) K) at fit low
        (λ q v g t1 q1 m1 at1 aft fit1 kept held stands.
        bound_run (use_number v t1) (λ k. outcome (negation (objects.integer_or_word (plain_of t)) k)) K q q1 t1.world m1
        (number_meets c.rooms c.functions v t1 (λ k t2. finish (outcome (negation (objects.integer_or_word (plain_of t)) k) t2) K) _ (λ k is.
        let word = word_in g L d (type_of x) t v k q1 e is held stands in
        let done = unary_on Negate d t k q1 t1.world m1 p word in
        meets_same c.rooms c.functions (ap (λ z. finish (outcome (negation z k) t1) K) (integer_of-plain t))
        (outcome_meets c.rooms c.functions (negation t k) t1 K _
        (λ k1 e1.
        insn_on insn q q1 t1.world m1 (Word k1 ∷ []) at1.has.0 refl (done ∙ ap (λ a. writes (vm.outcome_answer a) (outer_with_memory t1.world.outer m1)) e1)
        (next (next_place q) (Word k1) g t1 (set_register (value_register L d (plain_of t)) (Word k1) q1) m1 (at_plain c.code.blocks c.last c.end insn at1) aft (fits_temporary d (register_type (plain_of t)) (Word k1) fit1)
        (kept_temporary d (register_type (plain_of t)) (Word k1) (omega arith) kept) (held_word t k1 (of_outcome t (negation t k) k1 e1 (negation-word t k))) (value_at g (Word k1) (Word k1) q1 (value_register L d (plain_of t)) refl)))
        (λ code e1. insn_traps insn q q1 t1.world m1 code at1.has.0 refl (done ∙ ap (λ a. writes (vm.outcome_answer a) (outer_with_memory t1.world.outer m1)) e1) refl))))));
  }

  pub complements : (t : IntegerType) (x : Expr) → promote t ≡ t → type_of x ≡ plain_of t → ExprMeets c x → ExprMeets c (Unary (plain_of t) u.Invert x)
  unfolding opens
  complements t x p e h = record {
    by = λ d rest heads place f scope r s m K at fit low next.
        let insn : VmInsn = n.Unary Complement (register_type (plain_of t)) (value_register L d (plain_of t)) (value_register L d (plain_of t)) in
        let rest1 = Plain insn ∷ rest in
        let run : Value → Run Value = λ v. apply_unary u.Invert (plain_of t) v in
        bound_run (eval c.structs c.locals c.calls scope x s) run K place r s.world m
        (h.by d rest1 heads place f scope r s m (λ v t1. finish (run v t1) K) at fit low
        (λ q v g t1 q1 m1 at1 aft fit1 kept held stands.
        bound_run (use_number v t1) (λ k. pure (Word (complement (objects.integer_or_word (plain_of t)) k))) K q q1 t1.world m1
        (number_meets c.rooms c.functions v t1 (λ k t2. K (Word (complement (objects.integer_or_word (plain_of t)) k)) t2) _ (λ k is.
        let word = word_in g L d (type_of x) t v k q1 e is held stands in
        let k1 = complement t k in
        let done = unary_on Complement d t k q1 t1.world m1 p word in
        meets_same c.rooms c.functions (ap (λ z. K (Word (complement z k)) t1) (integer_of-plain t))
        (insn_on insn q q1 t1.world m1 (Word k1 ∷ []) at1.has.0 refl done
        (next (next_place q) (Word k1) g t1 (set_register (value_register L d (plain_of t)) (Word k1) q1) m1 (at_plain c.code.blocks c.last c.end insn at1) aft (fits_temporary d (register_type (plain_of t)) (Word k1) fit1)
        (kept_temporary d (register_type (plain_of t)) (Word k1) (omega arith) kept) (held_word t k1 (is_word-extension t _)) (value_at g (Word k1) (Word k1) q1 (value_register L d (plain_of t)) refl)))))));
  }

  -- ---- operators between integers

  -- the meaning, and the code, of an operator between two integers
  eval_is : (op : BinaryOp) → is_logical_operator op ≡ false → (ty : PlainType) (x y : Expr) (scope : Scope) (s : CallState)
      → eval c.structs c.locals c.calls scope (Binary ty op x y) s
      ≡ and_then (eval c.structs c.locals c.calls scope x s) (λ v t. and_then (eval c.structs c.locals c.calls scope y t) (λ w. apply_binary c.structs op (type_of x) (type_of y) v w))
  unfolding opens
  eval_is b.LogicalOr h ty x y scope s = absurd (cc)
  eval_is b.LogicalAnd h ty x y scope s = absurd (cc)
  eval_is b.Or h ty x y scope s = refl
  eval_is b.Xor h ty x y scope s = refl
  eval_is b.And h ty x y scope s = refl
  eval_is b.Equal h ty x y scope s = refl
  eval_is b.NotEqual h ty x y scope s = refl
  eval_is b.Less h ty x y scope s = refl
  eval_is b.Greater h ty x y scope s = refl
  eval_is b.LessEqual h ty x y scope s = refl
  eval_is b.GreaterEqual h ty x y scope s = refl
  eval_is b.ShiftLeft h ty x y scope s = refl
  eval_is b.ShiftRight h ty x y scope s = refl
  eval_is b.Add h ty x y scope s = refl
  eval_is b.Subtract h ty x y scope s = refl
  eval_is b.Multiply h ty x y scope s = refl
  eval_is b.Divide h ty x y scope s = refl
  eval_is b.Remainder h ty x y scope s = refl

  code_is : (op : BinaryOp) → is_logical_operator op ≡ false → (ty : PlainType) (x y : Expr) (d : ℕ) (rest : List CodeItem)
      → expr_code L c.structs c.locals d (Binary ty op x y) rest
      ≡ expr_code L c.structs c.locals d x (expr_code L c.structs c.locals (suc d) y (binary_code L c.structs op d ty (type_of x) (type_of y) rest))
  code_is b.LogicalOr h ty x y d rest = absurd (cc)
  code_is b.LogicalAnd h ty x y d rest = absurd (cc)
  code_is b.Or h ty x y d rest = refl
  code_is b.Xor h ty x y d rest = refl
  code_is b.And h ty x y d rest = refl
  code_is b.Equal h ty x y d rest = refl
  code_is b.NotEqual h ty x y d rest = refl
  code_is b.Less h ty x y d rest = refl
  code_is b.Greater h ty x y d rest = refl
  code_is b.LessEqual h ty x y d rest = refl
  code_is b.GreaterEqual h ty x y d rest = refl
  code_is b.ShiftLeft h ty x y d rest = refl
  code_is b.ShiftRight h ty x y d rest = refl
  code_is b.Add h ty x y d rest = refl
  code_is b.Subtract h ty x y d rest = refl
  code_is b.Multiply h ty x y d rest = refl
  code_is b.Divide h ty x y d rest = refl
  code_is b.Remainder h ty x y d rest = refl

  abbrev insn_of : (op : BinaryOp) (d : ℕ) (ty : PlainType) (t o : IntegerType) → VmInsn
  insn_of op d ty t o =
      operation_insn (operation_of op (is_signed t)) (register_type (plain_of t)) (value_register L d ty) (value_register L d (plain_of t)) (value_register L (suc d) (plain_of o))

  -- that instruction puts what it gives into its register, without a turn
  calm_is : (op : BinaryOp) (d : ℕ) (ty : PlainType) (t o : IntegerType) → takes_turn (insn_of op d ty t o) ≡ false
  calm_is b.LogicalOr d ty t o = refl
  calm_is b.LogicalAnd d ty t o = refl
  calm_is b.Or d ty t o = refl
  calm_is b.Xor d ty t o = refl
  calm_is b.And d ty t o = refl
  calm_is b.Equal d ty t o = refl
  calm_is b.NotEqual d ty t o = refl
  calm_is b.Less d ty t o = refl
  calm_is b.Greater d ty t o = refl
  calm_is b.LessEqual d ty t o = refl
  calm_is b.GreaterEqual d ty t o = refl
  calm_is b.ShiftLeft d ty t o = refl
  calm_is b.ShiftRight d ty t o = refl
  calm_is b.Add d ty t o = refl
  calm_is b.Subtract d ty t o = refl
  calm_is b.Multiply d ty t o = refl
  calm_is b.Divide d ty t o = refl
  calm_is b.Remainder d ty t o = refl

  puts_is : (op : BinaryOp) (d : ℕ) (ty : PlainType) (t o : IntegerType) → writes_of (insn_of op d ty t o) ≡ value_register L d ty ∷ []
  puts_is b.LogicalOr d ty t o = refl
  puts_is b.LogicalAnd d ty t o = refl
  puts_is b.Or d ty t o = refl
  puts_is b.Xor d ty t o = refl
  puts_is b.And d ty t o = refl
  puts_is b.Equal d ty t o = refl
  puts_is b.NotEqual d ty t o = refl
  puts_is b.Less d ty t o = refl
  puts_is b.Greater d ty t o = refl
  puts_is b.LessEqual d ty t o = refl
  puts_is b.GreaterEqual d ty t o = refl
  puts_is b.ShiftLeft d ty t o = refl
  puts_is b.ShiftRight d ty t o = refl
  puts_is b.Add d ty t o = refl
  puts_is b.Subtract d ty t o = refl
  puts_is b.Multiply d ty t o = refl
  puts_is b.Divide d ty t o = refl
  puts_is b.Remainder d ty t o = refl

  module _ (op : BinaryOp) (plain_op : is_logical_operator op ≡ false) (t o : IntegerType) (pt : promote t ≡ t) (same : is_shift_operator op ≡ false → o ≡ t) where
    abbrev R : PlainType
    R = plain_of (result_type op t)

    -- both operands are known
    operator_meets : (d : ℕ) (rest : List CodeItem) (heads : List ℕ) (f : Names) (scope : Scope) (r : Registers) (s : CallState) (m : Memory) (K : Value → CallState → CodeObservation) → Follows c d R heads rest f scope r s m K
        → (q : CodePlace) (x y : ℕ) (g : Names) (t1 : CallState) (q1 : Registers) (m1 : Memory) → Stands c heads q (Plain (insn_of op d R t o) ∷ rest) → Aft c f s m g t1 m1 → Fit c g scope q1 t1 m1
        → KeepsLower L d r q1 → WordIn L d t x q1 → WordIn L (suc d) o y q1
        → EndsSo c (finish (outcome (integers_with op t o x y) t1) K) q q1 t1.world m1
    unfolding opens
    operator_meets d rest heads f scope r s m K next q x y g t1 q1 m1 at1 aft fit1 kept wx wy =
        let insn = insn_of op d R t o in
        let u : Outer = outer_with_memory t1.world.outer m1 in
        let does_it : integers_with op t o x y ≢ a.Undefined → does_in c.own q1 u insn ≡ writes (vm.outcome_answer (integers_with op t o x y)) u =
        λ ne. operators_correspond op t o (value_register L d R) (value_register L d (plain_of t)) (value_register L (suc d) (plain_of o)) c.own q1 u x y pt same wx.stands wy.stands wx.is_one wy.is_one ne in
        outcome_meets c.rooms c.functions (integers_with op t o x y) t1 K _
        (λ k e.
        insn_on insn q q1 t1.world m1 (Word k ∷ []) at1.has.0 (calm_is op d R t o) (does_it (λ bad. word_defined _ k e bad) ∙ ap (λ a. writes (vm.outcome_answer a) u) e)
        (subst (λ ws. EndsSo c (K (Word k) t1) (next_place q) (set_registers ws (Word k ∷ []) q1) t1.world m1) (sym (puts_is op d R t o))
        (next (next_place q) (Word k) g t1 (set_register (value_register L d R) (Word k) q1) m1 (at_plain c.code.blocks c.last c.end insn at1) aft (fits_temporary d (register_type R) (Word k) fit1)
        (kept_temporary d (register_type R) (Word k) (omega arith) kept) (held_word (result_type op t) k (result_word op t o x y k e)) (value_at g (Word k) (Word k) q1 (value_register L d R) refl))))
        (λ code e. insn_traps insn q q1 t1.world m1 code at1.has.0 (calm_is op d R t o) (does_it (λ bad. trap_defined _ code e bad) ∙ ap (λ a. writes (vm.outcome_answer a) u) e) refl)
      where
        word_defined : (z : ArithmeticOutcome) (k : ℕ) → z ≡ a.Word k → z ≡ a.Undefined → ⊥
        word_defined z k e bad = cc

        trap_defined : (z : ArithmeticOutcome) (k : ℕ) → z ≡ a.Trap k → z ≡ a.Undefined → ⊥
        trap_defined z k e bad = cc

    pub operators : (x y : Expr) → type_of x ≡ plain_of t → type_of y ≡ plain_of o → ExprMeets c x → ExprMeets c y → ExprMeets c (Binary R op x y)
    unfolding opens
    operators x y ex ey hx hy = record {
      by = λ d rest heads place f scope r s m K at fit low next.
          let insn = insn_of op d R t o in
          let code_e : expr_code L c.structs c.locals d (Binary R op x y) rest ≡ expr_code L c.structs c.locals d x (expr_code L c.structs c.locals (suc d) y (Plain insn ∷ rest)) =
          code_is op plain_op R x y d rest
          ∙ ap (λ z. expr_code L c.structs c.locals d x (expr_code L c.structs c.locals (suc d) y (binary_code L c.structs op d R z (type_of y) rest))) ex
          ∙ ap (λ z. expr_code L c.structs c.locals d x (expr_code L c.structs c.locals (suc d) y (binary_code L c.structs op d R (plain_of t) z rest))) ey in
          let run : Value → Value → Run Value = λ v w. apply_binary c.structs op (type_of x) (type_of y) v w in
          meets_same c.rooms c.functions (ap (λ z. finish z K) (eval_is op plain_op R x y scope s))
          (bound_run (eval c.structs c.locals c.calls scope x s) (λ v t1. and_then (eval c.structs c.locals c.calls scope y t1) (run v)) K place r s.world m
          (hx.by d (expr_code L c.structs c.locals (suc d) y (Plain insn ∷ rest)) heads place f scope r s m (λ v t1. finish (and_then (eval c.structs c.locals c.calls scope y t1) (run v)) K)
          (subst (λ z. Stands c heads place z) code_e at) fit low
          (λ q v g t1 q1 m1 at1 aft fit1 kept held stands.
          bound_run (eval c.structs c.locals c.calls scope y t1) (run v) K q q1 t1.world m1
          (hy.by (suc d) (Plain insn ∷ rest) heads q g scope q1 t1 m1 (λ w t2. finish (run v w t2) K) at1 fit1 (omega (arith, aft.turned, low))
          (λ q2 w g2 t2 q3 m2 at2 aft2 fit2 kept2 held2 stands2.
          meets_same c.rooms c.functions
          (ap (λ z. finish (apply_binary c.structs op z (type_of y) v w t2) K) ex ∙ ap (λ z. finish (apply_binary c.structs op (plain_of t) z v w t2) K) ey
          ∙ ap (λ z. finish (integers op z (objects.integer_or_word (plain_of o)) v w t2) K) (integer_of-plain t) ∙ ap (λ z. finish (integers op t z v w t2) K) (integer_of-plain o))
          (bound_run (use_number v t2) (λ i t3. and_then (use_number w t3) (λ j. outcome (integers_with op t o i j))) K q2 q3 t2.world m2
          (number_meets c.rooms c.functions v t2 (λ i t3. finish (and_then (use_number w t3) (λ j. outcome (integers_with op t o i j))) K) _ (λ i vi.
          bound_run (use_number w t2) (λ j. outcome (integers_with op t o i j)) K q2 q3 t2.world m2
          (number_meets c.rooms c.functions w t2 (λ j t3. finish (outcome (integers_with op t o i j) t3) K) _ (λ j wj.
          let one = word_in g L d (type_of x) t v i q1 ex vi held stands in
          let kept_one : q3 (value_register L d (plain_of t)) ≡ q1 (value_register L d (plain_of t)) = kept_reads d (register_type (plain_of t)) (omega arith) kept2 in
          operator_meets d rest heads f scope r s m K next q2 i j g2 t2 q3 m2 at2 (after_on aft aft2) fit2 (kept_on (omega arith) kept kept2)
          (record { is_one = one.is_one; stands = kept_one ∙ one.stands }) (word_in g2 L (suc d) (type_of y) o w j q3 ey wj held2 stands2)))))))))));
    }

  -- ---- conversions between integer types

  module _ (t o : IntegerType) where
    -- a word is converted
    conversion_meets : (d : ℕ) (rest : List CodeItem) (heads : List ℕ) (f : Names) (scope : Scope) (r : Registers) (s : CallState) (m : Memory) (K : Value → CallState → CodeObservation) → Follows c d (plain_of o) heads rest f scope r s m K
        → (q : CodePlace) (k : ℕ) (g : Names) (t1 : CallState) (q1 : Registers) (m1 : Memory) → Stands c heads q (convert_code L d (plain_of t) (plain_of o) rest) → Aft c f s m g t1 m1 → Fit c g scope q1 t1 m1
        → KeepsLower L d r q1 → WordIn L d t k q1 → EndsSo c (K (Word (conversion t o k)) t1) q q1 t1.world m1
    conversion_meets d rest heads f scope r s m K next q k g t1 q1 m1 at1 aft fit1 kept word = by_kept (keeps_register (plain_of t) (plain_of o)) refl at1
      where
        k1 : ℕ
        k1 = conversion t o k

        insn : VmInsn
        insn = n.Convert (narrow_type (plain_of t) (plain_of o)) (register_type (plain_of o)) (value_register L d (plain_of o)) (value_register L d (plain_of t))

        by_kept : (x : Bool) → keeps_register (plain_of t) (plain_of o) ≡ x → Stands c heads q (if x then rest else Plain insn ∷ rest) → EndsSo c (K (Word k1) t1) q q1 t1.world m1
        by_kept true e at2 =
            let register : register_type (plain_of t) ≡ register_type (plain_of o) = kept_register t o e in
            let stands : q1 (value_register L d (plain_of o)) ≡ Word k1 = ap (λ z. q1 (temporary L d z)) (sym register) ∙ word.stands ∙ ap Word (sym (kept_conversion t o k word.is_one e)) in
            next q (Word k1) g t1 q1 m1 at2 aft fit1 kept (held_word o k1 (is_word-extension o _)) stands
        by_kept false e at2 =
            insn_on insn q q1 t1.world m1 (Word k1 ∷ []) at2.has.0 refl
            (ap (λ a. writes (vm.convert_answer (narrow_type (plain_of t) (plain_of o)) (register_type (plain_of o)) a) (outer_with_memory t1.world.outer m1)) word.stands
            ∙ ap (λ a. writes a (outer_with_memory t1.world.outer m1)) (made_conversion t o k word.is_one))
            (next (next_place q) (Word k1) g t1 (set_register (value_register L d (plain_of o)) (Word k1) q1) m1 (at_plain c.code.blocks c.last c.end insn at2) aft (fits_temporary d (register_type (plain_of o)) (Word k1) fit1)
            (kept_temporary d (register_type (plain_of o)) (Word k1) (omega arith) kept) (held_word o k1 (is_word-extension o _)) (value_at g (Word k1) (Word k1) q1 (value_register L d (plain_of o)) refl))

    -- a conversion and a cast are one
    conversion_by : (x : Expr) (y : Expr) → type_of y ≡ plain_of o → type_of x ≡ plain_of t → ExprMeets c x
        → ((scope : Scope) (s : CallState) → eval c.structs c.locals c.calls scope y s ≡ converted_from (type_of x) (plain_of o) (eval c.structs c.locals c.calls scope x) (place c.structs c.locals c.calls scope x) s)
        → ((d : ℕ) (rest : List CodeItem) → expr_code L c.structs c.locals d y rest
        ≡ conversion_code L c.structs c.locals d (type_of x) (plain_of o) (plus_of L c.structs c.locals x 0) (λ is. place_code L c.structs c.locals d x 0 is) (λ is. expr_code L c.structs c.locals d x is) rest)
        → ExprMeets c y
    unfolding opens
    conversion_by x y ty ex hx ev co = record {
      by = λ d rest heads p f scope r s m K at fit low next.
          let code_e : expr_code L c.structs c.locals d y rest ≡ expr_code L c.structs c.locals d x (convert_code L d (plain_of t) (plain_of o) rest) =
          co d rest ∙ ap (λ z. conversion_code L c.structs c.locals d z (plain_of o) (plus_of L c.structs c.locals x 0) (λ is. place_code L c.structs c.locals d x 0 is) (λ is. expr_code L c.structs c.locals d x is) rest) ex in
          let next1 : Follows c d (plain_of o) heads rest f scope r s m K = subst (λ z. Follows c d z heads rest f scope r s m K) ty next in
          meets_same c.rooms c.functions (ap (λ z. finish z K) (ev scope s ∙ ap (λ z. converted_from z (plain_of o) (eval c.structs c.locals c.calls scope x) (place c.structs c.locals c.calls scope x) s) ex))
          (bound_run (eval c.structs c.locals c.calls scope x s) (λ v. convert (plain_of t) (plain_of o) v) K p r s.world m
          (hx.by d (convert_code L d (plain_of t) (plain_of o) rest) heads p f scope r s m (λ v t1. finish (convert (plain_of t) (plain_of o) v t1) K) (subst (λ z. Stands c heads p z) code_e at) fit low
          (λ q v g t1 q1 m1 at1 aft fit1 kept held stands.
          bound_run (use_number v t1) (λ k. pure (Word (conversion (objects.integer_or_word (plain_of t)) (objects.integer_or_word (plain_of o)) k))) K q q1 t1.world m1
          (number_meets c.rooms c.functions v t1 (λ k t2. K (Word (conversion (objects.integer_or_word (plain_of t)) (objects.integer_or_word (plain_of o)) k)) t2) _ (λ k is.
          meets_same c.rooms c.functions (ap (λ z. K (Word (conversion z (objects.integer_or_word (plain_of o)) k)) t1) (integer_of-plain t) ∙ ap (λ z. K (Word (conversion t z k)) t1) (integer_of-plain o))
          (conversion_meets d rest heads f scope r s m K next1 q k g t1 q1 m1 at1 aft fit1 kept (word_in g L d (type_of x) t v k q1 ex is held stands)))))));
    }

    pub conversions : (x : Expr) → type_of x ≡ plain_of t → ExprMeets c x → ExprMeets c (Convert (plain_of o) x)
    conversions x ex hx = conversion_by x (Convert (plain_of o) x) refl ex hx (λ scope s. refl) (λ d rest. refl)

    pub casts : (x : Expr) → type_of x ≡ plain_of t → ExprMeets c x → ExprMeets c (Cast (plain_of o) x)
    casts x ex hx = conversion_by x (Cast (plain_of o) x) refl ex hx (λ scope s. refl) (λ d rest. refl)
