-- The code of commas, of `!`, and of conversions to void and between pointers.
use Rattle.std.proofs.Common.{◌≡◌, ℕ, suc, ◌≤◌, List, [], ◌∷◌, Bool, true, false, not, Some, refl, sym, ap, ◌∙◌, subst, arith, inl, inr}
use Rattle.std.specs.Prelude.{◌==◌, if◌then◌else◌, slice_get}
use Rattle.mem_model.specs.declared.value.Value.{Value}
use Rattle.mem_model.specs.declared.value.Value.TheVariants.{Word, Address, Unset}
use Rattle.mem_model.specs.Memory.{Memory}
use Rattle.mem_model.specs.World.{outer_with_memory}
use Rattle.mem_model.specs.Pointers as ptrs
use Rattle.mem_model.specs.Related.{Names, IsValueOf, IsMemoryOf}
use Rattle.mem_model.proofs.Pointers.{when-true}
use Rattle.mem_model.proofs.RelatedPointers.{answers_correspond}
use Rattle.bk_arithmetic.specs.declared.integer_type.IntegerType.{IntegerType}
use Rattle.bk_arithmetic.specs.declared.integer_type.IntegerType.TheVariants as i
use Rattle.bk_arithmetic.specs.IntegerTypes.{promote}
use Rattle.bk_arithmetic.specs.Operations.{truth, is_equal}
use Rattle.bk_arithmetic.specs.Words.{extension, is_word}
use Rattle.bk_arithmetic.proofs.Comparisons.{equal-words}
use Rattle.c_tree.specs.declared.expressions.UnaryOp.TheVariants as u
use Rattle.c_typed_tree.specs.Types.{PlainType, Void, Pointer}
use Rattle.c_typed_tree.specs.Expressions.{Expr, Unary, Cast, Convert, Comma, Exprs, no_exprs, more_exprs, type_of}
use Rattle.c_semantics.specs.Reasons.{UsesNoValue}
use Rattle.c_semantics.specs.Runs.{CallState, Run, and_then}
use Rattle.c_semantics.specs.Objects.{Scope}
use Rattle.c_semantics.specs.Operators.{test, pure_truth, convert}
use Rattle.c_semantics.specs.Evaluates.{eval, place, choose, value_of_last, converted_from}
use Rattle.suifvm_ir.specs.declared.insn.CompareOp.TheVariants.{Equal}
use Rattle.suifvm_ir.specs.declared.insn.VmInsn.TheVariants as n
use Rattle.suifvm_meaning.specs.declared.answer.Answer.TheVariants.{Gives, Fails}
use Rattle.suifvm_meaning.specs.Operations as vm
use Rattle.suifvm_meaning.specs.Effect.{writes}
use Rattle.suifvm_meaning.specs.Behave.{Registers, set_register}
use Rattle.lowering_code.specs.declared.item.CodeItem.{CodeItem}
use Rattle.lowering_code.specs.Registers.{register_type, value_register}
use Rattle.lowering_code.specs.Expressions.{plain_of, not_code, plus_of, conversion_code, expr_code, place_code, commas_code}
use Rattle.lowering_states.specs.Places.{CodePlace, next_place}
use Rattle.lowering_states.specs.Runs.{CodeObservation, finish}
use Rattle.lowering_states.specs.model.Opens.{opens}
use Rattle.lowering_states.specs.States.{IsHeld, IsInRegister}
use Rattle.lowering_states.proofs.Steps.{finish-bind, meets_same, used_meets}
use Rattle.lowering_states.proofs.States.{set_same, set_other, other_depth, kept_on, kept_temporary, value_at, after_on, fits_temporary}
use Rattle.lowering_states.proofs.LoweringValues.Integers.{register-promoted, promoted_word, word_is}
use Rattle.lowering_states.proofs.LoweringValues.Operators.{word_true, compare_is}
use Rattle.lowering_states.proofs.LoweringExpressionPlaces.Behind.{at_plain}
use Rattle.lowering_expression_laws.specs.Parts.{Setting, first_depth, EndsSo, Stands, Fit, Follows, ExprMeets}
use Rattle.lowering_expression_laws.specs.Laws.{IsScalarType}
use Rattle.lowering_expression_laws.proofs.Forms.{held_word, word_held, value_of_word, insn_on, bound_run}
use Rattle.lowering_expression_laws.proofs.Choices.{TestIs, test_meets}
use Rattle.lowering_expression_laws.specs.lowering_operand_laws.Laws.{last_type, AllOperandsMeet}

-- ---- a value beside zero, or null

zero_word : (t : IntegerType) → is_word t 0 ≡ true
zero_word i.Char = refl
zero_word i.UnsignedChar = refl
zero_word i.Short = refl
zero_word i.UnsignedShort = refl
zero_word i.Int = refl
zero_word i.UnsignedInt = refl
zero_word i.Long = refl
zero_word i.UnsignedLong = refl

pub promoted_again : (t : IntegerType) → promote (promote t) ≡ promote t
promoted_again i.Char = refl
promoted_again i.UnsignedChar = refl
promoted_again i.Short = refl
promoted_again i.UnsignedShort = refl
promoted_again i.Int = refl
promoted_again i.UnsignedInt = refl
promoted_again i.Long = refl
promoted_again i.UnsignedLong = refl

twice_not : (x : Bool) → x ≡ not (not x)
twice_not true = refl
twice_not false = refl

equal_zero : (t : IntegerType) (k : ℕ) → extension t k ≡ k → is_equal t k 0 ≡ (k == 0)
equal_zero t k e = equal-words t k 0 ∙ ap (λ z. z == extension t 0) e ∙ ap (λ z. k == z) (word_is t 0 (zero_word t))

-- what the comparison with zero gives, of a value that was tested
integer_not : (m : Memory) (f : Names) (t : IntegerType) (n1 : Memory) (v w : Value) (x : Bool) → IsHeld (plain_of t) v → IsValueOf f v w → TestIs m v x → vm.compare_answer n1 Equal (register_type (plain_of t)) w (Word 0) ≡ Gives (Word (truth (not x)))
integer_not m f t n1 (Word k) w x held rel is =
    let word = word_held t k held in
    let wide : extension (promote t) k ≡ k = promoted_word t k word in
    ap (λ z. vm.compare_answer n1 Equal (register_type (plain_of t)) z (Word 0)) rel
    ∙ ap (λ z. vm.compare_answer n1 Equal z (Word k) (Word 0)) (sym (register-promoted t))
    ∙ compare_is (promote t) n1 Equal k 0 (promoted_again t) (word_true (promote t) k wide) (zero_word (promote t))
    ∙ ap (λ z. Gives (Word (truth z))) (equal_zero (promote t) k wide ∙ twice_not (k == 0) ∙ ap not (sym is))
integer_not m f t n1 (Address a) w x held rel is = absurd held
integer_not m f t n1 Unset w x held rel is = absurd is

pointer_not : (m : Memory) (f : Names) (target : PlainType) (n1 : Memory) (v w : Value) (x : Bool) → IsMemoryOf f m n1 → IsHeld (Pointer target) v → IsValueOf f v w → TestIs m v x
    → vm.compare_answer n1 Equal (register_type (Pointer target)) w (Word 0) ≡ Gives (Word (truth (not x)))
pointer_not m f target n1 (Word k) w x h held rel is =
    ap (λ z. vm.test_answer (ptrs.pointer_eq n1 z (Word 0))) (rel ∙ ap Word held) ∙ ap (λ z. Gives (Word (truth z))) (twice_not true ∙ ap not (ap (λ z. not (z == 0)) (sym held) ∙ sym is))
pointer_not m f target n1 (Address a) w x h held rel is =
    let same : ptrs.pointer_eq m (Address a) (Word 0) ≡ Some false = when-true (ptrs.is_live m a) false false is.0 refl in
    ap vm.test_answer ((answers_correspond f m n1 h (Address a) (Word 0) w (Word 0) rel refl).eq false same) ∙ ap (λ z. Gives (Word (truth (not z)))) (sym is.1)
pointer_not m f target n1 Unset w x h held rel is = absurd is

-- zero, or null, may stand in the register
zero_stands : (ty : PlainType) → IsScalarType ty → vm.is_value_of (register_type ty) (Word 0) ≡ true
zero_stands ty (inl t) = subst (λ z. vm.is_value_of (register_type z) (Word 0) ≡ true) (sym t.1) (value_of_word t.0 0 (zero_word t.0))
zero_stands ty (inr t) = subst (λ z. vm.is_value_of (register_type z) (Word 0) ≡ true) (sym t.1) refl

not_there : (m : Memory) (f : Names) (ty : PlainType) (n1 : Memory) (v w : Value) (x : Bool) → IsScalarType ty → IsMemoryOf f m n1 → IsHeld ty v → IsInRegister f ty v w → TestIs m v x → vm.compare_answer n1 Equal (register_type ty) w (Word 0) ≡ Gives (Word (truth (not x)))
not_there m f ty n1 v w x (inl t) h held rel is =
    subst (λ z. vm.compare_answer n1 Equal (register_type z) w (Word 0) ≡ Gives (Word (truth (not x)))) (sym t.1) (integer_not m f t.0 n1 v w x (subst (λ z. IsHeld z v) t.1 held) (subst (λ z. IsInRegister f z v w) t.1 rel) is)
not_there m f ty n1 v w x (inr t) h held rel is =
    subst (λ z. vm.compare_answer n1 Equal (register_type z) w (Word 0) ≡ Gives (Word (truth (not x)))) (sym t.1) (pointer_not m f t.0 n1 v w x h (subst (λ z. IsHeld z v) t.1 held) (subst (λ z. IsInRegister f z v w) t.1 rel) is)

truth_word : (x : Bool) → is_word i.Int (truth x) ≡ true
truth_word true = refl
truth_word false = refl

held_pointer : (t o : PlainType) (v : Value) → IsHeld (Pointer t) v → IsHeld (Pointer o) v
held_pointer t o (Word k) h = h
held_pointer t o (Address q) h = h
held_pointer t o Unset h = h

module _ (c : Setting) (found : slice_get c.functions c.number ≡ Some c.code) where
  abbrev L : ℕ
  L = first_depth c

  abbrev T : PlainType
  T = plain_of i.Int

  -- ---- commas

  commas_on : (x : Expr) (xs : Exprs) → ExprMeets c x → AllOperandsMeet c xs → (d : ℕ) (rest : List CodeItem) (heads : List ℕ) (p : CodePlace) (f : Names) (scope : Scope) (r : Registers) (s : CallState) (m : Memory) (K : Value → CallState → CodeObservation)
      → Stands c heads p (expr_code L c.structs c.locals d x (commas_code L c.structs c.locals d xs rest)) → Fit c f scope r s m → s.world.meter.turns ≤ c.level → Follows c d (last_type x xs) heads rest f scope r s m K
      → EndsSo c (finish (value_of_last c.structs c.locals c.calls scope (eval c.structs c.locals c.calls scope x) xs s) K) p r s.world m
  unfolding opens
  commas_on x no_exprs hx all d rest heads p f scope r s m K at fit low next = hx.by d rest heads p f scope r s m K at fit low next
  commas_on x (more_exprs y ys) hx all d rest heads p f scope r s m K at fit low next =
      bound_run c found (eval c.structs c.locals c.calls scope x s) (λ _. value_of_last c.structs c.locals c.calls scope (eval c.structs c.locals c.calls scope y) ys) K p r s.world m
      (hx.by d (commas_code L c.structs c.locals d (more_exprs y ys) rest) heads p f scope r s m (λ _ t. finish (value_of_last c.structs c.locals c.calls scope (eval c.structs c.locals c.calls scope y) ys t) K) at fit low
      (λ q v g t q1 m1 at1 aft fit1 kept held stands.
      commas_on y ys all.0 all.1 d rest heads q g scope q1 t m1 K at1 fit1 (omega (arith, aft.turned, low))
      (λ q2 w h u q3 m2 at2 aft2 fit2 kept2 held2 stands2. next q2 w h u q3 m2 at2 (after_on aft aft2) fit2 (kept_on (omega arith) kept kept2) held2 stands2)))

  pub commas : (ty : PlainType) (x : Expr) (xs : Exprs) → last_type x xs ≡ ty → ExprMeets c x → AllOperandsMeet c xs → ExprMeets c (Comma ty (more_exprs x xs))
  commas ty x xs e hx all = record {
    by = λ d rest heads p f scope r s m K at fit low next. commas_on x xs hx all d rest heads p f scope r s m K at fit low (subst (λ z. Follows c d z heads rest f scope r s m K) (sym e) next);
  }

  -- ---- `!`

  pub nots : (x : Expr) → IsScalarType (type_of x) → ExprMeets c x → ExprMeets c (Unary T u.Not x)
  unfolding opens
  nots x scalar hx = record {
    by = λ d rest heads p f scope r s m K at fit low next.
        let ty = register_type (type_of x) in
        let reg = value_register L d (type_of x) in
        let free = value_register L (suc d) (type_of x) in
        let to = value_register L d T in
        let run : Bool → Run Value = choose (pure_truth false) (pure_truth true) in
        bound_run c found (and_then (eval c.structs c.locals c.calls scope x s) test) run K p r s.world m
        (bound_run c found (eval c.structs c.locals c.calls scope x s) test (λ z t. finish (run z t) K) p r s.world m
        (hx.by d (not_code L d T (type_of x) rest) heads p f scope r s m (λ v t. finish (test v t) (λ z t1. finish (run z t1) K)) at fit low
        (λ q v g t q1 m1 at1 aft fit1 kept held stands.
        test_meets c found v t (λ z t1. finish (run z t1) K) _ (λ z is.
        let o2 = outer_with_memory t.world.outer m1 in
        let r1 = set_register free (Word 0) q1 in
        let w = Word (truth (not z)) in
        let same : r1 reg ≡ q1 reg = set_other q1 free reg (Word 0) (other_depth L d (suc d) ty ty (omega arith)) in
        let at2 = at_plain c.code.blocks c.last c.end _ at1 in
        meets_same c.rooms c.functions (chosen z t K)
        (insn_on c found (n.LoadConstant ty free 0) q q1 t.world m1 (Word 0 ∷ []) at1.has.0 refl (ap (λ b. writes (if b then Gives (Word 0) else Fails) o2) (zero_stands (type_of x) scalar))
        (insn_on c found (n.Compare Equal ty to reg free) (next_place q) r1 t.world m1 (w ∷ []) at2.has.0 refl
        (ap (λ b. writes (vm.compare_answer m1 Equal ty b (r1 free)) o2) same ∙ ap (λ b. writes (vm.compare_answer m1 Equal ty (q1 reg) b) o2) (set_same q1 free (Word 0))
        ∙ ap (λ b. writes b o2) (not_there t.world.outer.memory g (type_of x) m1 v (q1 reg) z scalar fit1.memory held stands is))
        (next (next_place (next_place q)) w g t (set_register to w r1) m1 (at_plain c.code.blocks c.last c.end _ at2) aft (fits_temporary d (register_type T) w (fits_temporary (suc d) ty (Word 0) fit1))
        (kept_temporary d (register_type T) w (omega arith) (kept_temporary (suc d) ty (Word 0) (omega arith) kept)) (held_word i.Int (truth (not z)) (truth_word (not z))) (value_at g w w r1 to refl))))))));
  }
    where
      chosen : (z : Bool) (t : CallState) (K : Value → CallState → CodeObservation) → finish (choose (pure_truth false) (pure_truth true) z t) K ≡ K (Word (truth (not z))) t
      chosen true t K = refl
      chosen false t K = refl

  -- ---- conversions that do nothing

  pub drops : (x : Expr) → IsScalarType (type_of x) → ExprMeets c x → ExprMeets c (Cast Void x)
  unfolding opens
  drops x scalar hx = record {
    by = λ d rest heads p f scope r s m K at fit low next.
        meets_same c.rooms c.functions (value_is scalar scope s K)
        (hx.by d rest heads p f scope r s m (λ v t. K Unset t) (subst (λ z. Stands c heads p z) (code_is scalar d rest) at) fit low
        (λ q v g t q1 m1 at1 aft fit1 kept held stands. next q Unset g t q1 m1 at1 aft fit1 kept tt tt));
  }
    where
      value_is : IsScalarType (type_of x) → (scope : Scope) (s : CallState) (K : Value → CallState → CodeObservation) → finish (eval c.structs c.locals c.calls scope (Cast Void x) s) K ≡ finish (eval c.structs c.locals c.calls scope x s) (λ v t. K Unset t)
      value_is (inl t) scope s K = ap (λ z. finish (converted_from z Void (eval c.structs c.locals c.calls scope x) (place c.structs c.locals c.calls scope x) s) K) t.1 ∙ finish-bind (eval c.structs c.locals c.calls scope x s) (convert (plain_of t.0) Void) K
      value_is (inr t) scope s K = ap (λ z. finish (converted_from z Void (eval c.structs c.locals c.calls scope x) (place c.structs c.locals c.calls scope x) s) K) t.1 ∙ finish-bind (eval c.structs c.locals c.calls scope x s) (convert (Pointer t.0) Void) K

      code_is : IsScalarType (type_of x) → (d : ℕ) (rest : List CodeItem) → expr_code L c.structs c.locals d (Cast Void x) rest ≡ expr_code L c.structs c.locals d x rest
      code_is (inl t) d rest = ap (λ z. conversion_code L c.structs c.locals d z Void (plus_of L c.structs c.locals x 0) (λ is. place_code L c.structs c.locals d x 0 is) (λ is. expr_code L c.structs c.locals d x is) rest) t.1
      code_is (inr t) d rest = ap (λ z. conversion_code L c.structs c.locals d z Void (plus_of L c.structs c.locals x 0) (λ is. place_code L c.structs c.locals d x 0 is) (λ is. expr_code L c.structs c.locals d x is) rest) t.1

  pointer_conversion : (from to : PlainType) (x y : Expr) → type_of x ≡ Pointer from → type_of y ≡ Pointer to → ExprMeets c x
      → ((scope : Scope) (s : CallState) → eval c.structs c.locals c.calls scope y s ≡ converted_from (type_of x) (Pointer to) (eval c.structs c.locals c.calls scope x) (place c.structs c.locals c.calls scope x) s)
      → ((d : ℕ) (rest : List CodeItem) → expr_code L c.structs c.locals d y rest
      ≡ conversion_code L c.structs c.locals d (type_of x) (Pointer to) (plus_of L c.structs c.locals x 0) (λ is. place_code L c.structs c.locals d x 0 is) (λ is. expr_code L c.structs c.locals d x is) rest)
      → ExprMeets c y
  unfolding opens
  pointer_conversion from to x y ex ey hx ev co = record {
    by = λ d rest heads p f scope r s m K at fit low next.
        let code_e : expr_code L c.structs c.locals d y rest ≡ expr_code L c.structs c.locals d x rest =
        co d rest ∙ ap (λ z. conversion_code L c.structs c.locals d z (Pointer to) (plus_of L c.structs c.locals x 0) (λ is. place_code L c.structs c.locals d x 0 is) (λ is. expr_code L c.structs c.locals d x is) rest) ex in
        let next1 : Follows c d (Pointer to) heads rest f scope r s m K = subst (λ z. Follows c d z heads rest f scope r s m K) ey next in
        meets_same c.rooms c.functions (ap (λ z. finish z K) (ev scope s ∙ ap (λ z. converted_from z (Pointer to) (eval c.structs c.locals c.calls scope x) (place c.structs c.locals c.calls scope x) s) ex))
        (bound_run c found (eval c.structs c.locals c.calls scope x s) (convert (Pointer from) (Pointer to)) K p r s.world m
        (hx.by d rest heads p f scope r s m (λ v t. finish (convert (Pointer from) (Pointer to) v t) K) (subst (λ z. Stands c heads p z) code_e at) fit low
        (λ q v g t q1 m1 at1 aft fit1 kept held stands.
        used_meets c.rooms c.functions UsesNoValue v t K _ (λ set.
        next1 q v g t q1 m1 at1 aft fit1 kept (held_pointer from to v (subst (λ z. IsHeld z v) ex held)) (subst (λ z. IsInRegister g z v (q1 (value_register L d z))) ex stands)))));
  }

  pub pointers : (from to : PlainType) (x : Expr) → type_of x ≡ Pointer from → ExprMeets c x → ExprMeets c (Convert (Pointer to) x)
  pointers from to x ex hx = pointer_conversion from to x (Convert (Pointer to) x) ex refl hx (λ scope s. refl) (λ d rest. refl)

  pub pointer_casts : (from to : PlainType) (x : Expr) → type_of x ≡ Pointer from → ExprMeets c x → ExprMeets c (Cast (Pointer to) x)
  pointer_casts from to x ex hx = pointer_conversion from to x (Cast (Pointer to) x) ex refl hx (λ scope s. refl) (λ d rest. refl)
