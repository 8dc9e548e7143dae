-- The code of differences: of a pointer and an integer, and of two pointers.
use Rattle.std.proofs.Common.{◌≡◌, ℕ, zero, suc, ◌≤◌, ◌<◌, ◌*◌, ℤ, pos, negsuc, neg_ℤ, ◌*ℤ◌, List, [], ◌∷◌, Some, refl, sym, ap, ◌∙◌, subst, arith}
use Rattle.std.specs.Prelude.{if◌then◌else◌, slice_get}
use Rattle.std.proofs.Math.IntN.{neg_ℤ-neg_ℤ}
use Rattle.mem_model.specs.declared.value.Value.{Value}
use Rattle.mem_model.specs.declared.value.Value.TheVariants.{Word}
use Rattle.mem_model.specs.Memory.{Memory}
use Rattle.mem_model.specs.Pointers.{pointer_plus}
use Rattle.mem_model.specs.World.{outer_with_memory}
use Rattle.mem_model.specs.Related.{Names, IsValueOf}
use Rattle.mem_model.proofs.RelatedRows.{values_stay}
use Rattle.mem_model.proofs.RelatedPointers.{moves_correspond}
use Rattle.mem_objects.specs.declared.TheConstants.{MOST_DATA}
use Rattle.bk_arithmetic.specs.declared.integer_type.IntegerType.{IntegerType}
use Rattle.bk_arithmetic.specs.declared.integer_type.IntegerType.TheVariants as i
use Rattle.bk_arithmetic.specs.declared.outcome.ArithmeticOutcome.TheVariants as a
use Rattle.bk_arithmetic.specs.Words.{value, word}
use Rattle.bk_arithmetic.specs.Operations.{negation, conversion, result_in}
use Rattle.bk_arithmetic.proofs.Results.{is_word-extension}
use Rattle.bk_arithmetic.proofs.Values.{value-word}
use Rattle.c_tree.specs.declared.expressions.BinaryOp.TheVariants as b
use Rattle.c_typed_tree.specs.declared.types.StructDef.{StructDef}
use Rattle.c_typed_tree.specs.Types.{PlainType, Pointer}
use Rattle.c_typed_tree.specs.Layout.{size_of}
use Rattle.c_typed_tree.specs.Expressions.{Expr, Binary, type_of}
use Rattle.c_semantics.specs.Runs.{CallState, Run, and_then, use_number}
use Rattle.c_semantics.specs.Objects.{Scope, element_plus, move_reason, move_elements}
use Rattle.c_semantics.specs.Operators.{pointer_and_integer, apply_binary}
use Rattle.c_semantics.specs.Evaluates.{eval}
use Rattle.suifvm_ir.specs.declared.types.VmType.TheVariants.{S64, P64}
use Rattle.suifvm_ir.specs.declared.insn.VmUnaryOp.TheVariants.{Negate}
use Rattle.suifvm_ir.specs.declared.insn.VmBinaryOp.TheVariants.{Add}
use Rattle.suifvm_ir.specs.declared.insn.VmInsn.TheVariants as n
use Rattle.suifvm_meaning.specs.Operations as vm
use Rattle.suifvm_meaning.specs.Effect.{writes}
use Rattle.suifvm_meaning.specs.Behave.{Registers, set_register}
use Rattle.lowering_code.specs.declared.item.CodeItem.{CodeItem}
use Rattle.lowering_code.specs.Registers.{value_register, address_register, bytes_register}
use Rattle.lowering_code.specs.Expressions.{plain_of, cap_offset, sized_code, scaled_code, add_code, binary_code, negate_code, expr_code}
use Rattle.lowering_states.specs.Places.{CodePlace, next_place}
use Rattle.lowering_states.specs.Runs.{CodeObservation, finish}
use Rattle.lowering_states.specs.model.Opens.{opens}
use Rattle.lowering_states.specs.States.{IsInRegister, KeepsLower}
use Rattle.lowering_states.proofs.Steps.{meets_same, number_meets, known_meets}
use Rattle.lowering_states.proofs.States.{set_same, kept_all, kept_on, kept_reads, kept_temporary, after_on, value_at, fits_temporary}
use Rattle.lowering_states.proofs.LoweringExpressionPlaces.Behind.{at_plain}
use Rattle.lowering_expression_laws.specs.Parts.{Setting, first_depth, EndsSo, Stands, Fit, ExprMeets}
use Rattle.lowering_expression_laws.proofs.Forms.{WordIn, word_in, insn_on, unary_on, bound_run}
use Rattle.lowering_expression_laws.proofs.LoweringPlaceLaws.Places.{moved_held}
use Rattle.lowering_expression_laws.specs.lowering_pointer_laws.Laws.{PointersAreMoved}
use Rattle.lowering_expression_laws.proofs.LoweringPointerLaws.Numbers.{IsSmall, small_fits}
use Rattle.lowering_expression_laws.proofs.LoweringPointerLaws.Moves.{IsMovedBy, moved_by, long_bytes, KeepsOthers, kept_bytes, kept_both, long_leads, sized_leads, sums, elements, element_places}

-- ---- numbers

neg_times : (v : ℤ) (s : ℕ) → neg_ℤ v *ℤ pos s ≡ neg_ℤ (v *ℤ pos s)
neg_times (pos zero) s = let none : 0 * s ≡ 0 = omega arith in ap pos none ∙ sym (ap (λ z. neg_ℤ (pos z)) none)
neg_times (pos (suc a)) s = refl
neg_times (negsuc a) s = sym (neg_ℤ-neg_ℤ (pos (suc a * s)))

small_negated : (z : ℤ) → IsSmall (neg_ℤ z) → IsSmall z
small_negated (pos zero) h = h
small_negated (pos (suc n)) h = omega (arith, h)
small_negated (negsuc n) h = omega (arith, h)

negation_is : (b : ℕ) (z : ℤ) → value i.Long b ≡ z → IsSmall (neg_ℤ z) → negation i.Long b ≡ a.Word (word i.Long (neg_ℤ z))
negation_is b z e small = ap (λ y. result_in i.Long (neg_ℤ y)) e ∙ ap (λ y. if y then a.Word (word i.Long (neg_ℤ z)) else a.Trap 3) (small_fits (neg_ℤ z) small)

difference_is : (ds : List StructDef) (target : PlainType) (t : IntegerType) → ◌≡◌ {A = Value → Value → Run Value} (apply_binary ds b.Subtract (Pointer target) (plain_of t)) (λ v w. pointer_and_integer ds b.Subtract target t v w)
difference_is ds target i.Char = refl
difference_is ds target i.UnsignedChar = refl
difference_is ds target i.Short = refl
difference_is ds target i.UnsignedShort = refl
difference_is ds target i.Int = refl
difference_is ds target i.UnsignedInt = refl
difference_is ds target i.Long = refl
difference_is ds target i.UnsignedLong = refl

abbrev difference_tail : (L : ℕ) → List StructDef → (d : ℕ) → (target : PlainType) → IntegerType → List CodeItem → List CodeItem
difference_tail L ds d target t rest =
    scaled_code L (suc d) (suc (suc d)) (plain_of t) (cap_offset (size_of ds target))
    (negate_code (bytes_register L (suc d)) (add_code (address_register L d) (address_register L d) (bytes_register L (suc d)) rest))

difference_code : (L : ℕ) (ds : List StructDef) (d : ℕ) (target : PlainType) (t : IntegerType) (rest : List CodeItem) → binary_code L ds b.Subtract d (Pointer target) (Pointer target) (plain_of t) rest ≡ difference_tail L ds d target t rest
difference_code L ds d target i.Char rest = refl
difference_code L ds d target i.UnsignedChar rest = refl
difference_code L ds d target i.Short rest = refl
difference_code L ds d target i.UnsignedShort rest = refl
difference_code L ds d target i.Int rest = refl
difference_code L ds d target i.UnsignedInt rest = refl
difference_code L ds d target i.Long rest = refl
difference_code L ds d target i.UnsignedLong rest = refl

-- what is computed of both operands, by what is done with their values
abbrev run_by : (c : Setting) (x y : Expr) → (Value → Value → Run Value) → Scope → Run Value
run_by c x y done scope = λ s. and_then (eval c.structs c.locals c.calls scope x s) (λ v t1. and_then (eval c.structs c.locals c.calls scope y t1) (done v))

module _ (c : Setting) (found : slice_get c.functions c.number ≡ Some c.code) (rest : List CodeItem) (heads : List ℕ) (g : Names) (scope : Scope) (s : CallState) (m : Memory) where
  -- the pointer at a depth is moved back by the elements at another one; what stands below both stays
  pub moved_back : {o : CodeObservation} (a d free low : ℕ) → d < free → low ≤ a → low ≤ d → (t : IntegerType) (k size : ℕ) (v u : Value) (q : CodePlace) (r : Registers) → size ≤ MOST_DATA → IsMovedBy s.world.outer.memory v (neg_ℤ (value t k) *ℤ pos size) u
      → Stands c heads q (scaled_code (first_depth c) d free (plain_of t) (cap_offset size) (negate_code (bytes_register (first_depth c) d) (add_code (address_register (first_depth c) a) (address_register (first_depth c) a) (bytes_register (first_depth c) d) rest)))
      → Fit c g scope r s m → IsValueOf g v (r (address_register (first_depth c) a)) → WordIn (first_depth c) d t k r
      → ((q1 : CodePlace) (r1 : Registers) → Stands c heads q1 rest → Fit c g scope r1 s m → KeepsLower (first_depth c) low r r1 → IsValueOf g u (r1 (address_register (first_depth c) a)) → EndsSo c o q1 r1 s.world m) → EndsSo c o q r s.world m
  moved_back {o = o} a d free low above below_a below_d t k size v u q r le is at fit rel one next =
      let addr = address_register (first_depth c) a in
      let reg = bytes_register (first_depth c) d in
      let z : ℤ = value t k *ℤ pos size in
      let back : IsSmall (neg_ℤ z) = subst IsSmall (neg_times (value t k) size) (is.small (λ p live. fit.small p.object live)) in
      let small : IsSmall z = small_negated z back in
      let capped : cap_offset size ≡ size = omega (arith, le) in
      let tail : List CodeItem = negate_code reg (add_code addr addr reg rest) in
      let at1 = subst (λ n. Stands c heads q (scaled_code (first_depth c) d free (plain_of t) n tail)) capped at in
      long_leads c found rest heads g scope s m d t k (sized_code (first_depth c) d free size tail) q r at1 fit one
      (λ q1 r1 at2 fit1 kept1 held1.
      sized_leads c found rest heads g scope s m d free above size (conversion t i.Long k) z tail q1 r1 le (long_bytes t k size small) small (is_word-extension i.Long _) at2 fit1 held1
      (λ q2 r2 b at3 fit2 kept2 held2 value_is word_is.
      let w1 : ℕ = word i.Long (neg_ℤ z) in
      let r3 : Registers = set_register reg (Word w1) r2 in
      let at4 = at_plain c.code.blocks c.last c.end _ at3 in
      let kept3 : KeepsOthers (first_depth c) d r r3 = kept_bytes d (Word w1) (omega arith) (kept_both kept1 kept2) in
      let same : r3 addr ≡ r addr = kept3.addresses a in
      let moved : pointer_plus s.world.outer.memory v (neg_ℤ z) ≡ Some u = ap (λ y. pointer_plus s.world.outer.memory v y) (sym (neg_times (value t k) size)) ∙ is.moved in
      let x = moves_correspond g s.world.outer.memory m fit2.memory v (r3 addr) u (neg_ℤ z) (subst (λ n. IsValueOf g v n) (sym same) rel) moved in
      insn_on c found (n.Unary Negate S64 reg reg) q2 r2 s.world m (Word w1 ∷ []) at3.has.0 refl
      (unary_on c found Negate d i.Long b r2 s.world m refl (record { is_one = word_is; stands = held2 }) ∙ ap (λ y. writes (vm.outcome_answer y) (outer_with_memory s.world.outer m)) (negation_is b z value_is back))
      (insn_on c found (n.Binary Add P64 addr addr reg) (next_place q2) r3 s.world m (x.0 ∷ []) at4.has.0 refl
      (ap (λ y. writes (vm.pointer_answer m Add (r3 addr) y) (outer_with_memory s.world.outer m)) (set_same r2 reg (Word w1)) ∙ ap (λ y. writes (vm.value_answer (pointer_plus m (r3 addr) y)) (outer_with_memory s.world.outer m)) (value-word i.Long (neg_ℤ z) (small_fits (neg_ℤ z) back))
      ∙ ap (λ y. writes (vm.value_answer y) (outer_with_memory s.world.outer m)) x.1)
      (next (next_place (next_place q2)) (set_register addr x.0 r3) (at_plain c.code.blocks c.last c.end _ at4) (fits_temporary a P64 x.0 (fits_temporary d S64 (Word w1) fit2)) (kept_temporary a P64 x.0 below_a (kept_on below_d kept_all kept3.lower)) (value_at g u x.0 r3 addr x.2)))))

module _ (c : Setting) (found : slice_get c.functions c.number ≡ Some c.code) (target : PlainType) (t : IntegerType) (x y : Expr) (le : size_of c.structs target ≤ MOST_DATA) (ex : type_of x ≡ Pointer target) (ey : type_of y ≡ plain_of t) (hx : ExprMeets c x) (hy : ExprMeets c y) where
  abbrev size : ℕ
  size = size_of c.structs target

  pub differences : ExprMeets c (Binary (Pointer target) b.Subtract x y)
  unfolding opens
  differences = record {
    by = λ d rest heads p f scope r s m K at fit low next.
        let addr : ℕ = address_register (first_depth c) d in
        let tail : List CodeItem = difference_tail (first_depth c) c.structs d target t rest in
        let code_e : binary_code (first_depth c) c.structs b.Subtract d (Pointer target) (type_of x) (type_of y) rest ≡ tail =
        ap (λ z. binary_code (first_depth c) c.structs b.Subtract d (Pointer target) z (type_of y) rest) ex ∙ ap (λ z. binary_code (first_depth c) c.structs b.Subtract d (Pointer target) (Pointer target) z rest) ey ∙ difference_code (first_depth c) c.structs d target t rest in
        meets_same c.rooms c.functions
        (ap (λ z. finish (run_by c x y (λ v w. apply_binary c.structs b.Subtract z (type_of y) v w) scope s) K) ex ∙ ap (λ z. finish (run_by c x y (λ v w. apply_binary c.structs b.Subtract (Pointer target) z v w) scope s) K) ey
        ∙ ap (λ z. finish (run_by c x y z scope s) K) (difference_is c.structs target t))
        (bound_run c found (eval c.structs c.locals c.calls scope x s) (λ v t1. and_then (eval c.structs c.locals c.calls scope y t1) (pointer_and_integer c.structs b.Subtract target t v)) K p r s.world m
        (hx.by d (expr_code (first_depth c) c.structs c.locals (suc d) y tail) heads p f scope r s m (λ v t1. finish (and_then (eval c.structs c.locals c.calls scope y t1) (pointer_and_integer c.structs b.Subtract target t v)) K)
        (subst (λ z. Stands c heads p (expr_code (first_depth c) c.structs c.locals d x (expr_code (first_depth c) c.structs c.locals (suc d) y z))) code_e at) fit low
        (λ q v g t1 q1 m1 at1 aft fit1 kept held stands.
        bound_run c found (eval c.structs c.locals c.calls scope y t1) (pointer_and_integer c.structs b.Subtract target t v) K q q1 t1.world m1
        (hy.by (suc d) tail heads q g scope q1 t1 m1 (λ w u. finish (pointer_and_integer c.structs b.Subtract target t v w u) K) at1 fit1 (omega (arith, aft.turned, low))
        (λ q2 w h u q3 m2 at2 aft2 fit2 kept2 held2 stands2.
        let moves : ℕ → Run Value = (λ k. move_elements v (neg_ℤ (value t k) *ℤ pos size)) in
        let first : IsInRegister g (Pointer target) v (q1 addr) = subst (λ z. IsInRegister g z v (q1 (value_register (first_depth c) d z))) ex stands in
        let same : q3 addr ≡ q1 addr = kept_reads d P64 (omega arith) kept2 in
        let rel : IsValueOf h v (q3 addr) = subst (λ z. IsValueOf h v z) (sym same) (values_stay g h v (q1 addr) aft2.names first) in
        bound_run c found (use_number w u) moves K q2 q3 u.world m2
        (number_meets c.rooms c.functions w u (λ k u1. finish (moves k u1) K) _ (λ k is.
        known_meets c.rooms c.functions (move_reason u.world.outer.memory v) (element_plus u.world.outer.memory v (neg_ℤ (value t k) *ℤ pos size)) u K _ (λ result e.
        let moved = moved_by u.world.outer.memory v (neg_ℤ (value t k) *ℤ pos size) result e in
        moved_back c found rest heads h scope u m2 d (suc d) (suc (suc d)) d (omega arith) (omega arith) (omega arith) t k size v result q2 q3 le moved at2 fit2 rel (word_in h (first_depth c) (suc d) (type_of y) t w k q3 ey is held2 stands2)
        (λ q4 r4 at4 fit4 kept4 rel4.
        next q4 result h u r4 m2 at4 (after_on aft aft2) fit4 (kept_on (omega arith) (kept_on (omega arith) kept kept2) kept4) (moved_held u.world.outer.memory v result (neg_ℤ (value t k) *ℤ pos size) target moved.moved) rel4)))))))));
  }

pub pointers_are_moved : PointersAreMoved
pointers_are_moved c found = record {
  sums = λ target t x y le ex ey hx hy. sums c found target t x y le ex ey hx hy;
  differences = λ target t x y le ex ey hx hy. differences c found target t x y le ex ey hx hy;
  elements = λ ty target t x y whole le ex ey hx hy. elements c found target t x y le ex ey hx hy ty whole;
  places = λ ty target t x y le ex ey hx hy. element_places c found target t x y le ex ey hx hy ty;
}
