-- What a change of a value leads to, where the old value stands at a depth: its code puts the new value in its place.
use Rattle.std.proofs.Common.{◌≡◌, ◌≢◌, ℕ, suc, ◌≤◌, ◌<◌, List, [], ◌∷◌, true, false, Some, pos, neg_ℤ, ◌*ℤ◌, refl, sym, ap, ◌∙◌, subst, arith}
use Rattle.std.specs.Prelude.{slice_get, if◌then◌else◌}
use Rattle.mem_model.specs.declared.value.Value.{Value}
use Rattle.mem_model.specs.declared.value.Value.TheVariants.{Word}
use Rattle.mem_model.specs.Memory.{Memory}
use Rattle.mem_model.specs.World.{outer_with_memory}
use Rattle.mem_model.specs.Related.{Names}
use Rattle.mem_objects.specs.declared.TheConstants.{MOST_DATA}
use Rattle.bk_arithmetic.specs.declared.integer_type.IntegerType.{IntegerType}
use Rattle.bk_arithmetic.specs.declared.integer_type.IntegerType.TheVariants as i
use Rattle.bk_arithmetic.specs.IntegerTypes.{promote}
use Rattle.bk_arithmetic.specs.Words.{value, is_word}
use Rattle.c_tree.specs.declared.expressions.AssignOp.{AssignOp}
use Rattle.c_tree.specs.declared.expressions.AssignOp.TheVariants as a
use Rattle.c_tree.specs.declared.expressions.StepOp.{StepOp}
use Rattle.c_tree.specs.declared.expressions.StepOp.TheVariants as step
use Rattle.c_tree.specs.declared.expressions.BinaryOp.{BinaryOp}
use Rattle.c_tree.specs.declared.expressions.BinaryOp.TheVariants as b
use Rattle.c_typed_tree.specs.Types.{PlainType, Pointer}
use Rattle.c_typed_tree.specs.Layout.{size_of}
use Rattle.c_semantics.specs.Runs.{CallState, Run, use_number}
use Rattle.c_semantics.specs.Objects as obj
use Rattle.c_semantics.specs.Objects.{Scope, move_reason, move_elements, move_by, element_plus}
use Rattle.c_semantics.specs.Operators.{operator_of, operation_type, pointer_and_integer, combine, combined_in, step_operator, step_value}
use Rattle.suifvm_ir.specs.declared.insn.VmInsn.TheVariants as n
use Rattle.suifvm_meaning.specs.declared.answer.Answer.TheVariants.{Gives, Fails}
use Rattle.suifvm_meaning.specs.Effect.{writes}
use Rattle.suifvm_meaning.specs.Behave.{Registers, set_register}
use Rattle.lowering_code.specs.declared.item.CodeItem.{CodeItem}
use Rattle.lowering_code.specs.Registers.{register_type, value_register}
use Rattle.lowering_code.specs.Expressions.{plain_of, constant_code, combine_in, combine_code, stepped_code}
use Rattle.lowering_states.specs.Places.{CodePlace, next_place}
use Rattle.lowering_states.specs.Runs.{CodeObservation, finish}
use Rattle.lowering_states.specs.model.Opens.{opens}
use Rattle.lowering_states.specs.States.{IsHeld, IsInRegister, KeepsLower}
use Rattle.lowering_states.proofs.Steps.{meets_same, number_meets, known_meets}
use Rattle.lowering_states.proofs.States.{set_other, other_depth, kept_all, kept_on, kept_temporary, is_at, fits_temporary}
use Rattle.lowering_states.specs.lowering_values.Laws.{is_shift_operator}
use Rattle.lowering_states.proofs.LoweringValues.Integers.{integer_of-plain}
use Rattle.lowering_states.proofs.LoweringExpressionPlaces.Behind.{at_plain}
use Rattle.lowering_expression_laws.specs.Parts.{Setting, first_depth, EndsSo, Stands, Fit}
use Rattle.lowering_expression_laws.specs.Laws.{result_type}
use Rattle.lowering_expression_laws.proofs.Forms.{held_word, word_in, value_of_word, insn_on, bound_run}
use Rattle.lowering_expression_laws.proofs.LoweringPlaceLaws.Places.{moved_held}
use Rattle.lowering_expression_laws.proofs.LoweringOperandLaws.Operands.{promoted_again}
use Rattle.lowering_expression_laws.proofs.LoweringPointerLaws.Moves.{moved_by, moved_leads}
use Rattle.lowering_expression_laws.proofs.LoweringPointerLaws.Differences.{moved_back}
use Rattle.lowering_expression_laws.proofs.LoweringChangeLaws.Combine.{KeepsBut, kept_but, lower_kept, other_kept, values_lead}

-- ---- operators of compound assignments

same_operator : (x y : BinaryOp) → Some x ≡ Some y → x ≡ y
same_operator x y e = cc

-- none of them is a comparison
pub gives_its_type : (op : AssignOp) (o : BinaryOp) (t : IntegerType) → operator_of op ≡ Some o → result_type o t ≡ t
gives_its_type a.Set o t e = absurd (cc)
gives_its_type a.Multiply o t e = ap (λ z. result_type z t) (sym (same_operator b.Multiply o e))
gives_its_type a.Divide o t e = ap (λ z. result_type z t) (sym (same_operator b.Divide o e))
gives_its_type a.Remainder o t e = ap (λ z. result_type z t) (sym (same_operator b.Remainder o e))
gives_its_type a.Add o t e = ap (λ z. result_type z t) (sym (same_operator b.Add o e))
gives_its_type a.Subtract o t e = ap (λ z. result_type z t) (sym (same_operator b.Subtract o e))
gives_its_type a.ShiftLeft o t e = ap (λ z. result_type z t) (sym (same_operator b.ShiftLeft o e))
gives_its_type a.ShiftRight o t e = ap (λ z. result_type z t) (sym (same_operator b.ShiftRight o e))
gives_its_type a.And o t e = ap (λ z. result_type z t) (sym (same_operator b.And o e))
gives_its_type a.Xor o t e = ap (λ z. result_type z t) (sym (same_operator b.Xor o e))
gives_its_type a.Or o t e = ap (λ z. result_type z t) (sym (same_operator b.Or o e))

-- but in a shift the type is that of the right side
pub of_right : (op : BinaryOp) (left right : IntegerType) → is_shift_operator op ≡ false → right ≡ operation_type op left right
of_right b.LogicalOr left right e = refl
of_right b.LogicalAnd left right e = refl
of_right b.Or left right e = refl
of_right b.Xor left right e = refl
of_right b.And left right e = refl
of_right b.Equal left right e = refl
of_right b.NotEqual left right e = refl
of_right b.Less left right e = refl
of_right b.Greater left right e = refl
of_right b.LessEqual left right e = refl
of_right b.GreaterEqual left right e = refl
of_right b.ShiftLeft left right e = absurd (cc)
of_right b.ShiftRight left right e = absurd (cc)
of_right b.Add left right e = refl
of_right b.Subtract left right e = refl
of_right b.Multiply left right e = refl
of_right b.Divide left right e = refl
of_right b.Remainder left right e = refl

-- 1 is a word of each promoted type
one_word : (t : IntegerType) → is_word (promote t) 1 ≡ true
one_word i.Char = refl
one_word i.UnsignedChar = refl
one_word i.Short = refl
one_word i.UnsignedShort = refl
one_word i.Int = refl
one_word i.UnsignedInt = refl
one_word i.Long = refl
one_word i.UnsignedLong = refl

module _ (c : Setting) where
  abbrev L : ℕ
  L = first_depth c

  -- what follows a change, where the code behind stands: the new value stands at the depth
  abbrev pub Goes : (heads : List ℕ) → Names → Scope → CallState → Memory → (low o : ℕ) → PlainType → (r : Registers) → List CodeItem → (Value → CallState → CodeObservation) → Type 0
  Goes heads g scope u m low o ty r rest K =
      (q : CodePlace) (z : Value) (r1 : Registers) → Stands c heads q rest → Fit c g scope r1 u m → KeepsLower L low r r1 → IsHeld ty z → IsInRegister g ty z (r1 (value_register L o ty)) → EndsSo c (K z u) q r1 u.world m

  -- a change of the value at a depth, from registers that are as some were but at this depth
  abbrev pub Leads : (heads : List ℕ) → Names → Scope → CallState → Memory → (change : Value → Run Value) → (code : List CodeItem → List CodeItem) → (o low : ℕ) → PlainType → Registers → Type 0
  Leads heads g scope u m change code o low ty q1 =
      (rest : List CodeItem) (K : Value → CallState → CodeObservation) (q : CodePlace) (r : Registers) (old : Value) → Stands c heads q (code rest) → Fit c g scope r u m → KeepsBut L o q1 r → IsHeld ty old → IsInRegister g ty old (r (value_register L o ty))
      → Goes heads g scope u m low o ty r rest K → EndsSo c (finish (change old u) K) q r u.world m

  -- an operator between an old value and a right side
  abbrev pub CombinesLead : BinaryOp → (ty right : PlainType) → Type 0
  CombinesLead op ty right =
      (o d free low : ℕ) → d ≢ o → d < free → low ≤ o → low ≤ d → (heads : List ℕ) (g : Names) (scope : Scope) (u : CallState) (m : Memory) (w : Value) (q1 : Registers) → IsHeld right w → IsInRegister g right w (q1 (value_register L d right))
      → Leads heads g scope u m (λ old. combine c.structs op ty right old w) (combine_code L c.structs op o d free ty right) o low ty q1

  -- `++` and `--`
  abbrev pub StepsLead : StepOp → PlainType → Type 0
  StepsLead sop ty = (o : ℕ) (heads : List ℕ) (g : Names) (scope : Scope) (u : CallState) (m : Memory) (q1 : Registers) → Leads heads g scope u m (step_value c.structs sop ty) (stepped_code L c.structs sop o ty) o o ty q1

module _ (c : Setting) (found : slice_get c.functions c.number ≡ Some c.code) where
  -- ---- integers

  combines : (op : BinaryOp) (left right : IntegerType) (v w : Value) → combine c.structs op (plain_of left) (plain_of right) v w ≡ combined_in op (operation_type op left right) left right v w
  combines op left right v w =
      ap (λ z. combined_in op (operation_type op z (obj.integer_or_word (plain_of right))) z (obj.integer_or_word (plain_of right)) v w) (integer_of-plain left)
      ∙ ap (λ z. combined_in op (operation_type op left z) left z v w) (integer_of-plain right)

  combine_is : (op : BinaryOp) (left right : IntegerType) (o d free : ℕ) (rest : List CodeItem) → combine_code (first_depth c) c.structs op o d free (plain_of left) (plain_of right) rest ≡ combine_in (first_depth c) op (operation_type op left right) o d (plain_of left) (plain_of right) rest
  combine_is op left right o d free rest =
      ap (λ z. combine_in (first_depth c) op (operation_type op z (obj.integer_or_word (plain_of right))) o d (plain_of left) (plain_of right) rest) (integer_of-plain left)
      ∙ ap (λ z. combine_in (first_depth c) op (operation_type op left z) o d (plain_of left) (plain_of right) rest) (integer_of-plain right)

  pub integers_combine : (op : BinaryOp) (left right : IntegerType) → promote (operation_type op left right) ≡ operation_type op left right → result_type op (operation_type op left right) ≡ operation_type op left right → CombinesLead c op (plain_of left) (plain_of right)
  unfolding opens
  integers_combine op left right pt gives o d free low apart above below_o below_d heads g scope u m w q1 hw iw rest K q r old at fit kept held stands next =
      meets_same c.rooms c.functions (ap (λ z. finish (z u) K) (combines op left right old w))
      (values_lead c found heads g scope u m op left (operation_type op left right) right pt (of_right op left right) gives o d apart rest old w K q r (subst (λ z. Stands c heads q z) (combine_is op left right o d free rest) at) fit held stands hw
      (subst (λ z. IsInRegister g (plain_of right) w z) (sym (other_kept d (register_type (plain_of right)) apart kept)) iw)
      (λ q3 z r3 at3 fit3 kept3 one3.
      next q3 (Word z) r3 at3 fit3 (lower_kept low (omega (arith, below_o)) kept3) (held_word left z one3.is_one) one3.stands))

  -- ---- `++` and `--`, by the type of the 1

  steps_by : (sop : StepOp) (ty : PlainType) (t : IntegerType) → is_word t 1 ≡ true → CombinesLead c (step_operator sop) ty (plain_of t) → (o : ℕ) (heads : List ℕ) (g : Names) (scope : Scope) (u : CallState) (m : Memory) (q1 : Registers)
      → Leads c heads g scope u m (λ old. combine c.structs (step_operator sop) ty (plain_of t) old (Word 1)) (λ rest. constant_code (first_depth c) (suc o) (plain_of t) 1 (combine_code (first_depth c) c.structs (step_operator sop) o (suc o) (suc (suc o)) ty (plain_of t) rest)) o o ty q1
  unfolding opens
  steps_by sop ty t one lead o heads g scope u m q1 rest K q r old at fit kept held stands next =
      let above : ℕ = value_register (first_depth c) (suc o) (plain_of t) in
      let r1 : Registers = set_register above (Word 1) r in
      insn_on c found (n.LoadConstant (register_type (plain_of t)) above 1) q r u.world m (Word 1 ∷ []) at.has.0 refl
      (ap (λ x. writes (if x then Gives (Word 1) else Fails) (outer_with_memory u.world.outer m)) (value_of_word t 1 one))
      (lead o (suc o) (suc (suc o)) o (λ same. absurd (omega (arith, same))) (omega arith) (omega arith) (omega arith) heads g scope u m (Word 1) r1 (held_word t 1 one) (is_at g (plain_of t) (Word 1) (Word 1) r above refl) rest K (next_place q) r1 old
      (at_plain c.code.blocks c.last c.end _ at) (fits_temporary (suc o) (register_type (plain_of t)) (Word 1) fit) kept_but held
      (subst (λ z. IsInRegister g ty old z) (sym (set_other r above (value_register (first_depth c) o ty) (Word 1) (λ same. other_depth (first_depth c) o (suc o) (register_type ty) (register_type (plain_of t)) (omega arith) same))) stands)
      (λ q3 z r3 at3 fit3 kept3 held3 in3.
      next q3 z r3 at3 fit3 (kept_on (omega arith) (kept_temporary (suc o) (register_type (plain_of t)) (Word 1) (omega arith) kept_all) kept3) held3 in3))

  step_promoted : (sop : StepOp) (left : IntegerType) → promote (operation_type (step_operator sop) left (promote left)) ≡ operation_type (step_operator sop) left (promote left)
  step_promoted step.Increment left = promoted_again left
  step_promoted step.Decrement left = promoted_again left

  step_gives : (sop : StepOp) (left : IntegerType) → result_type (step_operator sop) (operation_type (step_operator sop) left (promote left)) ≡ operation_type (step_operator sop) left (promote left)
  step_gives step.Increment left = refl
  step_gives step.Decrement left = refl

  pub integers_step : (sop : StepOp) (left : IntegerType) → StepsLead c sop (plain_of left)
  integers_step sop left o heads g scope u m q1 =
      subst (λ z. Leads c heads g scope u m (λ old. combine c.structs (step_operator sop) (plain_of left) (plain_of (promote z)) old (Word 1))
      (λ rest. constant_code (first_depth c) (suc o) (plain_of (promote z)) 1 (combine_code (first_depth c) c.structs (step_operator sop) o (suc o) (suc (suc o)) (plain_of left) (plain_of (promote z)) rest)) o o (plain_of left) q1) (sym (integer_of-plain left))
      (steps_by sop (plain_of left) (promote left) (one_word left) (integers_combine (step_operator sop) left (promote left) (step_promoted sop left) (step_gives sop left)) o heads g scope u m q1)

  -- ---- pointers

  module _ (target : PlainType) (le : size_of c.structs target ≤ MOST_DATA) where
    abbrev size : ℕ
    size = size_of c.structs target

    pointers_add : (t : IntegerType) → CombinesLead c b.Add (Pointer target) (plain_of t)
    unfolding opens
    pointers_add t o d free low apart above below_o below_d heads g scope u m w q1 hw iw rest K q r old at fit kept held stands next =
        let moves : ℕ → Run Value = λ k. move_elements old (value t k *ℤ pos size) in
        meets_same c.rooms c.functions (ap (λ z. finish (move_by c.structs target z old w u) K) (integer_of-plain t))
        (bound_run c found (use_number w u) moves K q r u.world m
        (number_meets c.rooms c.functions w u (λ k u1. finish (moves k u1) K) _ (λ k is.
        known_meets c.rooms c.functions (move_reason u.world.outer.memory old) (element_plus u.world.outer.memory old (value t k *ℤ pos size)) u K _ (λ result e.
        let moved = moved_by u.world.outer.memory old (value t k *ℤ pos size) result e in
        moved_leads c found rest heads g scope u m o d free low above below_o below_d t k size old result q r le moved at fit stands
        (word_in g (first_depth c) d (plain_of t) t w k r refl is hw (subst (λ z. IsInRegister g (plain_of t) w z) (sym (other_kept d (register_type (plain_of t)) apart kept)) iw))
        (λ q4 r4 at4 fit4 kept4 rel4.
        next q4 result r4 at4 fit4 kept4 (moved_held u.world.outer.memory old result (value t k *ℤ pos size) target moved.moved) rel4)))))

    pointers_subtract : (t : IntegerType) → CombinesLead c b.Subtract (Pointer target) (plain_of t)
    unfolding opens
    pointers_subtract t o d free low apart above below_o below_d heads g scope u m w q1 hw iw rest K q r old at fit kept held stands next =
        let moves : ℕ → Run Value = λ k. move_elements old (neg_ℤ (value t k) *ℤ pos size) in
        meets_same c.rooms c.functions (ap (λ z. finish (pointer_and_integer c.structs b.Subtract target z old w u) K) (integer_of-plain t))
        (bound_run c found (use_number w u) moves K q r u.world m
        (number_meets c.rooms c.functions w u (λ k u1. finish (moves k u1) K) _ (λ k is.
        known_meets c.rooms c.functions (move_reason u.world.outer.memory old) (element_plus u.world.outer.memory old (neg_ℤ (value t k) *ℤ pos size)) u K _ (λ result e.
        let moved = moved_by u.world.outer.memory old (neg_ℤ (value t k) *ℤ pos size) result e in
        moved_back c found rest heads g scope u m o d free low above below_o below_d t k size old result q r le moved at fit stands
        (word_in g (first_depth c) d (plain_of t) t w k r refl is hw (subst (λ z. IsInRegister g (plain_of t) w z) (sym (other_kept d (register_type (plain_of t)) apart kept)) iw))
        (λ q4 r4 at4 fit4 kept4 rel4.
        next q4 result r4 at4 fit4 kept4 (moved_held u.world.outer.memory old result (neg_ℤ (value t k) *ℤ pos size) target moved.moved) rel4)))))

    pub pointers_combine : (sop : StepOp) (t : IntegerType) → CombinesLead c (step_operator sop) (Pointer target) (plain_of t)
    pointers_combine step.Increment t = pointers_add t
    pointers_combine step.Decrement t = pointers_subtract t

    pub pointers_step : (sop : StepOp) → StepsLead c sop (Pointer target)
    pointers_step sop o heads g scope u m q1 = steps_by sop (Pointer target) i.Int refl (pointers_combine sop i.Int) o heads g scope u m q1
