-- The code of the sum of a pointer and an integer: the integer becomes a number of bytes, by which the pointer is moved.
use Rattle.std.proofs.Common.{◌≡◌, ℕ, zero, suc, ◌<◌, ◌≤◌, ◌==◌, ◌%◌, ◌^◌, ◌*◌, ◌&&◌, ℤ, pos, negsuc, neg_ℤ, ◌+ℤ◌, ◌*ℤ◌, List, [], ◌∷◌, Bool, true, false, Some, None, refl, sym, ap, ◌∙◌, subst, arith, inl, eq-eqb}
use Rattle.std.specs.Prelude.{if◌then◌else◌, slice_get}
use Rattle.std.proofs.lemmas.Bool.{eqb-true, and_parts}
use Rattle.std.proofs.Math.IntN.{*ℤ-zero}
use Rattle.mem_model.specs.declared.value.Ptr.{Ptr}
use Rattle.mem_model.specs.declared.value.Value.{Value}
use Rattle.mem_model.specs.declared.value.Value.TheVariants.{Word, Address, Unset}
use Rattle.mem_model.specs.Memory.{Memory}
use Rattle.mem_model.specs.Pointers.{ptr_plus, is_live, size_at, is_offset, pointer_plus}
use Rattle.mem_model.specs.World.{outer_with_memory}
use Rattle.mem_model.specs.Related.{Names, IsValueOf}
use Rattle.mem_model.proofs.Pointers.{when-some}
use Rattle.mem_model.proofs.RelatedRows.{values_stay}
use Rattle.mem_model.proofs.RelatedPointers.{moves_correspond}
use Rattle.mem_objects.specs.declared.TheConstants.{MOST_DATA}
use Rattle.bk_arithmetic.specs.declared.integer_type.IntegerType.{IntegerType}
use Rattle.bk_arithmetic.specs.declared.integer_type.IntegerType.TheVariants as i
use Rattle.bk_arithmetic.specs.declared.outcome.ArithmeticOutcome.TheVariants as a
use Rattle.bk_arithmetic.specs.Words.{value, word, is_word}
use Rattle.bk_arithmetic.specs.Operations.{conversion, result_in}
use Rattle.bk_arithmetic.proofs.Results.{is_word-extension}
use Rattle.bk_arithmetic.proofs.Values.{value-word}
use Rattle.bk_arithmetic.proofs.Conversions.{value-conversion}
use Rattle.c_tree.specs.declared.expressions.BinaryOp.TheVariants as b
use Rattle.c_typed_tree.specs.declared.types.StructDef.{StructDef}
use Rattle.c_typed_tree.specs.Types.{PlainType, Void, Pointer}
use Rattle.c_typed_tree.specs.Layout.{size_of}
use Rattle.c_typed_tree.specs.Expressions.{Expr, Binary, Index, type_of}
use Rattle.c_semantics.specs.Runs.{CallState, Run, and_then, use_number, pure}
use Rattle.c_semantics.specs.Objects as obj
use Rattle.c_semantics.specs.Objects.{Scope, read_at, stands_inside, element_plus, move_reason, move_elements, move_by}
use Rattle.c_semantics.specs.Operators.{apply_binary}
use Rattle.c_semantics.specs.Evaluates.{eval, element_pointer}
use Rattle.suifvm_ir.specs.declared.types.VmType.TheVariants.{S64, P64}
use Rattle.suifvm_ir.specs.declared.insn.VmBinaryOp.TheVariants.{Add, Multiply}
use Rattle.suifvm_ir.specs.declared.insn.VmInsn.TheVariants as n
use Rattle.suifvm_meaning.specs.declared.answer.Answer.TheVariants.{Gives, Fails}
use Rattle.suifvm_meaning.specs.Operations as vm
use Rattle.suifvm_meaning.specs.Effect.{writes}
use Rattle.suifvm_meaning.specs.Behave.{Registers, set_register}
use Rattle.suifvm_ir.specs.declared.insn.VmInsn.{VmInsn}
use Rattle.lowering_code.specs.declared.item.CodeItem.{CodeItem}
use Rattle.lowering_code.specs.declared.item.CodeItem.TheVariants.{Plain}
use Rattle.lowering_code.specs.Registers.{register_type, temporary, value_register, address_register, bytes_register}
use Rattle.lowering_code.specs.Expressions.{plain_of, cap_offset, keeps_register, narrow_type, convert_code, sized_code, scaled_code, add_code, binary_code, element_code, load_code, expr_code}
use Rattle.lowering_states.specs.Places.{CodePlace, next_place}
use Rattle.lowering_states.specs.Runs.{CodeObservation, finish}
use Rattle.lowering_states.specs.model.Opens.{opens}
use Rattle.lowering_states.specs.States.{IsInRegister, KeepsLower}
use Rattle.lowering_states.proofs.Steps.{meets_same, number_meets, known_meets}
use Rattle.lowering_states.proofs.States.{set_same, set_other, other_depth, kept_all, kept_on, kept_reads, kept_temporary, after_on, value_at, fits_temporary}
use Rattle.lowering_states.proofs.LoweringValues.Integers.{kept_is, register-promoted, kept_conversion, made_conversion}
use Rattle.lowering_states.proofs.LoweringValues.Operators.{operators_correspond}
use Rattle.lowering_states.proofs.LoweringExpressionPlaces.Behind.{at_plain}
use Rattle.lowering_expression_laws.specs.Parts.{Setting, first_depth, EndsSo, Stands, Fit, Follows, ExprMeets}
use Rattle.lowering_expression_laws.proofs.Forms.{WordIn, word_in, insn_on, bound_run, value_of_word}
use Rattle.lowering_expression_laws.specs.lowering_place_laws.Places.{PlaceMeets}
use Rattle.lowering_expression_laws.specs.lowering_place_laws.Laws.{HasWholeIntegers}
use Rattle.lowering_expression_laws.proofs.LoweringPlaceLaws.Places.{held_pointer, long_word, moved_held, own_base}
use Rattle.lowering_expression_laws.proofs.LoweringPlaceLaws.Accesses.{load_on}
use Rattle.lowering_expression_laws.proofs.LoweringPointerLaws.Numbers.{IsSmall, small_fits, moved_small, elements_small}

-- ---- numbers

undefined_not : {x : ℕ} → a.Word x ≡ a.Undefined → ⊥
undefined_not e = cc

pub long_is : (k : ℕ) → k ≤ MOST_DATA → is_word i.Long k ≡ true
long_is k le = eq-eqb (k % 2 ^ 64) k (long_word k le)

pub long_value : (k : ℕ) → k ≤ MOST_DATA → value i.Long k ≡ pos k
long_value k le = ap (value i.Long) (sym (twice k le)) ∙ value-word i.Long (pos k) (small_fits (pos k) le)
  where
    twice : (k : ℕ) → k ≤ MOST_DATA → k % 2 ^ 64 % 2 ^ 64 ≡ k
    twice k le = omega (arith, le)

pub times_one : (z : ℤ) → z *ℤ pos 1 ≡ z
times_one (pos a) = let same : a * 1 ≡ a = omega arith in ap pos same
times_one (negsuc a) = let same : suc a * 1 ≡ suc a = omega arith in ap (λ z. neg_ℤ (pos z)) same

-- the product of a number with a size that stays small is its word
product_is : (x size : ℕ) (z : ℤ) → size ≤ MOST_DATA → value i.Long x *ℤ pos size ≡ z → IsSmall z → result_in i.Long (value i.Long x *ℤ value i.Long size) ≡ a.Word (word i.Long z)
product_is x size z le e small =
    ap (λ y. result_in i.Long (value i.Long x *ℤ y)) (long_value size le) ∙ ap (result_in i.Long) e ∙ ap (λ y. if y then a.Word (word i.Long z) else a.Trap 3) (small_fits z small)

-- a number of elements as a `long`, where it moves a pointer by few bytes
pub long_bytes : (t : IntegerType) (k size : ℕ) → IsSmall (value t k *ℤ pos size) → value i.Long (conversion t i.Long k) *ℤ pos size ≡ value t k *ℤ pos size
long_bytes t k zero small = *ℤ-zero (value i.Long (conversion t i.Long k)) ∙ sym (*ℤ-zero (value t k))
long_bytes t k (suc e) small = ap (λ y. y *ℤ pos (suc e)) (value-conversion t i.Long k (small_fits (value t k) (elements_small (value t k) e small)))

-- what is known of a pointer that was moved by elements
pub record IsMovedBy (m : Memory) (v : Value) (z : ℤ) (u : Value) : Type 0 where
  pub small : ((p : Ptr) → is_live m p ≡ true → size_at m p ≤ MOST_DATA) → IsSmall z
  pub moved : pointer_plus m v z ≡ Some u

pub moved_by : (m : Memory) (v : Value) (z : ℤ) (u : Value) → element_plus m v z ≡ Some u → IsMovedBy m v z u
moved_by m (Word k) z u e = absurd (cc)
moved_by m Unset z u e = absurd (cc)
moved_by m (Address p) z u e = by_test (is_offset p.offset (size_at m p)) refl e
  where
    by_test : (t : Bool) → is_offset p.offset (size_at m p) ≡ t → (if t then pointer_plus m (Address p) z else None) ≡ Some u → IsMovedBy m (Address p) z u
    by_test false et h = absurd (cc)
    by_test true et h =
        let a = when-some (is_live m p && is_offset (p.offset +ℤ z) (size_at m p)) (Address (ptr_plus p z)) u h in
        let tests = and_parts (is_live m p) (is_offset (p.offset +ℤ z) (size_at m p)) a.0 in
        record { small = λ little. moved_small p.offset z (size_at m p) et tests.1 (little p tests.0); moved = h }

-- registers of lower depths, and all of addresses, are as before
pub record KeepsOthers (L j : ℕ) (r q : Registers) : Type 0 where
  pub lower : KeepsLower L j r q
  pub addresses : (e : ℕ) → q (address_register L e) ≡ r (address_register L e)

kept_others : {L j : ℕ} {r : Registers} → KeepsOthers L j r r
kept_others = record { lower = kept_all; addresses = λ e. refl }

pub kept_bytes : {L j : ℕ} (e : ℕ) (v : Value) {r q : Registers} → j ≤ e → KeepsOthers L j r q → KeepsOthers L j r (set_register (bytes_register L e) v q)
kept_bytes {L = L} e v {q = q} le h = record {
  lower = kept_temporary e S64 v le h.lower;
  addresses = λ k. set_other q (bytes_register L e) (address_register L k) v (λ same. absurd (omega (arith, same))) ∙ h.addresses k;
}

pub kept_both : {L j : ℕ} {r q t : Registers} → KeepsOthers L j r q → KeepsOthers L j q t → KeepsOthers L j r t
kept_both a1 a2 = record { lower = kept_on (omega arith) a1.lower a2.lower; addresses = λ e. a2.addresses e ∙ a1.addresses e }

module _ (c : Setting) (found : slice_get c.functions c.number ≡ Some c.code) (rest : List CodeItem) (heads : List ℕ) (g : Names) (scope : Scope) (s : CallState) (m : Memory) where
  abbrev L : ℕ
  L = first_depth c

  -- an integer becomes a `long`
  pub long_leads : {o : CodeObservation} (j : ℕ) (t : IntegerType) (k : ℕ) (tail : List CodeItem) (q : CodePlace) (r : Registers) → Stands c heads q (convert_code L j (plain_of t) (plain_of i.Long) tail) → Fit c g scope r s m → WordIn L j t k r
      → ((q1 : CodePlace) (r1 : Registers) → Stands c heads q1 tail → Fit c g scope r1 s m → KeepsOthers L j r r1 → r1 (bytes_register L j) ≡ Word (conversion t i.Long k) → EndsSo c o q1 r1 s.world m) → EndsSo c o q r s.world m
  long_leads {o = o} j t k tail q r at fit one next = by_kept (keeps_register (plain_of t) (plain_of i.Long)) refl at
    where
      k1 : ℕ
      k1 = conversion t i.Long k

      insn : VmInsn
      insn = n.Convert (narrow_type (plain_of t) (plain_of i.Long)) (register_type (plain_of i.Long)) (value_register L j (plain_of i.Long)) (value_register L j (plain_of t))

      by_kept : (x : Bool) → keeps_register (plain_of t) (plain_of i.Long) ≡ x → Stands c heads q (if x then tail else Plain insn ∷ tail) → EndsSo c o q r s.world m
      by_kept true e at2 =
          let same : register_type (plain_of t) ≡ register_type (plain_of i.Long) = sym (register-promoted t) ∙ ap (λ z. register_type (plain_of z)) (kept_is t i.Long e) in
          next q r at2 fit kept_others (ap (λ z. r (temporary L j z)) (sym same) ∙ one.stands ∙ ap Word (sym (kept_conversion t i.Long k one.is_one e)))
      by_kept false e at2 =
          insn_on c found insn q r s.world m (Word k1 ∷ []) at2.has.0 refl
          (ap (λ z. writes (vm.convert_answer (narrow_type (plain_of t) (plain_of i.Long)) (register_type (plain_of i.Long)) z) (outer_with_memory s.world.outer m)) one.stands
          ∙ ap (λ z. writes z (outer_with_memory s.world.outer m)) (made_conversion t i.Long k one.is_one))
          (next (next_place q) (set_register (bytes_register L j) (Word k1) r) (at_plain c.code.blocks c.last c.end insn at2) (fits_temporary j S64 (Word k1) fit) (kept_bytes j (Word k1) (omega arith) kept_others) (set_same r (bytes_register L j) (Word k1)))

  -- it becomes a number of bytes
  pub sized_leads : {o : CodeObservation} (j free : ℕ) → j < free → (size x : ℕ) (z : ℤ) (tail : List CodeItem) (q : CodePlace) (r : Registers) → size ≤ MOST_DATA → value i.Long x *ℤ pos size ≡ z → IsSmall z → is_word i.Long x ≡ true → Stands c heads q (sized_code L j free size tail) → Fit c g scope r s m
      → r (bytes_register L j) ≡ Word x
      → ((q1 : CodePlace) (r1 : Registers) (b : ℕ) → Stands c heads q1 tail → Fit c g scope r1 s m → KeepsOthers L j r r1 → r1 (bytes_register L j) ≡ Word b → value i.Long b ≡ z → is_word i.Long b ≡ true → EndsSo c o q1 r1 s.world m) → EndsSo c o q r s.world m
  sized_leads {o = o} j free above_it size x z tail q r le e small one at fit held next = by_one (size == 1) (eqb-true size 1) at
    where
      reg : ℕ
      reg = bytes_register L j

      above : ℕ
      above = bytes_register L free

      r1 : Registers
      r1 = set_register above (Word size) r

      bytes : ℕ
      bytes = word i.Long z

      low : r1 reg ≡ Word x
      low = set_other r above reg (Word size) (other_depth L j free S64 S64 above_it) ∙ held

      by_one : (y : Bool) → (y ≡ true → size ≡ 1)
          → Stands c heads q (if y then tail else Plain (n.LoadConstant S64 above size) ∷ Plain (n.Binary Multiply S64 reg reg above) ∷ tail) → EndsSo c o q r s.world m
      by_one true one_is at2 = next q r x at2 fit kept_others held (sym (times_one (value i.Long x)) ∙ ap (λ y. value i.Long x *ℤ pos y) (sym (one_is refl)) ∙ e) one
      by_one false one_is at2 =
          let at3 = at_plain c.code.blocks c.last c.end _ at2 in
          insn_on c found (n.LoadConstant S64 above size) q r s.world m (Word size ∷ []) at2.has.0 refl
          (ap (λ y. writes (if y then Gives (Word size) else Fails) (outer_with_memory s.world.outer m)) (value_of_word i.Long size (long_is size le)))
          (insn_on c found (n.Binary Multiply S64 reg reg above) (next_place q) r1 s.world m (Word bytes ∷ []) at3.has.0 refl
          (operators_correspond b.Multiply i.Long i.Long reg reg above c.own r1 (outer_with_memory s.world.outer m) x size refl (λ _. refl) low (set_same r above (Word size)) one (long_is size le) (λ no. undefined_not (sym (product_is x size z le e small) ∙ no))
          ∙ ap (λ y. writes (vm.outcome_answer y) (outer_with_memory s.world.outer m)) (product_is x size z le e small))
          (next (next_place (next_place q)) (set_register reg (Word bytes) r1) bytes (at_plain c.code.blocks c.last c.end _ at3) (fits_temporary j S64 (Word bytes) (fits_temporary free S64 (Word size) fit))
          (kept_bytes j (Word bytes) (omega arith) (kept_bytes free (Word size) (omega (arith, above_it)) kept_others)) (set_same r1 reg (Word bytes)) (value-word i.Long z (small_fits z small)) (is_word-extension i.Long _)))

  -- the pointer at a depth is moved by the elements at another one; what stands below both stays
  pub moved_leads : {o : CodeObservation} (a d free low : ℕ) → d < free → low ≤ a → low ≤ d → (t : IntegerType) (k size : ℕ) (v u : Value) (q : CodePlace) (r : Registers) → size ≤ MOST_DATA → IsMovedBy s.world.outer.memory v (value t k *ℤ pos size) u
      → Stands c heads q (scaled_code L d free (plain_of t) (cap_offset size) (add_code (address_register L a) (address_register L a) (bytes_register L d) rest)) → Fit c g scope r s m → IsValueOf g v (r (address_register L a)) → WordIn L d t k r
      → ((q1 : CodePlace) (r1 : Registers) → Stands c heads q1 rest → Fit c g scope r1 s m → KeepsLower L low r r1 → IsValueOf g u (r1 (address_register L a)) → EndsSo c o q1 r1 s.world m) → EndsSo c o q r s.world m
  moved_leads {o = o} a d free low above below_a below_d t k size v u q r le is at fit rel one next =
      let addr = address_register L a in
      let reg = bytes_register L d in
      let small : IsSmall (value t k *ℤ pos size) = is.small (λ p live. fit.small p.object live) in
      let capped : cap_offset size ≡ size = omega (arith, le) in
      let at1 = subst (λ z. Stands c heads q (scaled_code L d free (plain_of t) z (add_code addr addr reg rest))) capped at in
      long_leads d t k (sized_code L d free size (add_code addr addr reg rest)) q r at1 fit one
      (λ q1 r1 at2 fit1 kept1 held1.
      sized_leads d free above size (conversion t i.Long k) (value t k *ℤ pos size) (add_code addr addr reg rest) q1 r1 le (long_bytes t k size small) small (is_word-extension i.Long _) at2 fit1 held1
      (λ q2 r2 b at3 fit2 kept2 held2 value_is _.
      let kept3 : KeepsOthers L d r r2 = kept_both kept1 kept2 in
      let x = moves_correspond g s.world.outer.memory m fit2.memory v (r2 addr) u (value t k *ℤ pos size) (subst (λ z. IsValueOf g v z) (sym (kept3.addresses a)) rel) is.moved in
      insn_on c found (n.Binary Add P64 addr addr reg) q2 r2 s.world m (x.0 ∷ []) at3.has.0 refl
      (ap (λ z. writes (vm.pointer_answer m Add (r2 addr) z) (outer_with_memory s.world.outer m)) held2 ∙ ap (λ z. writes (vm.value_answer (pointer_plus m (r2 addr) z)) (outer_with_memory s.world.outer m)) value_is
      ∙ ap (λ z. writes (vm.value_answer z) (outer_with_memory s.world.outer m)) x.1)
      (next (next_place q2) (set_register addr x.0 r2) (at_plain c.code.blocks c.last c.end _ at3) (fits_temporary a P64 x.0 fit2) (kept_temporary a P64 x.0 below_a (kept_on below_d kept_all kept3.lower)) (value_at g u x.0 r2 addr x.2))))

-- ---- sums and elements

sum_is : (ds : List StructDef) (target : PlainType) (t : IntegerType) → ◌≡◌ {A = Value → Value → Run Value} (apply_binary ds b.Add (Pointer target) (plain_of t)) (move_by ds target t)
sum_is ds target i.Char = refl
sum_is ds target i.UnsignedChar = refl
sum_is ds target i.Short = refl
sum_is ds target i.UnsignedShort = refl
sum_is ds target i.Int = refl
sum_is ds target i.UnsignedInt = refl
sum_is ds target i.Long = refl
sum_is ds target i.UnsignedLong = refl

element_is : (ds : List StructDef) (target : PlainType) (t : IntegerType) → ◌≡◌ {A = Value → Value → Run Value} (element_pointer ds (Pointer target) (plain_of t)) (move_by ds target t)
element_is ds target i.Char = refl
element_is ds target i.UnsignedChar = refl
element_is ds target i.Short = refl
element_is ds target i.UnsignedShort = refl
element_is ds target i.Int = refl
element_is ds target i.UnsignedInt = refl
element_is ds target i.Long = refl
element_is ds target i.UnsignedLong = refl

abbrev sum_tail : (L : ℕ) → List StructDef → (d : ℕ) → (target : PlainType) → IntegerType → List CodeItem → List CodeItem
sum_tail L ds d target t rest =
    scaled_code L (suc d) (suc (suc d)) (plain_of t) (cap_offset (size_of ds target)) (add_code (address_register L d) (address_register L d) (bytes_register L (suc d)) rest)

sum_code : (L : ℕ) (ds : List StructDef) (d : ℕ) (target : PlainType) (t : IntegerType) (rest : List CodeItem) → binary_code L ds b.Add d (Pointer target) (Pointer target) (plain_of t) rest ≡ sum_tail L ds d target t rest
sum_code L ds d target i.Char rest = refl
sum_code L ds d target i.UnsignedChar rest = refl
sum_code L ds d target i.Short rest = refl
sum_code L ds d target i.UnsignedShort rest = refl
sum_code L ds d target i.Int rest = refl
sum_code L ds d target i.UnsignedInt rest = refl
sum_code L ds d target i.Long rest = refl
sum_code L ds d target i.UnsignedLong rest = refl

module _ (c : Setting) (found : slice_get c.functions c.number ≡ Some c.code) (target : PlainType) (t : IntegerType) (x y : Expr) (le : size_of c.structs target ≤ MOST_DATA) (ex : type_of x ≡ Pointer target) (ey : type_of y ≡ plain_of t) (hx : ExprMeets c x) (hy : ExprMeets c y) where
  abbrev size : ℕ
  size = size_of c.structs target

  -- what is computed of both operands, by what is done with their values
  abbrev run_by : (Value → Value → Run Value) → Scope → Run Value
  run_by done scope = λ s. and_then (eval c.structs c.locals c.calls scope x s) (λ v t1. and_then (eval c.structs c.locals c.calls scope y t1) (done v))

  moves_lead : (d : ℕ) (rest : List CodeItem) (heads : List ℕ) (p : CodePlace) (f : Names) (scope : Scope) (r : Registers) (s : CallState) (m : Memory) (K : Value → CallState → CodeObservation)
      → Stands c heads p (expr_code (first_depth c) c.structs c.locals d x (expr_code (first_depth c) c.structs c.locals (suc d) y (sum_tail (first_depth c) c.structs d target t rest))) → Fit c f scope r s m → s.world.meter.turns ≤ c.level → Follows c d (Pointer target) heads rest f scope r s m K
      → EndsSo c (finish (run_by (move_by c.structs target t) scope s) K) p r s.world m
  unfolding opens
  moves_lead d rest heads p f scope r s m K at fit low next =
      let addr : ℕ = address_register (first_depth c) d in
      let tail : List CodeItem = sum_tail (first_depth c) c.structs d target t rest in
      let run : Value → Run Value = (λ v t1. and_then (eval c.structs c.locals c.calls scope y t1) (move_by c.structs target t v)) in
      bound_run c found (eval c.structs c.locals c.calls scope x s) run K p r s.world m
      (hx.by d (expr_code (first_depth c) c.structs c.locals (suc d) y tail) heads p f scope r s m (λ v t1. finish (run v t1) K) at fit low
      (λ q v g t1 q1 m1 at1 aft fit1 kept held stands.
      bound_run c found (eval c.structs c.locals c.calls scope y t1) (move_by c.structs target t v) K q q1 t1.world m1
      (hy.by (suc d) tail heads q g scope q1 t1 m1 (λ w u. finish (move_by c.structs target t v w u) K) at1 fit1 (omega (arith, aft.turned, low))
      (λ q2 w h u q3 m2 at2 aft2 fit2 kept2 held2 stands2.
      let moves : ℕ → Run Value = (λ k. move_elements v (value t k *ℤ pos size)) in
      let first : IsInRegister g (Pointer target) v (q1 addr) = subst (λ z. IsInRegister g z v (q1 (value_register (first_depth c) d z))) ex stands in
      let same : q3 addr ≡ q1 addr = kept_reads d P64 (omega arith) kept2 in
      let rel : IsValueOf h v (q3 addr) = subst (λ z. IsValueOf h v z) (sym same) (values_stay g h v (q1 addr) aft2.names first) in
      bound_run c found (use_number w u) moves K q2 q3 u.world m2
      (number_meets c.rooms c.functions w u (λ k u1. finish (moves k u1) K) _ (λ k is.
      known_meets c.rooms c.functions (move_reason u.world.outer.memory v) (element_plus u.world.outer.memory v (value t k *ℤ pos size)) u K _ (λ result e.
      let moved = moved_by u.world.outer.memory v (value t k *ℤ pos size) result e in
      moved_leads c found rest heads h scope u m2 d (suc d) (suc (suc d)) d (omega arith) (omega arith) (omega arith) t k size v result q2 q3 le moved at2 fit2 rel (word_in h (first_depth c) (suc d) (type_of y) t w k q3 ey is held2 stands2)
      (λ q4 r4 at4 fit4 kept4 rel4.
      next q4 result h u r4 m2 at4 (after_on aft aft2) fit4 (kept_on (omega arith) (kept_on (omega arith) kept kept2) kept4) (moved_held u.world.outer.memory v result (value t k *ℤ pos size) target moved.moved) rel4))))))))

  pub sums : ExprMeets c (Binary (Pointer target) b.Add x y)
  unfolding opens
  sums = record {
    by = λ d rest heads p f scope r s m K at fit low next.
        let code_e : binary_code (first_depth c) c.structs b.Add d (Pointer target) (type_of x) (type_of y) rest ≡ sum_tail (first_depth c) c.structs d target t rest =
        ap (λ z. binary_code (first_depth c) c.structs b.Add d (Pointer target) z (type_of y) rest) ex ∙ ap (λ z. binary_code (first_depth c) c.structs b.Add d (Pointer target) (Pointer target) z rest) ey ∙ sum_code (first_depth c) c.structs d target t rest in
        meets_same c.rooms c.functions
        (ap (λ z. finish (run_by (λ v w. apply_binary c.structs b.Add z (type_of y) v w) scope s) K) ex ∙ ap (λ z. finish (run_by (λ v w. apply_binary c.structs b.Add (Pointer target) z v w) scope s) K) ey
        ∙ ap (λ z. finish (run_by z scope s) K) (sum_is c.structs target t))
        (moves_lead d rest heads p f scope r s m K (subst (λ z. Stands c heads p (expr_code (first_depth c) c.structs c.locals d x (expr_code (first_depth c) c.structs c.locals (suc d) y z))) code_e at) fit low next);
  }

  -- the code of an element, behind its two operands
  element_code_is : (d : ℕ) (rest : List CodeItem) → element_code (first_depth c) c.structs d (type_of x) (type_of y) rest ≡ sum_tail (first_depth c) c.structs d target t rest
  element_code_is d rest = ap (λ z. element_code (first_depth c) c.structs d z (type_of y) rest) ex ∙ ap (λ z. element_code (first_depth c) c.structs d (Pointer target) z rest) ey ∙ by_type t
    where
      by_type : (t : IntegerType) → element_code (first_depth c) c.structs d (Pointer target) (plain_of t) rest ≡ sum_tail (first_depth c) c.structs d target t rest
      by_type i.Char = refl
      by_type i.UnsignedChar = refl
      by_type i.Short = refl
      by_type i.UnsignedShort = refl
      by_type i.Int = refl
      by_type i.UnsignedInt = refl
      by_type i.Long = refl
      by_type i.UnsignedLong = refl

  element_run : (scope : Scope) (s : CallState) → run_by (element_pointer c.structs (type_of x) (type_of y)) scope s ≡ run_by (move_by c.structs target t) scope s
  element_run scope s =
      ap (λ z. run_by (λ v w. element_pointer c.structs z (type_of y) v w) scope s) ex ∙ ap (λ z. run_by (λ v w. element_pointer c.structs (Pointer target) z v w) scope s) ey ∙ ap (λ z. run_by z scope s) (element_is c.structs target t)

  pub elements : (ty : PlainType) → HasWholeIntegers ty → ExprMeets c (Index ty x y)
  unfolding opens
  elements ty whole = record {
    by = λ d rest heads p f scope r s m K at fit low next.
        let K1 : Value → CallState → CodeObservation = (λ v u. finish (read_at ty v u) K) in
        bound_run c found (run_by (element_pointer c.structs (type_of x) (type_of y)) scope s) (read_at ty) K p r s.world m
        (meets_same c.rooms c.functions (ap (λ z. finish z K1) (element_run scope s))
        (moves_lead d (load_code (first_depth c) d ty 0 rest) heads p f scope r s m K1
        (subst (λ z. Stands c heads p (expr_code (first_depth c) c.structs c.locals d x (expr_code (first_depth c) c.structs c.locals (suc d) y z))) (element_code_is d (load_code (first_depth c) d ty 0 rest)) at) fit low
        (λ q v g u q1 m1 at1 aft fit1 kept held rel.
        load_on c found d 0 rest heads f scope r s m K q v v g u q1 m1 aft fit1 kept (held_pointer target Void v held) rel (omega arith) (inl (refl, refl)) ty whole next at1)));
  }

  pub element_places : (ty : PlainType) → PlaceMeets c (Index ty x y)
  unfolding opens
  element_places ty = record {
    by = λ d plus rest heads p f scope r s m K small fits at fit low next.
        let K1 : Value → CallState → CodeObservation = (λ v u. K (obj.At v) u) in
        bound_run c found (run_by (element_pointer c.structs (type_of x) (type_of y)) scope s) (λ v. pure (obj.At v)) K p r s.world m
        (meets_same c.rooms c.functions (ap (λ z. finish z K1) (element_run scope s))
        (moves_lead d rest heads p f scope r s m K1 (subst (λ z. Stands c heads p (expr_code (first_depth c) c.structs c.locals d x (expr_code (first_depth c) c.structs c.locals (suc d) y z))) (element_code_is d rest) at) fit low
        (λ q v g u q1 m1 at1 aft fit1 kept held rel. next q v v g u q1 m1 at1 aft fit1 kept (held_pointer target Void v held) rel small (own_base u.world.outer.memory v plus))));
  }
