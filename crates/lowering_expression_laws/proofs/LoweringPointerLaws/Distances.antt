-- The code of the distance of two pointers in elements.
use Rattle.std.proofs.Common.{◌≡◌, ◌≢◌, ℕ, zero, suc, ◌-◌, ◌%◌, ◌^◌, ◌≤◌, ◌==◌, ◌&&◌, cond, ltb, ℤ, pos, negsuc, ◌+ℤ◌, ◌-ℤ◌, ◌*ℤ◌, ◌<ℤ◌, List, ◌∷◌, [], Bool, true, false, Some, None, refl, sym, ap, ◌∙◌, subst, arith, lt-ltb}
use Rattle.std.specs.Prelude as prelude
use Rattle.std.specs.Prelude.{if◌then◌else◌, slice_get, not, nat_lt, int_div, int_rem}
use Rattle.std.specs.Ordering.{int_eq}
use Rattle.std.specs.Int.{w64}
use Rattle.std.proofs.Math.IntN.{+ℤ_idr}
use Rattle.std.proofs.lemmas.Int.{quot-rem, quot_fits}
use Rattle.std.proofs.lemmas.Bool.{eqb-true, and_parts}
use Rattle.std.proofs.lemmas.Bool.Decides.{Decides-int_eq}
use Rattle.mem_model.specs.declared.value.Ptr.{Ptr}
use Rattle.mem_model.specs.declared.value.Value.{Value}
use Rattle.mem_model.specs.declared.value.Value.TheVariants.{Word, Address, Unset}
use Rattle.mem_model.specs.Memory.{Memory, object_at}
use Rattle.mem_model.specs.Pointers.{is_live, size_at, is_offset, share_object, pointer_minus}
use Rattle.mem_model.specs.World.{outer_with_memory}
use Rattle.mem_model.proofs.Pointers.{when-some}
use Rattle.mem_model.proofs.RelatedPointers.{answers_correspond}
use Rattle.mem_objects.specs.declared.TheConstants.{MOST_DATA}
use Rattle.bk_arithmetic.specs.declared.integer_type.IntegerType.TheVariants as i
use Rattle.bk_arithmetic.specs.declared.outcome.ArithmeticOutcome.TheVariants as a
use Rattle.bk_arithmetic.specs.Words.{value, word, low_bits, is_word}
use Rattle.bk_arithmetic.specs.Operations.{quotient, word_or_overflow}
use Rattle.bk_arithmetic.specs.IntegerTypes.{fits}
use Rattle.bk_arithmetic.proofs.Results.{is_word-extension}
use Rattle.bk_arithmetic.proofs.Values.{fits_long, value-word}
use Rattle.c_tree.specs.declared.expressions.BinaryOp.TheVariants as b
use Rattle.c_typed_tree.specs.Types.{PlainType, Pointer}
use Rattle.c_typed_tree.specs.Layout.{size_of}
use Rattle.c_typed_tree.specs.Expressions.{Expr, Binary, type_of}
use Rattle.c_semantics.specs.Reasons.{ComparesApart}
use Rattle.c_semantics.specs.Runs.{CallState, Run, or_undefined, pure, undefined_behaviour}
use Rattle.c_semantics.specs.Objects.{Scope}
use Rattle.c_semantics.specs.Operators.{unless_dead, apply_binary, bytes_between, elements}
use Rattle.suifvm_ir.specs.declared.types.VmType.TheVariants.{S64, P64}
use Rattle.suifvm_ir.specs.declared.insn.VmBinaryOp.TheVariants.{Subtract, Divide}
use Rattle.suifvm_ir.specs.declared.insn.VmInsn.TheVariants as n
use Rattle.suifvm_meaning.specs.declared.answer.Answer.TheVariants.{Gives, Fails}
use Rattle.suifvm_meaning.specs.Operations as vm
use Rattle.suifvm_meaning.specs.Effect.{writes}
use Rattle.suifvm_meaning.specs.Behave.{Registers, set_register}
use Rattle.lowering_code.specs.declared.item.CodeItem.{CodeItem}
use Rattle.lowering_code.specs.declared.item.CodeItem.TheVariants.{Plain}
use Rattle.lowering_code.specs.Registers.{address_register, bytes_register}
use Rattle.lowering_code.specs.Expressions.{plain_of, cap_offset, divided_code, binary_code, expr_code}
use Rattle.lowering_states.specs.Places.{CodePlace, next_place}
use Rattle.lowering_states.specs.Runs.{CodeObservation, finish}
use Rattle.lowering_states.specs.model.Opens.{opens}
use Rattle.lowering_states.proofs.Steps.{meets_anything, meets_same, known_meets}
use Rattle.lowering_states.proofs.States.{set_same, ne_eqb, set_other, other_depth, kept_temporary, fits_temporary}
use Rattle.lowering_states.proofs.LoweringValues.Operators.{operators_correspond}
use Rattle.lowering_states.proofs.LoweringExpressionPlaces.Behind.{at_plain}
use Rattle.lowering_states.specs.States.{KeepsLower}
use Rattle.mem_model.specs.Related.{Names}
use Rattle.lowering_expression_laws.specs.Parts.{Setting, first_depth, EndsSo, Stands, Fit, Follows, ExprMeets}
use Rattle.lowering_expression_laws.proofs.Forms.{held_word, insn_on, bound_run, value_of_word}
use Rattle.lowering_expression_laws.specs.lowering_pointer_laws.Laws.{DistancesMeet}
use Rattle.lowering_expression_laws.proofs.LoweringPointerLaws.Numbers.{IsSmall, small_fits, not_less}
use Rattle.lowering_expression_laws.proofs.LoweringPointerLaws.Moves.{times_one, long_is, long_value}
use Rattle.lowering_expression_laws.proofs.LoweringPointerLaws.Comparisons.{Both, run_by, both_lead}

-- ---- numbers

-- the distance of two offsets that are small is small
offsets_small : (x y : ℤ) (s1 s2 : ℕ) → is_offset x s1 ≡ true → is_offset y s2 ≡ true → s1 ≤ MOST_DATA → s2 ≤ MOST_DATA → IsSmall (x -ℤ y)
offsets_small (negsuc j) y s1 s2 e f h g = absurd (cc)
offsets_small (pos j) (negsuc k) s1 s2 e f h g = absurd (cc)
offsets_small (pos j) (pos zero) s1 s2 e f h g = let a1 = not_less s1 j e in omega (arith, a1, h)
offsets_small (pos j) (pos (suc k)) s1 s2 e f h g = by_test (ltb j (suc k))
  where
    by_test : (t : Bool) → IsSmall (cond t (negsuc (suc k - suc j)) (pos (j - suc k)))
    by_test true = let a2 = not_less s2 (suc k) f in omega (arith, a2, g)
    by_test false = let a1 = not_less s1 j e in omega (arith, a1, h)

-- what is known of a distance in bytes
record IsBetween (m : Memory) (v w : Value) (z : ℤ) : Type 0 where
  small : ((p : Ptr) → is_live m p ≡ true → size_at m p ≤ MOST_DATA) → IsSmall z
  minus : pointer_minus m v w ≡ Some z

between : (m : Memory) (v w : Value) (z : ℤ) → bytes_between m v w ≡ Some z → IsBetween m v w z
between m (Word k) w z e = absurd (cc)
between m Unset w z e = absurd (cc)
between m (Address p) (Word k) z e = by_test (is_offset p.offset (size_at m p)) e
  where
    by_test : (t : Bool) → (if t && false then pointer_minus m (Address p) (Word k) else None) ≡ Some z → IsBetween m (Address p) (Word k) z
    by_test true h = absurd (cc)
    by_test false h = absurd (cc)
between m (Address p) Unset z e = by_test (is_offset p.offset (size_at m p)) e
  where
    by_test : (t : Bool) → (if t && false then pointer_minus m (Address p) Unset else None) ≡ Some z → IsBetween m (Address p) Unset z
    by_test true h = absurd (cc)
    by_test false h = absurd (cc)
between m (Address p) (Address q) z e = by_tests (is_offset p.offset (size_at m p)) (is_offset q.offset (size_at m q)) refl refl e
  where
    by_tests : (t u : Bool) → is_offset p.offset (size_at m p) ≡ t → is_offset q.offset (size_at m q) ≡ u → (if t && u then pointer_minus m (Address p) (Address q) else None) ≡ Some z → IsBetween m (Address p) (Address q) z
    by_tests true true et eu h =
        let k = when-some (share_object m p q) (p.offset -ℤ q.offset) z h in
        let tests = and_parts (is_live m p) (p.object == q.object) k.0 in
        let live_q : is_live m q ≡ true = ap (λ o. (object_at m o).live) (sym (eqb-true p.object q.object tests.1)) ∙ tests.0 in
        record { small = λ little. subst IsSmall k.1 (offsets_small p.offset q.offset (size_at m p) (size_at m q) et eu (little p tests.0) (little q live_q)); minus = h }
    by_tests true false et eu h = absurd (cc)
    by_tests false u et eu h = absurd (cc)

one_quotient : (z : ℤ) → int_rem z (pos 1) ≡ pos 0 → int_div z (pos 1) ≡ z
one_quotient z e = sym (times_one (int_div z (pos 1))) ∙ sym (+ℤ_idr (int_div z (pos 1) *ℤ pos 1)) ∙ ap (λ r. int_div z (pos 1) *ℤ pos 1 +ℤ r) (sym e) ∙ quot-rem z (pos 1)

some : (k : ℕ) → pos 0 <ℤ pos (suc k)
some k = record { lt = subst prelude.T (sym (lt-ltb 0 (suc k) (omega arith))) tt }

quotient_fits : (z : ℤ) (k : ℕ) → IsSmall z → fits i.Long (int_div z (pos (suc k))) ≡ true
quotient_fits (pos j) k h = fits_long (int_div (pos j) (pos (suc k))) (quot_fits w64 (pos j) (pos (suc k)) (record { sfits = omega (arith, h) }) (some k))
quotient_fits (negsuc j) k h = fits_long (int_div (negsuc j) (pos (suc k))) (quot_fits w64 (negsuc j) (pos (suc k)) (record { sfits = omega (arith, h) }) (some k))

quotient_is : (z : ℤ) (k : ℕ) → IsSmall z → suc k ≤ MOST_DATA → quotient i.Long (word i.Long z) (suc k) ≡ a.Word (word i.Long (int_div z (pos (suc k))))
quotient_is z k small le =
    let some_bits : low_bits i.Long (suc k) ≢ 0 = (λ none. absurd (let none1 : suc k % 2 ^ 64 ≡ 0 = none in omega (arith, none1, le))) in
    ap (λ t. if t then a.Trap 1 else word_or_overflow i.Long (int_div (value i.Long (word i.Long z)) (value i.Long (suc k)))) (ne_eqb (low_bits i.Long (suc k)) 0 some_bits)
    ∙ ap (λ y. word_or_overflow i.Long (int_div y (value i.Long (suc k)))) (value-word i.Long z (small_fits z small)) ∙ ap (λ y. word_or_overflow i.Long (int_div z y)) (long_value (suc k) le)
    ∙ ap (λ t. if t then a.Word (word i.Long (int_div z (pos (suc k)))) else a.Trap 3) (quotient_fits z k small)

undefined_not : {x : ℕ} → a.Word x ≡ a.Undefined → ⊥
undefined_not e = cc

-- ---- the code

module _ (c : Setting) (found : slice_get c.functions c.number ≡ Some c.code) (target other : PlainType) (x y : Expr) (le : size_of c.structs target ≤ MOST_DATA) (ex : type_of x ≡ Pointer target) (ey : type_of y ≡ Pointer other) (hx : ExprMeets c x) (hy : ExprMeets c y) where
  abbrev T : PlainType
  T = plain_of i.Long

  -- a distance in bytes becomes one in elements
  module _ (d : ℕ) (rest : List CodeItem) (heads : List ℕ) (f : Names) (scope : Scope) (r : Registers) (s : CallState) (m : Memory) (K : Value → CallState → CodeObservation) (next : Follows c d T heads rest f scope r s m K) (v w : Value) (h : Names) (u : CallState) (q1 : Registers) (n1 : Memory)
      (both1 : Both c found target other x y ex ey hx hy d f scope r s m v w h u q1 n1) (z : ℤ) (small : IsSmall z) where
    abbrev reg : ℕ
    reg = bytes_register (first_depth c) d

    abbrev above : ℕ
    above = bytes_register (first_depth c) (suc d)

    abbrev bytes : ℕ
    bytes = word i.Long z

    abbrev r1 : Registers
    r1 = set_register reg (Word bytes) q1

    -- the number of elements stands in its register
    given : (k : ℕ) (r2 : Registers) (q : CodePlace) → Stands c heads q rest → Fit c h scope r2 u n1 → KeepsLower (first_depth c) d r r2 → is_word i.Long k ≡ true → r2 reg ≡ Word k → EndsSo c (K (Word k) u) q r2 u.world n1
    given k r2 q at fit kept one held = next q (Word k) h u r2 n1 at both1.aft fit kept (held_word i.Long k one) held

    fit1 : Fit c h scope r1 u n1
    fit1 = fits_temporary d S64 (Word bytes) both1.fit

    kept1 : KeepsLower (first_depth c) d r r1
    kept1 = kept_temporary d S64 (Word bytes) (omega arith) both1.kept

    divided : (k : ℕ) → suc k ≤ MOST_DATA → int_rem z (pos (suc k)) ≡ pos 0 → (q : CodePlace) → Stands c heads q (divided_code (first_depth c) d (suc d) (suc k) rest) → EndsSo c (K (Word (word i.Long (int_div z (pos (suc k))))) u) q r1 u.world n1
    divided k small_size exact q at = by_one (suc k == 1) (eqb-true (suc k) 1) at
      where
        quotient1 : ℕ
        quotient1 = word i.Long (int_div z (pos (suc k)))

        r2 : Registers
        r2 = set_register above (Word (suc k)) r1

        low : r2 reg ≡ Word bytes
        low = set_other r1 above reg (Word (suc k)) (other_depth (first_depth c) d (suc d) S64 S64 (omega arith)) ∙ set_same q1 reg (Word bytes)

        by_one : (t : Bool) → (t ≡ true → suc k ≡ 1) → Stands c heads q (if t then rest else Plain (n.LoadConstant S64 above (suc k)) ∷ Plain (n.Binary Divide S64 reg reg above) ∷ rest) → EndsSo c (K (Word quotient1) u) q r1 u.world n1
        by_one true one_is at1 =
            let one : suc k ≡ 1 = one_is refl in
            let exact1 : int_rem z (pos 1) ≡ pos 0 = subst (λ j. int_rem z (pos j) ≡ pos 0) one exact in
            let same : word i.Long (int_div z (pos (suc k))) ≡ bytes = ap (λ j. word i.Long (int_div z (pos j))) one ∙ ap (word i.Long) (one_quotient z exact1) in
            given quotient1 r1 q at1 fit1 kept1 (is_word-extension i.Long _) (set_same q1 reg (Word bytes) ∙ ap Word (sym same))
        by_one false one_is at1 =
            let at2 = at_plain c.code.blocks c.last c.end _ at1 in
            let done = quotient_is z k small small_size in
            insn_on c found (n.LoadConstant S64 above (suc k)) q r1 u.world n1 (Word (suc k) ∷ []) at1.has.0 refl
            (ap (λ t. writes (if t then Gives (Word (suc k)) else Fails) (outer_with_memory u.world.outer n1)) (value_of_word i.Long (suc k) (long_is (suc k) small_size)))
            (insn_on c found (n.Binary Divide S64 reg reg above) (next_place q) r2 u.world n1 (Word quotient1 ∷ []) at2.has.0 refl
            (operators_correspond b.Divide i.Long i.Long reg reg above c.own r2 (outer_with_memory u.world.outer n1) bytes (suc k) refl (λ _. refl) low (set_same r1 above (Word (suc k))) (is_word-extension i.Long _) (long_is (suc k) small_size) (λ no. undefined_not (sym done ∙ no))
            ∙ ap (λ t. writes (vm.outcome_answer t) (outer_with_memory u.world.outer n1)) done)
            (given quotient1 (set_register reg (Word quotient1) r2) (next_place (next_place q)) (at_plain c.code.blocks c.last c.end _ at2) (fits_temporary d S64 (Word quotient1) (fits_temporary (suc d) S64 (Word (suc k)) fit1))
            (kept_temporary d S64 (Word quotient1) (omega arith) (kept_temporary (suc d) S64 (Word (suc k)) (omega arith) kept1)) (is_word-extension i.Long _) (set_same r2 reg (Word quotient1))))

    elements_meet : (size : ℕ) → size ≤ MOST_DATA → (q : CodePlace) → Stands c heads q (divided_code (first_depth c) d (suc d) size rest) → EndsSo c (finish (elements z size u) K) q r1 u.world n1
    unfolding opens
    elements_meet zero small_size q at = meets_anything c.rooms c.functions refl
    elements_meet (suc k) small_size q at =
        meets_same c.rooms c.functions (ap (λ t. finish (if◌then◌else◌ {A = Run Value} t (undefined_behaviour ComparesApart) (if int_eq (int_rem z (pos (suc k))) (pos 0) then pure (Word (word i.Long (int_div z (pos (suc k))))) else undefined_behaviour ComparesApart) u) K) (ne_eqb (suc k) 0 (λ no. cc)))
        (by_rest (int_eq (int_rem z (pos (suc k))) (pos 0)) (Decides-int_eq (int_rem z (pos (suc k))) (pos 0)).0)
      where
        by_rest : (t : Bool) → (t ≡ true → int_rem z (pos (suc k)) ≡ pos 0) → EndsSo c (finish (if◌then◌else◌ {A = Run Value} t (pure (Word (word i.Long (int_div z (pos (suc k)))))) (undefined_behaviour ComparesApart) u) K) q r1 u.world n1
        by_rest true exact = divided k small_size (exact refl) q at
        by_rest false exact = meets_anything c.rooms c.functions refl

  distances : ExprMeets c (Binary T b.Subtract x y)
  unfolding opens
  distances = record {
    by = λ d rest heads p f scope r s m K at fit low next.
        let L : ℕ = first_depth c in
        let size : ℕ = size_of c.structs target in
        let reg : ℕ = bytes_register L d in
        let insn_code : ℕ → List CodeItem = (λ n0. Plain (n.Binary Subtract P64 reg (address_register L d) (address_register L (suc d))) ∷ divided_code L d (suc d) n0 rest) in
        let capped : cap_offset size ≡ size = omega (arith, le) in
        let code_e : binary_code L c.structs b.Subtract d T (type_of x) (type_of y) rest ≡ insn_code size =
        ap (λ z. binary_code L c.structs b.Subtract d T z (type_of y) rest) ex ∙ ap (λ z. binary_code L c.structs b.Subtract d T (Pointer target) z rest) ey ∙ ap insn_code capped in
        meets_same c.rooms c.functions
        (ap (λ z. finish (run_by c found target other x y ex ey hx hy (λ v w. apply_binary c.structs b.Subtract z (type_of y) v w) scope s) K) ex ∙ ap (λ z. finish (run_by c found target other x y ex ey hx hy (λ v w. apply_binary c.structs b.Subtract (Pointer target) z v w) scope s) K) ey)
        (both_lead c found target other x y ex ey hx hy (λ v w. apply_binary c.structs b.Subtract (Pointer target) (Pointer other) v w) d (insn_code size) heads p f scope r s m K
        (subst (λ z. Stands c heads p (expr_code L c.structs c.locals d x (expr_code L c.structs c.locals (suc d) y z))) code_e at) fit low
        (λ q v w h u q1 n1 at1 pair.
        bound_run c found (or_undefined (unless_dead u.world.outer.memory v w ComparesApart) (bytes_between u.world.outer.memory v w) u) (λ z. elements z size) K q q1 u.world n1
        (known_meets c.rooms c.functions (unless_dead u.world.outer.memory v w ComparesApart) (bytes_between u.world.outer.memory v w) u (λ z u1. finish (elements z size u1) K) _ (λ z e.
        let is = between u.world.outer.memory v w z e in
        let there : pointer_minus n1 (q1 (address_register L d)) (q1 (address_register L (suc d))) ≡ Some z =
        (answers_correspond h u.world.outer.memory n1 pair.fit.memory v w (q1 (address_register L d)) (q1 (address_register L (suc d))) pair.left pair.right).minus z is.minus in
        insn_on c found (n.Binary Subtract P64 reg (address_register L d) (address_register L (suc d))) q q1 u.world n1 (Word (word i.Long z) ∷ []) at1.has.0 refl
        (ap (λ t. writes (vm.distance_answer t) (outer_with_memory u.world.outer n1)) there)
        (elements_meet d rest heads f scope r s m K next v w h u q1 n1 pair z (is.small (λ p live. pair.fit.small p.object live)) size le (next_place q) (at_plain c.code.blocks c.last c.end _ at1))))));
  }

pub distances_meet : DistancesMeet
distances_meet c found target other x y le ex ey hx hy = distances c found target other x y le ex ey hx hy
