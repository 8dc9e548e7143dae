-- The code of what stands at a place, and of its address.
use Rattle.std.proofs.Common.{◌≡◌, ◌≢◌, ℕ, zero, suc, ◌+◌, ◌-◌, ◌<◌, ◌≤◌, ◌^◌, ◌%◌, min, pos, List, [], ◌∷◌, true, false, Some, Ok, eq-eqb, le-leb, refl, sym, ap, ◌∙◌, subst, arith, inl, inr}
use Rattle.std.specs.Prelude.{if◌then◌else◌, slice_get}
use Rattle.mem_model.specs.declared.value.Ptr.{Ptr}
use Rattle.mem_model.specs.declared.value.Value.{Value}
use Rattle.mem_model.specs.declared.value.Value.TheVariants.{Word, Address, Unset}
use Rattle.mem_model.specs.Memory.{Memory, load_at, row_at}
use Rattle.mem_model.specs.World.{outer_with_memory}
use Rattle.mem_model.specs.Pointers.{pointer_plus}
use Rattle.mem_model.specs.Related.{Names, IsValueOf}
use Rattle.mem_model.proofs.RelatedPointers.{moves_correspond}
use Rattle.mem_model.proofs.Changes.{load_tells}
use Rattle.mem_model.proofs.RelatedRows.{PointerIs, IsNull, IsParts, pointer_is, value_or_fault-some}
use Rattle.mem_objects.specs.declared.TheConstants.{MOST_DATA}
use Rattle.bk_arithmetic.specs.declared.integer_type.IntegerType.{IntegerType}
use Rattle.bk_arithmetic.specs.declared.integer_type.IntegerType.TheVariants as i
use Rattle.bk_arithmetic.specs.IntegerTypes.{bytes}
use Rattle.bk_arithmetic.specs.IntegerTypes.{fits}
use Rattle.bk_arithmetic.specs.Words.{value, word, extension, is_word}
use Rattle.bk_arithmetic.proofs.Values.{value-word}
use Rattle.bk_arithmetic.proofs.Results.{is_word-extension}
use Rattle.c_tree.specs.declared.expressions.UnaryOp.TheVariants as u
use Rattle.c_typed_tree.specs.Types.{PlainType, Void, Int, Pointer, Array, Struct}
use Rattle.c_typed_tree.specs.Expressions.{Expr, Global, Unary, Field, Arrow, type_of}
use Rattle.c_semantics.specs.Reasons.{UsesNoValue}
use Rattle.c_semantics.specs.Runs.{CallState, and_then, use_value, use_number, pure}
use Rattle.c_semantics.specs.Objects as objects
use Rattle.c_semantics.specs.Objects.{Scope, start_pointer, access, integer_value, read_at, place_pointer, move, move_reason, offset_of, local_place}
use Rattle.c_semantics.specs.Evaluates.{eval, place, member_pointer, target_of}
use Rattle.suifvm_ir.specs.declared.types.VmType.TheVariants.{S64, P64}
use Rattle.suifvm_ir.specs.declared.insn.VmBinaryOp.TheVariants.{Add}
use Rattle.suifvm_ir.specs.declared.insn.VmObject.TheVariants as p
use Rattle.suifvm_ir.specs.declared.insn.VmInsn.TheVariants as n
use Rattle.suifvm_meaning.specs.declared.answer.Answer.TheVariants.{Gives, Fails}
use Rattle.suifvm_meaning.specs.Operations as vm
use Rattle.suifvm_meaning.specs.Effect.{writes}
use Rattle.suifvm_meaning.specs.Behave.{Registers, set_register}
use Rattle.lowering_code.specs.declared.item.CodeItem.{CodeItem}
use Rattle.lowering_code.specs.Registers.{register_type, memory_type, value_register, address_register, bytes_register}
use Rattle.lowering_code.specs.Expressions.{plain_of, moved_code, load_code, load_from, member_plus, expr_code, place_code}
use Rattle.lowering_states.specs.Places.{CodePlace, next_place}
use Rattle.lowering_states.specs.Runs.{CodeObservation, finish}
use Rattle.lowering_states.specs.model.Opens.{opens}
use Rattle.lowering_states.specs.States.{IsHeld, KeepsLower}
use Rattle.lowering_states.proofs.Steps.{meets_anything, meets_same, used_meets, number_meets, access_meets}
use Rattle.lowering_states.proofs.States.{set_same, set_other, other_type, kept_all, kept_temporary, value_at, after_same, fits_temporary}
use Rattle.lowering_states.specs.lowering_values.Laws.{IsMoved, load_result}
use Rattle.lowering_states.proofs.LoweringValues.Integers.{memory-plain, integer_of-plain}
use Rattle.lowering_states.proofs.LoweringValues.Accesses.{memories_correspond}
use Rattle.lowering_states.proofs.LoweringExpressionPlaces.Behind.{at_plain}
use Rattle.lowering_expression_laws.specs.Parts.{Setting, first_depth, EndsSo, Stands, Fit, Aft, Follows, ExprMeets}
use Rattle.lowering_expression_laws.proofs.Forms.{held_word, insn_on, bound_run}
use Rattle.lowering_expression_laws.specs.lowering_place_laws.Places.{left_of, PlaceMeets}
use Rattle.lowering_expression_laws.specs.lowering_place_laws.Laws.{MemberIsWithin, HasWholeIntegers}
use Rattle.lowering_expression_laws.proofs.LoweringPlaceLaws.Places.{held_pointer, moved_held, same_moved, byte_of, exact, long_word, address_meets, address_of, pointer_in, moved_meets}

pub array_held : (element : PlainType) (k : ℕ) (v : Value) → IsHeld (Array element k) v
array_held element k (Word n) = tt
array_held element k (Address q) = tt
array_held element k Unset = tt

pub struct_held : (k : ℕ) (v : Value) → IsHeld (Struct k) v
struct_held k (Word n) = tt
struct_held k (Address q) = tt
struct_held k Unset = tt

nothing : (off : ℕ) → off + 0 ≡ off
nothing off = omega arith

-- ---- bytes by which a pointer is moved

long_is : (k : ℕ) → k ≤ MOST_DATA → is_word i.Long k ≡ true
long_is k le = eq-eqb (k % 2 ^ 64) k (long_word k le)

long_value : (k : ℕ) → k ≤ MOST_DATA → value i.Long k ≡ pos k
long_value k le =
    let same : word i.Long (pos k) ≡ k = twice k le in
    let fit : fits i.Long (pos k) ≡ true = le-leb k 9223372036854775807 (omega (arith, le)) in
    ap (value i.Long) (sym same) ∙ value-word i.Long (pos k) fit
  where
    twice : (k : ℕ) → k ≤ MOST_DATA → k % 2 ^ 64 % 2 ^ 64 ≡ k
    twice k le = omega (arith, le)

-- a pointer that was loaded is null or an address
loaded_held : (m : Memory) (q : Ptr) (v : Value) (target : PlainType) → load_at m q 8 true ≡ Ok v → IsHeld (Pointer target) v
loaded_held m q v target e =
    let told = load_tells m q 8 true v e in
    by_row (pointer_is (row_at m q 8) v (value_or_fault-some true (row_at m q 8) v told.value))
  where
    by_row : PointerIs (row_at m q 8) v → IsHeld (Pointer target) v
    by_row (IsNull cells is) = subst (λ z. IsHeld (Pointer target) z) (sym is) refl
    by_row (IsParts a cells is) = subst (λ z. IsHeld (Pointer target) z) (sym is) tt

loaded_set : (m : Memory) (q : Ptr) (v : Value) → load_at m q 8 true ≡ Ok v → vm.is_set v ≡ true
loaded_set m q v e =
    let told = load_tells m q 8 true v e in
    by_row (pointer_is (row_at m q 8) v (value_or_fault-some true (row_at m q 8) v told.value))
  where
    by_row : PointerIs (row_at m q 8) v → vm.is_set v ≡ true
    by_row (IsNull cells is) = ap vm.is_set is
    by_row (IsParts a cells is) = ap vm.is_set is

-- a type of integers has bytes
some : (t : IntegerType) → 0 < bytes t
some i.Char = omega arith
some i.UnsignedChar = omega arith
some i.Short = omega arith
some i.UnsignedShort = omega arith
some i.Int = omega arith
some i.UnsignedInt = omega arith
some i.Long = omega arith
some i.UnsignedLong = omega arith

module _ (c : Setting) (found : slice_get c.functions c.number ≡ Some c.code) where
  abbrev L : ℕ
  L = first_depth c

  -- the pointer is moved by the bytes that are left
  pub moved_on : {o : CodeObservation} (d left : ℕ) (rest : List CodeItem) (heads : List ℕ) (scope : Scope) (r : Registers) (q : CodePlace) (base at : Value) (g : Names) (t : CallState) (q1 : Registers) (m1 : Memory) → Stands c heads q (moved_code L d left rest)
      → Fit c g scope q1 t m1 → KeepsLower L d r q1 → IsValueOf g base (q1 (address_register L d)) → left ≤ MOST_DATA → IsMoved t.world.outer.memory base left at
      → ((q2 : CodePlace) (q3 : Registers) → Stands c heads q2 rest → Fit c g scope q3 t m1 → KeepsLower L d r q3 → IsValueOf g at (q3 (address_register L d)) → EndsSo c o q2 q3 t.world m1) → EndsSo c o q q1 t.world m1
  moved_on d zero rest heads scope r q base at g t q1 m1 stands fit kept rel le (inl h) next = next q q1 stands fit kept (subst (λ z. IsValueOf g z (q1 (address_register L d))) (sym h.1) rel)
  moved_on d zero rest heads scope r q base at g t q1 m1 stands fit kept rel le (inr e) next =
      next q q1 stands fit kept (subst (λ z. IsValueOf g z (q1 (address_register L d))) (sym (same_moved t.world.outer.memory base at e)) rel)
  moved_on d (suc k) rest heads scope r q base at g t q1 m1 stands fit kept rel le (inl h) next = absurd (cc)
  moved_on d (suc k) rest heads scope r q base at g t q1 m1 stands fit kept rel le (inr e) next =
      let addr = address_register L d in
      let reg = bytes_register L d in
      let r1 = set_register reg (Word (suc k)) q1 in
      let x = moves_correspond g t.world.outer.memory m1 fit.memory base (q1 addr) at (pos (suc k)) rel e in
      let ne : addr ≢ reg = other_type L d P64 S64 (λ z. absurd (cc)) in
      let same : r1 addr ≡ q1 addr = set_other q1 reg addr (Word (suc k)) ne in
      let at2 = at_plain c.code.blocks c.last c.end _ stands in
      let o2 = outer_with_memory t.world.outer m1 in
      let fit1 = fits_temporary d S64 (Word (suc k)) fit in
      let r2 = set_register addr x.0 r1 in
      insn_on c found (n.LoadConstant S64 reg (suc k)) q q1 t.world m1 (Word (suc k) ∷ []) stands.has.0 refl
      (ap (λ z. writes (if z then Gives (Word (suc k)) else Fails) o2) (long_is (suc k) le))
      (insn_on c found (n.Binary Add P64 addr addr reg) (next_place q) r1 t.world m1 (x.0 ∷ []) at2.has.0 refl
      (ap (λ z. writes (vm.pointer_answer m1 Add z (r1 reg)) o2) same ∙ ap (λ z. writes (vm.pointer_answer m1 Add (q1 addr) z) o2) (set_same q1 reg (Word (suc k)))
      ∙ ap (λ z. writes (vm.value_answer (pointer_plus m1 (q1 addr) z)) o2) (long_value (suc k) le) ∙ ap (λ z. writes (vm.value_answer z) o2) x.1)
      (next (next_place (next_place q)) r2 (at_plain c.code.blocks c.last c.end _ at2) (fits_temporary d P64 x.0 fit1)
      (kept_temporary d P64 x.0 (omega arith) (kept_temporary d S64 (Word (suc k)) (omega arith) kept)) (value_at g at x.0 r1 addr x.2)))

  -- an integer is loaded to a register from where a pointer in another register leads
  pub loads_lead : (t0 : IntegerType) (to pointer left : ℕ) (rest : List CodeItem) (heads : List ℕ) (g : Names) (scope : Scope) (t : CallState) (m1 : Memory) (K : Value → CallState → CodeObservation) (q : CodePlace) (q1 : Registers) (base at : Value) → Fit c g scope q1 t m1
      → IsValueOf g base (q1 pointer) → IsMoved t.world.outer.memory base left at → Stands c heads q (load_from (plain_of t0) to pointer left rest)
      → ((k : ℕ) → is_word t0 k ≡ true → Stands c heads (next_place q) rest → EndsSo c (K (Word k) t) (next_place q) (set_register to (Word k) q1) t.world m1) → EndsSo c (finish (read_at (plain_of t0) at t) K) q q1 t.world m1
  unfolding opens
  loads_lead t0 to pointer left rest heads g scope t m1 K q q1 base (Word k) fit rel moved stands next = meets_anything c.rooms c.functions refl
  loads_lead t0 to pointer left rest heads g scope t m1 K q q1 base Unset fit rel moved stands next = meets_anything c.rooms c.functions refl
  loads_lead t0 to pointer left rest heads g scope t m1 K q q1 base (Address a) fit rel moved stands next =
      let I = objects.integer_or_word (plain_of t0) in
      let mt = memory_type (plain_of t0) in
      let o2 = outer_with_memory t.world.outer m1 in
      bound_run c found (access (load_at t.world.outer.memory a (bytes t0) false) t) (integer_value I) K q q1 t.world m1
      (access_meets c.rooms c.functions (load_at t.world.outer.memory a (bytes t0) false) t (λ v u1. finish (integer_value I v u1) K) _ (λ v ev.
      bound_run c found (use_number v t) (λ k. pure (Word (extension I k))) K q q1 t.world m1
      (number_meets c.rooms c.functions v t (λ k u1. K (Word (extension I k)) u1) _ (λ k vk.
      let same = memory-plain t0 in
      let got = (memories_correspond g t.world.outer.memory m1 fit.memory).1.loads mt base (q1 pointer) left a v rel moved
      (subst (λ z. 0 < vm.access_bytes z) (sym same) (some t0)) (subst (λ z. load_at t.world.outer.memory a (vm.access_bytes z) (vm.is_pointer_access z) ≡ Ok v) (sym same) ev) in
      let x_is : got.0 ≡ Word k = subst (λ z. IsValueOf g z got.0) vk got.2 in
      let gives : load_result mt got.0 ≡ Word (extension t0 k) = ap (λ z. vm.extended_value z got.0) same ∙ ap (vm.extended_value (Some t0)) x_is in
      let w = Word (extension t0 k) in
      meets_same c.rooms c.functions (ap (λ z. K (Word (extension z k)) t) (integer_of-plain t0))
      (insn_on c found (n.Load mt to pointer (pos left)) q q1 t.world m1 (w ∷ []) stands.has.0 refl (ap (λ z. writes z o2) got.1 ∙ ap (λ z. writes (Gives z) o2) gives)
      (next (extension t0 k) (is_word-extension t0 k) (at_plain c.code.blocks c.last c.end _ stands)))))))

  -- the same of a pointer
  pub pointers_lead : (target : PlainType) (to pointer left : ℕ) (rest : List CodeItem) (heads : List ℕ) (g : Names) (scope : Scope) (t : CallState) (m1 : Memory) (K : Value → CallState → CodeObservation) (q : CodePlace) (q1 : Registers) (base at : Value) → Fit c g scope q1 t m1
      → IsValueOf g base (q1 pointer) → IsMoved t.world.outer.memory base left at → Stands c heads q (load_from (Pointer target) to pointer left rest)
      → ((v w : Value) → IsHeld (Pointer target) v → vm.is_set v ≡ true → IsValueOf g v w → Stands c heads (next_place q) rest → EndsSo c (K v t) (next_place q) (set_register to w q1) t.world m1) → EndsSo c (finish (read_at (Pointer target) at t) K) q q1 t.world m1
  unfolding opens
  pointers_lead target to pointer left rest heads g scope t m1 K q q1 base (Word k) fit rel moved stands next = meets_anything c.rooms c.functions refl
  pointers_lead target to pointer left rest heads g scope t m1 K q q1 base Unset fit rel moved stands next = meets_anything c.rooms c.functions refl
  pointers_lead target to pointer left rest heads g scope t m1 K q q1 base (Address a) fit rel moved stands next =
      let mt = memory_type (Pointer target) in
      let o2 = outer_with_memory t.world.outer m1 in
      access_meets c.rooms c.functions (load_at t.world.outer.memory a 8 true) t K _ (λ v ev.
      let got = (memories_correspond g t.world.outer.memory m1 fit.memory).1.loads mt base (q1 pointer) left a v rel moved (omega arith) ev in
      insn_on c found (n.Load mt to pointer (pos left)) q q1 t.world m1 (got.0 ∷ []) stands.has.0 refl (ap (λ z. writes z o2) got.1)
      (next v got.0 (loaded_held t.world.outer.memory a v target ev) (loaded_set t.world.outer.memory a v ev) got.2 (at_plain c.code.blocks c.last c.end _ stands)))

  module _ (d left : ℕ) (rest : List CodeItem) (heads : List ℕ) (f : Names) (scope : Scope) (r : Registers) (s : CallState) (m : Memory) (K : Value → CallState → CodeObservation) (q : CodePlace) (base at : Value) (g : Names) (t : CallState) (q1 : Registers) (m1 : Memory)
      (aft : Aft c f s m g t m1) (fit : Fit c g scope q1 t m1) (kept : KeepsLower L d r q1) (held : IsHeld (Pointer Void) at) (rel : IsValueOf g base (q1 (address_register L d))) (le : left ≤ MOST_DATA) (moved : IsMoved t.world.outer.memory base left at) where
    integer_load : (t0 : IntegerType) (at0 : Value) → at ≡ at0 → Follows c d (plain_of t0) heads rest f scope r s m K → Stands c heads q (load_from (plain_of t0) (value_register L d (plain_of t0)) (address_register L d) left rest)
        → EndsSo c (finish (read_at (plain_of t0) at0 t) K) q q1 t.world m1
    integer_load t0 at0 is next stands =
        let reg : ℕ = value_register L d (plain_of t0) in
        loads_lead t0 reg (address_register L d) left rest heads g scope t m1 K q q1 base at0 fit rel (subst (λ z. IsMoved t.world.outer.memory base left z) is moved) stands
        (λ k one stands2.
        next (next_place q) (Word k) g t (set_register reg (Word k) q1) m1 stands2 aft (fits_temporary d (register_type (plain_of t0)) (Word k) fit)
        (kept_temporary d (register_type (plain_of t0)) (Word k) (omega arith) kept) (held_word t0 k one) (value_at g (Word k) (Word k) q1 reg refl))

    pointer_load : (target : PlainType) (at0 : Value) → at ≡ at0 → Follows c d (Pointer target) heads rest f scope r s m K → Stands c heads q (load_from (Pointer target) (value_register L d (Pointer target)) (address_register L d) left rest)
        → EndsSo c (finish (read_at (Pointer target) at0 t) K) q q1 t.world m1
    pointer_load target at0 is next stands =
        let reg : ℕ = address_register L d in
        pointers_lead target reg reg left rest heads g scope t m1 K q q1 base at0 fit rel (subst (λ z. IsMoved t.world.outer.memory base left z) is moved) stands
        (λ v w heldv set relv stands2.
        next (next_place q) v g t (set_register reg w q1) m1 stands2 aft (fits_temporary d P64 w fit) (kept_temporary d P64 w (omega arith) kept) heldv (value_at g v w q1 reg relv))

    pub load_on : (ty : PlainType) → HasWholeIntegers ty → Follows c d ty heads rest f scope r s m K → Stands c heads q (load_code L d ty left rest) → EndsSo c (finish (read_at ty at t) K) q q1 t.world m1
    unfolding opens
    load_on Void whole next stands = meets_anything c.rooms c.functions refl
    load_on (Int b1 s1) whole next stands =
        (subst (λ z. Follows c d z heads rest f scope r s m K → Stands c heads q (load_from z (value_register L d z) (address_register L d) left rest) → EndsSo c (finish (read_at z at t) K) q q1 t.world m1) (sym whole.1)
        (λ next1 stands1. integer_load whole.0 at refl next1 stands1)) next stands
    load_on (Pointer target) whole next stands = pointer_load target at refl next stands
    load_on (Array element k) whole next stands =
        moved_on d left rest heads scope r q base at g t q1 m1 stands fit kept rel le moved
        (λ q2 q3 stands2 fit2 kept2 rel2. next q2 at g t q3 m1 stands2 aft fit2 kept2 (array_held element k at) rel2)
    load_on (Struct k) whole next stands =
        moved_on d left rest heads scope r q base at g t q1 m1 stands fit kept rel le moved
        (λ q2 q3 stands2 fit2 kept2 rel2. next q2 at g t q3 m1 stands2 aft fit2 kept2 (struct_held k at) rel2)

  -- ---- forms

  pub statics : (ty : PlainType) (k : ℕ) → HasWholeIntegers ty → k < c.statics → ExprMeets c (Global ty k)
  unfolding opens
  statics ty k whole lt = record {
    by = λ d rest heads place f scope r s m K at fit low next.
        let w = byte_of k 0 in
        let reg = address_register L d in
        address_meets c found d (p.Global k) 0 (load_code L d ty 0 rest) heads place r s.world m at
        (load_on d 0 rest heads f scope r s m K (next_place place) w w f s (set_register reg w r) m after_same (fits_temporary d P64 w fit) (kept_temporary d P64 w (omega arith) kept_all) tt
        (value_at f w w r reg (address_of c found f k k 0 (fit.statics k lt))) (omega arith) (inl (refl, refl)) ty whole next (at_plain c.code.blocks c.last c.end _ at));
  }

  pub targets : (ty target : PlainType) (x : Expr) → HasWholeIntegers ty → type_of x ≡ Pointer target → ExprMeets c x → ExprMeets c (Unary ty u.Dereference x)
  unfolding opens
  targets ty target x whole ex hx = record {
    by = λ d rest heads place f scope r s m K at fit low next.
        bound_run c found (and_then (eval c.structs c.locals c.calls scope x s) (use_value UsesNoValue)) (read_at ty) K place r s.world m
        (bound_run c found (eval c.structs c.locals c.calls scope x s) (use_value UsesNoValue) (λ v t. finish (read_at ty v t) K) place r s.world m
        (hx.by d (load_code L d ty 0 rest) heads place f scope r s m (λ v t. finish (use_value UsesNoValue v t) (λ v t. finish (read_at ty v t) K)) at fit low
        (λ q v g t q1 m1 at1 aft fit1 kept held stands.
        used_meets c.rooms c.functions UsesNoValue v t (λ v t. finish (read_at ty v t) K) _ (λ set.
        load_on d 0 rest heads f scope r s m K q v v g t q1 m1 aft fit1 kept (held_pointer target Void v (subst (λ z. IsHeld z v) ex held)) (pointer_in c found g d (type_of x) target v q1 ex stands) (omega arith) (inl (refl, refl)) ty whole next at1))));
  }

  pub members : (ty : PlainType) (x : Expr) (member : ℕ) → HasWholeIntegers ty → MemberIsWithin c (type_of x) member ty → PlaceMeets c x → ExprMeets c (Field ty x member)
  unfolding opens
  members ty x member whole within hx = record {
    by = λ d rest heads p1 f scope r s m K at fit low next.
        let off = offset_of c.structs (type_of x) member in
        let sum : member_plus c.structs (type_of x) member 0 ≡ off = ap (λ z. min z (2 ^ 63 - 1)) (nothing off) ∙ exact off (omega (arith, within.lies, within.size)) in
        let at2 = subst (λ k. Stands c heads p1 (place_code L c.structs c.locals d x k (load_code L d ty (left_of c x k) rest))) sum at in
        bound_run c found (and_then (and_then (place c.structs c.locals c.calls scope x s) place_pointer) (member_pointer c.structs (type_of x) member)) (read_at ty) K p1 r s.world m
        (bound_run c found (and_then (place c.structs c.locals c.calls scope x s) place_pointer) (member_pointer c.structs (type_of x) member) (λ v t. finish (read_at ty v t) K) p1 r s.world m
        (bound_run c found (place c.structs c.locals c.calls scope x s) place_pointer (λ v t. finish (member_pointer c.structs (type_of x) member v t) (λ v t. finish (read_at ty v t) K)) p1 r s.world m
        (hx.by d off (load_code L d ty (left_of c x off) rest) heads p1 f scope r s m (λ z t. finish (place_pointer z t) (λ v t. finish (member_pointer c.structs (type_of x) member v t) (λ v t. finish (read_at ty v t) K)))
        (omega (arith, within.lies, within.size)) (omega (arith, within.lies)) at2 fit low
        (λ q base v g t q1 m1 at1 aft fit1 kept held stands small is_base.
        moved_meets c found v off t (λ v t. finish (read_at ty v t) K) (λ u moved.
        load_on d (left_of c x off) rest heads f scope r s m K q base u g t q1 m1 aft fit1 kept (moved_held t.world.outer.memory v u (pos off) Void moved) stands small (is_base u (inr moved)) ty whole next at1)))));
  }

  pub arrows : (ty target : PlainType) (x : Expr) (member : ℕ) → HasWholeIntegers ty → type_of x ≡ Pointer target → MemberIsWithin c target member ty → ExprMeets c x → ExprMeets c (Arrow ty x member)
  unfolding opens
  arrows ty target x member whole ex within hx = record {
    by = λ d rest heads p1 f scope r s m K at fit low next.
        let off = offset_of c.structs target member in
        let same_target : target_of (type_of x) ≡ target = ap target_of ex in
        let sum : member_plus c.structs (target_of (type_of x)) member 0 ≡ off =
        ap (λ z. member_plus c.structs z member 0) same_target ∙ ap (λ z. min z (2 ^ 63 - 1)) (nothing off) ∙ exact off (omega (arith, within.lies, within.size)) in
        let at2 = subst (λ k. Stands c heads p1 (expr_code L c.structs c.locals d x (load_code L d ty k rest))) sum at in
        bound_run c found (and_then (eval c.structs c.locals c.calls scope x s) (member_pointer c.structs (target_of (type_of x)) member)) (read_at ty) K p1 r s.world m
        (bound_run c found (eval c.structs c.locals c.calls scope x s) (member_pointer c.structs (target_of (type_of x)) member) (λ v t. finish (read_at ty v t) K) p1 r s.world m
        (hx.by d (load_code L d ty off rest) heads p1 f scope r s m (λ v t. finish (member_pointer c.structs (target_of (type_of x)) member v t) (λ v t. finish (read_at ty v t) K)) at2 fit low
        (λ q v g t q1 m1 at1 aft fit1 kept held stands.
        meets_same c.rooms c.functions (ap (λ z. finish (member_pointer c.structs z member v t) (λ v t. finish (read_at ty v t) K)) same_target)
        (moved_meets c found v off t (λ v t. finish (read_at ty v t) K) (λ u moved.
        load_on d off rest heads f scope r s m K q v u g t q1 m1 aft fit1 kept (moved_held t.world.outer.memory v u (pos off) Void moved) (pointer_in c found g d (type_of x) target v q1 ex stands) (omega (arith, within.lies, within.size)) (inr moved) ty whole next at1)))));
  }

  pub addresses : (target : PlainType) (x : Expr) → PlaceMeets c x → ExprMeets c (Unary (Pointer target) u.Address x)
  unfolding opens
  addresses target x hx = record {
    by = λ d rest heads p1 f scope r s m K at fit low next.
        bound_run c found (place c.structs c.locals c.calls scope x s) place_pointer K p1 r s.world m
        (hx.by d 0 (moved_code L d (left_of c x 0) rest) heads p1 f scope r s m (λ z t. finish (place_pointer z t) K) (omega arith) (omega arith) at fit low
        (λ q base v g t q1 m1 at1 aft fit1 kept held stands small is_base.
        moved_on d (left_of c x 0) rest heads scope r q base v g t q1 m1 at1 fit1 kept stands small (is_base v (inl (refl, refl)))
        (λ q2 q3 stands2 fit2 kept2 rel2. next q2 v g t q3 m1 stands2 aft fit2 kept2 (held_pointer Void target v held) rel2)));
  }
