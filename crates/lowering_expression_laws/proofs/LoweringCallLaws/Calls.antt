-- The code of calls of functions: the arguments from left to right, and the call.
use Rattle.std.proofs.Common.{◌≡◌, ℕ, suc, ◌≤◌, List, [], ◌∷◌, true, ◌&&◌, Option, Some, None, map, refl, sym, ap, ◌∙◌, subst, arith, inl, inr}
use Rattle.std.specs.Prelude.{if◌then◌else◌, slice_get}
use Rattle.std.specs.List.{list_all}
use Rattle.mem_model.specs.declared.value.Value.{Value}
use Rattle.mem_model.specs.declared.value.Value.TheVariants.{Word, Address, Unset}
use Rattle.mem_model.specs.Memory.{Memory}
use Rattle.mem_model.specs.World.{World, with_meter, outer_with_memory}
use Rattle.mem_model.specs.Ending.{Gives}
use Rattle.mem_model.specs.Related.{Names, IsValueOf}
use Rattle.mem_model.proofs.RelatedRows.{values_stay}
use Rattle.machine_model.specs.Code as machine
use Rattle.bk_arithmetic.specs.Words.{extension}
use Rattle.c_typed_tree.specs.declared.expressions.Callee.TheVariants.{Function}
use Rattle.c_typed_tree.specs.Types.{PlainType, Void, Pointer}
use Rattle.c_typed_tree.specs.Expressions.{Call, Exprs, no_exprs, more_exprs, type_of}
use Rattle.c_semantics.specs.Reasons.{UsesNoValue}
use Rattle.c_semantics.specs.Runs.{CallState, Run, and_then, use_value, pure, turn}
use Rattle.c_semantics.specs.Objects.{Scope, call_result}
use Rattle.c_semantics.specs.Evaluates.{eval, evals}
use Rattle.c_semantics.specs.Executes.{within_call, enter_function, leave_function}
use Rattle.suifvm_ir.specs.declared.insn.VmCallee.TheVariants as vk
use Rattle.suifvm_ir.specs.declared.insn.VmInsn.{VmInsn}
use Rattle.suifvm_ir.specs.declared.insn.VmInsn.TheVariants as n
use Rattle.suifvm_meaning.specs.Operations as vm
use Rattle.suifvm_ir.specs.Insns.{writes_of}
use Rattle.suifvm_meaning.specs.Behave.{Registers, set_register, set_registers, first_or_unset}
use Rattle.lowering_code.specs.declared.item.CodeItem.{CodeItem}
use Rattle.lowering_code.specs.declared.item.CodeItem.TheVariants.{Plain}
use Rattle.lowering_code.specs.Registers.{register_type, value_register}
use Rattle.lowering_code.specs.Expressions.{plain_of, destination_of, call_registers, exprs_code}
use Rattle.lowering_states.specs.Places.{CodePlace, next_place}
use Rattle.lowering_states.specs.Runs.{CodeObservation, finish, frame_of}
use Rattle.lowering_states.specs.model.Opens.{opens}
use Rattle.lowering_states.specs.States.{IsHeld, IsInRegister, KeepsLower}
use Rattle.lowering_states.proofs.Steps.{meets_same, used_meets, turn_meets, turn_less, no_turn, calling_step, resume_meets}
use Rattle.lowering_states.proofs.States.{kept_all, kept_on, kept_temporary, kept_reads, is_in, is_at, after_same, after_on, fits_temporary, fits_after}
use Rattle.lowering_states.proofs.LoweringValues.Integers.{integer_of-plain, word_is}
use Rattle.lowering_states.proofs.LoweringExpressionPlaces.Behind.{at_plain}
use Rattle.lowering_expression_laws.specs.Parts.{Setting, first_depth, EndsSo, Stands, Fit, Aft, ExprMeets}
use Rattle.lowering_expression_laws.specs.Laws.{IsScalarType}
use Rattle.lowering_expression_laws.proofs.Forms.{word_held, bound_run}
use Rattle.lowering_expression_laws.specs.lowering_call_laws.Laws.{CallsWithoutResultsMeet, AreArguments, ArgumentsMeet, FunctionMeets, CallsMeet}

scalar_in : (f : Names) (ty : PlainType) (v w : Value) → IsScalarType ty → IsInRegister f ty v w → IsValueOf f v w
scalar_in f ty v w (inl t) h = subst (λ z. IsInRegister f z v w) t.1 h
scalar_in f ty v w (inr t) h = subst (λ z. IsInRegister f z v w) t.1 h

set_too : (f : Names) (v w : Value) → IsValueOf f v w → vm.is_set v ≡ true → vm.is_set w ≡ true
set_too f (Word k) w r e = ap vm.is_set r
set_too f (Address k) w r e = ap vm.is_set r.1
set_too f Unset w r e = absurd (cc)

all_set : (f : Names) (tys : List PlainType) (vs ws : List Value) → AreArguments f tys vs ws → list_all vm.is_set ws ≡ true
all_set f [] [] [] h = refl
all_set f [] [] (w ∷ ws) h = absurd h
all_set f [] (v ∷ vs) [] h = absurd h
all_set f [] (v ∷ vs) (w ∷ ws) h = absurd h
all_set f (ty ∷ tys) [] [] h = absurd h
all_set f (ty ∷ tys) [] (w ∷ ws) h = absurd h
all_set f (ty ∷ tys) (v ∷ vs) [] h = absurd h
all_set f (ty ∷ tys) (v ∷ vs) (w ∷ ws) h = ap (λ z. z && list_all vm.is_set ws) h.0 ∙ all_set f tys vs ws h.3

-- the value of a call, as its type holds it
result_is : (ty : PlainType) (v : Value) (s : CallState) (K : Value → CallState → CodeObservation) → IsScalarType ty → IsHeld ty v → finish (call_result ty v s) K ≡ K v s
unfolding opens
result_is ty v s K (inl t) held = subst (λ z. finish (call_result z v s) K ≡ K v s) (sym t.1) (words v (subst (λ z. IsHeld z v) t.1 held))
  where
    words : (v : Value) → IsHeld (plain_of t.0) v → finish (call_result (plain_of t.0) v s) K ≡ K v s
    words (Word k) h = ap (λ z. K (Word (extension z k)) s) (integer_of-plain t.0) ∙ ap (λ z. K (Word z) s) (word_is t.0 k (word_held t.0 k h))
    words (Address a) h = absurd h
    words Unset h = refl
result_is ty v s K (inr t) held = subst (λ z. finish (call_result z v s) K ≡ K v s) (sym t.1) (pointers v)
  where
    pointers : (v : Value) → finish (call_result (Pointer t.0) v s) K ≡ K v s
    pointers (Word k) = refl
    pointers (Address a) = refl
    pointers Unset = refl

-- a scalar goes into its register
destination_is : (c : Setting) (d : ℕ) (ty : PlainType) → IsScalarType ty → destination_of (first_depth c) c.structs c.locals d ty ≡ Some (value_register (first_depth c) d ty)
destination_is c d ty (inl t) = subst (λ z. destination_of (first_depth c) c.structs c.locals d z ≡ Some (value_register (first_depth c) d z)) (sym t.1) refl
destination_is c d ty (inr t) = subst (λ z. destination_of (first_depth c) c.structs c.locals d z ≡ Some (value_register (first_depth c) d z)) (sym t.1) refl

module _ (c : Setting) (found : slice_get c.functions c.number ≡ Some c.code) where
  abbrev L : ℕ
  L = first_depth c

  -- ---- arguments

  abbrev ArgumentsFollow : (d : ℕ) → List PlainType → Exprs → (heads : List ℕ) → (rest : List CodeItem) → Names → Scope → Registers → CallState → Memory → (List Value → CallState → CodeObservation) → Type 0
  ArgumentsFollow d tys xs heads rest f scope r s m K =
      (q : CodePlace) (vs : List Value) (g : Names) (t : CallState) (q1 : Registers) (m1 : Memory) → Stands c heads q rest → Aft c f s m g t m1 → Fit c g scope q1 t m1 → KeepsLower L d r q1
      → AreArguments g tys vs (map q1 (call_registers L c.structs c.locals d xs)) → EndsSo c (K vs t) q q1 t.world m1

  arguments : (tys : List PlainType) (xs : Exprs) → ArgumentsMeet c tys xs → (d : ℕ) (rest : List CodeItem) (heads : List ℕ) (p : CodePlace) (f : Names) (scope : Scope) (r : Registers) (s : CallState) (m : Memory) (K : List Value → CallState → CodeObservation)
      → Stands c heads p (exprs_code L c.structs c.locals d xs rest) → Fit c f scope r s m → s.world.meter.turns ≤ c.level → ArgumentsFollow d tys xs heads rest f scope r s m K
      → EndsSo c (finish (evals c.structs c.locals c.calls scope xs s) K) p r s.world m
  unfolding opens
  arguments [] (more_exprs x xs) all d rest heads p f scope r s m K at fit low next = absurd all
  arguments (ty ∷ tys) no_exprs all d rest heads p f scope r s m K at fit low next = absurd all
  arguments [] no_exprs all d rest heads p f scope r s m K at fit low next = next p [] f s r m at after_same fit kept_all tt
  arguments (ty ∷ tys) (more_exprs x xs) all d rest heads p f scope r s m K at fit low next =
      let more : Value → Run (List Value) = λ v t. and_then (evals c.structs c.locals c.calls scope xs t) (λ vs. pure (v ∷ vs)) in
      bound_run c found (and_then (eval c.structs c.locals c.calls scope x s) (use_value UsesNoValue)) more K p r s.world m
      (bound_run c found (eval c.structs c.locals c.calls scope x s) (use_value UsesNoValue) (λ v t. finish (more v t) K) p r s.world m
      (all.2.by d (exprs_code L c.structs c.locals (suc d) xs rest) heads p f scope r s m (λ v t. finish (use_value UsesNoValue v t) (λ v t1. finish (more v t1) K)) at fit low
      (λ q v g t q1 m1 at1 aft fit1 kept held stands.
      used_meets c.rooms c.functions UsesNoValue v t (λ v t1. finish (more v t1) K) _ (λ set.
      bound_run c found (evals c.structs c.locals c.calls scope xs t) (λ vs. pure (v ∷ vs)) K q q1 t.world m1
      (arguments tys xs all.3 (suc d) rest heads q g scope q1 t m1 (λ vs u. K (v ∷ vs) u) at1 fit1 (omega (arith, aft.turned, low))
      (λ q2 vs h u q3 m2 at2 aft2 fit2 kept2 rels.
      let reg = value_register L d (type_of x) in
      let same : q3 reg ≡ q1 reg = kept_reads d (register_type (type_of x)) (omega arith) kept2 in
      let rel : IsValueOf h v (q3 reg) = subst (λ z. IsValueOf h v z) (sym same) (values_stay g h v (q1 reg) aft2.names (scalar_in g (type_of x) v (q1 reg) (subst IsScalarType (sym all.0) all.1) stands)) in
      next q2 (v ∷ vs) h u q3 m2 at2 (after_on aft aft2) fit2 (kept_on (omega arith) kept kept2) (set_too h v (q3 reg) rel set, subst (λ z. IsHeld z v) all.0 held, rel, rels)))))))

  -- ---- calls

  module _ (ty : PlainType) (k : ℕ) (tys : List PlainType) (xs : Exprs) (callee : FunctionMeets c k tys ty) where
    -- once the arguments stand in registers
    call_leads : (destination : Option ℕ) (d : ℕ) (rest : List CodeItem) (heads : List ℕ) (scope : Scope) (K : Value → CallState → CodeObservation)
        (q : CodePlace) (vs : List Value) (g : Names) (t : CallState) (q1 : Registers) (m1 : Memory) → Stands c heads q (Plain (n.Call destination (vk.Function k) (call_registers L c.structs c.locals d xs)) ∷ rest)
        → Fit c g scope q1 t m1 → AreArguments g tys vs (map q1 (call_registers L c.structs c.locals d xs)) → t.world.meter.turns ≤ c.level
        → ((v : Value) (us : List Value) (h : Names) (t2 : CallState) (n1 : Memory) → Stands c heads (next_place q) rest → IsHeld ty v → IsValueOf h v (first_or_unset us) → Aft c g t m1 h t2 n1 → Fit c h scope q1 t2 n1
        → EndsSo c (finish (call_result ty v t2) K) (next_place q) (set_registers (writes_of (n.Call destination (vk.Function k) (call_registers L c.structs c.locals d xs))) us q1) t2.world n1)
        → EndsSo c (finish (c.calls k vs t) (λ v u. finish (call_result ty v u) K)) q q1 t.world m1
    unfolding opens
    call_leads destination d rest heads scope K q vs g t q1 m1 at fit rels low next =
        let registers = call_registers L c.structs c.locals d xs in
        let insn : VmInsn = n.Call destination (vk.Function k) registers in
        let ws = map q1 registers in
        let K1 : Value → CallState → CodeObservation = λ v u. finish (call_result ty v u) K in
        meets_same c.rooms c.functions (ap (λ z. finish (z t) K1) (callee.is vs))
        (bound_run c found (turn t) (λ _. within_call c.rooms k (callee.body vs)) K1 q q1 t.world m1
        (turn_meets c.rooms c.functions t (λ _ t1. finish (within_call c.rooms k (callee.body vs) t1) K1) _
        (λ mt some.
        let less = turn_less t.world.meter mt some in
        let w : World = enter_function c.rooms k (with_meter t.world mt) in
        let inner : CallState = record { registers = λ j. Unset; world = w } in
        let back : Value → Run Value = λ v u. Gives v (record { registers = t.registers; world = leave_function c.rooms k u.world }) in
        bound_run c found (callee.body vs inner) back K1 q q1 t.world m1
        (calling_step c.rooms c.functions c.number c.code found c.own c.waiting insn q q1 t.world m1 mt k callee.code ws at.has.0 refl some callee.found
        (ap (λ z. if z then machine.Calls k ws (outer_with_memory t.world.outer m1) else machine.Stops machine.HasNoMeaning (outer_with_memory t.world.outer m1)) (all_set g tys vs ws rels))
        (callee.by vs ws g inner m1 (frame_of c.number c.own q q1 ∷ c.waiting) (λ v u. finish (back v u) K1) rels fit.statics fit.memory fit.small fit.bytes (omega (arith, less, low))
        (λ v us h u n1 held rel aft1 mem bytes.
        let t2 : CallState = record { registers = t.registers; world = leave_function c.rooms k u.world } in
        let aft2 : Aft c g t m1 h t2 n1 = record { names = aft1.names; lives = aft1.lives; sizes = aft1.sizes; locals = aft1.locals; turned = omega (arith, aft1.turned, less) } in
        resume_meets c.rooms c.functions c.number c.code found c.own c.waiting insn q q1 t2.world n1 us at.has.0
        (next v us h t2 n1 (at_plain c.code.blocks c.last c.end insn at) held rel aft2 (fits_after aft2 mem bytes fit))))))
        (λ none. no_turn c.rooms c.functions c.number c.code found c.own c.waiting insn q q1 t.world m1 at.has.0 refl none refl)))

    -- a scalar result comes into the register of its type
    calls : IsScalarType ty → ArgumentsMeet c tys xs → ExprMeets c (Call ty (Function k) xs)
    unfolding opens
    calls scalar all = record {
      by = λ d rest heads p f scope r s m K at fit low next.
          let registers = call_registers L c.structs c.locals d xs in
          let reg = value_register L d ty in
          let at2 = subst (λ z. Stands c heads p (exprs_code L c.structs c.locals d xs (Plain (n.Call z (vk.Function k) registers) ∷ rest))) (destination_is c d ty scalar) at in
          bound_run c found (and_then (evals c.structs c.locals c.calls scope xs s) (c.calls k)) (call_result ty) K p r s.world m
          (bound_run c found (evals c.structs c.locals c.calls scope xs s) (c.calls k) (λ v u. finish (call_result ty v u) K) p r s.world m
          (arguments tys xs all d (Plain (n.Call (Some reg) (vk.Function k) registers) ∷ rest) heads p f scope r s m (λ vs t. finish (c.calls k vs t) (λ v u. finish (call_result ty v u) K)) at2 fit low
          (λ q vs g t q1 m1 at1 aft fit1 kept rels.
          call_leads (Some reg) d rest heads scope K q vs g t q1 m1 at1 fit1 rels (omega (arith, aft.turned, low))
          (λ v us h t2 n1 at3 held rel aft2 fit2.
          let value = first_or_unset us in
          meets_same c.rooms c.functions (result_is ty v t2 K scalar held)
          (next (next_place q) v h t2 (set_register reg value q1) n1 at3 (after_on {n1 = m1} aft aft2) (fits_temporary d (register_type ty) value fit2)
          (kept_temporary d (register_type ty) value (omega arith) kept) held (is_at h ty v value q1 reg (is_in h ty v value rel)))))));
    }

  -- where there is no result, none is put
  voids : (k : ℕ) (tys : List PlainType) (xs : Exprs) → FunctionMeets c k tys Void → ArgumentsMeet c tys xs → ExprMeets c (Call Void (Function k) xs)
  unfolding opens
  voids k tys xs callee all = record {
    by = λ d rest heads p f scope r s m K at fit low next.
        let registers = call_registers L c.structs c.locals d xs in
        bound_run c found (and_then (evals c.structs c.locals c.calls scope xs s) (c.calls k)) (call_result Void) K p r s.world m
        (bound_run c found (evals c.structs c.locals c.calls scope xs s) (c.calls k) (λ v u. finish (call_result Void v u) K) p r s.world m
        (arguments tys xs all d (Plain (n.Call None (vk.Function k) registers) ∷ rest) heads p f scope r s m (λ vs t. finish (c.calls k vs t) (λ v u. finish (call_result Void v u) K)) at fit low
        (λ q vs g t q1 m1 at1 aft fit1 kept rels.
        call_leads Void k tys xs callee None d rest heads scope K q vs g t q1 m1 at1 fit1 rels (omega (arith, aft.turned, low))
        (λ v us h t2 n1 at3 held rel aft2 fit2.
        meets_same c.rooms c.functions (nothing_is v t2 K)
        (next (next_place q) v h t2 q1 n1 at3 (after_on {n1 = m1} aft aft2) fit2 kept held tt)))));
  }
    where
      nothing_is : (v : Value) (s : CallState) (K : Value → CallState → CodeObservation) → finish (call_result Void v s) K ≡ K v s
      nothing_is (Word j) s K = refl
      nothing_is (Address a) s K = refl
      nothing_is Unset s K = refl

pub calls_meet : CallsMeet
calls_meet c found ty k tys xs scalar callee all = calls c found ty k tys xs callee scalar all

pub calls_without_results_meet : CallsWithoutResultsMeet
calls_without_results_meet c found k tys xs callee all = voids c found k tys xs callee all
