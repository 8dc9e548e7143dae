-- A call of a function: its entry, its body and its return.
use Rattle.std.proofs.Common.{◌≡◌, ℕ, zero, suc, ◌+◌, ◌<◌, ◌≤◌, List, [], ◌∷◌, take, Bool, true, false, Option, Some, None, length, All, refl, sym, ap, ◌∙◌, subst, arith, inl, inr}
use Rattle.std.specs.Prelude.{if◌then◌else◌, slice_get}
use Rattle.std.proofs.lemmas.Bool.{cases_lt}
use Rattle.mem_model.specs.declared.value.Value.{Value}
use Rattle.mem_model.specs.declared.value.Value.TheVariants.{Word, Unset}
use Rattle.mem_model.specs.Memory.{Memory, begin_objects, end_objects}
use Rattle.mem_model.specs.World.{with_memory, with_meter, leave_call, outer_with_memory}
use Rattle.mem_model.specs.Related.{Names, IsValueOf, IsMemoryOf}
use Rattle.mem_objects.specs.declared.TheConstants.{MOST_DATA}
use Rattle.machine_model.specs.Machine.{Frame}
use Rattle.machine_model.specs.Code as machine
use Rattle.c_typed_tree.specs.declared.units.TypedFn.{TypedFn}
use Rattle.c_typed_tree.specs.Types.{PlainType, Void, Int}
use Rattle.c_typed_tree.specs.View.{type_view, stmt_view}
use Rattle.c_typed_tree.specs.Lawful.{is_main, types_of_parameters}
use Rattle.c_typed_tree.specs.Statements.{Stmt}
use Rattle.c_semantics.specs.Runs.{CallState, Run, ◌>>=◌}
use Rattle.c_semantics.specs.Objects.{Scope, no_scope}
use Rattle.c_semantics.specs.Evaluates.{Functions}
use Rattle.c_semantics.specs.Executes.{StatementFlow, Returns, Level, exec, body_of, no_value, value_of_call}
use Rattle.suifvm_ir.specs.declared.types.VmType.TheVariants.{S32}
use Rattle.suifvm_ir.specs.declared.insn.TypedRegister.{TypedRegister}
use Rattle.suifvm_ir.specs.declared.insn.VmInsn.TheVariants as n
use Rattle.suifvm_meaning.specs.Operations as vm
use Rattle.suifvm_meaning.specs.Behave.{Registers, registers_of, set_register, first_or_unset}
use Rattle.lowering_code.specs.declared.item.CodeItem.{CodeItem}
use Rattle.lowering_code.specs.Registers.{temporary}
use Rattle.lowering_code.specs.Statements.{stmt_code}
use Rattle.lowering_code.specs.Functions.{end_code, items_of}
use Rattle.lowering_states.specs.Places.{CodePlace, next_place, start_of_block, HasInsns}
use Rattle.lowering_states.specs.Runs.{CodeObservation, finish, Meets, Resumes, config}
use Rattle.lowering_states.specs.model.Opens.{opens}
use Rattle.lowering_states.specs.States.{IsHeld, After, is_live, size_in}
use Rattle.lowering_states.proofs.Blocks.{blocks_have_items}
use Rattle.lowering_states.proofs.Steps.{meets_same, meets_anything, returning_step}
use Rattle.lowering_states.proofs.States.{set_same, unset_held}
use Rattle.lowering_expression_laws.specs.Parts.{Setting, EndsSo, Stands, Fit, Aft}
use Rattle.lowering_expression_laws.proofs.Forms.{insn_on, bound_run}
use Rattle.lowering_statement_laws.specs.Parts.{IsApart, IsReturned, world_left, Onward, StmtMeets}
use Rattle.lowering_expression_laws.specs.lowering_call_laws.Laws.{AreArguments}
use Rattle.lowering_theorem.specs.lowering_function_laws.Laws.{code_for, callee_setting, IsCalled, FunctionsMeet, FunctionsWithoutTurnsMeet}
use Rattle.lowering_theorem.proofs.LoweringFunctionLaws.Objects.{sizes_of, entered_function, left_memory, left_after}
use Rattle.lowering_theorem.proofs.LoweringFunctionLaws.Parameters.{EnteredBody, PassedArguments, parameters}

take_short : {A : Type 0} (n : ℕ) (xs : List A) → length (take n xs) ≤ n
take_short zero xs = omega arith
take_short (suc n) [] = omega arith
take_short (suc n) (x ∷ xs) = let h = take_short n xs in omega (arith, h)

taken : {A : Type 0} (n : ℕ) (xs : List A) (i : ℕ) (x : A) → slice_get (take n xs) i ≡ Some x → slice_get xs i ≡ Some x
taken zero xs i x e = absurd (cc)
taken (suc n) [] i x e = absurd (cc)
taken (suc n) (y ∷ xs) zero x e = e
taken (suc n) (y ∷ xs) (suc i) x e = taken n xs i x e

module _ (c : Setting) (k : ℕ) (fn : TypedFn) (prev : Level) (called : IsCalled c k fn prev) (below : Functions) (again : Scope → Stmt → Run StatementFlow) (level : ℕ)
    (body_is : (scope : Scope) → prev k scope (stmt_view fn.body) ≡ exec c.structs fn.locals below again scope (stmt_view fn.body))
    (meets : (own : ℕ) (waiting : List (Frame Registers)) → StmtMeets (callee_setting c k fn own waiting below level) again (stmt_view fn.body)) where
  abbrev ty : PlainType
  ty = type_view fn.result

  abbrev L : ℕ
  L = length fn.locals

  abbrev sizes : List ℕ
  sizes = sizes_of c.structs fn.locals

  abbrev body_code : List CodeItem
  body_code = stmt_code L c.structs fn.locals 0 0 (stmt_view fn.body) []

  module _ (vs ws : List Value) (f : Names) (s : CallState) (n0 : Memory) (waiting : List (Frame Registers)) (K : Value → CallState → CodeObservation) (args : AreArguments f (types_of_parameters fn) vs ws) (statics : (j : ℕ) → j < c.statics → f j ≡ Some j) (mem : IsMemoryOf f s.world.outer.memory n0)
      (small : (o : ℕ) → is_live s.world.outer.memory o ≡ true → size_in s.world.outer.memory o ≤ MOST_DATA) (bytes : All (λ b. b < 256) s.world.outer.input) (low : s.world.meter.turns ≤ level)
      (next : (v : Value) (us : List Value) (g : Names) (t : CallState) (n1 : Memory) → IsHeld ty v → IsValueOf g v (first_or_unset us) → After f s.world.outer.memory n0 s.world.meter.turns g t.world.outer.memory n1 t.world.meter.turns → IsMemoryOf g t.world.outer.memory n1 → All (λ b. b < 256) t.world.outer.input
      → Resumes c.rooms c.functions (K v t) us (with_memory (with_meter t.world (leave_call c.rooms k t.world.meter)) n1) waiting) where
    abbrev S : Setting
    S = callee_setting c k fn (length n0) waiting below level

    found : slice_get S.functions S.number ≡ Some S.code
    found = called.found

    abbrev s0 : CallState
    s0 = record { registers = λ j. Unset; world = s.world }

    abbrev m0 : Memory
    m0 = begin_objects n0 sizes

    abbrev K1 : StatementFlow → CallState → CodeObservation
    K1 z t = finish (value_of_call (is_main fn) z t) K

    fit0 : Fit S f no_scope (registers_of ws) s0 m0
    fit0 = entered_function c.statics c.structs fn.locals f (registers_of ws) s.world.outer.memory n0 s.world.outer.input statics mem small bytes

    passed : PassedArguments S found fn.params 0 (take fn.params fn.locals) vs ws f no_scope (registers_of ws)
    passed = record {
      bounded = let h = take_short fn.params fn.locals in omega (arith, h);
      there = λ i p e. let z : 0 + i ≡ i = omega arith in ap (slice_get fn.locals) z ∙ taken fn.params fn.locals i p e;
      scalars = called.may.scalars;
      free = λ j le. refl;
      given = args;
      registers = λ i p e. let z : 0 + i ≡ i = omega arith in ap (registers_of ws) z;
    }

    -- behind the parameters
    module _ (q0 : CodePlace) (inner : Scope) (g : Names) (r0 : Registers) (t : CallState) (n1 : Memory) (left : CallState → CallState) (at : Stands S [] q0 body_code) (fit : Fit S g inner r0 t n1) (e : EnteredBody S found fn.params no_scope f s0 m0 inner g t n1 left) where
      leaves : (v : Value) (us : List Value) (h : Names) (u : CallState) (r : Registers) (n2 : Memory) → Aft S g t n1 h u n2 → Fit S h inner r u n2 → IsHeld ty v → IsValueOf h v (first_or_unset us) → Resumes c.rooms c.functions (K v (left u)) us (world_left S u.world n2) waiting
      leaves v us h u r n2 aft fit1 held rel =
          let a : Aft S f s0 m0 h (left u) n2 = e.after h u n2 aft in
          let b : Fit S h no_scope r (left u) n2 = e.fits h u r n2 fit1 in
          subst (λ w. Resumes c.rooms c.functions (K v (left u)) us (world_left S w n2) waiting) (e.leaves u).1
          (next v us h (left u) (end_objects n2 (length n0) (length sizes)) held rel
          (left_after sizes f h s.world.outer.memory n0 (left u).world.outer.memory n2 s.world.meter.turns (left u).world.meter.turns a)
          (left_memory c.statics c.structs fn.locals (length n0) h r (left u).registers (left u).world.outer.memory n2 (left u).world.outer.input b) b.bytes)

      -- the end of the code, to which a body comes that does not return
      falls : (b : Bool) → is_main fn ≡ b → (q : CodePlace) (h : Names) (u : CallState) (r : Registers) (n2 : Memory) → HasInsns S.code.blocks S.last S.end q (end_code L b) → Aft S g t n1 h u n2 → Fit S h inner r u n2 → EndsSo S (K (no_value b) (left u)) q r u.world n2
      unfolding opens
      falls false main q h u r n2 has aft fit1 =
          returning_step S.rooms S.functions S.number S.code found S.own S.waiting (n.Return None) q r u.world n2 [] has.0 refl refl (leaves Unset [] h u r n2 aft fit1 (unset_held ty) tt)
      falls true main q h u r n2 has aft fit1 =
          let reg : ℕ = temporary L 0 S32 in
          let value : TypedRegister = record { ty = S32; register = reg } in
          let r1 : Registers = set_register reg (Word 0) r in
          let zero_is : r1 reg ≡ Word 0 = set_same r reg (Word 0) in
          insn_on S found (n.LoadConstant S32 reg 0) q r u.world n2 (Word 0 ∷ []) has.0 refl refl
          (returning_step S.rooms S.functions S.number S.code found S.own S.waiting (n.Return (Some value)) (next_place q) r1 u.world n2 (r1 reg ∷ []) has.1.0 refl
          (ap (λ z. if z then machine.Returns (r1 reg ∷ []) (outer_with_memory u.world.outer n2) else machine.Stops machine.HasNoMeaning (outer_with_memory u.world.outer n2)) (ap (vm.is_value_of S32) zero_is))
          (leaves (Word 0) (r1 reg ∷ []) h u r n2 aft fit1 (subst (λ z. IsHeld z (Word 0)) (sym (called.may.main main)) refl) zero_is))

      void_is_no_int : (x : PlainType) → x ≡ Void → x ≡ Int 4 true → ⊥
      void_is_no_int x a b = cc

      gives_nothing : (b : Bool) → is_main fn ≡ b → (us : List Value) (h : Names) (u : CallState) (r : Registers) (n2 : Memory) → Aft S g t n1 h u n2 → Fit S h inner r u n2 → ty ≡ Void → Resumes c.rooms c.functions (K (no_value b) (left u)) us (world_left S u.world n2) waiting
      gives_nothing false main us h u r n2 aft fit1 void = leaves Unset us h u r n2 aft fit1 (unset_held ty) tt
      gives_nothing true main us h u r n2 aft fit1 void = absurd (void_is_no_int ty void (called.may.main main))

      returned : (v : Option Value) (us : List Value) (h : Names) (u : CallState) (r : Registers) (n2 : Memory) → Aft S g t n1 h u n2 → Fit S h inner r u n2 → IsReturned ty h v us → Resumes c.rooms c.functions (K1 (Returns v) (left u)) us (world_left S u.world n2) waiting
      unfolding opens
      returned None us h u r n2 aft fit1 ret = gives_nothing (is_main fn) refl us h u r n2 aft fit1 ret.0
      returned (Some v) us h u r n2 aft fit1 ret = leaves v us h u r n2 aft fit1 ret.2 (subst (λ z. IsValueOf h v (first_or_unset z)) (sym ret.1) ret.3)

      onward : Onward S inner g t n1 (λ z u. K1 z (left u)) [] [] 0 0
      unfolding opens
      onward = record {
        goes = λ q h u r n2 at1 aft fit1. falls (is_main fn) refl q h u r n2 at1.has aft fit1;
        breaks = λ h u r n2 aft fit1. meets_anything S.rooms S.functions refl;
        continues = λ h u r n2 aft fit1. meets_anything S.rooms S.functions refl;
        returns = returned;
      }

      apart : IsApart inner (stmt_view fn.body)
      apart number lt = elim (cases_lt number fn.params) [
        | inl small ↦ let none = called.may.apart number small in absurd (omega (arith, none, lt))
        | inr le ↦ e.outside number le
      ]

      body_meets : EndsSo S (finish (prev k inner (stmt_view fn.body) t) (λ z u. K1 z (left u))) q0 r0 t.world n1
      body_meets =
          meets_same S.rooms S.functions (ap (λ z. finish (z t) (λ z u. K1 z (left u))) (body_is inner))
          ((meets (length n0) waiting).by 0 0 [] [] q0 g inner r0 t n1 (λ z u. K1 z (left u)) apart at fit (let h = e.low in omega (arith, h, low)) onward)

    call_meets : Meets c.rooms c.functions (finish ((body_of c.structs prev k fn vs >>= value_of_call (is_main fn)) s0) K) (config k (length n0) waiting (start_of_block 0) (registers_of ws) s.world (begin_objects n0 (code_for c.structs fn).sizes))
    unfolding opens
    call_meets =
        bound_run S found (body_of c.structs prev k fn vs s0) (value_of_call (is_main fn)) K (start_of_block 0) (registers_of ws) s.world m0
        (parameters S found fn.params (λ scope. prev k scope (stmt_view fn.body)) [] body_code called.may.small (take fn.params fn.locals) 0 vs ws f no_scope (registers_of ws) s0 m0 (start_of_block 0) K1 passed fit0
        (blocks_have_items (end_code L (is_main fn)) (items_of c.structs fn)) body_meets)

pub functions_meet : FunctionsMeet
functions_meet c k fn prev below again level called up body_is meets = record {
  meets = record {
    code = code_for c.structs fn;
    found = called.found;
    body = λ vs. body_of c.structs prev k fn vs >>= value_of_call (is_main fn);
    is = called.is;
    by = λ vs ws f s n waiting K args statics mem small bytes low next.
        call_meets c k fn prev called below again level body_is meets vs ws f s n waiting K args statics mem small bytes (omega (arith, up, low)) next;
  };
  body = λ vs. refl;
}

pub functions_without_turns_meet : FunctionsWithoutTurnsMeet
functions_without_turns_meet c k fn prev called none = record {
  meets = record {
    code = code_for c.structs fn;
    found = called.found;
    body = λ vs. body_of c.structs prev k fn vs >>= value_of_call (is_main fn);
    is = called.is;
    by = λ vs ws f s n waiting K args statics mem small bytes low next. absurd (omega (arith, none, low));
  };
  body = λ vs. refl;
}
