-- What is said of the code of calls.
use Rattle.std.specs.Prelude.{◌≡◌, ◌<◌, ◌≤◌, ℕ, true, List, [], ◌∷◌, length, slice_get, All, Some}
use Rattle.mem_model.specs.declared.value.Value.{Value}
use Rattle.mem_model.specs.declared.value.Value.TheVariants.{Unset}
use Rattle.mem_model.specs.Memory.{Memory, begin_objects}
use Rattle.mem_model.specs.World.{with_memory, with_meter, leave_call}
use Rattle.mem_model.specs.Related.{Names, IsValueOf, IsMemoryOf}
use Rattle.mem_objects.specs.declared.TheConstants.{MOST_DATA}
use Rattle.machine_model.specs.Machine.{Frame}
use Rattle.suifvm_meaning.specs.Operations.{is_set}
use Rattle.suifvm_meaning.specs.Behave.{FunctionCode, Registers, registers_of, first_or_unset}
use Rattle.c_typed_tree.specs.declared.expressions.Callee.TheVariants.{Function}
use Rattle.c_typed_tree.specs.Types.{PlainType, Void}
use Rattle.c_typed_tree.specs.Expressions.{Call, Exprs, no_exprs, more_exprs, type_of}
use Rattle.c_semantics.specs.Runs.{CallState, Run, turn, ◌>>◌}
use Rattle.c_semantics.specs.Executes.{within_call}
use Rattle.lowering_states.specs.Places.{start_of_block}
use Rattle.lowering_states.specs.Runs.{CodeObservation, finish, Meets, Resumes, config}
use Rattle.lowering_states.specs.States.{IsHeld, After, is_live, size_in}
use Rattle.lowering_expression_laws.specs.Parts.{Setting, ExprMeets}
use Rattle.lowering_expression_laws.specs.Laws.{IsScalarType}

-- arguments for parameters of these types on both sides, each of them set and of its type
abbrev pub AreArguments : Names → List PlainType → List Value → List Value → Type 0
AreArguments f [] [] [] = Unit {0}
AreArguments f (ty ∷ tys) (v ∷ vs) (w ∷ ws) =
    (is_set w ≡ true) × IsHeld ty v × IsValueOf f v w × AreArguments f tys vs ws
AreArguments f _ _ _ = ⊥

-- expressions of these types, each of them scalar, whose code does what they do
abbrev pub ArgumentsMeet : Setting → List PlainType → Exprs → Type 0
ArgumentsMeet c [] no_exprs = Unit {0}
ArgumentsMeet c (ty ∷ tys) (more_exprs x xs) =
    (type_of x ≡ ty) × IsScalarType ty × ExprMeets c x × ArgumentsMeet c tys xs
ArgumentsMeet c _ _ = ⊥

-- the code of a function whose parameters and result have these types does what its body does, one level down: from its
-- entry, where its objects have begun, the run ends as the value of the body, handed on, does, where a return with that
-- value does
pub record FunctionMeets (c : Setting) (k : ℕ) (tys : List PlainType) (ty : PlainType) : Type 0 where
  pub code : FunctionCode
  pub found : slice_get c.functions k ≡ Some code
  pub body : List Value → Run Value
  pub is : (vs : List Value) → c.calls k vs ≡ (turn >> within_call c.rooms k (body vs))
  pub by : (vs ws : List Value) (f : Names) (s : CallState) (n : Memory) (waiting : List (Frame Registers))
      (K : Value → CallState → CodeObservation) → AreArguments f tys vs ws → ((j : ℕ) → j < c.statics → f j ≡ Some j)
      → IsMemoryOf f s.world.outer.memory n
      → ((o : ℕ) → is_live s.world.outer.memory o ≡ true → size_in s.world.outer.memory o ≤ MOST_DATA)
      → All (λ b. b < 256) s.world.outer.input → s.world.meter.turns < c.level →
      ((v : Value) (us : List Value) (g : Names) (t : CallState) (n1 : Memory) → IsHeld ty v
      → IsValueOf g v (first_or_unset us)
      → After f s.world.outer.memory n s.world.meter.turns g t.world.outer.memory n1 t.world.meter.turns
      → IsMemoryOf g t.world.outer.memory n1 → All (λ b. b < 256) t.world.outer.input →
      Resumes c.rooms c.functions (K v t) us
      (with_memory (with_meter t.world (leave_call c.rooms k t.world.meter)) n1) waiting) →
      Meets c.rooms c.functions (finish (body vs (record { registers = λ j. Unset; world = s.world })) K)
      (config k (length n) waiting (start_of_block 0) (registers_of ws) s.world (begin_objects n code.sizes))

abbrev pub CallsMeet : Type 0
CallsMeet =
    (c : Setting) → slice_get c.functions c.number ≡ Some c.code → (ty : PlainType) (k : ℕ) (tys : List PlainType)
    (xs : Exprs) → IsScalarType ty → FunctionMeets c k tys ty → ArgumentsMeet c tys xs
    → ExprMeets c (Call ty (Function k) xs)

abbrev pub CallsWithoutResultsMeet : Type 0
CallsWithoutResultsMeet =
    (c : Setting) → slice_get c.functions c.number ≡ Some c.code → (k : ℕ) (tys : List PlainType) (xs : Exprs) →
    FunctionMeets c k tys Void → ArgumentsMeet c tys xs → ExprMeets c (Call Void (Function k) xs)
