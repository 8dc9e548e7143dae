-- That the code of an expression does what the expression does.
--
-- From where the code stands, in states that correspond, the run is seen to end as what the expression gives, handed to
-- what follows it, ends, where that is defined. What follows is met where the code behind stands, in states that
-- correspond, with the value in the register of its type at the depth, and the registers of lower depths as before.
use Rattle.std.specs.Prelude.{◌≤◌, ℕ, List, length}
use Rattle.mem_model.specs.declared.value.Value.{Value}
use Rattle.mem_model.specs.Memory.{Memory}
use Rattle.mem_model.specs.World.{World, Rooms}
use Rattle.mem_model.specs.Related.{Names}
use Rattle.machine_model.specs.Machine.{Frame}
use Rattle.suifvm_ir.specs.declared.insn.VmInsn.{VmInsn}
use Rattle.suifvm_meaning.specs.Behave.{FunctionCode, Registers}
use Rattle.c_typed_tree.specs.declared.types.StructDef.{StructDef}
use Rattle.c_typed_tree.specs.declared.units.Local.{Local}
use Rattle.c_typed_tree.specs.Types.{PlainType}
use Rattle.c_typed_tree.specs.Expressions.{Expr, type_of}
use Rattle.c_semantics.specs.Runs.{CallState}
use Rattle.c_semantics.specs.Objects.{Scope}
use Rattle.c_semantics.specs.Evaluates.{Functions, eval}
use Rattle.lowering_code.specs.declared.item.CodeItem.{CodeItem}
use Rattle.lowering_code.specs.Registers.{value_register}
use Rattle.lowering_code.specs.Expressions.{expr_code}
use Rattle.lowering_states.specs.Places.{CodePlace, At}
use Rattle.lowering_states.specs.Runs.{CodeObservation, finish, Meets, config}
use Rattle.lowering_states.specs.States.{IsHeld, IsInRegister, Fits, KeepsLower, After}

-- a call of a function of the code: its number, the number of its first object, its code, the number of its last block
-- and how that ends, and the calls that wait; and what the C meaning has beside it: how many objects of static storage,
-- the structs, the locals of the function, the type of its result, and what functions do one level down
pub record Setting : Type 0 where
  pub rooms : Rooms
  pub functions : List FunctionCode
  pub number : ℕ
  pub own : ℕ
  pub code : FunctionCode
  pub last : ℕ
  pub end : List VmInsn
  pub waiting : List (Frame Registers)
  pub statics : ℕ
  pub structs : List StructDef
  pub locals : List Local
  pub result : PlainType
  pub calls : Functions
  pub level : ℕ

module _ (c : Setting) where
  abbrev pub EndsSo : CodeObservation → CodePlace → Registers → World → Memory → Type 0
  EndsSo o p r w n = Meets c.rooms c.functions o (config c.number c.own c.waiting p r w n)

  abbrev pub Stands : (heads : List ℕ) → CodePlace → List CodeItem → Type 0
  Stands heads p is = At c.code.blocks c.last c.end heads p is

  abbrev pub Fit : Names → Scope → Registers → CallState → Memory → Type 0
  Fit f scope r s n =
      Fits c.statics c.structs c.locals c.own f scope r s.registers s.world.outer.memory n s.world.outer.input

  abbrev pub Aft : Names → CallState → Memory → Names → CallState → Memory → Type 0
  Aft f s n g t m =
      After f s.world.outer.memory n s.world.meter.turns g t.world.outer.memory m t.world.meter.turns

  -- where the registers of expressions begin
  abbrev pub first_depth : ℕ
  first_depth = length c.locals

  -- what follows a value of a type at a depth
  abbrev pub Follows : (depth : ℕ) → PlainType → (heads : List ℕ) → (rest : List CodeItem) → Names → Scope → Registers
      → CallState → Memory → (Value → CallState → CodeObservation) → Type 0
  Follows d ty heads rest f scope r s n K =
      (q : CodePlace) (v : Value) (g : Names) (t : CallState) (q1 : Registers) (m : Memory) → Stands heads q rest
      → Aft f s n g t m → Fit g scope q1 t m → KeepsLower first_depth d r q1 → IsHeld ty v
      → IsInRegister g ty v (q1 (value_register first_depth d ty)) → EndsSo (K v t) q q1 t.world m

  pub record ExprMeets (x : Expr) : Type 0 where
    pub by : (d : ℕ) (rest : List CodeItem) (heads : List ℕ) (p : CodePlace) (f : Names) (scope : Scope) (r : Registers)
        (s : CallState) (n : Memory) (K : Value → CallState → CodeObservation) →
        Stands heads p (expr_code first_depth c.structs c.locals d x rest) → Fit f scope r s n
        → s.world.meter.turns ≤ c.level → Follows d (type_of x) heads rest f scope r s n K
        → EndsSo (finish (eval c.structs c.locals c.calls scope x s) K) p r s.world n
