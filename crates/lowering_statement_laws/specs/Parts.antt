-- That the code of a statement does what the statement does.
--
-- A statement goes on behind its code, or leaves it by a jump to the block with the one name for a `break` or the other
-- one for a `continue`, or by a return to the calls that wait.
use Rattle.std.specs.Prelude.{◌≡◌, ◌<◌, ◌≤◌, ◌+◌, ◌-◌, ℕ, List, [], ◌∷◌, length, Option, Some, None}
use Rattle.mem_model.specs.declared.value.Value.{Value}
use Rattle.mem_model.specs.Memory.{Memory, end_objects}
use Rattle.mem_model.specs.World.{World, with_memory, with_meter, leave_call}
use Rattle.mem_model.specs.Related.{Names, IsValueOf}
use Rattle.suifvm_meaning.specs.Behave.{Registers}
use Rattle.c_typed_tree.specs.Types.{PlainType, Void}
use Rattle.c_typed_tree.specs.Statements.{Stmt, Declare, Stmts, no_stmts, more_stmts}
use Rattle.c_typed_tree.specs.Declarations.{declarations}
use Rattle.c_semantics.specs.Runs.{CallState, Run}
use Rattle.c_semantics.specs.Objects.{Scope}
use Rattle.c_semantics.specs.Executes.{StatementFlow, Goes, Breaks, Continues, Returns, exec, execs}
use Rattle.lowering_code.specs.declared.item.CodeItem.{CodeItem}
use Rattle.lowering_code.specs.Statements.{stmt_code, stmts_code}
use Rattle.lowering_states.specs.Places.{CodePlace, start_of_block}
use Rattle.lowering_states.specs.Runs.{CodeObservation, finish, Resumes}
use Rattle.lowering_states.specs.States.{IsHeld}
use Rattle.lowering_expression_laws.specs.Parts.{Setting, first_depth, EndsSo, Stands, Fit, Aft}

-- ---- locals that are objects

-- how often a statement declares the local with a number within itself, and not in the block in which it stands
abbrev pub inner_declarations : (number : ℕ) → Stmt → ℕ
inner_declarations number (Declare d) = 0
inner_declarations number x = declarations number x

abbrev pub inner_of_all : (number : ℕ) → Stmts → ℕ
inner_of_all number no_stmts = 0
inner_of_all number (more_stmts x xs) = inner_declarations number x + inner_of_all number xs

-- a scope has no object of a local that is declared within a statement: it begins when the statement is done
abbrev pub IsApart : Scope → Stmt → Type 0
IsApart scope x = (number : ℕ) → 0 < inner_declarations number x → scope number ≡ None

abbrev pub AreApart : Scope → Stmts → Type 0
AreApart scope xs = (number : ℕ) → 0 < inner_of_all number xs → scope number ≡ None

-- ---- what a statement does

-- what a call of a function with such a result returns on both sides: a value of the type, or none where it is void
abbrev pub IsReturned : PlainType → Names → Option Value → List Value → Type 0
IsReturned ty f None ws = (ty ≡ Void) × (ws ≡ [])
IsReturned ty f (Some v) ws = (w : Value) × (ws ≡ w ∷ []) × IsHeld ty v × IsValueOf f v w

module _ (c : Setting) where
  -- the world that the call leaves
  abbrev pub world_left : World → Memory → World
  world_left w m =
      with_memory (with_meter w (leave_call c.rooms c.number w.meter)) (end_objects m c.own (length c.code.sizes))

  -- what follows a statement, by how it ends
  pub record Onward (scope : Scope) (f : Names) (s : CallState) (n : Memory)
      (K : StatementFlow → CallState → CodeObservation)
      (heads : List ℕ) (rest : List CodeItem) (break_to continue_to : ℕ) : Type 0 where
    pub goes : (q : CodePlace) (g : Names) (t : CallState) (r : Registers) (m : Memory) → Stands c heads q rest
        → Aft c f s n g t m → Fit c g scope r t m → EndsSo c (K Goes t) q r t.world m
    pub breaks : (g : Names) (t : CallState) (r : Registers) (m : Memory) → Aft c f s n g t m → Fit c g scope r t m
        → EndsSo c (K Breaks t) (start_of_block (c.last - break_to)) r t.world m
    pub continues : (g : Names) (t : CallState) (r : Registers) (m : Memory) → Aft c f s n g t m → Fit c g scope r t m
        → EndsSo c (K Continues t) (start_of_block (c.last - continue_to)) r t.world m
    pub returns : (v : Option Value) (ws : List Value) (g : Names) (t : CallState) (r : Registers) (m : Memory)
        → Aft c f s n g t m → Fit c g scope r t m → IsReturned c.result g v ws
        → Resumes c.rooms c.functions (K (Returns v) t) ws (world_left t.world m) c.waiting

  -- again is what a statement does one level down
  module _ (again : Scope → Stmt → Run StatementFlow) where
    pub record StmtMeets (x : Stmt) : Type 0 where
      pub by : (break_to continue_to : ℕ) (rest : List CodeItem) (heads : List ℕ) (p : CodePlace) (f : Names)
          (scope : Scope)
          (r : Registers) (s : CallState) (n : Memory) (K : StatementFlow → CallState → CodeObservation) →
          IsApart scope x →
          Stands c heads p (stmt_code (first_depth c) c.structs c.locals break_to continue_to x rest) →
          Fit c f scope r s n
          → s.world.meter.turns ≤ c.level → Onward scope f s n K heads rest break_to continue_to
          → EndsSo c (finish (exec c.structs c.locals c.calls again scope x s) K) p r s.world n

    pub record StmtsMeet (xs : Stmts) : Type 0 where
      pub by : (break_to continue_to : ℕ) (rest : List CodeItem) (heads : List ℕ) (p : CodePlace) (f : Names)
          (scope : Scope)
          (r : Registers) (s : CallState) (n : Memory) (K : StatementFlow → CallState → CodeObservation) →
          AreApart scope xs →
          Stands c heads p (stmts_code (first_depth c) c.structs c.locals break_to continue_to xs rest) →
          Fit c f scope r s n
          → s.world.meter.turns ≤ c.level → Onward scope f s n K heads rest break_to continue_to
          → EndsSo c (finish (execs c.structs c.locals c.calls again scope xs s) K) p r s.world n
