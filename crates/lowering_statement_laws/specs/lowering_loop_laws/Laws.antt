-- What is said of the code of loops.
--
-- The next round of a loop is what the loop does one level down; a round takes a turn, so there are levels enough where
-- there are turns.
use Rattle.std.specs.Prelude.{◌≡◌, ℕ, suc, slice_get, Some}
use Rattle.c_typed_tree.specs.Expressions.{Expr, type_of}
use Rattle.c_typed_tree.specs.Statements.{Stmt, While, Do}
use Rattle.c_semantics.specs.Runs.{Run}
use Rattle.c_semantics.specs.Objects.{Scope}
use Rattle.c_semantics.specs.Evaluates.{Functions}
use Rattle.c_semantics.specs.Executes.{StatementFlow, exec}
use Rattle.lowering_expression_laws.specs.Parts.{Setting, ExprMeets}
use Rattle.lowering_expression_laws.specs.Laws.{IsScalarType}
use Rattle.lowering_statement_laws.specs.Parts.{StmtMeets}

-- what functions and statements do below each level
pub record LevelMeanings : Type 0 where
  pub functions : ℕ → Functions
  pub statements : ℕ → Scope → Stmt → Run StatementFlow

abbrev pub at_level : Setting → LevelMeanings → ℕ → Setting
at_level c levels k = record c { calls = levels.functions k; level = k }

-- a statement does one level up what it does with what is below
abbrev pub AreLevels : Setting → LevelMeanings → Type 0
AreLevels c levels =
    (k : ℕ) (scope : Scope) (x : Stmt) → levels.statements (suc k) scope x
    ≡ exec c.structs c.locals (levels.functions k) (levels.statements k) scope x

abbrev pub LoopsMeet : Type 0
LoopsMeet =
    (c : Setting) (levels : LevelMeanings) → slice_get c.functions c.number ≡ Some c.code → AreLevels c levels →
    (x : Expr) (body : Stmt) → IsScalarType (type_of x) → ((k : ℕ) → ExprMeets (at_level c levels k) x) →
    ((k : ℕ) → StmtMeets (at_level c levels k) (levels.statements k) body) → (k : ℕ) →
    StmtMeets (at_level c levels k) (levels.statements k) (While x body)

abbrev pub DoLoopsMeet : Type 0
DoLoopsMeet =
    (c : Setting) (levels : LevelMeanings) → slice_get c.functions c.number ≡ Some c.code → AreLevels c levels →
    (x : Expr) (body : Stmt) → IsScalarType (type_of x) → ((k : ℕ) → ExprMeets (at_level c levels k) x) →
    ((k : ℕ) → StmtMeets (at_level c levels k) (levels.statements k) body) → (k : ℕ) →
    StmtMeets (at_level c levels k) (levels.statements k) (Do body x)
