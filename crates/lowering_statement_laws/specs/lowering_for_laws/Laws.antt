-- What is said of the code of `for` without declarations.
--
-- Its first part, its condition and its step may each be missing (C99 6.8.5.3). The next round is what the same `for`
-- without a first part does one level down.
use Rattle.std.specs.Prelude.{◌≡◌, ℕ, slice_get, Option, Some, None}
use Rattle.c_typed_tree.specs.Expressions.{Expr, type_of}
use Rattle.c_typed_tree.specs.Statements.{Stmt, For, Nothing, Value}
use Rattle.lowering_expression_laws.specs.Parts.{Setting, ExprMeets}
use Rattle.lowering_expression_laws.specs.Laws.{IsScalarType}
use Rattle.lowering_statement_laws.specs.Parts.{StmtMeets}
use Rattle.lowering_statement_laws.specs.lowering_loop_laws.Laws.{LevelMeanings, at_level, AreLevels}

-- the code of an expression does what it does, where there is one
abbrev pub StepMeets : Setting → Option Expr → Type 0
StepMeets c None = Unit {0}
StepMeets c (Some x) = ExprMeets c x

-- the same of a condition, which has a scalar type
abbrev pub ConditionMeets : Setting → Option Expr → Type 0
ConditionMeets c None = Unit {0}
ConditionMeets c (Some x) = IsScalarType (type_of x) × ExprMeets c x

module _ (c : Setting) (levels : LevelMeanings) where
  pub record ForLoops (condition step : Option Expr) (body : Stmt) : Type 0 where
    pub without_first : (k : ℕ)
        → StmtMeets (at_level c levels k) (levels.statements k) (For Nothing condition step body)
    pub with_value : (x : Expr) (k : ℕ) → ExprMeets (at_level c levels k) x
        → StmtMeets (at_level c levels k) (levels.statements k) (For (Value x) condition step body)

abbrev pub ForLoopsMeet : Type 0
ForLoopsMeet =
    (c : Setting) (levels : LevelMeanings) → slice_get c.functions c.number ≡ Some c.code → AreLevels c levels →
    (condition step : Option Expr) (body : Stmt) → ((k : ℕ) → ConditionMeets (at_level c levels k) condition) →
    ((k : ℕ) → StepMeets (at_level c levels k) step) →
    ((k : ℕ) → StmtMeets (at_level c levels k) (levels.statements k) body) → ForLoops c levels condition step body
