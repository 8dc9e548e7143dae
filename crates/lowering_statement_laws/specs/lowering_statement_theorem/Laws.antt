-- What is said of the code of every statement of a well typed unit.
use Rattle.std.specs.Prelude.{◌≡◌, ℕ}
use Rattle.c_typed_tree.specs.declared.units.TypedFn.{TypedFn}
use Rattle.c_typed_tree.specs.declared.units.TypedUnit.{TypedUnit}
use Rattle.c_typed_tree.specs.View.{type_view, stmt_view}
use Rattle.c_typed_tree.specs.Lawful.{IsTypedUnit, IsTypedFn}
use Rattle.lowering_expression_laws.specs.Parts.{Setting}
use Rattle.lowering_statement_laws.specs.Parts.{StmtMeets}
use Rattle.lowering_statement_laws.specs.lowering_loop_laws.Laws.{LevelMeanings, at_level, AreLevels}
use Rattle.lowering_expression_laws.specs.lowering_expression_theorem.Laws.{IsSetting}

-- a setting is one of a call of this function of a unit at each level, and has the type of its result
pub record AreSettings (u : TypedUnit) (f : TypedFn) (c : Setting) (levels : LevelMeanings) : Type 0 where
  pub each : (k : ℕ) → IsSetting u f (at_level c levels k)
  pub result : c.result ≡ type_view f.result
  pub meanings : AreLevels c levels

-- the code of the body of each well typed function does what the body does
abbrev pub BodiesMeet : Type 0
BodiesMeet =
    (u : TypedUnit) (f : TypedFn) (c : Setting) (levels : LevelMeanings) → IsTypedUnit u → IsTypedFn u f
    → AreSettings u f c levels → (k : ℕ) →
    StmtMeets (at_level c levels k) (levels.statements k) (stmt_view f.body)
