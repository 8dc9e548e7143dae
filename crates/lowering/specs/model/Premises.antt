-- What the lowering of a function asks of it.
use Rattle.std.specs.Prelude.{◌≤◌, ◌<◌, ◌+◌, ◌*◌, ◌-◌, ◌^◌, max, List, All, length}
use Rattle.c_typed_tree.specs.declared.types.StructDef.{StructDef}
use Rattle.c_typed_tree.specs.declared.units.TypedFn.{TypedFn}
use Rattle.c_typed_tree.specs.View.{stmt_view}
use Rattle.lowering_statements.specs.Levels.{stmt_levels}
use Rattle.lowering_functions.specs.Parts.{stmt_parts}
use Rattle.lowering_functions.specs.Scopes.{LocalHasSize}

-- the numbers of the code of a function fit
pub record CanBeLowered (ds : List StructDef) (f : TypedFn) : Type 0 where
  pub few : f.params ≤ length f.locals
  pub sizes : All (LocalHasSize ds) f.locals
  pub registers : length f.locals + 5 * max 5 (stmt_levels (stmt_view f.body)) < 2 ^ 32 - 1
  pub size : 2 * (2 * f.params + 16 * stmt_parts (stmt_view f.body)) + 3 < 2 ^ 30
