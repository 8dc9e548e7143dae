-- The height of a typed unit, by that of its tree.
use Rattle.std.proofs.Common.{ℕ, ◌*◌, ◌≤◌, arith}
use Rattle.c_tree.specs.declared.declarations.TranslationUnit.{TranslationUnit}
use Rattle.c_tree.specs.Nodes.{unit_height}
use Rattle.c_typed_tree.specs.declared.units.TypedUnit.{TypedUnit}
use Rattle.c_typed_tree.specs.c_typed_height.Heights.{typed_unit_height}
use Rattle.c_parser.specs.Limits.{most_height}
use Rattle.compiler_front_end.specs.Heights.{most_typed_height, IsWithinHeight}

bounded : (h n : ℕ) → n ≤ most_height → h ≤ 3 * n → h ≤ most_typed_height
bounded h n low typed = omega (arith, low, typed)

pub has_height : (tree : TranslationUnit) (unit : TypedUnit) → unit_height tree ≤ most_height → typed_unit_height unit ≤ 3 * unit_height tree → IsWithinHeight tree unit
has_height tree unit low typed = record { low = low; typed = typed; bound = bounded (typed_unit_height unit) (unit_height tree) low typed }
