-- How high the typed unit of a text is. Recursions over it go as deep as that and no deeper.
use Rattle.std.specs.Prelude.{ℕ, ◌*◌, ◌≤◌}
use Rattle.c_tree.specs.declared.declarations.TranslationUnit.{TranslationUnit}
use Rattle.c_tree.specs.Nodes.{unit_height}
use Rattle.c_typed_tree.specs.declared.units.TypedUnit.{TypedUnit}
use Rattle.c_typed_tree.specs.c_typed_height.Heights.{typed_unit_height}
use Rattle.c_parser.specs.Limits.{most_height}

-- the height that it may have: three times that of a tree
abbrev pub most_typed_height : ℕ
most_typed_height = 6144

pub record IsWithinHeight (tree : TranslationUnit) (unit : TypedUnit) : Type 0 where
  pub low : unit_height tree ≤ most_height
  pub typed : typed_unit_height unit ≤ 3 * unit_height tree
  pub bound : typed_unit_height unit ≤ most_typed_height
