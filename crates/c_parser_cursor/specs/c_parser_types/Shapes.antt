-- Types that a specifier spells.
use Rattle.std.specs.Prelude.{Bool, true, false}
use Rattle.c_tree.specs.declared.types.TypeNode.{TypeNode}
use Rattle.c_tree.specs.declared.types.TypeNode as y

-- a type that a specifier spells, with no declarator
abbrev pub is_base : TypeNode → Bool
is_base (y.Basic b) = true
is_base (y.Named name) = true
is_base (y.Enum' at tag constants) = true
is_base (y.Struct' at tag members) = true
is_base _ = false
