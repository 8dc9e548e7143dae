-- How much a typed unit may have, so that numbers of 32 bits name its parts and a pass can count it.
use Rattle.std.specs.Prelude.{◌^◌, ◌<◌, ◌≤◌, nat_lt, Bool, IsTrue, length}
use Rattle.std.specs.List.{list_all}
use Rattle.c_typed_tree.specs.declared.units.TypedFn.{TypedFn}
use Rattle.c_typed_tree.specs.declared.units.TypedUnit.{TypedUnit}
use Rattle.c_typed_tree.specs.Lawful.{unit_nodes}

abbrev pub has_few_locals : TypedFn → Bool
has_few_locals f = nat_lt (length f.locals) (2 ^ 32)

pub record CanBeCounted (u : TypedUnit) : Type 0 where
  pub structs : length u.structs < 2 ^ 32
  pub functions : length u.functions < 2 ^ 32
  pub globals : length u.globals < 2 ^ 32
  pub locals : IsTrue (list_all has_few_locals u.functions)
  pub nodes : unit_nodes u ≤ 2 ^ 40
