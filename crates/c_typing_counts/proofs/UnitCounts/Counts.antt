-- What the tests of a unit say together.
use Rattle.std.proofs.Common.{◌<◌, ◌≤◌, ◌^◌, IsTrue, length}
use Rattle.std.specs.List.{list_all}
use Rattle.c_typed_tree.specs.declared.units.TypedUnit.{TypedUnit}
use Rattle.c_typed_tree.specs.Lawful.{unit_nodes}
use Rattle.c_typing_counts.specs.unit_counts.Counts.{has_few_locals, CanBeCounted}

pub counted_parts : (u : TypedUnit) → length u.structs < 2 ^ 32 → length u.functions < 2 ^ 32 → length u.globals < 2 ^ 32 → IsTrue (list_all has_few_locals u.functions) → unit_nodes u ≤ 2 ^ 40 → CanBeCounted u
counted_parts u structs functions globals locals nodes = record { structs = structs; functions = functions; globals = globals; locals = locals; nodes = nodes }
