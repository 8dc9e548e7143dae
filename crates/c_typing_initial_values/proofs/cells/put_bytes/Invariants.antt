use Rattle.std.proofs.Common.{◌≡◌, ◌++◌, map, take}
use Rattle.mem_objects.specs.declared.DataCell.TheVariants.{Byte}
use Rattle.c_typing_initial_values.proofs.cells.put_bytes.Given as goal

abbrev pub invariant-loop-byte : goal.invariant-loop-byte
invariant-loop-byte l = l.cells.items ≡ l.fn.cells.items ++ map Byte (take l.byte-index l.text)
