use Rattle.std.proofs.Common.{◌≡◌, ◌++◌, map, take}
use Rattle.frame_memory.specs.global_data.GlobalBytes.{unfixed_byte}
use Rattle.image_assembly.proofs.globals.push_cells.Given as goal

abbrev pub invariant-loop-cell : goal.invariant-loop-cell
invariant-loop-cell l = l.bytes.items ≡ l.initial.bytes.items ++ map unfixed_byte (take l.cell-index l.cells)
