-- What was put, with what is left behind it, is the whole.
use Rattle.std.proofs.Common.{◌≡◌, ◌+◌, ◌++◌, drop}
use Rattle.frame_memory.specs.global_data.GlobalBytes.{cells_fixes}
use Rattle.image_assembly.proofs.globals.push_cell_fixes.Given as goal

abbrev pub invariant-loop-at : goal.invariant-loop-at
invariant-loop-at l =
    l.fixes.items ++ cells_fixes l.globals (l.start + l.at) (drop l.at l.cells)
    ≡ l.initial.fixes.items ++ cells_fixes l.globals l.start l.cells
