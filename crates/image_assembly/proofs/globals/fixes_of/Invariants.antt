-- What was put, with what is left behind it, is the whole.
use Rattle.std.proofs.Common.{◌≡◌, ◌++◌, drop}
use Rattle.frame_memory.specs.global_data.GlobalBytes.{objects_fixes}
use Rattle.image_assembly.proofs.globals.fixes_of.Given as goal

abbrev pub invariant-loop-object : goal.invariant-loop-object
invariant-loop-object l =
    l.fixes.items ++ objects_fixes l.globals (drop l.object-index l.globals) ≡ objects_fixes l.globals l.globals
