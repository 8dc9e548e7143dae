-- What was put, with what is left behind it, is the whole.
use Rattle.std.proofs.Common.{◌≡◌, ◌++◌, drop}
use Rattle.frame_memory.specs.global_data.GlobalBytes.{bytes_from_end}
use Rattle.image_assembly.specs.model.Bounds.{LieWithin}
use Rattle.image_assembly.proofs.globals.bytes_of.Given as goal

abbrev pub invariant-loop-object : goal.invariant-loop-object
invariant-loop-object l =
    (l.bytes.items ++ bytes_from_end l.end (drop l.object-index l.globals) ≡ bytes_from_end 0 l.globals)
    × LieWithin l.end (drop l.object-index l.globals)
