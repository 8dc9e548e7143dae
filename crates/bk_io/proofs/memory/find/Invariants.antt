-- no file so far has the name, so what is left is looked up alike
use Rattle.std.proofs.Common.{◌≡◌, drop, map, bytes_eq}
use Rattle.std.specs.Map.{lookup}
use Rattle.bk_io.specs.Memory.{name_and_bytes}
use Rattle.bk_io.proofs.memory.find.Given as goal

abbrev pub invariant-loop-file : goal.invariant-loop-file
invariant-loop-file l =
    lookup (bytes_eq l.name) (map name_and_bytes (drop l.file-index l.files)) ≡ lookup (bytes_eq l.name) (map name_and_bytes l.files)
