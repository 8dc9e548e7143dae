-- What was put, with what is left behind it, is the whole.
use Rattle.std.proofs.Common.{◌≡◌, ◌++◌, drop}
use Rattle.image_assembly.specs.Assemblies.{final_items}
use Rattle.image_assembly.proofs.assemblies.push_functions.Given as goal

abbrev pub invariant-loop-f : goal.invariant-loop-f
invariant-loop-f l =
    l.items.items ++ final_items (drop l.f-index l.finals) ≡ l.initial.items.items ++ final_items l.finals
