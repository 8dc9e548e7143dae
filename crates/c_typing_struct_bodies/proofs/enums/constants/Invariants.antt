use Rattle.std.proofs.Common.{◌≡◌, None, drop}
use Rattle.c_typing_struct_bodies.specs.model.Parts.{constants}
use Rattle.c_typing_struct_bodies.proofs.enums.constants.Given as goal

abbrev pub invariant-loop-c : goal.invariant-loop-c
invariant-loop-c l = constants l.list None (l.fn.env, l.fn.notes) ≡ constants (drop l.c-index l.list) l.before (l.env, l.notes)
