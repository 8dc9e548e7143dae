use Rattle.std.proofs.Common.{◌≡◌, drop}
use Rattle.c_typing_struct_bodies.specs.model.Parts.{members}
use Rattle.c_typing_struct_bodies.proofs.walk.+body.Given as goal

abbrev pub invariant-members-loop-d : goal.invariant-members-loop-d
invariant-members-loop-d l = members l.list (l.fn.found, (l.fn.defined, (l.fn.env, l.fn.notes))) ≡ members (drop l.d-index l.list) (l.found, (l.defined, (l.env, l.notes)))
