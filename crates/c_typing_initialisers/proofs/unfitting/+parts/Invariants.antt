use Rattle.std.proofs.Common.{◌≡◌, true, drop}
use Rattle.c_typing_initialisers.specs.model.Parts.{judge_inits}
use Rattle.c_typing_initialisers.proofs.unfitting.+parts.Given as goal

abbrev pub invariant-judge_inits-loop-init : goal.invariant-judge_inits-loop-init
invariant-judge_inits-loop-init l = judge_inits l.list true (l.fn.env, l.fn.notes) ≡ judge_inits (drop l.init-index l.list) l.whole (l.env, l.notes)
