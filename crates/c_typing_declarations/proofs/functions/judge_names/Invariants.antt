use Rattle.std.proofs.Common.{◌≡◌, true, drop}
use Rattle.c_typing_declarations.specs.model.Parts.{names_judged}
use Rattle.c_typing_declarations.proofs.functions.judge_names.Given as goal

abbrev pub invariant-loop-parameter : goal.invariant-loop-parameter
invariant-loop-parameter l = names_judged l.parameters true l.fn.notes ≡ names_judged (drop l.parameter-index l.parameters) l.whole l.notes
