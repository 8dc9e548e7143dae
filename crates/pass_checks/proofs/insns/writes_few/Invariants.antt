use Rattle.std.proofs.Common.{◌<◌, take, All}
use Rattle.pass_checks.proofs.insns.writes_few.Given as goal

abbrev pub invariant-loop-k : goal.invariant-loop-k
invariant-loop-k g l = All (λ register. register < l.registers) (take l.k (g.I.Insn.writes l.insn))
