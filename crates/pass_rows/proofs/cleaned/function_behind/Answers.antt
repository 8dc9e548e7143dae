use Rattle.std.proofs.Common.{arith}
use Rattle.flow_clean.proofs.FewRegisters.{few_registers}
use Rattle.pass_rows.proofs.cleaned.function_behind.Goals as goal

pub dead_writes-requires-clause-few : goal.dead_writes-requires-clause-few
dead_writes-requires-clause-few c =
    few_registers c.in_ok-copied.copied (omega (arith, c.in_ok-copied.ensures.measures.size, c.requires.size))
