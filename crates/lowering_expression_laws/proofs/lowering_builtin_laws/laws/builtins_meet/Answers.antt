use Rattle.lowering_expression_laws.proofs.LoweringBuiltinLaws.Builtins as it
use Rattle.lowering_expression_laws.proofs.lowering_builtin_laws.laws.builtins_meet.Goals as goal

pub returns : goal.returns
returns g c found = record { getchar = it.getchar c found; putchar = it.putchar c found; abort = it.abort c found; exits = it.exits c found }
