use Rattle.std.proofs.Common.{inr}
use Rattle.compile_calls.proofs.Loops.{as_many}
use Rattle.compile_calls.proofs.print.print.Goals as goal

pub write_pass-requires : goal.write_pass-requires
write_pass-requires g c = as_many _ c.in-Ok.built.temps.functions c.in-Ok.built.allocations.items c.in-Ok.ensures.built.is_built.made.allocations

pub returns-in-Ok-clause-answer : goal.returns-in-Ok-clause-answer
returns-in-Ok-clause-answer g c = inr (c.in-Ok.built, c.in-Ok.ensures.built, c.write_pass.ensures.answer)
