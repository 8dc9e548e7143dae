use Rattle.std.proofs.Common.{arith, reverse}
use Rattle.std.proofs.lemmas.List.{length-reverse}
use Rattle.lowering_emitter.proofs.Counts.{count_le}
use Rattle.lowering_emitter.proofs.code.EmittedCode.begin.Goals as goal

pub overflow_add-self : goal.overflow_add-self
overflow_add-self c = omega (arith, count_le (reverse c.self.inside.items.items), length-reverse c.self.inside.items.items, c.self.invariant, c.self.inside.items.small, c.self.inside.items.ok)
