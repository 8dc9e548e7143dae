use Rattle.std.proofs.Common.{◌≡◌, vec_len}
use Rattle.c_parser_nesting.specs.model.Walking.{state_of, total_of}
use Rattle.c_parser_nesting.proofs.nesting.Walk.finish.Given as goal

abbrev pub invariant-loop-self : goal.invariant-loop-self
invariant-loop-self l = total_of (state_of l.self) ≡ total_of (state_of l.initial.self)

abbrev pub decreases-loop-self : goal.decreases-loop-self
decreases-loop-self l = vec_len l.self.outer
