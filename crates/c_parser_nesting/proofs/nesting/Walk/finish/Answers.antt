use Rattle.std.proofs.Common.{arith}
use Rattle.c_parser_nesting.specs.model.Walking.{state_of}
use Rattle.c_parser_nesting.proofs.Totals.{segment_within}
use Rattle.c_parser_nesting.proofs.nesting.Walk.finish.Goals as goal

pub close-requires : goal.close-requires
close-requires c = let s = state_of c.loop-self.self in omega (arith, segment_within s.outer s.group)
