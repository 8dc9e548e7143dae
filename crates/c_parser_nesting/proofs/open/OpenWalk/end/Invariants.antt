use Rattle.std.proofs.Common.{◌≡◌, length}
use Rattle.c_parser_nesting.specs.OpenConstructs.{behind_end}
use Rattle.c_parser_nesting.specs.model.Opening.{open_of}
use Rattle.c_parser_nesting.proofs.open.OpenWalk.end.Given as goal

abbrev pub invariant-loop-construct : goal.invariant-loop-construct
invariant-loop-construct l = behind_end l.end (open_of l.self) ≡ behind_end l.end (open_of l.initial.self)

abbrev pub decreases-loop-construct : goal.decreases-loop-construct
decreases-loop-construct l = length (open_of l.self)
