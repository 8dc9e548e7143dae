use Rattle.std.specs.Prelude.{◌≡◌, drop, None}
use Rattle.binpack_blocks.specs.model.Bests.{best_from}
use Rattle.binpack_blocks.specs.model.Choices.{is_free}
use Rattle.binpack_blocks.specs.model.Rows.{is_wanted}
use Rattle.binpack_blocks.specs.model.Spans.{span_end}
use Rattle.binpack_blocks.proofs.bins.Scan.best_of_these.Given as goal

abbrev pub invariant-loop-r : goal.invariant-loop-r
invariant-loop-r l =
    best_from l.end (span_end l.self.fixed l.lives l.point l.self.bins.items) (is_free l.insn l.standing (is_wanted l.lives l.point) l.self.bins.items) l.best (drop l.r-index l.registers)
    ≡ best_from l.end (span_end l.self.fixed l.lives l.point l.self.bins.items) (is_free l.insn l.standing (is_wanted l.lives l.point) l.self.bins.items) None l.registers
