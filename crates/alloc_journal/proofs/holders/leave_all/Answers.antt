use Rattle.std.proofs.Common.{ap, ◌∙◌, length}
use Rattle.alloc_rules.specs.Visits.{takes_away}
use Rattle.alloc_journal.proofs.Tables.{left_next}
use Rattle.alloc_journal.proofs.Loops.{cleared_length}
use Rattle.alloc_journal.proofs.holders.leave_all.Goals as goal

pub loop-r-preserved : goal.loop-r-preserved
loop-r-preserved c = record {
  many = ap length c.leave_any.ensures ∙ cleared_length (takes_away c.args.insn.now c.loop-r.r) c.loop-r.r c.loop-r.holders ∙ c.loop-r.invariant.many;
  left = left_next c.args.insn.now c.loop-r.r c.args.holders.now c.loop-r.holders c.leave_any.new.holders c.leave_any.ensures c.loop-r.invariant.left;
}
