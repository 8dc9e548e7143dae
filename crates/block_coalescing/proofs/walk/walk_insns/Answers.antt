use Rattle.bk_bits.specs.Sets.{has}
use Rattle.block_coalescing.specs.model.Tables.{name_of}
use Rattle.block_coalescing.proofs.Taken.{leads_more, leads_end}
use Rattle.block_coalescing.proofs.walk.walk_insns.Goals as goal

pub loop-at-preserved : goal.loop-at-preserved
loop-at-preserved c =
    leads_more c.args.temps (has c.args.bottom.now) (name_of c.args.names.now c.args.top.now) (name_of c.loop-at.names c.args.top.now) (name_of c.put_step.new.names c.args.top.now) c.args.insns.now c.loop-at.made c.put_step.new.made c.loop-at.at _ c.in_ok-put_step.field-0 c.loop-at-test.true c.if-not-branch.false c.in_ok-put_step.ensures c.loop-at.invariant

pub returns : goal.returns
returns c =
    leads_end c.args.temps (has c.args.bottom.now) (name_of c.args.names.now c.args.top.now) (name_of c.loop-at.names c.args.top.now) c.args.insns.now c.loop-at.made c.loop-at.at c.loop-at-test.false c.if-not-is_home.ensures c.loop-at.invariant
