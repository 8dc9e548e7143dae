use Rattle.std.proofs.Common.{◌-◌, ◌∙◌, ap, arith}
use Rattle.frame_emitter.specs.Items.{point_items}
use Rattle.frame_emitter.specs.Layouts.{plan_in, setting_in}
use Rattle.frame_layout.proofs.Texts.{insns_turn}
use Rattle.frame_layout.proofs.blocks.insns_items.Goals as goal

pub loop-at-preserved : goal.loop-at-preserved
loop-at-preserved c =
    let p = plan_in c.args.layout.now in
    let g = setting_in c.args.layout.now in
    let at = c.loop-at.at - 1 in
    c.in_ok-point_items.ensures ∙ ap (point_items p g c.args.block at c.insn_at-insn.result) c.loop-at.invariant
    ∙ insns_turn p g c.args.block at c.loop-at.at c.args.insns.now c.insn_at-insn.result c.args.items.now (omega (arith, c.loop-at-test.true)) c.insn_at-insn.ensures
