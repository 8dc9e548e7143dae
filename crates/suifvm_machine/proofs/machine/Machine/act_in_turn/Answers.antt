-- A turn is taken.
use Rattle.std.proofs.Common.{◌<◌, refl, rules}
use Rattle.suifvm_machine.proofs.Effects.{step_taken}
use Rattle.suifvm_machine.proofs.machine.Machine.act_in_turn.Goals as goal

pub returns : goal.returns
returns c is takes =
    let some : 0 < c.args.self.now.turns = search rules in
    step_taken c.args.self.now c.requires.sound _ c.act.new.self c.act.result c.args.insn.now is takes some refl c.act.ensures
