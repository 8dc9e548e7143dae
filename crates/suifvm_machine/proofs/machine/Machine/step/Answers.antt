-- A step is that of the instruction that stands there, or goes on with the next block.
use Rattle.std.proofs.Common.{◌≡◌, Some, None, true, false, refl, rules}
use Rattle.std.specs.Prelude.{slice_get}
use Rattle.suifvm_meaning.specs.Effect.{takes_turn}
use Rattle.suifvm_machine.specs.Tables.{block_insns}
use Rattle.suifvm_machine.proofs.Effects.{step_past, step_plain}
use Rattle.suifvm_machine.proofs.machine.Machine.step.Goals as goal

pub returns-in-None : goal.returns-in-None
returns-in-None c =
    let none : slice_get (block_insns c.args.self.now.here.row.now) c.args.self.now.here.at ≡ None = search rules in
    step_past c.args.self.now c.requires c.go_to.new.self c.go_to.result _ none refl c.go_to.ensures

pub returns-then-takes_turn : goal.returns-then-takes_turn
returns-then-takes_turn c =
    let there : slice_get (block_insns c.args.self.now.here.row.now) c.args.self.now.here.at ≡ Some c.in-Some.insn.now = search rules in
    let takes : takes_turn c.in-Some.insn.now ≡ true = search rules in
    c.act_in_turn.ensures there takes

pub returns-else-takes_turn : goal.returns-else-takes_turn
returns-else-takes_turn c =
    let there : slice_get (block_insns c.args.self.now.here.row.now) c.args.self.now.here.at ≡ Some c.in-Some.insn.now = search rules in
    let plain : takes_turn c.in-Some.insn.now ≡ false = search rules in
    step_plain c.args.self.now c.requires c.act.new.self c.act.result c.in-Some.insn.now there plain c.act.ensures
