use Rattle.std.proofs.Common.{sym, ◌∙◌, subst}
use Rattle.pass_checks.specs.model.Body.{IsBody}
use Rattle.pass_checks.proofs.function.function_of.Goals as goal

pub invariant_of-result : goal.invariant_of-result
invariant_of-result g c =
    let body = subst (IsBody g.I.Insn.reads g.I.Insn.writes g.I.Insn.targets g.I.Insn.flows_on c.args.parts.registers) (c.as_slice.ensures.value ∙ sym c.in_ok-blocks.ensures) c.if-not-is_body.ensures in
    record {
      targets = body.goes;
      straight = body.straight;
      stops = body.stop;
      few_blocks = body.few_blocks;
      few_insns = body.few_insns;
      registers = body.registers;
    }
