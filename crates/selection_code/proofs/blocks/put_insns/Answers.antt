use Rattle.selection_code.proofs.Turns.{insn_turn, numbers_here, numbers_left, fields_turn, known_turn}
use Rattle.selection_code.proofs.blocks.put_insns.Goals as goal

pub put_insn-requires-clause-numbers : goal.put_insn-requires-clause-numbers
put_insn-requires-clause-numbers c = numbers_here _ _ _ _ c.in-Some.ensures.steps c.loop-line.invariant.1

pub loop-line-preserved : goal.loop-line-preserved
loop-line-preserved c = (
  insn_turn _ _ _ _ c.in-Some.ensures.steps c.loop-line.known _ c.after-known.ensures c.loop-line.out c.put_insn.new.out _ c.in_ok-put_insn.ensures.put c.loop-line.invariant.0,
  numbers_left _ _ _ _ c.in-Some.ensures.steps c.loop-line.invariant.1,
  fields_turn _ _ _ _ c.in-Some.ensures.steps _ c.loop-line.invariant.2 c.in_ok-put_insn.ensures.fields,
  known_turn _ _ _ _ c.in-Some.ensures.steps c.loop-line.known _ c.after-known.ensures c.loop-line.invariant.1,
)
