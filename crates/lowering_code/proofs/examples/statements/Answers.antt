use Rattle.lowering_code.proofs.Computed as it
use Rattle.lowering_code.proofs.examples.statements.Goals as goal

pub returns : goal.returns
returns g = record {
  while_goes_round = it.is-while_goes_round;
  rounds_take_turns = it.is-rounds_take_turns;
  do_goes_once = it.is-do_goes_once;
  for_steps_and_continues = it.is-for_steps_and_continues;
  switch_falls_through = it.is-switch_falls_through;
  switch_takes_the_default = it.is-switch_takes_the_default;
  return_leaves_the_loop = it.is-return_leaves_the_loop;
  calls_itself = it.is-calls_itself;
  call_takes_a_turn = it.is-call_takes_a_turn;
}
