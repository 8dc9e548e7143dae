use Rattle.lowering_code.proofs.Computed as it
use Rattle.lowering_code.proofs.examples.endings.Goals as goal

pub returns : goal.returns
returns g = record {
  returns_seven = it.is-returns_seven;
  returns_nothing = it.is-returns_nothing;
  status_is_a_byte = it.is-status_is_a_byte;
  puts_a_byte = it.is-puts_a_byte;
  gets_a_byte = it.is-gets_a_byte;
  gets_the_end = it.is-gets_the_end;
  aborts = it.is-aborts;
  exits = it.is-exits;
  has_no_turn = it.is-has_no_turn;
  has_turns_enough = it.is-has_turns_enough;
}
