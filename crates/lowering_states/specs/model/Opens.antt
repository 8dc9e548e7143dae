-- What opens the runs of the C meaning, as one name.
use Rattle.c_semantics.specs.Runs.{◌>>=◌, pure, undefined_behaviour, trap, exit, no_turn, turn, on_memory, set_memory, read_register, write_register}
use Rattle.c_semantics.specs.Evaluates.{put_character, get}

unfoldable pub opens : Unit {0}
unfolding ◌>>=◌ pure undefined_behaviour trap exit no_turn turn on_memory set_memory read_register write_register put_character get
opens = tt
