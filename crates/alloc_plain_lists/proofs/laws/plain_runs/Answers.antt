use Rattle.std.proofs.Common.{refl}
use Rattle.alloc_plain_lists.proofs.laws.plain_runs.Goals as goal

pub returns : goal.returns
returns c = record {
  squares_over_temps = refl;
  squares_in_slots = refl;
  squares_in_kept_registers = refl;
  squares_in_ended_register = refl;
  numbers_over_temps = refl;
  numbers_in_slots = refl;
  eight_over_temps = refl;
  eight_in_slots = refl;
}
