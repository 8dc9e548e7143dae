use Rattle.std.proofs.Common.{refl}
use Rattle.mem_model.specs.Cells.{number_of, pointer_of, bytes_of, parts_of}
use Rattle.alloc_model.proofs.laws.examples_run.Goals as goal

pub returns : goal.returns
unfolding number_of pointer_of bytes_of parts_of
returns c = record {
  constants = refl;
  traps = refl;
  wraps = refl;
  puts = refl;
  wants_turn = refl;
  gets = refl;
  other_number = refl;
  ends = refl;
  aborts = refl;
  divides = refl;
  divides_by_zero = refl;
  divides_nothing = refl;
  not_held = refl;
  branches = refl;
  falls_through = refl;
  loops = refl;
  unset = refl;
  loads = refl;
  loads_outside = refl;
  leaves = refl;
  stores_pointer = refl;
  moves_bundle = refl;
  adds_bundle = refl;
  calls = refl;
  not_given = refl;
  too_wide = refl;
  returns_nothing = refl;
}
