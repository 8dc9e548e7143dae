use Rattle.std.proofs.Common.{refl}
use Rattle.mem_model.specs.Memory.{load_at, store_at}
use Rattle.mem_model.specs.Cells.{value_or_fault, number_of, cells_of, bytes_of}
use Rattle.suifvm_meaning.proofs.laws.examples_run.Goals as goal

pub returns : goal.returns
unfolding load_at store_at value_or_fault number_of cells_of bytes_of
returns c = record {
  puts = refl;
  wants_turn = refl;
  gets = refl;
  traps = refl;
  wraps = refl;
  divides_by_zero = refl;
  not_held = refl;
  unset = refl;
  shifts_too_far = refl;
  shifts_signed = refl;
  shifts_unsigned = refl;
  extends = refl;
  branches = refl;
  falls_through = refl;
  loops = refl;
  loads = refl;
  loads_outside = refl;
  calls = refl;
  outlives = refl;
  exits = refl;
  aborts = refl;
}
