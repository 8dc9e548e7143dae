use Rattle.std.proofs.Common.{refl}
use Rattle.alloc_model.proofs.laws.placements_run.Goals as goal

pub returns : goal.returns
returns c = record {
  registers = refl;
  slots = refl;
  no_store = refl;
  load_first = refl;
  taken = refl;
  kept = refl;
  ended = refl;
  in_order = refl;
  out_of_order = refl;
  no_transfers = refl;
}
