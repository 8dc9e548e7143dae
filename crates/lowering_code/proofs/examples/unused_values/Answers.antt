use Rattle.lowering_code.proofs.Computed as it
use Rattle.lowering_code.proofs.examples.unused_values.Goals as goal

pub returns : goal.returns
returns g = record {
  no_value_left_alone = it.is-no_value_left_alone;
}
