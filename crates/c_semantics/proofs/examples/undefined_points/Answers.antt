use Rattle.c_semantics.proofs.Computed as it
use Rattle.c_semantics.proofs.examples.undefined_points.Goals as goal

pub returns : goal.returns
returns g = record {
  unset_register = it.is-unset_register;
  unset_cell = it.is-unset_cell;
  outside_the_object = it.is-outside_the_object;
  through_null = it.is-through_null;
  misaligned = it.is-misaligned;
  moved_outside = it.is-moved_outside;
  null_moved = it.is-null_moved;
  dead_object = it.is-dead_object;
  dead_pointer_tested = it.is-dead_pointer_tested;
  compared_apart = it.is-compared_apart;
  compared_at_the_end = it.is-compared_at_the_end;
  shifted_too_far = it.is-shifted_too_far;
  shifted_below_zero = it.is-shifted_below_zero;
  literal_written = it.is-literal_written;
  no_value_used = it.is-no_value_used;
  no_value_left_alone = it.is-no_value_left_alone;
  pointer_read_in_part = it.is-pointer_read_in_part;
  copy_overlaps_itself = it.is-copy_overlaps_itself;
}
