use Rattle.lowering_code.proofs.Computed as it
use Rattle.lowering_code.proofs.examples.objects.Goals as goal

pub returns : goal.returns
returns g = record {
  written_through_a_pointer = it.is-written_through_a_pointer;
  elements_stand_apart = it.is-elements_stand_apart;
  pointers_have_a_distance = it.is-pointers_have_a_distance;
  globals_begin = it.is-globals_begin;
  globals_hold_addresses = it.is-globals_hold_addresses;
  members_have_places = it.is-members_have_places;
  structs_are_copied = it.is-structs_are_copied;
  parameters_are_objects = it.is-parameters_are_objects;
}
