use Rattle.std.proofs.Common.{◌≡◌, ◌≤◌, ◌++◌, drop}
use Rattle.mem_objects.specs.declared.TheConstants.{MOST_DATA}
use Rattle.c_typing_struct_layout.specs.StructLayout.{members_from, end_behind}
use Rattle.c_typing_struct_layout.proofs.fields.place_members.Given as goal

abbrev pub invariant-loop-field : goal.invariant-loop-field
invariant-loop-field l = record {
  members : members_from l.structs 0 l.fields ≡ l.members ++ members_from l.structs l.end (drop l.field-index l.fields);
  ends : end_behind l.structs 0 l.fields ≡ end_behind l.structs l.end (drop l.field-index l.fields);
  within : l.end ≤ MOST_DATA;
}
