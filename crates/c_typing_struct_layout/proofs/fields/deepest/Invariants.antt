use Rattle.std.proofs.Common.{◌≡◌, ◌≤◌, max, drop}
use Rattle.c_typed_tree.specs.Typing.{most_depth}
use Rattle.c_typing_struct_layout.specs.StructLayout as spec
use Rattle.c_typing_struct_layout.proofs.fields.deepest.Given as goal

abbrev pub invariant-loop-field : goal.invariant-loop-field
invariant-loop-field l = record {
  bound : l.most ≤ most_depth;
  so_far : spec.deepest_member l.structs l.fields ≡ max l.most (spec.deepest_member l.structs (drop l.field-index l.fields));
}
