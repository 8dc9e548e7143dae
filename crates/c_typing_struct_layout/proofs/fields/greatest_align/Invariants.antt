use Rattle.std.proofs.Common.{◌≡◌, ◌≤◌, max, drop}
use Rattle.c_typed_tree.specs.Layout.{greatest_align}
use Rattle.c_typing_struct_layout.proofs.fields.greatest_align.Given as goal

abbrev pub invariant-loop-member : goal.invariant-loop-member
invariant-loop-member l = record {
  some : 1 ≤ l.most;
  so_far : greatest_align l.structs l.members ≡ max l.most (greatest_align l.structs (drop l.member-index l.members));
}
