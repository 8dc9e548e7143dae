-- All that was seen are members.
use Rattle.std.proofs.Common.{◌≡◌, ◌≤◌, All, IsTrue, take, true}
use Rattle.std.specs.List.{list_all}
use Rattle.c_typed_tree.specs.Layout.{is_object}
use Rattle.c_typed_tree.specs.Typing.{depth_of, most_depth}
use Rattle.c_typed_tree.specs.View.{type_view}
use Rattle.c_typing_struct_bodies.specs.Members.{is_member_type}
use Rattle.c_typing_struct_bodies.proofs.structs.are_members.Given as goal

abbrev pub invariant-loop-field : goal.invariant-loop-field
invariant-loop-field l =
    (list_all (λ f. is_member_type l.structs f.ty) (take l.field-index l.fields) ≡ true)
    × All (λ f. IsTrue (is_object l.structs (type_view f.ty))) (take l.field-index l.fields)
    × All (λ f. depth_of l.structs (type_view f.ty) ≤ most_depth) (take l.field-index l.fields)
