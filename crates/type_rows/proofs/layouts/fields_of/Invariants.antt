-- The members so far have types that members may have.
use Rattle.std.proofs.Common.{◌≤◌, All, IsTrue}
use Rattle.c_typed_tree.specs.Layout as layout
use Rattle.c_typed_tree.specs.Typing.{depth_of, most_depth}
use Rattle.c_typed_tree.specs.View.{type_view}
use Rattle.type_rows.proofs.layouts.fields_of.Given as goal

abbrev pub invariant-loop-part : goal.invariant-loop-part
invariant-loop-part l = All (λ f. IsTrue (layout.is_object l.structs (type_view f.ty))) l.fields.items × All (λ f. depth_of l.structs (type_view f.ty) ≤ most_depth) l.fields.items
