-- The last shape of a declarator is the first round the type.
use Rattle.std.proofs.Common.{◌≡◌, List, [], ◌∷◌, ◌++◌, refl, ap}
use Rattle.c_tree.specs.declared.types.TypeNode.{TypeNode}
use Rattle.c_parser_grammar.specs.declared.shapes.Shape.{Shape}
use Rattle.c_parser_grammar.specs.Types.{with_shapes, with_one_shape}

pub with_shapes_last : (ss : List Shape) (s : Shape) (ty : TypeNode) → with_shapes (ss ++ s ∷ []) ty ≡ with_shapes ss (with_one_shape s ty)
with_shapes_last [] s ty = refl
with_shapes_last (x ∷ ss) s ty = ap (with_one_shape x) (with_shapes_last ss s ty)
