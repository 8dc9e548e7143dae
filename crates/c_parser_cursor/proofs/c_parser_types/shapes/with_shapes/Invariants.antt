use Rattle.std.proofs.Common.{◌≡◌, length}
use Rattle.c_parser_grammar.specs.Types.{with_shapes}
use Rattle.c_parser_cursor.proofs.c_parser_types.shapes.with_shapes.Given as goal

abbrev pub decreases-loop-shape : goal.decreases-loop-shape
decreases-loop-shape l = length l.left.items

abbrev pub invariant-loop-shape : goal.invariant-loop-shape
invariant-loop-shape l = with_shapes l.fn.shapes l.fn.ty ≡ with_shapes l.left.items l.ty
