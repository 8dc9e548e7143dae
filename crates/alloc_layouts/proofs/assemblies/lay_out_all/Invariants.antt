-- The functions before those that are left are laid out.
use Rattle.std.specs.Vec.Iter.{into_iter_items}
use Rattle.alloc_layouts.specs.model.Parts.{AreLaidOutSoFar}
use Rattle.alloc_layouts.proofs.assemblies.lay_out_all.Given as goal

abbrev pub invariant-loop-f : goal.invariant-loop-f
invariant-loop-f g l =
    AreLaidOutSoFar g.A.Allocates.gives l.globals l.fn.functions (into_iter_items l.f-iterator) l.initial.items.items l.number l.first l.items.items
