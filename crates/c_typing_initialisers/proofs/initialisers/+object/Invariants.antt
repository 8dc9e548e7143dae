use Rattle.std.proofs.Common.{◌≡◌, drop}
use Rattle.c_typing_initialisers.specs.declared.lists.InitialiserItems.TheVariants.{Fitting}
use Rattle.c_typing_initialisers.specs.model.Parts.{items_from}
use Rattle.c_typing_initialisers.proofs.initialisers.+object.Given as goal

abbrev pub invariant-items_in-loop-init : goal.invariant-items_in-loop-init
invariant-items_in-loop-init l =
    items_from l.list l.ty l.place 0 Fitting (l.fn.cells.items, (l.fn.env, l.fn.notes))
    ≡ items_from (drop l.init-index l.list) l.ty l.place l.k l.found (l.cells.items, (l.env, l.notes))
