use Rattle.c_typing_initialisers.proofs.Forms.{list_done}
use Rattle.c_typing_initialisers.proofs.initialisers.+object.Goals as goal

pub initialise-returns-in_ok-found-in-List : goal.initialise-returns-in_ok-found-in-List
initialise-returns-in_ok-found-in-List t c =
    list_done c.args.init.now c.in-List.at c.in-List.items c.as_slice.result.now c.args.ty.now c.args.place (c.args.cells.now.items, (c.args.env.now, c.args.notes.now)) c.items_in.new.cells.items c.items_in.new.env c.items_in.new.notes c.list_in.new.notes _ c.list_in.result
    c.in-List.is c.as_slice.ensures c.in_ok-found-in-List.ensures c.list_in.ensures
