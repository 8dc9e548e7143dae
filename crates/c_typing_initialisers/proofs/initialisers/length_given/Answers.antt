use Rattle.c_typing_initialisers.proofs.Forms.{length_of_list}
use Rattle.c_typing_initialisers.proofs.initialisers.length_given.Goals as goal

pub returns-in-List : goal.returns-in-List
returns-in-List c = length_of_list c.args.element.now c.args.init.now c.in-List.at c.in-List.items c.len.result c.in-List.is c.len.ensures
