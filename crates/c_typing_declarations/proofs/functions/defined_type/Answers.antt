use Rattle.c_typing_declarations.proofs.Rows.{takes_done}
use Rattle.c_typing_declarations.proofs.functions.defined_type.Goals as goal

pub returns-in_ok-whole-in-Takes : goal.returns-in_ok-whole-in-Takes
returns-in_ok-whole-in-Takes c =
    takes_done c.args.at c.args.node.now c.in-Takes.result c.in-Takes.parameters c.as_slice.result.now c.args.ty c.args.notes.now c.judge_names.new.notes _ c.type_where.result
    c.in-Takes.is c.as_slice.ensures c.in_ok-whole-in-Takes.ensures c.type_where.ensures
