use Rattle.std.proofs.Common.{[], Some, sym, ap, ◌∙◌}
use Rattle.c_typing_state.specs.Checks.{walk}
use Rattle.c_typing_statements.specs.Statements.{statement}
use Rattle.c_typing_statements.proofs.CTypingFunctionBodies.Forms.{function_done}
use Rattle.c_typing_statements.proofs.c_typing_function_bodies.functions.function.Goals as goal

pub returns : goal.returns
returns c =
    function_done c.args.declaration.now c.args.of c.args.list.now c.parameters_of-list_of.result.now c.args.env.now c.enter-outside.new.env c.declare_parameters.new.env c.statements.new.env c.leave.new.env
    c.args.notes.now c.declare_parameters.new.notes c.statements.new.notes c.end_locals.new.notes c.enter-outside.result _ c.in_ok-head.head.result _ c.new-locals.result c.declare_parameters.new.locals c.statements.new.locals c.end_locals.new.locals _ c.typed_function.result
    c.new-locals.ensures c.enter-outside.ensures.count c.enter-outside.ensures.entered c.parameters_of-list_of.ensures c.in_ok-head.ensures.result c.in_ok-head.ensures.sound c.in_ok-params.ensures
    (ap (λ j. walk (statement c.in_ok-head.head.result j) c.args.list.now (Some []) (c.declare_parameters.new.locals, (c.declare_parameters.new.env, c.declare_parameters.new.notes))) (sym c.none.ensures) ∙ c.in_ok-found.ensures)
    c.leave.ensures c.end_locals.ensures.locals c.end_locals.ensures.notes c.typed_function.ensures
