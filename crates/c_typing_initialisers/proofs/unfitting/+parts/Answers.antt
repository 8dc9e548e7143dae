use Rattle.c_typing_initialisers.proofs.Forms.{list_judged}
use Rattle.c_typing_initialisers.proofs.unfitting.+parts.Goals as goal

pub judge_init-returns-in_ok-whole-in-List : goal.judge_init-returns-in_ok-whole-in-List
judge_init-returns-in_ok-whole-in-List t c =
    list_judged c.args.init.now c.in-List.at c.in-List.items c.as_slice.result.now (c.args.env.now, c.args.notes.now) (c.judge_inits.new.env, c.judge_inits.new.notes) _ c.list_place.result
    c.in-List.is c.as_slice.ensures c.in_ok-whole-in-List.ensures c.list_place.ensures
