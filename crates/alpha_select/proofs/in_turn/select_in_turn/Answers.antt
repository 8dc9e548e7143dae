use Rattle.std.proofs.Common.{◌∙◌, refl, arith}
use Rattle.selection_laws.proofs.Keeps.{selected_programs}
use Rattle.alpha_select.proofs.Bounds.{within}
use Rattle.alpha_select.proofs.Lawful.{same_length, same_mains, all_lawful, all_short, all_cost, selected_is}
use Rattle.alpha_select.proofs.in_turn.select_in_turn.Goals as goal

pub select_each-requires : goal.select_each-requires
select_each-requires c =
    let p = c.args.program in
    within p.functions p.functions p.globals c.requires.size c.requires.registers p.functions_lawful

pub invariant_of-result : goal.invariant_of-result
invariant_of-result c =
    let p = c.args.program in
    let functions = c.in_ok-functions.functions in
    let all = c.in_ok-functions.ensures.selected in record {
      few_functions = omega (arith, same_length p.functions functions all, p.few_functions);
      globals_lawful = p.globals_lawful;
      one_main = same_mains p.functions functions all ∙ p.one_main;
      functions_lawful = all_lawful p.functions functions p.globals all p.functions_lawful;
    }

pub returns-clause-selected : goal.returns-clause-selected
returns-clause-selected c = selected_is c.args.program _ c.in_ok-functions.ensures.selected refl c.in_ok-functions.ensures.fields

pub returns-clause-keeps : goal.returns-clause-keeps
returns-clause-keeps c =
    selected_programs c.args.program _ (selected_is c.args.program _ c.in_ok-functions.ensures.selected refl c.in_ok-functions.ensures.fields)

pub returns-clause-few : goal.returns-clause-few
returns-clause-few c =
    let p = c.args.program in
    omega (arith, all_short p.functions c.in_ok-functions.functions c.in_ok-functions.ensures.selected, c.requires.size)

pub returns-clause-costs : goal.returns-clause-costs
returns-clause-costs c = all_cost c.args.program.functions c.in_ok-functions.functions c.in_ok-functions.ensures.selected
