use Rattle.std.proofs.Common.{refl, ◌∙◌, arith}
use Rattle.std.specs.List.{AllZip}
use Rattle.block_passes.specs.Keeps.{KeepsFunction}
use Rattle.block_passes.proofs.Lawful.{same_length, same_mains, all_lawful}
use Rattle.block_passes.proofs.Whole.{copies_keep, copies_reached, coalesced_program_keeps}
use Rattle.block_passes.proofs.programs.coalesce_temporaries.Goals as goal

pub invariant_of-result : goal.invariant_of-result
invariant_of-result c =
    let p = c.args.program in
    let gs = c.in_ok-functions.functions in
    let all : AllZip (KeepsFunction 0) p.functions gs = copies_keep p.functions gs c.in_ok-functions.ensures in
    let few = p.few_functions in
    record {
      few_functions = omega (arith, same_length 0 p.functions gs all, few);
      globals_lawful = p.globals_lawful;
      one_main = same_mains 0 p.functions gs all ∙ p.one_main;
      functions_lawful = all_lawful 0 p.functions gs p.globals all p.functions_lawful;
    }

pub returns-clause-keeps : goal.returns-clause-keeps
returns-clause-keeps c = coalesced_program_keeps c.coalesced_programs_keep_endings.ensures c.args.program _ c.in_ok-functions.ensures refl

pub returns-clause-reached : goal.returns-clause-reached
returns-clause-reached c = copies_reached c.args.program.functions c.in_ok-functions.functions c.in_ok-functions.ensures
