use Rattle.std.proofs.Common.{refl}
use Rattle.flow_clean.proofs.CleanPrograms.{clean_fits, clean_program}
use Rattle.flow_clean.proofs.FewRegisters.{can_be_cleaned}
use Rattle.flow_clean.proofs.programs.clean_in_turn.Goals as goal

pub run_each-requires : goal.run_each-requires
run_each-requires c = let p = c.args.copied in can_be_cleaned p.functions p.globals p.functions c.requires p.functions_lawful

pub invariant_of-result : goal.invariant_of-result
invariant_of-result c =
    let p = c.args.copied in
    let fits = clean_fits p c.in_ok-functions.functions c.in_ok-functions.ensures in
    record {
      few_functions = fits.few_functions;
      globals_lawful = p.globals_lawful;
      one_main = fits.one_main;
      functions_lawful = fits.functions_lawful;
    }

pub returns : goal.returns
returns c = clean_program c.args.copied _ c.in_ok-functions.ensures refl
