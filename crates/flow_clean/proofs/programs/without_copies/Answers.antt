use Rattle.std.proofs.Common.{refl}
use Rattle.flow_clean.proofs.CleanPrograms.{copied_fits, copied_program}
use Rattle.flow_clean.proofs.FewRegisters.{all_marked}
use Rattle.flow_clean.proofs.programs.without_copies.Goals as goal

pub run_each-requires : goal.run_each-requires
run_each-requires c = let p = c.args.vm in all_marked p.functions p.globals p.functions p.functions_lawful

pub invariant_of-result : goal.invariant_of-result
invariant_of-result c =
    let p = c.args.vm in
    let fits = copied_fits p c.in_ok-functions.functions c.in_ok-functions.ensures in
    record {
      few_functions = fits.few_functions;
      globals_lawful = p.globals_lawful;
      one_main = fits.one_main;
      functions_lawful = fits.functions_lawful;
    }

pub returns : goal.returns
returns c = copied_program c.args.vm _ c.in_ok-functions.ensures refl
