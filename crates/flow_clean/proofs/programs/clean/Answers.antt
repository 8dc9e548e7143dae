use Rattle.std.proofs.Common.{◌≡◌, All, sym, ◌∙◌, subst}
use Rattle.std.specs.List.{AllZip}
use Rattle.mem_objects.specs.Globals.{AreLawful}
use Rattle.suifvm_ir.specs.Programs.{IsLawfulFunction}
use Rattle.flow_clean.specs.model.Passes.{CanBeCleaned, IsMadeClean}
use Rattle.flow_clean.proofs.CleanPrograms.{clean_fits, clean_program}
use Rattle.flow_clean.proofs.FewRegisters.{can_be_cleaned}
use Rattle.flow_clean.proofs.programs.clean.Goals as goal

pub run_over-requires : goal.run_over-requires
run_over-requires c =
    let p = c.args.copied.now in
    subst (All CanBeCleaned) (sym c.as_slice.ensures) (can_be_cleaned p.functions p.globals p.functions c.requires p.functions_lawful)

pub invariant_of-result : goal.invariant_of-result
invariant_of-result c =
    let p = c.args.copied.now in
    let functions = c.in_ok-functions.functions in
    let same : c.in_ok-globals.globals ≡ p.globals = c.in_ok-globals.ensures ∙ c.as_slice-2.ensures in
    let fits = clean_fits p functions (subst (λ fs. AllZip IsMadeClean fs functions) c.as_slice.ensures c.in_ok-functions.ensures) in
    record {
      few_functions = fits.few_functions;
      globals_lawful = subst (λ globals. ∥ AreLawful globals ∥₁) (sym same) p.globals_lawful;
      one_main = fits.one_main;
      functions_lawful = subst (λ globals. All (IsLawfulFunction functions globals) functions) (sym same) fits.functions_lawful;
    }

pub returns : goal.returns
returns c =
    clean_program c.args.copied.now _ (subst (λ fs. AllZip IsMadeClean fs c.in_ok-functions.functions) c.as_slice.ensures c.in_ok-functions.ensures)
    (c.in_ok-globals.ensures ∙ c.as_slice-2.ensures)
