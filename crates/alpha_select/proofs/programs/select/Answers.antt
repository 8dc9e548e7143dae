use Rattle.std.proofs.Common.{◌≡◌, All, sym, ◌∙◌, subst, arith}
use Rattle.mem_objects.specs.Globals.{AreLawful}
use Rattle.pass_core.specs.Functions.{AllInsns}
use Rattle.suifvm_ir.specs.Programs.{VmFunction}
use Rattle.temp_ir.specs.Programs.{IsLawfulTempFn}
use Rattle.selection_code.specs.Fields.{HasFields}
use Rattle.selection_laws.proofs.Keeps.{selected_programs}
use Rattle.alpha_select.specs.Selection.{AreSelected}
use Rattle.alpha_select.proofs.Lawful.{same_length, same_mains, all_lawful, all_short, all_cost, selected_is}
use Rattle.alpha_select.proofs.programs.select.Goals as goal

pub invariant_of-result : goal.invariant_of-result
invariant_of-result c =
    let p = c.args.program.now in
    let all : AreSelected p.functions c.in_ok-functions.functions = subst (λ l. AreSelected l c.in_ok-functions.functions) c.as_slice.ensures c.in_ok-functions.ensures.selected in
    let same : c.in_ok-globals.globals ≡ p.globals = c.in_ok-globals.ensures ∙ c.as_slice-2.ensures in
    let functions = c.in_ok-functions.functions in record {
      few_functions = omega (arith, same_length p.functions functions all, p.few_functions);
      globals_lawful = subst (λ g. ∥ AreLawful g ∥₁) (sym same) p.globals_lawful;
      one_main = same_mains p.functions functions all ∙ p.one_main;
      functions_lawful = subst (λ g. All (IsLawfulTempFn functions g) functions) (sym same) (all_lawful p.functions functions p.globals all p.functions_lawful);
    }

pub returns-clause-selected : goal.returns-clause-selected
returns-clause-selected c =
    selected_is c.args.program.now _ (subst (λ l. AreSelected l c.in_ok-functions.functions) c.as_slice.ensures c.in_ok-functions.ensures.selected)
    (c.in_ok-globals.ensures ∙ c.as_slice-2.ensures)
    (subst (All (λ (f : VmFunction). AllInsns HasFields f.blocks)) c.as_slice.ensures c.in_ok-functions.ensures.fields)

pub returns-clause-keeps : goal.returns-clause-keeps
returns-clause-keeps c =
    selected_programs c.args.program.now _
    (selected_is c.args.program.now _ (subst (λ l. AreSelected l c.in_ok-functions.functions) c.as_slice.ensures c.in_ok-functions.ensures.selected)
    (c.in_ok-globals.ensures ∙ c.as_slice-2.ensures)
    (subst (All (λ (f : VmFunction). AllInsns HasFields f.blocks)) c.as_slice.ensures c.in_ok-functions.ensures.fields))

pub returns-clause-few : goal.returns-clause-few
returns-clause-few c =
    let p = c.args.program.now in
    omega (arith, all_short p.functions c.in_ok-functions.functions (subst (λ l. AreSelected l c.in_ok-functions.functions) c.as_slice.ensures c.in_ok-functions.ensures.selected), c.requires.size)

pub returns-clause-costs : goal.returns-clause-costs
returns-clause-costs c =
    all_cost c.args.program.now.functions c.in_ok-functions.functions (subst (λ l. AreSelected l c.in_ok-functions.functions) c.as_slice.ensures c.in_ok-functions.ensures.selected)
