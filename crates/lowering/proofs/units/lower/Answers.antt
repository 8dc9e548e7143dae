-- What was lowered is a program.
use Rattle.std.proofs.Common.{◌≡◌, sym, ◌∙◌, subst}
use Rattle.std.specs.Prelude.{All}
use Rattle.mem_objects.specs.Globals.{AreLawful}
use Rattle.suifvm_ir.specs.Programs.{IsLawfulFunction}
use Rattle.lowering.specs.Lowered.{AreLowered}
use Rattle.lowering.specs.model.Premises.{CanBeLowered}
use Rattle.lowering.proofs.Programs.{IsProgram, unit_can, program_is}
use Rattle.lowering.proofs.units.lower.Goals as goal

pub all_functions-requires : goal.all_functions-requires
all_functions-requires c =
    let u = c.args.typed.now.unit in
    subst (λ ds. All (CanBeLowered ds) c.as_slice-2.result.now) (sym c.as_slice.ensures)
    (subst (λ fs. All (CanBeLowered u.structs) fs) (sym c.as_slice-2.ensures) (unit_can u c.args.typed.now.lawful c.requires))

pub invariant_of-result : goal.invariant_of-result
invariant_of-result c =
    let u = c.args.typed.now.unit in
    let functions = c.in_ok-functions.functions in
    let all : AreLowered u.structs u.functions functions =
    subst (λ ds. AreLowered ds u.functions functions) c.as_slice.ensures (subst (λ fs. AreLowered c.as_slice.result.now fs functions) c.as_slice-2.ensures c.in_ok-functions.ensures) in
    let same : c.in_ok-globals.globals ≡ u.globals = c.in_ok-globals.ensures ∙ c.as_slice-3.ensures in
    let p : IsProgram u functions = program_is u functions c.args.typed.now.lawful c.requires all in
    record {
      few_functions = p.few;
      globals_lawful = subst (λ g. ∥ AreLawful g ∥₁) (sym same) ∣ c.args.typed.now.lawful.typed.globals ∣₁;
      one_main = p.main;
      functions_lawful = subst (λ g. All (IsLawfulFunction functions g) functions) (sym same) p.functions;
    }

pub returns-clause-functions : goal.returns-clause-functions
returns-clause-functions c =
    let u = c.args.typed.now.unit in
    let functions = c.in_ok-functions.functions in
    subst (λ ds. AreLowered ds u.functions functions) c.as_slice.ensures (subst (λ fs. AreLowered c.as_slice.result.now fs functions) c.as_slice-2.ensures c.in_ok-functions.ensures)

pub returns-clause-weights : goal.returns-clause-weights
returns-clause-weights c = (program_is c.args.typed.now.unit c.in_ok-functions.functions c.args.typed.now.lawful c.requires (returns-clause-functions c)).weights

pub returns-clause-size : goal.returns-clause-size
returns-clause-size c = (program_is c.args.typed.now.unit c.in_ok-functions.functions c.args.typed.now.lawful c.requires (returns-clause-functions c)).size
