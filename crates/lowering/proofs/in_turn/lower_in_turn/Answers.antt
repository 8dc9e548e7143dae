-- What was lowered is a program.
use Rattle.std.proofs.Common.{sym, subst}
use Rattle.std.specs.Prelude.{All}
use Rattle.lowering.specs.Lowered.{AreLowered}
use Rattle.lowering.specs.model.Premises.{CanBeLowered}
use Rattle.lowering.proofs.Programs.{IsProgram, unit_can, program_is}
use Rattle.lowering.proofs.in_turn.lower_in_turn.Goals as goal

pub lower_each-requires : goal.lower_each-requires
lower_each-requires c =
    let u = c.args.typed.unit in
    subst (λ ds. All (CanBeLowered ds) u.functions) (sym c.as_slice.ensures) (unit_can u c.args.typed.lawful c.requires)

pub invariant_of-result : goal.invariant_of-result
invariant_of-result c =
    let u = c.args.typed.unit in
    let functions = c.in_ok-functions.functions in
    let all : AreLowered u.structs u.functions functions =
    subst (λ ds. AreLowered ds u.functions functions) c.as_slice.ensures c.in_ok-functions.ensures in
    let p : IsProgram u functions = program_is u functions c.args.typed.lawful c.requires all in
    record {
      few_functions = p.few;
      globals_lawful = ∣ c.args.typed.lawful.typed.globals ∣₁;
      one_main = p.main;
      functions_lawful = p.functions;
    }

pub returns-clause-functions : goal.returns-clause-functions
returns-clause-functions c =
    let u = c.args.typed.unit in
    let functions = c.in_ok-functions.functions in
    subst (λ ds. AreLowered ds u.functions functions) c.as_slice.ensures c.in_ok-functions.ensures

pub returns-clause-weights : goal.returns-clause-weights
returns-clause-weights c = (program_is c.args.typed.unit c.in_ok-functions.functions c.args.typed.lawful c.requires (returns-clause-functions c)).weights

pub returns-clause-size : goal.returns-clause-size
returns-clause-size c = (program_is c.args.typed.unit c.in_ok-functions.functions c.args.typed.lawful c.requires (returns-clause-functions c)).size
