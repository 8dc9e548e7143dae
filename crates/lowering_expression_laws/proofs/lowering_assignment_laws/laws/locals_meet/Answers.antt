use Rattle.lowering_expression_laws.proofs.LoweringAssignmentLaws.Locals as locals
use Rattle.lowering_expression_laws.proofs.lowering_assignment_laws.laws.locals_meet.Goals as goal

pub returns : goal.returns
returns g c found = record { registers = locals.registers c found; objects = locals.objects c found }
