use Rattle.lowering_expression_laws.proofs.LoweringAssignmentLaws.Assignments as assignments
use Rattle.lowering_expression_laws.proofs.lowering_assignment_laws.laws.assignments_meet.Goals as goal

pub returns : goal.returns
returns g c found = record { registers = assignments.registers c found; objects = assignments.objects c found }
