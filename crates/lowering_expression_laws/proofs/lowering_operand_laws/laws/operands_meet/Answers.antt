use Rattle.lowering_expression_laws.proofs.LoweringOperandLaws.Operands as it
use Rattle.lowering_expression_laws.proofs.lowering_operand_laws.laws.operands_meet.Goals as goal

pub returns : goal.returns
returns g c found = record {
  commas = it.commas c found;
  nots = it.nots c found;
  drops = it.drops c found;
  pointers = it.pointers c found;
  pointer_casts = it.pointer_casts c found;
}
