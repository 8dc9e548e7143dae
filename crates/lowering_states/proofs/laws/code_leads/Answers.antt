use Rattle.lowering_states.proofs.Steps.{plain, jump, fall}
use Rattle.lowering_states.proofs.laws.code_leads.Goals as goal

pub returns : goal.returns
returns g rooms functions i own code waiting found = record {
  insns = λ insn p r w m m1 vs o e calm d next. plain rooms functions i code found own waiting insn p r w m vs m1 e calm d next;
  jumps = λ block p r w m o e next. jump rooms functions i code found own waiting block p r w m e next;
  ends = λ p r w m o e next. fall rooms functions i code found own waiting p r w m e next;
}
