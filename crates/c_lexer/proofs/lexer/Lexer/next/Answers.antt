use Rattle.c_lexer.proofs.Walk.{stuck_again, end_again}
use Rattle.c_lexer.proofs.lexer.Lexer.next.Goals as goal

pub returns-clause-fault_again : goal.returns-clause-fault_again
returns-clause-fault_again c = stuck_again c.args.self.now c.advance.new.self c.advance.result c.advance.ensures.token c.advance.ensures.fault

pub returns-clause-end_again : goal.returns-clause-end_again
returns-clause-end_again c = end_again c.args.self.now c.advance.new.self c.advance.result c.advance.ensures.token c.advance.ensures.fault
