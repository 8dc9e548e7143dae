use Rattle.c_typing_expression_sound.proofs.CBodyLaws.Bodies.{bodies_lead, declared_found}
use Rattle.c_typing_expression_sound.proofs.c_body_laws.laws.bodies_lead.Goals as goal

pub returns-clause-bodies : goal.returns-clause-bodies
returns-clause-bodies c = bodies_lead

pub returns-clause-types : goal.returns-clause-types
returns-clause-types c = declared_found
