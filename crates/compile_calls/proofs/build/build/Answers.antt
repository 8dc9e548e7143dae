use Rattle.compile_calls.proofs.Made.{builds, builds_made}
use Rattle.compile_calls.proofs.build.build.Goals as goal

pub returns-in-Ok-clause-answer : goal.returns-in-Ok-clause-answer
returns-in-Ok-clause-answer g c = builds _ _ _ _ _ _ c.in-Ok.ensures.image c.write_image.ensures.answer

pub returns-in-Ok-clause-made : goal.returns-in-Ok-clause-made
returns-in-Ok-clause-made g c = builds_made _ _ _ _ _ _ c.in-Ok.ensures.image c.write_image.ensures.answer
