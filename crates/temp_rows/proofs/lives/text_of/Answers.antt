use Rattle.temp_rows.proofs.Few.{all_few}
use Rattle.temp_rows.proofs.lives.text_of.Goals as goal

pub liveness-requires-clause-few : goal.liveness-requires-clause-few
liveness-requires-clause-few c = all_few c.args.f.now.blocks
