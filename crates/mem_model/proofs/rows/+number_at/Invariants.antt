use Rattle.mem_model.proofs.rows.+number_at.Given as goal

abbrev pub decreases-number_at : goal.decreases-number_at
decreases-number_at l = l.width
