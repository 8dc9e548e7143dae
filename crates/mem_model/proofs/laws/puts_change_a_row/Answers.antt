use Rattle.mem_model.proofs.Changes.{put_changes, put_gives, put_keeps, put_keeps_loads}
use Rattle.mem_model.proofs.laws.puts_change_a_row.Goals as goal

pub returns : goal.returns
returns c = record { cells = put_changes; row = put_gives; rows = put_keeps; loads = put_keeps_loads }
