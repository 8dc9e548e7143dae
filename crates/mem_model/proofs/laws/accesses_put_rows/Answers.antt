use Rattle.mem_model.proofs.Changes.{store_puts, copy_puts, init_puts}
use Rattle.mem_model.proofs.laws.accesses_put_rows.Goals as goal

pub returns : goal.returns
returns c = record { stores = store_puts; copies = copy_puts; inits = init_puts }
