use Rattle.mem_model.proofs.LoadsBack.{loads_number, loads_pointer, loads_null, parts_are_no_number}
use Rattle.mem_model.proofs.laws.stores_load_back.Goals as goal

pub returns : goal.returns
returns c = record { numbers = loads_number; pointers = loads_pointer; null = loads_null; parts = parts_are_no_number }
