use Rattle.c_typing_text_laws.proofs.CInitialiserByteLaws.Initialisers.{read_bytes}
use Rattle.c_typing_text_laws.proofs.c_initialiser_byte_laws.laws.initialisers_hold_bytes.Goals as goal

pub returns : goal.returns
returns c = read_bytes
