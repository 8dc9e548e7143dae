use Rattle.frame_memory.proofs.FlatGlobals.LaidOut.{lawful_ones_are_laid_out}
use Rattle.frame_memory.proofs.FlatGlobals.Stands.{globals_stand, data_has_owners}
use Rattle.frame_memory.proofs.flat_globals.laws.globals_stand.Goals as goal

pub returns : goal.returns
returns c = record { laid_out = lawful_ones_are_laid_out; memory = globals_stand; owners = data_has_owners }
