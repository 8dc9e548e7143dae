-- Functions and objects that a unit uses and never defines (C99 6.9): each use is a fault, so the first one in the text
-- has the least place.
use Rattle.std.specs.Prelude.{List, [], ◌∷◌, ◌++◌}
use Rattle.c_typing_faults.specs.declared.faults.Fault.{Fault}
use Rattle.c_typing_faults.specs.declared.faults.Kind.TheVariants.{NotDefined}
use Rattle.c_typing_state.specs.declared.meanings.Use.{Use}
use Rattle.c_typing_state.specs.declared.notes.Notes.{Notes}
use Rattle.c_typing_state.specs.Notes.{with_faults}

abbrev pub use_fault : Use → Fault
use_fault u = record { at = u.at; kind = NotDefined }

-- the uses behind what was at fault before
abbrev pub with_uses : List Use → List Fault → List Fault
with_uses [] faults = faults
with_uses (u ∷ us) faults = with_uses us (faults ++ use_fault u ∷ [])

abbrev pub undefined_noted : Notes → Notes
undefined_noted n = with_faults (with_uses n.uses n.faults) n
