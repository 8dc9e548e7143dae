-- Whole units: the built-in functions, the declarations in their order, and what is seen of the unit at its end.
use Rattle.std.specs.Prelude.{ℕ, false, if◌then◌else◌, Bool, List, [], None, length}
use Rattle.c_tree.specs.declared.declarations.TranslationUnit.{TranslationUnit}
use Rattle.c_typing_definitions.specs.declared.names.Definitions.{Definitions}
use Rattle.c_typing_definitions.specs.Definitions.{definitions}
use Rattle.c_typing_faults.specs.declared.faults.Fault.{Fault}
use Rattle.c_typing_faults.specs.declared.faults.Kind.TheVariants.{MissingMain}
use Rattle.c_typing_faults.specs.Faults.{sort_faults}
use Rattle.c_typing_state.specs.declared.notes.Notes.{Notes}
use Rattle.c_typing_state.specs.Notes.{with_fault}
use Rattle.c_typing_units.specs.c_builtins.Builtins.{builtins}
use Rattle.c_typing_declarations.specs.Bodies.{TagScope}
use Rattle.c_typing_declarations.specs.declared.walk.UnitSoFar.{UnitSoFar}
use Rattle.c_typing_units.specs.c_typing_externals.Externals.{externals}
use Rattle.c_typing_units.specs.Undefined.{undefined_noted}

-- ---- before the first declaration

abbrev pub no_notes : (first_text : ℕ) → Notes
no_notes first_text = record {
  faults = [];
  addressed = [];
  texts = [];
  first_text = first_text;
  uses = [];
  structs = [];
  members = [];
  tags = [];
  untagged = None;
}

abbrev pub unit_start : Definitions → UnitSoFar × TagScope
unit_start ds = (
  record { names = builtins.0; objects = []; functions = []; has_main = false },
  ([], (builtins.1, no_notes (length ds.objects))),
)

-- ---- behind the last one

abbrev pub main_missed : (length : ℕ) → (has_main : Bool) → Notes → Notes
main_missed length has_main n = if has_main then n else with_fault length MissingMain n

abbrev pub end_notes : (length : ℕ) → (has_main : Bool) → Notes → Notes
end_notes length has_main n = main_missed length has_main (undefined_noted n)

abbrev pub at_end : (length : ℕ) → UnitSoFar × TagScope → UnitSoFar × TagScope
at_end length s = (s.0, (s.1.0, (s.1.1.0, end_notes length s.0.has_main s.1.1.1)))

-- ---- the whole

abbrev pub judge_unit : Definitions → TranslationUnit → UnitSoFar × TagScope → UnitSoFar × TagScope
judge_unit ds unit s = at_end unit.length (externals ds unit.externals s)

abbrev pub whole_unit : TranslationUnit → UnitSoFar × TagScope
whole_unit unit = judge_unit (definitions unit.externals) unit (unit_start (definitions unit.externals))

-- the faults of a unit
abbrev pub faults_of : TranslationUnit → List Fault
faults_of unit = sort_faults (whole_unit unit).1.1.1.faults
