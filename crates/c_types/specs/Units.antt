-- What typing makes of a unit: its structs, objects and functions, or the first of its faults (C99 6.5 to 6.9).
use Rattle.std.specs.Prelude.{◌≡◌, ℕ, List, [], ◌∷◌, Option, Some, None, slice_set, replicate}
use Rattle.std.specs.Option.{option_map}
use Rattle.bk_memory.specs.Shortage.{MemoryIsShort}
use Rattle.c_tree.specs.declared.declarations.TranslationUnit.{TranslationUnit}
use Rattle.c_typed_tree.specs.declared.types.StructDef.{StructDef}
use Rattle.c_typed_tree.specs.declared.units.TypedFn.{TypedFn}
use Rattle.c_typed_tree.specs.declared.units.TypedUnit.{TypedUnit}
use Rattle.c_typing_faults.specs.Faults.{head}
use Rattle.c_typing_state.specs.declared.notes.Notes.{Notes}
use Rattle.c_typing_state.specs.Checks.{append_part}
use Rattle.c_typing_globals.specs.declared.objects.UnitObject.{UnitObject}
use Rattle.c_typing_globals.specs.Globals.{globals}
use Rattle.c_typing_declarations.specs.declared.walk.UnitFunction.{UnitFunction}
use Rattle.c_typing_declarations.specs.declared.walk.UnitSoFar.{UnitSoFar}
use Rattle.c_typing_struct_bodies.specs.Bodies.{TagScope}
use Rattle.c_typing_units.specs.Units.{whole_unit, faults_of}
use Rattle.c_types.specs.declared.faults.TypeFault.{TypeFault}
use Rattle.c_types.specs.declared.faults.TypeFault.TheVariants as f

-- ---- the functions in the order of their numbers

-- each tree at the place that its number says
abbrev pub with_trees : List UnitFunction → List (Option TypedFn) → List (Option TypedFn)
with_trees [] places = places
with_trees (f ∷ fs) places = with_trees fs (slice_set places f.number (Some f.function))

abbrev pub functions_in : (count : ℕ) → List UnitFunction → List (Option TypedFn)
functions_in count fs = with_trees fs (replicate count None)

-- all of them, if each has its tree
abbrev pub append_functions : (found : Option (List TypedFn)) → List (Option TypedFn) → Option (List TypedFn)
append_functions found [] = found
append_functions found (f ∷ fs) = append_functions (append_part found f) fs

-- ---- the typed unit

abbrev pub typed_from :
    List StructDef → List UnitObject → (texts : List (List ℕ)) → Option (List TypedFn) → Option TypedUnit
typed_from ds os texts functions =
    option_map (λ fs. record { structs = ds; globals = globals ds os texts; functions = fs }) functions

abbrev pub unit_with :
    List StructDef → List UnitObject → (texts : List (List ℕ)) → (count : ℕ) → List UnitFunction → Option TypedUnit
unit_with ds os texts count fs = typed_from ds os texts (append_functions (Some []) (functions_in count fs))

-- of what is known behind the last declaration, what was noted
abbrev pub notes_in : UnitSoFar × TagScope → Notes
notes_in s = s.1.1.1

-- and the unit that it makes
abbrev pub typed_unit_of : UnitSoFar × TagScope → Option TypedUnit
typed_unit_of s =
    unit_with (notes_in s).structs s.0.objects (notes_in s).texts s.0.names.functions s.0.functions

abbrev pub typed_unit : TranslationUnit → Option TypedUnit
typed_unit unit = typed_unit_of (whole_unit unit)

-- ---- what typing answers

-- a unit without faults has this tree
abbrev pub IsTyped : TranslationUnit → TypedUnit → Type 0
IsTyped unit typed = (head (faults_of unit) ≡ None) × (typed_unit unit ≡ Some typed)

-- a unit has this fault, as the first one, or memory is short
abbrev pub IsFaulty : TranslationUnit → TypeFault → Type 0
IsFaulty unit (f.Typing at kind) = head (faults_of unit) ≡ Some (record { at = at; kind = kind })
IsFaulty unit f.NoMemory = MemoryIsShort
