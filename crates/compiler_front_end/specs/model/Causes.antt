-- The faults of a text by those of its parts.
use Rattle.std.specs.Prelude.{◌≡◌, ◌<◌, ◌≤◌}
use Rattle.c_typed_tree.specs.declared.units.TypedUnit.{TypedUnit}
use Rattle.c_typed_tree.specs.Weight.{unit_weight}
use Rattle.c_typed_tree.specs.Rooms.{data_size}
use Rattle.c_parser.specs.declared.fault.ParseFault.{ParseFault}
use Rattle.c_parser.specs.declared.fault.ParseFault.TheVariants as text
use Rattle.c_types.specs.declared.faults.TypeFault.{TypeFault}
use Rattle.c_types.specs.declared.faults.TypeFault.TheVariants as types
use Rattle.call_outcomes.specs.declared.outcome.SourceFault.TheVariants.{Lex, Syntax, Typing}
use Rattle.call_outcomes.specs.declared.outcome.Which.TheVariants.{Nesting, Weight, Data}
use Rattle.compiler_front_end.specs.declared.fault.CompileFault.{CompileFault}
use Rattle.compiler_front_end.specs.declared.fault.CompileFault.TheVariants.{Source, Limit, NoMemory}
use Rattle.mem_objects.specs.declared.TheConstants.{MOST_DATA}
use Rattle.c_typing_weight.specs.Limits.{most_weight}
use Rattle.compiler_front_end.specs.Units.{as_count}

-- where a text is not read
abbrev pub fault_of_parse : ParseFault → CompileFault
fault_of_parse (text.Lex at) = Source (Lex at)
fault_of_parse (text.Nesting counted) = Limit Nesting counted
fault_of_parse (text.Syntax at) = Source (Syntax at)
fault_of_parse text.NoMemory = NoMemory

-- where a tree has no typed unit
abbrev pub fault_of_check : TypeFault → CompileFault
fault_of_check (types.Typing at k) = Source (Typing at k)
fault_of_check types.NoMemory = NoMemory

-- which limit a unit is beyond
abbrev pub IsBeyond : TypedUnit → CompileFault → Type 0
IsBeyond unit (Limit Weight counted) = (most_weight < unit_weight unit) × (counted ≡ as_count (unit_weight unit))
IsBeyond unit (Limit Data counted) =
    (unit_weight unit ≤ most_weight) × (MOST_DATA < data_size unit) × (counted ≡ as_count (data_size unit))
IsBeyond unit _ = ⊥
