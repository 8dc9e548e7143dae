-- The typed unit of a text, and why there is none within the limits.
use Rattle.std.specs.Prelude.{◌≡◌, ℕ, ◌<◌, ◌≤◌, ◌-◌, ◌^◌, ◌⊎◌, min, List, Some}
use Rattle.bk_memory.specs.Shortage.{MemoryIsShort}
use Rattle.c_lexer.specs.Pieces.{FaultAt}
use Rattle.c_tree.specs.declared.declarations.TranslationUnit.{TranslationUnit}
use Rattle.c_parser_nesting.specs.HasNesting.{HasNesting}
use Rattle.c_parser.specs.Limits.{most_nesting}
use Rattle.c_parser.specs.Reading.{IsRead, HasNoReading, IsTooDeep}
use Rattle.c_typing_faults.specs.declared.faults.Kind.{Kind}
use Rattle.c_typing_faults.specs.Faults.{head}
use Rattle.c_types.specs.CUnits.{faults_of}
use Rattle.c_typed_tree.specs.declared.units.TypedUnit.{TypedUnit}
use Rattle.c_typed_tree.specs.declared.c_lawful_unit.LawfulUnit.{LawfulUnit}
use Rattle.c_typed_tree.specs.Weight.{unit_weight}
use Rattle.c_typed_tree.specs.Rooms.{data_size}
use Rattle.c_types.specs.Units.{IsTyped}
use Rattle.call_outcomes.specs.declared.outcome.SourceFault.TheVariants.{Lex, Syntax, Typing}
use Rattle.call_outcomes.specs.declared.outcome.Which.TheVariants.{Nesting, Weight, Data}
use Rattle.compiler_front_end.specs.declared.fault.CompileFault.{CompileFault}
use Rattle.compiler_front_end.specs.declared.fault.CompileFault.TheVariants.{Source, Limit, NoMemory}
use Rattle.mem_objects.specs.declared.TheConstants.{MOST_DATA}
use Rattle.c_typing_weight.specs.Limits.{most_weight}

-- the text is read as a tree that has no typing fault, and this is its typed unit
pub record IsUnitOf (text : List ℕ) (tree : TranslationUnit) (unit : TypedUnit) : Type 0 where
  pub read : IsRead text tree
  pub typed : IsTyped tree unit

-- which is within the limits of weight and of data
pub record IsUnitWithin (text : List ℕ) (tree : TranslationUnit) (unit : TypedUnit) : Type 0 where
  pub is_unit : IsUnitOf text tree unit
  pub light : unit_weight unit ≤ most_weight
  pub small : data_size unit ≤ MOST_DATA

-- ---- why there is none

-- the text is read as a tree that has typing faults, of which this is the first
pub record HasTypingFault (text : List ℕ) (at : ℕ) (k : Kind) : Type 0 where
  pub tree : TranslationUnit
  pub read : IsRead text tree
  pub first : head (faults_of tree) ≡ Some (record { at = at; kind = k })

-- a number as a count of 64 bits says it: sums stand still at the greatest
abbrev pub as_count : ℕ → ℕ
as_count n = min n (2 ^ 64 - 1)

-- the text has a unit that is lawful and heavier than is taken
pub record IsTooHeavy (text : List ℕ) (counted : ℕ) : Type 0 where
  pub tree : TranslationUnit
  pub unit : LawfulUnit
  pub is_unit : IsUnitOf text tree unit.unit
  pub heavy : most_weight < unit_weight unit.unit
  pub count : counted ≡ as_count (unit_weight unit.unit)

-- the text has a unit that is lawful and of a weight that is taken, and that needs more data than is taken
pub record IsTooLarge (text : List ℕ) (counted : ℕ) : Type 0 where
  pub tree : TranslationUnit
  pub unit : LawfulUnit
  pub is_unit : IsUnitOf text tree unit.unit
  pub light : unit_weight unit.unit ≤ most_weight
  pub large : MOST_DATA < data_size unit.unit
  pub count : counted ≡ as_count (data_size unit.unit)

-- Why a text has no unit within the limits: each answer has one cause. For want of memory it is that memory is short,
-- or that the text is deeper than is taken, in its tree or in what is open at once.
abbrev pub HasNoUnit : List ℕ → CompileFault → Type 0
HasNoUnit text (Source (Lex at)) = FaultAt text at
HasNoUnit text (Limit Nesting counted) = HasNesting text counted × (most_nesting < counted)
HasNoUnit text (Source (Syntax at)) = HasNoReading text at
HasNoUnit text (Source (Typing at k)) = HasTypingFault text at k
HasNoUnit text (Limit Weight counted) = IsTooHeavy text counted
HasNoUnit text (Limit Data counted) = IsTooLarge text counted
HasNoUnit text NoMemory = MemoryIsShort ⊎ IsTooDeep text
HasNoUnit text _ = ⊥
