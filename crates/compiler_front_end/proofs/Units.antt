-- Why a text has no unit, by the faults of its parts.
use Rattle.std.proofs.Common.{ℕ, ◌≤◌, ◌<◌, ◌-◌, ◌^◌, List, inl, arith}
use Rattle.c_tree.specs.declared.declarations.TranslationUnit.{TranslationUnit}
use Rattle.c_typed_tree.specs.declared.c_lawful_unit.LawfulUnit.{LawfulUnit}
use Rattle.c_parser.specs.declared.fault.ParseFault.{ParseFault}
use Rattle.c_parser.specs.declared.fault.ParseFault.TheVariants as text
use Rattle.c_parser.specs.Reading.{IsRead, IsNotRead}
use Rattle.c_types.specs.declared.faults.TypeFault.{TypeFault}
use Rattle.c_types.specs.declared.faults.TypeFault.TheVariants as types
use Rattle.c_types.specs.Units.{IsFaulty}
use Rattle.call_outcomes.specs.declared.outcome.Which.TheVariants.{Weight, Data}
use Rattle.compiler_front_end.specs.declared.fault.CompileFault.{CompileFault}
use Rattle.compiler_front_end.specs.declared.fault.CompileFault.TheVariants.{Limit}
use Rattle.compiler_front_end.specs.Units.{IsUnitOf, HasNoUnit, as_count}
use Rattle.compiler_front_end.specs.model.Causes.{fault_of_parse, fault_of_check, IsBeyond}

pub no_tree : (t : List ℕ) (f : ParseFault) → IsNotRead t f → HasNoUnit t (fault_of_parse f)
no_tree t (text.Lex at) h = h
no_tree t (text.Nesting counted) h = h
no_tree t (text.Syntax at) h = h
no_tree t text.NoMemory h = h

pub no_unit : (t : List ℕ) (tree : TranslationUnit) (f : TypeFault) → IsRead t tree → IsFaulty tree f → HasNoUnit t (fault_of_check f)
no_unit t tree (types.Typing at k) read h = record { tree = tree; read = read; first = h }
no_unit t tree types.NoMemory read short = inl short

pub within : (n most : ℕ) → as_count n ≤ most → most < 2 ^ 64 - 1 → n ≤ most
within n most low most_low = omega arith

pub above : (n most : ℕ) → most < as_count n → most < n
above n most high = omega arith

pub beyond : (t : List ℕ) (tree : TranslationUnit) (unit : LawfulUnit) (f : CompileFault) → IsUnitOf t tree unit.unit → IsBeyond unit.unit f → HasNoUnit t f
beyond t tree unit (Limit Weight counted) is h = record { tree = tree; unit = unit; is_unit = is; heavy = h.0; count = h.1 }
beyond t tree unit (Limit Data counted) is h = record { tree = tree; unit = unit; is_unit = is; light = h.0; large = h.1; count = h.2 }
beyond t tree unit _ is h = absurd h
