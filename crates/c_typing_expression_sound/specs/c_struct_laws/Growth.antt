-- Structs grow: those that are complete stay as they are, and others come behind them (C99 6.7.2.3).
use Rattle.std.specs.Prelude.{◌≤◌, List, length}
use Rattle.c_typed_tree.specs.declared.types.StructDef.{StructDef}
use Rattle.c_typed_tree.specs.Lawful.{IsLawfulStruct}
use Rattle.c_typing_expression_sound.specs.c_type_laws.Typed.{AreKnown}

pub record Grow (structs later : List StructDef) : Type 0 where
  pub known : AreKnown structs later
  pub longer : length structs ≤ length later

-- a lawful struct is lawful among structs that have grown
abbrev pub LawfulStructStays : Type 0
LawfulStructStays =
    (structs later : List StructDef) (d : StructDef) → Grow structs later → IsLawfulStruct structs d →
    IsLawfulStruct later d
