-- The argument places that blocks over temporaries name, and how wide their calls are.
use Rattle.std.specs.Prelude.{ℕ, ◌≤◌, List, All}
use Rattle.pass_core.specs.Functions.{AllInsns}
use Rattle.temp_ir.specs.declared.insn.TempInsn.{TempInsn}
use Rattle.temp_ir.specs.declared.insn.TempInsn.TheVariants.{WriteArgument, ReadArgument}
use Rattle.alloc_model.specs.Effect.{widest_in, widest_call}
use Rattle.block_pass_laws.specs.back_laws.Kept.{KeepContents}
use Rattle.block_pass_laws.specs.temp_walk_laws.SameRuns.{WritesWithin, AreWithin}

-- the argument place that an instruction writes or reads is numbered at most so
abbrev pub NamesPlacesTo : (most : ℕ) → TempInsn → Type 0
NamesPlacesTo most (WriteArgument number source) = number ≤ most
NamesPlacesTo most (ReadArgument destination number) = number ≤ most
NamesPlacesTo most x = Unit {0}

-- the argument places that the instructions of a block write are within the widest call of that block
abbrev pub IsWithinBlock : List TempInsn → Type 0
IsWithinBlock block = All (WritesWithin (widest_in block)) block

abbrev pub AreWithinBlocks : List (List TempInsn) → Type 0
AreWithinBlocks blocks = All IsWithinBlock blocks

-- and so they are within the widest call of their function
abbrev pub BlocksAreWithinFunctions : Type 0
BlocksAreWithinFunctions = (blocks : List (List TempInsn)) → AreWithinBlocks blocks → AreWithin blocks

-- blocks name no argument places past those that others name, those that they write stay within the widest call of
-- their block, and no call is wider
pub record KeepArguments (before after : List (List TempInsn)) : Type 0 where
  pub places : (most : ℕ) → AllInsns (NamesPlacesTo most) before → AllInsns (NamesPlacesTo most) after
  pub within : AreWithinBlocks before → AreWithinBlocks after
  pub narrow : widest_call after ≤ widest_call before

-- so do blocks with the contents of others
abbrev pub ArgumentsAreKept : Type 0
ArgumentsAreKept = (before after : List (List TempInsn)) → KeepContents before after → KeepArguments before after
