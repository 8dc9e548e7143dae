-- How wide the calls of selected functions are, and that the argument places they write are within.
use Rattle.std.specs.Prelude.{ℕ, ◌≤◌, List, map}
use Rattle.suifvm_ir.specs.declared.insn.VmInsn.{VmInsn}
use Rattle.suifvm_ir.specs.Programs.{arguments_of}
use Rattle.pass_core.specs.Functions.{AllInsns}
use Rattle.suifvm_zero_branches.specs.Tests.{tested_block}
use Rattle.temp_ir.specs.declared.insn.TempInsn.{TempInsn}
use Rattle.selection_code.specs.Functions.{selected_blocks}
use Rattle.alloc_model.specs.Effect.{widest_call}
use Rattle.block_pass_laws.specs.argument_laws.Kept.{AreWithinBlocks}
use Rattle.block_pass_laws.specs.temp_walk_laws.SameRuns.{AreWithin}

-- the argument places that a block of a selected function writes are within the widest call of that block, since a call
-- stands behind the writes of its arguments
abbrev pub SelectedBlocksAreWithin : Type 0
SelectedBlocksAreWithin =
    (params : ℕ) (blocks : List (List VmInsn)) → AreWithinBlocks (selected_blocks params blocks)

-- the widest call of a selected function gives no more arguments than an instruction of the function that was given,
-- also where branches test values
abbrev pub SelectedCallsAreNarrow : Type 0
SelectedCallsAreNarrow =
    (params most : ℕ) (blocks : List (List VmInsn)) → AllInsns (λ i. arguments_of i ≤ most) blocks →
    widest_call (selected_blocks params (map tested_block blocks)) ≤ most

-- the argument places that a function writes are within its widest call, and that gives at most so many arguments
pub record HasWidths (most : ℕ) (blocks : List (List TempInsn)) : Type 0 where
  pub within : AreWithin blocks
  pub narrow : widest_call blocks ≤ most
