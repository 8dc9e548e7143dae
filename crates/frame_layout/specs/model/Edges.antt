-- The edges whose transfers stand at the top or at the end of a block, by a key for each edge: the block's number.
use Rattle.std.specs.Prelude.{ℕ, suc, ◌==◌, List, [], Option, Some, None, slice_get, slice_index_or, if◌then◌else◌}
use Rattle.pass_core.specs.Functions.{last_of}
use Rattle.temp_ir.specs.declared.insn.TempInsn.{TempInsn}
use Rattle.temp_ir.specs.declared.insn.TempInsn.TheVariants.{Branch, Jump, Return}
use Rattle.alloc_model.specs.declared.allocation.EdgeCode.{EdgeCode}
use Rattle.frame_emitter.specs.Items.{ends_with_branch}

-- no block has this number
abbrev pub no_block : ℕ
no_block = 4294967295

-- the only block that follows a block with a number and a last instruction, if there is one alone
abbrev pub next_after : (block : ℕ) → Option TempInsn → ℕ
next_after block (Some (Jump target)) = target
next_after block (Some (Branch op source target)) = no_block
next_after block (Some (Return with_value)) = no_block
next_after block _ = suc block

abbrev pub next_behind : (block : ℕ) → Option (List TempInsn) → ℕ
next_behind block None = no_block
next_behind block (Some insns) = next_after block (last_of insns)

abbrev pub next_in : List (List TempInsn) → (block : ℕ) → ℕ
next_in blocks block = next_behind block (slice_get blocks block)

-- an edge from a block with a branch stands at the top of its second block
abbrev pub top_key : List (List TempInsn) → EdgeCode → ℕ
top_key blocks e = if ends_with_branch (slice_index_or blocks e.from []) then e.to else no_block

-- the edge to the only block that follows stands at the end of its first block
abbrev pub end_key : List (List TempInsn) → EdgeCode → ℕ
end_key blocks e = if next_in blocks e.from == e.to then e.from else no_block
