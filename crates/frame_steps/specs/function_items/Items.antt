-- The items of a function: its entry part, its blocks with their labels, and its exit part. In the blocks stand the
-- transfers and instructions of its allocation. The transfers of an edge stand at the end of its first block where that
-- has one successor, and else at the top of its second block.
use Rattle.std.specs.Prelude.{ℕ, suc, ◌==◌, ◌&&◌, not, Bool, true, false, List, [], ◌∷◌, ◌++◌, Option, Some, find, slice_index_or, if◌then◌else◌}
use Rattle.alpha_items.specs.declared.item.AsmItem.{AsmItem}
use Rattle.alpha_items.specs.declared.item.AsmItem.TheVariants.{Label}
use Rattle.pass_core.specs.Functions.{last_of}
use Rattle.temp_ir.specs.declared.insn.TempInsn.{TempInsn}
use Rattle.temp_ir.specs.declared.insn.TempInsn.TheVariants as i
use Rattle.alloc_model.specs.declared.allocation.Transfer.{Transfer}
use Rattle.alloc_model.specs.Temporaries.{flows_out}
use Rattle.alloc_model.specs.Places.{Plan, transfers_at, registers_at, edge_transfers, code_in}
use Rattle.frame_steps.specs.frame_transfers.Items.{items_of_transfers}
use Rattle.frame_steps.specs.call_parts.Items.{entry_part, exit_part}
use Rattle.frame_steps.specs.instruction_items.Items.{ItemSetting, function_label, insn_items}

-- ---- the transfers of edges

-- a block ends with a branch, so it has two successors
abbrev pub is_temp_branch : Option TempInsn → Bool
is_temp_branch (Some (i.Branch op source block)) = true
is_temp_branch _ = false

abbrev pub ends_with_branch : List TempInsn → Bool
ends_with_branch insns = is_temp_branch (last_of insns)

-- those at the top of a block, of the edge that leads to it from a block with a branch
abbrev pub top_transfers : Plan → (block : ℕ) → List Transfer
top_transfers a block =
    code_in (find (λ e. (e.to == block) && ends_with_branch (slice_index_or a.function.blocks e.from [])) a.edges)

-- those before a jump, and at the end of a block that goes on to the next one without a branch
abbrev pub jump_transfers : Plan → (block : ℕ) → TempInsn → List Transfer
jump_transfers a block (i.Jump target) = edge_transfers a block target
jump_transfers a block _ = []

abbrev pub end_transfers : Plan → (block : ℕ) → List TempInsn → List Transfer
end_transfers a block insns =
    if flows_out insns && not (ends_with_branch insns) then edge_transfers a block (suc block) else []

-- ---- items, in front of others

-- an instruction with the transfers before it
abbrev pub point_items : Plan → ItemSetting → (block at : ℕ) → TempInsn → (rest : List AsmItem) → List AsmItem
point_items a g block at x rest =
    items_of_transfers g.shape (transfers_at a block at)
    (items_of_transfers g.shape (jump_transfers a block x) (insn_items g (registers_at a block at) x ++ rest))

-- instructions of a block, of which the first one stands at a place
abbrev pub insns_items : Plan → ItemSetting → (block at : ℕ) → List TempInsn → (rest : List AsmItem) → List AsmItem
insns_items a g block at [] rest = rest
insns_items a g block at (x ∷ insns) rest = point_items a g block at x (insns_items a g block (suc at) insns rest)

-- a block behind its label, and blocks from one on
abbrev pub block_items : Plan → ItemSetting → (block : ℕ) → List TempInsn → (rest : List AsmItem) → List AsmItem
block_items a g block insns rest =
    items_of_transfers g.shape (top_transfers a block)
    (insns_items a g block 0 insns (items_of_transfers g.shape (end_transfers a block insns) rest))

abbrev pub blocks_items : Plan → ItemSetting → (block : ℕ) → List (List TempInsn) → (rest : List AsmItem) → List AsmItem
blocks_items a g block [] rest = rest
blocks_items a g block (insns ∷ blocks) rest =
    Label (g.block_label block) ∷ block_items a g block insns (blocks_items a g (suc block) blocks rest)

-- the exit part with its label
abbrev pub exit_items : ItemSetting → (rest : List AsmItem) → List AsmItem
exit_items g rest = Label g.exit_label ∷ exit_part g.shape g.shape.saves rest

-- a function with a number
abbrev pub function_items : Plan → ItemSetting → (number : ℕ) → (rest : List AsmItem) → List AsmItem
function_items a g number rest =
    Label (function_label number)
    ∷ entry_part g.shape g.shape.saves (blocks_items a g 0 a.function.blocks (exit_items g rest))
