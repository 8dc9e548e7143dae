-- That the transfers of the edges between blocks fit the frame of their function. Before an edge values stand in the
-- registers that are usable, and the edge reads no other one that it has not written: so register 28 is written first.
use Rattle.std.specs.Prelude.{◌≡◌, ℕ, List, Some, slice_get}
use Rattle.pass_core.specs.Functions.{insn_at}
use Rattle.temp_ir.specs.declared.insn.TempInsn.{TempInsn}
use Rattle.temp_ir.specs.Insns.{targets_of}
use Rattle.alloc_model.specs.Places.{Plan, edge_transfers}
use Rattle.alloc_model.specs.Faithful.{Faithful}
use Rattle.frame_steps.specs.frame_transfers.Laws.{CanTransferAll}
use Rattle.frame_steps.specs.function_items.InstructionItemsLaws.{is_usable}
use Rattle.frame_steps.specs.function_items.Items.{top_transfers, end_transfers}
use Rattle.frame_simulation.specs.function_shapes.Shapes.{shape_of}

-- the transfers of the edge to each block that an instruction names
abbrev pub TargetsFit : Type 0
TargetsFit =
    (a : Plan) → Faithful a → (block at : ℕ) (x : TempInsn) → insn_at a.function.blocks block at ≡ Some x → (k to : ℕ) →
    slice_get (targets_of x) k ≡ Some to → CanTransferAll (shape_of a) is_usable (edge_transfers a block to)

-- and those at the end of a block that goes on to the next one
abbrev pub EndsFit : Type 0
EndsFit =
    (a : Plan) → Faithful a → (block : ℕ) (insns : List TempInsn) → slice_get a.function.blocks block ≡ Some insns →
    CanTransferAll (shape_of a) is_usable (end_transfers a block insns)

-- and those at the top of a block, of the edge that leads to it from a block with a branch
abbrev pub TopsFit : Type 0
TopsFit = (a : Plan) → Faithful a → (block : ℕ) → CanTransferAll (shape_of a) is_usable (top_transfers a block)
