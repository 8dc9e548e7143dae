-- The layout as the definition has it, and what a function of blocks keeps.
use Rattle.std.specs.Prelude.{◌≡◌, ℕ, ◌<◌, max, IsTrue, List, [], All, length, slice_index_or}
use Rattle.suifvm_ir.specs.declared.insn.VmInsn.{VmInsn}
use Rattle.suifvm_ir.specs.Programs.{goes_back_to_marks}
use Rattle.lowering_code.specs.Layout as code
use Rattle.lowering_layout.specs.declared.layout.BlockLayout.{BlockLayout}
use Rattle.lowering_layout.specs.Tops.{insns_top, blocks_top}

abbrev pub layout_view : BlockLayout → code.Layout
layout_view l = record { last = l.last; blocks = l.blocks; insns = l.insns; heads = l.heads }

-- the greatest register so far is counted
abbrev pub CountsRegisters : BlockLayout → Type 0
CountsRegisters l = l.temps ≡ max (blocks_top l.blocks) (insns_top l.insns)

-- each jump back leads to a block that begins with a mark
abbrev pub GoesBackToMarks : List (List VmInsn) → Type 0
GoesBackToMarks blocks =
    (block : ℕ) → block < length blocks →
    All (λ i. IsTrue (goes_back_to_marks blocks block i)) (slice_index_or blocks block [])
