-- The ends so far, of the blocks from one on.
use Rattle.std.specs.Prelude.{◌≡◌, ℕ, ◌<◌, ◌≤◌, nat_lt, List, length, slice_index_or, Option, Some, None, if◌then◌else◌}
use Rattle.suifvm_ir.specs.declared.insn.VmInsn.{VmInsn}
use Rattle.flow_clean.specs.Chains.{LeadsTo}

pub record AreEndsFrom (blocks : List (List VmInsn)) (from : ℕ) (ends : List ℕ) : Type 0 where
  pub as_many : length ends ≡ length blocks
  pub lead : (block : ℕ) → from ≤ block → block < length blocks → LeadsTo blocks block (slice_index_or ends block 0)

-- the end of a block with a number that jumps to another: that one's end where it stands behind, else that one itself
abbrev pub end_past : (ends : List ℕ) → (number next : ℕ) → ℕ
end_past ends number next = if nat_lt number next then slice_index_or ends next 0 else next

abbrev pub end_in : (ends : List ℕ) → (number : ℕ) → Option ℕ → ℕ
end_in ends number None = number
end_in ends number (Some next) = end_past ends number next
