-- Jumps and branches that go on past the blocks whose only instruction is a jump.
use Rattle.std.specs.Prelude.{◌≡◌, ℕ, ◌<◌, List, [], ◌∷◌, length, map, slice_get, slice_index_or, All, IsTrue, Option, Some, None}
use Rattle.pass_core.specs.Functions.{AllInsns, count_of, edge_count}
use Rattle.cfg.specs.Renumber.{renumber}
use Rattle.suifvm_ir.specs.declared.insn.VmInsn.{VmInsn}
use Rattle.suifvm_ir.specs.declared.insn.VmInsn.TheVariants.{Jump}
use Rattle.suifvm_ir.specs.Insns.{targets_of, with_block, flows_on_of}
use Rattle.suifvm_ir.specs.Programs.{VmFunction, goes_back_to_marks, function_size}
use Rattle.suifvm_ir.specs.Cost.{cost}

-- the block to which an instruction jumps, if it is a jump
abbrev pub jump_target : VmInsn → Option ℕ
jump_target (Jump block) = Some block
jump_target _ = None

-- the block to which the only instruction of a block jumps, if there is one and it is a jump
abbrev pub only_jump : List VmInsn → Option ℕ
only_jump [] = None
only_jump (i ∷ []) = jump_target i
only_jump (i ∷ j ∷ insns) = None

abbrev pub jump_in : Option (List VmInsn) → Option ℕ
jump_in None = None
jump_in (Some insns) = only_jump insns

abbrev pub passes_to : List (List VmInsn) → (block : ℕ) → Option ℕ
passes_to blocks block = jump_in (slice_get blocks block)

-- a block leads by jumps that are only instructions to one that has no such jump
pub data LeadsTo (blocks : List (List VmInsn)) : (block end : ℕ) → Type 0 where
  IsEnd : {block : ℕ} → passes_to blocks block ≡ None → LeadsTo blocks block block
  PassesOn : {block end : ℕ} → (next : ℕ) → passes_to blocks block ≡ Some next → LeadsTo blocks next end →
      LeadsTo blocks block end

-- instructions whose targets are others in a list
abbrev pub retargeted : (ends : List ℕ) → VmInsn → VmInsn
retargeted ends i = renumber targets_of with_block ends i

-- each target is the block to which the one before leads, and nothing else changed
pub record AreChained (before after : List (List VmInsn)) : Type 0 where
  pub ends : List ℕ
  pub lead : (block : ℕ) → block < length before → LeadsTo before block (slice_index_or ends block 0)
  pub made : after ≡ map (map (retargeted ends)) before

-- no jump or branch goes to a block whose only instruction is a jump
abbrev pub NonePassesOn : List (List VmInsn) → Type 0
NonePassesOn blocks = AllInsns (λ i. All (λ target. passes_to blocks target ≡ None) (targets_of i)) blocks

-- each target of a block is a later one, or begins with a mark
abbrev pub GoesBackToMarks : List (List VmInsn) → Type 0
GoesBackToMarks blocks =
    (block : ℕ) → block < length blocks →
    All (λ i. IsTrue (goes_back_to_marks blocks block i)) (slice_index_or blocks block [])

-- what jump_chains makes of a function
pub record IsChainedOf (f g : VmFunction) : Type 0 where
  pub name : g.name ≡ f.name
  pub params : g.params ≡ f.params
  pub temps : g.temps ≡ f.temps
  pub objects : g.objects ≡ f.objects
  pub blocks : AreChained f.blocks g.blocks
  pub none_passes : NonePassesOn g.blocks
  pub marks : GoesBackToMarks g.blocks

-- as many instructions and edges, the same cost and size
pub record MeasuresStay (f g : VmFunction) : Type 0 where
  pub insns : count_of g.blocks ≡ count_of f.blocks
  pub edges : edge_count targets_of flows_on_of g.blocks ≡ edge_count targets_of flows_on_of f.blocks
  pub cost : cost g ≡ cost f
  pub size : function_size g ≡ function_size f
