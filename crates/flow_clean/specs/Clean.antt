-- Functions that are clean.
use Rattle.std.specs.Prelude.{◌≡◌, ℕ, List, slice_get, Some}
use Rattle.bitvector_flow.specs.Flows.{has_at}
use Rattle.suifvm_ir.specs.declared.insn.VmInsn.{VmInsn}
use Rattle.suifvm_ir.specs.Programs.{VmFunction}
use Rattle.flow_clean.specs.Chains.{AreChained, NonePassesOn, GoesBackToMarks}
use Rattle.flow_clean.specs.Dead.{AreCleaned, NoneIsDead}

-- A function is clean, of one that reads no copies: between the two stand blocks of which the dead instructions were left
-- out, and whose jumps then went on past others. None is left that may be left out and whose write nothing reads behind
-- it, by what is live at the bottoms of the first function; and no jump goes to a block whose only instruction is a jump
pub record IsCleanOf (f g : VmFunction) : Type 0 where
  pub name : g.name ≡ f.name
  pub params : g.params ≡ f.params
  pub temps : g.temps ≡ f.temps
  pub objects : g.objects ≡ f.objects
  pub middle : List (List VmInsn)
  pub live : AreCleaned f.blocks middle
  pub chained : AreChained middle g.blocks
  pub none_dead : (block : ℕ) (insns : List VmInsn) → slice_get g.blocks block ≡ Some insns →
      NoneIsDead (has_at live.bottoms block) insns
  pub none_passes : NonePassesOn g.blocks
  pub marks : GoesBackToMarks g.blocks
