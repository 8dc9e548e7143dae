-- What each pass over one function is given, and what it makes.
use Rattle.pass_core.specs.Functions.{AllInsns}
use Rattle.bitvector_flow.specs.Lives.{HasFewRegisters}
use Rattle.suifvm_ir.specs.Insns.{reads_of, writes_of}
use Rattle.suifvm_ir.specs.Programs.{VmFunction}
use Rattle.flow_clean.specs.Chains.{GoesBackToMarks}
use Rattle.flow_clean.specs.Clean.{IsCleanOf}
use Rattle.flow_clean.specs.Copies.{IsWithoutCopiesOf}
use Rattle.flow_clean.specs.Dead.{MeasuresFall}

-- each target of a block is a later one, or begins with a mark
abbrev pub HasMarks : VmFunction → Type 0
HasMarks f = GoesBackToMarks f.blocks

-- and its instructions can be asked for what they read
pub record CanBeCleaned (f : VmFunction) : Type 0 where
  pub marks : HasMarks f
  pub few : AllInsns (HasFewRegisters reads_of writes_of) f.blocks

-- a function without copies, which takes no more
pub record ReadsOrigins (f g : VmFunction) : Type 0 where
  pub made : IsWithoutCopiesOf f g
  pub measures : MeasuresFall f g

-- a clean function, which takes no more
pub record IsMadeClean (f g : VmFunction) : Type 0 where
  pub made : IsCleanOf f g
  pub measures : MeasuresFall f g
