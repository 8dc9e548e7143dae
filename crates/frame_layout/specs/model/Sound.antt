-- What is known of a layout while items are made by it.
use Rattle.std.specs.Prelude.{◌≡◌, ◌+◌, ◌<◌, ◌^◌, List, All, Some, length}
use Rattle.pass_core.specs.Functions.{count_of, last_of}
use Rattle.temp_ir.specs.declared.insn.TempInsn.{TempInsn}
use Rattle.temp_ir.specs.declared.insn.TempInsn.TheVariants.{Jump}
use Rattle.frame_emitter.specs.declared.layout.FrameLayout.{FrameLayout}
use Rattle.frame_emitter.specs.Layouts.{setting_in}
use Rattle.frame_emitter.specs.Settings.{IsFit}
use Rattle.frame_emitter.specs.Moves.{IsMove}

-- a jump stands last in its block
abbrev pub GoesNext : List TempInsn → TempInsn → Type 0
GoesNext insns (Jump target) = last_of insns ≡ Some (Jump target)
GoesNext insns _ = Unit {0}

pub record IsSound (l : FrameLayout) : Type 0 where
  pub moves : All (All (IsMove l.allocation.now.func.temps)) l.allocation.now.at
  pub edge_moves : All (λ e. All (IsMove l.allocation.now.func.temps) e.code) l.allocation.now.edges
  pub registers : All (All (λ r. r < 32)) l.allocation.now.regs
  pub fit : All (All (IsFit (setting_in l))) l.blocks.now
  pub jumps : All (λ insns. All (GoesNext insns) insns) l.blocks.now
  pub few_blocks : length l.blocks.now < 2 ^ 30
  pub few_insns : count_of l.blocks.now < 2 ^ 30
  pub labels : l.first_label + length l.blocks.now < 2 ^ 32
