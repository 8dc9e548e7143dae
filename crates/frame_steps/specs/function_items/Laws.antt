-- Where the items of a function stand in the image of an assembly.
use Rattle.std.specs.Prelude.{◌≡◌, ℕ, suc, List, ◌++◌, drop, Some, slice_get}
use Rattle.alpha_isa.specs.Program.{Program, IsLawful}
use Rattle.alpha_items.specs.declared.item.AsmItem.{AsmItem}
use Rattle.alpha_items.specs.Assembly.{Assembly, IsWhole}
use Rattle.alpha_items.specs.Layout.{label_place, text_words}
use Rattle.alpha_items.specs.Words.{Words}
use Rattle.frame_steps.specs.item_steps.Standing.{Labels, ItemsAt}
use Rattle.temp_ir.specs.declared.insn.TempInsn.{TempInsn}
use Rattle.alloc_model.specs.Places.{Plan}
use Rattle.frame_steps.specs.call_parts.Items.{entry_part, exit_part}
use Rattle.frame_steps.specs.instruction_items.Items.{ItemSetting, function_label}
use Rattle.frame_steps.specs.function_items.Items.{block_items, blocks_items, exit_items, function_items}

-- the entry part of a function stands behind its label, each block behind its own, and the exit part behind its
pub record FunctionStands (p : Program) (there : Labels) (a : Plan) (g : ItemSetting) (number : ℕ) (rest : List AsmItem)
    (end : ℕ) : Type 0 where
  pub entry : ItemsAt p there (there (function_label number))
      (entry_part g.shape g.shape.saves (blocks_items a g 0 a.function.blocks (exit_items g rest))) end
  pub blocks : (block : ℕ) (insns : List TempInsn) → slice_get a.function.blocks block ≡ Some insns →
      ItemsAt p there (there (g.block_label block))
      (block_items a g block insns
      (blocks_items a g (suc block) (drop (suc block) a.function.blocks) (exit_items g rest)))
      end
  pub exit : ItemsAt p there (there g.exit_label) (exit_part g.shape g.shape.saves rest) end

-- so do those of each function of an assembly, in its image
abbrev pub FunctionsStand : Type 0
FunctionsStand =
    (asm : Assembly) (p : Program) → IsLawful p → IsWhole asm → (w : Words asm p) →
    (front rest : List AsmItem) (a : Plan) (g : ItemSetting) (number : ℕ) →
    asm.items ≡ front ++ function_items a g number rest →
    FunctionStands p (label_place asm.items w.far) a g number rest (text_words asm.items w.far)
