-- The code of blocks and functions. Blocks keep their numbers. A function begins with the code that takes its
-- parameters, in front of the code of block 0, which nothing goes back to.
use Rattle.std.specs.Prelude.{ℕ, List, [], ◌∷◌, ◌++◌, map}
use Rattle.suifvm_ir.specs.declared.insn.VmInsn.{VmInsn}
use Rattle.temp_ir.specs.declared.insn.TempInsn.{TempInsn}
use Rattle.selection_code.specs.Instructions.{take_items, selected_insn}

-- the code of instructions, in order
abbrev pub selected_insns : List VmInsn → List TempInsn
selected_insns [] = []
selected_insns (i ∷ insns) = selected_insn i ++ selected_insns insns

-- the code that takes so many parameters
abbrev pub parameter_items : (params : ℕ) → List TempInsn
parameter_items params = take_items 0 params

-- code in front of the first block
abbrev pub in_front : List TempInsn → List (List TempInsn) → List (List TempInsn)
in_front items [] = []
in_front items (block ∷ blocks) = (items ++ block) ∷ blocks

-- the blocks of a function with so many parameters
abbrev pub selected_blocks : (params : ℕ) → List (List VmInsn) → List (List TempInsn)
selected_blocks params blocks = in_front (parameter_items params) (map selected_insns blocks)
