-- What tables stand for.
use Rattle.std.specs.Prelude.{◌≡◌, ℕ, ◌+◌, List, [], ◌∷◌, map, length}
use Rattle.suifvm_ir.specs.declared.insn.VmInsn.{VmInsn}
use Rattle.suifvm_meaning.specs.Behave.{FunctionCode}
use Rattle.suifvm_machine.specs.declared.tables.BlockTable.{BlockTable}
use Rattle.suifvm_machine.specs.declared.tables.FunctionTable.{FunctionTable}
use Rattle.suifvm_machine.specs.declared.tables.ProgramTable.{ProgramTable}

abbrev pub block_insns : BlockTable → List VmInsn
block_insns b = map (λ insn. insn.now) b.insns.items

abbrev pub table_code : FunctionTable → FunctionCode
table_code f = record { sizes = map (λ o. o.size) f.objects.now; blocks = map block_insns f.blocks.items }

abbrev pub program_code : ProgramTable → List FunctionCode
program_code p = map table_code p.functions.items

-- blocks whose instructions are numbered from a number on, up to an end
abbrev pub BlocksAreNumbered : (first : ℕ) → List BlockTable → (end : ℕ) → Type 0
BlocksAreNumbered first [] end = first ≡ end
BlocksAreNumbered first (b ∷ bs) end = (b.first ≡ first) × BlocksAreNumbered (first + length (block_insns b)) bs end

abbrev pub FunctionsAreNumbered : (first : ℕ) → List FunctionTable → (end : ℕ) → Type 0
FunctionsAreNumbered first [] end = first ≡ end
FunctionsAreNumbered first (f ∷ fs) end = BlocksAreNumbered first f.blocks.items f.end × FunctionsAreNumbered f.end fs end
