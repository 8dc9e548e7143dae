-- The end of a layout.
use Rattle.std.specs.Prelude.{List, [], ◌∷◌}
use Rattle.suifvm_ir.specs.declared.insn.VmInsn.{VmInsn}
use Rattle.lowering_code.specs.Layout as code

-- the last block, with what stands at its end
abbrev pub with_end : List VmInsn → code.Layout → code.Layout
with_end [] l = code.end_block l
with_end (i ∷ is) l = with_end is (code.with_insn i l)
