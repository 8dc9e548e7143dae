-- One more than the greatest register that is named, or 0.
use Rattle.std.specs.Prelude.{ℕ, ◌+◌, max, List, [], ◌∷◌}
use Rattle.suifvm_ir.specs.declared.insn.VmInsn.{VmInsn}
use Rattle.suifvm_ir.specs.Insns.{reads_of, writes_of}

abbrev pub registers_top : List ℕ → ℕ
registers_top [] = 0
registers_top (r ∷ rs) = max (r + 1) (registers_top rs)

abbrev pub insn_top : VmInsn → ℕ
insn_top i = max (registers_top (reads_of i)) (registers_top (writes_of i))

abbrev pub insns_top : List VmInsn → ℕ
insns_top [] = 0
insns_top (i ∷ is) = max (insn_top i) (insns_top is)

abbrev pub blocks_top : List (List VmInsn) → ℕ
blocks_top [] = 0
blocks_top (b ∷ bs) = max (insns_top b) (blocks_top bs)
