-- What the numbers in an instruction are by their types.
use Rattle.std.specs.Prelude.{ℕ, ◌-◌, ◌^◌, ◌<◌, All, length, FitsSigned}
use Rattle.std.specs.Int.{w64}
use Rattle.suifvm_ir.specs.declared.insn.VmInsn.{VmInsn}
use Rattle.suifvm_ir.specs.declared.insn.VmInsn.TheVariants.{LoadConstant, Load, Store}
use Rattle.suifvm_ir.specs.Insns.{reads_of, writes_of}

-- a constant is a word of 64 bits, and a displacement is a signed number of 64 bits
abbrev pub HasFields : VmInsn → Type 0
HasFields (LoadConstant ty d word) = word < 2 ^ 64
HasFields (Load ty d pointer plus) = FitsSigned w64 plus
HasFields (Store ty pointer plus value) = FitsSigned w64 plus
HasFields _ = Unit {0}

-- there is room for the number of a register's temporary
abbrev pub IsNumbered : (register : ℕ) → Type 0
IsNumbered register = register < 2 ^ 32 - 4

-- so it is for all registers of an instruction, and its arguments can be counted
pub record HasNumbers (i : VmInsn) : Type 0 where
  pub reads : All IsNumbered (reads_of i)
  pub writes : All IsNumbered (writes_of i)
  pub arguments : length (reads_of i) < 2 ^ 32
