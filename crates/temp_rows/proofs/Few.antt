-- Each register of an instruction can be asked for by a number of 32 bits.
use Rattle.std.proofs.Common.{List, arith}
use Rattle.pass_core.specs.Functions.{AllInsns}
use Rattle.temp_ir.specs.declared.insn.TempInsn.{TempInsn}
use Rattle.temp_ir.specs.Insns.{reads_of, writes_of}
use Rattle.bitvector_flow.specs.Lives.{HasFewRegisters}
use Rattle.alloc_lifetime_ends.proofs.Few.{few}

few_here : (x : TempInsn) → HasFewRegisters reads_of writes_of x
few_here x = let most = few x in let reads = most.0 in let writes = most.1 in (omega (arith, reads), omega (arith, writes))

pub all_few : (blocks : List (List TempInsn)) → AllInsns (HasFewRegisters reads_of writes_of) blocks
all_few blocks k d within j e inside = few_here _
