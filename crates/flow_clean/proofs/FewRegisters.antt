-- The functions of a program within the greatest size can be cleaned: their instructions name few registers.
use Rattle.std.proofs.Common.{◌+◌, ◌^◌, ◌≤◌, List, [], ◌∷◌, length, sum_by, Option, Some, None, All, arith}
use Rattle.std.proofs.lemmas.List.Sums.{sum_by-cons}
use Rattle.std.proofs.lemmas.List.Elements.{All-nil, All-cons, All-head, All-tail, All-weaker}
use Rattle.mem_objects.specs.declared.DataObject.{DataObject}
use Rattle.pass_core.specs.Functions.{AllInsns}
use Rattle.bitvector_flow.specs.Lives.{HasFewRegisters}
use Rattle.suifvm_ir.specs.declared.insn.TypedRegister.{TypedRegister}
use Rattle.suifvm_ir.specs.declared.insn.VmInsn.{VmInsn}
use Rattle.suifvm_ir.specs.declared.insn.VmInsn.TheVariants as x
use Rattle.suifvm_ir.specs.Insns.{reads_of, writes_of}
use Rattle.suifvm_ir.specs.Programs.{VmFunction, IsLawfulFunction, weight_of, function_size, program_size}
use Rattle.flow_clean.specs.model.Passes.{HasMarks, CanBeCleaned}
use Rattle.flow_clean.proofs.WantedSets.{one_write}

few_returned : (value : Option TypedRegister) → length (reads_of (x.Return value)) ≤ 3
few_returned None = omega arith
few_returned (Some value) = omega arith

few_reads : (i : VmInsn) → length (reads_of i) ≤ 3 + weight_of i
few_reads (x.LoadConstant ty d word) = omega arith
few_reads (x.LoadAddress d place plus) = omega arith
few_reads (x.Load ty d p plus) = omega arith
few_reads (x.Store ty p plus b) = omega arith
few_reads (x.Copy to from size align) = omega arith
few_reads (x.Unary op ty d b) = omega arith
few_reads (x.Binary op ty d b c) = omega arith
few_reads (x.Shift op ty d b c) = omega arith
few_reads (x.Convert from to d b) = omega arith
few_reads (x.Compare op ty d b c) = omega arith
few_reads (x.Branch op ty source block) = omega arith
few_reads (x.Jump block) = omega arith
few_reads (x.Call d c arguments) = omega arith
few_reads (x.Return value) = omega (arith, few_returned value)
few_reads x.Mark = omega arith
few_reads x.Nop = omega arith

abbrev Few : VmInsn → Type 0
Few i = HasFewRegisters reads_of writes_of i

few_one : (i : VmInsn) → weight_of i ≤ 2 ^ 24 → Few i
few_one i small = (omega (arith, few_reads i, small), omega (arith, one_write i))

few_block : (insns : List VmInsn) → sum_by weight_of insns ≤ 2 ^ 24 → All Few insns
few_block [] small = All-nil Few
few_block (i ∷ insns) small =
    All-cons Few i insns (few_one i (omega (arith, small, sum_by-cons weight_of i insns))) (few_block insns (omega (arith, small, sum_by-cons weight_of i insns)))

few_blocks : (blocks : List (List VmInsn)) → sum_by (λ block. sum_by weight_of block) blocks ≤ 2 ^ 24 → AllInsns Few blocks
few_blocks [] small = All-nil (All Few)
few_blocks (block ∷ blocks) small =
    All-cons (All Few) block blocks (few_block block (omega (arith, small, sum_by-cons (λ b. sum_by weight_of b) block blocks)))
    (few_blocks blocks (omega (arith, small, sum_by-cons (λ b. sum_by weight_of b) block blocks)))

pub few_registers : (f : VmFunction) → function_size f ≤ 2 ^ 24 → AllInsns Few f.blocks
few_registers f small = few_blocks f.blocks (omega (arith, small))

module _ (whole : List VmFunction) (globals : List DataObject) where
  pub all_marked : (fs : List VmFunction) → All (IsLawfulFunction whole globals) fs → All HasMarks fs
  all_marked fs lawful = All-weaker (IsLawfulFunction whole globals) HasMarks (λ f l. l.marks) fs lawful

  pub can_be_cleaned : (fs : List VmFunction) → program_size fs ≤ 2 ^ 24 → All (IsLawfulFunction whole globals) fs → All CanBeCleaned fs
  can_be_cleaned [] size lawful = All-nil CanBeCleaned
  can_be_cleaned (f ∷ fs) size lawful =
      All-cons CanBeCleaned f fs
      (record { marks = (All-head (IsLawfulFunction whole globals) f fs lawful).marks; few = few_registers f (omega (arith, size, sum_by-cons function_size f fs)) })
      (can_be_cleaned fs (omega (arith, size, sum_by-cons function_size f fs)) (All-tail (IsLawfulFunction whole globals) f fs lawful))
