-- What is asked where the blocks of a function are selected.
use Rattle.std.proofs.Common.{ℕ, ◌+◌, ◌^◌, ◌<◌, ◌≤◌, List, [], ◌∷◌, length, sum_by, Option, Some, None, All, arith}
use Rattle.std.proofs.lemmas.List.Sums.{sum_by-cons}
use Rattle.std.proofs.lemmas.List.Elements.{All-nil, All-cons, All-head, All-tail}
use Rattle.pass_core.specs.Functions.{AllInsns, UsesRegisters, count_of}
use Rattle.suifvm_ir.specs.Insns.{reads_of, writes_of}
use Rattle.suifvm_ir.specs.Programs.{VmFunction, IsLawfulFunction, weight_of, function_size, program_size}
use Rattle.mem_objects.specs.declared.DataObject.{DataObject}
use Rattle.suifvm_ir.specs.declared.insn.TypedRegister.{TypedRegister}
use Rattle.suifvm_ir.specs.declared.insn.VmInsn.{VmInsn}
use Rattle.suifvm_ir.specs.declared.insn.VmInsn.TheVariants as x
use Rattle.selection_code.specs.Fields.{IsNumbered, HasNumbers}
use Rattle.selection_code.specs.Functions.{selected_blocks}
use Rattle.selection_bounds.proofs.SelectionCosts.Lengths.{code_short}
use Rattle.alpha_select.specs.model.Limits.{IsWithinLimits}

few_returned : (value : Option TypedRegister) → length (reads_of (x.Return value)) ≤ 3
few_returned None = omega arith
few_returned (Some value) = omega arith

few_reads : (y : VmInsn) → length (reads_of y) ≤ 3 + weight_of y
few_reads (x.LoadConstant ty d word) = omega arith
few_reads (x.LoadAddress d place plus) = omega arith
few_reads (x.Load ty d p plus) = omega arith
few_reads (x.Store ty p plus a) = omega arith
few_reads (x.Copy to from size align) = omega arith
few_reads (x.Unary op ty d a) = omega arith
few_reads (x.Binary op ty d a b) = omega arith
few_reads (x.Shift op ty d a b) = omega arith
few_reads (x.Convert from to d a) = omega arith
few_reads (x.Compare op ty d a b) = omega arith
few_reads (x.Branch op ty a block) = omega arith
few_reads (x.Jump block) = omega arith
few_reads (x.Call d c arguments) = omega arith
few_reads (x.Return value) = omega (arith, few_returned value)
few_reads x.Mark = omega arith
few_reads x.Nop = omega arith

module _ (temps : ℕ) (le : temps ≤ 2 ^ 24) where
  below : (rs : List ℕ) → All (λ r. r < temps) rs → All IsNumbered rs
  below rs h = λ k d lt. omega (arith, le, h k d lt)

  insn_numbers : (y : VmInsn) → weight_of y ≤ 2 ^ 24 → UsesRegisters reads_of writes_of temps y → HasNumbers y
  insn_numbers y small h = record {
    reads = below (reads_of y) h.0;
    writes = below (writes_of y) h.1;
    arguments = omega (arith, few_reads y, small);
  }

  block_numbers : (insns : List VmInsn) → sum_by weight_of insns ≤ 2 ^ 24 → All (UsesRegisters reads_of writes_of temps) insns → All HasNumbers insns
  block_numbers [] small h = All-nil HasNumbers
  block_numbers (y ∷ insns) small h =
      All-cons HasNumbers y insns (insn_numbers y (omega (arith, small, sum_by-cons weight_of y insns)) (All-head (UsesRegisters reads_of writes_of temps) y insns h))
      (block_numbers insns (omega (arith, small, sum_by-cons weight_of y insns)) (All-tail (UsesRegisters reads_of writes_of temps) y insns h))

  blocks_numbers : (blocks : List (List VmInsn)) → sum_by (λ block. sum_by weight_of block) blocks ≤ 2 ^ 24 → AllInsns (UsesRegisters reads_of writes_of temps) blocks → AllInsns HasNumbers blocks
  blocks_numbers [] small h = All-nil (All HasNumbers)
  blocks_numbers (block ∷ blocks) small h =
      All-cons (All HasNumbers) block blocks
      (block_numbers block (omega (arith, small, sum_by-cons (λ b. sum_by weight_of b) block blocks)) (All-head (All (UsesRegisters reads_of writes_of temps)) block blocks h))
      (blocks_numbers blocks (omega (arith, small, sum_by-cons (λ b. sum_by weight_of b) block blocks)) (All-tail (All (UsesRegisters reads_of writes_of temps)) block blocks h))

pub numbers : (f : VmFunction) → IsWithinLimits f → AllInsns HasNumbers f.blocks
numbers f w = blocks_numbers f.temps w.temps f.blocks (omega (arith, w.size)) f.registers

-- each function of a lawful program within the bounds is within them
pub within : (fs all : List VmFunction) (globals : List DataObject) → program_size fs ≤ 2 ^ 24 → All (λ (f : VmFunction). f.temps ≤ 2 ^ 24) fs → All (IsLawfulFunction all globals) fs → All IsWithinLimits fs
within [] all globals size temps lawful = All-nil IsWithinLimits
within (f ∷ fs) all globals size temps lawful =
    All-cons IsWithinLimits f fs
    (record {
      params = (All-head (IsLawfulFunction all globals) f fs lawful).parameters;
      temps = All-head (λ (g : VmFunction). g.temps ≤ 2 ^ 24) f fs temps;
      size = omega (arith, size, sum_by-cons function_size f fs);
    })
    (within fs all globals (omega (arith, size, sum_by-cons function_size f fs)) (All-tail (λ (g : VmFunction). g.temps ≤ 2 ^ 24) f fs temps) (All-tail (IsLawfulFunction all globals) f fs lawful))

-- ---- the size of the code

pub few_blocks : (f : VmFunction) → IsWithinLimits f → length (selected_blocks f.params f.blocks) < 2 ^ 30
few_blocks f w = omega (arith, (code_short f).count, w.size)

pub few_insns : (f : VmFunction) → IsWithinLimits f → count_of (selected_blocks f.params f.blocks) < 2 ^ 30
few_insns f w = omega (arith, (code_short f).count, w.size)
