-- The cost of a function: a bound on the words that its Alpha code has, as a sum of fixed numbers. Each Alpha
-- instruction counts 24 words, a call or a division 160 more, and an edge 536 words, since splitting it may add a block
-- of one jump and an edge, each end of which may move values. The numbers leave room for what selection may need.
use Rattle.std.specs.Prelude.{ℕ, ◌+◌, ◌*◌, length, sum_by}
use Rattle.suifvm_ir.specs.declared.insn.VmBinaryOp.{VmBinaryOp}
use Rattle.suifvm_ir.specs.declared.insn.VmBinaryOp.TheVariants.{Divide, Remainder}
use Rattle.suifvm_ir.specs.declared.insn.VmInsn.{VmInsn}
use Rattle.suifvm_ir.specs.declared.insn.VmInsn.TheVariants.{LoadConstant, LoadAddress, Load, Store, Copy, Unary, Binary, Shift, Convert, Compare, Branch, Jump, Call, Return, Mark, Nop}
use Rattle.suifvm_ir.specs.Insns.{targets_of, flows_on_of}
use Rattle.pass_core.specs.Functions.{edge_count}
use Rattle.suifvm_ir.specs.Programs.{VmFunction}

-- the most Alpha instructions that an operator becomes: a division is the call of a routine, with what moves its
-- operands and its result
abbrev pub most_binary_insns : VmBinaryOp → ℕ
most_binary_insns Divide = 8
most_binary_insns Remainder = 8
most_binary_insns op = 4

-- the most Alpha instructions that an instruction becomes
abbrev pub most_insns : VmInsn → ℕ
most_insns (LoadConstant ty destination word) = 6
most_insns (LoadAddress destination place plus) = 1
most_insns (Load ty destination pointer plus) = 8
most_insns (Store ty pointer plus value) = 8
most_insns (Copy to from size align) = 4 * size
most_insns (Unary op ty destination source) = 1
most_insns (Binary op ty destination left right) = most_binary_insns op
most_insns (Shift op ty destination source count) = 3
most_insns (Convert from to destination source) = 1
most_insns (Compare op ty destination left right) = 4
most_insns (Branch op ty source block) = 1
most_insns (Jump block) = 1
most_insns (Call destination callee arguments) = 4 + length arguments
most_insns (Return value) = 2
most_insns Mark = 1
most_insns Nop = 0

-- the most calls that an operator becomes: a division is a call of a routine
abbrev pub most_binary_calls : VmBinaryOp → ℕ
most_binary_calls Divide = 1
most_binary_calls Remainder = 1
most_binary_calls op = 0

-- the most calls that an instruction becomes
abbrev pub most_calls : VmInsn → ℕ
most_calls (Binary op ty destination left right) = most_binary_calls op
most_calls (Call destination callee arguments) = 1
most_calls i = 0

abbrev pub insn_cost : VmInsn → ℕ
insn_cost i = 24 * most_insns i + 160 * most_calls i

abbrev pub cost : VmFunction → ℕ
cost f =
    64 + 24 * f.params + sum_by
    (λ block. sum_by insn_cost block) f.blocks + 536 * edge_count targets_of flows_on_of f.blocks
