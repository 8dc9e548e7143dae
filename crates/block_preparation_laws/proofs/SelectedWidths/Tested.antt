-- Where branches test values, each call has its arguments still.
use Rattle.std.proofs.Common.{◌≡◌, ℕ, List, map, [], ◌∷◌, refl, arith}
use Rattle.std.specs.Prelude.{All}
use Rattle.std.proofs.lemmas.List.Elements.{All-nil, All-cons, All-head, All-tail}
use Rattle.suifvm_ir.specs.declared.insn.VmInsn.{VmInsn}
use Rattle.suifvm_ir.specs.declared.insn.VmInsn.TheVariants as x
use Rattle.suifvm_ir.specs.Programs.{arguments_of}
use Rattle.pass_core.specs.Functions.{AllInsns}
use Rattle.suifvm_zero_branches.specs.declared.known.RegisterFact.{RegisterFact}
use Rattle.suifvm_zero_branches.specs.declared.known.RegisterFact.TheVariants.{Nothing}
use Rattle.suifvm_zero_branches.specs.Tests.{facts_after, tested_insn, tested_from, tested_block}
use Rattle.block_preparation_laws.specs.selected_widths.Widths.{SelectedCallsAreNarrow}
use Rattle.block_preparation_laws.proofs.SelectedWidths.Selected.{IsFew, calls_narrow}

seen_arguments : (k : RegisterFact) (y : VmInsn) → arguments_of (tested_insn k y) ≡ arguments_of y
seen_arguments k (x.LoadConstant ty d word) = refl
seen_arguments k (x.LoadAddress d place plus) = refl
seen_arguments k (x.Load ty d p plus) = refl
seen_arguments k (x.Store ty p plus a) = refl
seen_arguments k (x.Copy to from size align) = refl
seen_arguments k (x.Unary op ty d a) = refl
seen_arguments k (x.Binary op ty d a b) = refl
seen_arguments k (x.Shift op ty d a b) = refl
seen_arguments k (x.Convert from to d a) = refl
seen_arguments k (x.Compare op ty d a b) = refl
seen_arguments k (x.Branch op ty a block) = refl
seen_arguments k (x.Jump block) = refl
seen_arguments k (x.Call d c arguments) = refl
seen_arguments k (x.Return value) = refl
seen_arguments k x.Mark = refl
seen_arguments k x.Nop = refl

tested_few : (most : ℕ) (k : RegisterFact) (insns : List VmInsn) → All (IsFew most) insns → All (IsFew most) (tested_from k insns)
tested_few most k [] h = All-nil (IsFew most)
tested_few most k (y ∷ insns) h =
    All-cons (IsFew most) (tested_insn k y) (tested_from (facts_after k y) insns)
    (omega (arith, seen_arguments k y, All-head (IsFew most) y insns h))
    (tested_few most (facts_after k y) insns (All-tail (IsFew most) y insns h))

blocks_few : (most : ℕ) (blocks : List (List VmInsn)) → AllInsns (IsFew most) blocks → AllInsns (IsFew most) (map tested_block blocks)
blocks_few most [] h = All-nil (All (IsFew most))
blocks_few most (block ∷ blocks) h =
    All-cons (All (IsFew most)) (tested_block block) (map tested_block blocks)
    (tested_few most Nothing block (All-head (All (IsFew most)) block blocks h))
    (blocks_few most blocks (All-tail (All (IsFew most)) block blocks h))

pub selected_narrow : SelectedCallsAreNarrow
selected_narrow params most blocks h = calls_narrow params most (map tested_block blocks) (blocks_few most blocks h)
