-- The calls of selected code, and the argument places that it writes.
use Rattle.std.proofs.Common.{ℕ, ◌+◌, ◌≤◌, List, [], ◌∷◌, ◌++◌, length, Option, arith}
use Rattle.std.specs.Prelude.{All}
use Rattle.std.proofs.lemmas.Bool.{lt-ltb}
use Rattle.std.proofs.lemmas.List.Elements.{All-nil, All-cons, All-append}
use Rattle.suifvm_ir.specs.declared.insn.VmCallee.TheVariants as callee
use Rattle.suifvm_ir.specs.declared.insn.VmInsn.{VmInsn}
use Rattle.suifvm_ir.specs.declared.insn.VmInsn.TheVariants as x
use Rattle.suifvm_ir.specs.Programs.{arguments_of}
use Rattle.pass_core.specs.Functions.{AllInsns}
use Rattle.temp_ir.specs.declared.insn.TempInsn.TheVariants as i
use Rattle.selection_code.specs.Instructions.{pass_items, result_items, selected_insn}
use Rattle.selection_code.specs.Functions.{selected_insns, parameter_items, selected_blocks}
use Rattle.alloc_model.specs.Effect.{widest_in, widest_call}
use Rattle.block_pass_laws.specs.temp_walk_laws.SameRuns.{WritesWithin}
use Rattle.block_pass_laws.specs.argument_laws.Kept.{IsWithinBlock}
use Rattle.selection_bounds.proofs.SelectionShapes.Walk.{IsKept, all_blocks, insns_kept, parameters_kept, blocks_kept}
use Rattle.block_preparation_laws.specs.selected_widths.Widths.{SelectedBlocksAreWithin}
use Rattle.block_preparation_laws.proofs.SelectedWidths.Widths.{widest_append, IsNarrow, calls_below, bare_width, bare_within}

-- ---- no call is wider than that of an instruction over registers

abbrev pub IsFew : ℕ → VmInsn → Type 0
IsFew most y = arguments_of y ≤ most

narrow_kept : (most : ℕ) → IsKept (IsFew most) (IsNarrow most)
narrow_kept most = record {
  bare = λ z e. omega (arith, bare_width z e);
  address = λ d place plus q. omega arith;
  branch = λ op ty a block q. omega arith;
  jump = λ block q. omega arith;
  argument = λ d k arguments q number t lt. omega arith;
  call = λ d k arguments q. q;
  returns = λ value with_value q. omega arith;
}

pub calls_narrow : (params most : ℕ) (blocks : List (List VmInsn)) → AllInsns (IsFew most) blocks → widest_call (selected_blocks params blocks) ≤ most
calls_narrow params most blocks h =
    calls_below most (selected_blocks params blocks) (blocks_kept (IsFew most) (IsNarrow most) (narrow_kept most) params (λ number t lt. omega arith) blocks h)

-- ---- a call stands behind the writes of its arguments

call_wide : (d : Option ℕ) (k : ℕ) (arguments : List ℕ) → length arguments ≤ widest_in (selected_insn (x.Call d (callee.Function k) arguments))
call_wide d k arguments = omega (arith, widest_append (pass_items 0 arguments) (i.Call k (length arguments) ∷ result_items d))

-- an instruction whose code has no call that is wider
abbrev Calls : ℕ → VmInsn → Type 0
Calls w y = widest_in (selected_insn y) ≤ w

each_calls : (w : ℕ) (insns : List VmInsn) → widest_in (selected_insns insns) ≤ w → All (Calls w) insns
each_calls w [] le = All-nil (Calls w)
each_calls w (y ∷ insns) le =
    let s = widest_append (selected_insn y) (selected_insns insns) in
    All-cons (Calls w) y insns (omega (arith, le, s)) (each_calls w insns (omega (arith, le, s)))

within_kept : (w : ℕ) → IsKept (Calls w) (WritesWithin w)
within_kept w = record {
  bare = bare_within w;
  address = λ d place plus q. tt;
  branch = λ op ty a block q. tt;
  jump = λ block q. tt;
  argument = λ d k arguments q number t lt. lt-ltb (number + 6) w (omega (arith, call_wide d k arguments, q, lt));
  call = λ d k arguments q. tt;
  returns = λ value with_value q. tt;
}

insns_within : (w : ℕ) (insns : List VmInsn) → widest_in (selected_insns insns) ≤ w → All (WritesWithin w) (selected_insns insns)
insns_within w insns le = insns_kept (Calls w) (WritesWithin w) (within_kept w) insns (each_calls w insns le)

first_within : (params : ℕ) (block : List VmInsn) → IsWithinBlock (parameter_items params ++ selected_insns block)
first_within params block =
    let w = widest_in (parameter_items params ++ selected_insns block) in
    All-append (WritesWithin w) (parameter_items params) (selected_insns block)
    (parameters_kept (Calls w) (WritesWithin w) (within_kept w) params (λ number t lt. tt))
    (insns_within w block (omega (arith, widest_append (parameter_items params) (selected_insns block))))

abbrev IsAny : List VmInsn → Type 0
IsAny block = Unit {0}

pub selected_within : SelectedBlocksAreWithin
selected_within params blocks =
    all_blocks IsAny IsWithinBlock (λ block h. insns_within (widest_in (selected_insns block)) block (omega arith)) params
    (λ block h. first_within params block) blocks (λ k d lt. tt)
