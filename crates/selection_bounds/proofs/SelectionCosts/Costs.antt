-- The bulk of the selected code of a function is at most the cost of the function.
use Rattle.std.proofs.Common.{◌≡◌, ℕ, ◌+◌, ◌*◌, ◌≤◌, List, [], ◌∷◌, ◌++◌, length, map, sum_by, true, All, refl, sym, subst, arith, length-append}
use Rattle.std.specs.Prelude.{count_by}
use Rattle.std.proofs.lemmas.List.Sums.{sum_by-cons}
use Rattle.std.proofs.lemmas.List.Elements.{All-head, All-tail}
use Rattle.suifvm_ir.specs.declared.insn.VmInsn.{VmInsn}
use Rattle.suifvm_ir.specs.Insns as vm
use Rattle.pass_core.specs.Functions.{EndsLate, count_of, edge_count}
use Rattle.suifvm_ir.specs.Cost.{insn_cost}
use Rattle.temp_ir.specs.declared.insn.TempInsn.{TempInsn}
use Rattle.temp_ir.specs.Insns.{targets_of, flows_on_of}
use Rattle.temp_ir.specs.Cost.{makes_call, call_count}
use Rattle.selection_code.specs.Instructions.{selected_insn}
use Rattle.selection_code.specs.Functions.{selected_insns, parameter_items, selected_blocks}
use Rattle.selection_bounds.proofs.SelectionShapes.Plain.{are_plain, takes_plain}
use Rattle.selection_bounds.specs.selection_costs.Costs.{CodeCostsLittle}
use Rattle.selection_bounds.proofs.SelectionCosts.Lengths.{insn_short, length-take_items}
use Rattle.selection_bounds.proofs.SelectionCosts.Calls.{calls-append, insn_calls, takes_calls}
use Rattle.selection_bounds.proofs.SelectionCosts.Edges.{edges, vm_edges, block_edges}

insns_cost : (insns : List VmInsn) → 24 * length (selected_insns insns) + 160 * count_by makes_call (selected_insns insns) ≤ sum_by insn_cost insns
insns_cost [] = omega arith
insns_cost (y ∷ insns) =
    omega (arith, length-append (selected_insn y) (selected_insns insns), calls-append (selected_insn y) (selected_insns insns), insn_short y, insn_calls y, insns_cost insns, sum_by-cons insn_cost y insns)

-- ---- blocks

abbrev block_bulk : List TempInsn → ℕ
block_bulk xs = 24 * length xs + 160 * count_by makes_call xs + 536 * edges xs

abbrev bulk_of : List (List TempInsn) → ℕ
bulk_of blocks = 24 * count_of blocks + 160 * call_count blocks + 536 * edge_count targets_of flows_on_of blocks

abbrev cost_of : List (List VmInsn) → ℕ
cost_of blocks = sum_by (λ block. sum_by insn_cost block) blocks + 536 * edge_count vm.targets_of vm.flows_on_of blocks

bulk_more : (xs : List TempInsn) (blocks : List (List TempInsn)) → bulk_of (xs ∷ blocks) ≡ block_bulk xs + bulk_of blocks
bulk_more xs blocks =
    omega (
      arith,
      sum_by-cons (λ (block : List TempInsn). length block) xs blocks,
      sum_by-cons (λ (block : List TempInsn). count_by makes_call block) xs blocks,
      sum_by-cons (λ (block : List TempInsn). edges block) xs blocks,
    )

cost_more : (insns : List VmInsn) (blocks : List (List VmInsn)) → cost_of (insns ∷ blocks) ≡ sum_by insn_cost insns + 536 * vm_edges insns + cost_of blocks
cost_more insns blocks =
    omega (arith, sum_by-cons (λ (block : List VmInsn). sum_by insn_cost block) insns blocks, sum_by-cons (λ (block : List VmInsn). vm_edges block) insns blocks)

block_cost : (before : List TempInsn) (insns : List VmInsn) → are_plain before ≡ true → EndsLate vm.targets_of vm.flows_on_of insns →
    block_bulk (before ++ selected_insns insns) ≤ 24 * length before + 160 * count_by makes_call before + (sum_by insn_cost insns + 536 * vm_edges insns)
block_cost before insns p late =
    omega (arith, length-append before (selected_insns insns), calls-append before (selected_insns insns), insns_cost insns, block_edges insns before late p)

blocks_cost : (blocks : List (List VmInsn)) → All (EndsLate vm.targets_of vm.flows_on_of) blocks → bulk_of (map selected_insns blocks) ≤ cost_of blocks
blocks_cost [] h = omega arith
blocks_cost (insns ∷ blocks) h =
    omega (
      arith,
      bulk_more (selected_insns insns) (map selected_insns blocks),
      cost_more insns blocks,
      block_cost [] insns refl (All-head (EndsLate vm.targets_of vm.flows_on_of) insns blocks h),
      blocks_cost blocks (All-tail (EndsLate vm.targets_of vm.flows_on_of) insns blocks h),
    )

-- ---- functions

function_cost : (params : ℕ) (blocks : List (List VmInsn)) → All (EndsLate vm.targets_of vm.flows_on_of) blocks → bulk_of (selected_blocks params blocks) ≤ 24 * params + cost_of blocks
function_cost params [] h = omega arith
function_cost params (insns ∷ blocks) h =
    omega (
      arith,
      bulk_more (parameter_items params ++ selected_insns insns) (map selected_insns blocks),
      cost_more insns blocks,
      block_cost (parameter_items params) insns (takes_plain 0 params) (All-head (EndsLate vm.targets_of vm.flows_on_of) insns blocks h),
      length-take_items 0 params,
      takes_calls 0 params,
      blocks_cost blocks (All-tail (EndsLate vm.targets_of vm.flows_on_of) insns blocks h),
    )

pub costs_little : CodeCostsLittle
costs_little f g same =
    omega (arith, subst (λ bs. bulk_of bs ≤ 24 * f.params + cost_of f.blocks) (sym same) (function_cost f.params f.blocks f.straight))
