-- Removing blocks adds nothing.
use Rattle.std.proofs.Common.{◌≡◌, ℕ, suc, ◌+◌, ◌≤◌, List, [], ◌∷◌, ◌++◌, length, Bool, true, false, Option, Some, None, refl, sym, ap, subst, arith}
use Rattle.std.specs.Prelude.{cond, sum_by, if◌then◌else◌}
use Rattle.std.proofs.lemmas.List.{length-append}
use Rattle.std.proofs.lemmas.List.Sums.{sum_by-cons}
use Rattle.pass_core.specs.Functions.{count_of, last_of, successors_after, successors_of}
use Rattle.pass_core.specs.Functions as functions
use Rattle.suifvm_ir.specs.Insns as vm
use Rattle.suifvm_ir.specs.Cost.{insn_cost}
use Rattle.suifvm_ir.specs.declared.insn.VmInsn.{VmInsn}
use Rattle.suifvm_ir.specs.declared.insn.VmInsn.TheVariants as x
use Rattle.temp_ir.specs.declared.insn.TempInsn.{TempInsn}
use Rattle.temp_ir.specs.Insns.{targets_of, with_block}
use Rattle.temp_ir.specs.Cost.{makes_call}
use Rattle.cfg.specs.Edges.{successors_from, edge_count}
use Rattle.cfg.specs.Walks.{zero_targets}
use Rattle.cfg.specs.Measures.{measure_of, NoMeasureGrows}
use Rattle.block_pass_laws.specs.back_laws.Bulks.{RemovalsDoNotGrow, RemovalKeepsCost}
use Rattle.block_pass_laws.proofs.BackLaws.Bare.{bare_calls}
use Rattle.block_pass_laws.proofs.BackLaws.Splits.{same_count}

-- each instruction counts one
module _ {I : Type 0} where
  one_each : I → ℕ
  one_each i = 1

  block_count : (xs : List I) → sum_by one_each xs ≡ length xs
  unfolding one_each
  block_count [] = refl
  block_count (x ∷ xs) = omega (arith, block_count xs, sum_by-cons one_each x xs)

  whole_count : (blocks : List (List I)) → measure_of one_each blocks ≡ count_of blocks
  whole_count [] = refl
  whole_count (xs ∷ blocks) =
      omega (
        arith,
        block_count xs,
        whole_count blocks,
        sum_by-cons (λ (block : List I). sum_by one_each block) xs blocks,
        sum_by-cons (λ (block : List I). length block) xs blocks,
      )

  pub no_more : (targets : I → List ℕ) (with_target : I → ℕ → ℕ → I) (before after : List (List I)) → NoMeasureGrows targets with_target before after → count_of after ≤ count_of before
  unfolding one_each
  no_more targets with_target before after grows =
      omega (arith, grows one_each (λ i. refl), whole_count before, whole_count after)

pub removals_grow : RemovalsDoNotGrow
removals_grow before after grows few blocks =
    let insns = no_more targets_of with_block before after grows in
    let calls = grows (λ i. cond (makes_call i) 1 0) (λ i. ap (λ b. cond b 1 0) (bare_calls i)) in
    record {
      blocks = omega (arith, blocks);
      insns = omega (arith, insns);
      edges = omega (arith, few, same_count 0 before, same_count 0 after);
      calls = omega (arith, calls);
    }

-- ---- functions over virtual registers

bare_cost : (i : VmInsn) → insn_cost (zero_targets vm.targets_of vm.with_block i) ≡ insn_cost i
bare_cost (x.LoadConstant ty d word) = refl
bare_cost (x.LoadAddress d place plus) = refl
bare_cost (x.Load ty d p plus) = refl
bare_cost (x.Store ty p plus b) = refl
bare_cost (x.Copy to from size align) = refl
bare_cost (x.Unary op ty d b) = refl
bare_cost (x.Binary op ty d b c) = refl
bare_cost (x.Shift op ty d b c) = refl
bare_cost (x.Convert from to d b) = refl
bare_cost (x.Compare op ty d b c) = refl
bare_cost (x.Branch op ty a block) = refl
bare_cost (x.Jump block) = refl
bare_cost (x.Call d c arguments) = refl
bare_cost (x.Return value) = refl
bare_cost x.Mark = refl
bare_cost x.Nop = refl

-- how many edges leave a block does not hang on its number
edges_by : (n : ℕ) (o : Option VmInsn) → length (successors_after vm.targets_of vm.flows_on_of n o) ≡ length (successors_after vm.targets_of vm.flows_on_of 0 o)
edges_by n None = refl
edges_by n (Some i) = by_flow (vm.flows_on_of i)
  where
    by_flow : (b : Bool) → length (vm.targets_of i ++ (if b then suc n ∷ [] else [])) ≡ length (vm.targets_of i ++ (if b then 1 ∷ [] else []))
    by_flow true = omega (arith, length-append (vm.targets_of i) (suc n ∷ []), length-append (vm.targets_of i) (1 ∷ []))
    by_flow false = refl

vm_count : (n : ℕ) (blocks : List (List VmInsn)) → edge_count (successors_from vm.targets_of vm.flows_on_of n blocks) ≡ functions.edge_count vm.targets_of vm.flows_on_of blocks
vm_count n [] = refl
vm_count n (block ∷ blocks) =
    omega (
      arith,
      sum_by-cons (λ (nexts : List ℕ). length nexts) (successors_of vm.targets_of vm.flows_on_of n block) (successors_from vm.targets_of vm.flows_on_of (suc n) blocks),
      edges_by n (last_of block),
      vm_count (suc n) blocks,
      sum_by-cons (λ (xs : List VmInsn). length (successors_of vm.targets_of vm.flows_on_of 0 xs)) block blocks,
    )

pub removal_keeps_cost : RemovalKeepsCost
removal_keeps_cost f g params grows few =
    omega (arith, params, grows insn_cost bare_cost, few, vm_count 0 f.blocks, vm_count 0 g.blocks)
