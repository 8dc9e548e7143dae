-- What splitting edges adds.
use Rattle.std.proofs.Common.{◌≡◌, ℕ, suc, ◌+◌, List, [], ◌∷◌, length, map, refl, ap, arith}
use Rattle.std.specs.Prelude.{count_by}
use Rattle.std.proofs.lemmas.List.{length-map}
use Rattle.std.proofs.lemmas.List.Sums.{sum_by-cons}
use Rattle.pass_core.specs.Functions.{count_of, last_of, successors_of}
use Rattle.pass_core.specs.Functions as functions
use Rattle.temp_ir.specs.declared.insn.TempInsn.{TempInsn}
use Rattle.temp_ir.specs.Insns.{targets_of, with_block, jump_of, flows_on_of}
use Rattle.temp_ir.specs.Cost.{makes_call, call_count}
use Rattle.cfg.specs.Edges.{successors_from, edge_count}
use Rattle.cfg_edges.specs.Added.{AddsJumps, NoBlocks, SameBlock, NewBlock}
use Rattle.block_pass_laws.specs.back_laws.Bulks.{SplitsGrowOnce}
use Rattle.block_pass_laws.proofs.BackLaws.Bare.{bare_of, edges, calls_stay, edges_stay, edges_by}

abbrev edges_of : List (List TempInsn) → ℕ
edges_of blocks = functions.edge_count targets_of flows_on_of blocks

-- both ways to count the edges
pub same_count : (n : ℕ) (blocks : List (List TempInsn)) → edge_count (successors_from targets_of flows_on_of n blocks) ≡ edges_of blocks
same_count n [] = refl
same_count n (block ∷ blocks) =
    omega (
      arith,
      sum_by-cons (λ (nexts : List ℕ). length nexts) (successors_of targets_of flows_on_of n block) (successors_from targets_of flows_on_of (suc n) blocks),
      edges_by n (last_of block),
      same_count (suc n) blocks,
      sum_by-cons (λ (xs : List TempInsn). edges xs) block blocks,
    )

-- ---- one block more

count_more : (xs : List TempInsn) (blocks : List (List TempInsn)) → count_of (xs ∷ blocks) ≡ length xs + count_of blocks
count_more xs blocks = sum_by-cons (λ (block : List TempInsn). length block) xs blocks

calls_more : (xs : List TempInsn) (blocks : List (List TempInsn)) → call_count (xs ∷ blocks) ≡ count_by makes_call xs + call_count blocks
calls_more xs blocks = sum_by-cons (λ (block : List TempInsn). count_by makes_call block) xs blocks

edges_more : (xs : List TempInsn) (blocks : List (List TempInsn)) → edges_of (xs ∷ blocks) ≡ edges xs + edges_of blocks
edges_more xs blocks = sum_by-cons (λ (block : List TempInsn). edges block) xs blocks

same_length : (xs ys : List TempInsn) → map bare_of xs ≡ map bare_of ys → length xs ≡ length ys
same_length xs ys e = omega (arith, length-map xs bare_of, length-map ys bare_of, ap length e)

-- ---- all blocks

-- each block that comes in is one instruction and one edge, and no call
record AddsBlocks (before after : List (List TempInsn)) : Type 0 where
  pub insns : count_of after + length before ≡ count_of before + length after
  pub calls : call_count after ≡ call_count before
  pub edges : edges_of after + length before ≡ edges_of before + length after

added : (before after : List (List TempInsn)) → AddsJumps targets_of with_block jump_of before after → AddsBlocks before after
added _ _ NoBlocks = record { insns = refl; calls = refl; edges = refl }
added _ _ (SameBlock {before = before} {after = after} block new e rest) =
    let r = added before after rest in
    record {
      insns = omega (arith, r.insns, count_more new after, count_more block before, same_length new block e);
      calls = omega (arith, r.calls, calls_more new after, calls_more block before, calls_stay new block e);
      edges = omega (arith, r.edges, edges_more new after, edges_more block before, edges_stay new block e);
    }
added _ _ (NewBlock {before = before} {after = after} to rest) =
    let r = added before after rest in
    let new : List TempInsn = jump_of to ∷ [] in
    record {
      insns = omega (arith, r.insns, count_more new after);
      calls = omega (arith, r.calls, calls_more new after);
      edges = omega (arith, r.edges, edges_more new after);
    }

pub splits_grow : SplitsGrowOnce
splits_grow before after adds few =
    let r = added before after adds in
    let insns = r.insns in
    let calls = r.calls in
    let edges = r.edges in
    record {
      blocks = omega (arith, few, same_count 0 before);
      insns = omega (arith, insns, few, same_count 0 before);
      edges = omega (arith, edges, few, same_count 0 before);
      calls = omega (arith, calls);
    }
