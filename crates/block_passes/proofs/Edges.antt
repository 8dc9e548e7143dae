-- At most two edges leave a block.
use Rattle.std.proofs.Common.{ℕ, suc, ◌*◌, ◌≤◌, List, [], ◌∷◌, length, Option, Some, None, arith}
use Rattle.std.proofs.lemmas.List.Sums.{sum_by-cons}
use Rattle.pass_core.specs.Functions.{last_of, successors_after, successors_of}
use Rattle.temp_ir.specs.declared.insn.TempInsn.{TempInsn}
use Rattle.temp_ir.specs.declared.insn.TempInsn.TheVariants as i
use Rattle.temp_ir.specs.Insns.{targets_of, flows_on_of}
use Rattle.cfg.specs.Edges.{successors_from, edge_count}

two_leave : (n : ℕ) (o : Option TempInsn) → length (successors_after targets_of flows_on_of n o) ≤ 2
two_leave n None = omega arith
two_leave n (Some (i.Address op d base plus)) = omega arith
two_leave n (Some (i.ObjectAddress d place plus)) = omega arith
two_leave n (Some (i.Load op d p plus)) = omega arith
two_leave n (Some (i.Store op a p plus)) = omega arith
two_leave n (Some (i.Operate op d a b)) = omega arith
two_leave n (Some (i.Extend op d a)) = omega arith
two_leave n (Some (i.ToFixed register a)) = omega arith
two_leave n (Some (i.FromFixed d register)) = omega arith
two_leave n (Some (i.SetFixed register number)) = omega arith
two_leave n (Some (i.WriteArgument number a)) = omega arith
two_leave n (Some (i.ReadArgument d number)) = omega arith
two_leave n (Some (i.Branch op a block)) = omega arith
two_leave n (Some (i.Jump block)) = omega arith
two_leave n (Some (i.Call function arguments)) = omega arith
two_leave n (Some (i.Divide routine)) = omega arith
two_leave n (Some (i.Serve service)) = omega arith
two_leave n (Some (i.Return with_value)) = omega arith
two_leave n (Some i.Mark) = omega arith

pub few_edges : (n : ℕ) (blocks : List (List TempInsn)) → edge_count (successors_from targets_of flows_on_of n blocks) ≤ 2 * length blocks
few_edges n [] = omega arith
few_edges n (block ∷ blocks) =
    omega (
      arith,
      sum_by-cons (λ (nexts : List ℕ). length nexts) (successors_of targets_of flows_on_of n block) (successors_from targets_of flows_on_of (suc n) blocks),
      two_leave n (last_of block),
      few_edges (suc n) blocks,
    )
