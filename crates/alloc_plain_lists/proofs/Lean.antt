-- Before an instruction stand one store and two loads at most, and on an edge one store.
use Rattle.std.proofs.Common.{◌≡◌, ℕ, zero, suc, ◌+◌, ◌≤◌, List, [], ◌∷◌, ◌++◌, Bool, true, false, Option, Some, None, if◌then◌else◌, sym, subst, length, arith}
use Rattle.std.specs.Prelude.{All, slice_index_or, flat_map}
use Rattle.std.proofs.lemmas.List.Elements.{All-nil, All-cons, All-head, All-tail, All-append, All-map}
use Rattle.pass_core.specs.Functions.{last_of, successors_of}
use Rattle.temp_ir.specs.declared.insn.TempInsn.{TempInsn}
use Rattle.temp_ir.specs.Insns.{reads_of, writes_of, targets_of, flows_on_of}
use Rattle.temp_ir.specs.Programs.{TempFn}
use Rattle.alloc_model.specs.declared.allocation.Allocation.{Allocation}
use Rattle.alloc_model.specs.declared.allocation.EdgeCode.{EdgeCode}
use Rattle.alloc_model.specs.declared.allocation.Transfer.{Transfer}
use Rattle.temp_ir.specs.Cost.{makes_call}
use Rattle.alloc_model.specs.Temporaries.{code_of}
use Rattle.alloc_model.specs.Faithful.{sorted_targets}
use Rattle.alloc_model.specs.Places.{plan_of}
use Rattle.alloc_rules.specs.Lean.{IsLean}
use Rattle.alloc_plain_lists.specs.Plain.{loads, stores, stores_behind, transfers_from, edge_code, edges_behind, all_edges, plain_plan}
use Rattle.alloc_plain_lists.proofs.Lists.{length_both}
use Rattle.alloc_plain_lists.proofs.Registers.{few}

loads_length : (ts : List ℕ) (r : ℕ) → length (loads ts r) ≡ length ts
loads_length [] r = omega arith
loads_length (t ∷ ts) r = let rest = loads_length ts (r + 1) in omega (arith, rest)

stores_length : (ts : List ℕ) (r : ℕ) → length (stores ts r) ≡ length ts
stores_length [] r = omega arith
stores_length (t ∷ ts) r = let rest = stores_length ts (r + 1) in omega (arith, rest)

behind_few : (p : Option TempInsn) → length (stores_behind p) ≤ 1
behind_few None = omega arith
behind_few (Some x) =
    let most = few x in
    let writes = most.1 in
    let count = stores_length (writes_of x) (1 + length (reads_of x)) in
    omega (arith, writes, count)

abbrev AreFew : List Transfer → Type 0
AreFew xs = length xs ≤ 3

transfers_few : (p : Option TempInsn) (insns : List TempInsn) → All AreFew (transfers_from p insns)
transfers_few p [] = All-nil AreFew
transfers_few p (x ∷ insns) =
    let most = few x in
    let reads = most.0 in
    let count = loads_length (reads_of x) 1 in
    let both = length_both (stores_behind p) (loads (reads_of x) 1) in
    let one = behind_few p in
    All-cons AreFew (stores_behind p ++ loads (reads_of x) 1) (transfers_from (Some x) insns) (omega (arith, reads, count, both, one))
    (transfers_few (Some x) insns)

all_few : (blocks : List (List TempInsn)) → All AreFew (flat_map (transfers_from None) blocks)
all_few [] = All-nil AreFew
all_few (b ∷ bs) = All-append AreFew (transfers_from None b) (flat_map (transfers_from None) bs) (transfers_few None b) (all_few bs)

few_at : (lists : List (List Transfer)) (n : ℕ) → All AreFew lists → length (slice_index_or lists n []) ≤ 3
few_at [] n all = omega arith
few_at (xs ∷ lists) zero all = All-head AreFew xs lists all
few_at (xs ∷ lists) (suc n) all = few_at lists n (All-tail AreFew xs lists all)

room : (n : ℕ) (call : Bool) → n ≤ 3 → n ≤ (if call then 52 else 10)
room n true few = omega (arith, few)
room n false few = omega (arith, few)

abbrev IsShort : EdgeCode → Type 0
IsShort e = length e.code ≤ 91

edges_few : (start : ℕ) (blocks : List (List TempInsn)) → All IsShort (all_edges start blocks)
edges_few start [] = All-nil IsShort
edges_few start (b ∷ bs) =
    All-append IsShort (edges_behind start b) (all_edges (suc start) bs)
    (All-map IsShort (edge_code start (stores_behind (last_of b))) (sorted_targets (successors_of targets_of flows_on_of start b))
    (λ k d within. let one = behind_few (last_of b) in omega (arith, one)))
    (edges_few (suc start) bs)

pub lean_by_plan : (f : TempFn) (a : Allocation) → plan_of a ≡ plain_plan (code_of f) f.params f.temps → IsLean (plan_of a)
lean_by_plan f a same = subst IsLean (sym same) (record {
  before = λ block at x there. room _ (makes_call x) (few_at (flat_map (transfers_from None) f.blocks) _ (all_few f.blocks));
  on_edges = edges_few 0 f.blocks;
})
