-- The registers and temporaries that the lists name.
use Rattle.std.proofs.Common.{ℕ, zero, suc, ◌+◌, ◌-◌, ◌<◌, ◌≤◌, List, [], ◌∷◌, ◌++◌, Option, Some, None, refl, length, map, arith}
use Rattle.std.specs.Prelude.{All, slice_get, flat_map}
use Rattle.std.specs.List.{range_with_len}
use Rattle.std.proofs.lemmas.List.Elements.{All-nil, All-cons, All-head, All-tail, All-append, All-map, Contains-append_right}
use Rattle.pass_core.specs.Functions.{UsesRegisters, last_of, successors_of}
use Rattle.temp_ir.specs.declared.insn.TempInsn.{TempInsn}
use Rattle.temp_ir.specs.Insns.{reads_of, writes_of, targets_of, flows_on_of}
use Rattle.alloc_model.specs.declared.allocation.EdgeCode.{EdgeCode}
use Rattle.alloc_model.specs.declared.allocation.Transfer.TheVariants.{Store, Load}
use Rattle.alloc_model.specs.Faithful.{given_registers, IsGivenRegister, IsGivenOrScratch, IsTransfer, sorted_targets}
use Rattle.alloc_plain_lists.specs.Plain.{loads, stores, plain_registers, stores_behind, transfers_from, edge_code, edges_behind, all_edges}
use Rattle.alloc_plain_lists.proofs.Registers.{few}

given : (r : ℕ) → 1 ≤ r → r ≤ 3 → IsGivenRegister r
given zero low high = absurd (omega (arith, low))
given (suc zero) low high = (0, omega arith, refl)
given (suc (suc zero)) low high = (1, omega arith, refl)
given (suc (suc (suc zero))) low high = (2, omega arith, refl)
given (suc (suc (suc (suc r)))) low high = absurd (omega (arith, high))

range_given : (r n : ℕ) → 1 ≤ r → r + n ≤ 4 → All IsGivenRegister (range_with_len r n)
range_given r zero low high = All-nil IsGivenRegister
range_given r (suc n) low high =
    All-cons IsGivenRegister r (range_with_len (r + 1) n) (given r low (omega (arith, high))) (range_given (r + 1) n (omega arith) (omega (arith, high)))

pub or_scratch : (r : ℕ) → IsGivenRegister r → IsGivenOrScratch r
or_scratch r is = Contains-append_right (28 ∷ []) given_registers r is

module _ (temps : ℕ) where
  abbrev Uses : TempInsn → Type 0
  Uses x = UsesRegisters reads_of writes_of temps x

  module _ (P : ℕ → Type 0) (each : (r : ℕ) → IsGivenRegister r → P r) where
    one : (r : ℕ) → 1 ≤ r → r ≤ 3 → All P (r ∷ [])
    one r low high = All-cons P r [] (each r (given r low high)) (All-nil P)

    stores_given : (ts : List ℕ) (r : ℕ) → All (λ t. t < temps) ts → 1 ≤ r → r + length ts ≤ 4 → All (IsTransfer temps P) (stores ts r)
    stores_given [] r all low high = All-nil (IsTransfer temps P)
    stores_given (t ∷ ts) r all low high =
        All-cons (IsTransfer temps P) (Store t r) (stores ts (r + 1)) (All-head (λ t. t < temps) t ts all, one r low (omega (arith, high)))
        (stores_given ts (r + 1) (All-tail (λ t. t < temps) t ts all) (omega arith) (omega (arith, high)))

    loads_given : (ts : List ℕ) (r : ℕ) → All (λ t. t < temps) ts → 1 ≤ r → r + length ts ≤ 4 → All (IsTransfer temps P) (loads ts r)
    loads_given [] r all low high = All-nil (IsTransfer temps P)
    loads_given (t ∷ ts) r all low high =
        All-cons (IsTransfer temps P) (Load t r) (loads ts (r + 1)) (All-head (λ t. t < temps) t ts all, one r low (omega (arith, high)))
        (loads_given ts (r + 1) (All-tail (λ t. t < temps) t ts all) (omega arith) (omega (arith, high)))

    abbrev UsesIn : Option TempInsn → Type 0
    UsesIn None = Unit {0}
    UsesIn (Some x) = Uses x

    behind_given : (p : Option TempInsn) → UsesIn p → All (IsTransfer temps P) (stores_behind p)
    behind_given None uses = All-nil (IsTransfer temps P)
    behind_given (Some x) uses =
        let most = few x in
        let reads = most.0 in
        let writes = most.1 in
        stores_given (writes_of x) (1 + length (reads_of x)) uses.1 (omega arith) (omega (arith, reads, writes))

    transfers_given : (p : Option TempInsn) (insns : List TempInsn) → UsesIn p → All Uses insns → All (All (IsTransfer temps P)) (transfers_from p insns)
    transfers_given p [] uses all = All-nil (All (IsTransfer temps P))
    transfers_given p (x ∷ insns) uses all =
        let most = few x in
        let reads = most.0 in
        All-cons (All (IsTransfer temps P)) (stores_behind p ++ loads (reads_of x) 1) (transfers_from (Some x) insns)
        (All-append (IsTransfer temps P) (stores_behind p) (loads (reads_of x) 1) (behind_given p uses)
        (loads_given (reads_of x) 1 (All-head Uses x insns all).0 (omega arith) (omega (arith, reads))))
        (transfers_given (Some x) insns (All-head Uses x insns all) (All-tail Uses x insns all))

    pub all_transfers_given : (blocks : List (List TempInsn)) → All (All Uses) blocks → All (All (IsTransfer temps P)) (flat_map (transfers_from None) blocks)
    all_transfers_given [] all = All-nil (All (IsTransfer temps P))
    all_transfers_given (b ∷ bs) all =
        All-append (All (IsTransfer temps P)) (transfers_from None b) (flat_map (transfers_from None) bs)
        (transfers_given None b tt (All-head (All Uses) b bs all)) (all_transfers_given bs (All-tail (All Uses) b bs all))

    uses_at : (insns : List TempInsn) (k : ℕ) → All Uses insns → UsesIn (slice_get insns k)
    uses_at [] k all = tt
    uses_at (x ∷ insns) zero all = All-head Uses x insns all
    uses_at (x ∷ insns) (suc k) all = uses_at insns k (All-tail Uses x insns all)

    abbrev IsCode : EdgeCode → Type 0
    IsCode e = All (IsTransfer temps P) e.code

    pub all_edges_given : (start : ℕ) (blocks : List (List TempInsn)) → All (All Uses) blocks → All (λ e. All (IsTransfer temps P) e.code) (all_edges start blocks)
    all_edges_given start [] all = All-nil IsCode
    all_edges_given start (b ∷ bs) all =
        All-append IsCode (edges_behind start b) (all_edges (suc start) bs)
        (All-map IsCode (edge_code start (stores_behind (last_of b))) (sorted_targets (successors_of targets_of flows_on_of start b))
        (λ k d within. behind_given (last_of b) (uses_at b (length b - 1) (All-head (All Uses) b bs all))))
        (all_edges_given (suc start) bs (All-tail (All Uses) b bs all))

registers_given : (insns : List TempInsn) → All (All IsGivenRegister) (map plain_registers insns)
registers_given [] = All-nil (All IsGivenRegister)
registers_given (x ∷ insns) =
    let most = few x in
    let reads = most.0 in
    let writes = most.1 in
    All-cons (All IsGivenRegister) (plain_registers x) (map plain_registers insns)
    (range_given 1 (length (reads_of x) + length (writes_of x)) (omega arith) (omega (arith, reads, writes))) (registers_given insns)

pub all_registers_given : (blocks : List (List TempInsn)) → All (All IsGivenRegister) (flat_map (map plain_registers) blocks)
all_registers_given [] = All-nil (All IsGivenRegister)
all_registers_given (b ∷ bs) =
    All-append (All IsGivenRegister) (map plain_registers b) (flat_map (map plain_registers) bs) (registers_given b) (all_registers_given bs)
