-- One turn of each loop.
use Rattle.std.proofs.Common.{◌≡◌, ◌≢◌, ℕ, zero, suc, ◌+◌, ◌<◌, ◌≤◌, List, [], ◌∷◌, ◌++◌, Option, Some, if◌then◌else◌, refl, sym, ap, ◌∙◌, length, map, take, append_assoc, append-nil, arith}
use Rattle.std.specs.Prelude.{slice_index_or}
use Rattle.std.proofs.lemmas.Bool.{lt-ltb, le-ltb}
use Rattle.bk_ilist.specs.Listing.{items}
use Rattle.pass_core.specs.Functions.{last_of, successors_of}
use Rattle.cfg.specs.Edges.{successors_from}
use Rattle.temp_ir.specs.declared.insn.TempInsn.{TempInsn}
use Rattle.temp_ir.specs.Insns.{reads_of, targets_of, flows_on_of}
use Rattle.alloc_model.specs.declared.allocation.Transfer.{Transfer}
use Rattle.alloc_model.specs.Faithful.{sorted_targets}
use Rattle.alloc_plain_lists.specs.Plain.{loads, plain_registers, stores_behind, transfers_from, edge_code, edges_behind, all_edges}

pub transfers_next : (out : List (List Transfer)) (p : Option TempInsn) (i : TempInsn) (rest all : List (ℕ × TempInsn)) (id : ℕ) → all ≡ (id, i) ∷ rest → (out ++ (stores_behind p ++ loads (reads_of i) 1) ∷ []) ++ transfers_from (Some i) (items rest) ≡ out ++ transfers_from p (items all)
transfers_next out p i rest all id is =
    append_assoc out ((stores_behind p ++ loads (reads_of i) 1) ∷ []) (transfers_from (Some i) (items rest)) ∙ sym (ap (λ x. out ++ transfers_from p (items x)) is)

pub registers_next : (out : List (List ℕ)) (i : TempInsn) (rest all : List (ℕ × TempInsn)) (id : ℕ) → all ≡ (id, i) ∷ rest → (out ++ plain_registers i ∷ []) ++ map plain_registers (items rest) ≡ out ++ map plain_registers (items all)
registers_next out i rest all id is =
    append_assoc out (plain_registers i ∷ []) (map plain_registers (items rest)) ∙ sym (ap (λ x. out ++ map plain_registers (items x)) is)

pub rising_few : (xs : List ℕ) → length xs ≢ 2 → xs ≡ sorted_targets xs
rising_few [] few = refl
rising_few (a ∷ []) few = refl
rising_few (a ∷ b ∷ []) few = absurd (few refl)
rising_few (a ∷ b ∷ c ∷ xs) few = refl

pub rising_turned : (xs : List ℕ) (a b : ℕ) → length xs ≡ 2 → a ≡ slice_index_or xs 0 a → b ≡ slice_index_or xs 1 b → b < a → b ∷ a ∷ [] ≡ sorted_targets xs
rising_turned [] a b two first second below = absurd (omega (arith, two))
rising_turned (x ∷ []) a b two first second below = absurd (omega (arith, two))
rising_turned (x ∷ y ∷ z ∷ xs) a b two first second below = absurd (omega (arith, two))
rising_turned (x ∷ y ∷ []) a b two first second below =
    ap (λ v. v ∷ a ∷ []) second ∙ ap (λ v. y ∷ v ∷ []) first
    ∙ sym (ap (λ t. if t then y ∷ x ∷ [] else x ∷ y ∷ []) (lt-ltb y x (omega (arith, first, second, below))))

pub rising_same : (xs : List ℕ) (a b : ℕ) → length xs ≡ 2 → a ≡ slice_index_or xs 0 a → b ≡ slice_index_or xs 1 b → a ≤ b → xs ≡ sorted_targets xs
rising_same [] a b two first second above = refl
rising_same (x ∷ []) a b two first second above = refl
rising_same (x ∷ y ∷ z ∷ xs) a b two first second above = refl
rising_same (x ∷ y ∷ []) a b two first second above =
    sym (ap (λ t. if t then y ∷ x ∷ [] else x ∷ y ∷ []) (le-ltb y x (omega (arith, first, second, above))))

edges_more : (start : ℕ) (blocks : List (List TempInsn)) (k n : ℕ) (d : List TempInsn) → n ≡ start + k → k < length blocks → all_edges start (take (suc k) blocks) ≡ all_edges start (take k blocks) ++ edges_behind n (slice_index_or blocks k d)
edges_more start [] k n d e within = absurd (omega (arith, within))
edges_more start (b ∷ bs) zero n d e within =
    let same : start ≡ n = omega (arith, e) in
    append-nil (edges_behind start b) ∙ ap (λ m. edges_behind m b) same
edges_more start (b ∷ bs) (suc k) n d e within =
    ap (λ es. edges_behind start b ++ es) (edges_more (suc start) bs k n d (omega (arith, e)) (omega (arith, within)))
    ∙ sym (append_assoc (edges_behind start b) (all_edges (suc start) (take k bs)) (edges_behind n (slice_index_or bs k d)))

pub as_many : (start : ℕ) (blocks : List (List TempInsn)) → length (successors_from targets_of flows_on_of start blocks) ≡ length blocks
as_many start [] = refl
as_many start (b ∷ bs) = ap suc (as_many (suc start) bs)

followers_at : (start : ℕ) (blocks : List (List TempInsn)) (k n : ℕ) (d : List ℕ) (b : List TempInsn) → n ≡ start + k → k < length blocks → slice_index_or (successors_from targets_of flows_on_of start blocks) k d ≡ successors_of targets_of flows_on_of n (slice_index_or blocks k b)
followers_at start [] k n d b e within = absurd (omega (arith, within))
followers_at start (c ∷ bs) zero n d b e within =
    let same : start ≡ n = omega (arith, e) in
    ap (λ m. successors_of targets_of flows_on_of m c) same
followers_at start (c ∷ bs) (suc k) n d b e within = followers_at (suc start) bs k n d b (omega (arith, e)) (omega (arith, within))

pub edges_next : (blocks : List (List TempInsn)) (lists : List (List ℕ)) (at : ℕ) (block : List TempInsn) (followers : List ℕ) → lists ≡ successors_from targets_of flows_on_of 0 blocks → at < length blocks → block ≡ slice_index_or blocks at block → followers ≡ slice_index_or lists at followers → all_edges 0 (take at blocks) ++ map (edge_code at (stores_behind (last_of block))) (sorted_targets followers) ≡ all_edges 0 (take (at + 1) blocks)
edges_next blocks lists at block followers all within here there =
    let next : at + 1 ≡ suc at = omega arith in
    let own : followers ≡ successors_of targets_of flows_on_of at (slice_index_or blocks at block) =
    there ∙ ap (λ ls. slice_index_or ls at followers) all ∙ followers_at 0 blocks at at followers block (omega arith) within in
    ap (λ fs. all_edges 0 (take at blocks) ++ map (edge_code at (stores_behind (last_of block))) (sorted_targets fs)) own
    ∙ ap (λ x. all_edges 0 (take at blocks) ++ map (edge_code at (stores_behind (last_of x))) (sorted_targets (successors_of targets_of flows_on_of at (slice_index_or blocks at block)))) here
    ∙ sym (edges_more 0 blocks at at block (omega arith) within)
    ∙ ap (λ n. all_edges 0 (take n blocks)) (sym next)
