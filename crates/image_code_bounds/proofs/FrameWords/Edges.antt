-- Each edge's transfers stand at one place at most: at the end of a block with one successor, or at the top of a block
-- behind one with two.
use Rattle.std.proofs.Common.{◌≡◌, ◌≢◌, ℕ, zero, suc, ◌+◌, ◌-◌, ◌*◌, ◌≤◌, Bool, true, false, cond, List, [], ◌∷◌, ◌++◌, length, map, take, Option, Some, None, refl, ap, subst, ◌∙◌, arith, ⊎_elim}
use Rattle.std.specs.Prelude.{◌==◌, ◌&&◌, not, nat_lt, All, find, slice_get, slice_index_or, if◌then◌else◌}
use Rattle.std.proofs.lemmas.Bool.Decides.{eqb_tells}
use Rattle.std.proofs.lemmas.List.Elements.{All-head, All-tail}
use Rattle.pass_core.specs.Functions.{last_of, front_of, successors_after, successors_of, EndsLate, IsStraight}
use Rattle.temp_ir.specs.declared.insn.TempInsn.{TempInsn}
use Rattle.temp_ir.specs.declared.insn.TempInsn.TheVariants as i
use Rattle.temp_ir.specs.Insns.{targets_of, flows_on_of}
use Rattle.alloc_model.specs.declared.allocation.EdgeCode.{EdgeCode}
use Rattle.alloc_model.specs.Temporaries.{goes_on, flows_out}
use Rattle.alloc_model.specs.Places.{Plan, code_in, edge_transfers}
use Rattle.alloc_model.specs.Faithful.{sorted_targets, sorted_edges_from}
use Rattle.frame_steps.specs.function_items.Items.{is_temp_branch, ends_with_branch, top_transfers, jump_transfers, end_transfers}

abbrev pub one : Bool → ℕ
one b = cond b 1 0

abbrev pub IsShort : EdgeCode → Type 0
IsShort e = length e.code ≤ 91

-- ---- the edge of a block with one successor

abbrev pub jump_one : TempInsn → ℕ
jump_one (i.Jump t) = 1
jump_one _ = 0

abbrev pub jumps_in : List TempInsn → ℕ
jumps_in [] = 0
jumps_in (x ∷ xs) = jump_one x + jumps_in xs

abbrev pub last_jump : Option TempInsn → ℕ
last_jump None = 0
last_jump (Some x) = jump_one x

abbrev pub end_one : Option TempInsn → ℕ
end_one o = one (goes_on o && not (is_temp_branch o))

abbrev pub branch_edges : Option TempInsn → ℕ
branch_edges o = if is_temp_branch o then length (successors_after targets_of flows_on_of 0 o) else 0

edges-by : (o : Option TempInsn) → last_jump o + end_one o + branch_edges o ≤ length (successors_after targets_of flows_on_of 0 o)
edges-by None = omega arith
edges-by (Some (i.Address op d base plus)) = omega arith
edges-by (Some (i.ObjectAddress d place plus)) = omega arith
edges-by (Some (i.Load op d p plus)) = omega arith
edges-by (Some (i.Store op v p plus)) = omega arith
edges-by (Some (i.Operate op d l r)) = omega arith
edges-by (Some (i.Extend op d s)) = omega arith
edges-by (Some (i.ToFixed r s)) = omega arith
edges-by (Some (i.FromFixed d r)) = omega arith
edges-by (Some (i.SetFixed r n)) = omega arith
edges-by (Some (i.WriteArgument n s)) = omega arith
edges-by (Some (i.ReadArgument d n)) = omega arith
edges-by (Some (i.Branch op s t)) = omega arith
edges-by (Some (i.Jump t)) = omega arith
edges-by (Some (i.Call f n)) = omega arith
edges-by (Some (i.Divide r)) = omega arith
edges-by (Some (i.Serve s)) = omega arith
edges-by (Some (i.Return v)) = omega arith
edges-by (Some i.Mark) = omega arith

straight-none : (x : TempInsn) → IsStraight targets_of flows_on_of x → jump_one x ≡ 0
straight-none (i.Address op d base plus) h = refl
straight-none (i.ObjectAddress d place plus) h = refl
straight-none (i.Load op d p plus) h = refl
straight-none (i.Store op v p plus) h = refl
straight-none (i.Operate op d l r) h = refl
straight-none (i.Extend op d s) h = refl
straight-none (i.ToFixed r s) h = refl
straight-none (i.FromFixed d r) h = refl
straight-none (i.SetFixed r n) h = refl
straight-none (i.WriteArgument n s) h = refl
straight-none (i.ReadArgument d n) h = refl
straight-none (i.Branch op s t) h = refl
straight-none (i.Jump t) h = let none = h.0 in absurd (omega (arith, none))
straight-none (i.Call f n) h = refl
straight-none (i.Divide r) h = refl
straight-none (i.Serve s) h = refl
straight-none (i.Return v) h = refl
straight-none i.Mark h = refl

jumps-last : (insns : List TempInsn) → EndsLate targets_of flows_on_of insns → jumps_in insns ≤ last_jump (last_of insns)
jumps-last [] late = omega arith
jumps-last (x ∷ []) late = omega arith
jumps-last (x ∷ y ∷ ys) late =
    let e : length (x ∷ y ∷ ys) - 1 ≡ suc (length (y ∷ ys) - 1) = omega arith in
    let all = subst (λ n. All (IsStraight targets_of flows_on_of) (take n (x ∷ y ∷ ys))) e late in
    let first = straight-none x (All-head (IsStraight targets_of flows_on_of) x (front_of (y ∷ ys)) all) in
    let rest = jumps-last (y ∷ ys) (All-tail (IsStraight targets_of flows_on_of) x (front_of (y ∷ ys)) all) in
    let last : last_jump (last_of (x ∷ y ∷ ys)) ≡ last_jump (last_of (y ∷ ys)) = ap (λ n. last_jump (slice_get (x ∷ y ∷ ys) n)) e in
    omega (arith, first, rest, last)

pub own_edges : (insns : List TempInsn) → EndsLate targets_of flows_on_of insns
    → jumps_in insns + end_one (last_of insns) + branch_edges (last_of insns) ≤ length (successors_of targets_of flows_on_of 0 insns)
own_edges insns late =
    let a = jumps-last insns late in
    let b = edges-by (last_of insns) in
    omega (arith, a, b)

-- ---- the transfers of an edge

code-step : (q : Bool) (e : EdgeCode) (o : Option EdgeCode) → IsShort e → length (code_in o) ≤ 91 → length (code_in (cond q (Some e) o)) ≤ 91
code-step true e o h k = h
code-step false e o h k = k

code-short : (q : EdgeCode → Bool) (es : List EdgeCode) → All IsShort es → length (code_in (find q es)) ≤ 91
code-short q [] h = omega arith
code-short q (e ∷ es) h = code-step (q e) e (find q es) (All-head IsShort e es h) (code-short q es (All-tail IsShort e es h))

edge-short : (a : Plan) (from to : ℕ) → All IsShort a.edges → length (edge_transfers a from to) ≤ 91
edge-short a from to h = code-short (λ e. (e.from == from) && (e.to == to)) a.edges h

pub jump_short : (a : Plan) (block : ℕ) (x : TempInsn) → All IsShort a.edges → length (jump_transfers a block x) ≤ 91 * jump_one x
jump_short a block (i.Address op d base plus) h = omega arith
jump_short a block (i.ObjectAddress d place plus) h = omega arith
jump_short a block (i.Load op d p plus) h = omega arith
jump_short a block (i.Store op v p plus) h = omega arith
jump_short a block (i.Operate op d l r) h = omega arith
jump_short a block (i.Extend op d s) h = omega arith
jump_short a block (i.ToFixed r s) h = omega arith
jump_short a block (i.FromFixed d r) h = omega arith
jump_short a block (i.SetFixed r n) h = omega arith
jump_short a block (i.WriteArgument n s) h = omega arith
jump_short a block (i.ReadArgument d n) h = omega arith
jump_short a block (i.Branch op s t) h = omega arith
jump_short a block (i.Jump t) h = edge-short a block t h
jump_short a block (i.Call f n) h = omega arith
jump_short a block (i.Divide r) h = omega arith
jump_short a block (i.Serve s) h = omega arith
jump_short a block (i.Return v) h = omega arith
jump_short a block i.Mark h = omega arith

end-by : (b : Bool) (a : Plan) (block : ℕ) → All IsShort a.edges → length (if b then edge_transfers a block (suc block) else []) ≤ 91 * one b
end-by true a block h = edge-short a block (suc block) h
end-by false a block h = omega arith

pub end_short : (a : Plan) (block : ℕ) (insns : List TempInsn) → All IsShort a.edges → length (end_transfers a block insns) ≤ 91 * end_one (last_of insns)
end_short a block insns h = end-by (flows_out insns && not (ends_with_branch insns)) a block h

-- ---- the transfers at the tops of blocks

found : (EdgeCode → Bool) → List EdgeCode → ℕ
found q [] = 0
found q (e ∷ es) = cond (q e) 1 (found q es)

found-step : (q : Bool) (e : EdgeCode) (o : Option EdgeCode) (n : ℕ) → IsShort e → length (code_in o) ≤ 91 * n → length (code_in (cond q (Some e) o)) ≤ 91 * cond q 1 n
found-step true e o n h k = h
found-step false e o n h k = k

code-found : (q : EdgeCode → Bool) (es : List EdgeCode) → All IsShort es → length (code_in (find q es)) ≤ 91 * found q es
unfolding found
code-found q [] h = omega arith
code-found q (e ∷ es) h = found-step (q e) e (find q es) (found q es) (All-head IsShort e es h) (code-found q es (All-tail IsShort e es h))

abbrev sum_up : (ℕ → ℕ) → (start count : ℕ) → ℕ
sum_up f s zero = 0
sum_up f s (suc n) = f s + sum_up f (suc s) n

sum-two : (f g h : ℕ → ℕ) (s n : ℕ) → ((k : ℕ) → f k ≤ g k + h k) → sum_up f s n ≤ sum_up g s n + sum_up h s n
sum-two f g h s zero le = omega arith
sum-two f g h s (suc n) le = let a = le s in let b = sum-two f g h (suc s) n le in omega (arith, a, b)

sum-none : (f : ℕ → ℕ) (s n : ℕ) → ((k : ℕ) → s ≤ k → f k ≡ 0) → sum_up f s n ≡ 0
sum-none f s zero h = refl
sum-none f s (suc n) h =
    let a = h s (omega arith) in
    let b = sum-none f (suc s) n (λ k le. h k (omega (arith, le))) in
    omega (arith, a, b)

hit : (to : ℕ) (branches : Bool) (k : ℕ) → ℕ
hit to branches k = one ((to == k) && branches)

hit-one : (to : ℕ) (branches : Bool) (k : ℕ) → hit to branches k ≤ one branches
unfolding hit
hit-one to branches k = by (to == k) branches
  where
    by : (b c : Bool) → one (b && c) ≤ one c
    by true c = omega arith
    by false true = omega arith
    by false false = omega arith

hit-other : (to : ℕ) (branches : Bool) (k : ℕ) → to ≢ k → hit to branches k ≡ 0
unfolding hit
hit-other to branches k ne = ⊎_elim
    (λ same. absurd (ne same.1))
    (λ other. ap (λ b. one (b && branches)) other.0)
    (eqb_tells to k)

one-hit : (to : ℕ) (branches : Bool) (s n : ℕ) → sum_up (hit to branches) s n ≤ one branches
one-hit to branches s zero = omega arith
one-hit to branches s (suc n) = ⊎_elim
    (λ same.
    let a = hit-one to branches s in
    let b = sum-none (hit to branches) (suc s) n (λ k le. hit-other to branches k (λ e. let at = same.1 in omega (arith, e, le, at))) in
    omega (arith, a, b))
    (λ other.
    let a = hit-other to branches s other.1 in
    let b = one-hit to branches (suc s) n in
    omega (arith, a, b))
    (eqb_tells to s)

abbrev pub branches_at : List (List TempInsn) → EdgeCode → Bool
branches_at blocks e = ends_with_branch (slice_index_or blocks e.from [])

abbrev count_if : {X : Type 0} → (X → Bool) → List X → ℕ
count_if p [] = 0
count_if p (x ∷ xs) = one (p x) + count_if p xs

found-two : (b : Bool) (n : ℕ) → cond b 1 n ≤ one b + n
found-two true n = omega arith
found-two false n = omega arith

found-none : (branches : EdgeCode → Bool) (k : ℕ) → found (λ e. (e.to == k) && branches e) [] ≡ 0
unfolding found
found-none branches k = refl

found-split : (branches : EdgeCode → Bool) (e : EdgeCode) (es : List EdgeCode) (k : ℕ)
    → found (λ z. (z.to == k) && branches z) (e ∷ es) ≤ hit e.to (branches e) k + found (λ z. (z.to == k) && branches z) es
unfolding found hit
found-split branches e es k = found-two ((e.to == k) && branches e) (found (λ z. (z.to == k) && branches z) es)

founds : (branches : EdgeCode → Bool) (es : List EdgeCode) (s n : ℕ) → sum_up (λ k. found (λ e. (e.to == k) && branches e) es) s n ≤ count_if branches es
founds branches [] s n = let none = sum-none (λ k. found (λ e. (e.to == k) && branches e) []) s n (λ k le. found-none branches k) in omega (arith, none)
founds branches (e ∷ es) s n =
    let two = sum-two (λ k. found (λ z. (z.to == k) && branches z) (e ∷ es)) (hit e.to (branches e)) (λ k. found (λ z. (z.to == k) && branches z) es) s n (found-split branches e es) in
    let a = one-hit e.to (branches e) s n in
    let b = founds branches es s n in
    omega (arith, two, a, b)

-- ---- how many edges leave blocks with a branch

abbrev pub branch_sum : List (List TempInsn) → ℕ
branch_sum [] = 0
branch_sum (insns ∷ blocks) = branch_edges (last_of insns) + branch_sum blocks

count-map : (p : ℕ × ℕ → Bool) (es : List EdgeCode) → count_if (λ e. p (e.from, e.to)) es ≡ count_if p (map (λ e. (e.from, e.to)) es)
count-map p [] = refl
count-map p (e ∷ es) = ap (λ n. one (p (e.from, e.to)) + n) (count-map p es)

count-append : (p : ℕ × ℕ → Bool) (xs ys : List (ℕ × ℕ)) → count_if p (xs ++ ys) ≡ count_if p xs + count_if p ys
count-append p [] ys = omega arith
count-append p (x ∷ xs) ys = let h = count-append p xs ys in omega (arith, h)

count-same : (p : ℕ × ℕ → Bool) (b : Bool) (s : ℕ) (xs : List ℕ) → ((to : ℕ) → p (s, to) ≡ b) → count_if p (map (λ to. (s, to)) xs) ≡ (if b then length xs else 0)
count-same p true s [] h = refl
count-same p false s [] h = refl
count-same p true s (x ∷ xs) h = let a = ap one (h x) in let b = count-same p true s xs h in omega (arith, a, b)
count-same p false s (x ∷ xs) h = let a = ap one (h x) in let b = count-same p false s xs h in omega (arith, a, b)

rising-by : (b : Bool) (x y : ℕ) → length (if b then y ∷ x ∷ [] else x ∷ y ∷ []) ≡ 2
rising-by true x y = refl
rising-by false x y = refl

rising-length : (xs : List ℕ) → length (sorted_targets xs) ≡ length xs
rising-length [] = refl
rising-length (x ∷ []) = refl
rising-length (x ∷ y ∷ []) = rising-by (nat_lt y x) x y
rising-length (x ∷ y ∷ z ∷ xs) = refl

followers-length : (s : ℕ) (o : Option TempInsn) → length (successors_after targets_of flows_on_of s o) ≡ length (successors_after targets_of flows_on_of 0 o)
followers-length s None = refl
followers-length s (Some x) = by (targets_of x) (flows_on_of x)
  where
    by : (ts : List ℕ) (b : Bool) → length (ts ++ (if b then suc s ∷ [] else [])) ≡ length (ts ++ (if b then 1 ∷ [] else []))
    by [] true = refl
    by [] false = refl
    by (t ∷ ts) b = ap suc (by ts b)

if-same : (b : Bool) (m n : ℕ) → m ≡ n → (if b then m else 0) ≡ (if b then n else 0)
if-same b m n e = ap (λ k. if b then k else 0) e

edges-count : (full : List (List TempInsn)) (s : ℕ) (blocks : List (List TempInsn)) → ((k : ℕ) → slice_index_or full (s + k) [] ≡ slice_index_or blocks k [])
    → count_if (λ z. ends_with_branch (slice_index_or full z.0 [])) (sorted_edges_from s blocks) ≡ branch_sum blocks
edges-count full s [] h = refl
edges-count full s (insns ∷ blocks) h =
    let p : ℕ × ℕ → Bool = λ z. ends_with_branch (slice_index_or full z.0 []) in
    let here : slice_index_or full s [] ≡ insns = ap (λ n. slice_index_or full n []) (omega arith) ∙ h 0 in
    let own = count-same p (ends_with_branch insns) s (sorted_targets (successors_of targets_of flows_on_of s insns)) (λ to. ap ends_with_branch here) in
    let size = rising-length (successors_of targets_of flows_on_of s insns) ∙ followers-length s (last_of insns) in
    let rest = edges-count full (suc s) blocks (λ k. ap (λ n. slice_index_or full n []) (omega arith) ∙ h (suc k)) in
    count-append p (map (λ to. (s, to)) (sorted_targets (successors_of targets_of flows_on_of s insns))) (sorted_edges_from (suc s) blocks)
    ∙ ap (λ n. n + count_if p (sorted_edges_from (suc s) blocks)) (own ∙ if-same (ends_with_branch insns) (length (sorted_targets (successors_of targets_of flows_on_of s insns))) (length (successors_of targets_of flows_on_of 0 insns)) size)
    ∙ ap (λ n. branch_edges (last_of insns) + n) rest

branch-count : (a : Plan) → map (λ e. (e.from, e.to)) a.edges ≡ sorted_edges_from 0 a.function.blocks → count_if (branches_at a.function.blocks) a.edges ≡ branch_sum a.function.blocks
branch-count a e =
    let p : ℕ × ℕ → Bool = λ z. ends_with_branch (slice_index_or a.function.blocks z.0 []) in
    count-map p a.edges ∙ ap (count_if p) e ∙ edges-count a.function.blocks 0 a.function.blocks (λ k. ap (λ n. slice_index_or a.function.blocks n []) (omega arith))

-- the transfers at the tops of blocks from one on
abbrev pub tops_from : Plan → (block : ℕ) → List (List TempInsn) → ℕ
tops_from a block [] = 0
tops_from a block (insns ∷ blocks) = length (top_transfers a block) + tops_from a (suc block) blocks

tops-up : (a : Plan) (s : ℕ) (blocks : List (List TempInsn)) → All IsShort a.edges
    → tops_from a s blocks ≤ 91 * sum_up (λ k. found (λ e. (e.to == k) && branches_at a.function.blocks e) a.edges) s (length blocks)
tops-up a s [] h = omega arith
tops-up a s (insns ∷ blocks) h =
    let first = code-found (λ e. (e.to == s) && branches_at a.function.blocks e) a.edges h in
    let rest = tops-up a (suc s) blocks h in
    omega (arith, first, rest)

pub tops_short : (a : Plan) → All IsShort a.edges → map (λ e. (e.from, e.to)) a.edges ≡ sorted_edges_from 0 a.function.blocks
    → tops_from a 0 a.function.blocks ≤ 91 * branch_sum a.function.blocks
tops_short a h e =
    let up = tops-up a 0 a.function.blocks h in
    let all = founds (branches_at a.function.blocks) a.edges 0 (length a.function.blocks) in
    let count = branch-count a e in
    omega (arith, up, all, count)
