-- The first place of a key, and the edge that stands there.
use Rattle.std.proofs.Common.{◌≡◌, ◌≢◌, ℕ, zero, suc, ◌+◌, ◌<◌, ◌≤◌, ◌^◌, Bool, true, false, cond, not, List, [], ◌∷◌, length, get_or, map, drop, Option, Some, None, refl, sym, ap, subst, ◌∙◌, arith, ⊎_elim}
use Rattle.std.specs.Prelude.{◌==◌, ◌&&◌, slice_get, slice_index_or, find, replicate, if◌then◌else◌}
use Rattle.std.specs.List.{position_or_len}
use Rattle.std.proofs.lemmas.Bool.{eq-eqb}
use Rattle.std.proofs.lemmas.Bool.Decides.{eqb_tells}
use Rattle.std.proofs.lemmas.List.{get_or-set_same, get_or-set_other, get_or-replicate}
use Rattle.std.proofs.lemmas.List.Folds.{find_at}
use Rattle.std.proofs.Math.ListN.{set}
use Rattle.pass_core.specs.Functions.{last_of}
use Rattle.temp_ir.specs.declared.insn.TempInsn.{TempInsn}
use Rattle.temp_ir.specs.declared.insn.TempInsn.TheVariants as i
use Rattle.alloc_model.specs.declared.allocation.EdgeCode.{EdgeCode}
use Rattle.alloc_model.specs.Temporaries.{flows_out, goes_on}
use Rattle.alloc_model.specs.Places.{Plan, code_in, edge_transfers}
use Rattle.frame_emitter.specs.Items.{is_temp_branch, ends_with_branch, top_transfers}
use Rattle.frame_layout.specs.model.Edges.{no_block, next_after, next_behind, next_in, top_key, end_key}

-- ---- tests of numbers

ne-eqb : (a b : ℕ) → a ≢ b → (a == b) ≡ false
ne-eqb a b ne = ⊎_elim (λ h. absurd (ne h.1)) (λ h. h.0) (eqb_tells a b)

turned : (a b : ℕ) → (a == b) ≡ (b == a)
turned a b = ⊎_elim (λ h. h.0 ∙ sym (eq-eqb b a (sym h.1))) (λ h. h.0 ∙ sym (ne-eqb b a (λ e. h.1 (sym e)))) (eqb_tells a b)

and-true : (b : Bool) → (b && true) ≡ b
and-true true = refl
and-true false = refl

and-false : (b : Bool) → (b && false) ≡ false
and-false true = refl
and-false false = refl

-- ---- first places

abbrev pub first_of : (key : ℕ) → List ℕ → ℕ
first_of k keys = position_or_len (λ key. key == k) keys

step-here : (b : Bool) (n : ℕ) → b ≡ true → cond (not b) (1 + n) 0 ≡ 0
step-here true n e = refl
step-here false n e = let clash : ⊥ = cc in absurd clash

step-past : (b : Bool) (n : ℕ) → b ≡ false → cond (not b) (1 + n) 0 ≡ 1 + n
step-past false n e = refl
step-past true n e = let clash : ⊥ = cc in absurd clash

key-here : (keys : List ℕ) (at key k : ℕ) → at < length keys → key ≡ get_or keys at key → key ≡ k → first_of k (drop at keys) ≡ 0
key-here [] at key k lt is e = absurd (omega (arith, lt))
key-here (y ∷ keys) zero key k lt is e = step-here (y == k) (first_of k keys) (eq-eqb y k (sym is ∙ e))
key-here (y ∷ keys) (suc at) key k lt is e = key-here keys at key k (omega (arith, lt)) is e

key-past : (keys : List ℕ) (at key k : ℕ) → at < length keys → key ≡ get_or keys at key → key ≢ k → first_of k (drop at keys) ≡ 1 + first_of k (drop (suc at) keys)
key-past [] at key k lt is ne = absurd (omega (arith, lt))
key-past (y ∷ keys) zero key k lt is ne = step-past (y == k) (first_of k keys) (ne-eqb y k (λ e. ne (is ∙ e)))
key-past (y ∷ keys) (suc at) key k lt is ne = key-past keys at key k (omega (arith, lt)) is ne

none-left : (keys : List ℕ) (k : ℕ) → first_of k (drop (length keys) keys) ≡ 0
none-left [] k = refl
none-left (y ∷ keys) k = none-left keys k

-- no key was looked at,
pub no_place : (keys : List ℕ) (count k : ℕ) → k < count → get_or (replicate count (length keys)) k 0 ≡ length keys + first_of k (drop (length keys) keys)
no_place keys count k lt = let none = none-left keys k in get_or-replicate count k (length keys) 0 lt ∙ omega (arith, none)

-- one is below the count,
pub one_place : (keys places : List ℕ) (count at next key : ℕ) → next ≡ at + 1 → at < length keys → key ≡ get_or keys at key → length places ≡ count → key < count
    → ((k : ℕ) → k < count → get_or places k 0 ≡ next + first_of k (drop next keys))
    → (k : ℕ) → k < count → get_or (set places key at) k 0 ≡ at + first_of k (drop at keys)
one_place keys places count at next key n lt is all small h k inside = ⊎_elim
    (λ same.
    let here = key-here keys at key k lt is same.1 in
    ap (λ q. get_or (set places key at) q 0) (sym same.1) ∙ get_or-set_same places key at 0 (omega (arith, all, small)) ∙ omega (arith, here))
    (λ other.
    let past = key-past keys at key k lt is other.1 in
    let old = h k inside in
    let j : next ≡ suc at = omega (arith, n) in
    let e : first_of k (drop next keys) ≡ first_of k (drop (suc at) keys) = ap (λ j. first_of k (drop j keys)) j in
    get_or-set_other places key k at 0 (λ e. other.1 (sym e)) ∙ omega (arith, past, old, e, n))
    (eqb_tells key k)

-- or is none
pub same_place : (keys places : List ℕ) (count at next key : ℕ) → next ≡ at + 1 → at < length keys → key ≡ get_or keys at key → count ≤ key
    → ((k : ℕ) → k < count → get_or places k 0 ≡ next + first_of k (drop next keys))
    → (k : ℕ) → k < count → get_or places k 0 ≡ at + first_of k (drop at keys)
same_place keys places count at next key n lt is large h k inside =
    let past = key-past keys at key k lt is (λ e. omega (arith, e, large, inside)) in
    let old = h k inside in
    let j : next ≡ suc at = omega (arith, n) in
    let e : first_of k (drop next keys) ≡ first_of k (drop (suc at) keys) = ap (λ j. first_of k (drop j keys)) j in
    omega (arith, past, old, e, n)

-- ---- the edge at a first place

find-same : (p q : EdgeCode → Bool) → ((e : EdgeCode) → p e ≡ q e) → (es : List EdgeCode) → find p es ≡ find q es
find-same p q same [] = refl
find-same p q same (e ∷ es) = ap (λ b. cond b (Some e) (find p es)) (same e) ∙ ap (λ r. cond (q e) (Some e) r) (find-same p q same es)

place-map : (f : EdgeCode → ℕ) (p : ℕ → Bool) (es : List EdgeCode) → position_or_len p (map f es) ≡ position_or_len (λ e. p (f e)) es
place-map f p [] = refl
place-map f p (e ∷ es) = ap (λ n. cond (not (p (f e))) (1 + n) 0) (place-map f p es)

found-by : (f : EdgeCode → ℕ) (k : ℕ) (q : EdgeCode → Bool) (es : List EdgeCode) → ((e : EdgeCode) → (f e == k) ≡ q e)
    → code_in (slice_get es (first_of k (map f es))) ≡ code_in (find q es)
found-by f k q es same =
    ap (λ n. code_in (slice_get es n)) (place-map f (λ key. key == k) es)
    ∙ ap code_in (sym (find_at (λ e. f e == k) es) ∙ find-same (λ e. f e == k) q same es)

top-test : (branches : Bool) (to k : ℕ) → k < 2 ^ 30 → ((if branches then to else no_block) == k) ≡ ((to == k) && branches)
top-test true to k lt = sym (and-true (to == k))
top-test false to k lt = ne-eqb no_block k (λ e. omega (arith, e, lt)) ∙ sym (and-false (to == k))

pub top_is : (a : Plan) (block : ℕ) → block < 2 ^ 30 → code_in (slice_get a.edges (first_of block (map (top_key a.function.blocks) a.edges))) ≡ top_transfers a block
top_is a block lt = found-by (top_key a.function.blocks) block
    (λ e. (e.to == block) && ends_with_branch (slice_index_or a.function.blocks e.from [])) a.edges
    (λ e. top-test (ends_with_branch (slice_index_or a.function.blocks e.from [])) e.to block lt)

key-none : (b : Bool) (from k : ℕ) → k < 2 ^ 30 → from ≢ k → ((if b then from else no_block) == k) ≡ false
key-none true from k lt ne = ne-eqb from k ne
key-none false from k lt ne = ne-eqb no_block k (λ e. omega (arith, e, lt))

key-own : (b : Bool) (k : ℕ) → k < 2 ^ 30 → ((if b then k else no_block) == k) ≡ b
key-own true k lt = eq-eqb k k refl
key-own false k lt = ne-eqb no_block k (λ e. omega (arith, e, lt))

end-test : (next : ℕ → ℕ) (from to k t : ℕ) → k < 2 ^ 30 → next k ≡ t → ((if next from == to then from else no_block) == k) ≡ ((from == k) && (to == t))
end-test next from to k t lt is = ⊎_elim
    (λ same.
    subst (λ q. ((if next q == to then q else no_block) == k) ≡ ((from == k) && (to == t))) (sym same.1)
    (key-own (next k == to) k lt ∙ turned (next k) to ∙ ap (λ n. to == n) is ∙ sym (ap (λ b. b && (to == t)) same.0)))
    (λ other. key-none (next from == to) from k lt other.1 ∙ sym (ap (λ b. b && (to == t)) other.0))
    (eqb_tells from k)

pub end_is : (a : Plan) (block t : ℕ) → block < 2 ^ 30 → next_in a.function.blocks block ≡ t
    → code_in (slice_get a.edges (first_of block (map (end_key a.function.blocks) a.edges))) ≡ edge_transfers a block t
end_is a block t lt is = found-by (end_key a.function.blocks) block
    (λ e. (e.from == block) && (e.to == t)) a.edges
    (λ e. end-test (next_in a.function.blocks) e.from e.to block t lt is)

-- ---- what follows a block

flows-next : (block : ℕ) (insns : List TempInsn) (o : Option TempInsn) → goes_on o ≡ true → is_temp_branch o ≡ false → next_after block o ≡ suc block
flows-next block insns None f b = refl
flows-next block insns (Some (i.Address op d base plus)) f b = refl
flows-next block insns (Some (i.ObjectAddress d place plus)) f b = refl
flows-next block insns (Some (i.Load op d p plus)) f b = refl
flows-next block insns (Some (i.Store op v p plus)) f b = refl
flows-next block insns (Some (i.Operate op d l r)) f b = refl
flows-next block insns (Some (i.Extend op d s)) f b = refl
flows-next block insns (Some (i.ToFixed r s)) f b = refl
flows-next block insns (Some (i.FromFixed d r)) f b = refl
flows-next block insns (Some (i.SetFixed r n)) f b = refl
flows-next block insns (Some (i.WriteArgument n s)) f b = refl
flows-next block insns (Some (i.ReadArgument d n)) f b = refl
flows-next block insns (Some (i.Branch op s t)) f b = let clash : ⊥ = cc in absurd clash
flows-next block insns (Some (i.Jump t)) f b = let clash : ⊥ = cc in absurd clash
flows-next block insns (Some (i.Call g n)) f b = refl
flows-next block insns (Some (i.Divide r)) f b = refl
flows-next block insns (Some (i.Serve s)) f b = refl
flows-next block insns (Some (i.Return v)) f b = let clash : ⊥ = cc in absurd clash
flows-next block insns (Some i.Mark) f b = refl

pub next_flows : (blocks : List (List TempInsn)) (block : ℕ) (insns : List TempInsn) → slice_get blocks block ≡ Some insns
    → flows_out insns ≡ true → ends_with_branch insns ≡ false → next_in blocks block ≡ suc block
next_flows blocks block insns e f b = ap (next_behind block) e ∙ flows-next block insns (last_of insns) f b

pub next_jumps : (blocks : List (List TempInsn)) (block target : ℕ) (insns : List TempInsn) → slice_get blocks block ≡ Some insns
    → last_of insns ≡ Some (i.Jump target) → next_in blocks block ≡ target
next_jumps blocks block target insns e last = ap (next_behind block) e ∙ ap (next_after block) last
