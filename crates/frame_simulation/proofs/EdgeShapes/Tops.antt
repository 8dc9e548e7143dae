-- The transfers at the top of a block are those of one edge, which the allocation asks for.
use Rattle.std.proofs.Common.{◌≡◌, ℕ, zero, suc, ◌+◌, ◌-◌, ◌<◌, Bool, true, false, List, [], ◌∷◌, Option, Some, None, length, map, if◌then◌else◌, refl, sym, ap, ◌∙◌, subst, arith, inl, inr, ⊎_elim, eq-eqb}
use Rattle.std.specs.Prelude.{◌⊎◌, ◌==◌, ◌&&◌, nat_lt, slice_get, slice_index_or, find, All, Contains}
use Rattle.std.proofs.lemmas.Bool.{eqb-true, and_parts}
use Rattle.std.proofs.lemmas.List.Elements.{All-from_recursion, All-head, All-tail, All-cons, All-append, All-map, All-contains_itself, Contains-append_cases}
use Rattle.std.proofs.lemmas.Option.{none-some, same_Some}
use Rattle.pass_core.specs.Functions.{last_of, insn_in, successors_after, successors_of}
use Rattle.temp_ir.specs.declared.insn.TempInsn.{TempInsn}
use Rattle.temp_ir.specs.Insns.{targets_of, flows_on_of}
use Rattle.alloc_model.specs.declared.allocation.EdgeCode.{EdgeCode}
use Rattle.alloc_model.specs.Temporaries.{goes_on, flows_out}
use Rattle.alloc_model.specs.Places.{Plan, edge_transfers, code_in}
use Rattle.alloc_model.specs.Faithful.{MovesAsk, held_before, sorted_targets, sorted_edges_from, Faithful}
use Rattle.frame_steps.specs.frame_transfers.Laws.{CanTransferAll}
use Rattle.frame_steps.specs.function_items.InstructionItemsLaws.{is_usable}
use Rattle.frame_steps.specs.function_items.Items.{ends_with_branch, top_transfers}
use Rattle.frame_simulation.specs.function_shapes.Shapes.{shape_of}
use Rattle.frame_simulation.proofs.EdgeShapes.Holding.{either}
use Rattle.frame_simulation.proofs.EdgeShapes.Fits.{found_fits}

-- ---- tests

pub test-or-not : (b : Bool) → (b ≡ true) ⊎ (b ≡ false)
test-or-not true = inl refl
test-or-not false = inr refl

and-both : (b c : Bool) → b ≡ true → c ≡ true → (b && c) ≡ true
and-both b c e k = ap (λ t. t && c) e ∙ k

-- ---- what is found

found-one : {X : Type 0} (p : X → Bool) (Q : X → Type 0) (es : List X) (z : X) → All Q es → find p es ≡ Some z → Q z × (p z ≡ true)
found-one p Q [] z all e = absurd (none-some z e)
found-one p Q (x ∷ es) z all e = ⊎_elim
    (λ t. let same = same_Some x z (subst (λ b. (if b then Some x else find p es) ≡ Some z) t e) in (subst Q same (All-head Q x es all), subst (λ y. p y ≡ true) same t))
    (λ f. found-one p Q es z (All-tail Q x es all) (subst (λ b. (if b then Some x else find p es) ≡ Some z) f e))
    (test-or-not (p x))

-- a narrower test that what is found passes finds it too
found-too : {X : Type 0} (p q : X → Bool) (es : List X) (z : X) → ((y : X) → q y ≡ true → p y ≡ true) → q z ≡ true → find p es ≡ Some z → find q es ≡ Some z
found-too p q [] z narrow is e = absurd (none-some z e)
found-too p q (x ∷ es) z narrow is e = ⊎_elim
    (λ t. let same = same_Some x z (subst (λ b. (if b then Some x else find p es) ≡ Some z) t e) in
    subst (λ b. (if b then Some x else find q es) ≡ Some z) (sym (subst (λ y. q y ≡ true) (sym same) is)) (ap Some same))
    (λ f. ⊎_elim
    (λ t. let clash = narrow x t in absurd (cc))
    (λ g. subst (λ b. (if b then Some x else find q es) ≡ Some z) (sym g) (found-too p q es z narrow is (subst (λ b. (if b then Some x else find p es) ≡ Some z) f e)))
    (test-or-not (q x)))
    (test-or-not (p x))

-- ---- all edges

pub get-some : {X : Type 0} (xs : List X) (k : ℕ) (d : X) → k < length xs → slice_get xs k ≡ Some (slice_index_or xs k d)
get-some [] k d lt = absurd (omega (arith, lt))
get-some (x ∷ xs) zero d lt = refl
get-some (x ∷ xs) (suc k) d lt = get-some xs k d (omega (arith, lt))

one-of : (b : Bool) (n to : ℕ) → Contains (if b then n ∷ [] else []) to → (b ≡ true) × (to ≡ n)
one-of true n to (zero, lt, is) = (refl, sym is)
one-of true n to (suc k, lt, is) = absurd (omega (arith, lt))
one-of false n to (k, lt, is) = absurd (omega (arith, lt))

all-rising : (P : ℕ → Type 0) (xs : List ℕ) → All P xs → All P (sorted_targets xs)
all-rising P [] h = h
all-rising P (a ∷ []) h = h
all-rising P (a ∷ b ∷ []) h = either (All P) (nat_lt b a) (b ∷ a ∷ []) (a ∷ b ∷ [])
    (All-from_recursion P (b ∷ a ∷ []) (All-head P b [] (All-tail P a (b ∷ []) h), (All-head P a (b ∷ []) h, tt)))
    h
all-rising P (a ∷ b ∷ c ∷ xs) h = h

pub all-edges : (G : ℕ × ℕ → Type 0) (start : ℕ) (blocks : List (List TempInsn)) → ((k : ℕ) (insns : List TempInsn) → slice_get blocks k ≡ Some insns → (to : ℕ) → Contains (successors_of targets_of flows_on_of (start + k) insns) to → G (start + k, to)) → All G (sorted_edges_from start blocks)
all-edges G start [] h = All-from_recursion G [] tt
all-edges G start (insns ∷ blocks) h = All-append G (map (λ to. (start, to)) (sorted_targets after)) (sorted_edges_from (suc start) blocks)
    (All-map G (λ to. (start, to)) (sorted_targets after)
    (all-rising (λ to. G (start, to)) after
    (λ k d lt. here (slice_index_or after k d) (All-contains_itself after k d lt))))
    (all-edges G (suc start) blocks
    (λ k is there to. let e : start + suc k ≡ suc start + k = omega arith in
    subst (λ m. Contains (successors_of targets_of flows_on_of m is) to → G (m, to)) e (h (suc k) is there to)))
  where
    after : List ℕ
    after = successors_of targets_of flows_on_of start insns

    here : (to : ℕ) → Contains after to → G (start, to)
    here to = let e : start + 0 ≡ start = omega arith in
        subst (λ m. Contains (successors_of targets_of flows_on_of m insns) to → G (m, to)) e (h 0 insns refl to)

pub all-unmapped : {X Y : Type 0} (G : Y → Type 0) (f : X → Y) (xs : List X) → All G (map f xs) → All (λ x. G (f x)) xs
all-unmapped G f [] h = All-from_recursion (λ x. G (f x)) [] tt
all-unmapped G f (x ∷ xs) h = All-cons (λ z. G (f z)) x xs (All-head G (f x) (map f xs) h) (all-unmapped G f xs (All-tail G (f x) (map f xs) h))

-- ---- each edge is asked for

record IsAsked (a : Plan) (from to : ℕ) : Type 0 where
  at : ℕ
  moves : MovesAsk (edge_transfers a from to) (held_before a from at)

goes-on-asked : (a : Plan) → Faithful a → (k : ℕ) (insns : List TempInsn) → slice_get a.function.blocks k ≡ Some insns → flows_out insns ≡ true → (to : ℕ) → to ≡ suc k → IsAsked a k to
goes-on-asked a f k insns there flows to is =
    let keeps = f.follows k insns there flows in
    let next : IsAsked a k (suc k) = record { at = length insns; moves = keeps.moves } in
    subst (λ n. IsAsked a k n) (sym is) next

target-asked : (a : Plan) → Faithful a → (k : ℕ) (insns : List TempInsn) → slice_get a.function.blocks k ≡ Some insns → (x : TempInsn) → last_of insns ≡ Some x → (to : ℕ) → Contains (targets_of x) to → IsAsked a k to
target-asked a f k insns there x ends to (j, lt, is) =
    let keeps = f.jumps k (length insns - 1) x (ap (λ o. insn_in o (length insns - 1)) there ∙ ends) j to (get-some (targets_of x) j to lt ∙ ap Some is) in
    record { at = suc (length insns - 1); moves = keeps.moves }

asked-behind : (a : Plan) → Faithful a → (k : ℕ) (insns : List TempInsn) → slice_get a.function.blocks k ≡ Some insns → (o : Option TempInsn) → last_of insns ≡ o → (to : ℕ) → Contains (successors_after targets_of flows_on_of k o) to → IsAsked a k to
asked-behind a f k insns there None ends to has = goes-on-asked a f k insns there (ap goes_on ends) to (one-of true (suc k) to has).1
asked-behind a f k insns there (Some x) ends to has = ⊎_elim
    (λ l. target-asked a f k insns there x ends to l)
    (λ r. let one = one-of (flows_on_of x) (suc k) to r in goes-on-asked a f k insns there (ap goes_on ends ∙ one.0) to one.1)
    (Contains-append_cases (targets_of x) (if flows_on_of x then suc k ∷ [] else []) to has)

all-asked : (a : Plan) → Faithful a → All (λ e. IsAsked a e.from e.to) a.edges
all-asked a f = all-unmapped (λ e. IsAsked a e.0 e.1) (λ e. (e.from, e.to)) a.edges
    (subst (All (λ e. IsAsked a e.0 e.1)) (sym f.lists.edges)
    (all-edges (λ e. IsAsked a e.0 e.1) 0 a.function.blocks (λ k insns there to. let e : k ≡ 0 + k = omega arith in
    subst (λ m. Contains (successors_of targets_of flows_on_of m insns) to → IsAsked a m to) e (asked-behind a f k insns there (last_of insns) refl to))))

-- ---- the edge at the top of a block

option-fits : (a : Plan) → Faithful a → (block : ℕ) (o : Option EdgeCode) → find (λ e. (e.to == block) && ends_with_branch (slice_index_or a.function.blocks e.from [])) a.edges ≡ o → CanTransferAll (shape_of a) is_usable (code_in o)
option-fits a f block None is = tt
option-fits a f block (Some z) is =
    let one = found-one (λ e. (e.to == block) && ends_with_branch (slice_index_or a.function.blocks e.from [])) (λ e. IsAsked a e.from e.to) a.edges z (all-asked a f) is in
    let asked = one.0 in
    let same = found-too (λ e. (e.to == block) && ends_with_branch (slice_index_or a.function.blocks e.from [])) (λ e. (e.from == z.from) && (e.to == z.to)) a.edges z
    (narrow one.1)
    (and-both (z.from == z.from) (z.to == z.to) (eq-eqb z.from z.from refl) (eq-eqb z.to z.to refl))
    is in
    subst (λ o. CanTransferAll (shape_of a) is_usable (code_in o)) same
    (found_fits a f.lists (λ e. (e.from == z.from) && (e.to == z.to)) z.from asked.at asked.moves)
  where
    narrow : ((z.to == block) && ends_with_branch (slice_index_or a.function.blocks z.from [])) ≡ true → (y : EdgeCode) → ((y.from == z.from) && (y.to == z.to)) ≡ true → ((y.to == block) && ends_with_branch (slice_index_or a.function.blocks y.from [])) ≡ true
    narrow passes y e =
        let h = and_parts (y.from == z.from) (y.to == z.to) e in
        subst (λ m. ((y.to == block) && ends_with_branch (slice_index_or a.function.blocks m [])) ≡ true) (sym (eqb-true y.from z.from h.0))
        (subst (λ m. ((m == block) && ends_with_branch (slice_index_or a.function.blocks z.from [])) ≡ true) (sym (eqb-true y.to z.to h.1)) passes)

pub tops_fit : (a : Plan) → Faithful a → (block : ℕ) → CanTransferAll (shape_of a) is_usable (top_transfers a block)
tops_fit a f block = option-fits a f block (find (λ e. (e.to == block) && ends_with_branch (slice_index_or a.function.blocks e.from [])) a.edges) refl
