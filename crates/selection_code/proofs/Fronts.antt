-- A turn of the loop over the blocks of a function.
use Rattle.std.proofs.Common.{◌≡◌, ℕ, zero, suc, ◌+◌, ◌<◌, List, [], ◌∷◌, ◌++◌, length, take, map, get_or, All, refl, sym, ap, ◌∙◌, subst, arith}
use Rattle.std.proofs.lemmas.List.{length-map}
use Rattle.pass_core.specs.Functions.{AllInsns}
use Rattle.suifvm_ir.specs.declared.insn.VmInsn.{VmInsn}
use Rattle.temp_ir.specs.declared.insn.TempInsn.{TempInsn}
use Rattle.selection_code.specs.Functions.{selected_insns, parameter_items, selected_blocks}
use Rattle.selection_code.specs.Fields.{HasFields}
use Rattle.suifvm_zero_branches.specs.Tests.{tested_block}

-- how many parameters wait for their code in front of the block with a number
abbrev pub waiting_at : (params i : ℕ) → ℕ
waiting_at params zero = params
waiting_at params (suc i) = 0

take_more : {A : Type 0} (xs : List A) (i : ℕ) (x d : A) → i < length xs → x ≡ get_or xs i d → take (i + 1) xs ≡ take i xs ++ x ∷ []
take_more [] i x d lt e = absurd (omega (arith, lt))
take_more (y ∷ ys) zero x d lt e = ap (λ z. z ∷ []) (sym e)
take_more (y ∷ ys) (suc i) x d lt e =
    let next : suc i + 1 ≡ suc (i + 1) = omega arith in
    ap (λ k. take k (y ∷ ys)) next ∙ ap (λ l. y ∷ l) (take_more ys i x d (omega (arith, lt)) e)

map_more : (blocks : List (List VmInsn)) (block : List VmInsn) → map selected_insns (blocks ++ block ∷ []) ≡ map selected_insns blocks ++ selected_insns block ∷ []
map_more [] block = refl
map_more (b ∷ blocks) block = ap (λ l. selected_insns b ∷ l) (map_more blocks block)

-- one block more
front_more : (params : ℕ) (front : List (List VmInsn)) (block : List VmInsn) → selected_blocks params front ++ (parameter_items (waiting_at params (length front)) ++ selected_insns block) ∷ [] ≡ selected_blocks params (front ++ block ∷ [])
front_more params [] block = refl
front_more params (b ∷ front) block = ap (λ l. (parameter_items params ++ selected_insns b) ∷ l) (sym (map_more front block))

map_push : (blocks : List (List VmInsn)) (block : List VmInsn) → map tested_block (blocks ++ block ∷ []) ≡ map tested_block blocks ++ tested_block block ∷ []
map_push [] block = refl
map_push (b ∷ blocks) block = ap (λ l. tested_block b ∷ l) (map_push blocks block)

length-take : (xs : List (List VmInsn)) (i : ℕ) → i < length xs → length (take i xs) ≡ i
length-take [] i lt = absurd (omega (arith, lt))
length-take (x ∷ xs) zero lt = refl
length-take (x ∷ xs) (suc i) lt = ap suc (length-take xs i (omega (arith, lt)))

pub blocks_turn : (params i w : ℕ) (blocks : List (List VmInsn)) (block d : List VmInsn) (codes news : List (List TempInsn)) (code : List TempInsn) → i < length blocks → block ≡ get_or blocks i d
    → codes ≡ selected_blocks params (map tested_block (take i blocks)) → w ≡ waiting_at params i → code ≡ parameter_items w ++ selected_insns (tested_block block) → news ≡ codes ++ code ∷ [] →
    news ≡ selected_blocks params (map tested_block (take (i + 1) blocks))
blocks_turn params i w blocks block d codes news code lt at so_far waiting made put =
    let front : List (List VmInsn) = map tested_block (take i blocks) in
    let long : i ≡ length front = sym (length-map (take i blocks) tested_block ∙ length-take blocks i lt) in
    put ∙ ap (λ c. codes ++ c ∷ []) (made ∙ ap (λ k. parameter_items k ++ selected_insns (tested_block block)) (waiting ∙ ap (waiting_at params) long))
    ∙ ap (λ l. l ++ (parameter_items (waiting_at params (length front)) ++ selected_insns (tested_block block)) ∷ []) so_far
    ∙ front_more params front (tested_block block) ∙ ap (selected_blocks params) (sym (map_push (take i blocks) block) ∙ ap (map tested_block) (sym (take_more blocks i block d lt at)))

all_push : {A : Type 0} (P : A → Type 0) (xs : List A) (x : A) → All P xs → P x → All P (xs ++ x ∷ [])
all_push P [] x h p zero d lt = p
all_push P [] x h p (suc k) d lt = absurd (omega (arith, lt))
all_push P (y ∷ ys) x h p zero d lt = h 0 d (omega arith)
all_push P (y ∷ ys) x h p (suc k) d lt = all_push P ys x (λ j e below. h (suc j) e (omega (arith, below))) p k d (omega (arith, lt))

pub fields_turn : (i : ℕ) (blocks : List (List VmInsn)) (block d : List VmInsn) → i < length blocks → block ≡ get_or blocks i d → AllInsns HasFields (take i blocks) → All HasFields block → AllInsns HasFields (take (i + 1) blocks)
fields_turn i blocks block d lt at so_far new = subst (AllInsns HasFields) (sym (take_more blocks i block d lt at)) (all_push (All HasFields) (take i blocks) block so_far new)

pub waiting_next : (params i : ℕ) → 0 ≡ waiting_at params (i + 1)
waiting_next params i = let next : suc i ≡ i + 1 = omega arith in ap (waiting_at params) next
