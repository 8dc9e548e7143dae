-- What a sound layout says of the transfers and registers of a point.
use Rattle.std.proofs.Common.{◌≡◌, ℕ, zero, suc, ◌<◌, ◌≤◌, true, false, List, [], ◌∷◌, length, map, Some, refl, sym, ap, subst, ◌∙◌, arith, ⊎_elim}
use Rattle.std.specs.Prelude.{◌&&◌, not, slice_get, slice_index_or, All, if◌then◌else◌}
use Rattle.std.proofs.lemmas.Bool.{cases_lt}
use Rattle.std.proofs.lemmas.List.Elements.{All-tail}
use Rattle.pass_core.specs.Functions.{last_of}
use Rattle.temp_ir.specs.declared.insn.TempInsn.{TempInsn}
use Rattle.temp_ir.specs.declared.insn.TempInsn.TheVariants as i
use Rattle.alloc_model.specs.declared.allocation.Transfer.{Transfer}
use Rattle.alloc_model.specs.declared.allocation.EdgeCode.{EdgeCode}
use Rattle.alloc_model.specs.Temporaries.{flows_out}
use Rattle.alloc_model.specs.Places.{code_in, edge_transfers}
use Rattle.frame_emitter.specs.Items.{ends_with_branch, top_transfers, end_transfers, jump_transfers}
use Rattle.frame_emitter.specs.declared.layout.FrameLayout.{FrameLayout}
use Rattle.frame_emitter.specs.Layouts.{plan_in}
use Rattle.frame_emitter.specs.Moves.{IsMove}
use Rattle.frame_layout.specs.model.Edges.{next_in, top_key, end_key}
use Rattle.frame_layout.specs.model.Sound.{IsSound, GoesNext}
use Rattle.frame_layout.proofs.Keys.{first_of, top_is, end_is, next_flows, next_jumps}

index-past : {X : Type 0} (xs : List X) (n : ℕ) (d : X) → length xs ≤ n → slice_index_or xs n d ≡ d
index-past [] n d le = refl
index-past (x ∷ xs) zero d le = absurd (omega (arith, le))
index-past (x ∷ xs) (suc n) d le = index-past xs n d (omega (arith, le))

all-none : {X : Type 0} (P : X → Type 0) → All P []
all-none P n d lt = absurd (omega (arith, lt))

-- each element of one of some lists, or of none
all-at : {X : Type 0} (P : X → Type 0) (xss : List (List X)) (n : ℕ) → All (All P) xss → All P (slice_index_or xss n [])
all-at P xss n h = ⊎_elim
    (λ lt. h n [] lt)
    (λ le. subst (All P) (sym (index-past xss n [] le)) (all-none P))
    (cases_lt n (length xss))

pub moves_at : (l : FrameLayout) (n : ℕ) → IsSound l → All (IsMove l.allocation.now.func.temps) (slice_index_or l.allocation.now.at n [])
moves_at l n sound = all-at (IsMove l.allocation.now.func.temps) l.allocation.now.at n sound.moves

pub registers_at : (l : FrameLayout) (n : ℕ) → IsSound l → All (λ r. r < 32) (slice_index_or l.allocation.now.regs n [])
registers_at l n sound = all-at (λ r. r < 32) l.allocation.now.regs n sound.registers

all-code : (P : Transfer → Type 0) (es : List EdgeCode) (n : ℕ) → All (λ e. All P e.code) es → All P (code_in (slice_get es n))
all-code P [] n h = all-none P
all-code P (e ∷ es) zero h = h 0 e (omega arith)
all-code P (e ∷ es) (suc n) h = all-code P es n (All-tail (λ e. All P e.code) e es h)

pub code_moves : (l : FrameLayout) (edges : List EdgeCode) (n : ℕ) → IsSound l → edges ≡ l.allocation.now.edges → All (IsMove l.allocation.now.func.temps) (code_in (slice_get edges n))
code_moves l edges n sound e =
    all-code (IsMove l.allocation.now.func.temps) edges n (subst (λ es. All (λ e. All (IsMove l.allocation.now.func.temps) e.code) es) (sym e) sound.edge_moves)

pub top_of : (l : FrameLayout) (blocks : List (List TempInsn)) (edges : List EdgeCode) (block : ℕ) → IsSound l → blocks ≡ l.blocks.now → edges ≡ l.allocation.now.edges
    → block < length l.blocks.now → code_in (slice_get edges (first_of block (map (top_key blocks) edges))) ≡ top_transfers (plan_in l) block
top_of l blocks edges block sound b e lt =
    ap (λ bs. code_in (slice_get edges (first_of block (map (top_key bs) edges)))) b
    ∙ ap (λ es. code_in (slice_get es (first_of block (map (top_key l.blocks.now) es)))) e
    ∙ top_is (plan_in l) block (let few = sound.few_blocks in omega (arith, few, lt))

end-of : (l : FrameLayout) (blocks : List (List TempInsn)) (edges : List EdgeCode) (block t : ℕ) → IsSound l → blocks ≡ l.blocks.now → edges ≡ l.allocation.now.edges
    → block < length l.blocks.now → next_in l.blocks.now block ≡ t → code_in (slice_get edges (first_of block (map (end_key blocks) edges))) ≡ edge_transfers (plan_in l) block t
end-of l blocks edges block t sound b e lt is =
    ap (λ bs. code_in (slice_get edges (first_of block (map (end_key bs) edges)))) b
    ∙ ap (λ es. code_in (slice_get es (first_of block (map (end_key l.blocks.now) es)))) e
    ∙ end_is (plan_in l) block t (let few = sound.few_blocks in omega (arith, few, lt)) is

within : {X : Type 0} (xs : List X) (k : ℕ) (x : X) → slice_get xs k ≡ Some x → k < length xs
within [] k x e = let clash : ⊥ = cc in absurd clash
within (y ∷ xs) zero x e = omega arith
within (y ∷ xs) (suc k) x e = let h = within xs k x e in omega (arith, h)

pub end_stops : (l : FrameLayout) (block : ℕ) (insns : List TempInsn) → flows_out insns ≡ false → [] ≡ end_transfers (plan_in l) block insns
end_stops l block insns f = sym (ap (λ b. if b && not (ends_with_branch insns) then edge_transfers (plan_in l) block (suc block) else []) f)

pub end_branches : (l : FrameLayout) (block : ℕ) (insns : List TempInsn) → flows_out insns ≡ true → ends_with_branch insns ≡ true → [] ≡ end_transfers (plan_in l) block insns
end_branches l block insns f b =
    sym (ap (λ c. if c && not (ends_with_branch insns) then edge_transfers (plan_in l) block (suc block) else []) f
    ∙ ap (λ c. if not c then edge_transfers (plan_in l) block (suc block) else []) b)

pub end_flows : (l : FrameLayout) (blocks : List (List TempInsn)) (edges : List EdgeCode) (block : ℕ) (insns : List TempInsn) → IsSound l → blocks ≡ l.blocks.now → edges ≡ l.allocation.now.edges
    → slice_get l.blocks.now block ≡ Some insns → flows_out insns ≡ true → ends_with_branch insns ≡ false
    → code_in (slice_get edges (first_of block (map (end_key blocks) edges))) ≡ end_transfers (plan_in l) block insns
end_flows l blocks edges block insns sound bs es e f b =
    end-of l blocks edges block (suc block) sound bs es (within l.blocks.now block insns e) (next_flows l.blocks.now block insns e f b)
    ∙ sym (ap (λ c. if c && not (ends_with_branch insns) then edge_transfers (plan_in l) block (suc block) else []) f
    ∙ ap (λ c. if not c then edge_transfers (plan_in l) block (suc block) else []) b)

pub jump_is : (l : FrameLayout) (blocks : List (List TempInsn)) (edges : List EdgeCode) (block target : ℕ) (insns : List TempInsn) → IsSound l → blocks ≡ l.blocks.now → edges ≡ l.allocation.now.edges
    → slice_get l.blocks.now block ≡ Some insns → last_of insns ≡ Some (i.Jump target)
    → code_in (slice_get edges (first_of block (map (end_key blocks) edges))) ≡ edge_transfers (plan_in l) block target
jump_is l blocks edges block target insns sound bs es e last =
    end-of l blocks edges block target sound bs es (within l.blocks.now block insns e) (next_jumps l.blocks.now block target insns e last)

pub jump_by : (l : FrameLayout) (blocks : List (List TempInsn)) (edges : List EdgeCode) (block target : ℕ) (insns : List TempInsn) (x : TempInsn) → IsSound l → blocks ≡ l.blocks.now → edges ≡ l.allocation.now.edges
    → slice_get l.blocks.now block ≡ Some insns → x ≡ i.Jump target → GoesNext insns x
    → code_in (slice_get edges (first_of block (map (end_key blocks) edges))) ≡ jump_transfers (plan_in l) block x
jump_by l blocks edges block target insns x sound bs es e is next =
    jump_is l blocks edges block target insns sound bs es e (subst (GoesNext insns) is next) ∙ sym (ap (jump_transfers (plan_in l) block) is)
