-- One more instruction, and one more block, in front of the others.
use Rattle.std.proofs.Common.{◌≡◌, ℕ, zero, suc, ◌+◌, ◌<◌, ◌≤◌, ◌^◌, List, [], ◌∷◌, length, get_or, take, drop, Some, sym, ap, subst, ◌∙◌, arith}
use Rattle.std.specs.Prelude.{slice_get, All}
use Rattle.std.proofs.lemmas.List.Sums.{sum_by_more, sum_by-take-le}
use Rattle.std.proofs.lemmas.Option.{slice_get_within, get_or_from_slice_get}
use Rattle.alpha_items.specs.declared.item.AsmItem.{AsmItem}
use Rattle.alpha_items.specs.declared.item.AsmItem.TheVariants.{Label}
use Rattle.pass_core.specs.Functions.{count_of}
use Rattle.temp_ir.specs.declared.insn.TempInsn.{TempInsn}
use Rattle.alloc_model.specs.Places.{Plan}
use Rattle.frame_steps.specs.instruction_items.Items.{ItemSetting}
use Rattle.frame_emitter.specs.Items.{point_items, insns_items, block_items, blocks_items}
use Rattle.frame_emitter.specs.declared.layout.FrameLayout.{FrameLayout}
use Rattle.frame_emitter.specs.Layouts.{setting_in}
use Rattle.frame_emitter.specs.Settings.{IsFit}
use Rattle.frame_layout.specs.model.Sound.{IsSound, GoesNext}

drop-at : {X : Type 0} (xs : List X) (k : ℕ) (x : X) → k < length xs → x ≡ get_or xs k x → drop k xs ≡ x ∷ drop (suc k) xs
drop-at [] k x lt is = absurd (omega (arith, lt))
drop-at (y ∷ xs) zero x lt is = ap (λ z. z ∷ xs) (sym is)
drop-at (y ∷ xs) (suc k) x lt is = drop-at xs k x (omega (arith, lt)) is

pub insns_more : (a : Plan) (g : ItemSetting) (block at next : ℕ) (insns : List TempInsn) (x : TempInsn) (rest : List AsmItem) → next ≡ at + 1 → at < length insns → x ≡ get_or insns at x
    → point_items a g block at x (insns_items a g block next (drop next insns) rest) ≡ insns_items a g block at (drop at insns) rest
insns_more a g block at next insns x rest n lt is =
    let e : next ≡ suc at = omega (arith, n) in
    ap (λ j. point_items a g block at x (insns_items a g block j (drop j insns) rest)) e
    ∙ sym (ap (λ zs. insns_items a g block at zs rest) (drop-at insns at x lt is))

pub blocks_more : (a : Plan) (g : ItemSetting) (block next : ℕ) (blocks : List (List TempInsn)) (x : List TempInsn) (rest : List AsmItem) → next ≡ block + 1 → block < length blocks → x ≡ get_or blocks block x
    → Label (g.block_label block) ∷ block_items a g block x (blocks_items a g next (drop next blocks) rest) ≡ blocks_items a g block (drop block blocks) rest
blocks_more a g block next blocks x rest n lt is =
    let e : next ≡ suc block = omega (arith, n) in
    ap (λ j. Label (g.block_label block) ∷ block_items a g block x (blocks_items a g j (drop j blocks) rest)) e
    ∙ sym (ap (λ zs. blocks_items a g block zs rest) (drop-at blocks block x lt is))

count-more : (blocks : List (List TempInsn)) (k : ℕ) (x : List TempInsn) → k < length blocks → x ≡ get_or blocks k x → count_of (take (suc k) blocks) ≡ count_of (take k blocks) + length x
count-more blocks k x lt is =
    let n : suc k ≡ k + 1 = omega arith in
    ap (λ j. count_of (take j blocks)) n ∙ sum_by_more (λ block. length block) blocks k x lt ∙ ap (λ z. count_of (take k blocks) + length z) (sym is)

pub count_before : (blocks : List (List TempInsn)) (k next first : ℕ) (x : List TempInsn) → next ≡ k + 1 → k < length blocks → x ≡ get_or blocks k x
    → first ≡ count_of (take next blocks) → first ≡ count_of (take k blocks) + length x
count_before blocks k next first x n lt is e =
    let j : next ≡ suc k = omega (arith, n) in
    e ∙ ap (λ q. count_of (take q blocks)) j ∙ count-more blocks k x lt is

count-part : (blocks : List (List TempInsn)) (k : ℕ) → count_of (take k blocks) ≤ count_of blocks
count-part blocks k = sum_by-take-le (λ block. length block) blocks k

pub first_small : (l : FrameLayout) (block first at : ℕ) (insns : List TempInsn) → IsSound l → slice_get l.blocks.now block ≡ Some insns → first ≡ count_of (take block l.blocks.now)
    → at < length insns → first + at < 2 ^ 31
first_small l block first at insns sound e is lt =
    let inside = slice_get_within l.blocks.now block insns e in
    let more = count-more l.blocks.now block insns inside (sym (get_or_from_slice_get l.blocks.now block insns insns e)) in
    let part = count-part l.blocks.now (suc block) in
    let few = sound.few_insns in
    omega (arith, more, part, few, is, lt)

all-get : {X : Type 0} (P : X → Type 0) (xs : List X) (k : ℕ) (x : X) → All P xs → slice_get xs k ≡ Some x → P x
all-get P xs k x all is = subst P (get_or_from_slice_get xs k x x is) (all k x (slice_get_within xs k x is))

pub fit_at : (l : FrameLayout) (block at : ℕ) (insns : List TempInsn) (x : TempInsn) → IsSound l → slice_get l.blocks.now block ≡ Some insns → slice_get insns at ≡ Some x
    → IsFit (setting_in l) x
fit_at l block at insns x sound e is =
    all-get (IsFit (setting_in l)) insns at x (all-get (All (IsFit (setting_in l))) l.blocks.now block insns sound.fit e) is

pub goes_at : (l : FrameLayout) (block at : ℕ) (insns : List TempInsn) (x : TempInsn) → IsSound l → slice_get l.blocks.now block ≡ Some insns → slice_get insns at ≡ Some x
    → GoesNext insns x
goes_at l block at insns x sound e is =
    all-get (GoesNext insns) insns at x (all-get (λ zs. All (GoesNext zs) zs) l.blocks.now block insns sound.jumps e) is

pub insns_turn : (a : Plan) (g : ItemSetting) (block at next : ℕ) (insns : List TempInsn) (x : TempInsn) (rest : List AsmItem) → next ≡ at + 1 → slice_get insns at ≡ Some x
    → point_items a g block at x (insns_items a g block next (drop next insns) rest) ≡ insns_items a g block at (drop at insns) rest
insns_turn a g block at next insns x rest n is =
    insns_more a g block at next insns x rest n (slice_get_within insns at x is) (sym (get_or_from_slice_get insns at x x is))
