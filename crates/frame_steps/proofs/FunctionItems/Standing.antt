-- Where the items of a function stand.
use Rattle.std.proofs.Common.{◌≡◌, ℕ, zero, suc, ◌+◌, Bool, true, false, List, [], ◌∷◌, ◌++◌, drop, Some, refl, sym, ap, ◌∙◌, subst, arith, append_assoc}
use Rattle.std.specs.Prelude.{slice_get, nat_lt, if◌then◌else◌}
use Rattle.alpha_isa.specs.Program.{Program, IsLawful}
use Rattle.alpha_items.specs.declared.item.AsmItem.{AsmItem}
use Rattle.alpha_items.specs.declared.item.AsmItem.TheVariants.{Label}
use Rattle.alpha_items.specs.Assembly.{Assembly, IsWhole}
use Rattle.alpha_items.specs.Layout.{label_place, text_words}
use Rattle.alpha_items.specs.Words.{Words}
use Rattle.frame_steps.specs.item_steps.Standing.{ItemsAt}
use Rattle.frame_steps.proofs.ItemSteps.Standing.{labels_stand}
use Rattle.temp_ir.specs.declared.insn.TempInsn.{TempInsn}
use Rattle.alloc_model.specs.declared.allocation.Transfer.{Transfer}
use Rattle.alloc_model.specs.Places.{Plan, transfers_at, registers_at}
use Rattle.frame_memory.specs.flat_frames.Shapes.{FrameShape, frame_size, return_at, saved_at}
use Rattle.frame_steps.specs.frame_accesses.Items.{near_size, frame_store}
use Rattle.frame_steps.specs.frame_transfers.Items.{transfer_items, items_of_transfers}
use Rattle.frame_steps.specs.call_parts.Items.{lower_stack, save_if, save_registers, entry_part, exit_part}
use Rattle.frame_steps.specs.instruction_items.Items.{ItemSetting, function_label, insn_items}
use Rattle.frame_steps.specs.function_items.Items.{top_transfers, jump_transfers, end_transfers, insns_items, block_items, blocks_items, exit_items, function_items}
use Rattle.frame_steps.specs.function_items.Laws.{FunctionStands}

-- ---- lists that end with another one

record EndsWith (whole back : List AsmItem) : Type 0 where
  front : List AsmItem
  is : whole ≡ front ++ back

all : (back : List AsmItem) → EndsWith back back
all back = record { front = []; is = refl }

behind-one : (item : AsmItem) (whole back : List AsmItem) → EndsWith whole back → EndsWith (item ∷ whole) back
behind-one item whole back h = record { front = item ∷ h.front; is = ap (λ l. item ∷ l) h.is }

behind : (items whole back : List AsmItem) → EndsWith whole back → EndsWith (items ++ whole) back
behind [] whole back h = h
behind (item ∷ items) whole back h = behind-one item (items ++ whole) back (behind items whole back h)

behind-transfers : (s : FrameShape) (xs : List Transfer) (whole back : List AsmItem) → EndsWith whole back → EndsWith (items_of_transfers s xs whole) back
behind-transfers s [] whole back h = h
behind-transfers s (x ∷ xs) whole back h = behind (transfer_items s x) (items_of_transfers s xs whole) back (behind-transfers s xs whole back h)

-- ---- the parts of a function

behind-lower : (size : ℕ) (whole back : List AsmItem) → EndsWith whole back → EndsWith (lower_stack size whole) back
behind-lower size whole back h = by_test (nat_lt size near_size) _ _ _
  where
    by_test : (b : Bool) (x y z : AsmItem) → EndsWith (if b then x ∷ whole else y ∷ z ∷ whole) back
    by_test true x y z = behind-one x whole back h
    by_test false x y z = behind-one y (z ∷ whole) back (behind-one z whole back h)

behind-save : (s : FrameShape) (b : Bool) (r : ℕ) (whole back : List AsmItem) → EndsWith whole back → EndsWith (save_if s b r whole) back
behind-save s true r whole back h = behind (frame_store r (saved_at s r)) whole back h
behind-save s false r whole back h = h

behind-saves : (s : FrameShape) (saves : ℕ → Bool) (r count : ℕ) (whole back : List AsmItem) → EndsWith whole back → EndsWith (save_registers s saves r count whole) back
behind-saves s saves r zero whole back h = h
behind-saves s saves r (suc count) whole back h = behind-save s (saves r) r (save_registers s saves (suc r) count whole) back (behind-saves s saves (suc r) count whole back h)

behind-entry : (s : FrameShape) (saves : ℕ → Bool) (whole back : List AsmItem) → EndsWith whole back → EndsWith (entry_part s saves whole) back
behind-entry s saves whole back h =
    behind-lower (frame_size s) (frame_store 26 (return_at s) ++ save_registers s saves 9 7 whole) back
    (behind (frame_store 26 (return_at s)) (save_registers s saves 9 7 whole) back (behind-saves s saves 9 7 whole back h))

behind-insns : (a : Plan) (g : ItemSetting) (block at : ℕ) (insns : List TempInsn) (whole back : List AsmItem) → EndsWith whole back → EndsWith (insns_items a g block at insns whole) back
behind-insns a g block at [] whole back h = h
behind-insns a g block at (x ∷ insns) whole back h =
    let later = insns_items a g block (suc at) insns whole in
    behind-transfers g.shape (transfers_at a block at) (items_of_transfers g.shape (jump_transfers a block x) (insn_items g (registers_at a block at) x ++ later)) back
    (behind-transfers g.shape (jump_transfers a block x) (insn_items g (registers_at a block at) x ++ later) back
    (behind (insn_items g (registers_at a block at) x) later back (behind-insns a g block (suc at) insns whole back h)))

behind-block : (a : Plan) (g : ItemSetting) (block : ℕ) (insns : List TempInsn) (whole back : List AsmItem) → EndsWith whole back → EndsWith (block_items a g block insns whole) back
behind-block a g block insns whole back h =
    let last = items_of_transfers g.shape (end_transfers a block insns) whole in
    behind-transfers g.shape (top_transfers a block) (insns_items a g block 0 insns last) back
    (behind-insns a g block 0 insns last back (behind-transfers g.shape (end_transfers a block insns) whole back h))

behind-blocks : (a : Plan) (g : ItemSetting) (block : ℕ) (blocks : List (List TempInsn)) (whole back : List AsmItem) → EndsWith whole back → EndsWith (blocks_items a g block blocks whole) back
behind-blocks a g block [] whole back h = h
behind-blocks a g block (insns ∷ blocks) whole back h =
    let later = blocks_items a g (suc block) blocks whole in
    behind-one (Label (g.block_label block)) (block_items a g block insns later) back (behind-block a g block insns later back (behind-blocks a g (suc block) blocks whole back h))

-- each block with those behind it
block-there : (a : Plan) (g : ItemSetting) (block k : ℕ) (blocks : List (List TempInsn)) (insns : List TempInsn) (rest : List AsmItem) → slice_get blocks k ≡ Some insns → EndsWith (blocks_items a g block blocks rest) (Label (g.block_label (block + k)) ∷ block_items a g (block + k) insns (blocks_items a g (suc (block + k)) (drop (suc k) blocks) rest))
block-there a g block k [] insns rest e = absurd (cc)
block-there a g block zero (first ∷ blocks) insns rest e =
    let is : first ≡ insns = cc in
    let none : block ≡ block + 0 = omega arith in
    subst (λ z. EndsWith (blocks_items a g block (first ∷ blocks) rest) (Label (g.block_label z) ∷ block_items a g z insns (blocks_items a g (suc z) blocks rest))) none
    (subst (λ z. EndsWith (blocks_items a g block (first ∷ blocks) rest) (Label (g.block_label block) ∷ block_items a g block z (blocks_items a g (suc block) blocks rest))) is
    (all (blocks_items a g block (first ∷ blocks) rest)))
block-there a g block (suc k) (first ∷ blocks) insns rest e =
    let later = blocks_items a g (suc block) blocks rest in
    let next : suc block + k ≡ block + suc k = omega arith in
    subst (λ z. EndsWith (blocks_items a g block (first ∷ blocks) rest) (Label (g.block_label z) ∷ block_items a g z insns (blocks_items a g (suc z) (drop (suc k) blocks) rest))) next
    (behind-one (Label (g.block_label block)) (block_items a g block first later) _
    (behind-block a g block first later _ (block-there a g (suc block) k blocks insns rest e)))

-- ---- in the image

module _ (asm : Assembly) (p : Program) (lawful : IsLawful p) (whole : IsWhole asm) (w : Words asm p) (front : List AsmItem) where
  -- what stands behind a label of the text
  label-there : (items : List AsmItem) (l : ℕ) (back : List AsmItem) → asm.items ≡ front ++ items → EndsWith items (Label l ∷ back) → ItemsAt p (label_place asm.items w.far) (label_place asm.items w.far l) back (text_words asm.items w.far)
  label-there items l back e h =
      labels_stand asm p lawful whole w (front ++ h.front) back l (e ∙ ap (λ z. front ++ z) h.is ∙ sym (append_assoc front h.front (Label l ∷ back)))

pub functions_stand : (asm : Assembly) (p : Program) → IsLawful p → IsWhole asm → (w : Words asm p) → (front rest : List AsmItem) (a : Plan) (g : ItemSetting) (number : ℕ) → asm.items ≡ front ++ function_items a g number rest → FunctionStands p (label_place asm.items w.far) a g number rest (text_words asm.items w.far)
functions_stand asm p lawful whole w front rest a g number e =
    let items = function_items a g number rest in
    let code = blocks_items a g 0 a.function.blocks (exit_items g rest) in
    let part = entry_part g.shape g.shape.saves code in
    record {
      entry = label-there asm p lawful whole w front items (function_label number) part e (all items);
      blocks = λ block insns is.
          label-there asm p lawful whole w front items (g.block_label block) (block_items a g block insns (blocks_items a g (suc block) (drop (suc block) a.function.blocks) (exit_items g rest))) e
          (behind-one (Label (function_label number)) part _ (behind-entry g.shape g.shape.saves code _
          (at-block block insns (block-there a g 0 block a.function.blocks insns (exit_items g rest) is))));
      exit = label-there asm p lawful whole w front items g.exit_label (exit_part g.shape g.shape.saves rest) e
          (behind-one (Label (function_label number)) part _ (behind-entry g.shape g.shape.saves code _
          (behind-blocks a g 0 a.function.blocks (exit_items g rest) _ (all (exit_items g rest)))));
    }
  where
    at-block : (block : ℕ) (insns : List TempInsn) → EndsWith (blocks_items a g 0 a.function.blocks (exit_items g rest)) (Label (g.block_label (0 + block)) ∷ block_items a g (0 + block) insns (blocks_items a g (suc (0 + block)) (drop (suc block) a.function.blocks) (exit_items g rest))) → EndsWith (blocks_items a g 0 a.function.blocks (exit_items g rest)) (Label (g.block_label block) ∷ block_items a g block insns (blocks_items a g (suc block) (drop (suc block) a.function.blocks) (exit_items g rest)))
    at-block block insns h =
        let e : 0 + block ≡ block = omega arith in
        subst (λ z. EndsWith (blocks_items a g 0 a.function.blocks (exit_items g rest)) (Label (g.block_label z) ∷ block_items a g z insns (blocks_items a g (suc z) (drop (suc block) a.function.blocks) (exit_items g rest)))) e h
