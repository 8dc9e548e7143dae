-- Each piece in front of others is the piece in front of none, and the others behind it.
use Rattle.std.proofs.Common.{◌≡◌, ℕ, zero, suc, Bool, true, false, List, [], ◌∷◌, ◌++◌, refl, ap, ◌∙◌, append_assoc}
use Rattle.std.specs.Prelude.{nat_lt}
use Rattle.alpha_items.specs.declared.item.AsmItem.{AsmItem}
use Rattle.alpha_items.specs.declared.item.AsmItem.TheVariants.{Label, Plain}
use Rattle.alpha_isa.specs.declared.insn.Fields.TheVariants.{Jump}
use Rattle.alpha_isa.specs.declared.insn.JumpOp.TheVariants.{Ret}
use Rattle.temp_ir.specs.declared.insn.TempInsn.{TempInsn}
use Rattle.alloc_model.specs.declared.allocation.Transfer.{Transfer}
use Rattle.alloc_model.specs.Places.{Plan, transfers_at, registers_at}
use Rattle.frame_memory.specs.flat_frames.Shapes.{FrameShape, frame_size, return_at, saved_at}
use Rattle.frame_steps.specs.frame_accesses.Items.{near_size, frame_store, frame_load}
use Rattle.frame_steps.specs.frame_transfers.Items.{transfer_items, items_of_transfers}
use Rattle.frame_steps.specs.call_parts.Items.{lower_stack, raise_stack, save_if, save_registers, restore_if, restore_registers, entry_part, exit_part}
use Rattle.frame_emitter.specs.InstructionItems.{ItemSetting, function_label, insn_items}
use Rattle.frame_emitter.specs.Items.{jump_transfers, top_transfers, end_transfers, point_items, insns_items, block_items, blocks_items, exit_items, function_items}

transfers-front : (s : FrameShape) (xs : List Transfer) (a b : List AsmItem) → items_of_transfers s xs a ++ b ≡ items_of_transfers s xs (a ++ b)
transfers-front s [] a b = refl
transfers-front s (x ∷ xs) a b =
    append_assoc (transfer_items s x) (items_of_transfers s xs a) b ∙ ap (λ z. transfer_items s x ++ z) (transfers-front s xs a b)

point-front : (p : Plan) (g : ItemSetting) (block at : ℕ) (x : TempInsn) (a b : List AsmItem) → point_items p g block at x a ++ b ≡ point_items p g block at x (a ++ b)
point-front p g block at x a b =
    transfers-front g.shape (transfers_at p block at) (items_of_transfers g.shape (jump_transfers p block x) (insn_items g (registers_at p block at) x ++ a)) b
    ∙ ap (items_of_transfers g.shape (transfers_at p block at))
    (transfers-front g.shape (jump_transfers p block x) (insn_items g (registers_at p block at) x ++ a) b
    ∙ ap (items_of_transfers g.shape (jump_transfers p block x)) (append_assoc (insn_items g (registers_at p block at) x) a b))

insns-front : (p : Plan) (g : ItemSetting) (block at : ℕ) (insns : List TempInsn) (a b : List AsmItem) → insns_items p g block at insns a ++ b ≡ insns_items p g block at insns (a ++ b)
insns-front p g block at [] a b = refl
insns-front p g block at (x ∷ xs) a b =
    point-front p g block at x (insns_items p g block (suc at) xs a) b ∙ ap (point_items p g block at x) (insns-front p g block (suc at) xs a b)

block-front : (p : Plan) (g : ItemSetting) (block : ℕ) (insns : List TempInsn) (a b : List AsmItem) → block_items p g block insns a ++ b ≡ block_items p g block insns (a ++ b)
block-front p g block insns a b =
    transfers-front g.shape (top_transfers p block) (insns_items p g block 0 insns (items_of_transfers g.shape (end_transfers p block insns) a)) b
    ∙ ap (items_of_transfers g.shape (top_transfers p block))
    (insns-front p g block 0 insns (items_of_transfers g.shape (end_transfers p block insns) a) b
    ∙ ap (insns_items p g block 0 insns) (transfers-front g.shape (end_transfers p block insns) a b))

blocks-front : (p : Plan) (g : ItemSetting) (block : ℕ) (blocks : List (List TempInsn)) (a b : List AsmItem) → blocks_items p g block blocks a ++ b ≡ blocks_items p g block blocks (a ++ b)
blocks-front p g block [] a b = refl
blocks-front p g block (insns ∷ blocks) a b =
    ap (λ z. Label (g.block_label block) ∷ z)
    (block-front p g block insns (blocks_items p g (suc block) blocks a) b ∙ ap (block_items p g block insns) (blocks-front p g (suc block) blocks a b))

lower-front : (near : Bool) (size : ℕ) (a b : List AsmItem) → nat_lt size near_size ≡ near → lower_stack size a ++ b ≡ lower_stack size (a ++ b)
lower-front true size a b e = rw e refl
lower-front false size a b e = rw e refl

raise-front : (near : Bool) (size : ℕ) (a b : List AsmItem) → nat_lt size near_size ≡ near → raise_stack size a ++ b ≡ raise_stack size (a ++ b)
raise-front true size a b e = rw e refl
raise-front false size a b e = rw e refl

save-front : (s : FrameShape) (saves : Bool) (r : ℕ) (a b : List AsmItem) → save_if s saves r a ++ b ≡ save_if s saves r (a ++ b)
save-front s true r a b = append_assoc (frame_store r (saved_at s r)) a b
save-front s false r a b = refl

saves-front : (s : FrameShape) (saves : ℕ → Bool) (r count : ℕ) (a b : List AsmItem) → save_registers s saves r count a ++ b ≡ save_registers s saves r count (a ++ b)
saves-front s saves r zero a b = refl
saves-front s saves r (suc count) a b =
    save-front s (saves r) r (save_registers s saves (suc r) count a) b ∙ ap (save_if s (saves r) r) (saves-front s saves (suc r) count a b)

restore-front : (s : FrameShape) (saves : Bool) (r : ℕ) (a b : List AsmItem) → restore_if s saves r a ++ b ≡ restore_if s saves r (a ++ b)
restore-front s true r a b = append_assoc (frame_load r (saved_at s r)) a b
restore-front s false r a b = refl

restores-front : (s : FrameShape) (saves : ℕ → Bool) (r count : ℕ) (a b : List AsmItem) → restore_registers s saves r count a ++ b ≡ restore_registers s saves r count (a ++ b)
restores-front s saves r zero a b = refl
restores-front s saves r (suc count) a b =
    restore-front s (saves r) r (restore_registers s saves (suc r) count a) b ∙ ap (restore_if s (saves r) r) (restores-front s saves (suc r) count a b)

entry-front : (s : FrameShape) (saves : ℕ → Bool) (a b : List AsmItem) → entry_part s saves a ++ b ≡ entry_part s saves (a ++ b)
entry-front s saves a b =
    lower-front (nat_lt (frame_size s) near_size) (frame_size s) (frame_store 26 (return_at s) ++ save_registers s saves 9 7 a) b refl
    ∙ ap (lower_stack (frame_size s))
    (append_assoc (frame_store 26 (return_at s)) (save_registers s saves 9 7 a) b ∙ ap (λ z. frame_store 26 (return_at s) ++ z) (saves-front s saves 9 7 a b))

exit-front : (s : FrameShape) (saves : ℕ → Bool) (a b : List AsmItem) → exit_part s saves a ++ b ≡ exit_part s saves (a ++ b)
exit-front s saves a b =
    restores-front s saves 9 7 (frame_load 26 (return_at s) ++ raise_stack (frame_size s) (Plain (Jump Ret 31 26) ∷ a)) b
    ∙ ap (restore_registers s saves 9 7)
    (append_assoc (frame_load 26 (return_at s)) (raise_stack (frame_size s) (Plain (Jump Ret 31 26) ∷ a)) b
    ∙ ap (λ z. frame_load 26 (return_at s) ++ z) (raise-front (nat_lt (frame_size s) near_size) (frame_size s) (Plain (Jump Ret 31 26) ∷ a) b refl))

pub function_front : (p : Plan) (g : ItemSetting) (number : ℕ) (a b : List AsmItem) → function_items p g number a ++ b ≡ function_items p g number (a ++ b)
function_front p g number a b =
    ap (λ z. Label (function_label number) ∷ z)
    (entry-front g.shape g.shape.saves (blocks_items p g 0 p.function.blocks (exit_items g a)) b
    ∙ ap (entry_part g.shape g.shape.saves)
    (blocks-front p g 0 p.function.blocks (exit_items g a) b
    ∙ ap (blocks_items p g 0 p.function.blocks) (ap (λ z. Label g.exit_label ∷ z) (exit-front g.shape g.shape.saves a b))))
