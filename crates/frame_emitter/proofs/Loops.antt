-- One more transfer, and one more register that is saved, in front of the others.
use Rattle.std.proofs.Common.{◌≡◌, ℕ, zero, suc, ◌+◌, ◌-◌, ◌<◌, Bool, List, [], ◌∷◌, ◌++◌, length, drop, sym, ap, ◌∙◌, arith}
use Rattle.std.specs.Prelude.{get_or}
use Rattle.alpha_items.specs.declared.item.AsmItem.{AsmItem}
use Rattle.alloc_model.specs.declared.allocation.Transfer.{Transfer}
use Rattle.frame_memory.specs.flat_frames.Shapes.{FrameShape}
use Rattle.frame_steps.specs.frame_transfers.Items.{transfer_items, items_of_transfers}
use Rattle.frame_steps.specs.call_parts.Items.{save_if, save_registers, restore_if, restore_registers}

transfer_at : (s : FrameShape) (xs : List Transfer) (k : ℕ) (x : Transfer) (rest : List AsmItem) → k < length xs → x ≡ get_or xs k x
    → transfer_items s x ++ items_of_transfers s (drop (suc k) xs) rest ≡ items_of_transfers s (drop k xs) rest
transfer_at s [] k x rest lt is = absurd (omega (arith, lt))
transfer_at s (y ∷ xs) zero x rest lt is = ap (λ z. transfer_items s z ++ items_of_transfers s xs rest) is
transfer_at s (y ∷ xs) (suc k) x rest lt is = transfer_at s xs k x rest (omega (arith, lt)) is

pub transfer_more : (s : FrameShape) (xs : List Transfer) (k next : ℕ) (x : Transfer) (rest : List AsmItem) → next ≡ k + 1 → k < length xs → x ≡ get_or xs k x
    → transfer_items s x ++ items_of_transfers s (drop next xs) rest ≡ items_of_transfers s (drop k xs) rest
transfer_more s xs k next x rest e lt is =
    let j : next ≡ suc k = omega (arith, e) in
    ap (λ n. transfer_items s x ++ items_of_transfers s (drop n xs) rest) j ∙ transfer_at s xs k x rest lt is

pub save_more : (s : FrameShape) (saves : ℕ → Bool) (r next : ℕ) (rest : List AsmItem) → next ≡ r + 1 → r < 16
    → save_if s (saves r) r (save_registers s saves next (16 - next) rest) ≡ save_registers s saves r (16 - r) rest
save_more s saves r next rest e lt =
    let j : next ≡ suc r = omega (arith, e) in
    let n : 16 - r ≡ suc (16 - suc r) = omega (arith, lt) in
    ap (λ q. save_if s (saves r) r (save_registers s saves q (16 - q) rest)) j ∙ sym (ap (λ q. save_registers s saves r q rest) n)

pub restore_more : (s : FrameShape) (saves : ℕ → Bool) (r next : ℕ) (rest : List AsmItem) → next ≡ r + 1 → r < 16
    → restore_if s (saves r) r (restore_registers s saves next (16 - next) rest) ≡ restore_registers s saves r (16 - r) rest
restore_more s saves r next rest e lt =
    let j : next ≡ suc r = omega (arith, e) in
    let n : 16 - r ≡ suc (16 - suc r) = omega (arith, lt) in
    ap (λ q. restore_if s (saves r) r (restore_registers s saves q (16 - q) rest)) j ∙ sym (ap (λ q. restore_registers s saves r q rest) n)
