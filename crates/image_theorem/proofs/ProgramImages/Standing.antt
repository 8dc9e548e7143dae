-- Where the items of an instruction stand, and that what stands is lawful.
use Rattle.std.proofs.Common.{◌≡◌, ℕ, zero, suc, ◌+◌, List, [], ◌∷◌, ◌++◌, Option, Some, None, sym, ap, ◌∙◌, subst, arith}
use Rattle.std.specs.Prelude.{slice_get, option_and_then}
use Rattle.alpha_isa.specs.declared.insn.Fields.{Fields}
use Rattle.alpha_isa.specs.Lawful as lawful
use Rattle.alpha_isa.specs.Words.{insn_of}
use Rattle.alpha_isa.specs.Program.{Program, word_address, instruction_at}
use Rattle.alpha_isa.proofs.Words.{decoded_word}
use Rattle.alpha_items.specs.declared.item.AsmItem.{AsmItem}
use Rattle.alpha_items.specs.declared.item.AsmItem.TheVariants.{Plain}
use Rattle.frame_steps.specs.item_steps.Standing.{Labels, ItemsAt}
use Rattle.frame_steps.proofs.ItemSteps.Standing.{insn-at, parts_stand}
use Rattle.temp_ir.specs.declared.insn.TempInsn.{TempInsn}
use Rattle.alloc_model.specs.declared.allocation.Transfer.{Transfer}
use Rattle.alloc_model.specs.Places.{Plan, transfers_at, registers_at}
use Rattle.frame_memory.specs.flat_frames.Shapes.{FrameShape}
use Rattle.frame_steps.specs.frame_transfers.Items.{transfer_items, items_of_transfers}
use Rattle.frame_steps.specs.instruction_items.Items.{ItemSetting, insn_items}
use Rattle.frame_simulation.specs.edge_leads.Items.{jump_transfers, insns_items}

-- items stand from some word on
pub record Somewhere (p : Program) (there : Labels) (items : List AsmItem) (end : ℕ) : Type 0 where
  pub word : ℕ
  pub items_at : ItemsAt p there word items end

-- what stands behind transfers, and behind other items
pub behind-items : (p : Program) (there : Labels) (end : ℕ) (front back : List AsmItem) → Somewhere p there (front ++ back) end → Somewhere p there back end
behind-items p there end front back h =
    let z = parts_stand p there h.word end front back h.items_at in
    record { word = z.middle; items_at = z.second }

pub behind-transfers : (p : Program) (there : Labels) (end : ℕ) (s : FrameShape) (xs : List Transfer) (rest : List AsmItem) → Somewhere p there (items_of_transfers s xs rest) end → Somewhere p there rest end
behind-transfers p there end s [] rest h = h
behind-transfers p there end s (x ∷ xs) rest h = behind-transfers p there end s xs rest (behind-items p there end (transfer_items s x) (items_of_transfers s xs rest) h)

-- the items of an instruction stand
pub record InsnStands (p : Program) (there : Labels) (g : ItemSetting) (rs : List ℕ) (x : TempInsn) (end : ℕ) : Type 0 where
  pub more : List AsmItem
  pub stands : Somewhere p there (insn_items g rs x ++ more) end

pub insn-stands : (p : Program) (there : Labels) (end : ℕ) (a : Plan) (g : ItemSetting) (block n : ℕ) (insns : List TempInsn) (tail : List AsmItem) (at : ℕ) (x : TempInsn) → slice_get insns at ≡ Some x → Somewhere p there (insns_items a g block n insns tail) end → InsnStands p there g (registers_at a block (n + at)) x end
insn-stands p there end a g block n [] tail at x e h = absurd (cc)
insn-stands p there end a g block n (y ∷ insns) tail zero x e h =
    let is : y ≡ x = cc in
    let sum : n ≡ n + 0 = omega arith in
    let later = insns_items a g block (suc n) insns tail in
    let z = behind-transfers p there end g.shape (jump_transfers a block y) (insn_items g (registers_at a block n) y ++ later)
    (behind-transfers p there end g.shape (transfers_at a block n) (items_of_transfers g.shape (jump_transfers a block y) (insn_items g (registers_at a block n) y ++ insns_items a g block (suc n) insns tail)) h) in
    subst (λ m. InsnStands p there g (registers_at a block m) x end) sum
    (subst (λ w. InsnStands p there g (registers_at a block n) w end) is (record { more = insns_items a g block (suc n) insns tail; stands = z }))
insn-stands p there end a g block n (y ∷ insns) tail (suc at) x e h =
    let sum : suc n + at ≡ n + suc at = omega arith in
    let z = behind-transfers p there end g.shape (jump_transfers a block y) (insn_items g (registers_at a block n) y ++ insns_items a g block (suc n) insns tail)
    (behind-transfers p there end g.shape (transfers_at a block n) (items_of_transfers g.shape (jump_transfers a block y) (insn_items g (registers_at a block n) y ++ insns_items a g block (suc n) insns tail)) h) in
    subst (λ m. InsnStands p there g (registers_at a block m) x end) sum
    (insn-stands p there end a g block (suc n) insns tail at x e (behind-items p there end (insn_items g (registers_at a block n) y) (insns_items a g block (suc n) insns tail) z))

-- an instruction that stands is lawful
lawful-word : (o : Option ℕ) (i : Fields) → option_and_then insn_of o ≡ Some i → lawful.AreLawfulFields i
lawful-word None i e = absurd (cc)
lawful-word (Some word) i e = (decoded_word word i e).0

pub lawful-there : (p : Program) (there : Labels) (end : ℕ) (i : Fields) (items : List AsmItem) → Somewhere p there (Plain i ∷ items) end → lawful.AreLawfulFields i
lawful-there p there end i items h =
    let none : h.word + 0 ≡ h.word = omega arith in
    let at : instruction_at p (word_address h.word) ≡ Some i = ap (λ n. instruction_at p (word_address n)) (sym none) ∙ h.items_at.1 0 (omega arith) in
    lawful-word (slice_get p.words h.word) i (sym (insn-at p h.word) ∙ at)
