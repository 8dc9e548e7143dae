-- How the words of a text are made, one item after the other.
use Rattle.std.specs.Prelude.{◌≡◌, ℕ, ◌<◌, ◌≤◌, Bool, true, List, length, drop, map, Some}
use Rattle.std.specs.List.{All, list_any}
use Rattle.alpha_isa.specs.declared.insn.BranchOp.{BranchOp}
use Rattle.alpha_isa.specs.declared.insn.BranchOp.TheVariants.{Bsr}
use Rattle.alpha_isa.specs.declared.insn.JumpOp.{JumpOp}
use Rattle.alpha_isa.specs.declared.insn.JumpOp.TheVariants.{Jmp, Jsr}
use Rattle.alpha_isa.specs.Program.{most_bytes, most_words}
use Rattle.alpha_items.specs.declared.item.AsmItem.{AsmItem}
use Rattle.alpha_items.specs.Items.{IsItem, gives_word}
use Rattle.alpha_items.specs.Assembly.{label_index}
use Rattle.alpha_items.specs.Layout.{item_place, text_words, AllReach, IsLeastFar}
use Rattle.alpha_asm.specs.model.Sweeps.{AreTargets, ArePlaces, label_target, target_of}

-- the jump of a branch without a condition
abbrev pub link_jump : BranchOp → JumpOp
link_jump Bsr = Jsr
link_jump _ = Jmp

-- a text with the targets of its items, what is far, and the places
pub record IsLaidOut (items : List AsmItem) (targets : List ℕ) (far : List Bool) (places : List ℕ) : Type 0 where
  pub one_each : length far ≡ length items
  pub are_items : All (λ i. IsItem most_bytes i) items
  pub are_targets : AreTargets items targets
  pub all_reach : AllReach items far
  pub are_places : ArePlaces items far places
  pub few : text_words items far ≤ most_words

-- what a whole assembly says of its items alone
pub record AreSound (items : List AsmItem) : Type 0 where
  pub are_items : All (λ i. IsItem most_bytes i) items
  pub are_targets : AreTargets items (map (target_of items) items)
  pub entry_found : label_target items (Some 0) ≡ label_index items 0
  pub entry_inside : label_index items 0 < length items
  pub some_words : list_any gives_word (drop (label_index items 0) items) ≡ true

-- the targets of a text, the item of its entry, what is far, and the places
pub record IsPlan (items : List AsmItem) (targets : List ℕ) (entry : ℕ) (far : List Bool)
    (places : List ℕ) : Type 0 where
  pub are_items : All (λ i. IsItem most_bytes i) items
  pub are_targets : AreTargets items targets
  pub entry_is : entry ≡ label_index items 0
  pub entry_inside : entry < length items
  pub entry_word : item_place items far entry < text_words items far
  pub least : IsLeastFar items far
  pub are_places : ArePlaces items far places
