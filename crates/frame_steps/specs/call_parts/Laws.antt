-- What the machine does at the entry part and at the exit part of a function.
use Rattle.std.specs.Prelude.{◌≡◌, ◌≢◌, ℕ, ◌+◌, ◌*◌, ◌/◌, ◌%◌, ◌^◌, ◌<◌, ◌≤◌, ◌⊎◌, Bool, true, List, length, if◌then◌else◌}
use Rattle.alpha_isa.specs.Program.{Program, word_address}
use Rattle.alpha_isa.specs.State.{State, register}
use Rattle.alpha_items.specs.declared.item.AsmItem.{AsmItem}
use Rattle.alpha_items.specs.Words.{most_address}
use Rattle.frame_steps.specs.item_steps.Standing.{Labels, ItemsAt}
use Rattle.frame_steps.specs.item_steps.Steps.{Leaves}
use Rattle.frame_memory.specs.Machine.{memory_bytes, is_reached}
use Rattle.frame_memory.specs.flat_frames.Shapes.{FrameShape, frame_size, return_at, saved_at}
use Rattle.frame_memory.specs.flat_frames.Frames.{word_in}
use Rattle.frame_steps.specs.frame_accesses.Laws.{IsAt, HasCome}
use Rattle.frame_steps.specs.call_parts.Items.{entry_part, exit_part}

-- a frame that may be accessed from an address on
pub record IsFrameAt (p : Program) (s : State) (shape : FrameShape) (sp : ℕ) : Type 0 where
  pub aligned : sp % 16 ≡ 0
  pub small : sp + frame_size shape < 2 ^ 64
  pub near : frame_size shape < most_address
  pub reached : (i : ℕ) → i < frame_size shape → is_reached p s (sp + i) ≡ true

-- the function is entered: its frame has the return address and the registers that it saves, and no byte beside the
-- frame has changed
pub record EntryDone (p : Program) (there : Labels) (rest : List AsmItem) (end : ℕ) (shape : FrameShape)
    (saves : ℕ → Bool)
    (sp : ℕ) (s : State) : Type 0 where
  pub to : State
  pub come : HasCome p there rest end s to
  pub stack : register to 30 ≡ sp
  pub others : (q : ℕ) → q ≢ 29 → q ≢ 30 → register to q ≡ register s q
  pub back : word_in (memory_bytes p to) (sp + return_at shape) ≡ register s 26
  pub saved : (r : ℕ) → 9 ≤ r → r < 16 → saves r ≡ true →
      word_in (memory_bytes p to) (sp + saved_at shape r) ≡ register s r
  pub bytes : (y : ℕ) → (y < sp) ⊎ (sp + frame_size shape ≤ y) → memory_bytes p to y ≡ memory_bytes p s y

abbrev pub EntriesAreDone : Type 0
EntriesAreDone =
    (p : Program) (there : Labels) (w : ℕ) (rest : List AsmItem) (end : ℕ) (shape : FrameShape) (saves : ℕ → Bool)
    (sp : ℕ)
    (s : State) → IsAt p there w (entry_part shape saves rest) end s → register s 30 ≡ sp + frame_size shape →
    IsFrameAt p s shape sp → EntryDone p there rest end shape saves sp s

-- the word that a register of the caller is given back
abbrev pub given_back : FrameShape → (saves : ℕ → Bool) → (sp : ℕ) → Program → State → (register : ℕ) → ℕ
given_back shape saves sp p s r = if saves r then word_in (memory_bytes p s) (sp + saved_at shape r) else register s r

-- the function is left: the machine goes to the return address, the registers that were saved are as they were, and no
-- byte has changed
pub record ExitDone (p : Program) (there : Labels) (shape : FrameShape) (saves : ℕ → Bool) (sp : ℕ) (s : State) : Type 0
  where
    pub to : State
    pub comes : Leaves p (word_address (length p.words)) s to
    pub some : 1 ≤ comes.steps
    pub pc : to.pc ≡ word_in (memory_bytes p s) (sp + return_at shape) / 4 * 4
    pub stack : register to 30 ≡ sp + frame_size shape
    pub kept : (r : ℕ) → 9 ≤ r → r < 16 → register to r ≡ given_back shape saves sp p s r
    pub others : (q : ℕ) → (q < 9) ⊎ (16 ≤ q) → q ≢ 26 → q ≢ 29 → q ≢ 30 → register to q ≡ register s q
    pub is_at : (w : ℕ) (items : List AsmItem) (last : ℕ) → to.pc ≡ word_address w → ItemsAt p there w items last →
        IsAt p there w items last to
    pub bytes : memory_bytes p to ≡ memory_bytes p s
    pub reached : (y : ℕ) → is_reached p to y ≡ is_reached p s y
    pub input : to.input ≡ s.input
    pub output : to.output ≡ s.output

abbrev pub ExitsAreDone : Type 0
ExitsAreDone =
    (p : Program) (there : Labels) (w : ℕ) (rest : List AsmItem) (end : ℕ) (shape : FrameShape) (saves : ℕ → Bool)
    (sp : ℕ)
    (s : State) → IsAt p there w (exit_part shape saves rest) end s → register s 30 ≡ sp →
    IsFrameAt p s shape sp → ExitDone p there shape saves sp s
