-- What the machine does at the items that reach its frame.
use Rattle.std.specs.Prelude.{◌≡◌, ◌≢◌, ℕ, ◌+◌, ◌^◌, ◌<◌, ◌≤◌, List, ◌++◌, length}
use Rattle.alpha_isa.specs.Program.{Program, IsLawful, word_address}
use Rattle.alpha_isa.specs.State.{State, register}
use Rattle.alpha_items.specs.declared.item.AsmItem.{AsmItem}
use Rattle.alpha_items.specs.Words.{most_address}
use Rattle.frame_steps.specs.item_steps.Standing.{Labels, ItemsAt}
use Rattle.frame_steps.specs.item_steps.Steps.{Comes}
use Rattle.frame_memory.specs.Bytes.{bytes_from, put_bytes, low_bytes, number_from}
use Rattle.frame_memory.specs.Machine.{memory_bytes, is_reached, HasParts, IsReached}
use Rattle.frame_steps.specs.frame_accesses.Items.{frame_load, frame_store, frame_address, register_move}

-- the machine stands at the first of some items
pub record IsAt (p : Program) (there : Labels) (w : ℕ) (items : List AsmItem) (end : ℕ) (s : State) : Type 0 where
  pub lawful : IsLawful p
  pub labels : (l : ℕ) → there l ≤ length p.words
  pub items_at : ItemsAt p there w items end
  pub pc : s.pc ≡ word_address w
  pub registers : length s.registers ≡ 32
  pub words : (r : ℕ) → register s r < 2 ^ 64
  pub parts : HasParts p s
  pub bytes : (y : ℕ) → memory_bytes p s y < 256

-- it has come behind them, to the first of the others
pub record HasCome (p : Program) (there : Labels) (items : List AsmItem) (end : ℕ) (s t : State) : Type 0 where
  pub comes : Comes p s t
  pub next : ℕ
  pub is_at : IsAt p there next items end t
  pub input : t.input ≡ s.input
  pub output : t.output ≡ s.output
  pub reached : (y : ℕ) → is_reached p t y ≡ is_reached p s y

-- an offset from register 30 that is an address, and not too far for an instruction
pub record IsOffset (s : State) (offset : ℕ) : Type 0 where
  pub near : offset < most_address
  pub small : register s 30 + offset < 2 ^ 64

-- registers of values are below 29
abbrev pub IsValueRegister : ℕ → Type 0
IsValueRegister r = r < 29

-- a load
pub record LoadDone (p : Program) (there : Labels) (rest : List AsmItem) (end r a : ℕ) (s : State) : Type 0 where
  pub to : State
  pub come : HasCome p there rest end s to
  pub here : register to r ≡ number_from (bytes_from (memory_bytes p s) a 8)
  pub others : (q : ℕ) → q ≢ r → q ≢ 29 → register to q ≡ register s q
  pub bytes : memory_bytes p to ≡ memory_bytes p s

abbrev pub FrameLoads : Type 0
FrameLoads =
    (p : Program) (there : Labels) (w r offset : ℕ) (rest : List AsmItem) (end : ℕ) (s : State) →
    IsAt p there w (frame_load r offset ++ rest) end s → IsValueRegister r → IsOffset s offset →
    IsReached p s (register s 30 + offset) 8 → LoadDone p there rest end r (register s 30 + offset) s

-- a store
pub record StoreDone (p : Program) (there : Labels) (rest : List AsmItem) (end r a : ℕ) (s : State) : Type 0 where
  pub to : State
  pub come : HasCome p there rest end s to
  pub others : (q : ℕ) → q ≢ 29 → register to q ≡ register s q
  pub bytes : memory_bytes p to ≡ put_bytes (memory_bytes p s) a (low_bytes 8 (register s r))

abbrev pub FrameStores : Type 0
FrameStores =
    (p : Program) (there : Labels) (w r offset : ℕ) (rest : List AsmItem) (end : ℕ) (s : State) →
    IsAt p there w (frame_store r offset ++ rest) end s → IsValueRegister r → IsOffset s offset →
    IsReached p s (register s 30 + offset) 8 → StoreDone p there rest end r (register s 30 + offset) s

-- a register that holds a word
pub record WordDone (p : Program) (there : Labels) (rest : List AsmItem) (end r word : ℕ) (s : State) : Type 0 where
  pub to : State
  pub come : HasCome p there rest end s to
  pub here : register to r ≡ word
  pub others : (q : ℕ) → q ≢ r → q ≢ 29 → register to q ≡ register s q
  pub bytes : memory_bytes p to ≡ memory_bytes p s

abbrev pub FrameAddresses : Type 0
FrameAddresses =
    (p : Program) (there : Labels) (w r offset : ℕ) (rest : List AsmItem) (end : ℕ) (s : State) →
    IsAt p there w (frame_address r offset ++ rest) end s → IsValueRegister r → IsOffset s offset →
    WordDone p there rest end r (register s 30 + offset) s

abbrev pub RegisterMoves : Type 0
RegisterMoves =
    (p : Program) (there : Labels) (w from to : ℕ) (rest : List AsmItem) (end : ℕ) (s : State) →
    IsAt p there w (register_move from to ++ rest) end s → IsValueRegister to →
    WordDone p there rest end to (register s from) s
