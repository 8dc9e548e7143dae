-- The sets of registers that are live at the tops and bottoms of blocks.
use Rattle.std.specs.Prelude.{◌≡◌, ℕ, ◌<◌, ◌^◌, ◌==◌, ◌&&◌, ◌||◌, not, ◌↔◌, Bool, true, false, List, [], ◌∷◌, length, slice_get, Some}
use Rattle.std.specs.List.{list_any}
use Rattle.pass_core.specs.Live.{Live}
use Rattle.bitvector_flow.specs.Flows.{has_at, AreBounded}

abbrev pub has_register : (registers : List ℕ) → (register : ℕ) → Bool
has_register registers register = list_any (λ r. r == register) registers

module _ {I : Type 0} (reads writes : I → List ℕ) where
  -- instructions read a register before they write it
  abbrev pub reads_first : List I → (register : ℕ) → Bool
  reads_first [] register = false
  reads_first (i ∷ insns) register =
      has_register (reads i) register || (not (has_register (writes i) register) && reads_first insns register)

-- one of them writes it
abbrev pub some_writes : {I : Type 0} → (writes : I → List ℕ) → List I → (register : ℕ) → Bool
some_writes writes [] register = false
some_writes writes (i ∷ insns) register = has_register (writes i) register || some_writes writes insns register

-- an instruction reads and writes so few registers that each can be asked for by a number of 32 bits
abbrev pub HasFewRegisters : {I : Type 0} → (reads writes : I → List ℕ) → I → Type 0
HasFewRegisters reads writes i = (length (reads i) < 2 ^ 32) × (length (writes i) < 2 ^ 32)

-- these sets have what is live at the top and at the bottom of each block
pub record AreLive {I : Type 0} (reads writes targets : I → List ℕ) (flows_on : I → Bool) (blocks : List (List I))
    (bound : ℕ) (tops bottoms : List (List Bool)) : Type 0 where
  pub tops_bounded : AreBounded (length blocks) bound tops
  pub bottoms_bounded : AreBounded (length blocks) bound bottoms
  pub live_at_top : (register block : ℕ) →
      (has_at tops block register ≡ true) ↔ Live reads writes targets flows_on blocks register block 0
  pub live_at_bottom : (register block : ℕ) (insns : List I) → slice_get blocks block ≡ Some insns →
      (has_at bottoms block register ≡ true)
      ↔ Live reads writes targets flows_on blocks register block (length insns)
