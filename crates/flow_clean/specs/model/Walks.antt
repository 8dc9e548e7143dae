-- A walk over the instructions of a block from the last one on, with the set of the registers that are wanted.
use Rattle.std.specs.Prelude.{◌≡◌, ℕ, suc, ◌==◌, ◌&&◌, ◌||◌, not, Bool, false, List, [], ◌∷◌, ◌++◌, length, Option, Some, None, if◌then◌else◌}
use Rattle.bk_bits.specs.Sets.{has}
use Rattle.bk_ilist.specs.Listing.{items, last_id}
use Rattle.bitvector_flow.specs.Flows.{has_at}
use Rattle.bitvector_flow.specs.Lives.{has_register, AreLive}
use Rattle.suifvm_ir.specs.declared.insn.VmInsn.{VmInsn}
use Rattle.suifvm_ir.specs.Insns.{reads_of, writes_of, targets_of, flows_on_of}
use Rattle.flow_clean.specs.Dead.{is_unwanted, is_wanted, cleaned}

-- a register is the one that is named, if one is
abbrev pub is_named : Option ℕ → (register : ℕ) → Bool
is_named None register = false
is_named (Some named) register = named == register

-- one that is named is a member
abbrev pub is_member_in : (set : ℕ → Bool) → Option ℕ → Bool
is_member_in set None = false
is_member_in set (Some register) = set register

-- a register is wanted before an instruction
abbrev pub is_wanted_before : (wanted : ℕ → Bool) → VmInsn → (register : ℕ) → Bool
is_wanted_before wanted i register =
    has_register (reads_of i) register || (not (has_register (writes_of i) register) && wanted register)

-- a set of what is wanted became that of what is wanted before an instruction
pub record IsWantedBefore (i : VmInsn) (wanted wanted_new : List Bool) : Type 0 where
  pub bound : length wanted_new ≡ length wanted
  pub members : (k : ℕ) → has wanted_new k ≡ is_wanted_before (has wanted) i k

-- an instruction was put before those that stay
pub record IsKept (i : VmInsn) (kept kept_new : List VmInsn) (wanted wanted_new : List Bool) : Type 0 where
  pub kept_is : kept_new ≡ i ∷ kept
  pub wants : IsWantedBefore i wanted wanted_new

-- it was, unless it may be left out
pub record IsVisited (i : VmInsn) (kept kept_new : List VmInsn) (wanted wanted_new : List Bool) : Type 0 where
  pub bound : length wanted_new ≡ length wanted
  pub kept_is : kept_new ≡ (if is_unwanted (has wanted) i then kept else i ∷ kept)
  pub members : (k : ℕ) →
      has wanted_new k ≡ (if is_unwanted (has wanted) i then has wanted k else is_wanted_before (has wanted) i k)

-- the walk came to a place: what stands behind it is cleaned, and the set has what is wanted there
pub record IsCleanedFrom (bottom : ℕ → Bool) (registers : ℕ) (pairs : List (ℕ × VmInsn)) (at : Option ℕ)
    (kept : List VmInsn) (wanted : List Bool) : Type 0 where
  pub front : List (ℕ × VmInsn)
  pub back : List (ℕ × VmInsn)
  pub split : pairs ≡ front ++ back
  pub place : at ≡ last_id front
  pub kept_is : kept ≡ cleaned bottom (items back)
  pub members : (k : ℕ) → has wanted k ≡ is_wanted bottom kept k
  pub bound : length wanted ≡ registers

-- how many pairs stand before the first one of an id
abbrev pub places_before : List (ℕ × VmInsn) → (id : ℕ) → ℕ
places_before [] id = 0
places_before (p ∷ pairs) id = if p.0 == id then 0 else suc (places_before pairs id)

-- how many pairs stand up to the one of an id
abbrev pub count_up_to : List (ℕ × VmInsn) → Option ℕ → ℕ
count_up_to pairs None = 0
count_up_to pairs (Some id) = suc (places_before pairs id)

-- the blocks, each cleaned by what is live at its bottom, from a number on
abbrev pub cleaned_from : (bottom : ℕ → ℕ → Bool) → (number : ℕ) → List (List VmInsn) → List (List VmInsn)
cleaned_from bottom number [] = []
cleaned_from bottom number (insns ∷ blocks) = cleaned (bottom number) insns ∷ cleaned_from bottom (suc number) blocks

-- these are the blocks, each cleaned by what is live at its bottom
pub record AreCleanedBlocks (temps : ℕ) (before after : List (List VmInsn)) : Type 0 where
  pub tops : List (List Bool)
  pub bottoms : List (List Bool)
  pub live : AreLive reads_of writes_of targets_of flows_on_of before temps tops bottoms
  pub after_is : after ≡ cleaned_from (has_at bottoms) 0 before
