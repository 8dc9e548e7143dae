-- The blocks of a function, one after the other.
use Rattle.std.specs.Prelude.{◌≡◌, ℕ, suc, ◌++◌, ◌<◌, false, true, Bool, List, [], ◌∷◌, take, length, slice_get, slice_index_or, None, Some}
use Rattle.pass_core.specs.Functions.{count_of}
use Rattle.temp_ir.specs.declared.insn.TempInsn.{TempInsn}
use Rattle.alloc_rules.specs.declared.scan.Lifetimes.{Lifetimes}
use Rattle.binpack_blocks.specs.declared.block.Lists.{Lists}
use Rattle.binpack_blocks.specs.declared.blocks.Maps.{Maps}
use Rattle.binpack_blocks.specs.model.Bins.{Bins, held_in, lent}
use Rattle.binpack_blocks.specs.model.Steps.{State}
use Rattle.binpack_blocks.specs.model.Lists.{AddsRows}
use Rattle.binpack_blocks.specs.model.Tops.{is_listed, places_from}

-- a block is scanned, of whose first instruction this is the number, where these are live at its top
pub record AddsBlock (temps : ℕ) (lives : Lifetimes) (number : ℕ) (insns : List TempInsn) (live : List Bool) (before : Bins)
    (old new : Maps) (before_lists behind_lists : Lists) (behind : Bins) : Type 0 where
  pub begun : State
  pub left : State
  pub size : length begun.bins ≡ 26
  pub lends : (r : ℕ) → r < 26 → held_in begun.bins r ≡ lent (held_in before r)
  pub top : new.top ≡ old.top ++ places_from (is_listed false live) 0 begun.bins ∷ []
  pub rows : AddsRows temps lives number insns begun (length insns) before_lists behind_lists left
  pub bottom : new.bottom ≡ old.bottom ++ places_from (is_listed true live) 0 left.bins ∷ []
  pub is_left : behind ≡ left.bins

-- so many blocks are scanned, where a list has what is live at the tops
pub data ScansBlocks (temps : ℕ) (lives : Lifetimes) (blocks : List (List TempInsn)) (tops : List (List Bool)) :
    (done : ℕ) → Maps → Lists → Bins → Type 0 where
  NoBlock : {maps : Maps} {lists : Lists} {bins : Bins} → length bins ≡ 26 → ((r : ℕ) → held_in bins r ≡ None) →
      maps.top ≡ [] → maps.bottom ≡ [] → lists.transfers ≡ [] → lists.registers ≡ [] →
      ScansBlocks temps lives blocks tops 0 maps lists bins
  OneBlock : {done : ℕ} {maps new : Maps} {lists behind : Lists} {bins others : Bins} →
      ScansBlocks temps lives blocks tops done maps lists bins → (insns : List TempInsn) →
      slice_get blocks done ≡ Some insns →
      AddsBlock temps lives (count_of (take done blocks)) insns (slice_index_or tops done []) bins maps new lists behind others →
      ScansBlocks temps lives blocks tops (suc done) new behind others
