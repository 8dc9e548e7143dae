-- What is put into lists by visits, whatever the allocation is.
use Rattle.std.specs.Prelude.{◌≡◌, ℕ, ◌<◌, false, true, Bool, List, [], All, length, slice_index_or}
use Rattle.alloc_model.specs.declared.allocation.TempPlace.{TempPlace}
use Rattle.alloc_model.specs.Faithful.{IsGivenRegister, IsTransfer}
use Rattle.binpack_blocks.specs.declared.block.Lists.{Lists}
use Rattle.binpack_blocks.specs.declared.blocks.Maps.{Maps}
use Rattle.binpack_blocks.specs.model.Bins.{Bins, IsOnce, AreInside}
use Rattle.binpack_blocks.specs.model.Tops.{is_listed, places_from}

-- each of the 26 registers has one temporary at most, and each of so many temporaries is in one at most
pub record AreBins (temps : ℕ) (bins : Bins) : Type 0 where
  pub many : length bins ≡ 26
  pub once : IsOnce bins
  pub inside : AreInside temps bins

-- a map names what is listed and stands in registers
pub record IsMapOf (temps : ℕ) (all : Bool) (live : List Bool) (places : List TempPlace) : Type 0 where
  pub bins : Bins
  pub are : AreBins temps bins
  pub is : places ≡ places_from (is_listed all live) 0 bins

-- the maps of so many blocks
pub record AreMapsOf (temps : ℕ) (tops : List (List Bool)) (done : ℕ) (maps : Maps) : Type 0 where
  pub tops_size : length maps.top ≡ done
  pub bottoms_size : length maps.bottom ≡ done
  pub top : (block : ℕ) → block < done →
      IsMapOf temps false (slice_index_or tops block []) (slice_index_or maps.top block [])
  pub bottom : (block : ℕ) → block < done →
      IsMapOf temps true (slice_index_or tops block []) (slice_index_or maps.bottom block [])

-- the transfers and registers name what they may
pub record AreMade (temps : ℕ) (lists : Lists) : Type 0 where
  pub transfers : All (All (IsTransfer temps IsGivenRegister)) lists.transfers
  pub registers : All (All IsGivenRegister) lists.registers
