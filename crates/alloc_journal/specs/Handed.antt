-- Allocations of which a block's top takes no place away and gives none.
use Rattle.std.specs.Prelude.{◌≡◌, ℕ, zero, suc, ◌<◌, true, List, length}
use Rattle.temp_ir.specs.Programs.{TempFn}
use Rattle.alloc_model.specs.declared.allocation.Transfer.{Transfer}
use Rattle.alloc_model.specs.Places.{Slot, Plan}
use Rattle.alloc_model.specs.Needs.{place_at_top}
use Rattle.alloc_rules.specs.Visits.{Wants, Homes, homes_at_bottom}

-- an allocation of a function with these lists for its instructions
pub record HasRows (a : Plan) (f : TempFn) (at : List (List Transfer)) (regs : List (List ℕ)) : Type 0 where
  pub blocks : a.function.blocks ≡ f.blocks
  pub temps : a.temps ≡ f.temps
  pub transfers : a.at ≡ at
  pub registers : a.regs ≡ regs

-- where temporaries have their places behind the blocks before one; before the first each has its slot
abbrev pub homes_handed : Plan → Wants → (block : ℕ) → Homes
homes_handed a wants zero t = Slot t
homes_handed a wants (suc block) t = homes_at_bottom a wants block t

-- what is live at a block's top has there the place that it had behind the blocks before
pub record HandsHomesOn (a : Plan) (wants : Wants) : Type 0 where
  pub each : (block t : ℕ) → block < length a.function.blocks → wants.live t block 0 ≡ true →
      place_at_top a block t ≡ homes_handed a wants block t
