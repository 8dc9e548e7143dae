-- Further small allocations that are not faithful: each lets go of a value that is asked for later, or has a list with
-- what may not stand there.
use Rattle.std.specs.Prelude.{ℕ, false, List, [], ◌∷◌}
use Rattle.temp_ir.specs.declared.operation.TempBranchOp.TheVariants.{Bne}
use Rattle.temp_ir.specs.declared.insn.TempInsn.{TempInsn}
use Rattle.temp_ir.specs.declared.insn.TempInsn.TheVariants.{Branch, Return}
use Rattle.alloc_model.specs.declared.allocation.Loc.TheVariants as loc
use Rattle.alloc_model.specs.declared.allocation.Transfer.{Transfer}
use Rattle.alloc_model.specs.declared.allocation.Transfer.TheVariants as x
use Rattle.alloc_model.specs.Places.{Plan}
use Rattle.alloc_model.specs.Faithful.{Faithful}
use Rattle.alloc_model.specs.Examples.{set_temp, return_temp, plan, edge, sum_blocks}
use Rattle.alloc_rules.specs.WrongPlacements.{with_maps, at_place, one_block, two_blocks, none_of_three, first_of_three}

-- ---- lists

-- a map at a top names a temporary that is not there, or register 28
abbrev pub other_temporary_at_top : Plan
other_temporary_at_top =
    with_maps ((at_place 4 (loc.Slot 4) ∷ []) ∷ []) ([] ∷ []) (plan one_block none_of_three first_of_three [])

abbrev pub scratch_at_bottom : Plan
scratch_at_bottom =
    with_maps ([] ∷ []) ((at_place 0 (loc.Reg 28) ∷ []) ∷ []) (plan one_block none_of_three first_of_three [])

-- a transfer on an edge names a temporary that is not there
abbrev pub other_temporary_on_edge : Plan
other_temporary_on_edge = plan two_blocks none_of_three first_of_three (edge 0 1 (x.Store 4 1 ∷ []) ∷ [])

-- the edges of a block stand by falling number
abbrev pub branching_blocks : List (List TempInsn)
branching_blocks = (set_temp 0 5 ∷ Branch Bne 0 2 ∷ []) ∷ (Return false ∷ []) ∷ (Return false ∷ []) ∷ []

abbrev pub edges_fall : Plan
edges_fall =
    plan branching_blocks ([] ∷ [] ∷ [] ∷ [] ∷ []) ((1 ∷ []) ∷ (1 ∷ []) ∷ [] ∷ [] ∷ []) (edge 0 2 [] ∷ edge 0 1 [] ∷ [])

-- ---- transfers

-- a store, and a shift, out of a register where the temporary does not stand
abbrev pub stored_from_elsewhere : Plan
stored_from_elsewhere = plan one_block ([] ∷ (x.Store 0 2 ∷ []) ∷ [] ∷ []) first_of_three []

abbrev pub shifted_from_elsewhere : Plan
shifted_from_elsewhere = plan one_block ([] ∷ (x.Shift 0 2 3 ∷ []) ∷ [] ∷ []) ((1 ∷ []) ∷ (3 ∷ []) ∷ [] ∷ []) []

-- the sum of two temporaries, with transfers before it and the registers of both
abbrev pub sum_plan : List Transfer → (left right : ℕ) → Plan
sum_plan transfers left right =
    plan sum_blocks ([] ∷ [] ∷ transfers ∷ [] ∷ [] ∷ [])
    ((1 ∷ []) ∷ (2 ∷ []) ∷ (left ∷ right ∷ 3 ∷ []) ∷ (3 ∷ []) ∷ [] ∷ []) []

-- a load, and a shift, of one of them takes the register of the other one
abbrev pub taken_by_load : Plan
taken_by_load = sum_plan (x.Store 1 2 ∷ x.Load 1 1 ∷ []) 1 1

abbrev pub taken_by_shift : Plan
taken_by_shift = sum_plan (x.Shift 1 2 1 ∷ []) 1 1

-- ---- instructions

-- a write takes the register of another temporary
abbrev pub taken_by_write : Plan
taken_by_write =
    plan sum_blocks ([] ∷ [] ∷ [] ∷ [] ∷ [] ∷ []) ((1 ∷ []) ∷ (1 ∷ []) ∷ (1 ∷ 1 ∷ 3 ∷ []) ∷ (3 ∷ []) ∷ [] ∷ []) []

-- a temporary is loaded that was written once more behind its store
abbrev pub stale_slot : Plan
stale_slot =
    plan ((set_temp 0 5 ∷ set_temp 0 7 ∷ return_temp 0) ∷ []) ([] ∷ (x.Store 0 1 ∷ []) ∷ (x.Load 0 2 ∷ []) ∷ [] ∷ [])
    ((1 ∷ []) ∷ (1 ∷ []) ∷ (2 ∷ []) ∷ [] ∷ []) []

-- ---- what a block relies on

-- a block has a temporary in a register at its top, and loads it from the slot, where the block before did not store it
abbrev pub slot_in_need : Plan
slot_in_need =
    with_maps ([] ∷ (at_place 0 (loc.Reg 1) ∷ []) ∷ []) ([] ∷ [] ∷ [])
    (plan two_blocks ([] ∷ (x.Load 0 2 ∷ []) ∷ [] ∷ []) ((1 ∷ []) ∷ (2 ∷ []) ∷ [] ∷ []) (edge 0 1 [] ∷ []))

-- a block has a temporary in a register at its top, and the edge into it leaves the temporary in another one
abbrev pub other_register_at_top : Plan
other_register_at_top =
    with_maps ([] ∷ (at_place 0 (loc.Reg 2) ∷ []) ∷ []) ([] ∷ [] ∷ [])
    (plan two_blocks none_of_three ((1 ∷ []) ∷ (2 ∷ []) ∷ [] ∷ []) (edge 0 1 [] ∷ []))

-- none of them is faithful
pub record WrongReplays : Type 0 where
  pub temporaries_at_top : ¬ Faithful other_temporary_at_top
  pub given_in_maps : ¬ Faithful scratch_at_bottom
  pub temporaries_on_edge : ¬ Faithful other_temporary_on_edge
  pub order_of_edges : ¬ Faithful edges_fall
  pub stores : ¬ Faithful stored_from_elsewhere
  pub shifts : ¬ Faithful shifted_from_elsewhere
  pub loads_take : ¬ Faithful taken_by_load
  pub shifts_take : ¬ Faithful taken_by_shift
  pub writes_take : ¬ Faithful taken_by_write
  pub writes_end_slots : ¬ Faithful stale_slot
  pub needs : ¬ Faithful slot_in_need
  pub registers_lead : ¬ Faithful other_register_at_top
