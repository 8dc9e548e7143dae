-- Small allocations of which each breaks a clause of what is faithful.
use Rattle.std.specs.Prelude.{ℕ, pos, true, List, [], ◌∷◌}
use Rattle.temp_ir.specs.declared.insn.FixedRegister.TheVariants.{Value}
use Rattle.temp_ir.specs.declared.insn.TempInsn.{TempInsn}
use Rattle.temp_ir.specs.declared.insn.TempInsn.TheVariants.{SetFixed, Jump, Return}
use Rattle.alloc_model.specs.declared.allocation.Loc.{Loc}
use Rattle.alloc_model.specs.declared.allocation.Loc.TheVariants as loc
use Rattle.alloc_model.specs.declared.allocation.TempPlace.{TempPlace}
use Rattle.alloc_model.specs.declared.allocation.Transfer.{Transfer}
use Rattle.alloc_model.specs.declared.allocation.Transfer.TheVariants as x
use Rattle.alloc_model.specs.Places.{Plan}
use Rattle.alloc_model.specs.Faithful.{Faithful}
use Rattle.alloc_model.specs.Examples.{set_temp, return_temp, plan, edge, calling_blocks, swap_two}

-- an allocation with these maps at the tops and bottoms of blocks
abbrev pub with_maps : (top bottom : List (List TempPlace)) → Plan → Plan
with_maps top bottom a = record {
  function = a.function;
  params = a.params;
  temps = a.temps;
  top = top;
  bottom = bottom;
  at = a.at;
  regs = a.regs;
  edges = a.edges;
}

abbrev pub at_place : (t : ℕ) → Loc → TempPlace
at_place t p = record { temp = t; place = p }

-- ---- functions

-- a number is returned: by the block that makes it, by the next one, and by one that is jumped to
abbrev pub one_block : List (List TempInsn)
one_block = (set_temp 0 5 ∷ return_temp 0) ∷ []

abbrev pub two_blocks : List (List TempInsn)
two_blocks = (set_temp 0 5 ∷ []) ∷ return_temp 0 ∷ []

abbrev pub jumping_blocks : List (List TempInsn)
jumping_blocks = (set_temp 0 5 ∷ Jump 1 ∷ []) ∷ return_temp 0 ∷ []

-- what nobody wrote is returned
abbrev pub unset_returned : List (List TempInsn)
unset_returned = return_temp 0 ∷ []

-- a number is made between a fixed register's write and its read
abbrev pub fixed_over : List (List TempInsn)
fixed_over = (SetFixed Value (pos 5) ∷ set_temp 0 7 ∷ Return true ∷ []) ∷ []

-- no transfer before any of three instructions, and their registers where the temporary has the first one
abbrev pub none_of_three : List (List Transfer)
none_of_three = [] ∷ [] ∷ [] ∷ []

abbrev pub first_of_three : List (List ℕ)
first_of_three = (1 ∷ []) ∷ (1 ∷ []) ∷ [] ∷ []

-- ---- lists

-- a map or list is missing
abbrev pub no_tops : Plan
no_tops = with_maps [] ([] ∷ []) (plan one_block none_of_three first_of_three [])

abbrev pub no_bottoms : Plan
no_bottoms = with_maps ([] ∷ []) [] (plan one_block none_of_three first_of_three [])

abbrev pub few_transfers : Plan
few_transfers = plan one_block ([] ∷ []) first_of_three []

abbrev pub few_registers : Plan
few_registers = plan one_block none_of_three ((1 ∷ []) ∷ (1 ∷ []) ∷ []) []

abbrev pub no_edge : Plan
no_edge = plan two_blocks none_of_three first_of_three []

-- an instruction has a register too many
abbrev pub more_registers : Plan
more_registers = plan one_block none_of_three ((1 ∷ 2 ∷ []) ∷ (1 ∷ []) ∷ [] ∷ []) []

-- a map names the slot of another temporary, a transfer one that is not there
abbrev pub other_slot : Plan
other_slot = with_maps ([] ∷ []) ((at_place 0 (loc.Slot 1) ∷ []) ∷ []) (plan one_block none_of_three first_of_three [])

abbrev pub other_temporary : Plan
other_temporary = plan one_block ([] ∷ [] ∷ (x.Store 4 1 ∷ []) ∷ []) first_of_three []

-- register 30, and within a block register 28, is given to no temporary
abbrev pub scratch_in_block : Plan
scratch_in_block = plan one_block ([] ∷ [] ∷ (x.Shift 0 1 28 ∷ []) ∷ []) first_of_three []

abbrev pub stack_on_edge : Plan
stack_on_edge = plan two_blocks none_of_three first_of_three (edge 0 1 (x.Shift 0 1 30 ∷ []) ∷ [])

abbrev pub stack_stated : Plan
stack_stated = plan one_block none_of_three ((30 ∷ []) ∷ (30 ∷ []) ∷ [] ∷ []) []

-- ---- what is asked for

-- the top of the entry says that a temporary stands in a register
abbrev pub register_at_entry : Plan
register_at_entry =
    with_maps ((at_place 0 (loc.Reg 1) ∷ []) ∷ []) ([] ∷ [])
    (plan unset_returned ([] ∷ [] ∷ []) ((1 ∷ []) ∷ [] ∷ []) [])

-- a load of what was not stored
abbrev pub not_stored : Plan
not_stored = plan one_block ([] ∷ (x.Load 0 2 ∷ []) ∷ [] ∷ []) ((1 ∷ []) ∷ (2 ∷ []) ∷ [] ∷ []) []

-- a read in another register, and in one that a call ended
abbrev pub other_register : Plan
other_register = plan one_block none_of_three ((1 ∷ []) ∷ (2 ∷ []) ∷ [] ∷ []) []

abbrev pub ended_register : Plan
ended_register = plan calling_blocks ([] ∷ [] ∷ [] ∷ [] ∷ []) ((1 ∷ []) ∷ [] ∷ (1 ∷ []) ∷ [] ∷ []) []

-- a temporary is written into a fixed register that is still wanted
abbrev pub fixed_register_taken : Plan
fixed_register_taken = plan fixed_over none_of_three ([] ∷ (0 ∷ []) ∷ [] ∷ []) []

-- a bottom names a register where the temporary does not stand
abbrev pub other_bottom : Plan
other_bottom =
    with_maps ([] ∷ [] ∷ []) ((at_place 0 (loc.Reg 2) ∷ []) ∷ [] ∷ [])
    (plan two_blocks ([] ∷ (x.Load 0 1 ∷ []) ∷ [] ∷ []) first_of_three (edge 0 1 (x.Store 0 1 ∷ []) ∷ []))

-- an edge does not lead to what the top of the next block starts with, and one loads before it stores
abbrev pub not_stored_on_edge : Plan
not_stored_on_edge = plan two_blocks ([] ∷ (x.Load 0 1 ∷ []) ∷ [] ∷ []) first_of_three (edge 0 1 [] ∷ [])

abbrev pub load_before_store : Plan
load_before_store =
    plan two_blocks ([] ∷ (x.Load 0 1 ∷ []) ∷ [] ∷ []) first_of_three
    (edge 0 1 (x.Load 0 2 ∷ x.Store 0 1 ∷ []) ∷ [])

-- so with an edge of a jump
abbrev pub not_stored_on_jump : Plan
not_stored_on_jump =
    plan jumping_blocks ([] ∷ [] ∷ (x.Load 0 1 ∷ []) ∷ [] ∷ []) ((1 ∷ []) ∷ [] ∷ (1 ∷ []) ∷ [] ∷ []) (edge 0 1 [] ∷ [])

-- two temporaries change registers, and the second move asks for what the first one took
abbrev pub moves_in_wrong_order : Plan
moves_in_wrong_order =
    with_maps ([] ∷ (at_place 0 (loc.Reg 2) ∷ at_place 1 (loc.Reg 1) ∷ []) ∷ []) ([] ∷ [] ∷ [])
    (plan swap_two ([] ∷ [] ∷ [] ∷ [] ∷ [] ∷ [] ∷ []) ((1 ∷ []) ∷ (2 ∷ []) ∷ [] ∷ (2 ∷ 1 ∷ 3 ∷ []) ∷ (3 ∷ []) ∷ [] ∷ [])
    (edge 0 1 (x.Shift 0 1 2 ∷ x.Shift 1 2 1 ∷ []) ∷ []))

-- none of them is faithful
pub record WrongPlacements : Type 0 where
  pub tops : ¬ Faithful no_tops
  pub bottoms : ¬ Faithful no_bottoms
  pub transfers : ¬ Faithful few_transfers
  pub registers : ¬ Faithful few_registers
  pub stated : ¬ Faithful more_registers
  pub edges : ¬ Faithful no_edge
  pub slots : ¬ Faithful other_slot
  pub temporaries : ¬ Faithful other_temporary
  pub given_in_blocks : ¬ Faithful scratch_in_block
  pub given_on_edges : ¬ Faithful stack_on_edge
  pub given_to_operands : ¬ Faithful stack_stated
  pub entry : ¬ Faithful register_at_entry
  pub moves : ¬ Faithful not_stored
  pub temps_read : ¬ Faithful other_register
  pub temps_read_behind_call : ¬ Faithful ended_register
  pub fixed_read : ¬ Faithful fixed_register_taken
  pub named_at_bottom : ¬ Faithful other_bottom
  pub edge_leads : ¬ Faithful not_stored_on_edge
  pub edge_moves : ¬ Faithful load_before_store
  pub jump_leads : ¬ Faithful not_stored_on_jump
  pub jump_moves : ¬ Faithful moves_in_wrong_order
