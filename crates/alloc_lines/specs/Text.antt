-- The text of an allocation, and of a journal.
use Rattle.std.specs.Prelude.{ℕ, ◌+◌, List, [], ◌∷◌, ◌++◌, length, slice_index_or, flat_map, codes, decimal}
use Rattle.suifvm_ir.specs.Lines.{block_name}
use Rattle.temp_ir.specs.declared.insn.TempInsn.{TempInsn}
use Rattle.temp_ir.specs.Text.{register_name, insn_text}
use Rattle.alloc_model.specs.declared.allocation.Loc.{Loc}
use Rattle.alloc_model.specs.declared.allocation.Loc.TheVariants as loc
use Rattle.alloc_model.specs.declared.allocation.TempPlace.{TempPlace}
use Rattle.alloc_model.specs.declared.allocation.Transfer.{Transfer}
use Rattle.alloc_model.specs.declared.allocation.Transfer.TheVariants.{Store, Load, Shift}
use Rattle.alloc_model.specs.declared.allocation.Event.{Event}
use Rattle.alloc_model.specs.declared.allocation.Event.TheVariants as event
use Rattle.alloc_model.specs.declared.allocation.EdgeCode.{EdgeCode}
use Rattle.alloc_model.specs.declared.allocation.Allocation.{Allocation}
use Rattle.alloc_lines.specs.Registers.{with_stated_registers}

-- ---- transfers and events

-- a word, a temporary and its register
abbrev pub move_line : (word : List ℕ) → (temp register : ℕ) → List ℕ
move_line word temp register =
    word ++ codes " t" ++ decimal temp ++ codes " " ++ register_name register ++ codes "\n"

abbrev pub shift_line : (temp from to : ℕ) → List ℕ
shift_line temp from to =
    codes "move t" ++ decimal temp ++ codes " " ++ register_name from ++ codes " " ++ register_name to ++ codes "\n"

abbrev pub transfer_line : Transfer → List ℕ
transfer_line (Store temp register) = move_line (codes "store") temp register
transfer_line (Load temp register) = move_line (codes "load") temp register
transfer_line (Shift temp from to) = shift_line temp from to

abbrev pub transfers_text : List Transfer → List ℕ
transfers_text transfers = flat_map transfer_line transfers

abbrev pub event_line : Event → List ℕ
event_line (event.Visit number) = codes "visit " ++ decimal number ++ codes "\n"
event_line (event.Assign temp register) = move_line (codes "assign") temp register
event_line (event.Evict temp register) = move_line (codes "evict") temp register
event_line (event.Store temp register) = move_line (codes "store") temp register
event_line (event.Load temp register) = move_line (codes "load") temp register
event_line (event.Shift temp from to) = shift_line temp from to
event_line (event.Write temp register) = move_line (codes "write") temp register

abbrev pub events_text : List Event → List ℕ
events_text events = flat_map event_line events

-- ---- maps

abbrev pub place_text : Loc → List ℕ
place_text (loc.Reg register) = register_name register
place_text (loc.Slot temp) = codes "s" ++ decimal temp

-- a temporary with its place, and a blank before it
abbrev pub standing_text : TempPlace → List ℕ
standing_text standing =
    codes " t" ++ decimal standing.temp ++ codes "=" ++ place_text standing.place

abbrev pub standings_text : List TempPlace → List ℕ
standings_text standings = flat_map standing_text standings

-- the places at an end of a block
abbrev pub map_line : (block : ℕ) → (word : List ℕ) → List TempPlace → List ℕ
map_line block word standings = block_name block ++ word ++ standings_text standings ++ codes "\n"

-- ---- blocks

-- an instruction with a number, and the transfers before it
abbrev pub insn_lines : (number : ℕ) → List Transfer → (registers : List ℕ) → TempInsn → List ℕ
insn_lines number transfers registers insn =
    transfers_text transfers ++ decimal number ++ codes " " ++ insn_text (codes "$")
    (with_stated_registers registers insn)
    ++ codes "\n"

-- the instructions from a place in linear order on; before the first of the function stand so many others
abbrev pub insns_lines : (first at : ℕ) → List (List Transfer) → (registers : List (List ℕ)) → List TempInsn → List ℕ
insns_lines first at transfers registers [] = []
insns_lines first at transfers registers (insn ∷ insns) =
    insn_lines (first + at) (slice_index_or transfers at []) (slice_index_or registers at []) insn
    ++ insns_lines first (at + 1) transfers registers insns

abbrev pub block_lines : (first at block : ℕ) → Allocation → List TempInsn → List ℕ
block_lines first at block a insns =
    map_line block (codes " top") (slice_index_or a.top block []) ++ insns_lines first at a.at a.regs insns
    ++ map_line block (codes " bottom") (slice_index_or a.bottom block [])

-- the blocks from one on
abbrev pub blocks_lines : (first at block : ℕ) → Allocation → List (List TempInsn) → List ℕ
blocks_lines first at block a [] = []
blocks_lines first at block a (insns ∷ blocks) =
    block_lines first at block a insns ++ blocks_lines first (at + length insns) (block + 1) a blocks

-- ---- edges

abbrev pub edge_lines : EdgeCode → List ℕ
edge_lines edge =
    codes "edge " ++ block_name edge.from ++ codes " " ++ block_name edge.to ++ codes "\n" ++ transfers_text edge.code

abbrev pub edges_text : List EdgeCode → List ℕ
edges_text edges = flat_map edge_lines edges

-- ---- whole texts

abbrev pub name_line : List ℕ → List ℕ
name_line name = codes "func " ++ name ++ codes "\n"

-- an allocation, before whose instructions stand so many others
abbrev pub allocation_text : (first : ℕ) → Allocation → List ℕ
allocation_text first a = name_line a.func.name ++ blocks_lines first 0 0 a a.func.blocks ++ edges_text a.edges

abbrev pub journal_lines : Allocation → List ℕ
journal_lines a = name_line a.func.name ++ events_text a.journal
