-- How programs run over registers and slots: the same instructions, with the registers that an allocation states for
-- their temporaries, the transfers before each of them, and those of each edge.
use Rattle.std.specs.Prelude.{◌≡◌, ℕ, ◌+◌, ◌==◌, ◌&&◌, Bool, false, List, [], ◌∷◌, ◌++◌, take, drop, map, length, find, slice_get, slice_index_or, Option, Some, None}
use Rattle.mem_model.specs.World.{World, Rooms}
use Rattle.mem_model.specs.Ending.{Ending}
use Rattle.machine_model.specs.Code.{Site, Point, Code}
use Rattle.machine_model.specs.Machine.{Next, Over, exec, start_config}
use Rattle.pass_core.specs.Functions.{count_of}
use Rattle.temp_ir.specs.declared.insn.TempInsn.{TempInsn}
use Rattle.temp_ir.specs.declared.program.TempProgram.{TempProgram}
use Rattle.temp_ir.specs.Insns.{reads_of, targets_of}
use Rattle.temp_ir.specs.Fixed.{ended_of, has_number}
use Rattle.alloc_model.specs.declared.allocation.Transfer.{Transfer}
use Rattle.alloc_model.specs.declared.allocation.Transfer.TheVariants.{Store, Load, Shift}
use Rattle.alloc_model.specs.declared.allocation.TempPlace.{TempPlace}
use Rattle.alloc_model.specs.declared.allocation.EdgeCode.{EdgeCode}
use Rattle.alloc_model.specs.declared.allocation.Allocation.{Allocation}
use Rattle.alloc_model.specs.Contents.{Content}
use Rattle.alloc_model.specs.Stores as stores
use Rattle.alloc_model.specs.Stores.{empty, without, put, put_all}
use Rattle.alloc_model.specs.Effect.{Holder, Temp, Fixed, Incoming, Outgoing, entry_holders, others_read, others_written, calls_function, widest_call, does, takes_turn}
use Rattle.alloc_model.specs.Temporaries.{TemporaryCode, sizes_in, point_number, result_status, site_in, start_world, main_of, code_of}

-- ---- places

-- a register, the slot of a temporary, an argument of this call from the seventh on, one of the next call
pub data Place : Type 0 where
  Reg : ℕ → Place
  Slot : ℕ → Place
  In : ℕ → Place
  Out : ℕ → Place

abbrev pub place_eq : Place → Place → Bool
place_eq (Reg a) (Reg b) = a == b
place_eq (Slot a) (Slot b) = a == b
place_eq (In a) (In b) = a == b
place_eq (Out a) (Out b) = a == b
place_eq _ _ = false

-- where stands what no allocation moves; a temporary has its slot
abbrev pub home_of : Holder → Place
home_of (Temp t) = Slot t
home_of (Fixed r) = Reg r
home_of (Incoming k) = In k
home_of (Outgoing k) = Out k

-- where an instruction with stated registers reads and writes
abbrev pub places_read_at : (registers : List ℕ) → TempInsn → List Place
places_read_at registers x = map Reg (take (length (reads_of x)) registers) ++ map home_of (others_read x)

abbrev pub places_written_at : (registers : List ℕ) → TempInsn → List Place
places_written_at registers x = map Reg (drop (length (reads_of x)) registers) ++ map home_of (others_written x)

-- the places that an instruction ends: registers, and the argument places of a call
abbrev pub ends_place : TempInsn → Place → Bool
ends_place x (Reg r) = has_number (ended_of x) r
ends_place x (Out k) = calls_function x
ends_place x _ = false

-- ---- transfers

abbrev pub source_of : Transfer → Place
source_of (Store t r) = Reg r
source_of (Load t r) = Slot t
source_of (Shift t from to) = Reg from

abbrev pub transfer_target : Transfer → Place
transfer_target (Store t r) = Slot t
transfer_target (Load t r) = Reg r
transfer_target (Shift t from to) = Reg to

abbrev pub moved_temp : Transfer → ℕ
moved_temp (Store t r) = t
moved_temp (Load t r) = t
moved_temp (Shift t from to) = t

abbrev pub Places : Type 0
Places = stores.Store Place

-- transfers one after the other, each of whatever its source holds
abbrev pub do_all : List Transfer → Places → Places
do_all [] s = s
do_all (x ∷ xs) s = do_all xs (put place_eq (transfer_target x) (s (source_of x)) s)

-- ---- what an allocation says of a point

-- an allocation as a run sees it: its function, which has so many parameters and temporaries, and its maps and lists
pub record Plan : Type 0 where
  pub function : TemporaryCode
  pub params : ℕ
  pub temps : ℕ
  pub top : List (List TempPlace)
  pub bottom : List (List TempPlace)
  pub at : List (List Transfer)
  pub regs : List (List ℕ)
  pub edges : List EdgeCode

abbrev pub plan_of : Allocation → Plan
plan_of a = record {
  function = code_of a.func;
  params = a.func.params;
  temps = a.func.temps;
  top = a.top;
  bottom = a.bottom;
  at = a.at;
  regs = a.regs;
  edges = a.edges;
}

-- the number of an instruction in linear order
abbrev pub linear_number : List (List TempInsn) → (block at : ℕ) → ℕ
linear_number blocks block at = count_of (take block blocks) + at

-- the transfers before an instruction, and the registers of its temporaries
abbrev pub transfers_at : Plan → (block at : ℕ) → List Transfer
transfers_at a block at = slice_index_or a.at (linear_number a.function.blocks block at) []

abbrev pub registers_at : Plan → (block at : ℕ) → List ℕ
registers_at a block at = slice_index_or a.regs (linear_number a.function.blocks block at) []

-- the transfers of the edge from a block to another
abbrev pub code_in : Option EdgeCode → List Transfer
code_in None = []
code_in (Some e) = e.code

abbrev pub edge_transfers : Plan → (from to : ℕ) → List Transfer
edge_transfers a from to = code_in (find (λ e. (e.from == from) && (e.to == to)) a.edges)

-- ---- over registers and slots

abbrev pub placed_site : (widest : ℕ) → (transfers : List Transfer) → (registers : List ℕ) → TempInsn →
    Site Content Places
placed_site widest transfers registers x = record {
  does = does widest x;
  turn = takes_turn x;
  targets = targets_of x;
  fetch = λ s. map (do_all transfers s) (places_read_at registers x);
  put = λ cs s. put_all place_eq (places_written_at registers x) cs (without (ends_place x) (do_all transfers s));
}

abbrev pub placed_site_at : Plan → Point → Option (Site Content Places)
placed_site_at a p =
    site_in (λ at. placed_site (widest_call a.function.blocks) (transfers_at a p.block at) (registers_at a p.block at))
    p.block p.at (slice_get a.function.blocks p.block)

abbrev pub placed_site_in : Option Plan → Point → Option (Site Content Places)
placed_site_in None p = None
placed_site_in (Some a) p = placed_site_at a p

abbrev pub edge_in : Option Plan → (from to : ℕ) → List Transfer
edge_in None from to = []
edge_in (Some a) from to = edge_transfers a from to

abbrev pub functions_of : List Plan → List TemporaryCode
functions_of plans = map (λ a. a.function) plans

abbrev pub placed_code : List Plan → Code Content Places
placed_code plans = record {
  site = λ p. placed_site_in (slice_get plans p.function) p;
  number = point_number (functions_of plans);
  edge = λ p block s. do_all (edge_in (slice_get plans p.function) p.block block) s;
  entry = λ function cs. put_all place_eq (map home_of (entry_holders (length cs))) cs empty;
  locals = λ function. sizes_in (slice_get (functions_of plans) function);
  status = result_status;
}

-- so many steps from the start of a function
abbrev pub placed_run : Rooms → List Plan → (main : ℕ) → World → (steps : ℕ) → Next Places
placed_run rooms plans main w steps =
    exec Content Places rooms (placed_code plans) steps (start_config Content Places rooms (placed_code plans) main w)

-- The run of a program over registers and slots, by an allocation for each of its functions, ends so
pub record PlacesEnd (rooms : Rooms) (program : TempProgram) (allocations : List Allocation) (input : List ℕ)
    (turns : ℕ) (e : Ending) : Type 0 where
  pub steps : ℕ
  pub over : placed_run rooms (map plan_of allocations) (main_of program.functions)
      (start_world program.globals input turns) steps ≡ Over e
