-- How programs run: the machine over objects, where virtual registers keep the values.
use Rattle.std.specs.Prelude.{◌≡◌, ℕ, suc, ◌+◌, ◌%◌, ◌==◌, false, List, [], ◌∷◌, take, drop, map, sum_by, position, slice_get, slice_index_or, Option, Some, None, unwrap_or, if◌then◌else◌}
use Rattle.mem_model.specs.declared.value.Value.{Value}
use Rattle.mem_model.specs.declared.value.Value.TheVariants.{Word, Unset}
use Rattle.mem_model.specs.World.{World, Rooms, meter_of}
use Rattle.mem_model.specs.Ending.{Ending}
use Rattle.machine_model.specs.Code.{Jumps, Site, Point, Code}
use Rattle.machine_model.specs.Machine.{Next, Over, exec, start_config}
use Rattle.mem_objects.specs.declared.DataObject.{DataObject}
use Rattle.mem_objects.specs.Start.{start_memory}
use Rattle.suifvm_ir.specs.declared.insn.VmInsn.{VmInsn}
use Rattle.suifvm_ir.specs.declared.program.VmProgram.{VmProgram}
use Rattle.suifvm_ir.specs.Insns.{reads_of, writes_of, targets_of}
use Rattle.pass_core.specs.Functions.{count_of}
use Rattle.suifvm_ir.specs.Programs.{VmFunction, is_main}
use Rattle.suifvm_meaning.specs.Effect.{does, takes_turn}

-- ---- registers

-- what the registers of a call hold, by their numbers
abbrev pub Registers : Type 0
Registers = ℕ → Value

abbrev pub set_register : (register : ℕ) → Value → Registers → Registers
set_register register v rs k = if k == register then v else rs k

-- the first value, or unset where there is none
abbrev pub first_or_unset : List Value → Value
first_or_unset [] = Unset
first_or_unset (v ∷ vs) = v

-- values are put into registers, in order
abbrev pub set_registers : (registers : List ℕ) → List Value → Registers → Registers
set_registers [] vs rs = rs
set_registers (r ∷ registers) vs rs = set_registers registers (drop 1 vs) (set_register r (first_or_unset vs) rs)

-- a called function has its arguments in its first registers, and its other registers are unset
abbrev pub registers_of : List Value → Registers
registers_of vs k = slice_index_or vs k Unset

-- ---- code

-- a function as a run sees it: the sizes of its memory locals, and its blocks
pub record FunctionCode : Type 0 where
  pub sizes : List ℕ
  pub blocks : List (List VmInsn)

abbrev pub code_of : VmFunction → FunctionCode
code_of f = record { sizes = map (λ o. o.size) f.objects; blocks = f.blocks }

abbrev pub insn_site : VmInsn → Site Value Registers
insn_site i = record {
  does = does i;
  turn = takes_turn i;
  targets = targets_of i;
  fetch = λ rs. map rs (reads_of i);
  put = λ vs rs. set_registers (writes_of i) vs rs;
}

-- behind the last instruction of a block the next block follows
abbrev pub next_site : (block : ℕ) → Site Value Registers
next_site block = record {
  does = λ own vs o. Jumps 0 o;
  turn = false;
  targets = suc block ∷ [];
  fetch = λ rs. [];
  put = λ vs rs. rs;
}

abbrev pub site_or_next : (block : ℕ) → Option VmInsn → Site Value Registers
site_or_next block (Some i) = insn_site i
site_or_next block None = next_site block

abbrev pub site_in_block : (block at : ℕ) → Option (List VmInsn) → Option (Site Value Registers)
site_in_block block at None = None
site_in_block block at (Some insns) = Some (site_or_next block (slice_get insns at))

abbrev pub site_in_function : (block at : ℕ) → Option FunctionCode → Option (Site Value Registers)
site_in_function block at None = None
site_in_function block at (Some f) = site_in_block block at (slice_get f.blocks block)

-- the blocks, and the sizes, of a function that may not be there
abbrev pub blocks_in : Option FunctionCode → List (List VmInsn)
blocks_in None = []
blocks_in (Some f) = f.blocks

abbrev pub sizes_in : Option FunctionCode → List ℕ
sizes_in None = []
sizes_in (Some f) = f.sizes

-- the number of an instruction, counted over all functions from 0
abbrev pub point_number : List FunctionCode → Point → ℕ
point_number functions p =
    sum_by (λ f. count_of f.blocks) (take p.function functions) + count_of
    (take p.block (blocks_in (slice_get functions p.function))) + p.at

-- the status is a number that was returned, modulo 256
abbrev pub value_status : Value → Option ℕ
value_status (Word n) = Some (n % 256)
value_status _ = None

abbrev pub result_status : List Value → Option ℕ
result_status vs = value_status (first_or_unset vs)

abbrev pub vm_code : List FunctionCode → Code Value Registers
vm_code functions = record {
  site = λ p. site_in_function p.block p.at (slice_get functions p.function);
  number = point_number functions;
  edge = λ p block rs. rs;
  entry = λ function vs. registers_of vs;
  locals = λ function. sizes_in (slice_get functions function);
  status = result_status;
}

-- ---- runs

-- the world at the start: the objects of static storage, the input, and so many turns
abbrev pub start_world : List DataObject → (input : List ℕ) → (turns : ℕ) → World
start_world globals input turns = record {
  outer = record { memory = start_memory globals; input = input; takings = 0; output = [] };
  meter = meter_of turns;
}

-- so many steps from the start of a function
abbrev pub vm_run : Rooms → List FunctionCode → (main : ℕ) → World → (steps : ℕ) → Next Registers
vm_run rooms functions main w steps =
    exec Value Registers rooms (vm_code functions) steps (start_config Value Registers rooms (vm_code functions) main w)

-- the number of the function `main`
abbrev pub main_of : List VmFunction → ℕ
main_of functions = unwrap_or (position is_main functions) 0

-- The run of a program on an input with so many turns ends so: Done with a status, by a Trap with a code, Undefined at
-- an instruction with a number, or for want of a turn (More), each in its last world, whose output and peak it has
pub record behave_vm (rooms : Rooms) (program : VmProgram) (input : List ℕ) (turns : ℕ) (e : Ending) : Type 0 where
  pub steps : ℕ
  pub over : vm_run rooms (map code_of program.functions) (main_of program.functions)
      (start_world program.globals input turns) steps ≡ Over e
