-- How programs run over temporaries: the machine over objects, where each call has temporaries, fixed registers and
-- argument places of its own.
use Rattle.std.specs.Prelude.{◌≡◌, ℕ, suc, ◌+◌, ◌%◌, ◌==◌, ◌&&◌, Bool, true, false, List, [], ◌∷◌, take, map, length, sum_by, position, slice_get, Option, Some, None, unwrap_or}
use Rattle.mem_model.specs.declared.value.Value.TheVariants.{Word}
use Rattle.mem_model.specs.World.{World, Rooms, meter_of}
use Rattle.mem_model.specs.Ending.{Ending}
use Rattle.machine_model.specs.Code.{Jumps, Site, Point, Code}
use Rattle.machine_model.specs.Machine.{Next, Over, exec, start_config}
use Rattle.mem_objects.specs.declared.DataObject.{DataObject}
use Rattle.mem_objects.specs.Start.{start_memory}
use Rattle.pass_core.specs.Functions.{count_of, last_of}
use Rattle.temp_ir.specs.declared.insn.TempInsn.{TempInsn}
use Rattle.temp_ir.specs.declared.program.TempProgram.{TempProgram}
use Rattle.temp_ir.specs.Insns.{targets_of, flows_on_of}
use Rattle.temp_ir.specs.Programs.{TempFn, is_main}
use Rattle.alloc_model.specs.Contents.{Content, Plain}
use Rattle.alloc_model.specs.Stores.{Store, first_or_unset, empty, without, put_all}
use Rattle.alloc_model.specs.Effect.{Holder, holder_eq, entry_holders, holders_read, holders_written, is_emptied, widest_call, does, takes_turn}

-- ---- functions

-- a function as a run sees it: the sizes of its memory locals, and its blocks
pub record TemporaryCode : Type 0 where
  pub sizes : List ℕ
  pub blocks : List (List TempInsn)

abbrev pub code_of : TempFn → TemporaryCode
code_of f = record { sizes = map (λ o. o.size) f.objects; blocks = f.blocks }

-- the blocks, and the sizes, of a function that may not be there
abbrev pub blocks_in : Option TemporaryCode → List (List TempInsn)
blocks_in None = []
blocks_in (Some f) = f.blocks

abbrev pub sizes_in : Option TemporaryCode → List ℕ
sizes_in None = []
sizes_in (Some f) = f.sizes

-- the number of an instruction, counted over all functions from 0
abbrev pub point_number : List TemporaryCode → Point → ℕ
point_number functions p =
    sum_by (λ f. count_of f.blocks) (take p.function functions) + count_of
    (take p.block (blocks_in (slice_get functions p.function))) + p.at

-- the status is a number that was returned, modulo 256
abbrev pub content_status : Content → Option ℕ
content_status (Plain (Word n)) = Some (n % 256)
content_status _ = None

abbrev pub result_status : List Content → Option ℕ
result_status cs = content_status (first_or_unset cs)

-- ---- sites, whatever keeps the contents: how an instruction reads and writes is said by its parts

-- behind the last instruction of a block the next block follows, where that instruction goes on
abbrev pub goes_on : Option TempInsn → Bool
goes_on None = true
goes_on (Some x) = flows_on_of x

abbrev pub flows_out : List TempInsn → Bool
flows_out insns = goes_on (last_of insns)

abbrev pub next_site : {S : Type 0} → (block : ℕ) → Site Content S
next_site block = record {
  does = λ own cs o. Jumps 0 o;
  turn = false;
  targets = suc block ∷ [];
  fetch = λ s. [];
  put = λ cs s. s;
}

abbrev pub is_left_at : List TempInsn → (at : ℕ) → Bool
is_left_at insns at = flows_out insns && (at == length insns)

abbrev pub next_if : {S : Type 0} → (block : ℕ) → Bool → Option (Site Content S)
next_if block true = Some (next_site block)
next_if block false = None

abbrev pub site_or_next : {S : Type 0} → (insn : TempInsn → Site Content S) → (block : ℕ) → (is_left : Bool) →
    Option TempInsn → Option (Site Content S)
site_or_next insn block is_left (Some x) = Some (insn x)
site_or_next insn block is_left None = next_if block is_left

abbrev pub site_in : {S : Type 0} → (insn : (at : ℕ) → TempInsn → Site Content S) → (block at : ℕ) →
    Option (List TempInsn) → Option (Site Content S)
site_in insn block at None = None
site_in insn block at (Some insns) = site_or_next (insn at) block (is_left_at insns at) (slice_get insns at)

-- ---- over temporaries

abbrev pub Temps : Type 0
Temps = Store Holder

abbrev pub temp_site : (widest : ℕ) → TempInsn → Site Content Temps
temp_site widest x = record {
  does = does widest x;
  turn = takes_turn x;
  targets = targets_of x;
  fetch = λ s. map s (holders_read x);
  put = λ cs s. put_all holder_eq (holders_written x) cs (without (is_emptied x) s);
}

abbrev pub temp_site_at : List (List TempInsn) → Point → Option (Site Content Temps)
temp_site_at blocks p =
    site_in (λ at. temp_site (widest_call blocks)) p.block p.at (slice_get blocks p.block)

-- a called function has its arguments, and everything else is unset
abbrev pub temp_code : List TemporaryCode → Code Content Temps
temp_code functions = record {
  site = λ p. temp_site_at (blocks_in (slice_get functions p.function)) p;
  number = point_number functions;
  edge = λ p block s. s;
  entry = λ function cs. put_all holder_eq (entry_holders (length cs)) cs empty;
  locals = λ function. sizes_in (slice_get functions function);
  status = result_status;
}

-- ---- runs

-- the world at the start: the objects of static storage, the input, and so many turns
abbrev pub start_world : List DataObject → (input : List ℕ) → (turns : ℕ) → World
start_world globals input turns = record {
  outer = record { memory = start_memory globals; input = input; takings = 0; output = [] };
  meter = meter_of turns;
}

-- so many steps from the start of a function
abbrev pub temp_run : Rooms → List TemporaryCode → (main : ℕ) → World → (steps : ℕ) → Next Temps
temp_run rooms functions main w steps =
    exec Content Temps rooms (temp_code functions) steps (start_config Content Temps rooms (temp_code functions) main w)

-- the number of the function `main`
abbrev pub main_of : List TempFn → ℕ
main_of functions = unwrap_or (position is_main functions) 0

-- The run of a program over temporaries, on an input with so many turns, ends so: Done with a status, by a Trap with a
-- code, Undefined at an instruction with a number, or for want of a turn (More), each in its last world
pub record TempsEnd (rooms : Rooms) (program : TempProgram) (input : List ℕ) (turns : ℕ) (e : Ending) : Type 0 where
  pub steps : ℕ
  pub over : temp_run rooms (map code_of program.functions) (main_of program.functions)
      (start_world program.globals input turns) steps ≡ Over e
