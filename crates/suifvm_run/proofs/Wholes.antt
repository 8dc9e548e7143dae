-- Runs of whole programs.
use Rattle.std.proofs.Common.{◌≡◌, ℕ, List, [], ◌++◌, map, Option, Some, None, option_map, refl, sym, ap, ◌∙◌, subst}
use Rattle.std.proofs.lemmas.List.{append-nil}
use Rattle.bk_memory.specs.Shortage.{MemoryIsShort}
use Rattle.mem_model.specs.declared.value.Value.{Value}
use Rattle.mem_model.specs.Memory.{Memory}
use Rattle.mem_model.specs.World.{World, Rooms, meter_of}
use Rattle.machine_model.specs.Machine.{Config, Goes, start_config}
use Rattle.mem_objects.specs.Start.{start_memory}
use Rattle.suifvm_ir.specs.declared.program.VmProgram.{VmProgram}
use Rattle.suifvm_meaning.specs.Behave.{Registers, code_of, main_of, vm_code, vm_run, start_world}
use Rattle.suifvm_run.specs.declared.ending.VmEnding.{VmEnding}
use Rattle.suifvm_run.specs.declared.ending.VmEnding.TheVariants as e
use Rattle.suifvm_machine.specs.declared.machine.Machine.{Machine}
use Rattle.suifvm_machine.specs.declared.machine.Stop.{Stop}
use Rattle.suifvm_machine.specs.declared.machine.StartError.TheVariants as no_start
use Rattle.suifvm_machine.specs.declared.tables.ProgramTable.{ProgramTable}
use Rattle.suifvm_run.specs.Run.{Steps, VmBehaves, VmBehavesOn, Stops, program_run}
use Rattle.bk_io.specs.Outside.{Traffic, count_plus}
use Rattle.suifvm_machine.specs.Begin.{start_at, first_hidden, Begins, HasNoStart, IsOverAtOnce}
use Rattle.suifvm_run.specs.model.Progress.{run_from, LeadsOn, TableRunsOn, stop_ending}
use Rattle.suifvm_run.specs.model.Stops.{IsRun, StopsAs}
use Rattle.suifvm_machine.specs.Tables.{program_code}
use Rattle.suifvm_run.proofs.Progress.{stops_by, calls_by}

-- what a run tells that did nothing
uncounted : (made : Option ℕ) → made ≡ option_map (count_plus 0) made
uncounted None = refl
uncounted (Some n) = refl

unwritten : (taken : Option (List ℕ)) → taken ≡ option_map (λ bytes. bytes ++ []) taken
unwritten None = refl
unwritten (Some bytes) = ap (λ x. Some x) (sym (append-nil bytes))

module _ (p : ProgramTable) (main turns : ℕ) (memory : Memory) (rooms : Rooms) (input : List ℕ) (told : Traffic) where
  abbrev first : Config Registers
  first = start_at rooms p main memory turns input

  abbrev run : Steps
  run = run_from rooms p first

  -- a machine that began runs on
  pub began : (rest : List ℕ) (after : Traffic) (m new : Machine) (ending : VmEnding) → Begins p main memory turns m → LeadsOn m new turns told after (Some ending) input rest → IsRun run turns ending rest told after
  began rest after m new ending b goes = subst (λ q. IsRun (run_from rooms q first) turns ending rest told after) b.program (goes rooms first told (record {
    hidden = first_hidden rooms main input;
    steps = 0;
    reached = ap (λ k. Goes k) (b.config rooms input);
    left = refl;
    made = uncounted told.made;
    taken = unwritten told.taken;
  }))

  -- the first step ended the run
  pub ended_at_once : (s : Stop) → HasNoStart p main memory turns (no_start.Over s) → IsRun run turns (stop_ending turns s) input told told
  ended_at_once s ends =
      let over : IsOverAtOnce rooms p main memory turns input s = ends rooms input in record {
        last = over.last;
        stops = stops_by run turns s over.last (record { steps = 1; over = over.over });
        left = over.shows.input;
        made = uncounted told.made ∙ ap (λ n. option_map (count_plus n) told.made) (sym (calls_by turns s over.last.outer.takings ∙ over.shows.takings));
        taken = unwritten told.taken ∙ ap (λ o. option_map (λ bytes. bytes ++ o) told.taken) (sym over.shows.output);
      }

  -- nothing was done
  pub nothing_done : MemoryIsShort → IsRun run turns e.NoMemory input told told
  nothing_done short = record {
    last = first.world;
    stops = (record { steps = 0; config = first; goes = refl; world = refl }, short);
    left = refl;
    made = uncounted told.made;
    taken = unwritten told.taken;
  }

-- ---- programs

abbrev world_with : Memory → (input : List ℕ) → (turns : ℕ) → World
world_with memory input turns = record {
  outer = record { memory = memory; input = input; takings = 0; output = [] };
  meter = meter_of turns;
}

stops_of : (rooms : Rooms) (program : VmProgram) (input : List ℕ) (turns : ℕ) (ending : VmEnding) (last : World) → StopsAs (program_run rooms program input turns) turns ending last → Stops rooms program input turns ending last
stops_of rooms program input turns (e.Ended status) last s = record { steps = s.steps; over = s.over }
stops_of rooms program input turns (e.Trapped code) last s = record { steps = s.steps; over = s.over }
stops_of rooms program input turns (e.Undefined pc) last s = record { steps = s.steps; over = s.over }
stops_of rooms program input turns (e.Budget n) last s = (s.0, record { steps = s.1.steps; over = s.1.over })
stops_of rooms program input turns e.InputFault last s = s
stops_of rooms program input turns e.WriteFault last s = s
stops_of rooms program input turns e.NoMemory last s = s

behaves : (rooms : Rooms) (program : VmProgram) (input rest : List ℕ) (turns : ℕ) (ending : VmEnding) (told after : Traffic) → IsRun (program_run rooms program input turns) turns ending rest told after → VmBehaves rooms program input rest turns ending told after
behaves rooms program input rest turns ending told after r = record {
  last = r.last;
  stops = stops_of rooms program input turns ending r.last r.stops;
  left = r.left;
  made = r.made;
  taken = r.taken;
}

-- the run of the tables of a program, in the memory that it starts with, is its run
pub whole : (p : ProgramTable) (program : VmProgram) (main : ℕ) (memory : Memory) (turns : ℕ) (ending : VmEnding) (told after : Traffic) → program_code p ≡ map code_of program.functions → memory ≡ start_memory program.globals → main ≡ main_of program.functions → (input rest : List ℕ) → TableRunsOn p main memory turns ending told after input rest → VmBehavesOn program turns ending told after input rest
whole p program main memory turns ending told after functions objects number input rest runs rooms =
    behaves rooms program input rest turns ending told after
    (subst (λ fs. IsRun (vm_run rooms fs (main_of program.functions) (world_with (start_memory program.globals) input turns)) turns ending rest told after) functions
    (subst (λ n. IsRun (vm_run rooms (program_code p) n (world_with (start_memory program.globals) input turns)) turns ending rest told after) number
    (subst (λ x. IsRun (vm_run rooms (program_code p) main (world_with x input turns)) turns ending rest told after) objects (runs rooms))))

-- without memory for its tables or objects it is at its start
pub not_begun : (program : VmProgram) (rooms : Rooms) (input : List ℕ) (turns : ℕ) (told : Traffic) → MemoryIsShort → VmBehaves rooms program input input turns e.NoMemory told told
not_begun program rooms input turns told short = record {
  last = (first_of program).world;
  stops = (record { steps = 0; config = first_of program; goes = refl; world = refl }, short);
  left = refl;
  made = uncounted told.made;
  taken = unwritten told.taken;
}
  where
    first_of : VmProgram → Config Registers
    first_of q = start_config Value Registers rooms (vm_code (map code_of q.functions)) (main_of q.functions) (start_world q.globals input turns)
