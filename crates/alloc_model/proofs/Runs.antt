-- Runs by their numbers of steps, over temporaries and over registers and slots.
use Rattle.std.proofs.Common.{ℕ, ◌≤◌, List, max, map, arith}
use Rattle.mem_model.specs.World.{Rooms}
use Rattle.machine_model.specs.Code.{Code}
use Rattle.machine_model.specs.Machine.{Config, start_config}
use Rattle.machine_model.proofs.Runs as runs
use Rattle.machine_model.proofs.Turns as turns
use Rattle.machine_model.proofs.Peaks as peaks
use Rattle.machine_model.proofs.Outputs as outputs
use Rattle.temp_ir.specs.declared.program.TempProgram.{TempProgram}
use Rattle.alloc_model.specs.declared.allocation.Allocation.{Allocation}
use Rattle.alloc_model.specs.Contents.{Content}
use Rattle.alloc_model.specs.Temporaries.{Temps, code_of, temp_code, main_of, start_world}
use Rattle.alloc_model.specs.Places.{Places, plan_of, placed_code}
use Rattle.alloc_model.specs.Laws.{OneEnding, MoreTurnsKeepEnding, MoreTurnsExtendOutput, PeaksRise, InstructionsKeepOutput}
use Rattle.alloc_model.proofs.Output.{temps_keep, places_keep}

abbrev temps : TempProgram → Code Content Temps
temps program = temp_code (map code_of program.functions)

abbrev begin_temps : Rooms → TempProgram → (input : List ℕ) → (turns : ℕ) → Config Temps
begin_temps rooms program input n = start_config Content Temps rooms (temps program) (main_of program.functions) (start_world program.globals input n)

abbrev begin_places : Rooms → TempProgram → List Allocation → (input : List ℕ) → (turns : ℕ) → Config Places
begin_places rooms program allocations input n =
    start_config Content Places rooms (placed_code (map plan_of allocations)) (main_of program.functions) (start_world program.globals input n)

pub one_ending : OneEnding
one_ending = record {
  temps = λ rooms program input n e f x y.
      runs.one_ending Content Temps rooms (temps program) x.steps y.steps (begin_temps rooms program input n) e f x.over y.over;
  places = λ rooms program allocations input n e f x y.
      runs.one_ending Content Places rooms (placed_code (map plan_of allocations)) x.steps y.steps (begin_places rooms program allocations input n) e f x.over y.over;
}

pub more_turns : MoreTurnsKeepEnding
more_turns = record {
  temps = λ rooms program input n more e x final.
      record { steps = x.steps; over = turns.turns_keep Content Temps rooms (temps program) more x.steps (begin_temps rooms program input n) e x.over final };
  places = λ rooms program allocations input n more e x final.
      record { steps = x.steps; over = turns.turns_keep Content Places rooms (placed_code (map plan_of allocations)) more x.steps (begin_places rooms program allocations input n) e x.over final };
}

pub extends : MoreTurnsExtendOutput
extends = record {
  temps = λ rooms program input n more e f x y.
      outputs.turns_extend Content Temps rooms (temps program) (temps_keep (map code_of program.functions)) more x.steps y.steps
      (begin_temps rooms program input n) e f x.over y.over;
  places = λ rooms program allocations input n more e f x y.
      outputs.turns_extend Content Places rooms (placed_code (map plan_of allocations)) (places_keep (map plan_of allocations)) more x.steps y.steps
      (begin_places rooms program allocations input n) e f x.over y.over;
}

first_peak : (a b c : ℕ) → max a b ≤ c → a ≤ c
first_peak a b c h = omega arith

pub peaks_rise : PeaksRise
peaks_rise = record {
  temps = λ rooms functions main w n.
      first_peak w.meter.peak _ _
      (peaks.peak_rises Content Temps rooms (temp_code functions) n (start_config Content Temps rooms (temp_code functions) main w));
  places = λ rooms plans main w n.
      first_peak w.meter.peak _ _
      (peaks.peak_rises Content Places rooms (placed_code plans) n (start_config Content Places rooms (placed_code plans) main w));
}

pub keep_output : InstructionsKeepOutput
keep_output = record { temps = temps_keep; places = places_keep }
