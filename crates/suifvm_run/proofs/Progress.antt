-- Each turn of a machine leads a run on, or ends it.
use Rattle.std.proofs.Common.{◌≡◌, ℕ, suc, ◌+◌, List, [], ◌∷◌, ◌++◌, drop, Option, Some, None, option_map, refl, sym, ap, ◌∙◌, subst, append_assoc}
use Rattle.std.specs.Prelude.{slice_get}
use Rattle.std.proofs.Math.Numerals.{add-one}
use Rattle.bk_memory.specs.Shortage.{MemoryIsShort}
use Rattle.bk_io.specs.Outside.{next_count, taken_with, Traffic, count_plus}
use Rattle.mem_model.specs.declared.value.Value.{Value}
use Rattle.mem_model.specs.declared.value.Value.TheVariants.{Word}
use Rattle.mem_model.specs.World.{World, Rooms}
use Rattle.machine_model.specs.Laws.{next_world}
use Rattle.machine_model.specs.Machine.{Config, Next, Goes, go_on, exec}
use Rattle.machine_model.proofs.Runs.{steps_add_up}
use Rattle.suifvm_ir.specs.Insns.{named_register}
use Rattle.suifvm_meaning.specs.Effect.{input_word}
use Rattle.suifvm_meaning.specs.Behave.{Registers, vm_code}
use Rattle.suifvm_run.specs.declared.ending.VmEnding.{VmEnding}
use Rattle.suifvm_run.specs.declared.ending.VmEnding.TheVariants as e
use Rattle.suifvm_machine.specs.declared.machine.Machine.{Machine}
use Rattle.suifvm_machine.specs.declared.machine.Stop.{Stop}
use Rattle.suifvm_machine.specs.declared.machine.Stop.TheVariants as stop
use Rattle.suifvm_machine.specs.declared.machine.StepResult.TheVariants as turn
use Rattle.suifvm_machine.specs.declared.tables.ProgramTable.{ProgramTable}
use Rattle.suifvm_machine.specs.Config.{HiddenState, TurnIs, Wrote, GoesTo, EndsBy, ending_by, config_of, world_in, step_there, with_byte, with_byte_taken, wrote}
use Rattle.suifvm_machine.specs.Tables.{program_code}
use Rattle.suifvm_run.specs.model.Progress.{run_from, StandsAt, TurnEnds, LeadsOn, stop_ending}
use Rattle.suifvm_run.specs.Run.{Steps, GoesOn, input_calls}
use Rattle.suifvm_run.specs.model.Stops.{EndsWith, StopsAs, IsRun}

-- a count that rises once more
counted : (n : ℕ) (made : Option ℕ) → option_map next_count (option_map (count_plus n) made) ≡ option_map (count_plus (n + 1)) made
counted n None = refl
counted n (Some k) = ap (λ j. Some (count_plus j k)) (sym (add-one n))

-- a byte behind the others
put_behind : (output : List ℕ) (byte : ℕ) (taken : Option (List ℕ)) → taken_with (byte ∷ []) (option_map (λ bytes. bytes ++ output) taken) ≡ option_map (λ bytes. bytes ++ (output ++ byte ∷ [])) taken
put_behind output byte None = refl
put_behind output byte (Some bytes) = ap (λ x. Some x) (append_assoc bytes output (byte ∷ []))

-- how a run ends, as what the machine came to
pub stops_by : (run : Steps) (turns : ℕ) (s : Stop) (last : World) → EndsWith run (ending_by s last) → StopsAs run turns (stop_ending turns s) last
stops_by run turns (stop.Exits status) last ends = ends
stops_by run turns (stop.Traps code) last ends = ends
stops_by run turns (stop.Undefined number) last ends = ends
stops_by run turns stop.Budget last ends = (refl, ends)

pub calls_by : (turns : ℕ) (s : Stop) (n : ℕ) → input_calls (stop_ending turns s) n ≡ n
calls_by turns (stop.Exits status) n = refl
calls_by turns (stop.Traps code) n = refl
calls_by turns (stop.Undefined number) n = refl
calls_by turns stop.Budget n = refl

pub no_memory_left : (rooms : Rooms) (p : ProgramTable) (start : Config Registers) (turns : ℕ) (rest : List ℕ) (told now : Traffic) (m : Machine) → MemoryIsShort → StandsAt rooms p start rest told now m → IsRun (run_from rooms p start) turns e.NoMemory rest told now
no_memory_left rooms p start turns rest told now m short at = record {
  last = world_in m at.hidden;
  stops = (record { steps = at.steps; config = config_of m at.hidden; goes = at.reached; world = refl }, short);
  left = at.left;
  made = at.made;
  taken = at.taken;
}

-- steps of a program that is the same, behind others
pub leads_through : (first old new : Machine) (turns : ℕ) (before between after : Traffic) (result : Option VmEnding) → old.program.now ≡ first.program.now → (input more rest : List ℕ) → LeadsOn first old turns before between None input more → LeadsOn old new turns between after result more rest → LeadsOn first new turns before after result input rest
leads_through first old new turns before between after result same input more rest to on rooms start told at =
    subst (λ p. StandsAt rooms p start more told between old → TurnEnds rooms p start turns rest told after new result) same (on rooms start told) (to rooms start told at)

module _ (rooms : Rooms) (start : Config Registers) (turns : ℕ) (more rest : List ℕ) (told : Traffic) (m new : Machine) where
  abbrev p : ProgramTable
  p = m.program.now

  abbrev run : ℕ → Next Registers
  run = run_from rooms p start

  -- so many steps, then one, then some more
  further : (n k : ℕ) (h : HiddenState) → run n ≡ Goes (config_of m h) → run (n + suc k) ≡ go_on (step_there rooms m h) (exec Value Registers rooms (vm_code (program_code p)) k)
  further n k h reached =
      steps_add_up Value Registers rooms (vm_code (program_code p)) n (suc k) start
      ∙ ap (λ x. go_on x (exec Value Registers rooms (vm_code (program_code p)) (suc k))) reached

  one : (n : ℕ) (h : HiddenState) (k : Config Registers) → run n ≡ Goes (config_of m h) → step_there rooms m h ≡ Goes k → run (suc n) ≡ Goes k
  one n h k reached is = ap run (sym (add-one n)) ∙ further n 0 h reached ∙ ap (λ x. go_on x (λ j. Goes j)) is

  pub goes_on : (now : Traffic) → TurnIs m new turn.Goes (λ rs h. step_there rs m h) → StandsAt rooms p start rest told now m → StandsAt rooms p start rest told now new
  goes_on now t at =
      let g : GoesTo (step_there rooms m at.hidden) (config_of new) at.hidden = t.comes rooms at.hidden in record {
        hidden = g.hidden;
        steps = suc at.steps;
        reached = one at.steps at.hidden (config_of new g.hidden) at.reached g.goes;
        left = g.same.input ∙ at.left;
        made = at.made ∙ ap (λ n. option_map (count_plus n) told.made) (sym g.same.takings);
        taken = at.taken ∙ ap (λ o. option_map (λ bytes. bytes ++ o) told.taken) (sym g.same.output);
      }

  pub over : (now : Traffic) (s : Stop) → TurnIs m new (turn.Over s) (λ rs h. step_there rs m h) → StandsAt rooms p start rest told now m → IsRun run turns (stop_ending turns s) rest told now
  over now s t at =
      let ends : EndsBy rooms p (step_there rooms m at.hidden) s at.hidden = t.comes rooms at.hidden in record {
        last = ends.last;
        stops = stops_by run turns s ends.last (record { steps = at.steps + suc ends.steps; over = further at.steps ends.steps at.hidden at.reached ∙ ends.over });
        left = ends.shows.input ∙ at.left;
        made = at.made ∙ ap (λ n. option_map (count_plus n) told.made) (sym (calls_by turns s ends.last.outer.takings ∙ ends.shows.takings));
        taken = at.taken ∙ ap (λ o. option_map (λ bytes. bytes ++ o) told.taken) (sym ends.shows.output);
      }

  -- where the machine stands, the run goes on
  abbrev goes_there : (now : Traffic) (at : StandsAt rooms p start rest told now m) → GoesOn run (world_in m at.hidden)
  goes_there now at = record { steps = at.steps; config = config_of m at.hidden; goes = at.reached; world = refl }

  pub over_as : (now : Traffic) (s : Stop) (ending : VmEnding) → ending ≡ stop_ending turns s → TurnIs m new (turn.Over s) (λ rs h. step_there rs m h) → StandsAt rooms p start rest told now m → IsRun run turns ending rest told now
  over_as now s ending is t at = subst (λ x. IsRun run turns x rest told now) (sym is) (over now s t at)

  pub put_done : (now after : Traffic) (byte : ℕ) → TurnIs m new (turn.Puts byte) (λ rs h. step_there rs m h) → StandsAt rooms p start rest told now m → after.made ≡ now.made → after.taken ≡ taken_with (byte ∷ []) now.taken → StandsAt rooms p start rest told after new
  put_done now after byte t at made taken =
      let g : GoesTo (step_there rooms m at.hidden) (λ x. config_of new (with_byte byte x)) at.hidden = t.comes rooms at.hidden in record {
        hidden = with_byte byte g.hidden;
        steps = suc at.steps;
        reached = one at.steps at.hidden (config_of new (with_byte byte g.hidden)) at.reached g.goes;
        left = g.same.input ∙ at.left;
        made = made ∙ at.made ∙ ap (λ n. option_map (count_plus n) told.made) (sym g.same.takings);
        taken = taken ∙ ap (taken_with (byte ∷ [])) at.taken ∙ put_behind at.hidden.output byte told.taken
            ∙ ap (λ o. option_map (λ bytes. bytes ++ (o ++ byte ∷ [])) told.taken) (sym g.same.output);
      }

  pub put_failed : (now after : Traffic) (byte : ℕ) → TurnIs m new (turn.Puts byte) (λ rs h. step_there rs m h) → StandsAt rooms p start rest told now m → after.made ≡ now.made → after.taken ≡ now.taken → IsRun run turns e.WriteFault rest told after
  put_failed now after byte t at made taken =
      let g : GoesTo (step_there rooms m at.hidden) (λ x. config_of new (with_byte byte x)) at.hidden = t.comes rooms at.hidden in record {
        last = world_in m at.hidden;
        stops = record {
          before = goes_there now at;
          byte = byte;
          puts = ap (λ x. (next_world x).outer.output) (one at.steps at.hidden (config_of new (with_byte byte g.hidden)) at.reached g.goes)
              ∙ ap (λ o. o ++ byte ∷ []) g.same.output;
        };
        left = at.left;
        made = made ∙ at.made;
        taken = taken ∙ at.taken;
      }

  -- a byte that was taken, and is still to be written
  abbrev waiting : Option ℕ → HiddenState → Config Registers
  waiting d x = wrote (named_register d) (Word (input_word (slice_get x.input 0)) ∷ []) (config_of new (with_byte_taken x))

  pub take_failed : (now after : Traffic) (d : Option ℕ) → TurnIs m new (turn.Takes d) (λ rs h. step_there rs m h) → StandsAt rooms p start rest told now m → after.made ≡ option_map next_count now.made → after.taken ≡ now.taken → IsRun run turns e.InputFault rest told after
  take_failed now after d t at made taken =
      let g : GoesTo (step_there rooms m at.hidden) (waiting d) at.hidden = t.comes rooms at.hidden in record {
        last = world_in m at.hidden;
        stops = record {
          before = goes_there now at;
          takes = ap (λ x. (next_world x).outer.takings) (one at.steps at.hidden (waiting d g.hidden) at.reached g.goes) ∙ ap (λ n. n + 1) g.same.takings;
        };
        left = at.left;
        made = made ∙ ap (option_map next_count) at.made ∙ counted at.hidden.takings told.made
            ∙ ap (λ n. option_map (count_plus n) told.made) (add-one at.hidden.takings);
        taken = taken ∙ at.taken;
      }

  pub take_done : (now after : Traffic) (d : Option ℕ) (byte : Option ℕ) (last : Machine) → TurnIs m new (turn.Takes d) (λ rs h. step_there rs m h) → StandsAt rooms p start more told now m → byte ≡ slice_get more 0 → drop 1 more ≡ rest → Wrote new last (named_register d) (Word (input_word byte)) → after.made ≡ option_map next_count now.made → after.taken ≡ now.taken → StandsAt rooms p start rest told after last
  take_done now after d byte last t at first behind w made taken =
      let g : GoesTo (step_there rooms m at.hidden) (waiting d) at.hidden = t.comes rooms at.hidden in
      let is : byte ≡ slice_get g.hidden.input 0 = first ∙ ap (λ x. slice_get x 0) (sym (g.same.input ∙ at.left)) in record {
        hidden = with_byte_taken g.hidden;
        steps = suc at.steps;
        reached = one at.steps at.hidden (waiting d g.hidden) at.reached g.goes
            ∙ ap (λ b. Goes (wrote (named_register d) (Word (input_word b) ∷ []) (config_of new (with_byte_taken g.hidden)))) (sym is)
            ∙ sym (ap (λ k. Goes k) (w.config (with_byte_taken g.hidden)));
        left = ap (drop 1) (g.same.input ∙ at.left) ∙ behind;
        made = made ∙ ap (option_map next_count) at.made ∙ counted at.hidden.takings told.made
            ∙ ap (λ n. option_map (count_plus (n + 1)) told.made) (sym g.same.takings);
        taken = taken ∙ at.taken ∙ ap (λ o. option_map (λ bytes. bytes ++ o) told.taken) (sym g.same.output);
      }

  -- where memory is short the run goes on
  pub short_there : TurnIs m new turn.NoMemory (λ rs h. step_there rs m h) → (now : Traffic) → StandsAt rooms p start rest told now m → MemoryIsShort
  short_there t now at = t.comes rooms at.hidden

  pub take_no_memory : (now after : Traffic) (d : Option ℕ) → MemoryIsShort → TurnIs m new (turn.Takes d) (λ rs h. step_there rs m h) → StandsAt rooms p start more told now m → drop 1 more ≡ rest → after.made ≡ option_map next_count now.made → after.taken ≡ now.taken → IsRun run turns e.NoMemory rest told after
  take_no_memory now after d short t at behind made taken =
      let g : GoesTo (step_there rooms m at.hidden) (waiting d) at.hidden = t.comes rooms at.hidden in record {
        last = (waiting d g.hidden).world;
        stops = (record { steps = suc at.steps; config = waiting d g.hidden; goes = one at.steps at.hidden (waiting d g.hidden) at.reached g.goes; world = refl }, short);
        left = ap (drop 1) (g.same.input ∙ at.left) ∙ behind;
        made = made ∙ ap (option_map next_count) at.made ∙ counted at.hidden.takings told.made
            ∙ ap (λ n. option_map (count_plus (n + 1)) told.made) (sym g.same.takings);
        taken = taken ∙ at.taken ∙ ap (λ o. option_map (λ bytes. bytes ++ o) told.taken) (sym g.same.output);
      }
