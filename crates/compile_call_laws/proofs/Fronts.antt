-- What a run has put that goes on is a front of what is put where it ends.
use Rattle.std.proofs.Common.{◌≡◌, ℕ, ◌+◌, List, map, sym, ap, ◌∙◌, subst, arith}
use Rattle.mem_model.specs.declared.value.Value.{Value}
use Rattle.mem_model.specs.World.{World, Rooms}
use Rattle.mem_model.specs.Ending.{Ending, ending_output}
use Rattle.machine_model.specs.Code.{Code}
use Rattle.machine_model.specs.Machine.{Config, Next, Goes, Over, start_config, go_on, exec}
use Rattle.machine_model.specs.Laws.{IsPrefix, next_world}
use Rattle.machine_model.proofs.Runs.{steps_add_up, steps_keep}
use Rattle.machine_model.proofs.Outputs.{output_grows}
use Rattle.suifvm_ir.specs.declared.program.VmProgram.{VmProgram}
use Rattle.suifvm_meaning.specs.Behave.{Registers, code_of, vm_code, main_of, start_world, behave_vm}
use Rattle.suifvm_meaning.specs.Laws.{VmKeepsOutput}
use Rattle.suifvm_run.specs.Run.{GoesOn, program_run}

module _ (rooms : Rooms) (program : VmProgram) (input : List ℕ) (turns : ℕ) where
  abbrev code : Code Value Registers
  code = vm_code (map code_of program.functions)

  abbrev begin : Config Registers
  begin = start_config Value Registers rooms code (main_of program.functions) (start_world program.globals input turns)

  abbrev run : (steps : ℕ) → Config Registers → Next Registers
  run steps config = exec Value Registers rooms code steps config

  -- an ending stays where steps stand in front
  over_after : (n m : ℕ) (e : Ending) → run m begin ≡ Over e → run (n + m) begin ≡ Over e
  over_after n m e over =
      let sum : n + m ≡ m + n = omega arith in
      ap (λ j. run j begin) sum ∙ steps_keep Value Registers rooms code m n begin e over

  -- so a run that goes on comes to it
  over_from : (n m : ℕ) (config : Config Registers) (e : Ending) → run n begin ≡ Goes config → run m begin ≡ Over e → run m config ≡ Over e
  over_from n m config e goes over =
      sym (steps_add_up Value Registers rooms code n m begin ∙ ap (λ x. go_on x (λ k. run m k)) goes) ∙ over_after n m e over

  pub front_of_ending : VmKeepsOutput → (last : World) (e : Ending) → behave_vm rooms program input turns e → GoesOn (program_run rooms program input turns) last
      → IsPrefix last.outer.output (ending_output e)
  front_of_ending keeps last e means goes =
      let over : run means.steps goes.config ≡ Over e = over_from goes.steps means.steps goes.config e goes.goes means.over in
      let grows : IsPrefix goes.config.world.outer.output (next_world (run means.steps goes.config)).outer.output =
      output_grows Value Registers rooms code (keeps (map code_of program.functions)) means.steps goes.config in
      let whole : IsPrefix goes.config.world.outer.output (ending_output e) =
      subst (λ x. IsPrefix goes.config.world.outer.output (next_world x).outer.output) over grows in
      subst (λ w. IsPrefix w.outer.output (ending_output e)) goes.world whole
