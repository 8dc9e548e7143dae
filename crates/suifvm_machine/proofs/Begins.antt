-- How a run begins.
use Rattle.std.proofs.Common.{◌≡◌, ℕ, ◌+◌, ◌≤◌, ◌^◌, max, List, [], take, map, length, reverse, Some, None, refl, sym, ap, ◌∙◌, subst, arith}
use Rattle.std.specs.Prelude.{slice_get}
use Rattle.std.proofs.lemmas.List.{length-map}
use Rattle.mem_model.specs.Memory.{Memory, begin_objects}
use Rattle.mem_model.specs.World.{Rooms, room_of}
use Rattle.mem_model.specs.Ending.{Undefined}
use Rattle.mem_model.specs.declared.value.Value.{Value}
use Rattle.mem_model.proofs.Objects.{begins_change}
use Rattle.machine_model.specs.Machine.{Config, Over, Goes, go_on, step_at}
use Rattle.pass_core.specs.declared.function.MemoryLocal.{MemoryLocal}
use Rattle.suifvm_meaning.specs.Behave.{Registers, registers_of, sizes_in, vm_code}
use Rattle.suifvm_machine.specs.declared.machine.Call.{Call}
use Rattle.suifvm_machine.specs.declared.machine.Machine.{Machine}
use Rattle.suifvm_machine.specs.declared.machine.Stop.TheVariants as stop
use Rattle.suifvm_machine.specs.declared.machine.StartError.TheVariants as no_start
use Rattle.suifvm_machine.specs.declared.tables.FunctionTable.{FunctionTable}
use Rattle.suifvm_machine.specs.declared.tables.ProgramTable.{ProgramTable}
use Rattle.suifvm_operations.specs.Tidy.{MemoryIsTidy}
use Rattle.suifvm_machine.specs.Begin.{start_at, first_hidden, Begins, HasNoStart}
use Rattle.suifvm_machine.specs.Config.{Wait, config_of, frames_of}
use Rattle.suifvm_machine.specs.Tables.{program_code, FunctionsAreNumbered}
use Rattle.suifvm_machine.proofs.Sites.{sizes_are, site_past, site_missing, number_past, number_missing}

module _ (m : Machine) (main turns : ℕ) (old : Memory) (made : ℕ)
    (numbers : FunctionsAreNumbered 0 m.program.now.functions.items m.program.now.end)
    (table : slice_get m.program.now.functions.items main ≡ Some m.here.table.now)
    (row : slice_get m.here.table.now.blocks.items 0 ≡ Some m.here.row.now)
    (here_is : m.here ≡ record { function = main; block = 0; at = 0; own = made; base = 0; table = m.here.table; row = m.here.row })
    (made_is : made ≡ length old)
    (more : m.made ≡ made + length m.here.table.now.objects.now)
    (few : made + length m.here.table.now.objects.now ≤ 2 ^ 63)
    (tidy : MemoryIsTidy m.memory)
    (memory : m.memory ≡ begin_objects old (map (λ o. o.size) m.here.table.now.objects.now))
    (stack : m.stack.items ≡ [])
    (callers : m.callers.items ≡ [])
    (turns_is : m.turns ≡ turns)
  where
    abbrev shape : Rooms → List ℕ → ℕ → List Value → Memory → ℕ → Config Registers
    shape rooms input own window objects left = record {
      here = record { point = record { function = main; block = 0; at = 0 }; own = own; store = registers_of window };
      callers = [];
      world = record {
        outer = record { memory = objects; input = input; takings = 0; output = [] };
        meter = record { turns = left; room = 0 + room_of rooms main; peak = max 0 (0 + room_of rooms main) };
      };
    }

    count : m.made ≡ length m.memory
    count =
        let began = (begins_change old (map (λ (o : MemoryLocal). o.size) m.here.table.now.objects.now)).count in
        let sizes : length (map (λ (o : MemoryLocal). o.size) m.here.table.now.objects.now) ≡ length m.here.table.now.objects.now = length-map m.here.table.now.objects.now (λ (o : MemoryLocal). o.size) in
        more ∙ ap (λ n. n + length m.here.table.now.objects.now) made_is ∙ ap (λ n. length old + n) (sym sizes) ∙ sym began ∙ sym (ap length memory)

    pub begins : Begins m.program.now main old turns m
    begins = record {
      sound = record {
        numbers = numbers;
        memory = tidy;
        made = count;
        few = subst (λ n. n ≤ 2 ^ 63) (sym more) few;
        within = subst (λ n. n ≤ length m.stack.items) (sym base) (omega arith);
        here = record {
          table = subst (λ f. slice_get m.program.now.functions.items f ≡ Some m.here.table.now) (sym function) table;
          row = subst (λ b. slice_get m.here.table.now.blocks.items b ≡ Some m.here.row.now) (sym block) row;
          place = subst (λ n. n ≤ length m.here.row.now.insns.items) (sym at) (omega arith);
          own = subst (λ n. n + length m.here.table.now.objects.now ≤ 2 ^ 63) (sym own) few;
        };
        callers = subst (λ cs. Wait m.program.now (reverse cs) (take m.here.base m.stack.items)) (sym callers) (record {});
      };
      program = refl;
      config = λ rooms input.
          ap (λ n. shape rooms input n [] (begin_objects old (sizes_in (slice_get (program_code m.program.now) main))) turns) (sym made_is)
          ∙ ap (λ sizes. shape rooms input made [] (begin_objects old sizes) turns) (sizes_are m.program.now main m.here.table.now table)
          ∙ ap (λ x. shape rooms input made [] x turns) (sym memory)
          ∙ ap (λ n. shape rooms input made [] m.memory n) (sym turns_is)
          ∙ sym (
          ap (λ (c : Call). config_of (record m { here = c }) (first_hidden rooms main input)) here_is
          ∙ ap (λ cs. waiting rooms input m.stack.items cs) callers
          ∙ ap (λ xs. shape rooms input made xs m.memory m.turns) stack);
    }
      where
        function : m.here.function ≡ main
        function = ap (λ (c : Call). c.function) here_is

        block : m.here.block ≡ 0
        block = ap (λ (c : Call). c.block) here_is

        at : m.here.at ≡ 0
        at = ap (λ (c : Call). c.at) here_is

        own : m.here.own ≡ made
        own = ap (λ (c : Call). c.own) here_is

        base : m.here.base ≡ 0
        base = ap (λ (c : Call). c.base) here_is

        waiting : Rooms → List ℕ → List Value → List Call → Config Registers
        waiting rooms input window cs = record {
          here = record { point = record { function = main; block = 0; at = 0 }; own = made; store = registers_of window };
          callers = frames_of (reverse cs) [];
          world = record {
            outer = record { memory = m.memory; input = input; takings = 0; output = [] };
            meter = record { turns = m.turns; room = 0 + room_of rooms main; peak = max 0 (0 + room_of rooms main) };
          };
        }

module _ (p : ProgramTable) (main turns : ℕ) (memory : Memory) (numbers : FunctionsAreNumbered 0 p.functions.items p.end) where
  pub no_function_at_once : slice_get p.functions.items main ≡ None → HasNoStart p main memory turns (no_start.Over (stop.Undefined p.end))
  no_function_at_once none rooms input = record {
    last = (start_at rooms p main memory turns input).world;
    over = ap (λ o. go_on (step_at Value Registers rooms (vm_code (program_code p)) (start_at rooms p main memory turns input) o) (λ k. Goes k)) (site_missing p main 0 0 none)
        ∙ ap (λ n. Over (Undefined (start_at rooms p main memory turns input).world n)) (number_missing p main none numbers);
    shows = record { input = refl; takings = refl; output = refl };
  }

  pub no_block_at_once : (t : FunctionTable) → slice_get p.functions.items main ≡ Some t → slice_get t.blocks.items 0 ≡ None → HasNoStart p main memory turns (no_start.Over (stop.Undefined t.end))
  no_block_at_once t there none rooms input = record {
    last = (start_at rooms p main memory turns input).world;
    over = ap (λ o. go_on (step_at Value Registers rooms (vm_code (program_code p)) (start_at rooms p main memory turns input) o) (λ k. Goes k)) (site_past p main t there 0 0 none)
        ∙ ap (λ n. Over (Undefined (start_at rooms p main memory turns input).world n)) (number_past p main t there numbers 0 none);
    shows = record { input = refl; takings = refl; output = refl };
  }
