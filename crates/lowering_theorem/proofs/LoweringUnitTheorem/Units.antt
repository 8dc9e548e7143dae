-- The run of a unit, from its start to its end.
use Rattle.std.proofs.Common.{◌≡◌, ◌≢◌, ℕ, zero, suc, ◌+◌, ◌<◌, ◌≤◌, ◌%◌, List, [], ◌∷◌, map, take, Bool, true, false, Option, Some, None, length, All, refl, sym, ap, ◌∙◌, subst, arith}
use Rattle.std.specs.Prelude.{slice_get}
use Rattle.mem_model.specs.declared.value.Value.{Value}
use Rattle.mem_model.specs.declared.value.Value.TheVariants.{Word, Address, Unset}
use Rattle.mem_model.specs.Memory.{Memory, begin_objects}
use Rattle.mem_model.specs.World.{World, Rooms, with_memory, with_meter, leave_call}
use Rattle.mem_model.specs.Ending.{Ending, Done, Trap, Undefined, More, EndsAs, SameShown, Evaluation, Gives, Ends, IsDefined}
use Rattle.mem_model.specs.Related.{Names, IsValueOf, IsMemoryOf}
use Rattle.mem_objects.specs.Start.{start_memory}
use Rattle.machine_model.specs.Machine as machine
use Rattle.machine_model.specs.Machine.{Config, Next, Goes, Over, start_config}
use Rattle.machine_model.proofs.Runs as runs
use Rattle.suifvm_meaning.specs.Behave.{FunctionCode, Registers, vm_code, vm_run, start_world, registers_of, first_or_unset, sizes_in}
use Rattle.suifvm_meaning.specs.Behave as vm
use Rattle.c_typed_tree.specs.declared.units.TypedFn.{TypedFn}
use Rattle.c_typed_tree.specs.declared.units.TypedUnit.{TypedUnit}
use Rattle.c_typed_tree.specs.View.{type_view}
use Rattle.c_typed_tree.specs.Lawful.{IsTypedUnit, is_main, types_of_parameters, type_of_local}
use Rattle.c_semantics.specs.Runs.{CallState, Run, ◌>>=◌}
use Rattle.c_semantics.specs.Executes.{StatementFlow, Returns, enter_function, leave_function, body_of, value_of_call, level}
use Rattle.c_semantics.specs.Executes as x
use Rattle.c_semantics.specs.Behaves.{world_of, status_of, ending_of, run_of, main_of, run_main}
use Rattle.lowering_states.specs.Places.{start_of_block}
use Rattle.lowering_states.specs.Runs.{View, view, CodeObservation, ObservesDone, ObservesTrap, ObservesMore, NotDefined, NotOver, observation_of, observation, finish, Meets, Resumes, config}
use Rattle.lowering_states.specs.model.Opens.{opens}
use Rattle.lowering_states.specs.Runs as code
use Rattle.lowering_states.specs.States.{IsHeld, After}
use Rattle.lowering_states.proofs.Steps.{finish-bind}
use Rattle.lowering_expression_laws.specs.lowering_call_laws.Laws.{AreArguments, FunctionMeets}
use Rattle.lowering_theorem.specs.lowering_function_laws.Laws.{code_for, IsMet}
use Rattle.lowering_theorem.specs.lowering_unit_theorem.Laws.{IsOver, RunsTo, CodeKeepsMeaning}
use Rattle.lowering_theorem.proofs.LoweringUnitTheorem.Starts.{own_names, own_name, start_self, start_small}
use Rattle.lowering_theorem.proofs.LoweringUnitTheorem.Called.{MainIs, main_of_unit, main_has_no_parameter}
use Rattle.lowering_theorem.proofs.LoweringUnitTheorem.Meets.{codes, top, all_meet}

-- ---- what is seen of an ending

shown : (v w : World) → view v ≡ view w → SameShown v w
shown v w e = record {
  output = ap (λ (z : View). z.output) e;
  input = ap (λ (z : View). z.input) e;
  takings = ap (λ (z : View). z.takings) e;
  turns = ap (λ (z : View). z.turns) e;
  peak = ap (λ (z : View). z.peak) e;
}

ends_as : (e o : Ending) → IsDefined o → observation_of e ≡ observation_of o → EndsAs e o
ends_as e (Undefined w at) defined same = absurd defined
ends_as (Done v m) (Done w n) defined same = let views : view v ≡ view w = cc in let numbers : m ≡ n = cc in (numbers, shown v w views)
ends_as (Done v m) (Trap w n) defined same = absurd (cc)
ends_as (Done v m) (More w) defined same = absurd (cc)
ends_as (Trap v m) (Done w n) defined same = absurd (cc)
ends_as (Trap v m) (Trap w n) defined same = let views : view v ≡ view w = cc in let numbers : m ≡ n = cc in (numbers, shown v w views)
ends_as (Trap v m) (More w) defined same = absurd (cc)
ends_as (More v) (Done w n) defined same = absurd (cc)
ends_as (More v) (Trap w n) defined same = absurd (cc)
ends_as (More v) (More w) defined same = let views : view v ≡ view w = cc in shown v w views
ends_as (Undefined v m) (Done w n) defined same = absurd (cc)
ends_as (Undefined v m) (Trap w n) defined same = absurd (cc)
ends_as (Undefined v m) (More w) defined same = absurd (cc)

is_defined : (o : Ending) → IsDefined o → observation_of o ≢ NotDefined
is_defined (Done w n) defined e = cc
is_defined (Trap w n) defined e = cc
is_defined (More w) defined e = cc
is_defined (Undefined w n) defined e = absurd defined

is_over : (o : Ending) → observation_of o ≢ NotOver
is_over (Done w n) e = cc
is_over (Trap w n) e = cc
is_over (More w) e = cc
is_over (Undefined w n) e = cc

-- a run that is seen to end so is over with an ending that is
record OverIs (r : Next Registers) (o : Ending) : Type 0 where
  ending : Ending
  over : r ≡ Over ending
  same : observation_of ending ≡ observation_of o

over_is : (r : Next Registers) (o : Ending) → observation r ≡ observation_of o → OverIs r o
over_is (Goes k) o same = absurd (is_over o (sym same))
over_is (Over e) o same = record { ending = e; over = refl; same = same }

-- ---- the first call

-- its value is the status
abbrev seen : Rooms → ℕ → Value → CallState → CodeObservation
seen rooms i v t = observation_of (status_of (leave_function rooms i t.world) v)

flow_is : (rooms : Rooms) (i : ℕ) (r : Evaluation StatementFlow CallState) → finish r (λ z t. finish (value_of_call true z t) (seen rooms i)) ≡ observation_of (ending_of (leave_function rooms i) r)
unfolding opens
flow_is rooms i (Gives x.Goes t) = refl
flow_is rooms i (Gives x.Breaks t) = refl
flow_is rooms i (Gives x.Continues t) = refl
flow_is rooms i (Gives (Returns None) t) = refl
flow_is rooms i (Gives (Returns (Some v)) t) = refl
flow_is rooms i (Ends e) = refl

-- what is returned from it is the status that the machine ends with
status_is : (rooms : Rooms) (i : ℕ) (functions : List FunctionCode) (v : Value) (us : List Value) (g : Names) (t : CallState) (n : Memory) → IsValueOf g v (first_or_unset us) → Resumes rooms functions (seen rooms i v t) us (with_memory (with_meter t.world (leave_call rooms i t.world.meter)) n) []
status_is rooms i functions (Word k) us g t n rel = record {
  by = λ ne at. (0, ap (λ z. observation (Over (machine.status_ending Value Registers rooms (vm_code functions) at (with_memory (with_meter t.world (leave_call rooms i t.world.meter)) n) (vm.value_status z)))) rel);
}
status_is rooms i functions (Address p) us g t n rel = record { by = λ ne at. absurd (ne refl) }
status_is rooms i functions Unset us g t n rel = record { by = λ ne at. absurd (ne refl) }

module _ (u : TypedUnit) (lawful : IsTypedUnit u) (rooms : Rooms) (input : List ℕ) (turns : ℕ) (bytes : All (λ byte. byte < 256) input) where
  abbrev i : ℕ
  i = main_of u

  main : MainIs u.functions
  main = main_of_unit u lawful

  abbrev functions : List FunctionCode
  functions = codes u lawful rooms

  abbrev m0 : Memory
  m0 = start_memory u.globals

  abbrev w0 : World
  w0 = world_of m0 input turns

  abbrev s0 : CallState
  s0 = record { registers = λ k. Unset; world = enter_function rooms i w0 }

  met : IsMet (top u lawful rooms (suc turns)) i main.fn (level u rooms (suc turns))
  met = all_meet u lawful rooms (suc turns) (suc turns) (omega arith) i main.fn main.found

  no_arguments : AreArguments (own_names (length u.globals)) (types_of_parameters main.fn) [] []
  no_arguments = subst (λ n. AreArguments (own_names (length u.globals)) (map type_of_local (take n main.fn.locals)) [] []) (sym (main_has_no_parameter u lawful i main.fn main.found main.main)) tt

  -- the machine begins where the code of `main` begins
  start_is : start_config Value Registers rooms (vm_code functions) i (start_world u.globals input turns) ≡ config i (length m0) [] (start_of_block 0) (registers_of []) s0.world (begin_objects m0 met.meets.code.sizes)
  start_is = ap (λ z. config i (length m0) [] (start_of_block 0) (registers_of []) s0.world (begin_objects m0 (sizes_in z))) met.meets.found

  run_is : finish (met.meets.body [] s0) (seen rooms i) ≡ observation_of (run_main u rooms input turns)
  unfolding opens
  run_is =
      ap (λ (r : Run Value). finish (r s0) (seen rooms i)) (met.body [])
      ∙ ap (λ b. finish ((body_of u.structs (level u rooms (suc turns)) i main.fn [] >>= value_of_call b) s0) (seen rooms i)) main.main
      ∙ finish-bind (body_of u.structs (level u rooms (suc turns)) i main.fn [] s0) (value_of_call true) (seen rooms i)
      ∙ flow_is rooms i (body_of u.structs (level u rooms (suc turns)) i main.fn [] s0)
      ∙ ap (λ f. observation_of (run_of u rooms i f w0 turns)) (sym main.found)

  ends : Meets rooms functions (finish (met.meets.body [] s0) (seen rooms i)) (config i (length m0) [] (start_of_block 0) (registers_of []) s0.world (begin_objects m0 met.meets.code.sizes))
  ends =
      met.meets.by [] [] (own_names (length u.globals)) s0 m0 [] (seen rooms i) no_arguments (λ j lt. own_name (length u.globals) j lt) (start_self u.globals lawful.globals) (start_small u.globals lawful.globals) bytes (omega arith)
      (λ v us g t n held rel aft mem rest. status_is rooms i functions v us g t n rel)

  runs_to : IsDefined (run_main u rooms input turns) → RunsTo rooms functions i u.globals input turns (run_main u rooms input turns)
  runs_to defined =
      let o : Ending = run_main u rooms input turns in
      let a = ends.by (λ e. is_defined o defined (sym run_is ∙ e)) in
      let r : Next Registers = vm_run rooms functions i (start_world u.globals input turns) a.0 in
      let same : observation r ≡ observation_of o = ap (λ z. observation (code.run rooms functions a.0 z)) start_is ∙ a.1 ∙ run_is in
      let it : OverIs r o = over_is r o same in
      record {
        ending = it.ending;
        ends = record { steps = a.0; over = it.over };
        same = ends_as it.ending o defined it.same;
        only = λ e other. runs.one_ending Value Registers rooms (vm_code functions) other.steps a.0 (start_config Value Registers rooms (vm_code functions) i (start_world u.globals input turns)) e it.ending other.over it.over;
      }

pub code_keeps_meaning : CodeKeepsMeaning
code_keeps_meaning u lawful rooms input turns bytes defined = runs_to u lawful rooms input turns bytes defined
