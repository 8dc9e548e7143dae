-- One instruction of the code, seen from where it leads.
use Rattle.std.proofs.Common.{◌≡◌, ℕ, suc, ◌<◌, List, [], ◌∷◌, Bool, true, false, Option, Some, None, Result, Ok, Err, length, map, refl, sym, ap, ◌∙◌, subst, arith}
use Rattle.std.specs.Prelude.{slice_get, if◌then◌else◌}
use Rattle.mem_model.specs.declared.value.Value.{Value}
use Rattle.mem_model.specs.declared.value.Value.TheVariants.{Word, Address, Unset}
use Rattle.mem_model.specs.declared.value.MemFault.{MemFault}
use Rattle.mem_model.specs.Memory.{Memory, begin_objects, end_objects}
use Rattle.mem_model.proofs.Endings.{turns_are_taken}
use Rattle.mem_model.specs.World.{World, Outer, Meter, Rooms, with_memory, with_meter, outer_with_memory, take_turn, enter_call, leave_call}
use Rattle.mem_model.specs.Ending.{Ending, Trap, More, Evaluation, Gives, Ends}
use Rattle.machine_model.specs.Code.{Stop, Traps, Writes, Jumps, Calls, Returns, Stops, Site}
use Rattle.machine_model.specs.Machine as machine
use Rattle.machine_model.specs.Machine.{Frame, Config, Next, Goes, Over, go_on, step_at, step_with, act_on, turn_if, whole_world, stop_ending}
use Rattle.bk_arithmetic.specs.declared.outcome.ArithmeticOutcome.{ArithmeticOutcome}
use Rattle.bk_arithmetic.specs.declared.outcome.ArithmeticOutcome.TheVariants as o
use Rattle.suifvm_ir.specs.declared.types.VmType.{VmType}
use Rattle.suifvm_ir.specs.declared.insn.VmBranchOp.{VmBranchOp}
use Rattle.suifvm_ir.specs.declared.insn.VmInsn.{VmInsn}
use Rattle.suifvm_ir.specs.declared.insn.VmInsn.TheVariants as n
use Rattle.suifvm_ir.specs.Insns.{reads_of, writes_of}
use Rattle.suifvm_meaning.specs.Operations.{is_set, value_holds}
use Rattle.suifvm_meaning.specs.Behave.{FunctionCode, Registers, vm_code, registers_of, sizes_in, set_registers, insn_site, next_site, site_or_next, site_in_block, site_in_function}
use Rattle.suifvm_meaning.specs.Effect.{is_branch_taken, branches, does, takes_turn}
use Rattle.c_semantics.specs.Runs.{CallState, Run, and_then, in_world, use_value, or_undefined, use_number, spend_turn, turn}
use Rattle.c_semantics.specs.Objects.{access}
use Rattle.c_semantics.specs.Operators.{outcome}
use Rattle.c_semantics.specs.Reasons.{Reason}
use Rattle.lowering_states.specs.model.Opens.{opens}
use Rattle.lowering_states.specs.Places.{CodePlace, next_place, start_of_block, next_block, in_block, stands_at}
use Rattle.lowering_states.specs.Runs.{view, CodeObservation, ObservesTrap, ObservesMore, NotDefined, observation_of, observation, finish, run, Meets, resumes, Resumes, frame_of, config}

-- the law of `and_then`
pub finish-bind : {A B : Type 0} (r : Evaluation A CallState) (k : A → Run B) (K : B → CallState → CodeObservation) → finish (and_then r k) K ≡ finish r (λ a s. finish (k a s) K)
finish-bind (Gives a s) k K = refl
finish-bind (Ends e) k K = refl

in_block-site : (x : Option (List VmInsn)) (block at : ℕ) (o : Option VmInsn) → in_block x at ≡ Some o → site_in_block block at x ≡ Some (site_or_next block o)
in_block-site None block at o e = absurd (cc)
in_block-site (Some is) block at o e = let same : slice_get is at ≡ o = cc in ap (λ z. Some (site_or_next block z)) same

module _ (rooms : Rooms) (functions : List FunctionCode) where
  pub meets_anything : {o : CodeObservation} {k : Config Registers} → o ≡ NotDefined → Meets rooms functions o k
  meets_anything e = record { by = λ ne. absurd (ne e) }

  pub meets_same : {o p : CodeObservation} {k : Config Registers} → o ≡ p → Meets rooms functions p k → Meets rooms functions o k
  meets_same {k = k} e m = subst (λ x. Meets rooms functions x k) (sym e) m

  -- an instruction that leads on
  pub step_on : {o : CodeObservation} (k d : Config Registers) (s : Site Value Registers) → (vm_code functions).site k.here.point ≡ Some s
      → step_at Value Registers rooms (vm_code functions) k (Some s) ≡ Goes d → Meets rooms functions o d → Meets rooms functions o k
  step_on k d s at e m = record {
    by = λ ne. let a = m.by ne in
        (suc a.0, ap (λ x. observation (go_on (step_at Value Registers rooms (vm_code functions) k x) (run rooms functions a.0))) at ∙ ap (λ x. observation (go_on x (run rooms functions a.0))) e ∙ a.1);
  }

  -- one that ends the run
  pub step_over : {o : CodeObservation} (k : Config Registers) (z : Ending) (s : Site Value Registers) → (vm_code functions).site k.here.point ≡ Some s
      → step_at Value Registers rooms (vm_code functions) k (Some s) ≡ Over z → observation_of z ≡ o → Meets rooms functions o k
  step_over k z s at e same = record {
    by = λ ne.
        (1, ap (λ x. observation (go_on (step_at Value Registers rooms (vm_code functions) k x) (run rooms functions 0))) at ∙ ap (λ x. observation (go_on x (run rooms functions 0))) e ∙ same);
  }

  -- one that ends a call
  pub step_back : {o : CodeObservation} (k : Config Registers) (vs : List Value) (w : World) (s : Site Value Registers) → (vm_code functions).site k.here.point ≡ Some s
      → step_at Value Registers rooms (vm_code functions) k (Some s) ≡ resumes rooms functions ((vm_code functions).number k.here.point) vs w k.callers
      → Resumes rooms functions o vs w k.callers → Meets rooms functions o k
  step_back k vs w s at e m = record {
    by = λ ne. let a = m.by ne ((vm_code functions).number k.here.point) in
        (suc a.0, ap (λ x. observation (go_on (step_at Value Registers rooms (vm_code functions) k x) (run rooms functions a.0))) at ∙ ap (λ x. observation (go_on x (run rooms functions a.0))) e ∙ a.1);
  }

  -- ---- within a function that has blocks

  module _ (i : ℕ) (code : FunctionCode) (found : slice_get functions i ≡ Some code) (own : ℕ) (waiting : List (Frame Registers)) where
    abbrev at : CodePlace → Registers → World → Memory → Config Registers
    at p r w m = config i own waiting p r w m

    abbrev Ends_so : CodeObservation → Config Registers → Type 0
    Ends_so o k = Meets rooms functions o k

    pub site_at : (p : CodePlace) (o : Option VmInsn) → stands_at code.blocks p ≡ Some o → site_in_function p.block p.at (slice_get functions i) ≡ Some (site_or_next p.block o)
    site_at p o e = ap (site_in_function p.block p.at) found ∙ in_block-site (slice_get code.blocks p.block) p.block p.at o e

    -- the end of a block
    pub fall : {o : CodeObservation} (p : CodePlace) (r : Registers) (w : World) (m : Memory) → stands_at code.blocks p ≡ Some None → Ends_so o (at (next_block p) r w m) → Ends_so o (at p r w m)
    fall p r w m e next = step_on (at p r w m) (at (next_block p) r w m) (next_site p.block) (site_at p None e) refl next

    -- what an instruction does where it stands, without a turn and with one
    acts : (insn : VmInsn) (p : CodePlace) (r : Registers) (w : World) (m : Memory) → takes_turn insn ≡ false
        → step_at Value Registers rooms (vm_code functions) (at p r w m) (Some (insn_site insn))
        ≡ act_on Value Registers rooms (vm_code functions) (at p r w m) w.meter (insn_site insn) (does insn own (map r (reads_of insn)) (outer_with_memory w.outer m))
    acts insn p r w m calm = ap (λ t. step_with Value Registers rooms (vm_code functions) (at p r w m) (insn_site insn) (turn_if t w.meter)) calm

    acts_turn : (insn : VmInsn) (p : CodePlace) (r : Registers) (w : World) (m : Memory) (t : Option Meter) → takes_turn insn ≡ true → take_turn w.meter ≡ t
        → step_at Value Registers rooms (vm_code functions) (at p r w m) (Some (insn_site insn)) ≡ step_with Value Registers rooms (vm_code functions) (at p r w m) (insn_site insn) t
    acts_turn insn p r w m t takes e =
        ap (λ t. step_with Value Registers rooms (vm_code functions) (at p r w m) (insn_site insn) (turn_if t w.meter)) takes
        ∙ ap (λ x. step_with Value Registers rooms (vm_code functions) (at p r w m) (insn_site insn) x) e

    -- an instruction without a turn that writes values
    pub plain : {o : CodeObservation} (insn : VmInsn) (p : CodePlace) (r : Registers) (w : World) (m : Memory) (vs : List Value) (m1 : Memory) → stands_at code.blocks p ≡ Some (Some insn) → takes_turn insn ≡ false
        → does insn own (map r (reads_of insn)) (outer_with_memory w.outer m) ≡ Writes vs (outer_with_memory w.outer m1)
        → Ends_so o (at (next_place p) (set_registers (writes_of insn) vs r) w m1) → Ends_so o (at p r w m)
    plain insn p r w m vs m1 e calm d next =
        step_on (at p r w m) (at (next_place p) (set_registers (writes_of insn) vs r) w m1) (insn_site insn) (site_at p (Some insn) e)
        (acts insn p r w m calm ∙ ap (λ a. act_on Value Registers rooms (vm_code functions) (at p r w m) w.meter (insn_site insn) a) d) next

    -- one that traps
    pub traps : {o : CodeObservation} (insn : VmInsn) (p : CodePlace) (r : Registers) (w : World) (m : Memory) (c : ℕ) → stands_at code.blocks p ≡ Some (Some insn) → takes_turn insn ≡ false
        → does insn own (map r (reads_of insn)) (outer_with_memory w.outer m) ≡ Stops (Traps c) (outer_with_memory w.outer m)
        → ObservesTrap (view w) c ≡ o → Ends_so o (at p r w m)
    traps insn p r w m c e calm d same =
        step_over (at p r w m) (Trap (with_memory w m) c) (insn_site insn) (site_at p (Some insn) e)
        (acts insn p r w m calm ∙ ap (λ a. act_on Value Registers rooms (vm_code functions) (at p r w m) w.meter (insn_site insn) a) d) same

    -- a jump, and a branch by a test
    pub jump : {o : CodeObservation} (block : ℕ) (p : CodePlace) (r : Registers) (w : World) (m : Memory) → stands_at code.blocks p ≡ Some (Some (n.Jump block)) → Ends_so o (at (start_of_block block) r w m) → Ends_so o (at p r w m)
    jump block p r w m e next = step_on (at p r w m) (at (start_of_block block) r w m) (insn_site (n.Jump block)) (site_at p (Some (n.Jump block)) e) refl next

    pub branch_taken : {o : CodeObservation} (op : VmBranchOp) (ty : VmType) (source block : ℕ) (t : Bool) (p : CodePlace) (r : Registers) (w : World) (m : Memory) → stands_at code.blocks p ≡ Some (Some (n.Branch op ty source block))
        → value_holds m ty (r source) ≡ Some t → is_branch_taken op t ≡ true → Ends_so o (at (start_of_block block) r w m) → Ends_so o (at p r w m)
    branch_taken op ty source block t p r w m e holds taken next =
        let insn = n.Branch op ty source block in
        let o1 : Outer = outer_with_memory w.outer m in
        step_on (at p r w m) (at (start_of_block block) r w m) (insn_site insn) (site_at p (Some insn) e)
        (ap (λ x. act_on Value Registers rooms (vm_code functions) (at p r w m) w.meter (insn_site insn) (branches op x o1)) holds
        ∙ ap (λ b. act_on Value Registers rooms (vm_code functions) (at p r w m) w.meter (insn_site insn) (if b then Jumps 0 o1 else Writes [] o1)) taken) next

    pub branch_passed : {o : CodeObservation} (op : VmBranchOp) (ty : VmType) (source block : ℕ) (t : Bool) (p : CodePlace) (r : Registers) (w : World) (m : Memory) → stands_at code.blocks p ≡ Some (Some (n.Branch op ty source block))
        → value_holds m ty (r source) ≡ Some t → is_branch_taken op t ≡ false → stands_at code.blocks (next_place p) ≡ Some None → Ends_so o (at (next_block p) r w m) → Ends_so o (at p r w m)
    branch_passed op ty source block t p r w m e holds taken end next =
        let insn = n.Branch op ty source block in
        let o1 : Outer = outer_with_memory w.outer m in
        step_on (at p r w m) (at (next_place p) r w m) (insn_site insn) (site_at p (Some insn) e)
        (ap (λ x. act_on Value Registers rooms (vm_code functions) (at p r w m) w.meter (insn_site insn) (branches op x o1)) holds
        ∙ ap (λ b. act_on Value Registers rooms (vm_code functions) (at p r w m) w.meter (insn_site insn) (if b then Jumps 0 o1 else Writes [] o1)) taken) (fall (next_place p) r w m end next)

    -- an instruction that takes a turn: there is none, or it writes values, or it ends the run
    pub no_turn : {o : CodeObservation} (insn : VmInsn) (p : CodePlace) (r : Registers) (w : World) (m : Memory) → stands_at code.blocks p ≡ Some (Some insn) → takes_turn insn ≡ true → take_turn w.meter ≡ None
        → ObservesMore (view w) ≡ o → Ends_so o (at p r w m)
    no_turn insn p r w m e takes none same =
        step_over (at p r w m) (More (with_memory w m)) (insn_site insn) (site_at p (Some insn) e) (acts_turn insn p r w m None takes none) same

    pub turning_step : {o : CodeObservation} (insn : VmInsn) (p : CodePlace) (r : Registers) (w w1 : World) (m m1 : Memory) (t : Meter) (vs : List Value) → stands_at code.blocks p ≡ Some (Some insn) → takes_turn insn ≡ true → take_turn w.meter ≡ Some t
        → does insn own (map r (reads_of insn)) (outer_with_memory w.outer m) ≡ Writes vs (outer_with_memory w1.outer m1) → w1.meter ≡ t
        → Ends_so o (at (next_place p) (set_registers (writes_of insn) vs r) w1 m1) → Ends_so o (at p r w m)
    turning_step insn p r w w1 m m1 t vs e takes some d meter next =
        step_on (at p r w m) (at (next_place p) (set_registers (writes_of insn) vs r) w1 m1) (insn_site insn) (site_at p (Some insn) e)
        (acts_turn insn p r w m (Some t) takes some ∙ ap (λ a. act_on Value Registers rooms (vm_code functions) (at p r w m) t (insn_site insn) a) d
        ∙ ap (λ x. Goes (record { here = frame_of i own (next_place p) (set_registers (writes_of insn) vs r); callers = waiting; world = whole_world (outer_with_memory w1.outer m1) x })) (sym meter)) next

    pub turning_over : {o : CodeObservation} (insn : VmInsn) (p : CodePlace) (r : Registers) (w : World) (m : Memory) (t : Meter) (z : Stop) → stands_at code.blocks p ≡ Some (Some insn) → takes_turn insn ≡ true → take_turn w.meter ≡ Some t
        → does insn own (map r (reads_of insn)) (outer_with_memory w.outer m) ≡ Stops z (outer_with_memory w.outer m)
        → observation_of (stop_ending z ((vm_code functions).number (at p r w m).here.point) (with_memory (with_meter w t) m)) ≡ o → Ends_so o (at p r w m)
    turning_over insn p r w m t z e takes some d same =
        step_over (at p r w m) (stop_ending z ((vm_code functions).number (at p r w m).here.point) (with_memory (with_meter w t) m)) (insn_site insn) (site_at p (Some insn) e)
        (acts_turn insn p r w m (Some t) takes some ∙ ap (λ a. act_on Value Registers rooms (vm_code functions) (at p r w m) t (insn_site insn) a) d) same

    -- a call is entered
    pub calling_step : {o : CodeObservation} (insn : VmInsn) (p : CodePlace) (r : Registers) (w : World) (m : Memory) (t : Meter) (k : ℕ) (callee : FunctionCode) (vs : List Value) → stands_at code.blocks p ≡ Some (Some insn) → takes_turn insn ≡ true
        → take_turn w.meter ≡ Some t → slice_get functions k ≡ Some callee
        → does insn own (map r (reads_of insn)) (outer_with_memory w.outer m) ≡ Calls k vs (outer_with_memory w.outer m)
        → Ends_so o (config k (length m) (frame_of i own p r ∷ waiting) (start_of_block 0) (registers_of vs) (with_meter w (enter_call rooms k t)) (begin_objects m callee.sizes)) → Ends_so o (at p r w m)
    calling_step insn p r w m t k callee vs e takes some there d next =
        step_on (at p r w m) (config k (length m) (frame_of i own p r ∷ waiting) (start_of_block 0) (registers_of vs) (with_meter w (enter_call rooms k t)) (begin_objects m callee.sizes)) (insn_site insn) (site_at p (Some insn) e)
        (acts_turn insn p r w m (Some t) takes some ∙ ap (λ a. act_on Value Registers rooms (vm_code functions) (at p r w m) t (insn_site insn) a) d
        ∙ ap (λ x. Goes (config k (length m) (frame_of i own p r ∷ waiting) (start_of_block 0) (registers_of vs) (with_meter w (enter_call rooms k t)) (begin_objects m (sizes_in x)))) there) next

    -- a call goes on where it stands, with what was returned
    pub resume_meets : {o : CodeObservation} (insn : VmInsn) (p : CodePlace) (r : Registers) (w : World) (m : Memory) (vs : List Value) → stands_at code.blocks p ≡ Some (Some insn)
        → Ends_so o (at (next_place p) (set_registers (writes_of insn) vs r) w m) → Resumes rooms functions o vs (with_memory w m) (frame_of i own p r ∷ waiting)
    resume_meets insn p r w m vs e next = record {
      by = λ ne number. let a = next.by ne in
          (a.0, ap (λ x. observation (go_on (machine.resume Value Registers rooms (vm_code functions) (frame_of i own p r) waiting (with_memory w m) vs x) (run rooms functions a.0))) (site_at p (Some insn) e) ∙ a.1);
    }

    -- the world that a call leaves
    abbrev pub left : World → Memory → World
    left w m = with_memory (with_meter w (leave_call rooms i w.meter)) (end_objects m own (length code.sizes))

    pub returning_step : {o : CodeObservation} (insn : VmInsn) (p : CodePlace) (r : Registers) (w : World) (m : Memory) (vs : List Value) → stands_at code.blocks p ≡ Some (Some insn) → takes_turn insn ≡ false
        → does insn own (map r (reads_of insn)) (outer_with_memory w.outer m) ≡ Returns vs (outer_with_memory w.outer m)
        → Resumes rooms functions o vs (left w m) waiting → Ends_so o (at p r w m)
    returning_step insn p r w m vs e calm d next =
        step_back (at p r w m) vs (left w m) (insn_site insn) (site_at p (Some insn) e)
        (acts insn p r w m calm ∙ ap (λ a. act_on Value Registers rooms (vm_code functions) (at p r w m) w.meter (insn_site insn) a) d
        ∙ ap (λ x. resumes rooms functions ((vm_code functions).number (at p r w m).here.point) vs (with_memory (with_meter w (leave_call rooms i w.meter)) (end_objects m own (length (sizes_in x)))) waiting) found) next

  -- ---- a part of a run of the C meaning, by what it gives

  pub used_meets : (reason : Reason) (v : Value) (s : CallState) (K : Value → CallState → CodeObservation) (k : Config Registers) → (is_set v ≡ true → Meets rooms functions (K v s) k) → Meets rooms functions (finish (use_value reason v s) K) k
  unfolding opens
  used_meets reason (Word x) s K k h = h refl
  used_meets reason (Address p) s K k h = h refl
  used_meets reason Unset s K k h = meets_anything refl

  pub known_meets : {A : Type 0} (reason : Reason) (x : Option A) (s : CallState) (K : A → CallState → CodeObservation) (k : Config Registers) → ((a : A) → x ≡ Some a → Meets rooms functions (K a s) k) → Meets rooms functions (finish (or_undefined reason x s) K) k
  unfolding opens
  known_meets reason None s K k h = meets_anything refl
  known_meets reason (Some a) s K k h = h a refl

  pub number_meets : (v : Value) (s : CallState) (K : ℕ → CallState → CodeObservation) (k : Config Registers) → ((x : ℕ) → v ≡ Word x → Meets rooms functions (K x s) k) → Meets rooms functions (finish (use_number v s) K) k
  unfolding opens
  number_meets (Word x) s K k h = h x refl
  number_meets (Address p) s K k h = meets_anything refl
  number_meets Unset s K k h = meets_anything refl

  pub access_meets : {A : Type 0} (x : Result A MemFault) (s : CallState) (K : A → CallState → CodeObservation) (k : Config Registers) → ((a : A) → x ≡ Ok a → Meets rooms functions (K a s) k) → Meets rooms functions (finish (access x s) K) k
  unfolding opens
  access_meets (Ok a) s K k h = h a refl
  access_meets (Err e) s K k h = meets_anything refl

  pub outcome_meets : (x : ArithmeticOutcome) (s : CallState) (K : Value → CallState → CodeObservation) (k : Config Registers) → ((n : ℕ) → x ≡ o.Word n → Meets rooms functions (K (Word n) s) k) → ((c : ℕ) → x ≡ o.Trap c → Meets rooms functions (ObservesTrap (view s.world) c) k)
      → Meets rooms functions (finish (outcome x s) K) k
  unfolding opens
  outcome_meets (o.Word n) s K k h t = h n refl
  outcome_meets (o.Trap c) s K k h t = t c refl
  outcome_meets o.Undefined s K k h t = meets_anything refl

  pub turn_meets : (s : CallState) (K : Unit {0} → CallState → CodeObservation) (k : Config Registers) → ((m : Meter) → take_turn s.world.meter ≡ Some m → Meets rooms functions (K tt (in_world s (with_meter s.world m))) k)
      → (take_turn s.world.meter ≡ None → Meets rooms functions (ObservesMore (view s.world)) k) → Meets rooms functions (finish (turn s) K) k
  unfolding opens
  turn_meets s K k h none = (elim (take_turn s.world.meter) as (λ x. take_turn s.world.meter ≡ x → Meets rooms functions (finish (spend_turn x s) K) k) [
    | None ↦ λ e. none e
    | Some m ↦ λ e. h m e
  ]) refl

pub turn_less : (m t : Meter) → take_turn m ≡ Some t → t.turns < m.turns
turn_less m t e = omega (arith, (turns_are_taken m t e).turns)
