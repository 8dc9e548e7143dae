-- The machine follows each step of a run.
use Rattle.std.proofs.Common.{◌≡◌, ℕ, suc, ◌≤◌, true, [], ◌∷◌, Option, Some, None, refl, sym, subst, arith}
use Rattle.std.specs.Prelude.{slice_get}
use Rattle.alpha_isa.specs.State.{State}
use Rattle.mem_model.specs.World.{Meter}
use Rattle.machine_model.specs.Code.{Site}
use Rattle.machine_model.specs.Machine.{Config, turn_if, act_on, step_with, step_at}
use Rattle.temp_ir.specs.declared.insn.TempInsn.{TempInsn}
use Rattle.temp_ir.specs.declared.insn.TempInsn.TheVariants as i
use Rattle.temp_ir.specs.Insns.{targets_of}
use Rattle.alloc_model.specs.Contents.{Content}
use Rattle.alloc_model.specs.Effect.{widest_call, takes_turn}
use Rattle.alloc_model.specs.Temporaries.{is_left_at, site_or_next}
use Rattle.alloc_model.specs.Places.{Places, edge_transfers, transfers_at, registers_at, placed_site, placed_code}
use Rattle.frame_simulation.specs.edge_shapes.Points.{stays_in_call}
use Rattle.frame_simulation.specs.edge_shapes.Items.{top_transfers, jump_transfers}
use Rattle.frame_simulation.specs.flat_steps.Builds.{Build, BuildStands}
use Rattle.frame_simulation.specs.flat_steps.Matching.{Matches, passes_left, FitsStack, StepIsDone, step_of}
use Rattle.frame_simulation.proofs.FlatSteps.Lists.{none-stands, one-stands}
use Rattle.frame_simulation.proofs.FlatSteps.Points.{site-is}
use Rattle.frame_simulation.proofs.FlatSteps.Meters.{IsMetered, turn-metered, turn-none}
use Rattle.frame_simulation.proofs.FlatSteps.Matched.{built, is-insn}
use Rattle.frame_simulation.proofs.FlatSteps.Local.{local-step}
use Rattle.frame_simulation.proofs.FlatSteps.Going.{jump-step, end-step}
use Rattle.frame_simulation.proofs.FlatSteps.Calling.{call-step, return-step}
use Rattle.frame_simulation.proofs.FlatSteps.Paid.{turned, passes-here, passes-enough}

module _ (b : Build) (ok : BuildStands b) (k : Config Places) (s : State) (m : Matches b k s) (fits : FitsStack b (step_of b k)) where
  abbrev site : TempInsn → Site Content Places
  site x = placed_site (widest_call m.plan.function.blocks) (transfers_at m.plan k.here.point.block k.here.point.at) (registers_at m.plan k.here.point.block k.here.point.at) x

  -- an instruction without targets
  straight : (x : TempInsn) (there : slice_get m.insns k.here.point.at ≡ Some x) → stays_in_call x ≡ true → jump_transfers m.plan k.here.point.block x ≡ [] → targets_of x ≡ [] → (t : Meter) → IsMetered k.world.meter t → suc t.turns ≤ passes_left b k → StepIsDone b k m.waiting s (act_on Content Places b.rooms (placed_code b.plans) k t (site x) ((site x).does k.here.own ((site x).fetch k.here.store) k.world.outer))
  straight x there local none no-targets t metered enough = local-step b ok k s m x there local none (λ n to e. absurd (none-stands n to (subst (λ l. slice_get l n ≡ Some to) no-targets e))) fits t metered enough

  branch-tops : (x : TempInsn) (there : slice_get m.insns k.here.point.at ≡ Some x) (block : ℕ) → targets_of x ≡ block ∷ [] → top_transfers m.plan block ≡ edge_transfers m.plan k.here.point.block block → (n to : ℕ) → slice_get (targets_of x) n ≡ Some to → top_transfers m.plan to ≡ edge_transfers m.plan k.here.point.block to
  branch-tops x there block targets same n to e =
      subst (λ z. top_transfers m.plan z ≡ edge_transfers m.plan k.here.point.block z) (one-stands block n to (subst (λ l. slice_get l n ≡ Some to) targets e)) same

  call-passes : (function arguments : ℕ) (there : slice_get m.insns k.here.point.at ≡ Some (i.Call function arguments)) (t : Meter) → turn_if true k.world.meter ≡ Some t → suc (suc t.turns) ≤ passes_left b k
  call-passes function arguments there t e =
      let here = passes-here b ok k s m (i.Call function arguments) there in
      let one = turned true k.world.meter t e in
      omega (arith, here, one)

  insn-step : (x : TempInsn) (there : slice_get m.insns k.here.point.at ≡ Some x) (t : Meter) → IsMetered k.world.meter t → turn_if (takes_turn x) k.world.meter ≡ Some t → FitsStack b (act_on Content Places b.rooms (placed_code b.plans) k t (site x) ((site x).does k.here.own ((site x).fetch k.here.store) k.world.outer)) → StepIsDone b k m.waiting s (act_on Content Places b.rooms (placed_code b.plans) k t (site x) ((site x).does k.here.own ((site x).fetch k.here.store) k.world.outer))
  insn-step (i.Address op d base plus) there t metered e fit = straight (i.Address op d base plus) there refl refl refl t metered (passes-enough b ok k s m (i.Address op d base plus) there t e)
  insn-step (i.ObjectAddress d place plus) there t metered e fit = straight (i.ObjectAddress d place plus) there refl refl refl t metered (passes-enough b ok k s m (i.ObjectAddress d place plus) there t e)
  insn-step (i.Load op d pointer plus) there t metered e fit = straight (i.Load op d pointer plus) there refl refl refl t metered (passes-enough b ok k s m (i.Load op d pointer plus) there t e)
  insn-step (i.Store op value pointer plus) there t metered e fit = straight (i.Store op value pointer plus) there refl refl refl t metered (passes-enough b ok k s m (i.Store op value pointer plus) there t e)
  insn-step (i.Operate op d left right) there t metered e fit = straight (i.Operate op d left right) there refl refl refl t metered (passes-enough b ok k s m (i.Operate op d left right) there t e)
  insn-step (i.Extend op d source) there t metered e fit = straight (i.Extend op d source) there refl refl refl t metered (passes-enough b ok k s m (i.Extend op d source) there t e)
  insn-step (i.ToFixed register source) there t metered e fit = straight (i.ToFixed register source) there refl refl refl t metered (passes-enough b ok k s m (i.ToFixed register source) there t e)
  insn-step (i.FromFixed d register) there t metered e fit = straight (i.FromFixed d register) there refl refl refl t metered (passes-enough b ok k s m (i.FromFixed d register) there t e)
  insn-step (i.SetFixed register number) there t metered e fit = straight (i.SetFixed register number) there refl refl refl t metered (passes-enough b ok k s m (i.SetFixed register number) there t e)
  insn-step (i.WriteArgument number source) there t metered e fit = straight (i.WriteArgument number source) there refl refl refl t metered (passes-enough b ok k s m (i.WriteArgument number source) there t e)
  insn-step (i.ReadArgument d number) there t metered e fit = straight (i.ReadArgument d number) there refl refl refl t metered (passes-enough b ok k s m (i.ReadArgument d number) there t e)
  insn-step (i.Branch op source block) there t metered e fit = local-step b ok k s m (i.Branch op source block) there refl refl
      (branch-tops (i.Branch op source block) there block refl ((built b ok k s m).edges.branches k.here.point.block k.here.point.at op source block (is-insn b ok k s m (i.Branch op source block) there))) fits t metered (passes-enough b ok k s m (i.Branch op source block) there t e)
  insn-step (i.Jump block) there t metered e fit = jump-step b ok k s m block there t metered (passes-enough b ok k s m (i.Jump block) there t e)
  insn-step (i.Call function arguments) there t metered e fit = call-step b ok k s m function arguments there t metered (call-passes function arguments there t e) fit
  insn-step (i.Divide routine) there t metered e fit = straight (i.Divide routine) there refl refl refl t metered (passes-enough b ok k s m (i.Divide routine) there t e)
  insn-step (i.Serve service) there t metered e fit = straight (i.Serve service) there refl refl refl t metered (passes-enough b ok k s m (i.Serve service) there t e)
  insn-step (i.Return with_value) there t metered e fit = return-step b ok k s m with_value there t metered (passes-enough b ok k s m (i.Return with_value) there t e)
  insn-step i.Mark there t metered e fit = straight i.Mark there refl refl refl t metered (passes-enough b ok k s m i.Mark there t e)

  stepped : (x : TempInsn) (there : slice_get m.insns k.here.point.at ≡ Some x) (o : Option Meter) → turn_if (takes_turn x) k.world.meter ≡ o → FitsStack b (step_with Content Places b.rooms (placed_code b.plans) k (site x) o) → StepIsDone b k m.waiting s (step_with Content Places b.rooms (placed_code b.plans) k (site x) o)
  stepped x there None e fit = (turn-none (takes_turn x) k.world.meter e, sym m.outer.output)
  stepped x there (Some t) e fit = insn-step x there t (turn-metered (takes_turn x) k.world.meter t e) e fit

  at-place : (o : Option TempInsn) → slice_get m.insns k.here.point.at ≡ o → FitsStack b (step_at Content Places b.rooms (placed_code b.plans) k (site_or_next site k.here.point.block (is_left_at m.insns k.here.point.at) o)) → StepIsDone b k m.waiting s (step_at Content Places b.rooms (placed_code b.plans) k (site_or_next site k.here.point.block (is_left_at m.insns k.here.point.at) o))
  at-place None e fit = end-step b ok k s m e (is_left_at m.insns k.here.point.at) refl
  at-place (Some x) e fit = stepped x e (turn_if (takes_turn x) k.world.meter) refl fit

pub steps_are_done : (b : Build) → BuildStands b → (k : Config Places) (s : State) (m : Matches b k s) → FitsStack b (step_of b k) → StepIsDone b k m.waiting s (step_of b k)
steps_are_done b ok k s m fits =
    subst (λ z. FitsStack b (step_at Content Places b.rooms (placed_code b.plans) k z) → StepIsDone b k m.waiting s (step_at Content Places b.rooms (placed_code b.plans) k z)) (sym (site-is b k.here.point m.plan m.insns m.is_in))
    (at-place b ok k s m fits (slice_get m.insns k.here.point.at) refl) fits
