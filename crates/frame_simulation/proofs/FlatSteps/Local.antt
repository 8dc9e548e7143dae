-- A step at an instruction that is no jump, no call of a function and no return.
use Rattle.std.proofs.Common.{◌≡◌, ℕ, suc, ◌≤◌, true, [], Option, Some, None, refl, sym, ap, ◌∙◌, subst, arith, inr}
use Rattle.std.specs.Prelude.{slice_get}
use Rattle.alpha_isa.specs.State.{State}
use Rattle.alpha_isa.specs.Step as step
use Rattle.mem_model.specs.World.{Outer, Meter}
use Rattle.machine_model.specs.Code.{Exits, Traps, HasNoMeaning, Act, Writes, Jumps, Calls, Returns, Stops, Site}
use Rattle.machine_model.specs.Machine.{Config, whole_world, jump_to, act_on}
use Rattle.temp_ir.specs.declared.insn.TempInsn.{TempInsn}
use Rattle.temp_ir.specs.Insns.{targets_of}
use Rattle.alloc_model.specs.Contents.{Content}
use Rattle.alloc_model.specs.Effect.{widest_call}
use Rattle.alloc_model.specs.Places.{Places, edge_transfers, edge_in, transfers_at, registers_at, do_all, placed_site, placed_code}
use Rattle.frame_simulation.specs.edge_shapes.Points.{stays_in_call, PointIsLeft, PointIsDone}
use Rattle.frame_simulation.proofs.EdgeShapes.Points.{points_are_done}
use Rattle.frame_simulation.proofs.StackRooms.Rooms.{scratch_is_there}
use Rattle.frame_simulation.specs.edge_shapes.Items.{top_transfers, jump_transfers}
use Rattle.frame_simulation.specs.flat_steps.Builds.{Build, BuildStands}
use Rattle.frame_simulation.specs.flat_steps.Matching.{Matches, passes_left, FitsStack, StepIsDone, step_of}
use Rattle.frame_simulation.proofs.FlatSteps.Lists.{get-below}
use Rattle.frame_simulation.proofs.FlatSteps.Points.{place-is, IsNoCall, no-call}
use Rattle.frame_simulation.proofs.FlatSteps.Meters.{IsMetered, rooms-fit}
use Rattle.frame_simulation.proofs.FlatSteps.Naming.{names-there}
use Rattle.frame_simulation.proofs.FlatSteps.Matched.{built, same-shape, few, is-insn, may, stated_here, rest, stands-plain, came, entered_block}
use Rattle.frame_simulation.proofs.FlatSteps.Paid.{over-soon}

module _ (b : Build) (ok : BuildStands b) (k : Config Places) (s : State) (m : Matches b k s) (x : TempInsn) (there : slice_get m.insns k.here.point.at ≡ Some x) where
  -- what stands there
  abbrev site : Site Content Places
  site = placed_site (widest_call m.plan.function.blocks) (transfers_at m.plan k.here.point.block k.here.point.at) (registers_at m.plan k.here.point.block k.here.point.at) x

  -- the edges from it have their transfers at the tops of their blocks
  abbrev HasTops : Type 0
  HasTops = (n to : ℕ) → slice_get (targets_of x) n ≡ Some to → top_transfers m.plan to ≡ edge_transfers m.plan k.here.point.block to

  jumps : HasTops → (o : Outer) (t : Meter) → IsMetered k.world.meter t → suc t.turns ≤ passes_left b k → (n : ℕ) (to : Option ℕ) → slice_get (targets_of x) n ≡ to → ((block : ℕ) → to ≡ Some block → PointIsLeft b.program b.there b.start (rest b ok k s m x there) b.end ((b.setting k.here.point.function).block_label block) m.call m.waiting o (site.put [] k.here.store) s) → StepIsDone b k m.waiting s (jump_to Content Places b.rooms (placed_code b.plans) k (whole_world o t) site to)
  jumps tops o t metered enough n None is h = tt
  jumps tops o t metered enough n (Some block) is h =
      let leads = ap (λ z. edge_in z k.here.point.block block) m.is_in.plan ∙ sym (tops n block is) in
      entered_block b ok k s m x there n block is o t metered enough (site.put [] k.here.store) (do_all (edge_in (slice_get b.plans k.here.point.function) k.here.point.block block) (site.put [] k.here.store))
      (ap (λ l. do_all l (site.put [] k.here.store)) (sym leads)) (h block refl)

  acts : HasTops → (t : Meter) → IsMetered k.world.meter t → suc t.turns ≤ passes_left b k → (act : Act Content) → IsNoCall act → PointIsDone b.program b.there b.start (b.setting k.here.point.function) (rest b ok k s m x there) b.end m.call m.waiting (λ cs. site.put cs k.here.store) x s act → StepIsDone b k m.waiting s (act_on Content Places b.rooms (placed_code b.plans) k t site act)
  acts tops t metered enough (Writes cs o) none d =
      let below = get-below m.insns k.here.point.at x there in
      let was = place-is b k.here.point m.plan m.is_in.plan in
      let is = place-is b (record { function = k.here.point.function; block = k.here.point.block; at = suc k.here.point.at }) m.plan m.is_in.plan in
      came b ok k s m k.here.point.block (suc k.here.point.at) m.insns m.is_in.block (omega (arith, below)) o t metered (site.put cs k.here.store) d.to d.stands d.stack d.outer d.comes enough (inr (omega (arith, was, is)))
  acts tops t metered enough (Jumps target o) none d = jumps tops o t metered enough target (slice_get (targets_of x) target) refl d
  acts tops t metered enough (Calls function cs o) none d = absurd none
  acts tops t metered enough (Returns cs o) none d = absurd none
  acts tops t metered enough (Stops (Exits status) o) none d = over-soon b ok k s m o (step.Done status) (omega (arith, enough)) d
  acts tops t metered enough (Stops (Traps code) o) none d = over-soon b ok k s m o (step.Trap code) (omega (arith, enough)) d
  acts tops t metered enough (Stops HasNoMeaning o) none d = tt

  pub local-step : stays_in_call x ≡ true → jump_transfers m.plan k.here.point.block x ≡ [] → HasTops → FitsStack b (step_of b k) → (t : Meter) → IsMetered k.world.meter t → suc t.turns ≤ passes_left b k → StepIsDone b k m.waiting s (act_on Content Places b.rooms (placed_code b.plans) k t site (site.does k.here.own (site.fetch k.here.store) k.world.outer))
  local-step local none tops fits t metered enough =
      let W = widest_call m.plan.function.blocks in
      acts tops t metered enough (site.does k.here.own (site.fetch k.here.store) k.world.outer) (no-call (widest_call m.plan.function.blocks) x k.here.own (site.fetch k.here.store) k.world.outer local)
      (subst (λ own. PointIsDone b.program b.there b.start (b.setting k.here.point.function) (rest b ok k s m x there) b.end m.call m.waiting (λ cs. site.put cs k.here.store) x s (site.does own (site.fetch k.here.store) k.world.outer)) m.own
      (points_are_done b.program b.there b.start (b.setting k.here.point.function) (rest b ok k s m x there) b.end m.call m.waiting k.world.outer k.here.store s m.is_call (same-shape b ok k s m) m.stack m.outer ok.routines
      (scratch_is_there b.program b.there b.start m.call m.waiting k.here.store s m.stack (rooms-fit b ok k s m fits))
      (widest_call m.plan.function.blocks) (few b ok k s m) (transfers_at m.plan k.here.point.block k.here.point.at) (registers_at m.plan k.here.point.block k.here.point.at) x (may b ok k s m x there) local (stated_here b ok k s m x there)
      (names-there b ok k s m x ((built b ok k s m).names k.here.point.block k.here.point.at x (is-insn b ok k s m x there)))
      (stands-plain b ok k s m x there none)))
