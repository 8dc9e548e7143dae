-- A step at a jump, and one at the end of a block.
use Rattle.std.proofs.Common.{◌≡◌, ℕ, suc, ◌≤◌, Bool, true, false, List, [], ◌∷◌, ◌++◌, Some, None, length, drop, refl, sym, ap, ◌∙◌, subst, arith, inr}
use Rattle.std.specs.Prelude.{slice_get, ◌==◌}
use Rattle.std.proofs.lemmas.Bool.{eqb-true, and_parts}
use Rattle.alpha_isa.specs.State.{State}
use Rattle.alpha_items.specs.declared.item.AsmItem.{AsmItem}
use Rattle.alpha_items.specs.declared.item.AsmItem.TheVariants.{Label}
use Rattle.frame_steps.proofs.ItemSteps.Steps.{steps_add_up}
use Rattle.mem_model.specs.World.{Meter}
use Rattle.machine_model.specs.Machine as machine
use Rattle.machine_model.specs.Machine.{Config, step_at, act_on}
use Rattle.temp_ir.specs.declared.insn.TempInsn.{TempInsn}
use Rattle.temp_ir.specs.declared.insn.TempInsn.TheVariants as i
use Rattle.alloc_model.specs.declared.allocation.Transfer.{Transfer}
use Rattle.alloc_model.specs.Contents.{Content}
use Rattle.alloc_model.specs.Effect.{widest_call}
use Rattle.alloc_model.specs.Temporaries.{flows_out, is_left_at, next_if}
use Rattle.alloc_model.specs.Places.{Places, Plan, edge_transfers, edge_in, transfers_at, registers_at, do_all, placed_site, placed_code}
use Rattle.frame_steps.specs.frame_transfers.Items.{items_of_transfers}
use Rattle.frame_steps.specs.frame_transfers.Laws.{StandsFor, CanTransferAll}
use Rattle.frame_simulation.specs.stack_rooms.Items.{ItemSetting, insn_items}
use Rattle.frame_simulation.specs.stack_rooms.Laws.{is_usable}
use Rattle.frame_simulation.proofs.StackRooms.Runs.{no-registers}
use Rattle.frame_simulation.proofs.CallSteps.Edges.{edges_are_done, ends_are_done, jumps_are_done_here}
use Rattle.frame_simulation.specs.edge_shapes.Items.{top_transfers, end_transfers, insns_items, block_items, blocks_items, exit_items}
use Rattle.frame_simulation.proofs.EdgeShapes.Fits.{targets_fit, ends_fit}
use Rattle.frame_simulation.proofs.EdgeShapes.Tops.{tops_fit}
use Rattle.frame_simulation.specs.flat_steps.Builds.{Build, BuildStands}
use Rattle.frame_simulation.specs.flat_steps.Matching.{items_from_point, Matches, passes_left, StepIsDone}
use Rattle.frame_simulation.proofs.FlatSteps.Lists.{drop-some, drop-none, stands-at, count-behind}
use Rattle.frame_simulation.proofs.FlatSteps.Points.{place-is}
use Rattle.frame_simulation.proofs.FlatSteps.Meters.{IsMetered}
use Rattle.frame_simulation.proofs.FlatSteps.Matched.{items_behind, built, same-shape, is-insn, may, stated_here, rest, stands-point, config_at, came, entered_block}
use Rattle.frame_simulation.proofs.FlatSteps.Paid.{passes-end}

-- transfers one behind the other
pub all-in-two : (xs ys : List Transfer) (held : Places) → do_all (xs ++ ys) held ≡ do_all ys (do_all xs held)
all-in-two [] ys held = refl
all-in-two (x ∷ xs) ys held = all-in-two xs ys (do_all (x ∷ []) held)

-- the blocks from one on begin with it
blocks-begin : (a : Plan) (g : ItemSetting) (n block : ℕ) (insns : List TempInsn) (rest : List AsmItem) → slice_get a.function.blocks block ≡ Some insns → blocks_items a g n (drop block a.function.blocks) rest ≡ Label (g.block_label n) ∷ block_items a g n insns (blocks_items a g (suc n) (drop (suc block) a.function.blocks) rest)
blocks-begin a g n block insns rest is = ap (λ l. blocks_items a g n l rest) (drop-some a.function.blocks block insns is)

module _ (b : Build) (ok : BuildStands b) (k : Config Places) (s : State) (m : Matches b k s) where
  -- ---- a jump

  pub jump-step : (block : ℕ) (there : slice_get m.insns k.here.point.at ≡ Some (i.Jump block)) (t : Meter) → IsMetered k.world.meter t → suc t.turns ≤ passes_left b k → StepIsDone b k m.waiting s (act_on Content Places b.rooms (placed_code b.plans) k t (placed_site (widest_call m.plan.function.blocks) (transfers_at m.plan k.here.point.block k.here.point.at) (registers_at m.plan k.here.point.block k.here.point.at) (i.Jump block)) ((placed_site (widest_call m.plan.function.blocks) (transfers_at m.plan k.here.point.block k.here.point.at) (registers_at m.plan k.here.point.block k.here.point.at) (i.Jump block)).does k.here.own [] k.world.outer))
  jump-step block there t metered enough =
      let g = b.setting k.here.point.function in
      let xs = transfers_at m.plan k.here.point.block k.here.point.at in
      let rs = registers_at m.plan k.here.point.block k.here.point.at in
      let x : TempInsn = i.Jump block in
      let edge = edge_transfers m.plan k.here.point.block block in
      let is = is-insn b ok k s m (i.Jump block) there in
      let can = subst (λ y. CanTransferAll y is_usable edge) (sym m.shape) (targets_fit m.plan (built b ok k s m).faithful k.here.point.block k.here.point.at (i.Jump block) is 0 block refl) in
      let behind = rest b ok k s m (i.Jump block) there in
      let at = subst (λ z. StandsFor b.program b.there (items_of_transfers z xs (items_of_transfers z edge (insn_items (b.setting k.here.point.function) (registers_at m.plan k.here.point.block k.here.point.at) (i.Jump block) ++ rest b ok k s m (i.Jump block) there))) b.end m.call k.world.outer.memory is_usable k.here.store s) (same-shape b ok k s m) (stands-point b ok k s m (i.Jump block) there) in
      let d = jumps_are_done_here b.program b.there b.start (rest b ok k s m (i.Jump block) there) b.end m.call m.waiting k.world.outer k.here.store s m.is_call m.stack m.outer xs edge (may b ok k s m (i.Jump block) there) can ((b.setting k.here.point.function).block_label block) (widest_call m.plan.function.blocks) block rs (no-registers rs (stated_here b ok k s m (i.Jump block) there).count) at in
      let store = (placed_site (widest_call m.plan.function.blocks) xs rs (i.Jump block)).put [] k.here.store in
      let none = (built b ok k s m).edges.jumps k.here.point.block k.here.point.at block is in
      entered_block b ok k s m (i.Jump block) there 0 block refl k.world.outer t metered enough
      (do_all (edge_transfers m.plan k.here.point.block block) ((placed_site (widest_call m.plan.function.blocks) (transfers_at m.plan k.here.point.block k.here.point.at) (registers_at m.plan k.here.point.block k.here.point.at) (i.Jump block)).put [] k.here.store))
      (do_all (edge_in (slice_get b.plans k.here.point.function) k.here.point.block block) ((placed_site (widest_call m.plan.function.blocks) (transfers_at m.plan k.here.point.block k.here.point.at) (registers_at m.plan k.here.point.block k.here.point.at) (i.Jump block)).put [] k.here.store))
      (ap (λ l. do_all l (do_all (edge_transfers m.plan k.here.point.block block) ((placed_site (widest_call m.plan.function.blocks) (transfers_at m.plan k.here.point.block k.here.point.at) (registers_at m.plan k.here.point.block k.here.point.at) (i.Jump block)).put [] k.here.store))) none
      ∙ ap (λ o. do_all (edge_in o k.here.point.block block) ((placed_site (widest_call m.plan.function.blocks) (transfers_at m.plan k.here.point.block k.here.point.at) (registers_at m.plan k.here.point.block k.here.point.at) (i.Jump block)).put [] k.here.store)) (sym m.is_in.plan))
      d

  -- ---- the end of a block

  falls : slice_get m.insns k.here.point.at ≡ None → flows_out m.insns ≡ true → k.here.point.at ≡ length m.insns → StepIsDone b k m.waiting s (step_at Content Places b.rooms (placed_code b.plans) k (next_if k.here.point.block true))
  falls none flows last =
      let edges = (built b ok k s m).edges in
      let f = k.here.point.function in
      let block = k.here.point.block in
      let z = stands-at m.plan.function.blocks (suc k.here.point.block) (edges.follows k.here.point.block m.insns m.is_in.block flows) in
      let ends = end_transfers m.plan k.here.point.block m.insns in
      let tops = top_transfers m.plan (suc k.here.point.block) in
      let exit = exit_items (b.setting k.here.point.function) (b.behind k.here.point.function) in
      let next = items_from_point b m.plan (record { function = k.here.point.function; block = suc k.here.point.block; at = 0 }) z.one in
      let behind = subst (λ l. StandsFor b.program b.there (insns_items m.plan (b.setting k.here.point.function) k.here.point.block k.here.point.at l (items_behind b m.plan k.here.point.function k.here.point.block m.insns)) b.end m.call k.world.outer.memory is_usable k.here.store s) (drop-none m.insns k.here.point.at none) m.stands in
      let shaped = subst (λ y. StandsFor b.program b.there (items_of_transfers y ends (blocks_items m.plan (b.setting k.here.point.function) (suc k.here.point.block) (drop (suc k.here.point.block) m.plan.function.blocks) exit)) b.end m.call k.world.outer.memory is_usable k.here.store s) (same-shape b ok k s m) behind in
      let begun = subst (λ l. StandsFor b.program b.there (items_of_transfers m.call.shape ends l) b.end m.call k.world.outer.memory is_usable k.here.store s) (blocks-begin m.plan (b.setting k.here.point.function) (suc k.here.point.block) (suc k.here.point.block) z.one exit z.is) shaped in
      let can-end = subst (λ y. CanTransferAll y is_usable ends) (sym m.shape) (ends_fit m.plan (built b ok k s m).faithful k.here.point.block m.insns m.is_in.block) in
      let can-top = subst (λ y. CanTransferAll y is_usable tops) (sym m.shape) (tops_fit m.plan (built b ok k s m).faithful (suc k.here.point.block)) in
      let d = ends_are_done b.program b.there b.start (items_of_transfers (b.setting k.here.point.function).shape tops next) b.end m.call m.waiting k.world.outer k.here.store s m.is_call m.stack m.outer ends ((b.setting k.here.point.function).block_label (suc k.here.point.block)) can-end begun in
      let e = edges_are_done b.program b.there b.start next b.end m.call m.waiting k.world.outer (do_all ends k.here.store) d.to m.is_call d.stack d.outer tops can-top
      (subst (λ y. StandsFor b.program b.there (items_of_transfers y tops next) b.end m.call k.world.outer.memory is_usable (do_all ends k.here.store) d.to) (same-shape b ok k s m) d.stands) in
      let held : do_all tops (do_all ends k.here.store) ≡ do_all (edge_in (slice_get b.plans k.here.point.function) k.here.point.block (suc k.here.point.block)) k.here.store =
      sym (all-in-two ends tops k.here.store) ∙ ap (λ l. do_all l k.here.store) (edges.ends k.here.point.block m.insns m.is_in.block flows)
      ∙ ap (λ o. do_all (edge_in o k.here.point.block (suc k.here.point.block)) k.here.store) (sym m.is_in.plan) in
      let was = place-is b k.here.point m.plan m.is_in.plan in
      let is = place-is b (record { function = k.here.point.function; block = suc k.here.point.block; at = 0 }) m.plan m.is_in.plan in
      let more = count-behind m.plan.function.blocks k.here.point.block m.insns m.is_in.block in
      subst (λ n. StepIsDone b k m.waiting s (machine.Goes (config_at b ok k s m (suc k.here.point.block) 0 n k.world.outer k.world.meter))) held
      (came b ok k s m (suc k.here.point.block) 0 z.one z.is (omega arith) k.world.outer k.world.meter (record { room = refl; peak = refl }) (do_all tops (do_all ends k.here.store)) e.to e.stands e.stack e.outer
      (steps_add_up b.program s d.to e.to d.comes e.comes) (let enough = passes-end b ok k s m none in omega (arith, enough)) (inr (omega (arith, was, is, more, last))))

  pub end-step : slice_get m.insns k.here.point.at ≡ None → (left : Bool) → is_left_at m.insns k.here.point.at ≡ left → StepIsDone b k m.waiting s (step_at Content Places b.rooms (placed_code b.plans) k (next_if k.here.point.block left))
  end-step none true e =
      let h = and_parts (flows_out m.insns) (k.here.point.at == length m.insns) e in
      falls none h.0 (eqb-true k.here.point.at (length m.insns) h.1)
  end-step none false e = tt
