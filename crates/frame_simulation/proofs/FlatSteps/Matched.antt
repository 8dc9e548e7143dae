-- What holds where the machine stands for a run, and how it stands for the next place of the run.
use Rattle.std.proofs.Common.{◌≡◌, ℕ, suc, ◌+◌, ◌-◌, ◌*◌, ◌<◌, ◌≤◌, ◌⊎◌, List, [], ◌++◌, Some, length, drop, refl, sym, ap, ◌∙◌, subst, arith, inl, inr}
use Rattle.std.specs.Prelude.{slice_get}
use Rattle.alpha_isa.specs.State.{State}
use Rattle.alpha_items.specs.declared.item.AsmItem.{AsmItem}
use Rattle.alpha_isa.specs.Step as step
use Rattle.alpha_isa.proofs.Runs.{exec_split}
use Rattle.frame_steps.specs.item_steps.Standing.{HasLabel}
use Rattle.frame_steps.specs.item_steps.Steps.{Comes}
use Rattle.frame_steps.proofs.ItemSteps.Standing.{ahead}
use Rattle.mem_model.specs.World.{Outer, Meter}
use Rattle.machine_model.specs.Machine.{Config, whole_world}
use Rattle.pass_core.specs.Functions.{insn_at}
use Rattle.temp_ir.specs.declared.insn.TempInsn.{TempInsn}
use Rattle.temp_ir.specs.declared.insn.TempInsn.TheVariants as i
use Rattle.temp_ir.specs.Insns.{targets_of}
use Rattle.alloc_model.specs.Effect.{widest_call}
use Rattle.alloc_model.specs.Places.{Places, Plan, transfers_at, registers_at, do_all}
use Rattle.frame_steps.specs.frame_transfers.Items.{items_of_transfers}
use Rattle.frame_steps.specs.frame_transfers.Laws.{StandsFor, CanTransferAll}
use Rattle.frame_simulation.specs.stack_rooms.Items.{insn_items}
use Rattle.frame_simulation.specs.stack_rooms.Laws.{is_usable, IsStated, HasOuter}
use Rattle.frame_simulation.specs.call_steps.Stacks.{StackIs}
use Rattle.frame_simulation.specs.edge_shapes.Points.{AllMayTransfer, PointIsPassed, PointIsLeft}
use Rattle.frame_simulation.proofs.CallSteps.Edges.{edges_are_done}
use Rattle.frame_simulation.specs.edge_shapes.Items.{top_transfers, jump_transfers, end_transfers, point_items, insns_items, block_items, blocks_items, exit_items}
use Rattle.frame_simulation.specs.edge_shapes.Shapes.{PlanFits}
use Rattle.frame_simulation.proofs.EdgeShapes.FunctionShapesFits.{plans_fit}
use Rattle.frame_simulation.proofs.EdgeShapes.Tops.{tops_fit}
use Rattle.frame_simulation.specs.flat_steps.Builds.{Build, FunctionIsBuilt, BuildStands}
use Rattle.frame_simulation.specs.flat_steps.Matching.{items_from_point, Matches, program_end, waiting_steps, passes_at, insn_of_plan, passes_left, steps_left, point_place, GetsTo, IsFollowed}
use Rattle.frame_simulation.proofs.FlatSteps.Lists.{drop-some, stands-at, insn-is}
use Rattle.frame_simulation.proofs.FlatSteps.Meters.{IsMetered}
use Rattle.frame_simulation.proofs.FlatSteps.Paid.{passes-most, has-transfers, has-insns, block-among, get-drop, back, pc-within, followed}

-- the items behind the instructions of a block
abbrev pub items_behind : Build → Plan → (function block : ℕ) → List TempInsn → List AsmItem
items_behind b a f block insns =
    items_of_transfers (b.setting f).shape (end_transfers a block insns)
    (blocks_items a (b.setting f) (suc block) (drop (suc block) a.function.blocks) (exit_items (b.setting f) (b.behind f)))

module _ (b : Build) (ok : BuildStands b) (k : Config Places) (s : State) (m : Matches b k s) where
  pub built : FunctionIsBuilt b k.here.point.function m.plan
  built = ok.functions k.here.point.function m.plan m.is_in.plan

  pub same-shape : (b.setting k.here.point.function).shape ≡ m.call.shape
  same-shape = built.shape ∙ sym m.shape

  plan-fits : PlanFits m.plan
  plan-fits = plans_fit m.plan built.faithful.lists

  pub few : widest_call m.plan.function.blocks ≤ m.call.shape.outgoing + 6
  few = subst (λ z. widest_call m.plan.function.blocks ≤ z.outgoing + 6) (sym m.shape) plan-fits.widest

  -- ---- at an instruction

  module _ (x : TempInsn) (there : slice_get m.insns k.here.point.at ≡ Some x) where
    pub is-insn : insn_at m.plan.function.blocks k.here.point.block k.here.point.at ≡ Some x
    is-insn = insn-is m.plan.function.blocks k.here.point.block k.here.point.at m.insns x m.is_in.block there

    pub may : AllMayTransfer m.call.shape (transfers_at m.plan k.here.point.block k.here.point.at)
    may = subst (λ z. AllMayTransfer z (transfers_at m.plan k.here.point.block k.here.point.at)) (sym m.shape) (plan-fits.points k.here.point.block k.here.point.at x is-insn).transfers

    pub stated_here : IsStated m.call.shape (registers_at m.plan k.here.point.block k.here.point.at) x
    stated_here = subst (λ z. IsStated z (registers_at m.plan k.here.point.block k.here.point.at) x) (sym m.shape) (plan-fits.points k.here.point.block k.here.point.at x is-insn).stated

    -- the items of the instructions behind it
    abbrev pub rest : List AsmItem
    rest = insns_items m.plan (b.setting k.here.point.function) k.here.point.block (suc k.here.point.at) (drop (suc k.here.point.at) m.insns) (items_behind b m.plan k.here.point.function k.here.point.block m.insns)

    pub stands-point : StandsFor b.program b.there (point_items m.plan (b.setting k.here.point.function) k.here.point.block k.here.point.at x rest) b.end m.call k.world.outer.memory is_usable k.here.store s
    stands-point = subst (λ l. StandsFor b.program b.there (insns_items m.plan (b.setting k.here.point.function) k.here.point.block k.here.point.at l (items_behind b m.plan k.here.point.function k.here.point.block m.insns)) b.end m.call k.world.outer.memory is_usable k.here.store s) (drop-some m.insns k.here.point.at x there) m.stands

    -- where no transfers of a jump stand before it
    pub stands-plain : jump_transfers m.plan k.here.point.block x ≡ [] → StandsFor b.program b.there (items_of_transfers m.call.shape (transfers_at m.plan k.here.point.block k.here.point.at) (insn_items (b.setting k.here.point.function) (registers_at m.plan k.here.point.block k.here.point.at) x ++ rest)) b.end m.call k.world.outer.memory is_usable k.here.store s
    stands-plain none =
        subst (λ z. StandsFor b.program b.there (items_of_transfers z (transfers_at m.plan k.here.point.block k.here.point.at) (insn_items (b.setting k.here.point.function) (registers_at m.plan k.here.point.block k.here.point.at) x ++ rest)) b.end m.call k.world.outer.memory is_usable k.here.store s) same-shape
        (subst (λ l. StandsFor b.program b.there (items_of_transfers (b.setting k.here.point.function).shape (transfers_at m.plan k.here.point.block k.here.point.at) (items_of_transfers (b.setting k.here.point.function).shape l (insn_items (b.setting k.here.point.function) (registers_at m.plan k.here.point.block k.here.point.at) x ++ rest))) b.end m.call k.world.outer.memory is_usable k.here.store s) none stands-point)

  -- ---- the next place

  abbrev pub config_at : (block at : ℕ) → Places → Outer → Meter → Config Places
  config_at block at held o t = record {
    here = record { point = record { function = k.here.point.function; block = block; at = at }; own = k.here.own; store = held };
    callers = k.callers;
    world = whole_world o t;
  }

  pub match-at : (block at : ℕ) (insns : List TempInsn) → slice_get m.plan.function.blocks block ≡ Some insns → at ≤ length insns → (o : Outer) (t : Meter) → IsMetered k.world.meter t → (held : Places) (to : State) → StandsFor b.program b.there (items_from_point b m.plan (record { function = k.here.point.function; block = block; at = at }) insns) b.end m.call o.memory is_usable held to → StackIs b.program b.there b.start m.call m.waiting held to → HasOuter o to → Matches b (config_at block at held o t) to
  match-at block at insns there within o t metered held to stands stack outer = record {
    call = m.call;
    waiting = m.waiting;
    plan = m.plan;
    insns = insns;
    is_in = record { plan = m.is_in.plan; block = there; within = within };
    shape = m.shape;
    own = m.own;
    is_call = m.is_call;
    globals = m.globals;
    stands = stands;
    stack = stack;
    outer = outer;
    waits = m.waits;
    room = metered.room ∙ m.room;
    peak = subst (λ n. n ≤ t.peak) (sym metered.room) (subst (λ n. k.world.meter.room ≤ n) (sym metered.peak) m.peak);
  }

  -- along words
  pub came : (block at : ℕ) (insns : List TempInsn) → slice_get m.plan.function.blocks block ≡ Some insns → at ≤ length insns → (o : Outer) (t : Meter) → IsMetered k.world.meter t → (held : Places) (to : State) → StandsFor b.program b.there (items_from_point b m.plan (record { function = k.here.point.function; block = block; at = at }) insns) b.end m.call o.memory is_usable held to → StackIs b.program b.there b.start m.call m.waiting held to → HasOuter o to → (c : Comes b.program s to) → suc t.turns ≤ passes_left b k → (1 ≤ c.steps) ⊎ (point_place b (record { function = k.here.point.function; block = block; at = at }) ≡ suc (point_place b k.here.point)) → IsFollowed b k (config_at block at held o t) m.waiting s
  unfolding match-at
  came block at insns there within o t metered held to stands stack outer c enough moves =
      let few = passes-most b (config_at block at held o t) in
      followed b ok k (config_at block at held o t) m.waiting s to c (match-at block at insns there within o t metered held to stands stack outer) refl (omega (arith, few, enough)) moves

  -- to a block before
  came-back : (block : ℕ) (insns : List TempInsn) → slice_get m.plan.function.blocks block ≡ Some insns → (o : Outer) (t : Meter) → IsMetered k.world.meter t → (held : Places) (to : State) → StandsFor b.program b.there (items_from_point b m.plan (record { function = k.here.point.function; block = block; at = 0 }) insns) b.end m.call o.memory is_usable held to → StackIs b.program b.there b.start m.call m.waiting held to → HasOuter o to → (c : GetsTo b.program s to) → 1 ≤ c.steps → (to.pc ≤ program_end b → 4 * c.steps + steps_left b (config_at block 0 held o t) m.waiting to ≤ steps_left b k m.waiting s) → IsFollowed b k (config_at block 0 held o t) m.waiting s
  unfolding match-at
  came-back block insns there o t metered held to stands stack outer c some soon =
      let z = match-at block 0 insns there (omega arith) o t metered held to stands stack outer in
      record { to = to; comes = c; matches = z; soon = soon (pc-within b ok (config_at block 0 held o t) to z); moves = inl some }

  -- from the label of a block the machine comes to its first instruction
  pub entered_block : (x : TempInsn) (there : slice_get m.insns k.here.point.at ≡ Some x) (n block : ℕ) → slice_get (targets_of x) n ≡ Some block → (o : Outer) (t : Meter) → IsMetered k.world.meter t → suc t.turns ≤ passes_left b k → (held new : Places) → do_all (top_transfers m.plan block) held ≡ new → PointIsLeft b.program b.there b.start (rest x there) b.end ((b.setting k.here.point.function).block_label block) m.call m.waiting o held s → IsFollowed b k (config_at block 0 new o t) m.waiting s
  entered_block x there n block leads o t metered enough held new is h =
      let below = built.edges.targets k.here.point.block k.here.point.at x (is-insn x there) n block leads in
      let z = stands-at m.plan.function.blocks block below in
      let can = subst (λ y. CanTransferAll y is_usable (top_transfers m.plan block)) (sym m.shape) (tops_fit m.plan built.faithful block) in
      let at = h.stands (block_items m.plan (b.setting k.here.point.function) block z.one (blocks_items m.plan (b.setting k.here.point.function) (suc block) (drop (suc block) m.plan.function.blocks) (exit_items (b.setting k.here.point.function) (b.behind k.here.point.function)))) b.end (built.stands.blocks block z.one z.is) in
      let d = edges_are_done b.program b.there b.start (items_from_point b m.plan (record { function = k.here.point.function; block = block; at = 0 }) z.one) b.end m.call m.waiting o held h.to m.is_call h.stack h.outer (top_transfers m.plan block) can
      (subst (λ y. StandsFor b.program b.there (items_of_transfers y (top_transfers m.plan block) (items_from_point b m.plan (record { function = k.here.point.function; block = block; at = 0 }) z.one)) b.end m.call o.memory is_usable held h.to) same-shape at) in
      subst (λ l. IsFollowed b k (config_at block 0 l o t) m.waiting s) is
      (by_order z.one z.is d (built.edges.marks k.here.point.block k.here.point.at x (is-insn x there) n block leads))
    where
      label : ℕ
      label = (b.setting k.here.point.function).block_label block

      by_order : (insns : List TempInsn) → slice_get m.plan.function.blocks block ≡ Some insns → PointIsPassed b.program b.there b.start (items_from_point b m.plan (record { function = k.here.point.function; block = block; at = 0 }) insns) b.end m.call m.waiting o (do_all (top_transfers m.plan block) held) h.to → (k.here.point.block < block) ⊎ (insn_at m.plan.function.blocks block 0 ≡ Some i.Mark) → IsFollowed b k (config_at block 0 (do_all (top_transfers m.plan block) held) o t) m.waiting s
      by_order insns stands-there d (inl later) =
          let g = b.setting k.here.point.function in
          let first = suc k.here.point.block in
          let exit = exit_items (b.setting k.here.point.function) (b.behind k.here.point.function) in
          let sum : suc k.here.point.block + (block - suc k.here.point.block) ≡ block = omega (arith, later) in
          let got = get-drop m.plan.function.blocks (suc k.here.point.block) (block - suc k.here.point.block) ∙ ap (slice_get m.plan.function.blocks) sum ∙ stands-there in
          let among = subst (λ j. HasLabel ((b.setting k.here.point.function).block_label j) (blocks_items m.plan (b.setting k.here.point.function) (suc k.here.point.block) (drop (suc k.here.point.block) m.plan.function.blocks) exit)) sum
          (block-among m.plan (b.setting k.here.point.function) (suc k.here.point.block) (block - suc k.here.point.block) (drop (suc k.here.point.block) m.plan.function.blocks) insns exit got) in
          let has = has-insns ((b.setting k.here.point.function).block_label block) m.plan (b.setting k.here.point.function) k.here.point.block (suc k.here.point.at) (drop (suc k.here.point.at) m.insns) (items_behind b m.plan k.here.point.function k.here.point.block m.insns)
          (has-transfers ((b.setting k.here.point.function).block_label block) (b.setting k.here.point.function).shape (end_transfers m.plan k.here.point.block m.insns) (blocks_items m.plan (b.setting k.here.point.function) (suc k.here.point.block) (drop (suc k.here.point.block) m.plan.function.blocks) exit) among) in
          let forward = ahead b.program b.there ((b.setting k.here.point.function).block_label block) (rest x there) h.next b.end h.behind has in
          let pc = h.pc in
          let left = h.comes.paid in
          let top = d.comes.paid in
          let some = h.some in
          came block 0 insns stands-there (omega arith) o t metered (do_all (top_transfers m.plan block) held) d.to d.stands d.stack d.outer
          (record {
            steps = h.comes.steps + d.comes.steps;
            run = exec_split b.program h.comes.steps d.comes.steps s ∙ ap (λ q. step.go_on q (step.exec b.program d.comes.steps)) h.comes.run ∙ d.comes.run;
            paid = omega (arith, left, top, forward, pc);
          })
          enough (inl (omega (arith, some)))
      by_order insns stands-there d (inr mark) =
          let pc = h.pc in
          let some = h.some in
          let turns : passes_left b (config_at block 0 (do_all (top_transfers m.plan block) held) o t) ≡ t.turns =
          ap (λ q. passes_at (insn_of_plan q (record { function = k.here.point.function; block = block; at = 0 })) t.turns) m.is_in.plan ∙ ap (λ q. passes_at q t.turns) mark in
          came-back block insns stands-there o t metered (do_all (top_transfers m.plan block) held) d.to d.stands d.stack d.outer
          (record {
            steps = h.comes.steps + d.comes.steps;
            run = exec_split b.program h.comes.steps d.comes.steps s ∙ ap (λ q. step.go_on q (step.exec b.program d.comes.steps)) h.comes.run ∙ d.comes.run;
          })
          (omega (arith, some))
          (λ within. subst (λ q. 4 * (h.comes.steps + d.comes.steps) + (600 * (program_end b - d.to.pc) + waiting_steps b m.waiting + 2400 * length b.program.words * q + 7200) ≤ steps_left b k m.waiting s) (sym turns)
          (back h.comes.steps d.comes.steps s.pc h.next h.to.pc d.to.pc (length b.program.words) (waiting_steps b m.waiting) t.turns (passes_left b k) h.comes.paid h.within d.comes.paid within (omega (arith, pc)) enough))
