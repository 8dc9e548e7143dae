-- A step at a call of a function, and one at a return.
use Rattle.std.proofs.Common.{◌≡◌, ℕ, suc, ◌+◌, ◌-◌, ◌*◌, ◌≤◌, Bool, List, [], ◌∷◌, Option, Some, None, length, drop, refl, sym, ap, ◌∙◌, subst, arith, inl}
use Rattle.std.specs.Prelude.{slice_get}
use Rattle.alpha_isa.specs.Program.{word_address}
use Rattle.alpha_isa.specs.State.{State}
use Rattle.alpha_isa.specs.Step as step
use Rattle.alpha_isa.proofs.Runs.{exec_split}
use Rattle.frame_steps.specs.item_steps.Standing.{HasLabel}
use Rattle.mem_model.specs.World.{Outer, Meter, room_of, enter_call, leave_call}
use Rattle.machine_model.specs.Code.{Site, entry_point}
use Rattle.machine_model.specs.Machine as machine
use Rattle.machine_model.specs.Machine.{Frame, Config, Goes, whole_world, begin_locals, end_locals, frame_after, resume, status_ending, return_to, act_on}
use Rattle.temp_ir.specs.declared.insn.TempInsn.{TempInsn}
use Rattle.temp_ir.specs.declared.insn.TempInsn.TheVariants as i
use Rattle.alloc_model.specs.Contents.{Content}
use Rattle.alloc_model.specs.Effect.{widest_call}
use Rattle.alloc_model.specs.Temporaries.{sizes_in, result_status, is_left_at, site_or_next}
use Rattle.alloc_model.specs.Places.{Places, Plan, transfers_at, registers_at, functions_of, do_all, placed_site, placed_code}
use Rattle.frame_memory.proofs.Objects.{extents_grow}
use Rattle.frame_memory.specs.flat_frames.Shapes.{FrameShape, frame_size, objects_at}
use Rattle.frame_steps.specs.frame_transfers.Laws.{StandsFor}
use Rattle.frame_simulation.specs.stack_rooms.Items.{ItemSetting}
use Rattle.frame_simulation.specs.stack_rooms.Laws.{is_usable, HasOuter, store_behind}
use Rattle.frame_simulation.proofs.StackRooms.Runs.{no-registers}
use Rattle.frame_simulation.specs.call_steps.Stacks.{WaitingCall, StackIs}
use Rattle.frame_simulation.specs.stack_rooms.Entering.{extents_from, called_sp, called_frame, waiting_call, HasRoom, EntryIs}
use Rattle.frame_simulation.specs.call_steps.Leaving.{caller_of, resumed_places, ExitIs}
use Rattle.frame_simulation.specs.stack_rooms.Rooms.{frames_size}
use Rattle.frame_simulation.proofs.StackRooms.Rooms.{frames_fill_stack, room_is_there}
use Rattle.frame_simulation.proofs.CallSteps.Calls.{calls_are_done, returns_are_done, last_returns_are_done}
use Rattle.frame_simulation.specs.edge_shapes.Items.{end_transfers, blocks_items, exit_items}
use Rattle.frame_simulation.specs.edge_shapes.Shapes.{shape_of}
use Rattle.frame_simulation.proofs.EdgeShapes.FunctionShapesFits.{plans_fit}
use Rattle.frame_simulation.specs.flat_steps.Builds.{Build, BuildStands}
use Rattle.frame_simulation.specs.flat_steps.Matching.{items_from_point, WaitsFor, AreWaiting, total_rooms, Matches, program_end, waiting_steps, passes_left, steps_left, FitsStack, StepIsDone}
use Rattle.frame_simulation.proofs.FlatSteps.Lists.{get-below, stands-at, get-map, insn-is, width-fits}
use Rattle.frame_simulation.proofs.FlatSteps.Points.{site-is}
use Rattle.frame_simulation.proofs.FlatSteps.Meters.{IsMetered, rooms-hold, small-frame}
use Rattle.frame_simulation.proofs.FlatSteps.Paid.{passes-most, has-transfers, has-insns, has-blocks, into, out, pc-within, over-soon}
use Rattle.frame_simulation.proofs.FlatSteps.Matched.{items_behind, built, same-shape, few, is-insn, may, stated_here, rest, stands-plain}

-- the frames of calls hold that of the first one
frames-hold : (s : FrameShape) (gs : List WaitingCall) → frame_size s ≤ frames_size s gs
frames-hold s [] = omega arith
frames-hold s (g ∷ gs) = omega arith

module _ (b : Build) (ok : BuildStands b) (k : Config Places) (s : State) (m : Matches b k s) where
  -- what stands there
  abbrev site : TempInsn → Site Content Places
  site x = placed_site (widest_call m.plan.function.blocks) (transfers_at m.plan k.here.point.block k.here.point.at) (registers_at m.plan k.here.point.block k.here.point.at) x

  abbrev held : Places
  held = do_all (transfers_at m.plan k.here.point.block k.here.point.at) k.here.store

  -- ---- a call

  module _ (function arguments : ℕ) (there : slice_get m.insns k.here.point.at ≡ Some (i.Call function arguments)) (a : Plan) (is : slice_get b.plans function ≡ Some a) (t : Meter) (metered : IsMetered k.world.meter t) (enough : suc (suc t.turns) ≤ passes_left b k) where
    abbrev f : ItemSetting
    f = b.setting function

    abbrev contents : List Content
    contents = (site (i.Call function arguments)).fetch k.here.store

    -- the config behind the call
    abbrev inside : Config Places
    inside = record {
      here = record { point = entry_point function; own = length k.world.outer.memory; store = (placed_code b.plans).entry function contents };
      callers = k.here ∷ k.callers;
      world = whole_world (begin_locals k.world.outer (sizes_in (slice_get (functions_of b.plans) function))) (enter_call b.rooms function t);
    }

    sizes-are : f.shape.sizes ≡ sizes_in (slice_get (functions_of b.plans) function)
    sizes-are = ap (λ (z : FrameShape). z.sizes) (ok.functions function a is).shape ∙ ap sizes_in (sym (get-map (λ (z : Plan). z.function) b.plans function a is))

    room : FitsStack b (Goes inside) → HasRoom b.program m.call f.shape
    room fits =
        let callee = ok.functions function a is in
        let same = callee.shape in
        let small = callee.small in
        let own = callee.room in
        let hold = rooms-hold b ok k.here m.plan m.insns m.call.shape k.callers m.waiting m.is_in m.shape m.waits in
        let sum = m.room in
        let turn = metered.room in
        let here = small-frame b ok k.here.point m.plan m.insns m.call.shape m.is_in m.shape in
        subst (λ z. HasRoom b.program m.call z) (sym callee.shape)
        (room_is_there b.program b.there b.start m.call m.waiting k.here.store s (shape_of a) m.stack (omega (arith, own, hold, sum, turn, fits)) (omega (arith, small, here)))

    narrow : arguments ≤ m.call.shape.outgoing + 6
    narrow =
        let width = width-fits m.plan.function.blocks k.here.point.block k.here.point.at m.insns (i.Call function arguments) m.is_in.block there in
        let fit = few b ok k s m in
        omega (arith, width, fit)

    matched-inside : (insns : List TempInsn) → slice_get a.function.blocks 0 ≡ Some insns → (d : EntryIs b.program b.there b.start (items_from_point b a (entry_point function) insns) b.end m.call (called_frame m.call f.shape (length k.world.outer.memory)) m.waiting k.world.outer held ((placed_code b.plans).entry function contents) (rest b ok k s m (i.Call function arguments) there) b.end s) → Matches b inside d.to
    matched-inside insns first d =
        let turn = metered.room in
        let sum = m.room in
        record {
          call = called_frame m.call f.shape (length k.world.outer.memory);
          waiting = waiting_call m.call held (rest b ok k s m (i.Call function arguments) there) d.next b.end ∷ m.waiting;
          plan = a;
          insns = insns;
          is_in = record { plan = is; block = first; within = omega arith };
          shape = (ok.functions function a is).shape;
          own = refl;
          is_call = d.is_call;
          globals = λ n e there-is. extents_grow m.call.extents (extents_from (called_sp m.call f.shape + objects_at f.shape) f.shape.sizes) n e (m.globals n e there-is);
          stands = subst (λ l. StandsFor b.program b.there (items_from_point b a (entry_point function) insns) b.end (called_frame m.call f.shape (length k.world.outer.memory)) (begin_locals k.world.outer l).memory is_usable ((placed_code b.plans).entry function contents) d.to) sizes-are d.stands;
          stack = d.stack;
          outer = subst (λ l. HasOuter (begin_locals k.world.outer l) d.to) sizes-are d.outer;
          waits = (
            record {
              plan = m.plan;
              insns = m.insns;
              is_in = m.is_in;
              function = function;
              arguments = arguments;
              stands = there;
              shape = m.shape;
              own = m.own;
              held = refl;
              behind = refl;
              end = refl;
            },
            m.waits,
          );
          room = (let e : t.room + room_of b.rooms function ≡ room_of b.rooms function + total_rooms b.rooms (k.here ∷ k.callers) = omega (arith, turn, sum) in e);
          peak = omega arith;
        }

    entering : FitsStack b (Goes inside) → StepIsDone b k m.waiting s (Goes inside)
    unfolding matched-inside
    entering fits =
        let callee = ok.functions function a is in
        let first = stands-at a.function.blocks 0 callee.edges.entry in
        let rs = registers_at m.plan k.here.point.block k.here.point.at in
        let none = no-registers rs (stated_here b ok k s m (i.Call function arguments) there).count in
        let d = calls_are_done b.program b.there b.start (b.setting k.here.point.function) (rest b ok k s m (i.Call function arguments) there) b.end m.call m.waiting k.world.outer k.here.store s m.is_call m.stack m.outer (transfers_at m.plan k.here.point.block k.here.point.at) (may b ok k s m (i.Call function arguments) there) (widest_call m.plan.function.blocks) function arguments rs none narrow a (b.setting function) (b.behind function) b.end callee.stands first.one first.is callee.edges.first (room fits) (stands-plain b ok k s m (i.Call function arguments) there refl) in
        let some = d.some in
        let few = passes-most b inside in
        record {
          to = d.to;
          comes = record {
            steps = d.leaves.steps + d.comes.steps;
            run = exec_split b.program d.leaves.steps d.comes.steps s ∙ ap (λ q. step.go_on q (step.exec b.program d.comes.steps)) d.leaves.run ∙ d.comes.run;
          };
          matches = matched-inside first.one first.is d;
          soon = into d.leaves.steps d.comes.steps s.pc d.next d.left.pc d.to.pc (length b.program.words) (waiting_steps b m.waiting) (passes_left b inside) (passes_left b k) d.leaves.paid d.within d.comes.paid (pc-within b ok inside d.to (matched-inside first.one first.is d)) d.begins (omega (arith, few, enough));
          moves = inl (omega (arith, some));
        }

  pub call-step : (function arguments : ℕ) (there : slice_get m.insns k.here.point.at ≡ Some (i.Call function arguments)) (t : Meter) → IsMetered k.world.meter t → suc (suc t.turns) ≤ passes_left b k → FitsStack b (act_on Content Places b.rooms (placed_code b.plans) k t (site (i.Call function arguments)) ((site (i.Call function arguments)).does k.here.own ((site (i.Call function arguments)).fetch k.here.store) k.world.outer)) → StepIsDone b k m.waiting s (act_on Content Places b.rooms (placed_code b.plans) k t (site (i.Call function arguments)) ((site (i.Call function arguments)).does k.here.own ((site (i.Call function arguments)).fetch k.here.store) k.world.outer))
  call-step function arguments there t metered enough fits =
      let z = stands-at b.plans function ((built b ok k s m).calls k.here.point.block k.here.point.at function arguments (is-insn b ok k s m (i.Call function arguments) there)) in
      entering function arguments there z.one z.is t metered enough fits

  -- ---- a return

  module _ (with_value : Bool) (there : slice_get m.insns k.here.point.at ≡ Some (i.Return with_value)) (t : Meter) (metered : IsMetered k.world.meter t) (enough : suc t.turns ≤ passes_left b k) where
    exit-behind : HasLabel (b.setting k.here.point.function).exit_label (rest b ok k s m (i.Return with_value) there)
    exit-behind = has-insns (b.setting k.here.point.function).exit_label m.plan (b.setting k.here.point.function) k.here.point.block (suc k.here.point.at) (drop (suc k.here.point.at) m.insns) (items_behind b m.plan k.here.point.function k.here.point.block m.insns)
        (has-transfers (b.setting k.here.point.function).exit_label (b.setting k.here.point.function).shape (end_transfers m.plan k.here.point.block m.insns) (blocks_items m.plan (b.setting k.here.point.function) (suc k.here.point.block) (drop (suc k.here.point.block) m.plan.function.blocks) (exit_items (b.setting k.here.point.function) (b.behind k.here.point.function)))
        (has-blocks (b.setting k.here.point.function).exit_label m.plan (b.setting k.here.point.function) (suc k.here.point.block) (drop (suc k.here.point.block) m.plan.function.blocks) (exit_items (b.setting k.here.point.function) (b.behind k.here.point.function)) (inl refl)))

    abbrev returned : List Content
    returned = (site (i.Return with_value)).fetch k.here.store

    -- the outer part behind it
    abbrev outer-behind : Outer
    outer-behind = end_locals k.world.outer k.here.own (length ((placed_code b.plans).locals k.here.point.function))

    abbrev meter-behind : Meter
    meter-behind = leave_call b.rooms k.here.point.function t

    sizes-there : m.call.shape.sizes ≡ (placed_code b.plans).locals k.here.point.function
    sizes-there = ap (λ (z : FrameShape). z.sizes) m.shape ∙ ap sizes_in (sym (get-map (λ (z : Plan). z.function) b.plans k.here.point.function m.plan m.is_in.plan))

    -- what the law of returns says of the outer part
    same-outer : end_locals k.world.outer m.call.own (length m.call.shape.sizes) ≡ outer-behind
    same-outer = ap (λ n. end_locals k.world.outer n (length m.call.shape.sizes)) m.own ∙ ap (λ l. end_locals k.world.outer k.here.own (length l)) sizes-there

    empty-registers : registers_at m.plan k.here.point.block k.here.point.at ≡ []
    empty-registers = no-registers (registers_at m.plan k.here.point.block k.here.point.at) (stated_here b ok k s m (i.Return with_value) there).count

    last : m.waiting ≡ [] → (o : Option ℕ) → result_status returned ≡ o → StepIsDone b k m.waiting s (machine.Over (status_ending Content Places b.rooms (placed_code b.plans) ((placed_code b.plans).number k.here.point) (whole_world outer-behind meter-behind) o))
    last alone None e = tt
    last alone (Some status) e =
        let stack = subst (λ gs. StackIs b.program b.there b.start m.call gs k.here.store s) alone m.stack in
        let d = last_returns_are_done b.program b.there b.start (b.setting k.here.point.function) (rest b ok k s m (i.Return with_value) there) b.end m.call k.world.outer k.here.store s m.is_call (same-shape b ok k s m) stack m.outer ok.ending (transfers_at m.plan k.here.point.block k.here.point.at) (may b ok k s m (i.Return with_value) there) (widest_call m.plan.function.blocks) k.here.point.function status with_value (registers_at m.plan k.here.point.block k.here.point.at) empty-registers m.plan (b.behind k.here.point.function) b.end (built b ok k s m).stands exit-behind e (stands-plain b ok k s m (i.Return with_value) there refl) in
        over-soon b ok k s m outer-behind (step.Done status) (omega (arith, enough)) (record { steps = d.steps; last = d.last; run = d.run; paid = d.paid; output = d.output })

    -- to a call that waits
    module _ (fr : Frame Places) (fs : List (Frame Places)) (w : WaitingCall) (gs : List WaitingCall) (callers : k.callers ≡ fr ∷ fs) (waiting : m.waiting ≡ w ∷ gs) (h : WaitsFor b fr w) (above : AreWaiting b fs gs) where
      abbrev caller-site : Site Content Places
      caller-site = placed_site (widest_call h.plan.function.blocks) (transfers_at h.plan fr.point.block fr.point.at) (registers_at h.plan fr.point.block fr.point.at) (i.Call h.function h.arguments)

      abbrev outside : Config Places
      outside = record {
        here = frame_after Content Places b.rooms (placed_code b.plans) caller-site returned fr;
        callers = fs;
        world = whole_world outer-behind meter-behind;
      }

      caller-registers : registers_at h.plan fr.point.block fr.point.at ≡ []
      caller-registers = no-registers (registers_at h.plan fr.point.block fr.point.at) ((plans_fit h.plan (ok.functions fr.point.function h.plan h.is_in.plan).faithful.lists).points fr.point.block fr.point.at (i.Call h.function h.arguments) (insn-is h.plan.function.blocks fr.point.block fr.point.at h.insns (i.Call h.function h.arguments) h.is_in.block h.stands)).stated.count

      -- what it holds then
      same-store : resumed_places h.function h.arguments w returned ≡ caller-site.put returned fr.store
      same-store =
          ap (λ z. store_behind [] (i.Call h.function h.arguments) z returned) h.held
          ∙ ap (λ rs. store_behind rs (i.Call h.function h.arguments) (do_all (transfers_at h.plan fr.point.block fr.point.at) fr.store) returned) (sym caller-registers)

      stack-here : StackIs b.program b.there b.start m.call (w ∷ gs) k.here.store s
      stack-here = subst (λ l. StackIs b.program b.there b.start m.call l k.here.store s) waiting m.stack

      matched-outside : (d : ExitIs b.program b.there b.start w gs (caller_of m.call (length gs) w) (end_locals k.world.outer m.call.own (length m.call.shape.sizes)) (resumed_places h.function h.arguments w returned) s) → Matches b outside d.to
      matched-outside d =
          let below = get-below h.insns fr.point.at (i.Call h.function h.arguments) h.stands in
          let fill = frames_fill_stack b.program b.there b.start (caller_of m.call (length gs) w) gs (resumed_places h.function h.arguments w returned) d.to d.stack in
          let least = frames-hold w.shape gs in
          let small = small-frame b ok fr.point h.plan h.insns w.shape h.is_in h.shape in
          let top = ok.top in
          let turn = metered.room in
          let same = metered.peak in
          let peak = m.peak in
          let sum = m.room ∙ ap (λ l. room_of b.rooms k.here.point.function + total_rooms b.rooms l) callers in
          record {
            call = caller_of m.call (length gs) w;
            waiting = gs;
            plan = h.plan;
            insns = h.insns;
            is_in = record { plan = h.is_in.plan; block = h.is_in.block; within = omega (arith, below) };
            shape = h.shape;
            own = h.own;
            is_call = record { small = omega (arith, fill, least, top); near = omega (arith, small) };
            globals = m.globals;
            stands = subst (λ o. StandsFor b.program b.there (items_from_point b h.plan (record fr.point { at = suc fr.point.at }) h.insns) b.end (caller_of m.call (length gs) w) o.memory is_usable (caller-site.put returned fr.store) d.to) same-outer
                (subst (λ z. StandsFor b.program b.there (items_from_point b h.plan (record fr.point { at = suc fr.point.at }) h.insns) b.end (caller_of m.call (length gs) w) (end_locals k.world.outer m.call.own (length m.call.shape.sizes)).memory is_usable z d.to) same-store
                (subst (λ n. StandsFor b.program b.there (items_from_point b h.plan (record fr.point { at = suc fr.point.at }) h.insns) n (caller_of m.call (length gs) w) (end_locals k.world.outer m.call.own (length m.call.shape.sizes)).memory is_usable (resumed_places h.function h.arguments w returned) d.to) h.end
                (subst (λ l. StandsFor b.program b.there l w.end (caller_of m.call (length gs) w) (end_locals k.world.outer m.call.own (length m.call.shape.sizes)).memory is_usable (resumed_places h.function h.arguments w returned) d.to) h.behind d.stands)));
            stack = subst (λ z. StackIs b.program b.there b.start (caller_of m.call (length gs) w) gs z d.to) same-store d.stack;
            outer = subst (λ o. HasOuter o d.to) same-outer d.outer;
            waits = above;
            room = (let e : t.room - room_of b.rooms k.here.point.function ≡ total_rooms b.rooms (fr ∷ fs) = omega (arith, turn, sum) in e);
            peak = omega (arith, turn, same, peak);
          }

      leaving : StepIsDone b k m.waiting s (Goes outside)
      unfolding matched-outside
      leaving =
          let d = returns_are_done b.program b.there b.start (b.setting k.here.point.function) (rest b ok k s m (i.Return with_value) there) b.end m.call w gs k.world.outer k.here.store s m.is_call (same-shape b ok k s m) stack-here m.outer (transfers_at m.plan k.here.point.block k.here.point.at) (may b ok k s m (i.Return with_value) there) (widest_call m.plan.function.blocks) h.function h.arguments k.here.point.function with_value (registers_at m.plan k.here.point.block k.here.point.at) empty-registers m.plan (b.behind k.here.point.function) b.end (built b ok k s m).stands exit-behind (stands-plain b ok k s m (i.Return with_value) there refl) in
          let few = passes-most b outside in
          record {
            to = d.to;
            comes = record { steps = d.comes.steps; run = d.comes.run };
            matches = matched-outside d;
            soon = subst (λ ws. 4 * d.comes.steps + steps_left b outside gs d.to ≤ steps_left b k ws s) (sym waiting)
                (subst (λ n. 4 * d.comes.steps + (600 * (program_end b - n) + waiting_steps b gs + 2400 * length b.program.words * passes_left b outside + 7200) ≤ steps_left b k (w ∷ gs) s) (sym (d.at_place))
                (out d.comes.steps s.pc (program_end b) (word_address w.place) (waiting_steps b gs) (2400 * length b.program.words) (passes_left b outside) (passes_left b k) d.comes.paid (omega (arith, few, enough))));
            moves = inl d.some;
          }

      resuming : StepIsDone b k m.waiting s (resume Content Places b.rooms (placed_code b.plans) fr fs (whole_world outer-behind meter-behind) returned ((placed_code b.plans).site fr.point))
      resuming =
          let is = site-is b fr.point h.plan h.insns h.is_in ∙ ap (site_or_next (placed_site (widest_call h.plan.function.blocks) (transfers_at h.plan fr.point.block fr.point.at) (registers_at h.plan fr.point.block fr.point.at)) fr.point.block (is_left_at h.insns fr.point.at)) h.stands in
          subst (λ o. StepIsDone b k m.waiting s (resume Content Places b.rooms (placed_code b.plans) fr fs (whole_world outer-behind meter-behind) returned o)) (sym is) leaving

    returning : (fs : List (Frame Places)) (gs : List WaitingCall) → k.callers ≡ fs → m.waiting ≡ gs → AreWaiting b fs gs → StepIsDone b k m.waiting s (return_to Content Places b.rooms (placed_code b.plans) ((placed_code b.plans).number k.here.point) returned (whole_world outer-behind meter-behind) fs)
    returning [] [] callers waiting h = last waiting (result_status returned) refl
    returning (fr ∷ fs) (w ∷ gs) callers waiting h = resuming fr fs w gs callers waiting h.0 h.1
    returning [] (w ∷ gs) callers waiting h = absurd h
    returning (fr ∷ fs) [] callers waiting h = absurd h

  pub return-step : (with_value : Bool) (there : slice_get m.insns k.here.point.at ≡ Some (i.Return with_value)) (t : Meter) → IsMetered k.world.meter t → suc t.turns ≤ passes_left b k → StepIsDone b k m.waiting s (act_on Content Places b.rooms (placed_code b.plans) k t (site (i.Return with_value)) ((site (i.Return with_value)).does k.here.own ((site (i.Return with_value)).fetch k.here.store) k.world.outer))
  return-step with_value there t metered enough = returning with_value there t metered enough k.callers m.waiting refl refl m.waits
