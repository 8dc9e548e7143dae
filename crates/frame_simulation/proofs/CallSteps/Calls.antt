-- Calls and returns, with the transfers before them.
use Rattle.std.proofs.Common.{◌≡◌, ℕ, ◌+◌, ◌*◌, ◌≤◌, Bool, List, [], ◌∷◌, ◌++◌, map, length, drop, Some, refl, sym, ap, ◌∙◌, subst, arith}
use Rattle.std.specs.Prelude.{slice_get}
use Rattle.alpha_isa.specs.declared.insn.BranchOp.TheVariants.{Br, Bsr}
use Rattle.alpha_isa.specs.Program.{Program, word_address}
use Rattle.alpha_isa.specs.State.{State}
use Rattle.alpha_isa.specs.Step.{Done, exec, go_on}
use Rattle.alpha_isa.proofs.Runs.{exec_split}
use Rattle.alpha_items.specs.declared.item.AsmItem.{AsmItem}
use Rattle.alpha_items.specs.declared.item.AsmItem.TheVariants.{Branch, Label}
use Rattle.frame_steps.specs.item_steps.Standing.{Labels, HasLabel}
use Rattle.frame_steps.proofs.ItemSteps.Steps.{steps_add_up, leaves_behind, behind-some, leaves_comes}
use Rattle.frame_steps.proofs.ItemSteps.Standing.{ahead}
use Rattle.frame_steps.specs.item_steps.Steps.{Comes}
use Rattle.mem_model.specs.World.{Outer}
use Rattle.machine_model.specs.Machine.{begin_locals, end_locals}
use Rattle.temp_ir.specs.declared.insn.TempInsn.{TempInsn}
use Rattle.temp_ir.specs.declared.insn.TempInsn.TheVariants as i
use Rattle.alloc_model.specs.declared.allocation.Transfer.{Transfer}
use Rattle.alloc_model.specs.Temporaries.{result_status}
use Rattle.alloc_model.specs.Places.{Places, Plan, placed_site, do_all, places_read_at}
use Rattle.frame_steps.specs.frame_transfers.Items.{items_of_transfers}
use Rattle.frame_steps.specs.frame_transfers.Laws.{CallAt, FitsTheStack, StandsFor}
use Rattle.frame_simulation.specs.call_entries.Items.{ItemSetting, function_label, insn_items}
use Rattle.frame_simulation.specs.call_entries.Laws.{is_usable, HasOuter, RunIsOver}
use Rattle.frame_simulation.proofs.CallEntries.Runs.{jumps_are_done}
use Rattle.frame_steps.specs.call_parts.Items.{exit_part}
use Rattle.frame_simulation.specs.call_entries.Stacks.{WaitingCall, Start, StackIs}
use Rattle.frame_simulation.proofs.CallEntries.Stays.{stacks_stay}
use Rattle.frame_simulation.specs.call_entries.Entering.{call_contents, entry_places, called_frame, HasRoom, EntryIs}
use Rattle.frame_simulation.proofs.CallEntries.Entering.{calls_are_entered}
use Rattle.frame_simulation.specs.call_exits.Leaving.{result_contents, caller_of, resumed_places, ending_items, ExitIs}
use Rattle.frame_simulation.proofs.CallExits.Leaving.{calls_are_left}
use Rattle.frame_simulation.proofs.CallExits.Ending.{runs_are_ended}
use Rattle.frame_simulation.specs.edge_steps.Points.{AllMayTransfer, PointIsLeft}
use Rattle.frame_simulation.proofs.EdgeSteps.Points.{can-transfer-all}
use Rattle.frame_simulation.proofs.EdgeSteps.Edges.{edges_are_done, label-passed}
use Rattle.frame_simulation.specs.edge_steps.Items.{top_transfers, block_items, blocks_items, exit_items}
use Rattle.frame_simulation.specs.edge_steps.Laws.{FunctionStands}
use Rattle.frame_simulation.specs.call_steps.Calls.{first_items}

-- the blocks of a function begin with its first one
first-block : (a : Plan) (g : ItemSetting) (blocks : List (List TempInsn)) (insns : List TempInsn) (rest : List AsmItem) → slice_get blocks 0 ≡ Some insns → blocks_items a g 0 blocks rest ≡ Label (g.block_label 0) ∷ block_items a g 0 insns (blocks_items a g 1 (drop 1 blocks) rest)
first-block a g [] insns rest e = absurd (cc)
first-block a g (first ∷ blocks) insns rest e =
    let is : first ≡ insns = cc in
    ap (λ z. Label (g.block_label 0) ∷ block_items a g 0 z (blocks_items a g 1 blocks rest)) is

calls-made : (p : Program) (there : Labels) (start : Start) (g : ItemSetting) (rest : List AsmItem) (end : ℕ) (c : CallAt) (gs : List WaitingCall) (o : Outer) (store : Places) (s : State) → FitsTheStack c → StackIs p there start c gs store s → HasOuter o s → (transfers : List Transfer) → AllMayTransfer c.shape transfers → (function arguments : ℕ) → arguments ≤ c.shape.outgoing + 6 → (a : Plan) (f : ItemSetting) (behind : List AsmItem) (last : ℕ) → FunctionStands p there a f function behind last → (insns : List TempInsn) → slice_get a.function.blocks 0 ≡ Some insns → top_transfers a 0 ≡ [] → HasRoom p c f.shape → StandsFor p there (items_of_transfers c.shape transfers (Branch Bsr 26 (function_label function) ∷ rest)) end c o.memory is_usable store s → EntryIs p there start (first_items a f insns behind) last c (called_frame c f.shape (length o.memory)) gs o (do_all transfers store) (entry_places (call_contents function arguments (do_all transfers store))) rest end s
calls-made p there start g rest end c gs o store s call stack outer transfers may function arguments few a f behind last stands insns is top room h =
    let held = do_all transfers store in
    let d = edges_are_done p there start (Branch Bsr 26 (function_label function) ∷ rest) end c gs o store s call stack outer transfers (can-transfer-all c.shape transfers may) h in
    let blocks = blocks_items a f 0 a.function.blocks (exit_items f behind) in
    let e = calls_are_entered p there start c gs o held rest end d.to call d.stack d.outer (function_label function) function arguments f.shape blocks last stands.entry room few d.stands in
    let D = called_frame c f.shape (length o.memory) in
    let entry = entry_places (call_contents function arguments held) in
    let later = blocks_items a f 1 (drop 1 a.function.blocks) (exit_items f behind) in
    let at = subst (λ l. StandsFor p there l last D (begin_locals o f.shape.sizes).memory is_usable entry e.to) (first-block a f a.function.blocks insns (exit_items f behind) is) e.stands in
    let first = label-passed p there (block_items a f 0 insns later) last D (begin_locals o f.shape.sizes).memory entry e.to (f.block_label 0) at in
    record {
      to = e.to;
      next = e.next;
      within = e.within;
      left = e.left;
      leaves = leaves_behind p (word_address e.next) s d.to e.left d.comes e.leaves;
      some = behind-some p (word_address e.next) s d.to e.left d.comes e.leaves e.some;
      begins = e.begins;
      comes = e.comes;
      is_call = e.is_call;
      stands = subst (λ xs. StandsFor p there (items_of_transfers f.shape xs (first_items a f insns behind)) last D (begin_locals o f.shape.sizes).memory is_usable entry e.to) top first;
      stack = e.stack;
      outer = e.outer;
    }

pub calls_are_done : (p : Program) (there : Labels) (start : Start) (g : ItemSetting) (rest : List AsmItem) (end : ℕ) (c : CallAt) (gs : List WaitingCall) (o : Outer) (store : Places) (s : State) → FitsTheStack c → StackIs p there start c gs store s → HasOuter o s → (transfers : List Transfer) → AllMayTransfer c.shape transfers → (widest function arguments : ℕ) (registers : List ℕ) → registers ≡ [] → arguments ≤ c.shape.outgoing + 6 → (a : Plan) (f : ItemSetting) (behind : List AsmItem) (last : ℕ) → FunctionStands p there a f function behind last → (insns : List TempInsn) → slice_get a.function.blocks 0 ≡ Some insns → top_transfers a 0 ≡ [] → HasRoom p c f.shape → StandsFor p there (items_of_transfers c.shape transfers (insn_items g registers (i.Call function arguments) ++ rest)) end c o.memory is_usable store s → EntryIs p there start (first_items a f insns behind) last c (called_frame c f.shape (length o.memory)) gs o (do_all transfers store) (entry_places ((placed_site widest transfers registers (i.Call function arguments)).fetch store)) rest end s
calls_are_done p there start g rest end c gs o store s call stack outer transfers may widest function arguments registers none few a f behind last stands insns is top room h =
    subst (λ rs. EntryIs p there start (first_items a f insns behind) last c (called_frame c f.shape (length o.memory)) gs o (do_all transfers store) (entry_places ((placed_site widest transfers rs (i.Call function arguments)).fetch store)) rest end s) (sym none)
    (calls-made p there start g rest end c gs o store s call stack outer transfers may function arguments few a f behind last stands insns is top room h)

-- ---- returns

-- the machine has come to the exit part
record AtExit (p : Program) (there : Labels) (start : Start) (g : ItemSetting) (rest : List AsmItem) (end : ℕ) (behind : List AsmItem) (last : ℕ) (c : CallAt) (gs : List WaitingCall) (o : Outer) (held : Places) (s : State) : Type 0 where
  left : PointIsLeft p there start rest end g.exit_label c gs o held s
  comes : Comes p s left.to
  stands : StandsFor p there (exit_part c.shape c.shape.saves behind) last c o.memory is_usable held left.to

at-exit : (p : Program) (there : Labels) (start : Start) (g : ItemSetting) (rest : List AsmItem) (end : ℕ) (c : CallAt) (gs : List WaitingCall) (o : Outer) (store : Places) (s : State) → FitsTheStack c → g.shape ≡ c.shape → StackIs p there start c gs store s → HasOuter o s → (transfers : List Transfer) → AllMayTransfer c.shape transfers → (number : ℕ) (a : Plan) (behind : List AsmItem) (last : ℕ) → FunctionStands p there a g number behind last → HasLabel g.exit_label rest → StandsFor p there (items_of_transfers c.shape transfers (Branch Br 31 g.exit_label ∷ rest)) end c o.memory is_usable store s → AtExit p there start g rest end behind last c gs o (do_all transfers store) s
at-exit p there start g rest end c gs o store s call shape stack outer transfers may number a behind last stands exit h =
    let held = do_all transfers store in
    let d = edges_are_done p there start (Branch Br 31 g.exit_label ∷ rest) end c gs o store s call stack outer transfers (can-transfer-all c.shape transfers may) h in
    let j = jumps_are_done p there rest end c o held d.to d.outer g.exit_label d.stands in
    let forward = ahead p there g.exit_label rest j.next end j.behind exit in
    let pc = j.pc in
    record {
      comes = steps_add_up p s d.to j.to d.comes (leaves_comes p (word_address j.next) d.to j.to j.comes (omega (arith, forward, pc)));
      left = record {
        to = j.to;
        next = j.next;
        behind = j.behind;
        within = j.within;
        comes = leaves_behind p (word_address j.next) s d.to j.to d.comes j.comes;
        pc = j.pc;
        some = behind-some p (word_address j.next) s d.to j.to d.comes j.comes j.some;
        stands = j.stands;
        stack = stacks_stay p there start c gs held held d.to j.to d.stack d.stands.frame.frame (λ k. refl) j.kept;
        outer = j.outer;
      };
      stands = subst (λ z. StandsFor p there (exit_part z z.saves behind) last c o.memory is_usable held j.to) shape (j.stands (exit_part g.shape g.shape.saves behind) last stands.exit);
    }

pub returns_are_done : (p : Program) (there : Labels) (start : Start) (g : ItemSetting) (rest : List AsmItem) (end : ℕ) (c : CallAt) (w : WaitingCall) (gs : List WaitingCall) (o : Outer) (store : Places) (s : State) → FitsTheStack c → g.shape ≡ c.shape → StackIs p there start c (w ∷ gs) store s → HasOuter o s → (transfers : List Transfer) → AllMayTransfer c.shape transfers → (widest function arguments number : ℕ) (with_value : Bool) (registers : List ℕ) → registers ≡ [] → (a : Plan) (behind : List AsmItem) (last : ℕ) → FunctionStands p there a g number behind last → HasLabel g.exit_label rest → StandsFor p there (items_of_transfers c.shape transfers (insn_items g registers (i.Return with_value) ++ rest)) end c o.memory is_usable store s → ExitIs p there start w gs (caller_of c (length gs) w) (end_locals o c.own (length c.shape.sizes)) (resumed_places function arguments w ((placed_site widest transfers registers (i.Return with_value)).fetch store)) s
returns_are_done p there start g rest end c w gs o store s call shape stack outer transfers may widest function arguments number with_value registers none a behind last stands exit h =
    let held = do_all transfers store in
    let x = at-exit p there start g rest end c (w ∷ gs) o store s call shape stack outer transfers may number a behind last stands exit h in
    let t = x.left.to in
    let d = calls_are_left p there start c w gs o held behind last t call x.left.stack x.left.outer function arguments with_value x.stands in
    subst (λ rs. ExitIs p there start w gs (caller_of c (length gs) w) (end_locals o c.own (length c.shape.sizes)) (resumed_places function arguments w ((placed_site widest transfers rs (i.Return with_value)).fetch store)) s) (sym none)
    (record {
      to = d.to;
      comes = leaves_behind p (word_address (length p.words)) s t d.to x.comes d.comes;
      at_place = d.at_place;
      some = behind-some p (word_address (length p.words)) s t d.to x.comes d.comes d.some;
      stands = d.stands;
      stack = d.stack;
      outer = d.outer;
    })

pub last_returns_are_done : (p : Program) (there : Labels) (start : Start) (g : ItemSetting) (rest : List AsmItem) (end : ℕ) (c : CallAt) (o : Outer) (store : Places) (s : State) → FitsTheStack c → g.shape ≡ c.shape → StackIs p there start c [] store s → HasOuter o s → start.behind ≡ ending_items → (transfers : List Transfer) → AllMayTransfer c.shape transfers → (widest number status : ℕ) (with_value : Bool) (registers : List ℕ) → registers ≡ [] → (a : Plan) (behind : List AsmItem) (last : ℕ) → FunctionStands p there a g number behind last → HasLabel g.exit_label rest → result_status ((placed_site widest transfers registers (i.Return with_value)).fetch store) ≡ Some status → StandsFor p there (items_of_transfers c.shape transfers (insn_items g registers (i.Return with_value) ++ rest)) end c o.memory is_usable store s → RunIsOver p (end_locals o c.own (length c.shape.sizes)) (Done status) s
last_returns_are_done p there start g rest end c o store s call shape stack outer items transfers may widest number status with_value registers none a behind last stands exit e h =
    let held = do_all transfers store in
    let x = at-exit p there start g rest end c [] o store s call shape stack outer transfers may number a behind last stands exit h in
    let t = x.left.to in
    let is : result_status (result_contents with_value held) ≡ Some status = subst (λ rs. result_status (map held (places_read_at rs (i.Return with_value))) ≡ Some status) none e in
    let d = runs_are_ended p there start c o held behind last t call x.left.stack x.left.outer items with_value status is x.stands in
    let before = x.comes.paid in
    let paid = d.paid in
    record {
      steps = x.comes.steps + d.steps;
      last = d.last;
      paid = omega (arith, before, paid);
      run = exec_split p x.comes.steps d.steps s ∙ ap (λ z. go_on z (exec p d.steps)) x.comes.run ∙ d.run;
      output = d.output;
    }
