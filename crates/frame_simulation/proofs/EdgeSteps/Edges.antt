-- The edges between blocks.
use Rattle.std.proofs.Common.{◌≡◌, ℕ, suc, ◌+◌, Bool, true, false, List, [], ◌∷◌, drop, Some, refl, sym, ap, ◌∙◌, subst, arith}
use Rattle.std.specs.Prelude.{◌==◌, ◌||◌, slice_get}
use Rattle.alpha_isa.specs.declared.insn.BranchOp.TheVariants.{Br}
use Rattle.alpha_isa.specs.Program.{Program, word_address}
use Rattle.alpha_isa.specs.State.{State}
use Rattle.alpha_items.specs.declared.item.AsmItem.{AsmItem}
use Rattle.alpha_items.specs.declared.item.AsmItem.TheVariants.{Label, Branch}
use Rattle.frame_steps.specs.item_steps.Standing.{Labels, ItemsAt}
use Rattle.frame_steps.proofs.ItemSteps.Steps.{steps_add_up, leaves_behind, behind-some}
use Rattle.mem_model.specs.World.{Outer}
use Rattle.mem_model.specs.Memory as memory
use Rattle.temp_ir.specs.declared.insn.TempInsn.{TempInsn}
use Rattle.temp_ir.specs.declared.insn.TempInsn.TheVariants as i
use Rattle.alloc_model.specs.declared.allocation.Transfer.{Transfer}
use Rattle.alloc_model.specs.declared.allocation.Transfer.TheVariants.{Store, Load, Shift}
use Rattle.alloc_model.specs.Places.{Places, Plan, placed_site, do_all}
use Rattle.frame_steps.specs.frame_transfers.Items.{items_of_transfers}
use Rattle.frame_steps.specs.frame_transfers.Laws.{CallAt, FitsTheStack, StandsFor, known_after, known_behind, CanTransferAll}
use Rattle.frame_steps.proofs.FrameTransfers.Runs.{transfers_are_done}
use Rattle.frame_steps.specs.function_items.InstructionItems.{ItemSetting}
use Rattle.frame_steps.specs.function_items.InstructionItemsLaws.{is_usable, HasOuter}
use Rattle.frame_steps.proofs.FunctionItems.Runs.{usable-values, nothing-ended, jumps_are_done}
use Rattle.frame_simulation.specs.placed_steps.Stacks.{WaitingCall, Start, StackIs}
use Rattle.frame_simulation.proofs.PlacedSteps.Stays.{stacks_stay}
use Rattle.frame_simulation.specs.placed_steps.Points.{AllMayTransfer, PointIsPassed, PointIsLeft}
use Rattle.frame_simulation.proofs.PlacedSteps.Points.{can-transfer-all, all-in}
use Rattle.frame_steps.specs.function_items.Items.{top_transfers, insns_items, end_transfers, blocks_items, exit_items}
use Rattle.frame_steps.specs.function_items.Laws.{FunctionStands}

-- ---- what is known stays known

or-true : (b : Bool) → (b || true) ≡ true
or-true true = refl
or-true false = refl

knows-after : (x : Transfer) (known : ℕ → Bool) (r : ℕ) → known r ≡ true → known_after x known r ≡ true
knows-after (Store t q) known r e = e
knows-after (Load t q) known r e = ap (λ b. (r == q) || b) e ∙ or-true (r == q)
knows-after (Shift t from to) known r e = ap (λ b. (r == to) || b) e ∙ or-true (r == to)

knows-behind : (xs : List Transfer) (known : ℕ → Bool) (r : ℕ) → known r ≡ true → known_behind xs known r ≡ true
knows-behind [] known r e = e
knows-behind (x ∷ xs) known r e = knows-behind xs (known_after x known) r (knows-after x known r e)

fewer-known : (p : Program) (there : Labels) (items : List AsmItem) (end : ℕ) (c : CallAt) (m : memory.Memory) (known : ℕ → Bool) (store : Places) (s : State) → ((r : ℕ) → is_usable r ≡ true → known r ≡ true) → StandsFor p there items end c m known store s → StandsFor p there items end c m is_usable store s
fewer-known p there items end c m known store s more h = record {
  word = h.word;
  is_at = h.is_at;
  stack = h.stack;
  frame = h.frame;
  registers = λ r e. h.registers r (more r e);
  reached = h.reached;
}

-- ---- edges

pub edges_are_done : (p : Program) (there : Labels) (start : Start) (rest : List AsmItem) (end : ℕ) (c : CallAt) (gs : List WaitingCall) (o : Outer) (store : Places) (s : State) → FitsTheStack c → StackIs p there start c gs store s → HasOuter o s → (xs : List Transfer) → CanTransferAll c.shape is_usable xs → StandsFor p there (items_of_transfers c.shape xs rest) end c o.memory is_usable store s → PointIsPassed p there start rest end c gs o (do_all xs store) s
edges_are_done p there start rest end c gs o store s call stack outer xs can h =
    let d = transfers_are_done p there rest end c o.memory call xs is_usable store s usable-values can h in
    record {
      to = d.to;
      comes = d.comes;
      stands = fewer-known p there rest end c o.memory (known_behind xs is_usable) (do_all xs store) d.to (knows-behind xs is_usable) d.stands;
      stack = stacks_stay p there start c gs store (do_all xs store) s d.to stack h.frame.frame (all-in xs store) d.kept;
      outer = record { input = d.input ∙ outer.input; output = d.output ∙ outer.output; bytes = outer.bytes };
    }

-- a label is no word
pub label-passed : (p : Program) (there : Labels) (items : List AsmItem) (end : ℕ) (c : CallAt) (m : memory.Memory) (store : Places) (s : State) (l : ℕ) → StandsFor p there (Label l ∷ items) end c m is_usable store s → StandsFor p there items end c m is_usable store s
label-passed p there items end c m store s l h =
    let none : h.word + 0 ≡ h.word = omega arith in
    record {
      word = h.word;
      is_at = record {
        lawful = h.is_at.lawful;
        labels = h.is_at.labels;
        items_at = subst (λ w. ItemsAt p there w items end) none h.is_at.items_at.2;
        pc = h.is_at.pc;
        registers = h.is_at.registers;
        words = h.is_at.words;
        parts = h.is_at.parts;
        bytes = h.is_at.bytes;
      };
      stack = h.stack;
      frame = h.frame;
      registers = h.registers;
      reached = h.reached;
    }

pub ends_are_done : (p : Program) (there : Labels) (start : Start) (items : List AsmItem) (end : ℕ) (c : CallAt) (gs : List WaitingCall) (o : Outer) (store : Places) (s : State) → FitsTheStack c → StackIs p there start c gs store s → HasOuter o s → (xs : List Transfer) (l : ℕ) → CanTransferAll c.shape is_usable xs → StandsFor p there (items_of_transfers c.shape xs (Label l ∷ items)) end c o.memory is_usable store s → PointIsPassed p there start items end c gs o (do_all xs store) s
ends_are_done p there start items end c gs o store s call stack outer xs l can h =
    let d = edges_are_done p there start (Label l ∷ items) end c gs o store s call stack outer xs can h in
    record { to = d.to; comes = d.comes; stands = label-passed p there items end c o.memory (do_all xs store) d.to l d.stands; stack = d.stack; outer = d.outer }

pub jumps_are_done_here : (p : Program) (there : Labels) (start : Start) (rest : List AsmItem) (end : ℕ) (c : CallAt) (gs : List WaitingCall) (o : Outer) (store : Places) (s : State) → FitsTheStack c → StackIs p there start c gs store s → HasOuter o s → (transfers edge : List Transfer) → AllMayTransfer c.shape transfers → CanTransferAll c.shape is_usable edge → (l widest block : ℕ) (registers : List ℕ) → registers ≡ [] → StandsFor p there (items_of_transfers c.shape transfers (items_of_transfers c.shape edge (Branch Br 31 l ∷ rest))) end c o.memory is_usable store s → PointIsLeft p there start rest end l c gs o (do_all edge ((placed_site widest transfers registers (i.Jump block)).put [] store)) s
jumps_are_done_here p there start rest end c gs o store s call stack outer transfers edge may can l widest block registers none h =
    let a = edges_are_done p there start (items_of_transfers c.shape edge (Branch Br 31 l ∷ rest)) end c gs o store s call stack outer transfers (can-transfer-all c.shape transfers may) h in
    let held = do_all transfers store in
    let b = edges_are_done p there start (Branch Br 31 l ∷ rest) end c gs o held a.to call a.stack a.outer edge can a.stands in
    let d = jumps_are_done p there rest end c o (do_all edge held) b.to b.outer l b.stands in
    let through = steps_add_up p s a.to b.to a.comes b.comes in
    let same : (placed_site widest transfers [] (i.Jump block)).put [] store ≡ held = nothing-ended (i.Jump block) held refl refl in
    subst (λ rs. PointIsLeft p there start rest end l c gs o (do_all edge ((placed_site widest transfers rs (i.Jump block)).put [] store)) s) (sym none)
    (subst (λ z. PointIsLeft p there start rest end l c gs o (do_all edge z) s) (sym same)
    (record {
      to = d.to;
      next = d.next;
      behind = d.behind;
      within = d.within;
      comes = leaves_behind p (word_address d.next) s b.to d.to through d.comes;
      pc = d.pc;
      some = behind-some p (word_address d.next) s b.to d.to through d.comes d.some;
      stands = d.stands;
      stack = stacks_stay p there start c gs (do_all edge held) (do_all edge held) b.to d.to b.stack b.stands.frame.frame (λ k. refl) d.kept;
      outer = d.outer;
    }))

pub blocks_are_entered : (p : Program) (there : Labels) (start : Start) (a : Plan) (g : ItemSetting) (number : ℕ) (behind : List AsmItem) (end : ℕ) (c : CallAt) (gs : List WaitingCall) (o : Outer) (held : Places) (s : State) → FitsTheStack c → g.shape ≡ c.shape → FunctionStands p there a g number behind end → (block : ℕ) (insns : List TempInsn) → slice_get a.function.blocks block ≡ Some insns → CanTransferAll c.shape is_usable (top_transfers a block) → (behind_branch : List AsmItem) (last : ℕ) (left : PointIsLeft p there start behind_branch last (g.block_label block) c gs o held s) → PointIsPassed p there start (insns_items a g block 0 insns (items_of_transfers g.shape (end_transfers a block insns) (blocks_items a g (suc block) (drop (suc block) a.function.blocks) (exit_items g behind)))) end c gs o (do_all (top_transfers a block) held) left.to
blocks_are_entered p there start a g number behind end c gs o held s call shape stands block insns is can behind_branch last h =
    let rest = insns_items a g block 0 insns (items_of_transfers g.shape (end_transfers a block insns) (blocks_items a g (suc block) (drop (suc block) a.function.blocks) (exit_items g behind))) in
    let at = h.stands (items_of_transfers g.shape (top_transfers a block) rest) end (stands.blocks block insns is) in
    edges_are_done p there start rest end c gs o held h.to call h.stack h.outer (top_transfers a block) can
    (subst (λ z. StandsFor p there (items_of_transfers z (top_transfers a block) rest) end c o.memory is_usable held h.to) shape at)
