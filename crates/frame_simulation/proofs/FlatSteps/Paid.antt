-- What the steps of a point are paid by.
use Rattle.std.proofs.Common.{◌≡◌, ℕ, zero, suc, ◌+◌, ◌-◌, ◌*◌, ◌≤◌, ◌⊎◌, Bool, true, false, List, [], ◌∷◌, ◌++◌, Option, Some, None, length, drop, refl, sym, ap, ◌∙◌, subst, arith, inl, inr}
use Rattle.std.specs.Prelude.{slice_get}
use Rattle.alpha_isa.specs.Program.{word_address}
use Rattle.alpha_isa.specs.State.{State}
use Rattle.alpha_isa.specs.Step as step
use Rattle.alpha_items.specs.declared.item.AsmItem.{AsmItem}
use Rattle.alpha_items.specs.declared.item.AsmItem.TheVariants.{Label}
use Rattle.frame_steps.specs.item_steps.Standing.{HasLabel}
use Rattle.frame_steps.specs.item_steps.Steps.{Comes}
use Rattle.frame_steps.proofs.ItemSteps.Standing.{within}
use Rattle.mem_model.specs.World.{Outer, Meter, turn_from}
use Rattle.machine_model.specs.Machine.{Config, turn_if}
use Rattle.pass_core.specs.Functions.{insn_in}
use Rattle.temp_ir.specs.declared.insn.TempInsn.{TempInsn}
use Rattle.temp_ir.specs.declared.insn.TempInsn.TheVariants as i
use Rattle.alloc_model.specs.declared.allocation.Transfer.{Transfer}
use Rattle.alloc_model.specs.Effect.{takes_turn}
use Rattle.alloc_model.specs.Places.{Places, Plan, transfers_at, registers_at}
use Rattle.frame_memory.specs.flat_frames.Shapes.{FrameShape}
use Rattle.frame_steps.specs.frame_transfers.Items.{transfer_items, items_of_transfers}
use Rattle.frame_simulation.specs.stack_rooms.Items.{ItemSetting, insn_items}
use Rattle.frame_simulation.specs.stack_rooms.Laws.{RunIsOver}
use Rattle.frame_simulation.specs.call_steps.Stacks.{WaitingCall}
use Rattle.frame_simulation.specs.edge_shapes.Items.{top_transfers, jump_transfers, end_transfers, insns_items, block_items, blocks_items}
use Rattle.frame_simulation.specs.flat_steps.Builds.{Build, BuildStands}
use Rattle.frame_simulation.specs.flat_steps.Matching.{items_from_point, Matches, program_end, waiting_steps, passes_at, insn_of_plan, passes_left, steps_left, GetsTo, IsFollowed, IsOverSoon, point_place}
use Rattle.frame_simulation.proofs.FlatSteps.Lists.{insn-is}

-- ---- turns

abbrev spent : Bool → ℕ → ℕ
spent false n = n
spent true n = suc n

from-turn : (n : ℕ) (m t : Meter) → turn_from n m ≡ Some t → n ≡ suc t.turns
from-turn zero m t e = absurd (cc)
from-turn (suc n) m t e = let q : record m { turns = n } ≡ t = cc in ap (λ (x : Meter). suc x.turns) q

pub turned : (takes : Bool) (m t : Meter) → turn_if takes m ≡ Some t → m.turns ≡ spent takes t.turns
turned false m t e = let q : m ≡ t = cc in ap (λ (x : Meter). x.turns) q
turned true m t e = from-turn m.turns m t e

-- behind an instruction that takes a turn or none there are passes_left for the turns that are left
pub enough : (x : TempInsn) (n t : ℕ) → n ≡ spent (takes_turn x) t → suc t ≤ passes_at (Some x) n
enough (i.Address op d base plus) n t e = omega (arith, e)
enough (i.ObjectAddress d place plus) n t e = omega (arith, e)
enough (i.Load op d pointer plus) n t e = omega (arith, e)
enough (i.Store op value pointer plus) n t e = omega (arith, e)
enough (i.Operate op d left right) n t e = omega (arith, e)
enough (i.Extend op d source) n t e = omega (arith, e)
enough (i.ToFixed register source) n t e = omega (arith, e)
enough (i.FromFixed d register) n t e = omega (arith, e)
enough (i.SetFixed register number) n t e = omega (arith, e)
enough (i.WriteArgument number source) n t e = omega (arith, e)
enough (i.ReadArgument d number) n t e = omega (arith, e)
enough (i.Branch op source block) n t e = omega (arith, e)
enough (i.Jump block) n t e = omega (arith, e)
enough (i.Call function arguments) n t e = omega (arith, e)
enough (i.Divide routine) n t e = omega (arith, e)
enough (i.Serve service) n t e = omega (arith, e)
enough (i.Return with_value) n t e = omega (arith, e)
enough i.Mark n t e = omega (arith, e)

-- there is one pass more than turns at most
passes-few : (o : Option TempInsn) (n : ℕ) → passes_at o n ≤ suc n
passes-few None n = omega arith
passes-few (Some (i.Address op d base plus)) n = omega arith
passes-few (Some (i.ObjectAddress d place plus)) n = omega arith
passes-few (Some (i.Load op d pointer plus)) n = omega arith
passes-few (Some (i.Store op value pointer plus)) n = omega arith
passes-few (Some (i.Operate op d left right)) n = omega arith
passes-few (Some (i.Extend op d source)) n = omega arith
passes-few (Some (i.ToFixed register source)) n = omega arith
passes-few (Some (i.FromFixed d register)) n = omega arith
passes-few (Some (i.SetFixed register number)) n = omega arith
passes-few (Some (i.WriteArgument number source)) n = omega arith
passes-few (Some (i.ReadArgument d number)) n = omega arith
passes-few (Some (i.Branch op source block)) n = omega arith
passes-few (Some (i.Jump block)) n = omega arith
passes-few (Some (i.Call function arguments)) n = omega arith
passes-few (Some (i.Divide routine)) n = omega arith
passes-few (Some (i.Serve service)) n = omega arith
passes-few (Some (i.Return with_value)) n = omega arith
passes-few (Some i.Mark) n = omega arith

pub passes-most : (b : Build) (k : Config Places) → passes_left b k ≤ suc k.world.meter.turns
passes-most b k = passes-few (insn_of_plan (slice_get b.plans k.here.point.function) k.here.point) k.world.meter.turns

-- ---- labels behind

pub has-behind : (l : ℕ) (front rest : List AsmItem) → HasLabel l rest → HasLabel l (front ++ rest)
has-behind l [] rest h = h
has-behind l (x ∷ front) rest h = inr (has-behind l front rest h)

pub has-transfers : (l : ℕ) (s : FrameShape) (xs : List Transfer) (rest : List AsmItem) → HasLabel l rest → HasLabel l (items_of_transfers s xs rest)
has-transfers l s [] rest h = h
has-transfers l s (x ∷ xs) rest h = has-behind l (transfer_items s x) (items_of_transfers s xs rest) (has-transfers l s xs rest h)

pub has-insns : (l : ℕ) (a : Plan) (g : ItemSetting) (block at : ℕ) (xs : List TempInsn) (rest : List AsmItem) → HasLabel l rest → HasLabel l (insns_items a g block at xs rest)
has-insns l a g block at [] rest h = h
has-insns l a g block at (x ∷ xs) rest h =
    has-transfers l g.shape (transfers_at a block at) (items_of_transfers g.shape (jump_transfers a block x) (insn_items g (registers_at a block at) x ++ insns_items a g block (suc at) xs rest))
    (has-transfers l g.shape (jump_transfers a block x) (insn_items g (registers_at a block at) x ++ insns_items a g block (suc at) xs rest)
    (has-behind l (insn_items g (registers_at a block at) x) (insns_items a g block (suc at) xs rest) (has-insns l a g block (suc at) xs rest h)))

has-block : (l : ℕ) (a : Plan) (g : ItemSetting) (block : ℕ) (x : List TempInsn) (rest : List AsmItem) → HasLabel l rest → HasLabel l (block_items a g block x rest)
has-block l a g block x rest h =
    has-transfers l g.shape (top_transfers a block) (insns_items a g block 0 x (items_of_transfers g.shape (end_transfers a block x) rest))
    (has-insns l a g block 0 x (items_of_transfers g.shape (end_transfers a block x) rest)
    (has-transfers l g.shape (end_transfers a block x) rest h))

pub has-blocks : (l : ℕ) (a : Plan) (g : ItemSetting) (n : ℕ) (blocks : List (List TempInsn)) (rest : List AsmItem) → HasLabel l rest → HasLabel l (blocks_items a g n blocks rest)
has-blocks l a g n [] rest h = h
has-blocks l a g n (x ∷ blocks) rest h = inr (has-block l a g n x (blocks_items a g (suc n) blocks rest) (has-blocks l a g (suc n) blocks rest h))

-- the label of a block is among the items of blocks up to it
pub block-among : (a : Plan) (g : ItemSetting) (n k : ℕ) (blocks : List (List TempInsn)) (x : List TempInsn) (rest : List AsmItem) → slice_get blocks k ≡ Some x → HasLabel (g.block_label (n + k)) (blocks_items a g n blocks rest)
block-among a g n k [] x rest e = absurd (cc)
block-among a g n zero (y ∷ blocks) x rest e = let none : n ≡ n + 0 = omega arith in inl (ap (λ m. Label (g.block_label m)) none)
block-among a g n (suc k) (y ∷ blocks) x rest e =
    let sum : suc n + k ≡ n + suc k = omega arith in
    let among = subst (λ m. HasLabel (g.block_label m) (blocks_items a g (suc n) blocks rest)) sum (block-among a g (suc n) k blocks x rest e) in
    inr (has-block (g.block_label (n + suc k)) a g n y (blocks_items a g (suc n) blocks rest) among)

pub get-drop : {X : Type 0} (xs : List X) (n k : ℕ) → slice_get (drop n xs) k ≡ slice_get xs (n + k)
get-drop xs zero k = let none : k ≡ 0 + k = omega arith in ap (slice_get xs) none
get-drop [] (suc n) zero = refl
get-drop [] (suc n) (suc k) = refl
get-drop (x ∷ xs) (suc n) k = get-drop xs n k ∙ (let sum : suc n + k ≡ suc (n + k) = omega arith in ap (slice_get (x ∷ xs)) (sym sum))

-- ---- numbers: what is left falls by what is taken

mono : (a m k : ℕ) → m ≤ k → a * m ≤ a * k
mono zero m k h = omega arith
mono (suc a) m k h = let g = mono a m k h in omega (arith, h, g)

along : (n pc to E w all new old : ℕ) → 4 * n + 600 * pc ≤ 600 * to → to ≤ E → new ≤ old → 4 * n + (600 * (E - to) + w + all * new + 7200) ≤ 600 * (E - pc) + w + all * old + 7200
along n pc to E w all new old paid le few = let more = mono all new old few in omega (arith, paid, le, more)

pub back : (n m pc word label to len w new old : ℕ) → 4 * (599 + n) + 600 * pc ≤ 600 * (65536 + 4 * word) → word ≤ len → 4 * m + 600 * label ≤ 600 * to → to ≤ 65536 + 4 * len → 65536 ≤ label → suc new ≤ old → 4 * (n + m) + (600 * (65536 + 4 * len - to) + w + 2400 * len * new + 7200) ≤ 600 * (65536 + 4 * len - pc) + w + 2400 * len * old + 7200
back n m pc word label to len w new old paid le part within above few =
    let more = mono (2400 * len) (suc new) old few in
    let one : 2400 * len * suc new ≡ 2400 * len * new + 2400 * len = omega arith in
    omega (arith, paid, le, part, within, above, more, one)

pub into : (n m pc word left to len w new old : ℕ) → 4 * (599 + n) + 600 * pc ≤ 600 * (65536 + 4 * word) → word ≤ len → 4 * m + 600 * left ≤ 600 * to → to ≤ 65536 + 4 * len → 65536 ≤ left → suc new ≤ old → 4 * (n + m) + (600 * (65536 + 4 * len - to) + (600 * (65536 + 4 * len - (65536 + 4 * word)) + w) + 2400 * len * new + 7200) ≤ 600 * (65536 + 4 * len - pc) + w + 2400 * len * old + 7200
into n m pc word left to len w new old paid le part within above few =
    let more = mono (2400 * len) (suc new) old few in
    let one : 2400 * len * suc new ≡ 2400 * len * new + 2400 * len = omega arith in
    omega (arith, paid, le, part, within, above, more, one)

pub out : (n pc E place w all new old : ℕ) → 4 * (599 + n) + 600 * pc ≤ 600 * E → new ≤ old → 4 * n + (600 * (E - place) + w + all * new + 7200) ≤ 600 * (E - pc) + (600 * (E - place) + w) + all * old + 7200
out n pc E place w all new old paid few = let more = mono all new old few in omega (arith, paid, more)

pub last : (n pc len w old : ℕ) → 4 * n + 600 * pc ≤ 600 * (65536 + 4 * len) + 7200 → 1 ≤ old → 4 * n + 2400 * len ≤ 600 * (65536 + 4 * len - pc) + w + 2400 * len * old + 7200
last n pc len w old paid some = let more = mono (2400 * len) 1 old some in omega (arith, paid, more)

-- ---- at a config

module _ (b : Build) (ok : BuildStands b) (k : Config Places) (s : State) (m : Matches b k s) where
  pub passes-here : (x : TempInsn) → slice_get m.insns k.here.point.at ≡ Some x → passes_left b k ≡ passes_at (Some x) k.world.meter.turns
  passes-here x there =
      ap (λ o. passes_at (insn_of_plan o k.here.point) k.world.meter.turns) m.is_in.plan
      ∙ ap (λ o. passes_at o k.world.meter.turns) (insn-is m.plan.function.blocks k.here.point.block k.here.point.at m.insns x m.is_in.block there)

  pub passes-end : slice_get m.insns k.here.point.at ≡ None → passes_left b k ≡ suc k.world.meter.turns
  passes-end none =
      ap (λ o. passes_at (insn_of_plan o k.here.point) k.world.meter.turns) m.is_in.plan
      ∙ ap (λ o. passes_at (insn_in o k.here.point.at) k.world.meter.turns) m.is_in.block
      ∙ ap (λ o. passes_at o k.world.meter.turns) none

  -- behind a turn that is taken, or none
  pub passes-enough : (x : TempInsn) → slice_get m.insns k.here.point.at ≡ Some x → (t : Meter) → turn_if (takes_turn x) k.world.meter ≡ Some t → suc t.turns ≤ passes_left b k
  passes-enough x there t e =
      subst (λ n. suc t.turns ≤ n) (sym (passes-here x there)) (enough x k.world.meter.turns t.turns (turned (takes_turn x) k.world.meter t e))

  pub over-soon : (o : Outer) (h : step.Halt) → 1 ≤ passes_left b k → RunIsOver b.program o h s → IsOverSoon b o h (steps_left b k m.waiting s) s
  over-soon o h some d = record { steps = d.steps; last = d.last; run = d.run; output = d.output; soon = last d.steps s.pc (length b.program.words) (waiting_steps b m.waiting) (passes_left b k) d.paid some }

-- where the machine stands is in the text
pub pc-within : (b : Build) → BuildStands b → (k : Config Places) (s : State) → Matches b k s → s.pc ≤ program_end b
pc-within b ok k s m =
    let at = m.stands.is_at.pc in
    let le = within b.program b.there (items_from_point b m.plan k.here.point m.insns) m.stands.word b.end m.stands.is_at.items_at in
    let text = ok.within in
    omega (arith, at, le, text)

-- along words the machine follows
pub followed : (b : Build) → BuildStands b → (k d : Config Places) (gs : List WaitingCall) (s t : State) (c : Comes b.program s t) (z : Matches b d t) → z.waiting ≡ gs → passes_left b d ≤ passes_left b k → (1 ≤ c.steps) ⊎ (point_place b d.here.point ≡ suc (point_place b k.here.point)) → IsFollowed b k d gs s
followed b ok k d gs s t c z same few moves = record {
  to = t;
  comes = record { steps = c.steps; run = c.run };
  matches = z;
  soon = subst (λ ws. 4 * c.steps + steps_left b d ws t ≤ steps_left b k gs s) (sym same)
      (along c.steps s.pc t.pc (program_end b) (waiting_steps b gs) (2400 * length b.program.words) (passes_left b d) (passes_left b k) c.paid (pc-within b ok d t z) few);
  moves = moves;
}
