-- A point of a block is done.
use Rattle.std.proofs.Common.{◌≡◌, ℕ, ◌+◌, ◌*◌, ◌≤◌, true, false, List, [], ◌∷◌, ◌++◌, map, length, drop, refl, sym, ap, ◌∙◌, subst, arith}
use Rattle.std.specs.Prelude.{if◌then◌else◌}
use Rattle.alpha_isa.specs.Program.{Program, word_address}
use Rattle.alpha_isa.specs.State.{State}
use Rattle.alpha_isa.specs.Step as step
use Rattle.alpha_isa.specs.Step.{Halt, exec, go_on}
use Rattle.alpha_isa.proofs.Runs.{exec_split}
use Rattle.alpha_items.specs.declared.item.AsmItem.{AsmItem}
use Rattle.frame_steps.specs.item_steps.Standing.{Labels}
use Rattle.frame_steps.specs.item_steps.Steps.{Comes}
use Rattle.frame_steps.proofs.ItemSteps.Steps.{steps_add_up, leaves_behind, behind-some}
use Rattle.mem_model.specs.World.{Outer}
use Rattle.machine_model.specs.Code.{Exits, Traps, HasNoMeaning, Act, Writes, Jumps, Calls, Returns, Stops}
use Rattle.temp_ir.specs.declared.insn.TempInsn.{TempInsn}
use Rattle.temp_ir.specs.declared.insn.TempInsn.TheVariants as i
use Rattle.temp_ir.specs.Insns.{reads_of}
use Rattle.temp_ir.specs.Fixed.{fixed_writes_of}
use Rattle.alloc_model.specs.declared.allocation.Transfer.{Transfer}
use Rattle.alloc_model.specs.declared.allocation.Transfer.TheVariants.{Store, Load, Shift}
use Rattle.alloc_model.specs.Contents.{Content}
use Rattle.alloc_model.specs.Stores.{put, put_all, without, first_or_unset}
use Rattle.alloc_model.specs.Effect.{Fixed, places_written, does}
use Rattle.alloc_model.specs.Places.{Places, Place, Reg, In, place_eq, home_of, places_read_at, places_written_at, ends_place, source_of, transfer_target, do_all}
use Rattle.frame_memory.specs.flat_frames.Shapes.{FrameShape}
use Rattle.frame_steps.specs.frame_transfers.Items.{items_of_transfers}
use Rattle.frame_steps.specs.frame_transfers.Laws.{CallAt, FitsTheStack, StandsFor, known_after, known_behind, CanTransfer, CanTransferAll, IsKept}
use Rattle.frame_steps.proofs.FrameTransfers.Runs.{transfers_are_done}
use Rattle.frame_simulation.specs.division_calls.Items.{ItemSetting, insn_items}
use Rattle.frame_simulation.specs.division_calls.Laws.{is_usable, IsStated, IsThere, HasOuter, RunIsOver, ActIsDone, is_no_call, store_behind}
use Rattle.frame_simulation.proofs.DivisionCalls.Runs.{usable-values, more-usable, writable, no-registers}
use Rattle.frame_simulation.proofs.DivisionCalls.Instructions.{instructions_are_done}
use Rattle.frame_simulation.specs.division_calls.Stacks.{WaitingCall, Start, StackIs}
use Rattle.frame_simulation.proofs.DivisionCalls.Stays.{stacks_stay}
use Rattle.frame_simulation.specs.division_calls.Divisions.{RoutinesStand, HasScratch}
use Rattle.frame_simulation.proofs.DivisionCalls.Divisions.{divisions_are_done}
use Rattle.frame_simulation.specs.placed_steps.Points.{MayTransfer, AllMayTransfer, stays_in_call, PointIsDone}

-- ---- transfers

can-transfer : (s : FrameShape) (x : Transfer) → MayTransfer s x → CanTransfer s is_usable x
can-transfer s (Store t r) h = (h.0, h.1.usable_one)
can-transfer s (Load t r) h = (h.0, writable s r h.1)
can-transfer s (Shift t from to) h = (h.0.usable_one, writable s to h.1)

known-same : (s : FrameShape) (x : Transfer) → MayTransfer s x → known_after x is_usable ≡ is_usable
known-same s (Store t r) h = refl
known-same s (Load t r) h = more-usable r h.1.usable_one
known-same s (Shift t from to) h = more-usable to h.1.usable_one

pub can-transfer-all : (s : FrameShape) (xs : List Transfer) → AllMayTransfer s xs → CanTransferAll s is_usable xs
can-transfer-all s [] h = tt
can-transfer-all s (x ∷ xs) h = (can-transfer s x h.0, subst (λ k. CanTransferAll s k xs) (sym (known-same s x h.0)) (can-transfer-all s xs h.1))

known-all-same : (s : FrameShape) (xs : List Transfer) → AllMayTransfer s xs → known_behind xs is_usable ≡ is_usable
known-all-same s [] h = refl
known-all-same s (x ∷ xs) h = ap (known_behind xs) (known-same s x h.0) ∙ known-all-same s xs h.1

-- ---- arguments of the call are not written

one-in : (x : Transfer) (c : Content) (store : Places) (k : ℕ) → put place_eq (transfer_target x) c store (In k) ≡ store (In k)
one-in (Store t r) c store k = refl
one-in (Load t r) c store k = refl
one-in (Shift t from to) c store k = refl

pub all-in : (xs : List Transfer) (store : Places) (k : ℕ) → do_all xs store (In k) ≡ store (In k)
all-in [] store k = refl
all-in (x ∷ xs) store k = all-in xs (put place_eq (transfer_target x) (store (source_of x)) store) k ∙ one-in x (store (source_of x)) store k

-- places of which none is an argument of the call
abbrev NoneIn : List Place → Type 0
NoneIn [] = Unit {0}
NoneIn (p ∷ ps) = ((k : ℕ) → place_eq (In k) p ≡ false) × NoneIn ps

put-in : (ps : List Place) (cs : List Content) (store : Places) (k : ℕ) → NoneIn ps → put_all place_eq ps cs store (In k) ≡ store (In k)
put-in [] cs store k h = refl
put-in (p ∷ ps) cs store k h =
    put-in ps (drop 1 cs) (put place_eq p (first_or_unset cs) store) k h.1
    ∙ ap (λ b. if b then first_or_unset cs else store (In k)) (h.0 k)

fixed-in : (rs : List ℕ) (ps : List Place) → NoneIn ps → NoneIn (map Reg rs ++ ps)
fixed-in [] ps h = h
fixed-in (r ∷ rs) ps h = ((λ k. refl), fixed-in rs ps h)

homes-in : (x : TempInsn) (rs : List ℕ) → NoneIn (map home_of (map Fixed rs ++ places_written x))
homes-in x (r ∷ rs) = ((λ k. refl), homes-in x rs)
homes-in (i.WriteArgument number source) [] = ((λ k. refl), tt)
homes-in (i.Address op d base plus) [] = tt
homes-in (i.ObjectAddress d place plus) [] = tt
homes-in (i.Load op d pointer plus) [] = tt
homes-in (i.Store op value pointer plus) [] = tt
homes-in (i.Operate op d left right) [] = tt
homes-in (i.Extend op d source) [] = tt
homes-in (i.ToFixed register source) [] = tt
homes-in (i.FromFixed d register) [] = tt
homes-in (i.SetFixed register number) [] = tt
homes-in (i.ReadArgument d number) [] = tt
homes-in (i.Branch op source block) [] = tt
homes-in (i.Jump block) [] = tt
homes-in (i.Call function arguments) [] = tt
homes-in (i.Divide routine) [] = tt
homes-in (i.Serve service) [] = tt
homes-in (i.Return with_value) [] = tt
homes-in i.Mark [] = tt

behind-in : (registers : List ℕ) (x : TempInsn) (held : Places) (cs : List Content) (k : ℕ) → store_behind registers x held cs (In k) ≡ held (In k)
behind-in registers x held cs k =
    put-in (places_written_at registers x) cs (without (ends_place x) held) k
    (fixed-in (drop (length (reads_of x)) registers) (map home_of (map Fixed (fixed_writes_of x) ++ places_written x)) (homes-in x (fixed_writes_of x)))

module _ (p : Program) (there : Labels) (start : Start) (g : ItemSetting) (rest : List AsmItem) (end : ℕ) (c : CallAt) (gs : List WaitingCall) (o : Outer) (store : Places) (s : State) (call : FitsTheStack c) (shape : g.shape ≡ c.shape) (stack : StackIs p there start c gs store s) (outer : HasOuter o s) (routines : RoutinesStand p there) (scratch : HasScratch p c s) (widest : ℕ) (few : widest ≤ c.shape.outgoing + 6) (transfers : List Transfer) (registers : List ℕ) (x : TempInsn) (may : AllMayTransfer c.shape transfers) (st : IsStated c.shape registers x) (is : IsThere p g c x) (h : StandsFor p there (items_of_transfers c.shape transfers (insn_items g registers x ++ rest)) end c o.memory is_usable store s) where
  abbrev held : Places
  held = do_all transfers store

  -- the transfers are done
  record TransfersAreMade : Type 0 where
    to : State
    comes : Comes p s to
    stands : StandsFor p there (insn_items g registers x ++ rest) end c o.memory is_usable held to
    stack_is : StackIs p there start c gs held to
    outer_is : HasOuter o to
    kept : IsKept p c s to

  moved : TransfersAreMade
  moved =
      let d = transfers_are_done p there (insn_items g registers x ++ rest) end c o.memory call transfers is_usable store s usable-values (can-transfer-all c.shape transfers may) h in
      record {
        to = d.to;
        comes = d.comes;
        stands = subst (λ k. StandsFor p there (insn_items g registers x ++ rest) end c o.memory k held d.to) (known-all-same c.shape transfers may) d.stands;
        stack_is = stacks_stay p there start c gs store held s d.to stack h.frame.frame (all-in transfers store) d.kept;
        outer_is = record { input = d.input ∙ outer.input; output = d.output ∙ outer.output; bytes = outer.bytes };
        kept = d.kept;
      }

  -- what is done behind the transfers is done from before them
  passed : (m : TransfersAreMade) (a : Act Content) → ActIsDone p there g rest end c (store_behind registers x held) x m.to a → PointIsDone p there start g rest end c gs (store_behind registers x held) x s a
  passed m (Writes cs new) d = record {
    to = d.to;
    comes = steps_add_up p s m.to d.to m.comes d.comes;
    stands = d.stands;
    stack = stacks_stay p there start c gs held (store_behind registers x held cs) m.to d.to m.stack_is m.stands.frame.frame (behind-in registers x held cs) d.kept;
    outer = d.outer;
  }
  passed m (Jumps target new) d = λ block e.
      let z = d block e in
      record {
        to = z.to;
        next = z.next;
        behind = z.behind;
        within = z.within;
        comes = leaves_behind p (word_address z.next) s m.to z.to m.comes z.comes;
        pc = z.pc;
        some = behind-some p (word_address z.next) s m.to z.to m.comes z.comes z.some;
        stands = z.stands;
        stack = stacks_stay p there start c gs held (store_behind registers x held []) m.to z.to m.stack_is m.stands.frame.frame (behind-in registers x held []) z.kept;
        outer = z.outer;
      }
  passed m (Calls function cs new) d = tt
  passed m (Returns cs new) d = tt
  passed m (Stops (Exits status) new) d = over m new (step.Done status) d
    where
      over : (m : TransfersAreMade) (new : Outer) (halt : Halt) → RunIsOver p new halt m.to → RunIsOver p new halt s
      over m new halt d = let a = m.comes.paid in let b = d.paid in record {
        steps = m.comes.steps + d.steps;
        last = d.last;
        paid = omega (arith, a, b);
        run = exec_split p m.comes.steps d.steps s ∙ ap (λ z. go_on z (exec p d.steps)) m.comes.run ∙ d.run;
        output = d.output;
      }
  passed m (Stops (Traps code) new) d = let a = m.comes.paid in let b = d.paid in record {
    steps = m.comes.steps + d.steps;
    last = d.last;
    paid = omega (arith, a, b);
    run = exec_split p m.comes.steps d.steps s ∙ ap (λ z. go_on z (exec p d.steps)) m.comes.run ∙ d.run;
    output = d.output;
  }
  passed m (Stops HasNoMeaning new) d = tt

  -- an instruction that is no call of a routine either
  plain-point : is_no_call x ≡ true → PointIsDone p there start g rest end c gs (store_behind registers x held) x s (does widest x c.own (map held (places_read_at registers x)) o)
  plain-point plain =
      let m = moved in
      passed m (does widest x c.own (map held (places_read_at registers x)) o)
      (instructions_are_done p there g rest end c o held m.to call shape m.stack_is.arguments m.outer_is widest few registers x plain st is m.stands)

  scratch-moved : (m : TransfersAreMade) → HasScratch p c m.to
  scratch-moved m = record { room = scratch.room; free = scratch.free; reached = λ y from to. m.kept.reach y ∙ scratch.reached y from to }

-- by the instruction: a division, or another one
point-done : (p : Program) (there : Labels) (start : Start) (g : ItemSetting) (rest : List AsmItem) (end : ℕ) (c : CallAt) (gs : List WaitingCall) (o : Outer) (store : Places) (s : State) → FitsTheStack c → g.shape ≡ c.shape → StackIs p there start c gs store s → HasOuter o s → RoutinesStand p there → HasScratch p c s → (widest : ℕ) → widest ≤ c.shape.outgoing + 6 → (transfers : List Transfer) (registers : List ℕ) (x : TempInsn) → AllMayTransfer c.shape transfers → stays_in_call x ≡ true → IsStated c.shape registers x → IsThere p g c x → StandsFor p there (items_of_transfers c.shape transfers (insn_items g registers x ++ rest)) end c o.memory is_usable store s → PointIsDone p there start g rest end c gs (store_behind registers x (do_all transfers store)) x s (does widest x c.own (map (do_all transfers store) (places_read_at registers x)) o)
point-done p there start g rest end c gs o store s call shape stack outer routines scratch widest few xs rs (i.Divide r) may local st is h =
    let none = no-registers rs st.count in
    let m = moved p there start g rest end c gs o store s call shape stack outer routines scratch widest few xs rs (i.Divide r) may st is h in
    passed p there start g rest end c gs o store s call shape stack outer routines scratch widest few xs rs (i.Divide r) may st is h m
    (does widest (i.Divide r) c.own (map (do_all xs store) (places_read_at rs (i.Divide r))) o)
    (subst (λ l. ActIsDone p there g rest end c (store_behind l (i.Divide r) (do_all xs store)) (i.Divide r) m.to (does widest (i.Divide r) c.own (map (do_all xs store) (places_read_at l (i.Divide r))) o)) (sym none)
    (divisions_are_done p there g rest end c o (do_all xs store) m.to call m.outer_is routines
    (scratch-moved p there start g rest end c gs o store s call shape stack outer routines scratch widest few xs rs (i.Divide r) may st is h m) r m.stands))
point-done p there start g rest end c gs o store s call shape stack outer routines scratch widest few xs rs (i.Address op d base plus) may local st is h = plain-point p there start g rest end c gs o store s call shape stack outer routines scratch widest few xs rs (i.Address op d base plus) may st is h refl
point-done p there start g rest end c gs o store s call shape stack outer routines scratch widest few xs rs (i.ObjectAddress d place plus) may local st is h = plain-point p there start g rest end c gs o store s call shape stack outer routines scratch widest few xs rs (i.ObjectAddress d place plus) may st is h refl
point-done p there start g rest end c gs o store s call shape stack outer routines scratch widest few xs rs (i.Load op d pointer plus) may local st is h = plain-point p there start g rest end c gs o store s call shape stack outer routines scratch widest few xs rs (i.Load op d pointer plus) may st is h refl
point-done p there start g rest end c gs o store s call shape stack outer routines scratch widest few xs rs (i.Store op value pointer plus) may local st is h = plain-point p there start g rest end c gs o store s call shape stack outer routines scratch widest few xs rs (i.Store op value pointer plus) may st is h refl
point-done p there start g rest end c gs o store s call shape stack outer routines scratch widest few xs rs (i.Operate op d left right) may local st is h = plain-point p there start g rest end c gs o store s call shape stack outer routines scratch widest few xs rs (i.Operate op d left right) may st is h refl
point-done p there start g rest end c gs o store s call shape stack outer routines scratch widest few xs rs (i.Extend op d source) may local st is h = plain-point p there start g rest end c gs o store s call shape stack outer routines scratch widest few xs rs (i.Extend op d source) may st is h refl
point-done p there start g rest end c gs o store s call shape stack outer routines scratch widest few xs rs (i.ToFixed register source) may local st is h = plain-point p there start g rest end c gs o store s call shape stack outer routines scratch widest few xs rs (i.ToFixed register source) may st is h refl
point-done p there start g rest end c gs o store s call shape stack outer routines scratch widest few xs rs (i.FromFixed d register) may local st is h = plain-point p there start g rest end c gs o store s call shape stack outer routines scratch widest few xs rs (i.FromFixed d register) may st is h refl
point-done p there start g rest end c gs o store s call shape stack outer routines scratch widest few xs rs (i.SetFixed register number) may local st is h = plain-point p there start g rest end c gs o store s call shape stack outer routines scratch widest few xs rs (i.SetFixed register number) may st is h refl
point-done p there start g rest end c gs o store s call shape stack outer routines scratch widest few xs rs (i.WriteArgument number source) may local st is h = plain-point p there start g rest end c gs o store s call shape stack outer routines scratch widest few xs rs (i.WriteArgument number source) may st is h refl
point-done p there start g rest end c gs o store s call shape stack outer routines scratch widest few xs rs (i.ReadArgument d number) may local st is h = plain-point p there start g rest end c gs o store s call shape stack outer routines scratch widest few xs rs (i.ReadArgument d number) may st is h refl
point-done p there start g rest end c gs o store s call shape stack outer routines scratch widest few xs rs (i.Branch op source block) may local st is h = plain-point p there start g rest end c gs o store s call shape stack outer routines scratch widest few xs rs (i.Branch op source block) may st is h refl
point-done p there start g rest end c gs o store s call shape stack outer routines scratch widest few xs rs (i.Jump block) may local st is h = plain-point p there start g rest end c gs o store s call shape stack outer routines scratch widest few xs rs (i.Jump block) may st is h refl
point-done p there start g rest end c gs o store s call shape stack outer routines scratch widest few xs rs (i.Serve service) may local st is h = plain-point p there start g rest end c gs o store s call shape stack outer routines scratch widest few xs rs (i.Serve service) may st is h refl
point-done p there start g rest end c gs o store s call shape stack outer routines scratch widest few xs rs i.Mark may local st is h = plain-point p there start g rest end c gs o store s call shape stack outer routines scratch widest few xs rs i.Mark may st is h refl
point-done p there start g rest end c gs o store s call shape stack outer routines scratch widest few xs rs (i.Call function arguments) may local st is h = absurd (cc)
point-done p there start g rest end c gs o store s call shape stack outer routines scratch widest few xs rs (i.Return with_value) may local st is h = absurd (cc)

pub points_are_done : (p : Program) (there : Labels) (start : Start) (g : ItemSetting) (rest : List AsmItem) (end : ℕ) (c : CallAt) (gs : List WaitingCall) (o : Outer) (store : Places) (s : State) → FitsTheStack c → g.shape ≡ c.shape → StackIs p there start c gs store s → HasOuter o s → RoutinesStand p there → HasScratch p c s → (widest : ℕ) → widest ≤ c.shape.outgoing + 6 → (transfers : List Transfer) (registers : List ℕ) (x : TempInsn) → AllMayTransfer c.shape transfers → stays_in_call x ≡ true → IsStated c.shape registers x → IsThere p g c x → StandsFor p there (items_of_transfers c.shape transfers (insn_items g registers x ++ rest)) end c o.memory is_usable store s → PointIsDone p there start g rest end c gs (store_behind registers x (do_all transfers store)) x s (does widest x c.own (map (do_all transfers store) (places_read_at registers x)) o)
points_are_done = point-done
