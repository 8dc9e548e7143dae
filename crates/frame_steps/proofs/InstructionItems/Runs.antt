-- What the machine does at the items of each instruction that is no call.
use Rattle.std.proofs.Common.{◌≡◌, ◌≢◌, ℕ, ◌+◌, ◌*◌, ◌<◌, ◌≤◌, Bool, true, false, List, [], ◌∷◌, ◌++◌, length, Option, Some, None, refl, sym, ap, ◌∙◌, subst, arith, ⊎_elim}
use Rattle.std.specs.Prelude.{◌==◌, ◌||◌, nat_lt, ℤ, if◌then◌else◌}
use Rattle.std.proofs.Math.Path.{fun_ext}
use Rattle.std.proofs.lemmas.Bool.{or_cases, eqb-true, ltb-true}
use Rattle.alpha_isa.specs.declared.insn.Fields.TheVariants as fields
use Rattle.alpha_isa.specs.declared.insn.Operand as isa
use Rattle.alpha_isa.specs.declared.insn.MemoryOp.TheVariants.{Lda}
use Rattle.alpha_isa.specs.declared.insn.BranchOp.TheVariants.{Br}
use Rattle.alpha_isa.specs.Lawful.{IsDisplacement}
use Rattle.alpha_isa.specs.Arithmetic.{word_from}
use Rattle.alpha_isa.specs.Program.{Program, word_address}
use Rattle.alpha_isa.specs.State.{State, register}
use Rattle.alpha_items.specs.declared.item.AsmItem.{AsmItem}
use Rattle.alpha_items.specs.declared.item.AsmItem.TheVariants.{Plain, Branch}
use Rattle.frame_steps.specs.item_steps.Standing.{Labels, ItemsAt}
use Rattle.alpha_isa.specs.Step as step
use Rattle.frame_steps.proofs.ItemSteps.Steps.{one_end_paid, leaves_comes, branches_step, read-lost}
use Rattle.mem_model.specs.declared.value.Value.TheVariants.{Word, Address, Unset}
use Rattle.mem_model.specs.Memory as memory
use Rattle.mem_model.specs.World.{Outer, outer_with_memory}
use Rattle.machine_model.specs.Code.{HasNoMeaning, Act, Writes, Stops}
use Rattle.suifvm_ir.specs.declared.insn.VmObject.{VmObject}
use Rattle.suifvm_ir.specs.declared.insn.VmObject.TheVariants.{Global, Local}
use Rattle.temp_ir.specs.declared.operation.AddressOp.{AddressOp}
use Rattle.temp_ir.specs.declared.operation.LoadOp.{LoadOp}
use Rattle.temp_ir.specs.declared.operation.StoreOp.{StoreOp}
use Rattle.temp_ir.specs.declared.operation.TempBranchOp.{TempBranchOp}
use Rattle.temp_ir.specs.declared.operation.Operation.{Operation}
use Rattle.temp_ir.specs.declared.operation.ExtendOp.{ExtendOp}
use Rattle.temp_ir.specs.declared.insn.FixedRegister.{FixedRegister}
use Rattle.temp_ir.specs.declared.insn.FixedRegister.TheVariants as fixed
use Rattle.temp_ir.specs.declared.insn.FirstOperand.{FirstOperand}
use Rattle.temp_ir.specs.declared.insn.SecondOperand.{SecondOperand}
use Rattle.temp_ir.specs.declared.insn.TempInsn.{TempInsn}
use Rattle.temp_ir.specs.declared.insn.TempInsn.TheVariants as i
use Rattle.temp_ir.specs.Fixed.{register_number, ended_of, has_number}
use Rattle.temp_ir.specs.Operations.{address_op, load_op, store_op, branch_op, operate_op, extend_op}
use Rattle.alloc_model.specs.declared.allocation.Transfer.TheVariants.{Shift}
use Rattle.alloc_model.specs.Contents as contents
use Rattle.alloc_model.specs.Contents.{Content, Bundle, unset_content, ContentAnswer, Gives, TrapsWith, Fails, content_answer, operate_answer, extend_answer, moved_bytes, moved_content, loaded_content, stored_memory, branch_test}
use Rattle.alloc_model.specs.Stores.{put, put_all, without}
use Rattle.alloc_model.specs.Effect.{does, writes, changes, branches, calls_function, argument_answer}
use Rattle.alloc_model.specs.Places as places
use Rattle.alloc_model.specs.Places.{Places, Reg, Slot, In, Out, place_eq, places_written_at, ends_place}
use Rattle.mem_model.specs.Bytes.{AreBytes}
use Rattle.frame_memory.specs.Bytes.{Bytes}
use Rattle.frame_memory.specs.Machine.{memory_bytes}
use Rattle.frame_memory.specs.flat_operations.Contents.{ContentIs}
use Rattle.frame_memory.specs.flat_frames.Shapes.{FrameShape, frame_size, argument_at, frame_object_at}
use Rattle.frame_memory.specs.flat_frames.Frames.{word_in, FrameAndMemory, with_known}
use Rattle.frame_steps.specs.frame_accesses.Items.{frame_load, frame_store, frame_address, register_move}
use Rattle.frame_steps.proofs.FrameAccesses.Runs.{stands, bytes-same, reached-same, parts-same}
use Rattle.frame_steps.specs.frame_transfers.Laws.{CallAt, FitsTheStack, StandsFor, KnowsValues, IsWritable, HasDone}
use Rattle.frame_steps.proofs.FrameTransfers.Runs.{transfers_are_done, kept-same}
use Rattle.frame_steps.specs.frame_instructions.Laws.{StandsIn, GivesRegister}
use Rattle.frame_steps.specs.frame_instructions.FrameLaws.{address_content}
use Rattle.frame_steps.specs.frame_instructions.OperationLaws.{IsSecond, DoesAnswer}
use Rattle.frame_steps.proofs.FrameInstructions.Runs.{loads_are_done, stores_are_done, moves_are_done, sets_are_done, branches_are_done}
use Rattle.frame_steps.proofs.FrameInstructions.Operations.{operations_are_done, extensions_are_done}
use Rattle.frame_steps.proofs.FrameInstructions.Frames.{arguments_are_written, arguments_are_read, locals_have_addresses, globals_have_addresses}
use Rattle.frame_steps.specs.instruction_items.Items.{ItemSetting, insn_items}
use Rattle.frame_steps.specs.instruction_items.Laws.{is_usable, MayHold, IsThere, IsHeldArgument, ArgumentIs, ArgumentsAre, HasOuter, ComesToItems, IsAtLabel, ActIsDone, store_behind}

-- ---- registers in which values may stand

pub usable-low : (r : ℕ) → is_usable r ≡ true → r < 28
usable-low r e = ⊎_elim
    (λ (f : nat_lt r 26 ≡ true). let lt = ltb-true r 26 f in omega (arith, lt))
    (λ f. let is = eqb-true r 27 f in omega (arith, is))
    (or_cases (nat_lt r 26) (r == 27) e)

pub usable-values : KnowsValues is_usable
usable-values r e = let lt = usable-low r e in omega (arith, lt)

-- one more that was among them already
pub more-usable : (r : ℕ) → is_usable r ≡ true → with_known is_usable r ≡ is_usable
more-usable r e = fun_ext (λ q. by_test q (q == r) refl)
  where
    by_test : (q : ℕ) (b : Bool) → (q == r) ≡ b → (b || is_usable q) ≡ is_usable q
    by_test q true f = sym (ap is_usable (eqb-true q r f) ∙ e)
    by_test q false f = refl

pub fixed-usable : (f : FixedRegister) → is_usable (register_number f) ≡ true
fixed-usable fixed.Value = refl
fixed-usable fixed.Argument0 = refl
fixed-usable fixed.Argument1 = refl
fixed-usable fixed.Argument2 = refl
fixed-usable fixed.Argument3 = refl
fixed-usable fixed.Argument4 = refl
fixed-usable fixed.Argument5 = refl
fixed-usable fixed.Dividend = refl
fixed-usable fixed.Divisor = refl
fixed-usable fixed.Answer = refl

pub writable : (s : FrameShape) (r : ℕ) → MayHold s r → IsWritable s r
writable s r h = record { value = usable-values r h.usable_one; saved = h.saved }

-- the fixed registers are none that a caller keeps
pub fixed-holds : (s : FrameShape) (f : FixedRegister) → MayHold s (register_number f)
fixed-holds s f = record { usable_one = fixed-usable f; saved = λ from to. absurd (apart f from to) }
  where
    apart : (f : FixedRegister) → 9 ≤ register_number f → register_number f < 16 → ⊥
    apart fixed.Value from to = omega (arith, from)
    apart fixed.Argument0 from to = omega (arith, to)
    apart fixed.Argument1 from to = omega (arith, to)
    apart fixed.Argument2 from to = omega (arith, to)
    apart fixed.Argument3 from to = omega (arith, to)
    apart fixed.Argument4 from to = omega (arith, to)
    apart fixed.Argument5 from to = omega (arith, to)
    apart fixed.Dividend from to = omega (arith, to)
    apart fixed.Divisor from to = omega (arith, to)
    apart fixed.Answer from to = omega (arith, to)

-- an instruction that ends nothing
pub nothing-ended : (x : TempInsn) (store : Places) → ended_of x ≡ [] → calls_function x ≡ false → without (ends_place x) store ≡ store
nothing-ended x store e f = fun_ext (λ q. ap (λ b. if b then unset_content else store q) (none q))
  where
    none : (q : places.Place) → ends_place x q ≡ false
    none (Reg r) = ap (λ l. has_number l r) e
    none (Slot t) = refl
    none (In k) = refl
    none (Out k) = f

-- ---- lists of so many registers

pub no-registers : (rs : List ℕ) → length rs ≡ 0 → rs ≡ []
no-registers [] e = refl
no-registers (a ∷ rs) e = absurd (cc)

pub one-register : (rs : List ℕ) → length rs ≡ 1 → (a : ℕ) × (rs ≡ a ∷ [])
one-register [] e = absurd (cc)
one-register (a ∷ []) e = (a, refl)
one-register (a ∷ b ∷ rs) e = absurd (omega (arith, e))

pub two-registers : (rs : List ℕ) → length rs ≡ 2 → (a : ℕ) × (b : ℕ) × (rs ≡ a ∷ b ∷ [])
two-registers [] e = absurd (cc)
two-registers (a ∷ []) e = absurd (omega (arith, e))
two-registers (a ∷ b ∷ []) e = (a, b, refl)
two-registers (a ∷ b ∷ d ∷ rs) e = absurd (omega (arith, e))

pub three-registers : (rs : List ℕ) → length rs ≡ 3 → (a : ℕ) × (b : ℕ) × (d : ℕ) × (rs ≡ a ∷ b ∷ d ∷ [])
three-registers [] e = absurd (cc)
three-registers (a ∷ []) e = absurd (omega (arith, e))
three-registers (a ∷ b ∷ []) e = absurd (omega (arith, e))
three-registers (a ∷ b ∷ d ∷ []) e = (a, b, d, refl)
three-registers (a ∷ b ∷ d ∷ f ∷ rs) e = absurd (omega (arith, e))

module _ (p : Program) (there : Labels) (g : ItemSetting) (rest : List AsmItem) (end : ℕ) (c : CallAt) (o : Outer) (store : Places) (s : State) (call : FitsTheStack c) (shape : g.shape ≡ c.shape) (args : ArgumentsAre c store (memory_bytes p s)) (outer : HasOuter o s) where
  -- the machine stands at items, and does what an act is
  abbrev Here : List AsmItem → Type 0
  Here items = StandsFor p there (items ++ rest) end c o.memory is_usable store s

  abbrev IsDoneBehind : List ℕ → TempInsn → Act Content → Type 0
  IsDoneBehind rs x a = ActIsDone p there g rest end c (store_behind rs x store) x s a

  behind : (new : Outer) (known : ℕ → Bool) (held : Places) → known ≡ is_usable → new.input ≡ o.input → new.output ≡ o.output → HasDone p there rest end c new.memory known held s → ComesToItems p there rest end c new held s
  behind new known held e input output d = record {
    to = d.to;
    comes = d.comes;
    stands = subst (λ k. StandsFor p there rest end c new.memory k held d.to) e d.stands;
    outer = record { input = d.input ∙ outer.input ∙ sym input; output = d.output ∙ outer.output ∙ sym output; bytes = subst AreBytes (sym input) outer.bytes };
    kept = d.kept;
  }

  -- an instruction that writes one content, to a register
  pub written_once : (rs : List ℕ) (x : TempInsn) (r : ℕ) (content : Content) → ended_of x ≡ [] → calls_function x ≡ false → places_written_at rs x ≡ Reg r ∷ [] → MayHold c.shape r → GivesRegister p there rest end c o.memory is_usable store s r content → ComesToItems p there rest end c o (store_behind rs x store (content ∷ [])) s
  written_once rs x r content e f at u d = subst (λ held. ComesToItems p there rest end c o held s) (sym path) (behind o (with_known is_usable r) (put place_eq (Reg r) content store) (more-usable r u.usable_one) refl refl d)
    where
      path : store_behind rs x store (content ∷ []) ≡ put place_eq (Reg r) content store
      path = ap (λ ps. put_all place_eq ps (content ∷ []) (without (ends_place x) store)) at ∙ ap (put place_eq (Reg r) content) (nothing-ended x store e f)

  answered : (rs : List ℕ) (x : TempInsn) (r : ℕ) (answer : ContentAnswer) → ended_of x ≡ [] → calls_function x ≡ false → places_written_at rs x ≡ Reg r ∷ [] → MayHold c.shape r → DoesAnswer p there rest end c o.memory is_usable store s r answer → IsDoneBehind rs x (writes answer o)
  answered rs x r (Gives content) e f at u d = written_once rs x r content e f at u d
  answered rs x r (TrapsWith code) e f at u d = record { steps = 1; last = s; run = d; paid = (let x = one_end_paid p s s (step.Trap code) d tt in omega (arith, x)); output = outer.output }
  answered rs x r Fails e f at u d = tt

  -- one that writes nothing, and leaves a memory
  pub unwritten_once : (rs : List ℕ) (x : TempInsn) (new : Outer) → ended_of x ≡ [] → calls_function x ≡ false → places_written_at rs x ≡ [] → ComesToItems p there rest end c new store s → ComesToItems p there rest end c new (store_behind rs x store []) s
  unwritten_once rs x new e f at d = subst (λ held. ComesToItems p there rest end c new held s) (sym (ap (λ ps. put_all place_eq ps [] (without (ends_place x) store)) at ∙ nothing-ended x store e f)) d

  -- ---- moves

  pub address-done : (op : AddressOp) (destination : ℕ) (base : FirstOperand) (plus : ℤ) (rs : List ℕ) (from r : ℕ) (value : Content) → places_written_at rs (i.Address op destination base plus) ≡ Reg r ∷ [] → MayHold c.shape r → StandsIn is_usable store from value → Here (Plain (fields.Memory (address_op op) r from plus) ∷ []) → (a : Option Content) → moved_content o.memory value (moved_bytes op plus) ≡ a → IsDoneBehind rs (i.Address op destination base plus) (writes (content_answer a) o)
  address-done op destination base plus rs from r value at u is h (Some content) e =
      written_once rs (i.Address op destination base plus) r content refl refl at u
      (moves_are_done p there rest end c o.memory is_usable store s usable-values op r from plus value content h is (writable c.shape r u) e)
  address-done op destination base plus rs from r value at u is h None e = tt

  -- a register that is moved to another one, of which one is fixed
  pub move-done : (rs : List ℕ) (x : TempInsn) (from to : ℕ) → ended_of x ≡ [] → calls_function x ≡ false → places_written_at rs x ≡ Reg to ∷ [] → MayHold c.shape from → MayHold c.shape to → Here (register_move from to) → ComesToItems p there rest end c o (store_behind rs x store (store (Reg from) ∷ [])) s
  move-done rs x from to e f at uf ut h =
      written_once rs x to (store (Reg from)) e f at ut
      (transfers_are_done p there rest end c o.memory call (Shift 0 from to ∷ []) is_usable store s usable-values ((uf.usable_one, writable c.shape to ut), tt) h)

  -- ---- addresses of objects

  pub object-done : (destination : ℕ) (place : VmObject) (plus a : ℕ) → MayHold c.shape a → IsThere p g c (i.ObjectAddress destination place plus) → Here (insn_items g (a ∷ []) (i.ObjectAddress destination place plus)) → IsDoneBehind (a ∷ []) (i.ObjectAddress destination place plus) (does 0 (i.ObjectAddress destination place plus) c.own [] o)
  object-done destination (Global k) plus a u is h =
      written_once (a ∷ []) (i.ObjectAddress destination (Global k) plus) a (address_content k plus) refl refl refl u
      (globals_have_addresses p there rest end c o.memory is_usable store s call usable-values a k (g.global_at k) plus is.extent h (writable c.shape a u) is.made is.sound is.base is.within is.near)
  object-done destination (Local k) plus a u is h =
      written_once (a ∷ []) (i.ObjectAddress destination (Local k) plus) a (address_content (c.own + k) plus) refl refl refl u
      (locals_have_addresses p there rest end c o.memory is_usable store s call usable-values a k is.size plus
      (subst (λ z. Here (frame_address a (frame_object_at z k + plus))) shape h) (writable c.shape a u) is.made is.within)

  pub set-done : (register : FixedRegister) (number : ℤ) → IsDisplacement number → Here (Plain (fields.Memory Lda (register_number register) 31 number) ∷ []) → ComesToItems p there rest end c o (store_behind [] (i.SetFixed register number) store (contents.word_content (word_from number) ∷ [])) s
  set-done register number d h =
      let u = fixed-holds c.shape register in
      written_once [] (i.SetFixed register number) (register_number register) (contents.word_content (word_from number)) refl refl refl u
      (sets_are_done p there rest end c o.memory is_usable store s usable-values (register_number register) number h (writable c.shape (register_number register) u) d)

  -- ---- loads and stores

  pub load-done : (op : LoadOp) (destination pointer : ℕ) (plus : ℤ) (a b : ℕ) → MayHold c.shape a → MayHold c.shape b → Here (Plain (fields.Memory (load_op op) b a plus) ∷ []) → (v : Option Content) → loaded_content o.memory op (store (Reg a)) plus ≡ v → IsDoneBehind (a ∷ b ∷ []) (i.Load op destination pointer plus) (writes (content_answer v) o)
  load-done op destination pointer plus a b ua ub h (Some content) e =
      written_once (a ∷ b ∷ []) (i.Load op destination pointer plus) b content refl refl refl ub
      (loads_are_done p there rest end c o.memory is_usable store s usable-values op b a plus content h ua.usable_one (writable c.shape b ub) e)
  load-done op destination pointer plus a b ua ub h None e = tt

  pub store-done : (op : StoreOp) (value : FirstOperand) (pointer : ℕ) (plus : ℤ) (rs : List ℕ) (r a : ℕ) (v : Content) → places_written_at rs (i.Store op value pointer plus) ≡ [] → StandsIn is_usable store r v → MayHold c.shape a → Here (Plain (fields.Memory (store_op op) r a plus) ∷ []) → (m : Option memory.Memory) → stored_memory o.memory op v (store (Reg a)) plus ≡ m → IsDoneBehind rs (i.Store op value pointer plus) (changes m o)
  store-done op value pointer plus rs r a v at is u h (Some m) e =
      unwritten_once rs (i.Store op value pointer plus) (outer_with_memory o m) refl refl at
      (behind (outer_with_memory o m) is_usable store refl refl refl
      (stores_are_done p there rest end c o.memory is_usable store s usable-values op r a plus v m h is u.usable_one e))
  store-done op value pointer plus rs r a v at is u h None e = tt

  -- ---- operations

  pub operate-done : (op : Operation) (destination : ℕ) (left : FirstOperand) (right : SecondOperand) (rs : List ℕ) (l r : ℕ) (second : isa.Operand) (x y : Content) → places_written_at rs (i.Operate op destination left right) ≡ Reg r ∷ [] → MayHold c.shape r → StandsIn is_usable store l x → IsSecond is_usable store second y → Here (Plain (fields.Operate (operate_op op) l second r) ∷ []) → IsDoneBehind rs (i.Operate op destination left right) (writes (operate_answer o.memory op x y) o)
  operate-done op destination left right rs l r second x y at u first is h =
      answered rs (i.Operate op destination left right) r (operate_answer o.memory op x y) refl refl at u
      (operations_are_done p there rest end c o.memory is_usable store s usable-values op l r second x y h first is (writable c.shape r u))

  pub extend-done : (op : ExtendOp) (destination : ℕ) (source : SecondOperand) (rs : List ℕ) (r : ℕ) (second : isa.Operand) (y : Content) → places_written_at rs (i.Extend op destination source) ≡ Reg r ∷ [] → MayHold c.shape r → IsSecond is_usable store second y → Here (Plain (fields.Operate (extend_op op) 31 second r) ∷ []) → IsDoneBehind rs (i.Extend op destination source) (writes (extend_answer op y) o)
  extend-done op destination source rs r second y at u is h =
      answered rs (i.Extend op destination source) r (extend_answer op y) refl refl at u
      (extensions_are_done p there rest end c o.memory is_usable store s usable-values op r second y h is (writable c.shape r u))

  -- ---- arguments

  pub write-argument-done : (widest number source a : ℕ) → widest ≤ c.shape.outgoing + 6 → MayHold c.shape a → Here (frame_store a (argument_at number)) → (b : Bool) → nat_lt (number + 6) widest ≡ b → IsDoneBehind (a ∷ []) (i.WriteArgument number source) (if b then Writes (store (Reg a) ∷ []) o else Stops HasNoMeaning o)
  write-argument-done widest number source a le u h true e =
      subst (λ held. ComesToItems p there rest end c o held s) (sym (ap (put place_eq (Out number) (store (Reg a))) (nothing-ended (i.WriteArgument number source) store refl refl)))
      (behind o is_usable (put place_eq (Out number) (store (Reg a)) store) refl refl refl
      (arguments_are_written p there rest end c o.memory is_usable store s call usable-values a number h u.usable_one
      (let lt = ltb-true (number + 6) widest e in omega (arith, lt, le))))
  write-argument-done widest number source a le u h false e = tt

  argument-read : (destination number a : ℕ) → MayHold c.shape a → Here (frame_load a (frame_size c.shape + argument_at number)) → (v : Content) → store (In number) ≡ v → IsHeldArgument c number v (memory_bytes p s) → ComesToItems p there rest end c o (store_behind (a ∷ []) (i.ReadArgument destination number) store (v ∷ [])) s
  argument-read destination number a u h v e is =
      subst (λ z. ComesToItems p there rest end c o (store_behind (a ∷ []) (i.ReadArgument destination number) store (z ∷ [])) s) e
      (written_once (a ∷ []) (i.ReadArgument destination number) a (store (In number)) refl refl refl u
      (arguments_are_read p there rest end c o.memory is_usable store s call usable-values a number h (writable c.shape a u)
      (record { depth = is.caller; owned = is.owned; small = is.small; near = is.near; is = subst (λ z. ContentIs c.extents z (word_in (memory_bytes p s) (c.sp + (frame_size c.shape + argument_at number)))) (sym e) is.is })))

  pub read-argument-done : (destination number a : ℕ) → MayHold c.shape a → Here (frame_load a (frame_size c.shape + argument_at number)) → (v : Content) → store (In number) ≡ v → ArgumentIs c number v (memory_bytes p s) → IsDoneBehind (a ∷ []) (i.ReadArgument destination number) (writes (argument_answer v) o)
  read-argument-done destination number a u h (contents.Plain Unset) e is = tt
  read-argument-done destination number a u h (contents.Plain (Word n)) e is = argument-read destination number a u h (contents.Plain (Word n)) e is
  read-argument-done destination number a u h (contents.Plain (Address q)) e is = argument-read destination number a u h (contents.Plain (Address q)) e is
  read-argument-done destination number a u h (Bundle cells) e is = argument-read destination number a u h (Bundle cells) e is

  -- ---- branches

  pub branch-done : (op : TempBranchOp) (source block a : ℕ) → MayHold c.shape a → Here (Branch (branch_op op) a (g.block_label block) ∷ []) → (t : Option Bool) → branch_test op o.memory (store (Reg a)) ≡ t → IsDoneBehind (a ∷ []) (i.Branch op source block) (branches t o)
  branch-done op source block a u h (Some true) e =
      let d = branches_are_done p there rest end c o.memory is_usable store s usable-values usable-low op a (g.block_label block) true h u.usable_one e in
      λ b is. record {
        to = d.to;
        next = d.next;
        behind = d.behind;
        within = d.within;
        comes = d.comes;
        pc = d.pc ∙ ap (λ k. word_address (there (g.block_label k))) (sym (same b is));
        some = d.some;
        stands = λ items last at. subst (λ held. StandsFor p there items last c o.memory is_usable held d.to) (sym (nothing-ended (i.Branch op source block) store refl refl))
            (d.stands items last (subst (λ k. ItemsAt p there (there (g.block_label k)) items last) (same b is) at));
        outer = record { input = d.input ∙ outer.input; output = d.output ∙ outer.output; bytes = outer.bytes };
        kept = d.kept;
      }
    where
      same : (b : ℕ) → Some block ≡ Some b → b ≡ block
      same b is = cc
  branch-done op source block a u h (Some false) e =
      let d = branches_are_done p there rest end c o.memory is_usable store s usable-values usable-low op a (g.block_label block) false h u.usable_one e in
      let pc = d.pc in
      unwritten_once (a ∷ []) (i.Branch op source block) o refl refl refl (record {
        to = d.to;
        comes = leaves_comes p (word_address d.next) s d.to d.comes (omega (arith, pc));
        stands = d.stands rest end d.behind;
        outer = record { input = d.input ∙ outer.input; output = d.output ∙ outer.output; bytes = outer.bytes };
        kept = d.kept;
      })
  branch-done op source block a u h None e = tt

-- ---- unconditional branches

-- a branch that links no register has come to its label, whatever the call holds
pub jumps_are_done : (p : Program) (there : Labels) (rest : List AsmItem) (end : ℕ) (c : CallAt) (o : Outer) (store : Places) (s : State) → HasOuter o s → (l : ℕ) → StandsFor p there (Branch Br 31 l ∷ rest) end c o.memory is_usable store s → IsAtLabel p there rest end l c o store s
jumps_are_done p there rest end c o store s outer l h =
    let d = branches_step p there h.word Br 31 l rest end s (stands p there h.word (Branch Br 31 l) rest end s h.is_at) (omega arith) in
    let same = λ (q : ℕ) (ne : q ≢ 28). d.registers q ne ∙ read-lost 31 q (word_address d.next) s refl in
    record {
      to = d.to;
      next = d.next;
      behind = d.items_at;
      within = d.within;
      comes = d.comes;
      pc = d.pc;
      some = d.some;
      stands = λ items last at. record {
        word = there l;
        is_at = record {
          lawful = h.is_at.lawful;
          labels = h.is_at.labels;
          items_at = at;
          pc = d.pc;
          registers = d.same.registers ∙ h.is_at.registers;
          words = d.words h.is_at.words;
          parts = parts-same p s d.to d.same h.is_at.parts;
          bytes = λ y. subst (λ (b : Bytes). b y < 256) (sym (bytes-same p s d.to d.same)) (h.is_at.bytes y);
        };
        stack = same 30 (λ f. omega (arith, f)) ∙ h.stack;
        frame = subst (λ b. FrameAndMemory c.extents o.memory c.owner b c.sp c.depth c.own c.shape store) (sym (bytes-same p s d.to d.same)) h.frame;
        registers = λ q f. subst (ContentIs c.extents (store (Reg q))) (sym (same q (λ e. let lt = usable-low q f in omega (arith, e, lt)))) (h.registers q f);
        reached = λ y own. reached-same p s d.to d.same y ∙ h.reached y own;
      };
      outer = record { input = d.same.input ∙ outer.input; output = d.same.output ∙ outer.output; bytes = outer.bytes };
      kept = kept-same p c s d.to (reached-same p s d.to d.same) (bytes-same p s d.to d.same) (λ q from to e. same q (λ f. omega (arith, f, to)));
    }
