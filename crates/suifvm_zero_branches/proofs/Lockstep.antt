-- Runs where branches test the values.
use Rattle.std.proofs.Common.{◌≡◌, ℕ, zero, suc, List, [], ◌∷◌, length, map, Bool, true, false, Option, Some, None, refl, sym, ap, ◌∙◌, subst}
use Rattle.std.specs.Prelude.{◌==◌, ◌&&◌, not, slice_get, option_map, if◌then◌else◌}
use Rattle.std.proofs.lemmas.Bool.{eqb-true, eq-eqb, not-true, and_parts}
use Rattle.std.proofs.lemmas.Option.{slice_get-map}
use Rattle.mem_model.specs.declared.value.Value.{Value}
use Rattle.mem_model.specs.declared.value.Value.TheVariants.{Word, Address, Unset}
use Rattle.mem_model.specs.Memory.{Memory}
use Rattle.mem_model.specs.Pointers.{is_null}
use Rattle.mem_model.specs.World.{Outer, Meter, World, Rooms, enter_call, leave_call}
use Rattle.mem_model.specs.Ending.{Ending, Done, Undefined}
use Rattle.machine_model.specs.Code.{Exits, Traps, HasNoMeaning, Act, Writes, Jumps, Calls, Returns, Stops, Point, next_point, block_point}
use Rattle.machine_model.specs.Machine.{Frame, Config, Next, Over, whole_world, begin_locals, end_locals, turn_if, act_on, step_with, step_at, go_on, exec, return_to, resume, jump_to, status_ending}
use Rattle.bk_arithmetic.specs.declared.integer_type.IntegerType.{IntegerType}
use Rattle.bk_arithmetic.specs.declared.integer_type.IntegerType.TheVariants.{Int, UnsignedInt, Long, UnsignedLong}
use Rattle.bk_arithmetic.specs.Words.{extension, is_word}
use Rattle.bk_arithmetic.specs.Operations.{is_equal, truth}
use Rattle.bk_arithmetic.proofs.Comparisons.{equal-words}
use Rattle.suifvm_ir.specs.declared.types.VmType.{VmType}
use Rattle.suifvm_ir.specs.declared.types.VmType.TheVariants as v
use Rattle.suifvm_ir.specs.declared.insn.VmBranchOp.{VmBranchOp}
use Rattle.suifvm_ir.specs.declared.insn.CompareOp.TheVariants.{Equal, NotEqual, Less, LessOrEqual}
use Rattle.suifvm_ir.specs.declared.insn.VmInsn.{VmInsn}
use Rattle.suifvm_ir.specs.declared.insn.VmInsn.TheVariants as x
use Rattle.suifvm_ir.specs.Insns.{reads_of, writes_of, targets_of}
use Rattle.suifvm_meaning.specs.declared.answer.Answer.{Answer}
use Rattle.suifvm_meaning.specs.declared.answer.Answer.TheVariants.{Gives, TrapsWith, Fails}
use Rattle.suifvm_meaning.specs.Operations.{is_value_of, compare_answer, test_answer, value_holds, when_value}
use Rattle.suifvm_meaning.specs.Effect.{does, takes_turn, writes, branches}
use Rattle.suifvm_meaning.specs.Behave.{Registers, FunctionCode, insn_site, next_site, registers_of, vm_run, site_or_next, site_in_block, site_in_function, sizes_in, set_register, set_registers, result_status, first_or_unset, vm_code}
use Rattle.suifvm_zero_branches.specs.declared.known.RegisterFact.{RegisterFact}
use Rattle.suifvm_zero_branches.specs.declared.known.RegisterFact.TheVariants.{Nothing, Zero, Tests}
use Rattle.suifvm_zero_branches.specs.Tests.{facts_after, tested_insn, tested_from, tested_block, tested_code, HasMeaning, TestsKeepRuns}

-- ---- what is known at a place of a block

pub known_from : RegisterFact → List VmInsn → ℕ → RegisterFact
known_from k insns zero = k
known_from k [] (suc n) = Nothing
known_from k (i ∷ insns) (suc n) = known_from (facts_after k i) insns n

pub tested_get : (k : RegisterFact) (insns : List VmInsn) (at : ℕ) → slice_get (tested_from k insns) at ≡ option_map (tested_insn (known_from k insns at)) (slice_get insns at)
unfolding known_from
tested_get k [] at = refl
tested_get k (i ∷ insns) zero = refl
tested_get k (i ∷ insns) (suc at) = tested_get (facts_after k i) insns at

known_next : (k : RegisterFact) (insns : List VmInsn) (at : ℕ) (i : VmInsn) → slice_get insns at ≡ Some i → known_from k insns (suc at) ≡ facts_after (known_from k insns at) i
unfolding known_from
known_next k [] at i e = absurd (cc)
known_next k (j ∷ insns) zero i e = let same : j ≡ i = cc in ap (facts_after k) same
known_next k (j ∷ insns) (suc at) i e = known_next (facts_after k j) insns at i e

-- ---- what it says of registers

Holds : RegisterFact → Registers → Memory → Type 0
Holds Nothing r m = Unit {0}
Holds (Zero z) r m = r z ≡ Word 0
Holds (Tests ty d a) r m = value_holds m v.S32 (r d) ≡ value_holds m ty (r a)

module _ (m : Memory) where
  truth_holds : (b : Bool) → value_holds m v.S32 (Word (truth b)) ≡ Some b
  truth_holds true = refl
  truth_holds false = refl

  -- a comparison with zero that has a value
  found_number : (t : IntegerType) (n : ℕ) (u : Value) (b : Bool) → is_word t n ≡ b → is_word t 0 ≡ true →
      (if b then Gives (Word (truth (not (is_equal t n 0)))) else Fails) ≡ Gives u → value_holds m v.S32 u ≡ (if b then Some (not (n == 0)) else None)
  found_number t n u true is zero_is e =
      let same : Word (truth (not (is_equal t n 0))) ≡ u = cc in
      let equal : is_equal t n 0 ≡ (n == 0) =
      equal-words t n 0 ∙ ap (λ k. k == extension t 0) (eqb-true (extension t n) n is) ∙ ap (λ k. n == k) (eqb-true (extension t 0) 0 zero_is) in
      ap (value_holds m v.S32) (sym same) ∙ truth_holds (not (is_equal t n 0)) ∙ ap (λ b. Some (not b)) equal
  found_number t n u false is zero_is e = absurd (cc)

  found_pointer : (o : Option Bool) (u : Value) → test_answer (option_map not o) ≡ Gives u → value_holds m v.S32 u ≡ option_map not o
  found_pointer None u e = absurd (cc)
  found_pointer (Some b) u e = let same : Word (truth (not b)) ≡ u = cc in ap (value_holds m v.S32) (sym same) ∙ truth_holds (not b)

  found : (ty : VmType) (a u : Value) → compare_answer m NotEqual ty a (Word 0) ≡ Gives u → value_holds m v.S32 u ≡ value_holds m ty a
  found v.S32 (Word n) u e = found_number Int n u (is_word Int n) refl refl e
  found v.S32 (Address p) u e = absurd (cc)
  found v.S32 Unset u e = absurd (cc)
  found v.U32 (Word n) u e = found_number UnsignedInt n u (is_word UnsignedInt n) refl refl e
  found v.U32 (Address p) u e = absurd (cc)
  found v.U32 Unset u e = absurd (cc)
  found v.S64 (Word n) u e = found_number Long n u (is_word Long n) refl refl e
  found v.S64 (Address p) u e = absurd (cc)
  found v.S64 Unset u e = absurd (cc)
  found v.U64 (Word n) u e = found_number UnsignedLong n u (is_word UnsignedLong n) refl refl e
  found v.U64 (Address p) u e = absurd (cc)
  found v.U64 Unset u e = absurd (cc)
  found v.P64 (Address p) u e = found_pointer (is_null m (Address p)) u e
  found v.P64 (Word zero) u e = found_pointer (is_null m (Word zero)) u e
  found v.P64 (Word (suc n)) u e = absurd (cc)
  found v.P64 Unset u e = absurd (cc)

-- ---- an instruction as it is seen

-- what an instruction writes, where it goes and whether it takes a turn stay
record IsSame (i j : VmInsn) : Type 0 where
  pub writes : writes_of j ≡ writes_of i
  pub targets : targets_of j ≡ targets_of i
  pub turn : takes_turn j ≡ takes_turn i

same_insn : (i : VmInsn) → IsSame i i
same_insn i = record { writes = refl; targets = refl; turn = refl }

seen_is : (k : RegisterFact) (i : VmInsn) → IsSame i (tested_insn k i)
seen_is k (x.Branch op ty source block) = record { writes = refl; targets = refl; turn = refl }
seen_is k (x.LoadConstant ty2 d2 word) = same_insn (x.LoadConstant ty2 d2 word)
seen_is k (x.LoadAddress d2 place plus) = same_insn (x.LoadAddress d2 place plus)
seen_is k (x.Load ty2 d2 p plus) = same_insn (x.Load ty2 d2 p plus)
seen_is k (x.Store ty2 p plus b) = same_insn (x.Store ty2 p plus b)
seen_is k (x.Copy to from size align) = same_insn (x.Copy to from size align)
seen_is k (x.Unary op ty2 d2 b) = same_insn (x.Unary op ty2 d2 b)
seen_is k (x.Binary op ty2 d2 b c) = same_insn (x.Binary op ty2 d2 b c)
seen_is k (x.Shift op ty2 d2 b c) = same_insn (x.Shift op ty2 d2 b c)
seen_is k (x.Convert from to d2 b) = same_insn (x.Convert from to d2 b)
seen_is k (x.Compare op ty2 d2 b c) = same_insn (x.Compare op ty2 d2 b c)
seen_is k (x.Jump block) = same_insn (x.Jump block)
seen_is k (x.Call d2 c arguments) = same_insn (x.Call d2 c arguments)
seen_is k (x.Return value) = same_insn (x.Return value)
seen_is k x.Mark = same_insn x.Mark
seen_is k x.Nop = same_insn x.Nop

module _ (own : ℕ) (r : Registers) (o : Outer) where
  abbrev acts : VmInsn → Act Value
  acts i = does i own (map r (reads_of i)) o

  same_test : (op : VmBranchOp) (ty : VmType) (d a source block : ℕ) → value_holds o.memory v.S32 (r d) ≡ value_holds o.memory ty (r a) → (c : Bool) → (source == d) ≡ c →
      acts (x.Branch op (if c then ty else v.S32) (if c then a else source) block) ≡ acts (x.Branch op v.S32 source block)
  same_test op ty d a source block h true e =
      ap (λ t. branches op t o) (sym h) ∙ ap (λ k. branches op (value_holds o.memory v.S32 (r k)) o) (sym (eqb-true source d e))
  same_test op ty d a source block h false e = refl

  -- it does the same
  seen_acts : (k : RegisterFact) (i : VmInsn) → Holds k r o.memory → acts (tested_insn k i) ≡ acts i
  unfolding Holds
  seen_acts Nothing (x.Branch op ty source block) h = refl
  seen_acts (Zero z) (x.Branch op ty source block) h = refl
  seen_acts (Tests ty d a) (x.Branch op v.S32 source block) h = same_test op ty d a source block h (source == d) refl
  seen_acts (Tests ty d a) (x.Branch op v.U32 source block) h = refl
  seen_acts (Tests ty d a) (x.Branch op v.S64 source block) h = refl
  seen_acts (Tests ty d a) (x.Branch op v.U64 source block) h = refl
  seen_acts (Tests ty d a) (x.Branch op v.P64 source block) h = refl
  seen_acts k (x.LoadConstant ty2 d2 word) h = refl
  seen_acts k (x.LoadAddress d2 place plus) h = refl
  seen_acts k (x.Load ty2 d2 p plus) h = refl
  seen_acts k (x.Store ty2 p plus b) h = refl
  seen_acts k (x.Copy to from size align) h = refl
  seen_acts k (x.Unary op ty2 d2 b) h = refl
  seen_acts k (x.Binary op ty2 d2 b c) h = refl
  seen_acts k (x.Shift op ty2 d2 b c) h = refl
  seen_acts k (x.Convert from to d2 b) h = refl
  seen_acts k (x.Compare op ty2 d2 b c) h = refl
  seen_acts k (x.Jump block) h = refl
  seen_acts k (x.Call d2 c arguments) h = refl
  seen_acts k (x.Return value) h = refl
  seen_acts k x.Mark h = refl
  seen_acts k x.Nop h = refl

-- ---- what is known behind an instruction

-- a register that was set
here : (d : ℕ) (u : Value) (r : Registers) → set_register d u r d ≡ u
here d u r = ap (λ b. if b then u else r d) (eq-eqb d d refl)

beside : (d a : ℕ) (u : Value) (r : Registers) → (d == a) ≡ false → set_register d u r a ≡ r a
beside d a u r e = ap (λ b. if b then u else r a) (other (a == d) refl)
  where
    other : (b : Bool) → (a == d) ≡ b → (a == d) ≡ false
    other true is = let clash : true ≡ false = sym (eq-eqb d a (sym (eqb-true a d is))) ∙ e in let never : ⊥ = cc in absurd never
    other false is = is

module _ (own : ℕ) (r : Registers) (w : Outer) where
  -- an answer that is written is the value
  written : (answer : Answer) (us : List Value) (o : Outer) → writes answer w ≡ Writes us o → (u : Value) × (answer ≡ Gives u) × (us ≡ u ∷ []) × (o ≡ w)
  written (Gives u) us o e = let one : u ∷ [] ≡ us = cc in let two : w ≡ o = cc in (u, refl, sym one, sym two)
  written (TrapsWith code) us o e = absurd (cc)
  written Fails us o e = absurd (cc)

  constant_known : (ty : VmType) (d word : ℕ) (us : List Value) (o : Outer) → does (x.LoadConstant ty d word) own [] w ≡ Writes us o →
      Holds (if word == 0 then Zero d else Nothing) (set_registers (d ∷ []) us r) o.memory
  unfolding Holds
  constant_known ty d word us o e = by_zero (word == 0) refl
    where
      by_value : (b : Bool) → (if b then Gives (Word word) else Fails) ≡ (if b then Gives (Word word) else Fails) → writes (if b then Gives (Word word) else Fails) w ≡ Writes us o → us ≡ Word word ∷ []
      by_value true _ g = let one : Word word ∷ [] ≡ us = cc in sym one
      by_value false _ g = absurd (cc)

      by_zero : (b : Bool) → (word == 0) ≡ b → Holds (if b then Zero d else Nothing) (set_registers (d ∷ []) us r) o.memory
      by_zero true is =
          ap (λ l. set_register d (first_or_unset l) r d) (by_value (is_value_of ty (Word word)) refl e) ∙ here d (Word word) r ∙ ap (λ n. Word n) (eqb-true word 0 is)
      by_zero false is = tt

  compare_known : (z : ℕ) (ty : VmType) (d a b : ℕ) (us : List Value) (o : Outer) → r z ≡ Word 0 → writes (compare_answer w.memory NotEqual ty (r a) (r b)) w ≡ Writes us o →
      Holds (if b == z && not (d == a) then Tests ty d a else Nothing) (set_registers (d ∷ []) us r) o.memory
  unfolding Holds
  compare_known z ty d a b us o zero_is e = by_test (b == z && not (d == a)) refl
    where
      by_test : (c : Bool) → (b == z && not (d == a)) ≡ c → Holds (if c then Tests ty d a else Nothing) (set_registers (d ∷ []) us r) o.memory
      by_test false is = tt
      by_test true is =
          let parts = and_parts (b == z) (not (d == a)) is in
          let apart : (d == a) ≡ false = not-true (d == a) parts.1 in
          let b_is : r b ≡ Word 0 = ap r (eqb-true b z parts.0) ∙ zero_is in
          let got = written (compare_answer w.memory NotEqual ty (r a) (r b)) us o e in
          let answer : compare_answer w.memory NotEqual ty (r a) (Word 0) ≡ Gives got.0 = ap (compare_answer w.memory NotEqual ty (r a)) (sym b_is) ∙ got.1 in
          let d_is : set_register d (first_or_unset us) r d ≡ got.0 = ap (λ l. set_register d (first_or_unset l) r d) got.2 ∙ here d got.0 r in
          ap (value_holds o.memory v.S32) d_is
          ∙ ap (λ (q : Outer). value_holds q.memory v.S32 got.0) got.3
          ∙ found w.memory ty (r a) got.0 answer
          ∙ sym (ap (λ (q : Outer). value_holds q.memory ty (r a)) got.3)
          ∙ sym (ap (value_holds o.memory ty) (beside d a (first_or_unset us) r apart))

  -- what is known behind what wrote
  holds_after : (k : RegisterFact) (i : VmInsn) (us : List Value) (o : Outer) → Holds k r w.memory → does i own (map r (reads_of i)) w ≡ Writes us o → Holds (facts_after k i) (set_registers (writes_of i) us r) o.memory
  unfolding Holds
  holds_after k (x.LoadConstant ty d word) us o h e = constant_known ty d word us o e
  holds_after (Zero z) (x.Compare NotEqual ty d a b) us o h e = compare_known z ty d a b us o h e
  holds_after Nothing (x.Compare op ty d a b) us o h e = tt
  holds_after (Tests ty2 d2 a2) (x.Compare op ty d a b) us o h e = tt
  holds_after (Zero z) (x.Compare Equal ty d a b) us o h e = tt
  holds_after (Zero z) (x.Compare Less ty d a b) us o h e = tt
  holds_after (Zero z) (x.Compare LessOrEqual ty d a b) us o h e = tt
  holds_after k (x.LoadAddress d2 place plus) us o h e = tt
  holds_after k (x.Load ty2 d2 p plus) us o h e = tt
  holds_after k (x.Store ty2 p plus b) us o h e = tt
  holds_after k (x.Copy to from size align) us o h e = tt
  holds_after k (x.Unary op ty2 d2 b) us o h e = tt
  holds_after k (x.Binary op ty2 d2 b c) us o h e = tt
  holds_after k (x.Shift op ty2 d2 b c) us o h e = tt
  holds_after k (x.Convert from to d2 b) us o h e = tt
  holds_after k (x.Branch op ty source block) us o h e = tt
  holds_after k (x.Jump block) us o h e = tt
  holds_after k (x.Call d2 c arguments) us o h e = tt
  holds_after k (x.Return value) us o h e = tt
  holds_after k x.Mark us o h e = tt
  holds_after k x.Nop us o h e = tt

-- a call of a function leaves nothing that is known
never_calls : (answer : Answer) (w o : Outer) (g : ℕ) (us : List Value) → writes answer w ≡ Calls g us o → ⊥
never_calls (Gives u) w o g us e = cc
never_calls (TrapsWith code) w o g us e = cc
never_calls Fails w o g us e = cc

calls_known : (own : ℕ) (r : Registers) (w o : Outer) (k : RegisterFact) (i : VmInsn) (g : ℕ) (us : List Value) → does i own (map r (reads_of i)) w ≡ Calls g us o → facts_after k i ≡ Nothing
calls_known own r w o k (x.LoadConstant ty d word) g us e = absurd (never_calls (when_value ty (Word word)) w o g us e)
calls_known own r w o Nothing (x.Compare op ty d a b) g us e = refl
calls_known own r w o (Tests ty2 d2 a2) (x.Compare op ty d a b) g us e = refl
calls_known own r w o (Zero z) (x.Compare NotEqual ty d a b) g us e = absurd (never_calls (compare_answer w.memory NotEqual ty (r a) (r b)) w o g us e)
calls_known own r w o (Zero z) (x.Compare Equal ty d a b) g us e = refl
calls_known own r w o (Zero z) (x.Compare Less ty d a b) g us e = refl
calls_known own r w o (Zero z) (x.Compare LessOrEqual ty d a b) g us e = refl
calls_known own r w o k (x.LoadAddress d2 place plus) g us e = refl
calls_known own r w o k (x.Load ty2 d2 p plus) g us e = refl
calls_known own r w o k (x.Store ty2 p plus b) g us e = refl
calls_known own r w o k (x.Copy to from size align) g us e = refl
calls_known own r w o k (x.Unary op ty2 d2 b) g us e = refl
calls_known own r w o k (x.Binary op ty2 d2 b c) g us e = refl
calls_known own r w o k (x.Shift op ty2 d2 b c) g us e = refl
calls_known own r w o k (x.Convert from to d2 b) g us e = refl
calls_known own r w o k (x.Branch op ty source block) g us e = refl
calls_known own r w o k (x.Jump block) g us e = refl
calls_known own r w o k (x.Call d2 c arguments) g us e = refl
calls_known own r w o k (x.Return value) g us e = refl
calls_known own r w o k x.Mark g us e = refl
calls_known own r w o k x.Nop g us e = refl

-- ---- runs

over_of : Ending → Next Registers
over_of e = Over e

never_undefined : (w : World) (at : ℕ) (e : Ending) → over_of (Undefined w at) ≡ over_of e → HasMeaning e → ⊥
unfolding over_of
never_undefined w at e is meaning = let same : Undefined w at ≡ e = cc in subst HasMeaning (sym same) meaning

known_in : Option (List VmInsn) → ℕ → RegisterFact
known_in None at = Nothing
known_in (Some insns) at = known_from Nothing insns at

blocks_of : Option FunctionCode → ℕ → Option (List VmInsn)
blocks_of None b = None
blocks_of (Some f) b = slice_get f.blocks b

module _ (rooms : Rooms) (fs : List FunctionCode) where
  abbrev gs : List FunctionCode
  gs = map tested_code fs

  known_at : Point → RegisterFact
  known_at p = known_in (blocks_of (slice_get fs p.function) p.block) p.at

  -- nothing is known at the start of a block
  known_start : (o : Option (List VmInsn)) → known_in o 0 ≡ Nothing
  unfolding known_in known_from
  known_start None = refl
  known_start (Some insns) = refl

  WaitAtCalls : List (Frame Registers) → Type 0
  WaitAtCalls [] = Unit {0}
  WaitAtCalls (a ∷ more) = (known_at (next_point a.point) ≡ Nothing) × WaitAtCalls more

  record Good (k : Config Registers) : Type 0 where
    pub holds : Holds (known_at k.here.point) k.here.store k.world.outer.memory
    pub waits : WaitAtCalls k.callers

  nothing_holds : (k : RegisterFact) (r : Registers) (m : Memory) → k ≡ Nothing → Holds k r m
  unfolding Holds
  nothing_holds k r m e = subst (λ j. Holds j r m) (sym e) tt

  sizes_same : (g : ℕ) → sizes_in (slice_get gs g) ≡ sizes_in (slice_get fs g)
  sizes_same g = ap sizes_in (slice_get-map tested_code fs g) ∙ by_function (slice_get fs g)
    where
      by_function : (o : Option FunctionCode) → sizes_in (option_map tested_code o) ≡ sizes_in o
      by_function None = refl
      by_function (Some f) = refl

  -- what stands at a point, before and after
  data Stands (p : Point) : Type 0 where
    Missing : (vm_code fs).site p ≡ None → Stands p
    Behind : (vm_code fs).site p ≡ Some (next_site p.block) → (vm_code gs).site p ≡ Some (next_site p.block) → Stands p
    Insn : (i : VmInsn) → (vm_code fs).site p ≡ Some (insn_site i) → (vm_code gs).site p ≡ Some (insn_site (tested_insn (known_at p) i)) → known_at (next_point p) ≡ facts_after (known_at p) i → Stands p

  stands : (p : Point) → Stands p
  unfolding known_at known_in blocks_of
  stands p = by_function (slice_get fs p.function) refl
    where
      by_function : (o : Option FunctionCode) → slice_get fs p.function ≡ o → Stands p
      by_function None there = Missing (ap (site_in_function p.block p.at) there)
      by_function (Some f) there = by_block (slice_get f.blocks p.block) refl
        where
          after_function : (vm_code gs).site p ≡ site_in_block p.block p.at (option_map tested_block (slice_get f.blocks p.block))
          after_function =
              ap (site_in_function p.block p.at) (slice_get-map tested_code fs p.function ∙ ap (option_map tested_code) there)
              ∙ ap (site_in_block p.block p.at) (slice_get-map tested_block f.blocks p.block)

          by_block : (q : Option (List VmInsn)) → slice_get f.blocks p.block ≡ q → Stands p
          by_block None stood = Missing (ap (site_in_function p.block p.at) there ∙ ap (site_in_block p.block p.at) stood)
          by_block (Some insns) stood = by_insn (slice_get insns p.at) refl
            where
              before_site : (u : Option VmInsn) → slice_get insns p.at ≡ u → (vm_code fs).site p ≡ Some (site_or_next p.block u)
              before_site u at = ap (site_in_function p.block p.at) there ∙ ap (site_in_block p.block p.at) stood ∙ ap (λ z. Some (site_or_next p.block z)) at

              after_site : (u : Option VmInsn) → slice_get insns p.at ≡ u → (vm_code gs).site p ≡ Some (site_or_next p.block (option_map (tested_insn (known_from Nothing insns p.at)) u))
              after_site u at =
                  after_function ∙ ap (λ z. site_in_block p.block p.at (option_map tested_block z)) stood
                  ∙ ap (λ z. Some (site_or_next p.block z)) (tested_get Nothing insns p.at ∙ ap (option_map (tested_insn (known_from Nothing insns p.at))) at)

              known_is : (n : ℕ) → known_in (blocks_of (slice_get fs p.function) p.block) n ≡ known_from Nothing insns n
              known_is n = ap (λ z. known_in (blocks_of z p.block) n) there ∙ ap (λ z. known_in z n) stood

              by_insn : (u : Option VmInsn) → slice_get insns p.at ≡ u → Stands p
              by_insn None at = Behind (before_site None at) (after_site None at)
              by_insn (Some i) at =
                  Insn i (before_site (Some i) at)
                  (after_site (Some i) at ∙ ap (λ k. Some (insn_site (tested_insn k i))) (sym (known_is p.at)))
                  (known_is (suc p.at) ∙ known_next Nothing insns p.at i at ∙ ap (λ k. facts_after k i) (sym (known_is p.at)))

  -- a jump to a block, which nothing is known at
  to_block : (p : Point) (own block : ℕ) (r : Registers) (callers : List (Frame Registers)) (w : World) → WaitAtCalls callers →
      Good (record { here = record { point = block_point p block; own = own; store = r }; callers = callers; world = w })
  unfolding known_at
  to_block p own block r callers w waits = record {
    holds = nothing_holds (known_in (blocks_of (slice_get fs p.function) block) 0) r w.outer.memory (known_start (blocks_of (slice_get fs p.function) block));
    waits = waits;
  }

  -- ---- one step

  module _ (n : ℕ) (e : Ending) (meaning : HasMeaning e) (ih : (k : Config Registers) → Good k → exec Value Registers rooms (vm_code fs) n k ≡ Over e → exec Value Registers rooms (vm_code gs) n k ≡ Over e) where
    abbrev before : Next Registers → Next Registers
    before q = go_on q (exec Value Registers rooms (vm_code fs) n)

    abbrev behind : Next Registers → Next Registers
    behind q = go_on q (exec Value Registers rooms (vm_code gs) n)

    returned : (at at2 : ℕ) (us : List Value) (w w2 : World) (callers : List (Frame Registers)) → w2 ≡ w → WaitAtCalls callers →
        before (return_to Value Registers rooms (vm_code fs) at us w callers) ≡ Over e → behind (return_to Value Registers rooms (vm_code gs) at2 us w2 callers) ≡ Over e
    unfolding WaitAtCalls over_of
    returned at at2 us w w2 [] same waits is = by_status (result_status us) refl
      where
        by_status : (o : Option ℕ) → result_status us ≡ o → behind (return_to Value Registers rooms (vm_code gs) at2 us w2 []) ≡ Over e
        by_status None none_ = absurd (never_undefined w at e (sym (ap (λ o. before (Over (status_ending Value Registers rooms (vm_code fs) at w o))) none_) ∙ is) meaning)
        by_status (Some status) some =
            ap (λ o. behind (Over (status_ending Value Registers rooms (vm_code gs) at2 w2 o))) some ∙ ap (λ u. over_of (Done u status)) same
            ∙ sym (ap (λ o. before (Over (status_ending Value Registers rooms (vm_code fs) at w o))) some) ∙ is
    returned at at2 us w w2 (a ∷ more) same waits is = by_site (stands a.point)
      where
        goes : (i : VmInsn) → known_at (next_point a.point) ≡ Nothing → Config Registers
        goes i none_ = record { here = record { point = next_point a.point; own = a.own; store = set_registers (writes_of i) us a.store }; callers = more; world = w }

        by_site : Stands a.point → behind (resume Value Registers rooms (vm_code gs) a more w2 us ((vm_code gs).site a.point)) ≡ Over e
        by_site (Missing none_) = absurd (never_undefined w ((vm_code fs).number a.point) e (sym (ap (λ o. before (resume Value Registers rooms (vm_code fs) a more w us o)) none_) ∙ is) meaning)
        by_site (Behind one two) =
            ap (λ o. behind (resume Value Registers rooms (vm_code gs) a more w2 us o)) two
            ∙ ap (λ u. exec Value Registers rooms (vm_code gs) n (record { here = record { point = next_point a.point; own = a.own; store = a.store }; callers = more; world = u })) same
            ∙ ih (record { here = record { point = next_point a.point; own = a.own; store = a.store }; callers = more; world = w })
            (record { holds = nothing_holds (known_at (next_point a.point)) a.store w.outer.memory waits.0; waits = waits.1 })
            (sym (ap (λ o. before (resume Value Registers rooms (vm_code fs) a more w us o)) one) ∙ is)
        by_site (Insn i one two next) =
            ap (λ o. behind (resume Value Registers rooms (vm_code gs) a more w2 us o)) two
            ∙ ap (λ l. exec Value Registers rooms (vm_code gs) n (record { here = record { point = next_point a.point; own = a.own; store = set_registers l us a.store }; callers = more; world = w2 })) (seen_is (known_at a.point) i).writes
            ∙ ap (λ u. exec Value Registers rooms (vm_code gs) n (record { here = record { point = next_point a.point; own = a.own; store = set_registers (writes_of i) us a.store }; callers = more; world = u })) same
            ∙ ih (record { here = record { point = next_point a.point; own = a.own; store = set_registers (writes_of i) us a.store }; callers = more; world = w })
            (record { holds = nothing_holds (known_at (next_point a.point)) (set_registers (writes_of i) us a.store) w.outer.memory waits.0; waits = waits.1 })
            (sym (ap (λ o. before (resume Value Registers rooms (vm_code fs) a more w us o)) one) ∙ is)

    module _ (k : Config Registers) (good : Good k) (i : VmInsn) (next : known_at (next_point k.here.point) ≡ facts_after (known_at k.here.point) i) where
      j : VmInsn
      j = tested_insn (known_at k.here.point) i

      acted : (m : Meter) (a : Act Value) → does i k.here.own (map k.here.store (reads_of i)) k.world.outer ≡ a →
          before (act_on Value Registers rooms (vm_code fs) k m (insn_site i) a) ≡ Over e → behind (act_on Value Registers rooms (vm_code gs) k m (insn_site j) a) ≡ Over e
      unfolding j over_of WaitAtCalls
      acted m (Writes us o) act is =
          ap (λ l. exec Value Registers rooms (vm_code gs) n (record { here = record { point = next_point k.here.point; own = k.here.own; store = set_registers l us k.here.store }; callers = k.callers; world = whole_world o m })) (seen_is (known_at k.here.point) i).writes
          ∙ ih (record { here = record { point = next_point k.here.point; own = k.here.own; store = set_registers (writes_of i) us k.here.store }; callers = k.callers; world = whole_world o m })
          (record {
            holds = subst (λ q. Holds q (set_registers (writes_of i) us k.here.store) o.memory) (sym next) (holds_after k.here.own k.here.store k.world.outer (known_at k.here.point) i us o good.holds act);
            waits = good.waits;
          }) is
      acted m (Jumps t o) act is = by_target (slice_get (targets_of i) t) refl
        where
          by_target : (q : Option ℕ) → slice_get (targets_of i) t ≡ q → behind (jump_to Value Registers rooms (vm_code gs) k (whole_world o m) (insn_site (tested_insn (known_at k.here.point) i)) (slice_get (targets_of (tested_insn (known_at k.here.point) i)) t)) ≡ Over e
          by_target None none_ = absurd (never_undefined (whole_world o m) ((vm_code fs).number k.here.point) e (sym (ap (λ q. before (jump_to Value Registers rooms (vm_code fs) k (whole_world o m) (insn_site i) q)) none_) ∙ is) meaning)
          by_target (Some block) some =
              ap (λ l. behind (jump_to Value Registers rooms (vm_code gs) k (whole_world o m) (insn_site (tested_insn (known_at k.here.point) i)) (slice_get l t))) (seen_is (known_at k.here.point) i).targets
              ∙ ap (λ q. behind (jump_to Value Registers rooms (vm_code gs) k (whole_world o m) (insn_site (tested_insn (known_at k.here.point) i)) q)) some
              ∙ ap (λ l. exec Value Registers rooms (vm_code gs) n (record { here = record { point = block_point k.here.point block; own = k.here.own; store = set_registers l [] k.here.store }; callers = k.callers; world = whole_world o m })) (seen_is (known_at k.here.point) i).writes
              ∙ ih (record { here = record { point = block_point k.here.point block; own = k.here.own; store = set_registers (writes_of i) [] k.here.store }; callers = k.callers; world = whole_world o m })
              (to_block k.here.point k.here.own block (set_registers (writes_of i) [] k.here.store) k.callers (whole_world o m) good.waits)
              (sym (ap (λ q. before (jump_to Value Registers rooms (vm_code fs) k (whole_world o m) (insn_site i) q)) some) ∙ is)
      acted m (Calls g us o) act is =
          let u : World = whole_world (begin_locals o (sizes_in (slice_get fs g))) (enter_call rooms g m) in
          let start_frame : Frame Registers = record { point = record { function = g; block = 0; at = 0 }; own = length o.memory; store = registers_of us } in
          ap (λ sizes. exec Value Registers rooms (vm_code gs) n (record { here = record { point = record { function = g; block = 0; at = 0 }; own = length o.memory; store = registers_of us }; callers = k.here ∷ k.callers; world = whole_world (begin_locals o sizes) (enter_call rooms g m) })) (sizes_same g)
          ∙ ih (record { here = start_frame; callers = k.here ∷ k.callers; world = u })
          (to_block (record { function = g; block = 0; at = 0 }) (length o.memory) 0 (registers_of us) (k.here ∷ k.callers) u
          (next ∙ calls_known k.here.own k.here.store k.world.outer o (known_at k.here.point) i g us act, good.waits)) is
      acted m (Returns us o) act is =
          returned ((vm_code fs).number k.here.point) ((vm_code gs).number k.here.point) us
          (whole_world (end_locals o k.here.own (length (sizes_in (slice_get fs k.here.point.function)))) (leave_call rooms k.here.point.function m))
          (whole_world (end_locals o k.here.own (length (sizes_in (slice_get gs k.here.point.function)))) (leave_call rooms k.here.point.function m)) k.callers
          (ap (λ (sizes : List ℕ). whole_world (end_locals o k.here.own (length sizes)) (leave_call rooms k.here.point.function m)) (sizes_same k.here.point.function)) good.waits is
      acted m (Stops (Exits status) o) act is = is
      acted m (Stops (Traps code) o) act is = is
      acted m (Stops HasNoMeaning o) act is = absurd (never_undefined (whole_world o m) ((vm_code fs).number k.here.point) e is meaning)

      stepped : (before (step_with Value Registers rooms (vm_code fs) k (insn_site i) (turn_if (takes_turn i) k.world.meter)) ≡ Over e) → behind (step_with Value Registers rooms (vm_code gs) k (insn_site j) (turn_if (takes_turn j) k.world.meter)) ≡ Over e
      unfolding j over_of
      stepped is =
          ap (λ b. behind (step_with Value Registers rooms (vm_code gs) k (insn_site (tested_insn (known_at k.here.point) i)) (turn_if b k.world.meter))) (seen_is (known_at k.here.point) i).turn
          ∙ by_turn (turn_if (takes_turn i) k.world.meter) is
        where
          by_turn : (q : Option Meter) → before (step_with Value Registers rooms (vm_code fs) k (insn_site i) q) ≡ Over e → behind (step_with Value Registers rooms (vm_code gs) k (insn_site (tested_insn (known_at k.here.point) i)) q) ≡ Over e
          by_turn None over = over
          by_turn (Some m) over =
              ap (λ a. behind (act_on Value Registers rooms (vm_code gs) k m (insn_site (tested_insn (known_at k.here.point) i)) a)) (seen_acts k.here.own k.here.store k.world.outer (known_at k.here.point) i good.holds)
              ∙ acted m (does i k.here.own (map k.here.store (reads_of i)) k.world.outer) refl over

    step_follows : (k : Config Registers) → Good k → Stands k.here.point → exec Value Registers rooms (vm_code fs) (suc n) k ≡ Over e → exec Value Registers rooms (vm_code gs) (suc n) k ≡ Over e
    unfolding over_of known_at j
    step_follows k good (Missing none_) is =
        absurd (never_undefined k.world ((vm_code fs).number k.here.point) e (sym (ap (λ o. before (step_at Value Registers rooms (vm_code fs) k o)) none_) ∙ is) meaning)
    step_follows k good (Behind one two) is =
        ap (λ o. behind (step_at Value Registers rooms (vm_code gs) k o)) two
        ∙ ih (record { here = record { point = block_point k.here.point (suc k.here.point.block); own = k.here.own; store = k.here.store }; callers = k.callers; world = whole_world k.world.outer k.world.meter })
        (to_block k.here.point k.here.own (suc k.here.point.block) k.here.store k.callers (whole_world k.world.outer k.world.meter) good.waits)
        (sym (ap (λ o. before (step_at Value Registers rooms (vm_code fs) k o)) one) ∙ is)
    step_follows k good (Insn i one two next) is =
        ap (λ o. behind (step_at Value Registers rooms (vm_code gs) k o)) two
        ∙ stepped k good i next (sym (ap (λ o. before (step_at Value Registers rooms (vm_code fs) k o)) one) ∙ is)

  follows : (n : ℕ) (e : Ending) → HasMeaning e → (k : Config Registers) → Good k → exec Value Registers rooms (vm_code fs) n k ≡ Over e → exec Value Registers rooms (vm_code gs) n k ≡ Over e
  follows zero e meaning k good is = absurd (cc)
  follows (suc n) e meaning k good is = step_follows n e meaning (follows n e meaning) k good (stands k.here.point) is

  pub run_follows : (main : ℕ) (w : World) (steps : ℕ) (e : Ending) → HasMeaning e → vm_run rooms fs main w steps ≡ Over e → vm_run rooms (map tested_code fs) main w steps ≡ Over e
  unfolding WaitAtCalls
  run_follows main w steps e meaning is =
      let u : World = whole_world (begin_locals w.outer (sizes_in (slice_get fs main))) (enter_call rooms main w.meter) in
      let first : Frame Registers = record { point = record { function = main; block = 0; at = 0 }; own = length w.outer.memory; store = registers_of [] } in
      ap (λ sizes. exec Value Registers rooms (vm_code gs) steps (record { here = record { point = record { function = main; block = 0; at = 0 }; own = length w.outer.memory; store = registers_of [] }; callers = []; world = whole_world (begin_locals w.outer sizes) (enter_call rooms main w.meter) })) (sizes_same main)
      ∙ follows steps e meaning (record { here = first; callers = []; world = u })
      (to_block (record { function = main; block = 0; at = 0 }) (length w.outer.memory) 0 (registers_of []) [] u tt) is

pub tests_keep : TestsKeepRuns
tests_keep rooms fs main w steps e meaning is = run_follows rooms fs main w steps e meaning is
