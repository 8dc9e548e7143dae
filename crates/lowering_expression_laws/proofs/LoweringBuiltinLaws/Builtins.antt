-- The code of calls of built-in functions.
use Rattle.std.proofs.Common.{◌≡◌, ℕ, suc, ◌<◌, ◌%◌, pos, List, [], ◌∷◌, ◌&&◌, true, Option, Some, None, All, drop, le-leb, refl, sym, ap, ◌∙◌, arith}
use Rattle.std.specs.Prelude.{if◌then◌else◌, slice_get}
use Rattle.mem_model.specs.declared.value.Value.{Value}
use Rattle.mem_model.specs.declared.value.Value.TheVariants.{Word}
use Rattle.mem_model.specs.World.{with_meter, outer_with_memory, next_byte, take_byte, put_byte}
use Rattle.machine_model.specs.Code as machine
use Rattle.bk_arithmetic.specs.declared.integer_type.IntegerType.TheVariants as i
use Rattle.bk_arithmetic.specs.IntegerTypes.{fits}
use Rattle.bk_arithmetic.specs.Words.{extension}
use Rattle.bk_arithmetic.proofs.Fits.{fits-wide}
use Rattle.c_typed_tree.specs.declared.expressions.Builtin.TheVariants.{Putchar, Getchar, Abort, Exit}
use Rattle.c_typed_tree.specs.declared.expressions.Callee.TheVariants.{Builtin}
use Rattle.c_typed_tree.specs.Types.{PlainType, Void}
use Rattle.c_typed_tree.specs.Expressions.{Expr, Call, no_exprs, more_exprs, type_of}
use Rattle.c_semantics.specs.Reasons.{UsesNoValue}
use Rattle.c_semantics.specs.Runs.{CallState, Run, and_then, in_world, with_outer, use_value, use_number, pure, turn, trap, exit}
use Rattle.c_semantics.specs.Objects.{call_result}
use Rattle.c_semantics.specs.Evaluates.{eval, builtin, byte_or_end, put_character, get}
use Rattle.suifvm_ir.specs.declared.insn.VmBuiltin.TheVariants as vi
use Rattle.suifvm_ir.specs.declared.insn.VmCallee.TheVariants as vk
use Rattle.suifvm_ir.specs.declared.insn.VmInsn.{VmInsn}
use Rattle.suifvm_ir.specs.declared.insn.VmInsn.TheVariants as n
use Rattle.suifvm_meaning.specs.Operations as vm
use Rattle.suifvm_meaning.specs.Effect.{input_word, callee_act, fails}
use Rattle.suifvm_meaning.specs.Behave.{set_register}
use Rattle.lowering_code.specs.declared.item.CodeItem.TheVariants.{Plain}
use Rattle.lowering_code.specs.Registers.{register_type, value_register}
use Rattle.lowering_code.specs.Expressions.{plain_of}
use Rattle.lowering_states.specs.Places.{next_place}
use Rattle.lowering_states.specs.Runs.{CodeObservation, finish}
use Rattle.lowering_states.specs.model.Opens.{opens}
use Rattle.lowering_states.proofs.Steps.{meets_same, used_meets, number_meets, turn_meets, turn_less, no_turn, turning_step, turning_over}
use Rattle.lowering_states.proofs.States.{kept_all, kept_temporary, value_at, after_on, fits_temporary, fits_after}
use Rattle.lowering_states.proofs.LoweringValues.Integers.{integer_of-plain, residue_small, signed_word}
use Rattle.lowering_states.proofs.LoweringValues.Operators.{word_true}
use Rattle.lowering_states.proofs.LoweringExpressionPlaces.Behind.{at_plain}
use Rattle.lowering_expression_laws.specs.Parts.{Setting, first_depth, Fit, Aft, ExprMeets}
use Rattle.lowering_expression_laws.proofs.Forms.{held_word, word_in, bound_run}

-- a byte is a word of `int`
byte_word : (k : ℕ) → k < 256 → extension i.Int k ≡ k
byte_word k lt =
    let f : fits i.Int (pos k) ≡ true = le-leb k 2147483647 (omega (arith, lt)) in
    let small = residue_small k (omega (arith, lt)) in
    ap (extension i.Int) (sym small) ∙ signed_word i.Int (pos k) refl (fits-wide i.Int (pos k) refl f) f ∙ small

below : (k : ℕ) → k % 256 < 256
below k = omega arith

-- what is left of bytes is bytes
bytes_left : (input : List ℕ) → All (λ b. b < 256) input → All (λ b. b < 256) (drop 1 input)
bytes_left [] all = all
bytes_left (b ∷ input) all = λ k d lt. all (suc k) d (omega (arith, lt))

-- the next byte, or the end, as a word
next_is : (x : Option ℕ) → byte_or_end x ≡ input_word x
next_is None = refl
next_is (Some b) = refl

next_word : (input : List ℕ) → All (λ b. b < 256) input → extension i.Int (byte_or_end (slice_get input 0)) ≡ byte_or_end (slice_get input 0)
next_word [] all = refl
next_word (b ∷ input) all = byte_word b (all 0 0 (omega arith))

module _ (c : Setting) (found : slice_get c.functions c.number ≡ Some c.code) where
  abbrev L : ℕ
  L = first_depth c

  abbrev T : PlainType
  T = plain_of i.Int

  -- the value of a call as `int` holds it
  result_is : (k : ℕ) (s : CallState) (K : Value → CallState → CodeObservation) → extension i.Int k ≡ k → finish (call_result T (Word k) s) K ≡ K (Word k) s
  unfolding opens
  result_is k s K e = ap (λ z. K (Word (extension z k)) s) (integer_of-plain i.Int) ∙ ap (λ z. K (Word z) s) e

  pub getchar : ExprMeets c (Call T (Builtin Getchar) no_exprs)
  unfolding opens
  getchar = record {
    by = λ d rest heads p f scope r s m K at fit low next.
        let reg = value_register L d T in
        let insn : VmInsn = n.Call (Some reg) (vk.Builtin vi.GetChar) [] in
        let K1 : Value → CallState → CodeObservation = λ v u. finish (call_result T v u) K in
        let k = byte_or_end (next_byte s.world.outer) in
        let word : extension i.Int k ≡ k = next_word s.world.outer.input fit.bytes in
        bound_run c found (and_then (turn s) (λ _. get)) (call_result T) K p r s.world m
        (bound_run c found (turn s) (λ _. get) K1 p r s.world m
        (turn_meets c.rooms c.functions s (λ _ t. finish (get t) K1) _
        (λ mt some.
        let t : CallState = in_world s (with_meter s.world mt) in
        let t1 : CallState = with_outer t (take_byte s.world.outer) in
        let less = turn_less s.world.meter mt some in
        let aft : Aft c f s m f t1 m = record { names = λ o q e. e; lives = λ o. refl; sizes = λ o l. refl; locals = λ q size h. h; turned = omega (arith, less) } in
        let fit1 : Fit c f scope r t1 m = fits_after aft fit.memory (bytes_left s.world.outer.input fit.bytes) fit in
        turning_step c.rooms c.functions c.number c.code found c.own c.waiting insn p r s.world t1.world m m mt (Word k ∷ []) at.has.0 refl some
        (ap (λ z. machine.Writes (Word z ∷ []) (outer_with_memory t1.world.outer m)) (sym (next_is (next_byte s.world.outer)))) refl
        (meets_same c.rooms c.functions (result_is k t1 K word)
        (next (next_place p) (Word k) f t1 (set_register reg (Word k) r) m (at_plain c.code.blocks c.last c.end insn at) aft (fits_temporary d (register_type T) (Word k) fit1)
        (kept_temporary d (register_type T) (Word k) (omega arith) kept_all) (held_word i.Int k (word_true i.Int k word)) (value_at f (Word k) (Word k) r reg refl))))
        (λ none. no_turn c.rooms c.functions c.number c.code found c.own c.waiting insn p r s.world m at.has.0 refl none refl)));
  }

  pub putchar : (x : Expr) → type_of x ≡ T → ExprMeets c x → ExprMeets c (Call T (Builtin Putchar) (more_exprs x no_exprs))
  unfolding opens
  putchar x ex hx = record {
    by = λ d rest heads p f scope r s m K at fit low next.
        let reg = value_register L d T in
        let from = value_register L d (type_of x) in
        let insn : VmInsn = n.Call (Some reg) (vk.Builtin vi.PutChar) (from ∷ []) in
        let K1 : Value → CallState → CodeObservation = λ v u. finish (call_result T v u) K in
        let K2 : List Value → CallState → CodeObservation = λ vs u. finish (builtin Putchar vs u) K1 in
        let more : Value → Run (List Value) = λ v. pure (v ∷ []) in
        bound_run c found (and_then (and_then (and_then (eval c.structs c.locals c.calls scope x s) (use_value UsesNoValue)) more) (builtin Putchar)) (call_result T) K p r s.world m
        (bound_run c found (and_then (and_then (eval c.structs c.locals c.calls scope x s) (use_value UsesNoValue)) more) (builtin Putchar) K1 p r s.world m
        (bound_run c found (and_then (eval c.structs c.locals c.calls scope x s) (use_value UsesNoValue)) more K2 p r s.world m
        (bound_run c found (eval c.structs c.locals c.calls scope x s) (use_value UsesNoValue) (λ v t. K2 (v ∷ []) t) p r s.world m
        (hx.by d (Plain insn ∷ rest) heads p f scope r s m (λ v t. finish (use_value UsesNoValue v t) (λ v t. K2 (v ∷ []) t)) at fit low
        (λ q v g t q1 m1 at1 aft fit1 kept held stands.
        used_meets c.rooms c.functions UsesNoValue v t (λ v t. K2 (v ∷ []) t) _ (λ set.
        bound_run c found (use_number v t) (λ k u. and_then (turn u) (λ _. put_character k)) K1 q q1 t.world m1
        (number_meets c.rooms c.functions v t (λ k u. finish (and_then (turn u) (λ _. put_character k)) K1) _ (λ k is.
        let one = word_in g L d (type_of x) i.Int v k q1 ex is held stands in
        let at_from : q1 from ≡ Word k = ap (λ z. q1 (value_register L d z)) ex ∙ one.stands in
        bound_run c found (turn t) (λ _. put_character k) K1 q q1 t.world m1
        (turn_meets c.rooms c.functions t (λ _ u. finish (put_character k u) K1) _
        (λ mt some.
        let b = k % 256 in
        let t1 : CallState = with_outer (in_world t (with_meter t.world mt)) (put_byte t.world.outer b) in
        let less = turn_less t.world.meter mt some in
        let aft1 : Aft c g t m1 g t1 m1 = record { names = λ o a e. e; lives = λ o. refl; sizes = λ o l. refl; locals = λ a size h. h; turned = omega (arith, less) } in
        let fit2 : Fit c g scope q1 t1 m1 = fits_after aft1 fit1.memory fit1.bytes fit1 in
        let word = byte_word b (below k) in
        turning_step c.rooms c.functions c.number c.code found c.own c.waiting insn q q1 t.world t1.world m1 m1 mt (Word b ∷ []) at1.has.0 refl some
        (ap (λ z. if vm.is_set z && true then callee_act (vk.Builtin vi.PutChar) (z ∷ []) (outer_with_memory t.world.outer m1) else fails (outer_with_memory t.world.outer m1)) at_from) refl
        (meets_same c.rooms c.functions (result_is b t1 K word)
        (next (next_place q) (Word b) g t1 (set_register reg (Word b) q1) m1 (at_plain c.code.blocks c.last c.end insn at1) (after_on {n1 = m1} aft aft1) (fits_temporary d (register_type T) (Word b) fit2)
        (kept_temporary d (register_type T) (Word b) (omega arith) kept) (held_word i.Int b (word_true i.Int b word)) (value_at g (Word b) (Word b) q1 reg refl))))
        (λ none. no_turn c.rooms c.functions c.number c.code found c.own c.waiting insn q q1 t.world m1 at1.has.0 refl none refl))))))))));
  }

  pub abort : ExprMeets c (Call Void (Builtin Abort) no_exprs)
  unfolding opens
  abort = record {
    by = λ d rest heads p f scope r s m K at fit low next.
        let insn : VmInsn = n.Call None (vk.Builtin vi.Abort) [] in
        let K1 : Value → CallState → CodeObservation = λ v u. finish (call_result Void v u) K in
        bound_run c found (and_then (turn s) (λ _. trap 2)) (call_result Void) K p r s.world m
        (bound_run c found (turn s) (λ _. trap 2) K1 p r s.world m
        (turn_meets c.rooms c.functions s (λ _ t. finish (trap {A = Value} 2 t) K1) _
        (λ mt some. turning_over c.rooms c.functions c.number c.code found c.own c.waiting insn p r s.world m mt (machine.Traps 2) at.has.0 refl some refl refl)
        (λ none. no_turn c.rooms c.functions c.number c.code found c.own c.waiting insn p r s.world m at.has.0 refl none refl)));
  }

  pub exits : (x : Expr) → type_of x ≡ T → ExprMeets c x → ExprMeets c (Call Void (Builtin Exit) (more_exprs x no_exprs))
  unfolding opens
  exits x ex hx = record {
    by = λ d rest heads p f scope r s m K at fit low next.
        let from = value_register L d (type_of x) in
        let insn : VmInsn = n.Call None (vk.Builtin vi.Exit) (from ∷ []) in
        let K1 : Value → CallState → CodeObservation = λ v u. finish (call_result Void v u) K in
        let K2 : List Value → CallState → CodeObservation = λ vs u. finish (builtin Exit vs u) K1 in
        let more : Value → Run (List Value) = λ v. pure (v ∷ []) in
        bound_run c found (and_then (and_then (and_then (eval c.structs c.locals c.calls scope x s) (use_value UsesNoValue)) more) (builtin Exit)) (call_result Void) K p r s.world m
        (bound_run c found (and_then (and_then (eval c.structs c.locals c.calls scope x s) (use_value UsesNoValue)) more) (builtin Exit) K1 p r s.world m
        (bound_run c found (and_then (eval c.structs c.locals c.calls scope x s) (use_value UsesNoValue)) more K2 p r s.world m
        (bound_run c found (eval c.structs c.locals c.calls scope x s) (use_value UsesNoValue) (λ v t. K2 (v ∷ []) t) p r s.world m
        (hx.by d (Plain insn ∷ rest) heads p f scope r s m (λ v t. finish (use_value UsesNoValue v t) (λ v t. K2 (v ∷ []) t)) at fit low
        (λ q v g t q1 m1 at1 aft fit1 kept held stands.
        used_meets c.rooms c.functions UsesNoValue v t (λ v t. K2 (v ∷ []) t) _ (λ set.
        bound_run c found (use_number v t) (λ k u. and_then (turn u) (λ _. exit k)) K1 q q1 t.world m1
        (number_meets c.rooms c.functions v t (λ k u. finish (and_then (turn u) (λ _. exit k)) K1) _ (λ k is.
        let one = word_in g L d (type_of x) i.Int v k q1 ex is held stands in
        let at_from : q1 from ≡ Word k = ap (λ z. q1 (value_register L d z)) ex ∙ one.stands in
        bound_run c found (turn t) (λ _. exit k) K1 q q1 t.world m1
        (turn_meets c.rooms c.functions t (λ _ u. finish (exit {A = Value} k u) K1) _
        (λ mt some.
        turning_over c.rooms c.functions c.number c.code found c.own c.waiting insn q q1 t.world m1 mt (machine.Exits (k % 256)) at1.has.0 refl some
        (ap (λ z. if vm.is_set z && true then callee_act (vk.Builtin vi.Exit) (z ∷ []) (outer_with_memory t.world.outer m1) else fails (outer_with_memory t.world.outer m1)) at_from) refl)
        (λ none. no_turn c.rooms c.functions c.number c.code found c.own c.waiting insn q q1 t.world m1 at1.has.0 refl none refl))))))))));
  }
