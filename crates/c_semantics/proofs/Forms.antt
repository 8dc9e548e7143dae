-- Every relation between runs that is kept where runs are put together is kept by every form of the language: one
-- lemma for each access, operator and conversion, and one line for each form of expression and statement.
use Rattle.std.proofs.Common.{ℕ, List, [], ◌∷◌, Bool, true, false, Option, Some, None, suc, if◌then◌else◌}
use Rattle.std.specs.Prelude.{ℤ, pos, int_rem, not, ◌==◌, Result, Ok, Err, slice_get, take}
use Rattle.std.specs.Ordering.{int_eq}
use Rattle.mem_model.specs.declared.value.Ptr.{Ptr}
use Rattle.mem_model.specs.declared.value.Value.{Value}
use Rattle.mem_model.specs.declared.value.Value.TheVariants.{Word, Address, Unset}
use Rattle.mem_model.specs.declared.value.MemFault.{MemFault}
use Rattle.mem_model.specs.Memory.{Memory, load_at, store_at, copy_at, overlaps}
use Rattle.mem_model.specs.Pointers.{is_live, pointer_plus, pointer_lt, pointer_le, pointer_eq}
use Rattle.bk_arithmetic.specs.declared.integer_type.IntegerType.{IntegerType}
use Rattle.bk_arithmetic.specs.declared.outcome.ArithmeticOutcome.{ArithmeticOutcome}
use Rattle.c_tree.specs.declared.expressions.BinaryOp.{BinaryOp}
use Rattle.c_tree.specs.declared.expressions.StepOp.{StepOp}
use Rattle.c_typed_tree.specs.declared.types.StructDef.{StructDef}
use Rattle.c_typed_tree.specs.declared.units.Local.{Local}
use Rattle.c_typed_tree.specs.Types.{PlainType, Void, Int, Pointer, Array, Struct}
use Rattle.c_typed_tree.specs.Layout.{size_of, align_of}
use Rattle.c_semantics.specs.Reasons.{Reason, ComparesApart, ComparesAtEnd}
use Rattle.c_semantics.specs.Runs as r
use Rattle.c_semantics.specs.Evaluates as w
use Rattle.c_semantics.specs.Runs.{Run, CallState, ◌>>=◌, pure, undefined_behaviour, trap, exit, turn, on_memory, set_memory, or_undefined, use_value, use_number, read_register, write_register}
use Rattle.c_semantics.specs.Objects.{ValuePlace, Register, At, Scope, integer_or_word, access, load, store, copy_cells, copy, integer_value, as_held, call_result, read_at, read, write_at, write, place_pointer, move_reason, move, element_plus, move_elements, move_by, local_place, with_local, with_locals, offset_of, no_scope, with_local_object}
use Rattle.c_semantics.specs.Operators.{unless_dead, outcome, integers, convert_word, compare_by, pure_truth, bytes_between, distance, pointers, pointer_and_integer, with_integer, with_pointer, apply_binary, apply_unary, test_in, test, convert, operation_type, combined_in, combine, step_operator, one_type, step_value, operator_of}
use Rattle.mem_model.specs.World.{Rooms}
use Rattle.c_typed_tree.specs.declared.expressions.Builtin.{Builtin}
use Rattle.c_typed_tree.specs.declared.expressions.Callee.{Callee}
use Rattle.c_typed_tree.specs.declared.units.TypedFn.{TypedFn}
use Rattle.c_typed_tree.specs.Expressions.{Expr, Number, Global, Call, Unary, Binary, Assign, Conditional, Cast, Convert, Index, Field, Arrow, Postfix, Comma, Exprs, no_exprs, more_exprs, type_of}
use Rattle.c_typed_tree.specs.Statements.{LocalDeclaration, First, Stmt, Else, no_else, else_stmt, Stmts, no_stmts, more_stmts, Sections, no_sections, more_sections}
use Rattle.c_typed_tree.specs.View.{type_view, stmt_view}
use Rattle.c_semantics.specs.Evaluates.{put_character, get, builtin, Functions, run_call, element_pointer, member_pointer, target_of, update, assign_value, choose, converted_from, eval, place, evals, value_of_last}
use Rattle.c_semantics.specs.Executes.{StatementFlow, Goes, Breaks, Continues, Returns, after_body, and_next, after_switch, declared_in, declared_first, is_chosen_label, target_in, with_parameters, value_of_call, body_of, holds, loop_condition, loop_step, initialise_object, run_declaration, run_declarations, first, flow_of_return, exec, exec_else, execs, exec_sections, exec_from, within_call, Level, call_with_turn}
use Rattle.c_typed_tree.specs.Lawful.{is_main}
use Rattle.bk_arithmetic.specs.declared.outcome.ArithmeticOutcome.TheVariants as o
use Rattle.c_tree.specs.declared.expressions.UnaryOp.TheVariants as u
use Rattle.c_tree.specs.declared.expressions.BinaryOp.TheVariants as b
use Rattle.c_tree.specs.declared.expressions.StepOp.TheVariants as s
use Rattle.c_typed_tree.specs.declared.expressions.Builtin.TheVariants as i
use Rattle.c_typed_tree.specs.declared.expressions.Callee.TheVariants as c
use Rattle.c_typed_tree.specs.Expressions as e
use Rattle.c_typed_tree.specs.Statements as q

-- the ways in which runs are put together
pub record Congruence (R : (A : Type 0) → Run A → Run A → Type 0) : Type 1 where
  pub bind : {A B : Type 0} {m m' : Run A} {k k' : A → Run B} → R A m m' → ((a : A) → R B (k a) (k' a)) → R B (m >>= k) (m' >>= k')
  pub pure : {A : Type 0} (a : A) → R A (r.pure a) (r.pure a)
  pub undefined : {A : Type 0} (reason : Reason) → R A (r.undefined_behaviour reason) (r.undefined_behaviour reason)
  pub trap : {A : Type 0} (code : ℕ) → R A (r.trap code) (r.trap code)
  pub exit : {A : Type 0} (status : ℕ) → R A (r.exit status) (r.exit status)
  pub memory : (m : Memory) → R (Unit {0}) (set_memory m) (set_memory m)
  pub write : (k : ℕ) (v : Value) → R (Unit {0}) (write_register k v) (write_register k v)
  pub register : (k : ℕ) → R Value (read_register k) (read_register k)
  pub on_memory : {A : Type 0} {k k' : Memory → Run A} → ((m : Memory) → R A (k m) (k' m)) → R A (r.on_memory k) (r.on_memory k')
  pub turn : R (Unit {0}) r.turn r.turn
  pub put : (n : ℕ) → R Value (put_character n) (put_character n)
  pub get : R Value w.get w.get
  pub object : {A : Type 0} (size k : ℕ) {run run' : Scope → Run A} (scope : Scope) → ((inner : Scope) → R A (run inner) (run' inner))
      → R A (with_local_object size k run scope) (with_local_object size k run' scope)
  pub call : {A : Type 0} (rooms : Rooms) (n : ℕ) {run run' : Run A} → R A run run' → R A (within_call rooms n run) (within_call rooms n run')

module _ (R : (A : Type 0) → Run A → Run A → Type 0) (kept : Congruence R) where
  abbrev pub RelatedRuns : {A : Type 0} → Run A → Run A → Type 0
  RelatedRuns {A} c d = R A c d

  abbrev pub Itself : {A : Type 0} → Run A → Type 0
  Itself {A} c = R A c c

  pub steady_known : {A : Type 0} (reason : Reason) (o : Option A) → Itself (or_undefined reason o)
  steady_known reason (Some a) = kept.pure a
  steady_known reason None = kept.undefined reason

  pub steady_used : (reason : Reason) (v : Value) → Itself (use_value reason v)
  steady_used reason (Word n) = kept.pure _
  steady_used reason (Address p) = kept.pure _
  steady_used reason Unset = kept.undefined reason

  pub steady_number : (v : Value) → Itself (use_number v)
  steady_number (Word n) = kept.pure n
  steady_number (Address p) = kept.undefined _
  steady_number Unset = kept.undefined _

  pub related_if : {A : Type 0} (c : Bool) {a a' b b' : Run A} → RelatedRuns a a' → RelatedRuns b b' → RelatedRuns (if c then a else b) (if c then a' else b')
  related_if true g h = g
  related_if false g h = h

  -- ---- access

  pub steady_accessed : {A : Type 0} (r : Result A MemFault) → Itself (access r)
  steady_accessed (Ok a) = kept.pure a
  steady_accessed (Err fault) = kept.undefined _

  pub steady_load : (width : ℕ) (pointer : Bool) (p : Value) → Itself (load width pointer p)
  steady_load width pointer (Address p) = kept.on_memory (λ m. steady_accessed (load_at m p width pointer))
  steady_load width pointer (Word n) = kept.undefined _
  steady_load width pointer Unset = kept.undefined _

  pub steady_store : (width : ℕ) (p v : Value) → Itself (store width p v)
  steady_store width (Address p) v = kept.on_memory (λ m. kept.bind (steady_accessed (store_at m p width v)) kept.memory)
  steady_store width (Word n) v = kept.undefined _
  steady_store width Unset v = kept.undefined _

  pub steady_copied : (m : Memory) (to from : Ptr) (size align : ℕ) → Itself (copy_cells m to from size align)
  steady_copied m to from size align =
      related_if (overlaps to from size) (kept.undefined _) (kept.bind (steady_accessed (copy_at m to from size align)) kept.memory)

  pub steady_copy : (size align : ℕ) (to from : Value) → Itself (copy size align to from)
  steady_copy size align (Address p) (Address q) = kept.on_memory (λ m. steady_copied m p q size align)
  steady_copy size align (Address p) (Word n) = kept.undefined _
  steady_copy size align (Address p) Unset = kept.undefined _
  steady_copy size align (Word n) v = kept.undefined _
  steady_copy size align Unset v = kept.undefined _

  pub steady_held : (t : IntegerType) (v : Value) → Itself (integer_value t v)
  steady_held t v = kept.bind (steady_number v) (λ n. kept.pure _)

  pub steady_read_at : (ty : PlainType) (p : Value) → Itself (read_at ty p)
  steady_read_at Void p = kept.undefined _
  steady_read_at (Int n s) p = kept.bind (steady_load n false p) (steady_held (integer_or_word (Int n s)))
  steady_read_at (Pointer target) p = steady_load 8 true p
  steady_read_at (Array element n) p = kept.pure p
  steady_read_at (Struct n) p = kept.pure p

  pub steady_as_held : (ty : PlainType) (v : Value) → Itself (as_held ty v)
  steady_as_held Void v = kept.pure v
  steady_as_held (Int n s) v = steady_held (integer_or_word (Int n s)) v
  steady_as_held (Pointer target) v = kept.pure v
  steady_as_held (Array element n) v = kept.pure v
  steady_as_held (Struct n) v = kept.pure v

  pub steady_given : (ty : PlainType) (v : Value) → Itself (call_result ty v)
  steady_given ty Unset = kept.pure _
  steady_given ty (Word n) = steady_as_held ty (Word n)
  steady_given ty (Address p) = steady_as_held ty (Address p)

  pub steady_read_place : (ty : PlainType) (p : ValuePlace) → Itself (read ty p)
  steady_read_place ty (Register k) = kept.bind (kept.register k) (steady_as_held ty)
  steady_read_place ty (At p) = steady_read_at ty p

  pub steady_write_at : (ds : List StructDef) (ty : PlainType) (p v : Value) → Itself (write_at ds ty p v)
  steady_write_at ds Void p v = kept.undefined _
  steady_write_at ds (Int n s) p v = kept.bind (steady_used _ v) (steady_store n p)
  steady_write_at ds (Pointer target) p v = kept.bind (steady_used _ v) (steady_store 8 p)
  steady_write_at ds (Array element n) p v = kept.undefined _
  steady_write_at ds (Struct n) p v = steady_copy (size_of ds (Struct n)) (align_of ds (Struct n)) p v

  pub steady_write_place : (ds : List StructDef) (ty : PlainType) (p : ValuePlace) (v : Value) → Itself (write ds ty p v)
  steady_write_place ds ty (Register k) v = kept.bind (steady_used _ v) (kept.write k)
  steady_write_place ds ty (At p) v = steady_write_at ds ty p v

  pub steady_pointer : (p : ValuePlace) → Itself (place_pointer p)
  steady_pointer (Register k) = kept.undefined _
  steady_pointer (At p) = kept.pure p

  pub steady_move : (p : Value) (by : ℤ) → Itself (move p by)
  steady_move p by = kept.on_memory (λ m. steady_known (move_reason m p) (pointer_plus m p by))

  pub steady_move_elements : (p : Value) (by : ℤ) → Itself (move_elements p by)
  steady_move_elements p by = kept.on_memory (λ m. steady_known (move_reason m p) (element_plus m p by))

  pub steady_move_by : (ds : List StructDef) (element : PlainType) (t : IntegerType) (p v : Value) → Itself (move_by ds element t p v)
  steady_move_by ds element t p v = kept.bind (steady_number v) (λ n. steady_move_elements p _)

  pub steady_local : (scope : Scope) (k : ℕ) (l : Option Local) → Itself (local_place scope k l)
  steady_local scope k None = kept.undefined _
  steady_local scope k (Some l) = related_if l.in_memory (kept.bind (steady_known _ (scope k)) (λ o. kept.pure _)) (kept.pure _)

  -- ---- operators

  pub steady_outcome : (r : ArithmeticOutcome) → Itself (outcome r)
  steady_outcome (o.Word n) = kept.pure _
  steady_outcome (o.Trap code) = kept.trap code
  steady_outcome o.Undefined = kept.undefined _

  pub steady_integers : (op : BinaryOp) (t c : IntegerType) (v w : Value) → Itself (integers op t c v w)
  steady_integers op t c v w = kept.bind (steady_number v) (λ x. kept.bind (steady_number w) (λ y. steady_outcome _))

  pub steady_converted : (from to : IntegerType) (v : Value) → Itself (convert_word from to v)
  steady_converted from to v = kept.bind (steady_number v) (λ n. kept.pure _)

  pub steady_compared : (reason : Reason) (f : Memory → Value → Value → Option Bool) (v w : Value) → Itself (compare_by reason f v w)
  steady_compared reason f v w = kept.on_memory (λ m. steady_known _ (f m v w))

  pub steady_truth : (c : Bool) → Itself (pure_truth c)
  steady_truth c = kept.pure _

  pub steady_distance : (ds : List StructDef) (element : PlainType) (v w : Value) → Itself (distance ds element v w)
  steady_distance ds element v w =
      kept.bind (kept.on_memory (λ m. steady_known (unless_dead m v w ComparesApart) (bytes_between m v w)))
      (λ z. related_if (size_of ds element == 0) (kept.undefined _)
      (related_if (int_eq (int_rem z (pos (size_of ds element))) (pos 0)) (kept.pure _) (kept.undefined _)))

  pub steady_pointers : (ds : List StructDef) (op : BinaryOp) (element : PlainType) (v w : Value) → Itself (pointers ds op element v w)
  steady_pointers ds b.LogicalOr element v w = kept.undefined _
  steady_pointers ds b.LogicalAnd element v w = kept.undefined _
  steady_pointers ds b.Or element v w = kept.undefined _
  steady_pointers ds b.Xor element v w = kept.undefined _
  steady_pointers ds b.And element v w = kept.undefined _
  steady_pointers ds b.Equal element v w = kept.bind (steady_compared ComparesAtEnd pointer_eq v w) steady_truth
  steady_pointers ds b.NotEqual element v w = kept.bind (steady_compared ComparesAtEnd pointer_eq v w) (λ same. steady_truth (not same))
  steady_pointers ds b.Less element v w = kept.bind (steady_compared ComparesApart pointer_lt v w) steady_truth
  steady_pointers ds b.Greater element v w = kept.bind (steady_compared ComparesApart pointer_lt w v) steady_truth
  steady_pointers ds b.LessEqual element v w = kept.bind (steady_compared ComparesApart pointer_le v w) steady_truth
  steady_pointers ds b.GreaterEqual element v w = kept.bind (steady_compared ComparesApart pointer_le w v) steady_truth
  steady_pointers ds b.ShiftLeft element v w = kept.undefined _
  steady_pointers ds b.ShiftRight element v w = kept.undefined _
  steady_pointers ds b.Add element v w = kept.undefined _
  steady_pointers ds b.Subtract element v w = steady_distance ds element v w
  steady_pointers ds b.Multiply element v w = kept.undefined _
  steady_pointers ds b.Divide element v w = kept.undefined _
  steady_pointers ds b.Remainder element v w = kept.undefined _

  pub steady_pointer_and_integer : (ds : List StructDef) (op : BinaryOp) (element : PlainType) (t : IntegerType) (v w : Value) → Itself (pointer_and_integer ds op element t v w)
  steady_pointer_and_integer ds b.LogicalOr element t v w = kept.undefined _
  steady_pointer_and_integer ds b.LogicalAnd element t v w = kept.undefined _
  steady_pointer_and_integer ds b.Or element t v w = kept.undefined _
  steady_pointer_and_integer ds b.Xor element t v w = kept.undefined _
  steady_pointer_and_integer ds b.And element t v w = kept.undefined _
  steady_pointer_and_integer ds b.Equal element t v w = kept.undefined _
  steady_pointer_and_integer ds b.NotEqual element t v w = kept.undefined _
  steady_pointer_and_integer ds b.Less element t v w = kept.undefined _
  steady_pointer_and_integer ds b.Greater element t v w = kept.undefined _
  steady_pointer_and_integer ds b.LessEqual element t v w = kept.undefined _
  steady_pointer_and_integer ds b.GreaterEqual element t v w = kept.undefined _
  steady_pointer_and_integer ds b.ShiftLeft element t v w = kept.undefined _
  steady_pointer_and_integer ds b.ShiftRight element t v w = kept.undefined _
  steady_pointer_and_integer ds b.Add element t v w = steady_move_by ds element t v w
  steady_pointer_and_integer ds b.Subtract element t v w = kept.bind (steady_number w) (λ n. steady_move_elements v _)
  steady_pointer_and_integer ds b.Multiply element t v w = kept.undefined _
  steady_pointer_and_integer ds b.Divide element t v w = kept.undefined _
  steady_pointer_and_integer ds b.Remainder element t v w = kept.undefined _

  pub steady_with_integer : (ds : List StructDef) (op : BinaryOp) (t : IntegerType) (right : PlainType) (v w : Value) → Itself (with_integer ds op t right v w)
  steady_with_integer ds op t Void v w = steady_integers op t _ v w
  steady_with_integer ds op t (Int n s) v w = steady_integers op t _ v w
  steady_with_integer ds op t (Pointer element) v w = steady_pointer_and_integer ds op element t w v
  steady_with_integer ds op t (Array element n) v w = steady_integers op t _ v w
  steady_with_integer ds op t (Struct n) v w = steady_integers op t _ v w

  pub steady_with_pointer : (ds : List StructDef) (op : BinaryOp) (element right : PlainType) (v w : Value) → Itself (with_pointer ds op element right v w)
  steady_with_pointer ds op element Void v w = steady_pointer_and_integer ds op element _ v w
  steady_with_pointer ds op element (Int n s) v w = steady_pointer_and_integer ds op element _ v w
  steady_with_pointer ds op element (Pointer other) v w = steady_pointers ds op element v w
  steady_with_pointer ds op element (Array other n) v w = steady_pointer_and_integer ds op element _ v w
  steady_with_pointer ds op element (Struct n) v w = steady_pointer_and_integer ds op element _ v w

  pub steady_binary : (ds : List StructDef) (op : BinaryOp) (left right : PlainType) (v w : Value) → Itself (apply_binary ds op left right v w)
  steady_binary ds op Void right v w = kept.undefined _
  steady_binary ds op (Int n s) right v w = steady_with_integer ds op (integer_or_word (Int n s)) right v w
  steady_binary ds op (Pointer element) right v w = steady_with_pointer ds op element right v w
  steady_binary ds op (Array element n) right v w = kept.undefined _
  steady_binary ds op (Struct n) right v w = kept.undefined _

  pub steady_plus : (ty : PlainType) (v : Value) → Itself (apply_unary u.Plus ty v)
  steady_plus ty v = steady_used _ v

  pub steady_minus : (ty : PlainType) (v : Value) → Itself (apply_unary u.Minus ty v)
  steady_minus ty v = kept.bind (steady_number v) (λ n. steady_outcome _)

  pub steady_invert : (ty : PlainType) (v : Value) → Itself (apply_unary u.Invert ty v)
  steady_invert ty v = kept.bind (steady_number v) (λ n. kept.pure _)

  pub steady_test_in : (m : Memory) (v : Value) → Itself (test_in m v)
  steady_test_in m (Word n) = kept.pure _
  steady_test_in m (Address p) = related_if (is_live m p) (kept.pure true) (kept.undefined _)
  steady_test_in m Unset = kept.undefined _

  pub steady_test : (v : Value) → Itself (test v)
  steady_test v = kept.on_memory (λ m. steady_test_in m v)

  pub steady_convert : (from to : PlainType) (v : Value) → Itself (convert from to v)
  steady_convert Void Void v = kept.pure _
  steady_convert Void (Int m r) v = steady_used _ v
  steady_convert Void (Pointer u) v = steady_used _ v
  steady_convert Void (Array u m) v = steady_used _ v
  steady_convert Void (Struct m) v = steady_used _ v
  steady_convert (Int n s) Void v = kept.pure _
  steady_convert (Int n s) (Int m r) v = steady_converted (integer_or_word (Int n s)) (integer_or_word (Int m r)) v
  steady_convert (Int n s) (Pointer u) v = steady_used _ v
  steady_convert (Int n s) (Array u m) v = steady_used _ v
  steady_convert (Int n s) (Struct m) v = steady_used _ v
  steady_convert (Pointer t) Void v = kept.pure _
  steady_convert (Pointer t) (Int m r) v = steady_used _ v
  steady_convert (Pointer t) (Pointer u) v = steady_used _ v
  steady_convert (Pointer t) (Array u m) v = steady_used _ v
  steady_convert (Pointer t) (Struct m) v = steady_used _ v
  steady_convert (Array t n) Void v = kept.pure _
  steady_convert (Array t n) (Int m r) v = steady_used _ v
  steady_convert (Array t n) (Pointer u) v = steady_used _ v
  steady_convert (Array t n) (Array u m) v = steady_used _ v
  steady_convert (Array t n) (Struct m) v = steady_used _ v
  steady_convert (Struct n) Void v = kept.pure _
  steady_convert (Struct n) (Int m r) v = steady_used _ v
  steady_convert (Struct n) (Pointer u) v = steady_used _ v
  steady_convert (Struct n) (Array u m) v = steady_used _ v
  steady_convert (Struct n) (Struct m) v = steady_used _ v

  pub steady_combined_in : (op : BinaryOp) (t left right : IntegerType) (v w : Value) → Itself (combined_in op t left right v w)
  steady_combined_in op t left right v w =
      kept.bind (steady_converted left t v) (λ x. kept.bind (steady_integers op t right x w) (steady_converted t left))

  pub steady_combined : (ds : List StructDef) (op : BinaryOp) (left right : PlainType) (v w : Value) → Itself (combine ds op left right v w)
  steady_combined ds op Void right v w = kept.undefined _
  steady_combined ds op (Int n s) right v w =
      steady_combined_in op (operation_type op (integer_or_word (Int n s)) (integer_or_word right)) (integer_or_word (Int n s)) (integer_or_word right) v w
  steady_combined ds op (Pointer element) right v w = steady_pointer_and_integer ds op element (integer_or_word right) v w
  steady_combined ds op (Array element n) right v w = kept.undefined _
  steady_combined ds op (Struct n) right v w = kept.undefined _

  pub steady_stepped : (ds : List StructDef) (op : StepOp) (ty : PlainType) (v : Value) → Itself (step_value ds op ty v)
  steady_stepped ds op ty v = steady_combined ds (step_operator op) ty (one_type ty) v (Word 1)

  -- ---- locals

  pub related_local : {A : Type 0} (ds : List StructDef) (k : ℕ) (l : Option Local) {run run' : Scope → Run A} → ((scope : Scope) → RelatedRuns (run scope) (run' scope))
      → (scope : Scope) → RelatedRuns (with_local ds k l run scope) (with_local ds k l run' scope)
  related_local ds k None g scope = g scope
  related_local ds k (Some l) g scope = related_if l.in_memory (kept.object _ k scope g) (kept.bind (kept.write k Unset) (λ _. g scope))

  pub related_locals : {A : Type 0} (ds : List StructDef) (ls : List Local) (ks : List ℕ) {run run' : Scope → Run A} → ((scope : Scope) → RelatedRuns (run scope) (run' scope))
      → (scope : Scope) → RelatedRuns (with_locals ds ls ks run scope) (with_locals ds ls ks run' scope)
  related_locals ds ls [] g scope = g scope
  related_locals ds ls (k ∷ ks) g scope = related_local ds k (slice_get ls k) (related_locals ds ls ks g) scope

  -- ---- the world outside

  pub steady_builtin : (f : Builtin) (vs : List Value) → Itself (builtin f vs)
  steady_builtin i.Putchar [] = kept.undefined _
  steady_builtin i.Putchar (v ∷ []) = kept.bind (steady_number v) (λ n. kept.bind kept.turn (λ _. kept.put n))
  steady_builtin i.Putchar (v ∷ w ∷ vs) = kept.undefined _
  steady_builtin i.Getchar [] = kept.bind kept.turn (λ _. kept.get)
  steady_builtin i.Getchar (v ∷ vs) = kept.undefined _
  steady_builtin i.Abort [] = kept.bind kept.turn (λ _. kept.trap 2)
  steady_builtin i.Abort (v ∷ vs) = kept.undefined _
  steady_builtin i.Exit [] = kept.undefined _
  steady_builtin i.Exit (v ∷ []) = kept.bind (steady_number v) (λ n. kept.bind kept.turn (λ _. kept.exit n))
  steady_builtin i.Exit (v ∷ w ∷ vs) = kept.undefined _

  -- ---- places and choices

  pub steady_element : (ds : List StructDef) (left right : PlainType) (v w : Value) → Itself (element_pointer ds left right v w)
  steady_element ds (Pointer t) right v w = steady_move_by ds t (integer_or_word right) v w
  steady_element ds Void Void v w = kept.undefined _
  steady_element ds Void (Int m r) v w = kept.undefined _
  steady_element ds Void (Pointer u) v w = steady_move_by ds u (integer_or_word Void) w v
  steady_element ds Void (Array u m) v w = kept.undefined _
  steady_element ds Void (Struct m) v w = kept.undefined _
  steady_element ds (Int n s) Void v w = kept.undefined _
  steady_element ds (Int n s) (Int m r) v w = kept.undefined _
  steady_element ds (Int n s) (Pointer u) v w = steady_move_by ds u (integer_or_word (Int n s)) w v
  steady_element ds (Int n s) (Array u m) v w = kept.undefined _
  steady_element ds (Int n s) (Struct m) v w = kept.undefined _
  steady_element ds (Array t n) Void v w = kept.undefined _
  steady_element ds (Array t n) (Int m r) v w = kept.undefined _
  steady_element ds (Array t n) (Pointer u) v w = steady_move_by ds u (integer_or_word (Array t n)) w v
  steady_element ds (Array t n) (Array u m) v w = kept.undefined _
  steady_element ds (Array t n) (Struct m) v w = kept.undefined _
  steady_element ds (Struct n) Void v w = kept.undefined _
  steady_element ds (Struct n) (Int m r) v w = kept.undefined _
  steady_element ds (Struct n) (Pointer u) v w = steady_move_by ds u (integer_or_word (Struct n)) w v
  steady_element ds (Struct n) (Array u m) v w = kept.undefined _
  steady_element ds (Struct n) (Struct m) v w = kept.undefined _

  pub related_update : (ds : List StructDef) (ty : PlainType) {change : Value → Run Value} (pick : Value → Value → Value) → ((v : Value) → Itself (change v))
      → (p : ValuePlace) → Itself (update ds ty change pick p)
  related_update ds ty pick g p =
      kept.bind (steady_read_place ty p) (λ v. kept.bind (g v) (λ w. kept.bind (steady_write_place ds ty p w) (λ _. kept.pure _)))

  pub steady_assign : (ds : List StructDef) (left right : PlainType) (op : Option BinaryOp) (p : ValuePlace) (v : Value) → Itself (assign_value ds left right op p v)
  steady_assign ds left right None p v = kept.bind (steady_write_place ds left p v) (λ _. kept.pure _)
  steady_assign ds left right (Some op) p v = related_update ds left _ (λ old. steady_combined ds op left right old v) p

  pub related_choose : {A : Type 0} {a a' b b' : Run A} → RelatedRuns a a' → RelatedRuns b b' → (t : Bool) → RelatedRuns (choose a b t) (choose a' b' t)
  related_choose g h t = related_if t g h

  pub related_converted : (from to : PlainType) {v v' : Run Value} {p p' : Run ValuePlace} → RelatedRuns v v' → RelatedRuns p p' → RelatedRuns (converted_from from to v p) (converted_from from to v' p')
  related_converted Void to g h = kept.bind g (steady_convert Void to)
  related_converted (Int n s) to g h = kept.bind g (steady_convert (Int n s) to)
  related_converted (Pointer t) to g h = kept.bind g (steady_convert (Pointer t) to)
  related_converted (Array t n) to g h = kept.bind h steady_pointer
  related_converted (Struct n) to g h = kept.bind g (steady_convert (Struct n) to)

  -- ---- expressions

  module _ (ds : List StructDef) (ls : List Local) (f f' : Functions) (h : (n : ℕ) (vs : List Value) → RelatedRuns (f n vs) (f' n vs)) where
    pub call_related : (callee : Callee) (vs : List Value) → RelatedRuns (run_call f callee vs) (run_call f' callee vs)
    call_related (c.Function n) vs = h n vs
    call_related (c.Builtin g) vs = steady_builtin g vs

    pub steady_member : (ty : PlainType) (m : ℕ) (p : Value) → Itself (member_pointer ds ty m p)
    steady_member ty m p = steady_move p (pos (offset_of ds ty m))

    mutual
      pub eval_related : (scope : Scope) (x : Expr) → RelatedRuns (eval ds ls f scope x) (eval ds ls f' scope x)
      eval_related scope (Number ty n) = kept.pure _
      eval_related scope (e.Local ty k) = kept.bind (steady_local scope k (slice_get ls k)) (steady_read_place ty)
      eval_related scope (Global ty k) = steady_read_at ty _
      eval_related scope (Call ty callee es) =
          kept.bind (kept.bind (evals_related scope es) (call_related callee)) (steady_given ty)
      eval_related scope (Unary ty u.Address x) = kept.bind (place_related scope x) steady_pointer
      eval_related scope (Unary ty u.Dereference x) = kept.bind (kept.bind (eval_related scope x) (steady_used _)) (steady_read_at ty)
      eval_related scope (Unary ty u.Increment x) = kept.bind (place_related scope x) (related_update ds ty _ (steady_stepped ds s.Increment ty))
      eval_related scope (Unary ty u.Decrement x) = kept.bind (place_related scope x) (related_update ds ty _ (steady_stepped ds s.Decrement ty))
      eval_related scope (Unary ty u.Not x) = kept.bind (kept.bind (eval_related scope x) steady_test) (related_choose (steady_truth false) (steady_truth true))
      eval_related scope (Unary ty u.Plus x) = kept.bind (eval_related scope x) (steady_plus ty)
      eval_related scope (Unary ty u.Minus x) = kept.bind (eval_related scope x) (steady_minus ty)
      eval_related scope (Unary ty u.Invert x) = kept.bind (eval_related scope x) (steady_invert ty)
      eval_related scope (Binary ty b.LogicalAnd x y) =
          kept.bind (kept.bind (eval_related scope x) steady_test) (related_choose (kept.bind (kept.bind (eval_related scope y) steady_test) steady_truth) (steady_truth false))
      eval_related scope (Binary ty b.LogicalOr x y) =
          kept.bind (kept.bind (eval_related scope x) steady_test) (related_choose (steady_truth true) (kept.bind (kept.bind (eval_related scope y) steady_test) steady_truth))
      eval_related scope (Binary ty b.Or x y) = kept.bind (eval_related scope x) (λ v. kept.bind (eval_related scope y) (λ w. steady_binary ds b.Or (type_of x) (type_of y) v w))
      eval_related scope (Binary ty b.Xor x y) = kept.bind (eval_related scope x) (λ v. kept.bind (eval_related scope y) (λ w. steady_binary ds b.Xor (type_of x) (type_of y) v w))
      eval_related scope (Binary ty b.And x y) = kept.bind (eval_related scope x) (λ v. kept.bind (eval_related scope y) (λ w. steady_binary ds b.And (type_of x) (type_of y) v w))
      eval_related scope (Binary ty b.Equal x y) = kept.bind (eval_related scope x) (λ v. kept.bind (eval_related scope y) (λ w. steady_binary ds b.Equal (type_of x) (type_of y) v w))
      eval_related scope (Binary ty b.NotEqual x y) = kept.bind (eval_related scope x) (λ v. kept.bind (eval_related scope y) (λ w. steady_binary ds b.NotEqual (type_of x) (type_of y) v w))
      eval_related scope (Binary ty b.Less x y) = kept.bind (eval_related scope x) (λ v. kept.bind (eval_related scope y) (λ w. steady_binary ds b.Less (type_of x) (type_of y) v w))
      eval_related scope (Binary ty b.Greater x y) = kept.bind (eval_related scope x) (λ v. kept.bind (eval_related scope y) (λ w. steady_binary ds b.Greater (type_of x) (type_of y) v w))
      eval_related scope (Binary ty b.LessEqual x y) = kept.bind (eval_related scope x) (λ v. kept.bind (eval_related scope y) (λ w. steady_binary ds b.LessEqual (type_of x) (type_of y) v w))
      eval_related scope (Binary ty b.GreaterEqual x y) = kept.bind (eval_related scope x) (λ v. kept.bind (eval_related scope y) (λ w. steady_binary ds b.GreaterEqual (type_of x) (type_of y) v w))
      eval_related scope (Binary ty b.ShiftLeft x y) = kept.bind (eval_related scope x) (λ v. kept.bind (eval_related scope y) (λ w. steady_binary ds b.ShiftLeft (type_of x) (type_of y) v w))
      eval_related scope (Binary ty b.ShiftRight x y) = kept.bind (eval_related scope x) (λ v. kept.bind (eval_related scope y) (λ w. steady_binary ds b.ShiftRight (type_of x) (type_of y) v w))
      eval_related scope (Binary ty b.Add x y) = kept.bind (eval_related scope x) (λ v. kept.bind (eval_related scope y) (λ w. steady_binary ds b.Add (type_of x) (type_of y) v w))
      eval_related scope (Binary ty b.Subtract x y) = kept.bind (eval_related scope x) (λ v. kept.bind (eval_related scope y) (λ w. steady_binary ds b.Subtract (type_of x) (type_of y) v w))
      eval_related scope (Binary ty b.Multiply x y) = kept.bind (eval_related scope x) (λ v. kept.bind (eval_related scope y) (λ w. steady_binary ds b.Multiply (type_of x) (type_of y) v w))
      eval_related scope (Binary ty b.Divide x y) = kept.bind (eval_related scope x) (λ v. kept.bind (eval_related scope y) (λ w. steady_binary ds b.Divide (type_of x) (type_of y) v w))
      eval_related scope (Binary ty b.Remainder x y) = kept.bind (eval_related scope x) (λ v. kept.bind (eval_related scope y) (λ w. steady_binary ds b.Remainder (type_of x) (type_of y) v w))
      eval_related scope (Assign ty op x y) =
          kept.bind (place_related scope x) (λ p. kept.bind (eval_related scope y) (steady_assign ds ty (type_of y) (operator_of op) p))
      eval_related scope (Conditional ty x y z) =
          kept.bind (kept.bind (eval_related scope x) steady_test) (related_choose (eval_related scope y) (eval_related scope z))
      eval_related scope (Cast ty x) = related_converted (type_of x) ty (eval_related scope x) (place_related scope x)
      eval_related scope (Convert ty x) = related_converted (type_of x) ty (eval_related scope x) (place_related scope x)
      eval_related scope (Index ty x y) =
          kept.bind (kept.bind (eval_related scope x) (λ v. kept.bind (eval_related scope y) (steady_element ds (type_of x) (type_of y) v))) (steady_read_at ty)
      eval_related scope (Field ty x m) =
          kept.bind (kept.bind (kept.bind (place_related scope x) steady_pointer) (steady_member (type_of x) m)) (steady_read_at ty)
      eval_related scope (Arrow ty x m) = kept.bind (kept.bind (eval_related scope x) (steady_member (target_of (type_of x)) m)) (steady_read_at ty)
      eval_related scope (Postfix ty op x) = kept.bind (place_related scope x) (related_update ds ty _ (steady_stepped ds op ty))
      eval_related scope (Comma ty no_exprs) = kept.undefined _
      eval_related scope (Comma ty (more_exprs x xs)) = last_related scope (eval_related scope x) xs

      pub place_related : (scope : Scope) (x : Expr) → RelatedRuns (place ds ls f scope x) (place ds ls f' scope x)
      place_related scope (e.Local ty k) = steady_local scope k (slice_get ls k)
      place_related scope (Global ty k) = kept.pure _
      place_related scope (Unary ty u.Dereference x) = kept.bind (kept.bind (eval_related scope x) (steady_used _)) (λ p. kept.pure _)
      place_related scope (Index ty x y) =
          kept.bind (kept.bind (eval_related scope x) (λ v. kept.bind (eval_related scope y) (steady_element ds (type_of x) (type_of y) v))) (λ p. kept.pure _)
      place_related scope (Field ty x m) =
          kept.bind (kept.bind (kept.bind (place_related scope x) steady_pointer) (steady_member (type_of x) m)) (λ p. kept.pure _)
      place_related scope (Arrow ty x m) = kept.bind (kept.bind (eval_related scope x) (steady_member (target_of (type_of x)) m)) (λ p. kept.pure _)
      place_related scope (Number ty n) = kept.undefined _
      place_related scope (Call ty callee es) = kept.undefined _
      place_related scope (Unary ty u.Increment x) = kept.undefined _
      place_related scope (Unary ty u.Decrement x) = kept.undefined _
      place_related scope (Unary ty u.Address x) = kept.undefined _
      place_related scope (Unary ty u.Plus x) = kept.undefined _
      place_related scope (Unary ty u.Minus x) = kept.undefined _
      place_related scope (Unary ty u.Invert x) = kept.undefined _
      place_related scope (Unary ty u.Not x) = kept.undefined _
      place_related scope (Binary ty op x y) = kept.undefined _
      place_related scope (Assign ty op x y) = kept.undefined _
      place_related scope (Conditional ty x y z) = kept.undefined _
      place_related scope (Cast ty x) = kept.undefined _
      place_related scope (Convert ty x) = kept.undefined _
      place_related scope (Postfix ty op x) = kept.undefined _
      place_related scope (Comma ty es) = kept.undefined _

      pub evals_related : (scope : Scope) (xs : Exprs) → RelatedRuns (evals ds ls f scope xs) (evals ds ls f' scope xs)
      evals_related scope no_exprs = kept.pure []
      evals_related scope (more_exprs x xs) =
          kept.bind (kept.bind (eval_related scope x) (steady_used _)) (λ v. kept.bind (evals_related scope xs) (λ vs. kept.pure _))

      pub last_related : (scope : Scope) {a a' : Run Value} → RelatedRuns a a' → (xs : Exprs) → RelatedRuns (value_of_last ds ls f scope a xs) (value_of_last ds ls f' scope a' xs)
      last_related scope g no_exprs = g
      last_related scope g (more_exprs x xs) = kept.bind g (λ _. last_related scope (eval_related scope x) xs)

    -- ---- parts of statements

    pub holds_related : (scope : Scope) (x : Expr) → RelatedRuns (holds ds ls f scope x) (holds ds ls f' scope x)
    holds_related scope x = kept.bind (eval_related scope x) steady_test

    pub condition_related : (scope : Scope) (x : Option Expr) → RelatedRuns (loop_condition ds ls f scope x) (loop_condition ds ls f' scope x)
    condition_related scope None = kept.pure true
    condition_related scope (Some x) = holds_related scope x

    pub step_related : (scope : Scope) (x : Option Expr) → RelatedRuns (loop_step ds ls f scope x) (loop_step ds ls f' scope x)
    step_related scope None = kept.pure tt
    step_related scope (Some x) = kept.bind (eval_related scope x) (λ _. kept.pure tt)

    pub initialise_related : (scope : Scope) (k : ℕ) (l : Option Local) (init : Option Expr) → RelatedRuns (initialise_object ds ls f scope k l init) (initialise_object ds ls f' scope k l init)
    initialise_related scope k None init = kept.pure tt
    initialise_related scope k (Some l) None = kept.pure tt
    initialise_related scope k (Some l) (Some x) =
        kept.bind (eval_related scope x) (λ v. kept.bind (steady_local scope k (Some l)) (λ p. steady_write_place ds (type_view l.ty) p v))

    pub declare_related : (scope : Scope) (d : LocalDeclaration) → RelatedRuns (run_declaration ds ls f scope d) (run_declaration ds ls f' scope d)
    declare_related scope d = initialise_related scope d.number (slice_get ls d.number) d.init

    pub declares_related : (scope : Scope) (more : List LocalDeclaration) → RelatedRuns (run_declarations ds ls f scope more) (run_declarations ds ls f' scope more)
    declares_related scope [] = kept.pure tt
    declares_related scope (d ∷ more) = kept.bind (declare_related scope d) (λ _. declares_related scope more)

    pub first_related : (scope : Scope) (start : First) → RelatedRuns (first ds ls f scope start) (first ds ls f' scope start)
    first_related scope q.Nothing = kept.pure tt
    first_related scope (q.Value x) = kept.bind (eval_related scope x) (λ _. kept.pure tt)
    first_related scope (q.Locals more) = declares_related scope more

    pub returned_related : (scope : Scope) (x : Option Expr) → RelatedRuns (flow_of_return ds ls f scope x) (flow_of_return ds ls f' scope x)
    returned_related scope None = kept.pure _
    returned_related scope (Some x) = kept.bind (kept.bind (eval_related scope x) (steady_used _)) (λ v. kept.pure _)

  -- ---- statements

  pub related_after : {a a' : Run StatementFlow} → RelatedRuns a a' → (flow : StatementFlow) → RelatedRuns (after_body a flow) (after_body a' flow)
  related_after g Goes = g
  related_after g Continues = g
  related_after g Breaks = kept.pure _
  related_after g (Returns v) = kept.pure _

  pub related_next : {a a' : Run StatementFlow} → RelatedRuns a a' → (flow : StatementFlow) → RelatedRuns (and_next a flow) (and_next a' flow)
  related_next g Goes = g
  related_next g Continues = kept.pure _
  related_next g Breaks = kept.pure _
  related_next g (Returns v) = kept.pure _

  pub steady_switch : (flow : StatementFlow) → Itself (after_switch flow)
  steady_switch Goes = kept.pure _
  steady_switch Breaks = kept.pure _
  steady_switch Continues = kept.pure _
  steady_switch (Returns v) = kept.pure _

  module _ (ds : List StructDef) (ls : List Local) (f f' : Functions) (h : (n : ℕ) (vs : List Value) → RelatedRuns (f n vs) (f' n vs))
      (again again' : Scope → Stmt → Run StatementFlow) (l : (scope : Scope) (s : Stmt) → RelatedRuns (again scope s) (again' scope s)) where
    mutual
      pub exec_related : (scope : Scope) (s : Stmt) → RelatedRuns (exec ds ls f again scope s) (exec ds ls f' again' scope s)
      exec_related scope (q.Block ss) = related_locals ds ls (declared_in ss) (λ inner. execs_related inner ss) scope
      exec_related scope (q.If x s otherwise) = kept.bind (holds_related ds ls f f' h scope x) (related_choose (exec_related scope s) (else_related scope otherwise))
      exec_related scope (q.While x s) =
          kept.bind (holds_related ds ls f f' h scope x)
          (related_choose (kept.bind kept.turn (λ _. kept.bind (exec_related scope s) (related_after (l scope (q.While x s))))) (kept.pure _))
      exec_related scope (q.Do s x) =
          kept.bind kept.turn (λ _. kept.bind (exec_related scope s)
          (related_after (kept.bind (holds_related ds ls f f' h scope x) (related_choose (l scope (q.Do s x)) (kept.pure _)))))
      exec_related scope (q.For start x after s) =
          related_locals ds ls (declared_first start)
          (λ inner. kept.bind (first_related ds ls f f' h inner start) (λ _. kept.bind (condition_related ds ls f f' h inner x)
          (related_choose
          (kept.bind kept.turn (λ _. kept.bind (exec_related inner s) (related_after (kept.bind (step_related ds ls f f' h inner after) (λ _. l inner (q.For q.Nothing x after s))))))
          (kept.pure _))))
          scope
      exec_related scope (q.Switch x sections) =
          kept.bind (kept.bind (kept.bind (eval_related ds ls f f' h scope x) steady_number) (λ n. from_related scope (target_in n sections) sections)) steady_switch
      exec_related scope q.Break = kept.pure _
      exec_related scope q.Continue = kept.pure _
      exec_related scope (q.Return x) = returned_related ds ls f f' h scope x
      exec_related scope (q.Expression x) = kept.bind (eval_related ds ls f f' h scope x) (λ _. kept.pure _)
      exec_related scope q.Empty = kept.pure _
      exec_related scope (q.Declare d) = kept.bind (declare_related ds ls f f' h scope d) (λ _. kept.pure _)

      pub else_related : (scope : Scope) (s : Else) → RelatedRuns (exec_else ds ls f again scope s) (exec_else ds ls f' again' scope s)
      else_related scope no_else = kept.pure _
      else_related scope (else_stmt s) = exec_related scope s

      pub execs_related : (scope : Scope) (ss : Stmts) → RelatedRuns (execs ds ls f again scope ss) (execs ds ls f' again' scope ss)
      execs_related scope no_stmts = kept.pure _
      execs_related scope (more_stmts s ss) = kept.bind (exec_related scope s) (related_next (execs_related scope ss))

      pub sections_related : (scope : Scope) (ss : Sections) → RelatedRuns (exec_sections ds ls f again scope ss) (exec_sections ds ls f' again' scope ss)
      sections_related scope no_sections = kept.pure _
      sections_related scope (more_sections label ss rest) = kept.bind (execs_related scope ss) (related_next (sections_related scope rest))

      pub from_related : (scope : Scope) (target : Option ℕ) (ss : Sections) → RelatedRuns (exec_from ds ls f again scope target ss) (exec_from ds ls f' again' scope target ss)
      from_related scope target no_sections = kept.pure _
      from_related scope target (more_sections label ss rest) =
          related_if (is_chosen_label target label) (kept.bind (execs_related scope ss) (related_next (sections_related scope rest))) (from_related scope target rest)

  -- ---- calls

  pub steady_value : (main : Bool) (flow : StatementFlow) → Itself (value_of_call main flow)
  steady_value main (Returns (Some v)) = kept.pure v
  steady_value main (Returns None) = kept.pure _
  steady_value main Goes = kept.pure _
  steady_value main Breaks = kept.undefined _
  steady_value main Continues = kept.undefined _

  pub related_parameters : {A : Type 0} (ds : List StructDef) (k : ℕ) (ps : List Local) (vs : List Value) {run run' : Scope → Run A} → ((scope : Scope) → RelatedRuns (run scope) (run' scope))
      → (scope : Scope) → RelatedRuns (with_parameters ds k ps vs run scope) (with_parameters ds k ps vs run' scope)
  related_parameters ds k [] vs g scope = g scope
  related_parameters ds k (p ∷ ps) [] g scope = kept.undefined _
  related_parameters ds k (p ∷ ps) (v ∷ vs) g scope =
      related_if p.in_memory
      (kept.object (size_of ds (type_view p.ty)) k scope (λ inner. kept.bind (kept.bind (steady_local inner k (Some p)) (λ at. steady_write_place ds (type_view p.ty) at v)) (λ _. related_parameters ds (suc k) ps vs g inner)))
      (kept.bind (kept.write k v) (λ _. related_parameters ds (suc k) ps vs g scope))

  -- two levels that are related
  abbrev pub Above : Level → Level → Type 0
  Above l l' = (n : ℕ) (scope : Scope) (s : Stmt) → RelatedRuns (l n scope s) (l' n scope s)

  pub body_related : (ds : List StructDef) (l l' : Level) → Above l l' → (n : ℕ) (g : TypedFn) (vs : List Value) → RelatedRuns (body_of ds l n g vs) (body_of ds l' n g vs)
  body_related ds l l' h n g vs = related_parameters ds 0 (take g.params g.locals) vs (λ scope. h n scope (stmt_view g.body)) no_scope

  pub call_of_related : (ds : List StructDef) (rooms : Rooms) (l l' : Level) → Above l l' → (n : ℕ) (g : Option TypedFn) (vs : List Value) → RelatedRuns (call_with_turn ds rooms l n g vs) (call_with_turn ds rooms l' n g vs)
  call_of_related ds rooms l l' h n None vs = kept.undefined _
  call_of_related ds rooms l l' h n (Some g) vs =
      kept.bind kept.turn (λ _. kept.call rooms n (kept.bind (body_related ds l l' h n g vs) (steady_value (is_main g))))
