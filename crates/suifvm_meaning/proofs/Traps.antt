-- What traps is an instruction that may.
use Rattle.std.proofs.Common.{◌≡◌, ℕ, List, [], ◌∷◌, Option, Some, None, Bool, true, false, if◌then◌else◌, ℤ, refl, subst}
use Rattle.std.specs.Prelude.{Result, Ok, Err}
use Rattle.mem_model.specs.declared.value.Value.{Value}
use Rattle.mem_model.specs.declared.value.Value.TheVariants.{Word, Address, Unset}
use Rattle.mem_model.specs.declared.value.MemFault.{MemFault}
use Rattle.mem_model.specs.Memory.{Memory, load_at}
use Rattle.mem_model.specs.World.{Outer}
use Rattle.machine_model.specs.Code.{Exits, Traps, HasNoMeaning, Act, Writes, Jumps, Calls, Returns, Stops}
use Rattle.bk_arithmetic.specs.declared.integer_type.IntegerType.{IntegerType}
use Rattle.bk_arithmetic.specs.declared.integer_type.IntegerType.TheVariants.{Int, UnsignedInt, Long, UnsignedLong}
use Rattle.bk_arithmetic.specs.Words.{value, is_word}
use Rattle.bk_arithmetic.specs.Operations.{shift_count, left_shift_by, right_shift_by}
use Rattle.mem_model.specs.Pointers.{pointer_plus, pointer_minus}
use Rattle.std.specs.List.{list_all}
use Rattle.suifvm_ir.specs.Programs.{alignment_bytes}
use Rattle.suifvm_ir.specs.declared.types.VmType.{VmType}
use Rattle.suifvm_ir.specs.declared.types.VmType.TheVariants.{S32, U32, S64, U64, P64}
use Rattle.suifvm_ir.specs.declared.insn.VmUnaryOp.{VmUnaryOp}
use Rattle.suifvm_ir.specs.declared.insn.VmUnaryOp.TheVariants.{Move, Negate, Complement}
use Rattle.suifvm_ir.specs.declared.insn.VmBinaryOp.{VmBinaryOp}
use Rattle.suifvm_ir.specs.declared.insn.VmBinaryOp.TheVariants.{Add, Subtract, Multiply, Divide, Remainder, And, Or, ExclusiveOr}
use Rattle.suifvm_ir.specs.declared.insn.ShiftOp.{ShiftOp}
use Rattle.suifvm_ir.specs.declared.insn.ShiftOp.TheVariants.{ArithmeticRight, Left, LogicalRight}
use Rattle.suifvm_ir.specs.declared.insn.CompareOp.{CompareOp}
use Rattle.suifvm_ir.specs.declared.insn.VmBranchOp.{VmBranchOp}
use Rattle.suifvm_ir.specs.declared.insn.VmBuiltin.TheVariants.{PutChar, GetChar, Abort, Exit}
use Rattle.suifvm_ir.specs.declared.insn.VmCallee.{VmCallee}
use Rattle.suifvm_ir.specs.declared.insn.VmCallee.TheVariants as callee
use Rattle.suifvm_ir.specs.declared.insn.TypedRegister.{TypedRegister}
use Rattle.suifvm_ir.specs.declared.insn.VmInsn.{VmInsn}
use Rattle.suifvm_ir.specs.declared.insn.VmInsn.TheVariants.{LoadConstant, LoadAddress, Load, Store, Copy, Unary, Binary, Shift, Convert, Compare, Branch, Jump, Call, Return, Mark, Nop}
use Rattle.suifvm_ir.specs.Insns.{unary_may_trap, binary_may_trap, call_may_trap, may_trap_of}
use Rattle.suifvm_meaning.specs.Operations.{Answer, Gives, TrapsWith, Fails, is_set, is_value_of, when_value, integer_of, memory_integer, access_bytes, is_pointer_access, signed_type, without_sign, comparison_answer, compare_pointer, shift_by, convert_answer, shift_answer, value_holds, loaded_answer, stored_memory, copied_memory, outcome_answer, value_answer, distance_answer, test_answer, on_number, on_numbers, unary_number, unary_answer, conversion_answer, binary_number, pointer_answer, binary_answer, shift_number, compare_answer, load_answer, load_through}
use Rattle.suifvm_meaning.specs.Effect.{fails, first_source, second_source, writes, changes, is_branch_taken, branches, puts_char, exits_with, builtin_act, call_act, return_act, does}
use Rattle.suifvm_meaning.specs.Laws.{OnlyTheseVmInstructionsTrap}

-- an answer, and an act, that is no trap
abbrev Calm : Answer → Type 0
Calm (Gives v) = Unit {0}
Calm (TrapsWith code) = ⊥
Calm Fails = Unit {0}

abbrev NoTrap : Act Value → Type 0
NoTrap (Writes vs o) = Unit {0}
NoTrap (Jumps target o) = Unit {0}
NoTrap (Calls function vs o) = Unit {0}
NoTrap (Returns vs o) = Unit {0}
NoTrap (Stops (Exits status) o) = Unit {0}
NoTrap (Stops (Traps code) o) = ⊥
NoTrap (Stops HasNoMeaning o) = Unit {0}

-- an act that may be a trap where a test holds
abbrev OnlyIf : Bool → Act Value → Type 0
OnlyIf true a = Unit {0}
OnlyIf false a = NoTrap a

calm_writes : (a : Answer) (o : Outer) → Calm a → NoTrap (writes a o)
calm_writes (Gives v) o h = tt
calm_writes (TrapsWith code) o h = absurd h
calm_writes Fails o h = tt

calm_if : (b : Bool) (x y : Answer) → Calm x → Calm y → Calm (if b then x else y)
calm_if true x y h k = h
calm_if false x y h k = k

no_trap_if : (b : Bool) (x y : Act Value) → NoTrap x → NoTrap y → NoTrap (if b then x else y)
no_trap_if true x y h k = h
no_trap_if false x y h k = k

calm_number : (t : IntegerType) (a : Value) (f : IntegerType → ℕ → Answer) → ((n : ℕ) → Calm (f t n)) → Calm (on_number (Some t) a f)
calm_number t (Word n) f h = calm_if (is_word t n) (f t n) Fails (h n) tt
calm_number t (Address p) f h = tt
calm_number t Unset f h = tt

calm_numbers : (t : IntegerType) (a b : Value) (f : IntegerType → ℕ → ℕ → Answer) → ((x y : ℕ) → Calm (f t x y)) → Calm (on_numbers (Some t) a b f)
calm_numbers t a b f h =
    calm_number t a (λ s x. on_number (Some t) b (λ u y. f s x y)) (λ x. calm_number t b (λ u y. f t x y) (λ y. h x y))

calm_value : (v : Option Value) → Calm (value_answer v)
calm_value (Some v) = tt
calm_value None = tt

calm_distance : (z : Option ℤ) → Calm (distance_answer z)
calm_distance (Some z) = tt
calm_distance None = tt

calm_test : (b : Option Bool) → Calm (test_answer b)
calm_test (Some b) = tt
calm_test None = tt

calm_loaded : (t : Option IntegerType) (r : Result Value MemFault) → Calm (load_answer t r)
calm_loaded t (Ok v) = tt
calm_loaded t (Err fault) = tt

calm_through : (m : Memory) (t : Option IntegerType) (v : Option Value) → Calm (load_through m t v)
calm_through m t (Some (Word n)) = tt
calm_through m t (Some (Address p)) = calm_loaded t (load_at m p (access_bytes t) (is_pointer_access t))
calm_through m t (Some Unset) = tt
calm_through m t None = tt

calm_conversion : (s t : Option IntegerType) (v : Value) → Calm (conversion_answer s t v)
calm_conversion (Some s) (Some t) (Word n) = tt
calm_conversion (Some s) (Some t) (Address p) = tt
calm_conversion (Some s) (Some t) Unset = tt
calm_conversion (Some s) None v = tt
calm_conversion None t v = tt

calm_left : (t : IntegerType) (a : ℕ) (k : Option ℕ) → Calm (outcome_answer (left_shift_by t a k))
calm_left t a (Some k) = tt
calm_left t a None = tt

calm_right : (t : IntegerType) (a : ℕ) (k : Option ℕ) → Calm (outcome_answer (right_shift_by t a k))
calm_right t a (Some k) = tt
calm_right t a None = tt

calm_shift : (op : ShiftOp) (t : IntegerType) (a k : ℕ) → Calm (shift_number op t a k)
calm_shift ArithmeticRight t a k = calm_right (signed_type t) a (shift_count (signed_type t) UnsignedLong k)
calm_shift Left t a k = calm_left t a (shift_count t UnsignedLong k)
calm_shift LogicalRight t a k = calm_right (without_sign t) a (shift_count (without_sign t) UnsignedLong k)

calm_shift_of : (op : ShiftOp) (t : IntegerType) (a k : Value) → Calm (on_number (Some t) a (shift_by op k))
calm_shift_of op t a k =
    calm_number t a (shift_by op k)
    (λ n. calm_number UnsignedLong k (λ w m. shift_number op t n m) (λ m. calm_shift op t n m))

calm_shifts : (op : ShiftOp) (ty : VmType) (a k : Value) → Calm (shift_answer op ty a k)
calm_shifts op S32 a k = calm_shift_of op Int a k
calm_shifts op U32 a k = calm_shift_of op UnsignedInt a k
calm_shifts op S64 a k = calm_shift_of op Long a k
calm_shifts op U64 a k = calm_shift_of op UnsignedLong a k
calm_shifts op P64 a k = tt

-- of one type, an operation on one value and on two
unary_only : (op : VmUnaryOp) (ty : VmType) (a : Value) (o : Outer) → OnlyIf (unary_may_trap op ty) (writes (unary_answer op ty a) o)
unary_only Move S32 a o = calm_writes (unary_answer Move S32 a) o (calm_number Int a (unary_number Move) (λ n. tt))
unary_only Move U32 a o = calm_writes (unary_answer Move U32 a) o (calm_number UnsignedInt a (unary_number Move) (λ n. tt))
unary_only Move S64 a o = calm_writes (unary_answer Move S64 a) o (calm_number Long a (unary_number Move) (λ n. tt))
unary_only Move U64 a o = calm_writes (unary_answer Move U64 a) o (calm_number UnsignedLong a (unary_number Move) (λ n. tt))
unary_only Move P64 a o = calm_writes (unary_answer Move P64 a) o (calm_if (is_set a) (Gives a) Fails tt tt)
unary_only Negate S32 a o = tt
unary_only Negate U32 a o = calm_writes (unary_answer Negate U32 a) o (calm_number UnsignedInt a (unary_number Negate) (λ n. tt))
unary_only Negate S64 a o = tt
unary_only Negate U64 a o = calm_writes (unary_answer Negate U64 a) o (calm_number UnsignedLong a (unary_number Negate) (λ n. tt))
unary_only Negate P64 a o = tt
unary_only Complement S32 a o = calm_writes (unary_answer Complement S32 a) o (calm_number Int a (unary_number Complement) (λ n. tt))
unary_only Complement U32 a o = calm_writes (unary_answer Complement U32 a) o (calm_number UnsignedInt a (unary_number Complement) (λ n. tt))
unary_only Complement S64 a o = calm_writes (unary_answer Complement S64 a) o (calm_number Long a (unary_number Complement) (λ n. tt))
unary_only Complement U64 a o = calm_writes (unary_answer Complement U64 a) o (calm_number UnsignedLong a (unary_number Complement) (λ n. tt))
unary_only Complement P64 a o = tt

calm_pointer : (m : Memory) (op : VmBinaryOp) (a b : Value) → Calm (pointer_answer m op a b)
calm_pointer m Add a (Word n) = calm_value (pointer_plus m a (value Long n))
calm_pointer m Add a (Address p) = tt
calm_pointer m Add a Unset = tt
calm_pointer m Subtract a b = calm_distance (pointer_minus m a b)
calm_pointer m Multiply a b = tt
calm_pointer m Divide a b = tt
calm_pointer m Remainder a b = tt
calm_pointer m And a b = tt
calm_pointer m Or a b = tt
calm_pointer m ExclusiveOr a b = tt

-- the operations that no type traps at
calm_binary : (op : VmBinaryOp) (ty : VmType) (m : Memory) (a b : Value) → ((t : IntegerType) (x y : ℕ) → Calm (binary_number op t x y)) → Calm (binary_answer m op ty a b)
calm_binary op S32 m a b h = calm_numbers Int a b (binary_number op) (h Int)
calm_binary op U32 m a b h = calm_numbers UnsignedInt a b (binary_number op) (h UnsignedInt)
calm_binary op S64 m a b h = calm_numbers Long a b (binary_number op) (h Long)
calm_binary op U64 m a b h = calm_numbers UnsignedLong a b (binary_number op) (h UnsignedLong)
calm_binary op P64 m a b h = calm_pointer m op a b

binary_only : (op : VmBinaryOp) (ty : VmType) (m : Memory) (a b : Value) (o : Outer) → OnlyIf (binary_may_trap op ty) (writes (binary_answer m op ty a b) o)
binary_only Add S32 m a b o = tt
binary_only Add U32 m a b o = calm_writes (binary_answer m Add U32 a b) o (calm_numbers UnsignedInt a b (binary_number Add) (λ x y. tt))
binary_only Add S64 m a b o = tt
binary_only Add U64 m a b o = calm_writes (binary_answer m Add U64 a b) o (calm_numbers UnsignedLong a b (binary_number Add) (λ x y. tt))
binary_only Add P64 m a b o = calm_writes (binary_answer m Add P64 a b) o (calm_pointer m Add a b)
binary_only Subtract S32 m a b o = tt
binary_only Subtract U32 m a b o = calm_writes (binary_answer m Subtract U32 a b) o (calm_numbers UnsignedInt a b (binary_number Subtract) (λ x y. tt))
binary_only Subtract S64 m a b o = tt
binary_only Subtract U64 m a b o = calm_writes (binary_answer m Subtract U64 a b) o (calm_numbers UnsignedLong a b (binary_number Subtract) (λ x y. tt))
binary_only Subtract P64 m a b o = calm_writes (binary_answer m Subtract P64 a b) o (calm_pointer m Subtract a b)
binary_only Multiply S32 m a b o = tt
binary_only Multiply U32 m a b o = calm_writes (binary_answer m Multiply U32 a b) o (calm_numbers UnsignedInt a b (binary_number Multiply) (λ x y. tt))
binary_only Multiply S64 m a b o = tt
binary_only Multiply U64 m a b o = calm_writes (binary_answer m Multiply U64 a b) o (calm_numbers UnsignedLong a b (binary_number Multiply) (λ x y. tt))
binary_only Multiply P64 m a b o = calm_writes (binary_answer m Multiply P64 a b) o (calm_pointer m Multiply a b)
binary_only Divide ty m a b o = tt
binary_only Remainder ty m a b o = tt
binary_only And ty m a b o = calm_writes (binary_answer m And ty a b) o (calm_binary And ty m a b (λ t x y. tt))
binary_only Or ty m a b o = calm_writes (binary_answer m Or ty a b) o (calm_binary Or ty m a b (λ t x y. tt))
binary_only ExclusiveOr ty m a b o = calm_writes (binary_answer m ExclusiveOr ty a b) o (calm_binary ExclusiveOr ty m a b (λ t x y. tt))

calm_compare : (op : CompareOp) (ty : VmType) (m : Memory) (a b : Value) → Calm (compare_answer m op ty a b)
calm_compare op S32 m a b = calm_numbers Int a b (comparison_answer op) (λ x y. tt)
calm_compare op U32 m a b = calm_numbers UnsignedInt a b (comparison_answer op) (λ x y. tt)
calm_compare op S64 m a b = calm_numbers Long a b (comparison_answer op) (λ x y. tt)
calm_compare op U64 m a b = calm_numbers UnsignedLong a b (comparison_answer op) (λ x y. tt)
calm_compare op P64 m a b = calm_test (compare_pointer m op a b)

no_trap_changes : (m : Option Memory) (o : Outer) → NoTrap (changes m o)
no_trap_changes (Some memory) o = tt
no_trap_changes None o = tt

no_trap_branches : (op : VmBranchOp) (t : Option Bool) (o : Outer) → NoTrap (branches op t o)
no_trap_branches op (Some test) o = no_trap_if (is_branch_taken op test) (Jumps 0 o) (Writes [] o) tt tt
no_trap_branches op None o = tt

no_trap_puts : (v : Value) (o : Outer) → NoTrap (puts_char v o)
no_trap_puts (Word n) o = tt
no_trap_puts (Address p) o = tt
no_trap_puts Unset o = tt

no_trap_exits : (v : Value) (o : Outer) → NoTrap (exits_with v o)
no_trap_exits (Word n) o = tt
no_trap_exits (Address p) o = tt
no_trap_exits Unset o = tt

call_only : (c : VmCallee) (vs : List Value) (o : Outer) → OnlyIf (call_may_trap c) (call_act c vs o)
call_only (callee.Function k) vs o = no_trap_if (list_all is_set vs) (Calls k vs o) (fails o) tt tt
call_only (callee.Builtin PutChar) vs o =
    no_trap_if (list_all is_set vs) (puts_char (first_source vs) o) (fails o) (no_trap_puts (first_source vs) o) tt
call_only (callee.Builtin GetChar) vs o =
    no_trap_if (list_all is_set vs) (builtin_act GetChar vs o) (fails o) tt tt
call_only (callee.Builtin Abort) vs o = tt
call_only (callee.Builtin Exit) vs o =
    no_trap_if (list_all is_set vs) (exits_with (first_source vs) o) (fails o) (no_trap_exits (first_source vs) o) tt

no_trap_return : (r : Option TypedRegister) (vs : List Value) (o : Outer) → NoTrap (return_act r vs o)
no_trap_return None vs o = tt
no_trap_return (Some r) vs o = no_trap_if (is_value_of r.ty (first_source vs)) (Returns (first_source vs ∷ []) o) (fails o) tt tt

traps_only : (i : VmInsn) (own : ℕ) (vs : List Value) (o : Outer) → OnlyIf (may_trap_of i) (does i own vs o)
traps_only (LoadConstant ty destination word) own vs o =
    calm_writes (when_value ty (Word word)) o (calm_if (is_value_of ty (Word word)) (Gives (Word word)) Fails tt tt)
traps_only (LoadAddress destination place plus) own vs o = tt
traps_only (Load ty destination pointer plus) own vs o =
    calm_writes (loaded_answer o.memory ty (first_source vs) plus) o
    (calm_through o.memory (memory_integer ty) (pointer_plus o.memory (first_source vs) plus))
traps_only (Store ty pointer plus value) own vs o = no_trap_changes (stored_memory o.memory ty (first_source vs) plus (second_source vs)) o
traps_only (Copy to from size align) own vs o =
    no_trap_changes (copied_memory o.memory (first_source vs) (second_source vs) size (alignment_bytes align)) o
traps_only (Unary op ty destination source) own vs o = unary_only op ty (first_source vs) o
traps_only (Binary op ty destination left right) own vs o = binary_only op ty o.memory (first_source vs) (second_source vs) o
traps_only (Shift op ty destination source count) own vs o = calm_writes (shift_answer op ty (first_source vs) (second_source vs)) o (calm_shifts op ty (first_source vs) (second_source vs))
traps_only (Convert from to destination source) own vs o =
    calm_writes (convert_answer from to (first_source vs)) o (calm_conversion (memory_integer from) (integer_of to) (first_source vs))
traps_only (Compare op ty destination left right) own vs o =
    calm_writes (compare_answer o.memory op ty (first_source vs) (second_source vs)) o (calm_compare op ty o.memory (first_source vs) (second_source vs))
traps_only (Branch op ty source block) own vs o = no_trap_branches op (value_holds o.memory ty (first_source vs)) o
traps_only (Jump block) own vs o = tt
traps_only (Call destination c arguments) own vs o = call_only c vs o
traps_only (Return value) own vs o = no_trap_return value vs o
traps_only Mark own vs o = tt
traps_only Nop own vs o = tt

by_test : (b : Bool) (a : Act Value) (o : Outer) (code : ℕ) → OnlyIf b a → a ≡ Stops (Traps code) o → b ≡ true
by_test true a o code h is = refl
by_test false a o code h is = absurd (subst NoTrap is h)

pub only_these_trap : OnlyTheseVmInstructionsTrap
only_these_trap i own vs o p code is = by_test (may_trap_of i) (does i own vs o) p code (traps_only i own vs o) is
