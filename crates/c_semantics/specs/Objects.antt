-- Places and what they hold: reading and writing them by a type (C99 6.3.2.1), moving pointers, and the objects of
-- locals.
use Rattle.std.specs.Prelude.{ℕ, ◌==◌, ℤ, pos, ◌*ℤ◌, Bool, true, false, List, [], ◌∷◌, length, slice_get, Option, Some, None, Result, Ok, Err, if◌then◌else◌, unwrap_or}
use Rattle.mem_model.specs.declared.value.Ptr.{Ptr}
use Rattle.mem_model.specs.declared.value.Value.{Value}
use Rattle.mem_model.specs.declared.value.Value.TheVariants.{Word, Address, Unset}
use Rattle.mem_model.specs.declared.value.MemFault.{MemFault}
use Rattle.mem_model.specs.Memory.{Memory, load_at, store_at, copy_at, overlaps, begin_object, end_object}
use Rattle.mem_model.specs.Pointers.{is_live, size_at, is_offset, pointer_plus}
use Rattle.mem_model.specs.World.{with_memory}
use Rattle.mem_model.specs.Ending.{Evaluation, Gives}
use Rattle.bk_arithmetic.specs.declared.integer_type.IntegerType.{IntegerType}
use Rattle.bk_arithmetic.specs.declared.integer_type.IntegerType.TheVariants as i
use Rattle.bk_arithmetic.specs.IntegerTypes.{integer_type}
use Rattle.bk_arithmetic.specs.Words.{value, extension}
use Rattle.c_typed_tree.specs.declared.types.StructDef.{StructDef}
use Rattle.c_typed_tree.specs.declared.types.Member.{Member}
use Rattle.c_typed_tree.specs.declared.units.Local.{Local}
use Rattle.c_typed_tree.specs.Types.{PlainType, Void, Int, Pointer, Array, Struct}
use Rattle.c_typed_tree.specs.View.{type_view}
use Rattle.c_typed_tree.specs.Layout.{size_of, align_of}
use Rattle.c_semantics.specs.Reasons.{Reason, AccessesOutside, MovesOutside, UsesDeadObject, UsesNoValue, OverlapsItself, reason_of}
use Rattle.c_semantics.specs.Runs.{CallState, in_world, Run, and_then, ◌>>=◌, ◌>>◌, pure, undefined_behaviour, on_memory, set_memory, or_undefined, use_value, use_number, read_register, write_register}

-- where a value stands: a local that is no object, or a pointer to it
pub data ValuePlace : Type 0 where
  Register : (local : ℕ) → ValuePlace
  At : Value → ValuePlace

-- the first byte of an object
abbrev pub start_pointer : (object : ℕ) → Value
start_pointer object = Address (record { object = object; offset = pos 0 })

-- the integer type of a type; what is none has the type of a word
abbrev pub integer_or_word : PlainType → IntegerType
integer_or_word (Int bytes signed) = unwrap_or (integer_type bytes signed) i.UnsignedLong
integer_or_word _ = i.UnsignedLong

-- ---- access

abbrev pub access : {A : Type 0} → Result A MemFault → Run A
access (Ok a) = pure a
access (Err fault) = undefined_behaviour (reason_of fault)

-- what stands at a pointer, as a number or as a pointer
abbrev pub load : (width : ℕ) → (pointer : Bool) → Value → Run Value
load width pointer (Address p) = on_memory (λ m. access (load_at m p width pointer))
load width pointer (Word n) = undefined_behaviour AccessesOutside
load width pointer Unset = undefined_behaviour UsesNoValue

-- a value is put at a pointer
abbrev pub store : (width : ℕ) → Value → Value → Run (Unit {0})
store width (Address p) v = on_memory (λ m. access (store_at m p width v) >>= set_memory)
store width (Word n) v = undefined_behaviour AccessesOutside
store width Unset v = undefined_behaviour UsesNoValue

-- the cells of a struct are copied, as they are (C99 6.5.16.1)
abbrev pub copy_cells : Memory → (to from : Ptr) → (size align : ℕ) → Run (Unit {0})
copy_cells m to from size align =
    if overlaps to from size then undefined_behaviour OverlapsItself else access (copy_at m to from size align) >>= set_memory

abbrev pub copy : (size align : ℕ) → (to from : Value) → Run (Unit {0})
copy size align (Address p) (Address q) = on_memory (λ m. copy_cells m p q size align)
copy size align to from = undefined_behaviour AccessesOutside

-- a number that was loaded, as its type holds it
abbrev pub integer_value : IntegerType → Value → Run Value
integer_value t v = use_number v >>= (λ n. pure (Word (extension t n)))

-- the value at a pointer, by its type. That of a struct or an array is the pointer
abbrev pub read_at : PlainType → Value → Run Value
read_at Void p = undefined_behaviour UsesNoValue
read_at (Int bytes signed) p = load bytes false p >>= integer_value (integer_or_word (Int bytes signed))
read_at (Pointer target) p = load 8 true p
read_at (Array element n) p = pure p
read_at (Struct n) p = pure p

-- a value as its type holds it
abbrev pub as_held : PlainType → Value → Run Value
as_held Void v = pure v
as_held (Int bytes signed) v = integer_value (integer_or_word (Int bytes signed)) v
as_held (Pointer target) v = pure v
as_held (Array element n) v = pure v
as_held (Struct n) v = pure v

-- what a call gave, which may be nothing
abbrev pub call_result : PlainType → Value → Run Value
call_result ty Unset = pure Unset
call_result ty (Word n) = as_held ty (Word n)
call_result ty (Address p) = as_held ty (Address p)

-- a register is read by its type too: so an expression gives a word of its type in every state, and not only in those
-- that a run comes to
abbrev pub read : PlainType → ValuePlace → Run Value
read ty (Register k) = read_register k >>= as_held ty
read ty (At p) = read_at ty p

-- a value is written, by its type; it is used
abbrev pub write_at : List StructDef → PlainType → Value → Value → Run (Unit {0})
write_at ds Void p v = undefined_behaviour UsesNoValue
write_at ds (Int bytes signed) p v = use_value UsesNoValue v >>= store bytes p
write_at ds (Pointer target) p v = use_value UsesNoValue v >>= store 8 p
write_at ds (Array element n) p v = undefined_behaviour UsesNoValue
write_at ds (Struct n) p v = copy (size_of ds (Struct n)) (align_of ds (Struct n)) p v

abbrev pub write : List StructDef → PlainType → ValuePlace → Value → Run (Unit {0})
write ds ty (Register k) v = use_value UsesNoValue v >>= write_register k
write ds ty (At p) v = write_at ds ty p v

-- the pointer to a place; a local that is no object has none
abbrev pub place_pointer : ValuePlace → Run Value
place_pointer (Register k) = undefined_behaviour AccessesOutside
place_pointer (At p) = pure p

-- ---- moving

-- why a pointer cannot be moved
abbrev pub move_reason : Memory → Value → Reason
move_reason m (Address p) = if is_live m p then MovesOutside else UsesDeadObject
move_reason m (Word n) = MovesOutside
move_reason m Unset = UsesNoValue

-- a pointer moved by a number of bytes (C99 6.5.6)
abbrev pub move : Value → (by : ℤ) → Run Value
move p by = on_memory (λ m. or_undefined (move_reason m p) (pointer_plus m p by))

-- a pointer stands within its object or at its end, as C99 6.5.6 asks of each operand of `+` and `-`
abbrev pub stands_inside : Memory → Value → Bool
stands_inside m (Address p) = is_offset p.offset (size_at m p)
stands_inside m (Word n) = false
stands_inside m Unset = false

-- a pointer moved from there by the bytes of a number of elements
abbrev pub element_plus : Memory → Value → ℤ → Option Value
element_plus m p by = if stands_inside m p then pointer_plus m p by else None

abbrev pub move_elements : Value → (by : ℤ) → Run Value
move_elements p by = on_memory (λ m. or_undefined (move_reason m p) (element_plus m p by))

-- a pointer moved by a number of elements, as its type has it
abbrev pub move_by : List StructDef → PlainType → IntegerType → Value → Value → Run Value
move_by ds element t p v = use_number v >>= (λ n. move_elements p (value t n *ℤ pos (size_of ds element)))

-- the place of a member in bytes (C99 6.5.2.3)
abbrev pub member_place : Option Member → ℕ
member_place None = 0
member_place (Some m) = m.offset

abbrev pub members_of : Option StructDef → List Member
members_of None = []
members_of (Some d) = d.members

abbrev pub offset_of : List StructDef → PlainType → (member : ℕ) → ℕ
offset_of ds (Struct n) member = member_place (slice_get (members_of (slice_get ds n)) member)
offset_of ds _ member = 0

-- ---- locals

-- the objects of the memory locals in scope, by the number of the local
abbrev pub Scope : Type 0
Scope = ℕ → Option ℕ

abbrev pub no_scope : Scope
no_scope = λ k. None

abbrev pub bind_object : Scope → (local object : ℕ) → Scope
bind_object scope k object = λ j. if j == k then Some object else scope j

-- an object ends where a run that goes on leaves its scope
abbrev pub leave_scope : {A : Type 0} → (object : ℕ) → Evaluation A CallState → Evaluation A CallState
leave_scope object r =
    and_then r (λ a s. Gives a (in_world s (with_memory s.world (end_object s.world.outer.memory object))))

-- a local is an object while a run lasts (C99 6.2.4)
abbrev pub with_local_object : {A : Type 0} → (size local : ℕ) → (Scope → Run A) → Scope → Run A
with_local_object size k run scope = λ s.
    leave_scope (length s.world.outer.memory)
    (run (bind_object scope k (length s.world.outer.memory))
    (in_world s (with_memory s.world (begin_object s.world.outer.memory size true))))

-- a local begins: an object, or a register that was not written
abbrev pub with_local : {A : Type 0} → List StructDef → (local : ℕ) → Option Local → (Scope → Run A) → Scope → Run A
with_local ds k None run scope = run scope
with_local ds k (Some l) run scope =
    if l.in_memory then with_local_object (size_of ds (type_view l.ty)) k run scope
    else write_register k Unset >> run scope

-- locals begin, one after the other
abbrev pub with_locals : {A : Type 0} → List StructDef → List Local → (numbers : List ℕ) → (Scope → Run A) → Scope
    → Run A
with_locals ds ls [] run scope = run scope
with_locals ds ls (k ∷ ks) run scope = with_local ds k (slice_get ls k) (with_locals ds ls ks run) scope

-- where a local stands
abbrev pub local_place : Scope → (local : ℕ) → Option Local → Run ValuePlace
local_place scope k None = undefined_behaviour AccessesOutside
local_place scope k (Some l) =
    if l.in_memory then or_undefined UsesDeadObject (scope k) >>= (λ o. pure (At (start_pointer o)))
    else pure (Register k)
