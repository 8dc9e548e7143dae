-- The code of expressions, each in front of the code that comes behind it (C99 6.5).
--
-- A value comes into the register of its type at a depth, and what stands at lower depths stays.
use Rattle.std.specs.Prelude.{ℕ, zero, suc, ◌+◌, ◌-◌, ◌^◌, min, ◌==◌, pos, Bool, true, false, ◌&&◌, not, List, [], ◌∷◌, slice_get, Option, Some, None, if◌then◌else◌, unwrap_or}
use Rattle.bk_arithmetic.specs.declared.integer_type.IntegerType.{IntegerType}
use Rattle.bk_arithmetic.specs.IntegerTypes.{bytes, is_signed}
use Rattle.c_tree.specs.declared.expressions.UnaryOp.{UnaryOp}
use Rattle.c_tree.specs.declared.expressions.UnaryOp.TheVariants as u
use Rattle.c_tree.specs.declared.expressions.BinaryOp.{BinaryOp}
use Rattle.c_tree.specs.declared.expressions.BinaryOp.TheVariants as b
use Rattle.c_tree.specs.declared.expressions.StepOp.{StepOp}
use Rattle.c_tree.specs.declared.expressions.StepOp.TheVariants as s
use Rattle.c_typed_tree.specs.declared.expressions.Builtin.{Builtin}
use Rattle.c_typed_tree.specs.declared.expressions.Builtin.TheVariants as i
use Rattle.c_typed_tree.specs.declared.expressions.Callee.{Callee}
use Rattle.c_typed_tree.specs.declared.expressions.Callee.TheVariants as c
use Rattle.c_typed_tree.specs.declared.types.StructDef.{StructDef}
use Rattle.c_typed_tree.specs.declared.units.Local.{Local}
use Rattle.c_typed_tree.specs.Types.{PlainType, Void, Int, Pointer, Array, Struct}
use Rattle.c_typed_tree.specs.Layout.{size_of, align_of}
use Rattle.c_typed_tree.specs.Expressions.{Expr, Number, Global, Call, Unary, Binary, Assign, Conditional, Cast, Convert, Index, Field, Arrow, Postfix, Comma, Exprs, no_exprs, more_exprs, type_of}
use Rattle.c_typed_tree.specs.Expressions as e
use Rattle.c_semantics.specs.Objects.{integer_or_word, offset_of}
use Rattle.c_semantics.specs.Operators.{operator_of, operation_type, step_operator, one_type}
use Rattle.c_semantics.specs.Evaluates.{target_of}
use Rattle.suifvm_ir.specs.declared.types.VmType.{VmType}
use Rattle.suifvm_ir.specs.declared.types.VmType.TheVariants.{S32, U32, S64, U64, P64}
use Rattle.suifvm_ir.specs.declared.types.MemoryType.{MemoryType}
use Rattle.suifvm_ir.specs.declared.types.Alignment.{Alignment}
use Rattle.suifvm_ir.specs.declared.types.Alignment.TheVariants.{One, Two, Four, Eight}
use Rattle.suifvm_ir.specs.declared.insn.VmUnaryOp as vu
use Rattle.suifvm_ir.specs.declared.insn.VmUnaryOp.TheVariants.{Move, Negate, Complement}
use Rattle.suifvm_ir.specs.declared.insn.VmBinaryOp as vb
use Rattle.suifvm_ir.specs.declared.insn.VmBinaryOp.TheVariants.{Add, Subtract, Multiply, Divide, Remainder, And, Or, ExclusiveOr}
use Rattle.suifvm_ir.specs.declared.insn.ShiftOp.{ShiftOp}
use Rattle.suifvm_ir.specs.declared.insn.ShiftOp.TheVariants.{ArithmeticRight, Left, LogicalRight}
use Rattle.suifvm_ir.specs.declared.insn.CompareOp.{CompareOp}
use Rattle.suifvm_ir.specs.declared.insn.CompareOp.TheVariants.{Equal, NotEqual, Less, LessOrEqual}
use Rattle.suifvm_ir.specs.declared.insn.VmBranchOp.{VmBranchOp}
use Rattle.suifvm_ir.specs.declared.insn.VmBranchOp.TheVariants.{IfTrue, IfFalse}
use Rattle.suifvm_ir.specs.declared.insn.VmBuiltin as vi
use Rattle.suifvm_ir.specs.declared.insn.VmBuiltin.TheVariants.{PutChar, GetChar, Abort, Exit}
use Rattle.suifvm_ir.specs.declared.insn.VmCallee as vc
use Rattle.suifvm_ir.specs.declared.insn.VmCallee.TheVariants as vk
use Rattle.suifvm_ir.specs.declared.insn.VmObject.{VmObject}
use Rattle.suifvm_ir.specs.declared.insn.VmObject.TheVariants as p
use Rattle.suifvm_ir.specs.declared.insn.VmInsn as vm
use Rattle.suifvm_ir.specs.declared.insn.VmInsn.TheVariants as n
use Rattle.lowering_code.specs.declared.operation.RegisterOperation.{RegisterOperation}
use Rattle.lowering_code.specs.declared.operation.RegisterOperation.TheVariants.{Calculates, Shifts, Compares, ComparesBack}
use Rattle.lowering_code.specs.declared.item.CodeItem.{CodeItem}
use Rattle.lowering_code.specs.declared.item.CodeItem.TheVariants.{Start, Plain, Jump, Branch}
use Rattle.lowering_code.specs.Registers.{register_type, memory_type, temporary, value_register, address_register, bytes_register, object_index}
use Rattle.lowering_code.specs.Items.{block_total}

-- ---- names in the other language

abbrev pub vm_builtin : Builtin → vi.VmBuiltin
vm_builtin i.Putchar = PutChar
vm_builtin i.Getchar = GetChar
vm_builtin i.Abort = Abort
vm_builtin i.Exit = Exit

abbrev pub vm_callee : Callee → vc.VmCallee
vm_callee (c.Function k) = vk.Function k
vm_callee (c.Builtin f) = vk.Builtin (vm_builtin f)

abbrev pub plain_of : IntegerType → PlainType
plain_of t = Int (bytes t) (is_signed t)

abbrev pub alignment_of : (bytes : ℕ) → Alignment
alignment_of bytes = if bytes == 1 then One else if bytes == 2 then Two else if bytes == 4 then Four else Eight

abbrev pub is_same_register : VmType → VmType → Bool
is_same_register S32 S32 = true
is_same_register U32 U32 = true
is_same_register S64 S64 = true
is_same_register U64 U64 = true
is_same_register P64 P64 = true
is_same_register ty other = false

-- ---- sizes and places as words

-- a number of bytes that an `s64` holds; those of lawful units are far smaller
abbrev pub cap_offset : ℕ → ℕ
cap_offset n = min n (2 ^ 63 - 1)

abbrev pub stride : List StructDef → PlainType → ℕ
stride ds element = cap_offset (size_of ds element)

-- the bytes to a member, and so many more
abbrev pub member_plus : List StructDef → PlainType → (member plus : ℕ) → ℕ
member_plus ds ty member plus = cap_offset (offset_of ds ty member + plus)

-- ---- operators between two registers of one type

abbrev pub right_shift_kind : (signed : Bool) → ShiftOp
right_shift_kind signed = if signed then ArithmeticRight else LogicalRight

-- those between integers of a type, and the comparisons of pointers
abbrev pub operation_of : BinaryOp → (signed : Bool) → RegisterOperation
operation_of b.LogicalOr signed = Calculates Or
operation_of b.LogicalAnd signed = Calculates And
operation_of b.Or signed = Calculates Or
operation_of b.Xor signed = Calculates ExclusiveOr
operation_of b.And signed = Calculates And
operation_of b.Equal signed = Compares Equal
operation_of b.NotEqual signed = Compares NotEqual
operation_of b.Less signed = Compares Less
operation_of b.Greater signed = ComparesBack Less
operation_of b.LessEqual signed = Compares LessOrEqual
operation_of b.GreaterEqual signed = ComparesBack LessOrEqual
operation_of b.ShiftLeft signed = Shifts Left
operation_of b.ShiftRight signed = Shifts (right_shift_kind signed)
operation_of b.Add signed = Calculates Add
operation_of b.Subtract signed = Calculates Subtract
operation_of b.Multiply signed = Calculates Multiply
operation_of b.Divide signed = Calculates Divide
operation_of b.Remainder signed = Calculates Remainder

-- an operation in registers of a type: its instruction
abbrev pub operation_insn : RegisterOperation → VmType → (destination left right : ℕ) → vm.VmInsn
operation_insn (Calculates op) ty destination left right = n.Binary op ty destination left right
operation_insn (Shifts op) ty destination left right = n.Shift op ty destination left right
operation_insn (Compares op) ty destination left right = n.Compare op ty destination left right
operation_insn (ComparesBack op) ty destination left right = n.Compare op ty destination right left

-- what a pointer points to
abbrev pub element_of : PlainType → Option PlainType
element_of (Pointer element) = Some element
element_of ty = None

abbrev pub is_signed_type : PlainType → Bool
is_signed_type (Int bytes signed) = signed
is_signed_type _ = false

-- ---- pieces of code

-- an operator between integers of a type in registers
abbrev pub operate_code : BinaryOp → PlainType → (destination left right : ℕ) → List CodeItem → List CodeItem
operate_code op ty destination left right rest =
    Plain (operation_insn (operation_of op (is_signed_type ty)) (register_type ty) destination left right) ∷ rest

-- a value of a type moves from register to register
abbrev pub move_code : PlainType → (to from : ℕ) → List CodeItem → List CodeItem
move_code ty to from rest = Plain (n.Unary Move (register_type ty) to from) ∷ rest

-- a scalar is loaded from, and stored to, a pointer moved by so many bytes
abbrev pub load_from : PlainType → (destination pointer plus : ℕ) → List CodeItem → List CodeItem
load_from ty destination pointer plus rest = Plain (n.Load (memory_type ty) destination pointer (pos plus)) ∷ rest

abbrev pub store_code : PlainType → (pointer plus value : ℕ) → List CodeItem → List CodeItem
store_code ty pointer plus value rest = Plain (n.Store (memory_type ty) pointer (pos plus) value) ∷ rest

-- an integer at a depth becomes one of another type: the low bytes of the narrower one, or of the new one where that
-- has 4 bytes or fewer
abbrev pub narrow_type : (from to : PlainType) → MemoryType
narrow_type from (Int bytes signed) = if bytes == 8 then memory_type from else memory_type (Int bytes signed)
narrow_type from to = memory_type from

-- every value of the register is one of the type
abbrev pub fills_register : PlainType → Bool
fills_register (Int bytes signed) = if bytes == 8 then true else bytes == 4
fills_register ty = true

abbrev pub keeps_register : (from to : PlainType) → Bool
keeps_register from to = is_same_register (register_type from) (register_type to) && fills_register to

-- the pointer is moved by the bytes, or back by them
abbrev pub add_code : (destination pointer bytes : ℕ) → List CodeItem → List CodeItem
add_code destination pointer bytes rest = Plain (n.Binary Add P64 destination pointer bytes) ∷ rest

abbrev pub negate_code : (bytes : ℕ) → List CodeItem → List CodeItem
negate_code bytes rest = Plain (n.Unary Negate S64 bytes bytes) ∷ rest

-- a struct is copied
abbrev pub copy_code : List StructDef → (to from : ℕ) → PlainType → List CodeItem → List CodeItem
copy_code ds to from ty rest = Plain (n.Copy to from (stride ds ty) (alignment_of (align_of ds ty))) ∷ rest

-- locals is the number of locals
module _ (locals : ℕ) where
  abbrev pub constant_code : (depth : ℕ) → PlainType → (word : ℕ) → List CodeItem → List CodeItem
  constant_code d ty word rest =
      Plain (n.LoadConstant (register_type ty) (value_register locals d ty) word) ∷ rest

  -- the pointer at a depth is moved by a number of bytes
  abbrev pub moved_code : (depth plus : ℕ) → List CodeItem → List CodeItem
  moved_code d zero rest = rest
  moved_code d (suc plus) rest =
      Plain (n.LoadConstant S64 (bytes_register locals d) (suc plus))
      ∷ Plain (n.Binary Add P64 (address_register locals d) (address_register locals d) (bytes_register locals d))
      ∷ rest

  -- what stands behind a pointer at a depth, by its type: a scalar is loaded, of others the value is the address
  abbrev pub load_code : (depth : ℕ) → PlainType → (plus : ℕ) → List CodeItem → List CodeItem
  load_code d Void plus rest = rest
  load_code d (Int bytes signed) plus rest =
      load_from (Int bytes signed) (value_register locals d (Int bytes signed)) (address_register locals d) plus rest
  load_code d (Pointer target) plus rest =
      load_from (Pointer target) (value_register locals d (Pointer target)) (address_register locals d) plus rest
  load_code d (Array element length) plus rest = moved_code d plus rest
  load_code d (Struct number) plus rest = moved_code d plus rest

  abbrev pub convert_code : (depth : ℕ) → (from to : PlainType) → List CodeItem → List CodeItem
  convert_code d from to rest =
      if keeps_register from to then rest
      else Plain (n.Convert (narrow_type from to) (register_type to) (value_register locals d to)
      (value_register locals d from))
      ∷ rest

  -- an integer at a depth becomes a number of bytes: so many elements of a size. The depth of the size is free
  abbrev pub sized_code : (depth free size : ℕ) → List CodeItem → List CodeItem
  sized_code d free size rest =
      if size == 1 then rest
      else Plain (n.LoadConstant S64 (bytes_register locals free) size)
      ∷ Plain (n.Binary Multiply S64 (bytes_register locals d) (bytes_register locals d) (bytes_register locals free))
      ∷ rest

  abbrev pub scaled_code : (depth free : ℕ) → PlainType → (size : ℕ) → List CodeItem → List CodeItem
  scaled_code d free ty size rest = convert_code d ty (Int 8 true) (sized_code d free size rest)

  -- a distance in bytes becomes one in elements
  abbrev pub divided_code : (depth free size : ℕ) → List CodeItem → List CodeItem
  divided_code d free size rest =
      if size == 1 then rest
      else Plain (n.LoadConstant S64 (bytes_register locals free) size)
      ∷ Plain (n.Binary Divide S64 (bytes_register locals d) (bytes_register locals d) (bytes_register locals free))
      ∷ rest

  -- the address of an object, moved by so many bytes, at a depth
  abbrev pub address_code : (depth : ℕ) → VmObject → (plus : ℕ) → List CodeItem → List CodeItem
  address_code d place plus rest = Plain (n.LoadAddress (address_register locals d) place plus) ∷ rest

  abbrev pub unary_code : vu.VmUnaryOp → (depth : ℕ) → PlainType → List CodeItem → List CodeItem
  unary_code op d ty rest =
      Plain (n.Unary op (register_type ty) (value_register locals d ty) (value_register locals d ty)) ∷ rest

  -- 1 where the value at the depth is zero or null, else 0
  abbrev pub not_code : (depth : ℕ) → (ty operand : PlainType) → List CodeItem → List CodeItem
  not_code d ty operand rest =
      constant_code (suc d) operand 0
      (Plain (n.Compare Equal (register_type operand) (value_register locals d ty) (value_register locals d operand)
      (value_register locals (suc d) operand))
      ∷ rest)

  -- a branch by the value at the depth
  abbrev pub branch_by_value_code : VmBranchOp → (depth : ℕ) → PlainType → (name : ℕ) → List CodeItem → List CodeItem
  branch_by_value_code op d ty name rest = Branch op (register_type ty) (value_register locals d ty) name ∷ rest

  -- ---- operators

  -- an operator between integers at a depth and above it
  abbrev pub integers_code : BinaryOp → (depth : ℕ) → (ty left right : PlainType) → List CodeItem → List CodeItem
  integers_code op d ty left right rest =
      operate_code op left (value_register locals d ty) (value_register locals d left)
      (value_register locals (suc d) right) rest

  -- what a compound assignment makes of the old value at one depth and the right side at another one, by an operator
  -- in an integer type
  abbrev pub combine_in : BinaryOp → (t : IntegerType) → (old right : ℕ) → (left ty : PlainType) → List CodeItem
      → List CodeItem
  combine_in op t o d left ty rest =
      convert_code o left (plain_of t)
      (Plain (operation_insn (operation_of op (is_signed t)) (register_type (plain_of t))
      (value_register locals o (plain_of t)) (value_register locals o (plain_of t)) (value_register locals d ty))
      ∷ convert_code o (plain_of t) left rest)

  -- an integer becomes one of another integer type, or a null pointer
  abbrev pub integer_code : (depth : ℕ) → (from to : PlainType) → List CodeItem → List CodeItem
  integer_code d from Void rest = rest
  integer_code d from (Int m s) rest = convert_code d from (Int m s) rest
  integer_code d from (Pointer target) rest =
      Plain (n.Unary Move P64 (address_register locals d) (value_register locals d from)) ∷ rest
  integer_code d from (Array element length) rest = rest
  integer_code d from (Struct number) rest = rest

  -- a value that was converted, where the operand is no array
  abbrev pub converted_code : (depth : ℕ) → (from to : PlainType) → List CodeItem → List CodeItem
  converted_code d Void to rest = rest
  converted_code d (Int k r) to rest = integer_code d (Int k r) to rest
  converted_code d (Pointer target) to rest = rest
  converted_code d (Array element length) to rest = rest
  converted_code d (Struct number) to rest = rest

  -- a scalar is stored to the pointer at a depth, from above it, and is the value
  abbrev pub set_scalar_code : (depth plus : ℕ) → PlainType → List CodeItem → List CodeItem
  set_scalar_code d plus ty rest =
      store_code ty (address_register locals d) plus (value_register locals (suc d) ty)
      (move_code ty (value_register locals d ty) (value_register locals (suc d) ty) rest)

  -- the pointer to a struct is moved before it is copied to
  abbrev pub place_moved_code : PlainType → (depth plus : ℕ) → List CodeItem → List CodeItem
  place_moved_code (Struct number) d plus rest = moved_code d plus rest
  place_moved_code ty d plus rest = rest

  module _ (ds : List StructDef) where
    -- the pointer at one depth and the integer at another one, by whose elements it is moved
    abbrev pub step_code : BinaryOp → (pointer integer free : ℕ) → (element : PlainType) → (ty : PlainType)
        → List CodeItem
        → List CodeItem
    step_code b.Subtract o d free element ty rest =
        scaled_code d free ty (stride ds element)
        (negate_code (bytes_register locals d)
        (add_code (address_register locals o) (address_register locals o) (bytes_register locals d) rest))
    step_code op o d free element ty rest =
        scaled_code d free ty (stride ds element)
        (add_code (address_register locals o) (address_register locals o) (bytes_register locals d) rest)

    -- an integer at a depth, and the pointer above it, which comes to the lower depth
    abbrev pub step_back_code : (depth free : ℕ) → (element : PlainType) → (ty : PlainType) → List CodeItem
        → List CodeItem
    step_back_code d free element ty rest =
        scaled_code d free ty (stride ds element)
        (add_code (address_register locals d) (address_register locals (suc d)) (bytes_register locals d) rest)

    abbrev pub pointers_code : BinaryOp → (depth : ℕ) → (ty element : PlainType) → List CodeItem → List CodeItem
    pointers_code b.Subtract d ty element rest =
        Plain (n.Binary Subtract P64 (bytes_register locals d) (address_register locals d)
        (address_register locals (suc d)))
        ∷ divided_code d (suc d) (stride ds element) rest
    pointers_code op d ty element rest =
        Plain (operation_insn (operation_of op false) P64 (value_register locals d ty) (address_register locals d)
        (address_register locals (suc d)))
        ∷ rest

    -- an operator between a value at a depth and one above it, by what they point to
    abbrev pub binary_by : BinaryOp → (depth : ℕ) → (ty left right : PlainType) → (target other : Option PlainType)
        → List CodeItem → List CodeItem
    binary_by op d ty left right (Some element) (Some other) rest = pointers_code op d ty element rest
    binary_by op d ty left right (Some element) None rest = step_code op d (suc d) (suc (suc d)) element right rest
    binary_by op d ty left right None (Some element) rest = step_back_code d (suc (suc d)) element left rest
    binary_by op d ty left right None None rest = integers_code op d ty left right rest

    abbrev pub binary_code : BinaryOp → (depth : ℕ) → (ty left right : PlainType) → List CodeItem → List CodeItem
    binary_code op d ty left right rest = binary_by op d ty left right (element_of left) (element_of right) rest

    -- what a compound assignment makes of the old value at one depth and the right side at another one; a free depth
    -- stands above both
    abbrev pub combine_by : BinaryOp → (old right free : ℕ) → (left ty : PlainType) → (target : Option PlainType)
        → List CodeItem → List CodeItem
    combine_by op o d free left ty (Some element) rest = step_code op o d free element ty rest
    combine_by op o d free left ty None rest =
        combine_in op (operation_type op (integer_or_word left) (integer_or_word ty)) o d left ty rest

    abbrev pub combine_code : BinaryOp → (old right free : ℕ) → (left ty : PlainType) → List CodeItem → List CodeItem
    combine_code op o d free left ty rest = combine_by op o d free left ty (element_of left) rest

    -- the place and the index of an element, at a depth and above it; the address comes to the depth
    abbrev pub element_by : (depth : ℕ) → (left right : PlainType) → (target other : Option PlainType) → List CodeItem
        → List CodeItem
    element_by d left right (Some element) other rest = step_code b.Add d (suc d) (suc (suc d)) element right rest
    element_by d left right None (Some element) rest = step_back_code d (suc (suc d)) element left rest
    element_by d left right None None rest = rest

    abbrev pub element_code : (depth : ℕ) → (left right : PlainType) → List CodeItem → List CodeItem
    element_code d left right rest = element_by d left right (element_of left) (element_of right) rest

    -- ---- changes of a place

    -- `++` and `--`: the old value at a depth becomes the new one
    abbrev pub stepped_code : StepOp → (old : ℕ) → PlainType → List CodeItem → List CodeItem
    stepped_code op o ty rest =
        constant_code (suc o) (one_type ty) 1
        (combine_code (step_operator op) o (suc o) (suc (suc o)) ty (one_type ty) rest)

    -- in a register, whose new value, or old value, comes to the depth
    abbrev pub step_register_code : StepOp → (postfix : Bool) → (depth : ℕ) → PlainType → (local : ℕ) → List CodeItem
        → List CodeItem
    step_register_code op false d ty k rest =
        move_code ty (value_register locals d ty) k
        (stepped_code op d ty (move_code ty k (value_register locals d ty) rest))
    step_register_code op true d ty k rest =
        move_code ty (value_register locals d ty) k
        (move_code ty (value_register locals (suc d) ty) (value_register locals d ty)
        (stepped_code op (suc d) ty (move_code ty k (value_register locals (suc d) ty) rest)))

    -- in memory, where the pointer stands at the depth
    abbrev pub step_memory_code : StepOp → (postfix : Bool) → (depth plus : ℕ) → PlainType → List CodeItem
        → List CodeItem
    step_memory_code op false d plus ty rest =
        load_from ty (value_register locals (suc d) ty) (address_register locals d) plus
        (stepped_code op (suc d) ty
        (store_code ty (address_register locals d) plus (value_register locals (suc d) ty)
        (move_code ty (value_register locals d ty) (value_register locals (suc d) ty) rest)))
    step_memory_code op true d plus ty rest =
        load_from ty (value_register locals (suc d) ty) (address_register locals d) plus
        (move_code ty (value_register locals (suc (suc d)) ty) (value_register locals (suc d) ty)
        (stepped_code op (suc (suc d)) ty
        (store_code ty (address_register locals d) plus (value_register locals (suc (suc d)) ty)
        (move_code ty (value_register locals d ty) (value_register locals (suc d) ty) rest))))

    -- an assignment to memory: the pointer stands at the depth, the right side above it
    abbrev pub set_memory_code : (depth plus : ℕ) → PlainType → List CodeItem → List CodeItem
    set_memory_code d plus (Struct number) rest =
        copy_code ds (address_register locals d) (address_register locals (suc d)) (Struct number) rest
    set_memory_code d plus ty rest = set_scalar_code d plus ty rest

    abbrev pub combine_memory_code : BinaryOp → (depth plus : ℕ) → (left right : PlainType) → List CodeItem
        → List CodeItem
    combine_memory_code op d plus left right rest =
        load_from left (value_register locals (suc (suc d)) left) (address_register locals d) plus
        (combine_code op (suc (suc d)) (suc d) (suc (suc (suc d))) left right
        (store_code left (address_register locals d) plus (value_register locals (suc (suc d)) left)
        (move_code left (value_register locals d left) (value_register locals (suc (suc d)) left) rest)))

    -- ---- expressions; ls are the locals of the function

    module _ (ls : List Local) where
      -- the local of a place that a register holds
      abbrev pub register_if : (number : ℕ) → Option Local → Option ℕ
      register_if k None = None
      register_if k (Some l) = if l.in_memory then None else Some k

      abbrev pub register_of : Expr → Option ℕ
      register_of (e.Local ty k) = register_if k (slice_get ls k)
      register_of x = None

      -- by how many bytes the pointer that the code of a place gives is still to be moved
      abbrev pub plus_of : Expr → (plus : ℕ) → ℕ
      plus_of (e.Local ty k) plus = 0
      plus_of (Global ty k) plus = 0
      plus_of (Field ty x member) plus = plus_of x (member_plus ds (type_of x) member plus)
      plus_of (Arrow ty x member) plus = member_plus ds (target_of (type_of x)) member plus
      plus_of x plus = plus

      abbrev pub local_code : (depth : ℕ) → PlainType → (number : ℕ) → Option ℕ → List CodeItem → List CodeItem
      local_code d ty k (Some register) rest = move_code ty (value_register locals d ty) register rest
      local_code d ty k None rest = address_code d (p.Local (object_index ls k)) 0 (load_code d ty 0 rest)

      -- where the result of a call goes
      abbrev pub destination_of : (depth : ℕ) → PlainType → Option ℕ
      destination_of d Void = None
      destination_of d ty = Some (value_register locals d ty)

      abbrev pub call_registers : (depth : ℕ) → Exprs → List ℕ
      call_registers d no_exprs = []
      call_registers d (more_exprs x xs) = value_register locals d (type_of x) ∷ call_registers (suc d) xs

      -- a change in a register, or else in memory
      abbrev pub change_code : Option ℕ → (in_register : ℕ → List CodeItem) → (in_memory : List CodeItem)
          → List CodeItem
      change_code (Some k) in_register in_memory = in_register k
      change_code None in_register in_memory = in_memory

      -- an assignment, by the code of the place and that of the right side at a depth
      abbrev pub assign_code : (depth : ℕ) → Option BinaryOp → (ty right : PlainType) → (plus : ℕ) → Option ℕ
          → (place : List CodeItem → List CodeItem) → (value : (depth : ℕ) → List CodeItem → List CodeItem)
          → List CodeItem → List CodeItem
      assign_code d None ty right plus (Some k) place value rest =
          value d (move_code ty k (value_register locals d ty) rest)
      assign_code d (Some op) ty right plus (Some k) place value rest =
          value (suc d) (move_code ty (value_register locals d ty) k
          (combine_code op d (suc d) (suc (suc d)) ty right (move_code ty k (value_register locals d ty) rest)))
      assign_code d None ty right plus None place value rest =
          place (place_moved_code ty d plus (value (suc d) (set_memory_code d plus ty rest)))
      assign_code d (Some op) ty right plus None place value rest =
          place (value (suc d) (combine_memory_code op d plus ty right rest))

      -- a conversion: an array becomes the pointer to its place (C99 6.3.2.1)
      abbrev pub conversion_code : (depth : ℕ) → (from to : PlainType) → (plus : ℕ)
          → (place value : List CodeItem → List CodeItem) → List CodeItem → List CodeItem
      conversion_code d (Array element length) to plus place value rest = place (moved_code d plus rest)
      conversion_code d from to plus place value rest = value (converted_code d from to rest)

      abbrev mutual
        -- the value into the register of its type at the depth, then the rest
        pub expr_code : (depth : ℕ) → Expr → List CodeItem → List CodeItem
        expr_code d (Number ty word) rest = constant_code d ty word rest
        expr_code d (e.Local ty k) rest = local_code d ty k (register_if k (slice_get ls k)) rest
        expr_code d (Global ty k) rest = address_code d (p.Global k) 0 (load_code d ty 0 rest)
        expr_code d (Call ty callee xs) rest =
            exprs_code d xs (Plain (n.Call (destination_of d ty) (vm_callee callee) (call_registers d xs)) ∷ rest)
        expr_code d (Unary ty u.Address x) rest = place_code d x 0 (moved_code d (plus_of x 0) rest)
        expr_code d (Unary ty u.Dereference x) rest = expr_code d x (load_code d ty 0 rest)
        expr_code d (Unary ty u.Increment x) rest =
            change_code (register_of x) (λ k. step_register_code s.Increment false d ty k rest)
            (place_code d x 0 (step_memory_code s.Increment false d (plus_of x 0) ty rest))
        expr_code d (Unary ty u.Decrement x) rest =
            change_code (register_of x) (λ k. step_register_code s.Decrement false d ty k rest)
            (place_code d x 0 (step_memory_code s.Decrement false d (plus_of x 0) ty rest))
        expr_code d (Unary ty u.Not x) rest = expr_code d x (not_code d ty (type_of x) rest)
        expr_code d (Unary ty u.Plus x) rest = expr_code d x rest
        expr_code d (Unary ty u.Minus x) rest = expr_code d x (unary_code Negate d ty rest)
        expr_code d (Unary ty u.Invert x) rest = expr_code d x (unary_code Complement d ty rest)
        expr_code d (Binary ty b.LogicalAnd x y) rest =
            let fails = constant_code d ty 0 (Start ∷ rest) in
            expr_code d x (branch_by_value_code IfFalse d (type_of x) (block_total fails)
            (expr_code d y (branch_by_value_code IfFalse d (type_of y) (block_total fails)
            (constant_code d ty 1 (Jump (block_total rest) ∷ fails)))))
        expr_code d (Binary ty b.LogicalOr x y) rest =
            let holds = constant_code d ty 1 (Start ∷ rest) in
            expr_code d x (branch_by_value_code IfTrue d (type_of x) (block_total holds)
            (expr_code d y (branch_by_value_code IfTrue d (type_of y) (block_total holds)
            (constant_code d ty 0 (Jump (block_total rest) ∷ holds)))))
        expr_code d (Binary ty op x y) rest =
            expr_code d x (expr_code (suc d) y (binary_code op d ty (type_of x) (type_of y) rest))
        expr_code d (Assign ty op x y) rest =
            assign_code d (operator_of op) ty (type_of y) (plus_of x 0) (register_of x) (λ is. place_code d x 0 is)
            (λ k is. expr_code k y is) rest
        expr_code d (Conditional ty x y z) rest =
            let fails = expr_code d z (Start ∷ rest) in
            expr_code d x (branch_by_value_code IfFalse d (type_of x) (block_total fails)
            (expr_code d y (Jump (block_total rest) ∷ fails)))
        expr_code d (Cast ty x) rest =
            conversion_code d (type_of x) ty (plus_of x 0) (λ is. place_code d x 0 is) (λ is. expr_code d x is) rest
        expr_code d (Convert ty x) rest =
            conversion_code d (type_of x) ty (plus_of x 0) (λ is. place_code d x 0 is) (λ is. expr_code d x is) rest
        expr_code d (Index ty x y) rest =
            expr_code d x (expr_code (suc d) y (element_code d (type_of x) (type_of y) (load_code d ty 0 rest)))
        expr_code d (Field ty x member) rest =
            place_code d x (member_plus ds (type_of x) member 0)
            (load_code d ty (plus_of x (member_plus ds (type_of x) member 0)) rest)
        expr_code d (Arrow ty x member) rest =
            expr_code d x (load_code d ty (member_plus ds (target_of (type_of x)) member 0) rest)
        expr_code d (Postfix ty op x) rest =
            change_code (register_of x) (λ k. step_register_code op true d ty k rest)
            (place_code d x 0 (step_memory_code op true d (plus_of x 0) ty rest))
        expr_code d (Comma ty xs) rest = commas_code d xs rest

        -- the pointer to a place, moved by so many bytes, into the register of pointers at the depth: all of it where a
        -- name stands there, else but for `plus_of`
        pub place_code : (depth : ℕ) → Expr → (plus : ℕ) → List CodeItem → List CodeItem
        place_code d (e.Local ty k) plus rest = address_code d (p.Local (object_index ls k)) plus rest
        place_code d (Global ty k) plus rest = address_code d (p.Global k) plus rest
        place_code d (Unary ty u.Dereference x) plus rest = expr_code d x rest
        place_code d (Index ty x y) plus rest =
            expr_code d x (expr_code (suc d) y (element_code d (type_of x) (type_of y) rest))
        place_code d (Field ty x member) plus rest = place_code d x (member_plus ds (type_of x) member plus) rest
        place_code d (Arrow ty x member) plus rest = expr_code d x rest
        place_code d x plus rest = rest

        -- into registers at the depth, above it, and so on
        pub exprs_code : (depth : ℕ) → Exprs → List CodeItem → List CodeItem
        exprs_code d no_exprs rest = rest
        exprs_code d (more_exprs x xs) rest = expr_code d x (exprs_code (suc d) xs rest)

        -- one after the other, all at the depth
        pub commas_code : (depth : ℕ) → Exprs → List CodeItem → List CodeItem
        commas_code d no_exprs rest = rest
        commas_code d (more_exprs x xs) rest = expr_code d x (commas_code d xs rest)
