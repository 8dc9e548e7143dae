-- What is carried from code to the code in front of it, piece by piece: of each piece of the code of expressions, by what
-- is known of single instructions.
use Rattle.std.proofs.Common.{◌≤◌, ◌<◌, ℕ, zero, suc, ◌+◌, ◌*◌, ◌==◌, max, ℤ, pos, Bool, true, false, if◌then◌else◌, List, ◌∷◌, Option, Some, None, arith}
use Rattle.bk_arithmetic.specs.declared.integer_type.IntegerType.{IntegerType}
use Rattle.bk_arithmetic.specs.IntegerTypes.{is_signed}
use Rattle.c_tree.specs.declared.expressions.BinaryOp.{BinaryOp}
use Rattle.c_tree.specs.declared.expressions.BinaryOp.TheVariants as b
use Rattle.c_tree.specs.declared.expressions.StepOp.{StepOp}
use Rattle.c_typed_tree.specs.declared.types.StructDef.{StructDef}
use Rattle.c_typed_tree.specs.Types.{PlainType, Void, Int, Pointer, Array, Struct}
use Rattle.c_semantics.specs.Objects.{integer_or_word}
use Rattle.c_semantics.specs.Operators.{operation_type, step_operator, one_type}
use Rattle.suifvm_ir.specs.declared.types.VmType.{VmType}
use Rattle.suifvm_ir.specs.declared.types.VmType.TheVariants.{S32, U32, S64, U64, P64}
use Rattle.suifvm_ir.specs.declared.types.MemoryType.{MemoryType}
use Rattle.suifvm_ir.specs.declared.insn.VmUnaryOp as vu
use Rattle.suifvm_ir.specs.declared.insn.VmUnaryOp.TheVariants.{Move, Negate}
use Rattle.suifvm_ir.specs.declared.insn.VmBinaryOp.TheVariants.{Add, Subtract, Multiply, Divide}
use Rattle.suifvm_ir.specs.declared.insn.CompareOp.TheVariants.{Equal}
use Rattle.suifvm_ir.specs.declared.insn.VmInsn.TheVariants as n
use Rattle.lowering_code.specs.declared.operation.RegisterOperation.{RegisterOperation}
use Rattle.lowering_code.specs.declared.operation.RegisterOperation.TheVariants.{Calculates}
use Rattle.lowering_code.specs.declared.item.CodeItem.{CodeItem}
use Rattle.lowering_code.specs.declared.item.CodeItem.TheVariants.{Plain}
use Rattle.lowering_code.specs.Registers.{register_type, memory_type, type_place, temporary, value_register, address_register, bytes_register}
use Rattle.lowering_code.specs.Expressions as code

-- ---- registers

small_place : (ty : VmType) → type_place ty < 5
small_place S32 = omega arith
small_place U32 = omega arith
small_place S64 = omega arith
small_place U64 = omega arith
small_place P64 = omega arith

module _ (most locals : ℕ) where
  -- there are so many depths from a depth on
  abbrev pub Has : (depth levels : ℕ) → Type 0
  Has d k = locals + 5 * (d + k) ≤ most

  pub there : (d : ℕ) (ty : VmType) → Has d 1 → temporary locals d ty + 1 ≤ most
  there d ty h = omega (arith, small_place ty, h)

  pub value_there : (d : ℕ) (ty : PlainType) → Has d 1 → value_register locals d ty < most
  value_there d ty h = omega (arith, there d (register_type ty) h)

  pub address_there : (d : ℕ) → Has d 1 → address_register locals d < most
  address_there d h = omega (arith, there d P64 h)

  pub bytes_there : (d : ℕ) → Has d 1 → bytes_register locals d < most
  bytes_there d h = omega (arith, there d S64 h)

-- ---- what is carried

-- a relation between code and the code that it is in front of, with a number that adds up; and what single instructions
-- count whose registers are below a number
pub record Carried : Type 1 where
  pub most : ℕ
  pub Emits : (k : ℕ) → (rest is : List CodeItem) → Type 0
  pub none : (rest : List CodeItem) → Emits 0 rest rest
  pub joins : (j k : ℕ) (rest mid is : List CodeItem) → Emits j mid is → Emits k rest mid → Emits (j + k) rest is
  pub at_most : (j k : ℕ) (rest is : List CodeItem) → j ≤ k → Emits j rest is → Emits k rest is
  -- a move, an access of memory, a constant, one of the operations that are short, and any operation
  pub move : ℕ
  pub memory : ℕ
  pub constant : ℕ
  pub short : ℕ
  pub operation : ℕ
  pub moves : (op : vu.VmUnaryOp) (ty : VmType) (to from : ℕ) (rest : List CodeItem) → to < most → from < most → Emits move rest (Plain (n.Unary op ty to from) ∷ rest)
  pub converts : (from_type : MemoryType) (ty : VmType) (to from : ℕ) (rest : List CodeItem) → to < most → from < most → Emits move rest (Plain (n.Convert from_type ty to from) ∷ rest)
  pub loads : (ty : MemoryType) (to pointer : ℕ) (plus : ℤ) (rest : List CodeItem) → to < most → pointer < most → Emits memory rest (Plain (n.Load ty to pointer plus) ∷ rest)
  pub stores : (ty : MemoryType) (pointer : ℕ) (plus : ℤ) (value : ℕ) (rest : List CodeItem) → pointer < most → value < most → Emits memory rest (Plain (n.Store ty pointer plus value) ∷ rest)
  pub loads_constant : (ty : VmType) (to word : ℕ) (rest : List CodeItem) → to < most → Emits constant rest (Plain (n.LoadConstant ty to word) ∷ rest)
  pub adds : (ty : VmType) (to left right : ℕ) (rest : List CodeItem) → to < most → left < most → right < most → Emits short rest (Plain (n.Binary Add ty to left right) ∷ rest)
  pub subtracts : (ty : VmType) (to left right : ℕ) (rest : List CodeItem) → to < most → left < most → right < most → Emits short rest (Plain (n.Binary Subtract ty to left right) ∷ rest)
  pub multiplies : (ty : VmType) (to left right : ℕ) (rest : List CodeItem) → to < most → left < most → right < most → Emits short rest (Plain (n.Binary Multiply ty to left right) ∷ rest)
  pub compares : (ty : VmType) (to left right : ℕ) (rest : List CodeItem) → to < most → left < most → right < most → Emits short rest (Plain (n.Compare Equal ty to left right) ∷ rest)
  pub operates : (op : RegisterOperation) (ty : VmType) (to left right : ℕ) (rest : List CodeItem) → to < most → left < most → right < most
      → Emits operation rest (Plain (code.operation_insn op ty to left right) ∷ rest)

module _ (c : Carried) where
  -- ---- what pieces count

  abbrev pub moved : ℕ
  moved = c.constant + c.short

  abbrev pub accessed : ℕ
  accessed = max moved c.memory

  abbrev pub divided : ℕ
  divided = c.constant + c.operation

  abbrev pub scaled : ℕ
  scaled = c.move + moved

  abbrev pub step : ℕ
  step = scaled + (c.move + c.short)

  abbrev pub combined_in : ℕ
  combined_in = c.move + (c.operation + c.move)

  abbrev pub combined : ℕ
  combined = max step combined_in

  abbrev pub pointers : ℕ
  pointers = c.short + divided

  abbrev pub binary : ℕ
  binary = max step pointers

  abbrev pub stepped : ℕ
  stepped = c.constant + combined

  abbrev pub stored : ℕ
  stored = c.memory + c.move

  -- ---- pieces

  nothing : (k : ℕ) (rest : List CodeItem) → c.Emits k rest rest
  nothing k rest = c.at_most 0 k rest rest (omega arith) (c.none rest)

  unless : (none : Bool) (k : ℕ) (rest is : List CodeItem) → c.Emits k rest is → c.Emits k rest (if none then rest else is)
  unless true k rest is e = nothing k rest
  unless false k rest is e = e

  pub move_emits : (ty : PlainType) (to from : ℕ) (rest : List CodeItem) → to < c.most → from < c.most → c.Emits c.move rest (code.move_code ty to from rest)
  move_emits ty to from rest f g = c.moves Move (register_type ty) to from rest f g

  pub load_emits : (ty : PlainType) (to pointer plus : ℕ) (rest : List CodeItem) → to < c.most → pointer < c.most → c.Emits c.memory rest (code.load_from ty to pointer plus rest)
  load_emits ty to pointer plus rest f g = c.loads (memory_type ty) to pointer (pos plus) rest f g

  pub store_emits : (ty : PlainType) (pointer plus value : ℕ) (rest : List CodeItem) → pointer < c.most → value < c.most → c.Emits c.memory rest (code.store_code ty pointer plus value rest)
  store_emits ty pointer plus value rest f g = c.stores (memory_type ty) pointer (pos plus) value rest f g

  pub add_emits : (to pointer bytes : ℕ) (rest : List CodeItem) → to < c.most → pointer < c.most → bytes < c.most → c.Emits c.short rest (code.add_code to pointer bytes rest)
  add_emits to pointer bytes rest f g h = c.adds P64 to pointer bytes rest f g h

  pub negate_emits : (bytes : ℕ) (rest : List CodeItem) → bytes < c.most → c.Emits c.move rest (code.negate_code bytes rest)
  negate_emits bytes rest f = c.moves Negate S64 bytes bytes rest f f

  module _ (locals : ℕ) where
    abbrev Room : (depth levels : ℕ) → Type 0
    Room d k = Has c.most locals d k

    value : (d : ℕ) (ty : PlainType) → Room d 1 → value_register locals d ty < c.most
    value d ty h = value_there c.most locals d ty h

    address : (d : ℕ) → Room d 1 → address_register locals d < c.most
    address d h = address_there c.most locals d h

    bytes : (d : ℕ) → Room d 1 → bytes_register locals d < c.most
    bytes d h = bytes_there c.most locals d h

    pub constant_emits : (d : ℕ) (ty : PlainType) (word : ℕ) (rest : List CodeItem) → Room d 1 → c.Emits c.constant rest (code.constant_code locals d ty word rest)
    constant_emits d ty word rest h = c.loads_constant (register_type ty) (value_register locals d ty) word rest (value d ty h)

    pub moved_emits : (d plus : ℕ) (rest : List CodeItem) → Room d 1 → c.Emits moved rest (code.moved_code locals d plus rest)
    moved_emits d zero rest h = nothing moved rest
    moved_emits d (suc plus) rest h =
        c.joins c.constant c.short rest _ _ (c.loads_constant S64 (bytes_register locals d) (suc plus) _ (bytes d h))
        (add_emits (address_register locals d) (address_register locals d) (bytes_register locals d) rest (address d h) (address d h) (bytes d h))

    pub value_load_emits : (d : ℕ) (ty : PlainType) (plus : ℕ) (rest : List CodeItem) → Room d 1 → c.Emits accessed rest (code.load_code locals d ty plus rest)
    value_load_emits d Void plus rest h = nothing accessed rest
    value_load_emits d (Int bytes signed) plus rest h = c.at_most c.memory accessed rest _ (omega arith) (load_emits (Int bytes signed) _ _ plus rest (value d (Int bytes signed) h) (address d h))
    value_load_emits d (Pointer target) plus rest h = c.at_most c.memory accessed rest _ (omega arith) (load_emits (Pointer target) _ _ plus rest (value d (Pointer target) h) (address d h))
    value_load_emits d (Array element count) plus rest h = c.at_most moved accessed rest _ (omega arith) (moved_emits d plus rest h)
    value_load_emits d (Struct number) plus rest h = c.at_most moved accessed rest _ (omega arith) (moved_emits d plus rest h)

    pub convert_emits : (d : ℕ) (from to : PlainType) (rest : List CodeItem) → Room d 1 → c.Emits c.move rest (code.convert_code locals d from to rest)
    convert_emits d from to rest h = unless (code.keeps_register from to) c.move rest _ (c.converts (code.narrow_type from to) (register_type to) _ _ rest (value d to h) (value d from h))

    pub sized_emits : (d free size : ℕ) (rest : List CodeItem) → Room d 1 → Room free 1 → c.Emits moved rest (code.sized_code locals d free size rest)
    sized_emits d free size rest h k =
        unless (size == 1) moved rest _
        (c.joins c.constant c.short rest _ _ (c.loads_constant S64 (bytes_register locals free) size _ (bytes free k))
        (c.multiplies S64 (bytes_register locals d) (bytes_register locals d) (bytes_register locals free) rest (bytes d h) (bytes d h) (bytes free k)))

    pub divided_emits : (d free size : ℕ) (rest : List CodeItem) → Room d 1 → Room free 1 → c.Emits divided rest (code.divided_code locals d free size rest)
    divided_emits d free size rest h k =
        unless (size == 1) divided rest _
        (c.joins c.constant c.operation rest _ _ (c.loads_constant S64 (bytes_register locals free) size _ (bytes free k))
        (c.operates (Calculates Divide) S64 (bytes_register locals d) (bytes_register locals d) (bytes_register locals free) rest (bytes d h) (bytes d h) (bytes free k)))

    pub scaled_emits : (d free : ℕ) (ty : PlainType) (size : ℕ) (rest : List CodeItem) → Room d 1 → Room free 1 → c.Emits scaled rest (code.scaled_code locals d free ty size rest)
    scaled_emits d free ty size rest h k = c.joins c.move moved rest _ _ (convert_emits d ty (Int 8 true) _ h) (sized_emits d free size rest h k)

    pub unary_emits : (op : vu.VmUnaryOp) (d : ℕ) (ty : PlainType) (rest : List CodeItem) → Room d 1 → c.Emits c.move rest (code.unary_code locals op d ty rest)
    unary_emits op d ty rest h = c.moves op (register_type ty) _ _ rest (value d ty h) (value d ty h)

    pub not_emits : (d : ℕ) (ty operand : PlainType) (rest : List CodeItem) → Room d 2 → c.Emits moved rest (code.not_code locals d ty operand rest)
    not_emits d ty operand rest h =
        c.joins c.constant c.short rest _ _ (constant_emits (suc d) operand 0 _ (omega (arith, h)))
        (c.compares (register_type operand) _ _ _ rest (value d ty (omega (arith, h))) (value d operand (omega (arith, h))) (value (suc d) operand (omega (arith, h))))

    -- ---- operators

    pub integers_emits : (op : BinaryOp) (d : ℕ) (ty left right : PlainType) (rest : List CodeItem) → Room d 2 → c.Emits c.operation rest (code.integers_code locals op d ty left right rest)
    integers_emits op d ty left right rest h =
        c.operates (code.operation_of op (code.is_signed_type left)) (register_type left) _ _ _ rest
        (value d ty (omega (arith, h))) (value d left (omega (arith, h))) (value (suc d) right (omega (arith, h)))

    pub combine_in_emits : (op : BinaryOp) (t : IntegerType) (o d : ℕ) (left ty : PlainType) (rest : List CodeItem) → Room o 1 → Room d 1
        → c.Emits combined_in rest (code.combine_in locals op t o d left ty rest)
    combine_in_emits op t o d left ty rest h k =
        c.joins c.move (c.operation + c.move) rest _ _ (convert_emits o left (code.plain_of t) _ h)
        (c.joins c.operation c.move rest _ _
        (c.operates (code.operation_of op (is_signed t)) (register_type (code.plain_of t)) _ _ _ _ (value o (code.plain_of t) h) (value o (code.plain_of t) h) (value d ty k))
        (convert_emits o (code.plain_of t) left rest h))

    pub integer_emits : (d : ℕ) (from to : PlainType) (rest : List CodeItem) → Room d 1 → c.Emits c.move rest (code.integer_code locals d from to rest)
    integer_emits d from Void rest h = nothing c.move rest
    integer_emits d from (Int m s) rest h = convert_emits d from (Int m s) rest h
    integer_emits d from (Pointer target) rest h = c.moves Move P64 _ _ rest (address d h) (value d from h)
    integer_emits d from (Array element length) rest h = nothing c.move rest
    integer_emits d from (Struct number) rest h = nothing c.move rest

    pub converted_emits : (d : ℕ) (from to : PlainType) (rest : List CodeItem) → Room d 1 → c.Emits c.move rest (code.converted_code locals d from to rest)
    converted_emits d Void to rest h = nothing c.move rest
    converted_emits d (Int k r) to rest h = integer_emits d (Int k r) to rest h
    converted_emits d (Pointer target) to rest h = nothing c.move rest
    converted_emits d (Array element length) to rest h = nothing c.move rest
    converted_emits d (Struct number) to rest h = nothing c.move rest

    pub set_scalar_emits : (d plus : ℕ) (ty : PlainType) (rest : List CodeItem) → Room d 2 → c.Emits stored rest (code.set_scalar_code locals d plus ty rest)
    set_scalar_emits d plus ty rest h =
        c.joins c.memory c.move rest _ _ (store_emits ty _ plus _ _ (address d (omega (arith, h))) (value (suc d) ty (omega (arith, h))))
        (move_emits ty _ _ rest (value d ty (omega (arith, h))) (value (suc d) ty (omega (arith, h))))

    module _ (ds : List StructDef) where
      stepped_back : (o d free : ℕ) (element ty : PlainType) (rest : List CodeItem) → Room o 1 → Room d 1 → Room free 1
          → c.Emits step rest (code.scaled_code locals d free ty (code.stride ds element) (code.negate_code (bytes_register locals d) (code.add_code (address_register locals o) (address_register locals o) (bytes_register locals d) rest)))
      stepped_back o d free element ty rest h k f =
          c.joins scaled (c.move + c.short) rest _ _ (scaled_emits d free ty (code.stride ds element) _ k f)
          (c.joins c.move c.short rest _ _ (negate_emits _ _ (bytes d k)) (add_emits _ _ _ rest (address o h) (address o h) (bytes d k)))

      stepped_on : (o d free : ℕ) (element ty : PlainType) (rest : List CodeItem) → Room o 1 → Room d 1 → Room free 1
          → c.Emits step rest (code.scaled_code locals d free ty (code.stride ds element) (code.add_code (address_register locals o) (address_register locals o) (bytes_register locals d) rest))
      stepped_on o d free element ty rest h k f =
          c.at_most (scaled + c.short) step rest _ (omega arith)
          (c.joins scaled c.short rest _ _ (scaled_emits d free ty (code.stride ds element) _ k f) (add_emits _ _ _ rest (address o h) (address o h) (bytes d k)))

      pub step_emits : (op : BinaryOp) (o d free : ℕ) (element ty : PlainType) (rest : List CodeItem) → Room o 1 → Room d 1 → Room free 1
          → c.Emits step rest (code.step_code locals ds op o d free element ty rest)
      step_emits b.Subtract o d free element ty rest h k f = stepped_back o d free element ty rest h k f
      step_emits op o d free element ty rest h k f = stepped_on o d free element ty rest h k f

      pub step_back_emits : (d free : ℕ) (element ty : PlainType) (rest : List CodeItem) → Room d 2 → Room free 1
          → c.Emits (scaled + c.short) rest (code.step_back_code locals ds d free element ty rest)
      step_back_emits d free element ty rest h f =
          c.joins scaled c.short rest _ _ (scaled_emits d free ty (code.stride ds element) _ (omega (arith, h)) f)
          (add_emits _ _ _ rest (address d (omega (arith, h))) (address (suc d) (omega (arith, h))) (bytes d (omega (arith, h))))

      pub combine_emits : (op : BinaryOp) (o d free : ℕ) (left ty : PlainType) (rest : List CodeItem) → Room o 1 → Room d 1 → Room free 1
          → c.Emits combined rest (code.combine_code locals ds op o d free left ty rest)
      combine_emits op o d free left ty rest h k f = by (code.element_of left)
        where
          by : (target : Option PlainType) → c.Emits combined rest (code.combine_by locals ds op o d free left ty target rest)
          by (Some element) = c.at_most step combined rest _ (omega arith) (step_emits op o d free element ty rest h k f)
          by None = c.at_most combined_in combined rest _ (omega arith) (combine_in_emits op (operation_type op (integer_or_word left) (integer_or_word ty)) o d left ty rest h k)

      pub element_emits : (d : ℕ) (left right : PlainType) (rest : List CodeItem) → Room d 3 → c.Emits step rest (code.element_code locals ds d left right rest)
      element_emits d left right rest h = by (code.element_of left) (code.element_of right)
        where
          by : (target other : Option PlainType) → c.Emits step rest (code.element_by locals ds d left right target other rest)
          by (Some element) other = step_emits b.Add d (suc d) (suc (suc d)) element right rest (omega (arith, h)) (omega (arith, h)) (omega (arith, h))
          by None (Some element) = c.at_most (scaled + c.short) step rest _ (omega arith) (step_back_emits d (suc (suc d)) element left rest (omega (arith, h)) (omega (arith, h)))
          by None None = nothing step rest

      compared : (op : BinaryOp) (d : ℕ) (ty : PlainType) (rest : List CodeItem) → Room d 2
          → c.Emits pointers rest (Plain (code.operation_insn (code.operation_of op false) P64 (value_register locals d ty) (address_register locals d) (address_register locals (suc d))) ∷ rest)
      compared op d ty rest h =
          c.at_most c.operation pointers rest _ (omega arith)
          (c.operates (code.operation_of op false) P64 _ _ _ rest (value d ty (omega (arith, h))) (address d (omega (arith, h))) (address (suc d) (omega (arith, h))))

      pub pointers_emits : (op : BinaryOp) (d : ℕ) (ty element : PlainType) (rest : List CodeItem) → Room d 2
          → c.Emits pointers rest (code.pointers_code locals ds op d ty element rest)
      pointers_emits b.Subtract d ty element rest h =
          c.joins c.short divided rest _ _ (c.subtracts P64 _ _ _ _ (bytes d (omega (arith, h))) (address d (omega (arith, h))) (address (suc d) (omega (arith, h))))
          (divided_emits d (suc d) (code.stride ds element) rest (omega (arith, h)) (omega (arith, h)))
      pointers_emits op d ty element rest h = compared op d ty rest h

      pub binary_emits : (op : BinaryOp) (d : ℕ) (ty left right : PlainType) (rest : List CodeItem) → Room d 3 → c.Emits binary rest (code.binary_code locals ds op d ty left right rest)
      binary_emits op d ty left right rest h = by (code.element_of left) (code.element_of right)
        where
          by : (target other : Option PlainType) → c.Emits binary rest (code.binary_by locals ds op d ty left right target other rest)
          by (Some element) (Some other) = c.at_most pointers binary rest _ (omega arith) (pointers_emits op d ty element rest (omega (arith, h)))
          by (Some element) None = c.at_most step binary rest _ (omega arith) (step_emits op d (suc d) (suc (suc d)) element right rest (omega (arith, h)) (omega (arith, h)) (omega (arith, h)))
          by None (Some element) = c.at_most (scaled + c.short) binary rest _ (omega arith) (step_back_emits d (suc (suc d)) element left rest (omega (arith, h)) (omega (arith, h)))
          by None None = c.at_most c.operation binary rest _ (omega arith) (integers_emits op d ty left right rest (omega (arith, h)))

      -- ---- changes of places

      pub stepped_emits : (op : StepOp) (o : ℕ) (ty : PlainType) (rest : List CodeItem) → Room o 3 → c.Emits stepped rest (code.stepped_code locals ds op o ty rest)
      stepped_emits op o ty rest h =
          c.joins c.constant combined rest _ _ (constant_emits (suc o) (one_type ty) 1 _ (omega (arith, h)))
          (combine_emits (step_operator op) o (suc o) (suc (suc o)) ty (one_type ty) rest (omega (arith, h)) (omega (arith, h)) (omega (arith, h)))

      pub step_register_emits : (op : StepOp) (postfix : Bool) (d : ℕ) (ty : PlainType) (k : ℕ) (rest : List CodeItem) → Room d 5 → k < c.most
          → c.Emits (c.move + (c.move + (stepped + c.move))) rest (code.step_register_code locals ds op postfix d ty k rest)
      step_register_emits op false d ty k rest h small =
          c.at_most (c.move + (stepped + c.move)) _ rest _ (omega arith)
          (c.joins c.move (stepped + c.move) rest _ _ (move_emits ty _ _ _ (value d ty (omega (arith, h))) small)
          (c.joins stepped c.move rest _ _ (stepped_emits op d ty _ (omega (arith, h))) (move_emits ty _ _ rest small (value d ty (omega (arith, h))))))
      step_register_emits op true d ty k rest h small =
          c.joins c.move (c.move + (stepped + c.move)) rest _ _ (move_emits ty _ _ _ (value d ty (omega (arith, h))) small)
          (c.joins c.move (stepped + c.move) rest _ _ (move_emits ty _ _ _ (value (suc d) ty (omega (arith, h))) (value d ty (omega (arith, h))))
          (c.joins stepped c.move rest _ _ (stepped_emits op (suc d) ty _ (omega (arith, h))) (move_emits ty _ _ rest small (value (suc d) ty (omega (arith, h))))))

      pub step_memory_emits : (op : StepOp) (postfix : Bool) (d plus : ℕ) (ty : PlainType) (rest : List CodeItem) → Room d 5
          → c.Emits (c.memory + (c.move + (stepped + stored))) rest (code.step_memory_code locals ds op postfix d plus ty rest)
      step_memory_emits op false d plus ty rest h =
          c.at_most (c.memory + (stepped + stored)) _ rest _ (omega arith)
          (c.joins c.memory (stepped + stored) rest _ _ (load_emits ty _ _ plus _ (value (suc d) ty (omega (arith, h))) (address d (omega (arith, h))))
          (c.joins stepped stored rest _ _ (stepped_emits op (suc d) ty _ (omega (arith, h))) (set_scalar_emits d plus ty rest (omega (arith, h)))))
      step_memory_emits op true d plus ty rest h =
          c.joins c.memory (c.move + (stepped + stored)) rest _ _ (load_emits ty _ _ plus _ (value (suc d) ty (omega (arith, h))) (address d (omega (arith, h))))
          (c.joins c.move (stepped + stored) rest _ _ (move_emits ty _ _ _ (value (suc (suc d)) ty (omega (arith, h))) (value (suc d) ty (omega (arith, h))))
          (c.joins stepped stored rest _ _ (stepped_emits op (suc (suc d)) ty _ (omega (arith, h)))
          (c.joins c.memory c.move rest _ _ (store_emits ty _ plus _ _ (address d (omega (arith, h))) (value (suc (suc d)) ty (omega (arith, h))))
          (move_emits ty _ _ rest (value d ty (omega (arith, h))) (value (suc d) ty (omega (arith, h)))))))

      pub place_moved_emits : (ty : PlainType) (d plus : ℕ) (rest : List CodeItem) → Room d 1 → c.Emits moved rest (code.place_moved_code locals ty d plus rest)
      place_moved_emits (Struct number) d plus rest h = moved_emits d plus rest h
      place_moved_emits ty d plus rest h = nothing moved rest

      pub combine_memory_emits : (op : BinaryOp) (d plus : ℕ) (left right : PlainType) (rest : List CodeItem) → Room d 4
          → c.Emits (c.memory + (combined + stored)) rest (code.combine_memory_code locals ds op d plus left right rest)
      combine_memory_emits op d plus left right rest h =
          c.joins c.memory (combined + stored) rest _ _ (load_emits left _ _ plus _ (value (suc (suc d)) left (omega (arith, h))) (address d (omega (arith, h))))
          (c.joins combined stored rest _ _ (combine_emits op (suc (suc d)) (suc d) (suc (suc (suc d))) left right _ (omega (arith, h)) (omega (arith, h)) (omega (arith, h)))
          (c.joins c.memory c.move rest _ _ (store_emits left _ plus _ _ (address d (omega (arith, h))) (value (suc (suc d)) left (omega (arith, h))))
          (move_emits left _ _ rest (value d left (omega (arith, h))) (value (suc (suc d)) left (omega (arith, h))))))
