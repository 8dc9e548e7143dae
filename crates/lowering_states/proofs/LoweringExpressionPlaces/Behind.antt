-- Behind the code of an expression stands the code that comes behind it.
use Rattle.std.proofs.Common.{ℕ, zero, suc, ◌==◌, List, ◌∷◌, Bool, true, false, Option, Some, None, arith}
use Rattle.std.specs.Prelude.{if◌then◌else◌, slice_get}
use Rattle.c_tree.specs.declared.expressions.BinaryOp.{BinaryOp}
use Rattle.c_tree.specs.declared.expressions.BinaryOp.TheVariants as b
use Rattle.c_tree.specs.declared.expressions.UnaryOp.TheVariants as u
use Rattle.c_tree.specs.declared.expressions.StepOp.{StepOp}
use Rattle.c_tree.specs.declared.expressions.StepOp.TheVariants as s
use Rattle.c_typed_tree.specs.declared.types.StructDef.{StructDef}
use Rattle.c_typed_tree.specs.declared.units.Local.{Local}
use Rattle.c_typed_tree.specs.Types.{PlainType, Void, Int, Pointer, Array, Struct}
use Rattle.c_typed_tree.specs.Expressions.{Expr, Number, Global, Call, Unary, Binary, Assign, Conditional, Cast, Convert, Index, Field, Arrow, Postfix, Comma, Exprs, no_exprs, more_exprs, type_of}
use Rattle.c_typed_tree.specs.Expressions as e
use Rattle.bk_arithmetic.specs.IntegerTypes.{is_signed}
use Rattle.c_semantics.specs.Objects.{integer_or_word}
use Rattle.c_semantics.specs.Operators.{operator_of, operation_type, step_operator, one_type}
use Rattle.lowering_code.specs.Registers.{register_type, value_register}
use Rattle.suifvm_ir.specs.declared.insn.VmInsn.{VmInsn}
use Rattle.suifvm_ir.specs.declared.insn.VmBranchOp.{VmBranchOp}
use Rattle.suifvm_ir.specs.declared.insn.VmBranchOp.TheVariants.{IfTrue, IfFalse}
use Rattle.suifvm_ir.specs.declared.types.VmType.{VmType}
use Rattle.lowering_code.specs.declared.item.CodeItem.{CodeItem}
use Rattle.lowering_code.specs.declared.item.CodeItem.TheVariants.{Start, Plain, Jump, Branch}
use Rattle.lowering_code.specs.Items.{block_total}
use Rattle.lowering_code.specs.Expressions.{plain_of, operation_of, operation_insn, stride, member_plus, element_of, keeps_register, moved_code, load_code, convert_code, sized_code, scaled_code, divided_code, integer_code, converted_code, place_moved_code, step_code, step_back_code, pointers_code, binary_by, combine_by, element_by, stepped_code, step_register_code, step_memory_code, set_memory_code, combine_memory_code, register_if, register_of, local_code, change_code, assign_code, conversion_code, expr_code, place_code, exprs_code, commas_code, constant_code, branch_by_value_code}
use Rattle.lowering_states.specs.Places.{CodePlace, next_place, next_block, At}
use Rattle.lowering_states.specs.lowering_expression_places.Behind.{IsLeft}

module _ (blocks : List (List VmInsn)) (last : ℕ) (end : List VmInsn) where
  pub at_plain : {heads : List ℕ} {p : CodePlace} {is : List CodeItem} (i : VmInsn) → At blocks last end heads p (Plain i ∷ is) → At blocks last end heads (next_place p) is
  at_plain i h = record { has = h.has.1; size = h.size }

  pub at_start : {heads : List ℕ} {p : CodePlace} {is : List CodeItem} → At blocks last end heads p (Start ∷ is) → At blocks last end heads (next_block p) is
  at_start h = record { has = h.has.1; size = omega (arith, h.size) }

  pub at_jump : {heads : List ℕ} {p : CodePlace} {is : List CodeItem} (name : ℕ) → At blocks last end heads p (Jump name ∷ is) → At blocks last end heads (next_block p) is
  at_jump name h = record { has = h.has.1; size = omega (arith, h.size) }

  pub at_branch : {heads : List ℕ} {p : CodePlace} {is : List CodeItem} (op : VmBranchOp) (ty : VmType) (source name : ℕ) → At blocks last end heads p (Branch op ty source name ∷ is) → At blocks last end heads (next_block p) is
  at_branch op ty source name h = record { has = h.has.2; size = omega (arith, h.size) }

  abbrev LeavesBlock : (List CodeItem → List CodeItem) → Type 0
  LeavesBlock piece = IsLeft blocks last end piece

  left_plain : (i : VmInsn) → LeavesBlock (λ is. Plain i ∷ is)
  left_plain i heads rest h = record { place = _; at = at_plain i h.at }

  left_start : LeavesBlock (λ is. Start ∷ is)
  left_start heads rest h = record { place = _; at = at_start h.at }

  left_jump : (name : List CodeItem → ℕ) → LeavesBlock (λ is. Jump (name is) ∷ is)
  left_jump name heads rest h = record { place = _; at = at_jump (name rest) h.at }

  left_branch : (op : VmBranchOp) (ty : VmType) (source : ℕ) (name : ℕ) → LeavesBlock (λ is. Branch op ty source name ∷ is)
  left_branch op ty source name heads rest h = record { place = _; at = at_branch op ty source name h.at }

  left_none : LeavesBlock (λ is. is)
  left_none heads rest h = h

  left_on : {f g : List CodeItem → List CodeItem} → LeavesBlock f → LeavesBlock g → LeavesBlock (λ is. f (g is))
  left_on {g = g} a c heads rest h = c heads rest (a heads (g rest) h)

  left_if : {f g : List CodeItem → List CodeItem} (t : Bool) → LeavesBlock f → LeavesBlock g → LeavesBlock (λ is. if t then f is else g is)
  left_if true a c heads rest h = a heads rest h
  left_if false a c heads rest h = c heads rest h

  module _ (L : ℕ) where
    left_moved : (d plus : ℕ) → LeavesBlock (λ is. moved_code L d plus is)
    left_moved d zero heads rest h = h
    left_moved d (suc plus) heads rest h = left_plain _ heads rest (left_plain _ heads _ h)

    left_load : (d : ℕ) (ty : PlainType) (plus : ℕ) → LeavesBlock (λ is. load_code L d ty plus is)
    left_load d Void plus heads rest h = h
    left_load d (Int n r) plus heads rest h = left_plain _ heads rest h
    left_load d (Pointer t) plus heads rest h = left_plain _ heads rest h
    left_load d (Array t n) plus heads rest h = left_moved d plus heads rest h
    left_load d (Struct n) plus heads rest h = left_moved d plus heads rest h

    left_convert : (d : ℕ) (from to : PlainType) → LeavesBlock (λ is. convert_code L d from to is)
    left_convert d from to = left_if (keeps_register from to) left_none (left_plain _)

    left_sized : (d free size : ℕ) → LeavesBlock (λ is. sized_code L d free size is)
    left_sized d free size = left_if (size == 1) left_none (left_on (left_plain _) (left_plain _))

    left_scaled : (d free : ℕ) (ty : PlainType) (size : ℕ) → LeavesBlock (λ is. scaled_code L d free ty size is)
    left_scaled d free ty size = left_on (left_convert d ty (Int 8 true)) (left_sized d free size)

    left_divided : (d free size : ℕ) → LeavesBlock (λ is. divided_code L d free size is)
    left_divided d free size = left_if (size == 1) left_none (left_on (left_plain _) (left_plain _))

    left_integer : (d : ℕ) (from to : PlainType) → LeavesBlock (λ is. integer_code L d from to is)
    left_integer d from Void = left_none
    left_integer d from (Int n r) = left_convert d from (Int n r)
    left_integer d from (Pointer t) = left_plain _
    left_integer d from (Array t n) = left_none
    left_integer d from (Struct n) = left_none

    left_converted : (d : ℕ) (from to : PlainType) → LeavesBlock (λ is. converted_code L d from to is)
    left_converted d Void to = left_none
    left_converted d (Int n r) to = left_integer d (Int n r) to
    left_converted d (Pointer t) to = left_none
    left_converted d (Array t n) to = left_none
    left_converted d (Struct n) to = left_none

    left_place_moved : (ty : PlainType) (d plus : ℕ) → LeavesBlock (λ is. place_moved_code L ty d plus is)
    left_place_moved Void d plus = left_none
    left_place_moved (Int n r) d plus = left_none
    left_place_moved (Pointer t) d plus = left_none
    left_place_moved (Array t n) d plus = left_none
    left_place_moved (Struct n) d plus = left_moved d plus

    module _ (ds : List StructDef) where
      left_step : (op : BinaryOp) (o d free : ℕ) (element ty : PlainType) → LeavesBlock (λ is. step_code L ds op o d free element ty is)
      left_step b.LogicalOr o d free element ty = left_on (left_scaled d free ty (stride ds element)) (left_plain _)
      left_step b.LogicalAnd o d free element ty = left_on (left_scaled d free ty (stride ds element)) (left_plain _)
      left_step b.Or o d free element ty = left_on (left_scaled d free ty (stride ds element)) (left_plain _)
      left_step b.Xor o d free element ty = left_on (left_scaled d free ty (stride ds element)) (left_plain _)
      left_step b.And o d free element ty = left_on (left_scaled d free ty (stride ds element)) (left_plain _)
      left_step b.Equal o d free element ty = left_on (left_scaled d free ty (stride ds element)) (left_plain _)
      left_step b.NotEqual o d free element ty = left_on (left_scaled d free ty (stride ds element)) (left_plain _)
      left_step b.Less o d free element ty = left_on (left_scaled d free ty (stride ds element)) (left_plain _)
      left_step b.Greater o d free element ty = left_on (left_scaled d free ty (stride ds element)) (left_plain _)
      left_step b.LessEqual o d free element ty = left_on (left_scaled d free ty (stride ds element)) (left_plain _)
      left_step b.GreaterEqual o d free element ty = left_on (left_scaled d free ty (stride ds element)) (left_plain _)
      left_step b.ShiftLeft o d free element ty = left_on (left_scaled d free ty (stride ds element)) (left_plain _)
      left_step b.ShiftRight o d free element ty = left_on (left_scaled d free ty (stride ds element)) (left_plain _)
      left_step b.Add o d free element ty = left_on (left_scaled d free ty (stride ds element)) (left_plain _)
      left_step b.Subtract o d free element ty = left_on (left_scaled d free ty (stride ds element)) (left_on (left_plain _) (left_plain _))
      left_step b.Multiply o d free element ty = left_on (left_scaled d free ty (stride ds element)) (left_plain _)
      left_step b.Divide o d free element ty = left_on (left_scaled d free ty (stride ds element)) (left_plain _)
      left_step b.Remainder o d free element ty = left_on (left_scaled d free ty (stride ds element)) (left_plain _)

      left_step_back : (d free : ℕ) (element ty : PlainType) → LeavesBlock (λ is. step_back_code L ds d free element ty is)
      left_step_back d free element ty = left_on (left_scaled d free ty (stride ds element)) (left_plain _)

      left_pointers : (op : BinaryOp) (d : ℕ) (ty element : PlainType) → LeavesBlock (λ is. pointers_code L ds op d ty element is)
      left_pointers b.LogicalOr d ty element = left_plain _
      left_pointers b.LogicalAnd d ty element = left_plain _
      left_pointers b.Or d ty element = left_plain _
      left_pointers b.Xor d ty element = left_plain _
      left_pointers b.And d ty element = left_plain _
      left_pointers b.Equal d ty element = left_plain _
      left_pointers b.NotEqual d ty element = left_plain _
      left_pointers b.Less d ty element = left_plain _
      left_pointers b.Greater d ty element = left_plain _
      left_pointers b.LessEqual d ty element = left_plain _
      left_pointers b.GreaterEqual d ty element = left_plain _
      left_pointers b.ShiftLeft d ty element = left_plain _
      left_pointers b.ShiftRight d ty element = left_plain _
      left_pointers b.Add d ty element = left_plain _
      left_pointers b.Subtract d ty element = left_on (left_plain _) (left_divided d (suc d) (stride ds element))
      left_pointers b.Multiply d ty element = left_plain _
      left_pointers b.Divide d ty element = left_plain _
      left_pointers b.Remainder d ty element = left_plain _

      left_binary : (op : BinaryOp) (d : ℕ) (ty left right : PlainType) (target other : Option PlainType) → LeavesBlock (λ is. binary_by L ds op d ty left right target other is)
      left_binary op d ty left right (Some x) (Some y) = left_pointers op d ty x
      left_binary op d ty left right (Some x) None = left_step op d (suc d) (suc (suc d)) x right
      left_binary op d ty left right None (Some y) = left_step_back d (suc (suc d)) y left
      left_binary op d ty left right None None = left_plain _

      left_combine : (op : BinaryOp) (o d free : ℕ) (left ty : PlainType) (target : Option PlainType) → LeavesBlock (λ is. combine_by L ds op o d free left ty target is)
      left_combine op o d free left ty (Some x) = left_step op o d free x ty
      left_combine op o d free left ty None =
          let t = operation_type op (integer_or_word left) (integer_or_word ty) in
          left_on (left_convert o left (plain_of t))
          (left_on (left_plain (operation_insn (operation_of op (is_signed t)) (register_type (plain_of t)) (value_register L o (plain_of t)) (value_register L o (plain_of t)) (value_register L d ty)))
          (left_convert o (plain_of t) left))

      left_element : (d : ℕ) (left right : PlainType) (target other : Option PlainType) → LeavesBlock (λ is. element_by L ds d left right target other is)
      left_element d left right (Some x) other = left_step b.Add d (suc d) (suc (suc d)) x right
      left_element d left right None (Some y) = left_step_back d (suc (suc d)) y left
      left_element d left right None None = left_none

      left_stepped : (op : StepOp) (o : ℕ) (ty : PlainType) → LeavesBlock (λ is. stepped_code L ds op o ty is)
      left_stepped op o ty = left_on (left_plain _) (left_combine (step_operator op) o (suc o) (suc (suc o)) ty (one_type ty) (element_of ty))

      left_step_register : (op : StepOp) (postfix : Bool) (d : ℕ) (ty : PlainType) (k : ℕ) → LeavesBlock (λ is. step_register_code L ds op postfix d ty k is)
      left_step_register op false d ty k = left_on (left_plain _) (left_on (left_stepped op d ty) (left_plain _))
      left_step_register op true d ty k = left_on (left_plain _) (left_on (left_plain _) (left_on (left_stepped op (suc d) ty) (left_plain _)))

      left_step_memory : (op : StepOp) (postfix : Bool) (d plus : ℕ) (ty : PlainType) → LeavesBlock (λ is. step_memory_code L ds op postfix d plus ty is)
      left_step_memory op false d plus ty = left_on (left_plain _) (left_on (left_stepped op (suc d) ty) (left_on (left_plain _) (left_plain _)))
      left_step_memory op true d plus ty = left_on (left_plain _) (left_on (left_plain _) (left_on (left_stepped op (suc (suc d)) ty) (left_on (left_plain _) (left_plain _))))

      left_set_memory : (d plus : ℕ) (ty : PlainType) → LeavesBlock (λ is. set_memory_code L ds d plus ty is)
      left_set_memory d plus Void = left_on (left_plain _) (left_plain _)
      left_set_memory d plus (Int n r) = left_on (left_plain _) (left_plain _)
      left_set_memory d plus (Pointer t) = left_on (left_plain _) (left_plain _)
      left_set_memory d plus (Array t n) = left_on (left_plain _) (left_plain _)
      left_set_memory d plus (Struct n) = left_plain _

      left_combine_memory : (op : BinaryOp) (d plus : ℕ) (left right : PlainType) → LeavesBlock (λ is. combine_memory_code L ds op d plus left right is)
      left_combine_memory op d plus left right =
          left_on (left_plain _) (left_on (left_combine op (suc (suc d)) (suc d) (suc (suc (suc d))) left right (element_of left)) (left_on (left_plain _) (left_plain _)))

      module _ (ls : List Local) where
        left_local : (d : ℕ) (ty : PlainType) (k : ℕ) (o : Option ℕ) → LeavesBlock (λ is. local_code L ds ls d ty k o is)
        left_local d ty k (Some register) = left_plain _
        left_local d ty k None = left_on (left_plain _) (left_load d ty 0)

        left_change : (o : Option ℕ) {f : ℕ → List CodeItem → List CodeItem} {g : List CodeItem → List CodeItem} → ((k : ℕ) → LeavesBlock (λ is. f k is)) → LeavesBlock g → LeavesBlock (λ is. change_code L ds ls o (λ k. f k is) (g is))
        left_change (Some k) a c = a k
        left_change None a c = c

        left_assign : (d : ℕ) (op : Option BinaryOp) (ty right : PlainType) (plus : ℕ) (register : Option ℕ) (place : List CodeItem → List CodeItem) (value : ℕ → List CodeItem → List CodeItem) → LeavesBlock place → ((k : ℕ) → LeavesBlock (λ is. value k is))
            → LeavesBlock (λ is. assign_code L ds ls d op ty right plus register place value is)
        left_assign d None ty right plus (Some k) place value p v = left_on (v d) (left_plain _)
        left_assign d (Some op) ty right plus (Some k) place value p v =
            left_on (v (suc d)) (left_on (left_plain _) (left_on (left_combine op d (suc d) (suc (suc d)) ty right (element_of ty)) (left_plain _)))
        left_assign d None ty right plus None place value p v = left_on p (left_on (left_place_moved ty d plus) (left_on (v (suc d)) (left_set_memory d plus ty)))
        left_assign d (Some op) ty right plus None place value p v = left_on p (left_on (v (suc d)) (left_combine_memory op d plus ty right))

        left_conversion : (d : ℕ) (from to : PlainType) (plus : ℕ) (place value : List CodeItem → List CodeItem) → LeavesBlock place → LeavesBlock value → LeavesBlock (λ is. conversion_code L ds ls d from to plus place value is)
        left_conversion d Void to plus place value p v = left_on v (left_converted d Void to)
        left_conversion d (Int n r) to plus place value p v = left_on v (left_converted d (Int n r) to)
        left_conversion d (Pointer t) to plus place value p v = left_on v (left_converted d (Pointer t) to)
        left_conversion d (Array t n) to plus place value p v = left_on p (left_moved d plus)
        left_conversion d (Struct n) to plus place value p v = left_on v (left_converted d (Struct n) to)

        left_both : (op : VmBranchOp) (first second d : ℕ) (ty tx tz : PlainType) (f g : List CodeItem → List CodeItem) → LeavesBlock f → LeavesBlock g
            → LeavesBlock (λ is. f (branch_by_value_code L op d tx (block_total (constant_code L d ty first (Start ∷ is))) (g (branch_by_value_code L op d tz (block_total (constant_code L d ty first (Start ∷ is)))
            (constant_code L d ty second (Jump (block_total is) ∷ constant_code L d ty first (Start ∷ is)))))))
        left_both op first second d ty tx tz f g a c heads rest h =
            left_start heads rest (left_plain _ heads _ (left_jump (λ is. block_total rest) heads _ (left_plain _ heads _ (left_branch _ _ _ _ heads _ (c heads _ (left_branch _ _ _ _ heads _ (a heads _ h)))))))

        left_choice : (d : ℕ) (tx : PlainType) (f g k : List CodeItem → List CodeItem) → LeavesBlock f → LeavesBlock g → LeavesBlock k
            → LeavesBlock (λ is. f (branch_by_value_code L IfFalse d tx (block_total (k (Start ∷ is))) (g (Jump (block_total is) ∷ k (Start ∷ is)))))
        left_choice d tx f g k a c o heads rest h =
            left_start heads rest (o heads _ (left_jump (λ is. block_total rest) heads _ (c heads _ (left_branch _ _ _ _ heads _ (a heads _ h)))))

        mutual
          pub left_expr : (x : Expr) (d : ℕ) → LeavesBlock (λ is. expr_code L ds ls d x is)
          left_expr (Number ty word) d = left_plain _
          left_expr (e.Local ty k) d = left_local d ty k (register_if L ds ls k (slice_get ls k))
          left_expr (Global ty k) d = left_on (left_plain _) (left_load d ty 0)
          left_expr (Call ty callee xs) d = left_on (left_exprs xs d) (left_plain _)
          left_expr (Unary ty u.Address x) d = left_on (left_place x d 0) (left_moved d _)
          left_expr (Unary ty u.Dereference x) d = left_on (left_expr x d) (left_load d ty 0)
          left_expr (Unary ty u.Increment x) d = left_change (register_of L ds ls x) (λ k. left_step_register s.Increment false d ty k) (left_on (left_place x d 0) (left_step_memory s.Increment false d _ ty))
          left_expr (Unary ty u.Decrement x) d = left_change (register_of L ds ls x) (λ k. left_step_register s.Decrement false d ty k) (left_on (left_place x d 0) (left_step_memory s.Decrement false d _ ty))
          left_expr (Unary ty u.Not x) d = left_on (left_expr x d) (left_on (left_plain _) (left_plain _))
          left_expr (Unary ty u.Plus x) d = left_expr x d
          left_expr (Unary ty u.Minus x) d = left_on (left_expr x d) (left_plain _)
          left_expr (Unary ty u.Invert x) d = left_on (left_expr x d) (left_plain _)
          left_expr (Binary ty b.LogicalAnd x y) d = left_both IfFalse 0 1 d ty (type_of x) (type_of y) _ _ (left_expr x d) (left_expr y d)
          left_expr (Binary ty b.LogicalOr x y) d = left_both IfTrue 1 0 d ty (type_of x) (type_of y) _ _ (left_expr x d) (left_expr y d)
          left_expr (Binary ty b.Or x y) d = left_on (left_expr x d) (left_on (left_expr y (suc d)) (left_binary b.Or d ty (type_of x) (type_of y) (element_of (type_of x)) (element_of (type_of y))))
          left_expr (Binary ty b.Xor x y) d = left_on (left_expr x d) (left_on (left_expr y (suc d)) (left_binary b.Xor d ty (type_of x) (type_of y) (element_of (type_of x)) (element_of (type_of y))))
          left_expr (Binary ty b.And x y) d = left_on (left_expr x d) (left_on (left_expr y (suc d)) (left_binary b.And d ty (type_of x) (type_of y) (element_of (type_of x)) (element_of (type_of y))))
          left_expr (Binary ty b.Equal x y) d = left_on (left_expr x d) (left_on (left_expr y (suc d)) (left_binary b.Equal d ty (type_of x) (type_of y) (element_of (type_of x)) (element_of (type_of y))))
          left_expr (Binary ty b.NotEqual x y) d = left_on (left_expr x d) (left_on (left_expr y (suc d)) (left_binary b.NotEqual d ty (type_of x) (type_of y) (element_of (type_of x)) (element_of (type_of y))))
          left_expr (Binary ty b.Less x y) d = left_on (left_expr x d) (left_on (left_expr y (suc d)) (left_binary b.Less d ty (type_of x) (type_of y) (element_of (type_of x)) (element_of (type_of y))))
          left_expr (Binary ty b.Greater x y) d = left_on (left_expr x d) (left_on (left_expr y (suc d)) (left_binary b.Greater d ty (type_of x) (type_of y) (element_of (type_of x)) (element_of (type_of y))))
          left_expr (Binary ty b.LessEqual x y) d = left_on (left_expr x d) (left_on (left_expr y (suc d)) (left_binary b.LessEqual d ty (type_of x) (type_of y) (element_of (type_of x)) (element_of (type_of y))))
          left_expr (Binary ty b.GreaterEqual x y) d = left_on (left_expr x d) (left_on (left_expr y (suc d)) (left_binary b.GreaterEqual d ty (type_of x) (type_of y) (element_of (type_of x)) (element_of (type_of y))))
          left_expr (Binary ty b.ShiftLeft x y) d = left_on (left_expr x d) (left_on (left_expr y (suc d)) (left_binary b.ShiftLeft d ty (type_of x) (type_of y) (element_of (type_of x)) (element_of (type_of y))))
          left_expr (Binary ty b.ShiftRight x y) d = left_on (left_expr x d) (left_on (left_expr y (suc d)) (left_binary b.ShiftRight d ty (type_of x) (type_of y) (element_of (type_of x)) (element_of (type_of y))))
          left_expr (Binary ty b.Add x y) d = left_on (left_expr x d) (left_on (left_expr y (suc d)) (left_binary b.Add d ty (type_of x) (type_of y) (element_of (type_of x)) (element_of (type_of y))))
          left_expr (Binary ty b.Subtract x y) d = left_on (left_expr x d) (left_on (left_expr y (suc d)) (left_binary b.Subtract d ty (type_of x) (type_of y) (element_of (type_of x)) (element_of (type_of y))))
          left_expr (Binary ty b.Multiply x y) d = left_on (left_expr x d) (left_on (left_expr y (suc d)) (left_binary b.Multiply d ty (type_of x) (type_of y) (element_of (type_of x)) (element_of (type_of y))))
          left_expr (Binary ty b.Divide x y) d = left_on (left_expr x d) (left_on (left_expr y (suc d)) (left_binary b.Divide d ty (type_of x) (type_of y) (element_of (type_of x)) (element_of (type_of y))))
          left_expr (Binary ty b.Remainder x y) d = left_on (left_expr x d) (left_on (left_expr y (suc d)) (left_binary b.Remainder d ty (type_of x) (type_of y) (element_of (type_of x)) (element_of (type_of y))))
          left_expr (Assign ty op x y) d = left_assign d (operator_of op) ty (type_of y) _ (register_of L ds ls x) _ _ (left_place x d 0) (λ k. left_expr y k)
          left_expr (Conditional ty x y z) d = left_choice d (type_of x) _ _ _ (left_expr x d) (left_expr y d) (left_expr z d)
          left_expr (Cast ty x) d = left_conversion d (type_of x) ty _ _ _ (left_place x d 0) (left_expr x d)
          left_expr (Convert ty x) d = left_conversion d (type_of x) ty _ _ _ (left_place x d 0) (left_expr x d)
          left_expr (Index ty x y) d = left_on (left_expr x d) (left_on (left_expr y (suc d)) (left_on (left_element d (type_of x) (type_of y) (element_of (type_of x)) (element_of (type_of y))) (left_load d ty 0)))
          left_expr (Field ty x member) d = left_on (left_place x d (member_plus ds (type_of x) member 0)) (left_load d ty _)
          left_expr (Arrow ty x member) d = left_on (left_expr x d) (left_load d ty _)
          left_expr (Postfix ty op x) d = left_change (register_of L ds ls x) (λ k. left_step_register op true d ty k) (left_on (left_place x d 0) (left_step_memory op true d _ ty))
          left_expr (Comma ty xs) d = left_commas xs d

          pub left_place : (x : Expr) (d plus : ℕ) → LeavesBlock (λ is. place_code L ds ls d x plus is)
          left_place (Number ty word) d plus = left_none
          left_place (e.Local ty k) d plus = left_plain _
          left_place (Global ty k) d plus = left_plain _
          left_place (Call ty callee xs) d plus = left_none
          left_place (Unary ty u.Dereference x) d plus = left_expr x d
          left_place (Unary ty u.Address x) d plus = left_none
          left_place (Unary ty u.Increment x) d plus = left_none
          left_place (Unary ty u.Decrement x) d plus = left_none
          left_place (Unary ty u.Not x) d plus = left_none
          left_place (Unary ty u.Plus x) d plus = left_none
          left_place (Unary ty u.Minus x) d plus = left_none
          left_place (Unary ty u.Invert x) d plus = left_none
          left_place (Binary ty op x y) d plus = left_none
          left_place (Assign ty op x y) d plus = left_none
          left_place (Conditional ty x y z) d plus = left_none
          left_place (Cast ty x) d plus = left_none
          left_place (Convert ty x) d plus = left_none
          left_place (Index ty x y) d plus = left_on (left_expr x d) (left_on (left_expr y (suc d)) (left_element d (type_of x) (type_of y) (element_of (type_of x)) (element_of (type_of y))))
          left_place (Field ty x member) d plus = left_place x d (member_plus ds (type_of x) member plus)
          left_place (Arrow ty x member) d plus = left_expr x d
          left_place (Postfix ty op x) d plus = left_none
          left_place (Comma ty xs) d plus = left_none

          pub left_exprs : (xs : Exprs) (d : ℕ) → LeavesBlock (λ is. exprs_code L ds ls d xs is)
          left_exprs no_exprs d = left_none
          left_exprs (more_exprs x xs) d = left_on (left_expr x d) (left_exprs xs (suc d))

          pub left_commas : (xs : Exprs) (d : ℕ) → LeavesBlock (λ is. commas_code L ds ls d xs is)
          left_commas no_exprs d = left_none
          left_commas (more_exprs x xs) d = left_on (left_expr x d) (left_commas xs d)
