-- The code of expressions is good where that behind it is.
use Rattle.std.proofs.Common.{◌≡◌, ◌≤◌, ◌<◌, ℕ, suc, ◌+◌, ◌*◌, Bool, true, false, List, ◌∷◌, Option, Some, None, length, slice_get, refl, arith}
use Rattle.std.proofs.lemmas.Option.{slice_get_within}
use Rattle.c_tree.specs.declared.expressions.UnaryOp.TheVariants as u
use Rattle.c_tree.specs.declared.expressions.BinaryOp.{BinaryOp}
use Rattle.c_tree.specs.declared.expressions.BinaryOp.TheVariants as b
use Rattle.c_tree.specs.declared.expressions.StepOp.{StepOp}
use Rattle.c_tree.specs.declared.expressions.StepOp.TheVariants as s
use Rattle.c_typed_tree.specs.declared.types.StructDef.{StructDef}
use Rattle.c_typed_tree.specs.declared.units.Local.{Local}
use Rattle.c_typed_tree.specs.Types.{PlainType, Void, Int, Pointer, Array, Struct}
use Rattle.c_typed_tree.specs.Expressions.{Expr, Number, Global, Call, Unary, Binary, Assign, Conditional, Cast, Convert, Index, Field, Arrow, Postfix, Comma, Exprs, no_exprs, more_exprs, type_of}
use Rattle.c_typed_tree.specs.Expressions as e
use Rattle.c_typed_tree.specs.Counts.{expr_nodes, exprs_nodes}
use Rattle.c_semantics.specs.Operators.{operator_of}
use Rattle.suifvm_ir.specs.declared.insn.VmBranchOp.TheVariants.{IfTrue, IfFalse}
use Rattle.suifvm_ir.specs.declared.insn.VmUnaryOp.TheVariants.{Negate, Complement}
use Rattle.suifvm_ir.specs.declared.insn.VmObject.TheVariants as p
use Rattle.suifvm_ir.specs.declared.insn.VmInsn.TheVariants as n
use Rattle.suifvm_ir.specs.Insns.{named_register}
use Rattle.lowering_code.specs.declared.item.CodeItem.{CodeItem}
use Rattle.lowering_code.specs.declared.item.CodeItem.TheVariants.{Start, Jump}
use Rattle.lowering_code.specs.Items.{block_total}
use Rattle.lowering_code.specs.Registers.{object_index}
use Rattle.lowering_code.specs.Expressions as code
use Rattle.lowering_expressions.specs.Levels.{register_levels, levels_above, levels_of_each}
use Rattle.lowering_expressions.proofs.Depths.{own_levels}
use Rattle.lowering_layout.specs.Tops.{registers_top}
use Rattle.lowering_functions.proofs.Emits as m
use Rattle.lowering_functions.proofs.Emits.{Emits, Has}

module _ (most locals : ℕ) (ds : List StructDef) (ls : List Local) (same : length ls ≡ locals) where
  abbrev xcode : (d : ℕ) → Expr → List CodeItem → List CodeItem
  xcode d x rest = code.expr_code locals ds ls d x rest

  -- a local that a register holds has one of the first registers
  register_small : (k j : ℕ) (l : Option Local) → slice_get ls k ≡ l → code.register_if locals ds ls k l ≡ Some j → j < locals
  register_small k j None is h = let clash : ⊥ = cc in absurd clash
  register_small k j (Some l) is h = by l.in_memory refl
    where
      by : (memory : Bool) → l.in_memory ≡ memory → j < locals
      by true e = let clash : ⊥ = cc in absurd clash
      by false e = let same_number : k ≡ j = cc in omega (arith, same_number, slice_get_within ls k l is, same)

  place_register : (x : Expr) (j : ℕ) → code.register_of locals ds ls x ≡ Some j → j < locals
  place_register (e.Local ty k) j h = register_small k j (slice_get ls k) refl h
  place_register (Number ty word) j h = let clash : ⊥ = cc in absurd clash
  place_register (Global ty k) j h = let clash : ⊥ = cc in absurd clash
  place_register (Call ty callee xs) j h = let clash : ⊥ = cc in absurd clash
  place_register (Unary ty op x) j h = let clash : ⊥ = cc in absurd clash
  place_register (Binary ty op x y) j h = let clash : ⊥ = cc in absurd clash
  place_register (Assign ty op x y) j h = let clash : ⊥ = cc in absurd clash
  place_register (Conditional ty x y z) j h = let clash : ⊥ = cc in absurd clash
  place_register (Cast ty x) j h = let clash : ⊥ = cc in absurd clash
  place_register (Convert ty x) j h = let clash : ⊥ = cc in absurd clash
  place_register (Index ty x y) j h = let clash : ⊥ = cc in absurd clash
  place_register (Field ty x k) j h = let clash : ⊥ = cc in absurd clash
  place_register (Arrow ty x k) j h = let clash : ⊥ = cc in absurd clash
  place_register (Postfix ty op x) j h = let clash : ⊥ = cc in absurd clash
  place_register (Comma ty xs) j h = let clash : ⊥ = cc in absurd clash

  -- a value of a local
  local_emits : (d : ℕ) (ty : PlainType) (k : ℕ) (rest : List CodeItem) → Has most locals d 1 → Emits most 3 rest (code.local_code locals ds ls d ty k (code.register_if locals ds ls k (slice_get ls k)) rest)
  local_emits d ty k rest h = by (code.register_if locals ds ls k (slice_get ls k)) refl
    where
      by : (r : Option ℕ) → code.register_if locals ds ls k (slice_get ls k) ≡ r → Emits most 3 rest (code.local_code locals ds ls d ty k r rest)
      by (Some j) is = m.at_most most 1 3 rest _ (omega arith) (m.move_emits (m.carried most) ty _ _ rest (m.value_there most locals d ty h) (omega (arith, register_small k j (slice_get ls k) refl is, h)))
      by None is = m.joins most 1 2 rest _ _ (m.address_emits most locals d (p.Local (object_index ls k)) 0 _ h) (m.value_load_emits (m.carried most) locals d ty 0 rest h)

  -- registers of arguments
  arguments_below : (d : ℕ) (xs : Exprs) → Has most locals d (levels_above xs) → registers_top (code.call_registers locals ds ls d xs) ≤ most
  arguments_below d no_exprs h = omega arith
  arguments_below d (more_exprs x xs) h =
      omega (arith, arguments_below (suc d) xs (omega (arith, h)), m.value_there most locals d (type_of x) (omega (arith, h, own_levels x)))

  destination_below : (d : ℕ) (ty : PlainType) → Has most locals d 1 → registers_top (named_register (code.destination_of locals ds ls d ty)) ≤ most
  destination_below d Void h = omega arith
  destination_below d (Int bytes signed) h = omega (arith, m.value_there most locals d (Int bytes signed) h)
  destination_below d (Pointer target) h = omega (arith, m.value_there most locals d (Pointer target) h)
  destination_below d (Array element length) h = omega (arith, m.value_there most locals d (Array element length) h)
  destination_below d (Struct number) h = omega (arith, m.value_there most locals d (Struct number) h)

  next : (j k n : ℕ) (rest mid is : List CodeItem) → j + k ≤ n → Emits most j mid is → Emits most k rest mid → Emits most n rest is
  next j k n rest mid is le a b = m.at_most most (j + k) n rest is le (m.joins most j k rest mid is a b)

  -- `&&` and `||`, by the code of their operands
  decides_emits : (op : _) (d : ℕ) (ty tx ty' : PlainType) (word other : ℕ) (j k : ℕ) (fx fy : List CodeItem → List CodeItem)
      → ((is : List CodeItem) → Emits most j is (fx is)) → ((is : List CodeItem) → Emits most k is (fy is)) → (rest : List CodeItem) → Has most locals d 1
      → Emits most (j + (k + 6)) rest
      (fx (code.branch_by_value_code locals op d tx (block_total (code.constant_code locals d ty word (Start ∷ rest)))
      (fy (code.branch_by_value_code locals op d ty' (block_total (code.constant_code locals d ty word (Start ∷ rest)))
      (code.constant_code locals d ty other (Jump (block_total rest) ∷ code.constant_code locals d ty word (Start ∷ rest)))))))
  decides_emits op d ty tx ty' word other j k fx fy ex ey rest h =
      let fails : List CodeItem = code.constant_code locals d ty word (Start ∷ rest) in
      let last : List CodeItem = code.constant_code locals d ty other (Jump (block_total rest) ∷ fails) in
      let second : List CodeItem = code.branch_by_value_code locals op d ty' (block_total fails) last in
      let f : Emits most 2 rest fails = m.joins most 1 1 rest (Start ∷ rest) fails (m.constant_emits (m.carried most) locals d ty word (Start ∷ rest) h) (m.start most rest) in
      let g : Emits most 4 rest last = m.joins most 1 3 rest (Jump (block_total rest) ∷ fails) last (m.constant_emits (m.carried most) locals d ty other (Jump (block_total rest) ∷ fails) h) (m.joins most 1 2 rest fails (Jump (block_total rest) ∷ fails) (m.jump most (block_total rest) fails (f.grows)) f) in
      let b : Emits most 5 rest second = m.joins most 1 4 rest last second (m.branch_emits most locals op d ty' (block_total fails) last h (omega arith)) g in
      let c : Emits most (k + 5) rest (fy second) = m.joins most k 5 rest second (fy second) (ey second) b in
      let first : List CodeItem = code.branch_by_value_code locals op d tx (block_total fails) (fy second) in
      let a : Emits most 1 (fy second) first = m.branch_emits most locals op d tx (block_total fails) (fy second) h (omega (arith, (ey second).grows)) in
      next j (1 + (k + 5)) (j + (k + 6)) rest first (fx first) (omega arith) (ex first) (m.joins most 1 (k + 5) rest (fy second) first a c)

  choice_emits : (d : ℕ) (tx : PlainType) (i j k : ℕ) (fx fy fz : List CodeItem → List CodeItem)
      → ((is : List CodeItem) → Emits most i is (fx is)) → ((is : List CodeItem) → Emits most j is (fy is)) → ((is : List CodeItem) → Emits most k is (fz is))
      → (rest : List CodeItem) → Has most locals d 1
      → Emits most (i + (j + (k + 3))) rest (fx (code.branch_by_value_code locals IfFalse d tx (block_total (fz (Start ∷ rest))) (fy (Jump (block_total rest) ∷ fz (Start ∷ rest)))))
  choice_emits d tx i j k fx fy fz ex ey ez rest h =
      let fails : List CodeItem = fz (Start ∷ rest) in
      let f : Emits most (k + 1) rest fails = m.joins most k 1 rest (Start ∷ rest) fails (ez (Start ∷ rest)) (m.start most rest) in
      let over : List CodeItem = Jump (block_total rest) ∷ fails in
      let g : Emits most (1 + (k + 1)) rest over = m.joins most 1 (k + 1) rest fails over (m.jump most (block_total rest) fails (f.grows)) f in
      let c : Emits most (j + (1 + (k + 1))) rest (fy over) = m.joins most j (1 + (k + 1)) rest over (fy over) (ey over) g in
      let first : List CodeItem = code.branch_by_value_code locals IfFalse d tx (block_total fails) (fy over) in
      let a : Emits most 1 (fy over) first = m.branch_emits most locals IfFalse d tx (block_total fails) (fy over) h (omega (arith, (ey over).grows)) in
      next i (1 + (j + (1 + (k + 1)))) (i + (j + (k + 3))) rest first (fx first) (omega arith) (ex first) (m.joins most 1 (j + (1 + (k + 1))) rest (fy over) first a c)

  -- `++` and `--`
  changed_emits : (op : StepOp) (postfix : Bool) (d : ℕ) (ty : PlainType) (x : Expr) (j : ℕ) → ((is : List CodeItem) → Emits most j is (code.place_code locals ds ls d x 0 is))
      → (rest : List CodeItem) → Has most locals d 5
      → Emits most (j + 10) rest (code.change_code locals ds ls (code.register_of locals ds ls x) (λ k. code.step_register_code locals ds op postfix d ty k rest)
      (code.place_code locals ds ls d x 0 (code.step_memory_code locals ds op postfix d (code.plus_of locals ds ls x 0) ty rest)))
  changed_emits op postfix d ty x j ex rest h = by (code.register_of locals ds ls x) refl
    where
      by : (r : Option ℕ) → code.register_of locals ds ls x ≡ r
          → Emits most (j + 10) rest (code.change_code locals ds ls r (λ k. code.step_register_code locals ds op postfix d ty k rest) (code.place_code locals ds ls d x 0 (code.step_memory_code locals ds op postfix d (code.plus_of locals ds ls x 0) ty rest)))
      by (Some k) is = m.at_most most 9 (j + 10) rest _ (omega arith) (m.step_register_emits (m.carried most) locals ds op postfix d ty k rest h (omega (arith, place_register x k is, h)))
      by None is = m.joins most j 10 rest _ _ (ex _) (m.step_memory_emits (m.carried most) locals ds op postfix d (code.plus_of locals ds ls x 0) ty rest h)

  assign_emits : (d : ℕ) (op : Option BinaryOp) (ty right : PlainType) (plus : ℕ) (x : Expr) (j k : ℕ) (value : ℕ → List CodeItem → List CodeItem)
      → ((is : List CodeItem) → Emits most j is (code.place_code locals ds ls d x 0 is)) → ((is : List CodeItem) → Emits most k is (value d is)) → ((is : List CodeItem) → Emits most k is (value (suc d) is))
      → (rest : List CodeItem) → Has most locals d 5
      → Emits most (j + (k + 10)) rest (code.assign_code locals ds ls d op ty right plus (code.register_of locals ds ls x) (λ is. code.place_code locals ds ls d x 0 is) value rest)
  assign_emits d op ty right plus x j k value ex low high rest h = by op (code.register_of locals ds ls x) refl
    where
      by : (o : Option BinaryOp) (r : Option ℕ) → code.register_of locals ds ls x ≡ r
          → Emits most (j + (k + 10)) rest (code.assign_code locals ds ls d o ty right plus r (λ is. code.place_code locals ds ls d x 0 is) value rest)
      by None (Some i) is =
          next k 1 (j + (k + 10)) rest _ _ (omega arith) (low _) (m.move_emits (m.carried most) ty _ _ rest (omega (arith, place_register x i is, h)) (m.value_there most locals d ty (omega (arith, h))))
      by (Some o) (Some i) is =
          next k 7 (j + (k + 10)) rest _ _ (omega arith) (high _)
          (m.joins most 1 6 rest _ _ (m.move_emits (m.carried most) ty _ _ _ (m.value_there most locals d ty (omega (arith, h))) (omega (arith, place_register x i is, h)))
          (m.joins most 5 1 rest _ _ (m.combine_emits (m.carried most) locals ds o d (suc d) (suc (suc d)) ty right _ (omega (arith, h)) (omega (arith, h)) (omega (arith, h)))
          (m.move_emits (m.carried most) ty _ _ rest (omega (arith, place_register x i is, h)) (m.value_there most locals d ty (omega (arith, h))))))
      by None None is =
          next j (2 + (k + 2)) (j + (k + 10)) rest _ _ (omega arith) (ex _)
          (m.joins most 2 (k + 2) rest _ _ (m.place_moved_emits (m.carried most) locals ds ty d plus _ (omega (arith, h)))
          (m.joins most k 2 rest _ _ (high _) (m.set_memory_emits most locals ds d plus ty rest (omega (arith, h)))))
      by (Some o) None is =
          next j (k + 8) (j + (k + 10)) rest _ _ (omega arith) (ex _)
          (m.joins most k 8 rest _ _ (high _) (m.combine_memory_emits (m.carried most) locals ds o d plus ty right rest (omega (arith, h))))

  abbrev E : (k : ℕ) → List CodeItem → List CodeItem → Type 0
  E k rest is = Emits most k rest is

  infix_emits : (op : BinaryOp) (d : ℕ) (ty : PlainType) (x y : Expr) → ((is : List CodeItem) → E (16 * expr_nodes x) is (xcode d x is)) → ((is : List CodeItem) → E (16 * expr_nodes y) is (xcode (suc d) y is))
      → (rest : List CodeItem) → Has most locals d 3 → E (16 * (1 + expr_nodes x + expr_nodes y)) rest (xcode d x (xcode (suc d) y (code.binary_code locals ds op d ty (type_of x) (type_of y) rest)))
  infix_emits op d ty x y ex ey rest h =
      next (16 * expr_nodes x) (16 * expr_nodes y + 5) _ rest _ _ (omega arith) (ex _)
      (m.joins most (16 * expr_nodes y) 5 rest _ _ (ey _) (m.binary_emits (m.carried most) locals ds op d ty (type_of x) (type_of y) rest h))

  conversion_emits : (d : ℕ) (from to : PlainType) (plus j : ℕ) (place value : List CodeItem → List CodeItem) → ((is : List CodeItem) → E j is (place is)) → ((is : List CodeItem) → E j is (value is))
      → (rest : List CodeItem) → Has most locals d 1 → E (j + 2) rest (code.conversion_code locals ds ls d from to plus place value rest)
  conversion_emits d (Array element length) to plus j place value ep ev rest h = m.joins most j 2 rest _ _ (ep _) (m.moved_emits (m.carried most) locals d plus rest h)
  conversion_emits d Void to plus j place value ep ev rest h = next j 1 (j + 2) rest _ _ (omega arith) (ev _) (m.converted_emits (m.carried most) locals d Void to rest h)
  conversion_emits d (Int bytes signed) to plus j place value ep ev rest h = next j 1 (j + 2) rest _ _ (omega arith) (ev _) (m.converted_emits (m.carried most) locals d (Int bytes signed) to rest h)
  conversion_emits d (Pointer target) to plus j place value ep ev rest h = next j 1 (j + 2) rest _ _ (omega arith) (ev _) (m.converted_emits (m.carried most) locals d (Pointer target) to rest h)
  conversion_emits d (Struct number) to plus j place value ep ev rest h = next j 1 (j + 2) rest _ _ (omega arith) (ev _) (m.converted_emits (m.carried most) locals d (Struct number) to rest h)

  mutual
    pub expr_emits : (d : ℕ) (x : Expr) (rest : List CodeItem) → Has most locals d (register_levels x) → E (16 * expr_nodes x) rest (xcode d x rest)
    expr_emits d (Number ty word) rest h = m.at_most most 1 16 rest _ (omega arith) (m.constant_emits (m.carried most) locals d ty word rest (omega (arith, h)))
    expr_emits d (e.Local ty k) rest h = m.at_most most 3 16 rest _ (omega arith) (local_emits d ty k rest (omega (arith, h)))
    expr_emits d (Global ty k) rest h =
        next 1 2 16 rest _ _ (omega arith) (m.address_emits most locals d (p.Global k) 0 _ (omega (arith, h))) (m.value_load_emits (m.carried most) locals d ty 0 rest (omega (arith, h)))
    expr_emits d (Call ty callee xs) rest h =
        next (16 * exprs_nodes xs) 1 _ rest _ _ (omega arith) (exprs_emits d xs _ (omega (arith, h)))
        (m.plain most (n.Call (code.destination_of locals ds ls d ty) (code.vm_callee callee) (code.call_registers locals ds ls d xs)) rest (refl, refl)
        (omega (arith, arguments_below d xs (omega (arith, h)), destination_below d ty (omega (arith, h)))))
    expr_emits d (Unary ty u.Address x) rest h =
        next (16 * expr_nodes x) 2 _ rest _ _ (omega arith) (place_emits d x 0 _ (omega (arith, h))) (m.moved_emits (m.carried most) locals d (code.plus_of locals ds ls x 0) rest (omega (arith, h)))
    expr_emits d (Unary ty u.Dereference x) rest h =
        next (16 * expr_nodes x) 2 _ rest _ _ (omega arith) (expr_emits d x _ (omega (arith, h))) (m.value_load_emits (m.carried most) locals d ty 0 rest (omega (arith, h)))
    expr_emits d (Unary ty u.Increment x) rest h =
        m.at_most most (16 * expr_nodes x + 10) _ rest _ (omega arith) (changed_emits s.Increment false d ty x (16 * expr_nodes x) (λ is. place_emits d x 0 is (omega (arith, h))) rest (omega (arith, h)))
    expr_emits d (Unary ty u.Decrement x) rest h =
        m.at_most most (16 * expr_nodes x + 10) _ rest _ (omega arith) (changed_emits s.Decrement false d ty x (16 * expr_nodes x) (λ is. place_emits d x 0 is (omega (arith, h))) rest (omega (arith, h)))
    expr_emits d (Unary ty u.Not x) rest h =
        next (16 * expr_nodes x) 2 _ rest _ _ (omega arith) (expr_emits d x _ (omega (arith, h))) (m.not_emits (m.carried most) locals d ty (type_of x) rest (omega (arith, h)))
    expr_emits d (Unary ty u.Plus x) rest h = m.at_most most (16 * expr_nodes x) _ rest _ (omega arith) (expr_emits d x rest (omega (arith, h)))
    expr_emits d (Unary ty u.Minus x) rest h =
        next (16 * expr_nodes x) 1 _ rest _ _ (omega arith) (expr_emits d x _ (omega (arith, h))) (m.unary_emits (m.carried most) locals Negate d ty rest (omega (arith, h)))
    expr_emits d (Unary ty u.Invert x) rest h =
        next (16 * expr_nodes x) 1 _ rest _ _ (omega arith) (expr_emits d x _ (omega (arith, h))) (m.unary_emits (m.carried most) locals Complement d ty rest (omega (arith, h)))
    expr_emits d (Binary ty b.LogicalAnd x y) rest h =
        m.at_most most (16 * expr_nodes x + (16 * expr_nodes y + 6)) _ rest _ (omega arith)
        (decides_emits IfFalse d ty (type_of x) (type_of y) 0 1 (16 * expr_nodes x) (16 * expr_nodes y) (λ is. xcode d x is) (λ is. xcode d y is) (λ is. expr_emits d x is (omega (arith, h))) (λ is. expr_emits d y is (omega (arith, h))) rest (omega (arith, h)))
    expr_emits d (Binary ty b.LogicalOr x y) rest h =
        m.at_most most (16 * expr_nodes x + (16 * expr_nodes y + 6)) _ rest _ (omega arith)
        (decides_emits IfTrue d ty (type_of x) (type_of y) 1 0 (16 * expr_nodes x) (16 * expr_nodes y) (λ is. xcode d x is) (λ is. xcode d y is) (λ is. expr_emits d x is (omega (arith, h))) (λ is. expr_emits d y is (omega (arith, h))) rest (omega (arith, h)))
    expr_emits d (Binary ty b.Or x y) rest h = infix_emits b.Or d ty x y (λ is. expr_emits d x is (omega (arith, h))) (λ is. expr_emits (suc d) y is (omega (arith, h))) rest (omega (arith, h))
    expr_emits d (Binary ty b.Xor x y) rest h = infix_emits b.Xor d ty x y (λ is. expr_emits d x is (omega (arith, h))) (λ is. expr_emits (suc d) y is (omega (arith, h))) rest (omega (arith, h))
    expr_emits d (Binary ty b.And x y) rest h = infix_emits b.And d ty x y (λ is. expr_emits d x is (omega (arith, h))) (λ is. expr_emits (suc d) y is (omega (arith, h))) rest (omega (arith, h))
    expr_emits d (Binary ty b.Equal x y) rest h = infix_emits b.Equal d ty x y (λ is. expr_emits d x is (omega (arith, h))) (λ is. expr_emits (suc d) y is (omega (arith, h))) rest (omega (arith, h))
    expr_emits d (Binary ty b.NotEqual x y) rest h = infix_emits b.NotEqual d ty x y (λ is. expr_emits d x is (omega (arith, h))) (λ is. expr_emits (suc d) y is (omega (arith, h))) rest (omega (arith, h))
    expr_emits d (Binary ty b.Less x y) rest h = infix_emits b.Less d ty x y (λ is. expr_emits d x is (omega (arith, h))) (λ is. expr_emits (suc d) y is (omega (arith, h))) rest (omega (arith, h))
    expr_emits d (Binary ty b.Greater x y) rest h = infix_emits b.Greater d ty x y (λ is. expr_emits d x is (omega (arith, h))) (λ is. expr_emits (suc d) y is (omega (arith, h))) rest (omega (arith, h))
    expr_emits d (Binary ty b.LessEqual x y) rest h = infix_emits b.LessEqual d ty x y (λ is. expr_emits d x is (omega (arith, h))) (λ is. expr_emits (suc d) y is (omega (arith, h))) rest (omega (arith, h))
    expr_emits d (Binary ty b.GreaterEqual x y) rest h = infix_emits b.GreaterEqual d ty x y (λ is. expr_emits d x is (omega (arith, h))) (λ is. expr_emits (suc d) y is (omega (arith, h))) rest (omega (arith, h))
    expr_emits d (Binary ty b.ShiftLeft x y) rest h = infix_emits b.ShiftLeft d ty x y (λ is. expr_emits d x is (omega (arith, h))) (λ is. expr_emits (suc d) y is (omega (arith, h))) rest (omega (arith, h))
    expr_emits d (Binary ty b.ShiftRight x y) rest h = infix_emits b.ShiftRight d ty x y (λ is. expr_emits d x is (omega (arith, h))) (λ is. expr_emits (suc d) y is (omega (arith, h))) rest (omega (arith, h))
    expr_emits d (Binary ty b.Add x y) rest h = infix_emits b.Add d ty x y (λ is. expr_emits d x is (omega (arith, h))) (λ is. expr_emits (suc d) y is (omega (arith, h))) rest (omega (arith, h))
    expr_emits d (Binary ty b.Subtract x y) rest h = infix_emits b.Subtract d ty x y (λ is. expr_emits d x is (omega (arith, h))) (λ is. expr_emits (suc d) y is (omega (arith, h))) rest (omega (arith, h))
    expr_emits d (Binary ty b.Multiply x y) rest h = infix_emits b.Multiply d ty x y (λ is. expr_emits d x is (omega (arith, h))) (λ is. expr_emits (suc d) y is (omega (arith, h))) rest (omega (arith, h))
    expr_emits d (Binary ty b.Divide x y) rest h = infix_emits b.Divide d ty x y (λ is. expr_emits d x is (omega (arith, h))) (λ is. expr_emits (suc d) y is (omega (arith, h))) rest (omega (arith, h))
    expr_emits d (Binary ty b.Remainder x y) rest h = infix_emits b.Remainder d ty x y (λ is. expr_emits d x is (omega (arith, h))) (λ is. expr_emits (suc d) y is (omega (arith, h))) rest (omega (arith, h))
    expr_emits d (Assign ty op x y) rest h =
        m.at_most most (16 * expr_nodes x + (16 * expr_nodes y + 10)) _ rest _ (omega arith)
        (assign_emits d (operator_of op) ty (type_of y) (code.plus_of locals ds ls x 0) x (16 * expr_nodes x) (16 * expr_nodes y) (λ k is. xcode k y is)
        (λ is. place_emits d x 0 is (omega (arith, h))) (λ is. expr_emits d y is (omega (arith, h))) (λ is. expr_emits (suc d) y is (omega (arith, h))) rest (omega (arith, h)))
    expr_emits d (Conditional ty x y z) rest h =
        m.at_most most (16 * expr_nodes x + (16 * expr_nodes y + (16 * expr_nodes z + 3))) _ rest _ (omega arith)
        (choice_emits d (type_of x) (16 * expr_nodes x) (16 * expr_nodes y) (16 * expr_nodes z) (λ is. xcode d x is) (λ is. xcode d y is) (λ is. xcode d z is)
        (λ is. expr_emits d x is (omega (arith, h))) (λ is. expr_emits d y is (omega (arith, h))) (λ is. expr_emits d z is (omega (arith, h))) rest (omega (arith, h)))
    expr_emits d (Cast ty x) rest h =
        m.at_most most (16 * expr_nodes x + 2) _ rest _ (omega arith)
        (conversion_emits d (type_of x) ty (code.plus_of locals ds ls x 0) (16 * expr_nodes x) (λ is. code.place_code locals ds ls d x 0 is) (λ is. xcode d x is)
        (λ is. place_emits d x 0 is (omega (arith, h))) (λ is. expr_emits d x is (omega (arith, h))) rest (omega (arith, h)))
    expr_emits d (Convert ty x) rest h =
        m.at_most most (16 * expr_nodes x + 2) _ rest _ (omega arith)
        (conversion_emits d (type_of x) ty (code.plus_of locals ds ls x 0) (16 * expr_nodes x) (λ is. code.place_code locals ds ls d x 0 is) (λ is. xcode d x is)
        (λ is. place_emits d x 0 is (omega (arith, h))) (λ is. expr_emits d x is (omega (arith, h))) rest (omega (arith, h)))
    expr_emits d (Index ty x y) rest h =
        next (16 * expr_nodes x) (16 * expr_nodes y + 7) _ rest _ _ (omega arith) (expr_emits d x _ (omega (arith, h)))
        (m.joins most (16 * expr_nodes y) 7 rest _ _ (expr_emits (suc d) y _ (omega (arith, h)))
        (m.joins most 5 2 rest _ _ (m.element_emits (m.carried most) locals ds d (type_of x) (type_of y) _ (omega (arith, h))) (m.value_load_emits (m.carried most) locals d ty 0 rest (omega (arith, h)))))
    expr_emits d (Field ty x k) rest h =
        next (16 * expr_nodes x) 2 _ rest _ _ (omega arith) (place_emits d x (code.member_plus ds (type_of x) k 0) _ (omega (arith, h)))
        (m.value_load_emits (m.carried most) locals d ty (code.plus_of locals ds ls x (code.member_plus ds (type_of x) k 0)) rest (omega (arith, h)))
    expr_emits d (Arrow ty x k) rest h =
        next (16 * expr_nodes x) 2 _ rest _ _ (omega arith) (expr_emits d x _ (omega (arith, h))) (m.value_load_emits (m.carried most) locals d ty _ rest (omega (arith, h)))
    expr_emits d (Postfix ty op x) rest h =
        m.at_most most (16 * expr_nodes x + 10) _ rest _ (omega arith) (changed_emits op true d ty x (16 * expr_nodes x) (λ is. place_emits d x 0 is (omega (arith, h))) rest (omega (arith, h)))
    expr_emits d (Comma ty xs) rest h = m.at_most most (16 * exprs_nodes xs) _ rest _ (omega arith) (commas_emits d xs rest (omega (arith, h)))

    pub place_emits : (d : ℕ) (x : Expr) (plus : ℕ) (rest : List CodeItem) → Has most locals d (register_levels x) → E (16 * expr_nodes x) rest (code.place_code locals ds ls d x plus rest)
    place_emits d (e.Local ty k) plus rest h = m.at_most most 1 16 rest _ (omega arith) (m.address_emits most locals d (p.Local (object_index ls k)) plus rest (omega (arith, h)))
    place_emits d (Global ty k) plus rest h = m.at_most most 1 16 rest _ (omega arith) (m.address_emits most locals d (p.Global k) plus rest (omega (arith, h)))
    place_emits d (Unary ty u.Dereference x) plus rest h = m.at_most most (16 * expr_nodes x) _ rest _ (omega arith) (expr_emits d x rest (omega (arith, h)))
    place_emits d (Unary ty u.Address x) plus rest h = m.at_most most 0 _ rest rest (omega arith) (m.none most rest)
    place_emits d (Unary ty u.Increment x) plus rest h = m.at_most most 0 _ rest rest (omega arith) (m.none most rest)
    place_emits d (Unary ty u.Decrement x) plus rest h = m.at_most most 0 _ rest rest (omega arith) (m.none most rest)
    place_emits d (Unary ty u.Not x) plus rest h = m.at_most most 0 _ rest rest (omega arith) (m.none most rest)
    place_emits d (Unary ty u.Plus x) plus rest h = m.at_most most 0 _ rest rest (omega arith) (m.none most rest)
    place_emits d (Unary ty u.Minus x) plus rest h = m.at_most most 0 _ rest rest (omega arith) (m.none most rest)
    place_emits d (Unary ty u.Invert x) plus rest h = m.at_most most 0 _ rest rest (omega arith) (m.none most rest)
    place_emits d (Index ty x y) plus rest h =
        next (16 * expr_nodes x) (16 * expr_nodes y + 5) _ rest _ _ (omega arith) (expr_emits d x _ (omega (arith, h)))
        (m.joins most (16 * expr_nodes y) 5 rest _ _ (expr_emits (suc d) y _ (omega (arith, h))) (m.element_emits (m.carried most) locals ds d (type_of x) (type_of y) rest (omega (arith, h))))
    place_emits d (Field ty x k) plus rest h = m.at_most most (16 * expr_nodes x) _ rest _ (omega arith) (place_emits d x (code.member_plus ds (type_of x) k plus) rest (omega (arith, h)))
    place_emits d (Arrow ty x k) plus rest h = m.at_most most (16 * expr_nodes x) _ rest _ (omega arith) (expr_emits d x rest (omega (arith, h)))
    place_emits d (Number ty word) plus rest h = m.at_most most 0 _ rest rest (omega arith) (m.none most rest)
    place_emits d (Call ty callee xs) plus rest h = m.at_most most 0 _ rest rest (omega arith) (m.none most rest)
    place_emits d (Binary ty op x y) plus rest h = m.at_most most 0 _ rest rest (omega arith) (m.none most rest)
    place_emits d (Assign ty op x y) plus rest h = m.at_most most 0 _ rest rest (omega arith) (m.none most rest)
    place_emits d (Conditional ty x y z) plus rest h = m.at_most most 0 _ rest rest (omega arith) (m.none most rest)
    place_emits d (Cast ty x) plus rest h = m.at_most most 0 _ rest rest (omega arith) (m.none most rest)
    place_emits d (Convert ty x) plus rest h = m.at_most most 0 _ rest rest (omega arith) (m.none most rest)
    place_emits d (Postfix ty op x) plus rest h = m.at_most most 0 _ rest rest (omega arith) (m.none most rest)
    place_emits d (Comma ty xs) plus rest h = m.at_most most 0 _ rest rest (omega arith) (m.none most rest)

    pub exprs_emits : (d : ℕ) (xs : Exprs) (rest : List CodeItem) → Has most locals d (levels_above xs) → E (16 * exprs_nodes xs) rest (code.exprs_code locals ds ls d xs rest)
    exprs_emits d no_exprs rest h = m.none most rest
    exprs_emits d (more_exprs x xs) rest h =
        next (16 * expr_nodes x) (16 * exprs_nodes xs) _ rest _ _ (omega arith) (expr_emits d x _ (omega (arith, h))) (exprs_emits (suc d) xs rest (omega (arith, h)))

    pub commas_emits : (d : ℕ) (xs : Exprs) (rest : List CodeItem) → Has most locals d (levels_of_each xs) → E (16 * exprs_nodes xs) rest (code.commas_code locals ds ls d xs rest)
    commas_emits d no_exprs rest h = m.none most rest
    commas_emits d (more_exprs x xs) rest h =
        next (16 * expr_nodes x) (16 * exprs_nodes xs) _ rest _ _ (omega arith) (expr_emits d x _ (omega (arith, h))) (commas_emits d xs rest (omega (arith, h)))
