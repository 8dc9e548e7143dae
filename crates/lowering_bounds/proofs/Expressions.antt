-- The code of well typed expressions: by its weight, it costs little.
use Rattle.std.proofs.Common.{◌≡◌, ◌≤◌, ◌<◌, ℕ, suc, ◌+◌, ◌-◌, ◌*◌, ◌%◌, ◌==◌, max, Bool, true, false, ◌&&◌, IsTrue, List, [], ◌∷◌, Option, Some, None, length, refl, sym, ap, ◌∙◌, subst, arith, eq-eqb}
use Rattle.std.specs.Prelude.{All, slice_get}
use Rattle.std.specs.List.{list_all}
use Rattle.std.proofs.lemmas.Option.{slice_get_within}
use Rattle.c_tree.specs.declared.expressions.UnaryOp as u'
use Rattle.c_tree.specs.declared.expressions.UnaryOp.TheVariants as u
use Rattle.c_tree.specs.declared.expressions.BinaryOp.{BinaryOp}
use Rattle.c_tree.specs.declared.expressions.BinaryOp.TheVariants as b
use Rattle.c_tree.specs.declared.expressions.AssignOp.{AssignOp}
use Rattle.c_tree.specs.declared.expressions.AssignOp.TheVariants as a
use Rattle.c_tree.specs.declared.expressions.StepOp.{StepOp}
use Rattle.c_tree.specs.declared.expressions.StepOp.TheVariants as s
use Rattle.c_typed_tree.specs.declared.expressions.Builtin.TheVariants as i
use Rattle.c_typed_tree.specs.declared.expressions.Callee.{Callee}
use Rattle.c_typed_tree.specs.declared.expressions.Callee.TheVariants as k
use Rattle.c_typed_tree.specs.declared.units.Local as l
use Rattle.c_typed_tree.specs.Types.{PlainType, Void, Int, Pointer, Array, Struct}
use Rattle.c_typed_tree.specs.View.{type_view}
use Rattle.c_typed_tree.specs.Layout.{size_of, align_of}
use Rattle.c_typed_tree.specs.Expressions.{Expr, Number, Global, Call, Unary, Binary, Assign, Conditional, Cast, Convert, Index, Field, Arrow, Postfix, Comma, Exprs, no_exprs, more_exprs, type_of}
use Rattle.c_typed_tree.specs.Expressions as e
use Rattle.c_typed_tree.specs.Constants.{is_null_constant}
use Rattle.c_typed_tree.specs.Typing.{is_same_type, is_scalar, is_fit, Context, Signature, is_typed, are_typed, has_rule, has_unary_type, has_step_type, has_assigned_type, has_local_type, is_member, is_memory_local, is_in_memory, is_place, is_call, callee_signature, are_operands, are_arguments, is_cast, is_conversion}
use Rattle.c_typed_tree.specs.Lawful.{IsLawfulStruct, is_lawful_local}
use Rattle.c_typed_tree.specs.Weight.{expr_weight, exprs_weight, copy_weight, assign_weight, exprs_count}
use Rattle.c_semantics.specs.Operators.{operator_of}
use Rattle.pass_core.specs.declared.function.MemoryLocal.{MemoryLocal}
use Rattle.suifvm_ir.specs.declared.insn.VmBranchOp.{VmBranchOp}
use Rattle.suifvm_ir.specs.declared.insn.VmBranchOp.TheVariants.{IfTrue, IfFalse}
use Rattle.suifvm_ir.specs.declared.insn.VmUnaryOp.TheVariants.{Negate, Complement}
use Rattle.suifvm_ir.specs.declared.insn.VmObject.TheVariants as p
use Rattle.suifvm_ir.specs.declared.insn.VmInsn.TheVariants as n
use Rattle.suifvm_ir.specs.Insns.{named_register}
use Rattle.suifvm_ir.specs.Programs.{VmFunction, place_reaches, function_takes, callee_takes, alignment_bytes}
use Rattle.lowering_code.specs.declared.item.CodeItem.{CodeItem}
use Rattle.lowering_code.specs.declared.item.CodeItem.TheVariants.{Start, Plain, Jump}
use Rattle.lowering_code.specs.Items.{block_total}
use Rattle.lowering_code.specs.Registers.{object_index}
use Rattle.lowering_code.specs.Functions.{objects_of}
use Rattle.lowering_code.specs.Expressions as code
use Rattle.lowering_code.proofs.Pieces.{Carried}
use Rattle.lowering_layout.specs.Tops.{registers_top}
use Rattle.c_typing_struct_layout.proofs.CLayoutLaws.Truth.{no_true, front, back}
use Rattle.lowering_bounds.specs.model.Costs.{items_cost}
use Rattle.lowering_bounds.specs.model.Fits.{Fits, IsNarrow}
use Rattle.lowering_bounds.specs.Laws.{TakesArguments}
use Rattle.lowering_bounds.specs.model.Depths.{depths, depths_above, depths_of_each}
use Rattle.lowering_bounds.proofs.Typing.{one, two, three, same, local_there, global_reached, struct_whole, copy_paid, IsTypedExpr, positive, member_struct, large_memory, place_memory, member_fits, some_operands, array_cast, array_place, arguments_count}
use Rattle.lowering_bounds.proofs.Pieces as m

pub own_depth : (x : Expr) → 1 ≤ depths x
own_depth (Number ty word) = omega arith
own_depth (e.Local ty j) = omega arith
own_depth (Global ty j) = omega arith
own_depth (Call ty callee xs) = omega arith
own_depth (Unary ty op x) = omega arith
own_depth (Binary ty op x y) = omega arith
own_depth (Assign ty op x y) = omega arith
own_depth (Conditional ty x y z) = omega arith
own_depth (Cast ty x) = omega arith
own_depth (Convert ty x) = omega arith
own_depth (Index ty x y) = omega arith
own_depth (Field ty x j) = omega arith
own_depth (Arrow ty x j) = omega arith
own_depth (Postfix ty op x) = omega arith
own_depth (Comma ty xs) = omega arith

module _ (most : ℕ) (fs : List VmFunction) (c : Context) (structs : All (IsLawfulStruct c.structs) c.structs) (lawful : IsTrue (list_all (is_lawful_local c.structs) c.locals)) (calls : TakesArguments fs c.functions) where
  abbrev os : List MemoryLocal
  os = objects_of c.structs c.locals

  abbrev L : ℕ
  L = length c.locals

  abbrev pub K : Carried
  K = m.carried most fs c.globals os

  abbrev pub E : (k : ℕ) → (rest is : List CodeItem) → Type 0
  E j rest is = m.Emits most fs c.globals os j rest is

  abbrev pub Has : (d k : ℕ) → Type 0
  Has d j = m.Has most L d j

  -- what comes back of the weight pays for the edges of what the value decides
  pub record Spends (w : ℕ) (rest is : List CodeItem) : Type 0 where
    pub fits : Fits most (m.passes most fs c.globals os) rest → Fits most (m.passes most fs c.globals os) is
    pub cost : items_cost is + 1600 ≤ 2048 * w + items_cost rest
    pub some : 0 < w
    pub wide : (n : ℕ) → w ≤ n → IsNarrow n rest → IsNarrow n is

  only : (j w : ℕ) (rest is : List CodeItem) → j + 1600 ≤ 2048 * w → E j rest is → Spends w rest is
  only j w rest is le a = record { fits = a.fits; cost = omega (arith, le, a.cost); some = omega (arith, le); wide = λ n h. a.wide n (omega (arith, le, h)) }

  nothing : (w : ℕ) (rest : List CodeItem) → 0 < w → Spends w rest rest
  nothing w rest h = record { fits = λ f. f; cost = omega (arith, h); some = h; wide = λ n le r. r }

  behind : (j w : ℕ) (rest mid is : List CodeItem) → j ≤ 2048 → Spends w mid is → E j rest mid → Spends (1 + w) rest is
  behind j w rest mid is le a b = record { fits = λ f. a.fits (b.fits f); cost = omega (arith, le, a.cost, b.cost); some = omega arith; wide = λ n h r. a.wide n (omega (arith, h)) (b.wide n (omega (arith, le, h)) r) }

  behind_two : (j v w : ℕ) (rest mid over is : List CodeItem) → j ≤ 3648 → Spends v mid is → Spends w over mid → E j rest over → Spends (1 + (v + w)) rest is
  behind_two j v w rest mid over is le a b e = record {
    fits = λ f. a.fits (b.fits (e.fits f));
    cost = omega (arith, le, a.cost, b.cost, e.cost);
    some = omega arith;
    wide = λ n h r. a.wide n (omega (arith, h)) (b.wide n (omega (arith, h)) (e.wide n (omega (arith, le, h, a.some, b.some)) r));
  }

  more : (v w : ℕ) (rest is : List CodeItem) → v ≤ w → Spends v rest is → Spends w rest is
  more v w rest is le a = record { fits = a.fits; cost = omega (arith, le, a.cost); some = omega (arith, le, a.some); wide = λ n h. a.wide n (omega (arith, le, h)) }

  pub spent_weight : (w : ℕ) (rest is : List CodeItem) → Spends w rest is → E (2048 * w) rest is
  spent_weight w rest is a = record { fits = a.fits; cost = omega (arith, a.cost); wide = λ n h. a.wide n (omega (arith, h)) }

  record SpendsAll (count w : ℕ) (rest is : List CodeItem) : Type 0 where
    fits : Fits most (m.passes most fs c.globals os) rest → Fits most (m.passes most fs c.globals os) is
    cost : items_cost is + 1600 * count ≤ 2048 * w + items_cost rest
    each : count ≤ w
    wide : (n : ℕ) → w ≤ n → IsNarrow n rest → IsNarrow n is

  -- ---- names

  abbrev T : Expr → Type 0
  T x = IsTypedExpr c x

  register_small : (j r : ℕ) (o : Option l.Local) → slice_get c.locals j ≡ o → code.register_if L c.structs c.locals j o ≡ Some r → r < L
  register_small j r None is h = let clash : ⊥ = cc in absurd clash
  register_small j r (Some x) is h = by x.in_memory refl
    where
      by : (memory : Bool) → x.in_memory ≡ memory → r < L
      by true e = let clash : ⊥ = cc in absurd clash
      by false e = let same_number : j ≡ r = cc in omega (arith, same_number, slice_get_within c.locals j x is)

  place_register : (x : Expr) (r : ℕ) → code.register_of L c.structs c.locals x ≡ Some r → r < L
  place_register (e.Local ty j) r h = register_small j r (slice_get c.locals j) refl h
  place_register (Number ty word) r h = let clash : ⊥ = cc in absurd clash
  place_register (Global ty j) r h = let clash : ⊥ = cc in absurd clash
  place_register (Call ty callee xs) r h = let clash : ⊥ = cc in absurd clash
  place_register (Unary ty op x) r h = let clash : ⊥ = cc in absurd clash
  place_register (Binary ty op x y) r h = let clash : ⊥ = cc in absurd clash
  place_register (Assign ty op x y) r h = let clash : ⊥ = cc in absurd clash
  place_register (Conditional ty x y z) r h = let clash : ⊥ = cc in absurd clash
  place_register (Cast ty x) r h = let clash : ⊥ = cc in absurd clash
  place_register (Convert ty x) r h = let clash : ⊥ = cc in absurd clash
  place_register (Index ty x y) r h = let clash : ⊥ = cc in absurd clash
  place_register (Field ty x j) r h = let clash : ⊥ = cc in absurd clash
  place_register (Arrow ty x j) r h = let clash : ⊥ = cc in absurd clash
  place_register (Postfix ty op x) r h = let clash : ⊥ = cc in absurd clash
  place_register (Comma ty xs) r h = let clash : ⊥ = cc in absurd clash

  -- a memory local has an object, as large as its type
  pub memory_there : (j plus : ℕ) (ty : PlainType) (o : Option l.Local) → slice_get c.locals j ≡ o → IsTrue (is_memory_local o) → IsTrue (has_local_type o ty) → plus ≤ size_of c.structs ty
      → IsTrue (place_reaches c.globals os plus (p.Local (object_index c.locals j)))
  memory_there j plus ty None is memory h small = no_true h
  memory_there j plus ty (Some x) is memory h small =
      let size : size_of c.structs (type_view x.ty) ≡ size_of c.structs ty = ap (size_of c.structs) (same (type_view x.ty) ty h) in
      local_there c.structs c.locals j plus x is memory (omega (arith, size, small)) c.globals

  abbrev local_typed : (ty : PlainType) (j : ℕ) → T (e.Local ty j) → IsTrue (has_local_type (slice_get c.locals j) ty)
  local_typed ty j t = back (is_fit c.structs ty) (has_rule c (e.Local ty j)) t

  -- ---- forms without operands

  local_emits : (d : ℕ) (ty : PlainType) (j : ℕ) (rest : List CodeItem) → T (e.Local ty j) → Has d 1 → E 264 rest (code.local_code L c.structs c.locals d ty j (code.register_if L c.structs c.locals j (slice_get c.locals j)) rest)
  local_emits d ty j rest t h = by (code.register_if L c.structs c.locals j (slice_get c.locals j)) refl
    where
      by : (r : Option ℕ) → code.register_if L c.structs c.locals j (slice_get c.locals j) ≡ r → E 264 rest (code.local_code L c.structs c.locals d ty j r rest)
      by (Some r) is = m.at_most most fs c.globals os 24 264 rest _ (omega arith) (m.move_emits K ty _ _ rest (m.value_there most L d ty h) (omega (arith, register_small j r (slice_get c.locals j) refl is, h)))
      by None is = m.joins most fs c.globals os 24 240 rest _ _ (m.address_emits most fs c.globals os L d (p.Local (object_index c.locals j)) 0 _ h
          (memory_there j 0 ty (slice_get c.locals j) refl (place_memory c lawful (e.Local ty j) t refl is) (local_typed ty j t) (omega arith))) (m.value_load_emits K L d ty 0 rest h)

  global_emits : (d plus : ℕ) (ty : PlainType) (j : ℕ) (rest : List CodeItem) → T (Global ty j) → plus ≤ size_of c.structs ty → Has d 1 → E 24 rest (code.address_code L d (p.Global j) plus rest)
  global_emits d plus ty j rest t small h =
      m.address_emits most fs c.globals os L d (p.Global j) plus rest h (global_reached c.structs c.globals os ty j plus (back (is_fit c.structs ty) (has_rule c (Global ty j)) t) small)

  -- ---- calls

  arguments_below : (d : ℕ) (xs : Exprs) → Has d (depths_above xs) → registers_top (code.call_registers L c.structs c.locals d xs) ≤ most
  arguments_below d no_exprs h = omega arith
  arguments_below d (more_exprs x xs) h =
      omega (arith, arguments_below (suc d) xs (omega (arith, h)), m.value_there most L d (type_of x) (omega (arith, h, own_depth x)))

  pub arguments_length : (d : ℕ) (xs : Exprs) → length (code.call_registers L c.structs c.locals d xs) ≡ exprs_count xs
  arguments_length d no_exprs = refl
  arguments_length d (more_exprs x xs) = omega (arith, arguments_length (suc d) xs)

  destination_below : (d : ℕ) (ty : PlainType) → Has d 1 → registers_top (named_register (code.destination_of L c.structs c.locals d ty)) ≤ most
  destination_below d Void h = omega arith
  destination_below d (Int bytes signed) h = omega (arith, m.value_there most L d (Int bytes signed) h)
  destination_below d (Pointer target) h = omega (arith, m.value_there most L d (Pointer target) h)
  destination_below d (Array element length) h = omega (arith, m.value_there most L d (Array element length) h)
  destination_below d (Struct number) h = omega (arith, m.value_there most L d (Struct number) h)

  abbrev Takes : Callee → ℕ → Type 0
  Takes callee j = IsTrue (callee_takes fs j (code.vm_callee callee))

  function_there : (number : ℕ) (ty : PlainType) (xs : Exprs) (o : Option Signature) → slice_get c.functions number ≡ o → IsTrue (is_call o ty xs) → Takes (k.Function number) (exprs_count xs)
  function_there number ty xs None is h = no_true h
  function_there number ty xs (Some f) is h =
      ap (λ j. function_takes j (slice_get fs number)) (sym (arguments_count f.params xs (back (is_same_type f.result ty) (are_arguments f.params xs) h))) ∙ calls number f is

  callee_there : (callee : Callee) (ty : PlainType) (xs : Exprs) → IsTrue (is_call (callee_signature c callee) ty xs) → Takes callee (exprs_count xs)
  callee_there (k.Function number) ty xs h = function_there number ty xs (slice_get c.functions number) refl h
  callee_there (k.Builtin i.Putchar) ty xs h = eq-eqb 1 (exprs_count xs) (arguments_count (Int 4 true ∷ []) xs (back (is_same_type (Int 4 true) ty) (are_arguments (Int 4 true ∷ []) xs) h))
  callee_there (k.Builtin i.Getchar) ty xs h = eq-eqb 0 (exprs_count xs) (arguments_count [] xs (back (is_same_type (Int 4 true) ty) (are_arguments [] xs) h))
  callee_there (k.Builtin i.Abort) ty xs h = eq-eqb 0 (exprs_count xs) (arguments_count [] xs (back (is_same_type Void ty) (are_arguments [] xs) h))
  callee_there (k.Builtin i.Exit) ty xs h = eq-eqb 1 (exprs_count xs) (arguments_count (Int 4 true ∷ []) xs (back (is_same_type Void ty) (are_arguments (Int 4 true ∷ []) xs) h))

  record CallEmits (count : ℕ) (rest is : List CodeItem) : Type 0 where
    fits : Fits most (m.passes most fs c.globals os) rest → Fits most (m.passes most fs c.globals os) is
    cost : items_cost is ≤ 256 + 24 * count + items_cost rest
    wide : (n : ℕ) → count ≤ n → IsNarrow n rest → IsNarrow n is

  call_emits : (d : ℕ) (ty : PlainType) (callee : Callee) (xs : Exprs) (rest : List CodeItem) → IsTrue (is_call (callee_signature c callee) ty xs) → Has d (depths_above xs) → Has d 1
      → CallEmits (exprs_count xs) rest (Plain (n.Call (code.destination_of L c.structs c.locals d ty) (code.vm_callee callee) (code.call_registers L c.structs c.locals d xs)) ∷ rest)
  call_emits d ty callee xs rest r h g =
      let same_count : length (code.call_registers L c.structs c.locals d xs) ≡ exprs_count xs = arguments_length d xs in
      let below : max (registers_top (code.call_registers L c.structs c.locals d xs)) (registers_top (named_register (code.destination_of L c.structs c.locals d ty))) ≤ most = omega (arith, arguments_below d xs h, destination_below d ty g) in
      record {
        fits = λ f. (below, ap (λ j. callee_takes fs j (code.vm_callee callee)) same_count ∙ callee_there callee ty xs r, f);
        cost = omega (arith, same_count);
        wide = λ k le f. (omega (arith, same_count, le), f);
      }

  call_spends : (j w : ℕ) (rest mid is : List CodeItem) → SpendsAll j w mid is → CallEmits j rest mid → Spends (1 + w) rest is
  call_spends j w rest mid is a b = record {
    fits = λ f. a.fits (b.fits f);
    cost = omega (arith, a.cost, b.cost);
    some = omega arith;
    wide = λ n h r. a.wide n (omega (arith, h)) (b.wide n (omega (arith, a.each, h)) r);
  }

  -- ---- `&&`, `||` and `?:`

  decides_spends : (op : VmBranchOp) (d : ℕ) (ty tx ty' : PlainType) (word other : ℕ) (v w : ℕ) (fx fy : List CodeItem → List CodeItem)
      → ((is : List CodeItem) → Spends v is (fx is)) → ((is : List CodeItem) → Spends w is (fy is)) → (rest : List CodeItem) → Has d 1
      → Spends (1 + (v + w)) rest
      (fx (code.branch_by_value_code L op d tx (block_total (code.constant_code L d ty word (Start ∷ rest)))
      (fy (code.branch_by_value_code L op d ty' (block_total (code.constant_code L d ty word (Start ∷ rest)))
      (code.constant_code L d ty other (Jump (block_total rest) ∷ code.constant_code L d ty word (Start ∷ rest)))))))
  decides_spends op d ty tx ty' word other v w fx fy ex ey rest h =
      let fails : List CodeItem = code.constant_code L d ty word (Start ∷ rest) in
      let last : List CodeItem = code.constant_code L d ty other (Jump (block_total rest) ∷ fails) in
      let second : List CodeItem = code.branch_by_value_code L op d ty' (block_total fails) last in
      let first : List CodeItem = code.branch_by_value_code L op d tx (block_total fails) (fy second) in
      let f : E 680 rest fails = m.joins most fs c.globals os 144 536 rest (Start ∷ rest) fails (m.constant_emits K L d ty word (Start ∷ rest) h) (m.start most fs c.globals os rest) in
      let g : E 1384 rest last = m.joins most fs c.globals os 144 1240 rest (Jump (block_total rest) ∷ fails) last (m.constant_emits K L d ty other (Jump (block_total rest) ∷ fails) h)
      (m.joins most fs c.globals os 560 680 rest fails (Jump (block_total rest) ∷ fails) (m.jump most fs c.globals os (block_total rest) fails) f) in
      let b : E 2480 rest second = m.joins most fs c.globals os 1096 1384 rest last second (m.branch_emits most fs c.globals os L op d ty' (block_total fails) last h) g in
      let x : E 1096 (fy second) first = m.branch_emits most fs c.globals os L op d tx (block_total fails) (fy second) h in
      record {
        fits = λ z. (ex first).fits (x.fits ((ey second).fits (b.fits z)));
        cost = omega (arith, (ex first).cost, x.cost, (ey second).cost, b.cost);
        some = omega arith;
        wide = λ n le r. (ex first).wide n (omega (arith, le)) (x.wide n (omega (arith, le, (ex first).some)) ((ey second).wide n (omega (arith, le)) (b.wide n (omega (arith, le, (ex first).some, (ey second).some)) r)));
      }

  choice_spends : (d : ℕ) (tx : PlainType) (i j q : ℕ) (fx fy fz : List CodeItem → List CodeItem)
      → ((is : List CodeItem) → Spends i is (fx is)) → ((is : List CodeItem) → Spends j is (fy is)) → ((is : List CodeItem) → Spends q is (fz is))
      → (rest : List CodeItem) → Has d 1
      → Spends (1 + (i + (j + q))) rest (fx (code.branch_by_value_code L IfFalse d tx (block_total (fz (Start ∷ rest))) (fy (Jump (block_total rest) ∷ fz (Start ∷ rest)))))
  choice_spends d tx i j q fx fy fz ex ey ez rest h =
      let fails : List CodeItem = fz (Start ∷ rest) in
      let over : List CodeItem = Jump (block_total rest) ∷ fails in
      let first : List CodeItem = code.branch_by_value_code L IfFalse d tx (block_total fails) (fy over) in
      let f : E 536 rest (Start ∷ rest) = m.start most fs c.globals os rest in
      let g : E 560 fails over = m.jump most fs c.globals os (block_total rest) fails in
      let x : E 1096 (fy over) first = m.branch_emits most fs c.globals os L IfFalse d tx (block_total fails) (fy over) h in
      record {
        fits = λ y. (ex first).fits (x.fits ((ey over).fits (g.fits ((ez (Start ∷ rest)).fits (f.fits y)))));
        cost = omega (arith, (ex first).cost, x.cost, (ey over).cost, g.cost, (ez (Start ∷ rest)).cost, f.cost);
        some = omega arith;
        wide = λ n le r. (ex first).wide n (omega (arith, le)) (x.wide n (omega (arith, le)) ((ey over).wide n (omega (arith, le)) (g.wide n (omega (arith, le)) ((ez (Start ∷ rest)).wide n (omega (arith, le)) (f.wide n (omega (arith, le)) r)))));
      }

  -- ---- `++`, `--` and assignments

  abbrev register_of : Expr → Option ℕ
  register_of x = code.register_of L c.structs c.locals x

  abbrev placed : (d : ℕ) → Expr → List CodeItem → List CodeItem
  placed d x is = code.place_code L c.structs c.locals d x 0 is

  abbrev plus : Expr → ℕ
  plus x = code.plus_of L c.structs c.locals x 0

  changed_spends : (op : StepOp) (postfix : Bool) (d : ℕ) (ty : PlainType) (x : Expr) (w : ℕ) → 0 < w → (register_of x ≡ None → (is : List CodeItem) → Spends w is (placed d x is))
      → (rest : List CodeItem) → Has d 5
      → Spends (1 + w) rest (code.change_code L c.structs c.locals (register_of x) (λ r. code.step_register_code L c.structs op postfix d ty r rest) (placed d x (code.step_memory_code L c.structs op postfix d (plus x) ty rest)))
  changed_spends op postfix d ty x w some ex rest h = by (register_of x) refl
    where
      by : (r : Option ℕ) → register_of x ≡ r
          → Spends (1 + w) rest (code.change_code L c.structs c.locals r (λ q. code.step_register_code L c.structs op postfix d ty q rest) (placed d x (code.step_memory_code L c.structs op postfix d (plus x) ty rest)))
      by (Some r) is = only 616 (1 + w) rest _ (omega (arith, some)) (m.step_register_emits K L c.structs op postfix d ty r rest h (omega (arith, place_register x r is, h)))
      by None is = behind 976 w rest _ _ (omega arith) (ex is _) (m.step_memory_emits K L c.structs op postfix d (plus x) ty rest h)

  abbrev bytes_of : PlainType → ℕ
  bytes_of ty = m.struct_bytes most fs c.globals os L c.structs ty

  bytes_paid : (ty : PlainType) → 96 * bytes_of ty ≤ 768 * copy_weight c.structs ty
  bytes_paid Void = omega arith
  bytes_paid (Int bytes signed) = omega arith
  bytes_paid (Pointer target) = omega arith
  bytes_paid (Array element length) = omega arith
  bytes_paid (Struct number) = omega (arith, copy_paid c.structs number)

  assign_paid : (op : AssignOp) (ty : PlainType) → operator_of op ≡ None → 96 * bytes_of ty ≤ 768 * assign_weight c.structs op ty
  assign_paid a.Set ty h = bytes_paid ty
  assign_paid a.Multiply ty h = let clash : ⊥ = cc in absurd clash
  assign_paid a.Divide ty h = let clash : ⊥ = cc in absurd clash
  assign_paid a.Remainder ty h = let clash : ⊥ = cc in absurd clash
  assign_paid a.Add ty h = let clash : ⊥ = cc in absurd clash
  assign_paid a.Subtract ty h = let clash : ⊥ = cc in absurd clash
  assign_paid a.ShiftLeft ty h = let clash : ⊥ = cc in absurd clash
  assign_paid a.ShiftRight ty h = let clash : ⊥ = cc in absurd clash
  assign_paid a.And ty h = let clash : ⊥ = cc in absurd clash
  assign_paid a.Xor ty h = let clash : ⊥ = cc in absurd clash
  assign_paid a.Or ty h = let clash : ⊥ = cc in absurd clash

  whole_structs : (number : ℕ) → IsTrue (code.stride c.structs (Struct number) % alignment_bytes (code.alignment_of (align_of c.structs (Struct number))) == 0)
  whole_structs = struct_whole c.structs structs

  assign_spends : (d : ℕ) (op : Option BinaryOp) (ty right : PlainType) (x : Expr) (v w paid : ℕ) (value : ℕ → List CodeItem → List CodeItem)
      → (op ≡ None → 96 * bytes_of ty ≤ 768 * paid)
      → (register_of x ≡ None → (is : List CodeItem) → Spends v is (placed d x is)) → ((is : List CodeItem) → Spends w is (value d is)) → ((is : List CodeItem) → Spends w is (value (suc d) is))
      → (rest : List CodeItem) → Has d 5
      → Spends (1 + (paid + (v + w))) rest (code.assign_code L c.structs c.locals d op ty right (plus x) (register_of x) (λ is. placed d x is) value rest)
  assign_spends d op ty right x v w paid value pays ex low high rest h = by op (register_of x) pays refl
    where
      by : (o : Option BinaryOp) (r : Option ℕ) → (o ≡ None → 96 * bytes_of ty ≤ 768 * paid) → register_of x ≡ r
          → Spends (1 + (paid + (v + w))) rest (code.assign_code L c.structs c.locals d o ty right (plus x) r (λ is. placed d x is) value rest)
      by None (Some r) pay is =
          more (1 + w) (1 + (paid + (v + w))) rest _ (omega arith)
          (behind 24 w rest _ _ (omega arith) (low _) (m.move_emits K ty _ _ rest (omega (arith, place_register x r is, h)) (m.value_there most L d ty (omega (arith, h)))))
      by (Some o) (Some r) pay is =
          more (1 + w) (1 + (paid + (v + w))) rest _ (omega arith)
          (behind 448 w rest _ _ (omega arith) (high _)
          (m.joins most fs c.globals os 24 424 rest _ _ (m.move_emits K ty _ _ _ (m.value_there most L d ty (omega (arith, h))) (omega (arith, place_register x r is, h)))
          (m.joins most fs c.globals os 400 24 rest _ _ (m.combine_emits K L c.structs o d (suc d) (suc (suc d)) ty right _ (omega (arith, h)) (omega (arith, h)) (omega (arith, h)))
          (m.move_emits K ty _ _ rest (omega (arith, place_register x r is, h)) (m.value_there most L d ty (omega (arith, h)))))))
      by None None pay is =
          let set : List CodeItem = code.set_memory_code L c.structs d (plus x) ty rest in
          let valued : List CodeItem = value (suc d) set in
          let moved : List CodeItem = code.place_moved_code L ty d (plus x) valued in
          let s = m.set_memory_emits most fs c.globals os L c.structs whole_structs d (plus x) ty rest (omega (arith, h)) in
          let y : Spends w set valued = high set in
          let g : E 240 valued moved = m.place_moved_emits K L c.structs ty d (plus x) valued (omega (arith, h)) in
          let z : Spends v moved (placed d x moved) = ex is moved in
          record {
            fits = λ f. z.fits (g.fits (y.fits (s.fits f)));
            cost = omega (arith, z.cost, g.cost, y.cost, s.cost, pay refl);
            some = omega arith;
            wide = λ n le r. z.wide n (omega (arith, le)) (g.wide n (omega (arith, le)) (y.wide n (omega (arith, le)) (s.wide n (omega (arith, le, pay refl)) r)));
          }
      by (Some o) None pay is =
          more (1 + (v + w)) (1 + (paid + (v + w))) rest _ (omega arith)
          (behind_two 808 v w rest _ _ _ (omega arith) (ex is _) (high _) (m.combine_memory_emits K L c.structs o d (plus x) ty right rest (omega (arith, h))))

  -- ---- conversions

  conversion_spends : (d : ℕ) (from to : PlainType) (by_bytes w : ℕ) (place value : List CodeItem → List CodeItem)
      → ((element : PlainType) (length : ℕ) → from ≡ Array element length → (is : List CodeItem) → Spends w is (place is)) → ((is : List CodeItem) → Spends w is (value is))
      → (rest : List CodeItem) → Has d 1 → Spends (1 + w) rest (code.conversion_code L c.structs c.locals d from to by_bytes place value rest)
  conversion_spends d (Array element length) to j w place value ep ev rest h = behind 240 w rest _ _ (omega arith) (ep element length refl _) (m.moved_emits K L d j rest h)
  conversion_spends d Void to j w place value ep ev rest h = behind 24 w rest _ _ (omega arith) (ev _) (m.converted_emits K L d Void to rest h)
  conversion_spends d (Int bytes signed) to j w place value ep ev rest h = behind 24 w rest _ _ (omega arith) (ev _) (m.converted_emits K L d (Int bytes signed) to rest h)
  conversion_spends d (Pointer target) to j w place value ep ev rest h = behind 24 w rest _ _ (omega arith) (ev _) (m.converted_emits K L d (Pointer target) to rest h)
  conversion_spends d (Struct number) to j w place value ep ev rest h = behind 24 w rest _ _ (omega arith) (ev _) (m.converted_emits K L d (Struct number) to rest h)

  -- ---- all forms

  abbrev xcode : (d : ℕ) → Expr → List CodeItem → List CodeItem
  xcode d x rest = code.expr_code L c.structs c.locals d x rest

  abbrev W : Expr → ℕ
  W x = expr_weight c.structs x

  infix_spends : (op : BinaryOp) (d : ℕ) (ty : PlainType) (x y : Expr) → ((is : List CodeItem) → Spends (W x) is (xcode d x is)) → ((is : List CodeItem) → Spends (W y) is (xcode (suc d) y is))
      → (rest : List CodeItem) → Has d 3 → Spends (1 + (W x + W y)) rest (xcode d x (xcode (suc d) y (code.binary_code L c.structs op d ty (type_of x) (type_of y) rest)))
  infix_spends op d ty x y ex ey rest h = behind_two 592 (W x) (W y) rest _ _ _ (omega arith) (ex _) (ey _) (m.binary_emits K L c.structs op d ty (type_of x) (type_of y) rest h)

  commas_paid : (j w : ℕ) (rest is : List CodeItem) → 0 < j → SpendsAll j w rest is → Spends (j - 1 + w) rest is
  commas_paid j w rest is some a = record { fits = a.fits; cost = omega (arith, some, a.cost); some = omega (arith, some, a.each); wide = λ n h. a.wide n (omega (arith, h)) }

  abbrev unary_parts : (ty : PlainType) (op : u'.UnaryOp) (x : Expr) → T (Unary ty op x) → IsTrue (has_unary_type c.structs c.locals op ty x) × T x
  unary_parts ty op x t = one (is_fit c.structs ty) (has_unary_type c.structs c.locals op ty x) (is_typed c x) t

  abbrev binary_parts : (ty : PlainType) (op : BinaryOp) (x y : Expr) → T (Binary ty op x y) → IsTrue (has_rule c (Binary ty op x y)) × T x × T y
  binary_parts ty op x y t = two (is_fit c.structs ty) (has_rule c (Binary ty op x y)) (is_typed c x) (is_typed c y) t

  abbrev index_parts : (ty : PlainType) (x y : Expr) → T (Index ty x y) → IsTrue (has_rule c (Index ty x y)) × T x × T y
  index_parts ty x y t = two (is_fit c.structs ty) (has_rule c (Index ty x y)) (is_typed c x) (is_typed c y) t

  abbrev field_parts : (ty : PlainType) (x : Expr) (j : ℕ) → T (Field ty x j) → IsTrue (is_place x && is_member c.structs ty (type_of x) j) × T x
  field_parts ty x j t = one (is_fit c.structs ty) (is_place x && is_member c.structs ty (type_of x) j) (is_typed c x) t

  abbrev arrow_parts : (ty : PlainType) (x : Expr) (j : ℕ) → T (Arrow ty x j) → IsTrue (has_rule c (Arrow ty x j)) × T x
  arrow_parts ty x j t = one (is_fit c.structs ty) (has_rule c (Arrow ty x j)) (is_typed c x) t

  abbrev step_place : (ty : PlainType) (x : Expr) → IsTrue (has_step_type c.structs ty (type_of x) && is_place x) → IsTrue (is_place x)
  step_place ty x r = back (has_step_type c.structs ty (type_of x)) (is_place x) r

  is_struct_place : (ty : PlainType) (x : Expr) (j : ℕ) → T x → IsTrue (is_place x && is_member c.structs ty (type_of x) j) → IsTrue (is_in_memory c.locals x)
  is_struct_place ty x j t r = large_memory c lawful x t (front (is_place x) (is_member c.structs ty (type_of x) j) r) (member_struct c ty (type_of x) j (back (is_place x) (is_member c.structs ty (type_of x) j) r))

  array_memory : (x : Expr) (element : PlainType) (length : ℕ) → T x → IsTrue (is_place x) → type_of x ≡ Array element length → IsTrue (is_in_memory c.locals x)
  array_memory x element length t place is = large_memory c lawful x t place (ap is_scalar is)

  cast_memory : {X : Type 0} (ty : PlainType) (x : Expr) (element : PlainType) (length : ℕ) → IsTrue (is_cast ty (type_of x) (is_null_constant x)) → type_of x ≡ Array element length → X
  cast_memory ty x element length r is = array_cast ty element length (is_null_constant x) (subst (λ f. IsTrue (is_cast ty f (is_null_constant x))) is r)

  convert_place : (ty : PlainType) (x : Expr) (element : PlainType) (length : ℕ) → IsTrue (is_conversion ty (type_of x) (is_null_constant x) (is_place x)) → type_of x ≡ Array element length → IsTrue (is_place x)
  convert_place ty x element length r is = array_place ty element length (is_null_constant x) (is_place x) (subst (λ f. IsTrue (is_conversion ty f (is_null_constant x) (is_place x))) is r)

  mutual
    unfolding expr_weight

    pub expr_spends : (d : ℕ) (x : Expr) (rest : List CodeItem) → T x → Has d (depths x) → Spends (W x) rest (xcode d x rest)
    expr_spends d (Number ty word) rest t h = only 144 1 rest _ (omega arith) (m.constant_emits K L d ty word rest (omega (arith, h)))
    expr_spends d (e.Local ty j) rest t h = only 264 1 rest _ (omega arith) (local_emits d ty j rest t (omega (arith, h)))
    expr_spends d (Global ty j) rest t h =
        only 264 1 rest _ (omega arith)
        (m.joins most fs c.globals os 24 240 rest _ _ (global_emits d 0 ty j _ t (omega arith) (omega (arith, h))) (m.value_load_emits K L d ty 0 rest (omega (arith, h))))
    expr_spends d (Call ty callee xs) rest t h =
        let o = one (is_fit c.structs ty) (has_rule c (Call ty callee xs)) (are_typed c xs) t in
        call_spends (exprs_count xs) (exprs_weight c.structs xs) rest _ _ (exprs_spend d xs _ o.1 (omega (arith, h))) (call_emits d ty callee xs rest o.0 (omega (arith, h)) (omega (arith, h)))
    expr_spends d (Unary ty u.Address x) rest t h =
        let o = unary_parts ty u.Address x t in
        behind 240 (W x) rest _ _ (omega arith) (place_spends d x 0 _ o.1 (back (is_same_type ty (Pointer (type_of x))) (is_in_memory c.locals x) o.0) (omega arith) (omega (arith, h))) (m.moved_emits K L d (plus x) rest (omega (arith, h)))
    expr_spends d (Unary ty u.Dereference x) rest t h =
        behind 240 (W x) rest _ _ (omega arith) (expr_spends d x _ ((unary_parts ty u.Dereference x t).1) (omega (arith, h))) (m.value_load_emits K L d ty 0 rest (omega (arith, h)))
    expr_spends d (Unary ty u.Increment x) rest t h =
        let o = unary_parts ty u.Increment x t in
        changed_spends s.Increment false d ty x (W x) (positive c x o.1) (λ none is. place_spends d x 0 is o.1 (place_memory c lawful x o.1 (step_place ty x o.0) none) (omega arith) (omega (arith, h))) rest (omega (arith, h))
    expr_spends d (Unary ty u.Decrement x) rest t h =
        let o = unary_parts ty u.Decrement x t in
        changed_spends s.Decrement false d ty x (W x) (positive c x o.1) (λ none is. place_spends d x 0 is o.1 (place_memory c lawful x o.1 (step_place ty x o.0) none) (omega arith) (omega (arith, h))) rest (omega (arith, h))
    expr_spends d (Unary ty u.Not x) rest t h =
        behind 240 (W x) rest _ _ (omega arith) (expr_spends d x _ ((unary_parts ty u.Not x t).1) (omega (arith, h))) (m.not_emits K L d ty (type_of x) rest (omega (arith, h)))
    expr_spends d (Unary ty u.Plus x) rest t h = more (W x) (1 + W x) rest _ (omega arith) (expr_spends d x rest ((unary_parts ty u.Plus x t).1) (omega (arith, h)))
    expr_spends d (Unary ty u.Minus x) rest t h =
        behind 24 (W x) rest _ _ (omega arith) (expr_spends d x _ ((unary_parts ty u.Minus x t).1) (omega (arith, h))) (m.unary_emits K L Negate d ty rest (omega (arith, h)))
    expr_spends d (Unary ty u.Invert x) rest t h =
        behind 24 (W x) rest _ _ (omega arith) (expr_spends d x _ ((unary_parts ty u.Invert x t).1) (omega (arith, h))) (m.unary_emits K L Complement d ty rest (omega (arith, h)))
    expr_spends d (Binary ty b.LogicalAnd x y) rest t h =
        let o = binary_parts ty b.LogicalAnd x y t in
        decides_spends IfFalse d ty (type_of x) (type_of y) 0 1 (W x) (W y) (λ is. xcode d x is) (λ is. xcode d y is) (λ is. expr_spends d x is o.1 (omega (arith, h))) (λ is. expr_spends d y is o.2 (omega (arith, h))) rest (omega (arith, h))
    expr_spends d (Binary ty b.LogicalOr x y) rest t h =
        let o = binary_parts ty b.LogicalOr x y t in
        decides_spends IfTrue d ty (type_of x) (type_of y) 1 0 (W x) (W y) (λ is. xcode d x is) (λ is. xcode d y is) (λ is. expr_spends d x is o.1 (omega (arith, h))) (λ is. expr_spends d y is o.2 (omega (arith, h))) rest (omega (arith, h))
    expr_spends d (Binary ty b.Or x y) rest t h = let o = binary_parts ty b.Or x y t in infix_spends b.Or d ty x y (λ is. expr_spends d x is o.1 (omega (arith, h))) (λ is. expr_spends (suc d) y is o.2 (omega (arith, h))) rest (omega (arith, h))
    expr_spends d (Binary ty b.Xor x y) rest t h = let o = binary_parts ty b.Xor x y t in infix_spends b.Xor d ty x y (λ is. expr_spends d x is o.1 (omega (arith, h))) (λ is. expr_spends (suc d) y is o.2 (omega (arith, h))) rest (omega (arith, h))
    expr_spends d (Binary ty b.And x y) rest t h = let o = binary_parts ty b.And x y t in infix_spends b.And d ty x y (λ is. expr_spends d x is o.1 (omega (arith, h))) (λ is. expr_spends (suc d) y is o.2 (omega (arith, h))) rest (omega (arith, h))
    expr_spends d (Binary ty b.Equal x y) rest t h = let o = binary_parts ty b.Equal x y t in infix_spends b.Equal d ty x y (λ is. expr_spends d x is o.1 (omega (arith, h))) (λ is. expr_spends (suc d) y is o.2 (omega (arith, h))) rest (omega (arith, h))
    expr_spends d (Binary ty b.NotEqual x y) rest t h = let o = binary_parts ty b.NotEqual x y t in infix_spends b.NotEqual d ty x y (λ is. expr_spends d x is o.1 (omega (arith, h))) (λ is. expr_spends (suc d) y is o.2 (omega (arith, h))) rest (omega (arith, h))
    expr_spends d (Binary ty b.Less x y) rest t h = let o = binary_parts ty b.Less x y t in infix_spends b.Less d ty x y (λ is. expr_spends d x is o.1 (omega (arith, h))) (λ is. expr_spends (suc d) y is o.2 (omega (arith, h))) rest (omega (arith, h))
    expr_spends d (Binary ty b.Greater x y) rest t h = let o = binary_parts ty b.Greater x y t in infix_spends b.Greater d ty x y (λ is. expr_spends d x is o.1 (omega (arith, h))) (λ is. expr_spends (suc d) y is o.2 (omega (arith, h))) rest (omega (arith, h))
    expr_spends d (Binary ty b.LessEqual x y) rest t h = let o = binary_parts ty b.LessEqual x y t in infix_spends b.LessEqual d ty x y (λ is. expr_spends d x is o.1 (omega (arith, h))) (λ is. expr_spends (suc d) y is o.2 (omega (arith, h))) rest (omega (arith, h))
    expr_spends d (Binary ty b.GreaterEqual x y) rest t h = let o = binary_parts ty b.GreaterEqual x y t in infix_spends b.GreaterEqual d ty x y (λ is. expr_spends d x is o.1 (omega (arith, h))) (λ is. expr_spends (suc d) y is o.2 (omega (arith, h))) rest (omega (arith, h))
    expr_spends d (Binary ty b.ShiftLeft x y) rest t h = let o = binary_parts ty b.ShiftLeft x y t in infix_spends b.ShiftLeft d ty x y (λ is. expr_spends d x is o.1 (omega (arith, h))) (λ is. expr_spends (suc d) y is o.2 (omega (arith, h))) rest (omega (arith, h))
    expr_spends d (Binary ty b.ShiftRight x y) rest t h = let o = binary_parts ty b.ShiftRight x y t in infix_spends b.ShiftRight d ty x y (λ is. expr_spends d x is o.1 (omega (arith, h))) (λ is. expr_spends (suc d) y is o.2 (omega (arith, h))) rest (omega (arith, h))
    expr_spends d (Binary ty b.Add x y) rest t h = let o = binary_parts ty b.Add x y t in infix_spends b.Add d ty x y (λ is. expr_spends d x is o.1 (omega (arith, h))) (λ is. expr_spends (suc d) y is o.2 (omega (arith, h))) rest (omega (arith, h))
    expr_spends d (Binary ty b.Subtract x y) rest t h = let o = binary_parts ty b.Subtract x y t in infix_spends b.Subtract d ty x y (λ is. expr_spends d x is o.1 (omega (arith, h))) (λ is. expr_spends (suc d) y is o.2 (omega (arith, h))) rest (omega (arith, h))
    expr_spends d (Binary ty b.Multiply x y) rest t h = let o = binary_parts ty b.Multiply x y t in infix_spends b.Multiply d ty x y (λ is. expr_spends d x is o.1 (omega (arith, h))) (λ is. expr_spends (suc d) y is o.2 (omega (arith, h))) rest (omega (arith, h))
    expr_spends d (Binary ty b.Divide x y) rest t h = let o = binary_parts ty b.Divide x y t in infix_spends b.Divide d ty x y (λ is. expr_spends d x is o.1 (omega (arith, h))) (λ is. expr_spends (suc d) y is o.2 (omega (arith, h))) rest (omega (arith, h))
    expr_spends d (Binary ty b.Remainder x y) rest t h = let o = binary_parts ty b.Remainder x y t in infix_spends b.Remainder d ty x y (λ is. expr_spends d x is o.1 (omega (arith, h))) (λ is. expr_spends (suc d) y is o.2 (omega (arith, h))) rest (omega (arith, h))
    expr_spends d (Assign ty op x y) rest t h =
        let o = two (is_fit c.structs ty) (has_rule c (Assign ty op x y)) (is_typed c x) (is_typed c y) t in
        let place : IsTrue (is_place x) = front (is_place x) (is_same_type (type_of x) ty) (front (is_place x && is_same_type (type_of x) ty) (has_assigned_type c.structs op (type_of x) (type_of y)) o.0) in
        assign_spends d (operator_of op) ty (type_of y) x (W x) (W y) (assign_weight c.structs op ty) (λ j is. xcode j y is) (assign_paid op ty)
        (λ none is. place_spends d x 0 is o.1 (place_memory c lawful x o.1 place none) (omega arith) (omega (arith, h))) (λ is. expr_spends d y is o.2 (omega (arith, h))) (λ is. expr_spends (suc d) y is o.2 (omega (arith, h))) rest (omega (arith, h))
    expr_spends d (Conditional ty x y z) rest t h =
        let o = three (is_fit c.structs ty) (has_rule c (Conditional ty x y z)) (is_typed c x) (is_typed c y) (is_typed c z) t in
        choice_spends d (type_of x) (W x) (W y) (W z) (λ is. xcode d x is) (λ is. xcode d y is) (λ is. xcode d z is)
        (λ is. expr_spends d x is o.1 (omega (arith, h))) (λ is. expr_spends d y is o.2 (omega (arith, h))) (λ is. expr_spends d z is o.3 (omega (arith, h))) rest (omega (arith, h))
    expr_spends d (Cast ty x) rest t h =
        let o = one (is_fit c.structs ty) (has_rule c (Cast ty x)) (is_typed c x) t in
        conversion_spends d (type_of x) ty (plus x) (W x) (λ is. placed d x is) (λ is. xcode d x is)
        (λ element length is rest. cast_memory ty x element length o.0 is) (λ is. expr_spends d x is o.1 (omega (arith, h))) rest (omega (arith, h))
    expr_spends d (Convert ty x) rest t h =
        let o = one (is_fit c.structs ty) (has_rule c (Convert ty x)) (is_typed c x) t in
        conversion_spends d (type_of x) ty (plus x) (W x) (λ is. placed d x is) (λ is. xcode d x is)
        (λ element length is after. place_spends d x 0 after o.1 (array_memory x element length o.1 (convert_place ty x element length o.0 is) is) (omega arith) (omega (arith, h))) (λ is. expr_spends d x is o.1 (omega (arith, h))) rest (omega (arith, h))
    expr_spends d (Index ty x y) rest t h =
        let o = index_parts ty x y t in
        behind_two 624 (W x) (W y) rest _ _ _ (omega arith) (expr_spends d x _ o.1 (omega (arith, h))) (expr_spends (suc d) y _ o.2 (omega (arith, h)))
        (m.joins most fs c.globals os 384 240 rest _ _ (m.element_emits K L c.structs d (type_of x) (type_of y) _ (omega (arith, h))) (m.value_load_emits K L d ty 0 rest (omega (arith, h))))
    expr_spends d (Field ty x j) rest t h =
        let o = field_parts ty x j t in
        behind 240 (W x) rest _ _ (omega arith)
        (place_spends d x (code.member_plus c.structs (type_of x) j 0) _ o.1 (is_struct_place ty x j o.1 o.0)
        (member_fits c structs ty (type_of x) j 0 (back (is_place x) (is_member c.structs ty (type_of x) j) o.0) (omega arith)) (omega (arith, h)))
        (m.value_load_emits K L d ty (code.plus_of L c.structs c.locals x (code.member_plus c.structs (type_of x) j 0)) rest (omega (arith, h)))
    expr_spends d (Arrow ty x j) rest t h =
        behind 240 (W x) rest _ _ (omega arith) (expr_spends d x _ ((arrow_parts ty x j t).1) (omega (arith, h))) (m.value_load_emits K L d ty _ rest (omega (arith, h)))
    expr_spends d (Postfix ty op x) rest t h =
        let o = one (is_fit c.structs ty) (has_step_type c.structs ty (type_of x) && is_place x) (is_typed c x) t in
        changed_spends op true d ty x (W x) (positive c x o.1) (λ none is. place_spends d x 0 is o.1 (place_memory c lawful x o.1 (step_place ty x o.0) none) (omega arith) (omega (arith, h))) rest (omega (arith, h))
    expr_spends d (Comma ty xs) rest t h =
        let o = one (is_fit c.structs ty) (are_operands ty xs) (are_typed c xs) t in
        commas_paid (exprs_count xs) (exprs_weight c.structs xs) rest _ (some_operands ty xs o.0) (commas_spend d xs rest o.1 (omega (arith, h)))

    pub place_spends : (d : ℕ) (x : Expr) (by_bytes : ℕ) (rest : List CodeItem) → T x → IsTrue (is_in_memory c.locals x) → by_bytes ≤ size_of c.structs (type_of x) → Has d (depths x)
        → Spends (W x) rest (code.place_code L c.structs c.locals d x by_bytes rest)
    place_spends d (e.Local ty j) q rest t memory small h =
        only 24 1 rest _ (omega arith) (m.address_emits most fs c.globals os L d (p.Local (object_index c.locals j)) q rest (omega (arith, h)) (memory_there j q ty (slice_get c.locals j) refl memory (local_typed ty j t) small))
    place_spends d (Global ty j) q rest t memory small h = only 24 1 rest _ (omega arith) (global_emits d q ty j rest t small (omega (arith, h)))
    place_spends d (Unary ty u.Dereference x) q rest t memory small h = more (W x) (1 + W x) rest _ (omega arith) (expr_spends d x rest ((unary_parts ty u.Dereference x t).1) (omega (arith, h)))
    place_spends d (Index ty x y) q rest t memory small h =
        let o = index_parts ty x y t in
        behind_two 384 (W x) (W y) rest _ _ _ (omega arith) (expr_spends d x _ o.1 (omega (arith, h))) (expr_spends (suc d) y _ o.2 (omega (arith, h))) (m.element_emits K L c.structs d (type_of x) (type_of y) rest (omega (arith, h)))
    place_spends d (Field ty x j) q rest t memory small h =
        let o = field_parts ty x j t in
        more (W x) (1 + W x) rest _ (omega arith)
        (place_spends d x (code.member_plus c.structs (type_of x) j q) rest o.1 memory (member_fits c structs ty (type_of x) j q (back (is_place x) (is_member c.structs ty (type_of x) j) o.0) small) (omega (arith, h)))
    place_spends d (Arrow ty x j) q rest t memory small h = more (W x) (1 + W x) rest _ (omega arith) (expr_spends d x rest ((arrow_parts ty x j t).1) (omega (arith, h)))
    place_spends d (Unary ty u.Address x) q rest t memory small h = no_true memory
    place_spends d (Unary ty u.Increment x) q rest t memory small h = no_true memory
    place_spends d (Unary ty u.Decrement x) q rest t memory small h = no_true memory
    place_spends d (Unary ty u.Not x) q rest t memory small h = no_true memory
    place_spends d (Unary ty u.Plus x) q rest t memory small h = no_true memory
    place_spends d (Unary ty u.Minus x) q rest t memory small h = no_true memory
    place_spends d (Unary ty u.Invert x) q rest t memory small h = no_true memory
    place_spends d (Number ty word) q rest t memory small h = no_true memory
    place_spends d (Call ty callee xs) q rest t memory small h = no_true memory
    place_spends d (Binary ty op x y) q rest t memory small h = no_true memory
    place_spends d (Assign ty op x y) q rest t memory small h = no_true memory
    place_spends d (Conditional ty x y z) q rest t memory small h = no_true memory
    place_spends d (Cast ty x) q rest t memory small h = no_true memory
    place_spends d (Convert ty x) q rest t memory small h = no_true memory
    place_spends d (Postfix ty op x) q rest t memory small h = no_true memory
    place_spends d (Comma ty xs) q rest t memory small h = no_true memory

    exprs_spend : (d : ℕ) (xs : Exprs) (rest : List CodeItem) → IsTrue (are_typed c xs) → Has d (depths_above xs) → SpendsAll (exprs_count xs) (exprs_weight c.structs xs) rest (code.exprs_code L c.structs c.locals d xs rest)
    exprs_spend d no_exprs rest t h = record { fits = λ f. f; cost = omega arith; each = omega arith; wide = λ n le r. r }
    exprs_spend d (more_exprs x xs) rest t h =
        let a = expr_spends d x (code.exprs_code L c.structs c.locals (suc d) xs rest) (front (is_typed c x) (are_typed c xs) t) (omega (arith, h)) in
        let b = exprs_spend (suc d) xs rest (back (is_typed c x) (are_typed c xs) t) (omega (arith, h)) in
        record { fits = λ f. a.fits (b.fits f); cost = omega (arith, a.cost, b.cost); each = omega (arith, a.some, b.each); wide = λ n le r. a.wide n (omega (arith, le)) (b.wide n (omega (arith, le)) r) }

    commas_spend : (d : ℕ) (xs : Exprs) (rest : List CodeItem) → IsTrue (are_typed c xs) → Has d (depths_of_each xs) → SpendsAll (exprs_count xs) (exprs_weight c.structs xs) rest (code.commas_code L c.structs c.locals d xs rest)
    commas_spend d no_exprs rest t h = record { fits = λ f. f; cost = omega arith; each = omega arith; wide = λ n le r. r }
    commas_spend d (more_exprs x xs) rest t h =
        let a = expr_spends d x (code.commas_code L c.structs c.locals d xs rest) (front (is_typed c x) (are_typed c xs) t) (omega (arith, h)) in
        let b = commas_spend d xs rest (back (is_typed c x) (are_typed c xs) t) (omega (arith, h)) in
        record { fits = λ f. a.fits (b.fits f); cost = omega (arith, a.cost, b.cost); each = omega (arith, a.some, b.each); wide = λ n le r. a.wide n (omega (arith, le)) (b.wide n (omega (arith, le)) r) }
