-- The code of a sum, and of an element, whose left operand is the integer.
use Rattle.std.proofs.Common.{◌≡◌, ℕ, suc, ◌≤◌, pos, ◌*ℤ◌, List, [], ◌∷◌, Some, refl, sym, ap, ◌∙◌, subst, arith, inl}
use Rattle.std.specs.Prelude.{slice_get}
use Rattle.mem_model.specs.declared.value.Value.{Value}
use Rattle.mem_model.specs.Memory.{Memory}
use Rattle.mem_model.specs.Pointers.{pointer_plus}
use Rattle.mem_model.specs.World.{outer_with_memory}
use Rattle.mem_model.specs.Related.{Names, IsValueOf}
use Rattle.mem_model.proofs.RelatedPointers.{moves_correspond}
use Rattle.mem_objects.specs.declared.TheConstants.{MOST_DATA}
use Rattle.bk_arithmetic.specs.declared.integer_type.IntegerType.{IntegerType}
use Rattle.bk_arithmetic.specs.declared.integer_type.IntegerType.TheVariants as i
use Rattle.bk_arithmetic.specs.Words.{value}
use Rattle.bk_arithmetic.specs.Operations.{conversion}
use Rattle.bk_arithmetic.proofs.Results.{is_word-extension}
use Rattle.c_tree.specs.declared.expressions.BinaryOp.TheVariants as b
use Rattle.c_typed_tree.specs.declared.types.StructDef.{StructDef}
use Rattle.c_typed_tree.specs.Types.{PlainType, Void, Pointer}
use Rattle.c_typed_tree.specs.Layout.{size_of}
use Rattle.c_typed_tree.specs.Expressions.{Expr, Binary, Index, type_of}
use Rattle.c_semantics.specs.Runs.{CallState, Run, and_then, use_number, pure}
use Rattle.c_semantics.specs.Objects as obj
use Rattle.c_semantics.specs.Objects.{Scope, read_at, stands_inside, element_plus, move_reason, move_elements, move_by}
use Rattle.c_semantics.specs.Operators.{apply_binary}
use Rattle.c_semantics.specs.Evaluates.{eval, element_pointer}
use Rattle.suifvm_ir.specs.declared.types.VmType.TheVariants.{P64}
use Rattle.suifvm_ir.specs.declared.insn.VmBinaryOp.TheVariants.{Add}
use Rattle.suifvm_ir.specs.declared.insn.VmInsn.TheVariants as n
use Rattle.suifvm_meaning.specs.Operations as vm
use Rattle.suifvm_meaning.specs.Effect.{writes}
use Rattle.suifvm_meaning.specs.Behave.{Registers, set_register}
use Rattle.lowering_code.specs.declared.item.CodeItem.{CodeItem}
use Rattle.lowering_code.specs.Registers.{register_type, value_register, address_register, bytes_register}
use Rattle.lowering_code.specs.Expressions.{plain_of, cap_offset, sized_code, scaled_code, add_code, binary_code, element_code, load_code, expr_code}
use Rattle.lowering_states.specs.Places.{CodePlace, next_place}
use Rattle.lowering_states.specs.Runs.{CodeObservation, finish}
use Rattle.lowering_states.specs.model.Opens.{opens}
use Rattle.lowering_states.specs.States.{IsInRegister, KeepsLower}
use Rattle.lowering_states.proofs.Steps.{meets_same, number_meets, known_meets}
use Rattle.lowering_states.proofs.States.{kept_on, kept_reads, kept_temporary, after_on, value_at, fits_temporary}
use Rattle.lowering_states.proofs.LoweringExpressionPlaces.Behind.{at_plain}
use Rattle.lowering_expression_laws.specs.Parts.{Setting, first_depth, EndsSo, Stands, Fit, Follows, ExprMeets}
use Rattle.lowering_expression_laws.proofs.Forms.{WordIn, word_in, insn_on, bound_run}
use Rattle.lowering_expression_laws.specs.lowering_place_laws.Places.{PlaceMeets}
use Rattle.lowering_expression_laws.specs.lowering_place_laws.Laws.{HasWholeIntegers}
use Rattle.lowering_expression_laws.proofs.LoweringPlaceLaws.Places.{held_pointer, moved_held, own_base}
use Rattle.lowering_expression_laws.proofs.LoweringPlaceLaws.Accesses.{load_on}
use Rattle.lowering_expression_laws.specs.lowering_pointer_laws.Laws.{PointersAboveAreMoved}
use Rattle.lowering_expression_laws.proofs.LoweringPointerLaws.Numbers.{IsSmall}
use Rattle.lowering_expression_laws.proofs.LoweringPointerLaws.Moves.{IsMovedBy, moved_by, long_bytes, kept_both, long_leads, sized_leads}

sum_is : (ds : List StructDef) (target : PlainType) (t : IntegerType) → ◌≡◌ {A = Value → Value → Run Value} (apply_binary ds b.Add (plain_of t) (Pointer target)) (λ v w. move_by ds target t w v)
sum_is ds target i.Char = refl
sum_is ds target i.UnsignedChar = refl
sum_is ds target i.Short = refl
sum_is ds target i.UnsignedShort = refl
sum_is ds target i.Int = refl
sum_is ds target i.UnsignedInt = refl
sum_is ds target i.Long = refl
sum_is ds target i.UnsignedLong = refl

element_is : (ds : List StructDef) (target : PlainType) (t : IntegerType) → ◌≡◌ {A = Value → Value → Run Value} (element_pointer ds (plain_of t) (Pointer target)) (λ v w. move_by ds target t w v)
element_is ds target i.Char = refl
element_is ds target i.UnsignedChar = refl
element_is ds target i.Short = refl
element_is ds target i.UnsignedShort = refl
element_is ds target i.Int = refl
element_is ds target i.UnsignedInt = refl
element_is ds target i.Long = refl
element_is ds target i.UnsignedLong = refl

abbrev back_tail : (L : ℕ) → List StructDef → (d : ℕ) → (target : PlainType) → IntegerType → List CodeItem → List CodeItem
back_tail L ds d target t rest =
    scaled_code L d (suc (suc d)) (plain_of t) (cap_offset (size_of ds target)) (add_code (address_register L d) (address_register L (suc d)) (bytes_register L d) rest)

sum_code : (L : ℕ) (ds : List StructDef) (d : ℕ) (target : PlainType) (t : IntegerType) (rest : List CodeItem) → binary_code L ds b.Add d (Pointer target) (plain_of t) (Pointer target) rest ≡ back_tail L ds d target t rest
sum_code L ds d target i.Char rest = refl
sum_code L ds d target i.UnsignedChar rest = refl
sum_code L ds d target i.Short rest = refl
sum_code L ds d target i.UnsignedShort rest = refl
sum_code L ds d target i.Int rest = refl
sum_code L ds d target i.UnsignedInt rest = refl
sum_code L ds d target i.Long rest = refl
sum_code L ds d target i.UnsignedLong rest = refl

element_code_by : (L : ℕ) (ds : List StructDef) (d : ℕ) (target : PlainType) (t : IntegerType) (rest : List CodeItem) → element_code L ds d (plain_of t) (Pointer target) rest ≡ back_tail L ds d target t rest
element_code_by L ds d target i.Char rest = refl
element_code_by L ds d target i.UnsignedChar rest = refl
element_code_by L ds d target i.Short rest = refl
element_code_by L ds d target i.UnsignedShort rest = refl
element_code_by L ds d target i.Int rest = refl
element_code_by L ds d target i.UnsignedInt rest = refl
element_code_by L ds d target i.Long rest = refl
element_code_by L ds d target i.UnsignedLong rest = refl

module _ (c : Setting) (found : slice_get c.functions c.number ≡ Some c.code) (rest : List CodeItem) (heads : List ℕ) (g : Names) (scope : Scope) (s : CallState) (m : Memory) where
  -- the pointer above is moved by the elements at a depth, and comes there
  moved_there : {o : CodeObservation} (d : ℕ) (t : IntegerType) (k size : ℕ) (v u : Value) (q : CodePlace) (r : Registers) → size ≤ MOST_DATA → IsMovedBy s.world.outer.memory v (value t k *ℤ pos size) u
      → Stands c heads q (scaled_code (first_depth c) d (suc (suc d)) (plain_of t) (cap_offset size) (add_code (address_register (first_depth c) d) (address_register (first_depth c) (suc d)) (bytes_register (first_depth c) d) rest)) → Fit c g scope r s m
      → IsValueOf g v (r (address_register (first_depth c) (suc d))) → WordIn (first_depth c) d t k r
      → ((q1 : CodePlace) (r1 : Registers) → Stands c heads q1 rest → Fit c g scope r1 s m → KeepsLower (first_depth c) d r r1 → IsValueOf g u (r1 (address_register (first_depth c) d)) → EndsSo c o q1 r1 s.world m) → EndsSo c o q r s.world m
  moved_there {o = o} d t k size v u q r le is at fit rel one next =
      let addr = address_register (first_depth c) d in
      let above = address_register (first_depth c) (suc d) in
      let reg = bytes_register (first_depth c) d in
      let small : IsSmall (value t k *ℤ pos size) = is.small (λ p live. fit.small p.object live) in
      let capped : cap_offset size ≡ size = omega (arith, le) in
      let at1 = subst (λ z. Stands c heads q (scaled_code (first_depth c) d (suc (suc d)) (plain_of t) z (add_code addr above reg rest))) capped at in
      long_leads c found rest heads g scope s m d t k (sized_code (first_depth c) d (suc (suc d)) size (add_code addr above reg rest)) q r at1 fit one
      (λ q1 r1 at2 fit1 kept1 held1.
      sized_leads c found rest heads g scope s m d (suc (suc d)) (omega arith) size (conversion t i.Long k) (value t k *ℤ pos size) (add_code addr above reg rest) q1 r1 le (long_bytes t k size small) small (is_word-extension i.Long _) at2 fit1 held1
      (λ q2 r2 bytes at3 fit2 kept2 held2 value_is word_is.
      let kept3 = kept_both kept1 kept2 in
      let x = moves_correspond g s.world.outer.memory m fit2.memory v (r2 above) u (value t k *ℤ pos size) (subst (λ z. IsValueOf g v z) (sym (kept3.addresses (suc d))) rel) is.moved in
      insn_on c found (n.Binary Add P64 addr above reg) q2 r2 s.world m (x.0 ∷ []) at3.has.0 refl
      (ap (λ z. writes (vm.pointer_answer m Add (r2 above) z) (outer_with_memory s.world.outer m)) held2 ∙ ap (λ z. writes (vm.value_answer (pointer_plus m (r2 above) z)) (outer_with_memory s.world.outer m)) value_is
      ∙ ap (λ z. writes (vm.value_answer z) (outer_with_memory s.world.outer m)) x.1)
      (next (next_place q2) (set_register addr x.0 r2) (at_plain c.code.blocks c.last c.end _ at3) (fits_temporary d P64 x.0 fit2) (kept_temporary d P64 x.0 (omega arith) kept3.lower) (value_at g u x.0 r2 addr x.2))))

module _ (c : Setting) (found : slice_get c.functions c.number ≡ Some c.code) (target : PlainType) (t : IntegerType) (x y : Expr) (le : size_of c.structs target ≤ MOST_DATA) (ex : type_of x ≡ plain_of t) (ey : type_of y ≡ Pointer target) (hx : ExprMeets c x) (hy : ExprMeets c y) where
  abbrev size : ℕ
  size = size_of c.structs target

  -- what is computed of both operands, by what is done with their values
  abbrev run_by : (Value → Value → Run Value) → Scope → Run Value
  run_by done scope = λ s. and_then (eval c.structs c.locals c.calls scope x s) (λ v t1. and_then (eval c.structs c.locals c.calls scope y t1) (done v))

  moves_lead : (d : ℕ) (rest : List CodeItem) (heads : List ℕ) (p : CodePlace) (f : Names) (scope : Scope) (r : Registers) (s : CallState) (m : Memory) (K : Value → CallState → CodeObservation)
      → Stands c heads p (expr_code (first_depth c) c.structs c.locals d x (expr_code (first_depth c) c.structs c.locals (suc d) y (back_tail (first_depth c) c.structs d target t rest))) → Fit c f scope r s m → s.world.meter.turns ≤ c.level → Follows c d (Pointer target) heads rest f scope r s m K
      → EndsSo c (finish (run_by (λ v w. move_by c.structs target t w v) scope s) K) p r s.world m
  unfolding opens
  moves_lead d rest heads p f scope r s m K at fit low next =
      let tail : List CodeItem = back_tail (first_depth c) c.structs d target t rest in
      let run : Value → Run Value = (λ v t1. and_then (eval c.structs c.locals c.calls scope y t1) (λ w. move_by c.structs target t w v)) in
      bound_run c found (eval c.structs c.locals c.calls scope x s) run K p r s.world m
      (hx.by d (expr_code (first_depth c) c.structs c.locals (suc d) y tail) heads p f scope r s m (λ v t1. finish (run v t1) K) at fit low
      (λ q v g t1 q1 m1 at1 aft fit1 kept held stands.
      bound_run c found (eval c.structs c.locals c.calls scope y t1) (λ w. move_by c.structs target t w v) K q q1 t1.world m1
      (hy.by (suc d) tail heads q g scope q1 t1 m1 (λ w u. finish (move_by c.structs target t w v u) K) at1 fit1 (omega (arith, aft.turned, low))
      (λ q2 w h u q3 m2 at2 aft2 fit2 kept2 held2 stands2.
      let moves : ℕ → Run Value = (λ k. move_elements w (value t k *ℤ pos size)) in
      let rel : IsValueOf h w (q3 (address_register (first_depth c) (suc d))) = subst (λ z. IsInRegister h z w (q3 (value_register (first_depth c) (suc d) z))) ey stands2 in
      bound_run c found (use_number v u) moves K q2 q3 u.world m2
      (number_meets c.rooms c.functions v u (λ k u1. finish (moves k u1) K) _ (λ k is.
      let word1 = word_in g (first_depth c) d (type_of x) t v k q1 ex is held stands in
      let word2 : WordIn (first_depth c) d t k q3 = record { is_one = word1.is_one; stands = kept_reads d (register_type (plain_of t)) (omega arith) kept2 ∙ word1.stands } in
      known_meets c.rooms c.functions (move_reason u.world.outer.memory w) (element_plus u.world.outer.memory w (value t k *ℤ pos size)) u K _ (λ result e.
      let moved = moved_by u.world.outer.memory w (value t k *ℤ pos size) result e in
      moved_there c found rest heads h scope u m2 d t k size w result q2 q3 le moved at2 fit2 rel word2
      (λ q4 r4 at4 fit4 kept4 rel4.
      next q4 result h u r4 m2 at4 (after_on aft aft2) fit4 (kept_on (omega arith) (kept_on (omega arith) kept kept2) kept4) (moved_held u.world.outer.memory w result (value t k *ℤ pos size) target moved.moved) rel4))))))))

  pub sums : ExprMeets c (Binary (Pointer target) b.Add x y)
  unfolding opens
  sums = record {
    by = λ d rest heads p f scope r s m K at fit low next.
        let code_e : binary_code (first_depth c) c.structs b.Add d (Pointer target) (type_of x) (type_of y) rest ≡ back_tail (first_depth c) c.structs d target t rest =
        ap (λ z. binary_code (first_depth c) c.structs b.Add d (Pointer target) z (type_of y) rest) ex ∙ ap (λ z. binary_code (first_depth c) c.structs b.Add d (Pointer target) (plain_of t) z rest) ey ∙ sum_code (first_depth c) c.structs d target t rest in
        meets_same c.rooms c.functions
        (ap (λ z. finish (run_by (λ v w. apply_binary c.structs b.Add z (type_of y) v w) scope s) K) ex ∙ ap (λ z. finish (run_by (λ v w. apply_binary c.structs b.Add (plain_of t) z v w) scope s) K) ey
        ∙ ap (λ z. finish (run_by z scope s) K) (sum_is c.structs target t))
        (moves_lead d rest heads p f scope r s m K (subst (λ z. Stands c heads p (expr_code (first_depth c) c.structs c.locals d x (expr_code (first_depth c) c.structs c.locals (suc d) y z))) code_e at) fit low next);
  }

  element_code_is : (d : ℕ) (rest : List CodeItem) → element_code (first_depth c) c.structs d (type_of x) (type_of y) rest ≡ back_tail (first_depth c) c.structs d target t rest
  element_code_is d rest = ap (λ z. element_code (first_depth c) c.structs d z (type_of y) rest) ex ∙ ap (λ z. element_code (first_depth c) c.structs d (plain_of t) z rest) ey ∙ element_code_by (first_depth c) c.structs d target t rest

  element_run : (scope : Scope) (s : CallState) → run_by (element_pointer c.structs (type_of x) (type_of y)) scope s ≡ run_by (λ v w. move_by c.structs target t w v) scope s
  element_run scope s =
      ap (λ z. run_by (λ v w. element_pointer c.structs z (type_of y) v w) scope s) ex ∙ ap (λ z. run_by (λ v w. element_pointer c.structs (plain_of t) z v w) scope s) ey ∙ ap (λ z. run_by z scope s) (element_is c.structs target t)

  pub elements : (ty : PlainType) → HasWholeIntegers ty → ExprMeets c (Index ty x y)
  unfolding opens
  elements ty whole = record {
    by = λ d rest heads p f scope r s m K at fit low next.
        let K1 : Value → CallState → CodeObservation = (λ v u. finish (read_at ty v u) K) in
        bound_run c found (run_by (element_pointer c.structs (type_of x) (type_of y)) scope s) (read_at ty) K p r s.world m
        (meets_same c.rooms c.functions (ap (λ z. finish z K1) (element_run scope s))
        (moves_lead d (load_code (first_depth c) d ty 0 rest) heads p f scope r s m K1
        (subst (λ z. Stands c heads p (expr_code (first_depth c) c.structs c.locals d x (expr_code (first_depth c) c.structs c.locals (suc d) y z))) (element_code_is d (load_code (first_depth c) d ty 0 rest)) at) fit low
        (λ q v g u q1 m1 at1 aft fit1 kept held rel.
        load_on c found d 0 rest heads f scope r s m K q v v g u q1 m1 aft fit1 kept (held_pointer target Void v held) rel (omega arith) (inl (refl, refl)) ty whole next at1)));
  }

  pub element_places : (ty : PlainType) → PlaceMeets c (Index ty x y)
  unfolding opens
  element_places ty = record {
    by = λ d plus rest heads p f scope r s m K small fits at fit low next.
        let K1 : Value → CallState → CodeObservation = (λ v u. K (obj.At v) u) in
        bound_run c found (run_by (element_pointer c.structs (type_of x) (type_of y)) scope s) (λ v. pure (obj.At v)) K p r s.world m
        (meets_same c.rooms c.functions (ap (λ z. finish z K1) (element_run scope s))
        (moves_lead d rest heads p f scope r s m K1 (subst (λ z. Stands c heads p (expr_code (first_depth c) c.structs c.locals d x (expr_code (first_depth c) c.structs c.locals (suc d) y z))) (element_code_is d rest) at) fit low
        (λ q v g u q1 m1 at1 aft fit1 kept held rel. next q v v g u q1 m1 at1 aft fit1 kept (held_pointer target Void v held) rel small (own_base u.world.outer.memory v plus))));
  }

pub pointers_above_are_moved : PointersAboveAreMoved
pointers_above_are_moved c found = record {
  sums = λ target t x y le ex ey hx hy. sums c found target t x y le ex ey hx hy;
  elements = λ ty target t x y whole le ex ey hx hy. elements c found target t x y le ex ey hx hy ty whole;
  places = λ ty target t x y le ex ey hx hy. element_places c found target t x y le ex ey hx hy ty;
}
