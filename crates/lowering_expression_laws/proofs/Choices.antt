-- The code of forms with tests: `&&`, `||` and `?:`.
use Rattle.std.proofs.Common.{◌≡◌, ◌⊎◌, ℕ, suc, ◌+◌, ◌-◌, ◌≤◌, List, [], ◌∷◌, Bool, true, false, not, Some, refl, sym, ap, ◌∙◌, subst, arith, inl, inr}
use Rattle.std.specs.Prelude.{◌==◌, if◌then◌else◌, slice_get}
use Rattle.mem_model.specs.declared.value.Value.{Value}
use Rattle.mem_model.specs.declared.value.Value.TheVariants.{Word, Address, Unset}
use Rattle.mem_model.specs.Memory.{Memory}
use Rattle.mem_model.specs.World.{World, outer_with_memory}
use Rattle.mem_model.specs.Ending.{Evaluation}
use Rattle.mem_model.specs.Pointers as pointers
use Rattle.mem_model.specs.Related.{Names, IsValueOf, IsMemoryOf}
use Rattle.machine_model.specs.Machine.{Config}
use Rattle.bk_arithmetic.specs.declared.integer_type.IntegerType.{IntegerType}
use Rattle.bk_arithmetic.specs.declared.integer_type.IntegerType.TheVariants as i
use Rattle.bk_arithmetic.specs.Operations.{truth}
use Rattle.bk_arithmetic.specs.Words.{is_word}
use Rattle.c_tree.specs.declared.expressions.BinaryOp.TheVariants as b
use Rattle.c_typed_tree.specs.Types.{PlainType, Pointer}
use Rattle.c_typed_tree.specs.Expressions.{Expr, Binary, Conditional, type_of}
use Rattle.c_semantics.specs.Reasons.{UsesDeadObject}
use Rattle.c_semantics.specs.Runs.{CallState, Run, and_then, pure, undefined_behaviour}
use Rattle.c_semantics.specs.Objects.{Scope}
use Rattle.c_semantics.specs.Operators.{test, pure_truth}
use Rattle.c_semantics.specs.Evaluates.{eval, choose}
use Rattle.suifvm_ir.specs.declared.insn.VmBranchOp.{VmBranchOp}
use Rattle.suifvm_ir.specs.declared.insn.VmBranchOp.TheVariants.{IfTrue, IfFalse}
use Rattle.suifvm_ir.specs.declared.insn.VmInsn.TheVariants as n
use Rattle.suifvm_meaning.specs.declared.answer.Answer.TheVariants.{Gives, Fails}
use Rattle.suifvm_meaning.specs.Operations as vm
use Rattle.suifvm_meaning.specs.Effect.{writes, is_branch_taken}
use Rattle.suifvm_meaning.specs.Behave.{Registers, set_register}
use Rattle.lowering_code.specs.declared.item.CodeItem.{CodeItem}
use Rattle.lowering_code.specs.declared.item.CodeItem.TheVariants.{Start, Jump}
use Rattle.lowering_code.specs.Items as items
use Rattle.lowering_code.specs.Registers.{register_type, value_register}
use Rattle.lowering_code.specs.Expressions.{plain_of, constant_code, branch_by_value_code, expr_code}
use Rattle.lowering_states.specs.Places.{CodePlace, next_place, next_block, start_of_block}
use Rattle.lowering_states.specs.Runs.{CodeObservation, finish, Meets}
use Rattle.lowering_states.specs.model.Opens.{opens}
use Rattle.lowering_states.specs.States.{IsHeld, IsInRegister, KeepsLower}
use Rattle.lowering_states.proofs.Steps.{meets_anything, meets_same, fall, jump, branch_taken, branch_passed}
use Rattle.lowering_states.proofs.States.{kept_on, kept_temporary, value_at, after_on, fits_temporary}
use Rattle.lowering_states.proofs.LoweringValues.Accesses.{memories_correspond}
use Rattle.lowering_states.specs.lowering_expression_places.Behind.{Somewhere}
use Rattle.lowering_states.proofs.LoweringExpressionPlaces.Behind.{at_plain, at_start, at_jump, at_branch, left_expr}
use Rattle.lowering_expression_laws.specs.Parts.{Setting, first_depth, EndsSo, Stands, Fit, Aft, Follows, ExprMeets}
use Rattle.lowering_expression_laws.specs.Laws.{IsScalarType}
use Rattle.lowering_expression_laws.proofs.Forms.{held_word, word_held, value_of_word, insn_on, bound_run}

-- ---- tests

-- what a test of a value gives, where it is defined
abbrev pub TestIs : Memory → Value → Bool → Type 0
TestIs m (Word k) x = x ≡ not (k == 0)
TestIs m (Address p) x = (pointers.is_live m p ≡ true) × (x ≡ true)
TestIs m Unset x = ⊥

integer_holds : (f : Names) (m n : Memory) (t : IntegerType) (v w : Value) (x : Bool) → IsMemoryOf f m n → IsHeld (plain_of t) v → IsValueOf f v w → TestIs m v x → vm.value_holds n (register_type (plain_of t)) w ≡ Some x
integer_holds f m n t (Word k) w x h held rel is = ap (vm.value_holds n (register_type (plain_of t))) rel ∙ (memories_correspond f m n h).0.words t k (word_held t k held) ∙ ap Some (sym is)
integer_holds f m n t (Address p) w x h held rel is = absurd held
integer_holds f m n t Unset w x h held rel is = absurd is

pointer_holds : (f : Names) (m n : Memory) (target : PlainType) (v w : Value) (x : Bool) → IsMemoryOf f m n → IsHeld (Pointer target) v → IsValueOf f v w → TestIs m v x → vm.value_holds n (register_type (Pointer target)) w ≡ Some x
pointer_holds f m n target (Word k) w x h held rel is =
    ap (vm.value_holds n (register_type (Pointer target))) (rel ∙ ap Word held) ∙ (memories_correspond f m n h).0.null ∙ ap Some (ap (λ z. not (z == 0)) (sym held) ∙ sym is)
pointer_holds f m n target (Address p) w x h held rel is = (memories_correspond f m n h).0.pointers p w is.0 rel ∙ ap Some (sym is.1)
pointer_holds f m n target Unset w x h held rel is = absurd is

pub holds_there : (f : Names) (m n : Memory) (ty : PlainType) (v w : Value) (x : Bool) → IsScalarType ty → IsMemoryOf f m n → IsHeld ty v → IsInRegister f ty v w → TestIs m v x → vm.value_holds n (register_type ty) w ≡ Some x
holds_there f m n ty v w x (inl t) h held rel is =
    subst (λ z. vm.value_holds n (register_type z) w ≡ Some x) (sym t.1) (integer_holds f m n t.0 v w x h (subst (λ z. IsHeld z v) t.1 held) (subst (λ z. IsInRegister f z v w) t.1 rel) is)
holds_there f m n ty v w x (inr t) h held rel is =
    subst (λ z. vm.value_holds n (register_type z) w ≡ Some x) (sym t.1) (pointer_holds f m n t.0 v w x h (subst (λ z. IsHeld z v) t.1 held) (subst (λ z. IsInRegister f z v w) t.1 rel) is)

either : (x stop : Bool) → (x ≡ stop) ⊎ (x ≡ not stop)
either true true = inl refl
either true false = inr refl
either false true = inr refl
either false false = inl refl

truth_word : (x : Bool) → is_word i.Int (truth x) ≡ true
truth_word true = refl
truth_word false = refl

module _ (c : Setting) (found : slice_get c.functions c.number ≡ Some c.code) where
  abbrev L : ℕ
  L = first_depth c

  abbrev T : PlainType
  T = plain_of i.Int

  pub test_meets : (v : Value) (s : CallState) (K : Bool → CallState → CodeObservation) (k : Config Registers) → ((x : Bool) → TestIs s.world.outer.memory v x → Meets c.rooms c.functions (K x s) k) → Meets c.rooms c.functions (finish (test v s) K) k
  unfolding opens
  test_meets (Word k) s K cf h = h (not (k == 0)) refl
  test_meets (Address p) s K cf h = (elim (pointers.is_live s.world.outer.memory p) as (λ x. pointers.is_live s.world.outer.memory p ≡ x → Meets c.rooms c.functions (finish (if◌then◌else◌ {A = Run Bool} x (pure true) (undefined_behaviour UsesDeadObject) s) K) cf) [
    | true ↦ λ e. h true (e, refl)
    | false ↦ λ e. meets_anything c.rooms c.functions refl
  ]) refl
  test_meets Unset s K cf h = meets_anything c.rooms c.functions refl

  -- to the block that begins with code which stands there
  pub at_block : {o : CodeObservation} (r : Registers) (w : World) (m : Memory) (x y : ℕ) → x ≡ y → EndsSo c o (start_of_block x) r w m → EndsSo c o (start_of_block y) r w m
  at_block {o = o} r w m x y e h = subst (λ z. EndsSo c o (start_of_block z) r w m) e h

  -- a truth value comes into the register of `int` at the depth
  constant_on : {o : CodeObservation} (d : ℕ) (x : Bool) (rest : List CodeItem) (heads : List ℕ) (q : CodePlace) (r : Registers) (w : World) (m : Memory) → Stands c heads q (constant_code L d T (truth x) rest)
      → EndsSo c o (next_place q) (set_register (value_register L d T) (Word (truth x)) r) w m → EndsSo c o q r w m
  constant_on d x rest heads q r w m at next =
      insn_on c found (n.LoadConstant (register_type T) (value_register L d T) (truth x)) q r w m (Word (truth x) ∷ []) at.has.0 refl
      (ap (λ z. writes (if z then Gives (Word (truth x)) else Fails) (outer_with_memory w.outer m)) (value_of_word i.Int (truth x) (truth_word x))) next

  -- a branch by a value that was tested
  module _ (op : VmBranchOp) (d : ℕ) (ty : PlainType) (scalar : IsScalarType ty) (name : ℕ) (rest : List CodeItem) (heads : List ℕ) (q : CodePlace) (f : Names) (scope : Scope) (r : Registers) (s : CallState) (m : Memory) (v : Value) (x : Bool)
      (at : Stands c heads q (branch_by_value_code L op d ty name rest)) (fit : Fit c f scope r s m) (held : IsHeld ty v) (stands : IsInRegister f ty v (r (value_register L d ty))) (is : TestIs s.world.outer.memory v x) where
    holds : vm.value_holds m (register_type ty) (r (value_register L d ty)) ≡ Some x
    holds = holds_there f s.world.outer.memory m ty v (r (value_register L d ty)) x scalar fit.memory held stands is

    pub goes : {o : CodeObservation} (block : ℕ) → block + name ≡ c.last → is_branch_taken op x ≡ true → EndsSo c o (start_of_block block) r s.world m → EndsSo c o q r s.world m
    goes block e taken next =
        branch_taken c.rooms c.functions c.number c.code found c.own c.waiting op (register_type ty) (value_register L d ty) (c.last - name) x q r s.world m at.has.0 holds taken
        (at_block r s.world m block (c.last - name) (omega (arith, e)) next)

    pub passes : {o : CodeObservation} → is_branch_taken op x ≡ false → EndsSo c o (next_block q) r s.world m → EndsSo c o q r s.world m
    passes passed next = branch_passed c.rooms c.functions c.number c.code found c.own c.waiting op (register_type ty) (value_register L d ty) (c.last - name) x q r s.world m at.has.0 holds passed at.has.1 next

  module _ (op : VmBranchOp) (stop : Bool) (taken : is_branch_taken op stop ≡ true) (passed : is_branch_taken op (not stop) ≡ false) (x y : Expr) (sx : IsScalarType (type_of x)) (sy : IsScalarType (type_of y)) (hx : ExprMeets c x) (hy : ExprMeets c y) where
    module _ (d : ℕ) (rest : List CodeItem) (heads : List ℕ) where
      abbrev stops : List CodeItem
      stops = constant_code L d T (truth stop) (Start ∷ rest)

      abbrev ends : List CodeItem
      ends = branch_by_value_code L op d (type_of y) (items.block_total stops) (constant_code L d T (truth (not stop)) (Jump (items.block_total rest) ∷ stops))

      -- where the code for the value that ends the evaluation stands, and what comes behind
      stops_at : (q : CodePlace) → Stands c heads q ends → Stands c heads (next_block (next_place (next_block q))) stops
      stops_at q at = at_jump c.code.blocks c.last c.end (items.block_total rest) (at_plain c.code.blocks c.last c.end _ (at_branch c.code.blocks c.last c.end op _ _ _ at))

      module _ (f : Names) (scope : Scope) (r : Registers) (s : CallState) (m : Memory) (K : Value → CallState → CodeObservation) (next : Follows c d T heads rest f scope r s m K) where
        -- the value comes into the register, and the code goes on behind
        value_meets : (z : Bool) (q : CodePlace) (g : Names) (t : CallState) (q1 : Registers) (m1 : Memory) → Stands c heads q rest → Aft c f s m g t m1 → Fit c g scope q1 t m1 → KeepsLower L d r q1
            → EndsSo c (K (Word (truth z)) t) q (set_register (value_register L d T) (Word (truth z)) q1) t.world m1
        value_meets z q g t q1 m1 at aft fit kept =
            next q (Word (truth z)) g t (set_register (value_register L d T) (Word (truth z)) q1) m1 at aft (fits_temporary d (register_type T) (Word (truth z)) fit)
            (kept_temporary d (register_type T) (Word (truth z)) (omega arith) kept) (held_word i.Int (truth z) (truth_word z)) (value_at g (Word (truth z)) (Word (truth z)) q1 (value_register L d T) refl)

        stop_meets : (q : CodePlace) (g : Names) (t : CallState) (q1 : Registers) (m1 : Memory) → Stands c heads q stops → Aft c f s m g t m1 → Fit c g scope q1 t m1 → KeepsLower L d r q1 → EndsSo c (K (Word (truth stop)) t) q q1 t.world m1
        stop_meets q g t q1 m1 at aft fit kept =
            let at2 = at_plain c.code.blocks c.last c.end _ at in
            constant_on d stop (Start ∷ rest) heads q q1 t.world m1 at
            (fall c.rooms c.functions c.number c.code found c.own c.waiting (next_place q) (set_register (value_register L d T) (Word (truth stop)) q1) t.world m1 at2.has.0
            (value_meets stop (next_block (next_place q)) g t q1 m1 (at_start c.code.blocks c.last c.end at2) aft fit kept))

        end_meets : (q : CodePlace) (g : Names) (t : CallState) (q1 : Registers) (m1 : Memory) → Stands c heads q (constant_code L d T (truth (not stop)) (Jump (items.block_total rest) ∷ stops)) → Aft c f s m g t m1 → Fit c g scope q1 t m1 → KeepsLower L d r q1
            → EndsSo c (K (Word (truth (not stop))) t) q q1 t.world m1
        end_meets q g t q1 m1 at aft fit kept =
            let at2 = at_plain c.code.blocks c.last c.end _ at in
            let at3 = at_jump c.code.blocks c.last c.end (items.block_total rest) at2 in
            let at4 = at_start c.code.blocks c.last c.end (at_plain c.code.blocks c.last c.end _ at3) in
            let block : ℕ = suc (suc q.block) in
            constant_on d (not stop) (Jump (items.block_total rest) ∷ stops) heads q q1 t.world m1 at
            (jump c.rooms c.functions c.number c.code found c.own c.waiting (c.last - items.block_total rest) (next_place q) (set_register (value_register L d T) (Word (truth (not stop))) q1) t.world m1 at2.has.0
            (at_block (set_register (value_register L d T) (Word (truth (not stop))) q1) t.world m1 block (c.last - items.block_total rest) (omega (arith, at4.size))
            (value_meets (not stop) (start_of_block block) g t q1 m1 at4 aft fit kept)))

        -- the second operand
        second : (q : CodePlace) (g : Names) (t : CallState) (q1 : Registers) (m1 : Memory) → Stands c heads q (expr_code L c.structs c.locals d y ends) → Aft c f s m g t m1 → Fit c g scope q1 t m1 → KeepsLower L d r q1 → t.world.meter.turns ≤ c.level
            → EndsSo c (finish (and_then (and_then (eval c.structs c.locals c.calls scope y t) test) pure_truth) K) q q1 t.world m1
        unfolding opens
        second q g t q1 m1 at aft fit kept low =
            bound_run c found (and_then (eval c.structs c.locals c.calls scope y t) test) pure_truth K q q1 t.world m1
            (bound_run c found (eval c.structs c.locals c.calls scope y t) test (λ z u. K (Word (truth z)) u) q q1 t.world m1
            (hy.by d ends heads q g scope q1 t m1 (λ v u. finish (test v u) (λ z u. K (Word (truth z)) u)) at fit low
            (λ q2 v h u q3 m2 at2 aft2 fit2 kept2 held stands.
            test_meets v u (λ z u. K (Word (truth z)) u) _ (λ z is.
            by_test q2 h u q3 m2 v z at2 (after_on aft aft2) fit2 (kept_on (omega arith) kept kept2) held stands is (either z stop)))))
          where
            by_test : (q2 : CodePlace) (h : Names) (u : CallState) (q3 : Registers) (m2 : Memory) (v : Value) (z : Bool) → Stands c heads q2 ends → Aft c f s m h u m2 → Fit c h scope q3 u m2 → KeepsLower L d r q3 → IsHeld (type_of y) v
                → IsInRegister h (type_of y) v (q3 (value_register L d (type_of y))) → TestIs u.world.outer.memory v z → (z ≡ stop) ⊎ (z ≡ not stop) → EndsSo c (K (Word (truth z)) u) q2 q3 u.world m2
            by_test q2 h u q3 m2 v z at2 aft2 fit2 kept2 held stands is (inl e) =
                let there = stops_at q2 at2 in
                goes op d (type_of y) sy (items.block_total stops) _ heads q2 h scope q3 u m2 v z at2 fit2 held stands is (suc (suc q2.block)) there.size (ap (is_branch_taken op) e ∙ taken)
                (subst (λ k. EndsSo c (K (Word (truth k)) u) (start_of_block (suc (suc q2.block))) q3 u.world m2) (sym e) (stop_meets (start_of_block (suc (suc q2.block))) h u q3 m2 there aft2 fit2 kept2))
            by_test q2 h u q3 m2 v z at2 aft2 fit2 kept2 held stands is (inr e) =
                passes op d (type_of y) sy (items.block_total stops) _ heads q2 h scope q3 u m2 v z at2 fit2 held stands is (ap (is_branch_taken op) e ∙ passed)
                (subst (λ k. EndsSo c (K (Word (truth k)) u) (next_block q2) q3 u.world m2) (sym e) (end_meets (next_block q2) h u q3 m2 (at_branch c.code.blocks c.last c.end op _ _ _ at2) aft2 fit2 kept2))

        -- both
        first : (p : CodePlace) (run : Bool → Run Value) → ((t : CallState) → finish (run stop t) K ≡ K (Word (truth stop)) t)
            → ((t : CallState) → finish (run (not stop) t) K ≡ finish (and_then (and_then (eval c.structs c.locals c.calls scope y t) test) pure_truth) K)
            → Stands c heads p (expr_code L c.structs c.locals d x (branch_by_value_code L op d (type_of x) (items.block_total stops) (expr_code L c.structs c.locals d y ends))) → Fit c f scope r s m → s.world.meter.turns ≤ c.level
            → EndsSo c (finish (and_then (and_then (eval c.structs c.locals c.calls scope x s) test) run) K) p r s.world m
        unfolding opens
        first p run at_stop at_go at fit low =
            bound_run c found (and_then (eval c.structs c.locals c.calls scope x s) test) run K p r s.world m
            (bound_run c found (eval c.structs c.locals c.calls scope x s) test (λ z t. finish (run z t) K) p r s.world m
            (hx.by d (branch_by_value_code L op d (type_of x) (items.block_total stops) (expr_code L c.structs c.locals d y ends)) heads p f scope r s m (λ v t. finish (test v t) (λ z t. finish (run z t) K)) at fit low
            (λ q v g t q1 m1 at1 aft fit1 kept held stands.
            test_meets v t (λ z t. finish (run z t) K) _ (λ z is. by_test q g t q1 m1 v z at1 aft fit1 kept held stands is (either z stop)))))
          where
            by_test : (q : CodePlace) (g : Names) (t : CallState) (q1 : Registers) (m1 : Memory) (v : Value) (z : Bool) → Stands c heads q (branch_by_value_code L op d (type_of x) (items.block_total stops) (expr_code L c.structs c.locals d y ends)) → Aft c f s m g t m1 → Fit c g scope q1 t m1 → KeepsLower L d r q1
                → IsHeld (type_of x) v → IsInRegister g (type_of x) v (q1 (value_register L d (type_of x))) → TestIs t.world.outer.memory v z → (z ≡ stop) ⊎ (z ≡ not stop) → EndsSo c (finish (run z t) K) q q1 t.world m1
            by_test q g t q1 m1 v z at1 aft fit1 kept held stands is (inl e) =
                let behind : Somewhere c.code.blocks c.last c.end heads ends = left_expr c.code.blocks c.last c.end L c.structs c.locals y d heads ends (record { place = next_block q; at = at_branch c.code.blocks c.last c.end op _ _ _ at1 }) in
                let there = stops_at behind.place behind.at in
                let block : ℕ = suc (suc behind.place.block) in
                goes op d (type_of x) sx (items.block_total stops) _ heads q g scope q1 t m1 v z at1 fit1 held stands is block there.size (ap (is_branch_taken op) e ∙ taken)
                (meets_same c.rooms c.functions (ap (λ k. finish (run k t) K) e ∙ at_stop t) (stop_meets (start_of_block block) g t q1 m1 there aft fit1 kept))
            by_test q g t q1 m1 v z at1 aft fit1 kept held stands is (inr e) =
                passes op d (type_of x) sx (items.block_total stops) _ heads q g scope q1 t m1 v z at1 fit1 held stands is (ap (is_branch_taken op) e ∙ passed)
                (meets_same c.rooms c.functions (ap (λ k. finish (run k t) K) e ∙ at_go t)
                (second (next_block q) g t q1 m1 (at_branch c.code.blocks c.last c.end op _ _ _ at1) aft fit1 kept (omega (arith, aft.turned, low))))

  pub conjunctions : (x y : Expr) → IsScalarType (type_of x) → IsScalarType (type_of y) → ExprMeets c x → ExprMeets c y → ExprMeets c (Binary T b.LogicalAnd x y)
  unfolding opens
  conjunctions x y sx sy hx hy = record {
    by = λ d rest heads p f scope r s m K at fit low next.
        first IfFalse false refl refl x y sx sy hx hy d rest heads f scope r s m K next p
        (choose (λ t. and_then (and_then (eval c.structs c.locals c.calls scope y t) test) pure_truth) (pure_truth false)) (λ t. refl) (λ t. refl) at fit low;
  }

  pub disjunctions : (x y : Expr) → IsScalarType (type_of x) → IsScalarType (type_of y) → ExprMeets c x → ExprMeets c y → ExprMeets c (Binary T b.LogicalOr x y)
  unfolding opens
  disjunctions x y sx sy hx hy = record {
    by = λ d rest heads p f scope r s m K at fit low next.
        first IfTrue true refl refl x y sx sy hx hy d rest heads f scope r s m K next p
        (choose (pure_truth true) (λ t. and_then (and_then (eval c.structs c.locals c.calls scope y t) test) pure_truth)) (λ t. refl) (λ t. refl) at fit low;
  }

  -- ---- `?:`

  module _ (ty : PlainType) (x y z : Expr) (sx : IsScalarType (type_of x)) (ey : type_of y ≡ ty) (ez : type_of z ≡ ty) (hx : ExprMeets c x) (hy : ExprMeets c y) (hz : ExprMeets c z) where
    module _ (d : ℕ) (rest : List CodeItem) (heads : List ℕ) (f : Names) (scope : Scope) (r : Registers) (s : CallState) (m : Memory) (K : Value → CallState → CodeObservation) (next : Follows c d ty heads rest f scope r s m K) where
      abbrev fails : List CodeItem
      fails = expr_code L c.structs c.locals d z (Start ∷ rest)

      abbrev value : Expr → CallState → Evaluation Value CallState
      value e t = eval c.structs c.locals c.calls scope e t

      arm_fails : (q : CodePlace) (g : Names) (t : CallState) (q1 : Registers) (m1 : Memory) → Stands c heads q fails → Aft c f s m g t m1 → Fit c g scope q1 t m1 → KeepsLower L d r q1 → t.world.meter.turns ≤ c.level → EndsSo c (finish (value z t) K) q q1 t.world m1
      arm_fails q g t q1 m1 at aft fit kept low =
          hz.by d (Start ∷ rest) heads q g scope q1 t m1 K at fit low
          (λ q2 v h u q3 m2 at2 aft2 fit2 kept2 held stands.
          fall c.rooms c.functions c.number c.code found c.own c.waiting q2 q3 u.world m2 at2.has.0
          (next (next_block q2) v h u q3 m2 (at_start c.code.blocks c.last c.end at2) (after_on aft aft2) fit2 (kept_on (omega arith) kept kept2)
          (subst (λ k. IsHeld k v) ez held) (subst (λ k. IsInRegister h k v (q3 (value_register L d k))) ez stands)))

      arm_holds : (q : CodePlace) (g : Names) (t : CallState) (q1 : Registers) (m1 : Memory) → Stands c heads q (expr_code L c.structs c.locals d y (Jump (items.block_total rest) ∷ fails)) → Aft c f s m g t m1 → Fit c g scope q1 t m1 → KeepsLower L d r q1
          → t.world.meter.turns ≤ c.level → EndsSo c (finish (value y t) K) q q1 t.world m1
      arm_holds q g t q1 m1 at aft fit kept low =
          hy.by d (Jump (items.block_total rest) ∷ fails) heads q g scope q1 t m1 K at fit low
          (λ q2 v h u q3 m2 at2 aft2 fit2 kept2 held stands.
          let behind : Somewhere c.code.blocks c.last c.end heads (Start ∷ rest) = left_expr c.code.blocks c.last c.end L c.structs c.locals z d heads (Start ∷ rest) (record { place = next_block q2; at = at_jump c.code.blocks c.last c.end (items.block_total rest) at2 }) in
          let there = at_start c.code.blocks c.last c.end behind.at in
          let block : ℕ = suc behind.place.block in
          jump c.rooms c.functions c.number c.code found c.own c.waiting (c.last - items.block_total rest) q2 q3 u.world m2 at2.has.0
          (at_block q3 u.world m2 block (c.last - items.block_total rest) (omega (arith, there.size))
          (next (start_of_block block) v h u q3 m2 there (after_on aft aft2) fit2 (kept_on (omega arith) kept kept2)
          (subst (λ k. IsHeld k v) ey held) (subst (λ k. IsInRegister h k v (q3 (value_register L d k))) ey stands))))

      choice_meets : (q : CodePlace) (g : Names) (t : CallState) (q1 : Registers) (m1 : Memory) (v : Value) (k : Bool) → Stands c heads q (branch_by_value_code L IfFalse d (type_of x) (items.block_total fails) (expr_code L c.structs c.locals d y (Jump (items.block_total rest) ∷ fails)))
          → Aft c f s m g t m1 → Fit c g scope q1 t m1 → KeepsLower L d r q1 → IsHeld (type_of x) v → IsInRegister g (type_of x) v (q1 (value_register L d (type_of x))) → TestIs t.world.outer.memory v k → t.world.meter.turns ≤ c.level
          → EndsSo c (finish (choose (value y) (value z) k t) K) q q1 t.world m1
      choice_meets q g t q1 m1 v true at aft fit kept held stands is low =
          passes IfFalse d (type_of x) sx (items.block_total fails) _ heads q g scope q1 t m1 v true at fit held stands is refl
          (arm_holds (next_block q) g t q1 m1 (at_branch c.code.blocks c.last c.end IfFalse _ _ _ at) aft fit kept low)
      choice_meets q g t q1 m1 v false at aft fit kept held stands is low =
          let behind : Somewhere c.code.blocks c.last c.end heads (Jump (items.block_total rest) ∷ fails) = left_expr c.code.blocks c.last c.end L c.structs c.locals y d heads (Jump (items.block_total rest) ∷ fails) (record { place = next_block q; at = at_branch c.code.blocks c.last c.end IfFalse _ _ _ at }) in
          let there = at_jump c.code.blocks c.last c.end (items.block_total rest) behind.at in
          let block : ℕ = suc behind.place.block in
          goes IfFalse d (type_of x) sx (items.block_total fails) _ heads q g scope q1 t m1 v false at fit held stands is block there.size refl
          (arm_fails (start_of_block block) g t q1 m1 there aft fit kept low)

    pub choices : ExprMeets c (Conditional ty x y z)
    unfolding opens
    choices = record {
      by = λ d rest heads p f scope r s m K at fit low next.
          let run : Bool → Run Value = choose (eval c.structs c.locals c.calls scope y) (eval c.structs c.locals c.calls scope z) in
          bound_run c found (and_then (eval c.structs c.locals c.calls scope x s) test) run K p r s.world m
          (bound_run c found (eval c.structs c.locals c.calls scope x s) test (λ k t. finish (run k t) K) p r s.world m
          (hx.by d _ heads p f scope r s m (λ v t. finish (test v t) (λ k t1. finish (run k t1) K)) at fit low
          (λ q v g t q1 m1 at1 aft fit1 kept held stands.
          test_meets v t (λ k t1. finish (run k t1) K) _ (λ k is.
          choice_meets d rest heads f scope r s m K next q g t q1 m1 v k at1 aft fit1 kept held stands is (omega (arith, aft.turned, low))))));
    }
