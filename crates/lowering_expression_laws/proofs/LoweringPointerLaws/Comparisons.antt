-- The code of comparisons of two pointers.
use Rattle.std.proofs.Common.{◌≡◌, ◌≤◌, ℕ, suc, List, ◌∷◌, [], Bool, true, false, Option, Some, refl, sym, ap, ◌∙◌, subst, arith}
use Rattle.std.specs.Prelude.{not, slice_get}
use Rattle.std.specs.Option.{option_map}
use Rattle.mem_model.specs.declared.value.Value.{Value}
use Rattle.mem_model.specs.declared.value.Value.TheVariants.{Word}
use Rattle.mem_model.specs.Memory.{Memory}
use Rattle.mem_model.specs.Pointers.{pointer_lt, pointer_le, pointer_eq}
use Rattle.mem_model.specs.World.{outer_with_memory}
use Rattle.mem_model.specs.Related.{Names, IsValueOf}
use Rattle.mem_model.proofs.RelatedRows.{values_stay}
use Rattle.mem_model.proofs.RelatedPointers.{answers_correspond}
use Rattle.bk_arithmetic.specs.declared.integer_type.IntegerType.TheVariants as i
use Rattle.bk_arithmetic.specs.Words.{is_word}
use Rattle.bk_arithmetic.specs.Operations.{truth}
use Rattle.c_tree.specs.declared.expressions.BinaryOp.TheVariants as b
use Rattle.c_typed_tree.specs.Types.{PlainType, Pointer}
use Rattle.c_typed_tree.specs.Expressions.{Expr, Binary, type_of}
use Rattle.c_semantics.specs.Reasons.{Reason, ComparesApart, ComparesAtEnd}
use Rattle.c_semantics.specs.Runs.{CallState, Run, and_then, or_undefined}
use Rattle.c_semantics.specs.Objects.{Scope}
use Rattle.c_semantics.specs.Operators.{unless_dead, pure_truth, apply_binary}
use Rattle.c_semantics.specs.Evaluates.{eval}
use Rattle.suifvm_ir.specs.declared.types.VmType.TheVariants.{P64}
use Rattle.suifvm_ir.specs.declared.insn.CompareOp.{CompareOp}
use Rattle.suifvm_ir.specs.declared.insn.CompareOp.TheVariants.{Equal, NotEqual, Less, LessOrEqual}
use Rattle.suifvm_ir.specs.declared.insn.VmInsn.TheVariants as n
use Rattle.suifvm_meaning.specs.Operations as vm
use Rattle.suifvm_meaning.specs.Effect.{writes}
use Rattle.suifvm_meaning.specs.Behave.{Registers, set_register}
use Rattle.lowering_code.specs.declared.item.CodeItem.{CodeItem}
use Rattle.lowering_code.specs.declared.item.CodeItem.TheVariants.{Plain}
use Rattle.lowering_code.specs.Registers.{register_type, value_register, address_register}
use Rattle.lowering_code.specs.Expressions.{plain_of, binary_code, expr_code}
use Rattle.lowering_states.specs.Places.{CodePlace, next_place}
use Rattle.lowering_states.specs.Runs.{CodeObservation, finish}
use Rattle.lowering_states.specs.model.Opens.{opens}
use Rattle.lowering_states.specs.States.{IsInRegister, KeepsLower}
use Rattle.lowering_states.proofs.Steps.{meets_same, known_meets}
use Rattle.lowering_states.proofs.States.{kept_on, kept_reads, kept_temporary, after_on, value_at, fits_temporary}
use Rattle.lowering_states.proofs.LoweringExpressionPlaces.Behind.{at_plain}
use Rattle.lowering_expression_laws.specs.Parts.{Setting, first_depth, EndsSo, Stands, Fit, Aft, Follows, ExprMeets}
use Rattle.lowering_expression_laws.proofs.Forms.{held_word, insn_on, bound_run}
use Rattle.lowering_expression_laws.specs.lowering_pointer_laws.Laws.{PointersAreCompared}

truth_word : (x : Bool) → is_word i.Int (truth x) ≡ true
truth_word true = refl
truth_word false = refl

module _ (c : Setting) (found : slice_get c.functions c.number ≡ Some c.code) (target other : PlainType) (x y : Expr) (ex : type_of x ≡ Pointer target) (ey : type_of y ≡ Pointer other) (hx : ExprMeets c x) (hy : ExprMeets c y) where
  abbrev L : ℕ
  L = first_depth c

  abbrev T : PlainType
  T = plain_of i.Int

  -- two pointers in their registers, at a depth and above it
  pub record Both (d : ℕ) (f : Names) (scope : Scope) (r : Registers) (s : CallState) (m : Memory) (v w : Value) (h : Names) (u : CallState) (q : Registers) (n : Memory) : Type 0 where
    pub aft : Aft c f s m h u n
    pub fit : Fit c h scope q u n
    pub kept : KeepsLower L d r q
    pub left : IsValueOf h v (q (address_register L d))
    pub right : IsValueOf h w (q (address_register L (suc d)))

  abbrev pub run_by : (Value → Value → Run Value) → Scope → Run Value
  run_by done scope = λ s. and_then (eval c.structs c.locals c.calls scope x s) (λ v t1. and_then (eval c.structs c.locals c.calls scope y t1) (done v))

  pub both_lead : (done : Value → Value → Run Value) (d : ℕ) (tail : List CodeItem) (heads : List ℕ) (p : CodePlace) (f : Names) (scope : Scope) (r : Registers) (s : CallState) (m : Memory) (K : Value → CallState → CodeObservation) → Stands c heads p (expr_code L c.structs c.locals d x (expr_code L c.structs c.locals (suc d) y tail)) → Fit c f scope r s m
      → s.world.meter.turns ≤ c.level → ((q : CodePlace) (v w : Value) (h : Names) (u : CallState) (q1 : Registers) (n : Memory) → Stands c heads q tail → Both d f scope r s m v w h u q1 n → EndsSo c (finish (done v w u) K) q q1 u.world n)
      → EndsSo c (finish (run_by done scope s) K) p r s.world m
  unfolding opens
  both_lead done d tail heads p f scope r s m K at fit low next =
      let run : Value → Run Value = (λ v t1. and_then (eval c.structs c.locals c.calls scope y t1) (done v)) in
      bound_run c found (eval c.structs c.locals c.calls scope x s) run K p r s.world m
      (hx.by d (expr_code L c.structs c.locals (suc d) y tail) heads p f scope r s m (λ v t1. finish (run v t1) K) at fit low
      (λ q v g t1 q1 m1 at1 aft fit1 kept held stands.
      bound_run c found (eval c.structs c.locals c.calls scope y t1) (done v) K q q1 t1.world m1
      (hy.by (suc d) tail heads q g scope q1 t1 m1 (λ w u. finish (done v w u) K) at1 fit1 (omega (arith, aft.turned, low))
      (λ q2 w h u q3 m2 at2 aft2 fit2 kept2 held2 stands2.
      let first : IsInRegister g (Pointer target) v (q1 (address_register L d)) = subst (λ z. IsInRegister g z v (q1 (value_register L d z))) ex stands in
      let second : IsInRegister h (Pointer other) w (q3 (address_register L (suc d))) = subst (λ z. IsInRegister h z w (q3 (value_register L (suc d) z))) ey stands2 in
      let same : q3 (address_register L d) ≡ q1 (address_register L d) = kept_reads d P64 (omega arith) kept2 in
      next q2 v w h u q3 m2 at2 (record {
        aft = after_on aft aft2;
        fit = fit2;
        kept = kept_on (omega arith) kept kept2;
        left = subst (λ z. IsValueOf h v z) (sym same) (values_stay g h v (q1 (address_register L d)) aft2.names first);
        right = second;
      })))))

  -- the comparison, where the pointers stand
  compare_leads : (op : CompareOp) (flip : Bool → Bool) (reason : Reason) (answer : Option Bool) (d a1 a2 : ℕ) (rest : List CodeItem) (heads : List ℕ) (f : Names) (scope : Scope) (r : Registers) (s : CallState) (m : Memory) (K : Value → CallState → CodeObservation) (v w : Value) (h : Names) (u : CallState) (q1 : Registers) (n1 : Memory) (q : CodePlace)
      → Stands c heads q (Plain (n.Compare op P64 (value_register L d T) a1 a2) ∷ rest) → Both d f scope r s m v w h u q1 n1 → Follows c d T heads rest f scope r s m K
      → ((z : Bool) → answer ≡ Some z → vm.compare_pointer n1 op (q1 a1) (q1 a2) ≡ Some (flip z))
      → EndsSo c (finish (and_then (or_undefined reason answer u) (λ z. pure_truth (flip z))) K) q q1 u.world n1
  unfolding opens
  compare_leads op flip reason answer d a1 a2 rest heads f scope r s m K v w h u q1 n1 q at both next there =
      let reg : ℕ = value_register L d T in
      bound_run c found (or_undefined reason answer u) (λ z. pure_truth (flip z)) K q q1 u.world n1
      (known_meets c.rooms c.functions reason answer u (λ z u1. K (Word (truth (flip z))) u1) _ (λ z e.
      let k : ℕ = truth (flip z) in
      insn_on c found (n.Compare op P64 reg a1 a2) q q1 u.world n1 (Word k ∷ []) at.has.0 refl
      (ap (λ z1. writes (vm.test_answer z1) (outer_with_memory u.world.outer n1)) (there z e))
      (next (next_place q) (Word k) h u (set_register reg (Word k) q1) n1 (at_plain c.code.blocks c.last c.end _ at) both.aft (fits_temporary d (register_type T) (Word k) both.fit)
      (kept_temporary d (register_type T) (Word k) (omega arith) both.kept) (held_word i.Int k (truth_word (flip z))) (value_at h (Word k) (Word k) q1 reg refl))))

  less : ExprMeets c (Binary T b.Less x y)
  unfolding opens
  less = record {
    by = λ d rest heads p f scope r s m K at fit low next.
        let code_e : binary_code L c.structs b.Less d T (type_of x) (type_of y) rest ≡ Plain (n.Compare Less P64 (value_register L d T) (address_register L d) (address_register L (suc d))) ∷ rest =
        ap (λ z. binary_code L c.structs b.Less d T z (type_of y) rest) ex ∙ ap (λ z. binary_code L c.structs b.Less d T (Pointer target) z rest) ey in
        meets_same c.rooms c.functions (ap (λ z. finish (run_by (λ v w. apply_binary c.structs b.Less z (type_of y) v w) scope s) K) ex ∙ ap (λ z. finish (run_by (λ v w. apply_binary c.structs b.Less (Pointer target) z v w) scope s) K) ey)
        (both_lead (λ v w. apply_binary c.structs b.Less (Pointer target) (Pointer other) v w) d (Plain (n.Compare Less P64 (value_register L d T) (address_register L d) (address_register L (suc d))) ∷ rest) heads p f scope r s m K
        (subst (λ z. Stands c heads p (expr_code L c.structs c.locals d x (expr_code L c.structs c.locals (suc d) y z))) code_e at) fit low
        (λ q v w h u q1 n1 at1 both.
        compare_leads Less (λ z. z) (unless_dead u.world.outer.memory v w ComparesApart) (pointer_lt u.world.outer.memory v w) d (address_register L d) (address_register L (suc d)) rest heads f scope r s m K v w h u q1 n1 q at1 both next
        (λ z e. (answers_correspond h u.world.outer.memory n1 both.fit.memory v w (q1 (address_register L d)) (q1 (address_register L (suc d))) both.left both.right).lt z e)));
  }

  greater : ExprMeets c (Binary T b.Greater x y)
  unfolding opens
  greater = record {
    by = λ d rest heads p f scope r s m K at fit low next.
        let code_e : binary_code L c.structs b.Greater d T (type_of x) (type_of y) rest ≡ Plain (n.Compare Less P64 (value_register L d T) (address_register L (suc d)) (address_register L d)) ∷ rest =
        ap (λ z. binary_code L c.structs b.Greater d T z (type_of y) rest) ex ∙ ap (λ z. binary_code L c.structs b.Greater d T (Pointer target) z rest) ey in
        meets_same c.rooms c.functions (ap (λ z. finish (run_by (λ v w. apply_binary c.structs b.Greater z (type_of y) v w) scope s) K) ex ∙ ap (λ z. finish (run_by (λ v w. apply_binary c.structs b.Greater (Pointer target) z v w) scope s) K) ey)
        (both_lead (λ v w. apply_binary c.structs b.Greater (Pointer target) (Pointer other) v w) d (Plain (n.Compare Less P64 (value_register L d T) (address_register L (suc d)) (address_register L d)) ∷ rest) heads p f scope r s m K
        (subst (λ z. Stands c heads p (expr_code L c.structs c.locals d x (expr_code L c.structs c.locals (suc d) y z))) code_e at) fit low
        (λ q v w h u q1 n1 at1 both.
        compare_leads Less (λ z. z) (unless_dead u.world.outer.memory w v ComparesApart) (pointer_lt u.world.outer.memory w v) d (address_register L (suc d)) (address_register L d) rest heads f scope r s m K v w h u q1 n1 q at1 both next
        (λ z e. (answers_correspond h u.world.outer.memory n1 both.fit.memory w v (q1 (address_register L (suc d))) (q1 (address_register L d)) both.right both.left).lt z e)));
  }

  less_or_equal : ExprMeets c (Binary T b.LessEqual x y)
  unfolding opens
  less_or_equal = record {
    by = λ d rest heads p f scope r s m K at fit low next.
        let code_e : binary_code L c.structs b.LessEqual d T (type_of x) (type_of y) rest ≡ Plain (n.Compare LessOrEqual P64 (value_register L d T) (address_register L d) (address_register L (suc d))) ∷ rest =
        ap (λ z. binary_code L c.structs b.LessEqual d T z (type_of y) rest) ex ∙ ap (λ z. binary_code L c.structs b.LessEqual d T (Pointer target) z rest) ey in
        meets_same c.rooms c.functions (ap (λ z. finish (run_by (λ v w. apply_binary c.structs b.LessEqual z (type_of y) v w) scope s) K) ex ∙ ap (λ z. finish (run_by (λ v w. apply_binary c.structs b.LessEqual (Pointer target) z v w) scope s) K) ey)
        (both_lead (λ v w. apply_binary c.structs b.LessEqual (Pointer target) (Pointer other) v w) d (Plain (n.Compare LessOrEqual P64 (value_register L d T) (address_register L d) (address_register L (suc d))) ∷ rest) heads p f scope r s m K
        (subst (λ z. Stands c heads p (expr_code L c.structs c.locals d x (expr_code L c.structs c.locals (suc d) y z))) code_e at) fit low
        (λ q v w h u q1 n1 at1 both.
        compare_leads LessOrEqual (λ z. z) (unless_dead u.world.outer.memory v w ComparesApart) (pointer_le u.world.outer.memory v w) d (address_register L d) (address_register L (suc d)) rest heads f scope r s m K v w h u q1 n1 q at1 both next
        (λ z e. (answers_correspond h u.world.outer.memory n1 both.fit.memory v w (q1 (address_register L d)) (q1 (address_register L (suc d))) both.left both.right).le z e)));
  }

  greater_or_equal : ExprMeets c (Binary T b.GreaterEqual x y)
  unfolding opens
  greater_or_equal = record {
    by = λ d rest heads p f scope r s m K at fit low next.
        let code_e : binary_code L c.structs b.GreaterEqual d T (type_of x) (type_of y) rest ≡ Plain (n.Compare LessOrEqual P64 (value_register L d T) (address_register L (suc d)) (address_register L d)) ∷ rest =
        ap (λ z. binary_code L c.structs b.GreaterEqual d T z (type_of y) rest) ex ∙ ap (λ z. binary_code L c.structs b.GreaterEqual d T (Pointer target) z rest) ey in
        meets_same c.rooms c.functions (ap (λ z. finish (run_by (λ v w. apply_binary c.structs b.GreaterEqual z (type_of y) v w) scope s) K) ex ∙ ap (λ z. finish (run_by (λ v w. apply_binary c.structs b.GreaterEqual (Pointer target) z v w) scope s) K) ey)
        (both_lead (λ v w. apply_binary c.structs b.GreaterEqual (Pointer target) (Pointer other) v w) d (Plain (n.Compare LessOrEqual P64 (value_register L d T) (address_register L (suc d)) (address_register L d)) ∷ rest) heads p f scope r s m K
        (subst (λ z. Stands c heads p (expr_code L c.structs c.locals d x (expr_code L c.structs c.locals (suc d) y z))) code_e at) fit low
        (λ q v w h u q1 n1 at1 both.
        compare_leads LessOrEqual (λ z. z) (unless_dead u.world.outer.memory w v ComparesApart) (pointer_le u.world.outer.memory w v) d (address_register L (suc d)) (address_register L d) rest heads f scope r s m K v w h u q1 n1 q at1 both next
        (λ z e. (answers_correspond h u.world.outer.memory n1 both.fit.memory w v (q1 (address_register L (suc d))) (q1 (address_register L d)) both.right both.left).le z e)));
  }

  equal : ExprMeets c (Binary T b.Equal x y)
  unfolding opens
  equal = record {
    by = λ d rest heads p f scope r s m K at fit low next.
        let code_e : binary_code L c.structs b.Equal d T (type_of x) (type_of y) rest ≡ Plain (n.Compare Equal P64 (value_register L d T) (address_register L d) (address_register L (suc d))) ∷ rest =
        ap (λ z. binary_code L c.structs b.Equal d T z (type_of y) rest) ex ∙ ap (λ z. binary_code L c.structs b.Equal d T (Pointer target) z rest) ey in
        meets_same c.rooms c.functions (ap (λ z. finish (run_by (λ v w. apply_binary c.structs b.Equal z (type_of y) v w) scope s) K) ex ∙ ap (λ z. finish (run_by (λ v w. apply_binary c.structs b.Equal (Pointer target) z v w) scope s) K) ey)
        (both_lead (λ v w. apply_binary c.structs b.Equal (Pointer target) (Pointer other) v w) d (Plain (n.Compare Equal P64 (value_register L d T) (address_register L d) (address_register L (suc d))) ∷ rest) heads p f scope r s m K
        (subst (λ z. Stands c heads p (expr_code L c.structs c.locals d x (expr_code L c.structs c.locals (suc d) y z))) code_e at) fit low
        (λ q v w h u q1 n1 at1 both.
        compare_leads Equal (λ z. z) (unless_dead u.world.outer.memory v w ComparesAtEnd) (pointer_eq u.world.outer.memory v w) d (address_register L d) (address_register L (suc d)) rest heads f scope r s m K v w h u q1 n1 q at1 both next
        (λ z e. (answers_correspond h u.world.outer.memory n1 both.fit.memory v w (q1 (address_register L d)) (q1 (address_register L (suc d))) both.left both.right).eq z e)));
  }

  not_equal : ExprMeets c (Binary T b.NotEqual x y)
  unfolding opens
  not_equal = record {
    by = λ d rest heads p f scope r s m K at fit low next.
        let code_e : binary_code L c.structs b.NotEqual d T (type_of x) (type_of y) rest ≡ Plain (n.Compare NotEqual P64 (value_register L d T) (address_register L d) (address_register L (suc d))) ∷ rest =
        ap (λ z. binary_code L c.structs b.NotEqual d T z (type_of y) rest) ex ∙ ap (λ z. binary_code L c.structs b.NotEqual d T (Pointer target) z rest) ey in
        meets_same c.rooms c.functions (ap (λ z. finish (run_by (λ v w. apply_binary c.structs b.NotEqual z (type_of y) v w) scope s) K) ex ∙ ap (λ z. finish (run_by (λ v w. apply_binary c.structs b.NotEqual (Pointer target) z v w) scope s) K) ey)
        (both_lead (λ v w. apply_binary c.structs b.NotEqual (Pointer target) (Pointer other) v w) d (Plain (n.Compare NotEqual P64 (value_register L d T) (address_register L d) (address_register L (suc d))) ∷ rest) heads p f scope r s m K
        (subst (λ z. Stands c heads p (expr_code L c.structs c.locals d x (expr_code L c.structs c.locals (suc d) y z))) code_e at) fit low
        (λ q v w h u q1 n1 at1 both.
        compare_leads NotEqual not (unless_dead u.world.outer.memory v w ComparesAtEnd) (pointer_eq u.world.outer.memory v w) d (address_register L d) (address_register L (suc d)) rest heads f scope r s m K v w h u q1 n1 q at1 both next
        (λ z e. ap (option_map not) ((answers_correspond h u.world.outer.memory n1 both.fit.memory v w (q1 (address_register L d)) (q1 (address_register L (suc d))) both.left both.right).eq z e))));
  }

pub pointers_are_compared : PointersAreCompared
pointers_are_compared c found target other x y ex ey hx hy = record {
  less = less c found target other x y ex ey hx hy;
  greater = greater c found target other x y ex ey hx hy;
  less_or_equal = less_or_equal c found target other x y ex ey hx hy;
  greater_or_equal = greater_or_equal c found target other x y ex ey hx hy;
  equal = equal c found target other x y ex ey hx hy;
  not_equal = not_equal c found target other x y ex ey hx hy;
}
