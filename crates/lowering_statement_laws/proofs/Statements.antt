-- The code of forms of statement without loops and declarations.
use Rattle.std.proofs.Common.{◌≡◌, ℕ, suc, ◌+◌, ◌-◌, ◌≤◌, List, [], ◌∷◌, Bool, true, false, Some, None, refl, sym, ap, ◌∙◌, subst, arith, inl, inr}
use Rattle.std.specs.Prelude.{if◌then◌else◌, slice_get}
use Rattle.mem_model.specs.declared.value.Value.{Value}
use Rattle.mem_model.specs.declared.value.Value.TheVariants.{Word, Address, Unset}
use Rattle.mem_model.specs.Memory.{Memory}
use Rattle.mem_model.specs.World.{outer_with_memory}
use Rattle.mem_model.specs.Related.{Names, IsValueOf}
use Rattle.machine_model.specs.Code as machine
use Rattle.c_typed_tree.specs.Types.{PlainType, Void}
use Rattle.c_typed_tree.specs.Expressions.{Expr, type_of}
use Rattle.c_typed_tree.specs.Statements.{Stmt, Stmts, no_stmts, more_stmts, no_else, else_stmt}
use Rattle.c_typed_tree.specs.Statements as q
use Rattle.c_semantics.specs.Reasons.{UsesNoValue}
use Rattle.c_semantics.specs.Runs.{CallState, Run, and_then, use_value, pure}
use Rattle.c_semantics.specs.Objects.{Scope}
use Rattle.c_semantics.specs.Operators.{test}
use Rattle.c_semantics.specs.Evaluates.{eval, choose}
use Rattle.c_semantics.specs.Executes.{StatementFlow, Goes, Returns, and_next, exec, execs}
use Rattle.suifvm_ir.specs.declared.insn.VmBranchOp.TheVariants.{IfFalse}
use Rattle.suifvm_ir.specs.declared.insn.TypedRegister.{TypedRegister}
use Rattle.suifvm_ir.specs.declared.insn.VmInsn.TheVariants as n
use Rattle.suifvm_meaning.specs.Operations as vm
use Rattle.suifvm_meaning.specs.Behave.{Registers}
use Rattle.lowering_code.specs.declared.item.CodeItem.{CodeItem}
use Rattle.lowering_code.specs.declared.item.CodeItem.TheVariants.{Start, Jump, Return}
use Rattle.lowering_code.specs.Items as items
use Rattle.lowering_code.specs.Registers.{register_type, value_register}
use Rattle.lowering_code.specs.Expressions.{plain_of, branch_by_value_code, expr_code}
use Rattle.lowering_code.specs.Statements.{stmt_code, stmts_code}
use Rattle.lowering_states.specs.Places.{CodePlace, next_block, start_of_block}
use Rattle.lowering_states.specs.Runs.{CodeObservation, finish}
use Rattle.lowering_states.specs.model.Opens.{opens}
use Rattle.lowering_states.specs.States.{IsHeld, IsInRegister}
use Rattle.lowering_states.proofs.Steps.{fall, jump, returning_step, used_meets}
use Rattle.lowering_states.proofs.States.{after_same, after_on}
use Rattle.lowering_states.specs.lowering_expression_places.Behind.{Somewhere}
use Rattle.lowering_states.proofs.LoweringExpressionPlaces.Behind.{at_start, at_jump, at_branch}
use Rattle.lowering_expression_laws.specs.Parts.{Setting, first_depth, EndsSo, Stands, Fit, Aft, ExprMeets}
use Rattle.lowering_expression_laws.specs.Laws.{IsScalarType}
use Rattle.lowering_expression_laws.proofs.Forms.{word_held, value_of_word, bound_run}
use Rattle.lowering_expression_laws.proofs.Choices.{TestIs, test_meets, at_block, goes, passes}
use Rattle.lowering_statement_laws.specs.Parts.{Onward, StmtMeets, StmtsMeet}
use Rattle.lowering_statement_laws.proofs.Apart.{inner_least}
use Rattle.lowering_statement_laws.proofs.Behind.{left_stmt}

-- a value that is set may be returned in the register of its type
returnable : (f : Names) (ty : PlainType) (v w : Value) → IsScalarType ty → IsHeld ty v → IsInRegister f ty v w → vm.is_set v ≡ true → (vm.is_value_of (register_type ty) w ≡ true) × IsValueOf f v w
returnable f ty v w (inl t) held rel set =
    subst (λ z. (vm.is_value_of (register_type z) w ≡ true) × IsValueOf f v w) (sym t.1) (words v (subst (λ z. IsHeld z v) t.1 held) (subst (λ z. IsInRegister f z v w) t.1 rel) set)
  where
    words : (v : Value) → IsHeld (plain_of t.0) v → IsValueOf f v w → vm.is_set v ≡ true → (vm.is_value_of (register_type (plain_of t.0)) w ≡ true) × IsValueOf f v w
    words (Word k) h r x = (ap (vm.is_value_of (register_type (plain_of t.0))) r ∙ value_of_word t.0 k (word_held t.0 k h), r)
    words (Address k) h r x = absurd h
    words Unset h r x = absurd (cc)
returnable f ty v w (inr t) held rel set =
    subst (λ z. (vm.is_value_of (register_type z) w ≡ true) × IsValueOf f v w) (sym t.1) (pointers v (subst (λ z. IsInRegister f z v w) t.1 rel) set)
  where
    pointers : (v : Value) → IsValueOf f v w → vm.is_set v ≡ true → (vm.is_set w ≡ true) × IsValueOf f v w
    pointers (Word k) r x = (ap vm.is_set r, r)
    pointers (Address k) r x = (ap vm.is_set r.1, r)
    pointers Unset r x = absurd (cc)

module _ (c : Setting) (found : slice_get c.functions c.number ≡ Some c.code) (again : Scope → Stmt → Run StatementFlow) where
  abbrev L : ℕ
  L = first_depth c

  -- what follows, from a later state
  pub onward_on : {scope : Scope} {f g : Names} {s t : CallState} {m m1 : Memory} {K : StatementFlow → CallState → CodeObservation} {heads : List ℕ} {rest : List CodeItem} {brk con : ℕ} → Aft c f s m g t m1 → Onward c scope f s m K heads rest brk con → Onward c scope g t m1 K heads rest brk con
  onward_on x way = record {
    goes = λ q h u r n at a fit. way.goes q h u r n at (after_on x a) fit;
    breaks = λ h u r n a fit. way.breaks h u r n (after_on x a) fit;
    continues = λ h u r n a fit. way.continues h u r n (after_on x a) fit;
    returns = λ v ws h u r n a fit ret. way.returns v ws h u r n (after_on x a) fit ret;
  }

  -- the same with other code behind, which leads on
  onward_to : {scope : Scope} {f : Names} {s : CallState} {m : Memory} {K : StatementFlow → CallState → CodeObservation} {heads : List ℕ} {rest rest1 : List CodeItem} {brk con : ℕ} → Onward c scope f s m K heads rest brk con
      → ((q : CodePlace) (g : Names) (t : CallState) (r : Registers) (n : Memory) → Stands c heads q rest1 → Aft c f s m g t n → Fit c g scope r t n → EndsSo c (K Goes t) q r t.world n) → Onward c scope f s m K heads rest1 brk con
  onward_to way on = record { goes = on; breaks = way.breaks; continues = way.continues; returns = way.returns }

  pub expressions : (x : Expr) → ExprMeets c x → StmtMeets c again (q.Expression x)
  unfolding opens
  expressions x hx = record {
    by = λ brk con rest heads p f scope r s m K apart at fit low way.
        bound_run c found (eval c.structs c.locals c.calls scope x s) (λ _. pure Goes) K p r s.world m
        (hx.by 0 rest heads p f scope r s m (λ _ t. K Goes t) at fit low (λ q v g t q1 m1 at1 aft fit1 kept held stands. way.goes q g t q1 m1 at1 aft fit1));
  }

  pub empty : StmtMeets c again q.Empty
  unfolding opens
  empty = record { by = λ brk con rest heads p f scope r s m K apart at fit low way. way.goes p f s r m at after_same fit }

  pub breaks : StmtMeets c again q.Break
  unfolding opens
  breaks = record { by = λ brk con rest heads p f scope r s m K apart at fit low way. jump c.rooms c.functions c.number c.code found c.own c.waiting (c.last - brk) p r s.world m at.has.0 (way.breaks f s r m after_same fit) }

  pub continues : StmtMeets c again q.Continue
  unfolding opens
  continues = record { by = λ brk con rest heads p f scope r s m K apart at fit low way. jump c.rooms c.functions c.number c.code found c.own c.waiting (c.last - con) p r s.world m at.has.0 (way.continues f s r m after_same fit) }

  pub returns : c.result ≡ Void → StmtMeets c again (q.Return None)
  unfolding opens
  returns none = record {
    by = λ brk con rest heads p f scope r s m K apart at fit low way.
        returning_step c.rooms c.functions c.number c.code found c.own c.waiting (n.Return None) p r s.world m [] at.has.0 refl refl (way.returns None [] f s r m after_same fit (none, refl));
  }

  pub values : (x : Expr) → type_of x ≡ c.result → IsScalarType (type_of x) → ExprMeets c x → StmtMeets c again (q.Return (Some x))
  unfolding opens
  values x same scalar hx = record {
    by = λ brk con rest heads p f scope r s m K apart at fit low way.
        let reg = value_register L 0 (type_of x) in
        let value : TypedRegister = record { ty = register_type (type_of x); register = reg } in
        bound_run c found (and_then (eval c.structs c.locals c.calls scope x s) (use_value UsesNoValue)) (λ v. pure (Returns (Some v))) K p r s.world m
        (bound_run c found (eval c.structs c.locals c.calls scope x s) (use_value UsesNoValue) (λ v t. K (Returns (Some v)) t) p r s.world m
        (hx.by 0 (Return (Some value) ∷ rest) heads p f scope r s m (λ v t. finish (use_value UsesNoValue v t) (λ v t. K (Returns (Some v)) t)) at fit low
        (λ q v g t q1 m1 at1 aft fit1 kept held stands.
        used_meets c.rooms c.functions UsesNoValue v t (λ v t. K (Returns (Some v)) t) _ (λ set.
        let ok = returnable g (type_of x) v (q1 reg) scalar held stands set in
        returning_step c.rooms c.functions c.number c.code found c.own c.waiting (n.Return (Some value)) q q1 t.world m1 (q1 reg ∷ []) at1.has.0 refl
        (ap (λ z. if z then machine.Returns (q1 reg ∷ []) (outer_with_memory t.world.outer m1) else machine.Stops machine.HasNoMeaning (outer_with_memory t.world.outer m1)) ok.0)
        (way.returns (Some v) (q1 reg ∷ []) g t q1 m1 aft fit1 (q1 reg, refl, subst (λ z. IsHeld z v) same held, ok.1))))));
  }

  -- a test, and where it leads
  module _ (x : Expr) (scalar : IsScalarType (type_of x)) (hx : ExprMeets c x) (name : ℕ) (holds_code : List CodeItem) (heads : List ℕ) (f : Names) (scope : Scope) (r : Registers) (s : CallState) (m : Memory) (K : StatementFlow → CallState → CodeObservation) (run : Bool → Run StatementFlow)
      (on_true : (q : CodePlace) (g : Names) (t : CallState) (q1 : Registers) (m1 : Memory) → Stands c heads q holds_code → Aft c f s m g t m1 → Fit c g scope q1 t m1 → EndsSo c (finish (run true t) K) q q1 t.world m1)
      (on_false : (q : CodePlace) (g : Names) (t : CallState) (q1 : Registers) (m1 : Memory) → Stands c heads q holds_code → Aft c f s m g t m1 → Fit c g scope q1 t m1 → (block : ℕ) × ((block + name ≡ c.last) × EndsSo c (finish (run false t) K) (start_of_block block) q1 t.world m1)) where
    test_leads : (p : CodePlace) → Stands c heads p (expr_code L c.structs c.locals 0 x (branch_by_value_code L IfFalse 0 (type_of x) name holds_code)) → Fit c f scope r s m → s.world.meter.turns ≤ c.level
        → EndsSo c (finish (and_then (and_then (eval c.structs c.locals c.calls scope x s) test) run) K) p r s.world m
    unfolding opens
    test_leads p at fit low =
        bound_run c found (and_then (eval c.structs c.locals c.calls scope x s) test) run K p r s.world m
        (bound_run c found (eval c.structs c.locals c.calls scope x s) test (λ k t. finish (run k t) K) p r s.world m
        (hx.by 0 (branch_by_value_code L IfFalse 0 (type_of x) name holds_code) heads p f scope r s m (λ v t. finish (test v t) (λ k t1. finish (run k t1) K)) at fit low
        (λ q v g t q1 m1 at1 aft fit1 kept held stands.
        test_meets c found v t (λ k t1. finish (run k t1) K) _ (λ k is. by_test q g t q1 m1 v k at1 aft fit1 held stands is))))
      where
        by_test : (q : CodePlace) (g : Names) (t : CallState) (q1 : Registers) (m1 : Memory) (v : Value) (k : Bool) → Stands c heads q (branch_by_value_code L IfFalse 0 (type_of x) name holds_code) → Aft c f s m g t m1 → Fit c g scope q1 t m1
            → IsHeld (type_of x) v → IsInRegister g (type_of x) v (q1 (value_register L 0 (type_of x))) → TestIs t.world.outer.memory v k → EndsSo c (finish (run k t) K) q q1 t.world m1
        by_test q g t q1 m1 v true at1 aft fit1 held stands is =
            passes c found IfFalse 0 (type_of x) scalar name holds_code heads q g scope q1 t m1 v true at1 fit1 held stands is refl
            (on_true (next_block q) g t q1 m1 (at_branch c.code.blocks c.last c.end IfFalse _ _ _ at1) aft fit1)
        by_test q g t q1 m1 v false at1 aft fit1 held stands is =
            let there = on_false (next_block q) g t q1 m1 (at_branch c.code.blocks c.last c.end IfFalse _ _ _ at1) aft fit1 in
            goes c found IfFalse 0 (type_of x) scalar name holds_code heads q g scope q1 t m1 v false at1 fit1 held stands is there.0 there.1.0 refl there.1.1

  pub conditions : (x : Expr) (a : Stmt) → IsScalarType (type_of x) → ExprMeets c x → StmtMeets c again a → StmtMeets c again (q.If x a no_else)
  unfolding opens
  conditions x a scalar hx ha = record {
    by = λ brk con rest heads p f scope r s m K apart at fit low way.
        test_leads x scalar hx (items.block_total rest) (stmt_code L c.structs c.locals brk con a (Start ∷ rest)) heads f scope r s m K (choose (exec c.structs c.locals c.calls again scope a) (pure Goes))
        (λ q g t q1 m1 at1 aft fit1.
        ha.by brk con (Start ∷ rest) heads q g scope q1 t m1 K (λ k lt. apart k (let h = inner_least k a in omega (arith, lt, h))) at1 fit1 (omega (arith, aft.turned, low))
        (onward_to (onward_on aft way) (λ q2 h u q3 m2 at2 aft2 fit2.
        fall c.rooms c.functions c.number c.code found c.own c.waiting q2 q3 u.world m2 at2.has.0 (way.goes (next_block q2) h u q3 m2 (at_start c.code.blocks c.last c.end at2) (after_on aft aft2) fit2))))
        (λ q g t q1 m1 at1 aft fit1.
        let behind : Somewhere c.code.blocks c.last c.end heads (Start ∷ rest) = left_stmt c.code.blocks c.last c.end L c.structs c.locals a brk con heads (Start ∷ rest) (record { place = q; at = at1 }) in
        let there = at_start c.code.blocks c.last c.end behind.at in
        (suc behind.place.block, (there.size, way.goes (start_of_block (suc behind.place.block)) g t q1 m1 there aft fit1)))
        p at fit low;
  }

  pub choices : (x : Expr) (a b : Stmt) → IsScalarType (type_of x) → ExprMeets c x → StmtMeets c again a → StmtMeets c again b → StmtMeets c again (q.If x a (else_stmt b))
  unfolding opens
  choices x a b scalar hx ha hb = record {
    by = λ brk con rest heads p f scope r s m K apart at fit low way.
        let fails = stmt_code L c.structs c.locals brk con b (Start ∷ rest) in
        test_leads x scalar hx (items.block_total fails) (stmt_code L c.structs c.locals brk con a (Jump (items.block_total rest) ∷ fails)) heads f scope r s m K (choose (exec c.structs c.locals c.calls again scope a) (exec c.structs c.locals c.calls again scope b))
        (λ q g t q1 m1 at1 aft fit1.
        ha.by brk con (Jump (items.block_total rest) ∷ fails) heads q g scope q1 t m1 K (λ k lt. apart k (let h = inner_least k a in omega (arith, lt, h))) at1 fit1 (omega (arith, aft.turned, low))
        (onward_to (onward_on aft way) (λ q2 h u q3 m2 at2 aft2 fit2.
        let behind : Somewhere c.code.blocks c.last c.end heads (Start ∷ rest) = left_stmt c.code.blocks c.last c.end L c.structs c.locals b brk con heads (Start ∷ rest) (record { place = next_block q2; at = at_jump c.code.blocks c.last c.end (items.block_total rest) at2 }) in
        let there = at_start c.code.blocks c.last c.end behind.at in
        let block : ℕ = suc behind.place.block in
        jump c.rooms c.functions c.number c.code found c.own c.waiting (c.last - items.block_total rest) q2 q3 u.world m2 at2.has.0
        (at_block c found q3 u.world m2 block (c.last - items.block_total rest) (omega (arith, there.size)) (way.goes (start_of_block block) h u q3 m2 there (after_on aft aft2) fit2)))))
        (λ q g t q1 m1 at1 aft fit1.
        let behind : Somewhere c.code.blocks c.last c.end heads (Jump (items.block_total rest) ∷ fails) = left_stmt c.code.blocks c.last c.end L c.structs c.locals a brk con heads (Jump (items.block_total rest) ∷ fails) (record { place = q; at = at1 }) in
        let there = at_jump c.code.blocks c.last c.end (items.block_total rest) behind.at in (
          suc behind.place.block,
          (
            there.size,
            hb.by brk con (Start ∷ rest) heads (start_of_block (suc behind.place.block)) g scope q1 t m1 K (λ k lt. apart k (let h = inner_least k b in omega (arith, lt, h))) there fit1 (omega (arith, aft.turned, low))
                (onward_to (onward_on aft way) (λ q2 h u q3 m2 at2 aft2 fit2.
                fall c.rooms c.functions c.number c.code found c.own c.waiting q2 q3 u.world m2 at2.has.0 (way.goes (next_block q2) h u q3 m2 (at_start c.code.blocks c.last c.end at2) (after_on aft aft2) fit2))),
          ),
        ))
        p at fit low;
  }

  pub none : StmtsMeet c again no_stmts
  unfolding opens
  none = record { by = λ brk con rest heads p f scope r s m K apart at fit low way. way.goes p f s r m at after_same fit }

  pub more : (a : Stmt) (as1 : Stmts) → StmtMeets c again a → StmtsMeet c again as1 → StmtsMeet c again (more_stmts a as1)
  unfolding opens
  more a as1 ha has1 = record {
    by = λ brk con rest heads p f scope r s m K apart at fit low way.
        let run = execs c.structs c.locals c.calls again scope as1 in
        bound_run c found (exec c.structs c.locals c.calls again scope a s) (and_next run) K p r s.world m
        (ha.by brk con (stmts_code L c.structs c.locals brk con as1 rest) heads p f scope r s m (λ z t. finish (and_next run z t) K) (λ k lt. apart k (omega (arith, lt))) at fit low
        (record {
          goes = λ q g t q1 m1 at1 aft fit1. has1.by brk con rest heads q g scope q1 t m1 K (λ k lt. apart k (omega (arith, lt))) at1 fit1 (omega (arith, aft.turned, low)) (onward_on aft way);
          breaks = way.breaks;
          continues = way.continues;
          returns = way.returns;
        }));
  }
