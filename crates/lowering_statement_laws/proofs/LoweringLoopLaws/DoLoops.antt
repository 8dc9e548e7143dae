-- The code of `do`: the body, and the test with a branch back to the body.
use Rattle.std.proofs.Common.{◌≡◌, ℕ, zero, suc, ◌-◌, ◌<◌, ◌≤◌, List, [], ◌∷◌, Bool, true, false, Some, refl, ap, subst, arith}
use Rattle.std.specs.Prelude.{slice_get}
use Rattle.mem_model.specs.Memory.{Memory}
use Rattle.mem_model.specs.World.{with_meter}
use Rattle.mem_model.specs.Related.{Names}
use Rattle.c_typed_tree.specs.Expressions.{Expr, type_of}
use Rattle.c_typed_tree.specs.Statements.{Stmt, Do}
use Rattle.c_semantics.specs.Runs.{CallState, Run, and_then, in_world, turn, pure, ◌>>=◌}
use Rattle.c_semantics.specs.Objects.{Scope}
use Rattle.c_semantics.specs.Operators.{test}
use Rattle.c_semantics.specs.Evaluates.{eval, choose}
use Rattle.c_semantics.specs.Executes.{StatementFlow, Goes, after_body, exec}
use Rattle.suifvm_ir.specs.declared.insn.VmBranchOp.TheVariants.{IfTrue}
use Rattle.suifvm_ir.specs.declared.insn.VmInsn.TheVariants as n
use Rattle.suifvm_meaning.specs.Operations as vm
use Rattle.suifvm_meaning.specs.Behave.{Registers}
use Rattle.lowering_code.specs.declared.item.CodeItem.{CodeItem}
use Rattle.lowering_code.specs.declared.item.CodeItem.TheVariants.{Start, Again}
use Rattle.lowering_code.specs.Items as items
use Rattle.lowering_code.specs.Registers.{register_type, value_register}
use Rattle.lowering_code.specs.Statements.{again_code, stmt_code}
use Rattle.lowering_states.specs.Places.{CodePlace, next_place, next_block, start_of_block, stands_at}
use Rattle.lowering_states.specs.Runs.{CodeObservation, finish}
use Rattle.lowering_states.specs.model.Opens.{opens}
use Rattle.lowering_states.proofs.Steps.{meets_same, fall, branch_taken, branch_passed, no_turn, turning_step, turn_meets, turn_less}
use Rattle.lowering_states.proofs.States.{after_on}
use Rattle.lowering_states.specs.lowering_expression_places.Behind.{Somewhere}
use Rattle.lowering_states.proofs.LoweringExpressionPlaces.Behind.{at_start, left_expr}
use Rattle.lowering_expression_laws.specs.Parts.{Setting, first_depth, EndsSo, Stands, Fit, Aft, ExprMeets}
use Rattle.lowering_expression_laws.specs.Laws.{IsScalarType}
use Rattle.lowering_expression_laws.proofs.Forms.{bound_run}
use Rattle.lowering_expression_laws.proofs.Choices.{holds_there, test_meets, at_block}
use Rattle.lowering_statement_laws.specs.Parts.{IsApart, Onward, StmtMeets}
use Rattle.lowering_statement_laws.proofs.Apart.{inner_least}
use Rattle.lowering_statement_laws.proofs.Behind.{at_enter, at_again, left_stmt}
use Rattle.lowering_statement_laws.specs.lowering_loop_laws.Laws.{LevelMeanings, at_level, AreLevels, DoLoopsMeet}

module _ (c : Setting) (levels : LevelMeanings) (found : slice_get c.functions c.number ≡ Some c.code) (are : AreLevels c levels) (x : Expr) (body : Stmt) (scalar : IsScalarType (type_of x))
    (hx : (k : ℕ) → ExprMeets (at_level c levels k) x) (hb : (k : ℕ) → StmtMeets (at_level c levels k) (levels.statements k) body) where
  abbrev L : ℕ
  L = first_depth c

  abbrev loop_run : ℕ → Scope → Run StatementFlow
  loop_run k scope = exec c.structs c.locals (levels.functions k) (levels.statements k) scope (Do body x)

  -- what the loop does behind its body
  abbrev ask : ℕ → Scope → Run StatementFlow
  ask k scope = eval c.structs c.locals (levels.functions k) scope x >>= test >>= choose (levels.statements k scope (Do body x)) (pure Goes)

  module _ (rest : List CodeItem) (heads : List ℕ) (head : ℕ) where
    abbrev test_items : List CodeItem
    test_items = again_code L c.structs c.locals x rest

    abbrev body_items : List CodeItem
    body_items = stmt_code L c.structs c.locals (items.block_total rest) (items.block_total test_items) body (Start ∷ test_items)

    record Places : Type 0 where
      test_block : ℕ
      test_at : Stands c (head ∷ heads) (start_of_block test_block) test_items
      rest_block : ℕ
      rest_at : Stands c heads (start_of_block rest_block) rest
      mark : stands_at c.code.blocks (start_of_block head) ≡ Some (Some n.Mark)
      body_at : Stands c (head ∷ heads) (next_place (start_of_block head)) body_items

    -- what a loop does at a level, from its mark on
    abbrev Rounds : ℕ → Type 0
    Rounds k =
        (f : Names) (scope : Scope) (r : Registers) (s : CallState) (m : Memory) (K : StatementFlow → CallState → CodeObservation) (brk con : ℕ) → IsApart scope body → Fit c f scope r s m → s.world.meter.turns ≤ k
        → Onward c scope f s m K heads rest brk con → EndsSo c (finish (loop_run k scope s) K) (start_of_block head) r s.world m

    -- the test, where a turn was taken
    ask_meets : Places → (k : ℕ) → ((i : ℕ) → suc i ≡ k → Rounds i) → (q : CodePlace) (f : Names) (scope : Scope) (r : Registers) (s : CallState) (m : Memory) (K : StatementFlow → CallState → CodeObservation) (brk con : ℕ) → IsApart scope body → Stands c (head ∷ heads) q test_items → Fit c f scope r s m
        → s.world.meter.turns < k → Onward c scope f s m K heads rest brk con → EndsSo c (finish (ask k scope s) K) q r s.world m
    unfolding opens
    ask_meets here k below q f scope r s m K brk con apart at fit low way =
        let reg = value_register L 0 (type_of x) in
        let run : Bool → Run StatementFlow = choose (levels.statements k scope (Do body x)) (pure Goes) in
        bound_run c found (and_then (eval c.structs c.locals (levels.functions k) scope x s) test) run K q r s.world m
        (bound_run c found (eval c.structs c.locals (levels.functions k) scope x s) test (λ z t. finish (run z t) K) q r s.world m
        ((hx k).by 0 (Again (register_type (type_of x)) reg ∷ rest) (head ∷ heads) q f scope r s m (λ v t. finish (test v t) (λ z t1. finish (run z t1) K)) at fit (omega (arith, low))
        (λ q1 v g t r1 m1 at1 aft fit1 kept held stands.
        test_meets c found v t (λ z t1. finish (run z t1) K) _ (λ z is.
        by_test q1 g t r1 m1 z at1 aft fit1 (holds_there g t.world.outer.memory m1 (type_of x) v (r1 reg) z scalar fit1.memory held stands is)))))
      where
        by_test : (q1 : CodePlace) (g : Names) (t : CallState) (r1 : Registers) (m1 : Memory) (z : Bool) → Stands c (head ∷ heads) q1 (Again (register_type (type_of x)) (value_register L 0 (type_of x)) ∷ rest) → Aft c f s m g t m1 → Fit c g scope r1 t m1
            → vm.value_holds m1 (register_type (type_of x)) (r1 (value_register L 0 (type_of x))) ≡ Some z
            → EndsSo c (finish (choose (levels.statements k scope (Do body x)) (pure Goes) z t) K) q1 r1 t.world m1
        by_test q1 g t r1 m1 false at1 aft fit1 holds =
            branch_passed c.rooms c.functions c.number c.code found c.own c.waiting IfTrue (register_type (type_of x)) (value_register L 0 (type_of x)) head false q1 r1 t.world m1 at1.has.0 holds refl at1.has.1
            (way.goes (next_block q1) g t r1 m1 (at_again c.code.blocks c.last c.end _ _ at1) aft fit1)
        by_test q1 g t r1 m1 true at1 aft fit1 holds =
            branch_taken c.rooms c.functions c.number c.code found c.own c.waiting IfTrue (register_type (type_of x)) (value_register L 0 (type_of x)) head true q1 r1 t.world m1 at1.has.0 holds refl
            (next_round k refl)
          where
            next_round : (j : ℕ) → j ≡ k → EndsSo c (finish (levels.statements j scope (Do body x) t) K) (start_of_block head) r1 t.world m1
            next_round zero e = absurd (omega (arith, e, low))
            next_round (suc i) e =
                meets_same c.rooms c.functions (ap (λ z. finish (z t) K) (are i scope (Do body x)))
                (below i e g scope r1 t m1 K brk con apart fit1 (omega (arith, e, low, aft.turned)) (record {
                  goes = λ q3 g3 t3 r3 m3 at3 aft3 fit3. way.goes q3 g3 t3 r3 m3 at3 (after_on aft aft3) fit3;
                  breaks = λ g3 t3 r3 m3 aft3 fit3. way.breaks g3 t3 r3 m3 (after_on aft aft3) fit3;
                  continues = λ g3 t3 r3 m3 aft3 fit3. way.continues g3 t3 r3 m3 (after_on aft aft3) fit3;
                  returns = λ v3 ws g3 t3 r3 m3 aft3 fit3 ret. way.returns v3 ws g3 t3 r3 m3 (after_on aft aft3) fit3 ret;
                }))

    round_on : Places → (k : ℕ) → ((i : ℕ) → suc i ≡ k → Rounds i) → Rounds k
    unfolding opens
    round_on here k below f scope r s m K brk con apart fit low way =
        let go_on : Run StatementFlow = exec c.structs c.locals (levels.functions k) (levels.statements k) scope body >>= after_body (ask k scope) in
        bound_run c found (turn s) (λ _. go_on) K (start_of_block head) r s.world m
        (turn_meets c.rooms c.functions s (λ _ t1. finish (go_on t1) K) _
        (λ mt some.
        let t1 : CallState = in_world s (with_meter s.world mt) in
        let less = turn_less s.world.meter mt some in
        let aft1 : Aft c f s m f t1 m = record { names = λ o a e. e; lives = λ o. refl; sizes = λ o l. refl; locals = λ a size h. h; turned = omega (arith, less) } in
        turning_step c.rooms c.functions c.number c.code found c.own c.waiting n.Mark (start_of_block head) r s.world t1.world m m mt [] here.mark refl some refl refl
        (bound_run c found (exec c.structs c.locals (levels.functions k) (levels.statements k) scope body t1) (after_body (ask k scope)) K (next_place (start_of_block head)) r t1.world m
        ((hb k).by (items.block_total rest) (items.block_total test_items) (Start ∷ test_items) (head ∷ heads) (next_place (start_of_block head)) f scope r t1 m (λ z u. finish (after_body (ask k scope) z u) K) apart here.body_at fit (omega (arith, less, low))
        (record {
          goes = λ q2 h u r2 m2 at2 aft2 fit2.
              fall c.rooms c.functions c.number c.code found c.own c.waiting q2 r2 u.world m2 at2.has.0
              (ask_meets here k below (next_block q2) h scope r2 u m2 K brk con apart (at_start c.code.blocks c.last c.end at2) fit2 (omega (arith, aft2.turned, less, low)) (later (after_on aft1 aft2)));
          breaks = λ h u r2 m2 aft2 fit2.
              at_block c found r2 u.world m2 here.rest_block (c.last - items.block_total rest) (let size = here.rest_at.size in omega (arith, size)) (way.goes (start_of_block here.rest_block) h u r2 m2 here.rest_at (after_on aft1 aft2) fit2);
          continues = λ h u r2 m2 aft2 fit2.
              at_block c found r2 u.world m2 here.test_block (c.last - items.block_total test_items) (let size = here.test_at.size in omega (arith, size))
              (ask_meets here k below (start_of_block here.test_block) h scope r2 u m2 K brk con apart here.test_at fit2 (omega (arith, aft2.turned, less, low)) (later (after_on aft1 aft2)));
          returns = λ v1 ws h u r2 m2 aft2 fit2 ret. way.returns v1 ws h u r2 m2 (after_on aft1 aft2) fit2 ret;
        }))))
        (λ none. no_turn c.rooms c.functions c.number c.code found c.own c.waiting n.Mark (start_of_block head) r s.world m here.mark refl none refl))
      where
        later : {h : Names} {u : CallState} {m2 : Memory} → Aft c f s m h u m2 → Onward c scope h u m2 K heads rest brk con
        later aft = record {
          goes = λ q3 g3 t3 r3 m3 at3 aft3 fit3. way.goes q3 g3 t3 r3 m3 at3 (after_on aft aft3) fit3;
          breaks = λ g3 t3 r3 m3 aft3 fit3. way.breaks g3 t3 r3 m3 (after_on aft aft3) fit3;
          continues = λ g3 t3 r3 m3 aft3 fit3. way.continues g3 t3 r3 m3 (after_on aft aft3) fit3;
          returns = λ v3 ws g3 t3 r3 m3 aft3 fit3 ret. way.returns v3 ws g3 t3 r3 m3 (after_on aft aft3) fit3 ret;
        }

    rounds : Places → (k : ℕ) → Rounds k
    rounds here zero = round_on here zero (λ i e. absurd (cc))
    rounds here (suc j) = round_on here (suc j) (λ i e. subst Rounds (same j i e) (rounds here j))
      where
        same : (j i : ℕ) → suc i ≡ suc j → j ≡ i
        same j i e = cc

  dos : (k : ℕ) → StmtMeets (at_level c levels k) (levels.statements k) (Do body x)
  dos k = record {
    by = λ brk con rest heads p f scope r s m K apart at fit low way.
        let head : ℕ = suc p.block in
        let test = again_code L c.structs c.locals x rest in
        let body_at = at_enter c.code.blocks c.last c.end at in
        let behind : Somewhere c.code.blocks c.last c.end (head ∷ heads) (Start ∷ test) = left_stmt c.code.blocks c.last c.end L c.structs c.locals body (items.block_total rest) (items.block_total test) (head ∷ heads) (Start ∷ test) (record { place = next_place (next_block p); at = body_at }) in
        let test_at = at_start c.code.blocks c.last c.end behind.at in
        let block : ℕ = suc behind.place.block in
        let last_item : Somewhere c.code.blocks c.last c.end (head ∷ heads) (Again (register_type (type_of x)) (value_register L 0 (type_of x)) ∷ rest) = left_expr c.code.blocks c.last c.end L c.structs c.locals x 0 (head ∷ heads) _ (record { place = start_of_block block; at = test_at }) in
        let here : Places rest heads head = record {
          test_block = block;
          test_at = test_at;
          rest_block = suc last_item.place.block;
          rest_at = at_again c.code.blocks c.last c.end _ _ last_item.at;
          mark = at.has.1;
          body_at = body_at;
        } in
        fall c.rooms c.functions c.number c.code found c.own c.waiting p r s.world m at.has.0
        (rounds rest heads head here k f scope r s m K brk con (λ j lt. apart j (let h = inner_least j body in omega (arith, lt, h))) fit low (record { goes = way.goes; breaks = way.breaks; continues = way.continues; returns = way.returns }));
  }

pub do_loops_meet : DoLoopsMeet
do_loops_meet c levels found are x body scalar hx hb k = dos c levels found are x body scalar hx hb k
