-- The code of `for`: a jump to the condition, the body, the step, and the condition with a way back to the body.
use Rattle.std.proofs.Common.{◌≡◌, ℕ, zero, suc, ◌-◌, ◌<◌, ◌≤◌, List, [], ◌∷◌, Option, Some, refl, ap, subst, arith}
use Rattle.std.specs.Prelude.{slice_get}
use Rattle.mem_model.specs.Memory.{Memory}
use Rattle.mem_model.specs.World.{with_meter}
use Rattle.mem_model.specs.Related.{Names}
use Rattle.c_typed_tree.specs.Expressions.{Expr}
use Rattle.c_typed_tree.specs.Statements.{Stmt, For}
use Rattle.c_typed_tree.specs.Statements as q
use Rattle.c_semantics.specs.Runs.{CallState, Run, and_then, in_world, turn, pure, ◌>>◌, ◌>>=◌}
use Rattle.c_semantics.specs.Objects.{Scope}
use Rattle.c_semantics.specs.Evaluates.{eval, choose}
use Rattle.c_semantics.specs.Executes as executes
use Rattle.c_semantics.specs.Executes.{StatementFlow, Goes, after_body, exec}
use Rattle.suifvm_ir.specs.declared.insn.VmInsn.TheVariants as n
use Rattle.suifvm_meaning.specs.Behave.{Registers}
use Rattle.lowering_code.specs.declared.item.CodeItem.{CodeItem}
use Rattle.lowering_code.specs.declared.item.CodeItem.TheVariants.{Start, Loop}
use Rattle.lowering_code.specs.Items as items
use Rattle.lowering_code.specs.Statements.{after_code, test_code, stmt_code}
use Rattle.lowering_states.specs.Places.{CodePlace, next_place, next_block, start_of_block, stands_at}
use Rattle.lowering_states.specs.Runs.{CodeObservation, finish}
use Rattle.lowering_states.specs.model.Opens.{opens}
use Rattle.lowering_states.proofs.Steps.{meets_same, fall, jump, no_turn, turning_step, turn_meets, turn_less}
use Rattle.lowering_states.proofs.States.{after_on}
use Rattle.lowering_states.specs.lowering_expression_places.Behind.{Somewhere}
use Rattle.lowering_states.proofs.LoweringExpressionPlaces.Behind.{at_start}
use Rattle.lowering_expression_laws.specs.Parts.{Setting, first_depth, EndsSo, Stands, Fit, Aft}
use Rattle.lowering_expression_laws.proofs.Forms.{bound_run}
use Rattle.lowering_expression_laws.proofs.Choices.{at_block}
use Rattle.lowering_statement_laws.specs.Parts.{IsApart, Onward, StmtMeets}
use Rattle.lowering_statement_laws.proofs.Apart.{inner_least}
use Rattle.lowering_statement_laws.proofs.Behind.{at_loop, left_stmt}
use Rattle.lowering_statement_laws.specs.lowering_loop_laws.Laws.{LevelMeanings, at_level, AreLevels}
use Rattle.lowering_statement_laws.specs.lowering_for_laws.Laws.{StepMeets, ConditionMeets, ForLoops, ForLoopsMeet}
use Rattle.lowering_statement_laws.proofs.LoweringForLaws.Pieces.{left_condition, left_step, step_leads, condition_leads}

module _ (c : Setting) (levels : LevelMeanings) (found : slice_get c.functions c.number ≡ Some c.code) (are : AreLevels c levels) (test step : Option Expr) (body : Stmt)
    (ht : (k : ℕ) → ConditionMeets (at_level c levels k) test) (hs : (k : ℕ) → StepMeets (at_level c levels k) step) (hb : (k : ℕ) → StmtMeets (at_level c levels k) (levels.statements k) body) where
  abbrev L : ℕ
  L = first_depth c

  abbrev loop : Stmt
  loop = For q.Nothing test step body

  -- what the loop does behind its body
  abbrev again_run : ℕ → Scope → Run StatementFlow
  again_run k scope = executes.loop_step c.structs c.locals (levels.functions k) scope step >> levels.statements k scope loop

  -- what it does from its mark on
  abbrev round_run : ℕ → Scope → Run StatementFlow
  round_run k scope = turn >> (exec c.structs c.locals (levels.functions k) (levels.statements k) scope body >>= after_body (again_run k scope))

  -- what it does from its condition on
  abbrev loop_run : ℕ → Scope → Run StatementFlow
  loop_run k scope = executes.loop_condition c.structs c.locals (levels.functions k) scope test >>= choose (round_run k scope) (pure Goes)

  -- what follows, from a later state
  onward_on : {scope : Scope} {f g : Names} {s t : CallState} {m m1 : Memory} {K : StatementFlow → CallState → CodeObservation} {heads : List ℕ} {rest : List CodeItem} {brk con : ℕ} → Aft c f s m g t m1 → Onward c scope f s m K heads rest brk con → Onward c scope g t m1 K heads rest brk con
  onward_on x way = record {
    goes = λ p h u r n at a fit. way.goes p h u r n at (after_on x a) fit;
    breaks = λ h u r n a fit. way.breaks h u r n (after_on x a) fit;
    continues = λ h u r n a fit. way.continues h u r n (after_on x a) fit;
    returns = λ v ws h u r n a fit ret. way.returns v ws h u r n (after_on x a) fit ret;
  }

  module _ (rest : List CodeItem) (heads : List ℕ) (head : ℕ) where
    abbrev test_items : List CodeItem
    test_items = test_code L c.structs c.locals test rest

    abbrev step_items : List CodeItem
    step_items = after_code L c.structs c.locals step test_items

    abbrev body_items : List CodeItem
    body_items = stmt_code L c.structs c.locals (items.block_total rest) (items.block_total step_items) body (Start ∷ step_items)

    -- where the step, and what comes behind, begin
    record Places : Type 0 where
      step_block : ℕ
      step_at : Stands c (head ∷ heads) (start_of_block step_block) step_items
      rest_block : ℕ
      rest_at : Stands c heads (start_of_block rest_block) rest
      mark : stands_at c.code.blocks (start_of_block head) ≡ Some (Some n.Mark)
      body_at : Stands c (head ∷ heads) (next_place (start_of_block head)) body_items

    -- what a loop does at a level, from its condition on
    abbrev Rounds : ℕ → Type 0
    Rounds k =
        (p : CodePlace) (f : Names) (scope : Scope) (r : Registers) (s : CallState) (m : Memory) (K : StatementFlow → CallState → CodeObservation) (brk con : ℕ) → IsApart scope body → Stands c (head ∷ heads) p test_items → Fit c f scope r s m → s.world.meter.turns ≤ k
        → Onward c scope f s m K heads rest brk con → EndsSo c (finish (loop_run k scope s) K) p r s.world m

    -- the step and the next round, one level down
    again_meets : (k : ℕ) → ((i : ℕ) → suc i ≡ k → Rounds i) → (p : CodePlace) (f : Names) (scope : Scope) (r : Registers) (s : CallState) (m : Memory) (K : StatementFlow → CallState → CodeObservation) (brk con : ℕ) → IsApart scope body → Stands c (head ∷ heads) p step_items → Fit c f scope r s m → s.world.meter.turns < k
        → Onward c scope f s m K heads rest brk con → EndsSo c (finish (again_run k scope s) K) p r s.world m
    unfolding opens
    again_meets k below p f scope r s m K brk con apart at fit low way =
        step_leads (at_level c levels k) found step (hs k) (levels.statements k scope loop) test_items (head ∷ heads) f scope r s m K
        (λ q1 g t r1 m1 at1 aft fit1. next_round k refl q1 g t r1 m1 at1 aft fit1) p at fit (omega (arith, low))
      where
        next_round : (j : ℕ) → j ≡ k → (q1 : CodePlace) (g : Names) (t : CallState) (r1 : Registers) (m1 : Memory) → Stands c (head ∷ heads) q1 test_items → Aft c f s m g t m1 → Fit c g scope r1 t m1 → EndsSo c (finish (levels.statements j scope loop t) K) q1 r1 t.world m1
        next_round zero e q1 g t r1 m1 at1 aft fit1 = absurd (omega (arith, e, low))
        next_round (suc i) e q1 g t r1 m1 at1 aft fit1 =
            meets_same c.rooms c.functions (ap (λ z. finish (z t) K) (are i scope loop))
            (below i e q1 g scope r1 t m1 K brk con apart at1 fit1 (omega (arith, e, low, aft.turned)) (onward_on aft way))

    -- a round, from its mark on
    round_meets : Places → (k : ℕ) → ((i : ℕ) → suc i ≡ k → Rounds i) → (f : Names) (scope : Scope) (r : Registers) (s : CallState) (m : Memory) (K : StatementFlow → CallState → CodeObservation) (brk con : ℕ) → IsApart scope body → Fit c f scope r s m → s.world.meter.turns ≤ k
        → Onward c scope f s m K heads rest brk con → EndsSo c (finish (round_run k scope s) K) (start_of_block head) r s.world m
    unfolding opens
    round_meets here k below f scope r s m K brk con apart fit low way =
        let go_on : Run StatementFlow = exec c.structs c.locals (levels.functions k) (levels.statements k) scope body >>= after_body (again_run k scope) in
        bound_run c found (turn s) (λ _. go_on) K (start_of_block head) r s.world m
        (turn_meets c.rooms c.functions s (λ _ t1. finish (go_on t1) K) _
        (λ mt some.
        let t1 : CallState = in_world s (with_meter s.world mt) in
        let less = turn_less s.world.meter mt some in
        let aft1 : Aft c f s m f t1 m = record { names = λ o a e. e; lives = λ o. refl; sizes = λ o l. refl; locals = λ a size h. h; turned = omega (arith, less) } in
        turning_step c.rooms c.functions c.number c.code found c.own c.waiting n.Mark (start_of_block head) r s.world t1.world m m mt [] here.mark refl some refl refl
        (bound_run c found (exec c.structs c.locals (levels.functions k) (levels.statements k) scope body t1) (after_body (again_run k scope)) K (next_place (start_of_block head)) r t1.world m
        ((hb k).by (items.block_total rest) (items.block_total step_items) (Start ∷ step_items) (head ∷ heads) (next_place (start_of_block head)) f scope r t1 m (λ z u. finish (after_body (again_run k scope) z u) K) apart here.body_at fit (omega (arith, less, low))
        (record {
          goes = λ q2 h u r2 m2 at2 aft2 fit2.
              fall c.rooms c.functions c.number c.code found c.own c.waiting q2 r2 u.world m2 at2.has.0
              (again_meets k below (next_block q2) h scope r2 u m2 K brk con apart (at_start c.code.blocks c.last c.end at2) fit2 (omega (arith, aft2.turned, less, low)) (onward_on (after_on aft1 aft2) way));
          breaks = λ h u r2 m2 aft2 fit2.
              at_block c found r2 u.world m2 here.rest_block (c.last - items.block_total rest) (let size = here.rest_at.size in omega (arith, size)) (way.goes (start_of_block here.rest_block) h u r2 m2 here.rest_at (after_on aft1 aft2) fit2);
          continues = λ h u r2 m2 aft2 fit2.
              at_block c found r2 u.world m2 here.step_block (c.last - items.block_total step_items) (let size = here.step_at.size in omega (arith, size))
              (again_meets k below (start_of_block here.step_block) h scope r2 u m2 K brk con apart here.step_at fit2 (omega (arith, aft2.turned, less, low)) (onward_on (after_on aft1 aft2) way));
          returns = λ v1 ws h u r2 m2 aft2 fit2 ret. way.returns v1 ws h u r2 m2 (after_on aft1 aft2) fit2 ret;
        }))))
        (λ none. no_turn c.rooms c.functions c.number c.code found c.own c.waiting n.Mark (start_of_block head) r s.world m here.mark refl none refl))

    round_on : Places → (k : ℕ) → ((i : ℕ) → suc i ≡ k → Rounds i) → Rounds k
    unfolding opens
    round_on here k below p f scope r s m K brk con apart at fit low way =
        condition_leads (at_level c levels k) found (round_run k scope) rest heads head f scope r s m K
        (λ g t r1 m1 aft fit1. round_meets here k below g scope r1 t m1 K brk con apart fit1 (omega (arith, aft.turned, low)) (onward_on aft way))
        (λ q1 g t r1 m1 at1 aft fit1. way.goes q1 g t r1 m1 at1 aft fit1)
        test (ht k) p at fit low

    rounds : Places → (k : ℕ) → Rounds k
    rounds here zero = round_on here zero (λ i e. absurd (cc))
    rounds here (suc j) = round_on here (suc j) (λ i e. subst Rounds (same j i e) (rounds here j))
      where
        same : (j i : ℕ) → suc i ≡ suc j → j ≡ i
        same j i e = cc

  -- the loop behind its first part
  abbrev loop_items : List CodeItem → List CodeItem
  loop_items rest = Loop (items.block_total (test_items rest [] 0)) ∷ body_items rest [] 0

  pub enters : (k : ℕ) (rest : List CodeItem) (heads : List ℕ) (p : CodePlace) (f : Names) (scope : Scope) (r : Registers) (s : CallState) (m : Memory) (K : StatementFlow → CallState → CodeObservation) (brk con : ℕ) → IsApart scope body → Stands c heads p (loop_items rest) → Fit c f scope r s m → s.world.meter.turns ≤ k
      → Onward c scope f s m K heads rest brk con → EndsSo c (finish (loop_run k scope s) K) p r s.world m
  enters k rest heads p f scope r s m K brk con apart at fit low way =
      let head : ℕ = suc p.block in
      let tests = test_code L c.structs c.locals test rest in
      let steps = after_code L c.structs c.locals step tests in
      let body_at = at_loop c.code.blocks c.last c.end (items.block_total tests) at in
      let behind : Somewhere c.code.blocks c.last c.end (head ∷ heads) (Start ∷ steps) = left_stmt c.code.blocks c.last c.end L c.structs c.locals body (items.block_total rest) (items.block_total steps) (head ∷ heads) (Start ∷ steps) (record { place = next_place (next_block p); at = body_at }) in
      let step_at = at_start c.code.blocks c.last c.end behind.at in
      let step_block : ℕ = suc behind.place.block in
      let test_at = left_step c step (head ∷ heads) tests (step_block, step_at) in
      let rest_at = left_condition c test head heads rest test_at in
      let here : Places rest heads head = record {
        step_block = step_block;
        step_at = step_at;
        rest_block = rest_at.0;
        rest_at = rest_at.1;
        mark = at.has.1;
        body_at = body_at;
      } in
      jump c.rooms c.functions c.number c.code found c.own c.waiting (c.last - items.block_total tests) p r s.world m at.has.0
      (at_block c found r s.world m test_at.0 (c.last - items.block_total tests) (let size = test_at.1.size in omega (arith, size))
      (rounds rest heads head here k (start_of_block test_at.0) f scope r s m K brk con apart test_at.1 fit low way))

  loops : ForLoops c levels test step body
  unfolding opens
  loops = record {
    without_first = λ k. record { by = λ brk con rest heads p f scope r s m K apart at fit low way. enters k rest heads p f scope r s m K brk con (λ j lt. apart j (let h = inner_least j body in omega (arith, lt, h))) at fit low (record { goes = way.goes; breaks = way.breaks; continues = way.continues; returns = way.returns }) };
    with_value = λ x k hx. record {
      by = λ brk con rest heads p f scope r s m K apart at fit low way.
          bound_run c found (and_then (eval c.structs c.locals (levels.functions k) scope x s) (λ _. pure tt)) (λ _. loop_run k scope) K p r s.world m
          (bound_run c found (eval c.structs c.locals (levels.functions k) scope x s) (λ _. pure tt) (λ _ t. finish (loop_run k scope t) K) p r s.world m
          (hx.by 0 (loop_items rest) heads p f scope r s m (λ _ t. finish (loop_run k scope t) K) at fit low
          (λ q1 v g t r1 m1 at1 aft fit1 kept held stands.
          enters k rest heads q1 g scope r1 t m1 K brk con (λ j lt. apart j (let h = inner_least j body in omega (arith, lt, h))) at1 fit1 (omega (arith, aft.turned, low))
          (onward_on {s = s} {t = t} aft (record { goes = way.goes; breaks = way.breaks; continues = way.continues; returns = way.returns })))));
    };
  }

pub for_loops_meet : ForLoopsMeet
for_loops_meet c levels found are test step body ht hs hb = loops c levels found are test step body ht hs hb
